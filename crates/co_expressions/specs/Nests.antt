-- A function value that reads expressions, nested to a depth.
use Rattle.std.specs.Prelude.{ℕ, List, Result}
use Rattle.std.specs.declared.alloc.Global.{Global}
use Rattle.std.specs.Borrow.{Bor}
use denote.Ref.{MutBor}
use Rattle.co_lex.specs.declared.token.Token.{Token}
use Rattle.co_tree.specs.declared.expressions.Expression.{Expression}
use Rattle.co_rules.specs.declared.names.ClassNames.{ClassNames}
use Rattle.co_rules.specs.Names.{holds}
use Rattle.co_reader.specs.declared.fault.ReadFault.{ReadFault}
use Rattle.co_reader.specs.Reading.{Reads}
use Rattle.co_expressions.specs.Expressions.{expression}

pub record Nests (depth : ℕ) (pre : Global → Bor ClassNames → MutBor (List Token) → ℕ → ℕ → Type 0)
    (post : Global → Bor ClassNames → MutBor (List Token) → ℕ → ℕ → Result Expression ReadFault → MutBor (List Token) → Type 0) : Type 0 where
  pub callable : (alloc : Global) (classes : Bor ClassNames) (old : MutBor (List Token)) (least : ℕ) → pre alloc classes old depth least
  pub reads : (alloc : Global) (classes : Bor ClassNames) (old new : MutBor (List Token)) (least : ℕ) (r : Result Expression ReadFault) → post alloc classes old depth least r new
      → Reads (expression (holds classes.now) depth least old.now) r new.now
