-- A function value that reads statements, nested to a depth.
use Rattle.std.specs.Prelude.{ℕ, List, Result}
use Rattle.std.specs.declared.alloc.Global.{Global}
use Rattle.std.specs.Borrow.{Bor}
use denote.Ref.{MutBor}
use Rattle.co_lex.specs.declared.token.Token.{Token}
use Rattle.co_tree.specs.declared.statements.Statement.{Statement}
use Rattle.co_rules.specs.declared.names.ClassNames.{ClassNames}
use Rattle.co_rules.specs.Names.{holds}
use Rattle.co_reader.specs.declared.fault.ReadFault.{ReadFault}
use Rattle.co_reader.specs.Reading.{Reads}
use Rattle.co_statements.specs.Statements.{statement}

pub record NestsStatements (depth : ℕ) (pre : Global → Bor ClassNames → MutBor (List Token) → ℕ → Type 0)
    (post : Global → Bor ClassNames → MutBor (List Token) → ℕ → Result Statement ReadFault → MutBor (List Token) → Type 0) : Type 0 where
  pub callable : (alloc : Global) (classes : Bor ClassNames) (old : MutBor (List Token)) → pre alloc classes old depth
  pub reads : (alloc : Global) (classes : Bor ClassNames) (old new : MutBor (List Token)) (r : Result Statement ReadFault) → post alloc classes old depth r new
      → Reads (statement (holds classes.now) depth old.now) r new.now
