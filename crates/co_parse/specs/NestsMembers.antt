-- A function value that reads members of a class, nested to a depth.
use Rattle.std.specs.Prelude.{ℕ, List, Result}
use Rattle.std.specs.declared.alloc.Global.{Global}
use Rattle.std.specs.Borrow.{Bor}
use denote.Ref.{MutBor}
use Rattle.co_lex.specs.declared.token.Token.{Token}
use Rattle.co_tree.specs.declared.declarations.MemberDeclaration.{MemberDeclaration}
use Rattle.co_rules.specs.declared.names.ClassNames.{ClassNames}
use Rattle.co_rules.specs.Names.{holds}
use Rattle.co_reader.specs.declared.fault.ReadFault.{ReadFault}
use Rattle.co_reader.specs.Reading.{Reads}
use Rattle.co_parse.specs.Declarations.{member}

pub record NestsMembers (depth : ℕ) (pre : Global → Bor ClassNames → MutBor (List Token) → ℕ → Type 0)
    (post : Global → Bor ClassNames → MutBor (List Token) → ℕ → Result MemberDeclaration ReadFault → MutBor (List Token) → Type 0) : Type 0 where
  pub callable : (alloc : Global) (classes : Bor ClassNames) (old : MutBor (List Token)) → pre alloc classes old depth
  pub reads : (alloc : Global) (classes : Bor ClassNames) (old new : MutBor (List Token)) (r : Result MemberDeclaration ReadFault) → post alloc classes old depth r new
      → Reads (member (holds classes.now) depth old.now) r new.now
