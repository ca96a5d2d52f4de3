-- What a reader reads where symbols read the tokens.
use Rattle.std.specs.Prelude.{◌≡◌, ℕ, List, Some}
use Rattle.co_lex.specs.declared.token.Token.{Token}
use Rattle.co_rules.specs.declared.symbol.Symbol.{Symbol}
use Rattle.co_reader.specs.Reading.{Reader}
use Rattle.co_reads.specs.Runs.{Runs}

-- The reader reads a part, of which this is so with the tokens that are left, and the symbols read those.
pub record Takes {A : Type 0} (reader : Reader A) (Is : A → List Token → Type 0) (C : List (List ℕ)) (R : List Symbol) (ts : List Token) : Type 0 where
  pub part : A
  pub left : List Token
  pub read : reader ts ≡ Some (part, left)
  pub is : Is part left
  pub runs : Runs C R left
