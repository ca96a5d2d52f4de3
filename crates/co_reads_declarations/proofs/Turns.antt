-- Readers that read one part after the other.
use Rattle.std.proofs.Common.{◌≡◌, ℕ, List, [], ◌∷◌, ◌++◌, append-nil, append_assoc, Some, sym, ap, ◌∙◌}
use Rattle.std.specs.List.{AllByRecursion}
use Rattle.co_lex.specs.declared.token.Token.{Token}
use Rattle.co_rules.specs.declared.symbol.Symbol.{Symbol}
use Rattle.co_tree.specs.Piece.{Piece}
use Rattle.co_reader.specs.Reading.{Reader}
use Rattle.co_reads.specs.Runs.{Runs}
use Rattle.co_reads.specs.Spells.{Spells}

-- the reader reads more parts after those found
pub record Turns {A : Type 0} (loop : List A → Reader (List A)) (pieces : List A → List Piece) (Is : A → Type 0) (C : List (List ℕ)) (R : List Symbol) (found : List A) (ts : List Token) : Type 0 where
  pub more : List A
  pub left : List Token
  pub read : loop found ts ≡ Some (found ++ more, left)
  pub spelled : Spells (pieces more) ts left
  pub are : AllByRecursion Is more
  pub runs : Runs C R left

pub no_turn : {A : Type 0} {loop : List A → Reader (List A)} {pieces : List A → List Piece} {Is : A → Type 0} {C : List (List ℕ)} {R : List Symbol} {found : List A} {ts : List Token} (left : List Token)
    → loop found ts ≡ Some (found, left) → Spells (pieces []) ts left → Runs C R left → Turns loop pieces Is C R found ts
no_turn {found = found} left e s r = record { more = []; left = left; read = e ∙ ap (λ all. Some (all, left)) (sym (append-nil found)); spelled = s; are = tt; runs = r }

pub one_turn : {A : Type 0} {loop then : List A → Reader (List A)} {pieces : List A → List Piece} {Is : A → Type 0} {C : List (List ℕ)} {R : List Symbol} {found : List A} {ts : List Token} (part : A) (mid : List Token)
    → loop found ts ≡ then (found ++ part ∷ []) mid → Is part → ((more : List A) (left : List Token) → Spells (pieces more) mid left → Spells (pieces (part ∷ more)) ts left) → Turns then pieces Is C R (found ++ part ∷ []) mid
    → Turns loop pieces Is C R found ts
one_turn {found = found} part mid e is s t =
    record { more = part ∷ t.more; left = t.left; read = e ∙ t.read ∙ ap (λ all. Some (all, t.left)) (append_assoc found (part ∷ []) t.more); spelled = s t.more t.left t.spelled; are = (is, t.are); runs = t.runs }
