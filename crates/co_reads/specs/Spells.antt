-- What a part of the tree spells at the front of a list of tokens.
use Rattle.std.specs.Prelude.{◌≡◌, ℕ, List, [], ◌∷◌, Some, Bool, true, false, Contains}
use Rattle.co_lex.specs.declared.token.Token.{Token}
use Rattle.co_tree.specs.Piece.{Piece, token, line, node, opens, enter, leave}
use Rattle.co_tree.specs.Derives.{StandsAt}
use Rattle.co_reader.specs.Reading.{Reader}

-- The pieces' tokens are the first of the tokens, each node stands at the place of its first one, and these are left.
abbrev pub Spells : List Piece → List Token → List Token → Type 0
Spells [] ts rest = ts ≡ rest
Spells (token k ∷ ps) [] rest = ⊥
Spells (token k ∷ ps) (t ∷ ts) rest = (t.kind ≡ k) × Spells ps ts rest
Spells (node at ∷ ps) ts rest = StandsAt ts at × Spells ps ts rest
Spells (line ∷ ps) ts rest = Spells ps ts rest
Spells (opens ∷ ps) ts rest = Spells ps ts rest
Spells (enter ∷ ps) ts rest = Spells ps ts rest
Spells (leave ∷ ps) ts rest = Spells ps ts rest

-- what the reader reads is spelled by the tokens that it takes
abbrev pub ReadsSpelled : {A : Type 0} → Reader A → (A → List Piece) → Type 0
ReadsSpelled {A} reader pieces = (ts rest : List Token) (a : A) → reader ts ≡ Some (a, rest) → Spells (pieces a) ts rest

-- the test says of each name whether it is one of these
pub record Tells (is_class : List ℕ → Bool) (C : List (List ℕ)) : Type 0 where
  pub told : (n : List ℕ) → is_class n ≡ true → Contains C n
  pub not_told : (n : List ℕ) → is_class n ≡ false → Contains C n → ⊥
