-- What is spelled in parentheses and braces.
use Rattle.std.proofs.Common.{List, [], ◌∷◌, ◌++◌, append_assoc, refl, subst}
use Rattle.co_lex.specs.declared.token.Token.{Token}
use Rattle.co_lex.specs.declared.token.Mark.{Mark}
use Rattle.co_tree.specs.Piece.{Piece, m, leave}
use Rattle.co_reads.specs.Spells.{Spells}
use Rattle.co_reads.proofs.Spells.{spells_append}

-- the end of a level behind a closing mark spells nothing
pub enclosed : (x : Mark) (ps : List Piece) (ts left : List Token) → Spells (ps ++ m x ∷ []) ts left → Spells (ps ++ m x ∷ leave ∷ []) ts left
enclosed x ps ts left s = subst (λ qs. Spells qs ts left) (append_assoc ps (m x ∷ []) (leave ∷ [])) (spells_append (ps ++ m x ∷ []) (leave ∷ []) ts left left s refl)

pub closed : (x : Mark) (ts left : List Token) → Spells (m x ∷ []) ts left → Spells (m x ∷ leave ∷ []) ts left
closed x ts left s = enclosed x [] ts left s
