-- Pieces behind others, and how many tokens they take.
use Rattle.std.proofs.Common.{◌≡◌, ◌<◌, Bool, true, false, List, [], ◌∷◌, ◌++◌, append_assoc, length, refl, subst, arith}
use Rattle.co_lex.specs.declared.token.Token.{Token}
use Rattle.co_lex.specs.declared.token.TokenKind.{TokenKind}
use Rattle.co_rules.proofs.Sets.{never}
use Rattle.co_tree.specs.Piece.{Piece, token, line, node, opens, enter, leave}
use Rattle.co_reads.specs.Spells.{Spells}
use Rattle.co_reads.proofs.Spells.{spells_append}
use Rattle.co_reads.proofs.Steps.{within}

-- pieces after pieces
pub spells_split : (ps qs : List Piece) (ts left : List Token) → Spells (ps ++ qs) ts left → (mid : List Token) × Spells ps ts mid × Spells qs mid left
spells_split [] qs ts left h = (ts, refl, h)
spells_split (token k ∷ ps) qs [] left h = absurd h
spells_split (token k ∷ ps) qs (t ∷ ts) left h = let r = spells_split ps qs ts left h.1 in (r.0, (h.0, r.1), r.2)
spells_split (node at ∷ ps) qs ts left h = let r = spells_split ps qs ts left h.1 in (r.0, (h.0, r.1), r.2)
spells_split (line ∷ ps) qs ts left h = spells_split ps qs ts left h
spells_split (opens ∷ ps) qs ts left h = spells_split ps qs ts left h
spells_split (enter ∷ ps) qs ts left h = spells_split ps qs ts left h
spells_split (leave ∷ ps) qs ts left h = spells_split ps qs ts left h

-- pieces behind two others
pub spells_behind : (ps qs rs : List Piece) (ts mid left : List Token) → Spells (ps ++ qs) ts mid → Spells rs mid left → Spells (ps ++ (qs ++ rs)) ts left
spells_behind ps qs rs ts mid left s t = subst (λ xs. Spells xs ts left) (append_assoc ps qs rs) (spells_append (ps ++ qs) rs ts mid left s t)

-- whether a token is among the first of the pieces, with none but places before it
abbrev pub has_token : List Piece → Bool
has_token [] = false
has_token (token k ∷ ps) = true
has_token (line ∷ ps) = has_token ps
has_token (node at ∷ ps) = has_token ps
has_token (opens ∷ ps) = has_token ps
has_token (enter ∷ ps) = has_token ps
has_token (leave ∷ ps) = has_token ps

pub takes : (ps : List Piece) → has_token ps ≡ true → (ts left : List Token) → Spells ps ts left → length left < length ts
takes [] e ts left s = never e
takes (token k ∷ ps) e [] left s = absurd s
takes (token k ∷ ps) e (t ∷ ts) left s = let v = within ps ts left s.1 in omega (arith, v)
takes (line ∷ ps) e ts left s = takes ps e ts left s
takes (node at ∷ ps) e ts left s = takes ps e ts left s.1
takes (opens ∷ ps) e ts left s = takes ps e ts left s
takes (enter ∷ ps) e ts left s = takes ps e ts left s
takes (leave ∷ ps) e ts left s = takes ps e ts left s

-- there is a token after some pieces
pub later : (ps : List Piece) (k : TokenKind) (qs : List Piece) (ts left : List Token) → Spells (ps ++ token k ∷ qs) ts left → length left < length ts
later ps k qs ts left s =
    let a = spells_split ps (token k ∷ qs) ts left s in
    let u = within ps ts a.0 a.1 in
    let v = takes (token k ∷ qs) refl a.0 left a.2 in
    omega (arith, u, v)
