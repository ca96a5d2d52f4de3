-- Where tokens place the nodes of a sentence.
use Rattle.std.specs.Prelude.{◌≡◌, ℕ, zero, suc, List, [], ◌∷◌, ◌++◌, Bool, true, false}
use Rattle.std.proofs.Common.{refl, ap, sym, ◌∙◌, subst}
use Rattle.std.proofs.lemmas.List.{append-nil}
use Rattle.co_base.specs.declared.span.Span.{Span}
use Rattle.co_lex.specs.declared.token.Token.{Token}
use Rattle.co_lex.specs.declared.token.TokenKind.{TokenKind}
use Rattle.co_tree.specs.Piece.{Piece, token, line, node, opens, enter, leave, rule, in_parentheses, in_braces, if_said}
use Rattle.co_tree.specs.Types.{stars}
use Rattle.co_tree.specs.Sentence.{part}
use Rattle.co_tree.specs.Strip.{first_place}

-- the place of the first token
abbrev pub place_of : List Token → Span
place_of [] = first_place
place_of (t ∷ ts) = t.span

-- all but the first token
abbrev pub after : List Token → List Token
after [] = []
after (t ∷ ts) = ts

-- a sentence without what the canonical text does not show
abbrev pub shown : List Piece → List Piece
shown [] = []
shown (token k ∷ ps) = token k ∷ shown ps
shown (line ∷ ps) = line ∷ shown ps
shown (node at ∷ ps) = shown ps
shown (opens ∷ ps) = shown ps
shown (enter ∷ ps) = shown ps
shown (leave ∷ ps) = shown ps

-- each node has the place of its first token, and `rest` are the tokens behind the sentence
abbrev pub Stand : List Token → List Piece → List Token → Type 0
Stand ts [] rest = ts ≡ rest
Stand ts (token k ∷ ps) rest = Stand (after ts) ps rest
Stand ts (line ∷ ps) rest = Stand ts ps rest
Stand ts (node at ∷ ps) rest = (at ≡ place_of ts) × Stand ts ps rest
Stand ts (opens ∷ ps) rest = Stand ts ps rest
Stand ts (enter ∷ ps) rest = Stand ts ps rest
Stand ts (leave ∷ ps) rest = Stand ts ps rest

-- The second sentence shows what the first does, and the tokens place its nodes.
pub record Placed (ts : List Token) (ps qs : List Piece) (rest : List Token) : Type 0 where
  pub same : shown qs ≡ shown ps
  pub stand : Stand ts qs rest

-- ---- sentences by their pieces

pub nothing : {ts : List Token} → Placed ts [] [] ts
nothing = record { same = refl; stand = refl }

pub by_token : {k : TokenKind} {ts rest : List Token} {ps qs : List Piece} → Placed (after ts) ps qs rest → Placed ts (token k ∷ ps) (token k ∷ qs) rest
by_token {k} p = record { same = ap (λ z. token k ∷ z) p.same; stand = p.stand }

pub by_line : {ts rest : List Token} {ps qs : List Piece} → Placed ts ps qs rest → Placed ts (line ∷ ps) (line ∷ qs) rest
by_line p = record { same = ap (λ z. line ∷ z) p.same; stand = p.stand }

pub by_node : {at : Span} {ts rest : List Token} {ps qs : List Piece} → Placed ts ps qs rest → Placed ts (node at ∷ ps) (node (place_of ts) ∷ qs) rest
by_node p = record { same = p.same; stand = (refl, p.stand) }

pub by_opens : {ts rest : List Token} {ps qs : List Piece} → Placed ts ps qs rest → Placed ts (opens ∷ ps) (opens ∷ qs) rest
by_opens p = record { same = p.same; stand = p.stand }

pub by_enter : {ts rest : List Token} {ps qs : List Piece} → Placed ts ps qs rest → Placed ts (enter ∷ ps) (enter ∷ qs) rest
by_enter p = record { same = p.same; stand = p.stand }

pub by_leave : {ts rest : List Token} {ps qs : List Piece} → Placed ts ps qs rest → Placed ts (leave ∷ ps) (leave ∷ qs) rest
by_leave p = record { same = p.same; stand = p.stand }

shown_append : (ps qs : List Piece) → shown (ps ++ qs) ≡ shown ps ++ shown qs
shown_append [] qs = refl
shown_append (token k ∷ ps) qs = ap (λ z. token k ∷ z) (shown_append ps qs)
shown_append (line ∷ ps) qs = ap (λ z. line ∷ z) (shown_append ps qs)
shown_append (node at ∷ ps) qs = shown_append ps qs
shown_append (opens ∷ ps) qs = shown_append ps qs
shown_append (enter ∷ ps) qs = shown_append ps qs
shown_append (leave ∷ ps) qs = shown_append ps qs

stand_append : (ts mid rest : List Token) (ps qs : List Piece) → Stand ts ps mid → Stand mid qs rest → Stand ts (ps ++ qs) rest
stand_append ts mid rest [] qs h g = subst (λ z. Stand z qs rest) (sym h) g
stand_append ts mid rest (token k ∷ ps) qs h g = stand_append (after ts) mid rest ps qs h g
stand_append ts mid rest (line ∷ ps) qs h g = stand_append ts mid rest ps qs h g
stand_append ts mid rest (node at ∷ ps) qs h g = (h.0, stand_append ts mid rest ps qs h.1 g)
stand_append ts mid rest (opens ∷ ps) qs h g = stand_append ts mid rest ps qs h g
stand_append ts mid rest (enter ∷ ps) qs h g = stand_append ts mid rest ps qs h g
stand_append ts mid rest (leave ∷ ps) qs h g = stand_append ts mid rest ps qs h g

pub both : {ts mid rest : List Token} {ps ps' qs qs' : List Piece} → Placed ts ps ps' mid → Placed mid qs qs' rest → Placed ts (ps ++ qs) (ps' ++ qs') rest
both {ts} {mid} {rest} {ps} {ps'} {qs} {qs'} p q = record {
  same = shown_append ps' qs' ∙ ap (λ z. z ++ shown qs') p.same ∙ ap (λ z. shown ps ++ z) q.same ∙ sym (shown_append ps qs);
  stand = stand_append ts mid rest ps' qs' p.stand q.stand;
}

pub by_rule : {ts rest : List Token} {ps qs : List Piece} → Placed ts ps qs rest → Placed ts (rule ps) (rule qs) rest
by_rule p = by_enter (both p (by_leave nothing))

shown_part : (a : Bool) (ps : List Piece) → shown (part a ps) ≡ shown ps
shown_part true ps = refl
shown_part false ps = shown_append ps (leave ∷ []) ∙ append-nil (shown ps)

stand_part : (b : Bool) (ts rest : List Token) (qs : List Piece) → Stand ts qs rest → Stand ts (part b qs) rest
stand_part true ts rest qs h = h
stand_part false ts rest qs h = stand_append ts rest rest qs (leave ∷ []) h refl

pub by_part : {ts rest : List Token} {ps qs : List Piece} (a b : Bool) → Placed ts ps qs rest → Placed ts (part a ps) (part b qs) rest
by_part {ts} {rest} {ps} {qs} a b p = record { same = shown_part b qs ∙ p.same ∙ sym (shown_part a ps); stand = stand_part b ts rest qs p.stand }

pub by_parentheses : {ts rest : List Token} {ps qs : List Piece} → Placed (after ts) ps qs rest → Placed ts (in_parentheses ps) (in_parentheses qs) (after rest)
by_parentheses p = by_enter (by_opens (by_token (both p (by_token (by_leave nothing)))))

pub by_braces : {ts rest : List Token} {ps qs : List Piece} → Placed (after ts) ps qs rest → Placed ts (in_braces ps) (in_braces qs) (after rest)
by_braces p = by_enter (by_opens (by_token (both p (by_token (by_leave nothing)))))

-- ---- sentences without nodes

abbrev pub NoNodes : List Piece → Type 0
NoNodes [] = Unit {0}
NoNodes (token k ∷ ps) = NoNodes ps
NoNodes (line ∷ ps) = NoNodes ps
NoNodes (node at ∷ ps) = ⊥
NoNodes (opens ∷ ps) = NoNodes ps
NoNodes (enter ∷ ps) = NoNodes ps
NoNodes (leave ∷ ps) = NoNodes ps

-- the tokens behind a sentence
abbrev pub behind : List Piece → List Token → List Token
behind [] ts = ts
behind (token k ∷ ps) ts = behind ps (after ts)
behind (line ∷ ps) ts = behind ps ts
behind (node at ∷ ps) ts = behind ps ts
behind (opens ∷ ps) ts = behind ps ts
behind (enter ∷ ps) ts = behind ps ts
behind (leave ∷ ps) ts = behind ps ts

stand_still : (ps : List Piece) (ts : List Token) → NoNodes ps → Stand ts ps (behind ps ts)
stand_still [] ts h = refl
stand_still (token k ∷ ps) ts h = stand_still ps (after ts) h
stand_still (line ∷ ps) ts h = stand_still ps ts h
stand_still (node at ∷ ps) ts h = absurd h
stand_still (opens ∷ ps) ts h = stand_still ps ts h
stand_still (enter ∷ ps) ts h = stand_still ps ts h
stand_still (leave ∷ ps) ts h = stand_still ps ts h

pub still : {ts : List Token} (ps : List Piece) → NoNodes ps → Placed ts ps ps (behind ps ts)
still {ts} ps h = record { same = refl; stand = stand_still ps ts h }

pub still_if : {ts : List Token} (b : Bool) (k : TokenKind) → Placed ts (if_said b (token k)) (if_said b (token k)) (behind (if_said b (token k)) ts)
still_if true k = still (token k ∷ []) tt
still_if false k = still [] tt

pub still_stars : {ts : List Token} (n : ℕ) → Placed ts (stars n) (stars n) (behind (stars n) ts)
still_stars n = still (stars n) (none n)
  where
    none : (n : ℕ) → NoNodes (stars n)
    none zero = tt
    none (suc n) = none n

-- ---- a part of the tree with other spans

-- One that is alike but for its spans and is said by the same tokens, which place its nodes.
pub record Moved {X : Type 0} (said : X → List Piece) (Alike : X → X → Type 0) (x : X) (ts : List Token) : Type 0 where
  pub it : X
  pub rest : List Token
  pub alike : Alike x it
  pub placed : Placed ts (said x) (said it) rest
