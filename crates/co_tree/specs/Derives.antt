-- Which tokens a tree derives, with the places of its nodes, and how deep it nests.
use Rattle.std.specs.Prelude.{◌≡◌, ℕ, suc, List, [], ◌∷◌, ◌++◌, sum, nat_le, Bool, true, false, if◌then◌else◌, Option, None, Some}
use Rattle.std.specs.Option.{option_map}
use Rattle.co_base.specs.declared.span.Span.{Span}
use Rattle.co_lex.specs.declared.token.Token.{Token}
use Rattle.co_lex.specs.declared.token.TokenKind.{TokenKind}
use Rattle.co_tree.specs.declared.declarations.Tree.{Tree}
use Rattle.co_tree.specs.Piece.{Piece, token, line, node, opens, enter, leave}
use Rattle.co_tree.specs.Declarations.{sentence_of}

-- the tokens of a sentence
abbrev pub kinds : List Piece → List TokenKind
kinds [] = []
kinds (token k ∷ ps) = k ∷ kinds ps
kinds (line ∷ ps) = kinds ps
kinds (node at ∷ ps) = kinds ps
kinds (opens ∷ ps) = kinds ps
kinds (enter ∷ ps) = kinds ps
kinds (leave ∷ ps) = kinds ps

-- the tokens of a tree, `End` among them
abbrev pub tokens_of : Tree → List TokenKind
tokens_of tree = kinds (sentence_of tree)

-- the first token stands at this place
abbrev pub StandsAt : List Token → Span → Type 0
StandsAt [] at = ⊥
StandsAt (t ∷ ts) at = t.span ≡ at

-- The sentence's tokens are these, and the span of each node is that of its first token.
abbrev pub Reads : List Piece → List Token → Type 0
Reads [] [] = Unit {0}
Reads [] (t ∷ ts) = ⊥
Reads (token k ∷ ps) [] = ⊥
Reads (token k ∷ ps) (t ∷ ts) = (t.kind ≡ k) × Reads ps ts
Reads (node at ∷ ps) ts = StandsAt ts at × Reads ps ts
Reads (line ∷ ps) ts = Reads ps ts
Reads (opens ∷ ps) ts = Reads ps ts
Reads (enter ∷ ps) ts = Reads ps ts
Reads (leave ∷ ps) ts = Reads ps ts

-- ---- nesting

-- one level more in the innermost rule
abbrev pub deeper : List ℕ → List ℕ
deeper [] = 1 ∷ []
deeper (n ∷ levels) = suc n ∷ levels

-- the rules that are open but for the innermost
abbrev pub outer : List ℕ → List ℕ
outer [] = []
outer (n ∷ levels) = levels

-- How many tokens stand before the one that opens one level more than the limit, where one does.
-- `levels` says for each rule that is open, the innermost first, how many levels were opened in it.
abbrev pub too_deep_from : ℕ → List ℕ → List Piece → Option ℕ
too_deep_from limit levels [] = None
too_deep_from limit levels (token k ∷ ps) = option_map suc (too_deep_from limit levels ps)
too_deep_from limit levels (opens ∷ ps) = if nat_le limit (sum levels) then Some 0 else too_deep_from limit (deeper levels) ps
too_deep_from limit levels (enter ∷ ps) = too_deep_from limit (0 ∷ levels) ps
too_deep_from limit levels (leave ∷ ps) = too_deep_from limit (outer levels) ps
too_deep_from limit levels (line ∷ ps) = too_deep_from limit levels ps
too_deep_from limit levels (node at ∷ ps) = too_deep_from limit levels ps

-- the number of the token that opens level 201, counted from 0
abbrev pub too_deep : Tree → Option ℕ
too_deep tree = too_deep_from 200 [] (sentence_of tree)
