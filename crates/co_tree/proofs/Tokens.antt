-- The tokens that a sentence reads are its own.
use Rattle.std.specs.Prelude.{◌≡◌, List, [], ◌∷◌, map}
use Rattle.std.proofs.Common.{refl, ap, ◌∙◌}
use Rattle.co_lex.specs.declared.token.Token.{Token}
use Rattle.co_tree.specs.Piece.{Piece, token, line, node, opens, enter, leave}
use Rattle.co_tree.specs.Declarations.{sentence_of}
use Rattle.co_tree.specs.Derives.{kinds, Reads}
use Rattle.co_tree.specs.Laws.{ReadsTokens}

reads_kinds : (ps : List Piece) (ts : List Token) → Reads ps ts → map (λ t. t.kind) ts ≡ kinds ps
reads_kinds [] [] h = refl
reads_kinds [] (t ∷ ts) h = absurd h
reads_kinds (token k ∷ ps) [] h = absurd h
reads_kinds (token k ∷ ps) (t ∷ ts) h = ap (λ x. x ∷ map (λ u. u.kind) ts) h.0 ∙ ap (λ ks. k ∷ ks) (reads_kinds ps ts h.1)
reads_kinds (node at ∷ ps) ts h = reads_kinds ps ts h.1
reads_kinds (line ∷ ps) ts h = reads_kinds ps ts h
reads_kinds (opens ∷ ps) ts h = reads_kinds ps ts h
reads_kinds (enter ∷ ps) ts h = reads_kinds ps ts h
reads_kinds (leave ∷ ps) ts h = reads_kinds ps ts h

pub reads_tokens : ReadsTokens
reads_tokens tree tokens h = reads_kinds (sentence_of tree) tokens h
