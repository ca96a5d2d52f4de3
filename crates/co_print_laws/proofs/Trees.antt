-- A tree of each list of its tokens.
use Rattle.std.specs.Prelude.{◌≡◌, ℕ, List, [], ◌∷◌, ◌++◌, map}
use Rattle.std.proofs.Common.{refl, ap, sym, ◌∙◌}
use Rattle.co_lex.specs.declared.token.Token.{Token}
use Rattle.co_lex.specs.declared.token.TokenKind.{TokenKind}
use Rattle.co_lex.specs.declared.token.TokenKind.TheVariants as kind
use Rattle.co_tree.specs.declared.declarations.Tree.{Tree}
use Rattle.co_tree.specs.Piece.{Piece, token, line, node, opens, enter, leave}
use Rattle.co_tree.specs.Declarations.{items, sentence_of}
use Rattle.co_tree.specs.Derives.{kinds, tokens_of, Reads}
use Rattle.co_tree.specs.FormedTree.{Formed, Derives}
use Rattle.co_tree.specs.Strip.{strip}
use Rattle.co_print_laws.proofs.Placed.{after, shown, Stand, Placed, nothing, by_token, by_line, both}
use Rattle.co_print_laws.proofs.Declarations.{declarations_moved}

kinds_shown : (ps : List Piece) → kinds (shown ps) ≡ kinds ps
kinds_shown [] = refl
kinds_shown (token k ∷ ps) = ap (λ ks. k ∷ ks) (kinds_shown ps)
kinds_shown (line ∷ ps) = kinds_shown ps
kinds_shown (node at ∷ ps) = kinds_shown ps
kinds_shown (opens ∷ ps) = kinds_shown ps
kinds_shown (enter ∷ ps) = kinds_shown ps
kinds_shown (leave ∷ ps) = kinds_shown ps

-- ---- a sentence that ends with a token

abbrev ended : List Piece → TokenKind → List Piece
ended ps k = ps ++ line ∷ token k ∷ []

has_token : (ps : List Piece) (k : TokenKind) → [] ≡ kinds (ended ps k) → ⊥
has_token [] k e = absurd (cc)
has_token (token j ∷ ps) k e = absurd (cc)
has_token (line ∷ ps) k e = has_token ps k e
has_token (node at ∷ ps) k e = has_token ps k e
has_token (opens ∷ ps) k e = has_token ps k e
has_token (enter ∷ ps) k e = has_token ps k e
has_token (leave ∷ ps) k e = has_token ps k e

reads : (ps : List Piece) (k : TokenKind) (ts rest : List Token) → Stand ts (ended ps k) rest → map (λ t. t.kind) ts ≡ kinds (ended ps k) → Reads (ended ps k) ts
reads [] k [] rest h e = absurd (cc)
reads [] k (t ∷ []) rest h e = (cc, tt)
reads [] k (t ∷ u ∷ ts) rest h e = absurd (cc)
reads (token j ∷ ps) k [] rest h e = absurd (cc)
reads (token j ∷ ps) k (t ∷ ts) rest h e = (cc, reads ps k ts rest h (cc))
reads (line ∷ ps) k ts rest h e = reads ps k ts rest h e
reads (node at ∷ ps) k [] rest h e = absurd (has_token ps k e)
reads (node at ∷ ps) k (t ∷ ts) rest h e = (sym h.0, reads ps k (t ∷ ts) rest h.1 e)
reads (opens ∷ ps) k ts rest h e = reads ps k ts rest h e
reads (enter ∷ ps) k ts rest h e = reads ps k ts rest h e
reads (leave ∷ ps) k ts rest h e = reads ps k ts rest h e

-- ---- trees

-- The same tree but for its spans, and its sentence shows the same.
pub record MovedTree (C : List (List ℕ)) (tree other : Tree) (tokens : List Token) : Type 0 where
  pub strip : strip other ≡ strip tree
  pub same : shown (sentence_of other) ≡ shown (sentence_of tree)
  pub derives : Derives C other tokens

pub tree_moved : (C : List (List ℕ)) (tree : Tree) (tokens : List Token) → Formed C tree → map (λ t. t.kind) tokens ≡ tokens_of tree → (other : Tree) × MovedTree C tree other tokens
tree_moved C tree tokens formed are =
    let x = declarations_moved C tree.declarations tokens in
    let other : Tree = record { declarations = x.it } in
    let p : Placed tokens (sentence_of tree) (sentence_of other) (after x.rest) = both x.placed (by_line (by_token nothing)) in
    let same : kinds (sentence_of other) ≡ kinds (sentence_of tree) = sym (kinds_shown (sentence_of other)) ∙ ap kinds p.same ∙ kinds_shown (sentence_of tree) in (
      other,
      record {
        strip = ap (λ z. record { declarations = z }) x.alike.strip;
        same = p.same;
        derives = record { formed = x.alike.formed formed; reads = reads (items x.it) kind.End tokens (after x.rest) p.stand (are ∙ sym same) };
      },
    )
