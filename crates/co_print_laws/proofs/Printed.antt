-- The tokens of the canonical text derive the tree again, spans aside.
use Rattle.std.specs.Prelude.{◌≡◌, Bool, false, List, [], ◌∷◌, ◌++◌, map}
use Rattle.std.proofs.Common.{refl, ap, sym, ◌∙◌, subst}
use Rattle.co_lex.specs.declared.token.Token.{Token}
use Rattle.co_rules.specs.Names.{introduces, named, classes_from, classes}
use Rattle.co_tree.specs.declared.declarations.Tree.{Tree}
use Rattle.co_tree.specs.Piece.{Piece, token, line, node, opens, enter, leave}
use Rattle.co_tree.specs.Declarations.{sentence_of}
use Rattle.co_tree.specs.FormedTree.{Derives}
use Rattle.co_tree.proofs.Tokens.{reads_tokens}
use Rattle.co_print.specs.declared.printer.Printer.{Printer}
use Rattle.co_print.specs.Printed.{put_token, put_line, put_all, start, printed}
use Rattle.co_print.proofs.Respelled.{printed_spells}
use Rattle.co_print_laws.specs.Laws.{TreeOfTokens, PrintedDerives}
use Rattle.co_print_laws.proofs.Placed.{shown}
use Rattle.co_print_laws.proofs.Trees.{tree_moved}

put_shown : (s : Printer) (ps : List Piece) → put_all s (shown ps) ≡ put_all s ps
put_shown s [] = refl
put_shown s (token k ∷ ps) = put_shown (put_token s k) ps
put_shown s (line ∷ ps) = put_shown (put_line s) ps
put_shown s (node at ∷ ps) = put_shown s ps
put_shown s (opens ∷ ps) = put_shown s ps
put_shown s (enter ∷ ps) = put_shown s ps
put_shown s (leave ∷ ps) = put_shown s ps

same_text : (tree other : Tree) → shown (sentence_of other) ≡ shown (sentence_of tree) → printed other ≡ printed tree
same_text tree other e =
    let same : put_all start (sentence_of other) ≡ put_all start (sentence_of tree) =
    sym (put_shown start (sentence_of other)) ∙ ap (put_all start) e ∙ put_shown start (sentence_of tree)
    in ap (λ s. s.text) same

pub tree_of_tokens : TreeOfTokens
tree_of_tokens C tree tokens formed are =
    let r = tree_moved C tree tokens formed are in (r.0, r.1.strip, same_text tree r.0 r.1.same, r.1.derives)

-- the names of the classes hang on the kinds of the tokens alone
same_classes : (is_named : Bool) (ts us : List Token) → map (λ t. t.kind) ts ≡ map (λ t. t.kind) us → classes_from is_named ts ≡ classes_from is_named us
same_classes is_named [] [] e = refl
same_classes is_named [] (u ∷ us) e = absurd (cc)
same_classes is_named (t ∷ ts) [] e = absurd (cc)
same_classes is_named (t ∷ ts) (u ∷ us) e =
    let first : t.kind ≡ u.kind = cc in
    let rest : map (λ t. t.kind) ts ≡ map (λ t. t.kind) us = cc in
    ap (λ k. named is_named k ++ classes_from (introduces k) ts) first ∙ ap (λ z. named is_named u.kind ++ z) (same_classes (introduces u.kind) ts us rest)

pub printed_derives : PrintedDerives
printed_derives tree bytes tokens spells derives =
    let p = printed_spells tree bytes tokens spells derives.reads in
    let same : classes p.0 ≡ classes tokens = same_classes false p.0 tokens (p.2 ∙ sym (reads_tokens tree tokens derives.reads)) in
    let o = tree_of_tokens (classes tokens) tree p.0 derives.formed p.2 in
    (p.0, o.0, p.1, o.1, o.2, subst (λ C. Derives C o.0 p.0) (sym same) o.3)
