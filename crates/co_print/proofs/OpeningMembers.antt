-- The sentence of a class in a class, by the list of its members.
use Rattle.std.specs.Prelude.{◌≡◌, ℕ, List, [], ◌∷◌, ◌++◌}
use Rattle.std.proofs.Common.{refl, ap, ◌∙◌}
use mathlib.Core.Former.{Count}
use Rattle.co_base.specs.declared.span.Span.{Span}
use Rattle.co_lex.specs.declared.token.Mark.TheVariants as mark
use Rattle.co_tree.specs.declared.declarations.ClassKey.{ClassKey}
use Rattle.co_tree.specs.declared.declarations.MemberDeclaration.{MemberDeclaration, Row_of-MemberDeclaration, end_of-MemberDeclaration, more_of-MemberDeclaration, items-the_row-MemberDeclaration, items_hidden-the_row-MemberDeclaration-0}
use Rattle.co_tree.specs.declared.declarations.MemberDeclaration.TheVariants as member_of
use Rattle.co_tree.specs.Piece.{line, node, w, m, name, in_braces}
use Rattle.co_tree.specs.Declarations.{key_word, member, members, row_members}

rows_members : (n : Count) (row : Row_of-MemberDeclaration n) → row_members row ≡ members (items-the_row-MemberDeclaration n row)
rows_members n end_of-MemberDeclaration = refl
rows_members n (more_of-MemberDeclaration d rest) = ap (λ ps. member d ++ ps) (rows_members _ rest)

abbrev row_of : MemberDeclaration → (n : Count) × Row_of-MemberDeclaration n
row_of (member_of.Class' key n s row at) = (_, row)
row_of _ = (_, end_of-MemberDeclaration)

pub sentence_class : (key : ClassKey) (n : List ℕ) (ds : List MemberDeclaration) (at : Span) → member (member_of.Class key n ds at) ≡ line ∷ node at ∷ w (key_word key) ∷ name n ∷ (in_braces (members ds) ++ m mark.Semicolon ∷ [])
sentence_class key n ds at =
    let row = row_of (member_of.Class key n ds at) in
    ap (λ ps. line ∷ node at ∷ w (key_word key) ∷ name n ∷ (in_braces ps ++ m mark.Semicolon ∷ [])) (rows_members row.0 row.1 ∙ ap members (items_hidden-the_row-MemberDeclaration-0 ds))
