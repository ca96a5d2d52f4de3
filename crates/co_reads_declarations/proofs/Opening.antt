-- The pieces of a class of a class, by the list of its members.
use Rattle.std.proofs.Common.{◌≡◌, ℕ, List, [], ◌∷◌, ◌++◌, refl, ap, ◌∙◌}
use Rattle.std.specs.List.{AllByRecursion}
use mathlib.Core.Former.{Count}
use Rattle.co_base.specs.declared.span.Span.{Span}
use Rattle.co_lex.specs.declared.token.Mark.TheVariants as mark
use Rattle.co_tree.specs.declared.declarations.ClassKey.{ClassKey}
use Rattle.co_tree.specs.declared.declarations.MemberDeclaration.{MemberDeclaration, Row_of-MemberDeclaration, end_of-MemberDeclaration, more_of-MemberDeclaration, items-the_row-MemberDeclaration, items_hidden-the_row-MemberDeclaration-0}
use Rattle.co_tree.specs.declared.declarations.MemberDeclaration.TheVariants as member_of
use Rattle.co_tree.specs.Piece.{line, node, w, m, name, in_braces}
use Rattle.co_tree.specs.Declarations.{key_word, member, members, row_members}
use Rattle.co_tree.specs.Formed.{IsName}
use Rattle.co_tree.specs.FormedTree.{FormedMember, FormedMembers}

abbrev row_of : MemberDeclaration → (c : Count) × Row_of-MemberDeclaration c
row_of (member_of.Class' key n s row at) = (_, row)
row_of d = (_, end_of-MemberDeclaration)

rows_members : (c : Count) (row : Row_of-MemberDeclaration c) → row_members row ≡ members (items-the_row-MemberDeclaration c row)
rows_members c end_of-MemberDeclaration = refl
rows_members c (more_of-MemberDeclaration d rest) = ap (λ ps. member d ++ ps) (rows_members _ rest)

rows_formed : (C : List (List ℕ)) (c : Count) (row : Row_of-MemberDeclaration c) → FormedMembers C row ≡ AllByRecursion (FormedMember C) (items-the_row-MemberDeclaration c row)
rows_formed C c end_of-MemberDeclaration = refl
rows_formed C c (more_of-MemberDeclaration d rest) = ap (λ T. FormedMember C d × T) (rows_formed C _ rest)

pub class_pieces : (key : ClassKey) (text : List ℕ) (ds : List MemberDeclaration) (at : Span) → member (member_of.Class key text ds at) ≡ line ∷ node at ∷ w (key_word key) ∷ name text ∷ (in_braces (members ds) ++ m mark.Semicolon ∷ [])
class_pieces key text ds at =
    let row = row_of (member_of.Class key text ds at) in
    ap (λ ps. line ∷ node at ∷ w (key_word key) ∷ name text ∷ (in_braces ps ++ m mark.Semicolon ∷ [])) (rows_members row.0 row.1 ∙ ap members (items_hidden-the_row-MemberDeclaration-0 ds))

pub class_formed : (C : List (List ℕ)) (key : ClassKey) (text : List ℕ) (ds : List MemberDeclaration) (at : Span) → FormedMember C (member_of.Class key text ds at) ≡ (IsName text × AllByRecursion (FormedMember C) ds)
class_formed C key text ds at =
    let row = row_of (member_of.Class key text ds at) in
    ap (λ T. IsName text × T) (rows_formed C row.0 row.1 ∙ ap (AllByRecursion (FormedMember C)) (items_hidden-the_row-MemberDeclaration-0 ds))
