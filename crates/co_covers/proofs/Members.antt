-- The rules derive the members of a class.
use Rattle.std.proofs.Common.{◌≡◌, ◌≢◌, ℕ, zero, suc, Bool, true, false, List, [], ◌∷◌, ◌++◌, append_assoc, Contains, inl, inr, refl, sym, subst}
use mathlib.Core.Former.{Count}
use Rattle.std.specs.List.{AllByRecursion}
use Rattle.co_lex.specs.declared.token.TokenKind.TheVariants as kind
use Rattle.co_lex.specs.declared.token.Mark.TheVariants as mark
use Rattle.co_lex.specs.declared.token.Word.TheVariants as word
use Rattle.co_rules.specs.Names.{is_class}
use Rattle.co_rules.specs.Terminal.{terminal_of}
use Rattle.co_rules.specs.declared.symbol.Nonterminal.TheVariants as n
use Rattle.co_rules.specs.declared.symbol.Pattern.TheVariants as pattern
use Rattle.co_rules.specs.declared.symbol.Symbol.{Symbol}
use Rattle.co_rules.specs.declared.symbol.Symbol.TheVariants.{One, Maybe, Close}
use Rattle.co_rules.specs.declared.symbol.Terminal.{Terminal}
use Rattle.co_rules.specs.Derives.{Derives, one}
use Rattle.co_rules.specs.Pattern.{admits}
use Rattle.co_tree.specs.declared.declarations.AccessSpecifier.{AccessSpecifier}
use Rattle.co_tree.specs.declared.declarations.AccessSpecifier.TheVariants as access
use Rattle.co_tree.specs.declared.declarations.MemberDeclaration.{MemberDeclaration, Row_of-MemberDeclaration, end_of-MemberDeclaration, more_of-MemberDeclaration}
use Rattle.co_tree.specs.declared.declarations.MemberDeclaration.TheVariants as member_of
use Rattle.co_tree.specs.declared.types.Reference.{Reference}
use Rattle.co_tree.specs.declared.types.Reference.TheVariants as reference
use Rattle.co_tree.specs.declared.types.TypeId.{TypeId}
use Rattle.co_tree.specs.Formed.{IsName, last_of, PlainType}
use Rattle.co_tree.specs.FormedTree.{FormedMember, FormedMembers}
use Rattle.co_tree.specs.Piece.{Piece, w, if_said}
use Rattle.co_tree.specs.Types.{path_names, simple_type, stars, reference_mark, type_id}
use Rattle.co_tree.specs.Declarations.{access_word, member, members, row_members}
use Rattle.co_covers.proofs.Names as names_of
use Rattle.co_covers.proofs.Seen.{seen, both, ruled, by_token, go, enough, shut}
use Rattle.co_covers.proofs.Heads.{carried}
use Rattle.co_covers.proofs.NoElse.{many}
use Rattle.co_covers.proofs.Types.{OfBuiltin, path_at, class_path, kind_at, base_at, base as base_of, rest_at, pointers_at}
use Rattle.co_covers.proofs.Classes.{OfClass, AreMembers, class_at, forward_at, alias_at}
use Rattle.co_covers.proofs.Constructors.{constructor_at, destructor_at}
use Rattle.co_covers.proofs.Fields.{field_name, field_at}
use Rattle.co_covers.proofs.Functions.{OfFunction, method_at}
use Rattle.co_covers.proofs.RulesOfDeclarations.{member-access_specifier, member-class_key, member-using, member-function_specifier, member-auto, member-const, member-built_in_type, member-std, member-class_name, member-other_name, of_member_of_class, those_member_of_class, member_of_class-scope, member_of_class-const, member_of_class-star, member_of_class-reference, member_of_other-scope, of_field_name, those_field_name}

-- ---- members that begin with a type

-- a field's name may stand right after the name of a class
field_name_of_class : {R : List Symbol} {ts : List Terminal} → Derives (One n.FieldName ∷ R) ts → Derives (One n.MemberOfClass ∷ R) ts
field_name_of_class {R} (one k rest body t ts b d) =
    go (carried n.MemberOfClass [] of_member_of_class those_member_of_class of_field_name those_field_name t body b (inr (inr (inr (inr (inr (inl refl))))), (inr (inr (inr (inr (inr (inr (inl refl)))))), tt))) (subst (λ x. Derives x ts) (sym (append_assoc body [] R)) d)

-- the rest of a type whose base is one name
rest_of_class : {R : List Symbol} (C : List (List ℕ)) (is_const : Bool) (count : ℕ) (r : Reference) (ts : List Terminal) → Derives (One n.FieldName ∷ R) ts → Derives (One n.MemberOfClass ∷ R) (seen C (if_said is_const (w word.Const) ++ (stars count ++ reference_mark r)) ts)
unfolding admits
rest_of_class {R} C true count r ts d = go (member_of_class-const (terminal_of C (kind.Word word.Const)) refl) (pointers_at C (One n.FieldName ∷ R) count r ts d)
rest_of_class C false zero reference.None ts d = field_name_of_class d
rest_of_class C false zero reference.Lvalue ts d = go (member_of_class-reference (terminal_of C (kind.Mark mark.And)) refl) d
rest_of_class C false zero reference.Rvalue ts d = go (member_of_class-reference (terminal_of C (kind.Mark mark.AndAnd)) refl) d
rest_of_class {R} C false (suc count) r ts d = go (member_of_class-star (terminal_of C (kind.Mark mark.Star)) refl) (pointers_at C (Close ∷ One n.FieldName ∷ R) count r ts (shut d))

class_member : {R : List Symbol} (C : List (List ℕ)) (xs : List (List ℕ)) → xs ≢ [] → AllByRecursion IsName xs → Contains C (last_of xs []) → (is_const : Bool) (count : ℕ) (r : Reference) (ts : List Terminal) → Derives (One n.FieldName ∷ R) ts → Derives (One n.Member ∷ R) (seen C (path_names xs) (seen C (if_said is_const (w word.Const) ++ (stars count ++ reference_mark r)) ts))
unfolding admits
class_member C [] e h c is_const count r ts d = absurd (e refl)
class_member C (x ∷ []) e h c is_const count r ts d = go (member-class_name (terminal_of C (kind.Name x)) (names_of.class_name C x h.0 (names_of.is_in C x c))) (rest_of_class C is_const count r ts d)
class_member {R} C (x ∷ y ∷ ys) e h c is_const count r ts d = by_class (is_class C x) refl
  where
    us : List Terminal
    us = seen C (if_said is_const (w word.Const) ++ (stars count ++ reference_mark r)) ts

    path : Derives (One n.ClassPath ∷ Maybe n.TypeRest ∷ One n.FieldName ∷ R) (seen C (path_names (y ∷ ys)) us)
    path = path_at C n.ClassPath [] (Maybe n.TypeRest ∷ One n.FieldName ∷ R) class_path y ys us h.1.0 h.1.1 c (rest_at C (One n.FieldName ∷ R) is_const count r ts d)

    by_class : (b : Bool) → b ≡ is_class C x → Derives (One n.Member ∷ R) (seen C (path_names (x ∷ y ∷ ys)) us)
    by_class true i = go (member-class_name (terminal_of C (kind.Name x)) (names_of.class_name C x h.0 (sym i))) (go (member_of_class-scope (terminal_of C (kind.Mark mark.Scope)) refl) path)
    by_class false i = go (member-other_name (terminal_of C (kind.Name x)) (names_of.other_name C x h.0 (sym i))) (go (member_of_other-scope (terminal_of C (kind.Mark mark.Scope)) refl) path)

member_base : OfBuiltin n.Member (Maybe n.TypeRest ∷ One n.FieldName ∷ [])
member_base = record { built_in = member-built_in_type; library = member-std }

member_type_at : (C : List (List ℕ)) (R : List Symbol) (t : TypeId) (ts : List Terminal) → PlainType C t → Derives (One n.FieldName ∷ R) ts → Derives (One n.Member ∷ R) (seen C (type_id t) ts)
unfolding admits
member_type_at C R t ts h d = ruled C (if_said t.is_const (w word.Const) ++ (simple_type t.base ++ after)) ts (by_const t.is_const)
  where
    after : List Piece
    after = if_said t.is_const_after (w word.Const) ++ (stars t.pointers ++ reference_mark t.reference)

    rest : Derives (Maybe n.TypeRest ∷ One n.FieldName ∷ R) (seen C after ts)
    rest = rest_at C (One n.FieldName ∷ R) t.is_const_after t.pointers t.reference ts d

    by_const : (b : Bool) → Derives (One n.Member ∷ R) (seen C (if_said b (w word.Const) ++ (simple_type t.base ++ after)) ts)
    by_const true = go (member-const (terminal_of C (kind.Word word.Const)) refl) (both C (simple_type t.base) after ts (base_at C n.Base [] (Maybe n.TypeRest ∷ One n.FieldName ∷ R) base_of t.base (seen C after ts) h rest))
    by_const false = both C (simple_type t.base) after ts (kind_at C n.Member (Maybe n.TypeRest ∷ One n.FieldName ∷ []) R member_base t.base.kind (seen C after ts) h rest (λ p g. class_member C p.names g.0.0 g.0.1 g.1 t.is_const_after t.pointers t.reference ts d))

-- ---- members

is_access : (C : List (List ℕ)) (a : AccessSpecifier) → admits pattern.AccessSpecifier (terminal_of C (kind.Word (access_word a))) ≡ true
unfolding admits
is_access C access.Public = refl
is_access C access.Private = refl
is_access C access.Protected = refl

of_class : OfClass n.Member
of_class = record { class = member-class_key; alias = member-using }

of_method : OfFunction n.Member n.MethodName n.FieldName
of_method = record { specifier = member-function_specifier; auto = member-auto; typed = member_type_at }

mutual
  unfolding admits

  member_at : {R : List Symbol} (C : List (List ℕ)) (d : MemberDeclaration) → FormedMember C d → (ts : List Terminal) → Derives R ts → Derives (One n.Member ∷ R) (seen C (member d) ts)
  member_at C (member_of.Access a at) h ts d = go (member-access_specifier (terminal_of C (kind.Word (access_word a))) (is_access C a)) (by_token refl d)
  member_at C (member_of.Class' k x s row at) h ts d = class_at C of_class k x h.0 (row_members row) (row_at C row h.1) ts d
  member_at C (member_of.Forward f) h ts d = forward_at C of_class f h ts d
  member_at C (member_of.Alias a) h ts d = alias_at C of_class a h ts d
  member_at {R} C (member_of.Field v) h ts d = field_at C field_name (λ t us g e. member_type_at C R t us g e) v h ts d
  member_at C (member_of.Method f) h ts d = method_at C of_method f h ts d
  member_at C (member_of.Constructor c) h ts d = constructor_at C c h ts d
  member_at C (member_of.Destructor x) h ts d = destructor_at C x h ts d

  row_at : {k : Count} (C : List (List ℕ)) (row : Row_of-MemberDeclaration k) → FormedMembers C row → AreMembers C (row_members row)
  row_at C end_of-MemberDeclaration h R ts d = enough d
  row_at C (more_of-MemberDeclaration x rest) h R ts d = many (both C (member x) (row_members rest) ts (member_at C x h.0 (seen C (row_members rest) ts) (row_at C rest h.1 R ts d)))

pub members_at : (C : List (List ℕ)) (xs : List MemberDeclaration) → AllByRecursion (FormedMember C) xs → AreMembers C (members xs)
members_at C [] h R ts d = enough d
members_at C (x ∷ xs) h R ts d = many (both C (member x) (members xs) ts (member_at C x h.0 (seen C (members xs) ts) (members_at C xs h.1 R ts d)))
