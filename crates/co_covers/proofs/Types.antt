-- The rules derive the paths and the types of a tree.
use Rattle.std.proofs.Common.{◌≡◌, ◌≢◌, ℕ, zero, suc, Bool, true, false, List, [], ◌∷◌, ◌++◌, Option, None, Some, Contains, codes, refl, sym}
use Rattle.std.specs.List.{AllByRecursion}
use Rattle.co_base.specs.declared.kinds.AtomicKind.{AtomicKind}
use Rattle.co_base.specs.declared.kinds.AtomicKind.TheVariants as atomic
use Rattle.co_lex.specs.declared.token.TokenKind.TheVariants as kind
use Rattle.co_lex.specs.declared.token.Mark.TheVariants as mark
use Rattle.co_lex.specs.declared.token.Word.TheVariants as word
use Rattle.co_rules.specs.Names.{known, is_class}
use Rattle.co_rules.specs.Terminal.{terminal_of}
use Rattle.co_rules.specs.declared.symbol.Known.TheVariants as known_name
use Rattle.co_rules.specs.declared.symbol.Nonterminal.{Nonterminal}
use Rattle.co_rules.specs.declared.symbol.Nonterminal.TheVariants as n
use Rattle.co_rules.specs.declared.symbol.Pattern.TheVariants as pattern
use Rattle.co_rules.specs.declared.symbol.Symbol.{Symbol}
use Rattle.co_rules.specs.declared.symbol.Symbol.TheVariants.{Token, One, Maybe, Close}
use Rattle.co_rules.specs.declared.symbol.Terminal.{Terminal}
use Rattle.co_rules.specs.Derives.{Begins, Derives}
use Rattle.co_rules.specs.Pattern.{admits}
use Rattle.co_tree.specs.declared.types.Path.{Path}
use Rattle.co_tree.specs.declared.types.SimpleType.{SimpleType}
use Rattle.co_tree.specs.declared.types.SimpleTypeKind.{SimpleTypeKind}
use Rattle.co_tree.specs.declared.types.SimpleTypeKind.TheVariants as simple
use Rattle.co_tree.specs.declared.types.Reference.{Reference}
use Rattle.co_tree.specs.declared.types.Reference.TheVariants as reference
use Rattle.co_tree.specs.declared.types.TypeId.{TypeId}
use Rattle.co_tree.specs.Formed.{IsName, last_of, ClassPath, ClassPathIf, PlainKind, PlainBase, PlainType}
use Rattle.co_tree.specs.Piece.{Piece, w, m, name, if_said, standard}
use Rattle.co_tree.specs.Types.{names_after, path_names, path_if, handle_name, atomic_argument, simple_kind, simple_type, stars, reference_mark, type_id}
use Rattle.co_covers.proofs.Names as names_of
use Rattle.co_covers.proofs.Seen.{seen, both, ruled, by_token, go, may, skip, shut, maybe}
use Rattle.co_covers.proofs.RulesOfTypes.{class_path-class_name, class_path-other_name, inner_class-scope, library_type-library_object, library_type-coroutine_handle, library_type-atomic, atomic_argument-int, atomic_argument-long, atomic_argument-bool, atomic_argument-void, atomic_pointer-star, type_rest-const, type_rest-star, type_rest-reference, pointers-star, pointers-reference, base-built_in_type, base-std, base-class_name, base-other_name, type_id-const, type_id-built_in_type, type_id-std, type_id-class_name, type_id-other_name}

-- ---- paths

-- A nonterminal that the path of a class begins, with what stands behind the path in its rules.
pub record OfPath (N : Nonterminal) (tail : List Symbol) : Type 0 where
  pub class : (t : Terminal) → admits pattern.ClassName t ≡ true → Begins N t (Maybe n.InnerClass ∷ tail)
  pub outer : (t : Terminal) → admits pattern.OtherName t ≡ true → Begins N t (Token (pattern.Punctuator mark.Scope) ∷ One n.ClassPath ∷ tail)

pub class_path : OfPath n.ClassPath []
class_path = record { class = class_path-class_name; outer = class_path-other_name }

pub path_at : (C : List (List ℕ)) (N : Nonterminal) (tail R : List Symbol) → OfPath N tail → (x : List ℕ) (xs : List (List ℕ)) (ts : List Terminal) → IsName x → AllByRecursion IsName xs → Contains C (last_of xs x) → Derives (tail ++ R) ts → Derives (One N ∷ R) (seen C (name x ∷ names_after xs) ts)
unfolding admits
path_at C N tail R o x [] ts h hs c d = go (o.class (terminal_of C (kind.Name x)) (names_of.class_name C x h (names_of.is_in C x c))) (skip d)
path_at C N tail R o x (y ∷ ys) ts h hs c d = by_class (is_class C x) refl (path_at C n.ClassPath [] (tail ++ R) class_path y ys ts hs.0 hs.1 c d)
  where
    by_class : (b : Bool) → b ≡ is_class C x → Derives (One n.ClassPath ∷ tail ++ R) (seen C (name y ∷ names_after ys) ts) → Derives (One N ∷ R) (seen C (name x ∷ names_after (y ∷ ys)) ts)
    by_class true e p = go (o.class (terminal_of C (kind.Name x)) (names_of.class_name C x h (sym e))) (may (inner_class-scope (terminal_of C (kind.Mark mark.Scope)) refl) p)
    by_class false e p = go (o.outer (terminal_of C (kind.Name x)) (names_of.other_name C x h (sym e))) (by_token refl p)

-- a path by its list of names
pub named_path : (C : List (List ℕ)) (N : Nonterminal) (tail R : List Symbol) → OfPath N tail → (xs : List (List ℕ)) (ts : List Terminal) → xs ≢ [] → AllByRecursion IsName xs → Contains C (last_of xs []) → Derives (tail ++ R) ts → Derives (One N ∷ R) (seen C (path_names xs) ts)
named_path C N tail R o [] ts e h c d = absurd (e refl)
named_path C N tail R o (x ∷ xs) ts e h c d = path_at C N tail R o x xs ts h.0 h.1 c d

path_maybe : (C : List (List ℕ)) (R : List Symbol) (p : Option Path) (ts : List Terminal) → ClassPathIf C p → Derives R ts → Derives (Maybe n.ClassPath ∷ R) (seen C (path_if p) ts)
path_maybe C R None ts h d = skip d
path_maybe C R (Some p) ts h d = maybe (named_path C n.ClassPath [] R class_path p.names ts h.0.0 h.0.1 h.1 d)

-- ---- types of the library

pub is_std : (C : List (List ℕ)) → admits (pattern.Spelled known_name.Std) (terminal_of C (kind.Name (codes "std"))) ≡ true
unfolding known admits
is_std C = refl

pub atomic_at : (C : List (List ℕ)) (R : List Symbol) (k : AtomicKind) (ts : List Terminal) → Derives R ts → Derives (One n.AtomicArgument ∷ R) (seen C (atomic_argument k ++ m mark.Greater ∷ []) ts)
unfolding admits
atomic_at C R atomic.Int ts d = go (atomic_argument-int (terminal_of C (kind.Word word.Int)) refl) (by_token refl d)
atomic_at C R atomic.Long ts d = go (atomic_argument-long (terminal_of C (kind.Word word.Long)) refl) (by_token refl d)
atomic_at C R atomic.Bool ts d = go (atomic_argument-bool (terminal_of C (kind.Word word.Bool)) refl) (by_token refl d)
atomic_at C R atomic.VoidPointer ts d = go (atomic_argument-void (terminal_of C (kind.Word word.Void)) refl) (go (atomic_pointer-star (terminal_of C (kind.Mark mark.Star)) refl) (by_token refl (shut d)))

object_at : (C : List (List ℕ)) (R : List Symbol) (x : List ℕ) (ts : List Terminal) → admits pattern.LibraryObject (terminal_of C (kind.Name x)) ≡ true → Derives R ts → Derives (One n.LibraryType ∷ R) (seen C (name x ∷ []) ts)
object_at C R x ts h d = go (library_type-library_object (terminal_of C (kind.Name x)) h) d

-- what stands behind `std ::`
pub handle_at : (C : List (List ℕ)) (R : List Symbol) (p : Option Path) (ts : List Terminal) → ClassPathIf C p → Derives R ts → Derives (Token (pattern.Punctuator mark.Less) ∷ Maybe n.ClassPath ∷ Token (pattern.Punctuator mark.Greater) ∷ R) (seen C (m mark.Less ∷ (path_if p ++ m mark.Greater ∷ [])) ts)
unfolding admits
handle_at C R p ts h d = by_token refl (both C (path_if p) (m mark.Greater ∷ []) ts (path_maybe C (Token (pattern.Punctuator mark.Greater) ∷ R) p (seen C (m mark.Greater ∷ []) ts) h (by_token refl d)))

-- ---- what a type is built on

-- A nonterminal that a type begins whose base is no class, with what stands behind the base in its rules.
pub record OfBuiltin (N : Nonterminal) (tail : List Symbol) : Type 0 where
  pub built_in : (t : Terminal) → admits pattern.BuiltinType t ≡ true → Begins N t tail
  pub library : (t : Terminal) → admits (pattern.Spelled known_name.Std) t ≡ true → Begins N t (Token (pattern.Punctuator mark.Scope) ∷ One n.LibraryType ∷ tail)

-- A nonterminal that a type begins, with what stands behind the type's base in its rules.
pub record OfBase (N : Nonterminal) (tail : List Symbol) : Type 0 where
  pub built_in : (t : Terminal) → admits pattern.BuiltinType t ≡ true → Begins N t tail
  pub library : (t : Terminal) → admits (pattern.Spelled known_name.Std) t ≡ true → Begins N t (Token (pattern.Punctuator mark.Scope) ∷ One n.LibraryType ∷ tail)
  pub path : OfPath N tail

library_at : {N : Nonterminal} {tail R : List Symbol} {ts : List Terminal} → (C : List (List ℕ)) → OfBuiltin N tail → Derives (One n.LibraryType ∷ tail ++ R) ts → Derives (One N ∷ R) (terminal_of C (kind.Name (codes "std")) ∷ terminal_of C (kind.Mark mark.Scope) ∷ ts)
unfolding admits
library_at {N} {tail} {R} {ts} C o d = go (o.library (terminal_of C (kind.Name (codes "std"))) (is_std C)) (by_token refl d)

-- what is left is how a class is named
pub kind_at : (C : List (List ℕ)) (N : Nonterminal) (tail R : List Symbol) → OfBuiltin N tail → (k : SimpleTypeKind) (ts : List Terminal) → PlainKind C k → Derives (tail ++ R) ts → ((p : Path) → ClassPath C p → Derives (One N ∷ R) (seen C (path_names p.names) ts)) → Derives (One N ∷ R) (seen C (simple_kind k) ts)
unfolding known admits handle_name
kind_at C N tail R o simple.Void ts h d c = go (o.built_in (terminal_of C (kind.Word word.Void)) refl) d
kind_at C N tail R o simple.Bool ts h d c = go (o.built_in (terminal_of C (kind.Word word.Bool)) refl) d
kind_at C N tail R o simple.Int ts h d c = go (o.built_in (terminal_of C (kind.Word word.Int)) refl) d
kind_at C N tail R o simple.Long ts h d c = go (o.built_in (terminal_of C (kind.Word word.Long)) refl) d
kind_at C N tail R o simple.Auto ts h d c = absurd h
kind_at C N tail R o simple.Size ts h d c = library_at C o (object_at C (tail ++ R) (codes "size_t") ts refl d)
kind_at C N tail R o simple.ExceptionPtr ts h d c = library_at C o (object_at C (tail ++ R) (codes "exception_ptr") ts refl d)
kind_at C N tail R o simple.SuspendAlways ts h d c = library_at C o (object_at C (tail ++ R) (codes "suspend_always") ts refl d)
kind_at C N tail R o simple.SuspendNever ts h d c = library_at C o (object_at C (tail ++ R) (codes "suspend_never") ts refl d)
kind_at C N tail R o (simple.Handle p) ts h d c = library_at C o (go (library_type-coroutine_handle (terminal_of C (kind.Name handle_name)) refl) (handle_at C (tail ++ R) p ts h d))
kind_at C N tail R o (simple.Atomic k) ts h d c =
    ruled C (standard (codes "atomic") ++ m mark.Less ∷ (atomic_argument k ++ m mark.Greater ∷ [])) ts (library_at C o (go (library_type-atomic (terminal_of C (kind.Name (codes "atomic"))) refl) (by_token refl (atomic_at C (tail ++ R) k ts d))))
kind_at C N tail R o (simple.Class p) ts h d c = c p h

pub base_at : (C : List (List ℕ)) (N : Nonterminal) (tail R : List Symbol) → OfBase N tail → (base : SimpleType) (ts : List Terminal) → PlainBase C base → Derives (tail ++ R) ts → Derives (One N ∷ R) (seen C (simple_type base) ts)
base_at C N tail R o base ts h d = kind_at C N tail R (record { built_in = o.built_in; library = o.library }) base.kind ts h d (λ p g. named_path C N tail R o.path p.names ts g.0.0 g.0.1 g.1 d)

pub base : OfBase n.Base []
base = record { built_in = base-built_in_type; library = base-std; path = record { class = base-class_name; outer = base-other_name } }

-- ---- types

pub pointers_at : (C : List (List ℕ)) (R : List Symbol) (count : ℕ) (r : Reference) (ts : List Terminal) → Derives R ts → Derives (Maybe n.Pointers ∷ R) (seen C (stars count ++ reference_mark r) ts)
unfolding admits
pointers_at C R zero reference.None ts d = skip d
pointers_at C R zero reference.Lvalue ts d = may (pointers-reference (terminal_of C (kind.Mark mark.And)) refl) d
pointers_at C R zero reference.Rvalue ts d = may (pointers-reference (terminal_of C (kind.Mark mark.AndAnd)) refl) d
pointers_at C R (suc count) r ts d = may (pointers-star (terminal_of C (kind.Mark mark.Star)) refl) (pointers_at C (Close ∷ R) count r ts (shut d))

pub rest_at : (C : List (List ℕ)) (R : List Symbol) (is_const : Bool) (count : ℕ) (r : Reference) (ts : List Terminal) → Derives R ts → Derives (Maybe n.TypeRest ∷ R) (seen C (if_said is_const (w word.Const) ++ (stars count ++ reference_mark r)) ts)
unfolding admits
rest_at C R true count r ts d = may (type_rest-const (terminal_of C (kind.Word word.Const)) refl) (pointers_at C R count r ts d)
rest_at C R false zero reference.None ts d = skip d
rest_at C R false zero reference.Lvalue ts d = may (type_rest-reference (terminal_of C (kind.Mark mark.And)) refl) d
rest_at C R false zero reference.Rvalue ts d = may (type_rest-reference (terminal_of C (kind.Mark mark.AndAnd)) refl) d
rest_at C R false (suc count) r ts d = may (type_rest-star (terminal_of C (kind.Mark mark.Star)) refl) (pointers_at C (Close ∷ R) count r ts (shut d))

-- A nonterminal that a type begins, with what stands behind the type in its rules.
pub record OfType (N : Nonterminal) (tail : List Symbol) : Type 0 where
  pub const : (t : Terminal) → admits (pattern.Keyword word.Const) t ≡ true → Begins N t (One n.Base ∷ Maybe n.TypeRest ∷ tail)
  pub base : OfBase N (Maybe n.TypeRest ∷ tail)

pub type_at : (C : List (List ℕ)) (N : Nonterminal) (tail R : List Symbol) → OfType N tail → (t : TypeId) (ts : List Terminal) → PlainType C t → Derives (tail ++ R) ts → Derives (One N ∷ R) (seen C (type_id t) ts)
unfolding admits
type_at C N tail R o t ts h d =
    ruled C (if_said t.is_const (w word.Const) ++ (simple_type t.base ++ (if_said t.is_const_after (w word.Const) ++ (stars t.pointers ++ reference_mark t.reference)))) ts (by_const t.is_const)
  where
    after : List Piece
    after = if_said t.is_const_after (w word.Const) ++ (stars t.pointers ++ reference_mark t.reference)

    rest : Derives (Maybe n.TypeRest ∷ tail ++ R) (seen C after ts)
    rest = rest_at C (tail ++ R) t.is_const_after t.pointers t.reference ts d

    by_const : (b : Bool) → Derives (One N ∷ R) (seen C (if_said b (w word.Const) ++ (simple_type t.base ++ after)) ts)
    by_const true = go (o.const (terminal_of C (kind.Word word.Const)) refl) (both C (simple_type t.base) after ts (base_at C n.Base [] (Maybe n.TypeRest ∷ tail ++ R) base t.base (seen C after ts) h rest))
    by_const false = both C (simple_type t.base) after ts (base_at C N (Maybe n.TypeRest ∷ tail) R o.base t.base (seen C after ts) h rest)

pub type_id_of : OfType n.TypeId []
type_id_of = record { const = type_id-const; base = record { built_in = type_id-built_in_type; library = type_id-std; path = record { class = type_id-class_name; outer = type_id-other_name } } }
