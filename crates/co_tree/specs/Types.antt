-- The grammar of types, one case for each alternative.
use Rattle.std.specs.Prelude.{ℕ, zero, suc, List, [], ◌∷◌, ◌++◌, Option, None, Some, codes}
use Rattle.co_base.specs.declared.kinds.AtomicKind.{AtomicKind}
use Rattle.co_base.specs.declared.kinds.AtomicKind.TheVariants as atomic
use Rattle.co_lex.specs.declared.token.Word.TheVariants as word
use Rattle.co_lex.specs.declared.token.Mark.TheVariants as mark
use Rattle.co_tree.specs.declared.types.Path.{Path}
use Rattle.co_tree.specs.declared.types.SimpleType.{SimpleType}
use Rattle.co_tree.specs.declared.types.SimpleTypeKind.{SimpleTypeKind}
use Rattle.co_tree.specs.declared.types.SimpleTypeKind.TheVariants as simple
use Rattle.co_tree.specs.declared.types.Reference.{Reference}
use Rattle.co_tree.specs.declared.types.Reference.TheVariants as reference
use Rattle.co_tree.specs.declared.types.TypeId.{TypeId}
use Rattle.co_tree.specs.Piece.{Piece, node, opens, w, m, name, rule, if_said, standard}

-- { "::" NAME }
abbrev pub names_after : List (List ℕ) → List Piece
names_after [] = []
names_after (n ∷ ns) = m mark.Scope ∷ name n ∷ names_after ns

abbrev pub path_names : List (List ℕ) → List Piece
path_names [] = []
path_names (n ∷ ns) = name n ∷ names_after ns

-- path = NAME { "::" NAME }
abbrev pub path : Path → List Piece
path p = node p.span ∷ path_names p.names

abbrev pub path_if : Option Path → List Piece
path_if None = []
path_if (Some p) = path p

unfoldable pub handle_name : List ℕ
handle_name = codes "coroutine_handle"

-- handle = "std" "::" "coroutine_handle" "<" [ path ] ">"
abbrev pub handle : Option Path → List Piece
handle promise = standard handle_name ++ m mark.Less ∷ (path_if promise ++ m mark.Greater ∷ [])

-- "int" | "long" | "bool" | "void" "*"
abbrev pub atomic_argument : AtomicKind → List Piece
atomic_argument atomic.Int = w word.Int ∷ []
atomic_argument atomic.Long = w word.Long ∷ []
atomic_argument atomic.Bool = w word.Bool ∷ []
atomic_argument atomic.VoidPointer = w word.Void ∷ opens ∷ m mark.Star ∷ []

-- base = "void" | "bool" | "int" | "long" | "auto" | handle | atomic | path
--      | "std" "::" ( "size_t" | "exception_ptr" | "suspend_always" | "suspend_never" )
-- atomic = "std" "::" "atomic" "<" ( "int" | "long" | "bool" | "void" "*" ) ">"
abbrev pub simple_kind : SimpleTypeKind → List Piece
simple_kind simple.Void = w word.Void ∷ []
simple_kind simple.Bool = w word.Bool ∷ []
simple_kind simple.Int = w word.Int ∷ []
simple_kind simple.Long = w word.Long ∷ []
simple_kind simple.Auto = w word.Auto ∷ []
simple_kind simple.Size = standard (codes "size_t")
simple_kind simple.ExceptionPtr = standard (codes "exception_ptr")
simple_kind simple.SuspendAlways = standard (codes "suspend_always")
simple_kind simple.SuspendNever = standard (codes "suspend_never")
simple_kind (simple.Handle promise) = handle promise
simple_kind (simple.Atomic kind) = rule (standard (codes "atomic") ++ m mark.Less ∷ (atomic_argument kind ++ m mark.Greater ∷ []))
simple_kind (simple.Class p) = path p

abbrev pub simple_type : SimpleType → List Piece
simple_type base = node base.span ∷ simple_kind base.kind

-- { "*" }
abbrev pub stars : ℕ → List Piece
stars zero = []
stars (suc n) = opens ∷ m mark.Star ∷ stars n

-- [ "&" | "&&" ]
abbrev pub reference_mark : Reference → List Piece
reference_mark reference.None = []
reference_mark reference.Lvalue = m mark.And ∷ []
reference_mark reference.Rvalue = m mark.AndAnd ∷ []

-- type = [ "const" ] base [ "const" ] { "*" } [ "&" | "&&" ]
abbrev pub type_id : TypeId → List Piece
type_id t =
    node t.span ∷ rule (if_said t.is_const (w word.Const) ++ (simple_type t.base ++ (if_said t.is_const_after (w word.Const) ++ (stars t.pointers ++ reference_mark t.reference))))
