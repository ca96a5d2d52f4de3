-- Paths and types.
use Rattle.std.specs.Prelude.{◌≡◌, ℕ, zero, suc, ◌+◌, Bool, true, false, if◌then◌else◌, nat_lt, List, [], ◌∷◌, ◌++◌, length, Option, Some, None, codes}
use Rattle.std.specs.Str.{bytes_eq}
use Rattle.co_base.specs.declared.span.Span.{Span}
use Rattle.co_base.specs.declared.kinds.AtomicKind.{AtomicKind}
use Rattle.co_base.specs.declared.kinds.AtomicKind.TheVariants as atomic_of
use Rattle.co_lex.specs.declared.token.Mark.TheVariants as mark
use Rattle.co_lex.specs.declared.token.Word.TheVariants as word
use Rattle.co_reader.specs.declared.lead.Lead.{Lead}
use Rattle.co_reader.specs.declared.lead.Lead.TheVariants as l
use Rattle.co_reader.specs.Reading.{Reader, ◌>>=◌, ◌>>◌, ◌<$>◌, pure, refuse, given, lead, here, pass, sees, eat, expect, eat_word, any_name, name, spells}
use Rattle.co_reader.specs.Leads.{builtin, library_object}
use Rattle.co_tree.specs.declared.types.Path.{Path}
use Rattle.co_tree.specs.declared.types.SimpleType.{SimpleType}
use Rattle.co_tree.specs.declared.types.SimpleTypeKind.{SimpleTypeKind}
use Rattle.co_tree.specs.declared.types.SimpleTypeKind.TheVariants as simple
use Rattle.co_tree.specs.declared.types.Reference.{Reference}
use Rattle.co_tree.specs.declared.types.Reference.TheVariants as reference_of
use Rattle.co_tree.specs.declared.types.TypeId.{TypeId}

-- NAME { "::" NAME }. The number bounds the turns, and each turn takes a token, so the count of tokens is enough.
unfoldable pub names_from : ℕ → List (List ℕ) → Reader (List (List ℕ))
names_from zero found = refuse
names_from (suc n) found = do
  x ← name
  more ← eat mark.Scope
  if more then names_from n (found ++ x ∷ []) else pure (found ++ x ∷ [])

unfoldable pub names : Reader (List (List ℕ))
names = λ ts. names_from (length ts) [] ts

unfoldable pub path : Reader Path
path = do
  at ← here
  found ← names
  pure (record { names = found; span = at })

-- A path names a class exactly where its last name does.
abbrev pub last_is_class : (List ℕ → Bool) → Bool → List (List ℕ) → Bool
last_is_class is_class so_far [] = so_far
last_is_class is_class so_far (n ∷ ns) = last_is_class is_class (is_class n) ns

unfoldable pub names_class : (List ℕ → Bool) → Path → Bool
names_class is_class p = last_is_class is_class false p.names

-- "int" ">" | "long" ">" | "bool" ">" | "void" "*" ">"
abbrev pub atomic_by : Lead → Reader AtomicKind
atomic_by (l.Word word.Int) = pass >> pure atomic_of.Int
atomic_by (l.Word word.Long) = pass >> pure atomic_of.Long
atomic_by (l.Word word.Bool) = pass >> pure atomic_of.Bool
atomic_by (l.Word word.Void) = pass >> (expect mark.Star >> pure atomic_of.VoidPointer)
atomic_by _ = refuse

unfoldable pub atomic_argument : Reader AtomicKind
atomic_argument = λ ts. atomic_by (lead ts) ts

-- after "atomic"
unfoldable pub atomic : Reader AtomicKind
atomic = do
  expect mark.Less
  kind ← atomic_argument
  expect mark.Greater
  pure kind

-- { "*" }
unfoldable pub stars_from : ℕ → ℕ → Reader ℕ
stars_from zero count = refuse
stars_from (suc n) count = do
  more ← eat mark.Star
  if more then stars_from n (count + 1) else pure count

-- no type has more `*` than this: each opens a level
abbrev pub most_stars : ℕ
most_stars = 1000

unfoldable pub stars : Reader ℕ
stars = stars_from most_stars 0

-- [ "&" | "&&" ]
abbrev pub reference_by : Lead → Reader Reference
reference_by (l.Mark mark.And) = pass >> pure reference_of.Lvalue
reference_by (l.Mark mark.AndAnd) = pass >> pure reference_of.Rvalue
reference_by _ = pure reference_of.None

unfoldable pub reference : Reader Reference
reference = λ ts. reference_by (lead ts) ts

module _ (is_class : List ℕ → Bool) where
  abbrev pub if_class : Path → Reader Path
  if_class p = if names_class is_class p then pure p else refuse

  -- a path that names a class
  unfoldable pub class_path : Reader Path
  class_path = path >>= if_class

  abbrev pub promise_in : Bool → Reader (Option Path)
  promise_in true = pure None
  promise_in false = Some <$> class_path

  -- after "coroutine_handle": "<" [ path ] ">"
  unfoldable pub promise : Reader (Option Path)
  promise = do
    expect mark.Less
    found ← (λ ts. promise_in (sees mark.Greater ts) ts)
    expect mark.Greater
    pure found

  -- after "std" "::" and the name
  unfoldable pub library_type : List ℕ → Reader SimpleTypeKind
  library_type text =
      if bytes_eq text (codes "coroutine_handle") then simple.Handle <$> promise
      else (if bytes_eq text (codes "atomic") then simple.Atomic <$> atomic else given (library_object text))

  -- after "std"
  unfoldable pub library_kind : Reader SimpleTypeKind
  library_kind = expect mark.Scope >> (any_name >>= library_type)

  abbrev pub named_kind : Bool → Reader SimpleTypeKind
  named_kind true = pass >> library_kind
  named_kind false = simple.Class <$> class_path

  abbrev pub kind_by : Bool → Option SimpleTypeKind → Reader SimpleTypeKind
  kind_by is_std (Some kind) = pass >> pure kind
  kind_by is_std None = named_kind is_std

  -- base, but for `auto`
  unfoldable pub simple_type : Reader SimpleType
  simple_type = do
    at ← here
    kind ← (λ ts. kind_by (spells (codes "std") ts) (builtin (lead ts)) ts)
    pure (record { kind = kind; span = at })

-- what stands behind the base: [ "const" ] { "*" } [ "&" | "&&" ]
unfoldable pub type_rest : Span → Bool → SimpleType → Reader TypeId
type_rest at is_const base = do
  is_const_after ← eat_word word.Const
  pointers ← stars
  reference ← reference
  pure (record { is_const = is_const; base = base; is_const_after = is_const_after; pointers = pointers; reference = reference; span = at })

-- type = [ "const" ] base [ "const" ] { "*" } [ "&" | "&&" ], but for `auto`
unfoldable pub type_id : (List ℕ → Bool) → Reader TypeId
type_id is_class = do
  at ← here
  is_const ← eat_word word.Const
  base ← simple_type is_class
  type_rest at is_const base
