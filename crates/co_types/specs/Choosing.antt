-- How an argument converts to a parameter, and which candidate a call chooses.
use Rattle.std.specs.Prelude.{ℕ, ◌<◌, Bool, true, false, not, ◌||◌, ◌&&◌, ◌==◌, nat_lt, if◌then◌else◌, List, [], ◌∷◌, length, slice_get, Option, None, Some, is_some, IsTrue, IsFalse, ◌≢◌, ◌≡◌}
use Rattle.co_base.specs.declared.kinds.Num.TheVariants as num
use Rattle.co_types.specs.declared.types.CoType.{CoType}
use Rattle.co_types.specs.declared.types.Head.{Head}
use Rattle.co_types.specs.declared.types.Head.TheVariants as head
use Rattle.co_types.specs.declared.classes.FuncInfo.{FuncInfo}
use Rattle.co_types.specs.declared.overloads.Arg.{Arg}
use Rattle.co_types.specs.declared.overloads.ArgKind.{ArgKind}
use Rattle.co_types.specs.declared.overloads.ArgKind.TheVariants.{Lvalue, Xvalue, Prvalue}
use Rattle.co_types.specs.declared.overloads.Rank.{Rank}
use Rattle.co_types.specs.declared.overloads.Rank.TheVariants.{Exact, Promotion, Conversion, Truth, Library}
use Rattle.co_types.specs.declared.overloads.Choice.{Choice}
use Rattle.co_types.specs.declared.overloads.Choice.TheVariants as choice
use Rattle.co_types.specs.Types.{head_of, same_type, target_of}

-- ---- conversions of one argument

-- a reference binds to an argument of the type that it refers to
abbrev pub bound_to : CoType → Option CoType → Option Rank
bound_to from None = None
bound_to from (Some to) = if same_type from to then Some Exact else None

abbrev pub bound : CoType → CoType → Option Rank
bound from to = bound_to from (target_of to)

abbrev pub is_void : Head → Bool
is_void head.Void = true
is_void h = false

abbrev pub is_pointer_to : Option CoType → Bool
is_pointer_to None = false
is_pointer_to (Some to) = is_void (head_of to)

abbrev pub is_pointer_to_void : CoType → Bool
is_pointer_to_void to = is_pointer_to (target_of to)

-- between two types that aren't one [conv]
abbrev pub by_value : Head → Head → CoType → Option Rank
by_value (head.Num num.Bool) (head.Num num.Int) to = Some Promotion
by_value (head.Num a) (head.Num b) to = Some Conversion
by_value head.Pointer head.Pointer to = if is_pointer_to_void to then Some Conversion else None
by_value head.NullPtr head.Pointer to = Some Conversion
by_value head.Pointer (head.Num num.Bool) to = Some Truth
by_value (head.Handle a) (head.Handle None) to = Some Library
by_value head.NullPtr (head.Handle b) to = Some Library
by_value head.NullPtr head.ExceptionPtr to = Some Library
by_value from head to = None

-- the rank with which an argument converts to a parameter of a type with this head: `T&` binds lvalues, `T&&`
-- binds xvalues and prvalues, `const T&` binds all [dcl.init.ref]
abbrev pub converted : ArgKind → CoType → Head → CoType → Option Rank
converted Lvalue from head.Ref to = bound from to
converted Xvalue from head.Ref to = None
converted Prvalue from head.Ref to = None
converted kind from head.ConstRef to = bound from to
converted Lvalue from head.RefRef to = None
converted Xvalue from head.RefRef to = bound from to
converted Prvalue from head.RefRef to = bound from to
converted kind from h to = if same_type from to then Some Exact else by_value (head_of from) h to

abbrev pub conversion : Arg → CoType → Option Rank
conversion arg to = converted arg.kind arg.of (head_of to) to

-- the ranks from the best on
abbrev pub order : Rank → ℕ
order Exact = 0
order Promotion = 1
order Conversion = 2
order Truth = 3
order Library = 4

-- an lvalue prefers `T&` to `const T&`, an rvalue prefers `T&&` [over.ics.rank]
abbrev pub prefers : ArgKind → Head → Head → Bool
prefers Lvalue head.Ref head.ConstRef = true
prefers Xvalue head.RefRef head.ConstRef = true
prefers Prvalue head.RefRef head.ConstRef = true
prefers kind own other = false

-- a rank is better where it comes first, or where both are one and the reference is preferred
abbrev pub ranked_better : Option Rank → Option Rank → Bool → Bool
ranked_better (Some own) (Some other) preferred = nat_lt (order own) (order other) || ((order own == order other) && preferred)
ranked_better own other preferred = false

-- the argument's conversion to the first type is better than that to the second
abbrev pub converts_better : Arg → CoType → CoType → Bool
converts_better arg own other = ranked_better (conversion arg own) (conversion arg other) (prefers arg.kind (head_of own) (head_of other))

-- ---- candidates by their parameters

-- as many parameters as arguments, to which each converts [over.match.viable]
abbrev pub is_viable : List CoType → List Arg → Bool
is_viable [] [] = true
is_viable (param ∷ params) (arg ∷ args) = is_some (conversion arg param) && is_viable params args
is_viable params args = false

-- for some argument the conversion to the first list's parameter is better
abbrev pub any_better : List Arg → List CoType → List CoType → Bool
any_better (arg ∷ args) (left ∷ own) (right ∷ other) = converts_better arg left right || any_better args own other
any_better args own other = false

-- for no argument the other's conversion is better, and for at least one its own is [over.match.best]
abbrev pub is_better : List Arg → List CoType → List CoType → Bool
is_better args own other = not (any_better args other own) && any_better args own other

-- ---- candidates by their numbers

abbrev pub viable_of : List Arg → Option FuncInfo → Bool
viable_of args None = false
viable_of args (Some func) = is_viable func.params args

abbrev pub viable_at : List FuncInfo → List Arg → ℕ → Bool
viable_at candidates args k = viable_of args (slice_get candidates k)

abbrev pub better_of : List Arg → Option FuncInfo → Option FuncInfo → Bool
better_of args (Some own) (Some other) = is_better args own.params other.params
better_of args own other = false

abbrev pub better_at : List FuncInfo → List Arg → ℕ → ℕ → Bool
better_at candidates args own other = better_of args (slice_get candidates own) (slice_get candidates other)

-- ---- the choice

-- a candidate that is viable, and better than every other that is
pub record IsBest (candidates : List FuncInfo) (args : List Arg) (k : ℕ) : Type 0 where
  pub within : k < length candidates
  pub viable : IsTrue (viable_at candidates args k)
  pub better : (j : ℕ) → j < length candidates → j ≢ k → IsTrue (viable_at candidates args j) → IsTrue (better_at candidates args k j)

-- the one that is best; none where none is viable; several where some are and none is best
abbrev pub IsChoice : List FuncInfo → List Arg → Choice → Type 0
IsChoice candidates args (choice.One k) = IsBest candidates args k
IsChoice candidates args choice.None = (k : ℕ) → k < length candidates → IsFalse (viable_at candidates args k)
IsChoice candidates args choice.Several = ((k : ℕ) × (k < length candidates) × IsTrue (viable_at candidates args k)) × ((k : ℕ) → IsBest candidates args k → ⊥)

-- ---- the search

-- the candidate that is held after one more was looked at
abbrev pub kept : List FuncInfo → List Arg → Option ℕ → ℕ → Option ℕ
kept candidates args None at = if viable_at candidates args at then Some at else None
kept candidates args (Some old) at = if viable_at candidates args at then (if better_at candidates args at old then Some at else Some old) else Some old

-- of the first candidates, the held one is viable, and the best one where that is among them
abbrev pub IsHeld : List FuncInfo → List Arg → ℕ → Option ℕ → Type 0
IsHeld candidates args count None = (k : ℕ) → k < count → IsFalse (viable_at candidates args k)
IsHeld candidates args count (Some held) = (held < count) × IsTrue (viable_at candidates args held) × ((k : ℕ) → k < count → IsBest candidates args k → k ≡ held)

-- a candidate is another, isn't viable, or is the worse one
abbrev pub beats : List FuncInfo → List Arg → ℕ → ℕ → Bool
beats candidates args best at = (at == best) || not (viable_at candidates args at) || better_at candidates args best at

abbrev pub BeatsAll : List FuncInfo → List Arg → ℕ → ℕ → Type 0
BeatsAll candidates args best count = (j : ℕ) → j < count → IsTrue (beats candidates args best j)
