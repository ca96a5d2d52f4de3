-- The accesses to scalars. Each step makes at most one.
use Rattle.std.specs.Prelude.{ℕ, zero, suc, Bool, true, false, List, [], ◌∷◌, ◌++◌, length, Option, None, Some}
use Rattle.co_base.specs.declared.kinds.Undef.TheVariants.{U7, U8, U9}
use Rattle.co_base.specs.declared.span.Span.{Span}
use Rattle.co_meaning_data.specs.declared.values.Cell.{Cell}
use Rattle.co_meaning_data.specs.declared.values.Cell.TheVariants as cell
use Rattle.co_meaning_data.specs.declared.values.Value.{Value}
use Rattle.co_meaning_data.specs.Frames.{Comes, Given, Gives, Outcome, Reads, Scalar, Writes}
use Rattle.co_meaning_data.specs.Store.{Place, cell_at, is_ended, set_cell, type_at, words_of}
use Rattle.co_meaning_data.specs.Undefined.{Fault, compares_dangling, is_indeterminate, is_outside, is_same}
use Rattle.co_meaning_data.specs.Turn.{Local, Turned, classes, given_by, gives, goes, parts_for, store, truth, unless_undefined, with_store}

-- ---- reads [conv.lval]

abbrev pub held_in : Cell → List Value
held_in (cell.Holds v) = v ∷ []
held_in c = []

-- a scalar outside its lifetime, or an indeterminate one, may not be read
abbrev pub read_faults : Cell → List Fault
read_faults c = record { kind = U7; holds = is_outside c } ∷ record { kind = U8; holds = is_indeterminate c } ∷ []

abbrev pub read_on : Place → ℕ → List Value → Span → Local → Option Turned
read_on p zero done at l = gives (given_by done) l
read_on p (suc left) done at l = goes (Reads p (suc left) done at) l

abbrev pub read_cell : Place → ℕ → List Value → Span → Local → Option Cell → Option Turned
read_cell p left done at l None = None
read_cell p left done at l (Some c) = unless_undefined (read_faults c) at l (read_on p left (done ++ held_in c) at l)

-- the next word of a scalar is read
abbrev pub reads : Place → ℕ → List Value → Span → Local → Option Turned
reads p zero done at l = gives (given_by done) l
reads p (suc left) done at l = read_cell p left done at l (cell_at (classes l) (store l) p (length done))

-- the value of the scalar at a place is to be read
abbrev pub load : Place → Span → Local → Option Turned
load p at l = goes (Reads p (words_of (classes l) (type_at (classes l) (store l) p)) [] at) l

-- ---- writes [expr.ass] [dcl.init]

-- A scalar outside its lifetime may not be written. An initialization begins its lifetime, but not in an object that has ended.
abbrev pub write_faults : Bool → Place → Cell → Local → List Fault
write_faults true p c l = record { kind = U7; holds = is_ended (store l) p.object } ∷ []
write_faults false p c l = record { kind = U7; holds = is_outside c } ∷ []

abbrev pub write_on : Bool → Place → ℕ → List Value → Outcome → Span → Local → Option Turned
write_on initial p done [] outcome at l = goes (Comes outcome) l
write_on initial p done (v ∷ left) outcome at l = goes (Writes initial p done (v ∷ left) outcome at) l

abbrev pub written : Place → ℕ → Value → Local → Local
written p n v l = with_store (set_cell (classes l) p n (cell.Holds v) (store l)) l

abbrev pub write_cell : Bool → Place → ℕ → Value → List Value → Outcome → Span → Local → Option Cell → Option Turned
write_cell initial p done v left outcome at l None = None
write_cell initial p done v left outcome at l (Some c) =
    unless_undefined (write_faults initial p c l) at l (write_on initial p (suc done) left outcome at (written p done v l))

-- the next word of a scalar is written
abbrev pub writes : Bool → Place → ℕ → List Value → Outcome → Span → Local → Option Turned
writes initial p done [] outcome at l = goes (Comes outcome) l
writes initial p done (v ∷ left) outcome at l = write_cell initial p done v left outcome at l (cell_at (classes l) (store l) p done)

abbrev pub store_parts : Bool → Place → Option (List Value) → Outcome → Span → Local → Option Turned
store_parts initial p None outcome at l = None
store_parts initial p (Some vs) outcome at l = goes (Writes initial p 0 vs outcome at) l

-- what was given is to be written to the scalar at a place
abbrev pub put : Bool → Place → Given → Outcome → Span → Local → Option Turned
put initial p g outcome at l = store_parts initial p (parts_for (type_at (classes l) (store l) p) g) outcome at l

-- ---- atomic accesses [atomics.types.operations]

-- the value before is given, and what a function makes of it is written, in one step
abbrev pub swap_cell : (Value → Value) → Place → Span → Local → Option Cell → Option Turned
swap_cell f p at l (Some (cell.Holds v)) = gives (Scalar v) (written p 0 (f v) l)
swap_cell f p at l (Some c) = unless_undefined (read_faults c) at l None
swap_cell f p at l None = None

abbrev pub swap : (Value → Value) → Place → Span → Local → Option Turned
swap f p at l = swap_cell f p at l (cell_at (classes l) (store l) p 0)

-- where the atomic has the expected value it gets the desired one; else its value is to be written to the expected one's place
abbrev pub compared : Bool → Place → Place → Value → Value → Span → Local → Option Turned
compared true p expected found desired at l = gives (truth true) (written p 0 desired l)
compared false p expected found desired at l = goes (Writes false expected 0 (found ∷ []) (Gives (truth false)) at) l

abbrev pub compare_cell : Place → Place → Value → Value → Span → Local → Option Cell → Option Turned
compare_cell p expected wanted desired at l (Some (cell.Holds v)) =
    unless_undefined (record { kind = U9; holds = compares_dangling (store l) l.shared.coroutines v wanted } ∷ []) at l
    (compared (is_same (store l) l.shared.coroutines v wanted) p expected v desired at l)
compare_cell p expected wanted desired at l (Some c) = unless_undefined (read_faults c) at l None
compare_cell p expected wanted desired at l None = None

abbrev pub compare : Place → Place → Value → Value → Span → Local → Option Turned
compare p expected wanted desired at l = compare_cell p expected wanted desired at l (cell_at (classes l) (store l) p 0)
