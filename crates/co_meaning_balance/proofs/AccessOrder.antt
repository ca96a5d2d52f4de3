-- The accesses keep the frames in order.
use Rattle.std.proofs.Common.{ℕ, zero, suc, ◌≤◌, List, [], ◌∷◌, ◌++◌, Bool, true, false, Some, None, arith, length}
use Rattle.std.specs.Prelude.{Option}
use Rattle.co_base.specs.declared.kinds.Undef.TheVariants.{U9}
use Rattle.co_base.specs.declared.span.Span.{Span}
use Rattle.co_meaning_data.specs.Access.{held_in, read_faults, read_on, read_cell, reads, load, write_faults, write_on, written, write_cell, writes, store_parts, put, swap_cell, swap, compared, compare_cell, compare}
use Rattle.co_meaning_data.specs.Frames.{Given, Outcome}
use Rattle.co_meaning_data.specs.Store.{Place, cell_at, type_at}
use Rattle.co_meaning_data.specs.Turn.{Local, classes, parts_for, store}
use Rattle.co_meaning_data.specs.Undefined.{compares_dangling, is_same}
use Rattle.co_meaning_data.specs.declared.values.Cell.{Cell}
use Rattle.co_meaning_data.specs.declared.values.Cell.TheVariants as cell
use Rattle.co_meaning_data.specs.declared.values.Value.{Value}
use Rattle.co_meaning_balance.proofs.ObjectsOrder.{unless-order}
use Rattle.co_meaning_balance.specs.Order.{InOrder, open_strays}

read_on-order : (p : Place) (zero : ℕ) (done : List Value) (at : Span) (l : Local) → open_strays l ≤ 0 → InOrder (read_on p zero done at l)
read_on-order p zero done at l known = omega (arith, known)
read_on-order p (suc left) done at l known = omega (arith, known)

read_cell-order : (p : Place) (left : ℕ) (done : List Value) (at : Span) (l : Local) (o : Option Cell) → open_strays l ≤ 0 → InOrder (read_cell p left done at l o)
read_cell-order p left done at l None known = tt
read_cell-order p left done at l (Some c) known = unless-order (read_faults c) at l (read_on p left (done ++ held_in c) at l) (omega (arith, known)) (read_on-order p left (done ++ held_in c) at l (omega (arith, known)))

pub reads-order : (p : Place) (zero : ℕ) (done : List Value) (at : Span) (l : Local) → open_strays l ≤ 0 → InOrder (reads p zero done at l)
reads-order p zero done at l known = omega (arith, known)
reads-order p (suc left) done at l known = read_cell-order p left done at l (cell_at (classes l) (store l) p (length done)) (omega (arith, known))

pub load-order : (p : Place) (at : Span) (l : Local) → open_strays l ≤ 0 → InOrder (load p at l)
load-order p at l known = omega (arith, known)

write_on-order : (initial : Bool) (p : Place) (done : ℕ) (list : List Value) (outcome : Outcome) (at : Span) (l : Local) → open_strays l ≤ 0 → InOrder (write_on initial p done list outcome at l)
write_on-order initial p done [] outcome at l known = omega (arith, known)
write_on-order initial p done (v ∷ left) outcome at l known = omega (arith, known)

write_cell-order : (initial : Bool) (p : Place) (done : ℕ) (v : Value) (left : List Value) (outcome : Outcome) (at : Span) (l : Local) (o : Option Cell) → open_strays l ≤ 0 → InOrder (write_cell initial p done v left outcome at l o)
write_cell-order initial p done v left outcome at l None known = tt
write_cell-order initial p done v left outcome at l (Some c) known = unless-order (write_faults initial p c l) at l (write_on initial p (suc done) left outcome at (written p done v l)) (omega (arith, known)) (write_on-order initial p (suc done) left outcome at (written p done v l) (omega (arith, known)))

pub writes-order : (initial : Bool) (p : Place) (done : ℕ) (list : List Value) (outcome : Outcome) (at : Span) (l : Local) → open_strays l ≤ 0 → InOrder (writes initial p done list outcome at l)
writes-order initial p done [] outcome at l known = omega (arith, known)
writes-order initial p done (v ∷ left) outcome at l known = write_cell-order initial p done v left outcome at l (cell_at (classes l) (store l) p done) (omega (arith, known))

store_parts-order : (initial : Bool) (p : Place) (o : Option (List Value)) (outcome : Outcome) (at : Span) (l : Local) → open_strays l ≤ 0 → InOrder (store_parts initial p o outcome at l)
store_parts-order initial p None outcome at l known = tt
store_parts-order initial p (Some vs) outcome at l known = omega (arith, known)

pub put-order : (initial : Bool) (p : Place) (g : Given) (outcome : Outcome) (at : Span) (l : Local) → open_strays l ≤ 0 → InOrder (put initial p g outcome at l)
put-order initial p g outcome at l known = store_parts-order initial p (parts_for (type_at (classes l) (store l) p) g) outcome at l (omega (arith, known))

swap_cell-order : (f : (Value → Value)) (p : Place) (at : Span) (l : Local) (o : Option Cell) → open_strays l ≤ 0 → InOrder (swap_cell f p at l o)
swap_cell-order f p at l (Some (cell.Holds v)) known = omega (arith, known)
swap_cell-order f p at l (Some c) known = unless-order (read_faults c) at l None (omega (arith, known)) tt
swap_cell-order f p at l None known = tt

pub swap-order : (f : (Value → Value)) (p : Place) (at : Span) (l : Local) → open_strays l ≤ 0 → InOrder (swap f p at l)
swap-order f p at l known = swap_cell-order f p at l (cell_at (classes l) (store l) p 0) (omega (arith, known))

compared-order : (true : Bool) (p : Place) (expected : Place) (found : Value) (desired : Value) (at : Span) (l : Local) → open_strays l ≤ 0 → InOrder (compared true p expected found desired at l)
compared-order true p expected found desired at l known = omega (arith, known)
compared-order false p expected found desired at l known = omega (arith, known)

compare_cell-order : (p : Place) (expected : Place) (wanted : Value) (desired : Value) (at : Span) (l : Local) (o : Option Cell) → open_strays l ≤ 0 → InOrder (compare_cell p expected wanted desired at l o)
compare_cell-order p expected wanted desired at l (Some (cell.Holds v)) known = unless-order (record { kind = U9; holds = compares_dangling (store l) l.shared.coroutines v wanted } ∷ []) at l (compared (is_same (store l) l.shared.coroutines v wanted) p expected v desired at l) (omega (arith, known)) (compared-order (is_same (store l) l.shared.coroutines v wanted) p expected v desired at l (omega (arith, known)))
compare_cell-order p expected wanted desired at l (Some c) known = unless-order (read_faults c) at l None (omega (arith, known)) tt
compare_cell-order p expected wanted desired at l None known = tt

pub compare-order : (p : Place) (expected : Place) (wanted : Value) (desired : Value) (at : Span) (l : Local) → open_strays l ≤ 0 → InOrder (compare p expected wanted desired at l)
compare-order p expected wanted desired at l known = compare_cell-order p expected wanted desired at l (cell_at (classes l) (store l) p 0) (omega (arith, known))
