-- The accesses lose no object.
use Rattle.std.proofs.Common.{ℕ, zero, suc, List, [], ◌∷◌, ◌++◌, Bool, true, false, Some, None, length}
use Rattle.std.specs.Prelude.{Option}
use Rattle.co_base.specs.declared.kinds.Undef.TheVariants.{U9}
use Rattle.co_base.specs.declared.span.Span.{Span}
use Rattle.co_meaning_data.specs.Access.{held_in, read_faults, read_on, read_cell, reads, load, write_faults, write_on, written, write_cell, writes, store_parts, put, swap_cell, swap, compared, compare_cell, compare}
use Rattle.co_meaning_data.specs.Frames.{Given, Outcome}
use Rattle.co_meaning_data.specs.Store.{Place, cell_at, type_at}
use Rattle.co_meaning_data.specs.Turn.{Local, classes, parts_for, store}
use Rattle.co_meaning_data.specs.Undefined.{compares_dangling, is_same}
use Rattle.co_meaning_data.specs.declared.values.Cell.{Cell}
use Rattle.co_meaning_data.specs.declared.values.Cell.TheVariants as cell
use Rattle.co_meaning_data.specs.declared.values.Value.{Value}
use Rattle.co_meaning_balance.proofs.ObjectsKeeps.{unless-keeps}
use Rattle.co_meaning_balance.specs.Places.{Keeps, Kept}

module _ (number item limit owed : ℕ) where
  read_on-keeps : (p : Place) (zero : ℕ) (done : List Value) (at : Span) (l : Local) → Kept number item limit owed l → Keeps number item limit owed (read_on p zero done at l)
  read_on-keeps p zero done at l known = known
  read_on-keeps p (suc left) done at l known = known

  read_cell-keeps : (p : Place) (left : ℕ) (done : List Value) (at : Span) (l : Local) (o : Option Cell) → Kept number item limit owed l → Keeps number item limit owed (read_cell p left done at l o)
  read_cell-keeps p left done at l None known = tt
  read_cell-keeps p left done at l (Some c) known = unless-keeps number item limit owed (read_faults c) at l (read_on p left (done ++ held_in c) at l) known (read_on-keeps p left (done ++ held_in c) at l known)

  pub reads-keeps : (p : Place) (zero : ℕ) (done : List Value) (at : Span) (l : Local) → Kept number item limit owed l → Keeps number item limit owed (reads p zero done at l)
  reads-keeps p zero done at l known = known
  reads-keeps p (suc left) done at l known = read_cell-keeps p left done at l (cell_at (classes l) (store l) p (length done)) known

  pub load-keeps : (p : Place) (at : Span) (l : Local) → Kept number item limit owed l → Keeps number item limit owed (load p at l)
  load-keeps p at l known = known

  write_on-keeps : (initial : Bool) (p : Place) (done : ℕ) (list : List Value) (outcome : Outcome) (at : Span) (l : Local) → Kept number item limit owed l → Keeps number item limit owed (write_on initial p done list outcome at l)
  write_on-keeps initial p done [] outcome at l known = known
  write_on-keeps initial p done (v ∷ left) outcome at l known = known

  write_cell-keeps : (initial : Bool) (p : Place) (done : ℕ) (v : Value) (left : List Value) (outcome : Outcome) (at : Span) (l : Local) (o : Option Cell) → Kept number item limit owed l → Keeps number item limit owed (write_cell initial p done v left outcome at l o)
  write_cell-keeps initial p done v left outcome at l None known = tt
  write_cell-keeps initial p done v left outcome at l (Some c) known = unless-keeps number item limit owed (write_faults initial p c l) at l (write_on initial p (suc done) left outcome at (written p done v l)) known (write_on-keeps initial p (suc done) left outcome at (written p done v l) known)

  pub writes-keeps : (initial : Bool) (p : Place) (done : ℕ) (list : List Value) (outcome : Outcome) (at : Span) (l : Local) → Kept number item limit owed l → Keeps number item limit owed (writes initial p done list outcome at l)
  writes-keeps initial p done [] outcome at l known = known
  writes-keeps initial p done (v ∷ left) outcome at l known = write_cell-keeps initial p done v left outcome at l (cell_at (classes l) (store l) p done) known

  store_parts-keeps : (initial : Bool) (p : Place) (o : Option (List Value)) (outcome : Outcome) (at : Span) (l : Local) → Kept number item limit owed l → Keeps number item limit owed (store_parts initial p o outcome at l)
  store_parts-keeps initial p None outcome at l known = tt
  store_parts-keeps initial p (Some vs) outcome at l known = known

  pub put-keeps : (initial : Bool) (p : Place) (g : Given) (outcome : Outcome) (at : Span) (l : Local) → Kept number item limit owed l → Keeps number item limit owed (put initial p g outcome at l)
  put-keeps initial p g outcome at l known = store_parts-keeps initial p (parts_for (type_at (classes l) (store l) p) g) outcome at l known

  swap_cell-keeps : (f : (Value → Value)) (p : Place) (at : Span) (l : Local) (o : Option Cell) → Kept number item limit owed l → Keeps number item limit owed (swap_cell f p at l o)
  swap_cell-keeps f p at l (Some (cell.Holds v)) known = known
  swap_cell-keeps f p at l (Some c) known = unless-keeps number item limit owed (read_faults c) at l None known tt
  swap_cell-keeps f p at l None known = tt

  pub swap-keeps : (f : (Value → Value)) (p : Place) (at : Span) (l : Local) → Kept number item limit owed l → Keeps number item limit owed (swap f p at l)
  swap-keeps f p at l known = swap_cell-keeps f p at l (cell_at (classes l) (store l) p 0) known

  compared-keeps : (true : Bool) (p : Place) (expected : Place) (found : Value) (desired : Value) (at : Span) (l : Local) → Kept number item limit owed l → Keeps number item limit owed (compared true p expected found desired at l)
  compared-keeps true p expected found desired at l known = known
  compared-keeps false p expected found desired at l known = known

  compare_cell-keeps : (p : Place) (expected : Place) (wanted : Value) (desired : Value) (at : Span) (l : Local) (o : Option Cell) → Kept number item limit owed l → Keeps number item limit owed (compare_cell p expected wanted desired at l o)
  compare_cell-keeps p expected wanted desired at l (Some (cell.Holds v)) known = unless-keeps number item limit owed (record { kind = U9; holds = compares_dangling (store l) l.shared.coroutines v wanted } ∷ []) at l (compared (is_same (store l) l.shared.coroutines v wanted) p expected v desired at l) known (compared-keeps (is_same (store l) l.shared.coroutines v wanted) p expected v desired at l known)
  compare_cell-keeps p expected wanted desired at l (Some c) known = unless-keeps number item limit owed (read_faults c) at l None known tt
  compare_cell-keeps p expected wanted desired at l None known = tt

  pub compare-keeps : (p : Place) (expected : Place) (wanted : Value) (desired : Value) (at : Span) (l : Local) → Kept number item limit owed l → Keeps number item limit owed (compare p expected wanted desired at l)
  compare-keeps p expected wanted desired at l known = compare_cell-keeps p expected wanted desired at l (cell_at (classes l) (store l) p 0) known
