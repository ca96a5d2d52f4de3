-- The accesses keep what is to come.
use Rattle.std.proofs.Common.{ℕ, zero, suc, ◌+◌, ◌≤◌, List, [], ◌∷◌, ◌++◌, Bool, true, false, Some, None, arith, length}
use Rattle.std.specs.Prelude.{Option}
use Rattle.co_base.specs.declared.kinds.Undef.TheVariants.{U9}
use Rattle.co_base.specs.declared.span.Span.{Span}
use Rattle.co_meaning_data.specs.declared.values.Cell.{Cell}
use Rattle.co_meaning_data.specs.declared.values.Value.{Value}
use Rattle.co_meaning_data.specs.Frames.{Comes, Given, Gives, Outcome, Reads, Scalar, Writes}
use Rattle.co_meaning_data.specs.Store.{Place, cell_at, set_cell, type_at, words_of}
use Rattle.co_meaning_data.specs.Undefined.{compares_dangling, is_same}
use Rattle.co_meaning_data.specs.Turn.{Local, classes, given_by, parts_for, store, truth}
use Rattle.co_meaning_data.specs.Access.{held_in, read_faults, read_on, read_cell, reads, load, write_faults, write_on, written, write_cell, writes, store_parts, put, swap_cell, swap, compared, compare_cell, compare}
use Rattle.co_meaning_lives.specs.Tokens.{Fits, credits, local_weighs}
use Rattle.co_meaning_lives.proofs.Weights.{set_cell-count, same, goes-fits, gives-fits, unless-fits}
use Rattle.co_meaning_data.specs.declared.values.Cell.TheVariants as cell

module _ (item raw on_birth on_death credit each : ℕ) (small : on_birth + on_death ≤ raw + credit) where
  pub read_on-fits : (limit : ℕ) (y0 : Place) (y1 : ℕ) (y2 : List Value) (y3 : Span) (y4 : Local) → local_weighs item raw on_birth on_death credit each y4 + each ≤ limit + credits item raw on_birth on_death credit each y4.seen → Fits item raw on_birth on_death credit each limit (read_on y0 y1 y2 y3 y4)
  read_on-fits limit p zero done at l known = (gives-fits item raw on_birth on_death credit each small limit (given_by done) l (omega (arith, known)))
  read_on-fits limit p (suc left) done at l known = (goes-fits item raw on_birth on_death credit each small limit (Reads p (suc left) done at) l (omega (arith, known)))

  pub read_cell-fits : (limit : ℕ) (y0 : Place) (y1 : ℕ) (y2 : List Value) (y3 : Span) (y4 : Local) (y5 : Option Cell) → local_weighs item raw on_birth on_death credit each y4 + each ≤ limit + credits item raw on_birth on_death credit each y4.seen → Fits item raw on_birth on_death credit each limit (read_cell y0 y1 y2 y3 y4 y5)
  read_cell-fits limit p left done at l None known = tt
  read_cell-fits limit p left done at l (Some c) known = (unless-fits item raw on_birth on_death credit each small limit (read_faults c) at l (read_on p left (done ++ held_in c) at l) (omega (arith, known)) (read_on-fits limit p left (done ++ held_in c) at l (omega (arith, known))))

  pub reads-fits : (limit : ℕ) (y0 : Place) (y1 : ℕ) (y2 : List Value) (y3 : Span) (y4 : Local) → local_weighs item raw on_birth on_death credit each y4 + each ≤ limit + credits item raw on_birth on_death credit each y4.seen → Fits item raw on_birth on_death credit each limit (reads y0 y1 y2 y3 y4)
  reads-fits limit p zero done at l known = (gives-fits item raw on_birth on_death credit each small limit (given_by done) l (omega (arith, known)))
  reads-fits limit p (suc left) done at l known = (read_cell-fits limit p left done at l (cell_at (classes l) (store l) p (length done)) (omega (arith, known)))

  pub load-fits : (limit : ℕ) (y0 : Place) (y1 : Span) (y2 : Local) → local_weighs item raw on_birth on_death credit each y2 + each ≤ limit + credits item raw on_birth on_death credit each y2.seen → Fits item raw on_birth on_death credit each limit (load y0 y1 y2)
  load-fits limit p at l known = (goes-fits item raw on_birth on_death credit each small limit (Reads p (words_of (classes l) (type_at (classes l) (store l) p)) [] at) l (omega (arith, known)))

  pub write_on-fits : (limit : ℕ) (y0 : Bool) (y1 : Place) (y2 : ℕ) (y3 : List Value) (y4 : Outcome) (y5 : Span) (y6 : Local) → local_weighs item raw on_birth on_death credit each y6 + each ≤ limit + credits item raw on_birth on_death credit each y6.seen → Fits item raw on_birth on_death credit each limit (write_on y0 y1 y2 y3 y4 y5 y6)
  write_on-fits limit initial p done [] outcome at l known = (goes-fits item raw on_birth on_death credit each small limit (Comes outcome) l (omega (arith, known)))
  write_on-fits limit initial p done (v ∷ left) outcome at l known = (goes-fits item raw on_birth on_death credit each small limit (Writes initial p done (v ∷ left) outcome at) l (omega (arith, known)))

  pub write_cell-fits : (limit : ℕ) (y0 : Bool) (y1 : Place) (y2 : ℕ) (y3 : Value) (y4 : List Value) (y5 : Outcome) (y6 : Span) (y7 : Local) (y8 : Option Cell) → local_weighs item raw on_birth on_death credit each y7 + each ≤ limit + credits item raw on_birth on_death credit each y7.seen → Fits item raw on_birth on_death credit each limit (write_cell y0 y1 y2 y3 y4 y5 y6 y7 y8)
  write_cell-fits limit initial p done v left outcome at l None known = tt
  write_cell-fits limit initial p done v left outcome at l (Some c) known = (unless-fits item raw on_birth on_death credit each small limit (write_faults initial p c l) at l (write_on initial p (suc done) left outcome at (written p done v l)) (omega (arith, known)) (write_on-fits limit initial p (suc done) left outcome at (written p done v l) (let f0 = same item raw on_birth on_death credit each small (set_cell (classes l) p done (cell.Holds v) (store l)) (store l) (set_cell-count (classes l) p done (cell.Holds v) (store l)) in omega (arith, known, f0))))

  pub writes-fits : (limit : ℕ) (y0 : Bool) (y1 : Place) (y2 : ℕ) (y3 : List Value) (y4 : Outcome) (y5 : Span) (y6 : Local) → local_weighs item raw on_birth on_death credit each y6 + each ≤ limit + credits item raw on_birth on_death credit each y6.seen → Fits item raw on_birth on_death credit each limit (writes y0 y1 y2 y3 y4 y5 y6)
  writes-fits limit initial p done [] outcome at l known = (goes-fits item raw on_birth on_death credit each small limit (Comes outcome) l (omega (arith, known)))
  writes-fits limit initial p done (v ∷ left) outcome at l known = (write_cell-fits limit initial p done v left outcome at l (cell_at (classes l) (store l) p done) (omega (arith, known)))

  pub store_parts-fits : (limit : ℕ) (y0 : Bool) (y1 : Place) (y2 : Option (List Value)) (y3 : Outcome) (y4 : Span) (y5 : Local) → local_weighs item raw on_birth on_death credit each y5 + each ≤ limit + credits item raw on_birth on_death credit each y5.seen → Fits item raw on_birth on_death credit each limit (store_parts y0 y1 y2 y3 y4 y5)
  store_parts-fits limit initial p None outcome at l known = tt
  store_parts-fits limit initial p (Some vs) outcome at l known = (goes-fits item raw on_birth on_death credit each small limit (Writes initial p 0 vs outcome at) l (omega (arith, known)))

  pub put-fits : (limit : ℕ) (y0 : Bool) (y1 : Place) (y2 : Given) (y3 : Outcome) (y4 : Span) (y5 : Local) → local_weighs item raw on_birth on_death credit each y5 + each ≤ limit + credits item raw on_birth on_death credit each y5.seen → Fits item raw on_birth on_death credit each limit (put y0 y1 y2 y3 y4 y5)
  put-fits limit initial p g outcome at l known = (store_parts-fits limit initial p (parts_for (type_at (classes l) (store l) p) g) outcome at l (omega (arith, known)))

  pub swap_cell-fits : (limit : ℕ) (y0 : (Value → Value)) (y1 : Place) (y2 : Span) (y3 : Local) (y4 : Option Cell) → local_weighs item raw on_birth on_death credit each y3 + each ≤ limit + credits item raw on_birth on_death credit each y3.seen → Fits item raw on_birth on_death credit each limit (swap_cell y0 y1 y2 y3 y4)
  swap_cell-fits limit f p at l (Some (cell.Holds v)) known = (gives-fits item raw on_birth on_death credit each small limit (Scalar v) (written p 0 (f v) l) (let f0 = same item raw on_birth on_death credit each small (set_cell (classes l) p 0 (cell.Holds (f v)) (store l)) (store l) (set_cell-count (classes l) p 0 (cell.Holds (f v)) (store l)) in omega (arith, known, f0)))
  swap_cell-fits limit f p at l (Some c) known = (unless-fits item raw on_birth on_death credit each small limit (read_faults c) at l None (omega (arith, known)) tt)
  swap_cell-fits limit f p at l None known = tt

  pub swap-fits : (limit : ℕ) (y0 : (Value → Value)) (y1 : Place) (y2 : Span) (y3 : Local) → local_weighs item raw on_birth on_death credit each y3 + each ≤ limit + credits item raw on_birth on_death credit each y3.seen → Fits item raw on_birth on_death credit each limit (swap y0 y1 y2 y3)
  swap-fits limit f p at l known = (swap_cell-fits limit f p at l (cell_at (classes l) (store l) p 0) (omega (arith, known)))

  pub compared-fits : (limit : ℕ) (y0 : Bool) (y1 : Place) (y2 : Place) (y3 : Value) (y4 : Value) (y5 : Span) (y6 : Local) → local_weighs item raw on_birth on_death credit each y6 + each ≤ limit + credits item raw on_birth on_death credit each y6.seen → Fits item raw on_birth on_death credit each limit (compared y0 y1 y2 y3 y4 y5 y6)
  compared-fits limit true p expected found desired at l known = (gives-fits item raw on_birth on_death credit each small limit (truth true) (written p 0 desired l) (let f0 = same item raw on_birth on_death credit each small (set_cell (classes l) p 0 (cell.Holds desired) (store l)) (store l) (set_cell-count (classes l) p 0 (cell.Holds desired) (store l)) in omega (arith, known, f0)))
  compared-fits limit false p expected found desired at l known = (goes-fits item raw on_birth on_death credit each small limit (Writes false expected 0 (found ∷ []) (Gives (truth false)) at) l (omega (arith, known)))

  pub compare_cell-fits : (limit : ℕ) (y0 : Place) (y1 : Place) (y2 : Value) (y3 : Value) (y4 : Span) (y5 : Local) (y6 : Option Cell) → local_weighs item raw on_birth on_death credit each y5 + each ≤ limit + credits item raw on_birth on_death credit each y5.seen → Fits item raw on_birth on_death credit each limit (compare_cell y0 y1 y2 y3 y4 y5 y6)
  compare_cell-fits limit p expected wanted desired at l (Some (cell.Holds v)) known = (unless-fits item raw on_birth on_death credit each small limit (record { kind = U9; holds = compares_dangling (store l) l.shared.coroutines v wanted } ∷ []) at l (compared (is_same (store l) l.shared.coroutines v wanted) p expected v desired at l) (omega (arith, known)) (compared-fits limit (is_same (store l) l.shared.coroutines v wanted) p expected v desired at l (omega (arith, known))))
  compare_cell-fits limit p expected wanted desired at l (Some c) known = (unless-fits item raw on_birth on_death credit each small limit (read_faults c) at l None (omega (arith, known)) tt)
  compare_cell-fits limit p expected wanted desired at l None known = tt

  pub compare-fits : (limit : ℕ) (y0 : Place) (y1 : Place) (y2 : Value) (y3 : Value) (y4 : Span) (y5 : Local) → local_weighs item raw on_birth on_death credit each y5 + each ≤ limit + credits item raw on_birth on_death credit each y5.seen → Fits item raw on_birth on_death credit each limit (compare y0 y1 y2 y3 y4 y5)
  compare-fits limit p expected wanted desired at l known = (compare_cell-fits limit p expected wanted desired at l (cell_at (classes l) (store l) p 0) (omega (arith, known)))
