-- Where an exception or an exit goes on.
use Rattle.std.specs.Prelude.{ℕ, ◌+◌, ◌-◌, Bool, true, false, not, ◌&&◌, nat_lt, nat_le, ◌==◌, if◌then◌else◌, List, [], ◌∷◌, Option, Some, None}
use Rattle.co_base.specs.declared.span.Span.{Span}
use Rattle.co_base.specs.declared.kinds.Undef.TheVariants.{U12}
use Rattle.co_code.specs.declared.image.FuncCode.{FuncCode}
use Rattle.co_code.specs.declared.image.RowCode.{RowCode}
use Rattle.co_code.specs.declared.image.RowKind.{RowKind}
use Rattle.co_code.specs.declared.image.RowKind.TheVariants.{Cleanup, Border, Catch}
use Rattle.co_machine.specs.declared.due.Found.{Found}
use Rattle.co_machine.specs.declared.state.Control.{Control}
use Rattle.co_machine.specs.declared.state.Entry.{Entry}
use Rattle.co_machine.specs.declared.state.Going.{Going}
use Rattle.co_machine.specs.declared.state.Going.TheVariants.{Nothing, Exception, Exit}
use Rattle.co_machine.specs.declared.state.Next.TheVariants as ahead
use Rattle.co_machine.specs.declared.state.Registers.{Registers}
use Rattle.co_machine.specs.declared.stop.StopKind.{StopKind}
use Rattle.co_machine.specs.declared.stop.StopKind.TheVariants as stop
use Rattle.co_machine.specs.Values.{wrap, catches, thrown_of}

-- where a return goes that has no caller: back to looking
abbrev pub pool : ℕ
pool = 4294967295

-- the worker meets a stop: next it draws the stamp
abbrev pub met : StopKind → Control → Control
met kind k = record k { next = ahead.Stamp kind }

-- the rows of the last function that begins at pc or before
abbrev pub rows_at : List FuncCode → ℕ → List RowCode → List RowCode
rows_at [] pc found = found
rows_at (f ∷ funcs) pc found = rows_at funcs pc (if nat_le f.entry pc then f.rows else found)

-- a noexcept border holds in every entry, the other rows in one that is parked, or in one that is not
abbrev pub fits_entry : RowKind → Bool → ℕ → Bool
fits_entry Border parked word = true
fits_entry Cleanup parked word = if word == 0 then not parked else parked
fits_entry (Catch of) parked word = if word == 0 then not parked else parked

-- what stops at a row: an exception at each of its kind, an exit at each cleanup that its place is outside of
abbrev pub stops_at : RowKind → RowCode → Going → Bool
stops_at kind row Nothing = false
stops_at Cleanup row (Exception v) = true
stops_at Border row (Exception v) = true
stops_at (Catch of) row (Exception v) = catches of v
stops_at Cleanup row (Exit p r) = not (nat_le row.from p && nat_le p row.to)
stops_at Border row (Exit p r) = false
stops_at (Catch of) row (Exit p r) = false

-- whether the row, which has this number, is one for the search of the entry
abbrev pub holds_for : Entry → ℕ → RowCode → Bool
holds_for e number row =
    nat_le e.row number && (nat_le row.from e.origin && (nat_lt e.origin row.to && (fits_entry row.kind row.parked e.word && stops_at row.kind row e.going)))

-- the first such row, the rows being numbered from `number` on
abbrev pub first_row : List RowCode → ℕ → Entry → Option Found
first_row [] number e = None
first_row (row ∷ rows) number e =
    if holds_for e number row then Some (record { number = number; row = row }) else first_row rows (number + 1) e

abbrev pub found_for : List FuncCode → Entry → Option Found
found_for funcs e = first_row (rows_at funcs e.origin []) 0 e

-- to the code of the row; the search goes on from the next one
abbrev pub landed : Found → Control → Control
landed f k = record k { top = record k.top { row = f.number + 1 }; pc = f.row.place; sp = wrap (k.top.base + f.row.height) }

-- an exception that reaches a border is caught by nothing
abbrev pub uncaught : Registers → Control → Control
uncaught v k = met (stop.Uncaught (thrown_of v)) k

abbrev pub reached : RowKind → Registers → Found → Control → Control
reached Border v f k = uncaught v k
reached Cleanup v f k = landed f k
reached (Catch of) v f k = landed f k

abbrev pub reached_or : Option Found → Registers → Control → Control → Control
reached_or (Some f) v k passed = reached f.row.kind v f k
reached_or None v k passed = passed

-- the exception leaves the newest activation: e is its caller, which is searched from the place of the call
abbrev pub left_for : Registers → Entry → List Entry → Control → Control
left_for v e below k = record k {
  top = record e { going = Exception v; origin = k.top.return_to - 1; row = 0 };
  below = below;
  fp = k.top.return_fp;
  sp = k.top.return_sp;
}

-- an exception goes to the first row that takes it, in the newest activation that has one; the base of a worker, and
-- an activation that no other called, has no caller
abbrev pub raised : List FuncCode → Registers → List Entry → Control → Control
raised funcs v [] k = reached_or (found_for funcs k.top) v k (uncaught v k)
raised funcs v (e ∷ below) k =
    reached_or (found_for funcs k.top) v k (if k.top.return_to == pool then uncaught v k else raised funcs v below (left_for v e below k))

-- an exit goes to the first cleanup that it leaves, and else to its place
abbrev pub exited : Option Found → ℕ → Registers → Control → Control
exited (Some f) place r k = landed f k
exited None place r k = record k { top = record k.top { going = Nothing }; pc = place; registers = r; sp = k.top.base }

-- the search goes on
abbrev pub searched : Going → List FuncCode → Span → Control → Control
searched Nothing funcs at k = met (stop.Undefined U12 at) k
searched (Exception v) funcs at k = raised funcs v k.below k
searched (Exit place r) funcs at k = exited (found_for funcs k.top) place r k

-- the search begins at the instruction that is made
abbrev pub started : Going → Control → Control
started way k = record k { top = record k.top { going = way; origin = k.pc; row = 0 } }

abbrev pub begun : Going → List FuncCode → Span → Control → Control
begun way funcs at k = searched way funcs at (started way k)
