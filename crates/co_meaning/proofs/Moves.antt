-- The laws of moves.
use Rattle.std.proofs.Common.{◌≡◌, ◌≢◌, ℕ, zero, suc, List, [], ◌∷◌, ◌++◌, Bool, true, false, Some, None, refl, sym, ap, ◌∙◌, append_assoc}
use Rattle.std.specs.Prelude.{Option, slice_get, slice_set}
use Rattle.co_meaning_data.specs.declared.events.Event.{Event}
use Rattle.co_meaning_data.specs.declared.events.Move.{Move}
use Rattle.co_meaning_data.specs.declared.events.Move.TheVariants as move
use Rattle.co_meaning_data.specs.Frames.{Agent, Config}
use Rattle.co_meaning_data.specs.Turn.{Program, Turned}
use Rattle.co_meaning.specs.Laws.{EndsUndefined, EventsGrow, LeavesOthers, RunsJoin, mover}
use Rattle.co_meaning.specs.Runs.{after_turn, cut, go, move_of, or_same, runs_from, step, take_posted, unless_halted, unless_over}

-- ---- undefined acts

over : (after : Option Config) (b : Bool) → b ≡ true → unless_over b after ≡ None
over after b e = ap (λ d. unless_over d after) e

no_move : (p : Program) (c : Config) (m : Move) → c.shared.undefined ≡ true → step p c m ≡ None
no_move p c m e = over (move_of p c m) c.shared.undefined e

stays : (p : Program) (c : Config) (moves : List Move) → c.shared.undefined ≡ true → runs_from p c moves ≡ c
stays p c [] e = refl
stays p c (m ∷ moves) e = ap (λ d. runs_from p (or_same c d) moves) (no_move p c m e) ∙ stays p c moves e

pub ends : EndsUndefined
ends = record { no_move = no_move; stays = stays }

-- ---- other agents

other_kept : (xs : List Agent) (i j : ℕ) (x : Agent) → j ≢ i → slice_get (slice_set xs i x) j ≡ slice_get xs j
other_kept [] i j x h = refl
other_kept (y ∷ ys) zero zero x h = absurd (h refl)
other_kept (y ∷ ys) zero (suc j) x h = refl
other_kept (y ∷ ys) (suc i) zero x h = refl
other_kept (y ∷ ys) (suc i) (suc j) x h = other_kept ys i j x (λ e. h (ap suc e))

turned_alone : (w : ℕ) (c : Config) (t : Option Turned) (v : ℕ) → v ≢ w → slice_get (or_same c (after_turn w c t)).agents v ≡ slice_get c.agents v
turned_alone w c None v h = refl
turned_alone w c (Some t) v h = other_kept c.agents w v t.agent h

moved_alone : (p : Program) (c : Config) (m : Move) (v : ℕ) → v ≢ mover m → slice_get (or_same c (move_of p c m)).agents v ≡ slice_get c.agents v
moved_alone p c (move.Go w) v h = turned_alone w c (unless_halted (slice_get c.agents w) (go p w c)) v h
moved_alone p c (move.Take w i) v h = turned_alone w c (unless_halted (slice_get c.agents w) (take_posted p w i c)) v h
moved_alone p c (move.Cut w) v h = turned_alone w c (unless_halted (slice_get c.agents w) (cut w c)) v h

step_alone : (p : Program) (c : Config) (m : Move) (b : Bool) (v : ℕ) → v ≢ mover m → slice_get (or_same c (unless_over b (move_of p c m))).agents v ≡ slice_get c.agents v
step_alone p c m true v h = refl
step_alone p c m false v h = moved_alone p c m v h

pub leaves_alone : LeavesOthers
leaves_alone p c d m e v h = ap (λ o. slice_get (or_same c o).agents v) (sym e) ∙ step_alone p c m c.shared.undefined v h

-- ---- events

append-nil : (xs : List Event) → xs ≡ xs ++ []
append-nil [] = refl
append-nil (x ∷ xs) = ap (λ l. x ∷ l) (append-nil xs)

abbrev Adds : Config → Config → Type 0
Adds c d = (more : List Event) × (d.events ≡ c.events ++ more)

turn_adds : (w : ℕ) (c : Config) (t : Option Turned) → Adds c (or_same c (after_turn w c t))
turn_adds w c None = ([], append-nil c.events)
turn_adds w c (Some t) = (t.seen, refl)

move_adds : (p : Program) (c : Config) (m : Move) → Adds c (or_same c (move_of p c m))
move_adds p c (move.Go w) = turn_adds w c (unless_halted (slice_get c.agents w) (go p w c))
move_adds p c (move.Take w i) = turn_adds w c (unless_halted (slice_get c.agents w) (take_posted p w i c))
move_adds p c (move.Cut w) = turn_adds w c (unless_halted (slice_get c.agents w) (cut w c))

step_adds : (p : Program) (c : Config) (m : Move) (b : Bool) → Adds c (or_same c (unless_over b (move_of p c m)))
step_adds p c m true = ([], append-nil c.events)
step_adds p c m false = move_adds p c m

grows_from : (p : Program) (c : Config) (moves : List Move) → Adds c (runs_from p c moves)
grows_from p c [] = ([], append-nil c.events)
grows_from p c (m ∷ moves) =
    let one = step_adds p c m c.shared.undefined in
    let rest = grows_from p (or_same c (step p c m)) moves in
    (one.0 ++ rest.0, rest.1 ∙ ap (λ l. l ++ rest.0) one.1 ∙ append_assoc c.events one.0 rest.0)

pub grow : EventsGrow
grow p c moves = grows_from p c moves

pub joins : RunsJoin
joins p c [] rest = refl
joins p c (m ∷ first) rest = joins p (or_same c (step p c m)) first rest
