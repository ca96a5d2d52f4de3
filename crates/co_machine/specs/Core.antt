-- The run of several workers over common words, in an order; and histories of accesses.
use Rattle.std.specs.Prelude.{ℕ, zero, suc, ◌+◌, ◌-◌, ◌≡◌, Bool, true, false, not, ◌&&◌, ◌||◌, ◌==◌, if◌then◌else◌, List, [], ◌∷◌, ◌++◌, length, replicate, Option, Some, None, ℤ, slice_get, slice_set, slice_index}
use Rattle.co_code.specs.declared.image.Image.{Image}
use Rattle.co_machine.specs.declared.limits.Limits.{Limits}
use Rattle.co_machine.specs.declared.state.Next.{Next}
use Rattle.co_machine.specs.declared.state.Next.TheVariants as ahead
use Rattle.co_machine.specs.declared.state.State.{State}
use Rattle.co_machine.specs.declared.stop.Turn.{Turn}
use Rattle.co_machine.specs.declared.stop.Turn.TheVariants.{Went, Idle, Stop}
use Rattle.co_words.specs.declared.access.Access.{Access}
use Rattle.co_words.specs.Words.{answer, after, place}
use Rattle.co_machine.specs.Turn.{ask, instr, turn_answer, fresh, leaves, stack_of}
use Rattle.co_machine.specs.Values.{first_global}

-- ---- one turn on words of its own

-- the word that the access finds, as its turn sees it
abbrev pub found_by : Option Access → List ℕ → ℕ
found_by (Some a) words = answer a (slice_index words (place a))
found_by None words = 0

abbrev pub words_after : Option Access → List ℕ → List ℕ
words_after (Some a) words = after words a
words_after None words = words

-- ---- the opening

-- the words at the start: word 3 is the break, the first word behind the stacks, word 4 the next coroutine's number,
-- then the empty board, the globals, and nothing
abbrev pub opening_words : Image → Limits → List ℕ
opening_words image limits =
    (0 ∷ 0 ∷ 0 ∷ stack_of image limits.workers ∷ 1 ∷ replicate 65547 0) ++ (image.globals ++ replicate (limits.words - (first_global + length image.globals)) 0)

-- ---- workers

-- a worker in a run: its state, and whether it has left
pub record Member : Type 0 where
  pub state : State
  pub gone : Bool

-- the workers, the common words, and whether worker 0 has made its last turn after all had left
pub record Core : Type 0 where
  pub members : List Member
  pub words : List ℕ
  pub ended : Bool

abbrev pub all_gone : List Member → Bool
all_gone [] = true
all_gone (m ∷ members) = m.gone && all_gone members

abbrev pub has_stopped : Next → Bool
has_stopped (ahead.Stopped stamp kind) = true
has_stopped next = false

abbrev pub some_stopped : List Member → Bool
some_stopped [] = false
some_stopped (m ∷ members) = has_stopped m.state.control.next || some_stopped members

-- a worker that has not left takes its turn; where all have left and none has stopped, worker 0 goes on alone
abbrev pub may_take : ℕ → Member → Core → Bool
may_take worker m c = not m.gone || (worker == 0 && (all_gone c.members && (not (some_stopped c.members) && not c.ended)))

-- a worker leaves where it has stopped, and at an Idle by the rule for leaving
abbrev pub leaves_by : Turn → State → Bool
leaves_by Went s = false
leaves_by Idle s = leaves s
leaves_by (Stop kind) s = true

abbrev pub is_last : Turn → Bool
is_last Went = false
is_last Idle = true
is_last (Stop kind) = true

-- the worker after its turn; one that had left goes on alone, and has left all the same
abbrev pub member_after : Turn → Member → State → Member
member_after turn m s = record { state = s; gone = m.gone || leaves_by turn s }

-- the turn of a worker, whose access found the word old
abbrev pub turned : Image → List ℤ → ℕ → Member → Core → ℕ → Core
turned image inputs worker m c old = record {
  members = slice_set c.members worker (member_after (turn_answer image m.state old) m (instr image inputs m.state old));
  words = words_after (ask image m.state) c.words;
  ended = c.ended || (m.gone && is_last (turn_answer image m.state old));
}

abbrev pub turn_of : Image → List ℤ → ℕ → Option Member → Core → Core
turn_of image inputs worker None c = c
turn_of image inputs worker (Some m) c =
    if may_take worker m c then turned image inputs worker m c (found_by (ask image m.state) c.words) else c

-- the workers take their turns in the order
abbrev pub turns_from : Image → List ℤ → List ℕ → Core → Core
turns_from image inputs [] c = c
turns_from image inputs (worker ∷ order) c = turns_from image inputs order (turn_of image inputs worker (slice_get c.members worker) c)

-- the workers from `worker` on, `more` of them
abbrev pub fresh_members : Image → Limits → ℕ → ℕ → List Member
fresh_members image limits worker zero = []
fresh_members image limits worker (suc more) =
    record { state = fresh image limits worker; gone = false } ∷ fresh_members image limits (worker + 1) more

abbrev pub opening_core : Image → Limits → Core
opening_core image limits = record {
  members = fresh_members image limits 0 limits.workers;
  words = opening_words image limits;
  ended = false;
}

-- the run in which the workers take their turns in this order; a number that is no worker's takes none
abbrev pub core : Image → List ℤ → Limits → List ℕ → Core
core image inputs limits order = turns_from image inputs order (opening_core image limits)

-- the run is complete: all have left, and one has stopped, or worker 0 has gone on alone to its end
abbrev pub is_complete : Core → Bool
is_complete c = all_gone c.members && (some_stopped c.members || c.ended)

-- ---- histories

-- an access that a worker made, with the word that it answered
pub record Entry : Type 0 where
  pub worker : ℕ
  pub access : Access
  pub old : ℕ

-- each entry's old word stands there when the entries before it have been carried out
abbrev pub IsLegal : List ℕ → List Entry → Type 0
IsLegal words [] = Unit {0}
IsLegal words (e ∷ entries) =
    (e.old ≡ answer e.access (slice_index words (place e.access))) × IsLegal (after words e.access) entries

-- the words when all entries have been carried out
abbrev pub replayed : List ℕ → List Entry → List ℕ
replayed words [] = words
replayed words (e ∷ entries) = replayed (after words e.access) entries

-- the entries of one worker, in order
abbrev pub part_of : ℕ → List Entry → List Entry
part_of worker [] = []
part_of worker (e ∷ entries) = if e.worker == worker then e ∷ part_of worker entries else part_of worker entries
