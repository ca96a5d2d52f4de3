-- One turn of a worker: the access that it makes, the state that it leaves, and what it answers.
use Rattle.std.specs.Prelude.{ℕ, ◌+◌, ◌*◌, Bool, ◌||◌, nat_lt, nat_le, ◌==◌, min, if◌then◌else◌, List, [], length, Option, Some, None, ℤ, slice_get}
use Rattle.co_base.specs.declared.kinds.Counts.{Counts}
use Rattle.co_code.specs.declared.image.FuncCode.{FuncCode}
use Rattle.co_code.specs.declared.image.Image.{Image}
use Rattle.co_code.specs.declared.instr.Instr.{Instr}
use Rattle.co_code.specs.declared.instr.Instr.TheVariants as op
use Rattle.co_machine.specs.declared.due.Due.{Due}
use Rattle.co_machine.specs.declared.due.Due.TheVariants as act
use Rattle.co_machine.specs.declared.limits.Limits.{Limits}
use Rattle.co_machine.specs.declared.state.Control.{Control}
use Rattle.co_machine.specs.declared.state.Next.{Next}
use Rattle.co_machine.specs.declared.state.Next.TheVariants as ahead
use Rattle.co_machine.specs.declared.state.State.{State}
use Rattle.co_machine.specs.declared.state.Tally.{Tally}
use Rattle.co_machine.specs.declared.stop.Looked.{Looked}
use Rattle.co_machine.specs.declared.stop.Looked.TheVariants as looked
use Rattle.co_machine.specs.declared.stop.StopKind.{StopKind}
use Rattle.co_machine.specs.declared.stop.StopKind.TheVariants as stop
use Rattle.co_machine.specs.declared.stop.Turn.{Turn}
use Rattle.co_machine.specs.declared.stop.Turn.TheVariants.{Went, Idle, Stop}
use Rattle.co_words.specs.declared.access.Access.{Access}
use Rattle.co_machine.specs.Check.{due_by}
use Rattle.co_machine.specs.Effect.{ask_due, effect, look_answer, base_entry}
use Rattle.co_machine.specs.Values.{wrap, first_global}

-- ---- counts

-- each instruction is counted, each turn of a post and the resume of a taken handle too
abbrev pub counted : Tally → Tally
counted t = record t { instructions = t.instructions + 1; since = t.since + 1 }

abbrev pub counted_with : Instr → Tally → Tally
counted_with op.Made t = record (counted t) { frames_made = t.frames_made + 1 }
counted_with op.Ended t = record (counted t) { frames_ended = t.frames_ended + 1 }
counted_with op.Born t = record (counted t) { born = t.born + 1 }
counted_with op.Died t = record (counted t) { died = t.died + 1 }
counted_with i t = counted t

-- a load of word 2 that found 0 begins the count of 1,024 anew
abbrev pub loaded_stop : ℕ → Tally → Tally
loaded_stop old t = if old == 0 then record t { since = 0 } else t

abbrev pub looked_round : Looked → Tally → Tally
looked_round looked.Empty t = record t { idles = t.idles + 1 }
looked_round (looked.Found handle) t = t
looked_round looked.Next t = t

-- the counts after what is due, whose access found the word old; `seen` is what a look's cell answers
abbrev pub tallied : Due → Looked → ℕ → Tally → Tally
tallied act.Rest seen old t = t
tallied (act.Stamp kind) seen old t = t
tallied (act.Halt stamp kind) seen old t = t
tallied act.LoadStop seen old t = loaded_stop old t
tallied act.LookStop seen old t = loaded_stop old t
tallied act.LookMain seen old t = t
tallied act.LookCell seen old t = looked_round seen t
tallied act.Spent seen old t = t
tallied (act.Do i) seen old t = counted_with i t
tallied d seen old t = counted t

-- ---- the turn

-- what is due to the worker
abbrev pub due : Image → State → Due
due image s = due_by s.control.next image s.limits s.tally s.control

-- the access that the worker's next turn makes, or none
abbrev pub ask : Image → State → Option Access
ask image s = ask_due (due image s) s.control

-- the state after what is due, whose access found the word old
abbrev pub left_by : Image → List ℤ → Due → State → ℕ → State
left_by image inputs d s old = record s {
  tally = tallied d (look_answer old s.control) old s.tally;
  control = effect image inputs s.limits d s.control old;
}

-- the worker's state after its next turn, whose access found the word old, or 0 where it makes none or stores
abbrev pub instr : Image → List ℤ → State → ℕ → State
instr image inputs s old = left_by image inputs (due image s) s old

abbrev pub seen_or_went : ℕ → Turn
seen_or_went old = if old == 0 then Went else Stop stop.Seen

abbrev pub looked_turn : Looked → Turn
looked_turn looked.Empty = Idle
looked_turn (looked.Found handle) = Went
looked_turn looked.Next = Went

abbrev pub answer_by : Due → Looked → ℕ → Turn
answer_by act.LoadStop seen old = seen_or_went old
answer_by act.LookStop seen old = seen_or_went old
answer_by act.LookCell seen old = looked_turn seen
answer_by (act.Halt stamp kind) seen old = Stop kind
answer_by d seen old = Went

abbrev pub answer_of : Due → Control → ℕ → Turn
answer_of d k old = answer_by d (look_answer old k) old

-- what the turn answers: Idle at the last cell of a look that found nothing, Stop where the worker has stopped
abbrev pub turn_answer : Image → State → ℕ → Turn
turn_answer image s old = answer_of (due image s) s.control old

-- ---- the beginning

-- the first word of a worker's stack of 16,384 words, which stand behind the globals
abbrev pub stack_of : Image → ℕ → ℕ
stack_of image worker = wrap (first_global + length image.globals + 16384 * worker)

abbrev pub entry_of : Option FuncCode → ℕ → ℕ
entry_of (Some f) otherwise = f.entry
entry_of None otherwise = otherwise

-- `main`'s words, if its stack has room for them
abbrev pub words_of : Option FuncCode → ℕ
words_of (Some f) = if nat_le f.words 16384 then f.words else 0
words_of None = 0

abbrev pub blank : ℕ → Control
blank at = record {
  pc = 0;
  fp = at;
  sp = at;
  registers = record { a = 0; b = 0; c = 0; d = 0 };
  stack = at;
  stack_end = wrap (at + 16384);
  top = base_entry at;
  below = [];
  handled = [];
  prints = [];
  spare = [];
  look = 0;
  post = 0;
  tried = 0;
  taken = 0;
  zeros = 0;
  seen_main = 0;
  main_value = None;
  next = ahead.LookStop;
}

-- worker 0 begins in `main`
abbrev pub begins_main : Image → Option FuncCode → Control → Control
begins_main image main k = record k {
  pc = entry_of main (min (length image.code) 4294967295);
  sp = wrap (k.fp + words_of main);
  top = record k.top { base = wrap (k.fp + words_of main) };
  next = ahead.Instruction;
}

abbrev pub begins : Image → ℕ → Control → Control
begins image worker k = if worker == 0 then begins_main image (slice_get image.funcs image.main) k else k

-- the state in which a worker begins: worker 0 in `main`, the others with a look
abbrev pub fresh : Image → Limits → ℕ → State
fresh image limits worker = record {
  limits = limits;
  worker = worker;
  tally = record { instructions = 0; since = 0; idles = 0; frames_made = 0; frames_ended = 0; born = 0; died = 0 };
  control = begins image worker (blank (stack_of image worker));
}

-- ---- after a turn

-- a worker other than 0 leaves at an Idle whose look found that `main` has returned, or at its 16,384th
abbrev pub leaves : State → Bool
leaves s = s.worker == 0 || (s.control.seen_main == 1 || nat_le 16384 s.tally.idles)

-- ---- parts of a state

-- where the next turn is an instruction's, and not the load of word 2 that comes first
abbrev pub next_place : Next → ℕ → ℕ → Option ℕ
next_place ahead.Instruction since pc = if nat_lt since 1024 then Some pc else None
next_place n since pc = None

abbrev pub next_of : State → Option ℕ
next_of s = next_place s.control.next s.tally.since s.control.pc

-- the stop of a worker that has drawn its stamp
abbrev pub stop_of : Next → Option (ℕ × StopKind)
stop_of (ahead.Halt stamp kind) = Some (stamp, kind)
stop_of (ahead.Stopped stamp kind) = Some (stamp, kind)
stop_of n = None

abbrev pub counts_of : Tally → Counts
counts_of t = record {
  instructions = t.instructions;
  frames_made = t.frames_made;
  frames_ended = t.frames_ended;
  born = t.born;
  died = t.died;
}

-- how many Idles the turn adds
abbrev pub idled : Turn → ℕ
idled Went = 0
idled Idle = 1
idled (Stop kind) = 0
