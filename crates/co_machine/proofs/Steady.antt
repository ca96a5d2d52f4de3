-- No count passes that of the instructions, and the instructions stay in the budget.
use Rattle.std.proofs.Common.{ℕ, ◌<◌, Bool, true, false, arith}
use Rattle.std.specs.Prelude.{◌==◌, if◌then◌else◌}
use Rattle.co_code.specs.declared.instr.Instr.{Instr}
use Rattle.co_code.specs.declared.instr.Instr.TheVariants as op
use Rattle.co_machine.specs.declared.due.Due.{Due}
use Rattle.co_machine.specs.declared.due.Due.TheVariants as act
use Rattle.co_machine.specs.declared.limits.Limits.{Limits}
use Rattle.co_machine.specs.declared.state.Tally.{Tally}
use Rattle.co_machine.specs.declared.stop.Looked.{Looked}
use Rattle.co_machine.specs.declared.stop.Looked.TheVariants as looked
use Rattle.co_machine.specs.Ready.{IsAllowed, IsSteady}
use Rattle.co_machine.specs.Turn.{counted, counted_with, looked_round, tallied}

counted_steady : (limits : Limits) (t : Tally) → IsSteady limits t → t.instructions < limits.budget → IsSteady limits (counted t)
counted_steady limits t s h = record {
  least_words = s.least_words;
  most_words = s.most_words;
  budget = s.budget;
  instructions = omega arith;
  since = omega arith;
  frames_made = omega arith;
  frames_ended = omega arith;
  born = omega arith;
  died = omega arith;
}

with_steady : (limits : Limits) (i : Instr) (t : Tally) → IsSteady limits t → t.instructions < limits.budget → IsSteady limits (counted_with i t)
with_steady limits op.Made t s h = record {
  least_words = s.least_words;
  most_words = s.most_words;
  budget = s.budget;
  instructions = omega arith;
  since = omega arith;
  frames_made = omega arith;
  frames_ended = omega arith;
  born = omega arith;
  died = omega arith;
}
with_steady limits op.Ended t s h = record {
  least_words = s.least_words;
  most_words = s.most_words;
  budget = s.budget;
  instructions = omega arith;
  since = omega arith;
  frames_made = omega arith;
  frames_ended = omega arith;
  born = omega arith;
  died = omega arith;
}
with_steady limits op.Born t s h = record {
  least_words = s.least_words;
  most_words = s.most_words;
  budget = s.budget;
  instructions = omega arith;
  since = omega arith;
  frames_made = omega arith;
  frames_ended = omega arith;
  born = omega arith;
  died = omega arith;
}
with_steady limits op.Died t s h = record {
  least_words = s.least_words;
  most_words = s.most_words;
  budget = s.budget;
  instructions = omega arith;
  since = omega arith;
  frames_made = omega arith;
  frames_ended = omega arith;
  born = omega arith;
  died = omega arith;
}
with_steady limits i t s h = counted_steady limits t s h

reset_steady : (limits : Limits) (found : Bool) (t : Tally) → IsSteady limits t → IsSteady limits (if found then record t { since = 0 } else t)
reset_steady limits true t s = record {
  least_words = s.least_words;
  most_words = s.most_words;
  budget = s.budget;
  instructions = s.instructions;
  since = omega arith;
  frames_made = s.frames_made;
  frames_ended = s.frames_ended;
  born = s.born;
  died = s.died;
}
reset_steady limits false t s = s

round_steady : (limits : Limits) (seen : Looked) (t : Tally) → IsSteady limits t → IsSteady limits (looked_round seen t)
round_steady limits looked.Empty t s = record {
  least_words = s.least_words;
  most_words = s.most_words;
  budget = s.budget;
  instructions = s.instructions;
  since = s.since;
  frames_made = s.frames_made;
  frames_ended = s.frames_ended;
  born = s.born;
  died = s.died;
}
round_steady limits (looked.Found handle) t s = s
round_steady limits looked.Next t s = s

-- whatever is due, if it is counted only while the budget lasts
pub steady : (limits : Limits) (d : Due) (seen : Looked) (old : ℕ) (t : Tally) → IsSteady limits t → IsAllowed d limits t → IsSteady limits (tallied d seen old t)
steady limits act.Rest seen old t s h = s
steady limits (act.Stamp kind) seen old t s h = s
steady limits (act.Halt stamp kind) seen old t s h = s
steady limits act.LoadStop seen old t s h = reset_steady limits (old == 0) t s
steady limits act.LookStop seen old t s h = reset_steady limits (old == 0) t s
steady limits act.LookMain seen old t s h = s
steady limits act.LookCell seen old t s h = round_steady limits seen t s
steady limits act.Spent seen old t s h = s
steady limits (act.Do i) seen old t s h = with_steady limits i t s h
steady limits d seen old t s h = counted_steady limits t s h
