-- The state in which a run begins.
use Rattle.std.specs.Prelude.{ℕ, [], replicate}
use Rattle.co_first_exec.specs.declared.local.Local.{Local}
use Rattle.co_first_exec.specs.declared.instr.Stop.TheVariants.{Running}

-- how many words a run has: one worker's stack
unfoldable pub stack_words : ℕ
stack_words = 16384

-- at place 0, with the slots from the first word on and the stack above them
abbrev pub opening : ℕ → ℕ → Local
opening slots budget = record {
  place = 0;
  a = 0;
  b = 0;
  fp = 0;
  sp = slots;
  made = 0;
  budget = budget;
  stop = Running;
  words = replicate stack_words 0;
  prints = [];
}
