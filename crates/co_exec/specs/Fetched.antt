-- Where an instruction is due.
use Rattle.std.specs.Prelude.{◌≡◌, ◌<◌}
use Rattle.co_code.specs.declared.image.Image.{Image}
use Rattle.co_code.specs.declared.instr.Instr.{Instr}
use Rattle.co_machine.specs.declared.state.State.{State}
use Rattle.co_machine.specs.Check.{checked}
use Rattle.co_machine.specs.Turn.{due}
use Rattle.co_machine.specs.Values.{span_at}

-- the instruction is due, and only its own tests are left
pub record IsFetched (image : Image) (s : State) (i : Instr) : Type 0 where
  pub is_due : due image s ≡ checked image s.limits s.control (span_at image s.control.pc) i
  pub place : s.control.pc < 4294967295
  pub allowed : s.tally.instructions < s.limits.budget
