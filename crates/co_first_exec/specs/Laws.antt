-- What holds of every run of the machine.
use Rattle.std.specs.Prelude.{◌≡◌, ◌≢◌, ℕ, ◌≤◌, List, length}
use Rattle.co_base.specs.declared.kinds.Limit.TheVariants.{Prints}
use Rattle.co_first_exec.specs.declared.instr.Placed.{Placed}
use Rattle.co_first_exec.specs.declared.instr.Stop.TheVariants.{Running, Budget, Limit}
use Rattle.co_first_exec.specs.declared.local.Local.{Local}
use Rattle.co_first_exec.specs.Opening.{opening}
use Rattle.co_first_exec.specs.Machine.{turns}

-- a stop is an end
abbrev pub StopIsFinal : Type 0
StopIsFinal = (code : List Placed) (n : ℕ) (l : Local) → l.stop ≢ Running → turns code n l ≡ l

-- the budget and the limit on prints are kept, and end a run only where they are reached
pub record KeepsLimits (budget : ℕ) (l : Local) : Type 0 where
  pub made : l.made ≤ budget
  pub spent : l.stop ≡ Budget → l.made ≡ budget
  pub prints : length l.prints ≤ 65536
  pub full : l.stop ≡ Limit Prints → length l.prints ≡ 65536

abbrev pub LimitsHold : Type 0
LimitsHold = (code : List Placed) (slots budget n : ℕ) → KeepsLimits budget (turns code n (opening slots budget))
