-- What it means that the code of a program does what the program does.
use Rattle.std.specs.Prelude.{◌≡◌, ◌≢◌, ℕ, ◌+◌, ◌*◌, ◌≤◌, List, length, pos}
use Rattle.co_base.specs.declared.kinds.Undef.TheVariants.{U5}
use Rattle.co_base.specs.declared.kinds.Limit.TheVariants.{Prints}
use Rattle.co_first_tree.specs.declared.tree.Program.{Program}
use Rattle.co_first_exec.specs.declared.instr.Placed.{Placed}
use Rattle.co_first_exec.specs.declared.instr.Stop.{Stop}
use Rattle.co_first_exec.specs.declared.instr.Stop.TheVariants.{Running, Main, Undefined, Budget, Limit}
use Rattle.co_first_exec.specs.declared.local.Local.{Local}
use Rattle.co_first_exec.specs.Opening.{opening}
use Rattle.co_first_exec.specs.Machine.{turns}
use Rattle.co_first_exec.specs.Laws.{KeepsLimits}
use Rattle.co_first_meaning.specs.Meaning.{Doing, Evaluate, Extend, Give, Next, Ended, Failed, Config, steps, start, doing_of, printed}

-- the program has more to do
abbrev pub IsGoing : Doing → Type 0
IsGoing (Evaluate sum purpose) = Unit {0}
IsGoing (Extend left terms span purpose) = Unit {0}
IsGoing (Give value purpose) = Unit {0}
IsGoing Next = Unit {0}
IsGoing Ended = ⊥
IsGoing (Failed span) = ⊥

-- `main` has returned 0 where the program has ended; the act U5 stands at the sum where the program failed; while the
-- run goes on, and where the budget or the room for prints ended it, the program has more to do; and nothing else ends a run
abbrev pub Ends : Stop → Doing → Type 0
Ends Running doing = IsGoing doing
Ends (Main value) doing = (value ≡ pos 0) × (doing ≡ Ended)
Ends (Undefined kind span) doing = (kind ≡ U5) × (doing ≡ Failed span)
Ends Budget doing = IsGoing doing
Ends (Limit limit) doing = (limit ≡ Prints) × IsGoing doing

-- a state of the machine and one of the program have printed the same and are at the same end, if at any
pub record Agree (local : Local) (config : Config) : Type 0 where
  pub prints : local.prints ≡ printed config
  pub ends : Ends local.stop (doing_of config)

-- the state of a run of the code after n turns
abbrev pub after_turns : Program → List Placed → ℕ → ℕ → Local
after_turns program code budget n = turns code n (opening (length program.names) budget)

-- with any budget, after any number of turns, there is a number of steps of the program that has come to the same, and
-- each step takes at most five instructions
abbrev pub IsFaithful : Program → List Placed → Type 0
IsFaithful program code =
    (budget n : ℕ) → (m : ℕ) × Agree (after_turns program code budget n) (steps m (start program)) × ((after_turns program code budget n).made ≤ 5 * (m + 1))

-- the state is that of a run of faithful code, which has stopped where the program is after these steps
pub record Ran (program : Program) (budget : ℕ) (local : Local) : Type 0 where
  pub code : List Placed
  pub faithful : IsFaithful program code
  pub turns_made : ℕ
  pub local_is : local ≡ after_turns program code budget turns_made
  pub stopped : local.stop ≢ Running
  pub steps_made : ℕ
  pub agree : Agree local (steps steps_made (start program))
  pub few : local.made ≤ 5 * (steps_made + 1)
  pub limits : KeepsLimits budget local
