-- What a turn may rely on that does what is due: its access lies within the words, and what it raises has room.
use Rattle.std.specs.Prelude.{ℕ, ◌+◌, ◌^◌, ◌≡◌, ◌<◌, ◌≤◌, length, Option, Some, None}
use Rattle.co_code.specs.declared.instr.Instr.{Instr}
use Rattle.co_code.specs.declared.instr.Instr.TheVariants as op
use Rattle.co_machine.specs.declared.due.Due.{Due}
use Rattle.co_machine.specs.declared.due.Due.TheVariants as act
use Rattle.co_machine.specs.declared.limits.Limits.{Limits}
use Rattle.co_machine.specs.declared.state.Control.{Control}
use Rattle.co_machine.specs.declared.state.Tally.{Tally}
use Rattle.co_words.specs.declared.access.Access.{Access}
use Rattle.co_words.specs.Words.{place}
use Rattle.co_machine.specs.Check.{asked}

-- the access, where there is one, is to a word other than 0 of so many
abbrev pub IsWithin : Option Access → ℕ → Type 0
IsWithin None size = Unit {0}
IsWithin (Some a) size = (1 ≤ place a) × (place a < size)

-- the access, where there is one, is to this word
abbrev pub IsTo : Option Access → ℕ → Type 0
IsTo None to = Unit {0}
IsTo (Some a) to = place a ≡ to

-- what the instruction adds to, or to which list it adds, has room
abbrev pub HasRoom : Instr → Control → Type 0
HasRoom op.Push k = k.sp + 1 < 2 ^ 64
HasRoom (op.Raise n) k = k.sp + n < 2 ^ 64
HasRoom op.Take k = asked k + 1 < 2 ^ 64
HasRoom op.Resume k = length k.below < 1023
HasRoom op.Destroy k = length k.below < 1023
HasRoom (op.Begin place) k = length k.below < 1023
HasRoom op.Print k = length k.prints < 65536
HasRoom (op.Lit n) k = length k.prints < 65536
HasRoom i k = Unit {0}

abbrev pub IsReady : Due → Control → Type 0
IsReady (act.ResumeTaken handle) k = length k.below < 1023
IsReady act.Pass k = k.pc < 4294967295
IsReady (act.Reuse size place) k = k.pc < 4294967295
IsReady (act.Call entry words) k = (k.pc < 4294967295) × (k.sp + words < 2 ^ 64) × (length k.below < 1023)
IsReady (act.Park word) k = k.pc < 4294967295
IsReady (act.Do i) k = (k.pc < 4294967295) × HasRoom i k
IsReady d k = Unit {0}

-- whether what is due is counted as an instruction
abbrev pub IsAllowed : Due → Limits → Tally → Type 0
IsAllowed act.Rest limits t = Unit {0}
IsAllowed (act.Stamp kind) limits t = Unit {0}
IsAllowed (act.Halt stamp kind) limits t = Unit {0}
IsAllowed act.LoadStop limits t = Unit {0}
IsAllowed act.LookStop limits t = Unit {0}
IsAllowed act.LookMain limits t = Unit {0}
IsAllowed act.LookCell limits t = Unit {0}
IsAllowed act.Spent limits t = Unit {0}
IsAllowed d limits t = t.instructions < limits.budget

-- the limits lie in their ranges, and the counts in the budget: no count passes that of the instructions
pub record IsSteady (limits : Limits) (t : Tally) : Type 0 where
  pub least_words : 2097152 ≤ limits.words
  pub most_words : limits.words ≤ 16777216
  pub budget : limits.budget ≤ 1099511627776
  pub instructions : t.instructions ≤ limits.budget
  pub since : t.since ≤ t.instructions
  pub frames_made : t.frames_made ≤ t.instructions
  pub frames_ended : t.frames_ended ≤ t.instructions
  pub born : t.born ≤ t.instructions
  pub died : t.died ≤ t.instructions

-- the limits lie in their ranges
abbrev pub IsInRange : Limits → Type 0
IsInRange limits =
    (2097152 ≤ limits.words) × (limits.words ≤ 16777216) × (1 ≤ limits.workers) × (limits.workers ≤ 64) × (1 ≤ limits.budget) × (limits.budget ≤ 1099511627776)

-- what an access makes of words that are told by `gives`, or nothing where there is none
abbrev pub MakesBy : {W : Type 0} → (W → Access → ℕ → W → Type 0) → W → Option Access → ℕ → W → Type 0
MakesBy gives before None old now = (old ≡ 0) × (now ≡ before)
MakesBy gives before (Some a) old now = gives before a old now
