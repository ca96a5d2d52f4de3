-- What the traits for the outside say of one call, and what many calls come to.
use Rattle.std.specs.Prelude.{ℕ, ◌+◌, ◌-◌, ◌^◌, ◌<◌, ◌≤◌, ◌≡◌, ◌⊎◌, min, Option, None, Some, List, ◌++◌, length, take, drop}
use Rattle.co_base.specs.declared.outside.ReadFault.{ReadFault}
use Rattle.co_base.specs.declared.outside.ReadFault.TheVariants.{Failed, NoMemory}

-- A count of faults is higher than it was, or it stands at 2^64 - 1, where it stays.
abbrev pub HasRisen : ℕ → ℕ → Type 0
HasRisen old new = (old < new) ⊎ ((old ≡ 2 ^ 64 - 1) × (new ≡ 2 ^ 64 - 1))

-- The number after one more call or fault: it stays at 2^64 - 1 once it is reached.
abbrev pub one_more : ℕ → ℕ
one_more n = min (n + 1) (2 ^ 64 - 1)

-- A read at `at` that answered n: the first n bytes of `into` are the file's from `at` on, and
-- where there was room and n is 0, the file ends at `at` or before it.
abbrev pub Reads : Option (List ℕ) → ℕ → ℕ → List ℕ → Type 0
Reads None at n into = Unit {0}
Reads (Some bytes) at n into = (take n into ≡ take n (drop at bytes)) × (n ≡ 0 → 0 < length into → length bytes ≤ at)

-- What was read from the start of a file is its bytes, or its first `most` bytes where it has more.
abbrev pub HoldsFirst : Option (List ℕ) → ℕ → List ℕ → Type 0
HoldsFirst None most read = Unit {0}
HoldsFirst (Some bytes) most read = read ≡ take most bytes

-- A sink that told what it had taken has taken these further bytes and nothing else, and tells it.
abbrev pub Takes : Option (List ℕ) → List ℕ → Option (List ℕ) → Type 0
Takes None more new = Unit {0}
Takes (Some bytes) more new = new ≡ Some (bytes ++ more)

-- It has taken the first bytes of the piece, all of them, some or none, and nothing else.
abbrev pub TakesFront : Option (List ℕ) → List ℕ → Option (List ℕ) → Type 0
TakesFront old piece new = (n : ℕ) × (n ≤ length piece) × Takes old (take n piece) new

-- What goes with each fault of `read_all`, by the counts of faults before and after: a read that
-- failed has raised the count, and without memory no read has failed.
abbrev pub HasCause : ReadFault → ℕ → ℕ → Type 0
HasCause Failed old new = HasRisen old new
HasCause NoMemory old new = new ≡ old
