-- What one access to the words of a run reads and leaves.
use Rattle.std.specs.Prelude.{ℕ, ◌+◌, ◌%◌, ◌^◌, ◌≡◌, ◌==◌, List, slice_index, slice_set}
use prog.Atomic.{either}
use Rattle.co_words.specs.declared.access.Access.{Access}
use Rattle.co_words.specs.declared.access.Access.TheVariants.{Load, Store, Swap, Add, Cas}

-- the place of the word that the access is to
abbrev pub place : Access → ℕ
place (Load at) = at
place (Store at v) = at
place (Swap at v) = at
place (Add at v) = at
place (Cas at was v) = at

-- the word that the access leaves where it found the word n
abbrev pub put : Access → ℕ → ℕ
put (Load at) n = n
put (Store at v) n = v
put (Swap at v) n = v
put (Add at v) n = (n + v) % 2 ^ 64
put (Cas at was v) n = either (n == was) v n

-- what the access answers where it found the word n: that word, and nothing, written 0, for a store
abbrev pub answer : Access → ℕ → ℕ
answer (Load at) n = n
answer (Store at v) n = 0
answer (Swap at v) n = n
answer (Add at v) n = n
answer (Cas at was v) n = n

-- the words after the access
abbrev pub after : List ℕ → Access → List ℕ
after words a = slice_set words (place a) (put a (slice_index words (place a)))

-- words and us are the words before and after the access a, which answered r
abbrev pub Makes : List ℕ → Access → ℕ → List ℕ → Type 0
Makes words a r us = (r ≡ answer a (slice_index words (place a))) × (us ≡ after words a)
