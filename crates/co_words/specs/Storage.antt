-- Spare blocks.
use Rattle.std.specs.Prelude.{ℕ, ◌+◌, Bool, false, not, ◌&&◌, ◌||◌, nat_lt, nat_le, ◌==◌, if◌then◌else◌, min, List, [], ◌∷◌, length, Option, Some, None, Result, Ok, Err}
use Rattle.co_words.specs.declared.links.Block.{Block}
use Rattle.co_words.specs.declared.storage.StoreFull.{StoreFull}
use Rattle.co_base.specs.declared.kinds.Undef.{Undef}
use Rattle.co_base.specs.declared.kinds.Undef.TheVariants.{U11}

-- a block of that size is among the blocks
abbrev pub has : ℕ → List Block → Bool
has size [] = false
has size (b ∷ blocks) = b.size == size || has size blocks

-- the block, which comes before those blocks, has that size, and none of them has it
abbrev pub is_last : ℕ → Block → List Block → Bool
is_last size b blocks = b.size == size && not (has size blocks)

-- the place of the newest spare block of that size, which is the last one of that size
abbrev pub newest_of : ℕ → List Block → Option ℕ
newest_of size [] = None
newest_of size (b ∷ blocks) = if is_last size b blocks then Some b.place else newest_of size blocks

-- the list without that block
abbrev pub without : ℕ → List Block → List Block
without size [] = []
without size (b ∷ blocks) = if is_last size b blocks then blocks else b ∷ without size blocks

-- blocks of more than 1,024 words stand together
abbrev pub group : ℕ → ℕ
group size = min size 1025

-- the block joins its group as the newest, before those of a greater group
abbrev pub joined : Block → List Block → List Block
joined b [] = b ∷ []
joined b (c ∷ blocks) = if nat_lt (group b.size) (group c.size) then b ∷ (c ∷ blocks) else c ∷ joined b blocks

-- a block is given up for good where 4,096 are kept already
abbrev pub given : Block → List Block → List Block
given b blocks = if nat_lt (length blocks) 4096 then joined b blocks else blocks

-- the block of that size from the old break on, one word for the size before it, if it ends at the last word or before
abbrev pub made : ℕ → ℕ → ℕ → Result ℕ StoreFull
made old size words = if nat_le (old + (size + 1)) words then Ok (old + 1) else Err (record {})

-- a size word as a block that was taken has it
abbrev pub is_size : ℕ → ℕ → Bool
is_size old words = nat_lt 0 old && nat_le old words

abbrev pub given_answer : ℕ → ℕ → Result (Unit {0}) Undef
given_answer old words = if is_size old words then Ok tt else Err U11

-- the spare blocks once the block at that place, whose size word was old, is given back
abbrev pub given_back : ℕ → ℕ → ℕ → List Block → List Block
given_back old words at blocks = if is_size old words then given (record { size = old; place = at }) blocks else blocks
