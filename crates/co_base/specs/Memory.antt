-- The files and the sink that lie in memory: what each call does, by the state before it.
use Rattle.std.specs.Prelude.{ℕ, ◌-◌, ◌==◌, ◌&&◌, ◌||◌, nat_lt, nat_le, min, Bool, if◌then◌else◌, Option, Some, is_none, List, [], ◌++◌, length, take}
use Rattle.std.specs.List.{list_any}
use Rattle.std.specs.BTreeMap.{get_by_text}
use Rattle.std.specs.Str.{bytes_eq}
use Rattle.co_base.specs.Outside.{one_more}
use Rattle.co_base.specs.declared.mem_files.MemFiles.{MemFiles}

-- The bytes held under a name.
abbrev pub held_at : MemFiles → List ℕ → Option (List ℕ)
held_at m name = get_by_text m.held name

-- What is held after these bytes were added under this name.
abbrev pub with_file : (List ℕ → Option (List ℕ)) → List ℕ → List ℕ → List ℕ → Option (List ℕ)
with_file told name bytes q = if bytes_eq name q then Some bytes else told q

-- Whether the call of this number is one of those that were chosen to fail.
abbrev pub is_chosen : List ℕ → ℕ → Bool
is_chosen chosen call = list_any (λ n. n == call) chosen

-- Whether a read of this name fails now: its number was chosen, or the name isn't held.
abbrev pub read_fails : MemFiles → List ℕ → Bool
read_fails m name = is_chosen m.failing.items m.calls || is_none (held_at m name)

-- How many bytes a read at `at` gives, of a file of `size` bytes and into `room` bytes.
abbrev pub read_count : ℕ → ℕ → ℕ → ℕ
read_count size at room = min room (size - at)

-- A sink in memory: what it has taken, how much it takes in all and at most in one call, the
-- numbers of the calls that were chosen to fail, and how many calls were made and failed.
pub record MemorySink : Type 0 where
  pub taken : List ℕ
  pub room : ℕ
  pub most : ℕ
  pub failing : List ℕ
  pub calls : ℕ
  pub faults : ℕ

-- a sink with this room that takes at most so many bytes in one call, as it is made
abbrev pub fresh_sink : ℕ → ℕ → MemorySink
fresh_sink room most = record { taken = []; room = room; most = most; failing = []; calls = 0; faults = 0 }

-- Whether a write of this piece fails now: its number was chosen, or the piece isn't empty and
-- there is no room left.
abbrev pub write_fails : MemorySink → List ℕ → Bool
write_fails s piece = is_chosen s.failing s.calls || (nat_lt 0 (length piece) && nat_le s.room (length s.taken))

-- How many bytes of the piece a write takes: what fits.
abbrev pub write_count : MemorySink → List ℕ → ℕ
write_count s piece = min (min (length piece) s.most) (s.room - length s.taken)

-- The sink after a write of this piece.
abbrev pub after_write : MemorySink → List ℕ → MemorySink
after_write s piece =
    if write_fails s piece then record s { calls = one_more s.calls; faults = one_more s.faults }
    else record s { calls = one_more s.calls; taken = s.taken ++ take (write_count s piece) piece }
