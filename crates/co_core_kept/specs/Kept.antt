-- Which slots keep values, and how far these have been matched after some acts.
use Rattle.std.specs.Prelude.{ℕ, zero, suc, ◌-◌, Bool, not, ◌&&◌, nat_lt, if◌then◌else◌, slice_get}
use Rattle.co_types.specs.declared.types.CoType.{CoType}
use Rattle.co_core_tree.specs.declared.units.CoreFunc.{CoreFunc}
use Rattle.co_core_tree.specs.Acts.{Act, Does, Keeps, Part, Passes, Starts}
use Rattle.co_core_tree.specs.Slots.{is_held}
use Rattle.co_core_typing.specs.Tables.{type_of_slot}
use Rattle.co_core.specs.Counts.{keeps_part}
use Rattle.co_core_kept.specs.declared.held.Keeping.{Keeping}
use Rattle.co_core_kept.specs.declared.holders.Holders.{Holders}
use Rattle.co_core_kept.specs.Marked.{has_mark}

module _ (func : CoreFunc) (holders : Holders) where
  -- a slot of kind Held that is no holder
  abbrev pub keeps_value : ℕ → Bool
  keeps_value k = is_held (slice_get func.slots k) && not (has_mark holders k)

  -- how many slots there are up to the last one below this number that keeps a value
  abbrev pub last_keeping : ℕ → ℕ
  last_keeping zero = zero
  last_keeping (suc k) = if keeps_value k then suc k else last_keeping k

abbrev pub type_at : CoreFunc → ℕ → CoType
type_at func k = type_of_slot (slice_get func.slots k)

-- after the value of a part, which the last of these slots keeps
abbrev pub matched : Keeping → ℕ → Part → Keeping
matched s count part = record s { left = count - 1; fits = s.fits && (nat_lt 0 count && keeps_part s.scene.unit.now s.scene.func.now (type_at s.scene.func.now (count - 1)) part) }

abbrev pub kept_after : Keeping → Act → Keeping
kept_after s (Does conditional e) = s
kept_after s (Passes e) = s
kept_after s (Starts i) = s
kept_after s (Keeps part) = matched s (last_keeping s.scene.func.now s.holders s.left) part
