-- What is noted of suspension points, one after the other.
use Rattle.std.specs.Prelude.{◌≡◌, ℕ, Bool, true, false, not, ◌&&◌, ◌==◌, nat_lt, if◌then◌else◌, List, length, slice_index_or, slice_set}
use Rattle.co_base.specs.declared.ids.SuspendId.{SuspendId}
use Rattle.co_core_scopes.specs.declared.points.Points.{Points}

-- whether the marks have room for it
abbrev pub has_room : SuspendId → Bool
has_room point = nat_lt point.0 65535

abbrev pub is_unseen : List Bool → SuspendId → Bool
is_unseen seen point = not (slice_index_or seen point.0 false)

abbrev pub noted : Points → SuspendId → Points
noted s point =
    if has_room point
    then record { seen = slice_set s.seen point.0 s.marks; marks = s.marks; differ = (s.differ && not (point.0 == 2)) && is_unseen s.seen point }
    else record { seen = s.seen; marks = s.marks; differ = false }

-- no point is marked
pub record Clear (s : Points) : Type 0 where
  pub size : length s.seen ≡ 65535
  pub none : (k : ℕ) → slice_index_or s.seen k false ≡ false

abbrev pub begun : Points → Bool → Points
begun s marks = record { seen = s.seen; marks = marks; differ = true }
