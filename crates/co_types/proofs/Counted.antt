-- A class of a table has no more members than there are numbers for.
use Rattle.std.specs.Prelude.{◌≡◌, ℕ, List, All, slice_get, Some}
use Rattle.std.proofs.Common.{subst}
use Rattle.std.proofs.lemmas.Option.{slice_get_within, get_or_from_slice_get}
use Rattle.std.proofs.lemmas.List.Elements.{All-get_or}
use Rattle.co_types.specs.declared.classes.ClassInfo.{ClassInfo}
use Rattle.co_types.specs.Classes.{IsCounted}

pub counted_at : (classes : List ClassInfo) (k : ℕ) (info : ClassInfo) → All IsCounted classes → slice_get classes k ≡ Some info → IsCounted info
counted_at classes k info all found =
    subst IsCounted (get_or_from_slice_get classes k info info found)
    (All-get_or IsCounted classes k info (slice_get_within classes k info found) all)
