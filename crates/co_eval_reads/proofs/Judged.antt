-- Acts one after the other.
use Rattle.std.specs.Prelude.{◌≡◌, Bool, true, false, ◌||◌}
use Rattle.std.proofs.Common.{refl}

pub null_next : (b c : Bool) → b ≡ false → (b || c) ≡ c
null_next true c e = absurd (cc e)
null_next false c e = refl
