-- Integers that are not 0.
use Rattle.std.specs.Prelude.{◌≡◌, ◌≢◌, zero, suc, false, ℤ, pos}
use Rattle.std.proofs.Common.{refl}
use Rattle.co_meaning_calls.specs.Coroutines.{is_zero}

pub other : (z : ℤ) → z ≢ pos 0 → is_zero z ≡ false
other (pos zero) is = absurd (is refl)
other (pos (suc n)) is = refl
other z is = refl
