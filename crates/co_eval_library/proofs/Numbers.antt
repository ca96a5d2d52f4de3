-- Numbers of words.
use Rattle.std.specs.Prelude.{◌≡◌, ◌≢◌, ℕ, zero, suc}
use Rattle.std.proofs.Common.{refl}
use Rattle.co_core_tree.specs.Sizes.{at_least_one}

pub more_than_none : (n : ℕ) → n ≢ 0 → n ≡ at_least_one n
more_than_none zero some = absurd (some refl)
more_than_none (suc n) some = refl
