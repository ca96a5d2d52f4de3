-- A measure of two values falls where that of each does.
use Rattle.std.proofs.Common.{◌+◌, ◌*◌, ℕ, ◌<◌, max, arith}

pub both_fall : (a b t : ℕ) → 8 * a + 6 < t → 8 * b + 6 < t → 8 * max a b + 6 < t
both_fall a b t p q = omega arith
