use Rattle.std.proofs.Common.{◌≡◌, ap, ◌∙◌, ℤ, rules}
use Rattle.std.specs.Prelude.{Some}
use Rattle.std.specs.Int.{w32, w64, int_shl}
use Rattle.std.specs.Int.RustNames.{FitsSigned}
use Rattle.std.proofs.lemmas.Int.{to_z-of_z}
use Rattle.co_base.proofs.Shifts.{shl_int, shl_wide}
use Rattle.co_base.proofs.integers.shift_left.Goals as goal

pub returns-in-Int : goal.returns-in-Int
returns-in-Int c =
    let fits : FitsSigned w64 c.from.result = record { sfits = c.from.type_inv } in
    let shifted : c.from.result ≡ int_shl w32 c.args.a c.in_ok-count.count = rw (to_z-of_z w64 c.args.a c.ranges.a) at c.from.ensures in
    let count = rw (to_z-of_z w64 c.args.k c.ranges.k) at c.in_ok-count.ensures in
    let left : FitsSigned w32 c.args.a = search rules in
    ap (λ (z : ℤ). Some z) (to_z-of_z w64 c.from.result fits ∙ shifted)
    ∙ shl_int c.args.num c.args.a c.args.k c.in_ok-count.count c.in-Int.is left count

pub returns-in-Long : goal.returns-in-Long
returns-in-Long c =
    let count = rw (to_z-of_z w64 c.args.k c.ranges.k) at c.in_ok-count.ensures in
    shl_wide c.args.num c.args.a c.args.k c.in_ok-count.count c.in-Long.is c.ranges.a count
