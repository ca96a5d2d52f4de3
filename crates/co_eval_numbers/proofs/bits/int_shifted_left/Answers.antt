use Rattle.std.proofs.Common.{◌≡◌, ap, ◌∙◌, ℤ, rules}
use Rattle.std.specs.Int.{w64}
use Rattle.std.specs.Int.RustNames.{FitsSigned}
use Rattle.std.proofs.lemmas.Int.{to_z-of_z}
use Rattle.co_base.specs.declared.kinds.Num.TheVariants.{Int}
use Rattle.co_base.specs.declared.kinds.Op.TheVariants.{Shl}
use Rattle.co_base.specs.Integers.{arith_of, convert_of}
use Rattle.co_eval_numbers.proofs.Reduced.{shifted_reduced}
use Rattle.co_eval_numbers.proofs.bits.int_shifted_left.Goals as goal

pub returns : goal.returns
returns c =
    let a : c.convert.result ≡ convert_of Int c.args.a = rw (to_z-of_z w64 c.args.a c.ranges.a) at c.convert.ensures in
    let fits-a : FitsSigned w64 c.convert.result = record { sfits = c.convert.type_inv } in
    let made : c.arith.result ≡ arith_of Shl Int c.convert.result c.args.count = rw (to_z-of_z w64 c.convert.result fits-a, to_z-of_z w64 c.args.count c.ranges.count) at c.arith.ensures in
    made ∙ ap (λ z. arith_of Shl Int z c.args.count) a ∙ shifted_reduced c.args.a c.args.count
