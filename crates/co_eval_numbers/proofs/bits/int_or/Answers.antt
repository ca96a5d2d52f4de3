use Rattle.std.proofs.Common.{◌≡◌, ap, ◌∙◌, ℤ, rules}
use Rattle.std.specs.Int.{w64}
use Rattle.std.specs.Int.RustNames.{FitsSigned}
use Rattle.std.proofs.lemmas.Int.{to_z-of_z}
use Rattle.co_base.specs.declared.kinds.Num.TheVariants.{Int}
use Rattle.co_base.specs.declared.kinds.Op.TheVariants.{Or}
use Rattle.co_base.specs.Integers.{arith_of, convert_of}
use Rattle.co_eval_numbers.proofs.Reduced.{or_reduced}
use Rattle.co_eval_numbers.proofs.bits.int_or.Goals as goal

-- src/bits.rt:7:1
pub returns : goal.returns
returns c =
    let a : c.convert.result ≡ convert_of Int c.args.a = rw (to_z-of_z w64 c.args.a c.ranges.a) at c.convert.ensures in
    let b : c.convert-2.result ≡ convert_of Int c.args.b = rw (to_z-of_z w64 c.args.b c.ranges.b) at c.convert-2.ensures in
    let fits-a : FitsSigned w64 c.convert.result = record { sfits = c.convert.type_inv } in
    let fits-b : FitsSigned w64 c.convert-2.result = record { sfits = c.convert-2.type_inv } in
    let made : c.arith.result ≡ arith_of Or Int c.convert.result c.convert-2.result = rw (to_z-of_z w64 c.convert.result fits-a, to_z-of_z w64 c.convert-2.result fits-b) at c.arith.ensures in
    made ∙ ap (λ z. arith_of Or Int z c.convert-2.result) a ∙ ap (λ z. arith_of Or Int (convert_of Int c.args.a) z) b ∙ or_reduced c.args.a c.args.b
