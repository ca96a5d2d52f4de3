use Rattle.std.proofs.Common.{◌≡◌, ap, sym, ◌∙◌, ℤ, ◌+ℤ◌, rules}
use Rattle.std.specs.Int.{w64}
use Rattle.std.specs.Int.RustNames.{FitsSigned}
use Rattle.std.proofs.lemmas.Int.{to_z-of_z}
use Rattle.co_base.specs.declared.kinds.Num.TheVariants.{Int}
use Rattle.co_base.specs.Integers.{convert_of}
use Rattle.co_eval_numbers.proofs.Reduced.{sum_reduced}
use Rattle.co_eval_numbers.proofs.sums.plus.Goals as goal

-- src/sums.rt:86:1
pub returns-in-Int : goal.returns-in-Int
returns-in-Int c =
    let a : c.convert.result ≡ convert_of Int c.args.a = rw (to_z-of_z w64 c.args.a c.ranges.a) at c.convert.ensures in
    let b : c.convert-in-Int.result ≡ convert_of Int c.args.b = rw (to_z-of_z w64 c.args.b c.ranges.b) at c.convert-in-Int.ensures in
    let fits-a : FitsSigned w64 c.convert.result = record { sfits = c.convert.type_inv } in
    let fits-b : FitsSigned w64 c.convert-in-Int.result = record { sfits = c.convert-in-Int.type_inv } in
    let fits : FitsSigned w64 c.int_sum.result = record { sfits = c.int_sum.type_inv } in
    let made : c.int_sum.result ≡ convert_of Int (c.convert.result +ℤ c.convert-in-Int.result) = rw (to_z-of_z w64 c.convert.result fits-a, to_z-of_z w64 c.convert-in-Int.result fits-b) at c.int_sum.ensures in
    to_z-of_z w64 c.int_sum.result fits
    ∙ made
    ∙ ap (λ z. convert_of Int (z +ℤ c.convert-in-Int.result)) a
    ∙ ap (λ z. convert_of Int (convert_of Int c.args.a +ℤ z)) b
    ∙ sum_reduced c.args.a c.args.b
    ∙ ap (λ n. convert_of n (c.args.a +ℤ c.args.b)) (sym c.in-Int.is)
