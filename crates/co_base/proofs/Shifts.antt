-- A shift to the left is the product by a power of two, reduced.
use Rattle.std.proofs.Common.{◌≡◌, ℕ, ◌^◌, ◌<◌, ℤ, pos, negsuc, ◌*ℤ◌, ap, sym, subst, ◌∙◌, arith, ◌⊎◌, inl, inr}
use Rattle.std.specs.Prelude.{Some, Option}
use Rattle.std.specs.Option.{option_map}
use Rattle.std.specs.Int.{Width, w32, w64, int_shl, int_wrap, cast_signed, cast_unsigned}
use Rattle.std.specs.Int.RustNames.{FitsSigned}
use mir.Val.{bits}
use mir.ValLaws.{of_z_fits}
use Rattle.std.proofs.Math.Facts.{Fits-lt-pow}
use Rattle.std.proofs.Math.Nat.{mod-eq_of_lt}
use Rattle.std.proofs.Math.Pow.{pow-lt}
use Rattle.std.proofs.lemmas.Bool.Decides.{nat_tests}
use Rattle.std.proofs.lemmas.Int.{wrapping_mul-bits, to_z-of_z, int_wrap-mul_right}
use Rattle.co_base.specs.declared.kinds.Num.{Num}
use Rattle.co_base.specs.declared.kinds.Num.TheVariants.{Int, Long, Size}
use Rattle.co_base.specs.declared.kinds.Op.TheVariants.{Shl}
use Rattle.co_base.specs.Integers.{arith_of, bit_count, held, reduced, shift_count, value_of}

wrap_pos : (w : Width) (n : ℕ) → n < 2 ^ bits w → int_wrap w (pos n) ≡ cast_signed w n
unfolding int_wrap
wrap_pos w n h = ap (cast_signed w) (mod-eq_of_lt h)

shl_is : (w : Width) (x : ℤ) (k : ℕ) → FitsSigned w x → k < bits w → int_shl w x k ≡ int_wrap w (x *ℤ pos (2 ^ k))
shl_is w x k fits below =
    let small : 2 ^ k < 2 ^ bits w = pow-lt below in
    let word : cast_unsigned w x < 2 ^ bits w = Fits-lt-pow (of_z_fits w x fits) in
    wrapping_mul-bits w (cast_unsigned w x) (2 ^ k) word small
    ∙ ap (λ y. int_wrap w (y *ℤ cast_signed w (2 ^ k))) (to_z-of_z w x fits)
    ∙ ap (λ y. int_wrap w (x *ℤ y)) (sym (wrap_pos w (2 ^ k) small))
    ∙ int_wrap-mul_right w x (pos (2 ^ k))

count_below : (num : Num) (k : ℤ) (n : ℕ) → Some n ≡ shift_count num k → n < bit_count num
count_below num (negsuc k) n h = cc
count_below num (pos k) n h = grind (arith, nat_tests)

-- a shift is computed from its count
shl_by_count : (num : Num) (a k : ℤ) (n : ℕ) → Some n ≡ shift_count num k
    → arith_of Shl num a k ≡ Some (held num (reduced num (value_of num a *ℤ pos (2 ^ n))))
shl_by_count num a k n count =
    ap (λ (c : Option ℕ). option_map (held num) (option_map (λ m. reduced num (value_of num a *ℤ pos (2 ^ m))) c)) (sym count)

pub shl_wide : (num : Num) (a k : ℤ) (n : ℕ) → (num ≡ Long) ⊎ (num ≡ Size) → FitsSigned w64 a → Some n ≡ shift_count num k
    → Some (int_shl w64 a n) ≡ arith_of Shl num a k
unfolding int_wrap
shl_wide num a k n (inl is) fits count =
    let at_long : Some n ≡ shift_count Long k = subst (λ (m : Num). Some n ≡ shift_count m k) is count in
    rw is (ap (λ (z : ℤ). Some z) (shl_is w64 a n fits (count_below Long k n at_long)) ∙ sym (shl_by_count Long a k n at_long))
shl_wide num a k n (inr is) fits count =
    let at_size : Some n ≡ shift_count Size k = subst (λ (m : Num). Some n ≡ shift_count m k) is count in
    rw is (sym (shl_by_count Size a k n at_size))

pub shl_int : (num : Num) (a k : ℤ) (n : ℕ) → num ≡ Int → FitsSigned w32 a → Some n ≡ shift_count num k
    → Some (int_shl w32 a n) ≡ arith_of Shl num a k
unfolding int_wrap
shl_int num a k n is fits count =
    let at_int : Some n ≡ shift_count Int k = subst (λ (m : Num). Some n ≡ shift_count m k) is count in
    rw is (ap (λ (z : ℤ). Some z) (shl_is w32 a n fits (count_below Int k n at_int)) ∙ sym (shl_by_count Int a k n at_int))
