-- Integers that are reduced to an `int` have the bits of what they were.
use Rattle.std.proofs.Common.{◌≡◌, ℕ, suc, ◌-◌, ◌^◌, ◌<◌, ◌*ℤ◌, ◌+ℤ◌, ◌-ℤ◌, ℤ, pos, negsuc, refl, ap, sym, ◌∙◌, arith, Bool, true, false}
use Rattle.std.specs.Prelude.{nat_lt, Option, None, Some, bit_and, bit_or, bit_xor}
use Rattle.std.specs.Option.{option_map}
use Rattle.std.specs.Int.{w32, cast_signed, int_wrap}
use Rattle.std.proofs.lemmas.Int.{ints, SFits-int_wrap, int_wrap-add_left, int_wrap-add_right, int_wrap-mul_left, int_wrap-sub_right}
use Rattle.std.proofs.Math.IntN.{neg_ℤ}
use mir.Val.{sel}
use Rattle.co_base.specs.declared.kinds.Num.TheVariants.{Int}
use Rattle.co_base.specs.declared.kinds.Op.TheVariants.{And, Or, Xor, Shl}
use Rattle.co_base.specs.Integers.{IsValue, arith_of, convert_of, held, of_residue, reduced, residue, shift_count}
use Rattle.co_base.proofs.Ranges.{residue_below}

pub is_int : (z : ℤ) → IsValue Int (convert_of Int z)
unfolding int_wrap
is_int z = SFits-int_wrap w32 z

of_bits : (n : ℕ) → n < 2 ^ 32 → residue Int (cast_signed w32 n) ≡ n
of_bits n below = by_test (nat_lt n (2 ^ 31))
  where
    by_test : (b : Bool) → residue Int (sel b (pos n) (negsuc (2 ^ 32 - suc n))) ≡ n
    by_test true = omega (arith, ints)
    by_test false = omega (arith, ints)

same_bits : (z : ℤ) → residue Int (convert_of Int z) ≡ residue Int z
same_bits z = of_bits (residue Int z) (residue_below Int z)

on_same_bits : (f : ℕ → ℕ → ℕ) (a b : ℤ) → of_residue Int (f (residue Int (convert_of Int a)) (residue Int (convert_of Int b))) ≡ of_residue Int (f (residue Int a) (residue Int b))
on_same_bits f a b = ap (λ n. of_residue Int (f n (residue Int (convert_of Int b)))) (same_bits a) ∙ ap (λ n. of_residue Int (f (residue Int a) n)) (same_bits b)

pub and_reduced : (a b : ℤ) → arith_of And Int (convert_of Int a) (convert_of Int b) ≡ arith_of And Int a b
and_reduced a b = ap (λ (z : ℤ). Some z) (on_same_bits bit_and a b)

pub or_reduced : (a b : ℤ) → arith_of Or Int (convert_of Int a) (convert_of Int b) ≡ arith_of Or Int a b
or_reduced a b = ap (λ (z : ℤ). Some z) (on_same_bits bit_or a b)

pub xor_reduced : (a b : ℤ) → arith_of Xor Int (convert_of Int a) (convert_of Int b) ≡ arith_of Xor Int a b
xor_reduced a b = ap (λ (z : ℤ). Some z) (on_same_bits bit_xor a b)

by_count : (a : ℤ) (count : Option ℕ) → option_map (held Int) (option_map (λ n. reduced Int (convert_of Int a *ℤ pos (2 ^ n))) count) ≡ option_map (held Int) (option_map (λ n. reduced Int (a *ℤ pos (2 ^ n))) count)
unfolding int_wrap
by_count a None = refl
by_count a (Some n) = ap (λ (z : ℤ). Some z) (int_wrap-mul_left w32 a (pos (2 ^ n)))

pub shifted_reduced : (a k : ℤ) → arith_of Shl Int (convert_of Int a) k ≡ arith_of Shl Int a k
shifted_reduced a k = by_count a (shift_count Int k)

pub sum_reduced : (a b : ℤ) → convert_of Int (convert_of Int a +ℤ convert_of Int b) ≡ convert_of Int (a +ℤ b)
unfolding int_wrap
sum_reduced a b = int_wrap-add_left w32 a (convert_of Int b) ∙ int_wrap-add_right w32 a b

pub difference_reduced : (a b : ℤ) → convert_of Int (convert_of Int a -ℤ convert_of Int b) ≡ convert_of Int (a -ℤ b)
unfolding int_wrap
difference_reduced a b = int_wrap-sub_right w32 (convert_of Int a) b ∙ int_wrap-add_left w32 a (neg_ℤ b)
