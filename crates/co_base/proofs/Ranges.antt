-- The ranges of the types, as tests and as facts.
use Rattle.std.proofs.Common.{◌≡◌, ℕ, suc, ◌-◌, ◌/◌, ◌^◌, ◌<◌, ℤ, pos, negsuc, ◌*ℤ◌, ◌+ℤ◌, refl, ap, arith, rules, Bool, true, false, Fits}
use Rattle.std.specs.Prelude.{IsTrue, nat_lt}
use Rattle.std.specs.Int.{Width, w32, w64, cast_signed}
use Rattle.std.specs.Int.RustNames.{FitsSigned}
use Rattle.std.proofs.Math.Facts.{sfits_to_z, Fits-lt-pow}
use mir.Val.{bits, hbits, sel}
use mir.ValLaws.{of_z_fits}
use Rattle.std.proofs.lemmas.Bool.Decides.{nat_tests}
use Rattle.std.proofs.lemmas.Int.{ints, to_z-of_z, of_z-to_z}
use Rattle.co_base.specs.declared.kinds.Num.{Num}
use Rattle.co_base.specs.declared.kinds.Num.TheVariants.{Bool as Truth, Int, Long, Size}
use Rattle.co_base.specs.Integers.{bit_count, held, lies_in, of_residue, reduced, residue, value_of, IsValue}

pub int_lies : (z : ℤ) → FitsSigned w32 z → IsTrue (lies_in Int z)
int_lies (pos n) f = let h = f.sfits in grind (arith, nat_tests)
int_lies (negsuc n) f = let h = f.sfits in grind (arith, nat_tests)

pub long_lies : (z : ℤ) → FitsSigned w64 z → IsTrue (lies_in Long z)
long_lies (pos n) f = let h = f.sfits in grind (arith, nat_tests)
long_lies (negsuc n) f = let h = f.sfits in grind (arith, nat_tests)

pub int_fits : (z : ℤ) → IsTrue (lies_in Int z) → FitsSigned w32 z
int_fits (pos n) h = record { sfits = grind (arith, nat_tests) }
int_fits (negsuc n) h = record { sfits = grind (arith, nat_tests) }

pub long_fits : (z : ℤ) → IsTrue (lies_in Long z) → FitsSigned w64 z
long_fits (pos n) h = record { sfits = grind (arith, nat_tests) }
long_fits (negsuc n) h = record { sfits = grind (arith, nat_tests) }

pub size_lies : (n : ℕ) → n < 2 ^ 64 → IsTrue (lies_in Size (pos n))
size_lies n h = grind (arith, nat_tests)

pub size_below : (n : ℕ) → IsTrue (lies_in Size (pos n)) → n < 2 ^ 64
size_below n h = grind (arith, nat_tests)

pub residue_below : (num : Num) (z : ℤ) → residue num z < 2 ^ bit_count num
residue_below Truth (pos n) = omega arith
residue_below Truth (negsuc n) = omega arith
residue_below Int (pos n) = omega arith
residue_below Int (negsuc n) = omega arith
residue_below Long (pos n) = omega arith
residue_below Long (negsuc n) = omega arith
residue_below Size (pos n) = omega arith
residue_below Size (negsuc n) = omega arith

pub of_residue_lies : (num : Num) (n : ℕ) → n < 2 ^ bit_count num → IsTrue (lies_in num (of_residue num n))
of_residue_lies Truth n h = grind (arith, nat_tests)
of_residue_lies Int n h = let f : Fits w32 n = record { fits = h } in int_lies _ (sfits_to_z f)
of_residue_lies Long n h = let f : Fits w64 n = record { fits = h } in long_lies _ (sfits_to_z f)
of_residue_lies Size n h = size_lies n h

pub holds_its_value : (num : Num) (v : ℤ) → IsValue num v → IsTrue (lies_in num (value_of num v)) × (held num (value_of num v) ≡ v)
holds_its_value Truth (pos n) h = (let a = h.1.le in grind (arith, nat_tests), refl)
holds_its_value Truth (negsuc n) h = absurd h.0.le
holds_its_value Int v h = (int_lies v h, refl)
holds_its_value Long v h = (long_lies v h, refl)
holds_its_value Size v h = (size_lies _ (Fits-lt-pow (of_z_fits w64 v h)), to_z-of_z w64 v h)

pub is_held : (num : Num) (z : ℤ) → IsTrue (lies_in num z) → IsValue num (held num z) × (value_of num (held num z) ≡ z)
is_held Truth (pos n) h = ((search (rules, ints), grind (arith, nat_tests)), refl)
is_held Truth (negsuc n) h = cc
is_held Int z h = (int_fits z h, refl)
is_held Long z h = (long_fits z h, refl)
is_held Size (pos n) h =
    let below = size_below n h in
    let f : Fits w64 n = record { fits = below } in
    (sfits_to_z f, ap (λ (m : ℕ). pos m) (of_z-to_z w64 n below))
is_held Size (negsuc n) h = cc

-- the residue differs by a multiple of 2^N
pub congruent_residue : (num : Num) (z : ℤ) → (k : ℤ) × (z ≡ pos (residue num z) +ℤ k *ℤ pos (2 ^ bit_count num))
congruent_residue Truth (pos n) = (pos (n / 2), omega (arith, ints))
congruent_residue Truth (negsuc n) = (negsuc (n / 2), omega (arith, ints))
congruent_residue Int (pos n) = (pos (n / 2 ^ 32), omega (arith, ints))
congruent_residue Int (negsuc n) = (negsuc (n / 2 ^ 32), omega (arith, ints))
congruent_residue Long (pos n) = (pos (n / 2 ^ 64), omega (arith, ints))
congruent_residue Long (negsuc n) = (negsuc (n / 2 ^ 64), omega (arith, ints))
congruent_residue Size (pos n) = (pos (n / 2 ^ 64), omega (arith, ints))
congruent_residue Size (negsuc n) = (negsuc (n / 2 ^ 64), omega (arith, ints))

signed_value : (w : Width) (n : ℕ) → n < 2 ^ bits w → (k : ℤ) × (pos n ≡ cast_signed w n +ℤ k *ℤ pos (2 ^ bits w))
signed_value w n h = by_test (nat_lt n (2 ^ hbits w))
  where
    by_test : (b : Bool) → (k : ℤ) × (pos n ≡ sel b (pos n) (negsuc (2 ^ bits w - suc n)) +ℤ k *ℤ pos (2 ^ bits w))
    by_test true = (pos 0, omega (arith, ints))
    by_test false = (pos 1, omega (arith, ints))

-- so does the value that has these bits
pub congruent_value : (num : Num) (n : ℕ) → n < 2 ^ bit_count num → (k : ℤ) × (pos n ≡ of_residue num n +ℤ k *ℤ pos (2 ^ bit_count num))
congruent_value Truth n h = (pos 0, omega (arith, ints))
congruent_value Int n h = signed_value w32 n h
congruent_value Long n h = signed_value w64 n h
congruent_value Size n h = (pos 0, omega (arith, ints))

joined : (num : Num) (z v r k l : ℤ) → z ≡ r +ℤ k *ℤ pos (2 ^ bit_count num) → r ≡ v +ℤ l *ℤ pos (2 ^ bit_count num)
    → z ≡ v +ℤ (l +ℤ k) *ℤ pos (2 ^ bit_count num)
joined Truth z v r k l h i = omega (arith, ints)
joined Int z v r k l h i = omega (arith, ints)
joined Long z v r k l h i = omega (arith, ints)
joined Size z v r k l h i = omega (arith, ints)

pub is_congruent : (num : Num) (z : ℤ) → IsTrue (lies_in num (reduced num z)) × ((k : ℤ) × (z ≡ reduced num z +ℤ k *ℤ pos (2 ^ bit_count num)))
is_congruent num z =
    let below = residue_below num z in
    let first = congruent_residue num z in
    let second = congruent_value num (residue num z) below in
    (of_residue_lies num (residue num z) below, (second.0 +ℤ first.0, joined num z _ _ first.0 second.0 first.1 second.1))
