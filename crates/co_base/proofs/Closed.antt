-- Each operation stays among the values of its type.
use Rattle.std.proofs.Common.{◌≡◌, ◌≢◌, ℕ, ◌%◌, ◌/◌, ◌^◌, ◌<◌, ℤ, pos, negsuc, refl, arith, Bool, true, false, ◌&&◌}
use Rattle.std.specs.Prelude.{Some, None, Option, IsTrue, IfSome, if◌then◌else◌, bit_and, bit_or, bit_xor}
use Rattle.std.specs.Option.{option_map}
use Rattle.std.specs.Int.{int_shr}
use Rattle.std.specs.Int.Bits.{and_lt}
use Rattle.std.specs.Int.RustNames.{int_rem, unsigned_abs}
use Rattle.std.specs.Int.Signed.{mag_rem, mag_shr}
use Rattle.std.proofs.Math.Nat.{mod-le, div-le_self}
use Rattle.std.proofs.lemmas.Nat.{or_lt, xor_lt}
use Rattle.co_base.specs.declared.kinds.Num.{Num}
use Rattle.co_base.specs.declared.kinds.Num.TheVariants.{Bool as Truth, Int, Long, Size}
use Rattle.co_base.specs.declared.kinds.Op.{Op}
use Rattle.co_base.specs.declared.kinds.Op.TheVariants.{Add, Sub, Mul, Div, Rem, Shl, Shr, And, Or, Xor, Lt, Le, Gt, Ge, Eq, Ne}
use Rattle.co_base.specs.Integers.{arith_of, bit_count, can_divide, computed, held, kept, lies_in, of_residue, operand, residue, shift_count, truth, value_of, IsOperand, IsValue}
use Rattle.co_base.proofs.Ranges.{holds_its_value, int_fits, int_lies, is_congruent, is_held, long_fits, long_lies, of_residue_lies, residue_below, size_below, size_lies}

if_true : (P : ℤ → Type 0) (b : Bool) (z : ℤ) → (b ≡ true → P z) → IfSome (if b then Some z else None) P
if_true P true z h = h refl
if_true P false z h = tt

map_all : (P : ℤ → Type 0) (f : ℕ → ℤ) (o : Option ℕ) → ((n : ℕ) → P (f n)) → IfSome (option_map f o) P
map_all P f None h = tt
map_all P f (Some n) h = h n

second : (a b : Bool) → (a && b) ≡ true → b ≡ true
second true b h = h
second false b h = cc

abbrev Lies : Num → ℤ → Type 0
Lies num z = IsTrue (lies_in num z)

kept_lies : (num : Num) (z : ℤ) → IfSome (kept num z) (Lies num)
kept_lies Truth z = if_true (Lies Truth) (lies_in Truth z) z (λ h. h)
kept_lies Int z = if_true (Lies Int) (lies_in Int z) z (λ h. h)
kept_lies Long z = if_true (Lies Long) (lies_in Long z) z (λ h. h)
kept_lies Size z = (is_congruent Size z).0

rem_lies : (num : Num) (x y : ℤ) → num ≢ Truth → Lies num x → Lies num (int_rem x y)
rem_lies Truth x y n h = absurd (n refl)
rem_lies Int x y n h = let f = int_fits x h in int_lies (int_rem x y) (record { sfits = omega (arith, f.sfits, mag_rem x y) })
rem_lies Long x y n h = let f = long_fits x h in long_lies (int_rem x y) (record { sfits = omega (arith, f.sfits, mag_rem x y) })
rem_lies Size (pos x) y n h = size_lies (x % unsigned_abs y) (omega (arith, mod-le x (unsigned_abs y), size_below x h))
rem_lies Size (negsuc x) y n h = cc

shr_lies : (num : Num) (x : ℤ) (k : ℕ) → num ≢ Truth → Lies num x → Lies num (int_shr x k)
shr_lies Truth x k n h = absurd (n refl)
shr_lies Int x k n h = let f = int_fits x h in int_lies (int_shr x k) (record { sfits = omega (arith, f.sfits, mag_shr x (2 ^ k)) })
shr_lies Long x k n h = let f = long_fits x h in long_lies (int_shr x k) (record { sfits = omega (arith, f.sfits, mag_shr x (2 ^ k)) })
shr_lies Size (pos x) k n h = size_lies (x / 2 ^ k) (omega (arith, div-le_self x (2 ^ k), size_below x h))
shr_lies Size (negsuc x) k n h = cc

truth_lies : (num : Num) (b : Bool) → Lies num (truth b)
truth_lies Truth true = refl
truth_lies Truth false = refl
truth_lies Int true = refl
truth_lies Int false = refl
truth_lies Long true = refl
truth_lies Long false = refl
truth_lies Size true = refl
truth_lies Size false = refl

bits_lie : (f : ℕ → ℕ → ℕ) → ((k a b : ℕ) → a < 2 ^ k → b < 2 ^ k → f a b < 2 ^ k) → (num : Num) (x y : ℤ)
    → Lies num (of_residue num (f (residue num x) (residue num y)))
bits_lie f bound num x y = of_residue_lies num _ (bound (bit_count num) (residue num x) (residue num y) (residue_below num x) (residue_below num y))

computed_lies : (op : Op) (num : Num) (x y : ℤ) → num ≢ Truth → Lies num x → IfSome (computed op num x y) (Lies num)
computed_lies Add num x y n h = kept_lies num _
computed_lies Sub num x y n h = kept_lies num _
computed_lies Mul num x y n h = kept_lies num _
computed_lies Div num x y n h = if_true (Lies num) (can_divide num x y) _ (second _ _)
computed_lies Rem num x y n h = if_true (Lies num) (can_divide num x y) _ (λ _. rem_lies num x y n h)
computed_lies Shl num x k n h = map_all (Lies num) _ (shift_count num k) (λ _. (is_congruent num _).0)
computed_lies Shr num x k n h = map_all (Lies num) _ (shift_count num k) (λ m. shr_lies num x m n h)
computed_lies And num x y n h = bits_lie bit_and and_lt num x y
computed_lies Or num x y n h = bits_lie bit_or or_lt num x y
computed_lies Xor num x y n h = bits_lie bit_xor xor_lt num x y
computed_lies Lt num x y n h = truth_lies num _
computed_lies Le num x y n h = truth_lies num _
computed_lies Gt num x y n h = truth_lies num _
computed_lies Ge num x y n h = truth_lies num _
computed_lies Eq num x y n h = truth_lies num _
computed_lies Ne num x y n h = truth_lies num _

held_values : (num : Num) (o : Option ℤ) → IfSome o (Lies num) → IfSome (option_map (held num) o) (IsValue num)
held_values num None h = tt
held_values num (Some z) h = (is_held num z h).0

pub gives_values : (op : Op) (num : Num) (a b : ℤ) → num ≢ Truth → IsValue num a → IsOperand op num b → IfSome (arith_of op num a b) (IsValue num)
gives_values op num a b n left right =
    held_values num _ (computed_lies op num (value_of num a) (operand op num b) n (holds_its_value num a left).0)
