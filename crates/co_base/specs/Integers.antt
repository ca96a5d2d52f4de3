-- The integers of the language: the values of its types and what each operation gives, over the
-- mathematical integers. An i64 holds a value of each type; a `std::size_t` it holds by its bits.
use Rattle.std.specs.Prelude.{ℕ, ◌-◌, ◌^◌, Bool, not, ◌&&◌, if◌then◌else◌, Option, None, Some, ℤ, pos, negsuc, ◌+ℤ◌, ◌-ℤ◌, ◌*ℤ◌, ◌≤ℤ◌, bit_and, bit_or, bit_xor}
use Rattle.std.specs.Option.{option_map}
use Rattle.std.specs.Ordering.{int_eq}
use Rattle.std.specs.Int.{w32, w64, cast_signed, cast_unsigned, int_rem_euclid, int_shr}
use Rattle.std.specs.Int.RustNames.{FitsSigned, unsigned_abs, int_lt, int_le, int_div, int_rem}
use Rattle.co_base.specs.declared.kinds.Num.{Num}
use Rattle.co_base.specs.declared.kinds.Num.TheVariants.{Bool as Truth, Int, Long, Size}
use Rattle.co_base.specs.declared.kinds.Op.{Op}
use Rattle.co_base.specs.declared.kinds.Op.TheVariants.{Add, Sub, Mul, Div, Rem, Shl, Shr, And, Or, Xor, Lt, Le, Gt, Ge, Eq, Ne}

-- ---- the types [basic.fundamental]

-- the width N of a type: how many bits its values have
abbrev pub bit_count : Num → ℕ
bit_count Truth = 1
bit_count Int = 32
bit_count Long = 64
bit_count Size = 64

-- the least and the greatest value of a type
abbrev pub least : Num → ℤ
least Truth = pos 0
least Int = negsuc (2 ^ 31 - 1)
least Long = negsuc (2 ^ 63 - 1)
least Size = pos 0

abbrev pub greatest : Num → ℤ
greatest Truth = pos 1
greatest Int = pos (2 ^ 31 - 1)
greatest Long = pos (2 ^ 63 - 1)
greatest Size = pos (2 ^ 64 - 1)

-- whether an integer is a value of the type
abbrev pub lies_in : Num → ℤ → Bool
lies_in num z = int_le (least num) z && int_le z (greatest num)

-- ---- values in an i64

-- the value of the type that an i64 holds
abbrev pub value_of : Num → ℤ → ℤ
value_of Size v = pos (cast_unsigned w64 v)
value_of num v = v

-- the i64 that holds this value of the type
abbrev pub held : Num → ℤ → ℤ
held Size z = cast_signed w64 (unsigned_abs z)
held num z = z

-- an i64 holds a value of the type: of the i64s, two hold a `bool`, those in the range of `int` an
-- `int`, and each holds a `long` and a `std::size_t`
abbrev pub IsValue : Num → ℤ → Type 0
IsValue Truth v = (pos 0 ≤ℤ v) × (v ≤ℤ pos 1)
IsValue Int v = FitsSigned w32 v
IsValue Long v = FitsSigned w64 v
IsValue Size v = FitsSigned w64 v

-- ---- modulo 2^N

-- the integer modulo 2^N, from 0 on: its bits in two's complement
abbrev pub residue : Num → ℤ → ℕ
residue num z = unsigned_abs (int_rem_euclid z (pos (2 ^ bit_count num)))

-- the value of the type that has these bits
abbrev pub of_residue : Num → ℕ → ℤ
of_residue Int n = cast_signed w32 n
of_residue Long n = cast_signed w64 n
of_residue num n = pos n

-- the value of the type that is congruent to the integer modulo 2^N
abbrev pub reduced : Num → ℤ → ℤ
reduced num z = of_residue num (residue num z)

-- ---- operations

-- a result that overflows is undefined in a signed type, and reduced in `std::size_t` [expr.pre]
abbrev pub kept : Num → ℤ → Option ℤ
kept Size z = Some (reduced Size z)
kept num z = if lies_in num z then Some z else None

-- the divisor isn't 0, and the quotient is a value of the type [expr.mul]
abbrev pub can_divide : Num → ℤ → ℤ → Bool
can_divide num x y = not (int_eq y (pos 0)) && lies_in num (int_div x y)

-- the count of a shift, where it lies from 0 to below the width [expr.shift]
abbrev pub shift_count : Num → ℤ → Option ℕ
shift_count num k = if int_le (pos 0) k && int_lt k (pos (bit_count num)) then Some (unsigned_abs k) else None

-- a comparison gives 1 where it holds, else 0 [expr.rel] [expr.eq]
abbrev pub truth : Bool → ℤ
truth b = if b then pos 1 else pos 0

-- an operation on the bits of two values [expr.bit.and] [expr.or] [expr.xor]
abbrev pub on_bits : (ℕ → ℕ → ℕ) → Num → ℤ → ℤ → ℤ
on_bits f num x y = of_residue num (f (residue num x) (residue num y))

-- the result of an operation on two values of a type, or None where the standard leaves it undefined.
-- The second operand of a shift is its count, of any type.
abbrev pub computed : Op → Num → ℤ → ℤ → Option ℤ
computed Add num x y = kept num (x +ℤ y)
computed Sub num x y = kept num (x -ℤ y)
computed Mul num x y = kept num (x *ℤ y)
computed Div num x y = if can_divide num x y then Some (int_div x y) else None
computed Rem num x y = if can_divide num x y then Some (int_rem x y) else None
computed Shl num x k = option_map (λ n. reduced num (x *ℤ pos (2 ^ n))) (shift_count num k)
computed Shr num x k = option_map (λ n. int_shr x n) (shift_count num k)
computed And num x y = Some (on_bits bit_and num x y)
computed Or num x y = Some (on_bits bit_or num x y)
computed Xor num x y = Some (on_bits bit_xor num x y)
computed Lt num x y = Some (truth (int_lt x y))
computed Le num x y = Some (truth (int_le x y))
computed Gt num x y = Some (truth (int_lt y x))
computed Ge num x y = Some (truth (int_le y x))
computed Eq num x y = Some (truth (int_eq x y))
computed Ne num x y = Some (truth (not (int_eq x y)))

-- the second operand: the count of a shift keeps its own type
abbrev pub operand : Op → Num → ℤ → ℤ
operand Shl num b = b
operand Shr num b = b
operand op num b = value_of num b

-- what `arith` asks of its second operand
abbrev pub IsOperand : Op → Num → ℤ → Type 0
IsOperand Shl num b = Unit {0}
IsOperand Shr num b = Unit {0}
IsOperand op num b = IsValue num b

-- what `arith` answers
abbrev pub arith_of : Op → Num → ℤ → ℤ → Option ℤ
arith_of op num a b = option_map (held num) (computed op num (value_of num a) (operand op num b))

-- ---- conversions

-- the value of the type that an integer converts to [conv.integral] [conv.bool]
abbrev pub converted : Num → ℤ → ℤ
converted Truth z = truth (not (int_eq z (pos 0)))
converted num z = reduced num z

-- what `convert` answers
abbrev pub convert_of : Num → ℤ → ℤ
convert_of num v = held num (converted num v)

-- ---- words

-- the word of 64 bits that holds an i64, and the i64 that a word holds
abbrev pub word_of : ℤ → ℕ
word_of v = cast_unsigned w64 v

abbrev pub held_by : ℕ → ℤ
held_by word = cast_signed w64 word
