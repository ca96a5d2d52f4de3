-- What the definitions of the language's integers come to, for every value.
use Rattle.std.specs.Prelude.{ℕ, ◌^◌, ◌<◌, ◌≡◌, ◌≢◌, ◌⊎◌, Some, IfSome, IsTrue, ℤ, pos, ◌+ℤ◌, ◌*ℤ◌}
use Rattle.std.specs.Int.{w64}
use Rattle.std.specs.Int.RustNames.{FitsSigned}
use Rattle.co_base.specs.declared.kinds.Num.{Num}
use Rattle.co_base.specs.declared.kinds.Num.TheVariants.{Bool as Truth}
use Rattle.co_base.specs.declared.kinds.Op.{Op}
use Rattle.co_base.specs.declared.kinds.Op.TheVariants.{Lt, Le, Gt, Ge, Eq, Ne}
use Rattle.co_base.specs.Integers.{arith_of, bit_count, convert_of, converted, held, held_by, lies_in, reduced, value_of, word_of, IsOperand, IsValue}

-- An i64 that holds a value of the type holds one in its range, and no other i64 holds that one.
abbrev pub HoldsItsValue : Type 0
HoldsItsValue = (num : Num) (v : ℤ) → IsValue num v → IsTrue (lies_in num (value_of num v)) × (held num (value_of num v) ≡ v)

-- Each integer in the range of a type is held by an i64.
abbrev pub IsHeld : Type 0
IsHeld = (num : Num) (z : ℤ) → IsTrue (lies_in num z) → IsValue num (held num z) × (value_of num (held num z) ≡ z)

-- An integer that is reduced lies in the range of the type, and differs by a multiple of 2^N.
abbrev pub IsCongruent : Type 0
IsCongruent = (num : Num) (z : ℤ) → IsTrue (lies_in num (reduced num z)) × ((k : ℤ) × (z ≡ reduced num z +ℤ k *ℤ pos (2 ^ bit_count num)))

-- Each result of an operation is a value of the type in which it is computed.
abbrev pub GivesValues : Type 0
GivesValues = (op : Op) (num : Num) (a b : ℤ) → num ≢ Truth → IsValue num a → IsOperand op num b → IfSome (arith_of op num a b) (IsValue num)

-- A comparison gives 0 or 1, which are values of each type.
abbrev pub IsComparison : Op → Type 0
IsComparison op = (op ≡ Lt) ⊎ (op ≡ Le) ⊎ (op ≡ Gt) ⊎ (op ≡ Ge) ⊎ (op ≡ Eq) ⊎ (op ≡ Ne)

abbrev pub GivesTruth : Type 0
GivesTruth = (op : Op) (num : Num) (a b : ℤ) → IsComparison op → (arith_of op num a b ≡ Some (pos 0)) ⊎ (arith_of op num a b ≡ Some (pos 1))

-- What an integer converts to is a value of the type.
abbrev pub ConvertsToValues : Type 0
ConvertsToValues = (to : Num) (v : ℤ) → IsValue to (convert_of to v)

-- A value of the type converts to itself, so to convert twice is to convert once.
abbrev pub ConvertsToItself : Type 0
ConvertsToItself = (to : Num) (v : ℤ) → IsValue to v → convert_of to v ≡ v

abbrev pub ConvertsOnce : Type 0
ConvertsOnce = (to : Num) (v : ℤ) → convert_of to (convert_of to v) ≡ convert_of to v

-- A conversion goes by the value that an i64 holds in the type from which it converts.
abbrev pub ConvertsByValue : Type 0
ConvertsByValue = (from to : Num) (v : ℤ) → IsValue from v → convert_of to v ≡ held to (converted to (value_of from v))

-- A word holds each i64, and each word is held so by one.
abbrev pub ValueOfBits : Type 0
ValueOfBits = (v : ℤ) → FitsSigned w64 v → held_by (word_of v) ≡ v

abbrev pub BitsOfValue : Type 0
BitsOfValue = (word : ℕ) → word < 2 ^ 64 → word_of (held_by word) ≡ word
