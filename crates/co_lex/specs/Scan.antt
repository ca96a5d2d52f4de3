-- How far a name, a number, a comment and a text literal go, and what they mean.
use Rattle.std.specs.Prelude.{ℕ, suc, ◌+◌, ◌-◌, ◌*◌, Bool, true, false, not, ◌&&◌, ◌||◌, if◌then◌else◌, ◌==◌, nat_le, nat_lt, List, [], ◌∷◌, take, drop, slice_index, Option, Some, None, ℤ, pos}
use Rattle.std.specs.Option.{option_map, option_and_then}
use Rattle.std.specs.Char.{is_ascii_digit, is_ascii_alphabetic, is_ascii_alphanumeric}
use Rattle.std.specs.List.{prefix_len}
use Rattle.co_base.specs.declared.kinds.Num.{Num}
use Rattle.co_base.specs.declared.kinds.Num.TheVariants.{Int, Long, Size}
use Rattle.co_lex.specs.declared.scan.Class.{Class}
use Rattle.co_lex.specs.declared.scan.Class.TheVariants as class
use Rattle.co_lex.specs.declared.scan.Start.{Start}
use Rattle.co_lex.specs.declared.scan.Start.TheVariants as start
use Rattle.co_lex.specs.declared.token.TokenKind.{TokenKind}
use Rattle.co_lex.specs.declared.token.TokenKind.TheVariants as kind
use Rattle.co_lex.specs.declared.token.Word.{Word}

-- space, horizontal and vertical tab, form feed, carriage return
abbrev pub is_blank : ℕ → Bool
is_blank b = b == 32 || (b == 9 || (nat_le 11 b && nat_le b 13))

-- a letter or `_`
abbrev pub is_letter : ℕ → Bool
is_letter b = is_ascii_alphabetic b || b == 95

-- what a byte can begin
abbrev pub begins : ℕ → Start
begins b =
    if is_blank b then start.Blank else (if b == 10 then start.Feed
    else (if is_letter b then start.Letter else (if is_ascii_digit b then start.Digit
    else (if b == 34 then start.Quote else (if b == 47 then start.Slash else (if b == 35 then start.Hash else start.Other))))))

abbrev pub is_in : Class → ℕ → Bool
is_in class.Name b = is_ascii_alphanumeric b || b == 95
is_in class.Digit b = is_ascii_digit b
is_in class.Number b = is_ascii_alphanumeric b || (b == 95 || b == 39)
is_in class.Line b = not (b == 10)

-- how many bytes of the class the bytes begin with
abbrev pub run : Class → List ℕ → ℕ
run c z = prefix_len (is_in c) z

-- how many bytes stand before the first `*/`, or are there where it doesn't come
abbrev pub comment_len : List ℕ → ℕ
comment_len [] = 0
comment_len (b ∷ z) = if b == 42 && slice_index z 0 == 47 then 0 else suc (comment_len z)

-- ---- numbers

-- the number that the digits spell after `value`
abbrev pub value_after : ℕ → List ℕ → ℕ
value_after value [] = value
value_after value (d ∷ ds) = value_after (10 * value + (d - 48)) ds

abbrev pub greatest : ℕ
greatest = 9223372036854775807

abbrev pub value_of : List ℕ → Option ℕ
value_of digits = if nat_le (value_after 0 digits) greatest then Some (value_after 0 digits) else None

-- the type of a number by its value and its suffix: none, `L`, `l`, `UL` or `ul`
abbrev pub suffix_num : ℕ → List ℕ → Option Num
suffix_num value [] = if nat_le value 2147483647 then Some Int else Some Long
suffix_num value (a ∷ []) = if a == 76 || a == 108 then Some Long else None
suffix_num value (a ∷ b ∷ []) = if (a == 85 && b == 76) || (a == 117 && b == 108) then Some Size else None
suffix_num value (a ∷ b ∷ c ∷ z) = None

-- the number that is spelled by all of the bytes, the first of which is a digit
abbrev pub number_of : List ℕ → Option (Num × ℤ)
number_of s =
    let d = run class.Digit s in
    if nat_lt 1 d && slice_index s 0 == 48 then None
    else option_and_then (λ v. option_map (λ num. (num, pos v)) (suffix_num v (drop d s))) (value_of (take d s))

-- ---- text literals, without their first `"`

-- How many bytes stand before the closing `"`, or where it doesn't come, before the line feed or the end.
-- After a `\` a `"` closes nothing.
abbrev pub literal_len : Bool → List ℕ → ℕ
literal_len escaped [] = 0
literal_len true (b ∷ z) = if b == 10 then 0 else suc (literal_len false z)
literal_len false (b ∷ z) = if b == 34 || b == 10 then 0 else suc (literal_len (b == 92) z)

-- a byte that stands for itself, or begins an escape
abbrev pub is_good : ℕ → ℕ → Bool
is_good b next = if b == 92 then next == 34 || next == 92 else nat_le 32 b && nat_le b 126

-- how many bytes stand before the first byte or escape that may not stand in a literal
abbrev pub good_len : Bool → List ℕ → ℕ
good_len escaped [] = 0
good_len true (b ∷ z) = suc (good_len false z)
good_len false (b ∷ z) = if is_good b (slice_index z 0) then suc (good_len (b == 92) z) else 0

-- what the bytes stand for
abbrev pub text_of : Bool → List ℕ → List ℕ
text_of escaped [] = []
text_of true (b ∷ z) = b ∷ text_of false z
text_of false (b ∷ z) = if b == 92 then text_of true z else b ∷ text_of false z

-- a name is a word where one is spelled so
abbrev pub kind_of : List ℕ → Option Word → TokenKind
kind_of name None = kind.Name name
kind_of name (Some word) = kind.Word word
