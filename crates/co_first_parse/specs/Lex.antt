-- The token at the front of the bytes, computed.
use Rattle.std.specs.Prelude.{◌≡◌, ℕ, ◌+◌, ◌-◌, ◌*◌, ◌^◌, Bool, true, false, not, ◌&&◌, ◌==◌, nat_le, nat_lt, if◌then◌else◌, List, [], ◌∷◌, length, map, take, drop, slice_index, Option, Some, None, bytes_eq}
use Rattle.std.specs.List.{prefix_len, list_any}
use Rattle.co_base.specs.declared.span.Span.{Span}
use Rattle.co_first_parse.specs.declared.token.Mark.{Mark}
use Rattle.co_first_parse.specs.declared.token.Mark.TheVariants as m
use Rattle.co_first_parse.specs.declared.token.Kind.{Kind}
use Rattle.co_first_parse.specs.declared.token.Kind.TheVariants.{Fixed, Name, Number}
use Rattle.co_first_parse.specs.declared.words.TheConstants.{KEYWORDS, PUNCTUATORS, RESERVED}
use Rattle.co_first_parse.specs.Spelling.{is_letter, is_digit, goes_on, beside, below}

abbrev pub lookup : List (List ℕ × Mark) → List ℕ → Option Mark
lookup [] word = None
lookup (entry ∷ entries) word = if bytes_eq entry.0 word then Some entry.1 else lookup entries word

unfoldable pub keyword : List ℕ → Option Mark
keyword = lookup (map (λ entry. (entry.0.now, entry.1)) KEYWORDS)

unfoldable pub is_reserved : List ℕ → Bool
is_reserved word = list_any (λ other. bytes_eq other word) (map (λ other. other.now) RESERVED)

abbrev pub kind_by : List ℕ → Option Mark → Option Kind
kind_by word (Some mark) = Some (Fixed mark)
kind_by word None = if is_reserved word then None else Some (Name word)

unfoldable pub word_kind : List ℕ → Option Kind
word_kind word = kind_by word (keyword word)

abbrev pub ends : List ℕ → Bool
ends [] = true
ends (byte ∷ bytes) = not (goes_on byte)

abbrev pub sized : ℕ → Option Kind → Option (Kind × ℕ)
sized size None = None
sized size (Some kind) = Some (kind, size)

unfoldable pub word_token : List ℕ → Option (Kind × ℕ)
word_token bytes =
    let size = prefix_len is_letter bytes in
    if ends (drop size bytes) then sized size (word_kind (take size bytes)) else None

abbrev pub value_from : ℕ → List ℕ → Option ℕ
value_from value [] = Some value
value_from value (digit ∷ digits) = if nat_lt (value * 10 + (digit - 48)) (2 ^ 31) then value_from (value * 10 + (digit - 48)) digits else None

abbrev pub number_kind : Option ℕ → Option Kind
number_kind None = None
number_kind (Some value) = Some (Number value)

abbrev pub is_plain : List ℕ → Bool
is_plain [] = false
is_plain (digit ∷ []) = true
is_plain (digit ∷ other ∷ digits) = not (digit == 48)

unfoldable pub number : List ℕ → Option ℕ
number digits = if is_plain digits then value_from 0 digits else None

unfoldable pub number_token : List ℕ → Option (Kind × ℕ)
number_token bytes =
    let size = prefix_len is_digit bytes in
    if ends (drop size bytes) then sized size (number_kind (number (take size bytes))) else None

abbrev pub begins_with : ℕ → List ℕ → Bool
begins_with byte [] = false
begins_with byte (first ∷ bytes) = first == byte

unfoldable pub punctuator : ℕ → Option Mark
punctuator byte = lookup (map (λ entry. (entry.0.now, entry.1)) PUNCTUATORS) (byte ∷ [])

abbrev pub fixed : ℕ → Option Mark → Option (Kind × ℕ)
fixed size None = None
fixed size (Some mark) = Some (Fixed mark, size)

unfoldable pub punctuator_token : ℕ → List ℕ → Option (Kind × ℕ)
punctuator_token byte bytes = if byte == 58 then (if begins_with 58 bytes then Some (Fixed m.Scope, 2) else None) else fixed 1 (punctuator byte)

-- the kind and the length of the token at the front
unfoldable pub first_token : List ℕ → Option (Kind × ℕ)
first_token [] = None
first_token (byte ∷ bytes) =
    if is_letter byte then word_token (byte ∷ bytes) else
    if is_digit byte then number_token (byte ∷ bytes) else punctuator_token byte bytes

-- the place after a space or a newline, if the byte is one
abbrev pub blank : Span → ℕ → Option Span
blank at byte = if byte == 32 then Some (beside at 1) else if byte == 10 then Some (below at) else None
