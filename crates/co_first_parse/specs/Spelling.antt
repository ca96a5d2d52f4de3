-- How the bytes of a file spell its tokens.
use Rattle.std.specs.Prelude.{◌≡◌, ℕ, ◌+◌, ◌-◌, ◌*◌, ◌^◌, ◌<◌, ◌≤◌, Bool, true, false, ◌&&◌, ◌||◌, nat_le, nat_eq, List, [], ◌∷◌, ◌++◌, length, slice_get, Some, All, codes}
use Rattle.co_base.specs.declared.span.Span.{Span}
use Rattle.co_first_tree.specs.Form.{IsVariable}
use Rattle.co_first_parse.specs.declared.token.Mark.{Mark}
use Rattle.co_first_parse.specs.declared.token.Mark.TheVariants as m
use Rattle.co_first_parse.specs.declared.token.Kind.{Kind}
use Rattle.co_first_parse.specs.declared.token.Kind.TheVariants.{Fixed, Name, Number}
use Rattle.co_first_parse.specs.declared.token.Token.{Token}

abbrev pub spelling : Mark → List ℕ
spelling m.Int = codes "int"
spelling m.Main = codes "main"
spelling m.Return = codes "return"
spelling m.Long = codes "long"
spelling m.While = codes "while"
spelling m.Corun = codes "corun"
spelling m.OpenParenthesis = codes "("
spelling m.CloseParenthesis = codes ")"
spelling m.OpenBrace = codes "{"
spelling m.CloseBrace = codes "}"
spelling m.Semicolon = codes ";"
spelling m.Assign = codes "="
spelling m.Plus = codes "+"
spelling m.Minus = codes "-"
spelling m.Scope = codes "::"

abbrev pub is_letter : ℕ → Bool
is_letter byte = nat_le 97 byte && nat_le byte 122

abbrev pub is_digit : ℕ → Bool
is_digit byte = nat_le 48 byte && nat_le byte 57

-- a byte that an identifier may go on with: a letter, a digit or `_`
abbrev pub goes_on : ℕ → Bool
goes_on byte = is_letter byte || (nat_le 65 byte && nat_le byte 90) || is_digit byte || nat_eq byte 95

-- what stands here doesn't go on the word or the number before it
abbrev pub Ends : List ℕ → Type 0
Ends [] = Unit {0}
Ends (byte ∷ bytes) = goes_on byte ≡ false

-- the value of these decimal digits behind those whose value is given
abbrev pub value_after : ℕ → List ℕ → ℕ
value_after value [] = value
value_after value (digit ∷ digits) = value_after (value * 10 + (digit - 48)) digits

-- a decimal literal: digits, of which the first is 0 only where it is the only one
pub record IsDecimal (bytes : List ℕ) : Type 0 where
  pub some : 0 < length bytes
  pub digits : All (λ byte. is_digit byte ≡ true) bytes
  pub plain : slice_get bytes 0 ≡ Some 48 → length bytes ≡ 1

-- whether the token is a word, which has to end
abbrev pub is_word : Mark → Bool
is_word m.Int = true
is_word m.Main = true
is_word m.Return = true
is_word m.Long = true
is_word m.While = true
is_word m.Corun = true
is_word _ = false

-- the bytes spell a token of this kind, and what comes next does not go on it
abbrev pub Spelled : Kind → List ℕ → List ℕ → Type 0
Spelled (Fixed mark) bytes next = (bytes ≡ spelling mark) × (is_word mark ≡ true → Ends next)
Spelled (Name name) bytes next = (bytes ≡ name) × IsVariable name × Ends next
Spelled (Number value) bytes next = IsDecimal bytes × (value_after 0 bytes ≡ value) × (value < 2 ^ 31) × Ends next

-- so many columns on, and the first column of the next line
abbrev pub beside : Span → ℕ → Span
beside at count = record { line = at.line; col = at.col + count }

abbrev pub below : Span → Span
below at = record { line = at.line + 1; col = 1 }

abbrev pub first_place : Span
first_place = record { line = 1; col = 1 }

abbrev pub token : Kind → Span → Token
token kind at = record { kind = kind; span = at }

-- the bytes from this place on spell these tokens, with spaces and newlines between them
pub data Spells : Span → List ℕ → List Token → Type 0 where
  ended : (at : Span) → Spells at [] []
  space : (at : Span) (bytes : List ℕ) (tokens : List Token) → Spells (beside at 1) bytes tokens → Spells at (32 ∷ bytes) tokens
  newline : (at : Span) (bytes : List ℕ) (tokens : List Token) → Spells (below at) bytes tokens → Spells at (10 ∷ bytes) tokens
  spelled : (at : Span) (kind : Kind) (bytes next : List ℕ) (tokens : List Token) → Spelled kind bytes next
      → Spells (beside at (length bytes)) next tokens → Spells at (bytes ++ next) (token kind at ∷ tokens)
