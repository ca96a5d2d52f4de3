-- Which tokens a text is spelled with, as a relation over whole lists: the bytes are white space, directives and the spellings of
-- tokens, each as long as possible, with `End` after the last byte.
use Rattle.std.specs.Prelude.{◌≡◌, ◌≢◌, ℕ, ◌+◌, ◌<◌, ◌≤◌, true, false, if◌then◌else◌, ◌==◌, ◌↔◌, ◌⊎◌, List, [], ◌∷◌, ◌++◌, length, take, drop, slice_index, codes, Option, Some, None, Ok, Err, ℤ, pos, ◌^◌}
use Rattle.co_base.specs.declared.span.Span.{Span}
use Rattle.co_base.specs.declared.kinds.Num.{Num}
use Rattle.co_base.specs.declared.kinds.Num.TheVariants as num
use Rattle.co_lex.specs.declared.fault.LexFault.{LexFault}
use Rattle.co_lex.specs.declared.fault.LexFault.TheVariants.{BadByte, BadNumber, BadDirective, Unfinished}
use Rattle.co_lex.specs.declared.lexer.Line.{Line}
use Rattle.co_lex.specs.declared.lexer.Line.TheVariants.{Blank, Begun, Include, Included}
use Rattle.co_lex.specs.declared.scan.Class.{Class}
use Rattle.co_lex.specs.declared.scan.Class.TheVariants as class
use Rattle.co_lex.specs.declared.scan.Start.{Start}
use Rattle.co_lex.specs.declared.scan.Start.TheVariants as start
use Rattle.co_lex.specs.declared.token.Mark.{Mark}
use Rattle.co_lex.specs.declared.token.Token.{Token}
use Rattle.co_lex.specs.declared.token.Word.{Word}
use Rattle.co_lex.specs.declared.token.TokenKind.{TokenKind}
use Rattle.co_lex.specs.declared.token.TokenKind.TheVariants as kind
use Rattle.co_lex.specs.Place.{position_after}
use Rattle.co_lex.specs.Scan.{begins, is_in, value_after, literal_len, good_len}
use Rattle.co_lex.specs.Texts.{word_text, mark_text, IsHeader}
use Rattle.co_lex.specs.Lexer.{line_after, has_feed, token_at, start_of, lexed}

-- each byte is of the class
abbrev pub AllIn : Class → List ℕ → Type 0
AllIn c [] = Unit {0}
AllIn c (b ∷ z) = (is_in c b ≡ true) × AllIn c z

-- what begins with no byte of the class, so that a run of them before it is as long as possible
abbrev pub Stops : Class → List ℕ → Type 0
Stops c [] = Unit {0}
Stops c (b ∷ z) = is_in c b ≡ false

-- no `*/` stands in the bytes
abbrev pub NoClose : List ℕ → Type 0
NoClose [] = Unit {0}
NoClose (b ∷ z) = (b ≡ 42 → slice_index z 0 ≡ 47 → ⊥) × NoClose z

-- the bytes between the quotes of a text literal, and what they stand for
pub data Quotes : List ℕ → List ℕ → Type 0 where
  none : Quotes [] []
  plain : (b : ℕ) (body text : List ℕ) → 32 ≤ b → b ≤ 126 → b ≢ 34 → b ≢ 92 → Quotes body text → Quotes (b ∷ body) (b ∷ text)
  escape : (b : ℕ) (body text : List ℕ) → (b ≡ 34) ⊎ (b ≡ 92) → Quotes body text → Quotes (92 ∷ b ∷ body) (b ∷ text)

-- the suffix of a number of this value, and the type that it gives
pub data IsSuffix : List ℕ → ℕ → Num → Type 0 where
  int : (value : ℕ) → value ≤ 2147483647 → IsSuffix [] value num.Int
  long : (value : ℕ) → 2147483647 < value → IsSuffix [] value num.Long
  upper_long : (value : ℕ) → IsSuffix (codes "L") value num.Long
  lower_long : (value : ℕ) → IsSuffix (codes "l") value num.Long
  upper_size : (value : ℕ) → IsSuffix (codes "UL") value num.Size
  lower_size : (value : ℕ) → IsSuffix (codes "ul") value num.Size

-- decimal digits with no leading zero, of a value of at most 2^63 - 1, and a suffix
pub data IsNumber : List ℕ → Num → ℤ → Type 0 where
  decimal : (digits suffix : List ℕ) (num : Num) → AllIn class.Digit digits → (slice_index digits 0 ≡ 48 → length digits ≤ 1) → value_after 0 digits < 2 ^ 63 → IsSuffix suffix (value_after 0 digits) num → IsNumber (digits ++ suffix) num (pos (value_after 0 digits))

-- a `#include` has its header
abbrev pub MayEnd : Line → Type 0
MayEnd Blank = Unit {0}
MayEnd Begun = Unit {0}
MayEnd (Include hash) = ⊥
MayEnd (Included hash) = Unit {0}

-- no directive stands on the line
abbrev pub IsOpen : Line → Type 0
IsOpen Blank = Unit {0}
IsOpen Begun = Unit {0}
IsOpen (Include hash) = ⊥
IsOpen (Included hash) = ⊥

-- what begins with neither white space nor a comment
abbrev pub IsSolid : List ℕ → Type 0
IsSolid z = (start_of z ≢ start.Blank) × (start_of z ≢ start.Feed) × (start_of z ≡ start.Slash → (slice_index z 1 ≢ 47) × (slice_index z 1 ≢ 42))

-- nor with another token than a mark
abbrev pub BeginsMark : List ℕ → Type 0
BeginsMark z = (start_of z ≡ start.Other) ⊎ ((start_of z ≡ start.Slash) × (slice_index z 1 ≢ 47) × (slice_index z 1 ≢ 42))

-- The first bytes, before the rest, spell this token.
pub data IsToken : List ℕ → List ℕ → TokenKind → Type 0 where
  word : (w : Word) (rest : List ℕ) → Stops class.Name rest → IsToken (word_text w) rest (kind.Word w)
  -- a letter or `_`, then letters, digits and `_`, and none of the words
  named : (front rest : List ℕ) → start_of front ≡ start.Letter → AllIn class.Name front → Stops class.Name rest → ((w : Word) → front ≢ word_text w) → IsToken front rest (kind.Name front)
  -- a number, with no letter, digit, `_` or `'` right after it
  number : (front rest : List ℕ) (num : Num) (value : ℤ) → start_of front ≡ start.Digit → AllIn class.Number front → Stops class.Number rest → IsNumber front num value → IsToken front rest (kind.Int num value)
  literal : (body text rest : List ℕ) → Quotes body text → IsToken (34 ∷ (body ++ 34 ∷ [])) rest (kind.Lit text)
  -- the longest mark that the bytes begin with
  mark : (m : Mark) (rest : List ℕ) → BeginsMark (mark_text m ++ rest) → ((k : Mark) (more : List ℕ) → mark_text m ++ rest ≡ mark_text k ++ more → length (mark_text k) ≤ length (mark_text m)) → IsToken (mark_text m) rest (kind.Mark m)

-- The first bytes, before the rest, are white space, a part of a directive, or a token; and what stands on the line before and after.
pub data IsPiece : Line → Span → List ℕ → List ℕ → Option TokenKind → Line → Type 0 where
  blank : (line : Line) (at : Span) (b : ℕ) (rest : List ℕ) → begins b ≡ start.Blank → IsPiece line at (b ∷ []) rest None line
  feed : (line : Line) (at : Span) (b : ℕ) (rest : List ℕ) → begins b ≡ start.Feed → MayEnd line → IsPiece line at (b ∷ []) rest None Blank
  line_comment : (line : Line) (at : Span) (text rest : List ℕ) → AllIn class.Line text → Stops class.Line rest → IsPiece line at (47 ∷ 47 ∷ text) rest None line
  block_comment : (line : Line) (at : Span) (text rest : List ℕ) → NoClose (text ++ 42 ∷ []) → IsPiece line at (47 ∷ 42 ∷ (text ++ 42 ∷ 47 ∷ [])) rest None (line_after line (has_feed (47 ∷ 42 ∷ (text ++ 42 ∷ 47 ∷ []))))
  include : (at : Span) (rest : List ℕ) → IsPiece Blank at (codes "#include") rest None (Include at)
  header : (hash at : Span) (front rest : List ℕ) → IsHeader front → IsPiece (Include hash) at front rest None (Included hash)
  token : (line : Line) (at : Span) (front rest : List ℕ) (k : TokenKind) → IsOpen line → IsToken front rest k → IsPiece line at front rest (Some k) Begun

pub data SpellsFrom : Line → Span → List ℕ → List Token → Type 0 where
  ends : (line : Line) (at : Span) → MayEnd line → SpellsFrom line at [] (record { kind = kind.End; span = at } ∷ [])
  piece : (line : Line) (at : Span) (front rest : List ℕ) (token : Option TokenKind) (after : Line) (tokens : List Token) → IsPiece line at front rest token after → SpellsFrom after (position_after at front) rest tokens → SpellsFrom line at (front ++ rest) (token_at at token ++ tokens)

abbrev pub Spells : List ℕ → List Token → Type 0
Spells bytes tokens = SpellsFrom Blank (record { line = 1; col = 1 }) bytes tokens

-- ---- faults

-- a literal that ends on its line is refused at its first byte or escape that may not stand there, else at its `"`
abbrev pub literal_fault : Span → List ℕ → LexFault
literal_fault at z =
    let n = literal_len false (drop 1 z) in
    if slice_index z (n + 1) == 34 then BadByte (position_after at (take (good_len false (take n (drop 1 z)) + 1) z)) else Unfinished at

abbrev pub token_fault : Start → Line → Span → List ℕ → LexFault
token_fault start.Digit line at z = BadNumber at
token_fault start.Quote line at z = literal_fault at z
token_fault start.Hash Blank at z = BadDirective at
token_fault _ line at z = BadByte at

-- a directive is refused at its `#`, whatever stands in it
abbrev pub solid_fault : Start → Line → Span → List ℕ → LexFault
solid_fault s (Include hash) at z = BadDirective hash
solid_fault s (Included hash) at z = BadDirective hash
solid_fault s Blank at z = token_fault s Blank at z
solid_fault s Begun at z = token_fault s Begun at z

abbrev pub fault_by : Start → Line → Span → List ℕ → LexFault
fault_by start.Slash line at z = if slice_index z 1 == 42 then Unfinished at else solid_fault start.Slash line at z
fault_by s line at z = solid_fault s line at z

-- the fault of bytes that no piece stands in front of, by what their first byte can begin
abbrev pub fault_of : Line → Span → List ℕ → LexFault
fault_of line at z = fault_by (start_of z) line at z

-- the file doesn't end here, and no piece stands here
abbrev pub IsStuck : Line → Span → List ℕ → Type 0
IsStuck line at z = (z ≡ [] → MayEnd line → ⊥) × ((front rest : List ℕ) (token : Option TokenKind) (after : Line) → z ≡ front ++ rest → IsPiece line at front rest token after → ⊥)

-- the first place where the bytes are spelled no further, and its fault
pub data FailsFrom : Line → Span → List ℕ → LexFault → Type 0 where
  here : (line : Line) (at : Span) (z : List ℕ) → IsStuck line at z → FailsFrom line at z (fault_of line at z)
  later : (line : Line) (at : Span) (front rest : List ℕ) (token : Option TokenKind) (after : Line) (fault : LexFault) → IsPiece line at front rest token after → FailsFrom after (position_after at front) rest fault → FailsFrom line at (front ++ rest) fault

abbrev pub Fails : List ℕ → LexFault → Type 0
Fails bytes fault = FailsFrom Blank (record { line = 1; col = 1 }) bytes fault

-- ---- laws

-- the tokens of a text are those that it is spelled with
abbrev pub TokensSpell : Type 0
TokensSpell = (bytes : List ℕ) (tokens : List Token) → (lexed bytes ≡ Ok tokens) ↔ Spells bytes tokens

-- a text is spelled with one list of tokens at most
abbrev pub SpelledOnce : Type 0
SpelledOnce = (bytes : List ℕ) (tokens others : List Token) → Spells bytes tokens → Spells bytes others → tokens ≡ others

-- the fault of a text is that of the first place where it is spelled no further
abbrev pub FaultIsFirst : Type 0
FaultIsFirst = (bytes : List ℕ) (fault : LexFault) → (lexed bytes ≡ Err fault) ↔ Fails bytes fault
