-- A file's tokens, or the first fault.
use Rattle.std.specs.Prelude.{◌≡◌, ℕ, zero, suc, ◌+◌, ◌-◌, Bool, true, false, if◌then◌else◌, ◌==◌, nat_lt, List, [], ◌∷◌, ◌++◌, length, take, drop, slice_index, Option, Some, None, Result, Ok, Err, ℤ}
use Rattle.std.specs.List.{starts_with}
use Rattle.std.specs.Prelude.{nat_eq, codes}
use Rattle.co_base.specs.declared.span.Span.{Span}
use Rattle.co_base.specs.declared.kinds.Num.{Num}
use Rattle.co_lex.specs.declared.fault.LexFault.{LexFault}
use Rattle.co_lex.specs.declared.fault.LexFault.TheVariants.{BadByte, BadNumber, BadDirective, Unfinished, NoMemory}
use Rattle.co_lex.specs.declared.lexer.Line.{Line}
use Rattle.co_lex.specs.declared.lexer.Line.TheVariants.{Blank, Begun, Include, Included}
use Rattle.co_lex.specs.declared.lexer.Piece.{Piece}
use Rattle.co_lex.specs.declared.scan.Class.TheVariants as class
use Rattle.co_lex.specs.declared.scan.Start.{Start}
use Rattle.co_lex.specs.declared.scan.Start.TheVariants as start
use Rattle.co_lex.specs.declared.token.Mark.{Mark}
use Rattle.co_lex.specs.declared.token.Token.{Token}
use Rattle.co_lex.specs.declared.token.TokenKind.{TokenKind}
use Rattle.co_lex.specs.declared.token.TokenKind.TheVariants as kind
use Rattle.co_lex.specs.Place.{after_byte, position_after}
use Rattle.co_lex.specs.Scan.{begins, run, comment_len, number_of, literal_len, good_len, text_of, kind_of}
use Rattle.co_lex.specs.Table.{word_of, mark_of, header_len}

-- what the code answers is what is defined, unless memory ran out
abbrev pub Gives : {A : Type 0} → Result A LexFault → Result A LexFault → Type 0
Gives (Ok a) told = told ≡ Ok a
Gives (Err (BadByte at)) told = told ≡ Err (BadByte at)
Gives (Err (BadNumber at)) told = told ≡ Err (BadNumber at)
Gives (Err (BadDirective at)) told = told ≡ Err (BadDirective at)
Gives (Err (Unfinished at)) told = told ≡ Err (Unfinished at)
Gives (Err NoMemory) told = Unit {0}

abbrev pub Answer : Type 0
Answer = Result Piece LexFault

-- white space, after which the line is as told
abbrev pub space : Line → ℕ → Answer
space line n = Ok (record { token = None; len = n; line = line })

abbrev pub token : TokenKind → ℕ → Answer
token k n = Ok (record { token = Some k; len = n; line = Begun })

-- a line feed; a line that ends before an `#include` has its header is refused
abbrev pub line_feed : Line → Answer
line_feed (Include hash) = Err (BadDirective hash)
line_feed Blank = space Blank 1
line_feed Begun = space Blank 1
line_feed (Included hash) = space Blank 1

-- the line after a comment that goes over a line's end, or doesn't
abbrev pub line_after : Line → Bool → Line
line_after Begun true = Blank
line_after Begun false = Begun
line_after Blank ended = Blank
line_after (Include hash) ended = Include hash
line_after (Included hash) ended = Included hash

-- some byte is a line feed
abbrev pub has_feed : List ℕ → Bool
has_feed bytes = nat_lt (run class.Line bytes) (length bytes)

-- `/*` to the first `*/` behind it
abbrev pub block_comment : Line → Span → List ℕ → Answer
block_comment line at z =
    let n = comment_len (drop 2 z) in
    if nat_lt (n + 2) (length z) then space (line_after line (has_feed (take (n + 4) z))) (n + 4) else Err (Unfinished at)

abbrev pub start_of : List ℕ → Start
start_of z = begins (slice_index z 0)

abbrev pub name : List ℕ → Answer
name z = let n = run class.Name z in token (kind_of (take n z) (word_of (take n z))) n

abbrev pub number_piece : Span → Option (Num × ℤ) → ℕ → Answer
number_piece at None n = Err (BadNumber at)
number_piece at (Some v) n = token (kind.Int v.0 v.1) n

abbrev pub number : Span → List ℕ → Answer
number at z = let n = run class.Number z in number_piece at (number_of (take n z)) n

-- A literal that doesn't end on its line is refused at its `"`, else at its first byte or escape that may not stand there.
abbrev pub literal : Span → List ℕ → Answer
literal at z =
    let n = literal_len false (drop 1 z) in
    if slice_index z (n + 1) == 34 then
    (let body = take n (drop 1 z) in
    if nat_lt (good_len false body) n then Err (BadByte (position_after at (take (good_len false body + 1) z)))
    else token (kind.Lit (text_of false body)) (n + 2))
    else Err (Unfinished at)

abbrev pub mark_piece : Span → Option (Mark × ℕ) → Answer
mark_piece at None = Err (BadByte at)
mark_piece at (Some m) = token (kind.Mark m.0) m.1

abbrev pub mark : Span → List ℕ → Answer
mark at z = mark_piece at (mark_of z)

abbrev pub include : Span → List ℕ → Answer
include at z = if starts_with nat_eq z (codes "#include") then space (Include at) 8 else Err (BadDirective at)

abbrev pub header : Span → List ℕ → Answer
header hash z = if header_len z == 0 then Err (BadDirective hash) else space (Included hash) (header_len z)

-- A token, by what its first byte can begin. A `#` begins a directive where nothing else stands before it on its line.
abbrev pub lexeme : Start → Line → Span → List ℕ → Answer
lexeme start.Letter line at z = name z
lexeme start.Digit line at z = number at z
lexeme start.Quote line at z = literal at z
lexeme start.Hash Blank at z = include at z
lexeme start.Hash _ at z = Err (BadByte at)
lexeme _ line at z = mark at z

-- what is no white space
abbrev pub solid : Start → Line → Span → List ℕ → Answer
solid s (Include hash) at z = header hash z
solid s (Included hash) at z = Err (BadDirective hash)
solid s Blank at z = lexeme s Blank at z
solid s Begun at z = lexeme s Begun at z

-- `//` to the end of its line, or `/* */`, or a mark
abbrev pub slash : ℕ → Line → Span → List ℕ → Answer
slash next line at z =
    if next == 47 then space line (run class.Line z) else (if next == 42 then block_comment line at z else solid start.Slash line at z)

abbrev pub piece : Start → Line → Span → List ℕ → Answer
piece start.Blank line at z = space line 1
piece start.Feed line at z = line_feed line
piece start.Slash line at z = slash (slice_index z 1) line at z
piece start.Letter line at z = solid start.Letter line at z
piece start.Digit line at z = solid start.Digit line at z
piece start.Quote line at z = solid start.Quote line at z
piece start.Hash line at z = solid start.Hash line at z
piece start.Other line at z = solid start.Other line at z

-- the piece that the bytes begin with; there is at least one byte
unfoldable pub next : Line → Span → List ℕ → Answer
next line at z = piece (start_of z) line at z

abbrev pub Tokens : Type 0
Tokens = Result (List Token) LexFault

-- the end of the file
abbrev pub finish : Line → Span → Tokens
finish (Include hash) at = Err (BadDirective hash)
finish Blank at = Ok (record { kind = kind.End; span = at } ∷ [])
finish Begun at = Ok (record { kind = kind.End; span = at } ∷ [])
finish (Included hash) at = Ok (record { kind = kind.End; span = at } ∷ [])

abbrev pub with_front : List Token → Tokens → Tokens
with_front front (Ok tokens) = Ok (front ++ tokens)
with_front front (Err fault) = Err fault

abbrev pub token_at : Span → Option TokenKind → List Token
token_at at None = []
token_at at (Some k) = record { kind = k; span = at } ∷ []

abbrev pub go_on : Span → Answer → (ℕ → Line → Tokens) → Tokens
go_on at (Err fault) more = Err fault
go_on at (Ok p) more = with_front (token_at at p.token) (more (p.len - 1) p.line)

-- the tokens from `at` on; the number counts the bytes that are left of a piece
abbrev pub lexed_from : ℕ → Line → Span → List ℕ → Tokens
lexed_from left line at [] = finish line at
lexed_from (suc left) line at (b ∷ z) = lexed_from left line (after_byte at b) z
lexed_from zero line at (b ∷ z) = go_on at (next line at (b ∷ z)) (λ left after. lexed_from left after (after_byte at b) z)

unfoldable pub lexed : List ℕ → Tokens
lexed bytes = lexed_from 0 Blank (record { line = 1; col = 1 }) bytes
