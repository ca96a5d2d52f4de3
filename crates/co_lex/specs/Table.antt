-- Words, marks and headers, looked up in their tables.
use Rattle.std.specs.Prelude.{ℕ, List, [], ◌∷◌, map, length, if◌then◌else◌, nat_eq, Option, Some, None}
use Rattle.std.specs.List.{starts_with}
use Rattle.std.specs.Str.{bytes_eq}
use Rattle.co_lex.specs.declared.token.Word.{Word}
use Rattle.co_lex.specs.declared.token.Mark.{Mark}
use Rattle.co_lex.specs.declared.tables.TheConstants.{WORDS, MARKS, HEADERS}

-- each word with its spelling
abbrev pub words : List (List ℕ × Word)
words = map (λ k. (k.0.now, k.1)) WORDS

-- each mark with its spelling, the longest first
abbrev pub marks : List (List ℕ × Mark)
marks = map (λ k. (k.0.now, k.1)) MARKS

abbrev pub headers : List (List ℕ)
headers = map (λ h. h.now) HEADERS

abbrev pub lookup : List (List ℕ × Word) → List ℕ → Option Word
lookup [] name = None
lookup (w ∷ ws) name = if bytes_eq w.0 name then Some w.1 else lookup ws name

-- the word that a name spells
unfoldable pub word_of : List ℕ → Option Word
word_of = lookup words

abbrev pub front : List (List ℕ × Mark) → List ℕ → Option (Mark × ℕ)
front [] bytes = None
front (m ∷ ms) bytes = if starts_with nat_eq bytes m.0 then Some (m.1, length m.0) else front ms bytes

-- the first mark of the table that the bytes begin with, and its length
unfoldable pub mark_of : List ℕ → Option (Mark × ℕ)
mark_of = front marks

abbrev pub front_len : List (List ℕ) → List ℕ → ℕ
front_len [] bytes = 0
front_len (h ∷ hs) bytes = if starts_with nat_eq bytes h then length h else front_len hs bytes

-- the length of the header that the bytes begin with, or 0
unfoldable pub header_len : List ℕ → ℕ
header_len = front_len headers
