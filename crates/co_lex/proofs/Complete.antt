-- What the relation calls a piece is the piece that the bytes begin with.
use Rattle.std.proofs.Common.{◌≡◌, ◌≢◌, ℕ, suc, ◌+◌, ◌<◌, true, false, eqb, ltb, List, [], ◌∷◌, ◌++◌, length, get_or, Option, Some, None, Ok, refl, sym, ap, ◌∙◌, inl, inr, append_assoc, length-append, arith}
use Rattle.std.proofs.lemmas.Bool.Decides.{nat_tests}
use Rattle.std.proofs.lemmas.List.{take_at, get_or_at}
use Rattle.co_base.specs.declared.span.Span.{Span}
use Rattle.co_lex.specs.declared.lexer.Line.{Line}
use Rattle.co_lex.specs.declared.lexer.Line.TheVariants.{Blank, Begun, Include, Included}
use Rattle.co_lex.specs.declared.scan.Class.TheVariants as class
use Rattle.co_lex.specs.declared.scan.Start.{Start}
use Rattle.co_lex.specs.declared.scan.Start.TheVariants as start
use Rattle.co_lex.specs.declared.token.TokenKind.{TokenKind}
use Rattle.co_lex.specs.declared.token.TokenKind.TheVariants as kind
use Rattle.co_lex.specs.Scan.{begins, comment_len, number_of, kind_of}
use Rattle.co_lex.specs.Table.{word_of}
use Rattle.co_lex.specs.Lexer.{Answer, header, start_of, line_after, has_feed, token, name, number, literal, mark, mark_piece, lexeme, solid, block_comment, piece, next}
use Rattle.co_lex.specs.Spells.{AllIn, Stops, NoClose, Quotes, MayEnd, IsOpen, IsSolid, BeginsMark, IsToken, named, IsPiece, blank, feed, line_comment, include}
use Rattle.co_lex.specs.Spells as s
use Rattle.co_lex.specs.Texts.{word_text, mark_text, IsHeader, angled, quoted}
use Rattle.co_lex.proofs.Listed.{word_of-text, word_text-start, word_text-all, word_of-none, mark_of-found, header_len-front}
use Rattle.co_lex.proofs.Runs.{run-front, comment-front, literal-front, good-front, text-front}
use Rattle.co_lex.proofs.Decimals.{number-read}
use Rattle.co_lex.proofs.Pieces.{piece-solid}

abbrev pub made : Option TokenKind → ℕ → Line → Answer
made token len line = Ok (record { token = token; len = len; line = line })

-- ---- tokens

start-front : (front rest : List ℕ) (s : Start) → s ≢ start.Other → start_of front ≡ s → start_of (front ++ rest) ≡ s
start-front [] rest s other e = absurd (other (sym e))
start-front (b ∷ z) rest s other e = e

name-front : (front rest : List ℕ) → AllIn class.Name front → Stops class.Name rest → name (front ++ rest) ≡ made (Some (kind_of front (word_of front))) (length front) Begun
name-front front rest all stops = rw (run-front class.Name front rest all stops, take_at front rest (length front) refl) refl

number-front : (at : Span) (front rest : List ℕ) (v : _) → AllIn class.Number front → Stops class.Number rest → number_of front ≡ Some v → number at (front ++ rest) ≡ made (Some (kind.Int v.0 v.1)) (length front) Begun
number-front at front rest v all stops e = rw (run-front class.Number front rest all stops, take_at front rest (length front) refl, e) refl

not_below : (n : ℕ) → ltb n n ≡ false
not_below n = grind (arith, nat_tests)

below : (a b : ℕ) → a < b → ltb a b ≡ true
below a b h = grind (arith, nat_tests)

not_zero : (a : ℕ) → 0 < a → eqb a 0 ≡ false
not_zero a h = grind (arith, nat_tests)

differs : (a b : ℕ) → a ≢ b → eqb a b ≡ false
differs a b h = grind (arith, nat_tests)

literal-whole : (at : Span) (body text rest : List ℕ) → Quotes body text → literal at (34 ∷ (body ++ 34 ∷ rest)) ≡ made (Some (kind.Lit text)) (length body + 2) Begun
literal-whole at body text rest q =
    let last : get_or (34 ∷ (body ++ 34 ∷ rest)) (length body + 1) 0 ≡ 34 = get_or_at (34 ∷ body) 34 rest 0 (length body + 1) (omega arith) in
    rw (literal-front body text rest q, last, take_at body (34 ∷ rest) (length body) refl, good-front body text q, text-front body text q, not_below (length body)) refl

literal-quoted : (at : Span) (body text rest : List ℕ) → Quotes body text → literal at (34 ∷ ((body ++ 34 ∷ []) ++ rest)) ≡ made (Some (kind.Lit text)) (length (34 ∷ (body ++ 34 ∷ []))) Begun
literal-quoted at body text rest q =
    let len : length body + 2 ≡ suc (length (body ++ 34 ∷ [])) = omega (arith, length-append body (34 ∷ [])) in
    ap (λ w. literal at (34 ∷ w)) (append_assoc body (34 ∷ []) rest) ∙ (literal-whole at body text rest q ∙ ap (λ n. made (Some (kind.Lit text)) n Begun) len)

opens : (s : Start) (line : Line) (at : Span) (z : List ℕ) → IsOpen line → solid s line at z ≡ lexeme s line at z
opens s Blank at z h = refl
opens s Begun at z h = refl
opens s (Include hash) at z h = absurd h
opens s (Included hash) at z h = absurd h

-- a token whose first byte begins neither white space nor a comment
begun : (s : Start) (line : Line) (at : Span) (z : List ℕ) → IsOpen line → s ≢ start.Blank → s ≢ start.Feed → s ≢ start.Slash → start_of z ≡ s → next line at z ≡ lexeme s line at z
unfolding next
begun s line at z free b f c e = ap (λ t. piece t line at z) e ∙ (piece-solid s line at z b f c ∙ opens s line at z free)

slash-mark : (line : Line) (at : Span) (z : List ℕ) → IsOpen line → start_of z ≡ start.Slash → get_or z 1 0 ≢ 47 → get_or z 1 0 ≢ 42 → next line at z ≡ mark at z
unfolding next
slash-mark line at z free e one two =
    ap (λ t. piece t line at z) e ∙ rw (differs (get_or z 1 0) 47 one, differs (get_or z 1 0) 42 two) (opens start.Slash line at z free)

marks : (line : Line) (at : Span) (z : List ℕ) → IsOpen line → BeginsMark z → next line at z ≡ mark at z
marks line at z free (inl e) = begun start.Other line at z free (λ q. cc) (λ q. cc) (λ q. cc) e
marks line at z free (inr h) = slash-mark line at z free h.0 h.1 h.2

token-front : (line : Line) (at : Span) (front rest : List ℕ) (k : TokenKind) → IsOpen line → IsToken front rest k → next line at (front ++ rest) ≡ made (Some k) (length front) Begun
token-front line at front rest k free (s.word w r stops) =
    begun start.Letter line at (word_text w ++ r) free (λ q. cc) (λ q. cc) (λ q. cc) (start-front (word_text w) r start.Letter (λ q. cc) (word_text-start w)) ∙ (name-front (word_text w) r (word_text-all w) stops ∙ ap (λ o. made (Some (kind_of (word_text w) o)) (length (word_text w)) Begun) (word_of-text w))
token-front line at front rest k free (s.named f r first all stops other) =
    begun start.Letter line at (f ++ r) free (λ q. cc) (λ q. cc) (λ q. cc) (start-front f r start.Letter (λ q. cc) first) ∙ (name-front f r all stops ∙ ap (λ o. made (Some (kind_of f o)) (length f) Begun) (word_of-none f other))
token-front line at front rest k free (s.number f r num value first all stops e) =
    begun start.Digit line at (f ++ r) free (λ q. cc) (λ q. cc) (λ q. cc) (start-front f r start.Digit (λ q. cc) first) ∙ number-front at f r (num, value) all stops (number-read f num value e)
token-front line at front rest k free (s.literal body text r q) =
    begun start.Quote line at (34 ∷ ((body ++ 34 ∷ []) ++ r)) free (λ q. cc) (λ q. cc) (λ q. cc) refl ∙ literal-quoted at body text r q
token-front line at front rest k free (s.mark m r h longest) = marks line at (mark_text m ++ r) free h ∙ ap (mark_piece at) (mark_of-found m r longest)

-- ---- white space and directives

feed-front : (line : Line) (at : Span) (b : ℕ) (rest : List ℕ) → begins b ≡ start.Feed → MayEnd line → next line at (b ∷ rest) ≡ made None 1 Blank
unfolding next
feed-front Blank at b rest e h = ap (λ s. piece s Blank at (b ∷ rest)) e
feed-front Begun at b rest e h = ap (λ s. piece s Begun at (b ∷ rest)) e
feed-front (Include hash) at b rest e h = absurd h
feed-front (Included hash) at b rest e h = ap (λ s. piece s (Included hash) at (b ∷ rest)) e

block-front : (line : Line) (at : Span) (text w rest : List ℕ) → w ≡ text ++ 42 ∷ 47 ∷ [] → NoClose (text ++ 42 ∷ []) → block_comment line at (47 ∷ 42 ∷ (w ++ rest)) ≡ made None (length (47 ∷ 42 ∷ w)) (line_after line (has_feed (47 ∷ 42 ∷ w)))
block-front line at text w rest e none =
    let n : comment_len (w ++ rest) ≡ length text = ap (λ v. comment_len (v ++ rest)) e ∙ (ap comment_len (append_assoc text (42 ∷ 47 ∷ []) rest) ∙ comment-front text rest none) in
    let size : length w ≡ length text + 2 = ap length e ∙ omega (arith, length-append text (42 ∷ 47 ∷ [])) in
    let within : ltb (length text + 2) (suc (suc (length (w ++ rest)))) ≡ true = below (length text + 2) (suc (suc (length (w ++ rest)))) (omega (arith, length-append w rest)) in
    let whole : length text + 4 ≡ suc (suc (length w)) = omega arith in
    rw (n, within, whole, take_at w rest (length w) refl) refl

header-found : (hash at : Span) (front rest : List ℕ) → IsHeader front → 0 < length front → header hash (front ++ rest) ≡ made None (length front) (Included hash)
header-found hash at front rest h some = let e = header_len-front front rest h in rw (e, not_zero (length front) some) refl

header-front : (hash at : Span) (front rest : List ℕ) → IsHeader front → next (Include hash) at (front ++ rest) ≡ made None (length front) (Included hash)
unfolding next
header-front hash at front rest (angled n h) = header-found hash at (60 ∷ (n ++ 62 ∷ [])) rest (angled n h) (omega arith)
header-front hash at front rest (quoted n h) = header-found hash at (34 ∷ (n ++ 34 ∷ [])) rest (quoted n h) (omega arith)

pub piece-front : (line : Line) (at : Span) (front rest : List ℕ) (token : Option TokenKind) (after : Line) → IsPiece line at front rest token after → next line at (front ++ rest) ≡ made token (length front) after
unfolding next
piece-front line at front rest token after (s.blank l a b r e) = ap (λ t. piece t l a (b ∷ r)) e
piece-front line at front rest token after (s.feed l a b r e h) = feed-front l a b r e h
piece-front line at front rest token after (s.line_comment l a text r all stops) =
    ap (λ n. made None n l) (run-front class.Line (47 ∷ 47 ∷ text) r (refl, (refl, all)) stops)
piece-front line at front rest token after (s.block_comment l a text r none) = block-front l a text (text ++ 42 ∷ 47 ∷ []) r refl none
piece-front line at front rest token after (s.include a r) = refl
piece-front line at front rest token after (s.header hash a f r h) = header-front hash a f r h
piece-front line at front rest token after (s.token l a f r k free h) = token-front l a f r k free h
