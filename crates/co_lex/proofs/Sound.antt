-- The piece that the bytes begin with is what the relation calls one.
use Rattle.std.proofs.Common.{◌≡◌, ◌≢◌, ℕ, zero, suc, ◌+◌, ◌<◌, ◌≤◌, Bool, true, false, cond, eqb, ltb, List, [], ◌∷◌, ◌++◌, length, take, drop, get_or, nat_eq, Option, Some, None, IfSome, Ok, Err, refl, sym, ap, ◌∙◌, subst, inl, inr, append_assoc, length-append, arith, codes, ℤ}
use Rattle.std.specs.List.{starts_with}
use Rattle.std.proofs.lemmas.Bool.Decides.{nat_tests, Decides-eqb}
use Rattle.std.proofs.lemmas.List.{take_at, drop_at, take_more, get_or_past, length-take-le}
use Rattle.std.proofs.lemmas.List.Sums.{prefix_len-le-length}
use Rattle.std.proofs.lemmas.Slice.Eq.{starts_is}
use Rattle.co_base.specs.declared.span.Span.{Span}
use Rattle.co_base.specs.declared.kinds.Num.{Num}
use Rattle.co_lex.specs.declared.fault.LexFault.TheVariants.{BadByte, BadDirective, Unfinished}
use Rattle.co_lex.specs.declared.lexer.Line.{Line}
use Rattle.co_lex.specs.declared.lexer.Line.TheVariants.{Blank, Begun, Include, Included}
use Rattle.co_lex.specs.declared.lexer.Piece.{Piece}
use Rattle.co_lex.specs.declared.scan.Class.{Class}
use Rattle.co_lex.specs.declared.scan.Class.TheVariants as class
use Rattle.co_lex.specs.declared.scan.Start.{Start}
use Rattle.co_lex.specs.declared.scan.Start.TheVariants as start
use Rattle.co_lex.specs.declared.token.Word.{Word}
use Rattle.co_lex.specs.declared.token.Mark.{Mark}
use Rattle.co_lex.specs.declared.token.TokenKind.TheVariants as kind
use Rattle.co_lex.specs.Place.{position_after}
use Rattle.co_lex.specs.Scan.{kind_of, begins, is_in, run, comment_len, literal_len, good_len, text_of, number_of}
use Rattle.co_lex.specs.Table.{word_of, mark_of, header_len, front, front_len, headers}
use Rattle.co_lex.specs.Lexer.{Answer, start_of, line_after, has_feed, space, token, name, number, number_piece, literal, mark, mark_piece, include, header, lexeme, solid, line_feed, block_comment, slash, piece, next}
use Rattle.co_lex.specs.Spells.{AllIn, Stops, NoClose, Quotes, MayEnd, IsOpen, IsSolid, BeginsMark, IsToken, IsPiece}
use Rattle.co_lex.specs.Spells as s
use Rattle.co_lex.specs.Texts.{mark_text}
use Rattle.co_lex.proofs.Listed.{word_of-text, word_of-spelled, mark_of-longest, header_len-listed}
use Rattle.co_lex.proofs.Runs.{run-all, run-stops, comment-closed, literal-sound}
use Rattle.co_lex.proofs.Decimals.{number-spelled}
use Rattle.co_lex.proofs.Marks.{mark_of-some}

abbrev pub IsRead : Line → Span → List ℕ → Piece → Type 0
IsRead line at z p = IsPiece line at (take p.len z) (drop p.len z) p.token p.line × (1 ≤ p.len) × (p.len ≤ length z)

abbrev made_of : Piece → Answer
made_of q = Ok q

same_piece : (q p : Piece) → made_of q ≡ Ok p → q ≡ p
same_piece q p e = cc

reads : (line : Line) (at : Span) (z : List ℕ) (q p : Piece) → made_of q ≡ Ok p → IsRead line at z q → IsRead line at z p
reads line at z q p e h = subst (λ r. IsRead line at z r) (same_piece q p e) h

-- ---- names and numbers

letter_in : (b : ℕ) → begins b ≡ start.Letter → is_in class.Name b ≡ true
letter_in b h = grind (arith, nat_tests)

digit_in : (b : ℕ) → begins b ≡ start.Digit → is_in class.Number b ≡ true
digit_in b h = grind (arith, nat_tests)

run-some : (c : Class) (b : ℕ) (z : List ℕ) → is_in c b ≡ true → 1 ≤ run c (b ∷ z)
run-some c b z h = let e : run c (b ∷ z) ≡ 1 + run c z = ap (λ t. cond t (1 + run c z) 0) h in omega arith

start_of-take : (n : ℕ) (z : List ℕ) → 1 ≤ n → start_of (take n z) ≡ start_of z
start_of-take zero z h = absurd (omega arith)
start_of-take (suc n) [] h = refl
start_of-take (suc n) (b ∷ z) h = refl

name_token : (front rest : List ℕ) (o : Option Word) → word_of front ≡ o → start_of front ≡ start.Letter → AllIn class.Name front → Stops class.Name rest → IsToken front rest (kind_of front o)
name_token front rest (Some w) e first all stops = subst (λ f. IsToken f rest (kind.Word w)) (sym (word_of-spelled front w e)) (s.word w rest stops)
name_token front rest None e first all stops =
    s.named front rest first all stops (λ w q. let k : None ≡ Some w = sym e ∙ (ap word_of q ∙ word_of-text w) in cc)

name-read : (line : Line) (at : Span) (b : ℕ) (z : List ℕ) (p : Piece) → IsOpen line → begins b ≡ start.Letter → name (b ∷ z) ≡ Ok p → IsRead line at (b ∷ z) p
name-read line at b z p free first e =
    let n = run class.Name (b ∷ z) in
    let some : 1 ≤ n = run-some class.Name b z (letter_in b first) in
    let t = name_token (take n (b ∷ z)) (drop n (b ∷ z)) (word_of (take n (b ∷ z))) refl (start_of-take n (b ∷ z) some ∙ first) (run-all class.Name (b ∷ z)) (run-stops class.Name (b ∷ z)) in
    reads line at (b ∷ z) _ p e (s.token line at (take n (b ∷ z)) (drop n (b ∷ z)) _ free t, some, prefix_len-le-length (is_in class.Name) (b ∷ z))

number-at : (line : Line) (at : Span) (b : ℕ) (z : List ℕ) (p : Piece) (o : Option (Num × ℤ)) → IsOpen line → begins b ≡ start.Digit → number_of (take (run class.Number (b ∷ z)) (b ∷ z)) ≡ o → number_piece at o (run class.Number (b ∷ z)) ≡ Ok p → IsRead line at (b ∷ z) p
number-at line at b z p None free first v e = absurd (cc)
number-at line at b z p (Some v) free first same e =
    let n = run class.Number (b ∷ z) in
    let some : 1 ≤ n = run-some class.Number b z (digit_in b first) in
    let t = s.number (take n (b ∷ z)) (drop n (b ∷ z)) v.0 v.1 (start_of-take n (b ∷ z) some ∙ first) (run-all class.Number (b ∷ z)) (run-stops class.Number (b ∷ z)) (number-spelled (take n (b ∷ z)) v.0 v.1 same) in
    reads line at (b ∷ z) _ p e (s.token line at (take n (b ∷ z)) (drop n (b ∷ z)) _ free t, some, prefix_len-le-length (is_in class.Number) (b ∷ z))

number-read : (line : Line) (at : Span) (b : ℕ) (z : List ℕ) (p : Piece) → IsOpen line → begins b ≡ start.Digit → number at (b ∷ z) ≡ Ok p → IsRead line at (b ∷ z) p
number-read line at b z p free first e = number-at line at b z p (number_of (take (run class.Number (b ∷ z)) (b ∷ z))) free first refl e

-- ---- text literals

quote_is : (b : ℕ) → begins b ≡ start.Quote → 34 ≡ b
quote_is b h = grind (arith, nat_tests)

slash_is : (b : ℕ) → begins b ≡ start.Slash → 47 ≡ b
slash_is b h = grind (arith, nat_tests)

is_true : (a b : ℕ) → eqb a b ≡ true → a ≡ b
is_true a b h = grind (arith, nat_tests)

is_false : (a b : ℕ) → eqb a b ≡ false → a ≢ b
is_false a b h e = grind (arith, nat_tests)

at_least : (a b : ℕ) → ltb a b ≡ false → b ≤ a
at_least a b h = grind (arith, nat_tests)

less : (a b : ℕ) → ltb a b ≡ true → a < b
less a b h = grind (arith, nat_tests)

in_list : (z : List ℕ) (n : ℕ) → get_or z n 0 ≡ 34 → n < length z
in_list z n h = grind (arith, get_or_past)

closing_at : (z : List ℕ) (n : ℕ) → get_or (34 ∷ z) (n + 1) 0 ≡ 34 → get_or z n 0 ≡ 34
closing_at z n h = let e : suc n ≡ n + 1 = omega arith in ap (λ k. get_or (34 ∷ z) k 0) e ∙ h

literal-whole : (line : Line) (at : Span) (z : List ℕ) (n : ℕ) → IsOpen line → get_or z n 0 ≡ 34 → Quotes (take n z) (text_of false (take n z)) → IsRead line at (34 ∷ z) (record { token = Some (kind.Lit (text_of false (take n z))); len = n + 2; line = Begun })
literal-whole line at z n free closed q =
    let within : n < length z = in_list z n closed in
    let size : suc (n + 1) ≡ n + 2 = omega arith in
    let body : take (n + 1) z ≡ take n z ++ 34 ∷ [] = take_more z n 0 within ∙ ap (λ c. take n z ++ c ∷ []) closed in
    let whole : 34 ∷ (take n z ++ 34 ∷ []) ≡ take (n + 2) (34 ∷ z) = ap (λ w. 34 ∷ w) (sym body) ∙ ap (λ k. take k (34 ∷ z)) size in
    let t = s.token line at (34 ∷ (take n z ++ 34 ∷ [])) (drop (n + 2) (34 ∷ z)) _ free (s.literal (take n z) (text_of false (take n z)) (drop (n + 2) (34 ∷ z)) q) in
    (subst (λ w. IsPiece line at w (drop (n + 2) (34 ∷ z)) (Some (kind.Lit (text_of false (take n z)))) Begun) whole t, omega arith, omega arith)

literal-at : (line : Line) (at : Span) (z : List ℕ) (p : Piece) (t u : Bool) → IsOpen line → eqb (get_or (34 ∷ z) (literal_len false z + 1) 0) 34 ≡ t → ltb (good_len false (take (literal_len false z) z)) (literal_len false z) ≡ u → cond t (cond u (Err (BadByte (position_after at (take (good_len false (take (literal_len false z) z) + 1) (34 ∷ z))))) (token (kind.Lit (text_of false (take (literal_len false z) z))) (literal_len false z + 2))) (Err (Unfinished at)) ≡ Ok p → IsRead line at (34 ∷ z) p
literal-at line at z p false u free one two e = absurd (cc)
literal-at line at z p true true free one two e = absurd (cc)
literal-at line at z p true false free one two e =
    let n = literal_len false z in
    let closed = closing_at z n (is_true (get_or (34 ∷ z) (n + 1) 0) 34 one) in
    reads line at (34 ∷ z) _ p e (literal-whole line at z n free closed (literal-sound z closed (at_least (good_len false (take n z)) n two)))

literal-read : (line : Line) (at : Span) (z : List ℕ) (p : Piece) → IsOpen line → literal at (34 ∷ z) ≡ Ok p → IsRead line at (34 ∷ z) p
literal-read line at z p free e = literal-at line at z p (eqb (get_or (34 ∷ z) (literal_len false z + 1) 0) 34) (ltb (good_len false (take (literal_len false z) z)) (literal_len false z)) free refl refl e

-- ---- marks and headers

front_is : (z p : List ℕ) → starts_with nat_eq z p ≡ true → z ≡ p ++ drop (length p) z
front_is z p h = (starts_is Decides-eqb z p (starts_with nat_eq z p) refl).0 h

front_within : (z p : List ℕ) → starts_with nat_eq z p ≡ true → length p ≤ length z
front_within z p h = omega (arith, ap length (front_is z p h), length-append p (drop (length p) z))

header-within_at : (z p : List ℕ) (t : Bool) (more : ℕ) → starts_with nat_eq z p ≡ t → more ≤ length z → cond t (length p) more ≤ length z
header-within_at z p true more e h = front_within z p e
header-within_at z p false more e h = h

header-within : (hs : List (List ℕ)) (z : List ℕ) → front_len hs z ≤ length z
header-within [] z = omega arith
header-within (h ∷ hs) z = header-within_at z h (starts_with nat_eq z h) (front_len hs z) refl (header-within hs z)

header_len-within : (z : List ℕ) → header_len z ≤ length z
unfolding header_len
header_len-within z = header-within headers z

at_some : (P : Mark × ℕ → Type 0) (o : Option (Mark × ℕ)) (m : Mark × ℕ) → o ≡ Some m → IfSome o P → P m
at_some P o m e h = let h2 : IfSome (Some m) P = subst (λ q. IfSome q P) e h in h2

mark-at : (line : Line) (at : Span) (z : List ℕ) (p : Piece) (o : Option (Mark × ℕ)) → IsOpen line → BeginsMark z → mark_of z ≡ o → mark_piece at o ≡ Ok p → IsRead line at z p
mark-at line at z p None free h same e = absurd (cc)
mark-at line at z p (Some m) free h same e =
    let n = m.1 in
    let text = mark_text m.0 in
    let rest = drop n z in
    let some = at_some (λ k. 1 ≤ k.1) (mark_of z) m same (mark_of-some z) in
    let a = mark_of-longest z m.0 n same in
    let within : n ≤ length z = omega (arith, ap length a.1, length-append text rest, a.0) in
    let first : text ≡ take n z = sym (ap (take n) a.1 ∙ take_at text rest n (sym a.0)) in
    let t = s.mark m.0 rest (subst (λ w. BeginsMark w) a.1 h) (λ k more q. let l = a.2 k more (a.1 ∙ q) in omega (arith, a.0)) in
    reads line at z _ p e (s.token line at (take n z) rest _ free (subst (λ w. IsToken w rest (kind.Mark m.0)) first t), some, within)

mark-read : (line : Line) (at : Span) (z : List ℕ) (p : Piece) → IsOpen line → BeginsMark z → mark at z ≡ Ok p → IsRead line at z p
mark-read line at z p free h e = mark-at line at z p (mark_of z) free h refl e

header-at : (hash at : Span) (z : List ℕ) (p : Piece) (t : Bool) → eqb (header_len z) 0 ≡ t → cond t (Err (BadDirective hash)) (space (Included hash) (header_len z)) ≡ Ok p → IsRead (Include hash) at z p
header-at hash at z p true same e = absurd (cc)
header-at hash at z p false same e =
    let n = header_len z in
    let apart = is_false n 0 same in
    reads (Include hash) at z _ p e (s.header hash at (take n z) (drop n z) (header_len-listed z apart), omega arith, header_len-within z)

header-read : (hash at : Span) (z : List ℕ) (p : Piece) → header hash z ≡ Ok p → IsRead (Include hash) at z p
header-read hash at z p e = header-at hash at z p (eqb (header_len z) 0) refl e

include-at : (at : Span) (z : List ℕ) (p : Piece) (t : Bool) → starts_with nat_eq z (codes "#include") ≡ t → cond t (space (Include at) 8) (Err (BadDirective at)) ≡ Ok p → IsRead Blank at z p
include-at at z p false same e = absurd (cc)
include-at at z p true same e =
    let whole : z ≡ codes "#include" ++ drop 8 z = front_is z (codes "#include") same in
    let first : codes "#include" ≡ take 8 z = sym (ap (take 8) whole ∙ take_at (codes "#include") (drop 8 z) 8 refl) in
    reads Blank at z _ p e (subst (λ w. IsPiece Blank at w (drop 8 z) None (Include at)) first (s.include at (drop 8 z)), omega arith, front_within z (codes "#include") same)

include-read : (at : Span) (z : List ℕ) (p : Piece) → include at z ≡ Ok p → IsRead Blank at z p
include-read at z p e = include-at at z p (starts_with nat_eq z (codes "#include")) refl e

-- ---- comments, and the first byte of all

line_comment-read : (line : Line) (at : Span) (z : List ℕ) (p : Piece) → space line (run class.Line (47 ∷ 47 ∷ z)) ≡ Ok p → IsRead line at (47 ∷ 47 ∷ z) p
line_comment-read line at z p e =
    let n : suc (suc (run class.Line z)) ≡ run class.Line (47 ∷ 47 ∷ z) = omega arith in
    let h : IsRead line at (47 ∷ 47 ∷ z) (record { token = None; len = suc (suc (run class.Line z)); line = line }) =
    (s.line_comment line at (take (run class.Line z) z) (drop (run class.Line z) z) (run-all class.Line z) (run-stops class.Line z), omega arith, omega (arith, prefix_len-le-length (is_in class.Line) z)) in
    reads line at (47 ∷ 47 ∷ z) _ p e (subst (λ k. IsRead line at (47 ∷ 47 ∷ z) (record { token = None; len = k; line = line })) n h)

block-whole : (line : Line) (at : Span) (z : List ℕ) (n : ℕ) → n < length z → (z ≡ take n z ++ 42 ∷ 47 ∷ drop (suc (suc n)) z) × NoClose (take n z ++ 42 ∷ []) → IsRead line at (47 ∷ 42 ∷ z) (record { token = None; len = n + 4; line = line_after line (has_feed (take (n + 4) (47 ∷ 42 ∷ z))) })
block-whole line at z n within h =
    let text = take n z in
    let rest = drop (suc (suc n)) z in
    let w = text ++ 42 ∷ 47 ∷ [] in
    let whole : z ≡ w ++ rest = h.0 ∙ sym (append_assoc text (42 ∷ 47 ∷ []) rest) in
    let len : length w ≡ n + 2 = omega (arith, length-append text (42 ∷ 47 ∷ []), length-take-le n z (omega arith)) in
    let size : suc (suc (n + 2)) ≡ n + 4 = omega arith in
    let first : 47 ∷ 42 ∷ w ≡ take (n + 4) (47 ∷ 42 ∷ z) = ap (λ v. 47 ∷ 42 ∷ v) (sym (ap (take (n + 2)) whole ∙ take_at w rest (n + 2) len)) ∙ ap (λ k. take k (47 ∷ 42 ∷ z)) size in
    let last : rest ≡ drop (n + 4) (47 ∷ 42 ∷ z) = sym (ap (drop (n + 2)) whole ∙ drop_at w rest (n + 2) len) ∙ ap (λ k. drop k (47 ∷ 42 ∷ z)) size in
    let t = s.block_comment line at text rest h.1 in
    let t2 = subst (λ v. IsPiece line at v rest None (line_after line (has_feed v))) first t in
    (subst (λ v. IsPiece line at (take (n + 4) (47 ∷ 42 ∷ z)) v None (line_after line (has_feed (take (n + 4) (47 ∷ 42 ∷ z))))) last t2, omega arith, omega (arith, ap length whole, length-append w rest))

block-at : (line : Line) (at : Span) (z : List ℕ) (p : Piece) (t : Bool) → ltb (comment_len z + 2) (suc (suc (length z))) ≡ t → cond t (space (line_after line (has_feed (take (comment_len z + 4) (47 ∷ 42 ∷ z)))) (comment_len z + 4)) (Err (Unfinished at)) ≡ Ok p → IsRead line at (47 ∷ 42 ∷ z) p
block-at line at z p false same e = absurd (cc)
block-at line at z p true same e =
    let within = less (comment_len z + 2) (suc (suc (length z))) same in
    let short : comment_len z < length z = omega arith in
    reads line at (47 ∷ 42 ∷ z) _ p e (block-whole line at z (comment_len z) short (comment-closed z short))

block-read : (line : Line) (at : Span) (z : List ℕ) (p : Piece) → block_comment line at (47 ∷ 42 ∷ z) ≡ Ok p → IsRead line at (47 ∷ 42 ∷ z) p
block-read line at z p e = block-at line at z p (ltb (comment_len z + 2) (suc (suc (length z)))) refl e

feed-read : (line : Line) (at : Span) (b : ℕ) (z : List ℕ) (p : Piece) → begins b ≡ start.Feed → line_feed line ≡ Ok p → IsRead line at (b ∷ z) p
feed-read Blank at b z p h e = reads Blank at (b ∷ z) _ p e (s.feed Blank at b z h tt, omega arith, omega arith)
feed-read Begun at b z p h e = reads Begun at (b ∷ z) _ p e (s.feed Begun at b z h tt, omega arith, omega arith)
feed-read (Include hash) at b z p h e = absurd (cc)
feed-read (Included hash) at b z p h e = reads (Included hash) at (b ∷ z) _ p e (s.feed (Included hash) at b z h tt, omega arith, omega arith)

-- `lexeme` where no directive stands on the line
lexeme-read : (t : Start) (line : Line) (at : Span) (b : ℕ) (z : List ℕ) (p : Piece) → IsOpen line → begins b ≡ t → IsSolid (b ∷ z) → lexeme t line at (b ∷ z) ≡ Ok p → IsRead line at (b ∷ z) p
lexeme-read start.Blank line at b z p free h other e = absurd (other.0 h)
lexeme-read start.Feed line at b z p free h other e = absurd (other.1 h)
lexeme-read start.Letter line at b z p free h other e = name-read line at b z p free h e
lexeme-read start.Digit line at b z p free h other e = number-read line at b z p free h e
lexeme-read start.Quote line at b z p free h other e =
    subst (λ c. literal at (c ∷ z) ≡ Ok p → IsRead line at (c ∷ z) p) (quote_is b h) (literal-read line at z p free) e
lexeme-read start.Slash line at b z p free h other e = mark-read line at (b ∷ z) p free (inr (h, (other.2 h).0, (other.2 h).1)) e
lexeme-read start.Hash Blank at b z p free h other e = include-read at (b ∷ z) p e
lexeme-read start.Hash Begun at b z p free h other e = absurd (cc)
lexeme-read start.Hash (Include hash) at b z p free h other e = absurd free
lexeme-read start.Hash (Included hash) at b z p free h other e = absurd free
lexeme-read start.Other line at b z p free h other e = mark-read line at (b ∷ z) p free (inl h) e

solid-read : (t : Start) (line : Line) (at : Span) (b : ℕ) (z : List ℕ) (p : Piece) → begins b ≡ t → IsSolid (b ∷ z) → solid t line at (b ∷ z) ≡ Ok p → IsRead line at (b ∷ z) p
solid-read t Blank at b z p h c e = lexeme-read t Blank at b z p tt h c e
solid-read t Begun at b z p h c e = lexeme-read t Begun at b z p tt h c e
solid-read t (Include hash) at b z p h c e = header-read hash at (b ∷ z) p e
solid-read t (Included hash) at b z p h c e = absurd (cc)

-- what is neither white space nor begins with `/`
solid_from : (b : ℕ) (z : List ℕ) (t : Start) → begins b ≡ t → t ≢ start.Blank → t ≢ start.Feed → t ≢ start.Slash → IsSolid (b ∷ z)
solid_from b z t h blank feed slash = ((λ e. blank (sym h ∙ e)), (λ e. feed (sym h ∙ e)), (λ e. absurd (slash (sym h ∙ e))))

slash-at : (c : ℕ) (line : Line) (at : Span) (b : ℕ) (z : List ℕ) (p : Piece) (t u : Bool) → get_or z 0 0 ≡ c → eqb c 47 ≡ t → eqb c 42 ≡ u → begins b ≡ start.Slash → cond t (space line (run class.Line (b ∷ z))) (cond u (block_comment line at (b ∷ z)) (solid start.Slash line at (b ∷ z))) ≡ Ok p → IsRead line at (b ∷ z) p
slash-at c line at b [] p true u same one two h e = absurd (is_false 0 47 refl (same ∙ is_true c 47 one))
slash-at c line at b (d ∷ z) p true u same one two h e =
    let second : 47 ≡ d = sym (same ∙ is_true c 47 one) in
    subst (λ k. space line (run class.Line (k ∷ d ∷ z)) ≡ Ok p → IsRead line at (k ∷ d ∷ z) p) (slash_is b h)
    (subst (λ k. space line (run class.Line (47 ∷ k ∷ z)) ≡ Ok p → IsRead line at (47 ∷ k ∷ z) p) second (line_comment-read line at z p)) e
slash-at c line at b [] p false true same one two h e = absurd (is_false 0 42 refl (same ∙ is_true c 42 two))
slash-at c line at b (d ∷ z) p false true same one two h e =
    let second : 42 ≡ d = sym (same ∙ is_true c 42 two) in
    subst (λ k. block_comment line at (k ∷ d ∷ z) ≡ Ok p → IsRead line at (k ∷ d ∷ z) p) (slash_is b h)
    (subst (λ k. block_comment line at (47 ∷ k ∷ z) ≡ Ok p → IsRead line at (47 ∷ k ∷ z) p) second (block-read line at z p)) e
slash-at c line at b z p false false same one two h e =
    let apart : (get_or z 0 0 ≢ 47) × (get_or z 0 0 ≢ 42) = ((λ q. is_false c 47 one (sym same ∙ q)), (λ q. is_false c 42 two (sym same ∙ q))) in
    let neither : IsSolid (b ∷ z) = ((λ q. let k : start.Slash ≡ start.Blank = sym h ∙ q in cc), (λ q. let k : start.Slash ≡ start.Feed = sym h ∙ q in cc), (λ q. apart)) in
    solid-read start.Slash line at b z p h neither e

piece-read : (t : Start) (line : Line) (at : Span) (b : ℕ) (z : List ℕ) (p : Piece) → begins b ≡ t → piece t line at (b ∷ z) ≡ Ok p → IsRead line at (b ∷ z) p
piece-read start.Blank line at b z p h e = reads line at (b ∷ z) _ p e (s.blank line at b z h, omega arith, omega arith)
piece-read start.Feed line at b z p h e = feed-read line at b z p h e
piece-read start.Slash line at b z p h e = slash-at (get_or z 0 0) line at b z p (eqb (get_or z 0 0) 47) (eqb (get_or z 0 0) 42) refl refl refl h e
piece-read start.Letter line at b z p h e = solid-read start.Letter line at b z p h (solid_from b z start.Letter h (λ q. cc) (λ q. cc) (λ q. cc)) e
piece-read start.Digit line at b z p h e = solid-read start.Digit line at b z p h (solid_from b z start.Digit h (λ q. cc) (λ q. cc) (λ q. cc)) e
piece-read start.Quote line at b z p h e = solid-read start.Quote line at b z p h (solid_from b z start.Quote h (λ q. cc) (λ q. cc) (λ q. cc)) e
piece-read start.Hash line at b z p h e = solid-read start.Hash line at b z p h (solid_from b z start.Hash h (λ q. cc) (λ q. cc) (λ q. cc)) e
piece-read start.Other line at b z p h e = solid-read start.Other line at b z p h (solid_from b z start.Other h (λ q. cc) (λ q. cc) (λ q. cc)) e

pub next-read : (line : Line) (at : Span) (z : List ℕ) (p : Piece) → 0 < length z → next line at z ≡ Ok p → IsRead line at z p
unfolding next
next-read line at [] p some e = absurd (omega arith)
next-read line at (b ∷ z) p some e = piece-read (begins b) line at b z p refl e
