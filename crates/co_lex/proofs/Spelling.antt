-- The laws of the lexer: its tokens are the spelling of the bytes, and its fault is that of the first place where there is none.
use Rattle.std.proofs.Common.{◌≡◌, ◌≢◌, ℕ, zero, suc, ◌+◌, ◌<◌, ◌≤◌, Bool, true, false, cond, eqb, ltb, List, [], ◌∷◌, ◌++◌, length, take, drop, get_or, nat_eq, Option, Some, None, IfSome, Ok, Err, refl, sym, ap, ◌∙◌, subst, length-append, take-append-drop, length-drop, arith, codes, ℤ}
use Rattle.std.specs.List.{starts_with}
use Rattle.std.proofs.lemmas.List.{take_at, drop_at}
use Rattle.co_base.specs.declared.span.Span.{Span}
use Rattle.co_base.specs.declared.kinds.Num.{Num}
use Rattle.co_lex.specs.declared.fault.LexFault.{LexFault}
use Rattle.co_lex.specs.declared.fault.LexFault.TheVariants.{BadByte, BadNumber, BadDirective, Unfinished}
use Rattle.co_lex.specs.declared.lexer.Line.{Line}
use Rattle.co_lex.specs.declared.lexer.Line.TheVariants.{Blank, Begun, Include, Included}
use Rattle.co_lex.specs.declared.lexer.Piece.{Piece}
use Rattle.co_lex.specs.declared.scan.Class.TheVariants as class
use Rattle.co_lex.specs.declared.scan.Start.{Start}
use Rattle.co_lex.specs.declared.scan.Start.TheVariants as start
use Rattle.co_lex.specs.declared.token.Mark.{Mark}
use Rattle.co_lex.specs.declared.token.Token.{Token}
use Rattle.co_lex.specs.declared.token.TokenKind.{TokenKind}
use Rattle.co_lex.specs.declared.token.TokenKind.TheVariants as kind
use Rattle.co_lex.specs.Place.{position_after}
use Rattle.co_lex.specs.Scan.{run, comment_len, literal_len, good_len, text_of, number_of}
use Rattle.co_lex.specs.Table.{mark_of, header_len}
use Rattle.co_lex.specs.Lexer.{Answer, Tokens, start_of, line_after, has_feed, space, token, number_piece, literal, mark_piece, lexeme, solid, line_feed, piece, next, finish, with_front, token_at, lexed_from, lexed}
use Rattle.co_lex.specs.Spells.{MayEnd, IsToken, IsPiece, SpellsFrom, Spells, literal_fault, token_fault, solid_fault, fault_by, fault_of, IsStuck, FailsFrom, Fails, TokensSpell, SpelledOnce, FaultIsFirst}
use Rattle.co_lex.specs.Spells as s
use Rattle.co_lex.specs.Texts.{word_text, mark_text, IsHeader, angled, quoted}
use Rattle.co_lex.proofs.Listed.{word_text-start, mark_of-text}
use Rattle.co_lex.proofs.Marks.{mark_of-some}
use Rattle.co_lex.proofs.Steps.{lexed_from-piece, lexed_from-fault}
use Rattle.co_lex.proofs.Complete.{piece-front}
use Rattle.co_lex.proofs.Sound.{next-read}

-- ---- each piece has a byte

at_least_one : (front : List ℕ) → (front ≡ [] → ⊥) → 0 < length front
at_least_one [] h = absurd (h refl)
at_least_one (b ∷ z) h = omega arith

begun : (front : List ℕ) (t : Start) → t ≢ start.Other → start_of front ≡ t → 0 < length front
begun [] t other e = absurd (other (sym e))
begun (b ∷ z) t other e = omega arith

mark-some : (z : List ℕ) (m : Mark) (n : ℕ) → mark_of z ≡ Some (m, n) → 1 ≤ n
mark-some z m n e = let h : 1 ≤ n = (subst (λ o. IfSome o (λ k. 1 ≤ k.1)) e (mark_of-some z)) in h

token-some : (front rest : List ℕ) (k : TokenKind) → IsToken front rest k → 0 < length front
token-some front rest k (s.word w r stops) = begun (word_text w) start.Letter (λ q. cc) (word_text-start w)
token-some front rest k (s.named f r first all stops other) = begun f start.Letter (λ q. cc) first
token-some front rest k (s.number f r num value first all stops e) = begun f start.Digit (λ q. cc) first
token-some front rest k (s.literal body text r q) = omega arith
token-some front rest k (s.mark m r h longest) = mark-some (mark_text m) m (length (mark_text m)) (mark_of-text m)

header-some : (front : List ℕ) → IsHeader front → 0 < length front
header-some front (angled n h) = omega arith
header-some front (quoted n h) = omega arith

piece-some : (line : Line) (at : Span) (front rest : List ℕ) (token : Option TokenKind) (after : Line) → IsPiece line at front rest token after → 0 < length front
piece-some line at front rest token after (s.blank l a b r e) = omega arith
piece-some line at front rest token after (s.feed l a b r e h) = omega arith
piece-some line at front rest token after (s.line_comment l a text r all stops) = omega arith
piece-some line at front rest token after (s.block_comment l a text r none) = omega arith
piece-some line at front rest token after (s.include a r) = omega arith
piece-some line at front rest token after (s.header hash a f r h) = header-some f h
piece-some line at front rest token after (s.token l a f r k free h) = token-some f r k h

-- ---- tokens

-- what follows a piece decides what the bytes are
over_piece : (line : Line) (at : Span) (front rest : List ℕ) (token : Option TokenKind) (after : Line) → IsPiece line at front rest token after → lexed_from 0 line at (front ++ rest) ≡ with_front (token_at at token) (lexed_from 0 after (position_after at front) rest)
over_piece line at front rest token after h =
    let some = piece-some line at front rest token after h in
    let whole : 0 < length (front ++ rest) = omega (arith, length-append front rest) in
    let p : Piece = record { token = token; len = length front; line = after } in
    let e = lexed_from-piece line at (front ++ rest) p whole some (piece-front line at front rest token after h) in
    e ∙ rw (take_at front rest (length front) refl, drop_at front rest (length front) refl) refl

finish-ends : (line : Line) (at : Span) → MayEnd line → finish line at ≡ Ok (record { kind = kind.End; span = at } ∷ [])
finish-ends Blank at h = refl
finish-ends Begun at h = refl
finish-ends (Include hash) at h = absurd h
finish-ends (Included hash) at h = refl

spells-lexed : (line : Line) (at : Span) (z : List ℕ) (tokens : List Token) → SpellsFrom line at z tokens → lexed_from 0 line at z ≡ Ok tokens
spells-lexed line at z tokens (s.ends l a h) = finish-ends l a h
spells-lexed line at z tokens (s.piece l a front rest token after more h later) =
    over_piece l a front rest token after h ∙ ap (with_front (token_at a token)) (spells-lexed after (position_after a front) rest more later)

finish-spells : (line : Line) (at : Span) (tokens : List Token) → finish line at ≡ Ok tokens → SpellsFrom line at [] tokens
finish-spells Blank at tokens e = subst (λ t. SpellsFrom Blank at [] t) (cc) (s.ends Blank at tt)
finish-spells Begun at tokens e = subst (λ t. SpellsFrom Begun at [] t) (cc) (s.ends Begun at tt)
finish-spells (Include hash) at tokens e = absurd (cc)
finish-spells (Included hash) at tokens e = subst (λ t. SpellsFrom (Included hash) at [] t) (cc) (s.ends (Included hash) at tt)

behind : (front tokens : List Token) (r : Tokens) → with_front front r ≡ Ok tokens → (more : List Token) × (r ≡ Ok more) × (tokens ≡ front ++ more)
behind front tokens (Ok more) e = (more, refl, cc)
behind front tokens (Err fault) e = absurd (cc)

rest-shorter : (n k : ℕ) (z : List ℕ) → length z ≤ suc n → 1 ≤ k → k ≤ length z → length (drop k z) ≤ n
rest-shorter n k z short some within = omega (arith, length-drop k z)

abbrev AllSpell : ℕ → Type 0
AllSpell n = (line : Line) (at : Span) (z : List ℕ) (tokens : List Token) → length z ≤ n → lexed_from 0 line at z ≡ Ok tokens → SpellsFrom line at z tokens

answer-spells : (n : ℕ) → AllSpell n → (line : Line) (at : Span) (z : List ℕ) (tokens : List Token) (a : Answer) → 0 < length z → length z ≤ suc n → next line at z ≡ a → lexed_from 0 line at z ≡ Ok tokens → SpellsFrom line at z tokens
answer-spells n ih line at z tokens (Err fault) some short e h = let f = lexed_from-fault line at z fault some e in absurd (cc)
answer-spells n ih line at z tokens (Ok p) some short e h =
    let r = next-read line at z p some e in
    let b = behind (token_at at p.token) tokens (lexed_from 0 p.line (position_after at (take p.len z)) (drop p.len z)) (sym (lexed_from-piece line at z p some r.1 e) ∙ h) in
    let more = ih p.line (position_after at (take p.len z)) (drop p.len z) b.0 (rest-shorter n p.len z short r.1 r.2) b.1 in
    let t = s.piece line at (take p.len z) (drop p.len z) p.token p.line b.0 r.0 more in
    subst (λ v. SpellsFrom line at v tokens) (take-append-drop p.len z) (subst (λ ts. SpellsFrom line at (take p.len z ++ drop p.len z) ts) (sym b.2) t)

lexed-spells : (n : ℕ) (line : Line) (at : Span) (z : List ℕ) (tokens : List Token) → length z ≤ n → lexed_from 0 line at z ≡ Ok tokens → SpellsFrom line at z tokens
lexed-spells n line at [] tokens short h = finish-spells line at tokens h
lexed-spells zero line at (b ∷ z) tokens short h = absurd (omega arith)
lexed-spells (suc n) line at (b ∷ z) tokens short h =
    answer-spells n (lexed-spells n) line at (b ∷ z) tokens (next line at (b ∷ z)) (omega arith) short refl h

ok_once : (tokens others : List Token) (r : Tokens) → r ≡ Ok tokens → r ≡ Ok others → tokens ≡ others
ok_once tokens others r e f = cc

pub tokens_spell : TokensSpell
unfolding lexed
tokens_spell bytes tokens =
    ((λ h. lexed-spells (length bytes) Blank (record { line = 1; col = 1 }) bytes tokens (omega arith) h), (λ h. spells-lexed Blank (record { line = 1; col = 1 }) bytes tokens h))

pub spelled_once : SpelledOnce
spelled_once bytes tokens others h k = ok_once tokens others (lexed bytes) ((tokens_spell bytes tokens).1 h) ((tokens_spell bytes others).1 k)

-- ---- faults

abbrev refused : LexFault → Answer
refused f = Err f

abbrev failed : LexFault → Tokens
failed f = Err f

err_at : (f g : LexFault) → failed f ≡ Err g → f ≡ g
err_at f g e = cc

err_is : (f g : LexFault) → refused f ≡ Err g → f ≡ g
err_is f g e = cc

number-fault : (at : Span) (o : Option (Num × ℤ)) (n : ℕ) (f : LexFault) → number_piece at o n ≡ Err f → BadNumber at ≡ f
number-fault at None n f e = err_is (BadNumber at) f e
number-fault at (Some v) n f e = absurd (cc)

mark-fault : (at : Span) (o : Option (Mark × ℕ)) (f : LexFault) → mark_piece at o ≡ Err f → BadByte at ≡ f
mark-fault at None f e = err_is (BadByte at) f e
mark-fault at (Some m) f e = absurd (cc)

literal-choice : (bad : LexFault) (at : Span) (k : TokenKind) (n : ℕ) (f : LexFault) (t u : Bool) → cond t (cond u (refused bad) (token k n)) (refused (Unfinished at)) ≡ Err f → cond t bad (Unfinished at) ≡ f
literal-choice bad at k n f true true e = err_is bad f e
literal-choice bad at k n f true false e = absurd (cc)
literal-choice bad at k n f false u e = err_is (Unfinished at) f e

literal-fault : (at : Span) (z : List ℕ) (f : LexFault) → literal at z ≡ Err f → literal_fault at z ≡ f
literal-fault at z f e =
    let n = literal_len false (drop 1 z) in
    literal-choice (BadByte (position_after at (take (good_len false (take n (drop 1 z)) + 1) z))) at (kind.Lit (text_of false (take n (drop 1 z)))) (n + 2) f (eqb (get_or z (n + 1) 0) 34) (ltb (good_len false (take n (drop 1 z))) n) e

choice-fault : (g : LexFault) (t : Bool) (line : Line) (n : ℕ) (f : LexFault) → cond t (space line n) (refused g) ≡ Err f → g ≡ f
choice-fault g true line n f e = absurd (cc)
choice-fault g false line n f e = err_is g f e

header-fault : (hash : Span) (t : Bool) (line : Line) (n : ℕ) (f : LexFault) → cond t (refused (BadDirective hash)) (space line n) ≡ Err f → BadDirective hash ≡ f
header-fault hash false line n f e = absurd (cc)
header-fault hash true line n f e = err_is (BadDirective hash) f e

lexeme-fault : (t : Start) (line : Line) (at : Span) (z : List ℕ) (f : LexFault) → lexeme t line at z ≡ Err f → token_fault t line at z ≡ f
lexeme-fault start.Blank line at z f e = mark-fault at (mark_of z) f e
lexeme-fault start.Feed line at z f e = mark-fault at (mark_of z) f e
lexeme-fault start.Letter line at z f e = absurd (cc)
lexeme-fault start.Digit line at z f e = number-fault at (number_of (take (run class.Number z) z)) (run class.Number z) f e
lexeme-fault start.Quote line at z f e = literal-fault at z f e
lexeme-fault start.Slash line at z f e = mark-fault at (mark_of z) f e
lexeme-fault start.Hash Blank at z f e = choice-fault (BadDirective at) (starts_with nat_eq z (codes "#include")) (Include at) 8 f e
lexeme-fault start.Hash Begun at z f e = err_is (BadByte at) f e
lexeme-fault start.Hash (Include hash) at z f e = err_is (BadByte at) f e
lexeme-fault start.Hash (Included hash) at z f e = err_is (BadByte at) f e
lexeme-fault start.Other line at z f e = mark-fault at (mark_of z) f e

solid-fault : (t : Start) (line : Line) (at : Span) (z : List ℕ) (f : LexFault) → solid t line at z ≡ Err f → solid_fault t line at z ≡ f
solid-fault t Blank at z f e = lexeme-fault t Blank at z f e
solid-fault t Begun at z f e = lexeme-fault t Begun at z f e
solid-fault t (Include hash) at z f e = header-fault hash (eqb (header_len z) 0) (Included hash) (header_len z) f e
solid-fault t (Included hash) at z f e = err_is (BadDirective hash) f e

slash-choice : (line : Line) (at : Span) (z : List ℕ) (f : LexFault) (t u v : Bool) (w : Line) (n k : ℕ) → cond t (space line n) (cond u (cond v (space w k) (refused (Unfinished at))) (solid start.Slash line at z)) ≡ Err f → cond u (Unfinished at) (solid_fault start.Slash line at z) ≡ f
slash-choice line at z f true u v w n k e = absurd (cc)
slash-choice line at z f false true true w n k e = absurd (cc)
slash-choice line at z f false true false w n k e = err_is (Unfinished at) f e
slash-choice line at z f false false v w n k e = solid-fault start.Slash line at z f e

feed-fault : (line : Line) (at : Span) (z : List ℕ) (f : LexFault) → line_feed line ≡ Err f → solid_fault start.Feed line at z ≡ f
feed-fault Blank at z f e = absurd (cc)
feed-fault Begun at z f e = absurd (cc)
feed-fault (Include hash) at z f e = err_is (BadDirective hash) f e
feed-fault (Included hash) at z f e = absurd (cc)

piece-fault : (t : Start) (line : Line) (at : Span) (z : List ℕ) (f : LexFault) → piece t line at z ≡ Err f → fault_by t line at z ≡ f
piece-fault start.Blank line at z f e = absurd (cc)
piece-fault start.Feed line at z f e = feed-fault line at z f e
piece-fault start.Letter line at z f e = solid-fault start.Letter line at z f e
piece-fault start.Digit line at z f e = solid-fault start.Digit line at z f e
piece-fault start.Quote line at z f e = solid-fault start.Quote line at z f e
piece-fault start.Hash line at z f e = solid-fault start.Hash line at z f e
piece-fault start.Other line at z f e = solid-fault start.Other line at z f e
piece-fault start.Slash line at z f e =
    let n = comment_len (drop 2 z) in
    slash-choice line at z f (eqb (get_or z 1 0) 47) (eqb (get_or z 1 0) 42) (ltb (n + 2) (length z)) (line_after line (has_feed (take (n + 4) z))) (run class.Line z) (n + 4) e

next-fault : (line : Line) (at : Span) (z : List ℕ) (f : LexFault) → next line at z ≡ Err f → fault_of line at z ≡ f
unfolding next
next-fault line at z f e = piece-fault (start_of z) line at z f e

-- ---- the first place

both_answers : (p : Piece) (f : LexFault) (a : Answer) → a ≡ Ok p → a ≡ Err f → ⊥
both_answers p f a e g = cc

nothing_before : (front rest : List ℕ) → [] ≡ front ++ rest → 0 < length front → ⊥
nothing_before [] rest e h = omega arith
nothing_before (b ∷ z) rest e h = cc

stuck-end : (hash at : Span) → IsStuck (Include hash) at []
stuck-end hash at = ((λ e h. h), (λ front rest token after e h. nothing_before front rest e (piece-some (Include hash) at front rest token after h)))

finish-fails : (line : Line) (at : Span) (f : LexFault) → finish line at ≡ Err f → FailsFrom line at [] f
finish-fails Blank at f e = absurd (cc)
finish-fails Begun at f e = absurd (cc)
finish-fails (Include hash) at f e = subst (λ g. FailsFrom (Include hash) at [] g) (err_at (BadDirective hash) f e) (s.here (Include hash) at [] (stuck-end hash at))
finish-fails (Included hash) at f e = absurd (cc)

behind_fault : (front : List Token) (f : LexFault) (r : Tokens) → with_front front r ≡ Err f → r ≡ Err f
behind_fault front f (Ok more) e = absurd (cc)
behind_fault front f (Err g) e = e

abbrev AllFail : ℕ → Type 0
AllFail n = (line : Line) (at : Span) (z : List ℕ) (f : LexFault) → length z ≤ n → lexed_from 0 line at z ≡ Err f → FailsFrom line at z f

stuck-here : (line : Line) (at : Span) (z : List ℕ) (f : LexFault) → 0 < length z → next line at z ≡ Err f → IsStuck line at z
stuck-here line at z f some e = (
  (λ none h. let short : length z ≡ 0 = ap length none in omega arith),
  (λ front rest token after whole h. both_answers (record { token = token; len = length front; line = after }) f (next line at z) (ap (next line at) whole ∙ piece-front line at front rest token after h) e),
)

answer-fails : (n : ℕ) → AllFail n → (line : Line) (at : Span) (z : List ℕ) (f : LexFault) (a : Answer) → 0 < length z → length z ≤ suc n → next line at z ≡ a → lexed_from 0 line at z ≡ Err f → FailsFrom line at z f
answer-fails n ih line at z f (Err g) some short e h =
    let same : fault_of line at z ≡ f = next-fault line at z g e ∙ err_at g f (sym (lexed_from-fault line at z g some e) ∙ h) in
    subst (λ k. FailsFrom line at z k) same (s.here line at z (stuck-here line at z g some e))
answer-fails n ih line at z f (Ok p) some short e h =
    let r = next-read line at z p some e in
    let b = behind_fault (token_at at p.token) f (lexed_from 0 p.line (position_after at (take p.len z)) (drop p.len z)) (sym (lexed_from-piece line at z p some r.1 e) ∙ h) in
    let more = ih p.line (position_after at (take p.len z)) (drop p.len z) f (rest-shorter n p.len z short r.1 r.2) b in
    let t = s.later line at (take p.len z) (drop p.len z) p.token p.line f r.0 more in
    subst (λ v. FailsFrom line at v f) (take-append-drop p.len z) t

lexed-fails : (n : ℕ) (line : Line) (at : Span) (z : List ℕ) (f : LexFault) → length z ≤ n → lexed_from 0 line at z ≡ Err f → FailsFrom line at z f
lexed-fails n line at [] f short h = finish-fails line at f h
lexed-fails zero line at (b ∷ z) f short h = absurd (omega arith)
lexed-fails (suc n) line at (b ∷ z) f short h = answer-fails n (lexed-fails n) line at (b ∷ z) f (next line at (b ∷ z)) (omega arith) short refl h

here-answer : (line : Line) (at : Span) (z : List ℕ) (a : Answer) → 0 < length z → IsStuck line at z → next line at z ≡ a → lexed_from 0 line at z ≡ Err (fault_of line at z)
here-answer line at z (Ok p) some stuck e =
    let r = next-read line at z p some e in
    absurd (stuck.1 (take p.len z) (drop p.len z) p.token p.line (sym (take-append-drop p.len z)) r.0)
here-answer line at z (Err g) some stuck e = lexed_from-fault line at z g some e ∙ ap (λ k. Err k) (sym (next-fault line at z g e))

here-lexed : (line : Line) (at : Span) (z : List ℕ) → IsStuck line at z → lexed_from 0 line at z ≡ Err (fault_of line at z)
here-lexed Blank at [] stuck = absurd (stuck.0 refl tt)
here-lexed Begun at [] stuck = absurd (stuck.0 refl tt)
here-lexed (Include hash) at [] stuck = refl
here-lexed (Included hash) at [] stuck = absurd (stuck.0 refl tt)
here-lexed line at (b ∷ z) stuck = here-answer line at (b ∷ z) (next line at (b ∷ z)) (omega arith) stuck refl

fails-lexed : (line : Line) (at : Span) (z : List ℕ) (f : LexFault) → FailsFrom line at z f → lexed_from 0 line at z ≡ Err f
fails-lexed line at z f (s.here l a w stuck) = here-lexed l a w stuck
fails-lexed line at z f (s.later l a front rest token after g h more) =
    over_piece l a front rest token after h ∙ ap (with_front (token_at a token)) (fails-lexed after (position_after a front) rest g more)

pub fault_is_first : FaultIsFirst
unfolding lexed
fault_is_first bytes f =
    ((λ h. lexed-fails (length bytes) Blank (record { line = 1; col = 1 }) bytes f (omega arith) h), (λ h. fails-lexed Blank (record { line = 1; col = 1 }) bytes f h))
