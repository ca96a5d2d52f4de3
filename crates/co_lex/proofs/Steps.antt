-- How the tokens of the rest of a file follow from the piece that it begins with.
use Rattle.std.proofs.Common.{◌≡◌, ◌≢◌, ℕ, zero, suc, ◌-◌, ◌<◌, ◌≤◌, List, [], ◌∷◌, ◌++◌, length, take, drop, Ok, Err, refl, sym, ap, ◌∙◌, append_assoc, arith}
use Rattle.co_base.specs.declared.span.Span.{Span}
use Rattle.co_lex.specs.declared.fault.LexFault.{LexFault}
use Rattle.co_lex.specs.declared.fault.LexFault.TheVariants.{BadByte, BadNumber, BadDirective, Unfinished, NoMemory}
use Rattle.co_lex.specs.declared.lexer.Line.{Line}
use Rattle.co_lex.specs.declared.lexer.Piece.{Piece}
use Rattle.co_lex.specs.declared.token.Token.{Token}
use Rattle.co_lex.specs.Place.{after_byte, position_after}
use Rattle.co_lex.specs.Lexer.{Tokens, Answer, Gives, next, go_on, with_front, token_at, lexed_from, lexed}

lexed_from-skip : (n : ℕ) (line : Line) (at : Span) (z : List ℕ) → lexed_from n line at z ≡ lexed_from 0 line (position_after at (take n z)) (drop n z)
lexed_from-skip zero line at z = refl
lexed_from-skip (suc n) line at [] = refl
lexed_from-skip (suc n) line at (b ∷ z) = lexed_from-skip n line (after_byte at b) z

lexed_from-rest : (n : ℕ) (line : Line) (at : Span) (b : ℕ) (z : List ℕ) → 1 ≤ n → lexed_from (n - 1) line (after_byte at b) z ≡ lexed_from 0 line (position_after at (take n (b ∷ z))) (drop n (b ∷ z))
lexed_from-rest zero line at b z h = absurd (omega arith)
lexed_from-rest (suc n) line at b z h =
    let e : suc n - 1 ≡ n = omega arith in
    ap (λ k. lexed_from k line (after_byte at b) z) e ∙ lexed_from-skip n line (after_byte at b) z

-- the tokens of the rest are those of its first piece and those behind it
pub lexed_from-piece : (line : Line) (at : Span) (z : List ℕ) (p : Piece) → 0 < length z → 1 ≤ p.len → next line at z ≡ Ok p → lexed_from 0 line at z ≡ with_front (token_at at p.token) (lexed_from 0 p.line (position_after at (take p.len z)) (drop p.len z))
lexed_from-piece line at [] p some moves e = absurd (omega arith)
lexed_from-piece line at (b ∷ z) p some moves e =
    ap (λ a. go_on at a (λ left after. lexed_from left after (after_byte at b) z)) e ∙ ap (with_front (token_at at p.token)) (lexed_from-rest p.len p.line at b z moves)

-- a piece that is refused is the fault of the rest
pub lexed_from-fault : (line : Line) (at : Span) (z : List ℕ) (fault : LexFault) → 0 < length z → next line at z ≡ Err fault → lexed_from 0 line at z ≡ Err fault
lexed_from-fault line at [] fault some e = absurd (omega arith)
lexed_from-fault line at (b ∷ z) fault some e = ap (λ a. go_on at a (λ left after. lexed_from left after (after_byte at b) z)) e

pub with_front-append : (front more : List Token) (r : Tokens) → with_front (front ++ more) r ≡ with_front front (with_front more r)
with_front-append front more (Ok tokens) = ap (λ ts. Ok ts) (append_assoc front more tokens)
with_front-append front more (Err fault) = refl

told_fault : (fault : LexFault) (told : Answer) → Gives {A = Piece} (Err fault) told → fault ≢ NoMemory → told ≡ Err fault
told_fault (BadByte at) told h other = h
told_fault (BadNumber at) told h other = h
told_fault (BadDirective at) told h other = h
told_fault (Unfinished at) told h other = h
told_fault NoMemory told h other = absurd (other refl)

-- where the rest is refused, so is the file
pub lexed-fault : (bytes : List ℕ) (tokens : List Token) (line : Line) (at : Span) (z : List ℕ) (fault : LexFault) → 0 < length z → with_front tokens (lexed_from 0 line at z) ≡ lexed bytes → Gives {A = Piece} (Err fault) (next line at z) → fault ≢ NoMemory → lexed bytes ≡ Err fault
lexed-fault bytes tokens line at z fault some inv h other =
    sym inv ∙ ap (with_front tokens) (lexed_from-fault line at z fault some (told_fault fault (next line at z) h other))

-- the file's tokens, one piece further
pub lexed-piece : (bytes : List ℕ) (tokens more : List Token) (line : Line) (at after : Span) (z : List ℕ) (p : Piece) → 0 < length z → 1 ≤ p.len → with_front tokens (lexed_from 0 line at z) ≡ lexed bytes → next line at z ≡ Ok p → more ≡ tokens ++ token_at at p.token → after ≡ position_after at (take p.len z) → with_front more (lexed_from 0 p.line after (drop p.len z)) ≡ lexed bytes
lexed-piece bytes tokens more line at after z p some moves inv e put moved =
    rw (put, moved) (with_front-append tokens (token_at at p.token) (lexed_from 0 p.line (position_after at (take p.len z)) (drop p.len z)) ∙ (sym (ap (with_front tokens) (lexed_from-piece line at z p some moves e)) ∙ inv))

pub with_front-nil : (r : Tokens) → with_front [] r ≡ r
with_front-nil (Ok tokens) = refl
with_front-nil (Err fault) = refl
