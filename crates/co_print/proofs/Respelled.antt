-- The canonical text is spelled with the tokens of the tree.
use Rattle.std.specs.Prelude.{◌≡◌, ℕ, List, [], ◌∷◌, ◌++◌, map, Option, Some, None}
use Rattle.std.proofs.Common.{refl, ap, sym, ◌∙◌, subst, inl, inr, append_assoc}
use Rattle.co_base.specs.declared.span.Span.{Span}
use Rattle.co_lex.specs.declared.lexer.Line.{Line}
use Rattle.co_lex.specs.declared.lexer.Line.TheVariants.{Blank, Begun, Include, Included}
use Rattle.co_lex.specs.declared.token.Token.{Token}
use Rattle.co_lex.specs.declared.token.TokenKind.{TokenKind}
use Rattle.co_lex.specs.declared.token.TokenKind.TheVariants as kind
use Rattle.co_lex.specs.Lexer.{token_at}
use Rattle.co_lex.specs.Place.{position_after}
use Rattle.co_lex.specs.Spells.{MayEnd, IsOpen, IsPiece, SpellsFrom, Spells}
use Rattle.co_lex.specs.Spells as s
use Rattle.co_tree.specs.Piece.{Piece, token, line, node, opens, enter, leave}
use Rattle.co_tree.specs.Declarations.{sentence_of}
use Rattle.co_tree.specs.Derives.{kinds, Reads}
use Rattle.co_print.specs.declared.printer.Gap.{Gap}
use Rattle.co_print.specs.declared.printer.Gap.TheVariants as gap
use Rattle.co_print.specs.declared.printer.Printer.{Printer}
use Rattle.co_print.specs.Spelling.{spelling}
use Rattle.co_print.specs.Printed.{gap_text, before_line, put_bytes, put_token, put_line, put_all, start}
use Rattle.co_print.specs.Laws.{PrintedSpells}
use Rattle.co_print.proofs.Lexemes.{EndsToken, IsLexeme, lexeme}

-- ---- the tokens of a text

data Lexemes : List TokenKind → Type 0 where
  last : Lexemes (kind.End ∷ [])
  more : (k : TokenKind) (ks : List TokenKind) → IsLexeme k → Lexemes ks → Lexemes (k ∷ ks)

abbrev kinds_in : List Token → List TokenKind
kinds_in tokens = map (λ t. t.kind) tokens

of_piece : (l : Line) (at : Span) (front rest : List ℕ) (t : Option TokenKind) (after : Line) (tokens : List Token) → IsPiece l at front rest t after → Lexemes (kinds_in tokens) → Lexemes (kinds_in (token_at at t ++ tokens))
of_piece l at front rest t after tokens (s.blank l' at' b r e) h = h
of_piece l at front rest t after tokens (s.feed l' at' b r e may) h = h
of_piece l at front rest t after tokens (s.line_comment l' at' text r all stops) h = h
of_piece l at front rest t after tokens (s.block_comment l' at' text r none) h = h
of_piece l at front rest t after tokens (s.include at' r) h = h
of_piece l at front rest t after tokens (s.header hash at' f r is) h = h
of_piece l at front rest t after tokens (s.token l' at' f r k is_open is) h = more k (kinds_in tokens) (lexeme f r k is) h

lexemes : (l : Line) (at : Span) (bytes : List ℕ) (tokens : List Token) → SpellsFrom l at bytes tokens → Lexemes (kinds_in tokens)
lexemes l at bytes tokens (s.ends l' at' may) = last
lexemes l at bytes tokens (s.piece l' at' front rest t after ts is next) = of_piece l' at' front rest t after ts is (lexemes after (position_after at' front) rest ts next)

reads_kinds : (ps : List Piece) (ts : List Token) → Reads ps ts → kinds ps ≡ kinds_in ts
reads_kinds [] [] h = refl
reads_kinds [] (t ∷ ts) h = absurd h
reads_kinds (token k ∷ ps) [] h = absurd h
reads_kinds (token k ∷ ps) (t ∷ ts) h = ap (λ x. x ∷ kinds ps) (sym h.0) ∙ ap (λ ks. t.kind ∷ ks) (reads_kinds ps ts h.1)
reads_kinds (node at ∷ ps) ts h = reads_kinds ps ts h.1
reads_kinds (line ∷ ps) ts h = reads_kinds ps ts h
reads_kinds (opens ∷ ps) ts h = reads_kinds ps ts h
reads_kinds (enter ∷ ps) ts h = reads_kinds ps ts h
reads_kinds (leave ∷ ps) ts h = reads_kinds ps ts h

-- ---- the text that pieces put after a gap

abbrev rest_text : Gap → List Piece → List ℕ
rest_text g [] = []
rest_text g (token k ∷ ps) = gap_text g ++ (spelling k ++ rest_text gap.Space ps)
rest_text g (line ∷ ps) = rest_text (before_line g) ps
rest_text g (node at ∷ ps) = rest_text g ps
rest_text g (opens ∷ ps) = rest_text g ps
rest_text g (enter ∷ ps) = rest_text g ps
rest_text g (leave ∷ ps) = rest_text g ps

append-nil : (xs : List ℕ) → xs ++ [] ≡ xs
append-nil [] = refl
append-nil (x ∷ xs) = ap (λ l. x ∷ l) (append-nil xs)

put_text : (p : Printer) (ps : List Piece) → (put_all p ps).text ≡ p.text ++ rest_text p.gap ps
unfolding put_bytes put_token put_line
put_text p [] = sym (append-nil p.text)
put_text p (token k ∷ ps) =
    put_text (put_token p k) ps
    ∙ append_assoc p.text (gap_text p.gap ++ spelling k) (rest_text gap.Space ps)
    ∙ ap (λ l. p.text ++ l) (append_assoc (gap_text p.gap) (spelling k) (rest_text gap.Space ps))
put_text p (line ∷ ps) = put_text (put_line p) ps
put_text p (node at ∷ ps) = put_text p ps
put_text p (opens ∷ ps) = put_text p ps
put_text p (enter ∷ ps) = put_text p ps
put_text p (leave ∷ ps) = put_text p ps

ends_line : (ps : List Piece) → EndsToken (rest_text gap.NewLine ps)
ends_line [] = tt
ends_line (token k ∷ ps) = inr refl
ends_line (line ∷ ps) = ends_line ps
ends_line (node at ∷ ps) = ends_line ps
ends_line (opens ∷ ps) = ends_line ps
ends_line (enter ∷ ps) = ends_line ps
ends_line (leave ∷ ps) = ends_line ps

ends_token : (ps : List Piece) → EndsToken (rest_text gap.Space ps)
ends_token [] = tt
ends_token (token k ∷ ps) = inl refl
ends_token (line ∷ ps) = ends_line ps
ends_token (node at ∷ ps) = ends_token ps
ends_token (opens ∷ ps) = ends_token ps
ends_token (enter ∷ ps) = ends_token ps
ends_token (leave ∷ ps) = ends_token ps

no_token : (g : Gap) (ps : List Piece) → kinds ps ≡ [] → rest_text g ps ≡ []
no_token g [] e = refl
no_token g (token k ∷ ps) e = absurd (cc)
no_token g (line ∷ ps) e = no_token (before_line g) ps e
no_token g (node at ∷ ps) e = no_token g ps e
no_token g (opens ∷ ps) e = no_token g ps e
no_token g (enter ∷ ps) e = no_token g ps e
no_token g (leave ∷ ps) e = no_token g ps e

-- ---- and its tokens

abbrev Spelled : Line → Span → List ℕ → List TokenKind → Type 0
Spelled l at bytes ks = (ts : List Token) × SpellsFrom l at bytes ts × (kinds_in ts ≡ ks)

after_gap : (g : Gap) (l : Line) (at : Span) (bytes : List ℕ) (ks : List TokenKind) → IsOpen l → ((l' : Line) (at' : Span) → IsOpen l' → Spelled l' at' bytes ks) → Spelled l at (gap_text g ++ bytes) ks
after_gap gap.Nothing l at bytes ks is_open rest = rest l at is_open
after_gap gap.Space l at bytes ks is_open rest =
    let r = rest l (position_after at (32 ∷ [])) is_open in
    (r.0, s.piece l at (32 ∷ []) bytes None l r.0 (s.blank l at 32 bytes refl) r.1, r.2)
after_gap gap.NewLine l at bytes ks is_open rest =
    let r = rest Blank (position_after at (10 ∷ [])) tt in
    (r.0, s.piece l at (10 ∷ []) bytes None Blank r.0 (s.feed l at 10 bytes refl (may_end l is_open)) r.1, r.2)
  where
    may_end : (l : Line) → IsOpen l → MayEnd l
    may_end Blank h = tt
    may_end Begun h = tt
    may_end (Include hash) h = h
    may_end (Included hash) h = tt

at_end : (l : Line) (at : Span) → IsOpen l → Spelled l at [] (kind.End ∷ [])
at_end Blank at h = (record { kind = kind.End; span = at } ∷ [], s.ends Blank at tt, refl)
at_end Begun at h = (record { kind = kind.End; span = at } ∷ [], s.ends Begun at tt, refl)
at_end (Include hash) at h = absurd h
at_end (Included hash) at h = absurd h

spelled : (ps : List Piece) (g : Gap) (l : Line) (at : Span) (ks : List TokenKind) → IsOpen l → kinds ps ≡ ks → Lexemes ks → Spelled l at (rest_text g ps) ks
spelled [] g l at ks is_open e last = absurd (cc)
spelled [] g l at ks is_open e (more k ks' is h) = absurd (cc)
spelled (token k ∷ ps) g l at ks is_open e last =
    let same : k ≡ kind.End = cc in
    let none : kinds ps ≡ [] = cc in
    let text : spelling k ++ rest_text gap.Space ps ≡ [] = ap (λ x. spelling x ++ rest_text gap.Space ps) same ∙ no_token gap.Space ps none in
    subst (λ z. Spelled l at (gap_text g ++ z) (kind.End ∷ [])) (sym text) (after_gap g l at [] (kind.End ∷ []) is_open at_end)
spelled (token k ∷ ps) g l at ks is_open e (more k' ks' is h) =
    let same : k ≡ k' = cc in
    let rest : kinds ps ≡ ks' = cc in
    subst (λ x. Spelled l at (gap_text g ++ (spelling x ++ rest_text gap.Space ps)) (k' ∷ ks')) (sym same)
    (after_gap g l at (spelling k' ++ rest_text gap.Space ps) (k' ∷ ks') is_open (λ l' at' is_open'.
    let r = spelled ps gap.Space Begun (position_after at' (spelling k')) ks' tt rest h in (
      record { kind = k'; span = at' } ∷ r.0,
      s.piece l' at' (spelling k') (rest_text gap.Space ps) (Some k') Begun r.0 (s.token l' at' (spelling k') (rest_text gap.Space ps) k' is_open' (is (rest_text gap.Space ps) (ends_token ps))) r.1,
      ap (λ x. k' ∷ x) r.2,
    )))
spelled (line ∷ ps) g l at ks is_open e h = spelled ps (before_line g) l at ks is_open e h
spelled (node p ∷ ps) g l at ks is_open e h = spelled ps g l at ks is_open e h
spelled (opens ∷ ps) g l at ks is_open e h = spelled ps g l at ks is_open e h
spelled (enter ∷ ps) g l at ks is_open e h = spelled ps g l at ks is_open e h
spelled (leave ∷ ps) g l at ks is_open e h = spelled ps g l at ks is_open e h

pub printed_spells : PrintedSpells
printed_spells tree bytes tokens h reads =
    let first : Span = record { line = 1; col = 1 } in
    let same = reads_kinds (sentence_of tree) tokens reads in
    let r = spelled (sentence_of tree) gap.Nothing Blank first (kinds_in tokens) tt same (lexemes Blank first bytes tokens h) in
    (r.0, subst (λ z. Spells z r.0) (sym (put_text start (sentence_of tree))) r.1, r.2 ∙ sym same)
