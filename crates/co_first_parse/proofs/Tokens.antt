-- The bytes spell at most one list of tokens, and one by one those that the front of the bytes is.
use Rattle.std.proofs.Common.{◌≡◌, ◌≢◌, ℕ, suc, ◌+◌, ◌^◌, ◌<◌, ◌≤◌, cond, nat_eq, List, [], ◌∷◌, ◌++◌, length, length-take, length-drop, append_assoc, slice_get, take, drop, Option, Some, None, refl, sym, ap, subst, ◌∙◌, arith}
use Rattle.std.proofs.Math.Seq.{drop-append_seam}
use Rattle.std.proofs.lemmas.Bool.{eqb-true}
use Rattle.std.proofs.lemmas.List.{take-append-drop, append-nil}
use Rattle.co_base.specs.declared.span.Span.{Span}
use Rattle.co_first_parse.specs.declared.token.Kind.{Kind}
use Rattle.co_first_parse.specs.declared.token.Token.{Token}
use Rattle.co_first_parse.specs.Spelling.{first_place, Spelled, beside, below, token, Spells, ended, space, newline, spelled}
use Rattle.co_first_parse.specs.declared.token.Kind.TheVariants.{Fixed, Name, Number}
use Rattle.co_first_parse.specs.Grammar.{IsLawful, AreLawful}
use Rattle.co_first_parse.specs.Lex.{first_token, punctuator_token, punctuator, blank}
use Rattle.co_first_parse.proofs.Spelled.{pick, pair_is, first_sound, first_complete}

-- a space and a newline begin no token
none_space : (bytes : List ℕ) → first_token (32 ∷ bytes) ≡ None
unfolding first_token punctuator_token punctuator
none_space bytes = refl

none_newline : (bytes : List ℕ) → first_token (10 ∷ bytes) ≡ None
unfolding first_token punctuator_token punctuator
none_newline bytes = refl

none_end : first_token [] ≡ None
unfolding first_token
none_end = refl

-- the two kinds of byte between tokens
data Blank (at after : Span) (byte : ℕ) : Type 0 where
  is_space : byte ≡ 32 → beside at 1 ≡ after → Blank at after byte
  is_newline : byte ≡ 10 → below at ≡ after → Blank at after byte

blank_is : (at after : Span) (byte : ℕ) → blank at byte ≡ Some after → Blank at after byte
blank_is at after byte h =
    pick (nat_eq byte 32) (Some (beside at 1)) (cond (nat_eq byte 10) (Some (below at)) None) after (Blank at after byte)
    (λ e is. is_space (eqb-true byte 32 e) cc)
    (λ _ more. pick (nat_eq byte 10) (Some (below at)) None after (Blank at after byte) (λ e is. is_newline (eqb-true byte 10 e) cc) (λ _ is. absurd cc) more) h

blank_none : (at after : Span) (byte : ℕ) (next : List ℕ) → blank at byte ≡ Some after → first_token (byte ∷ next) ≡ None
blank_none at after byte next h = at_byte (blank_is at after byte h)
  where
    at_byte : Blank at after byte → first_token (byte ∷ next) ≡ None
    at_byte (is_space e _) = ap (λ b. first_token (b ∷ next)) e ∙ none_space next
    at_byte (is_newline e _) = ap (λ b. first_token (b ∷ next)) e ∙ none_newline next

pub add_blank : (at after : Span) (byte : ℕ) (next : List ℕ) (tokens : List Token) → blank at byte ≡ Some after → Spells after next tokens → Spells at (byte ∷ next) tokens
add_blank at after byte next tokens h s = at_byte (blank_is at after byte h)
  where
    at_byte : Blank at after byte → Spells at (byte ∷ next) tokens
    at_byte (is_space e a) = subst (λ b. Spells at (b ∷ next) tokens) (sym e) (space at next tokens (subst (λ x. Spells x next tokens) (sym a) s))
    at_byte (is_newline e a) = subst (λ b. Spells at (b ∷ next) tokens) (sym e) (newline at next tokens (subst (λ x. Spells x next tokens) (sym a) s))

pub blank_room : (at after : Span) (byte : ℕ) → blank at byte ≡ Some after → 1 ≤ at.col → (after.line + after.col ≤ (at.line + at.col) + 1) × (1 ≤ after.col)
blank_room at after byte h col = at_byte (blank_is at after byte h)
  where
    at_byte : Blank at after byte → (after.line + after.col ≤ (at.line + at.col) + 1) × (1 ≤ after.col)
    at_byte (is_space e a) = subst (λ x. (x.line + x.col ≤ (at.line + at.col) + 1) × (1 ≤ x.col)) a (omega arith, omega arith)
    at_byte (is_newline e a) = subst (λ x. (x.line + x.col ≤ (at.line + at.col) + 1) × (1 ≤ x.col)) a (omega arith, omega arith)

-- the first step of a spelling
pub data Began (at : Span) (bytes : List ℕ) (tokens : List Token) : Type 0 where
  at_end : bytes ≡ [] → tokens ≡ [] → Began at bytes tokens
  at_blank : (byte : ℕ) (after : Span) (next : List ℕ) → bytes ≡ byte ∷ next → blank at byte ≡ Some after → first_token bytes ≡ None → Spells after next tokens → Began at bytes tokens
  at_token : (kind : Kind) (size : ℕ) (more : List Token) → first_token bytes ≡ Some (kind, size) → tokens ≡ token kind at ∷ more
      → Spells (beside at size) (drop size bytes) more → Began at bytes tokens

pub began : (at : Span) (bytes : List ℕ) (tokens : List Token) → Spells at bytes tokens → Began at bytes tokens
began at bytes tokens (ended _) = at_end refl refl
began at bytes tokens (space _ next _ h) = at_blank 32 (beside at 1) next refl refl (none_space next) h
began at bytes tokens (newline _ next _ h) = at_blank 10 (below at) next refl refl (none_newline next) h
began at bytes tokens (spelled _ kind front next more is h) =
    at_token kind (length front) more (first_complete kind front next is) refl
    (subst (λ xs. Spells (beside at (length front)) xs more) (sym (drop-append_seam front next)) h)

pub past_token : (at : Span) (bytes : List ℕ) (kind : Kind) (size : ℕ) (tokens : List Token) → first_token bytes ≡ Some (kind, size) → Spells at bytes tokens
    → (more : List Token) × (tokens ≡ token kind at ∷ more) × Spells (beside at size) (drop size bytes) more
past_token at bytes kind size tokens e h = past (began at bytes tokens h)
  where
    past : Began at bytes tokens → (more : List Token) × (tokens ≡ token kind at ∷ more) × Spells (beside at size) (drop size bytes) more
    past (at_end b t) = let n : first_token bytes ≡ None = ap first_token b ∙ none_end in absurd cc
    past (at_blank byte after next b is none s) = absurd cc
    past (at_token kind' size' more f t s) =
        let same = pair_is kind' kind size' size (sym f ∙ e) in
        (more, t ∙ ap (λ k. token k at ∷ more) same.0, subst (λ n. Spells (beside at n) (drop n bytes) more) same.1 s)

pub past_blank : (at after : Span) (byte : ℕ) (next : List ℕ) (tokens : List Token) → blank at byte ≡ Some after → Spells at (byte ∷ next) tokens → Spells after next tokens
past_blank at after byte next tokens e h = past (began at (byte ∷ next) tokens h)
  where
    none : first_token (byte ∷ next) ≡ None
    none = blank_none at after byte next e

    past : Began at (byte ∷ next) tokens → Spells after next tokens
    past (at_end b t) = absurd cc
    past (at_blank byte' after' next' b is none' s) =
        let same : byte ≡ byte' = cc in
        let rest : next' ≡ next = cc in
        let there : after' ≡ after = (let f : Some after' ≡ Some after = sym is ∙ (ap (blank at) (sym same) ∙ e) in cc) in
        subst (λ xs. Spells after xs tokens) rest (subst (λ a. Spells a next' tokens) there s)
    past (at_token kind size more f t s) = let n = none in absurd cc

pub no_token : (at : Span) (byte : ℕ) (next : List ℕ) (tokens : List Token) → blank at byte ≡ None → first_token (byte ∷ next) ≡ None → Spells at (byte ∷ next) tokens → ⊥
no_token at byte next tokens e none h = past (began at (byte ∷ next) tokens h)
  where
    past : Began at (byte ∷ next) tokens → ⊥
    past (at_end b t) = absurd cc
    past (at_blank byte' after next' b is none' s) = let same : byte ≡ byte' = cc in let f : ◌≡◌ {A = Option Span} None (Some after) = sym e ∙ (ap (blank at) same ∙ is) in absurd cc
    past (at_token kind size more f t s) = absurd cc

pub add_token : (at : Span) (bytes : List ℕ) (kind : Kind) (size : ℕ) (tokens : List Token) → first_token bytes ≡ Some (kind, size) → Spells (beside at size) (drop size bytes) tokens → Spells at bytes (token kind at ∷ tokens)
add_token at bytes kind size tokens e h =
    let f = first_sound bytes kind size e in
    let l : size ≡ length (take size bytes) = simp length-take (omega (arith, f.within)) in
    subst (λ xs. Spells at xs (token kind at ∷ tokens)) (take-append-drop size bytes)
    (spelled at kind (take size bytes) (drop size bytes) tokens f.spelled (subst (λ n. Spells (beside at n) (drop size bytes) tokens) l h))

at_none : (at : Span) (tokens : List Token) → Spells at [] tokens → tokens ≡ []
at_none at tokens h = past (began at [] tokens h)
  where
    past : Began at [] tokens → tokens ≡ []
    past (at_end b t) = t
    past (at_blank byte after next b is none s) = absurd cc
    past (at_token kind size more f t s) = let n = none_end in absurd cc

-- the bytes spell one list of tokens at most
pub one_spelling : (at : Span) (bytes : List ℕ) (tokens others : List Token) → Spells at bytes tokens → Spells at bytes others → tokens ≡ others
one_spelling at bytes tokens others (ended _) h = sym (at_none at others h)
one_spelling at bytes tokens others (space _ next _ s) h = one_spelling (beside at 1) next tokens others s (past_blank at (beside at 1) 32 next others refl h)
one_spelling at bytes tokens others (newline _ next _ s) h = one_spelling (below at) next tokens others s (past_blank at (below at) 10 next others refl h)
one_spelling at bytes tokens others (spelled _ kind front next more is s) h =
    let p = past_token at (front ++ next) kind (length front) others (first_complete kind front next is) h in
    let t = subst (λ xs. Spells (beside at (length front)) xs p.0) (drop-append_seam front next) p.2 in
    ap (λ ts. token kind at ∷ ts) (one_spelling (beside at (length front)) next more p.0 s t) ∙ sym p.1

-- ---- the turns of the lexer

first_and_rest : (rest : List ℕ) (byte : ℕ) → slice_get rest 0 ≡ Some byte → rest ≡ byte ∷ drop 1 rest
first_and_rest [] byte h = absurd cc
first_and_rest (other ∷ rest) byte h = let e : other ≡ byte = cc in ap (λ b. b ∷ rest) e

nothing : (rest : List ℕ) → slice_get rest 0 ≡ None → rest ≡ []
nothing [] h = refl
nothing (byte ∷ rest) h = absurd cc

-- the tokens so far, and what is left of the bytes
pub record Reading (bytes : List ℕ) (tokens : List Token) (at : Span) (rest : List ℕ) : Type 0 where
  pub sound : (more : List Token) → Spells at rest more → Spells first_place bytes (tokens ++ more)
  pub whole : (all : List Token) → Spells first_place bytes all → (more : List Token) × Spells at rest more
  pub column : 1 ≤ at.col
  pub room : (at.line + at.col) + length rest ≤ 2 ^ 20 + 2

pub reading_blank : (bytes : List ℕ) (tokens : List Token) (at after : Span) (rest next : List ℕ) (byte : ℕ) → Reading bytes tokens at rest
    → slice_get rest 0 ≡ Some byte → blank at byte ≡ Some after → next ≡ drop 1 rest → Reading bytes tokens after next
reading_blank bytes tokens at after rest next byte r f b d =
    let e = first_and_rest rest byte f ∙ ap (λ xs. byte ∷ xs) (sym d) in
    let l : length rest ≡ suc (length next) = ap length e in
    let w = blank_room at after byte b r.column in
    record {
      sound = λ more s. r.sound more (subst (λ xs. Spells at xs more) (sym e) (add_blank at after byte next more b s));
      whole = λ all s. (let m = r.whole all s in (m.0, past_blank at after byte next m.0 b (subst (λ xs. Spells at xs m.0) e m.1)));
      column = w.1;
      room = omega (arith, r.room);
    }

pub reading_token : (bytes : List ℕ) (tokens gained : List Token) (at : Span) (rest next : List ℕ) (kind : Kind) (size : ℕ) → Reading bytes tokens at rest
    → first_token rest ≡ Some (kind, size) → gained ≡ tokens ++ token kind at ∷ [] → next ≡ drop size rest → Reading bytes gained (beside at size) next
reading_token bytes tokens gained at rest next kind size r f g d =
    let w = first_sound rest kind size f in
    let l : length next + size ≡ length rest = ap (λ xs. length xs + size) d ∙ (simp length-drop (omega (arith, w.within))) in
    record {
      sound = λ more s. (
          let t = add_token at rest kind size more f (subst (λ xs. Spells (beside at size) xs more) d s) in
          let e : tokens ++ (token kind at ∷ more) ≡ gained ++ more = sym (ap (λ ts. ts ++ more) g ∙ append_assoc tokens (token kind at ∷ []) more) in
          subst (λ ts. Spells first_place bytes ts) e (r.sound (token kind at ∷ more) t));
      whole = λ all s. (let m = r.whole all s in let p = past_token at rest kind size m.0 f m.1 in (p.0, subst (λ xs. Spells (beside at size) xs p.0) (sym d) p.2));
      column = omega (arith, r.column);
      room = omega (arith, r.room, w.within);
    }

pub reading_none : (bytes : List ℕ) (tokens : List Token) (at : Span) (rest : List ℕ) (byte : ℕ) → Reading bytes tokens at rest → slice_get rest 0 ≡ Some byte → blank at byte ≡ None → first_token rest ≡ None
    → (all : List Token) → Spells first_place bytes all → ⊥
reading_none bytes tokens at rest byte r f b n all s =
    let e = first_and_rest rest byte f in
    let m = r.whole all s in
    no_token at byte (drop 1 rest) m.0 b (ap first_token (sym e) ∙ n) (subst (λ xs. Spells at xs m.0) e m.1)

pub reading_end : (bytes : List ℕ) (tokens : List Token) (at : Span) (rest : List ℕ) → Reading bytes tokens at rest → slice_get rest 0 ≡ None → Spells first_place bytes tokens
reading_end bytes tokens at rest r n =
    let e : Spells at rest [] = subst (λ xs. Spells at xs []) (sym (nothing rest n)) (ended at) in
    subst (λ ts. Spells first_place bytes ts) (append-nil tokens) (r.sound [] e)

-- ---- what a file's tokens are

spelled_law : (kind : Kind) (bytes next : List ℕ) → Spelled kind bytes next → IsLawful kind
spelled_law (Fixed mark) bytes next h = tt
spelled_law (Name name) bytes next h = h.1
spelled_law (Number value) bytes next h = h.2

pub lawful : (at : Span) (bytes : List ℕ) (tokens : List Token) → Spells at bytes tokens → AreLawful tokens
lawful at bytes tokens (ended _) = tt
lawful at bytes tokens (space _ next _ s) = lawful (beside at 1) next tokens s
lawful at bytes tokens (newline _ next _ s) = lawful (below at) next tokens s
lawful at bytes tokens (spelled _ kind front next more is s) = (spelled_law kind front next is, lawful (beside at (length front)) next more s)
