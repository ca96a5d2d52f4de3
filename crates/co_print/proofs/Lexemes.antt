-- A token that some text spells is spelled by the canonical text too, where white space or nothing comes after it.
use Rattle.std.specs.Prelude.{◌≡◌, ◌≢◌, ℕ, ◌≤◌, ◌<◌, ◌^◌, ◌||◌, ◌&&◌, ◌==◌, nat_lt, if◌then◌else◌, Bool, true, false, ◌⊎◌, List, [], ◌∷◌, ◌++◌, length, slice_index, pos}
use Rattle.std.specs.Fmt.{decimal}
use Rattle.std.proofs.Common.{refl, ap, sym, ◌∙◌, subst, inl, inr, arith, rules}
use Rattle.std.proofs.lemmas.Bool.{eqb-false, ne_eqb}
use Rattle.std.proofs.lemmas.Bool.Decides.{nat_tests}
use Rattle.std.proofs.lemmas.Fmt.{decimal-digits_value}
use Rattle.std.proofs.lemmas.Str.Parse.{IsNumeralModel, numerals_by_fold}
use Rattle.co_base.specs.declared.kinds.Num.{Num}
use Rattle.co_base.specs.declared.kinds.Num.TheVariants as num
use Rattle.co_lex.specs.declared.scan.Class.{Class}
use Rattle.co_lex.specs.declared.scan.Class.TheVariants as class
use Rattle.co_lex.specs.declared.scan.Start.TheVariants as start
use Rattle.co_lex.specs.declared.token.Mark.{Mark}
use Rattle.co_lex.specs.declared.token.Mark.TheVariants as mark
use Rattle.co_lex.specs.declared.token.TokenKind.{TokenKind}
use Rattle.co_lex.specs.declared.token.TokenKind.TheVariants as kind
use Rattle.co_lex.specs.Lexer.{start_of}
use Rattle.co_lex.specs.Scan.{is_in, value_after}
use Rattle.co_lex.specs.Texts.{mark_text}
use Rattle.co_lex.specs.Spells.{AllIn, Stops, Quotes, IsSuffix, IsNumber, BeginsMark, IsToken}
use Rattle.co_lex.specs.Spells as s
use Rattle.co_print.specs.Spelling.{spelling, suffix, escaped, escaped_all}

-- a space, a new line or nothing
abbrev pub EndsToken : List ℕ → Type 0
EndsToken [] = Unit {0}
EndsToken (b ∷ z) = (b ≡ 32) ⊎ (b ≡ 10)

abbrev pub IsLexeme : TokenKind → Type 0
IsLexeme k = (rest : List ℕ) → EndsToken rest → IsToken (spelling k) rest k

stops_name : (rest : List ℕ) → EndsToken rest → Stops class.Name rest
stops_name [] e = tt
stops_name (b ∷ z) (inl e) = ap (is_in class.Name) e
stops_name (b ∷ z) (inr e) = ap (is_in class.Name) e

stops_number : (rest : List ℕ) → EndsToken rest → Stops class.Number rest
stops_number [] e = tt
stops_number (b ∷ z) (inl e) = ap (is_in class.Number) e
stops_number (b ∷ z) (inr e) = ap (is_in class.Number) e

-- ---- marks

both : (a b : Bool) → (a && b) ≡ true → (a ≡ true) × (b ≡ true)
both true b h = (refl, h)
both false b h = (h, absurd (cc))

abbrev is_solid : List ℕ → Bool
is_solid [] = true
is_solid (b ∷ z) = nat_lt 32 b && is_solid z

no_solid : (b c : ℕ) → (b ≡ 32) ⊎ (b ≡ 10) → b ≡ c → nat_lt 32 c ≡ true → ⊥
no_solid b c (inl e) same h = grind (arith, nat_tests)
no_solid b c (inr e) same h = grind (arith, nat_tests)

longest : (m k rest more : List ℕ) → EndsToken rest → is_solid k ≡ true → m ++ rest ≡ k ++ more → length k ≤ length m
longest [] [] rest more ends solid e = omega arith
longest (b ∷ m) [] rest more ends solid e = omega arith
longest [] (c ∷ k) [] more ends solid e = absurd (cc)
longest [] (c ∷ k) (b ∷ rest) more ends solid e =
    let same : b ≡ c = cc in absurd (no_solid b c ends same (both (nat_lt 32 c) (is_solid k) solid).0)
longest (b ∷ m) (c ∷ k) rest more ends solid e =
    let tail : m ++ rest ≡ k ++ more = cc in
    let less : length k ≤ length m = longest m k rest more ends (both (nat_lt 32 c) (is_solid k) solid).1 tail in
    omega arith

mark_solid : (m : Mark) → is_solid (mark_text m) ≡ true
mark_solid mark.ShlAssign = refl
mark_solid mark.ShrAssign = refl
mark_solid mark.Ellipsis = refl
mark_solid mark.Scope = refl
mark_solid mark.Arrow = refl
mark_solid mark.Increment = refl
mark_solid mark.Decrement = refl
mark_solid mark.Shl = refl
mark_solid mark.Shr = refl
mark_solid mark.LessEqual = refl
mark_solid mark.GreaterEqual = refl
mark_solid mark.Equal = refl
mark_solid mark.NotEqual = refl
mark_solid mark.AndAnd = refl
mark_solid mark.OrOr = refl
mark_solid mark.AddAssign = refl
mark_solid mark.SubAssign = refl
mark_solid mark.MulAssign = refl
mark_solid mark.DivAssign = refl
mark_solid mark.RemAssign = refl
mark_solid mark.AndAssign = refl
mark_solid mark.OrAssign = refl
mark_solid mark.XorAssign = refl
mark_solid mark.OpenBrace = refl
mark_solid mark.CloseBrace = refl
mark_solid mark.OpenParen = refl
mark_solid mark.CloseParen = refl
mark_solid mark.Semicolon = refl
mark_solid mark.Colon = refl
mark_solid mark.Comma = refl
mark_solid mark.Dot = refl
mark_solid mark.Question = refl
mark_solid mark.Tilde = refl
mark_solid mark.Not = refl
mark_solid mark.Plus = refl
mark_solid mark.Minus = refl
mark_solid mark.Star = refl
mark_solid mark.Slash = refl
mark_solid mark.Percent = refl
mark_solid mark.Less = refl
mark_solid mark.Greater = refl
mark_solid mark.Assign = refl
mark_solid mark.And = refl
mark_solid mark.Or = refl
mark_solid mark.Xor = refl

-- what ends a token is no `/` and no `*`
no_comment : (rest : List ℕ) → EndsToken rest → (slice_index rest 0 ≢ 47) × (slice_index rest 0 ≢ 42)
no_comment [] e = (eqb-false 0 47 refl, eqb-false 0 42 refl)
no_comment (b ∷ z) (inl e) = (subst (λ x. x ≢ 47) (sym e) (eqb-false 32 47 refl), subst (λ x. x ≢ 42) (sym e) (eqb-false 32 42 refl))
no_comment (b ∷ z) (inr e) = (subst (λ x. x ≢ 47) (sym e) (eqb-false 10 47 refl), subst (λ x. x ≢ 42) (sym e) (eqb-false 10 42 refl))

mark_begins : (m : Mark) (rest : List ℕ) → EndsToken rest → BeginsMark (mark_text m ++ rest)
mark_begins mark.ShlAssign rest e = inl refl
mark_begins mark.ShrAssign rest e = inl refl
mark_begins mark.Ellipsis rest e = inl refl
mark_begins mark.Scope rest e = inl refl
mark_begins mark.Arrow rest e = inl refl
mark_begins mark.Increment rest e = inl refl
mark_begins mark.Decrement rest e = inl refl
mark_begins mark.Shl rest e = inl refl
mark_begins mark.Shr rest e = inl refl
mark_begins mark.LessEqual rest e = inl refl
mark_begins mark.GreaterEqual rest e = inl refl
mark_begins mark.Equal rest e = inl refl
mark_begins mark.NotEqual rest e = inl refl
mark_begins mark.AndAnd rest e = inl refl
mark_begins mark.OrOr rest e = inl refl
mark_begins mark.AddAssign rest e = inl refl
mark_begins mark.SubAssign rest e = inl refl
mark_begins mark.MulAssign rest e = inl refl
mark_begins mark.DivAssign rest e = inr (refl, eqb-false 61 47 refl, eqb-false 61 42 refl)
mark_begins mark.RemAssign rest e = inl refl
mark_begins mark.AndAssign rest e = inl refl
mark_begins mark.OrAssign rest e = inl refl
mark_begins mark.XorAssign rest e = inl refl
mark_begins mark.OpenBrace rest e = inl refl
mark_begins mark.CloseBrace rest e = inl refl
mark_begins mark.OpenParen rest e = inl refl
mark_begins mark.CloseParen rest e = inl refl
mark_begins mark.Semicolon rest e = inl refl
mark_begins mark.Colon rest e = inl refl
mark_begins mark.Comma rest e = inl refl
mark_begins mark.Dot rest e = inl refl
mark_begins mark.Question rest e = inl refl
mark_begins mark.Tilde rest e = inl refl
mark_begins mark.Not rest e = inl refl
mark_begins mark.Plus rest e = inl refl
mark_begins mark.Minus rest e = inl refl
mark_begins mark.Star rest e = inl refl
mark_begins mark.Slash rest e = inr (refl, (no_comment rest e).0, (no_comment rest e).1)
mark_begins mark.Percent rest e = inl refl
mark_begins mark.Less rest e = inl refl
mark_begins mark.Greater rest e = inl refl
mark_begins mark.Assign rest e = inl refl
mark_begins mark.And rest e = inl refl
mark_begins mark.Or rest e = inl refl
mark_begins mark.Xor rest e = inl refl

mark_lexeme : (m : Mark) → IsLexeme (kind.Mark m)
mark_lexeme m rest e = s.mark m rest (mark_begins m rest e) (λ k more same. longest (mark_text m) (mark_text k) rest more e (mark_solid k) same)

-- ---- text literals

escaped-plain : (b : ℕ) → b ≢ 34 → b ≢ 92 → escaped b ≡ b ∷ []
escaped-plain b quote slash =
    ap (λ t. if t || b == 92 then 92 ∷ b ∷ [] else b ∷ []) (ne_eqb b 34 quote) ∙ ap (λ t. if t then 92 ∷ b ∷ [] else b ∷ []) (ne_eqb b 92 slash)

requote : (body text : List ℕ) → Quotes body text → Quotes (escaped_all text) text
requote body text s.none = s.none
requote body text (s.plain b body' text' low high quote slash q) =
    subst (λ e. Quotes (e ++ escaped_all text') (b ∷ text')) (sym (escaped-plain b quote slash)) (s.plain b (escaped_all text') text' low high quote slash (requote body' text' q))
requote body text (s.escape b body' text' (inl e) q) =
    subst (λ x. Quotes (escaped x ++ escaped_all text') (x ∷ text')) (sym e) (s.escape 34 (escaped_all text') text' (inl refl) (requote body' text' q))
requote body text (s.escape b body' text' (inr e) q) =
    subst (λ x. Quotes (escaped x ++ escaped_all text') (x ∷ text')) (sym e) (s.escape 92 (escaped_all text') text' (inr refl) (requote body' text' q))

-- ---- numbers

own : IsNumeralModel (λ ds. AllIn class.Digit ds) (value_after 0)
own = numerals_by_fold _ (search rules) value_after (search rules)

resuffix : (text : List ℕ) (value : ℕ) (n : Num) → IsSuffix text value n → IsSuffix (suffix n) value n
resuffix text value n (s.int v h) = s.int v h
resuffix text value n (s.long v h) = s.upper_long v
resuffix text value n (s.upper_long v) = s.upper_long v
resuffix text value n (s.lower_long v) = s.upper_long v
resuffix text value n (s.upper_size v) = s.upper_size v
resuffix text value n (s.lower_size v) = s.upper_size v

all_front : (c : Class) (xs ys : List ℕ) → AllIn c (xs ++ ys) → AllIn c xs
all_front c [] ys h = tt
all_front c (x ∷ xs) ys h = (h.0, all_front c xs ys h.1)

all_append : (c : Class) (xs ys : List ℕ) → AllIn c xs → AllIn c ys → AllIn c (xs ++ ys)
all_append c [] ys h k = k
all_append c (x ∷ xs) ys h k = (h.0, all_append c xs ys h.1 k)

suffix_all : (n : Num) → AllIn class.Number (suffix n)
suffix_all num.Bool = tt
suffix_all num.Int = tt
suffix_all num.Long = (refl, tt)
suffix_all num.Size = (refl, (refl, tt))

-- no suffix begins with a digit
no_digits : (text : List ℕ) (value : ℕ) (n : Num) → IsSuffix text value n → start_of text ≡ start.Digit → ⊥
no_digits text value n (s.int v h) e = cc
no_digits text value n (s.long v h) e = cc
no_digits text value n (s.upper_long v) e = cc
no_digits text value n (s.lower_long v) e = cc
no_digits text value n (s.upper_size v) e = cc
no_digits text value n (s.lower_size v) e = cc

led_once : (digits : List ℕ) → 0 < length digits → (slice_index digits 0 ≡ 48 → length digits ≤ 1) → slice_index digits 0 ≡ 48 → length digits ≡ 1
led_once digits some led zero = let few : length digits ≤ 1 = led zero in omega arith

number_lexeme : (digits text : List ℕ) (n : Num) → start_of (digits ++ text) ≡ start.Digit → AllIn class.Number (digits ++ text) → AllIn class.Digit digits →
    (slice_index digits 0 ≡ 48 → length digits ≤ 1) → value_after 0 digits < 2 ^ 63 → IsSuffix text (value_after 0 digits) n → IsLexeme (kind.Int n (pos (value_after 0 digits)))
number_lexeme [] text n begins all digit led small suf rest e = absurd (no_digits text (value_after 0 []) n suf begins)
number_lexeme (d ∷ ds) text n begins all digit led small suf rest e =
    let digits = d ∷ ds in
    let some : 0 < length digits = omega arith in
    let wide : value_after 0 digits < 2 ^ 64 = omega arith in
    let same : decimal (value_after 0 digits) ≡ digits = decimal-digits_value own digits digit some (led_once digits some led) wide in
    subst (λ t. IsToken (t ++ suffix n) rest (kind.Int n (pos (value_after 0 digits)))) (sym same)
    (s.number (digits ++ suffix n) rest n (pos (value_after 0 digits)) begins
    (all_append class.Number digits (suffix n) (all_front class.Number digits text all) (suffix_all n)) (stops_number rest e)
    (s.decimal digits (suffix n) n digit led small (resuffix text (value_after 0 digits) n suf)))

-- ---- any token

pub lexeme : (front rest : List ℕ) (k : TokenKind) → IsToken front rest k → IsLexeme k
lexeme front rest k (s.word w r stops) = λ rest' e. s.word w rest' (stops_name rest' e)
lexeme front rest k (s.named f r begins all stops free) = λ rest' e. s.named f rest' begins all (stops_name rest' e) free
lexeme front rest k (s.number f r n v begins all stops (s.decimal digits text n' digit led small suf)) = number_lexeme digits text n' begins all digit led small suf
lexeme front rest k (s.literal body text r q) = λ rest' e. s.literal (escaped_all text) text rest' (requote body text q)
lexeme front rest k (s.mark m r begins longer) = mark_lexeme m
