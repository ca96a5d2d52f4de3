-- The token at the front, as it is computed, is the one that the bytes spell.
use Rattle.std.proofs.Common.{◌≡◌, ◌≢◌, ℕ, zero, suc, ◌+◌, ◌-◌, ◌*◌, ◌^◌, ◌<◌, ◌≤◌, Bool, true, false, not, ◌&&◌, ◌||◌, cond, nat_le, nat_lt, nat_eq, List, [], ◌∷◌, ◌++◌, length, length-take, map, take, drop, slice_get, Option, Some, None, All, bytes_eq, codes, refl, sym, ap, subst, ◌∙◌, arith, rules}
use Rattle.std.specs.List.{prefix_len, list_any, AllByRecursion}
use Rattle.std.proofs.lemmas.List.Elements.{All-from_recursion, recursion_from_All}
use Rattle.std.proofs.Math.Seq.{drop-append_seam, take-append_seam}
use Rattle.std.proofs.lemmas.Slice.Eq.{bytes_eq-Decides}
use Rattle.std.proofs.lemmas.Bool.{false≢true, not-true, and_parts, and_from, or_parts, leb-true, leb-false, le-leb, lt-leb, ltb-true, lt-ltb, ltb-false, eqb-true, eq-eqb, ne_eqb, cases_lt, true_from_ne_false, false_from_ne_true}
use Rattle.std.proofs.lemmas.Bool.Decides.{nat_tests}
use Rattle.std.proofs.lemmas.Grind.{common_steps}
use Rattle.co_base.specs.declared.span.Span.{Span}
use Rattle.co_first_tree.specs.Form.{IsVariable, IsLetter, reserved_words}
use Rattle.co_first_parse.specs.declared.token.Mark.{Mark}
use Rattle.co_first_parse.specs.declared.token.Mark.TheVariants as m
use Rattle.co_first_parse.specs.declared.token.Kind.{Kind}
use Rattle.co_first_parse.specs.declared.token.Kind.TheVariants.{Fixed, Name, Number}
use Rattle.co_first_parse.specs.declared.token.Token.{Token}
use Rattle.co_first_parse.specs.declared.words.TheConstants.{KEYWORDS, PUNCTUATORS, RESERVED}
use Rattle.co_first_parse.specs.Spelling.{spelling, is_letter, is_digit, goes_on, Ends, value_after, IsDecimal, is_word, Spelled}
use Rattle.co_first_parse.specs.Lex.{lookup, keyword, is_reserved, kind_by, word_kind, ends, sized, word_token, value_from, number_kind, is_plain, number, number_token, punctuator, fixed, punctuator_token, first_token, begins_with}

pub pick : {A : Type 0} (b : Bool) (x y : Option A) (r : A) (P : Type 0) → (b ≡ true → x ≡ Some r → P) → (b ≡ false → y ≡ Some r → P) → cond b x y ≡ Some r → P
pick true x y r P f g h = f refl h
pick false x y r P f g h = g refl h

-- ---- runs of letters and of digits

letter_stops : (byte : ℕ) → goes_on byte ≡ false → is_letter byte ≡ false
letter_stops byte h =
    let first = is_letter byte || (nat_le 65 byte && nat_le byte 90) in
    (or_parts (is_letter byte) (nat_le 65 byte && nat_le byte 90) (or_parts first (is_digit byte) (or_parts (first || is_digit byte) (nat_eq byte 95) h).0).0).0

digit_stops : (byte : ℕ) → goes_on byte ≡ false → is_digit byte ≡ false
digit_stops byte h =
    let first = is_letter byte || (nat_le 65 byte && nat_le byte 90) in
    (or_parts first (is_digit byte) (or_parts (first || is_digit byte) (nat_eq byte 95) h).0).1

ends_is : (next : List ℕ) → Ends next → ends next ≡ true
ends_is [] h = refl
ends_is (byte ∷ next) h = ap not h

is_ends : (next : List ℕ) → ends next ≡ true → Ends next
is_ends [] h = tt
is_ends (byte ∷ next) h = not-true (goes_on byte) h

stopped : (p : ℕ → Bool) (next : List ℕ) → ((byte : ℕ) → goes_on byte ≡ false → p byte ≡ false) → Ends next → prefix_len p next ≡ 0
stopped p [] says h = refl
stopped p (byte ∷ next) says h = ap (λ b. cond b (1 + prefix_len p next) 0) (says byte h)

run_is : (p : ℕ → Bool) (bytes next : List ℕ) → AllByRecursion (λ byte. p byte ≡ true) bytes → prefix_len p next ≡ 0 → prefix_len p (bytes ++ next) ≡ length bytes
run_is p [] next all h = h
run_is p (byte ∷ bytes) next all h =
    let e : 1 + length bytes ≡ suc (length bytes) = omega arith in
    ap (λ b. cond b (1 + prefix_len p (bytes ++ next)) 0) all.0 ∙ (ap (λ n. 1 + n) (run_is p bytes next all.1 h) ∙ e)

pub record Front (p : ℕ → Bool) (bytes : List ℕ) : Type 0 where
  pub within : prefix_len p bytes ≤ length bytes
  pub all : AllByRecursion (λ byte. p byte ≡ true) (take (prefix_len p bytes) bytes)

front_more : (p : ℕ → Bool) (byte : ℕ) (bytes : List ℕ) (b : Bool) → p byte ≡ b → Front p bytes
    → (cond b (1 + prefix_len p bytes) 0 ≤ length (byte ∷ bytes)) × AllByRecursion (λ x. p x ≡ true) (take (cond b (1 + prefix_len p bytes) 0) (byte ∷ bytes))
front_more p byte bytes true e f =
    let s : suc (prefix_len p bytes) ≡ 1 + prefix_len p bytes = omega arith in
    let w : 1 + prefix_len p bytes ≤ suc (length bytes) = omega (arith, f.within) in
    (w, subst (λ n. AllByRecursion (λ x. p x ≡ true) (take n (byte ∷ bytes))) s (e, f.all))
front_more p byte bytes false e f = (omega arith, tt)

front_is : (p : ℕ → Bool) (bytes : List ℕ) → Front p bytes
front_is p [] = record { within = omega arith; all = tt }
front_is p (byte ∷ bytes) = let f = front_more p byte bytes (p byte) refl (front_is p bytes) in record { within = f.0; all = f.1 }

-- ---- words

lookup_step : (P : List ℕ → Mark → Type 0) (word : List ℕ) (mark : Mark) (entry : List ℕ × Mark) (rest : Option Mark) (b : Bool)
    → bytes_eq entry.0 word ≡ b → P entry.0 entry.1 → (rest ≡ Some mark → P word mark) → cond b (Some entry.1) rest ≡ Some mark → P word mark
lookup_step P word mark entry rest true e known more h =
    let same : entry.0 ≡ word = (bytes_eq-Decides entry.0 word).0 e in
    let which : entry.1 ≡ mark = cc in
    subst (λ m'. P word m') which (subst (λ w. P w entry.1) same known)
lookup_step P word mark entry rest false e known more h = more h

lookup_holds : (P : List ℕ → Mark → Type 0) (entries : List (List ℕ × Mark)) (word : List ℕ) (mark : Mark)
    → AllByRecursion (λ entry. P entry.0 entry.1) entries → lookup entries word ≡ Some mark → P word mark
lookup_holds P [] word mark all h = absurd cc
lookup_holds P (entry ∷ entries) word mark all h =
    lookup_step P word mark entry (lookup entries word) (bytes_eq entry.0 word) refl all.0 (lookup_holds P entries word mark all.1) h

abbrev IsKeyword : List ℕ → Mark → Type 0
IsKeyword word mark = (word ≡ spelling mark) × (is_reserved word ≡ true)

abbrev IsPunctuator : List ℕ → Mark → Type 0
IsPunctuator word mark = (word ≡ spelling mark) × (is_word mark ≡ false)

keyword_is : (word : List ℕ) (mark : Mark) → keyword word ≡ Some mark → IsKeyword word mark
unfolding keyword is_reserved
keyword_is word mark = lookup_holds IsKeyword (map (λ entry. (entry.0.now, entry.1)) KEYWORDS) word mark ((refl, refl), ((refl, refl), ((refl, refl), ((refl, refl), ((refl, refl), ((refl, refl), tt))))))

punctuator_is : (byte : ℕ) (mark : Mark) → punctuator byte ≡ Some mark → IsPunctuator (byte ∷ []) mark
unfolding punctuator
punctuator_is byte mark = lookup_holds IsPunctuator (map (λ entry. (entry.0.now, entry.1)) PUNCTUATORS) (byte ∷ []) mark ((refl, refl), ((refl, refl), ((refl, refl), ((refl, refl), ((refl, refl), ((refl, refl), ((refl, refl), ((refl, refl), tt))))))))

among_step : (words : List (List ℕ)) (other word : List ℕ) (b : Bool) → bytes_eq other word ≡ b → (list_any (λ o. bytes_eq o word) words ≡ true → (i : ℕ) × (slice_get words i ≡ Some word))
    → (b || list_any (λ o. bytes_eq o word) words) ≡ true → (i : ℕ) × (slice_get (other ∷ words) i ≡ Some word)
among_step words other word true e more h = (zero, ap Some ((bytes_eq-Decides other word).0 e))
among_step words other word false e more h = let r = more h in (suc r.0, r.1)

among : (words : List (List ℕ)) (word : List ℕ) → list_any (λ o. bytes_eq o word) words ≡ true → (i : ℕ) × (slice_get words i ≡ Some word)
among [] word h = absurd (false≢true h)
among (other ∷ words) word h = among_step words other word (bytes_eq other word) refl (among words word) h

not_among : (words : List (List ℕ)) (word : List ℕ) → list_any (λ o. bytes_eq o word) words ≡ false → (i : ℕ) → slice_get words i ≢ Some word
not_among [] word h i e = absurd cc
not_among (other ∷ words) word h zero e =
    let same : other ≡ word = cc in
    let t = (bytes_eq-Decides other word).1 same in
    let f = (or_parts (bytes_eq other word) (list_any (λ o. bytes_eq o word) words) h).0 in
    false≢true (sym f ∙ t)
not_among (other ∷ words) word h (suc i) e = not_among words word (or_parts (bytes_eq other word) (list_any (λ o. bytes_eq o word) words) h).1 i e

reserved_is : (word : List ℕ) → is_reserved word ≡ true → (i : ℕ) × (slice_get reserved_words i ≡ Some word)
unfolding is_reserved
reserved_is word h = among reserved_words word h

free_is : (word : List ℕ) → is_reserved word ≡ false → (i : ℕ) → slice_get reserved_words i ≢ Some word
unfolding is_reserved
free_is word h = not_among reserved_words word h

is_IsLetter : (byte : ℕ) → is_letter byte ≡ true → IsLetter byte
is_IsLetter byte h = let p = and_parts (nat_le 97 byte) (nat_le byte 122) h in (leb-true 97 byte p.0, leb-true byte 122 p.1)

IsLetter_is : (byte : ℕ) → IsLetter byte → is_letter byte ≡ true
IsLetter_is byte h = and_from (nat_le 97 byte) (nat_le byte 122) (le-leb 97 byte h.0) (le-leb byte 122 h.1)

name_sound : (word next : List ℕ) (kind : Kind) (b : Bool) → is_reserved word ≡ b → 0 < length word → AllByRecursion (λ byte. is_letter byte ≡ true) word → Ends next
    → cond b None (Some (Name word)) ≡ Some kind → Spelled kind word next
name_sound word next kind true e some all end h = absurd cc
name_sound word next kind false e some all end h =
    let is : Name word ≡ kind = cc in
    let letters = All-from_recursion (λ byte. is_letter byte ≡ true) word all in
    subst (λ k. Spelled k word next) is
    (refl, record { some = some; letters = λ k d l. is_IsLetter _ (letters k d l); free = free_is word e }, end)

word_sound_by : (word next : List ℕ) (kind : Kind) (found : Option Mark) → keyword word ≡ found → 0 < length word → AllByRecursion (λ byte. is_letter byte ≡ true) word → Ends next
    → kind_by word found ≡ Some kind → Spelled kind word next
word_sound_by word next kind (Some mark) e some all end h =
    let is : Fixed mark ≡ kind = cc in
    subst (λ k. Spelled k word next) is ((keyword_is word mark e).0, λ _. end)
word_sound_by word next kind None e some all end h = name_sound word next kind (is_reserved word) refl some all end h

word_sound : (word next : List ℕ) (kind : Kind) → 0 < length word → AllByRecursion (λ byte. is_letter byte ≡ true) word → Ends next
    → word_kind word ≡ Some kind → Spelled kind word next
unfolding word_kind
word_sound word next kind some all end h = word_sound_by word next kind (keyword word) refl some all end h

name_by : (word : List ℕ) (found : Option Mark) → keyword word ≡ found → is_reserved word ≡ false → kind_by word found ≡ Some (Name word)
name_by word (Some mark) e f = absurd (false≢true (sym f ∙ (keyword_is word mark e).1))
name_by word None e f = ap (λ b. cond b None (Some (Name word))) f

name_complete : (word : List ℕ) → IsVariable word → word_kind word ≡ Some (Name word)
unfolding word_kind
name_complete word is =
    name_by word (keyword word) refl (false_from_ne_true (is_reserved word) (λ t. let r = reserved_is word t in is.free r.0 r.1))

-- ---- numbers

grows : (value : ℕ) (digits : List ℕ) → value ≤ value_after value digits
grows value [] = omega arith
grows value (digit ∷ digits) = omega (arith, grows (value * 10 + (digit - 48)) digits)

value_step : (next value : ℕ) (digits : List ℕ) (b : Bool) → nat_lt next (2 ^ 31) ≡ b → (next < 2 ^ 31 → value_from next digits ≡ Some value → (value_after next digits ≡ value) × (value < 2 ^ 31))
    → cond b (value_from next digits) None ≡ Some value → (value_after next digits ≡ value) × (value < 2 ^ 31)
value_step next value digits true e more h = more (ltb-true next (2 ^ 31) e) h
value_step next value digits false e more h = absurd cc

value_sound : (before value : ℕ) (digits : List ℕ) → before < 2 ^ 31 → value_from before digits ≡ Some value → (value_after before digits ≡ value) × (value < 2 ^ 31)
value_sound before value [] small h = let e : before ≡ value = cc in (e, subst (λ n. n < 2 ^ 31) e small)
value_sound before value (digit ∷ digits) small h =
    let next = before * 10 + (digit - 48) in
    value_step next value digits (nat_lt next (2 ^ 31)) refl (value_sound next value digits) h

value_complete : (before value : ℕ) (digits : List ℕ) → value_after before digits ≡ value → value < 2 ^ 31 → value_from before digits ≡ Some value
value_complete before value [] e small = ap Some e
value_complete before value (digit ∷ digits) e small =
    let next = before * 10 + (digit - 48) in
    let below : next < 2 ^ 31 = omega (arith, grows next digits, e) in
    ap (λ b. cond b (value_from next digits) None) (lt-ltb next (2 ^ 31) below) ∙ value_complete next value digits e small

plain_sound : (digits : List ℕ) → is_plain digits ≡ true → (slice_get digits 0 ≡ Some 48 → length digits ≡ 1)
plain_sound [] h e = absurd (false≢true h)
plain_sound (digit ∷ []) h e = refl
plain_sound (digit ∷ other ∷ digits) h e =
    let zero_is : digit ≡ 48 = cc in
    absurd (false≢true (sym (not-true (nat_eq digit 48) h) ∙ eq-eqb digit 48 zero_is))

plain_complete : (digits : List ℕ) → 0 < length digits → (slice_get digits 0 ≡ Some 48 → length digits ≡ 1) → is_plain digits ≡ true
plain_complete [] some h = absurd (omega arith)
plain_complete (digit ∷ []) some h = refl
plain_complete (digit ∷ other ∷ digits) some h =
    let ne : digit ≡ 48 → ⊥ = λ e. (let l : suc (suc (length digits)) ≡ 1 = h (ap Some e) in omega arith) in
    ap not (ne_eqb digit 48 ne)

number_by : (digits next : List ℕ) (kind : Kind) (found : Option ℕ) → number digits ≡ found → 0 < length digits → AllByRecursion (λ byte. is_digit byte ≡ true) digits → Ends next
    → number_kind found ≡ Some kind → Spelled kind digits next
unfolding number
number_by digits next kind None e some all end h = absurd cc
number_by digits next kind (Some value) e some all end h =
    let is : Number value ≡ kind = cc in
    pick (is_plain digits) (value_from 0 digits) None value (Spelled kind digits next)
    (λ plain v. let s = value_sound 0 value digits (omega arith) v in
    subst (λ k. Spelled k digits next) is
    (record { some = some; digits = All-from_recursion (λ byte. is_digit byte ≡ true) digits all; plain = plain_sound digits plain }, s.0, s.1, end))
    (λ _ v. absurd cc) e

number_complete : (digits : List ℕ) (value : ℕ) → IsDecimal digits → value_after 0 digits ≡ value → value < 2 ^ 31 → number digits ≡ Some value
unfolding number
number_complete digits value is v small =
    ap (λ b. cond b (value_from 0 digits) None) (plain_complete digits is.some is.plain) ∙ value_complete 0 value digits v small

-- ---- the first token

pub record Fronts (bytes : List ℕ) (kind : Kind) (size : ℕ) : Type 0 where
  pub within : size ≤ length bytes
  pub some : 0 < size
  pub spelled : Spelled kind (take size bytes) (drop size bytes)

pub pair_is : (found kind : Kind) (before size : ℕ) → ◌≡◌ {A = Option (Kind × ℕ)} (Some (found, before)) (Some (kind, size)) → (found ≡ kind) × (before ≡ size)
pair_is found kind before size h = let e : ◌≡◌ {A = Kind × ℕ} (found, before) (kind, size) = cc in (ap (λ p. p.0) e, ap (λ p. p.1) e)

sized_is : (size other : ℕ) (found : Option Kind) (kind : Kind) → sized size found ≡ Some (kind, other) → (found ≡ Some kind) × (size ≡ other)
sized_is size other None kind h = absurd cc
sized_is size other (Some found) kind h = let e = pair_is found kind size other h in (ap Some e.0, e.1)

starts : (p : ℕ → Bool) (byte : ℕ) (bytes : List ℕ) → p byte ≡ true → 0 < prefix_len p (byte ∷ bytes)
starts p byte bytes h = let P : ℕ → Type 0 = λ n. 0 < n in subst P (ap (λ b. cond b (1 + prefix_len p bytes) 0) (sym h)) (omega arith)

word_fronts : (bytes : List ℕ) (kind : Kind) (size : ℕ) → 0 < prefix_len is_letter bytes → word_token bytes ≡ Some (kind, size) → Fronts bytes kind size
unfolding word_token
word_fronts bytes kind size some =
    let n = prefix_len is_letter bytes in
    let front = front_is is_letter bytes in
    pick (ends (drop n bytes)) (sized n (word_kind (take n bytes))) None (kind, size) (Fronts bytes kind size)
    (λ end h. let s = sized_is n size (word_kind (take n bytes)) kind h in
    let l : length (take n bytes) ≡ n = simp length-take (omega (arith, front.within)) in
    subst (λ k. Fronts bytes kind k) s.1
    (record { within = front.within; some = some; spelled = word_sound (take n bytes) (drop n bytes) kind (omega arith) front.all (is_ends (drop n bytes) end) s.0 }))
    (λ _ h. absurd cc)

number_fronts : (bytes : List ℕ) (kind : Kind) (size : ℕ) → 0 < prefix_len is_digit bytes → number_token bytes ≡ Some (kind, size) → Fronts bytes kind size
unfolding number_token
number_fronts bytes kind size some =
    let n = prefix_len is_digit bytes in
    let front = front_is is_digit bytes in
    pick (ends (drop n bytes)) (sized n (number_kind (number (take n bytes)))) None (kind, size) (Fronts bytes kind size)
    (λ end h. let s = sized_is n size (number_kind (number (take n bytes))) kind h in
    let l : length (take n bytes) ≡ n = simp length-take (omega (arith, front.within)) in
    subst (λ k. Fronts bytes kind k) s.1
    (record { within = front.within; some = some; spelled = number_by (take n bytes) (drop n bytes) kind (number (take n bytes)) refl (omega arith) front.all (is_ends (drop n bytes) end) s.0 }))
    (λ _ h. absurd cc)

scope_fronts : (byte : ℕ) (bytes : List ℕ) (kind : Kind) (size : ℕ) → byte ≡ 58 → cond {A = Option (Kind × ℕ)} (begins_with 58 bytes) (Some (Fixed m.Scope, 2)) None ≡ Some (kind, size) → Fronts (byte ∷ bytes) kind size
scope_fronts byte [] kind size e h = absurd cc
scope_fronts byte (other ∷ bytes) kind size e h =
    pick (nat_eq other 58) (Some (Fixed m.Scope, 2)) None (kind, size) (Fronts (byte ∷ other ∷ bytes) kind size)
    (λ o h'. let same_token = pair_is (Fixed m.Scope) kind 2 size h' in let k = same_token.0 in let n = same_token.1 in
    let same : byte ∷ other ∷ [] ≡ 58 ∷ 58 ∷ [] = ap (λ x. x ∷ other ∷ []) e ∙ ap (λ x. 58 ∷ x ∷ []) (eqb-true other 58 o) in
    subst (λ k'. Fronts (byte ∷ other ∷ bytes) k' size) k (subst (λ n'. Fronts (byte ∷ other ∷ bytes) (Fixed m.Scope) n') n
    (record { within = omega arith; some = omega arith; spelled = (same, λ w. absurd (false≢true w)) })))
    (λ _ h'. absurd cc) h

fixed_fronts : (byte : ℕ) (bytes : List ℕ) (kind : Kind) (size : ℕ) (found : Option Mark) → punctuator byte ≡ found → fixed 1 found ≡ Some (kind, size) → Fronts (byte ∷ bytes) kind size
fixed_fronts byte bytes kind size None e h = absurd cc
fixed_fronts byte bytes kind size (Some mark) e h =
    let same_token = pair_is (Fixed mark) kind 1 size h in let k = same_token.0 in let n = same_token.1 in
    let is = punctuator_is byte mark e in
    subst (λ k'. Fronts (byte ∷ bytes) k' size) k (subst (λ n'. Fronts (byte ∷ bytes) (Fixed mark) n') n
    (record { within = omega arith; some = omega arith; spelled = (is.0, λ w. absurd (false≢true (sym is.1 ∙ w))) }))

punctuator_fronts : (byte : ℕ) (bytes : List ℕ) (kind : Kind) (size : ℕ) → punctuator_token byte bytes ≡ Some (kind, size) → Fronts (byte ∷ bytes) kind size
unfolding punctuator_token
punctuator_fronts byte bytes kind size =
    pick (nat_eq byte 58) (cond {A = Option (Kind × ℕ)} (begins_with 58 bytes) (Some (Fixed m.Scope, 2)) None) (fixed 1 (punctuator byte)) (kind, size) (Fronts (byte ∷ bytes) kind size)
    (λ e h. scope_fronts byte bytes kind size (eqb-true byte 58 e) h)
    (λ _ h. fixed_fronts byte bytes kind size (punctuator byte) refl h)

pub first_sound : (bytes : List ℕ) (kind : Kind) (size : ℕ) → first_token bytes ≡ Some (kind, size) → Fronts bytes kind size
unfolding first_token
first_sound [] kind size h = absurd cc
first_sound (byte ∷ bytes) kind size h =
    let rest = cond (is_digit byte) (number_token (byte ∷ bytes)) (punctuator_token byte bytes) in
    pick (is_letter byte) (word_token (byte ∷ bytes)) rest (kind, size) (Fronts (byte ∷ bytes) kind size)
    (λ e h. word_fronts (byte ∷ bytes) kind size (starts is_letter byte bytes e) h)
    (λ _ h'. pick (is_digit byte) (number_token (byte ∷ bytes)) (punctuator_token byte bytes) (kind, size) (Fronts (byte ∷ bytes) kind size)
    (λ e g. number_fronts (byte ∷ bytes) kind size (starts is_digit byte bytes e) g)
    (λ _ g. punctuator_fronts byte bytes kind size g) h') h

token_of_run : (p : ℕ → Bool) (word next : List ℕ) (kind_of : List ℕ → Option Kind) → AllByRecursion (λ byte. p byte ≡ true) word → prefix_len p next ≡ 0 → Ends next
    → cond (ends (drop (prefix_len p (word ++ next)) (word ++ next))) (sized (prefix_len p (word ++ next)) (kind_of (take (prefix_len p (word ++ next)) (word ++ next)))) None ≡ sized (length word) (kind_of word)
token_of_run p word next kind_of all stop end =
    let T : ℕ → Option (Kind × ℕ) = λ n. cond (ends (drop n (word ++ next))) (sized n (kind_of (take n (word ++ next)))) None in
    ap T (run_is p word next all stop) ∙
    (ap (λ xs. cond (ends xs) (sized (length word) (kind_of (take (length word) (word ++ next)))) None) (drop-append_seam word next) ∙
    (ap (λ b. cond b (sized (length word) (kind_of (take (length word) (word ++ next)))) None) (ends_is next end) ∙
    ap (λ xs. sized (length word) (kind_of xs)) (take-append_seam word next)))

word_complete : (word next : List ℕ) → 0 < length word → AllByRecursion (λ byte. is_letter byte ≡ true) word → Ends next → first_token (word ++ next) ≡ sized (length word) (word_kind word)
unfolding first_token word_token
word_complete [] next some all end = absurd (omega arith)
word_complete (byte ∷ word) next some all end =
    let bytes = byte ∷ (word ++ next) in
    ap (λ b. cond b (word_token bytes) (cond (is_digit byte) (number_token bytes) (punctuator_token byte (word ++ next)))) all.0
    ∙ token_of_run is_letter (byte ∷ word) next word_kind all (stopped is_letter next letter_stops end) end

digit_no_letter : (byte : ℕ) → is_digit byte ≡ true → is_letter byte ≡ false
digit_no_letter byte h =
    let p = and_parts (nat_le 48 byte) (nat_le byte 57) h in
    let small = leb-true byte 57 p.1 in
    ap (λ b. b && nat_le byte 122) (lt-leb 97 byte (omega arith))

digits_complete : (word next : List ℕ) → 0 < length word → AllByRecursion (λ byte. is_digit byte ≡ true) word → Ends next → first_token (word ++ next) ≡ sized (length word) (number_kind (number word))
unfolding first_token number_token
digits_complete [] next some all end = absurd (omega arith)
digits_complete (byte ∷ word) next some all end =
    let bytes = byte ∷ (word ++ next) in
    ap (λ b. cond b (word_token bytes) (cond (is_digit byte) (number_token bytes) (punctuator_token byte (word ++ next)))) (digit_no_letter byte all.0)
    ∙ (ap (λ b. cond b (number_token bytes) (punctuator_token byte (word ++ next))) all.0
    ∙ token_of_run is_digit (byte ∷ word) next (λ w. number_kind (number w)) all (stopped is_digit next digit_stops end) end)

kept_letters : (word : List ℕ) → IsVariable word → AllByRecursion (λ byte. is_letter byte ≡ true) word
kept_letters word is = recursion_from_All (λ byte. is_letter byte ≡ true) word (λ k d l. IsLetter_is _ (is.letters k d l))

fixed_complete : (mark : Mark) (next : List ℕ) → (is_word mark ≡ true → Ends next) → first_token (spelling mark ++ next) ≡ Some (Fixed mark, length (spelling mark))
unfolding first_token punctuator_token punctuator word_kind keyword
fixed_complete m.Int next end = word_complete (codes "int") next (omega arith) (refl, (refl, (refl, tt))) (end refl)
fixed_complete m.Main next end = word_complete (codes "main") next (omega arith) (refl, (refl, (refl, (refl, tt)))) (end refl)
fixed_complete m.Return next end = word_complete (codes "return") next (omega arith) (refl, (refl, (refl, (refl, (refl, (refl, tt)))))) (end refl)
fixed_complete m.Long next end = word_complete (codes "long") next (omega arith) (refl, (refl, (refl, (refl, tt)))) (end refl)
fixed_complete m.While next end = word_complete (codes "while") next (omega arith) (refl, (refl, (refl, (refl, (refl, tt))))) (end refl)
fixed_complete m.Corun next end = word_complete (codes "corun") next (omega arith) (refl, (refl, (refl, (refl, (refl, tt))))) (end refl)
fixed_complete m.OpenParenthesis next end = refl
fixed_complete m.CloseParenthesis next end = refl
fixed_complete m.OpenBrace next end = refl
fixed_complete m.CloseBrace next end = refl
fixed_complete m.Semicolon next end = refl
fixed_complete m.Assign next end = refl
fixed_complete m.Plus next end = refl
fixed_complete m.Minus next end = refl
fixed_complete m.Scope next end = refl

pub first_complete : (kind : Kind) (bytes next : List ℕ) → Spelled kind bytes next → first_token (bytes ++ next) ≡ Some (kind, length bytes)
first_complete (Fixed mark) bytes next h = subst (λ b. first_token (b ++ next) ≡ Some (Fixed mark, length b)) (sym h.0) (fixed_complete mark next h.1)
first_complete (Name name) bytes next h =
    subst (λ b. first_token (b ++ next) ≡ Some (Name name, length b)) (sym h.0)
    (word_complete name next h.1.some (kept_letters name h.1) h.2 ∙ ap (sized (length name)) (name_complete name h.1))
first_complete (Number value) bytes next h =
    digits_complete bytes next h.0.some (recursion_from_All (λ byte. is_digit byte ≡ true) bytes h.0.digits) h.3
    ∙ ap (λ found. sized (length bytes) (number_kind found)) (number_complete bytes value h.0 h.1 h.2)
