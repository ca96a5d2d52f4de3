-- What spells a number, and what a spelled number is.
use Rattle.std.proofs.Common.{◌≡◌, ℕ, zero, suc, ◌<◌, ◌≤◌, ◌^◌, Bool, true, false, ◌&&◌, ◌||◌, cond, eqb, ltb, leb, List, [], ◌∷◌, ◌++◌, length, take, drop, get_or, Option, Some, None, refl, sym, ap, ◌∙◌, subst, ◌⊎◌, inl, inr, ⊎_elim, take-append-drop, arith, ℤ, pos}
use Rattle.std.specs.Option.{option_map, option_and_then}
use Rattle.std.proofs.lemmas.Bool.Decides.{nat_tests}
use Rattle.std.proofs.lemmas.List.{take_at, drop_at, length-take-le, get_or-take}
use Rattle.std.proofs.lemmas.List.Sums.{prefix_len-le-length}
use Rattle.co_base.specs.declared.kinds.Num.{Num}
use Rattle.co_base.specs.declared.kinds.Num.TheVariants as num
use Rattle.co_lex.specs.declared.scan.Class.TheVariants as class
use Rattle.co_lex.specs.Scan.{is_in, run, value_after, greatest, value_of, suffix_num, number_of}
use Rattle.co_lex.specs.Spells.{Stops, IsSuffix, IsNumber, int, long, upper_long, lower_long, upper_size, lower_size, decimal}
use Rattle.co_lex.proofs.Runs.{run-front, run-all}

-- ---- what is spelled so is read so

suffix-stops : (suffix : List ℕ) (value : ℕ) (n : Num) → IsSuffix suffix value n → Stops class.Digit suffix
suffix-stops suffix value n (int v h) = tt
suffix-stops suffix value n (long v h) = tt
suffix-stops suffix value n (upper_long v) = refl
suffix-stops suffix value n (lower_long v) = refl
suffix-stops suffix value n (upper_size v) = refl
suffix-stops suffix value n (lower_size v) = refl

fits : (a b : ℕ) → a ≤ b → leb a b ≡ true
fits a b h = grind (arith, nat_tests)

passes : (a b : ℕ) → b < a → leb a b ≡ false
passes a b h = grind (arith, nat_tests)

suffix-read : (suffix : List ℕ) (value : ℕ) (n : Num) → IsSuffix suffix value n → suffix_num value suffix ≡ Some n
suffix-read suffix value n (int v h) = ap (λ t. cond t (Some num.Int) (Some num.Long)) (fits v 2147483647 h)
suffix-read suffix value n (long v h) = ap (λ t. cond t (Some num.Int) (Some num.Long)) (passes v 2147483647 h)
suffix-read suffix value n (upper_long v) = refl
suffix-read suffix value n (lower_long v) = refl
suffix-read suffix value n (upper_size v) = refl
suffix-read suffix value n (lower_size v) = refl

no_zero : (digits suffix : List ℕ) → (get_or digits 0 0 ≡ 48 → length digits ≤ 1) → (ltb 1 (length digits) && eqb (get_or (digits ++ suffix) 0 0) 48) ≡ false
no_zero [] suffix h = refl
no_zero (b ∷ z) suffix h = no_zero_at b (length (b ∷ z)) h
  where
    no_zero_at : (b n : ℕ) → (b ≡ 48 → n ≤ 1) → (ltb 1 n && eqb b 48) ≡ false
    no_zero_at b n h = grind (arith, nat_tests)

value-read : (digits : List ℕ) → value_after 0 digits < 2 ^ 63 → value_of digits ≡ Some (value_after 0 digits)
value-read digits h = ap (λ t. cond t (Some (value_after 0 digits)) None) (fits (value_after 0 digits) greatest (omega arith))

pub number-read : (front : List ℕ) (n : Num) (v : ℤ) → IsNumber front n v → number_of front ≡ Some (n, v)
number-read front n v (decimal digits suffix k all led small h) =
    rw (run-front class.Digit digits suffix all (suffix-stops suffix (value_after 0 digits) k h), take_at digits suffix (length digits) refl, drop_at digits suffix (length digits) refl, no_zero digits suffix led, value-read digits small, suffix-read suffix (value_after 0 digits) k h) refl

-- ---- what is read so is spelled so

is_true : (a b : ℕ) → eqb a b ≡ true → b ≡ a
is_true a b h = grind (arith, nat_tests)

either_of : (a b : Bool) → (a || b) ≡ true → (a ≡ true) ⊎ (b ≡ true)
either_of true b h = inl refl
either_of false b h = inr h

both : (a b : Bool) → (a && b) ≡ true → (a ≡ true) × (b ≡ true)
both true b h = (refl, h)
both false b h = absurd (cc)

plain-at : (v : ℕ) (k : Num) (t : Bool) → leb v 2147483647 ≡ t → cond t (Some num.Int) (Some num.Long) ≡ Some k → IsSuffix [] v k
plain-at v k true e h = subst (λ n. IsSuffix [] v n) (cc) (int v (grind (arith, nat_tests)))
plain-at v k false e h = subst (λ n. IsSuffix [] v n) (cc) (long v (grind (arith, nat_tests)))

one-at : (v a : ℕ) (k : Num) (t : Bool) → (eqb a 76 || eqb a 108) ≡ t → cond t (Some num.Long) None ≡ Some k → IsSuffix (a ∷ []) v k
one-at v a k false e h = absurd (cc)
one-at v a k true e h =
    let n : num.Long ≡ k = cc in
    subst (λ i. IsSuffix (a ∷ []) v i) n
    (⊎_elim (λ q. subst (λ c. IsSuffix (c ∷ []) v num.Long) (is_true a 76 q) (upper_long v)) (λ q. subst (λ c. IsSuffix (c ∷ []) v num.Long) (is_true a 108 q) (lower_long v)) (either_of (eqb a 76) (eqb a 108) e))

pair_is : (a b x y v : ℕ) → (eqb a x && eqb b y) ≡ true → IsSuffix (x ∷ y ∷ []) v num.Size → IsSuffix (a ∷ b ∷ []) v num.Size
pair_is a b x y v h s =
    let k = both (eqb a x) (eqb b y) h in
    subst (λ c. IsSuffix (c ∷ b ∷ []) v num.Size) (is_true a x k.0) (subst (λ d. IsSuffix (x ∷ d ∷ []) v num.Size) (is_true b y k.1) s)

two-at : (v a b : ℕ) (k : Num) (t : Bool) → ((eqb a 85 && eqb b 76) || (eqb a 117 && eqb b 108)) ≡ t → cond t (Some num.Size) None ≡ Some k → IsSuffix (a ∷ b ∷ []) v k
two-at v a b k false e h = absurd (cc)
two-at v a b k true e h =
    let n : num.Size ≡ k = cc in
    subst (λ i. IsSuffix (a ∷ b ∷ []) v i) n
    (⊎_elim (λ q. pair_is a b 85 76 v q (upper_size v)) (λ q. pair_is a b 117 108 v q (lower_size v)) (either_of (eqb a 85 && eqb b 76) (eqb a 117 && eqb b 108) e))

suffix-spelled : (v : ℕ) (suffix : List ℕ) (k : Num) → suffix_num v suffix ≡ Some k → IsSuffix suffix v k
suffix-spelled v [] k h = plain-at v k (leb v 2147483647) refl h
suffix-spelled v (a ∷ []) k h = one-at v a k (eqb a 76 || eqb a 108) refl h
suffix-spelled v (a ∷ b ∷ []) k h = two-at v a b k ((eqb a 85 && eqb b 76) || (eqb a 117 && eqb b 108)) refl h
suffix-spelled v (a ∷ b ∷ c ∷ z) k h = absurd (cc)

fits-at : (v w : ℕ) (t : Bool) → leb v greatest ≡ t → cond t (Some v) None ≡ Some w → (v ≡ w) × (v < 2 ^ 63)
fits-at v w false e h = absurd (cc)
fits-at v w true e h = (cc, grind (arith, nat_tests))

first_digit : (d : ℕ) (s : List ℕ) → d ≤ length s → (ltb 1 d && eqb (get_or s 0 0) 48) ≡ false → get_or (take d s) 0 0 ≡ 48 → length (take d s) ≤ 1
first_digit zero s within test h = omega arith
first_digit (suc d) s within test h =
    let len : length (take (suc d) s) ≡ suc d = length-take-le (suc d) s within in
    let same : get_or (take (suc d) s) 0 0 ≡ get_or s 0 0 = get_or-take (suc d) s 0 0 (omega arith) in
    grind (arith, nat_tests)

abbrev paired : ℕ → Num → Num × ℤ
paired v n = (n, pos v)

abbrev answered : Num × ℤ → Option (Num × ℤ)
answered p = Some p

same_pair : (p q : Num × ℤ) → answered p ≡ Some q → (p.0 ≡ q.0) × (p.1 ≡ q.1)
same_pair p q e = let k : p ≡ q = cc in (ap (λ r. r.0) k, ap (λ r. r.1) k)

number-suffix : (s : List ℕ) (n : Num) (v : ℤ) (w : ℕ) (o : Option Num) → (ltb 1 (run class.Digit s) && eqb (get_or s 0 0) 48) ≡ false → value_after 0 (take (run class.Digit s) s) ≡ w → w < 2 ^ 63 → suffix_num w (drop (run class.Digit s) s) ≡ o → option_map (paired w) o ≡ Some (n, v) → IsNumber s n v
number-suffix s n v w None led value small e h = absurd (cc)
number-suffix s n v w (Some k) led value small e h =
    let d = run class.Digit s in
    let within = prefix_len-le-length (is_in class.Digit) s in
    let pair = same_pair (k, pos w) (n, v) h in
    let suffix = suffix-spelled w (drop d s) k e in
    let t = decimal (take d s) (drop d s) k (run-all class.Digit s) (first_digit d s within led) (subst (λ i. i < 2 ^ 63) (sym value) small) (subst (λ i. IsSuffix (drop d s) i k) (sym value) suffix) in
    let t2 = subst (λ z. IsNumber z k (pos (value_after 0 (take d s)))) (take-append-drop d s) t in
    let v2 : pos (value_after 0 (take d s)) ≡ v = ap pos value ∙ pair.1 in
    subst (λ i. IsNumber s i v) pair.0 (subst (λ i. IsNumber s k i) v2 t2)

number-value : (s : List ℕ) (n : Num) (v : ℤ) (t : Bool) (o : Option ℕ) → (ltb 1 (run class.Digit s) && eqb (get_or s 0 0) 48) ≡ t → value_of (take (run class.Digit s) s) ≡ o → cond t None (option_and_then (λ w. option_map (paired w) (suffix_num w (drop (run class.Digit s) s))) o) ≡ Some (n, v) → IsNumber s n v
number-value s n v true o led value h = absurd (cc)
number-value s n v false None led value h = absurd (cc)
number-value s n v false (Some w) led value h =
    let digits = take (run class.Digit s) s in
    let f = fits-at (value_after 0 digits) w (leb (value_after 0 digits) greatest) refl value in
    number-suffix s n v w (suffix_num w (drop (run class.Digit s) s)) led f.0 (subst (λ i. i < 2 ^ 63) f.0 f.1) refl h

pub number-spelled : (s : List ℕ) (n : Num) (v : ℤ) → number_of s ≡ Some (n, v) → IsNumber s n v
number-spelled s n v h =
    number-value s n v (ltb 1 (run class.Digit s) && eqb (get_or s 0 0) 48) (value_of (take (run class.Digit s) s)) refl refl h
