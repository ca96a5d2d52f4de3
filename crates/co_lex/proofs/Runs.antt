-- Runs of bytes of a class, comments, and text literals: what the lengths say of the bytes, and what the bytes say of the lengths.
use Rattle.std.proofs.Common.{◌≡◌, ◌≢◌, ℕ, suc, ◌+◌, ◌<◌, ◌≤◌, Bool, true, false, ◌&&◌, ◌||◌, cond, eqb, leb, List, [], ◌∷◌, ◌++◌, length, take, drop, get_or, refl, sym, ap, ◌∙◌, subst, ◌⊎◌, arith}
use Rattle.std.proofs.lemmas.Bool.Decides.{nat_tests}
use Rattle.co_lex.specs.declared.scan.Class.{Class}
use Rattle.co_lex.specs.Scan.{is_in, run, comment_len, literal_len, good_len, text_of}
use Rattle.co_lex.specs.Spells.{AllIn, Stops, NoClose, Quotes, none, plain, escape}

-- ---- runs

pub run-front : (c : Class) (front rest : List ℕ) → AllIn c front → Stops c rest → run c (front ++ rest) ≡ length front
run-front c [] [] all stops = refl
run-front c [] (b ∷ z) all stops = ap (λ t. cond t (1 + run c z) 0) stops
run-front c (b ∷ z) rest all stops =
    let e = run-front c z rest all.1 stops in
    let first : run c (b ∷ (z ++ rest)) ≡ 1 + run c (z ++ rest) = ap (λ t. cond t (1 + run c (z ++ rest)) 0) all.0 in
    omega arith

all_at : (c : Class) (b : ℕ) (z : List ℕ) (t : Bool) → is_in c b ≡ t → AllIn c (take (run c z) z) → AllIn c (take (cond t (1 + run c z) 0) (b ∷ z))
all_at c b z true h all = let e : 1 + run c z ≡ suc (run c z) = omega arith in rw e (h, all)
all_at c b z false h all = tt

pub run-all : (c : Class) (z : List ℕ) → AllIn c (take (run c z) z)
run-all c [] = tt
run-all c (b ∷ z) = all_at c b z (is_in c b) refl (run-all c z)

stops_at : (c : Class) (b : ℕ) (z : List ℕ) (t : Bool) → is_in c b ≡ t → Stops c (drop (run c z) z) → Stops c (drop (cond t (1 + run c z) 0) (b ∷ z))
stops_at c b z true h stops = let e : 1 + run c z ≡ suc (run c z) = omega arith in rw e stops
stops_at c b z false h stops = h

pub run-stops : (c : Class) (z : List ℕ) → Stops c (drop (run c z) z)
run-stops c [] = tt
run-stops c (b ∷ z) = stops_at c b z (is_in c b) refl (run-stops c z)

-- ---- comments

same_first : (z p q : List ℕ) (c : ℕ) → get_or (z ++ (c ∷ p)) 0 0 ≡ get_or (z ++ (c ∷ q)) 0 0
same_first [] p q c = refl
same_first (b ∷ z) p q c = refl

not_close : (b c : ℕ) → (b ≡ 42 → c ≡ 47 → ⊥) → (eqb b 42 && eqb c 47) ≡ false
not_close b c h = grind (arith, nat_tests)

is_close : (b c : ℕ) → (eqb b 42 && eqb c 47) ≡ true → (b ≡ 42) × (c ≡ 47)
is_close b c h = (grind (arith, nat_tests), grind (arith, nat_tests))

no_close : (b c : ℕ) → (eqb b 42 && eqb c 47) ≡ false → b ≡ 42 → c ≡ 47 → ⊥
no_close b c h e f = grind (arith, nat_tests)

pub comment-front : (text rest : List ℕ) → NoClose (text ++ 42 ∷ []) → comment_len (text ++ 42 ∷ 47 ∷ rest) ≡ length text
comment-front [] rest h = refl
comment-front (b ∷ z) rest h =
    let first : get_or (z ++ 42 ∷ 47 ∷ rest) 0 0 ≡ get_or (z ++ 42 ∷ []) 0 0 = same_first z (47 ∷ rest) [] 42 in
    let test = not_close b (get_or (z ++ 42 ∷ 47 ∷ rest) 0 0) (λ e f. h.0 e (sym first ∙ f)) in
    ap (λ t. cond t 0 (suc (comment_len (z ++ 42 ∷ 47 ∷ rest)))) test ∙ ap suc (comment-front z rest h.1)

abbrev Closed : ℕ → List ℕ → Type 0
Closed n z = (z ≡ take n z ++ 42 ∷ 47 ∷ drop (suc (suc n)) z) × NoClose (take n z ++ 42 ∷ [])

closed_here : (b : ℕ) (z : List ℕ) → b ≡ 42 → get_or z 0 0 ≡ 47 → Closed 0 (b ∷ z)
closed_here b [] e f = absurd (omega arith)
closed_here b (c ∷ z) e f = (rw (e, f) refl, ((λ p q. omega arith), tt))

closed_later : (b n : ℕ) (z : List ℕ) → (b ≡ 42 → get_or z 0 0 ≡ 47 → ⊥) → Closed n z → Closed (suc n) (b ∷ z)
closed_later b n z apart h =
    let first : get_or z 0 0 ≡ get_or (take n z ++ 42 ∷ []) 0 0 = ap (λ w. get_or w 0 0) h.0 ∙ same_first (take n z) (47 ∷ drop (suc (suc n)) z) [] 42 in
    (ap (λ w. b ∷ w) h.0, ((λ e f. apart e (first ∙ f)), h.1))

closed_at : (b : ℕ) (z : List ℕ) (t : Bool) → (eqb b 42 && eqb (get_or z 0 0) 47) ≡ t → (comment_len z < length z → Closed (comment_len z) z) → cond t 0 (suc (comment_len z)) < suc (length z) → Closed (cond t 0 (suc (comment_len z))) (b ∷ z)
closed_at b z true e ih h = let f = is_close b (get_or z 0 0) e in closed_here b z f.0 f.1
closed_at b z false e ih h = closed_later b (comment_len z) z (no_close b (get_or z 0 0) e) (ih (omega arith))

pub comment-closed : (z : List ℕ) → comment_len z < length z → Closed (comment_len z) z
comment-closed [] h = absurd (omega arith)
comment-closed (b ∷ z) h = closed_at b z (eqb b 42 && eqb (get_or z 0 0) 47) refl (comment-closed z) h

-- ---- text literals

plain_tests : (b : ℕ) → 32 ≤ b → b ≤ 126 → b ≢ 34 → b ≢ 92 → (eqb b 34 || eqb b 10 ≡ false) × (eqb b 92 ≡ false) × ((leb 32 b && leb b 126) ≡ true)
plain_tests b low high quote slash = (grind (arith, nat_tests), grind (arith, nat_tests), grind (arith, nat_tests))

escape_tests : (b : ℕ) → (b ≡ 34) ⊎ (b ≡ 92) → (eqb b 10 ≡ false) × ((eqb b 34 || eqb b 92) ≡ true)
escape_tests b h = (grind (arith, nat_tests), grind (arith, nat_tests))

pub literal-front : (body text rest : List ℕ) → Quotes body text → literal_len false (body ++ 34 ∷ rest) ≡ length body
literal-front body text rest none = refl
literal-front body text rest (plain b z w low high quote slash h) =
    let t = plain_tests b low high quote slash in
    rw (t.0, t.1) (ap suc (literal-front z w rest h))
literal-front body text rest (escape b z w which h) =
    let t = escape_tests b which in
    rw t.0 (ap (λ n. suc (suc n)) (literal-front z w rest h))

pub good-front : (body text : List ℕ) → Quotes body text → good_len false body ≡ length body
good-front body text none = refl
good-front body text (plain b z w low high quote slash h) =
    let t = plain_tests b low high quote slash in
    rw (t.1, t.2) (ap suc (good-front z w h))
good-front body text (escape b z w which h) =
    let t = escape_tests b which in
    rw t.1 (ap (λ n. suc (suc n)) (good-front z w h))

pub text-front : (body text : List ℕ) → Quotes body text → text_of false body ≡ text
text-front body text none = refl
text-front body text (plain b z w low high quote slash h) =
    let t = plain_tests b low high quote slash in
    rw t.1 (ap (λ r. b ∷ r) (text-front z w h))
text-front body text (escape b z w which h) = ap (λ r. b ∷ r) (text-front z w h)

abbrev Sound : List ℕ → Type 0
Sound z = get_or z (literal_len false z) 0 ≡ 34 → literal_len false z ≤ good_len false (take (literal_len false z) z) → Quotes (take (literal_len false z) z) (text_of false (take (literal_len false z) z))

good_step : (t : Bool) (n m : ℕ) → suc n ≤ cond t (suc m) 0 → (t ≡ true) × (n ≤ m)
good_step true n m h = (refl, omega arith)
good_step false n m h = absurd (omega arith)

good_two : (t : Bool) (n m : ℕ) → suc (suc n) ≤ cond t (suc (suc m)) 0 → (t ≡ true) × (n ≤ m)
good_two true n m h = (refl, omega arith)
good_two false n m h = absurd (omega arith)

from_plain : (b : ℕ) → eqb b 34 ≡ false → eqb b 92 ≡ false → (leb 32 b && leb b 126) ≡ true → (32 ≤ b) × (b ≤ 126) × (b ≢ 34) × (b ≢ 92)
from_plain b quote slash good = (grind (arith, nat_tests), grind (arith, nat_tests), (λ e. grind (arith, nat_tests)), (λ e. grind (arith, nat_tests)))

from_escape : (b : ℕ) → (eqb b 34 || eqb b 92) ≡ true → (b ≡ 34) ⊎ (b ≡ 92)
from_escape b h = grind (arith, nat_tests)

apart_34 : (b : ℕ) → eqb b 10 ≡ true → b ≡ 34 → ⊥
apart_34 b h e = grind (arith, nat_tests)

is_92 : (b : ℕ) → eqb b 92 ≡ true → 92 ≡ b
is_92 b h = grind (arith, nat_tests)

at_byte : (b : ℕ) (z : List ℕ) (t34 t10 t92 : Bool) → eqb b 34 ≡ t34 → eqb b 10 ≡ t10 → eqb b 92 ≡ t92 → Sound z → Sound (92 ∷ z) → Sound (b ∷ z)
at_byte b z true t10 t92 e34 e10 e92 ih escaped = rw e34 (λ closed good. none)
at_byte b z false true t92 e34 e10 e92 ih escaped = rw (e34, e10) (λ closed good. absurd (apart_34 b e10 closed))
at_byte b z false false true e34 e10 e92 ih escaped = subst (λ c. Sound (c ∷ z)) (is_92 b e92) escaped
at_byte b z false false false e34 e10 e92 ih escaped =
    rw (e34, e10, e92)
    (λ closed good.
    let g = good_step (leb 32 b && leb b 126) (literal_len false z) (good_len false (take (literal_len false z) z)) good in
    let t = from_plain b e34 e92 g.0 in
    plain b (take (literal_len false z) z) (text_of false (take (literal_len false z) z)) t.0 t.1 t.2 t.3 (ih closed g.1))

escaped_nil : Sound (92 ∷ [])
escaped_nil closed good = absurd (omega arith)

escaped_at : (c : ℕ) (z : List ℕ) (t : Bool) → eqb c 10 ≡ t → Sound z → Sound (92 ∷ c ∷ z)
escaped_at c z true e ih = rw e (λ closed good. absurd (apart_34 c e closed))
escaped_at c z false e ih =
    rw e
    (λ closed good.
    let g = good_two (eqb c 34 || eqb c 92) (literal_len false z) (good_len false (take (literal_len false z) z)) good in
    escape c (take (literal_len false z) z) (text_of false (take (literal_len false z) z)) (from_escape c g.0) (ih closed g.1))

pub literal-sound : (z : List ℕ) → Sound z
literal-sound [] = λ closed good. absurd (omega arith)
literal-sound (b ∷ []) = at_byte b [] (eqb b 34) (eqb b 10) (eqb b 92) refl refl refl (λ closed good. absurd (omega arith)) escaped_nil
literal-sound (b ∷ c ∷ z) = at_byte b (c ∷ z) (eqb b 34) (eqb b 10) (eqb b 92) refl refl refl (literal-sound (c ∷ z)) (escaped_at c z (eqb c 10) refl (literal-sound z))
