-- Looking names up, against the names of the whole tree.
use Rattle.std.proofs.Common.{◌≡◌, ◌≢◌, ℕ, zero, suc, ◌+◌, ◌<◌, ◌≤◌, Bool, true, false, cond, nat_eq, nat_lt, List, [], ◌∷◌, ◌++◌, length, length-append, get_or, ◌||◌, slice_get, Option, Some, None, Contains, All, bytes_eq, refl, sym, ap, subst, ◌∙◌, arith}
use Rattle.std.specs.List.{list_any, AllByRecursion}
use Rattle.std.proofs.lemmas.Bool.{false≢true, eqb-true, eq-eqb, or_left, or_right, or_parts, ltb-true, lt-ltb, and_parts, and_from}
use Rattle.std.proofs.lemmas.Slice.Eq.{bytes_eq-Decides}
use Rattle.std.proofs.lemmas.Option.{slice_get_within}
use Rattle.co_first_parse.specs.Known.{Known}
use Rattle.co_first_parse.specs.Parse.{index_from, seen_by, variable, is_missing, is_new}

-- ---- the first place of a name

found_step : (index x : ℕ) (names : List (List ℕ)) (other name : List ℕ) (b : Bool) → bytes_eq other name ≡ b
    → (index_from (index + 1) names name ≡ Some x → (i : ℕ) × (x ≡ (index + 1) + i) × (slice_get names i ≡ Some name))
    → cond b (Some index) (index_from (index + 1) names name) ≡ Some x → (i : ℕ) × (x ≡ index + i) × (slice_get (other ∷ names) i ≡ Some name)
found_step index x names other name true e more h =
    let s : index ≡ x = cc in
    (zero, omega arith, ap Some ((bytes_eq-Decides other name).0 e))
found_step index x names other name false e more h = let r = more h in (suc r.0, omega (arith, r.1), r.2)

found_is : (index x : ℕ) (names : List (List ℕ)) (name : List ℕ) → index_from index names name ≡ Some x → (i : ℕ) × (x ≡ index + i) × (slice_get names i ≡ Some name)
found_is index x [] name h = absurd cc
found_is index x (other ∷ names) name h = found_step index x names other name (bytes_eq other name) refl (found_is (index + 1) x names name) h

pub found_at : (x : ℕ) (names : List (List ℕ)) (name : List ℕ) → index_from 0 names name ≡ Some x → slice_get names x ≡ Some name
found_at x names name h =
    let r = found_is 0 x names name h in
    let e : r.0 ≡ x = omega (arith, r.1) in
    subst (λ i. slice_get names i ≡ Some name) e r.2

finds_step : (index : ℕ) (names : List (List ℕ)) (other name : List ℕ) (b : Bool) → bytes_eq other name ≡ b → ((bytes_eq other name ≡ false) → (x : ℕ) × (index_from (index + 1) names name ≡ Some x))
    → (x : ℕ) × (cond b (Some index) (index_from (index + 1) names name) ≡ Some x)
finds_step index names other name true e more = (index, refl)
finds_step index names other name false e more = more e

finds : (index i : ℕ) (names : List (List ℕ)) (name : List ℕ) → slice_get names i ≡ Some name → (x : ℕ) × (index_from index names name ≡ Some x)
finds index i [] name h = absurd cc
finds index zero (other ∷ names) name h =
    let s : other ≡ name = cc in
    finds_step index names other name (bytes_eq other name) refl (λ f. absurd (false≢true (sym f ∙ (bytes_eq-Decides other name).1 s)))
finds index (suc i) (other ∷ names) name h = finds_step index names other name (bytes_eq other name) refl (λ _. finds (index + 1) i names name h)

-- ---- what is seen

any_is : (xs : List ℕ) (x : ℕ) → list_any (λ y. nat_eq y x) xs ≡ true → Contains xs x
any_is [] x h = absurd (false≢true h)
any_is (y ∷ xs) x h = by_test (nat_eq y x) refl (any_is xs x) h
  where
    by_test : (b : Bool) → nat_eq y x ≡ b → (list_any (λ z. nat_eq z x) xs ≡ true → Contains xs x) → (b || list_any (λ z. nat_eq z x) xs) ≡ true → Contains (y ∷ xs) x
    by_test true e more h' = (zero, omega arith, eqb-true y x e)
    by_test false e more h' = let r = more h' in (suc r.0, omega (arith, r.1), r.2)

any_from : (xs : List ℕ) (x k : ℕ) → k < length xs → get_or xs k x ≡ x → list_any (λ y. nat_eq y x) xs ≡ true
any_from [] x k l e = absurd (omega arith)
any_from (y ∷ xs) x zero l e = or_left (nat_eq y x) (list_any (λ z. nat_eq z x) xs) (eq-eqb y x e)
any_from (y ∷ xs) x (suc k) l e = or_right (nat_eq y x) (list_any (λ z. nat_eq z x) xs) (any_from xs x k (omega arith) e)

seen_is : (visible : List ℕ) (found : Option ℕ) (x : ℕ) → seen_by visible found ≡ Some x → (found ≡ Some x) × Contains visible x
seen_is visible None x h = absurd cc
seen_is visible (Some y) x h = by_test (list_any (λ z. nat_eq z y) visible) refl h
  where
    by_test : (b : Bool) → list_any (λ z. nat_eq z y) visible ≡ b → cond b (Some y) None ≡ Some x → (Some y ≡ Some x) × Contains visible x
    by_test true e h' = (h', let s : y ≡ x = cc in subst (λ z. Contains visible z) s (any_is visible y e))
    by_test false e h' = absurd cc

pub variable_is : (known : Known) (name : List ℕ) (x : ℕ) → variable known name ≡ Some x → (slice_get known.names x ≡ Some name) × Contains known.visible x
unfolding variable
variable_is known name x h =
    let s = seen_is known.visible (index_from 0 known.names name) x h in
    (found_at x known.names name s.0, s.1)

abbrev pub AreDistinct : List (List ℕ) → Type 0
AreDistinct names = (i j : ℕ) (name : List ℕ) → slice_get names i ≡ Some name → slice_get names j ≡ Some name → i ≡ j

pub variable_from : (known : Known) (name : List ℕ) (x : ℕ) → AreDistinct known.names → slice_get known.names x ≡ Some name → Contains known.visible x → variable known name ≡ Some x
unfolding variable
variable_from known name x distinct at seen =
    let f = finds 0 x known.names name at in
    let same : f.0 ≡ x = distinct f.0 x name (found_at f.0 known.names name f.1) at in
    ap (seen_by known.visible) (f.1 ∙ ap Some same) ∙ ap (λ b. cond b (Some x) None) (any_from known.visible x seen.0 seen.1 seen.2)

-- ---- new names

missing_is : (found : Option ℕ) → is_missing found ≡ true → found ≡ None
missing_is None h = refl
missing_is (Some x) h = absurd (false≢true h)

pub new_is : (known : Known) (name : List ℕ) → is_new known name ≡ true → ((i : ℕ) → slice_get known.names i ≢ Some name) × (length known.names < 32)
unfolding is_new
new_is known name h =
    let p = and_parts (is_missing (index_from 0 known.names name)) (nat_lt (length known.names) 32) h in
    let none = missing_is (index_from 0 known.names name) p.0 in
    (λ i at. (let f = finds 0 i known.names name at in let g = f.1 in absurd cc), ltb-true (length known.names) 32 p.1)

pub new_from : (known : Known) (name : List ℕ) → ((i : ℕ) → slice_get known.names i ≢ Some name) → length known.names < 32 → is_new known name ≡ true
unfolding is_new
new_from known name fresh room = and_from (is_missing (index_from 0 known.names name)) (nat_lt (length known.names) 32) (by_found (index_from 0 known.names name) refl) (lt-ltb (length known.names) 32 room)
  where
    by_found : (found : Option ℕ) → index_from 0 known.names name ≡ found → is_missing found ≡ true
    by_found None e = refl
    by_found (Some x) e = absurd (fresh x (found_at x known.names name e))

-- ---- a list and more

pub get_longer : {A : Type 0} (xs ys : List A) (i : ℕ) (x : A) → slice_get xs i ≡ Some x → slice_get (xs ++ ys) i ≡ Some x
get_longer [] ys i x h = absurd cc
get_longer (y ∷ xs) ys zero x h = h
get_longer (y ∷ xs) ys (suc i) x h = get_longer xs ys i x h

pub get_shorter : {A : Type 0} (xs ys : List A) (i : ℕ) (x : A) → i < length xs → slice_get (xs ++ ys) i ≡ Some x → slice_get xs i ≡ Some x
get_shorter [] ys i x l h = absurd (omega arith)
get_shorter (y ∷ xs) ys zero x l h = h
get_shorter (y ∷ xs) ys (suc i) x l h = get_shorter xs ys i x (omega arith) h

pub get_end : {A : Type 0} (xs ys : List A) (x : A) → slice_get (xs ++ x ∷ ys) (length xs) ≡ Some x
get_end [] ys x = refl
get_end (y ∷ xs) ys x = get_end xs ys x
