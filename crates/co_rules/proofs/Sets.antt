-- Members of the sets of the test.
use Rattle.std.proofs.Common.{◌≡◌, ℕ, Bool, true, false, not, ◌&&◌, ◌||◌, nat_eq, List, [], ◌∷◌, ◌++◌, refl, sym, subst, ◌⊎◌, inl, inr, arith}
use Rattle.std.proofs.lemmas.Bool.Decides.{nat_tests}
use Rattle.co_rules.proofs.Follow.{has, all_in, none_in, Set, anything, among, add, within, apart}

pub never : {A : Type 0} → false ≡ true → A
never h = absurd cc

pub eq_true : (a b : ℕ) → nat_eq a b ≡ true → a ≡ b
eq_true a b h = grind (arith, nat_tests)

pub true_eq : (a b : ℕ) → a ≡ b → nat_eq a b ≡ true
true_eq a b h = grind (arith, nat_tests)

pub and_split : (a b : Bool) → (a && b) ≡ true → (a ≡ true) × (b ≡ true)
and_split true b h = (refl, h)
and_split false b h = never h

pub or_split : (a b : Bool) → (a || b) ≡ true → (a ≡ true) ⊎ (b ≡ true)
or_split true b h = inl refl
or_split false b h = inr h

pub or_left : (a b : Bool) → a ≡ true → (a || b) ≡ true
or_left true b h = refl
or_left false b h = never h

pub or_right : (a b : Bool) → b ≡ true → (a || b) ≡ true
or_right true b h = refl
or_right false b h = h

pub not_true : (a : Bool) → not a ≡ true → a ≡ false
not_true true h = never h
not_true false h = refl

abbrev pub In : ℕ → List ℕ → Type 0
In a [] = ⊥
In a (b ∷ bs) = (b ≡ a) ⊎ In a bs

pub in_left : (a : ℕ) (xs ys : List ℕ) → In a xs → In a (xs ++ ys)
in_left a (x ∷ xs) ys (inl e) = inl e
in_left a (x ∷ xs) ys (inr h) = inr (in_left a xs ys h)
in_left a [] ys h = absurd h

pub in_right : (a : ℕ) (xs ys : List ℕ) → In a ys → In a (xs ++ ys)
in_right a [] ys h = h
in_right a (x ∷ xs) ys h = inr (in_right a xs ys h)

pub in_split : (a : ℕ) (xs ys : List ℕ) → In a (xs ++ ys) → In a xs ⊎ In a ys
in_split a [] ys h = inr h
in_split a (x ∷ xs) ys (inl e) = inl (inl e)
in_split a (x ∷ xs) ys (inr h) = elim (in_split a xs ys h) [ inl l ↦ inl (inr l) | inr r ↦ inr r ]

pub has_in : (a : ℕ) (ys : List ℕ) → has a ys ≡ true → In a ys
has_in a [] h = never h
has_in a (y ∷ ys) h = elim (or_split (nat_eq y a) (has a ys) h) [ inl e ↦ inl (eq_true y a e) | inr r ↦ inr (has_in a ys r) ]

pub in_has : (a : ℕ) (ys : List ℕ) → In a ys → has a ys ≡ true
in_has a [] h = absurd h
in_has a (y ∷ ys) (inl e) = or_left (nat_eq y a) (has a ys) (true_eq y a e)
in_has a (y ∷ ys) (inr r) = or_right (nat_eq y a) (has a ys) (in_has a ys r)

pub all_in-in : (a : ℕ) (xs ys : List ℕ) → all_in xs ys ≡ true → In a xs → In a ys
all_in-in a [] ys h m = absurd m
all_in-in a (x ∷ xs) ys h (inl e) = subst (λ b. In b ys) e (has_in x ys (and_split (has x ys) (all_in xs ys) h).0)
all_in-in a (x ∷ xs) ys h (inr r) = all_in-in a xs ys (and_split (has x ys) (all_in xs ys) h).1 r

clash : (b : Bool) → not b ≡ true → b ≡ true → ⊥
clash true h e = never h
clash false h e = never e

pub none_in-in : (a : ℕ) (xs ys : List ℕ) → none_in xs ys ≡ true → In a xs → In a ys → ⊥
none_in-in a [] ys h m n = absurd m
none_in-in a (x ∷ xs) ys h (inl e) n = clash (has x ys) (and_split (not (has x ys)) (none_in xs ys) h).0 (in_has x ys (subst (λ b. In b ys) (sym e) n))
none_in-in a (x ∷ xs) ys h (inr r) n = none_in-in a xs ys (and_split (not (has x ys)) (none_in xs ys) h).1 r n

abbrev pub Meets : ℕ → Set → Type 0
Meets a anything = Unit {0}
Meets a (among xs) = In a xs

abbrev pub Within : Set → Set → Type 0
Within x y = (a : ℕ) → Meets a x → Meets a y

abbrev pub Apart : Set → List ℕ → Type 0
Apart x ys = (a : ℕ) → Meets a x → In a ys → ⊥

pub within-Within : (x y : Set) → within x y ≡ true → Within x y
within-Within anything anything h a m = tt
within-Within (among xs) anything h a m = tt
within-Within anything (among ys) h a m = never h
within-Within (among xs) (among ys) h a m = all_in-in a xs ys h m

pub apart-Apart : (x : Set) (ys : List ℕ) → apart x ys ≡ true → Apart x ys
apart-Apart anything ys h a m n = never h
apart-Apart (among xs) ys h a m n = none_in-in a xs ys h m n

pub add_left : (a : ℕ) (xs : List ℕ) (s : Set) → In a xs → Meets a (add xs s)
add_left a xs anything m = tt
add_left a xs (among ys) m = in_left a xs ys m

pub add_right : (a : ℕ) (xs : List ℕ) (s : Set) → Meets a s → Meets a (add xs s)
add_right a xs anything m = tt
add_right a xs (among ys) m = in_right a xs ys m

pub add_split : (a : ℕ) (xs : List ℕ) (s : Set) → Meets a (add xs s) → In a xs ⊎ Meets a s
add_split a xs anything m = inr tt
add_split a xs (among ys) m = in_split a xs ys m
