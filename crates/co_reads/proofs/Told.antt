-- The test of the names of classes says of each name whether it is one of them.
use Rattle.std.proofs.Common.{◌≡◌, ℕ, zero, suc, ◌<◌, List, [], ◌∷◌, length, slice_index_or, Bool, true, false, ◌||◌, bytes_eq, Contains, refl, sym, ap, arith}
use Rattle.std.specs.List.{list_any}
use Rattle.std.proofs.lemmas.Slice.Eq.{bytes_eq-Decides}
use Rattle.co_rules.specs.Names.{is_class}
use Rattle.co_reads.specs.Spells.{Tells}

told_by : (b : Bool) (name n : List ℕ) (names : List (List ℕ)) → bytes_eq n name ≡ b → ((list_any (λ c. bytes_eq n c) names ≡ true) → Contains names n)
    → (b || list_any (λ c. bytes_eq n c) names) ≡ true → Contains (name ∷ names) n
told_by true name n names e more h = (zero, omega arith, sym ((bytes_eq-Decides n name).0 e))
told_by false name n names e more h = let r = more h in (suc r.0, omega (arith, r.1), r.2)

told : (names : List (List ℕ)) (n : List ℕ) → list_any (λ c. bytes_eq n c) names ≡ true → Contains names n
told [] n h = absurd cc
told (name ∷ names) n h = told_by (bytes_eq n name) name n names refl (told names n) h

or_true : (a b : Bool) → b ≡ true → (a || b) ≡ true
or_true true b h = refl
or_true false b h = h

found : (names : List (List ℕ)) (n : List ℕ) (k : ℕ) → k < length names → slice_index_or names k n ≡ n → list_any (λ c. bytes_eq n c) names ≡ true
found [] n k below e = absurd (omega (arith, below))
found (name ∷ names) n zero below e = ap (λ b. b || list_any (λ c. bytes_eq n c) names) ((bytes_eq-Decides n name).1 (sym e))
found (name ∷ names) n (suc k) below e = or_true (bytes_eq n name) (list_any (λ c. bytes_eq n c) names) (found names n k (omega (arith, below)) e)

contrary : (b : Bool) → b ≡ false → b ≡ true → ⊥
contrary true e h = absurd cc
contrary false e h = absurd cc

pub tells : (names : List (List ℕ)) → Tells (is_class names) names
tells names = record { told = told names; not_told = λ n e h. contrary (is_class names n) e (found names n h.0 h.1 h.2) }
