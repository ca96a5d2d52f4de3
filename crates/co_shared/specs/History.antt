-- A history: the accesses of all passes in one order, each with the number of the pass that made it.
use Rattle.std.specs.Prelude.{◌≡◌, ℕ, zero, suc, ◌==◌, cond, List, [], ◌∷◌, slice_index}
use Rattle.co_words.specs.Words.{place, answer, after}
use Rattle.co_shared.specs.declared.told.Entry.{Entry}

abbrev pub Rows : Type 0
Rows = List (ℕ × Entry)

-- the words after the accesses, one after the other
abbrev pub replay : List ℕ → Rows → List ℕ
replay words [] = words
replay words (r ∷ rs) = replay (after words r.1.access) rs

-- each access answers the word that stands there when those before it have been carried out
abbrev pub Legal : List ℕ → Rows → Type 0
Legal words [] = Unit {0}
Legal words (r ∷ rs) = (r.1.old ≡ answer r.1.access (slice_index words (place r.1.access))) × Legal (after words r.1.access) rs

-- what the pass with the number n did, in its order
abbrev pub part : ℕ → Rows → List Entry
part n [] = []
part n (r ∷ rs) = cond (r.0 == n) (r.1 ∷ part n rs) (part n rs)

-- the history from the first access of number 0 on that comes after k accesses of that number
abbrev pub late : Rows → ℕ → Rows
late [] k = []
late (r ∷ rs) zero = cond (r.0 == 0) (r ∷ rs) (late rs zero)
late (r ∷ rs) (suc k) = cond (r.0 == 0) (late rs k) (late rs (suc k))

-- all that n did stands before what number 0 did after its first k accesses
abbrev pub Before : Rows → ℕ → ℕ → Type 0
Before log n k = part n (late log k) ≡ []
