-- Fields of number 0 at the end of a path, and paths of which one alone is empty.
use Rattle.std.specs.Prelude.{◌≡◌, ◌≢◌, ◌≤◌, ◌<◌, false, ℕ, zero, suc, ◌-◌, List, [], ◌∷◌, ◌++◌, length, take, get_or}
use Rattle.std.proofs.Common.{refl, ap, ◌∙◌, sym, arith}
use Rattle.co_meaning_data.specs.Undefined.{same_path, unless_first, without_first}

last_apart : (path : List ℕ) → 1 ≤ length path → path ≡ take (length path - 1) path ++ get_or path (length path - 1) 0 ∷ []
last_apart [] some = absurd (omega (arith, some))
last_apart (k ∷ []) some = refl
last_apart (k ∷ j ∷ path) some =
    let more : 1 ≤ length (j ∷ path) = omega arith in
    let count : suc (length (j ∷ path) - 1) ≡ length (k ∷ j ∷ path) - 1 = omega arith in
    ap (λ l. k ∷ l) (last_apart (j ∷ path) more) ∙ ap (λ n. take n (k ∷ j ∷ path) ++ get_or (k ∷ j ∷ path) n 0 ∷ []) count

first_dropped : (front : List ℕ) → without_first (front ++ 0 ∷ []) ≡ without_first front
first_dropped [] = refl
first_dropped (k ∷ front) = ap (unless_first k) (first_dropped front)

kept : (k j : ℕ) (path : List ℕ) → unless_first k (j ∷ path) ≡ k ∷ j ∷ path
kept zero j path = refl
kept (suc k) j path = refl

other_kept : (front : List ℕ) (k : ℕ) → k ≢ 0 → without_first (front ++ k ∷ []) ≡ front ++ k ∷ []
other_kept [] zero other = absurd (other refl)
other_kept [] (suc k) other = refl
other_kept (j ∷ []) zero other = absurd (other refl)
other_kept (j ∷ []) (suc k) other = kept j (suc k) []
other_kept (j ∷ i ∷ front) k other = ap (unless_first j) (other_kept (i ∷ front) k other) ∙ kept j i (front ++ k ∷ [])

pub ends_in_first : (path : List ℕ) → 1 ≤ length path → get_or path (length path - 1) 0 ≡ 0 → without_first (take (length path - 1) path) ≡ without_first path
ends_in_first path some e =
    sym (first_dropped (take (length path - 1) path))
    ∙ ap (λ k. without_first (take (length path - 1) path ++ k ∷ [])) (sym e)
    ∙ ap without_first (sym (last_apart path some))

pub ends_in_other : (path : List ℕ) → 1 ≤ length path → get_or path (length path - 1) 0 ≢ 0 → without_first path ≡ path
ends_in_other path some other =
    let split = last_apart path some in
    ap without_first split ∙ other_kept (take (length path - 1) path) (get_or path (length path - 1) 0) other ∙ sym split

pub empty_other : (a b : List ℕ) → length a < 1 → 1 ≤ length b → same_path a b ≡ false
empty_other [] [] none some = absurd (omega (arith, some))
empty_other [] (y ∷ q) none some = refl
empty_other (x ∷ p) b none some = absurd (omega (arith, none))

pub other_empty : (a b : List ℕ) → 1 ≤ length a → length b < 1 → same_path a b ≡ false
other_empty [] b some none = absurd (omega (arith, some))
other_empty (x ∷ p) [] some none = refl
other_empty (x ∷ p) (y ∷ q) some none = absurd (omega (arith, none))
