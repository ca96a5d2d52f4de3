-- A list as its first item and the rest, as a slice pattern reads it, and the last item of a list.
use Rattle.std.specs.Prelude.{◌≡◌, ◌<◌, ◌≤◌, ◌-◌, List, [], ◌∷◌, ◌++◌, length, take, drop, get_or, reverse, slice_get}
use Rattle.std.proofs.Common.{refl, ap, ◌∙◌, sym, arith}
use Rattle.std.proofs.Math.Seq.{take-length}
use Rattle.std.proofs.lemmas.List.{length-reverse, reverse-append}

pub one_off : {A : Type 0} (rest : List A) (x : A) → 1 ≤ length rest → x ≡ get_or rest 0 x → rest ≡ x ∷ take (length rest - 1) (drop 1 rest)
one_off [] x some is = absurd (omega (arith, some))
one_off (y ∷ ys) x some is =
    let count : length ys ≡ length (y ∷ ys) - 1 = omega arith in
    ap (λ k. y ∷ k) (sym (take-length ys) ∙ ap (λ k. take k ys) count) ∙ ap (λ k. k ∷ take (length (y ∷ ys) - 1) ys) (sym is)

first_stays : {A : Type 0} (zs ws : List A) → 0 < length zs → slice_get (zs ++ ws) 0 ≡ slice_get zs 0
first_stays [] ws some = absurd (omega (arith, some))
first_stays (z ∷ zs) ws some = refl

last_reversed : {A : Type 0} (x : A) (xs : List A) → slice_get (reverse (x ∷ xs)) 0 ≡ slice_get (x ∷ xs) (length xs)
last_reversed x [] = refl
last_reversed x (y ∷ ys) =
    let some : 0 < length (reverse (y ∷ ys)) = omega (arith, length-reverse (y ∷ ys)) in
    ap (λ l. slice_get l 0) (reverse-append (x ∷ []) (y ∷ ys)) ∙ first_stays (reverse (y ∷ ys)) (x ∷ []) some ∙ last_reversed y ys

pub newest_is_last : {A : Type 0} (xs : List A) → slice_get (reverse xs) 0 ≡ slice_get xs (length xs - 1)
newest_is_last [] = refl
newest_is_last (x ∷ xs) =
    let count : length xs ≡ length (x ∷ xs) - 1 = omega arith in
    last_reversed x xs ∙ ap (slice_get (x ∷ xs)) count
