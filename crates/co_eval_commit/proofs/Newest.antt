-- Frames that end with the innermost one, and what is taken from them or left on top of them.
use Rattle.std.specs.Prelude.{◌≡◌, ℕ, zero, suc, ◌-◌, ◌≤◌, List, [], ◌∷◌, ◌++◌, length, map, reverse, take, drop}
use Rattle.std.proofs.Common.{refl, ap, sym, ◌∙◌, arith, inl, inr}
use Rattle.std.proofs.lemmas.Bool.{cases_lt}
use Rattle.std.proofs.lemmas.List.{map-append, reverse-append, length-map, length-reverse, length-drop, take-append-drop}
use Rattle.co_eval_data.specs.Changed.{without_top}
use Rattle.co_eval_data.specs.Seen.{frame_of, frames_of, newest_first}
use Rattle.co_eval_data.specs.declared.frames.Frame.{Frame}
use Rattle.co_meaning_data.specs.Frames as meaning

pub seen_append : {A B : Type 0} (f : A → B) (xs ys : List A) → newest_first f (xs ++ ys) ≡ newest_first f ys ++ newest_first f xs
seen_append f xs ys = ap reverse (map-append f xs ys) ∙ reverse-append (map f xs) (map f ys)

-- the newest item of a list stands first
pub seen_newest : {A B : Type 0} (f : A → B) (xs : List A) (x : A) → newest_first f (xs ++ x ∷ []) ≡ f x ∷ newest_first f xs
seen_newest f xs x = seen_append f xs (x ∷ [])

-- and the oldest last
pub seen_oldest : {A B : Type 0} (f : A → B) (x : A) (xs : List A) → newest_first f (x ∷ xs) ≡ newest_first f xs ++ f x ∷ []
seen_oldest f x xs = seen_append f (x ∷ []) xs

pub length_seen : {A B : Type 0} (f : A → B) (xs : List A) → length (newest_first f xs) ≡ length xs
length_seen f xs = length-reverse (map f xs) ∙ length-map xs f

top_off : (xs ys : List meaning.Frame) → without_top (length xs) (xs ++ ys) ≡ ys
top_off [] ys = refl
top_off (x ∷ xs) ys = top_off xs ys

all_off : (n : ℕ) (fs : List meaning.Frame) → length fs ≤ n → without_top n fs ≡ []
all_off zero [] short = refl
all_off zero (f ∷ fs) short = absurd (omega (arith, short))
all_off (suc n) [] short = refl
all_off (suc n) (f ∷ fs) short = all_off n fs (omega (arith, short))

pub away : (n : ℕ) (fs : List Frame) → without_top n (frames_of fs) ≡ frames_of (take (length fs - n) fs)
away n fs = elim (cases_lt (length fs) n) [
  | inl more ↦
      let none : length fs - n ≡ 0 = omega arith in
      let short : length (frames_of fs) ≤ n = rw length_seen (omega arith) in
      all_off n (frames_of fs) short ∙ rw none refl
  | inr within ↦
      let count : n ≡ length (frames_of (drop (length fs - n) fs)) = rw (length_seen, length-drop) (omega arith) in
      let whole : frames_of fs ≡ frames_of (drop (length fs - n) fs) ++ frames_of (take (length fs - n) fs) = ap frames_of (sym (take-append-drop (length fs - n) fs)) ∙ seen_append frame_of (take (length fs - n) fs) (drop (length fs - n) fs) in
      ap (λ m. without_top m (frames_of fs)) count ∙ ap (λ l. without_top (length (frames_of (drop (length fs - n) fs))) l) whole ∙ top_off (frames_of (drop (length fs - n) fs)) (frames_of (take (length fs - n) fs))
]
