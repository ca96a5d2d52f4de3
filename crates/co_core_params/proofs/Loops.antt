-- A loop over a list.
use Rattle.std.specs.Prelude.{◌≡◌, ℕ, zero, suc, ◌+◌, ◌<◌, ◌≤◌, List, [], ◌∷◌, fold, length, get_or}
use Rattle.std.proofs.Common.{refl, sym, ap, ◌∙◌, drop, arith}
use Rattle.std.proofs.lemmas.List.{drop_more}

pub all_dropped : {A : Type 0} → (k : ℕ) (xs : List A) → length xs ≤ k → drop k xs ≡ []
all_dropped zero [] less = refl
all_dropped zero (x ∷ xs) less = absurd (omega (arith, less))
all_dropped (suc k) [] less = refl
all_dropped (suc k) (x ∷ xs) less = all_dropped k xs (omega (arith, less))

pub fold_step : {X S : Type 0} (after : S → X → S) (s s1 : S) (xs : List X) (k : ℕ) (x : X) (z : S) → k < length xs → x ≡ get_or xs k x → s1 ≡ after s x → fold after s (drop k xs) ≡ z → fold after s1 (drop (k + 1) xs) ≡ z
fold_step after s s1 xs k x z less is h keeps = ap (λ t. fold after t (drop (k + 1) xs)) (h ∙ ap (after s) is) ∙ sym (ap (fold after s) (drop_more xs k x less)) ∙ keeps

-- where the items are copied
pub fold_step_at : {X S : Type 0} (after : S → X → S) (s s1 : S) (xs : List X) (k : ℕ) (d : X) (z : S) → k < length xs → s1 ≡ after s (get_or xs k d) → fold after s (drop k xs) ≡ z → fold after s1 (drop (k + 1) xs) ≡ z
fold_step_at after s s1 xs k d z less h keeps = ap (λ t. fold after t (drop (k + 1) xs)) h ∙ sym (ap (fold after s) (drop_more xs k d less)) ∙ keeps

pub fold_end : {X S : Type 0} (after : S → X → S) (s : S) (xs : List X) (k : ℕ) (z : S) → length xs ≤ k → fold after s (drop k xs) ≡ z → s ≡ z
fold_end after s xs k z less keeps = ap (fold after s) (sym (all_dropped k xs less)) ∙ keeps
