-- The best candidate, where there is one, is held at the end of the search.
use Rattle.std.specs.Prelude.{◌≡◌, ◌≢◌, ℕ, ◌+◌, ◌<◌, Bool, true, false, not, ◌||◌, ◌&&◌, ◌==◌, if◌then◌else◌, List, length, Option, None, Some, slice_get}
use Rattle.std.proofs.Common.{refl, arith, below_more, subst}
use Rattle.std.proofs.lemmas.Bool.{eqb-false, ne_eqb}
use Rattle.co_types.specs.declared.classes.FuncInfo.{FuncInfo}
use Rattle.co_types.specs.declared.overloads.Arg.{Arg}
use Rattle.co_types.specs.Choosing.{any_better, better_at, better_of, kept, viable_at, BeatsAll, IsBest, IsHeld}

pub clash : (b : Bool) → b ≡ true → b ≡ false → ⊥
clash b e f = cc

-- of two candidates at most one is better
one_way : (p q : Bool) → (not p && q) ≡ true → (not q && p) ≡ true → ⊥
one_way true q h i = cc
one_way false true h i = cc
one_way false false h i = cc

pub one_better : (args : List Arg) (x y : Option FuncInfo) → better_of args x y ≡ true → better_of args y x ≡ true → ⊥
one_better args (Some f) (Some g) h i = one_way (any_better args g.params f.params) (any_better args f.params g.params) h i
one_better args (Some f) None h i = cc
one_better args None y h i = cc

module _ (cs : List FuncInfo) (args : List Arg) where
  none_step : (n : ℕ) (v : Bool) → viable_at cs args n ≡ v → IsHeld cs args n None → IsHeld cs args (n + 1) (if v then Some n else None)
  none_step n true e held =
      (omega arith, e, below_more (λ k. IsBest cs args k → k ≡ n) n (λ k lt best. absurd (clash (viable_at cs args k) best.viable (held k lt))) (λ best. refl))
  none_step n false e held = below_more (λ k. viable_at cs args k ≡ false) n held e

  some_step : (n old : ℕ) (v b : Bool) → n < length cs → viable_at cs args n ≡ v → better_at cs args n old ≡ b → IsHeld cs args n (Some old) →
      IsHeld cs args (n + 1) (if v then (if b then Some n else Some old) else Some old)
  some_step n old false b within ev eb held =
      (omega (arith, held.0), held.1, below_more (λ k. IsBest cs args k → k ≡ old) n held.2 (λ best. absurd (clash (viable_at cs args n) best.viable ev)))
  some_step n old true true within ev eb held =
      (omega arith, ev, below_more (λ k. IsBest cs args k → k ≡ n) n (λ k lt best. absurd (beaten k lt best)) (λ best. refl)) where
        beaten : (k : ℕ) → k < n → IsBest cs args k → ⊥
        beaten k lt best =
            let same : k ≡ old = held.2 k lt best in
            let other : n ≢ k = omega (arith, lt) in
            let won : better_at cs args k n ≡ true = best.better n within other ev in
            one_better args (slice_get cs n) (slice_get cs old) eb (subst (λ x. better_at cs args x n ≡ true) same won)
  some_step n old true false within ev eb held =
      (omega (arith, held.0), held.1, below_more (λ k. IsBest cs args k → k ≡ old) n held.2 (λ best. absurd (clash (better_at cs args n old) (best.better old (omega (arith, within, held.0)) (omega (arith, held.0)) held.1) eb)))

  pub kept_held : (n : ℕ) (o : Option ℕ) → n < length cs → IsHeld cs args n o → IsHeld cs args (n + 1) (kept cs args o n)
  kept_held n None within held = none_step n (viable_at cs args n) refl held
  kept_held n (Some old) within held = some_step n old (viable_at cs args n) (better_at cs args n old) within refl refl held

  -- from what a candidate beats to that it is the best, and back
  from_beats : (same v b : Bool) → (same || not v || b) ≡ true → same ≡ false → v ≡ true → b ≡ true
  from_beats true v b h e f = absurd (clash true refl e)
  from_beats false true b h e f = h
  from_beats false false b h e f = absurd (clash false f refl)

  to_beats : (same v b : Bool) → (same ≡ false → v ≡ true → b ≡ true) → (same || not v || b) ≡ true
  to_beats true v b f = refl
  to_beats false true b f = f refl refl
  to_beats false false b f = refl

  pub best_of : (k : ℕ) → IsHeld cs args (length cs) (Some k) → BeatsAll cs args k (length cs) → IsBest cs args k
  best_of k held all = record {
    within = held.0;
    viable = held.1;
    better = λ j lt other v. from_beats (j == k) (viable_at cs args j) (better_at cs args k j) (all j lt) (ne_eqb j k other) v;
  }

  pub best_beats : (k : ℕ) → IsBest cs args k → BeatsAll cs args k (length cs)
  best_beats k best = λ j lt. to_beats (j == k) (viable_at cs args j) (better_at cs args k j) (λ e v. best.better j lt (eqb-false j k e) v)

  pub no_best : (k : ℕ) → IsHeld cs args (length cs) (Some k) → (BeatsAll cs args k (length cs) → ⊥) → (j : ℕ) → IsBest cs args j → ⊥
  no_best k held none j best =
      let same : j ≡ k = held.2 j best.within best in
      none (subst (λ x. BeatsAll cs args x (length cs)) same (best_beats j best))
