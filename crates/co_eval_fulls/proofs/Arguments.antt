-- A turn of the visit of arguments, from the last to the first.
use Rattle.std.specs.Prelude.{◌≡◌, ℕ, suc, ◌+◌, ◌-◌, ◌<◌, ◌≤◌, Bool, false, List, [], ◌∷◌, ◌++◌, length, drop, get_or}
use Rattle.std.proofs.Common.{refl, ap, sym, ◌∙◌, arith}
use Rattle.std.proofs.lemmas.List.{drop_more}
use Rattle.co_core_acts.specs.Visits.{back}
use Rattle.co_core_tree.specs.Acts.{Act, first, init_acts, others}
use Rattle.co_core_tree.specs.Slots.{class_params}
use Rattle.co_core_tree.specs.declared.exprs.Init.{Init}
use Rattle.co_core_tree.specs.declared.units.CoreFunc.{CoreFunc}
use Rattle.co_eval_fulls.proofs.Flags.{others_more}
use Rattle.co_meaning_calls.specs.Calls.{arguments_acts}

back_append : {V : Type 0} → (after : V → Act → V) (v : V) (xs ys : List Act) → back after v (xs ++ ys) ≡ back after (back after v ys) xs
back_append after v [] ys = refl
back_append after v (x ∷ xs) ys = ap (λ w. after w x) (back_append after v xs ys)

drop_back : {X : Type 0} → (xs : List X) (at : ℕ) (x : X) → 0 < at → at ≤ length xs → x ≡ get_or xs (at - 1) x → drop (at - 1) xs ≡ x ∷ drop at xs
drop_back xs at x some within is =
    let n : at - 1 + 1 ≡ at = omega (arith, some) in
    drop_more xs (at - 1) x (omega (arith, some, within)) ∙ ap (λ y. y ∷ drop (at - 1 + 1) xs) (sym is) ∙ ap (λ k. x ∷ drop k xs) n

next_acts : (funcs : List CoreFunc) (flags : List Bool) (i : Init) (rest : List Init) →
    arguments_acts funcs flags (i ∷ rest) ≡ init_acts (class_params funcs) false (first flags) i ++ arguments_acts funcs (others flags) rest
next_acts funcs [] i rest = refl
next_acts funcs (flag ∷ flags) i rest = refl

pub arguments_step : {V : Type 0} → (after : V → Act → V) (funcs : List CoreFunc) (flags : List Bool) (xs : List Init) (at : ℕ) (i : Init) (object : Bool) (v v1 v2 : V) →
    0 < at → at ≤ length xs → i ≡ get_or xs (at - 1) i → object ≡ first (drop (at - 1) flags) →
    v1 ≡ back after v (arguments_acts funcs (drop at flags) (drop at xs)) → v2 ≡ back after v1 (init_acts (class_params funcs) false object i) →
    v2 ≡ back after v (arguments_acts funcs (drop (at - 1) flags) (drop (at - 1) xs))
arguments_step after funcs flags xs at i object v v1 v2 some within is flag m1 m2 =
    let n : suc (at - 1) ≡ at = omega (arith, some) in
    let here = drop (at - 1) flags in
    let rest = arguments_acts funcs (drop at flags) (drop at xs) in
    m2 ∙ ap (λ w. back after w (init_acts (class_params funcs) false object i)) m1
    ∙ sym (back_append after v (init_acts (class_params funcs) false object i) rest)
    ∙ ap (λ b. back after v (init_acts (class_params funcs) false b i ++ rest)) flag
    ∙ sym (ap (λ l. back after v (init_acts (class_params funcs) false (first here) i ++ arguments_acts funcs l (drop at xs))) (others_more (at - 1) flags ∙ ap (λ k. drop k flags) n))
    ∙ sym (ap (back after v) (next_acts funcs here i (drop at xs)))
    ∙ sym (ap (λ l. back after v (arguments_acts funcs here l)) (drop_back xs at i some within is))
