-- A turn of a loop over the parts of a form, from the last to the first.
use Rattle.std.specs.Prelude.{◌≡◌, ℕ, suc, ◌+◌, ◌-◌, ◌<◌, ◌≤◌, Bool, true, false, cond, List, ◌∷◌, ◌++◌, length}
use Rattle.std.proofs.Common.{refl, ap, sym, ◌∙◌, drop, get_or, arith}
use Rattle.std.proofs.lemmas.List.{drop_more}
use Rattle.co_core_tree.specs.declared.exprs.CoreExpr.{CoreExpr}
use Rattle.co_core_tree.specs.declared.exprs.Init.{Init}
use Rattle.co_core_tree.specs.declared.units.CoreFunc.{CoreFunc}
use Rattle.co_core_tree.specs.Acts.{Act, Keeps, OfExpr, OfInit, Part, acts, first, init_acts, kept, kept_unless, suspends}
use Rattle.co_core_tree.specs.Slots.{class_params}
use Rattle.co_core_acts.specs.declared.visitor.Awaits.{Awaits}
use Rattle.co_core_acts.specs.Visits.{arguments_acts, awaits_of, back, inits_acts, joined, operands_acts}
use Rattle.co_core_acts.proofs.Lists.{awaits_append, awaits_kept, back_append, kept_back, others_more}

pub drop_back : {X : Type 0} → (xs : List X) (at : ℕ) (x : X) → 0 < at → at ≤ length xs → x ≡ get_or xs (at - 1) x → drop (at - 1) xs ≡ x ∷ drop at xs
drop_back xs at x some within is =
    let n : at - 1 + 1 ≡ at = omega (arith, some) in
    drop_more xs (at - 1) x (omega (arith, some, within)) ∙ ap (λ y. y ∷ drop (at - 1 + 1) xs) (sym is) ∙ ap (λ k. x ∷ drop k xs) n

module _ {V : Type 0} (after : V → Act → V) (funcs : List CoreFunc) where
  pub members_step : (xs : List Init) (at : ℕ) (i : Init) (c : Bool) (v v1 v2 : V) → 0 < at → at ≤ length xs → i ≡ get_or xs (at - 1) i →
      v1 ≡ back after v (inits_acts funcs c (drop at xs)) → v2 ≡ back after v1 (init_acts (class_params funcs) c false i) → v2 ≡ back after v (inits_acts funcs c (drop (at - 1) xs))
  members_step xs at i c v v1 v2 some within is m1 m2 =
      m2 ∙ ap (λ w. back after w (init_acts (class_params funcs) c false i)) m1
      ∙ sym (back_append after v (init_acts (class_params funcs) c false i) (inits_acts funcs c (drop at xs)))
      ∙ sym (ap (λ l. back after v (inits_acts funcs c l)) (drop_back xs at i some within is))

  pub operands_step : (xs : List CoreExpr) (at : ℕ) (e : CoreExpr) (c : Bool) (v v1 v2 v3 : V) (later : Awaits) → 0 < at → at ≤ length xs → e ≡ get_or xs (at - 1) e →
      v1 ≡ back after v (operands_acts funcs c (drop at xs)) → ((d : Bool) → later ≡ awaits_of funcs (operands_acts funcs d (drop at xs))) →
      v2 ≡ cond later.any (after v1 (Keeps (OfExpr e))) v1 → v3 ≡ back after v2 (acts (class_params funcs) c false e) → v3 ≡ back after v (operands_acts funcs c (drop (at - 1) xs))
  operands_step xs at e c v v1 v2 v3 later some within is m1 r m2 m3 =
      let rest = operands_acts funcs c (drop at xs) in
      let own = acts (class_params funcs) c false e in
      m3 ∙ ap (λ w. back after w own) m2
      ∙ ap (λ (a : Awaits). back after (cond a.any (after v1 (Keeps (OfExpr e))) v1) own) (r c)
      ∙ ap (λ u. back after (cond (suspends rest) (after u (Keeps (OfExpr e))) u) own) m1
      ∙ sym (kept_back after v (OfExpr e) own rest)
      ∙ sym (ap (λ l. back after v (operands_acts funcs c l)) (drop_back xs at e some within is))

  unless_back : (object : Bool) (part : Part) (v : V) (xs ys : List Act) →
      back after v (xs ++ kept_unless object part ys) ≡ back after (cond object (back after v ys) (cond (suspends ys) (after (back after v ys) (Keeps part)) (back after v ys))) xs
  unless_back true part v xs ys = back_append after v xs ys
  unless_back false part v xs ys = kept_back after v part xs ys

  pub arguments_step : (flags : List Bool) (start : ℕ) (xs : List Init) (at : ℕ) (i : Init) (c object : Bool) (v v1 v2 v3 : V) (later : Awaits) → 0 < at → at ≤ length xs → i ≡ get_or xs (at - 1) i →
      object ≡ first (drop (start + (at - 1)) flags) → v1 ≡ back after v (arguments_acts funcs (drop (start + at) flags) c (drop at xs)) →
      ((d : Bool) → later ≡ awaits_of funcs (arguments_acts funcs (drop (start + at) flags) d (drop at xs))) →
      v2 ≡ cond object v1 (cond later.any (after v1 (Keeps (OfInit i))) v1) → v3 ≡ back after v2 (init_acts (class_params funcs) c object i) →
      v3 ≡ back after v (arguments_acts funcs (drop (start + (at - 1)) flags) c (drop (at - 1) xs))
  arguments_step flags start xs at i c object v v1 v2 v3 later some within is flag m1 r m2 m3 =
      let n : suc (start + (at - 1)) ≡ start + at = omega (arith, some) in
      let here = drop (start + (at - 1)) flags in
      let rest = arguments_acts funcs (drop (start + at) flags) c (drop at xs) in
      let own = init_acts (class_params funcs) c object i in
      m3 ∙ ap (λ w. back after w own) m2
      ∙ ap (λ (a : Awaits). back after (cond object v1 (cond a.any (after v1 (Keeps (OfInit i))) v1)) own) (r c)
      ∙ ap (λ u. back after (cond object u (cond (suspends rest) (after u (Keeps (OfInit i))) u)) own) m1
      ∙ sym (unless_back object (OfInit i) v own rest)
      ∙ ap (λ b. back after v (init_acts (class_params funcs) c b i ++ kept_unless b (OfInit i) rest)) flag
      ∙ sym (ap (λ l. back after v (init_acts (class_params funcs) c (first here) i ++ kept_unless (first here) (OfInit i) (arguments_acts funcs l c (drop at xs)))) (others_more (start + (at - 1)) flags ∙ ap (λ k. drop k flags) n))
      ∙ sym (ap (λ l. back after v (arguments_acts funcs here c l)) (drop_back xs at i some within is))

module _ (funcs : List CoreFunc) where
  pub members_awaits : (xs : List Init) (at : ℕ) (i : Init) (later own r : Awaits) → 0 < at → at ≤ length xs → i ≡ get_or xs (at - 1) i →
      ((d : Bool) → later ≡ awaits_of funcs (inits_acts funcs d (drop at xs))) → ((d o : Bool) → own ≡ awaits_of funcs (init_acts (class_params funcs) d o i)) → r ≡ joined own later →
      (d : Bool) → r ≡ awaits_of funcs (inits_acts funcs d (drop (at - 1) xs))
  members_awaits xs at i later own r some within is l o m d =
      m ∙ ap (λ a. joined a later) (o d false) ∙ ap (joined (awaits_of funcs (init_acts (class_params funcs) d false i))) (l d)
      ∙ sym (awaits_append funcs (init_acts (class_params funcs) d false i) (inits_acts funcs d (drop at xs)))
      ∙ sym (ap (λ l. awaits_of funcs (inits_acts funcs d l)) (drop_back xs at i some within is))

  pub operands_awaits : (xs : List CoreExpr) (at : ℕ) (e : CoreExpr) (later own r : Awaits) → 0 < at → at ≤ length xs → e ≡ get_or xs (at - 1) e →
      ((d : Bool) → later ≡ awaits_of funcs (operands_acts funcs d (drop at xs))) → ((d o : Bool) → own ≡ awaits_of funcs (acts (class_params funcs) d o e)) → r ≡ joined own later →
      (d : Bool) → r ≡ awaits_of funcs (operands_acts funcs d (drop (at - 1) xs))
  operands_awaits xs at e later own r some within is l o m d =
      let rest = operands_acts funcs d (drop at xs) in
      m ∙ ap (λ a. joined a later) (o d false) ∙ ap (joined (awaits_of funcs (acts (class_params funcs) d false e))) (l d ∙ sym (awaits_kept funcs (OfExpr e) rest))
      ∙ sym (awaits_append funcs (acts (class_params funcs) d false e) (kept (OfExpr e) rest))
      ∙ sym (ap (λ l. awaits_of funcs (operands_acts funcs d l)) (drop_back xs at e some within is))

  awaits_unless : (object : Bool) (part : Part) (ys : List Act) → awaits_of funcs (kept_unless object part ys) ≡ awaits_of funcs ys
  awaits_unless true part ys = refl
  awaits_unless false part ys = awaits_kept funcs part ys

  pub arguments_awaits : (flags : List Bool) (start : ℕ) (xs : List Init) (at : ℕ) (i : Init) (later own r : Awaits) → 0 < at → at ≤ length xs → i ≡ get_or xs (at - 1) i →
      ((d : Bool) → later ≡ awaits_of funcs (arguments_acts funcs (drop (start + at) flags) d (drop at xs))) → ((d o : Bool) → own ≡ awaits_of funcs (init_acts (class_params funcs) d o i)) → r ≡ joined own later →
      (d : Bool) → r ≡ awaits_of funcs (arguments_acts funcs (drop (start + (at - 1)) flags) d (drop (at - 1) xs))
  arguments_awaits flags start xs at i later own r some within is l o m d =
      let n : suc (start + (at - 1)) ≡ start + at = omega (arith, some) in
      let here = drop (start + (at - 1)) flags in
      let rest = arguments_acts funcs (drop (start + at) flags) d (drop at xs) in
      m ∙ ap (λ a. joined a later) (o d (first here)) ∙ ap (joined (awaits_of funcs (init_acts (class_params funcs) d (first here) i))) (l d ∙ sym (awaits_unless (first here) (OfInit i) rest))
      ∙ sym (awaits_append funcs (init_acts (class_params funcs) d (first here) i) (kept_unless (first here) (OfInit i) rest))
      ∙ sym (ap (λ l. awaits_of funcs (init_acts (class_params funcs) d (first here) i ++ kept_unless (first here) (OfInit i) (arguments_acts funcs l d (drop at xs)))) (others_more (start + (at - 1)) flags ∙ ap (λ k. drop k flags) n))
      ∙ sym (ap (λ l. awaits_of funcs (arguments_acts funcs here d l)) (drop_back xs at i some within is))
