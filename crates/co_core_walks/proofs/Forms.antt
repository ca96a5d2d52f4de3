-- The acts of each form of expression and of initializer, and what a visitor is after them.
use Rattle.std.specs.Prelude.{◌≡◌, ℕ, ◌+◌, ◌<◌, ◌≤◌, zero, suc, Bool, true, false, ◌||◌, if◌then◌else◌, List, [], ◌∷◌, ◌++◌, flat_map, fold, length, get_or}
use Rattle.std.proofs.Common.{refl, sym, ap, ◌∙◌, drop, arith, append_assoc}
use Rattle.std.proofs.lemmas.List.{drop_more}
use Rattle.std.proofs.lemmas.List.Sums.{fold-append}
use mathlib.Core.Former.{Count}
use Rattle.co_base.specs.declared.kinds.Num.{Num}
use Rattle.co_base.specs.declared.kinds.Op.{Op}
use Rattle.co_base.specs.declared.ids.FuncId.{FuncId}
use Rattle.co_base.specs.declared.ids.SlotId.{SlotId}
use Rattle.co_base.specs.declared.span.Span.{Span}
use Rattle.co_types.specs.declared.types.CoType.{CoType}
use Rattle.co_core_tree.specs.declared.kinds.HandleOp.{HandleOp}
use Rattle.co_core_tree.specs.declared.kinds.AtomicOp.{AtomicOp}
use Rattle.co_core_tree.specs.declared.kinds.LibOp.{LibOp}
use Rattle.co_core_tree.specs.declared.exprs.CoreExpr.{CoreExpr, Row_of-CoreExpr, end_of-CoreExpr, more_of-CoreExpr, items-the_row-CoreExpr, items_hidden-the_row-CoreExpr-4, Row_of-Init, end_of-Init, more_of-Init, items-the_row-Init, items_hidden-the_row-Init-1}
use Rattle.co_core_tree.specs.declared.exprs.CoreExpr.TheVariants as expr
use Rattle.co_core_tree.specs.declared.exprs.CoreExpr.TheBlock.{shape-the_row-CoreExpr-0, hidden-the_row-CoreExpr-0, shown-the_row-CoreExpr-0, shape-the_row-Init-2, hidden-the_row-Init-2, shown-the_row-Init-2, shape-the_row-AwaitPlan-3, hidden-the_row-AwaitPlan-3, shown-the_row-AwaitPlan-3, shape-the_row-NewPlan-5, hidden-the_row-NewPlan-5, shown-the_row-NewPlan-5, shape-the_row-DeletePlan-6, hidden-the_row-DeletePlan-6, shown-the_row-DeletePlan-6}
use Rattle.co_core_tree.specs.declared.exprs.Init.{Init}
use Rattle.co_core_tree.specs.declared.exprs.Init.TheVariants as init
use Rattle.co_core_tree.specs.declared.exprs.AwaitPlan.{AwaitPlan}
use Rattle.co_core_tree.specs.declared.exprs.NewPlan.{NewPlan}
use Rattle.co_core_tree.specs.declared.exprs.DeletePlan.{DeletePlan}
use Rattle.co_core_tree.specs.Acts.{Part, OfExpr, OfInit, Act, Does, Passes, Starts, Keeps, suspends, kept, kept_unless, temp_act, first, others, acts, init_acts, list_acts, members_acts, args_acts}
use Rattle.co_core_walks.specs.Lists.{plan_acts, inits_acts}

-- the row of a form that holds a list
abbrev init_row : CoreExpr → (n : Count) × Row_of-Init n
init_row (expr.Call' f n args at) = (_, args)
init_row e = (_, end_of-Init)

abbrev expr_row : CoreExpr → (n : Count) × Row_of-CoreExpr n
expr_row (expr.Handle' o n operands at) = (_, operands)
expr_row (expr.Atomic' o n operands at) = (_, operands)
expr_row (expr.Lib' o n operands at) = (_, operands)
expr_row e = (_, end_of-CoreExpr)

abbrev part_row : Init → (n : Count) × Row_of-Init n
part_row (init.Ctor' f n args) = (_, args)
part_row (init.Members' n members) = (_, members)
part_row i = (_, end_of-Init)

-- ---- the acts of each form

module _ (objects : FuncId → List Bool) (c o : Bool) where
  open_field : (e : CoreExpr) (k : ℕ) (at : Span) → acts objects c o (expr.Field e k at) ≡ acts objects c false e ++ Does c (expr.Field e k at) ∷ []
  unfolding shape-the_row-CoreExpr-0 hidden-the_row-CoreExpr-0 shown-the_row-CoreExpr-0 denote.Hole.Carrier.hidden
  open_field e k at = refl

  pub acts_field : (whole : CoreExpr) (e : CoreExpr) (k : ℕ) (at : Span) → whole ≡ expr.Field e k at → acts objects c o whole ≡ acts objects c false e ++ Does c whole ∷ []
  acts_field whole e k at is = let h = open_field e k at in cc

  open_deref : (e : CoreExpr) (at : Span) → acts objects c o (expr.Deref e at) ≡ acts objects c false e ++ Does c (expr.Deref e at) ∷ []
  unfolding shape-the_row-CoreExpr-0 hidden-the_row-CoreExpr-0 shown-the_row-CoreExpr-0 denote.Hole.Carrier.hidden
  open_deref e at = refl

  pub acts_deref : (whole : CoreExpr) (e : CoreExpr) (at : Span) → whole ≡ expr.Deref e at → acts objects c o whole ≡ acts objects c false e ++ Does c whole ∷ []
  acts_deref whole e at is = let h = open_deref e at in cc

  open_address : (e : CoreExpr) (at : Span) → acts objects c o (expr.Address e at) ≡ acts objects c false e ++ Does c (expr.Address e at) ∷ []
  unfolding shape-the_row-CoreExpr-0 hidden-the_row-CoreExpr-0 shown-the_row-CoreExpr-0 denote.Hole.Carrier.hidden
  open_address e at = refl

  pub acts_address : (whole : CoreExpr) (e : CoreExpr) (at : Span) → whole ≡ expr.Address e at → acts objects c o whole ≡ acts objects c false e ++ Does c whole ∷ []
  acts_address whole e at is = let h = open_address e at in cc

  open_load : (e : CoreExpr) (at : Span) → acts objects c o (expr.Load e at) ≡ acts objects c false e ++ Does c (expr.Load e at) ∷ []
  unfolding shape-the_row-CoreExpr-0 hidden-the_row-CoreExpr-0 shown-the_row-CoreExpr-0 denote.Hole.Carrier.hidden
  open_load e at = refl

  pub acts_load : (whole : CoreExpr) (e : CoreExpr) (at : Span) → whole ≡ expr.Load e at → acts objects c o whole ≡ acts objects c false e ++ Does c whole ∷ []
  acts_load whole e at is = let h = open_load e at in cc

  open_convert : (n : Num) (e : CoreExpr) (at : Span) → acts objects c o (expr.Convert n e at) ≡ acts objects c false e ++ Does c (expr.Convert n e at) ∷ []
  unfolding shape-the_row-CoreExpr-0 hidden-the_row-CoreExpr-0 shown-the_row-CoreExpr-0 denote.Hole.Carrier.hidden
  open_convert n e at = refl

  pub acts_convert : (whole : CoreExpr) (n : Num) (e : CoreExpr) (at : Span) → whole ≡ expr.Convert n e at → acts objects c o whole ≡ acts objects c false e ++ Does c whole ∷ []
  acts_convert whole n e at is = let h = open_convert n e at in cc

  open_test : (e : CoreExpr) (at : Span) → acts objects c o (expr.Test e at) ≡ acts objects c false e ++ Does c (expr.Test e at) ∷ []
  unfolding shape-the_row-CoreExpr-0 hidden-the_row-CoreExpr-0 shown-the_row-CoreExpr-0 denote.Hole.Carrier.hidden
  open_test e at = refl

  pub acts_test : (whole : CoreExpr) (e : CoreExpr) (at : Span) → whole ≡ expr.Test e at → acts objects c o whole ≡ acts objects c false e ++ Does c whole ∷ []
  acts_test whole e at is = let h = open_test e at in cc

  open_throw : (of : CoType) (e : CoreExpr) (at : Span) → acts objects c o (expr.Throw of e at) ≡ acts objects c false e ++ Does c (expr.Throw of e at) ∷ []
  unfolding shape-the_row-CoreExpr-0 hidden-the_row-CoreExpr-0 shown-the_row-CoreExpr-0 denote.Hole.Carrier.hidden
  open_throw of e at = refl

  pub acts_throw : (whole : CoreExpr) (of : CoType) (e : CoreExpr) (at : Span) → whole ≡ expr.Throw of e at → acts objects c o whole ≡ acts objects c false e ++ Does c whole ∷ []
  acts_throw whole of e at is = let h = open_throw of e at in cc

  open_rethrow_ptr : (e : CoreExpr) (at : Span) → acts objects c o (expr.RethrowPtr e at) ≡ acts objects c false e ++ Does c (expr.RethrowPtr e at) ∷ []
  unfolding shape-the_row-CoreExpr-0 hidden-the_row-CoreExpr-0 shown-the_row-CoreExpr-0 denote.Hole.Carrier.hidden
  open_rethrow_ptr e at = refl

  pub acts_rethrow_ptr : (whole : CoreExpr) (e : CoreExpr) (at : Span) → whole ≡ expr.RethrowPtr e at → acts objects c o whole ≡ acts objects c false e ++ Does c whole ∷ []
  acts_rethrow_ptr whole e at is = let h = open_rethrow_ptr e at in cc

  open_store : (p v : CoreExpr) (at : Span) → acts objects c o (expr.Store p v at) ≡ acts objects c false v ++ (kept (OfExpr v) (acts objects c false p) ++ Does c (expr.Store p v at) ∷ [])
  unfolding shape-the_row-CoreExpr-0 hidden-the_row-CoreExpr-0 shown-the_row-CoreExpr-0 denote.Hole.Carrier.hidden
  open_store p v at = refl

  pub acts_store : (whole : CoreExpr) (p v : CoreExpr) (at : Span) → whole ≡ expr.Store p v at → acts objects c o whole ≡ acts objects c false v ++ (kept (OfExpr v) (acts objects c false p) ++ Does c whole ∷ [])
  acts_store whole p v at is = let h = open_store p v at in cc

  open_exchange : (p v : CoreExpr) (at : Span) → acts objects c o (expr.Exchange p v at) ≡ acts objects c false p ++ (kept (OfExpr p) (acts objects c false v) ++ Does c (expr.Exchange p v at) ∷ [])
  unfolding shape-the_row-CoreExpr-0 hidden-the_row-CoreExpr-0 shown-the_row-CoreExpr-0 denote.Hole.Carrier.hidden
  open_exchange p v at = refl

  pub acts_exchange : (whole : CoreExpr) (p v : CoreExpr) (at : Span) → whole ≡ expr.Exchange p v at → acts objects c o whole ≡ acts objects c false p ++ (kept (OfExpr p) (acts objects c false v) ++ Does c whole ∷ [])
  acts_exchange whole p v at is = let h = open_exchange p v at in cc

  open_update : (op : Op) (n : Num) (p v : CoreExpr) (old : Bool) (at : Span) → acts objects c o (expr.Update op n p v old at) ≡ acts objects c false v ++ (kept (OfExpr v) (acts objects c false p) ++ Does c (expr.Update op n p v old at) ∷ [])
  unfolding shape-the_row-CoreExpr-0 hidden-the_row-CoreExpr-0 shown-the_row-CoreExpr-0 denote.Hole.Carrier.hidden
  open_update op n p v old at = refl

  pub acts_update : (whole : CoreExpr) (op : Op) (n : Num) (p v : CoreExpr) (old : Bool) (at : Span) → whole ≡ expr.Update op n p v old at → acts objects c o whole ≡ acts objects c false v ++ (kept (OfExpr v) (acts objects c false p) ++ Does c whole ∷ [])
  acts_update whole op n p v old at is = let h = open_update op n p v old at in cc

  open_arith : (op : Op) (n : Num) (p v : CoreExpr) (at : Span) → acts objects c o (expr.Arith op n p v at) ≡ acts objects c false p ++ (kept (OfExpr p) (acts objects c false v) ++ Does c (expr.Arith op n p v at) ∷ [])
  unfolding shape-the_row-CoreExpr-0 hidden-the_row-CoreExpr-0 shown-the_row-CoreExpr-0 denote.Hole.Carrier.hidden
  open_arith op n p v at = refl

  pub acts_arith : (whole : CoreExpr) (op : Op) (n : Num) (p v : CoreExpr) (at : Span) → whole ≡ expr.Arith op n p v at → acts objects c o whole ≡ acts objects c false p ++ (kept (OfExpr p) (acts objects c false v) ++ Does c whole ∷ [])
  acts_arith whole op n p v at is = let h = open_arith op n p v at in cc

  open_same : (p v : CoreExpr) (at : Span) → acts objects c o (expr.Same p v at) ≡ acts objects c false p ++ (kept (OfExpr p) (acts objects c false v) ++ Does c (expr.Same p v at) ∷ [])
  unfolding shape-the_row-CoreExpr-0 hidden-the_row-CoreExpr-0 shown-the_row-CoreExpr-0 denote.Hole.Carrier.hidden
  open_same p v at = refl

  pub acts_same : (whole : CoreExpr) (p v : CoreExpr) (at : Span) → whole ≡ expr.Same p v at → acts objects c o whole ≡ acts objects c false p ++ (kept (OfExpr p) (acts objects c false v) ++ Does c whole ∷ [])
  acts_same whole p v at is = let h = open_same p v at in cc

  open_both : (p v : CoreExpr) (at : Span) → acts objects c o (expr.Both p v at) ≡ acts objects c false p ++ (acts objects true false v ++ Does c (expr.Both p v at) ∷ [])
  unfolding shape-the_row-CoreExpr-0 hidden-the_row-CoreExpr-0 shown-the_row-CoreExpr-0 denote.Hole.Carrier.hidden
  open_both p v at = refl

  pub acts_both : (whole : CoreExpr) (p v : CoreExpr) (at : Span) → whole ≡ expr.Both p v at → acts objects c o whole ≡ acts objects c false p ++ (acts objects true false v ++ Does c whole ∷ [])
  acts_both whole p v at is = let h = open_both p v at in cc

  open_either : (p v : CoreExpr) (at : Span) → acts objects c o (expr.Either p v at) ≡ acts objects c false p ++ (acts objects true false v ++ Does c (expr.Either p v at) ∷ [])
  unfolding shape-the_row-CoreExpr-0 hidden-the_row-CoreExpr-0 shown-the_row-CoreExpr-0 denote.Hole.Carrier.hidden
  open_either p v at = refl

  pub acts_either : (whole : CoreExpr) (p v : CoreExpr) (at : Span) → whole ≡ expr.Either p v at → acts objects c o whole ≡ acts objects c false p ++ (acts objects true false v ++ Does c whole ∷ [])
  acts_either whole p v at is = let h = open_either p v at in cc

  open_pick : (e x y : CoreExpr) (at : Span) → acts objects c o (expr.Pick e x y at) ≡ acts objects c false e ++ (acts objects true false x ++ (acts objects true false y ++ Does c (expr.Pick e x y at) ∷ []))
  unfolding shape-the_row-CoreExpr-0 hidden-the_row-CoreExpr-0 shown-the_row-CoreExpr-0 denote.Hole.Carrier.hidden
  open_pick e x y at = refl

  pub acts_pick : (whole e x y : CoreExpr) (at : Span) → whole ≡ expr.Pick e x y at → acts objects c o whole ≡ acts objects c false e ++ (acts objects true false x ++ (acts objects true false y ++ Does c whole ∷ []))
  acts_pick whole e x y at is = let h = open_pick e x y at in cc

  open_temp : (slot : SlotId) (i : Init) (at : Span) → acts objects c o (expr.Temp slot i at) ≡ init_acts objects c false i ++ temp_act c o (expr.Temp slot i at) ∷ []
  unfolding shape-the_row-Init-2 hidden-the_row-Init-2 shown-the_row-Init-2 denote.Hole.Carrier.hidden
  open_temp slot i at = refl

  pub acts_temp : (whole : CoreExpr) (slot : SlotId) (i : Init) (at : Span) → whole ≡ expr.Temp slot i at → acts objects c o whole ≡ init_acts objects c false i ++ temp_act c o (expr.Temp slot i at) ∷ []
  acts_temp whole slot i at is = let h = open_temp slot i at in cc

  open_await : (plan : AwaitPlan) → acts objects c o (expr.Await plan) ≡ acts objects c false plan.operand ++ (acts objects c false plan.ready ++ (acts objects c false plan.suspend ++ (acts objects c false plan.resume ++ Does c (expr.Await plan) ∷ [])))
  unfolding shape-the_row-AwaitPlan-3 hidden-the_row-AwaitPlan-3 shown-the_row-AwaitPlan-3 denote.Hole.Carrier.hidden
  open_await plan = refl

  pub acts_await : (whole : CoreExpr) (plan : AwaitPlan) → whole ≡ expr.Await plan → acts objects c o whole ≡ acts objects c false plan.operand ++ (acts objects c false plan.ready ++ (acts objects c false plan.suspend ++ (acts objects c false plan.resume ++ Does c whole ∷ [])))
  acts_await whole plan is = let h = open_await plan in cc

  open_new : (plan : NewPlan) → acts objects c o (expr.New plan) ≡ init_acts objects (c || plan.may_be_null) false plan.init ++ Does c (expr.New plan) ∷ []
  unfolding shape-the_row-NewPlan-5 hidden-the_row-NewPlan-5 shown-the_row-NewPlan-5 denote.Hole.Carrier.hidden
  open_new plan = refl

  pub acts_new : (whole : CoreExpr) (plan : NewPlan) → whole ≡ expr.New plan → acts objects c o whole ≡ init_acts objects (c || plan.may_be_null) false plan.init ++ Does c whole ∷ []
  acts_new whole plan is = let h = open_new plan in cc

  open_delete : (plan : DeletePlan) → acts objects c o (expr.Delete plan) ≡ acts objects c false plan.pointer ++ Does c (expr.Delete plan) ∷ []
  unfolding shape-the_row-DeletePlan-6 hidden-the_row-DeletePlan-6 shown-the_row-DeletePlan-6 denote.Hole.Carrier.hidden
  open_delete plan = refl

  pub acts_delete : (whole : CoreExpr) (plan : DeletePlan) → whole ≡ expr.Delete plan → acts objects c o whole ≡ acts objects c false plan.pointer ++ Does c whole ∷ []
  acts_delete whole plan is = let h = open_delete plan in cc

  pub init_acts_value : (whole : Init) (e : CoreExpr) → whole ≡ init.Value e → init_acts objects c o whole ≡ acts objects c o e ++ Starts whole ∷ []
  init_acts_value whole e is = let h : init_acts objects c o (init.Value e) ≡ acts objects c o e ++ Starts (init.Value e) ∷ [] = refl in cc

  pub init_acts_result : (whole : Init) (e : CoreExpr) → whole ≡ init.Result e → init_acts objects c o whole ≡ acts objects c false e ++ Starts whole ∷ []
  init_acts_result whole e is = let h : init_acts objects c o (init.Result e) ≡ acts objects c false e ++ Starts (init.Result e) ∷ [] = refl in cc

  open_choose : (e : CoreExpr) (x y : Init) → init_acts objects c o (init.Choose e x y) ≡ acts objects c false e ++ (init_acts objects true false x ++ (init_acts objects true false y ++ Starts (init.Choose e x y) ∷ []))
  unfolding shape-the_row-Init-2 hidden-the_row-Init-2 shown-the_row-Init-2 denote.Hole.Carrier.hidden
  open_choose e x y = refl

  pub init_acts_choose : (whole : Init) (e : CoreExpr) (x y : Init) → whole ≡ init.Choose e x y → init_acts objects c o whole ≡ acts objects c false e ++ (init_acts objects true false x ++ (init_acts objects true false y ++ Starts whole ∷ []))
  init_acts_choose whole e x y is = let h = open_choose e x y in cc

all_dropped : {A : Type 0} → (k : ℕ) (xs : List A) → length xs ≤ k → drop k xs ≡ []
all_dropped zero [] less = refl
all_dropped zero (x ∷ xs) less = absurd (omega (arith, less))
all_dropped (suc k) [] less = refl
all_dropped (suc k) (x ∷ xs) less = all_dropped k xs (omega (arith, less))

-- a loop over a list, whose items come to lists of acts or of statements
pub flat_step : {A X S : Type 0} (after : S → A → S) (f : X → List A) (s s1 : S) (xs : List X) (k : ℕ) (x : X) (z : S) → k < length xs → x ≡ get_or xs k x → s1 ≡ fold after s (f x) → fold after s (flat_map f (drop k xs)) ≡ z → fold after s1 (flat_map f (drop (k + 1) xs)) ≡ z
flat_step after f s s1 xs k x z less is h keeps =
    let d = drop_more xs k x less in
    let a = fold-append after s (f x) (flat_map f (drop (k + 1) xs)) in
    let b : flat_map f (x ∷ drop (k + 1) xs) ≡ f x ++ flat_map f (drop (k + 1) xs) = refl in
    cc

pub flat_end : {A X S : Type 0} (after : S → A → S) (f : X → List A) (s : S) (xs : List X) (k : ℕ) (z : S) → length xs ≤ k → fold after s (flat_map f (drop k xs)) ≡ z → s ≡ z
flat_end after f s xs k z less keeps = ap (λ l. fold after s (flat_map f l)) (sym (all_dropped k xs less)) ∙ keeps

others_dropped : (k : ℕ) (flags : List Bool) → others (drop k flags) ≡ drop (suc k) flags
others_dropped zero [] = refl
others_dropped zero (flag ∷ flags) = refl
others_dropped (suc k) [] = refl
others_dropped (suc k) (flag ∷ flags) = others_dropped k flags

others_drop : (k : ℕ) (flags : List Bool) → others (drop k flags) ≡ drop (k + 1) flags
others_drop k flags = let e : suc k ≡ k + 1 = omega arith in others_dropped k flags ∙ ap (λ j. drop j flags) e

-- ---- the visitor after them

module _ {S : Type 0} (after : S → Act → S) where
  pub all_one : (s s1 : S) (xs xs' whole : List Act) (a : Act) → whole ≡ xs ++ a ∷ [] → xs' ≡ xs → s1 ≡ fold after s xs' → after s1 a ≡ fold after s whole
  all_one s s1 xs xs' whole a is e h = let k = fold-append after s xs (a ∷ []) in cc

  pub all_two : (s s1 s2 : S) (xs xs' ys ys' whole : List Act) (a : Act) → whole ≡ xs ++ (ys ++ a ∷ []) → xs' ≡ xs → ys' ≡ ys → s1 ≡ fold after s xs' → s2 ≡ fold after s1 ys' → after s2 a ≡ fold after s whole
  all_two s s1 s2 xs xs' ys ys' whole a is ex ey hx hy =
      let k = fold-append after s xs (ys ++ a ∷ []) in
      let l = all_one s1 s2 ys ys' (ys ++ a ∷ []) a refl ey hy in
      cc

  pub all_three : (s s1 s2 s3 : S) (xs xs' ys ys' zs zs' whole : List Act) (a : Act) → whole ≡ xs ++ (ys ++ (zs ++ a ∷ [])) → xs' ≡ xs → ys' ≡ ys → zs' ≡ zs → s1 ≡ fold after s xs' → s2 ≡ fold after s1 ys' → s3 ≡ fold after s2 zs' → after s3 a ≡ fold after s whole
  all_three s s1 s2 s3 xs xs' ys ys' zs zs' whole a is ex ey ez hx hy hz =
      let k = fold-append after s xs (ys ++ (zs ++ a ∷ [])) in
      let l = all_two s1 s2 s3 ys ys' zs zs' (ys ++ (zs ++ a ∷ [])) a refl ey ez hy hz in
      cc

  pub all_plan : (s s1 s2 s3 s4 : S) (objects : FuncId → List Bool) (c : Bool) (plan : AwaitPlan) → s1 ≡ fold after s (acts objects c false plan.operand) → s2 ≡ fold after s1 (acts objects c false plan.ready) → s3 ≡ fold after s2 (acts objects c false plan.suspend) → s4 ≡ fold after s3 (acts objects c false plan.resume) → s4 ≡ fold after s (plan_acts objects c plan)
  all_plan s s1 s2 s3 s4 objects c plan h1 h2 h3 h4 =
      let a = acts objects c false plan.operand in
      let b = acts objects c false plan.ready in
      let d = acts objects c false plan.suspend in
      let e = acts objects c false plan.resume in
      let k1 = fold-append after s a (b ++ (d ++ e)) in
      let k2 = fold-append after s1 b (d ++ e) in
      let k3 = fold-append after s2 d e in
      cc

  ends_plan : (a b d e : List Act) (x : Act) → a ++ (b ++ (d ++ (e ++ x ∷ []))) ≡ (a ++ (b ++ (d ++ e))) ++ x ∷ []
  ends_plan a b d e x = simp append_assoc

  pub all_await : (s s1 : S) (objects : FuncId → List Bool) (c o : Bool) (whole : CoreExpr) (plan plan' : AwaitPlan) → whole ≡ expr.Await plan → plan' ≡ plan → s1 ≡ fold after s (plan_acts objects c plan') → after s1 (Does c whole) ≡ fold after s (acts objects c o whole)
  all_await s s1 objects c o whole plan plan' is e h =
      all_one s s1 (plan_acts objects c plan) (plan_acts objects c plan') _ (Does c whole)
      (acts_await objects c o whole plan is ∙ ends_plan (acts objects c false plan.operand) (acts objects c false plan.ready) (acts objects c false plan.suspend) (acts objects c false plan.resume) (Does c whole)) (ap (plan_acts objects c) e) h

  module _ (keeps : (s : S) (part : Part) → after s (Keeps part) ≡ s) where
    fold_if : (s : S) (b : Bool) (part : Part) (xs : List Act) → fold after s (if b then Keeps part ∷ xs else xs) ≡ fold after s xs
    fold_if s true part xs = ap (λ z. fold after z xs) (keeps s part)
    fold_if s false part xs = refl

    fold_kept : (s : S) (part : Part) (xs : List Act) → fold after s (kept part xs) ≡ fold after s xs
    fold_kept s part xs = fold_if s (suspends xs) part xs

    fold_unless : (s : S) (b : Bool) (part : Part) (xs : List Act) → fold after s (kept_unless b part xs) ≡ fold after s xs
    fold_unless s true part xs = refl
    fold_unless s false part xs = fold_kept s part xs

    pub all_kept : (s s1 s2 : S) (part : Part) (xs xs' ys ys' whole : List Act) (a : Act) → whole ≡ xs ++ (kept part ys ++ a ∷ []) → xs' ≡ xs → ys' ≡ ys → s1 ≡ fold after s xs' → s2 ≡ fold after s1 ys' → after s2 a ≡ fold after s whole
    all_kept s s1 s2 part xs xs' ys ys' whole a is ex ey hx hy =
        let k = fold_kept s1 part ys in
        let h : s2 ≡ fold after s1 (kept part ys) = cc in
        all_two s s1 s2 xs xs' (kept part ys) (kept part ys) whole a is ex refl hx h

    rows_exprs : (m : Count) (row : Row_of-CoreExpr m) (s : S) (objects : FuncId → List Bool) (c : Bool) → fold after s (list_acts objects c row) ≡ fold after s (flat_map (acts objects c false) (items-the_row-CoreExpr m row))
    rows_exprs m end_of-CoreExpr s objects c = refl
    rows_exprs m (more_of-CoreExpr e rest) s objects c =
        let x = acts objects c false e in
        fold-append after s x (kept (OfExpr e) (list_acts objects c rest)) ∙ fold_kept (fold after s x) (OfExpr e) (list_acts objects c rest)
        ∙ rows_exprs _ rest (fold after s x) objects c ∙ sym (fold-append after s x (flat_map (acts objects c false) (items-the_row-CoreExpr _ rest)))

    rows_args : (m : Count) (row : Row_of-Init m) (s : S) (objects : FuncId → List Bool) (flags : List Bool) (c : Bool) → fold after s (args_acts objects flags c row) ≡ fold after s (inits_acts objects flags c (items-the_row-Init m row))
    rows_args m end_of-Init s objects flags c = refl
    rows_args m (more_of-Init i rest) s objects flags c =
        let x = init_acts objects c (first flags) i in
        fold-append after s x (kept_unless (first flags) (OfInit i) (args_acts objects (others flags) c rest)) ∙ fold_unless (fold after s x) (first flags) (OfInit i) (args_acts objects (others flags) c rest)
        ∙ rows_args _ rest (fold after s x) objects (others flags) c ∙ sym (fold-append after s x (inits_acts objects (others flags) c (items-the_row-Init _ rest)))

    pub all_call : (s s1 : S) (objects : FuncId → List Bool) (c o : Bool) (whole : CoreExpr) (f : FuncId) (args args' : List Init) (at : Span) → whole ≡ expr.Call f args at → args' ≡ args → s1 ≡ fold after s (inits_acts objects (objects f) c args') → after s1 (Does c whole) ≡ fold after s (acts objects c o whole)
    all_call s s1 objects c o whole f args args' at is e h =
        let row = init_row (expr.Call f args at) in
        let r = rows_args row.0 row.1 s objects (objects f) c ∙ ap (λ l. fold after s (inits_acts objects (objects f) c l)) (items_hidden-the_row-Init-1 args ∙ sym e) in
        all_one s s1 (args_acts objects (objects f) c row.1) _ _ (Does c whole) (ap (acts objects c o) is ∙ ap (λ w. args_acts objects (objects f) c row.1 ++ Does c w ∷ []) (sym is)) refl (h ∙ sym r)

    pub all_handle : (s s1 : S) (objects : FuncId → List Bool) (c o : Bool) (whole : CoreExpr) (op : HandleOp) (operands operands' : List CoreExpr) (at : Span) → whole ≡ expr.Handle op operands at → operands' ≡ operands → s1 ≡ fold after s (flat_map (acts objects c false) operands') → after s1 (Does c whole) ≡ fold after s (acts objects c o whole)
    all_handle s s1 objects c o whole op operands operands' at is e h =
        let row = expr_row (expr.Handle op operands at) in
        let r = rows_exprs row.0 row.1 s objects c ∙ ap (λ l. fold after s (flat_map (acts objects c false) l)) (items_hidden-the_row-CoreExpr-4 operands ∙ sym e) in
        all_one s s1 (list_acts objects c row.1) _ _ (Does c whole) (ap (acts objects c o) is ∙ ap (λ w. list_acts objects c row.1 ++ Does c w ∷ []) (sym is)) refl (h ∙ sym r)

    pub all_atomic : (s s1 : S) (objects : FuncId → List Bool) (c o : Bool) (whole : CoreExpr) (op : AtomicOp) (operands operands' : List CoreExpr) (at : Span) → whole ≡ expr.Atomic op operands at → operands' ≡ operands → s1 ≡ fold after s (flat_map (acts objects c false) operands') → after s1 (Does c whole) ≡ fold after s (acts objects c o whole)
    all_atomic s s1 objects c o whole op operands operands' at is e h =
        let row = expr_row (expr.Atomic op operands at) in
        let r = rows_exprs row.0 row.1 s objects c ∙ ap (λ l. fold after s (flat_map (acts objects c false) l)) (items_hidden-the_row-CoreExpr-4 operands ∙ sym e) in
        all_one s s1 (list_acts objects c row.1) _ _ (Does c whole) (ap (acts objects c o) is ∙ ap (λ w. list_acts objects c row.1 ++ Does c w ∷ []) (sym is)) refl (h ∙ sym r)

    pub all_lib : (s s1 : S) (objects : FuncId → List Bool) (c o : Bool) (whole : CoreExpr) (op : LibOp) (operands operands' : List CoreExpr) (at : Span) → whole ≡ expr.Lib op operands at → operands' ≡ operands → s1 ≡ fold after s (flat_map (acts objects c false) operands') → after s1 (Does c whole) ≡ fold after s (acts objects c o whole)
    all_lib s s1 objects c o whole op operands operands' at is e h =
        let row = expr_row (expr.Lib op operands at) in
        let r = rows_exprs row.0 row.1 s objects c ∙ ap (λ l. fold after s (flat_map (acts objects c false) l)) (items_hidden-the_row-CoreExpr-4 operands ∙ sym e) in
        all_one s s1 (list_acts objects c row.1) _ _ (Does c whole) (ap (acts objects c o) is ∙ ap (λ w. list_acts objects c row.1 ++ Does c w ∷ []) (sym is)) refl (h ∙ sym r)

    pub all_ctor : (s s1 : S) (objects : FuncId → List Bool) (c o : Bool) (whole : Init) (f : FuncId) (args args' : List Init) → whole ≡ init.Ctor f args → args' ≡ args → s1 ≡ fold after s (inits_acts objects (others (objects f)) c args') → after s1 (Starts whole) ≡ fold after s (init_acts objects c o whole)
    all_ctor s s1 objects c o whole f args args' is e h =
        let row = part_row (init.Ctor f args) in
        let r = rows_args row.0 row.1 s objects (others (objects f)) c ∙ ap (λ l. fold after s (inits_acts objects (others (objects f)) c l)) (items_hidden-the_row-Init-1 args ∙ sym e) in
        all_one s s1 (args_acts objects (others (objects f)) c row.1) _ _ (Starts whole) (ap (init_acts objects c o) is ∙ ap (λ w. args_acts objects (others (objects f)) c row.1 ++ Starts w ∷ []) (sym is)) refl (h ∙ sym r)

  rows_members : (m : Count) (row : Row_of-Init m) (s : S) (objects : FuncId → List Bool) (c : Bool) → fold after s (members_acts objects c row) ≡ fold after s (inits_acts objects [] c (items-the_row-Init m row))
  rows_members m end_of-Init s objects c = refl
  rows_members m (more_of-Init i rest) s objects c =
      let x = init_acts objects c false i in
      fold-append after s x (members_acts objects c rest) ∙ rows_members _ rest (fold after s x) objects c ∙ sym (fold-append after s x (inits_acts objects [] c (items-the_row-Init _ rest)))

  pub all_members : (s s1 : S) (objects : FuncId → List Bool) (c o : Bool) (whole : Init) (members members' : List Init) → whole ≡ init.Members members → members' ≡ members → s1 ≡ fold after s (inits_acts objects [] c members') → after s1 (Starts whole) ≡ fold after s (init_acts objects c o whole)
  all_members s s1 objects c o whole members members' is e h =
      let row = part_row (init.Members members) in
      let r = rows_members row.0 row.1 s objects c ∙ ap (λ l. fold after s (inits_acts objects [] c l)) (items_hidden-the_row-Init-1 members ∙ sym e) in
      all_one s s1 (members_acts objects c row.1) _ _ (Starts whole) (ap (init_acts objects c o) is ∙ ap (λ w. members_acts objects c row.1 ++ Starts w ∷ []) (sym is)) refl (h ∙ sym r)

  module _ (passes : (s : S) (slot : SlotId) (i : Init) (at : Span) (c : Bool) → after s (Passes (expr.Temp slot i at)) ≡ after s (Does c (expr.Temp slot i at))) where
    temp_visited : (s : S) (c o : Bool) (slot : SlotId) (i : Init) (at : Span) → after s (Does c (expr.Temp slot i at)) ≡ after s (temp_act c o (expr.Temp slot i at))
    temp_visited s c true slot i at = sym (passes s slot i at c)
    temp_visited s c false slot i at = refl

    pub all_temp : (s s1 : S) (objects : FuncId → List Bool) (c o : Bool) (whole : CoreExpr) (slot : SlotId) (i i' : Init) (at : Span) → whole ≡ expr.Temp slot i at → i' ≡ i → s1 ≡ fold after s (init_acts objects c false i') → after s1 (Does c whole) ≡ fold after s (acts objects c o whole)
    all_temp s s1 objects c o whole slot i i' at is e h =
        ap (λ w. after s1 (Does c w)) is ∙ temp_visited s1 c o slot i at
        ∙ all_one s s1 (init_acts objects c false i) (init_acts objects c false i') _ (temp_act c o (expr.Temp slot i at)) (acts_temp objects c o whole slot i at is) (ap (init_acts objects c false) e) h

  -- ---- lists

  pub inits_step : (s s1 : S) (objects : FuncId → List Bool) (flags : List Bool) (c : Bool) (is : List Init) (k : ℕ) (i : Init) (z : S) → k < length is → i ≡ get_or is k i → s1 ≡ fold after s (init_acts objects c (first (drop k flags)) i) → fold after s (inits_acts objects (drop k flags) c (drop k is)) ≡ z → fold after s1 (inits_acts objects (drop (k + 1) flags) c (drop (k + 1) is)) ≡ z
  inits_step s s1 objects flags c is k i z less it h keeps =
      let d = drop_more is k i less in
      let f = others_drop k flags in
      let x = init_acts objects c (first (drop k flags)) i in
      let a = fold-append after s x (inits_acts objects (others (drop k flags)) c (drop (k + 1) is)) in
      let b : inits_acts objects (drop k flags) c (i ∷ drop (k + 1) is) ≡ x ++ inits_acts objects (others (drop k flags)) c (drop (k + 1) is) = refl in
      cc

  pub inits_end : (s : S) (objects : FuncId → List Bool) (flags : List Bool) (c : Bool) (is : List Init) (k : ℕ) (z : S) → length is ≤ k → fold after s (inits_acts objects flags c (drop k is)) ≡ z → s ≡ z
  inits_end s objects flags c is k z less keeps = ap (λ l. fold after s (inits_acts objects flags c l)) (sym (all_dropped k is less)) ∙ keeps
