-- Whether the full-expressions around the body of a function name visible slots alone, and a function as a whole.
use Rattle.std.specs.Prelude.{◌≡◌, ◌≤◌, Bool, true, false, ◌&&◌, if◌then◌else◌, List, [], ◌∷◌, ◌++◌, fold, length, Option, None, Some}
use Rattle.std.specs.List.{list_all}
use Rattle.std.proofs.Common.{refl, sym, ap, ◌∙◌}
use Rattle.std.proofs.lemmas.Bool.{and_parts, leb-true}
use Rattle.std.proofs.lemmas.List.Folds.{list_all-append}
use Rattle.co_base.specs.declared.ids.SlotId.{SlotId}
use Rattle.co_core_tree.specs.declared.exprs.AwaitPlan.{AwaitPlan}
use Rattle.co_core_tree.specs.declared.exprs.CoreExpr.{CoreExpr}
use Rattle.co_core_tree.specs.declared.exprs.CoreExpr.TheVariants as expr
use Rattle.co_core_tree.specs.declared.exprs.Init.{Init}
use Rattle.co_core_tree.specs.declared.units.CopyPlan.{CopyPlan}
use Rattle.co_core_tree.specs.declared.units.PromisePlan.{PromisePlan}
use Rattle.co_core_tree.specs.declared.units.CoreFunc.{CoreFunc}
use Rattle.co_core_tree.specs.declared.units.UnitParts.{UnitParts}
use Rattle.co_core_tree.specs.Acts.{Act, Does, Passes, Starts, Keeps}
use Rattle.co_core_tree.specs.Slots.{is_held, makes, slot_at}
use Rattle.co_core.specs.Bodies.{Placed, await_acts, body_of, copies_fulls, fulls, func_acts, in_body, inits_fulls, joined_acts, own_fulls, placed_fulls, plan_fulls, role_fulls}
use Rattle.co_core.specs.Counts.{slots_fit}
use Rattle.co_core.specs.Ids.{act_held, expr_held, func_ids_held, placed_held, plan_held, role_held, slot_held, slot_type_held, type_held}
use Rattle.co_core.specs.Scopes.{act_makes_temp, await_visible, distinct, full_visible, func_makes, func_makes_once, func_visible, holder_of, inits_visible, makes_local, placed_make, plan_makes, plan_visible, stmt_visible}
use Rattle.co_core_scopes.specs.declared.visible.Visible.{Visible}
use Rattle.co_core_scopes.specs.Makes.{slot_list}
use Rattle.co_core_scopes.specs.Scoped.{Begun, await_seen, copy_seen, full_seen, fulls_seen, func_seen, held_slot, init_seen, plan_seen, stmt_seen}
use Rattle.co_core_scopes.proofs.Members.{Apart, is_new, within_right}
use Rattle.co_core_scopes.proofs.Phases.{Stands, act_small, full_stands}
use Rattle.co_core_scopes.proofs.Nested.{full_small, placed_small, stands_as, stmt_stands}
use Rattle.co_core_scopes.proofs.Small.{holder_is, slot_small}

-- ---- loops

pub inits_folded : (funcs : List CoreFunc) (s : Visible) (is : List Init) → fold (init_seen funcs) s is ≡ fulls_seen s (inits_fulls funcs is)
inits_folded funcs s [] = refl
inits_folded funcs s (i ∷ is) = inits_folded funcs (init_seen funcs s i) is

pub copies_folded : (funcs : List CoreFunc) (s : Visible) (copies : List CopyPlan) → fold (copy_seen funcs) s copies ≡ fulls_seen s (copies_fulls funcs copies)
copies_folded funcs s [] = refl
copies_folded funcs s (copy ∷ copies) = copies_folded funcs (copy_seen funcs s copy) copies

pub plan_steps : (funcs : List CoreFunc) (s s1 s2 s3 s4 s5 : Visible) (whole : Option PromisePlan) (plan : PromisePlan) (takes ctors : List Init) (copies : List CopyPlan) → whole ≡ Some plan → takes ≡ plan.take_args → copies ≡ plan.copies → ctors ≡ plan.ctor_args
    → s1 ≡ fulls_seen s (inits_fulls funcs takes) → s2 ≡ fulls_seen s1 (copies_fulls funcs copies) → s3 ≡ fulls_seen s2 (inits_fulls funcs ctors) → s4 ≡ await_seen funcs s3 plan.initial → s5 ≡ await_seen funcs s4 plan.last → s5 ≡ plan_seen funcs s whole
plan_steps funcs s s1 s2 s3 s4 s5 whole plan takes ctors copies is e1 e2 e3 h1 h2 h3 h4 h5 =
    let k1 : s1 ≡ fulls_seen s (inits_fulls funcs plan.take_args) = h1 ∙ ap (λ l. fulls_seen s (inits_fulls funcs l)) e1 in
    let k2 : s2 ≡ fulls_seen s1 (copies_fulls funcs plan.copies) = h2 ∙ ap (λ l. fulls_seen s1 (copies_fulls funcs l)) e2 in
    let k3 : s3 ≡ fulls_seen s2 (inits_fulls funcs plan.ctor_args) = h3 ∙ ap (λ l. fulls_seen s2 (inits_fulls funcs l)) e3 in
    h5 ∙ ap (λ z. await_seen funcs z plan.last) (h4 ∙ ap (λ z. await_seen funcs z plan.initial) (k3 ∙ ap (λ z. fulls_seen z (inits_fulls funcs plan.ctor_args)) (k2 ∙ ap (λ z. fulls_seen z (copies_fulls funcs plan.copies)) k1)))
    ∙ ap (plan_seen funcs s) (sym is)

pub func_steps : (funcs : List CoreFunc) (s s1 s2 s3 : Visible) (func : CoreFunc) → s1 ≡ fulls_seen s (role_fulls funcs func.role) → s2 ≡ plan_seen funcs s1 func.plan → s3 ≡ stmt_seen funcs s2 func.body → s3 ≡ func_seen funcs s func
func_steps funcs s s1 s2 s3 func h1 h2 h3 = h3 ∙ ap (λ z. stmt_seen funcs z func.body) (h2 ∙ ap (λ z. plan_seen funcs z func.plan) h1)

-- ---- what is named has room in the sets

joined_small : (funcs : List CoreFunc) (xs : List (List Act)) → list_all act_small (joined_acts funcs xs) ≡ list_all full_small xs
joined_small funcs [] = refl
joined_small funcs (x ∷ xs) = list_all-append act_small x (joined_acts funcs xs) ∙ ap (λ b. full_small x && b) (joined_small funcs xs)

own_small : (funcs : List CoreFunc) (ps : List Placed) → list_all full_small (placed_fulls funcs ps) ≡ list_all (placed_small funcs) ps
own_small funcs [] = refl
own_small funcs (p ∷ ps) = list_all-append full_small (own_fulls funcs p.stmt) (placed_fulls funcs ps) ∙ ap (λ b. placed_small funcs p && b) (own_small funcs ps)

small_both : (xs ys : List (List Act)) → list_all full_small (xs ++ ys) ≡ true → (list_all full_small xs ≡ true) × (list_all full_small ys ≡ true)
small_both xs ys small = and_parts (list_all full_small xs) (list_all full_small ys) (sym (list_all-append full_small xs ys) ∙ small)

module _ (unit : UnitParts) (func : CoreFunc) (fits : length func.slots ≤ 4096) where
  expr_fits : (e : CoreExpr) → expr_held unit func e ≡ true → act_small (Does false e) ≡ true
  expr_fits (expr.Slot slot at) held = slot_small func fits unit slot held
  expr_fits e held = refl

  acts_fit : (acts : List Act) → list_all (act_held unit func) acts ≡ true → list_all act_small acts ≡ true
  acts_fit [] held = refl
  acts_fit (Does c e ∷ acts) held =
      let p = and_parts (expr_held unit func e) (list_all (act_held unit func) acts) held in
      ap (λ b. b && list_all act_small acts) (expr_fits e p.0) ∙ acts_fit acts p.1
  acts_fit (Passes e ∷ acts) held = acts_fit acts ((and_parts (act_held unit func (Passes e)) (list_all (act_held unit func) acts) held).1)
  acts_fit (Starts i ∷ acts) held = acts_fit acts ((and_parts (act_held unit func (Starts i)) (list_all (act_held unit func) acts) held).1)
  acts_fit (Keeps part ∷ acts) held = acts_fit acts held

  acts_of_ids : func_ids_held unit func ≡ true → list_all (act_held unit func) (func_acts unit.funcs func) ≡ true
  acts_of_ids h =
      let acts = list_all (act_held unit func) (func_acts unit.funcs func) in
      let body = list_all (placed_held unit func) (body_of func) in
      let plan = plan_held unit func func.plan in
      let p = and_parts (list_all (slot_held unit func) func.params) (type_held unit func.result && (list_all (slot_type_held unit func) func.slots && (role_held unit func func.role && (plan && (body && acts))))) h in
      let q = and_parts (type_held unit func.result) (list_all (slot_type_held unit func) func.slots && (role_held unit func func.role && (plan && (body && acts)))) p.1 in
      let r = and_parts (list_all (slot_type_held unit func) func.slots) (role_held unit func func.role && (plan && (body && acts))) q.1 in
      let t = and_parts (role_held unit func func.role) (plan && (body && acts)) r.1 in
      (and_parts body acts ((and_parts plan (body && acts) t.1).1)).1

-- ---- full-expressions around a body

and_grouped : (a b c : Bool) → ((a && b) && c) ≡ (a && (b && c))
and_grouped true b c = refl
and_grouped false b c = refl

and_last : (a : Bool) → a ≡ (a && true)
and_last true = refl
and_last false = refl

module _ (funcs : List CoreFunc) (func : CoreFunc) where
  fulls_stand : (fs : List (List Act)) (b : Bool) (s : Visible) → Stands func [] b s → list_all full_small fs ≡ true → Stands func [] (b && inits_visible funcs func fs) (fulls_seen s fs)
  fulls_stand [] b s h small = stands_as func [] b (b && true) s (and_last b) h
  fulls_stand (f ∷ fs) b s h small =
      let p = and_parts (full_small f) (list_all full_small fs) small in
      let h1 : Stands func [] (b && full_visible func [] f) (full_seen s None f) = full_stands func [] b s None f h p.0 in
      stands_as func [] _ _ _ (and_grouped b (full_visible func [] f) (inits_visible funcs func fs)) (fulls_stand fs (b && full_visible func [] f) (full_seen s None f) h1 p.1)

  held_list_if : (b : Bool) (slot : SlotId) → slot_list (if b then Some slot else None) ++ [] ≡ (if b then slot ∷ [] else [])
  held_list_if true slot = refl
  held_list_if false slot = refl

  await_stands : (plan : AwaitPlan) (b : Bool) (s : Visible) → Stands func [] b s → full_small (await_acts funcs plan) ≡ true → Stands func [] (b && await_visible funcs func plan) (await_seen funcs s plan)
  await_stands plan b s h small =
      let acts = await_acts funcs plan in
      let own = held_slot s.func.now plan.holder in
      let seen : slot_list own ++ [] ≡ holder_of func plan = ap (λ f. slot_list (held_slot f plan.holder) ++ []) h.func_is ∙ held_list_if (is_held (slot_at func plan.holder)) plan.holder ∙ sym (holder_is func plan) in
      stands_as func [] _ _ _ (ap (λ l. b && full_visible func l acts) seen) (full_stands func [] b s own acts h small)

  plan_stands : (plan : Option PromisePlan) (b : Bool) (s : Visible) → Stands func [] b s → list_all full_small (plan_fulls funcs plan) ≡ true → Stands func [] (b && plan_visible funcs func plan) (plan_seen funcs s plan)
  plan_stands None b s h small = stands_as func [] b (b && true) s (and_last b) h
  plan_stands (Some plan) b s h small =
      let takes = inits_fulls funcs plan.take_args in
      let copies = copies_fulls funcs plan.copies in
      let ctors = inits_fulls funcs plan.ctor_args in
      let first = await_acts funcs plan.initial in
      let last = await_acts funcs plan.last in
      let v1 = inits_visible funcs func takes in
      let v2 = inits_visible funcs func copies in
      let v3 = inits_visible funcs func ctors in
      let v4 = await_visible funcs func plan.initial in
      let v5 = await_visible funcs func plan.last in
      let p1 = small_both takes (copies ++ (ctors ++ (first ∷ last ∷ []))) small in
      let p2 = small_both copies (ctors ++ (first ∷ last ∷ [])) p1.1 in
      let p3 = small_both ctors (first ∷ last ∷ []) p2.1 in
      let p4 = and_parts (full_small first) (full_small last && true) p3.1 in
      let p5 = and_parts (full_small last) true p4.1 in
      let s1 = fulls_seen s takes in
      let s2 = fulls_seen s1 copies in
      let s3 = fulls_seen s2 ctors in
      let s4 = await_seen funcs s3 plan.initial in
      let h1 = fulls_stand takes b s h p1.0 in
      let h2 = fulls_stand copies (b && v1) s1 h1 p2.0 in
      let h3 = fulls_stand ctors ((b && v1) && v2) s2 h2 p3.0 in
      let h4 = await_stands plan.initial (((b && v1) && v2) && v3) s3 h3 p4.0 in
      let h5 = await_stands plan.last ((((b && v1) && v2) && v3) && v4) s4 h4 p5.0 in
      stands_as func [] _ _ _ (and_grouped (((b && v1) && v2) && v3) v4 v5 ∙ and_grouped ((b && v1) && v2) v3 (v4 && v5) ∙ and_grouped (b && v1) v2 (v3 && (v4 && v5)) ∙ and_grouped b v1 (v2 && (v3 && (v4 && v5)))) h5

  begun_stands : (s : Visible) → Begun func s → Stands func [] true s
  begun_stands s begun =
      record {
        func_is = begun.func_is;
        scope_size = begun.scope_size;
        made_size = begun.made_size;
        scoped = λ x small. begun.scope_none x.0;
        empty = λ x small. begun.made_none x.0;
        holds_is = begun.holds_is;
      }

  all_new : (xs : List SlotId) → list_all (is_new []) xs ≡ true
  all_new [] = refl
  all_new (x ∷ xs) = all_new xs

  func_answer : (s : Visible) → Begun func s → list_all act_small (func_acts funcs func) ≡ true → distinct (func_makes funcs func) ≡ true → (func_seen funcs s func).holds ≡ func_visible funcs func
  func_answer s begun small once =
      let role = role_fulls funcs func.role in
      let plan = plan_fulls funcs func.plan in
      let body = placed_fulls funcs (body_of func) in
      let v1 = inits_visible funcs func role in
      let v2 = plan_visible funcs func func.plan in
      let v3 = stmt_visible funcs func [] func.body in
      let p1 = small_both role (plan ++ body) (sym (joined_small funcs (fulls funcs func)) ∙ small) in
      let p2 = small_both plan body p1.1 in
      let made = placed_make (body_of func) in
      let mk = makes func (func_acts funcs func) in
      let apart : Apart [] made = record { fresh = all_new made; once = (within_right mk made).once ((within_right (plan_makes func func.plan) (mk ++ made)).once once) } in
      let s1 = fulls_seen s role in
      let s2 = plan_seen funcs s1 func.plan in
      let h1 = fulls_stand role true s (begun_stands s begun) p1.0 in
      let h2 = plan_stands func.plan v1 s1 h1 p2.0 in
      let h3 = stmt_stands funcs func in_body func.body [] (v1 && v2) s2 h2 (sym (own_small funcs (body_of func)) ∙ p2.1) apart in
      h3.holds_is ∙ and_grouped v1 v2 v3

pub visible_is : (unit : UnitParts) (func : CoreFunc) (s s1 : Visible) → Begun func s → s1 ≡ func_seen unit.funcs s func → slots_fit func ≡ true → func_ids_held unit func ≡ true → func_makes_once unit.funcs func ≡ true → s1.holds ≡ func_visible unit.funcs func
visible_is unit func s s1 begun h slots ids once =
    let fits : length func.slots ≤ 4096 = leb-true (length func.slots) 4096 slots in
    let small = acts_fit unit func fits (func_acts unit.funcs func) (acts_of_ids unit func fits ids) in
    let made = and_parts (distinct (func_makes unit.funcs func)) (list_all (makes_local func) (body_of func) && list_all (act_makes_temp func) (func_acts unit.funcs func)) once in
    ap (λ z. z.holds) h ∙ func_answer unit.funcs func s begun small made.0
