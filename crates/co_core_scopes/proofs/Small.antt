-- The slots that a function makes are below 4,096 where each is in its table and of its kind.
use Rattle.std.specs.Prelude.{◌≡◌, ℕ, zero, suc, ◌<◌, ◌≤◌, Bool, true, false, ◌&&◌, if◌then◌else◌, List, [], ◌∷◌, ◌++◌, flat_map, fold, length, get_or, Option, None, Some}
use Rattle.std.specs.List.{list_all}
use Rattle.std.proofs.Common.{refl, sym, ap, ◌∙◌, arith, append-nil, inl, inr}
use Rattle.std.proofs.lemmas.Bool.{and_from, and_parts, cases_Bool, false≢true, lt-ltb, leb-true, ltb-true}
use Rattle.std.proofs.lemmas.Option.{slice_get_cases}
use Rattle.std.proofs.lemmas.List.Folds.{list_all-append}
use Rattle.std.proofs.lemmas.List.Sums.{fold-append}
use Rattle.co_base.specs.declared.ids.SlotId.{SlotId}
use Rattle.co_core_tree.specs.declared.exprs.CoreExpr.{CoreExpr, more_of-AwaitPlan, end_of-AwaitPlan}
use Rattle.co_core_tree.specs.declared.exprs.CoreExpr.TheVariants as expr
use Rattle.co_core_tree.specs.declared.exprs.AwaitPlan.{AwaitPlan}
use Rattle.co_core_tree.specs.declared.stmts.CoreStmt.{CoreStmt, Row_of-Handler, end_of-Handler, more_of-Handler}
use Rattle.co_core_tree.specs.declared.stmts.CoreStmt.TheVariants as stmt
use Rattle.co_core_tree.specs.declared.units.SlotInfo.{SlotInfo}
use Rattle.co_core_tree.specs.declared.units.CopyPlan.{CopyPlan}
use Rattle.co_core_tree.specs.declared.units.PromisePlan.{PromisePlan}
use Rattle.co_core_tree.specs.declared.units.CoreFunc.{CoreFunc}
use Rattle.co_core_tree.specs.declared.units.UnitParts.{UnitParts}
use Rattle.co_core_tree.specs.Acts.{Act, Does, Passes, Starts, Keeps}
use Rattle.co_core_tree.specs.Slots.{is_held, made, makes, slot_at}
use Rattle.co_core.specs.Bodies.{Placed, Standing, body_of, func_acts}
use Rattle.co_core.specs.Counts.{slots_fit}
use Rattle.co_core.specs.Ids.{act_held, class_held, copy_held, func_held, func_held_if, func_ids_held, give_held, placed_held, plan_held, returns_held, role_held, slot_held, slot_type_held, take_held, type_held}
use Rattle.co_core.specs.Scopes.{act_makes_temp, copies_make, distinct, func_makes, func_makes_once, handlers_local, handlers_make, holder_of, is_local, is_temp_kind, makes_local, makes_temp_slot, placed_make, plan_makes, slot_is, stmt_makes}
use Rattle.co_core_scopes.specs.declared.makes.Makes.{Makes}
use Rattle.co_core_scopes.specs.Makes.{held_holder, is_small, marked}
use Rattle.co_core_scopes.proofs.Marks.{func_kept}

pub holder_is : (func : CoreFunc) (plan : AwaitPlan) → holder_of func plan ≡ held_holder func plan.holder
holder_is func plan =
    elim (cases_Bool (is_held (slot_at func plan.holder))) as (λ z. holder_of func plan ≡ held_holder func plan.holder) [
      | inl e ↦ rw e refl
      | inr e ↦ rw e refl
    ]

module _ (func : CoreFunc) (fits : length func.slots ≤ 4096) where
  in_table : (slot : SlotId) (test : Option SlotInfo → Bool) → test None ≡ false → test (slot_at func slot) ≡ true → is_small slot ≡ true
  in_table slot test none holds =
      elim ((slice_get_cases func.slots slot.0).1) as (λ z. is_small slot ≡ true) [
        | inl w ↦ let l : slot.0 < length func.slots = w.1 in lt-ltb slot.0 4096 (omega arith)
        | inr p ↦ absurd (false≢true (sym none ∙ sym (ap test p.1) ∙ holds))
      ]

  if_small : (b : Bool) (slot : SlotId) → (b ≡ true → is_small slot ≡ true) → list_all is_small (if b then slot ∷ [] else []) ≡ true
  if_small true slot h = and_from (is_small slot) true (h refl) refl
  if_small false slot h = refl

  holder_small : (slot : SlotId) → list_all is_small (held_holder func slot) ≡ true
  holder_small slot = if_small (is_held (slot_at func slot)) slot (λ h. in_table slot (λ o. is_held o) refl h)

  made_small : (e : CoreExpr) → makes_temp_slot func e ≡ true → list_all is_small (made func e) ≡ true
  made_small (expr.Temp' slot n i at) h = and_from (is_small slot) true (in_table slot (slot_is is_temp_kind) refl h) refl
  made_small (expr.Await' n (more_of-AwaitPlan operand holder ready suspend answer resume point span end_of-AwaitPlan)) h = holder_small holder
  made_small e h = refl

  joined_small : (xs ys : List SlotId) → list_all is_small xs ≡ true → list_all is_small ys ≡ true → list_all is_small (xs ++ ys) ≡ true
  joined_small xs ys h k = list_all-append is_small xs ys ∙ and_from (list_all is_small xs) (list_all is_small ys) h k

  acts_small : (acts : List Act) → list_all (act_makes_temp func) acts ≡ true → list_all is_small (makes func acts) ≡ true
  acts_small [] h = refl
  acts_small (Does c e ∷ acts) h =
      let p = and_parts (makes_temp_slot func e) (list_all (act_makes_temp func) acts) h in
      joined_small (made func e) (makes func acts) (made_small e p.0) (acts_small acts p.1)
  acts_small (Passes e ∷ acts) h =
      let p = and_parts (makes_temp_slot func e) (list_all (act_makes_temp func) acts) h in
      joined_small (made func e) (makes func acts) (made_small e p.0) (acts_small acts p.1)
  acts_small (Starts i ∷ acts) h = acts_small acts h
  acts_small (Keeps part ∷ acts) h = acts_small acts h

  handlers_small : {m : _} (row : Row_of-Handler m) → handlers_local func row ≡ true → list_all is_small (handlers_make row) ≡ true
  handlers_small end_of-Handler h = refl
  handlers_small (more_of-Handler of (Some slot) body rest) h =
      let p = and_parts (slot_is is_local (slot_at func slot)) (handlers_local func rest) h in
      and_from (is_small slot) (list_all is_small (handlers_make rest)) (in_table slot (slot_is is_local) refl p.0) (handlers_small rest p.1)
  handlers_small (more_of-Handler of None body rest) h = handlers_small rest h

  stmt_small : (stands : Standing) (s : CoreStmt) → makes_local func (record { stands = stands; stmt = s }) ≡ true → list_all is_small (stmt_makes s) ≡ true
  stmt_small stands (stmt.Local slot i at) h =
      let p = and_parts stands.in_scope (slot_is is_local (slot_at func slot)) h in
      and_from (is_small slot) true (in_table slot (slot_is is_local) refl p.1) refl
  stmt_small stands (stmt.Try' n body m handlers at) h = handlers_small handlers h
  stmt_small stands s h = refl

  placed_small : (ps : List Placed) → list_all (makes_local func) ps ≡ true → list_all is_small (placed_make ps) ≡ true
  placed_small [] h = refl
  placed_small (p ∷ ps) h =
      let q = and_parts (makes_local func p) (list_all (makes_local func) ps) h in
      joined_small (stmt_makes p.stmt) (placed_make ps) (stmt_small p.stands p.stmt q.0) (placed_small ps q.1)

  module _ (unit : UnitParts) where
    pub slot_small : (slot : SlotId) → slot_held unit func slot ≡ true → is_small slot ≡ true
    slot_small slot h = let l : slot.0 < length func.slots = ltb-true slot.0 (length func.slots) h in lt-ltb slot.0 4096 (omega arith)

    copies_small : (copies : List CopyPlan) → list_all (copy_held unit func) copies ≡ true → list_all is_small (copies_make copies) ≡ true
    copies_small [] h = refl
    copies_small (copy ∷ copies) h =
        let p = and_parts (copy_held unit func copy) (list_all (copy_held unit func) copies) h in
        let q = and_parts (slot_held unit func copy.from) (slot_held unit func copy.to) p.0 in
        and_from (is_small copy.to) (list_all is_small (copies_make copies)) (slot_small copy.to q.1) (copies_small copies p.1)

    plan_small : (plan : Option PromisePlan) → plan_held unit func plan ≡ true → list_all is_small (plan_makes func plan) ≡ true
    plan_small None h = refl
    plan_small (Some plan) h =
        let last = take_held unit plan.take && (func_held_if unit plan.on_null && (give_held unit plan.give && (func_held unit plan.result && (slot_held unit func plan.initial.holder && (slot_held unit func plan.last.holder && (returns_held unit func plan.returns && func_held unit plan.unhandled)))))) in
        let copied = list_all (copy_held unit func) plan.copies in
        let p = and_parts (class_held unit plan.promise) (func_held_if unit plan.ctor && (copied && last)) h in
        let q = and_parts (func_held_if unit plan.ctor) (copied && last) p.1 in
        let r = and_parts copied last q.1 in
        let holder = λ (a : AwaitPlan). ap (list_all is_small) (holder_is func a) ∙ holder_small a.holder in
        joined_small (copies_make plan.copies) (holder_of func plan.initial ++ holder_of func plan.last) (copies_small plan.copies r.0)
        (joined_small (holder_of func plan.initial) (holder_of func plan.last) (holder plan.initial) (holder plan.last))

    ids_of_plan : func_ids_held unit func ≡ true → plan_held unit func func.plan ≡ true
    ids_of_plan h =
        let body = list_all (placed_held unit func) (body_of func) && list_all (act_held unit func) (func_acts unit.funcs func) in
        let plan = plan_held unit func func.plan in
        let p = and_parts (list_all (slot_held unit func) func.params) (type_held unit func.result && (list_all (slot_type_held unit func) func.slots && (role_held unit func func.role && (plan && body)))) h in
        let q = and_parts (type_held unit func.result) (list_all (slot_type_held unit func) func.slots && (role_held unit func func.role && (plan && body))) p.1 in
        let r = and_parts (list_all (slot_type_held unit func) func.slots) (role_held unit func func.role && (plan && body)) q.1 in
        let t = and_parts (role_held unit func func.role) (plan && body) r.1 in
        (and_parts plan body t.1).0

    func_small : (funcs : List CoreFunc) → func_ids_held unit func ≡ true → (list_all (makes_local func) (body_of func) && list_all (act_makes_temp func) (func_acts funcs func)) ≡ true → list_all is_small (func_makes funcs func) ≡ true
    func_small funcs ids kinds =
        let p = and_parts (list_all (makes_local func) (body_of func)) (list_all (act_makes_temp func) (func_acts funcs func)) kinds in
        joined_small (plan_makes func func.plan) (makes func (func_acts funcs func) ++ placed_make (body_of func)) (plan_small func.plan (ids_of_plan ids))
        (joined_small (makes func (func_acts funcs func)) (placed_make (body_of func)) (acts_small (func_acts funcs func) p.1) (placed_small (body_of func) p.0))

and_false : (a : Bool) → (a && false) ≡ false
and_false true = refl
and_false false = refl

where_true : (o d f : Bool) → (f ≡ true → o ≡ d) → (o && f) ≡ (d && f)
where_true o d true h = ap (λ b. b && true) (h refl)
where_true o d false h = and_false o ∙ sym (and_false d)

pub once_is : (unit : UnitParts) (func : CoreFunc) (once fit r : Bool) → r ≡ (once && fit) → fit ≡ (list_all (makes_local func) (body_of func) && list_all (act_makes_temp func) (func_acts unit.funcs func))
    → (list_all is_small (func_makes unit.funcs func) ≡ true → once ≡ distinct (func_makes unit.funcs func)) → slots_fit func ≡ true → func_ids_held unit func ≡ true → r ≡ func_makes_once unit.funcs func
once_is unit func once fit r made kinds marks slots ids =
    let l : length func.slots ≤ 4096 = leb-true (length func.slots) 4096 slots in
    made ∙ where_true once (distinct (func_makes unit.funcs func)) fit (λ h. marks (func_small func l unit unit.funcs ids (sym kinds ∙ h))) ∙ ap (λ b. distinct (func_makes unit.funcs func) && b) kinds

pub at_all : {A : Type 0} (test : A → Bool) (xs : List A) (k : ℕ) (x : A) → list_all test xs ≡ true → k < length xs → x ≡ get_or xs k x → test x ≡ true
at_all test [] k x all less is = absurd (omega (arith, less))
at_all test (y ∷ ys) zero x all less is = ap test is ∙ (and_parts (test y) (list_all test ys) all).0
at_all test (y ∷ ys) (suc k) x all less is = at_all test ys k x ((and_parts (test y) (list_all test ys) all).1) (omega (arith, less)) is

-- ---- what is marked

copies_flat : (copies : List CopyPlan) → flat_map (λ copy. copy.to ∷ []) copies ≡ copies_make copies
copies_flat [] = refl
copies_flat (copy ∷ copies) = ap (λ l. copy.to ∷ l) (copies_flat copies)

pub plan_marked : (s s1 s2 s3 : Makes) (whole : Option PromisePlan) (plan : PromisePlan) (copies : List CopyPlan) → whole ≡ Some plan → copies ≡ plan.copies → s1 ≡ fold marked s (flat_map (λ copy. copy.to ∷ []) copies) → s2 ≡ fold marked s1 (held_holder s1.func.now plan.initial.holder) → s3 ≡ fold marked s2 (held_holder s2.func.now plan.last.holder) → s3 ≡ fold marked s (plan_makes s.func.now whole)
plan_marked s s1 s2 s3 whole plan copies is e h1 h2 h3 =
    let func = s.func.now in
    let a = copies_make plan.copies in
    let b = held_holder func plan.initial.holder in
    let d = held_holder func plan.last.holder in
    let f1 : s1.func ≡ s.func = ap (λ z. z.func) h1 ∙ func_kept s (flat_map (λ copy. copy.to ∷ []) copies) in
    let f2 : s2.func ≡ s.func = ap (λ z. z.func) h2 ∙ func_kept s1 (held_holder s1.func.now plan.initial.holder) ∙ f1 in
    let k1 : s1 ≡ fold marked s a = h1 ∙ ap (λ l. fold marked s (flat_map (λ copy. copy.to ∷ []) l)) e ∙ ap (fold marked s) (copies_flat plan.copies) in
    let k2 : s2 ≡ fold marked s1 b = h2 ∙ ap (λ f. fold marked s1 (held_holder f.now plan.initial.holder)) f1 in
    let k3 : s3 ≡ fold marked s2 d = h3 ∙ ap (λ f. fold marked s2 (held_holder f.now plan.last.holder)) f2 in
    let m1 = fold-append marked s a (b ++ d) in
    let m2 = fold-append marked s1 b d in
    let m : s3 ≡ fold marked s (a ++ (b ++ d)) = cc in
    m ∙ ap (λ l. fold marked s (a ++ (l ++ d))) (sym (holder_is func plan.initial)) ∙ ap (λ l. fold marked s (a ++ (holder_of func plan.initial ++ l))) (sym (holder_is func plan.last))
    ∙ ap (λ p. fold marked s (plan_makes func p)) (sym is)

abbrev after_act : Makes → Act → Makes
after_act s act = fold marked s (makes s.func.now (act ∷ []))

abbrev after_placed : Makes → Placed → Makes
after_placed s p = fold marked s (stmt_makes p.stmt)

makes_first : (func : CoreFunc) (act : Act) (acts : List Act) → makes func (act ∷ acts) ≡ makes func (act ∷ []) ++ makes func acts
makes_first func (Does c e) acts = ap (λ l. l ++ makes func acts) (sym (append-nil (made func e)))
makes_first func (Passes e) acts = ap (λ l. l ++ makes func acts) (sym (append-nil (made func e)))
makes_first func (Starts i) acts = refl
makes_first func (Keeps part) acts = refl

acts_marked : (func : CoreFunc) (s : Makes) (acts : List Act) → s.func.now ≡ func → fold after_act s acts ≡ fold marked s (makes func acts)
acts_marked func s [] e = refl
acts_marked func s (act ∷ acts) e =
    acts_marked func (after_act s act) acts (ap (λ f. f.now) (func_kept s (makes s.func.now (act ∷ []))) ∙ e)
    ∙ ap (λ f. fold marked (fold marked s (makes f (act ∷ []))) (makes func acts)) e
    ∙ sym (fold-append marked s (makes func (act ∷ [])) (makes func acts)) ∙ ap (fold marked s) (sym (makes_first func act acts))

stmts_marked : (s : Makes) (ps : List Placed) → fold after_placed s ps ≡ fold marked s (placed_make ps)
stmts_marked s [] = refl
stmts_marked s (p ∷ ps) = stmts_marked (after_placed s p) ps ∙ sym (fold-append marked s (stmt_makes p.stmt) (placed_make ps))

pub all_marked : (s s1 s2 s3 : Makes) (funcs : List CoreFunc) (func : CoreFunc) → s.func.now ≡ func → s1 ≡ fold marked s (plan_makes s.func.now func.plan) → s2 ≡ fold after_act s1 (func_acts funcs func) → s3 ≡ fold after_placed s2 (body_of func) → s3 ≡ fold marked s (func_makes funcs func)
all_marked s s1 s2 s3 funcs func e h1 h2 h3 =
    let a = plan_makes func func.plan in
    let b = makes func (func_acts funcs func) in
    let d = placed_make (body_of func) in
    let f1 : s1.func.now ≡ func = ap (λ z. z.func.now) h1 ∙ ap (λ f. f.now) (func_kept s (plan_makes s.func.now func.plan)) ∙ e in
    let k1 : s1 ≡ fold marked s a = h1 ∙ ap (λ f. fold marked s (plan_makes f func.plan)) e in
    let k2 : s2 ≡ fold marked s1 b = h2 ∙ acts_marked func s1 (func_acts funcs func) f1 in
    let k3 : s3 ≡ fold marked s2 d = h3 ∙ stmts_marked s2 (body_of func) in
    let m1 = fold-append marked s a (b ++ d) in
    let m2 = fold-append marked s1 b d in
    cc
