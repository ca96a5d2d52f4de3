-- The promise that is made, with a constructor and without.
use Rattle.std.specs.Prelude.{◌≡◌, ℕ, zero, suc, if◌then◌else◌, List, [], ◌∷◌, ◌++◌, Option, None, Some}
use Rattle.std.proofs.Common.{refl, ap, ◌∙◌, sym}
use Rattle.co_base.specs.declared.ids.FuncId.{FuncId}
use Rattle.co_core_tree.specs.Slots.{class_params, temporaries}
use Rattle.co_core_tree.specs.declared.exprs.Init.{Init}
use Rattle.co_core_tree.specs.declared.units.CoreFunc.{CoreFunc}
use Rattle.co_core_tree.specs.declared.units.PromisePlan.{PromisePlan}
use Rattle.co_eval_data.specs.Agents.{object_of}
use Rattle.co_eval_data.specs.Changed.{added, goes_after}
use Rattle.co_eval_data.specs.Seen.{frames_of}
use Rattle.co_eval_data.specs.declared.agents.Task.TheVariants as task
use Rattle.co_eval_data.specs.declared.changes.Effect.TheVariants as effect
use Rattle.co_eval_data.specs.declared.frames.Frame.{Frame}
use Rattle.co_eval_data.specs.declared.outcomes.Outcome.TheVariants as outcome
use Rattle.co_eval_data.specs.declared.stored.StoredObject as eval
use Rattle.co_eval_fulls.specs.Fulls.{opens_after, unmade_here}
use Rattle.co_eval_ramps.proofs.Filled.{filled, indeterminate}
use Rattle.co_meaning_calls.specs.Calls.{arguments_acts, opens_with, unmade_all, without}
use Rattle.co_meaning_calls.specs.Coroutines.{construct_promise, coroutines, ctor_call, make_promise_in, promised, promised_by, span_in}
use Rattle.co_meaning_calls.specs.Objects.{counted_in, with_raw}
use Rattle.co_meaning_data.specs.Frames as meaning
use Rattle.co_meaning_data.specs.Frames.{Alive, Coroutine}
use Rattle.co_meaning_data.specs.Store.{Store, StoredObject, add_object, next_object, raw_object, set_part, whole}
use Rattle.co_meaning_data.specs.Turn.{Local, Program, Turned, classes, func_of, funcs, goes, pushed, store, with_frames, with_store}
use Rattle.co_meaning_data.specs.Undefined.{numbered}
use Rattle.co_meaning_data.specs.declared.values.Cell.TheVariants as cell
use Rattle.co_types.specs.declared.types.CoType.{CoType}

-- ---- what the note of a promise leaves as it was

program_noted : (n x : ℕ) (l : Local) (c : Option Coroutine) → (promised n x l c).program ≡ l.program
program_noted n x l None = refl
program_noted zero x l (Some c) = refl
program_noted (suc n) x l (Some c) = refl

program_kept : (x : ℕ) (l : Local) (c : Option ℕ) → (promised_by x l c).program ≡ l.program
program_kept x l None = refl
program_kept x l (Some n) = program_noted n x l (numbered (coroutines l) n)

func_noted : (n x : ℕ) (l : Local) (c : Option Coroutine) → func_of (promised n x l c) ≡ func_of l
func_noted n x l None = refl
func_noted zero x l (Some c) = refl
func_noted (suc n) x l (Some c) = refl

func_kept : (x : ℕ) (l : Local) (c : Option ℕ) → func_of (promised_by x l c) ≡ func_of l
func_kept x l None = refl
func_kept x l (Some n) = func_noted n x l (numbered (coroutines l) n)

store_noted : (n x : ℕ) (l : Local) (c : Option Coroutine) → store (promised n x l c) ≡ store l
store_noted n x l None = refl
store_noted zero x l (Some c) = refl
store_noted (suc n) x l (Some c) = refl

store_kept : (x : ℕ) (l : Local) (c : Option ℕ) → store (promised_by x l c) ≡ store l
store_kept x l None = refl
store_kept x l (Some n) = store_noted n x l (numbered (coroutines l) n)

noted_in : (n x : ℕ) (s : Store) (l : Local) (c : Option Coroutine) → with_store s (promised n x l c) ≡ promised n x (with_store s l) c
noted_in n x s l None = refl
noted_in zero x s l (Some c) = refl
noted_in (suc n) x s l (Some c) = refl

promised_in : (x : ℕ) (s : Store) (l : Local) (c : Option ℕ) → with_store s (promised_by x l c) ≡ promised_by x (with_store s l) c
promised_in x s l None = refl
promised_in x s l (Some n) = noted_in n x s l (numbered (coroutines l) n)

-- ---- by a constructor

-- its call, opened in the state after the promise was noted
abbrev opened : FuncId → List Init → ℕ → Alive → Local → List CoreFunc → Option CoreFunc → Option Turned
opened f args x promise l fs func =
    opens_with (unmade_all func (temporaries (arguments_acts fs (without 1 (class_params fs f)) args)))
    (meaning.Calling (record { func = f; given = meaning.At (whole x) ∷ []; objects = []; rest = args; into = None; at = span_in func }) ∷ meaning.Drops ∷ meaning.RampMade promise ∷ [])
    (meaning.Comes meaning.Passes) l

pub constructed : (plan : PromisePlan) (slot : ℕ) (of : CoType) (f : FuncId) (args : List Init) (raw : eval.StoredObject) (outer inner : List Frame) (l : Local) (o : Option Turned) →
    plan.ctor ≡ Some f → args ≡ (if plan.with_params then plan.ctor_args else []) → object_of raw ≡ raw_object (classes l) of None (counted_in l of) →
    frames_of outer ≡ meaning.RampResult ∷ [] →
    frames_of inner ≡ meaning.Calling (ctor_call f plan.with_params plan.ctor_args (next_object (store l)) l) ∷ meaning.Drops ∷ meaning.RampMade (record { object = next_object (store l); coroutine = counted_in l of }) ∷ [] →
    o ≡ opens_after (arguments_acts (funcs l) (without 1 (class_params (funcs l) f)) args) (effect.AddsPromise slot raw) outer inner (task.Comes outcome.Passes) l →
    o ≡ make_promise_in plan slot l (Some of)
constructed plan slot of f args raw outer inner l o by given is_raw around within is =
    let x = next_object (store l) in
    let promise : Alive = record { object = x; coroutine = counted_in l of } in
    let all = if plan.with_params then plan.ctor_args else [] in
    let base = with_raw slot of (counted_in l of) l in
    let made = promised_by x base l.top.coroutine in
    let after = pushed meaning.RampResult made in
    let us = unmade_here (arguments_acts (funcs l) (without 1 (class_params (funcs l) f)) args) l in
    let next = meaning.Comes meaning.Passes in
    is
    ∙ ap (λ (r : StoredObject). let m = promised_by x (added slot r l) l.top.coroutine in opens_with us (frames_of inner) next (with_frames (frames_of outer ++ m.top.frames) m)) is_raw
    ∙ ap (λ (fs : List meaning.Frame). opens_with us (frames_of inner) next (with_frames (fs ++ made.top.frames) made)) around
    ∙ ap (λ (fs : List meaning.Frame). opens_with us fs next after) within
    ∙ ap (λ (list : List Init). opens_with (unmade_here (arguments_acts (funcs l) (without 1 (class_params (funcs l) f)) list) l) (meaning.Calling (ctor_call f plan.with_params plan.ctor_args x l) ∷ meaning.Drops ∷ meaning.RampMade promise ∷ []) next after) given
    ∙ sym (ap (λ (p : Program). opened f all x promise after p.unit.funcs (func_of l)) (program_kept x base l.top.coroutine))
    ∙ sym (ap (λ (func : Option CoreFunc). opened f all x promise after (funcs made) func) (func_kept x base l.top.coroutine))
    ∙ sym (ap (construct_promise plan promise after) by)

-- ---- without one

pub plainly : (plan : PromisePlan) (slot : ℕ) (of : CoType) (made : eval.StoredObject) (list : List Frame) (l : Local) (o : Option Turned) →
    plan.ctor ≡ None → object_of made ≡ indeterminate (classes l) of (counted_in l of) →
    frames_of list ≡ meaning.RampMade (record { object = next_object (store l); coroutine = counted_in l of }) ∷ meaning.RampResult ∷ [] →
    o ≡ goes_after (effect.AddsPromise slot made) list (task.Comes outcome.Passes) l →
    o ≡ make_promise_in plan slot l (Some of)
plainly plan slot of made list l o by is_made above is =
    let x = next_object (store l) in
    let promise : Alive = record { object = x; coroutine = counted_in l of } in
    let raw = raw_object (classes l) of None (counted_in l of) in
    let filling = indeterminate (classes l) of (counted_in l of) in
    let base = with_raw slot of (counted_in l of) l in
    let noted = promised_by x base l.top.coroutine in
    let next = meaning.Comes meaning.Passes in
    let whole_promise : Local → Option Turned = λ m. goes next (pushed (meaning.RampMade promise) (pushed meaning.RampResult m)) in
    is
    ∙ ap (λ (r : StoredObject). let m = promised_by x (added slot r l) l.top.coroutine in goes next (with_frames (frames_of list ++ m.top.frames) m)) is_made
    ∙ ap (λ (fs : List meaning.Frame). let m = promised_by x (added slot filling l) l.top.coroutine in goes next (with_frames (fs ++ m.top.frames) m)) above
    ∙ sym (ap whole_promise (promised_in x (add_object filling (store l)) base l.top.coroutine))
    ∙ sym (ap (λ (s : Store). whole_promise (with_store s noted)) (filled (classes l) of (counted_in l of) (store l)))
    ∙ sym (ap (λ (s : Store). whole_promise (with_store (set_part (classes l) (whole x) cell.Indeterminate s) noted)) (store_kept x base l.top.coroutine))
    ∙ sym (ap (λ (p : Program). whole_promise (with_store (set_part p.unit.classes (whole x) cell.Indeterminate (store noted)) noted)) (program_kept x base l.top.coroutine))
    ∙ sym (ap (construct_promise plan promise (pushed meaning.RampResult noted)) by)

-- ---- the same, where the number of the promise and the coroutine in which it is counted are known by other names

pub constructed_as : (plan : PromisePlan) (slot : ℕ) (of : CoType) (f : FuncId) (args : List Init) (x : ℕ) (k : Option ℕ) (raw : eval.StoredObject) (outer inner : List Frame) (l : Local) (o : Option Turned) →
    plan.ctor ≡ Some f → args ≡ (if plan.with_params then plan.ctor_args else []) → k ≡ counted_in l of → x ≡ next_object (store l) → object_of raw ≡ raw_object (classes l) of None k →
    frames_of outer ≡ meaning.RampResult ∷ [] →
    frames_of inner ≡ meaning.Calling (ctor_call f plan.with_params plan.ctor_args x l) ∷ meaning.Drops ∷ meaning.RampMade (record { object = x; coroutine = k }) ∷ [] →
    o ≡ opens_after (arguments_acts (funcs l) (without 1 (class_params (funcs l) f)) args) (effect.AddsPromise slot raw) outer inner (task.Comes outcome.Passes) l →
    o ≡ make_promise_in plan slot l (Some of)
constructed_as plan slot of f args x k raw outer inner l o by given counted number is_raw around within is =
    constructed plan slot of f args raw outer inner l o by given
    (is_raw ∙ ap (λ c. raw_object (classes l) of None c) counted)
    around
    (within
    ∙ ap (λ n. meaning.Calling (ctor_call f plan.with_params plan.ctor_args n l) ∷ meaning.Drops ∷ meaning.RampMade (record { object = n; coroutine = k }) ∷ []) number
    ∙ ap (λ c. meaning.Calling (ctor_call f plan.with_params plan.ctor_args (next_object (store l)) l) ∷ meaning.Drops ∷ meaning.RampMade (record { object = next_object (store l); coroutine = c }) ∷ []) counted)
    is

pub plainly_as : (plan : PromisePlan) (slot : ℕ) (of : CoType) (x : ℕ) (k : Option ℕ) (made : eval.StoredObject) (list : List Frame) (l : Local) (o : Option Turned) →
    plan.ctor ≡ None → k ≡ counted_in l of → x ≡ next_object (store l) → object_of made ≡ indeterminate (classes l) of k →
    frames_of list ≡ meaning.RampMade (record { object = x; coroutine = k }) ∷ meaning.RampResult ∷ [] →
    o ≡ goes_after (effect.AddsPromise slot made) list (task.Comes outcome.Passes) l →
    o ≡ make_promise_in plan slot l (Some of)
plainly_as plan slot of x k made list l o by counted number is_made above is =
    plainly plan slot of made list l o by
    (is_made ∙ ap (λ c. indeterminate (classes l) of c) counted)
    (above
    ∙ ap (λ n. meaning.RampMade (record { object = n; coroutine = k }) ∷ meaning.RampResult ∷ []) number
    ∙ ap (λ c. meaning.RampMade (record { object = next_object (store l); coroutine = c }) ∷ meaning.RampResult ∷ []) counted)
    is
