-- Before which calls a coroutine is suspended.
use Rattle.std.specs.Prelude.{◌≡◌, ◌≤◌, ℕ, ◌-◌, true, List, [], ◌∷◌, length, take, get_or, Option, None, Some}
use Rattle.std.proofs.Common.{refl, ap, ◌∙◌, sym, arith}
use Rattle.co_base.specs.declared.span.Span.{Span}
use Rattle.co_core_tree.specs.declared.exprs.AwaitPlan.{AwaitPlan}
use Rattle.co_eval_calls.proofs.OnTop.{last_on_top}
use Rattle.co_eval_coroutines.proofs.Tops.{is_other_step, never_waits, never_waits_loaded, other_step}
use Rattle.co_eval_coroutines.specs.Calling.{load_frames, taken_with}
use Rattle.co_eval_data.specs.Agents.{local_of}
use Rattle.co_eval_data.specs.Changed.{dropped, without_top}
use Rattle.co_eval_data.specs.Seen.{await_in, frame_of, frame_with, frames_of, place_if, with_await}
use Rattle.co_eval_data.specs.declared.frames.Frame.{Frame}
use Rattle.co_eval_data.specs.declared.frames.Node.{Node}
use Rattle.co_eval_data.specs.declared.frames.Step.{Step}
use Rattle.co_eval_data.specs.declared.frames.Step.TheVariants as step
use Rattle.co_eval_data.specs.declared.here.Here.{Here}
use Rattle.co_eval_data.specs.declared.values.Place as values
use Rattle.co_meaning.specs.Step.{or_enter}
use Rattle.co_meaning_calls.specs.Coroutines.{suspend, suspend_as, suspends_before}
use Rattle.co_meaning_data.specs.Frames as meaning
use Rattle.co_meaning_data.specs.Store.{Place}
use Rattle.co_meaning_data.specs.Turn.{Local, Turned, with_frames}

-- ---- the coroutine that is suspended

pub suspends_some : (call : meaning.Call) (l m : Local) (n : ℕ) (plan : AwaitPlan) (into : Option Place) (own : List ℕ) (fs : List meaning.Frame) (t : Option Turned) →
    suspends_before call l.top.frames l ≡ Some (suspend l.top.coroutine plan into own fs meaning.Passes m) → l.top.coroutine ≡ Some n → t ≡ suspend_as n plan into own fs meaning.Passes m → t ≡ or_enter call l (suspends_before call l.top.frames l)
suspends_some call l m n plan into own fs t before here is =
    is ∙ sym (ap (λ c. suspend c plan into own fs meaning.Passes m) here) ∙ sym (ap (or_enter call l) before)

pub suspends_none : (call : meaning.Call) (l m : Local) (plan : AwaitPlan) (into : Option Place) (own : List ℕ) (fs : List meaning.Frame) →
    suspends_before call l.top.frames l ≡ Some (suspend l.top.coroutine plan into own fs meaning.Passes m) → l.top.coroutine ≡ None → None ≡ or_enter call l (suspends_before call l.top.frames l)
suspends_none call l m plan into own fs before here =
    sym (ap (λ c. suspend c plan into own fs meaning.Passes m) here) ∙ sym (ap (or_enter call l) before)

-- ---- the frames below the call

pub by_await : (call : meaning.Call) (plan : AwaitPlan) (n : Node) (into : Option values.Place) (own : List ℕ) (fs : List meaning.Frame) (l : Local) → l.top.frames ≡ frame_with (step.AwaitSuspend into own) n ∷ fs → await_in n ≡ Some plan →
    suspends_before call l.top.frames l ≡ Some (suspend l.top.coroutine plan (place_if into) own (meaning.Calling call ∷ load_frames None) meaning.Passes (dropped (taken_with None) l))
by_await call plan n into own fs l top is =
    ap (λ gs. suspends_before call gs l) top
    ∙ ap (λ o. suspends_before call (with_await (λ p. meaning.AwaitSuspend p (place_if into) own) o ∷ fs) l) is
    ∙ ap (λ gs. Some (suspend l.top.coroutine plan (place_if into) own (meaning.Calling call ∷ []) meaning.Passes (with_frames gs l))) (sym (ap (without_top 1) top))

pub no_await : (call : meaning.Call) (n : Node) (into : Option values.Place) (own : List ℕ) (fs : List meaning.Frame) (l : Local) → l.top.frames ≡ frame_with (step.AwaitSuspend into own) n ∷ fs → await_in n ≡ None →
    suspends_before call l.top.frames l ≡ None
no_await call n into own fs l top is =
    ap (λ gs. suspends_before call gs l) top
    ∙ ap (λ o. suspends_before call (with_await (λ p. meaning.AwaitSuspend p (place_if into) own) o ∷ fs) l) is

pub by_loaded_await : (call : meaning.Call) (plan : AwaitPlan) (at : Span) (n : Node) (into : Option values.Place) (own : List ℕ) (fs : List meaning.Frame) (l : Local) →
    l.top.frames ≡ meaning.LoadFrom at ∷ frame_with (step.AwaitSuspend into own) n ∷ fs → await_in n ≡ Some plan →
    suspends_before call l.top.frames l ≡ Some (suspend l.top.coroutine plan (place_if into) own (meaning.Calling call ∷ load_frames (Some at)) meaning.Passes (dropped (taken_with (Some at)) l))
by_loaded_await call plan at n into own fs l top is =
    ap (λ gs. suspends_before call gs l) top
    ∙ ap (λ o. suspends_before call (meaning.LoadFrom at ∷ with_await (λ p. meaning.AwaitSuspend p (place_if into) own) o ∷ fs) l) is
    ∙ ap (λ gs. Some (suspend l.top.coroutine plan (place_if into) own (meaning.Calling call ∷ meaning.LoadFrom at ∷ []) meaning.Passes (with_frames gs l))) (sym (ap (without_top 2) top))

pub no_loaded_await : (call : meaning.Call) (at : Span) (n : Node) (into : Option values.Place) (own : List ℕ) (fs : List meaning.Frame) (l : Local) →
    l.top.frames ≡ meaning.LoadFrom at ∷ frame_with (step.AwaitSuspend into own) n ∷ fs → await_in n ≡ None → suspends_before call l.top.frames l ≡ None
no_loaded_await call at n into own fs l top is =
    ap (λ gs. suspends_before call gs l) top
    ∙ ap (λ o. suspends_before call (meaning.LoadFrom at ∷ with_await (λ p. meaning.AwaitSuspend p (place_if into) own) o ∷ fs) l) is

-- ---- other frames

no_wait : (s : Step) → ((into : Option values.Place) (own : List ℕ) → s ≡ step.AwaitSuspend into own → ⊥) → ((at : Span) → s ≡ step.LoadFrom at → ⊥) → is_other_step s ≡ true
no_wait (step.AwaitSuspend into own) await load = absurd (await into own refl)
no_wait (step.LoadFrom at) await load = absurd (load at refl)
no_wait s await load = refl

pub other_on_top : (call : meaning.Call) (s : Step) (n : Node) (fs : List meaning.Frame) (l : Local) → l.top.frames ≡ frame_with s n ∷ fs →
    ((into : Option values.Place) (own : List ℕ) → s ≡ step.AwaitSuspend into own → ⊥) → ((at : Span) → s ≡ step.LoadFrom at → ⊥) → suspends_before call l.top.frames l ≡ None
other_on_top call s n fs l top await load =
    ap (λ gs. suspends_before call gs l) top ∙ never_waits call (frame_with s n) fs l (other_step s n (no_wait s await load))

beneath : (call : meaning.Call) (at : Span) (s : Step) (n : Node) (fs : List meaning.Frame) (l : Local) → ((into : Option values.Place) (own : List ℕ) → s ≡ step.AwaitSuspend into own → ⊥) →
    suspends_before call (meaning.LoadFrom at ∷ frame_with s n ∷ fs) l ≡ None
beneath call at (step.AwaitSuspend into own) n fs l await = absurd (await into own refl)
beneath call at (step.LoadFrom a) n fs l await = refl
beneath call at s n fs l await = never_waits_loaded call at (frame_with s n) fs l (other_step s n refl)

pub other_beneath : (call : meaning.Call) (at : Span) (s : Step) (n : Node) (fs : List meaning.Frame) (l : Local) → l.top.frames ≡ meaning.LoadFrom at ∷ frame_with s n ∷ fs →
    ((into : Option values.Place) (own : List ℕ) → s ≡ step.AwaitSuspend into own → ⊥) → suspends_before call l.top.frames l ≡ None
other_beneath call at s n fs l top await = ap (λ gs. suspends_before call gs l) top ∙ beneath call at s n fs l await

pub next_beneath : (at : Span) (xs : List Frame) (f : Frame) (l : Local) → l.top.frames ≡ meaning.LoadFrom at ∷ frames_of xs → 1 ≤ length xs → f ≡ get_or xs (length xs - 1) f →
    l.top.frames ≡ meaning.LoadFrom at ∷ frame_of f ∷ frames_of (take (length xs - 1) xs)
next_beneath at xs f l top some is = top ∙ ap (λ gs. meaning.LoadFrom at ∷ gs) (last_on_top xs f some is)

none_left : (call : meaning.Call) (at : Span) (xs : List Frame) (l : Local) → length xs ≡ 0 → suspends_before call (meaning.LoadFrom at ∷ frames_of xs) l ≡ None
none_left call at [] l e = refl
none_left call at (x ∷ xs) l e = absurd (omega (arith, e))

pub none_beneath : (call : meaning.Call) (at : Span) (xs : List Frame) (l : Local) → l.top.frames ≡ meaning.LoadFrom at ∷ frames_of xs → length xs ≡ 0 → suspends_before call l.top.frames l ≡ None
none_beneath call at xs l top e = ap (λ gs. suspends_before call gs l) top ∙ none_left call at xs l e

none_on_top : (call : meaning.Call) (xs : List Frame) (l : Local) → length xs ≡ 0 → suspends_before call (frames_of xs) l ≡ None
none_on_top call [] l e = refl
none_on_top call (x ∷ xs) l e = absurd (omega (arith, e))

pub no_frames : (call : meaning.Call) (h : Here) → length h.frames.now ≡ 0 → suspends_before call (local_of h).top.frames (local_of h) ≡ None
unfolding local_of
no_frames call h e = none_on_top call h.frames.now (local_of h) e
