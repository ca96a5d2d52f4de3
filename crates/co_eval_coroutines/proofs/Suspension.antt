-- What is left where a coroutine is suspended.
use Rattle.std.specs.Prelude.{◌≡◌, ℕ, suc, List, [], ◌∷◌, ◌++◌, Option, None, Some}
use Rattle.std.proofs.Common.{ap, ◌∙◌}
use Rattle.co_core_tree.specs.declared.exprs.AwaitPlan.{AwaitPlan}
use Rattle.co_eval_coroutines.specs.Calling.{suspended_under}
use Rattle.co_eval_data.specs.Agents.{activation_of}
use Rattle.co_eval_data.specs.Changed.{dropped, turned_by}
use Rattle.co_eval_data.specs.Seen.{frames_of, outcome_of}
use Rattle.co_eval_data.specs.declared.agents.Activation.{Activation}
use Rattle.co_eval_data.specs.declared.agents.Task.TheVariants as task
use Rattle.co_eval_data.specs.declared.changes.Effect.TheVariants as effect
use Rattle.co_eval_data.specs.declared.frames.Frame.{Frame}
use Rattle.co_eval_data.specs.declared.outcomes.Outcome.{Outcome}
use Rattle.co_meaning_calls.specs.Coroutines.{serial_now, set_condition, suspend_as, suspended_at}
use Rattle.co_meaning_data.specs.Frames as meaning
use Rattle.co_meaning_data.specs.Store.{Place}
use Rattle.co_meaning_data.specs.Turn.{Local, Turned, goes}

-- the coroutine goes on with these frames
abbrev going_on : ℕ → ℕ → meaning.Outcome → meaning.Activation → Local → List meaning.Frame → Option Turned
going_on n point o a l fs =
    let rest : meaning.Continuation = record { slots = l.top.slots; frames = fs ++ l.top.frames } in
    goes (meaning.Comes o) (record (set_condition n (suspended_at point (suc (serial_now n l)) rest) l) { top = a })

pub is_suspended : (taken n : ℕ) (plan : AwaitPlan) (into : Option Place) (fs : List Frame) (a : Activation) (o : Outcome) (l : Local) → frames_of fs ≡ meaning.AwaitResume plan into ∷ [] →
    Some (turned_by (record { taken = taken; effect = effect.Suspends n plan.point.0 fs a; frames = []; doing = record { opens = None; task = task.Comes o } }) l) ≡ goes (meaning.Comes (outcome_of o)) (suspended_under n plan into (activation_of a) (dropped taken l))
unfolding turned_by
is_suspended taken n plan into fs a o l is = ap (going_on n plan.point.0 (outcome_of o) (activation_of a) (dropped taken l)) is

-- the parked activation with these frames above the frame of the answer
abbrev parked_with : ℕ → AwaitPlan → Option Place → meaning.Outcome → Local → ℕ → List meaning.Frame → Option Turned
parked_with n plan into o l serial fs =
    goes (meaning.Comes o) (suspended_under n plan into (record { kind = meaning.OfParked n serial plan.answer; func = l.top.func; slots = []; coroutine = None; into = None; frames = fs }) l)

pub is_parked : (n serial : ℕ) (plan : AwaitPlan) (into : Option Place) (own : List ℕ) (fs gs : List meaning.Frame) (a : meaning.Activation) (o : meaning.Outcome) (l : Local) (t : Option Turned) → serial ≡ suc (serial_now n l) →
    gs ≡ fs ++ meaning.Answers n serial plan.answer own plan.span ∷ [] → a ≡ record { kind = meaning.OfParked n serial plan.answer; func = l.top.func; slots = []; coroutine = None; into = None; frames = gs } →
    t ≡ goes (meaning.Comes o) (suspended_under n plan into a l) → t ≡ suspend_as n plan into own fs o l
is_parked n serial plan into own fs gs a o l t next all parked is =
    is
    ∙ ap (λ b. goes (meaning.Comes o) (suspended_under n plan into b l)) parked
    ∙ ap (parked_with n plan into o l serial) all
    ∙ ap (λ k. parked_with n plan into o l k (fs ++ meaning.Answers n k plan.answer own plan.span ∷ [])) next
