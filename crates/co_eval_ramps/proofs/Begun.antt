-- The body of a coroutine, begun with its initial await.
use Rattle.std.specs.Prelude.{◌≡◌, List, [], ◌∷◌, ◌++◌, Option, None}
use Rattle.std.specs.Borrow.{Bor}
use Rattle.std.proofs.Common.{ap, ◌∙◌, append-nil}
use Rattle.co_core_tree.specs.declared.exprs.AwaitPlan.{AwaitPlan}
use Rattle.co_core_tree.specs.declared.units.PromisePlan.{PromisePlan}
use Rattle.co_eval_data.specs.Agents.{activation_of}
use Rattle.co_eval_data.specs.Seen.{frames_of}
use Rattle.co_eval_data.specs.declared.agents.Activation as agents
use Rattle.co_eval_data.specs.declared.agents.Task.TheVariants as task
use Rattle.co_eval_data.specs.declared.changes.Effect.TheVariants as effect
use Rattle.co_eval_data.specs.declared.frames.Frame.{Frame}
use Rattle.co_eval_data.specs.declared.stored.StoredObject.{StoredObject}
use Rattle.co_eval_fulls.specs.Fulls.{opens_after, unmade_here}
use Rattle.co_meaning_calls.specs.Calls.{opens_with}
use Rattle.co_meaning_calls.specs.Coroutines.{await_acts, body_begins, body_frames}
use Rattle.co_meaning_data.specs.Frames as meaning
use Rattle.co_meaning_data.specs.Frames.{Activation, Hold}
use Rattle.co_meaning_data.specs.Store.{Store}
use Rattle.co_meaning_data.specs.Turn.{Local, Turned, store, with_frames, with_store}

-- the activation of the body
abbrev body : PromisePlan → Hold → Local → Activation
body plan hold l = record { kind = meaning.OfBody; func = l.top.func; slots = l.top.slots; coroutine = l.top.coroutine; into = None; frames = body_frames plan.initial hold l }

abbrev entered : List meaning.Frame → Store → Activation → Local → Local
entered fs s a l =
    let left = with_frames (fs ++ l.top.frames) (with_store s l) in
    record left { top = a; below = left.top ∷ left.below }

nothing_added : (s : Store) → record s { objects = s.objects ++ [] } ≡ s
nothing_added s = ap (λ k. record s { objects = k }) (append-nil s.objects)

pub begun : (plan : PromisePlan) (initial : Bor AwaitPlan) (hold : Hold) (left : List Frame) (a : agents.Activation) (l : Local) (o : Option Turned) →
    initial.now ≡ plan.initial → frames_of left ≡ meaning.RampDone ∷ [] → activation_of a ≡ body plan hold l →
    o ≡ opens_after (await_acts l initial.now) (effect.Enters left [] a) [] [] (task.Awaits initial None) l →
    o ≡ body_begins plan hold l
begun plan initial hold left a l o same done made is =
    let us = unmade_here (await_acts l initial.now) l in
    let next = meaning.Awaits initial.now None in
    is
    ∙ ap (λ s. opens_with us [] next (entered (frames_of left) s (activation_of a) l)) (nothing_added (store l))
    ∙ ap (λ fs. opens_with us [] next (entered fs (store l) (activation_of a) l)) done
    ∙ ap (λ b. opens_with us [] next (entered (meaning.RampDone ∷ []) (store l) b l)) made
    ∙ ap (λ p. opens_with (unmade_here (await_acts l p) l) [] (meaning.Awaits p None) (entered (meaning.RampDone ∷ []) (store l) (body plan hold l) l)) same

-- the same, where the lists that are empty are known to be so
pub begun_as : (plan : PromisePlan) (initial : Bor AwaitPlan) (hold : Hold) (left outer inner : List Frame) (objects : List StoredObject) (a : agents.Activation) (l : Local) (o : Option Turned) →
    initial.now ≡ plan.initial → frames_of left ≡ meaning.RampDone ∷ [] → activation_of a ≡ body plan hold l → objects ≡ [] → outer ≡ [] → inner ≡ [] →
    o ≡ opens_after (await_acts l initial.now) (effect.Enters left objects a) outer inner (task.Awaits initial None) l →
    o ≡ body_begins plan hold l
begun_as plan initial hold left outer inner objects a l o same done made none_new none_out none_in is =
    let list = await_acts l initial.now in
    begun plan initial hold left a l o same done made
    (is
    ∙ ap (λ (k : List StoredObject). opens_after list (effect.Enters left k a) outer inner (task.Awaits initial None) l) none_new
    ∙ ap (λ (k : List Frame). opens_after list (effect.Enters left [] a) k inner (task.Awaits initial None) l) none_out
    ∙ ap (λ (k : List Frame). opens_after list (effect.Enters left [] a) [] k (task.Awaits initial None) l) none_in)
