use Rattle.std.specs.Prelude.{◌≡◌, if◌then◌else◌, List, [], ◌∷◌, ◌++◌}
use Rattle.std.proofs.Common.{ap, ◌∙◌}
use Rattle.std.proofs.lemmas.Result.{IfOk-weaker}
use Rattle.co_core_tree.specs.declared.exprs.Init.{Init}
use Rattle.co_eval_data.specs.Agents.{local_of}
use Rattle.co_eval_data.specs.Seen.{alive_of, call_of, frame_of, frames_of}
use Rattle.co_eval_data.specs.declared.frames.Frame.{Frame}
use Rattle.co_eval_data.specs.declared.frames.Step.TheVariants as step
use Rattle.co_eval_ramps.proofs.OnTop.{one_more}
use Rattle.co_meaning_calls.specs.Coroutines.{ctor_call}
use Rattle.co_meaning_data.specs.Frames as meaning
use Rattle.co_eval_ramps.proofs.promises.constructor_frames.Goals as goal

pub returns : goal.returns
returns c =
    let l = local_of c.args.here.now in
    let plan = c.args.plan.now in
    let call = c.in_ok-call.call in
    let below = meaning.Drops ∷ meaning.RampMade (alive_of c.args.promise) ∷ [] in
    let top : Frame = record { step = step.Calling call; node = c.arguments_left.result } in
    let args = if plan.with_params then plan.ctor_args else [] in
    IfOk-weaker c.with.result
    (λ (fs : List Frame). fs ≡ c.in_ok-one.one ++ top ∷ [])
    (λ (fs : List Frame). frames_of fs ≡ meaning.Calling (ctor_call c.args.func plan.with_params plan.ctor_args c.args.promise.object l) ∷ below)
    (λ fs is.
    ap frames_of is
    ∙ one_more c.in_ok-one.one top
    ∙ ap (λ (list : List meaning.Frame). frame_of top ∷ list) c.in_ok-one.ensures
    ∙ ap (λ (rest : List Init). meaning.Calling (call_of call rest) ∷ below) c.arguments_left.ensures
    ∙ ap (λ (k : meaning.Call). meaning.Calling k ∷ below) (c.in_ok-call.ensures args))
    c.with.ensures
