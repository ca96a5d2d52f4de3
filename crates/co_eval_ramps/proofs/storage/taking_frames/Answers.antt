use Rattle.std.specs.Prelude.{◌≡◌, List, [], ◌∷◌}
use Rattle.std.proofs.Common.{ap, ◌∙◌}
use Rattle.std.proofs.lemmas.Result.{IfOk-weaker}
use Rattle.co_eval_data.specs.Agents.{local_of}
use Rattle.co_eval_data.specs.Seen.{frame_with, frames_of}
use Rattle.co_eval_data.specs.declared.frames.Frame.{Frame}
use Rattle.co_eval_data.specs.declared.frames.Node.TheVariants as node
use Rattle.co_eval_data.specs.declared.frames.Step.TheVariants as step
use Rattle.co_meaning_calls.specs.Coroutines.{take_call}
use Rattle.co_meaning_data.specs.Frames as meaning
use Rattle.co_eval_ramps.proofs.storage.taking_frames.Goals as goal

pub returns : goal.returns
returns c =
    let l = local_of c.args.here.now in
    let call = c.in_ok-call.call in
    IfOk-weaker c.two.result
    (λ (fs : List Frame). frames_of fs ≡ frame_with (step.Calling call) node.Nothing ∷ frame_with step.RampTaken node.Nothing ∷ [])
    (λ (fs : List Frame). frames_of fs ≡ meaning.Calling (take_call c.args.func [] l) ∷ meaning.RampTaken ∷ [])
    (λ fs is. is ∙ ap (λ (k : meaning.Call). meaning.Calling k ∷ meaning.RampTaken ∷ []) (c.in_ok-call.ensures []))
    c.two.ensures
