use Rattle.std.specs.Prelude.{◌≡◌, List, [], ◌∷◌}
use Rattle.std.proofs.Common.{ap, ◌∙◌}
use Rattle.std.proofs.lemmas.Result.{IfOk-weaker}
use Rattle.co_eval_data.specs.Agents.{local_of}
use Rattle.co_eval_data.specs.Seen.{frames_of, inits_in}
use Rattle.co_eval_data.specs.declared.frames.Frame.{Frame}
use Rattle.co_eval_data.specs.declared.frames.Step.TheVariants as step
use Rattle.co_meaning_calls.specs.Coroutines.{take_call}
use Rattle.co_meaning_data.specs.Frames as meaning
use Rattle.co_eval_ramps.proofs.storage.taking_frame.Goals as goal

pub returns : goal.returns
returns c =
    let l = local_of c.args.here.now in
    let call = c.in_ok-call.call in
    IfOk-weaker c.one.result
    (λ (fs : List Frame). fs ≡ record { step = step.Calling call; node = c.args.rest } ∷ [])
    (λ (fs : List Frame). frames_of fs ≡ meaning.Calling (take_call c.args.func (inits_in c.args.rest) l) ∷ [])
    (λ fs is. ap frames_of is ∙ ap (λ (k : meaning.Call). meaning.Calling k ∷ []) (c.in_ok-call.ensures (inits_in c.args.rest)))
    c.one.ensures
