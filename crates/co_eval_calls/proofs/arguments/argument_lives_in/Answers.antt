use Rattle.co_eval_data.specs.Agents.{local_of}
use Rattle.co_eval_data.specs.Seen.{frames_of, inits_in}
use Rattle.co_eval_calls.proofs.OnTop.{argument_beneath}
use Rattle.co_eval_calls.proofs.arguments.argument_lives_in.Goals as goal

pub returns : goal.returns
returns c =
    argument_beneath c.args.object c.in_ok-frames.frames c.whole-place.result c.args.call.now c.in_ok-call.call c.args.rest (local_of c.args.here.now) (frames_of c.args.below.now)
    c.requires (c.in_ok-call.ensures (inits_in c.args.rest)) c.whole-place.ensures c.in_ok-frames.ensures
