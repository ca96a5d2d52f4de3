use Rattle.std.proofs.Common.{◌≡◌, arith, length}
use Rattle.co_eval_ramps.proofs.OnTop.{no_frames}
use Rattle.co_eval_ramps.proofs.bodies.ramp_body.Goals as goal

pub returns-in-empty : goal.returns-in-empty
returns-in-empty c =
    let none : length c.args.here.now.frames.now ≡ 0 = omega (arith, c.in-empty.len_below) in
    no_frames c.args.here.now none
