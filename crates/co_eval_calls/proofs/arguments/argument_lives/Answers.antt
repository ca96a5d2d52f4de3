use Rattle.std.proofs.Common.{◌≡◌, arith, length}
use Rattle.co_eval_calls.proofs.OnTop.{no_frames}
use Rattle.co_eval_calls.proofs.arguments.argument_lives.Goals as goal

pub returns-in-empty : goal.returns-in-empty
returns-in-empty c =
    let none : length c.args.here.now.frames.now ≡ 0 = omega (arith, c.in-empty.len_below) in
    no_frames c.args.here.now c.args.object none
