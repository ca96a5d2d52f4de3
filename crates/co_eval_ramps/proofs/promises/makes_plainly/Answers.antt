use Rattle.std.specs.Prelude.{Some}
use Rattle.co_eval_data.specs.Agents.{local_of}
use Rattle.co_eval_data.specs.Changed.{turned_by}
use Rattle.co_eval_ramps.proofs.Promised.{plainly_as}
use Rattle.co_eval_ramps.proofs.promises.makes_plainly.Goals as goal

pub returns : goal.returns
returns c =
    let l = local_of c.args.here.now in
    plainly_as c.args.plan.now c.args.slot c.args.of.now c.next_object-object.result c.counted_in-coroutine.result c.in_ok-stored.stored c.in_ok-frames.frames l (Some (turned_by c.makes.result l))
    c.requires.plain c.counted_in-coroutine.ensures c.next_object-object.ensures c.in_ok-stored.ensures c.in_ok-frames.ensures c.makes.ensures
