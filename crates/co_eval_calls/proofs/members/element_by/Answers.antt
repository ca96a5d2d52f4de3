use Rattle.std.specs.Prelude.{Some}
use Rattle.co_eval_calls.proofs.Constructed.{field_opened}
use Rattle.co_eval_data.specs.Agents.{local_of}
use Rattle.co_eval_data.specs.Changed.{turned_by}
use Rattle.co_eval_calls.proofs.members.element_by.Goals as goal

pub returns : goal.returns
returns c =
    let l = local_of c.args.here.now in
    field_opened c.args.place.now c.in_ok-field.field c.in_ok-around.around c.args.built c.args.rest c.args.init c.in_ok-one.one c.in_ok-frames.frames l (Some (turned_by c.above.result l))
    c.in_ok-field.ensures c.in_ok-around.ensures c.in_ok-one.ensures c.in_ok-frames.ensures c.above.ensures
