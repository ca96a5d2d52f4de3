use Rattle.std.specs.Prelude.{◌≡◌, Some, slice_get}
use Rattle.std.proofs.Common.{rules}
use Rattle.co_eval_calls.proofs.Constructed.{elements_left}
use Rattle.co_eval_data.specs.Agents.{local_of}
use Rattle.co_eval_data.specs.Changed.{turned_by}
use Rattle.co_eval_data.specs.Seen.{inits_in, place_of}
use Rattle.co_eval_calls.proofs.members.next_of_list.Goals as goal

pub returns-in_ok-change-in-Some : goal.returns-in_ok-change-in-Some
returns-in_ok-change-in-Some c =
    let l = local_of c.args.here.now in
    let first : slice_get c.args.list.now c.args.from ≡ Some c.in-Some.init.now = search rules in
    elements_left (place_of c.args.place.now) c.args.built c.args.from c.in_ok-next-in-Some.next (inits_in c.args.node) c.args.list.now c.in-Some.init.now l (Some (turned_by c.in_ok-change-in-Some.change l))
    c.requires first c.in_ok-next-in-Some.ensures c.in_ok-change-in-Some.ensures
