use Rattle.std.specs.Prelude.{◌≡◌, slice_get, None, Some, IfOk}
use Rattle.std.proofs.Common.{rules, sym, subst}
use Rattle.co_eval_data.specs.Agents.{local_of}
use Rattle.co_eval_data.specs.Changed.{after}
use Rattle.co_eval_ramps.proofs.Left.{first_left, none_left}
use Rattle.co_meaning_calls.specs.Coroutines.{ramp_copies}
use Rattle.co_eval_ramps.proofs.copies.copies_of_list.Goals as goal

pub returns-in_ok-next-in-Some : goal.returns-in_ok-next-in-Some
returns-in_ok-next-in-Some c =
    let l = local_of c.args.here.now in
    let first : slice_get c.args.list.now c.args.from ≡ Some c.in-Some.copy.now = search rules in
    subst (λ k. IfOk c.copies_next.result (λ x. after x l ≡ ramp_copies k l))
    (sym (first_left c.args.list.now c.args.from c.in_ok-next-in-Some.next c.in-Some.copy.now first c.in_ok-next-in-Some.ensures)) c.copies_next.ensures

pub returns-in-None : goal.returns-in-None
returns-in-None c =
    let l = local_of c.args.here.now in
    let none : slice_get c.args.list.now c.args.from ≡ None = search rules in
    subst (λ k. IfOk c.make_promise.result (λ x. after x l ≡ ramp_copies k l)) (sym (none_left c.args.list.now c.args.from none)) c.make_promise.ensures
