use Rattle.std.specs.Prelude.{◌≡◌, Some}
use Rattle.std.proofs.lemmas.Result.{IfOk-weaker}
use Rattle.co_core_tree.specs.Slots.{init_acts_of}
use Rattle.co_eval_data.specs.Agents.{local_of}
use Rattle.co_eval_data.specs.Changed.{turned_by}
use Rattle.co_eval_data.specs.Seen.{copies_in}
use Rattle.co_eval_data.specs.declared.agents.Task.TheVariants as task
use Rattle.co_eval_data.specs.declared.changes.Change.{Change}
use Rattle.co_eval_data.specs.declared.changes.Effect.TheVariants as effect
use Rattle.co_eval_fulls.specs.Fulls.{opens_after}
use Rattle.co_eval_ramps.proofs.Copied.{copied_as}
use Rattle.co_meaning_calls.specs.Coroutines.{ramp_copy_of}
use Rattle.co_meaning_data.specs.Turn.{funcs}
use Rattle.co_eval_ramps.proofs.copies.copies_into.Goals as goal

pub returns : goal.returns
returns c =
    let l = local_of c.args.here.now in
    let copy = c.args.copy.now in
    let rest = copies_in c.args.rest in
    let of = c.args.of.now in
    let raw = c.in_ok-raw.raw in
    let place = c.whole-place.result in
    IfOk-weaker c.open_init.result
    (λ (x : Change). Some (turned_by x l) ≡ opens_after (init_acts_of (funcs l) c.args.init.now) (effect.Adds copy.to.0 raw) c.in_ok-outer.outer c.in_ok-inner.inner (task.Initialize c.args.init (Some place)) l)
    (λ (x : Change). Some (turned_by x l) ≡ ramp_copy_of copy rest l (Some of))
    (λ x is. copied_as copy c.args.init rest of c.next_object-object.result c.counted_in-coroutine.result raw place c.in_ok-outer.outer c.in_ok-inner.inner l (Some (turned_by x l))
    c.requires.init c.counted_in-coroutine.ensures c.next_object-object.ensures c.in_ok-raw.ensures c.whole-place.ensures c.in_ok-outer.ensures c.in_ok-inner.ensures is)
    c.open_init.ensures
