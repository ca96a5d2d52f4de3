use Rattle.std.specs.Prelude.{◌≡◌, drop, Some}
use Rattle.std.proofs.lemmas.Result.{IfOk-weaker}
use Rattle.co_core_tree.specs.Slots.{init_acts_of}
use Rattle.co_eval_calls.proofs.Constructed.{member_opened}
use Rattle.co_eval_data.specs.Agents.{local_of}
use Rattle.co_eval_data.specs.Changed.{turned_by}
use Rattle.co_eval_data.specs.Seen.{body_left, place_of}
use Rattle.co_eval_data.specs.declared.agents.Task.TheVariants as task
use Rattle.co_eval_data.specs.declared.changes.Change.{Change}
use Rattle.co_eval_data.specs.declared.changes.Effect.TheVariants as effect
use Rattle.co_eval_fulls.specs.Fulls.{opens_after}
use Rattle.co_meaning_calls.specs.Calls.{next_member}
use Rattle.co_meaning_data.specs.Turn.{funcs}
use Rattle.co_eval_calls.proofs.members.member_by.Goals as goal

pub returns : goal.returns
returns c =
    let l = local_of c.args.here.now in
    let m = c.args.making in
    let func = c.args.func.now in
    let members = c.args.members.now in
    IfOk-weaker c.open_init.result
    (λ (x : Change). Some (turned_by x l) ≡ opens_after (init_acts_of (funcs l) c.args.init.now) effect.Nothing c.in_ok-outer.outer c.in_ok-inner.inner (task.Initialize c.args.init (Some c.in_ok-field.field)) l)
    (λ (x : Change). Some (turned_by x l) ≡ next_member (place_of m.place.now) m.class m.built (drop m.taken members) (body_left m.left func.body) l)
    (λ x is. member_opened m.place.now c.in_ok-field.field m.class m.built m.taken c.args.next m.left c.args.node func members c.args.init c.in_ok-step.step c.in_ok-outer.outer c.in_ok-inner.inner l (Some (turned_by x l))
    c.requires.func c.requires.members c.requires.rest c.in_ok-field.ensures c.in_ok-step.ensures c.in_ok-outer.ensures c.in_ok-inner.ensures is)
    c.open_init.ensures
