use Rattle.std.specs.Prelude.{◌≡◌, [], ◌∷◌, ◌++◌, Some}
use Rattle.std.proofs.Common.{refl, ◌∙◌}
use Rattle.std.proofs.lemmas.Result.{IfOk-weaker}
use Rattle.co_eval_data.specs.Agents.{local_of}
use Rattle.co_eval_data.specs.Changed.{opens_above, turned_by}
use Rattle.co_eval_data.specs.declared.changes.Change.{Change}
use Rattle.co_eval_data.specs.declared.frames.Node.TheVariants as node
use Rattle.co_eval_data.specs.declared.frames.Step.TheVariants as step
use Rattle.co_eval_fulls.proofs.Opened.{opens}
use Rattle.co_eval_fulls.specs.FullActs.{acts_of_part}
use Rattle.co_eval_fulls.specs.Fulls.{opens_after}
use Rattle.co_meaning_data.specs.Turn.{funcs}
use Rattle.co_eval_fulls.proofs.opening.open.Goals as goal

pub returns-in-Ok : goal.returns-in-Ok
returns-in-Ok c =
    let l = local_of c.args.here.now in
    let list = acts_of_part (funcs l) c.args.part in
    let o = c.args.opening in
    let frames = (o.outer ++ record { step = step.Full c.in-Ok.temporaries; node = node.Nothing } ∷ []) ++ o.inner in
    IfOk-weaker c.open_with.result
    (λ (x : Change). Some (turned_by x l) ≡ opens_above c.in-Ok.marks o.effect frames o.task l)
    (λ (x : Change). Some (turned_by x l) ≡ opens_after list o.effect o.outer o.inner o.task l)
    (λ x is. is ∙ opens list c.in-Ok.marks o.effect o.outer o.inner frames c.in-Ok.temporaries o.task l c.in-Ok.ensures.made c.in-Ok.ensures.counted refl)
    c.open_with.ensures
