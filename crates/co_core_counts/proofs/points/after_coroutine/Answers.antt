use Rattle.std.proofs.Common.{◌∙◌, ap, length}
use Rattle.co_core.specs.Bodies.{func_acts}
use Rattle.co_core_tree.specs.Slots.{points}
use Rattle.co_core_counts.specs.declared.points.Points.{Points}
use Rattle.co_core_counts.specs.Left.{less}
use Rattle.co_core_counts.proofs.Left.{points_left}
use Rattle.co_core_counts.proofs.points.after_coroutine.Goals as goal

pub returns : goal.returns
returns c =
    let acts = func_acts c.args.funcs.now c.args.func.now in
    let v : Points = record { left = c.spend-3.result } in
    points_left v _ acts c.visit_func.ensures.visited
    ∙ ap (λ l. less l (length (points acts))) (c.spend-3.ensures ∙ ap (λ l. less l 1) (c.spend-2.ensures ∙ ap (λ l. less l 1) c.spend.ensures))
