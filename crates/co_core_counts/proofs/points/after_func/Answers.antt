use Rattle.std.proofs.Common.{◌∙◌, ap, length, sym}
use Rattle.co_core.specs.Bodies.{func_acts}
use Rattle.co_core_tree.specs.Slots.{points}
use Rattle.co_core_counts.specs.Left.{less}
use Rattle.co_core_counts.proofs.Left.{count_some, three_more}
use Rattle.co_core_counts.proofs.points.after_func.Goals as goal

pub returns-in-Some : goal.returns-in-Some
returns-in-Some c =
    c.after_coroutine.ensures ∙ three_more c.args.left (length (points (func_acts c.args.funcs.now c.args.func.now)))
    ∙ sym (ap (less c.args.left) (count_some c.args.funcs.now c.args.func.now _ c.in-Some.is))
