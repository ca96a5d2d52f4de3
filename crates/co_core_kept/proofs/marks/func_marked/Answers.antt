use Rattle.std.proofs.Common.{◌∙◌, ap, refl, true}
use Rattle.co_core.specs.Plans.{count_kind}
use Rattle.co_core.specs.Scopes.{is_mark}
use Rattle.co_core_kept.specs.declared.marks.MarksLeft.{MarksLeft}
use Rattle.co_core_kept.proofs.Counting.{marks_are}
use Rattle.co_core_kept.proofs.Loops.{and_else, and_then}
use Rattle.co_core_kept.proofs.marks.func_marked.Goals as goal

pub returns-then-marks : goal.returns-then-marks
returns-then-marks c =
    let s : MarksLeft = record { func = c.args.func; left = c.count_marks.result; enough = true } in
    and_then _ _ _ c.if-marks.true (marks_are c.args.funcs.now c.args.func.now s _ refl (c.count_marks.ensures ∙ ap (count_kind is_mark) c.as_slice.ensures) refl c.visit_func.ensures.visited)

pub returns-else-marks : goal.returns-else-marks
returns-else-marks c =
    let s : MarksLeft = record { func = c.args.func; left = c.count_marks.result; enough = true } in
    and_else _ _ _ c.if-marks.false (marks_are c.args.funcs.now c.args.func.now s _ refl (c.count_marks.ensures ∙ ap (count_kind is_mark) c.as_slice.ensures) refl c.visit_func.ensures.visited)
