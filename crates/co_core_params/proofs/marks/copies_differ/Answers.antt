use Rattle.std.proofs.Common.{ap, ◌∙◌}
use Rattle.co_core.specs.Plans.{copies_to}
use Rattle.co_core_params.proofs.Marking.{copies_marked, marks_from_none}
use Rattle.co_core_params.proofs.marks.copies_differ.Goals as goal

pub returns : goal.returns
returns c = λ f.
    let none = c.none-marks.ensures in
    ap (λ s. s.once) (c.mark_copies.ensures ∙ copies_marked f c.none-marks.result c.args.copies.now) ∙ marks_from_none c.none-marks.result (copies_to f c.args.copies.now) none.length none.none none.once
