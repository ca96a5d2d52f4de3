use Rattle.std.proofs.Common.{ap, ◌∙◌}
use Rattle.co_core_params.proofs.Marking.{marks_from_none}
use Rattle.co_core_params.proofs.marks.slots_differ.Goals as goal

pub returns : goal.returns
returns c =
    let none = c.none-marks.ensures in
    ap (λ s. s.once) c.mark_slots.ensures ∙ marks_from_none c.none-marks.result c.args.slots.now none.length none.none none.once
