use Rattle.std.proofs.Common.{◌+◌, ap, ◌∙◌, subst, sym}
use Rattle.co_machine.specs.Ready.{IsSteady}
use Rattle.co_machine.specs.Turn.{idled}
use Rattle.co_machine.specs.declared.state.Tally.{Tally}
use Rattle.co_machine.specs.declared.stop.Turn.{Turn}
use Rattle.co_machine.proofs.Rest.{tallied_idles}
use Rattle.co_machine.proofs.Steady.{steady}
use Rattle.co_exec.proofs.exec.settle.Goals as goal

pub returns-clause-idles : goal.returns-clause-idles
returns-clause-idles c =
    ap (λ (t : Tally). t.idles) c.tally.ensures
    ∙ tallied_idles c.args.due c.look_answer-seen.result c.args.old c.args.s.now.tally
    ∙ ap (λ (turn : Turn). c.args.s.now.tally.idles + idled turn) (sym c.answer-answer.ensures)

pub returns-clause-steady : goal.returns-clause-steady
returns-clause-steady c =
    let P : Tally → Type 0 = λ t. IsSteady c.args.s.now.limits t in
    subst P (sym c.tally.ensures) (steady c.args.s.now.limits c.args.due c.look_answer-seen.result c.args.old c.args.s.now.tally c.requires.steady c.requires.allowed)
