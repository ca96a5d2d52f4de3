use Rattle.std.proofs.Common.{◌∙◌, ap, sym, Some}
use Rattle.co_core_tree.specs.declared.stmts.CoreStmt.{CoreStmt}
use Rattle.co_eval_data.proofs.Opening as opening
use Rattle.co_eval_data.specs.Seen.{with_loop}
use Rattle.co_eval_statements.proofs.Forms as form
use Rattle.co_eval_statements.proofs.executing.execute.Goals as goal
use Rattle.co_meaning.specs.Statements.{execute, full}
use Rattle.co_meaning_data.specs.Frames as meaning
use Rattle.co_meaning_data.specs.Turn.{pushed}

pub under-requires : goal.under-requires
under-requires c l = search (form.scope, c.in-Scope.is, c.new.ensures)

pub first-requires : goal.first-requires
first-requires c l = search (form.whole, c.in-Full.is)

pub first-requires-in-If : goal.first-requires-in-If
first-requires-in-If c l = search (form.branches, opening.branch_on, c.in-If.is)

pub first-requires-in-Loop : goal.first-requires-in-Loop
first-requires-in-Loop c l =
    ap (λ (s : CoreStmt). execute s l) c.in-Loop.is
    ∙ form.loops c.in-Loop.condition c.in-Loop.field-1 c.in-Loop.field-2 c.in-Loop.field-3 l
    ∙ ap (λ (f : meaning.Frame). full c.in-Loop.condition (pushed f l)) (sym (ap (λ (s : CoreStmt). with_loop (λ e next body. meaning.LoopTest e next body) (Some s)) c.in-Loop.is ∙ opening.with_loop (λ e next body. meaning.LoopTest e next body) c.in-Loop.condition c.in-Loop.field-1 c.in-Loop.field-2 c.in-Loop.field-3))

pub under-requires-in-Try : goal.under-requires-in-Try
under-requires-in-Try c l = search (form.tries_body, opening.tries, c.in-Try.is, c.get.ensures)
