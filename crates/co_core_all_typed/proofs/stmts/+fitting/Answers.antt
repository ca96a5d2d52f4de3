use Rattle.co_core_all_typed.proofs.Statements.{if_within, loop_within, scope_within, try_within}
use Rattle.co_core_all_typed.proofs.stmts.+fitting.Goals as goal

pub stmt_fits-returns-in-Scope : goal.stmt_fits-returns-in-Scope
stmt_fits-returns-in-Scope t c =
    scope_within c.args.scene.unit.now c.args.scene.func.now _ _ _ _ _ c.in-Scope.is c.as_slice.ensures c.stmts_fit.ensures

pub stmt_fits-returns-in-If : goal.stmt_fits-returns-in-If
stmt_fits-returns-in-If t c =
    if_within c.args.scene.unit.now c.args.scene.func.now _ _ _ _ _ _ _ _ c.in-If.is c.get.ensures c.get-in-If.ensures c.branches_fit.ensures

pub stmt_fits-returns-in-Loop : goal.stmt_fits-returns-in-Loop
stmt_fits-returns-in-Loop t c =
    loop_within c.args.scene.unit.now c.args.scene.func.now _ _ _ _ _ _ _ c.in-Loop.is c.get-in-Loop.ensures c.loop_fits.ensures

pub stmt_fits-returns-in-Try : goal.stmt_fits-returns-in-Try
stmt_fits-returns-in-Try t c =
    try_within c.args.scene.unit.now c.args.scene.func.now _ _ _ _ _ _ _ c.in-Try.is c.get-in-Try.ensures c.as_slice-in-Try.ensures c.try_fits.ensures
