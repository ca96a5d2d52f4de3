use Rattle.std.proofs.Common.{refl}
use Rattle.co_tree.specs.Statements.{statement, statements, handler, handlers}
use Rattle.co_print.proofs.StepsStatements as step
use Rattle.co_print.proofs.statements.+statements.Goals as goal

pub print_statements-loop-statement-preserved : goal.print_statements-loop-statement-preserved
print_statements-loop-statement-preserved t c =
    step.each_step statement statements (λ x xs. refl) _ _ _ c.args.statements.now c.loop-statement.statement-index c.statement-item.result c.loop-statement-test.true c.statement-item.is c.in_ok-print_statement.ensures c.loop-statement.invariant

pub print_handlers-loop-handler-preserved : goal.print_handlers-loop-handler-preserved
print_handlers-loop-handler-preserved t c =
    step.each_step handler handlers (λ x xs. refl) _ _ _ c.args.handlers.now c.loop-handler.handler-index c.handler-item.result c.loop-handler-test.true c.handler-item.is c.in_ok-print_handler.ensures c.loop-handler.invariant

pub print_statement-returns-in_ok-print_block-in-Block : goal.print_statement-returns-in_ok-print_block-in-Block
print_statement-returns-in_ok-print_block-in-Block t c =
    step.block_step _ _ _ _ _ c.in-Block.is c.line.ensures c.in_ok-print_block-in-Block.ensures

pub print_statement-returns-in_ok-print_handlers-in-Try : goal.print_statement-returns-in_ok-print_handlers-in-Try
print_statement-returns-in_ok-print_handlers-in-Try t c =
    step.try_step _ _ _ _ _ _ _ _ _ _ c.in-Try.is c.line.ensures c.in_ok-word-in-Try.ensures c.in_ok-print_block-in-Try.ensures c.as_slice.ensures c.in_ok-print_handlers-in-Try.ensures

pub print_statement-returns-in_ok-print_statement-in-If : goal.print_statement-returns-in_ok-print_statement-in-If
print_statement-returns-in_ok-print_statement-in-If t c =
    step.if_step _ _ _ _ _ _ _ _ _ _ c.in-If.is c.line.ensures c.in_ok-word-in-If.ensures c.in_ok-print_condition-in-If.ensures c.get.ensures c.in_ok-print_statement-in-If.ensures

pub print_statement-returns-in_ok-print_statement-in-IfElse-2 : goal.print_statement-returns-in_ok-print_statement-in-IfElse-2
print_statement-returns-in_ok-print_statement-in-IfElse-2 t c =
    step.if_else_step _ _ _ _ _ _ _ _ _ _ _ _ _ _ c.in-IfElse.is c.line.ensures c.in_ok-word-in-IfElse.ensures c.in_ok-print_condition-in-IfElse.ensures c.get-in-IfElse.ensures c.in_ok-print_statement-in-IfElse.ensures c.in_ok-word-in-IfElse-2.ensures c.get-in-IfElse-2.ensures c.in_ok-print_statement-in-IfElse-2.ensures

pub print_statement-returns-in_ok-print_statement-in-While : goal.print_statement-returns-in_ok-print_statement-in-While
print_statement-returns-in_ok-print_statement-in-While t c =
    step.while_step _ _ _ _ _ _ _ _ _ _ c.in-While.is c.line.ensures c.in_ok-word-in-While.ensures c.in_ok-print_condition-in-While.ensures c.get-in-While.ensures c.in_ok-print_statement-in-While.ensures

pub print_statement-returns-in_ok-print_statement-in-For : goal.print_statement-returns-in_ok-print_statement-in-For
print_statement-returns-in_ok-print_statement-in-For t c =
    step.for_step _ _ _ _ _ _ _ _ _ _ _ _ c.in-For.is c.line.ensures c.in_ok-word-in-For.ensures c.in_ok-print_for_head-in-For.ensures c.get-in-For.ensures c.in_ok-print_statement-in-For.ensures
