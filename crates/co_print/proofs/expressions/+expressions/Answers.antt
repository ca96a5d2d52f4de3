use Rattle.co_print.proofs.Separated.{argument_step}
use Rattle.co_print.proofs.Steps as step
use Rattle.co_print.proofs.expressions.+expressions.Goals as goal

pub print_arguments-loop-arg-preserved : goal.print_arguments-loop-arg-preserved
print_arguments-loop-arg-preserved t c =
    argument_step c.loop-arg.is_first _ _ _ _ c.args.args.now c.loop-arg.arg-index c.arg-item.result c.loop-arg-test.true c.arg-item.is c.in_ok-mark_if.ensures c.in_ok-print_expression.ensures c.loop-arg.invariant

pub print_expression-returns-in_ok-print_expression-in-Yield : goal.print_expression-returns-in_ok-print_expression-in-Yield
print_expression-returns-in_ok-print_expression-in-Yield t c =
    step.yield_step _ _ _ _ _ _ _ c.in-Yield.is c.in_ok-word-in-Yield.ensures c.get.ensures c.in_ok-print_expression-in-Yield.ensures

pub print_expression-returns-in_ok-print_expression-in-Throw : goal.print_expression-returns-in_ok-print_expression-in-Throw
print_expression-returns-in_ok-print_expression-in-Throw t c =
    step.throw_step _ _ _ _ _ _ _ c.in-Throw.is c.in_ok-word-in-Throw.ensures c.get-in-Throw.ensures c.in_ok-print_expression-in-Throw.ensures

pub print_expression-returns-in_ok-print_expression-in-Assignment-2 : goal.print_expression-returns-in_ok-print_expression-in-Assignment-2
print_expression-returns-in_ok-print_expression-in-Assignment-2 t c =
    step.assignment_step _ _ _ _ _ _ _ _ _ _ _ _ c.in-Assignment.is c.get-in-Assignment.ensures c.in_ok-print_expression-in-Assignment.ensures c.assignment_mark.ensures c.in_ok-mark-in-Assignment.ensures c.get-in-Assignment-2.ensures c.in_ok-print_expression-in-Assignment-2.ensures

pub print_expression-returns-in_ok-print_expression-in-Conditional-3 : goal.print_expression-returns-in_ok-print_expression-in-Conditional-3
print_expression-returns-in_ok-print_expression-in-Conditional-3 t c =
    step.conditional_step _ _ _ _ _ _ _ _ _ _ _ _ _ _ c.in-Conditional.is c.get-in-Conditional.ensures c.in_ok-print_expression-in-Conditional.ensures c.in_ok-mark-in-Conditional.ensures c.get-in-Conditional-2.ensures c.in_ok-print_expression-in-Conditional-2.ensures c.in_ok-mark-in-Conditional-2.ensures c.get-in-Conditional-3.ensures c.in_ok-print_expression-in-Conditional-3.ensures

pub print_expression-returns-in_ok-print_expression-in-Binary-2 : goal.print_expression-returns-in_ok-print_expression-in-Binary-2
print_expression-returns-in_ok-print_expression-in-Binary-2 t c =
    step.binary_step _ _ _ _ _ _ _ _ _ _ _ _ c.in-Binary.is c.get-in-Binary.ensures c.in_ok-print_expression-in-Binary.ensures c.binary_mark.ensures c.in_ok-mark-in-Binary.ensures c.get-in-Binary-2.ensures c.in_ok-print_expression-in-Binary-2.ensures

pub print_expression-returns-in_ok-print_expression-in-Unary : goal.print_expression-returns-in_ok-print_expression-in-Unary
print_expression-returns-in_ok-print_expression-in-Unary t c =
    step.unary_step _ _ _ _ _ _ _ _ c.in-Unary.is c.in_ok-print_unary-in-Unary.ensures c.get-in-Unary.ensures c.in_ok-print_expression-in-Unary.ensures

pub print_expression-returns-in_ok-print_in_brackets-in-NewWith : goal.print_expression-returns-in_ok-print_in_brackets-in-NewWith
print_expression-returns-in_ok-print_in_brackets-in-NewWith t c =
    step.new_with_step _ _ _ _ _ _ _ _ _ _ _ _ _ _ c.in-NewWith.is c.in_ok-mark_if-in-NewWith.ensures c.in_ok-word-in-NewWith.ensures c.in_ok-print_simple_type-in-NewWith.ensures c.in_ok-print_stars-in-NewWith.ensures c.as_slice.ensures c.in_ok-print_in_brackets-in-NewWith.ensures

pub print_expression-returns-in_ok-print_expression-in-Delete : goal.print_expression-returns-in_ok-print_expression-in-Delete
print_expression-returns-in_ok-print_expression-in-Delete t c =
    step.delete_step _ _ _ _ _ _ _ _ _ c.in-Delete.is c.in_ok-mark_if-in-Delete.ensures c.in_ok-word-in-Delete.ensures c.get-in-Delete.ensures c.in_ok-print_expression-in-Delete.ensures

pub print_expression-returns-in_ok-name-in-Member : goal.print_expression-returns-in_ok-name-in-Member
print_expression-returns-in_ok-name-in-Member t c =
    step.member_step _ _ _ _ _ _ _ _ _ _ _ _ c.in-Member.is c.get-in-Member.ensures c.in_ok-print_expression-in-Member.ensures c.member_mark.ensures c.in_ok-mark-in-Member.ensures c.as_slice-in-Member.ensures c.in_ok-name-in-Member.ensures

pub print_expression-returns-in_ok-mark-in-Call-2 : goal.print_expression-returns-in_ok-mark-in-Call-2
print_expression-returns-in_ok-mark-in-Call-2 t c =
    step.call_step _ _ _ _ _ _ _ _ _ _ _ c.in-Call.is c.get-in-Call.ensures c.in_ok-print_expression-in-Call.ensures c.in_ok-mark-in-Call.ensures c.as_slice-in-Call.ensures c.in_ok-print_arguments-in-Call.ensures c.in_ok-mark-in-Call-2.ensures

pub print_expression-returns-in_ok-mark-in-Step : goal.print_expression-returns-in_ok-mark-in-Step
print_expression-returns-in_ok-mark-in-Step t c =
    step.step_step _ _ _ _ _ _ _ _ _ c.in-Step.is c.get-in-Step.ensures c.in_ok-print_expression-in-Step.ensures c.step_mark.ensures c.in_ok-mark-in-Step.ensures

pub print_expression-returns-in_ok-mark-in-Parenthesized-2 : goal.print_expression-returns-in_ok-mark-in-Parenthesized-2
print_expression-returns-in_ok-mark-in-Parenthesized-2 t c =
    step.parenthesized_step _ _ _ _ _ _ _ _ c.in-Parenthesized.is c.in_ok-mark-in-Parenthesized.ensures c.get-in-Parenthesized.ensures c.in_ok-print_expression-in-Parenthesized.ensures c.in_ok-mark-in-Parenthesized-2.ensures

pub print_expression-returns-in_ok-print_in_brackets-in-Construction : goal.print_expression-returns-in_ok-print_in_brackets-in-Construction
print_expression-returns-in_ok-print_in_brackets-in-Construction t c =
    step.construction_step _ _ _ _ _ _ _ _ c.in-Construction.is c.in_ok-print_simple_type-in-Construction.ensures c.as_slice-in-Construction.ensures c.in_ok-print_in_brackets-in-Construction.ensures

pub print_expression-returns-in_ok-mark-in-StaticCast-4 : goal.print_expression-returns-in_ok-mark-in-StaticCast-4
print_expression-returns-in_ok-mark-in-StaticCast-4 t c =
    step.static_cast_step _ _ _ _ _ _ _ _ _ _ _ _ _ c.in-StaticCast.is c.in_ok-word-in-StaticCast.ensures c.in_ok-mark-in-StaticCast.ensures c.in_ok-print_type-in-StaticCast.ensures c.in_ok-mark-in-StaticCast-2.ensures c.in_ok-mark-in-StaticCast-3.ensures c.get-in-StaticCast.ensures c.in_ok-print_expression-in-StaticCast.ensures c.in_ok-mark-in-StaticCast-4.ensures

pub print_expression-returns-in_ok-print_in_parentheses-in-OperatorNew : goal.print_expression-returns-in_ok-print_in_parentheses-in-OperatorNew
print_expression-returns-in_ok-print_in_parentheses-in-OperatorNew t c =
    step.operator_new_step _ _ _ _ _ _ _ _ _ c.in-OperatorNew.is c.in_ok-mark-in-OperatorNew.ensures c.in_ok-word-in-OperatorNew.ensures c.in_ok-word-in-OperatorNew-2.ensures c.as_slice-in-OperatorNew.ensures c.in_ok-print_in_parentheses-in-OperatorNew.ensures

pub print_expression-returns-in_ok-print_in_parentheses-in-OperatorDelete : goal.print_expression-returns-in_ok-print_in_parentheses-in-OperatorDelete
print_expression-returns-in_ok-print_in_parentheses-in-OperatorDelete t c =
    step.operator_delete_step _ _ _ _ _ _ _ _ _ c.in-OperatorDelete.is c.in_ok-mark-in-OperatorDelete.ensures c.in_ok-word-in-OperatorDelete.ensures c.in_ok-word-in-OperatorDelete-2.ensures c.as_slice-in-OperatorDelete.ensures c.in_ok-print_in_parentheses-in-OperatorDelete.ensures
