use Rattle.std.specs.Prelude.{not}
use Rattle.std.proofs.Common.{refl}
use Rattle.co_lex.specs.declared.token.Mark.TheVariants as mark
use Rattle.co_tree.specs.Piece.{m, if_said}
use Rattle.co_tree.specs.Statements.{parameter}
use Rattle.co_tree.specs.Declarations.{parameters, parameters_after}
use Rattle.co_print.proofs.Separated.{separated_step}
use Rattle.co_print.proofs.declarations.print_parameter_list.Goals as goal

pub loop-parameter-preserved : goal.loop-parameter-preserved
loop-parameter-preserved c =
    separated_step parameter parameters parameters_after (λ b. if_said (not b) (m mark.Comma)) (λ x xs. refl) (λ x xs. refl)
    c.loop-parameter.is_first _ _ _ _ c.args.parameters.now c.loop-parameter.parameter-index c.parameter-item.result c.loop-parameter-test.true c.parameter-item.is c.in_ok-mark_if.ensures c.in_ok-print_parameter.ensures c.loop-parameter.invariant
