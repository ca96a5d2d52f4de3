use Rattle.std.specs.Prelude.{◌∷◌, [], if◌then◌else◌}
use Rattle.std.proofs.Common.{refl, ap, ◌∙◌}
use Rattle.co_lex.specs.declared.token.TokenKind.TheVariants as kind
use Rattle.co_lex.specs.declared.token.Mark.TheVariants as mark
use Rattle.co_tree.specs.Piece.{m}
use Rattle.co_tree.specs.Declarations.{member_initializer, member_initializers, member_initializers_after}
use Rattle.co_print.specs.Printed.{put_token}
use Rattle.co_print.proofs.Separated.{separated_step}
use Rattle.co_print.proofs.declarations.print_member_initializers.Goals as goal

pub loop-initializer-preserved : goal.loop-initializer-preserved
loop-initializer-preserved c =
    separated_step member_initializer member_initializers member_initializers_after (λ b. m (if b then mark.Colon else mark.Comma) ∷ []) (λ x xs. refl) (λ x xs. refl)
    c.loop-initializer.is_first _ _ _ _ c.args.initializers.now c.loop-initializer.initializer-index c.initializer-item.result c.loop-initializer-test.true c.initializer-item.is
    (c.in_ok-mark.ensures ∙ ap (λ k. put_token c.loop-initializer.out (kind.Mark k)) c.initializer_mark.ensures) c.in_ok-print_member_initializer.ensures c.loop-initializer.invariant
