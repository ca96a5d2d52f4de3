use Rattle.std.specs.Prelude.{◌≡◌, ℕ, suc, ◌+◌, ◌-◌, ◌<◌}
use Rattle.std.proofs.Common.{ap, sym, ◌∙◌, arith}
use Rattle.co_lex.specs.declared.token.TokenKind.TheVariants as kind
use Rattle.co_lex.specs.declared.token.Mark.TheVariants as mark
use Rattle.co_tree.specs.Types.{stars}
use Rattle.co_print.specs.declared.printer.Printer.{Printer}
use Rattle.co_print.specs.Printed.{put_token, put_all}
use Rattle.co_print.proofs.types.print_stars.Goals as goal

star_step : (n i : ℕ) (s s' s0 : Printer) → i < n → s' ≡ put_token s (kind.Mark mark.Star) → put_all s (stars (n - i)) ≡ s0 → put_all s' (stars (n - (i + 1))) ≡ s0
star_step n i s s' s0 lt is h =
    let e : n - i ≡ suc (n - (i + 1)) = omega arith in
    ap (λ t. put_all t (stars (n - (i + 1)))) is ∙ sym (ap (λ k. put_all s (stars k)) e) ∙ h

pub loop-star-preserved : goal.loop-star-preserved
loop-star-preserved c = star_step c.args.count c.loop-star.star _ _ _ c.loop-star-test.true c.in_ok-mark.ensures c.loop-star.invariant
