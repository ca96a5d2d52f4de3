use Rattle.std.proofs.Common.{◌∙◌, rules, arith, ap, pos, get_or}
use Rattle.std.proofs.lemmas.Int.{to_z-of_z}
use Rattle.std.proofs.lemmas.Result.{err_from_is_err_and}
use mir.Val.{SFits}
use mir.Syntax.{w64}
use Rattle.corun_top.specs.Texts.{print_text}
use Rattle.corun_top.proofs.Writing.{prints_more, prints_broke}
use Rattle.corun_top.proofs.report.write_prints.Goals as goal

pub returns-in_err-offer-clause-failed : goal.returns-in_err-offer-clause-failed
returns-in_err-offer-clause-failed g c =
    let fits : SFits w64 (get_or c.args.prints.now c.loop-value.value-index (pos 0)) = search rules in
    let p = err_from_is_err_and c.from_residual.result c.from_residual.ensures.1 in
    rw p.1
    (prints_broke print_text c.args.prints.now c.loop-value.value-index (pos 0) _ _ _ _ (omega arith) (c.print_line.ensures ∙ ap print_text (to_z-of_z w64 _ fits)) c.loop-value.invariant c.in_err-offer.ensures.failed)

pub loop-value-preserved : goal.loop-value-preserved
loop-value-preserved g c =
    let fits : SFits w64 (get_or c.args.prints.now c.loop-value.value-index (pos 0)) = search rules in
    prints_more print_text c.args.prints.now c.loop-value.value-index (pos 0) _ _ _ _ (omega arith) (c.print_line.ensures ∙ ap print_text (to_z-of_z w64 _ fits)) c.loop-value.invariant c.in_ok-offer.ensures.ok
