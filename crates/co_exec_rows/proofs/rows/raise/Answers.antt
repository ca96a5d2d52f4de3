use Rattle.std.proofs.Common.{sym, ◌∙◌}
use Rattle.co_exec_rows.proofs.Raising.{at_row, at_end}
use Rattle.co_exec_rows.proofs.rows.raise.Goals as goal

pub returns-in-Some : goal.returns-in-Some
returns-in-Some c =
    c.reach.ensures
    ∙ sym (at_row c.args.funcs.now c.args.v c.loop-f.k.below c.loop-f.k c.in-Some.f (sym c.in-Some.ensures.value))
    ∙ sym c.loop-f.invariant

pub returns-then-k : goal.returns-then-k
returns-then-k c =
    c.end_uncaught.ensures
    ∙ sym (at_end c.args.funcs.now c.args.v c.loop-f.k.below c.loop-f.k (sym c.in_default.ensures.value) c.if-k.true)
    ∙ sym c.loop-f.invariant
