use Rattle.std.proofs.Common.{◌≡◌, ◌≤◌, length, refl, sym, ap, arith}
use Rattle.std.proofs.lemmas.Result.{err_from_is_err_and}
use Rattle.co_first_parse.proofs.Terms.{turn_more, turn_fail, turn_end, reads_err, reads_none}
use Rattle.co_first_parse.proofs.sums.terms.Goals as goal

pub returns-in_err-atom-clause-read : goal.returns-in_err-atom-clause-read
returns-in_err-atom-clause-read c =
    let p = err_from_is_err_and c.from_residual.result c.from_residual.ensures.1 in
    reads_err _ _ p.0 _ p.1
    (λ s. turn_fail _ _ _ _ _ _ c.loop-op.invariant.0 (sym c.in-Some.ensures) c.next-operator.ensures.rest (reads_none _ _ _ c.in_err-atom.ensures.read (cc (p.2, s))))

pub loop-op-preserved : goal.loop-op-preserved
loop-op-preserved c = (
  turn_more _ _ _ _ _ _ _ _ _ c.loop-op.invariant.0 (sym c.in-Some.ensures) c.next-operator.ensures.rest c.in_ok-atom.ensures.read c.in_ok-push.ensures.ok,
  omega (arith, c.loop-op.invariant.1, c.next-operator.ensures.shrinks, c.next_atom.ensures.shrinks),
)

pub returns-clause-read : goal.returns-clause-read
returns-clause-read c = turn_end _ _ _ _ c.loop-op.invariant.0 (sym c.in_default.ensures)
