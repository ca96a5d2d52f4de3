use Rattle.std.proofs.Common.{◌≡◌, length}
use Rattle.co_machine.specs.Rows as rows
use Rattle.co_exec_rows.proofs.rows.raise.Given as goal

abbrev pub invariant-loop-f : goal.invariant-loop-f
invariant-loop-f l = rows.raised l.funcs l.v l.initial.k.below l.initial.k ≡ rows.raised l.funcs l.v l.k.below l.k

abbrev pub decreases-loop-f : goal.decreases-loop-f
decreases-loop-f l = length l.k.below
