use Rattle.std.specs.Prelude.{◌≡◌, ◌++◌, length}
use Rattle.co_meaning.specs.Statements.{member_values}
use Rattle.co_eval_statements.proofs.caught.member_values.Given as goal

abbrev pub invariant-loop-rest : goal.invariant-loop-rest
invariant-loop-rest l = l.values ++ member_values l.rest l.left ≡ member_values l.fields l.numbers

abbrev pub decreases-loop-rest : goal.decreases-loop-rest
decreases-loop-rest l = length l.rest
