use Rattle.std.proofs.Common.{◌≡◌, replicate}
use Rattle.co_eval_commit.proofs.objects.copies_of.Given as goal

abbrev pub invariant-loop : goal.invariant-loop
invariant-loop l = l.copies ≡ replicate l.counter l.cell
