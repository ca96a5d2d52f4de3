use Rattle.std.proofs.Common.{◌≡◌, ◌≤◌, drop}
use Rattle.co_lex.specs.Scan.{value_after, greatest}
use Rattle.co_lex.proofs.scan.value_of.Given as goal

abbrev pub invariant-loop-b : goal.invariant-loop-b
invariant-loop-b l = (value_after l.value (drop l.b-index l.digits) ≡ value_after 0 l.digits) × (l.value ≤ greatest)
