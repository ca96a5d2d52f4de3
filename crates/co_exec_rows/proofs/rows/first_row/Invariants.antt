use Rattle.std.proofs.Common.{◌≡◌, drop}
use Rattle.co_machine.specs.Rows as rows
use Rattle.co_exec_rows.proofs.rows.first_row.Given as goal

abbrev pub invariant-loop-number : goal.invariant-loop-number
invariant-loop-number l = rows.first_row l.list 0 l.e ≡ rows.first_row (drop l.number l.list) l.number l.e
