use Rattle.std.proofs.Common.{◌≡◌, drop, []}
use Rattle.co_machine.specs.Rows as rows
use Rattle.co_exec_rows.proofs.rows.rows_at.Given as goal

abbrev pub invariant-loop-f : goal.invariant-loop-f
invariant-loop-f l = rows.rows_at l.funcs l.pc [] ≡ rows.rows_at (drop l.f-index l.funcs) l.pc l.found
