-- How many statements there are in one.
use Rattle.std.specs.Prelude.{ℕ, length}
use Rattle.co_core_tree.specs.declared.stmts.CoreStmt.{CoreStmt}
use Rattle.co_core_tree.specs.declared.stmts.Handler.{Handler}
use Rattle.co_core.specs.Bodies.{in_body, placed}

-- the statement and those in it; where it stands makes no difference
abbrev pub statements : CoreStmt → ℕ
statements s = length (placed in_body s)

abbrev pub handler_statements : Handler → ℕ
handler_statements handler = statements handler.body
