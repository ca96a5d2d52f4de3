use Rattle.std.proofs.Common.{◌≡◌, drop}
use Rattle.co_tree.specs.Statements.{statements, handlers}
use Rattle.co_print.specs.Printed.{put_all}
use Rattle.co_print.proofs.statements.+statements.Given as goal

abbrev pub invariant-print_statements-loop-statement : goal.invariant-print_statements-loop-statement
invariant-print_statements-loop-statement l = put_all l.out (statements (drop l.statement-index l.statements)) ≡ put_all l.initial.out (statements l.statements)

abbrev pub invariant-print_handlers-loop-handler : goal.invariant-print_handlers-loop-handler
invariant-print_handlers-loop-handler l = put_all l.out (handlers (drop l.handler-index l.handlers)) ≡ put_all l.initial.out (handlers l.handlers)
