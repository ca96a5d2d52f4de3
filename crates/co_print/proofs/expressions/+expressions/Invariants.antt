use Rattle.std.proofs.Common.{◌≡◌, drop}
use Rattle.co_tree.specs.Sentence.{arguments}
use Rattle.co_print.specs.Printed.{put_all}
use Rattle.co_print.proofs.Separated.{arguments_from}
use Rattle.co_print.proofs.expressions.+expressions.Given as goal

abbrev pub invariant-print_arguments-loop-arg : goal.invariant-print_arguments-loop-arg
invariant-print_arguments-loop-arg l = put_all l.out (arguments_from l.is_first (drop l.arg-index l.args)) ≡ put_all l.initial.out (arguments l.args)
