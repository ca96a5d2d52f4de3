use Rattle.std.proofs.Common.{◌≡◌, drop}
use Rattle.co_tree.specs.Declarations.{parameters, parameters_after}
use Rattle.co_print.specs.Printed.{put_all}
use Rattle.co_print.proofs.Separated.{from}
use Rattle.co_print.proofs.declarations.print_parameter_list.Given as goal

abbrev pub invariant-loop-parameter : goal.invariant-loop-parameter
invariant-loop-parameter l = put_all l.out (from parameters parameters_after l.is_first (drop l.parameter-index l.parameters)) ≡ put_all l.initial.out (parameters l.parameters)
