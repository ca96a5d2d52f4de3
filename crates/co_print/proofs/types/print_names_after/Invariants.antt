use Rattle.std.proofs.Common.{◌≡◌, length}
use Rattle.co_tree.specs.Types.{names_after}
use Rattle.co_print.specs.Printed.{put_all}
use Rattle.co_print.proofs.types.print_names_after.Given as goal

abbrev pub invariant-loop-names : goal.invariant-loop-names
invariant-loop-names l = put_all l.out (names_after l.names) ≡ put_all l.initial.out (names_after l.initial.names)

abbrev pub decreases-loop-names : goal.decreases-loop-names
decreases-loop-names l = length l.names
