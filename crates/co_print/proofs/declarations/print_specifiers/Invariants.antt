use Rattle.std.proofs.Common.{◌≡◌, length}
use Rattle.co_tree.specs.Declarations.{specifiers}
use Rattle.co_print.specs.Printed.{put_all}
use Rattle.co_print.proofs.declarations.print_specifiers.Given as goal

abbrev pub invariant-loop-specifiers : goal.invariant-loop-specifiers
invariant-loop-specifiers l = put_all l.out (specifiers l.specifiers) ≡ put_all l.initial.out (specifiers l.initial.specifiers)

abbrev pub decreases-loop-specifiers : goal.decreases-loop-specifiers
decreases-loop-specifiers l = length l.specifiers
