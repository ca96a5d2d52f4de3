use Rattle.std.proofs.Common.{◌≡◌, ◌-◌}
use Rattle.co_tree.specs.Types.{stars}
use Rattle.co_print.specs.Printed.{put_all}
use Rattle.co_print.proofs.types.print_stars.Given as goal

abbrev pub invariant-loop-star : goal.invariant-loop-star
invariant-loop-star l = put_all l.out (stars (l.count - l.star)) ≡ put_all l.initial.out (stars l.count)
