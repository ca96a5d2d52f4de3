use Rattle.std.proofs.Common.{◌≡◌, drop}
use Rattle.co_tree.specs.Declarations.{member_initializers, member_initializers_after}
use Rattle.co_print.specs.Printed.{put_all}
use Rattle.co_print.proofs.Separated.{from}
use Rattle.co_print.proofs.declarations.print_member_initializers.Given as goal

abbrev pub invariant-loop-initializer : goal.invariant-loop-initializer
invariant-loop-initializer l = put_all l.out (from member_initializers member_initializers_after l.is_first (drop l.initializer-index l.initializers)) ≡ put_all l.initial.out (member_initializers l.initializers)
