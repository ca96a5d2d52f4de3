use Rattle.std.proofs.Common.{◌≡◌, drop}
use Rattle.co_tree.specs.Declarations.{members}
use Rattle.co_print.specs.Printed.{put_all}
use Rattle.co_print.proofs.declarations.+members.Given as goal

abbrev pub invariant-print_members-loop-member : goal.invariant-print_members-loop-member
invariant-print_members-loop-member l = put_all l.out (members (drop l.member-index l.members)) ≡ put_all l.initial.out (members l.members)
