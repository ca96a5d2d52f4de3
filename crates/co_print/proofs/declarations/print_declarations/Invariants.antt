use Rattle.std.proofs.Common.{◌≡◌, drop}
use Rattle.co_tree.specs.Declarations.{items}
use Rattle.co_print.specs.Printed.{put_all}
use Rattle.co_print.proofs.declarations.print_declarations.Given as goal

abbrev pub invariant-loop-declaration : goal.invariant-loop-declaration
invariant-loop-declaration l = put_all l.out (items (drop l.declaration-index l.declarations)) ≡ put_all l.initial.out (items l.declarations)
