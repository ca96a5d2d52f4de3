-- What the code's data mean.
use Rattle.co_core_walks.specs.declared.bodies.Standing.{Standing}
use Rattle.co_core.specs.Bodies as body

abbrev pub stands_of : Standing → body.Standing
stands_of s = record { in_loop = s.in_loop; in_scope = s.in_scope; in_handler = s.in_handler }
