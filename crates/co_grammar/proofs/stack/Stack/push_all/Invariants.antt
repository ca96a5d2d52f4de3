use Rattle.std.proofs.Common.{◌≡◌, ◌++◌, ◌≤◌, length, drop}
use Rattle.co_grammar.proofs.stack.Stack.push_all.Given as goal

abbrev pub invariant-loop-left : goal.invariant-loop-left
invariant-loop-left l = (l.self ≡ drop l.left l.body ++ l.fn.self) × (l.left ≤ length l.body)

abbrev pub decreases-loop-left : goal.decreases-loop-left
decreases-loop-left l = l.left
