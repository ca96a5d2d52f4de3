use Rattle.std.proofs.Common.{◌≡◌, ◌+◌, ℕ, List, length}
use Rattle.co_types.specs.Classes as spec
use Rattle.co_types.specs.Classes.{as_funcs, first_of}
use Rattle.co_types.specs.Names.{member_at}
use Rattle.co_types.proofs.names.note_funcs.Given as goal

abbrev pub invariant-loop-rest : goal.invariant-loop-rest
invariant-loop-rest l = (l.index + length l.rest ≡ length l.funcs) × ((name : List ℕ) → first_of (member_at l.names name) (as_funcs (spec.func_named l.index l.rest name)) ≡ first_of (member_at l.fn.names name) (as_funcs (spec.func_named 0 l.funcs name)))

abbrev pub decreases-loop-rest : goal.decreases-loop-rest
decreases-loop-rest l = length l.rest
