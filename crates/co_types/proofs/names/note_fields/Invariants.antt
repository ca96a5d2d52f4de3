use Rattle.std.proofs.Common.{◌≡◌, ◌+◌, ℕ, List, length}
use Rattle.co_types.specs.Classes as spec
use Rattle.co_types.specs.Classes.{as_field, first_of}
use Rattle.co_types.specs.Names.{member_at}
use Rattle.co_types.proofs.names.note_fields.Given as goal

abbrev pub invariant-loop-rest : goal.invariant-loop-rest
invariant-loop-rest l = (l.index + length l.rest ≡ length l.fields) × ((name : List ℕ) → first_of (member_at l.names name) (as_field (spec.field_named l.index l.rest name)) ≡ first_of (member_at l.fn.names name) (as_field (spec.field_named 0 l.fields name)))

abbrev pub decreases-loop-rest : goal.decreases-loop-rest
decreases-loop-rest l = length l.rest
