use Rattle.std.specs.Prelude.{◌≡◌, ◌+◌, Some, length}
use Rattle.co_meaning_data.specs.Store.{part_offset}
use Rattle.co_eval_reads.proofs.places.part_offset.Given as goal

abbrev pub invariant-loop-rest : goal.invariant-loop-rest
invariant-loop-rest l =
    l.offset + part_offset l.program.unit.now.classes (Some l.part) l.rest ≡ part_offset l.program.unit.now.classes (Some l.of) l.path

abbrev pub decreases-loop-rest : goal.decreases-loop-rest
decreases-loop-rest l = length l.rest
