use Rattle.std.proofs.Common.{◌≡◌, ◌≤◌, ◌-◌, drop, length}
use Rattle.std.specs.List.{list_all}
use Rattle.co_core.specs.Plans.{classes_destroyed}
use Rattle.co_core_plans.proofs.ends.are_destroyed.Given as goal

abbrev pub invariant-loop-class : goal.invariant-loop-class
invariant-loop-class l = (l.class ≤ length l.unit.classes) × (classes_destroyed l.unit l.class (drop l.class l.unit.classes) ≡ classes_destroyed l.unit 0 l.unit.classes)

abbrev pub decreases-loop-class : goal.decreases-loop-class
decreases-loop-class l = length l.unit.classes - l.class
