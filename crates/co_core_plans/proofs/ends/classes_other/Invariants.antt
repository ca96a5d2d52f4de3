use Rattle.std.proofs.Common.{◌≡◌, ◌≤◌, ◌-◌, drop, length}
use Rattle.std.specs.List.{list_all}
use Rattle.co_core.specs.Plans.{info_other}
use Rattle.co_core_plans.proofs.ends.classes_other.Given as goal

abbrev pub invariant-loop-class : goal.invariant-loop-class
invariant-loop-class l = (l.class ≤ length l.unit.classes) × (list_all (info_other l.unit) (drop l.class l.unit.classes) ≡ list_all (info_other l.unit) l.unit.classes)

abbrev pub decreases-loop-class : goal.decreases-loop-class
decreases-loop-class l = length l.unit.classes - l.class
