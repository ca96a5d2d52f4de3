use Rattle.std.proofs.Common.{◌≡◌, ◌+◌, ◌≤◌, drop}
use Rattle.co_core.specs.Plans.{count_kind}
use Rattle.co_core.specs.Scopes.{is_mark}
use Rattle.co_core_kept.proofs.marks.count_marks.Given as goal

abbrev pub invariant-loop-slot : goal.invariant-loop-slot
invariant-loop-slot l = record {
  counted : l.count + count_kind is_mark (drop l.slot-index l.slots) ≡ count_kind is_mark l.slots;
  within : l.count ≤ l.slot-index;
}
