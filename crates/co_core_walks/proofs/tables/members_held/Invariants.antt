use Rattle.std.proofs.Common.{◌≡◌, drop}
use Rattle.std.specs.List.{list_all}
use Rattle.co_core.specs.Ids as spec
use Rattle.co_core_walks.proofs.tables.members_held.Given as goal

abbrev pub invariant-loop-member : goal.invariant-loop-member
invariant-loop-member l =
    list_all (spec.member_held l.unit) (drop l.member-index l.members) ≡ list_all (spec.member_held l.unit) l.members
