use Rattle.std.proofs.Common.{◌≡◌, drop}
use Rattle.std.specs.List.{list_all}
use Rattle.co_core.specs.Numbers as spec
use Rattle.co_core_walks.proofs.numbers.globals_fit.Given as goal

abbrev pub invariant-loop-global : goal.invariant-loop-global
invariant-loop-global l =
    list_all spec.global_value (drop l.global-index l.globals) ≡ list_all spec.global_value l.globals
