use Rattle.std.proofs.Common.{◌≡◌, length}
use Rattle.std.specs.List.{list_any}
use Rattle.co_core_typing.specs.Tables.{is_declared_special}
use Rattle.co_core_typed.proofs.tables.declares_special.Given as goal

abbrev pub invariant-loop-rest : goal.invariant-loop-rest
invariant-loop-rest l = list_any (is_declared_special l.class l.name) l.rest ≡ list_any (is_declared_special l.class l.name) l.funcs

abbrev pub decreases-loop-rest : goal.decreases-loop-rest
decreases-loop-rest l = length l.rest
