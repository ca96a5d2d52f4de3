use Rattle.std.proofs.Common.{◌≡◌, drop}
use Rattle.std.specs.List.{list_all}
use Rattle.co_core_scopes.specs.Makes.{handler_local}
use Rattle.co_core_scopes.proofs.kinds.variables_are_local.Given as goal

abbrev pub invariant-loop-handler : goal.invariant-loop-handler
invariant-loop-handler l = list_all (handler_local l.func) (drop l.handler-index l.handlers) ≡ list_all (handler_local l.func) l.handlers
