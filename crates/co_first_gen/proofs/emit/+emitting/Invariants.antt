use Rattle.std.proofs.Common.{◌≡◌, ◌++◌, length, take}
use Rattle.co_first_gen.specs.Code.{list_code}
use Rattle.co_first_gen.proofs.emit.+emitting.Given as goal

abbrev pub invariant-emit_all-loop-stmt : goal.invariant-emit_all-loop-stmt
invariant-emit_all-loop-stmt l =
    l.code.items ≡ l.initial.code.items ++ list_code (length l.initial.code.items) (take l.stmt-index l.stmts)
