use Rattle.std.proofs.Common.{◌∙◌, ap, ◌++◌, length}
use Rattle.co_first_gen.specs.Code.{stmt_code, list_code}
use Rattle.co_first_gen.proofs.Lists.{list_more}
use Rattle.co_first_gen.proofs.Patch.{patch_while}
use Rattle.co_first_gen.proofs.emit.+emitting.Goals as goal

pub emit_all-loop-stmt-preserved : goal.emit_all-loop-stmt-preserved
emit_all-loop-stmt-preserved t c =
    list_more c.args.stmts.now c.loop-stmt.stmt-index c.stmt-item.result _ _ _ c.loop-stmt-test.true c.loop-stmt.invariant (c.in_ok-emit_stmt.ensures ∙ ap (λ s. c.loop-stmt.code.items ++ stmt_code (length c.loop-stmt.code.items) s) c.stmt-item.is)

pub emit_stmt-returns-in_ok-put-in-While-2 : goal.emit_stmt-returns-in_ok-put-in-While-2
emit_stmt-returns-in_ok-put-in-While-2 t c =
    patch_while _ _ _ _ _ _ _ _ _ _ _ _ _ _ c.in-While.is (c.len-start.ensures ∙ c.args.code.now.ok.0) c.in_ok-emit_sum-in-While.ensures (c.len-test_end.ensures ∙ c.emit_sum.new.code.ok.0) c.in_ok-put-in-While.ensures (c.in_ok-emit_all-in-While.ensures ∙ ap (λ body. c.put.new.code.items ++ list_code (length c.put.new.code.items) body) c.as_slice.ensures) c.span_of-in-While.ensures c.in_ok-put-in-While-2.ensures (c.len.ensures ∙ c.put-in-While.new.code.ok.0) c.span_of-in-While-2.ensures
