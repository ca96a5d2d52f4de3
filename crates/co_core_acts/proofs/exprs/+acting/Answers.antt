-- What is left of each form's clauses.
use Rattle.std.proofs.Common.{arith}
use Rattle.co_core_tree.specs.Slots.{class_params}
use Rattle.co_core_acts.proofs.Loops.{arguments_awaits, arguments_step, members_awaits, members_step, operands_awaits, operands_step}
use Rattle.co_core_acts.proofs.Parts.{awaits_in_address, awaits_in_arith, awaits_in_atomic, awaits_in_await, awaits_in_both, awaits_in_call, awaits_in_choose, awaits_in_convert, awaits_in_ctor, awaits_in_delete, awaits_in_deref, awaits_in_either, awaits_in_exchange, awaits_in_field, awaits_in_handle, awaits_in_lib, awaits_in_load, awaits_in_members, awaits_in_new_form, awaits_in_pick, awaits_in_result, awaits_in_rethrow_ptr, awaits_in_same, awaits_in_store, awaits_in_temp, awaits_in_test, awaits_in_throw, awaits_in_update, awaits_in_value, before_end, visited_address, visited_arith, visited_atomic, visited_await, visited_both, visited_call, visited_choose, visited_convert, visited_ctor, visited_delete, visited_deref, visited_either, visited_exchange, visited_field, visited_handle, visited_lib, visited_load, visited_made, visited_members, visited_new, visited_pick, visited_plan, visited_result, visited_rethrow_ptr, visited_same, visited_store, visited_temp, visited_test, visited_throw, visited_update, visited_value}
use Rattle.co_core_acts.proofs.exprs.+acting.Goals as goal

pub visit_expr-returns-in-Field-clause-visited : goal.visit_expr-returns-in-Field-clause-visited
visit_expr-returns-in-Field-clause-visited g t c =
    visited_field g.V.Visitor.after c.args.funcs.now _ _ _ _ _ _ _ _ _ c.in-Field.is c.get.ensures c.one.ensures.visited

pub visit_expr-returns-in-Field-clause-awaits : goal.visit_expr-returns-in-Field-clause-awaits
visit_expr-returns-in-Field-clause-awaits g t c =
    awaits_in_field g.V.Visitor.after c.args.funcs.now _ _ _ _ _ _ c.in-Field.is c.get.ensures c.one.ensures.awaits

pub visit_expr-returns-in-Deref-clause-visited : goal.visit_expr-returns-in-Deref-clause-visited
visit_expr-returns-in-Deref-clause-visited g t c =
    visited_deref g.V.Visitor.after c.args.funcs.now _ _ _ _ _ _ _ _ c.in-Deref.is c.get-in-Deref.ensures c.one-in-Deref.ensures.visited

pub visit_expr-returns-in-Deref-clause-awaits : goal.visit_expr-returns-in-Deref-clause-awaits
visit_expr-returns-in-Deref-clause-awaits g t c =
    awaits_in_deref g.V.Visitor.after c.args.funcs.now _ _ _ _ _ c.in-Deref.is c.get-in-Deref.ensures c.one-in-Deref.ensures.awaits

pub visit_expr-returns-in-Address-clause-visited : goal.visit_expr-returns-in-Address-clause-visited
visit_expr-returns-in-Address-clause-visited g t c =
    visited_address g.V.Visitor.after c.args.funcs.now _ _ _ _ _ _ _ _ c.in-Address.is c.get-in-Address.ensures c.one-in-Address.ensures.visited

pub visit_expr-returns-in-Address-clause-awaits : goal.visit_expr-returns-in-Address-clause-awaits
visit_expr-returns-in-Address-clause-awaits g t c =
    awaits_in_address g.V.Visitor.after c.args.funcs.now _ _ _ _ _ c.in-Address.is c.get-in-Address.ensures c.one-in-Address.ensures.awaits

pub visit_expr-returns-in-Load-clause-visited : goal.visit_expr-returns-in-Load-clause-visited
visit_expr-returns-in-Load-clause-visited g t c =
    visited_load g.V.Visitor.after c.args.funcs.now _ _ _ _ _ _ _ _ c.in-Load.is c.get-in-Load.ensures c.one-in-Load.ensures.visited

pub visit_expr-returns-in-Load-clause-awaits : goal.visit_expr-returns-in-Load-clause-awaits
visit_expr-returns-in-Load-clause-awaits g t c =
    awaits_in_load g.V.Visitor.after c.args.funcs.now _ _ _ _ _ c.in-Load.is c.get-in-Load.ensures c.one-in-Load.ensures.awaits

pub visit_expr-returns-in-Convert-clause-visited : goal.visit_expr-returns-in-Convert-clause-visited
visit_expr-returns-in-Convert-clause-visited g t c =
    visited_convert g.V.Visitor.after c.args.funcs.now _ _ _ _ _ _ _ _ _ c.in-Convert.is c.get-in-Convert.ensures c.one-in-Convert.ensures.visited

pub visit_expr-returns-in-Convert-clause-awaits : goal.visit_expr-returns-in-Convert-clause-awaits
visit_expr-returns-in-Convert-clause-awaits g t c =
    awaits_in_convert g.V.Visitor.after c.args.funcs.now _ _ _ _ _ _ c.in-Convert.is c.get-in-Convert.ensures c.one-in-Convert.ensures.awaits

pub visit_expr-returns-in-Test-clause-visited : goal.visit_expr-returns-in-Test-clause-visited
visit_expr-returns-in-Test-clause-visited g t c =
    visited_test g.V.Visitor.after c.args.funcs.now _ _ _ _ _ _ _ _ c.in-Test.is c.get-in-Test.ensures c.one-in-Test.ensures.visited

pub visit_expr-returns-in-Test-clause-awaits : goal.visit_expr-returns-in-Test-clause-awaits
visit_expr-returns-in-Test-clause-awaits g t c =
    awaits_in_test g.V.Visitor.after c.args.funcs.now _ _ _ _ _ c.in-Test.is c.get-in-Test.ensures c.one-in-Test.ensures.awaits

pub visit_expr-returns-in-Throw-clause-visited : goal.visit_expr-returns-in-Throw-clause-visited
visit_expr-returns-in-Throw-clause-visited g t c =
    visited_throw g.V.Visitor.after c.args.funcs.now _ _ _ _ _ _ _ _ _ c.in-Throw.is c.get-in-Throw.ensures c.one-in-Throw.ensures.visited

pub visit_expr-returns-in-Throw-clause-awaits : goal.visit_expr-returns-in-Throw-clause-awaits
visit_expr-returns-in-Throw-clause-awaits g t c =
    awaits_in_throw g.V.Visitor.after c.args.funcs.now _ _ _ _ _ _ c.in-Throw.is c.get-in-Throw.ensures c.one-in-Throw.ensures.awaits

pub visit_expr-returns-in-RethrowPtr-clause-visited : goal.visit_expr-returns-in-RethrowPtr-clause-visited
visit_expr-returns-in-RethrowPtr-clause-visited g t c =
    visited_rethrow_ptr g.V.Visitor.after c.args.funcs.now _ _ _ _ _ _ _ _ c.in-RethrowPtr.is c.get-in-RethrowPtr.ensures c.one-in-RethrowPtr.ensures.visited

pub visit_expr-returns-in-RethrowPtr-clause-awaits : goal.visit_expr-returns-in-RethrowPtr-clause-awaits
visit_expr-returns-in-RethrowPtr-clause-awaits g t c =
    awaits_in_rethrow_ptr g.V.Visitor.after c.args.funcs.now _ _ _ _ _ c.in-RethrowPtr.is c.get-in-RethrowPtr.ensures c.one-in-RethrowPtr.ensures.awaits

pub visit_expr-returns-in-Store-clause-visited : goal.visit_expr-returns-in-Store-clause-visited
visit_expr-returns-in-Store-clause-visited g t c =
    visited_store g.V.Visitor.after c.args.funcs.now _ _ _ _ _ _ _ _ _ _ _ _ c.in-Store.is c.get-in-Store-2.ensures c.get-in-Store.ensures c.one-later.ensures.visited c.one-later.ensures.awaits c.kept_earlier.ensures.visited

pub visit_expr-returns-in-Store-clause-awaits : goal.visit_expr-returns-in-Store-clause-awaits
visit_expr-returns-in-Store-clause-awaits g t c =
    awaits_in_store g.V.Visitor.after c.args.funcs.now _ _ _ _ _ _ _ _ c.in-Store.is c.get-in-Store-2.ensures c.get-in-Store.ensures c.one-later.ensures.awaits c.kept_earlier.ensures.awaits

pub visit_expr-returns-in-Exchange-clause-visited : goal.visit_expr-returns-in-Exchange-clause-visited
visit_expr-returns-in-Exchange-clause-visited g t c =
    visited_exchange g.V.Visitor.after c.args.funcs.now _ _ _ _ _ _ _ _ _ _ _ _ c.in-Exchange.is c.get-in-Exchange-2.ensures c.get-in-Exchange.ensures c.one-later-in-Exchange.ensures.visited c.one-later-in-Exchange.ensures.awaits c.kept_earlier-in-Exchange.ensures.visited

pub visit_expr-returns-in-Exchange-clause-awaits : goal.visit_expr-returns-in-Exchange-clause-awaits
visit_expr-returns-in-Exchange-clause-awaits g t c =
    awaits_in_exchange g.V.Visitor.after c.args.funcs.now _ _ _ _ _ _ _ _ c.in-Exchange.is c.get-in-Exchange-2.ensures c.get-in-Exchange.ensures c.one-later-in-Exchange.ensures.awaits c.kept_earlier-in-Exchange.ensures.awaits

pub visit_expr-returns-in-Update-clause-visited : goal.visit_expr-returns-in-Update-clause-visited
visit_expr-returns-in-Update-clause-visited g t c =
    visited_update g.V.Visitor.after c.args.funcs.now _ _ _ _ _ _ _ _ _ _ _ _ _ _ _ c.in-Update.is c.get-in-Update-2.ensures c.get-in-Update.ensures c.one-later-in-Update.ensures.visited c.one-later-in-Update.ensures.awaits c.kept_earlier-in-Update.ensures.visited

pub visit_expr-returns-in-Update-clause-awaits : goal.visit_expr-returns-in-Update-clause-awaits
visit_expr-returns-in-Update-clause-awaits g t c =
    awaits_in_update g.V.Visitor.after c.args.funcs.now _ _ _ _ _ _ _ _ _ _ _ c.in-Update.is c.get-in-Update-2.ensures c.get-in-Update.ensures c.one-later-in-Update.ensures.awaits c.kept_earlier-in-Update.ensures.awaits

pub visit_expr-returns-in-Arith-clause-visited : goal.visit_expr-returns-in-Arith-clause-visited
visit_expr-returns-in-Arith-clause-visited g t c =
    visited_arith g.V.Visitor.after c.args.funcs.now _ _ _ _ _ _ _ _ _ _ _ _ _ _ c.in-Arith.is c.get-in-Arith-2.ensures c.get-in-Arith.ensures c.one-later-in-Arith.ensures.visited c.one-later-in-Arith.ensures.awaits c.kept_earlier-in-Arith.ensures.visited

pub visit_expr-returns-in-Arith-clause-awaits : goal.visit_expr-returns-in-Arith-clause-awaits
visit_expr-returns-in-Arith-clause-awaits g t c =
    awaits_in_arith g.V.Visitor.after c.args.funcs.now _ _ _ _ _ _ _ _ _ _ c.in-Arith.is c.get-in-Arith-2.ensures c.get-in-Arith.ensures c.one-later-in-Arith.ensures.awaits c.kept_earlier-in-Arith.ensures.awaits

pub visit_expr-returns-in-Same-clause-visited : goal.visit_expr-returns-in-Same-clause-visited
visit_expr-returns-in-Same-clause-visited g t c =
    visited_same g.V.Visitor.after c.args.funcs.now _ _ _ _ _ _ _ _ _ _ _ _ c.in-Same.is c.get-in-Same-2.ensures c.get-in-Same.ensures c.one-later-in-Same.ensures.visited c.one-later-in-Same.ensures.awaits c.kept_earlier-in-Same.ensures.visited

pub visit_expr-returns-in-Same-clause-awaits : goal.visit_expr-returns-in-Same-clause-awaits
visit_expr-returns-in-Same-clause-awaits g t c =
    awaits_in_same g.V.Visitor.after c.args.funcs.now _ _ _ _ _ _ _ _ c.in-Same.is c.get-in-Same-2.ensures c.get-in-Same.ensures c.one-later-in-Same.ensures.awaits c.kept_earlier-in-Same.ensures.awaits

pub visit_expr-returns-in-Both-clause-visited : goal.visit_expr-returns-in-Both-clause-visited
visit_expr-returns-in-Both-clause-visited g t c =
    visited_both g.V.Visitor.after c.args.funcs.now _ _ _ _ _ _ _ _ _ _ _ c.in-Both.is c.get-in-Both-2.ensures c.get-in-Both.ensures c.branch-later.ensures.visited c.earlier.ensures.visited

pub visit_expr-returns-in-Both-clause-awaits : goal.visit_expr-returns-in-Both-clause-awaits
visit_expr-returns-in-Both-clause-awaits g t c =
    awaits_in_both g.V.Visitor.after c.args.funcs.now _ _ _ _ _ _ _ _ c.in-Both.is c.get-in-Both-2.ensures c.get-in-Both.ensures c.branch-later.ensures.awaits c.earlier.ensures.awaits

pub visit_expr-returns-in-Either-clause-visited : goal.visit_expr-returns-in-Either-clause-visited
visit_expr-returns-in-Either-clause-visited g t c =
    visited_either g.V.Visitor.after c.args.funcs.now _ _ _ _ _ _ _ _ _ _ _ c.in-Either.is c.get-in-Either-2.ensures c.get-in-Either.ensures c.branch-later-in-Either.ensures.visited c.earlier-in-Either.ensures.visited

pub visit_expr-returns-in-Either-clause-awaits : goal.visit_expr-returns-in-Either-clause-awaits
visit_expr-returns-in-Either-clause-awaits g t c =
    awaits_in_either g.V.Visitor.after c.args.funcs.now _ _ _ _ _ _ _ _ c.in-Either.is c.get-in-Either-2.ensures c.get-in-Either.ensures c.branch-later-in-Either.ensures.awaits c.earlier-in-Either.ensures.awaits

pub visit_expr-returns-in-Pick-clause-visited : goal.visit_expr-returns-in-Pick-clause-visited
visit_expr-returns-in-Pick-clause-visited g t c =
    visited_pick g.V.Visitor.after c.args.funcs.now _ _ _ _ _ _ _ _ _ _ _ _ _ _ c.in-Pick.is c.get-in-Pick-3.ensures c.get-in-Pick-2.ensures c.get-in-Pick.ensures c.branch-last.ensures.visited c.earlier-later.ensures.visited c.earlier-in-Pick.ensures.visited

pub visit_expr-returns-in-Pick-clause-awaits : goal.visit_expr-returns-in-Pick-clause-awaits
visit_expr-returns-in-Pick-clause-awaits g t c =
    awaits_in_pick g.V.Visitor.after c.args.funcs.now _ _ _ _ _ _ _ _ _ _ _ c.in-Pick.is c.get-in-Pick-3.ensures c.get-in-Pick-2.ensures c.get-in-Pick.ensures c.branch-last.ensures.awaits c.earlier-later.ensures.awaits c.earlier-in-Pick.ensures.awaits

pub visit_expr-returns-in-Call-clause-visited : goal.visit_expr-returns-in-Call-clause-visited
visit_expr-returns-in-Call-clause-visited g t c =
    visited_call g.V.Visitor.after c.args.funcs.now _ _ _ _ _ _ _ _ _ c.in-Call.is c.as_slice.ensures c.call.ensures.visited

pub visit_expr-returns-in-Call-clause-awaits : goal.visit_expr-returns-in-Call-clause-awaits
visit_expr-returns-in-Call-clause-awaits g t c =
    awaits_in_call g.V.Visitor.after c.args.funcs.now _ _ _ _ _ _ c.in-Call.is c.as_slice.ensures c.call.ensures.awaits

pub visit_expr-returns-in-Handle-clause-visited : goal.visit_expr-returns-in-Handle-clause-visited
visit_expr-returns-in-Handle-clause-visited g t c =
    visited_handle g.V.Visitor.after c.args.funcs.now _ _ _ _ _ _ _ _ _ c.in-Handle.is c.as_slice-in-Handle.ensures c.many.ensures.visited

pub visit_expr-returns-in-Handle-clause-awaits : goal.visit_expr-returns-in-Handle-clause-awaits
visit_expr-returns-in-Handle-clause-awaits g t c =
    awaits_in_handle g.V.Visitor.after c.args.funcs.now _ _ _ _ _ _ c.in-Handle.is c.as_slice-in-Handle.ensures c.many.ensures.awaits

pub visit_expr-returns-in-Atomic-clause-visited : goal.visit_expr-returns-in-Atomic-clause-visited
visit_expr-returns-in-Atomic-clause-visited g t c =
    visited_atomic g.V.Visitor.after c.args.funcs.now _ _ _ _ _ _ _ _ _ c.in-Atomic.is c.as_slice-in-Atomic.ensures c.many-in-Atomic.ensures.visited

pub visit_expr-returns-in-Atomic-clause-awaits : goal.visit_expr-returns-in-Atomic-clause-awaits
visit_expr-returns-in-Atomic-clause-awaits g t c =
    awaits_in_atomic g.V.Visitor.after c.args.funcs.now _ _ _ _ _ _ c.in-Atomic.is c.as_slice-in-Atomic.ensures c.many-in-Atomic.ensures.awaits

pub visit_expr-returns-in-Lib-clause-visited : goal.visit_expr-returns-in-Lib-clause-visited
visit_expr-returns-in-Lib-clause-visited g t c =
    visited_lib g.V.Visitor.after c.args.funcs.now _ _ _ _ _ _ _ _ _ c.in-Lib.is c.as_slice-in-Lib.ensures c.many-in-Lib.ensures.visited

pub visit_expr-returns-in-Lib-clause-awaits : goal.visit_expr-returns-in-Lib-clause-awaits
visit_expr-returns-in-Lib-clause-awaits g t c =
    awaits_in_lib g.V.Visitor.after c.args.funcs.now _ _ _ _ _ _ c.in-Lib.is c.as_slice-in-Lib.ensures c.many-in-Lib.ensures.awaits

pub visit_expr-returns-in-Temp-clause-visited : goal.visit_expr-returns-in-Temp-clause-visited
visit_expr-returns-in-Temp-clause-visited g t c =
    visited_temp g.V.Visitor.after c.args.funcs.now _ _ _ _ _ _ _ _ _ _ c.in-Temp.is c.get-in-Temp.ensures c.temp.ensures c.visit_init.ensures.visited

pub visit_expr-returns-in-Temp-clause-awaits : goal.visit_expr-returns-in-Temp-clause-awaits
visit_expr-returns-in-Temp-clause-awaits g t c =
    awaits_in_temp g.V.Visitor.after c.args.funcs.now _ _ _ _ _ _ c.in-Temp.is c.get-in-Temp.ensures c.visit_init.ensures.awaits

pub visit_expr-returns-in-Await-clause-visited : goal.visit_expr-returns-in-Await-clause-visited
visit_expr-returns-in-Await-clause-visited g t c =
    visited_await g.V.Visitor.after c.args.funcs.now _ _ _ _ _ _ _ c.in-Await.is c.get-in-Await.ensures c.awaited.ensures.visited

pub visit_expr-returns-in-Await-clause-awaits : goal.visit_expr-returns-in-Await-clause-awaits
visit_expr-returns-in-Await-clause-awaits g t c =
    awaits_in_await g.V.Visitor.after c.args.funcs.now _ _ _ _ c.in-Await.is c.get-in-Await.ensures c.awaited.ensures.any c.awaited.ensures.in_new

pub visit_expr-returns-in-New-clause-visited : goal.visit_expr-returns-in-New-clause-visited
visit_expr-returns-in-New-clause-visited g t c =
    visited_new g.V.Visitor.after c.args.funcs.now _ _ _ _ _ _ _ c.in-New.is c.get-in-New.ensures c.made.ensures.visited

pub visit_expr-returns-in-New-clause-awaits : goal.visit_expr-returns-in-New-clause-awaits
visit_expr-returns-in-New-clause-awaits g t c =
    awaits_in_new_form g.V.Visitor.after c.args.funcs.now _ _ _ _ c.in-New.is c.get-in-New.ensures c.made.ensures.any c.made.ensures.in_new

pub visit_expr-returns-in-Delete-clause-visited : goal.visit_expr-returns-in-Delete-clause-visited
visit_expr-returns-in-Delete-clause-visited g t c =
    visited_delete g.V.Visitor.after c.args.funcs.now _ _ _ _ _ _ _ c.in-Delete.is c.get-in-Delete.ensures c.one-in-Delete.ensures.visited

pub visit_expr-returns-in-Delete-clause-awaits : goal.visit_expr-returns-in-Delete-clause-awaits
visit_expr-returns-in-Delete-clause-awaits g t c =
    awaits_in_delete g.V.Visitor.after c.args.funcs.now _ _ _ _ c.in-Delete.is c.get-in-Delete.ensures c.one-in-Delete.ensures.awaits

pub visit_init-returns-in-Ctor-clause-visited : goal.visit_init-returns-in-Ctor-clause-visited
visit_init-returns-in-Ctor-clause-visited g t c =
    visited_ctor g.V.Visitor.after c.args.funcs.now _ _ _ _ _ _ _ _ _ c.in-Ctor.is c.as_slice.ensures c.starts.ensures c.visit_args.ensures.visited

pub visit_init-returns-in-Ctor-clause-awaits : goal.visit_init-returns-in-Ctor-clause-awaits
visit_init-returns-in-Ctor-clause-awaits g t c =
    awaits_in_ctor g.V.Visitor.after c.args.funcs.now _ _ _ _ _ c.in-Ctor.is c.as_slice.ensures c.visit_args.ensures.awaits

pub visit_init-returns-in-Members-clause-visited : goal.visit_init-returns-in-Members-clause-visited
visit_init-returns-in-Members-clause-visited g t c =
    visited_members g.V.Visitor.after c.args.funcs.now _ _ _ _ _ _ _ _ c.in-Members.is c.as_slice-in-Members.ensures c.starts.ensures c.visit_members.ensures.visited

pub visit_init-returns-in-Members-clause-awaits : goal.visit_init-returns-in-Members-clause-awaits
visit_init-returns-in-Members-clause-awaits g t c =
    awaits_in_members g.V.Visitor.after c.args.funcs.now _ _ _ _ c.in-Members.is c.as_slice-in-Members.ensures c.visit_members.ensures.awaits

pub visit_init-returns-in-Value-clause-visited : goal.visit_init-returns-in-Value-clause-visited
visit_init-returns-in-Value-clause-visited g t c =
    visited_value g.V.Visitor.after c.args.funcs.now _ _ _ _ _ _ _ c.in-Value.is c.starts.ensures c.visit_expr.ensures.visited

pub visit_init-returns-in-Value-clause-awaits : goal.visit_init-returns-in-Value-clause-awaits
visit_init-returns-in-Value-clause-awaits g t c =
    awaits_in_value g.V.Visitor.after c.args.funcs.now _ _ _ c.in-Value.is c.visit_expr.ensures.awaits

pub visit_init-returns-in-Result-clause-visited : goal.visit_init-returns-in-Result-clause-visited
visit_init-returns-in-Result-clause-visited g t c =
    visited_result g.V.Visitor.after c.args.funcs.now _ _ _ _ _ _ _ c.in-Result.is c.starts.ensures c.visit_expr-in-Result.ensures.visited

pub visit_init-returns-in-Result-clause-awaits : goal.visit_init-returns-in-Result-clause-awaits
visit_init-returns-in-Result-clause-awaits g t c =
    awaits_in_result g.V.Visitor.after c.args.funcs.now _ _ _ c.in-Result.is c.visit_expr-in-Result.ensures.awaits

pub visit_init-returns-in-Choose-clause-visited : goal.visit_init-returns-in-Choose-clause-visited
visit_init-returns-in-Choose-clause-visited g t c =
    visited_choose g.V.Visitor.after c.args.funcs.now _ _ _ _ _ _ _ _ _ _ _ _ _ c.in-Choose.is c.get-in-Choose.ensures c.get.ensures c.starts.ensures c.visit_init-last.ensures.visited c.visit_init.ensures.visited c.earlier.ensures.visited

pub visit_init-returns-in-Choose-clause-awaits : goal.visit_init-returns-in-Choose-clause-awaits
visit_init-returns-in-Choose-clause-awaits g t c =
    awaits_in_choose g.V.Visitor.after c.args.funcs.now _ _ _ _ _ _ _ _ _ _ c.in-Choose.is c.get-in-Choose.ensures c.get.ensures c.visit_init-last.ensures.awaits c.visit_init.ensures.awaits c.and-later.ensures c.earlier.ensures.awaits

pub awaited-returns-clause-visited : goal.awaited-returns-clause-visited
awaited-returns-clause-visited g t c =
    before_end g.V.Visitor.after c.args.funcs.now _ _ _ _ _ c.does.ensures c.visit_plan-parts.ensures.visited

pub call-returns-clause-visited : goal.call-returns-clause-visited
call-returns-clause-visited g t c =
    before_end g.V.Visitor.after c.args.funcs.now _ _ _ _ _ c.does.ensures c.visit_args.ensures.visited

pub many-returns-clause-visited : goal.many-returns-clause-visited
many-returns-clause-visited g t c =
    before_end g.V.Visitor.after c.args.funcs.now _ _ _ _ _ c.does.ensures c.visit_operands.ensures.visited

pub one-returns-clause-visited : goal.one-returns-clause-visited
one-returns-clause-visited g t c =
    before_end g.V.Visitor.after c.args.funcs.now _ _ _ _ _ c.does.ensures c.visit_expr.ensures.visited

pub branch-returns-clause-visited : goal.branch-returns-clause-visited
branch-returns-clause-visited g t c =
    before_end g.V.Visitor.after c.args.funcs.now _ _ _ _ _ c.does.ensures c.visit_expr.ensures.visited

pub made-returns-clause-visited : goal.made-returns-clause-visited
made-returns-clause-visited g t c =
    visited_made g.V.Visitor.after c.args.funcs.now c.args.plan.now.init _ _ _ _ _ _ c.either-unsure.ensures c.does.ensures c.visit_init.ensures.visited

pub visit_plan-returns-clause-visited : goal.visit_plan-returns-clause-visited
visit_plan-returns-clause-visited g t c =
    visited_plan g.V.Visitor.after c.args.funcs.now c.args.plan.now c.args.conditional _ _ _ _ _ c.visit_expr-resume.ensures.visited c.visit_expr-suspend.ensures.visited c.visit_expr-ready.ensures.visited c.visit_expr-operand.ensures.visited

pub visit_args-loop-at-preserved : goal.visit_args-loop-at-preserved
visit_args-loop-at-preserved g t c =
    let flags = class_params c.args.funcs.now c.args.func in
    record {
      within = omega (arith, c.loop-at.invariant.within);
      visited = arguments_step g.V.Visitor.after c.args.funcs.now flags c.args.start _ _ _ _ _ _ _ _ _ _ c.loop-at-test.true c.loop-at.invariant.within c.index-args-at.is c.takes_class-object.ensures c.loop-at.invariant.visited c.loop-at.invariant.awaits c.keep_argument.ensures c.visit_init.ensures.visited;
      awaits = arguments_awaits c.args.funcs.now flags c.args.start _ _ _ _ _ _ c.loop-at-test.true c.loop-at.invariant.within c.index-args-at.is c.loop-at.invariant.awaits c.visit_init.ensures.awaits c.and-later.ensures;
    }

pub visit_members-loop-at-preserved : goal.visit_members-loop-at-preserved
visit_members-loop-at-preserved g t c = record {
  within = omega (arith, c.loop-at.invariant.within);
  visited = members_step g.V.Visitor.after c.args.funcs.now _ _ _ _ _ _ _ c.loop-at-test.true c.loop-at.invariant.within c.index-members-at.is c.loop-at.invariant.visited c.visit_init.ensures.visited;
  awaits = members_awaits c.args.funcs.now _ _ _ _ _ _ c.loop-at-test.true c.loop-at.invariant.within c.index-members-at.is c.loop-at.invariant.awaits c.visit_init.ensures.awaits c.and-later.ensures;
}

pub visit_operands-loop-at-preserved : goal.visit_operands-loop-at-preserved
visit_operands-loop-at-preserved g t c = record {
  within = omega (arith, c.loop-at.invariant.within);
  visited = operands_step g.V.Visitor.after c.args.funcs.now _ _ _ _ _ _ _ _ _ c.loop-at-test.true c.loop-at.invariant.within c.index-operands-at.is c.loop-at.invariant.visited c.loop-at.invariant.awaits c.keep_expr.ensures c.visit_expr.ensures.visited;
  awaits = operands_awaits c.args.funcs.now _ _ _ _ _ _ c.loop-at-test.true c.loop-at.invariant.within c.index-operands-at.is c.loop-at.invariant.awaits c.visit_expr.ensures.awaits c.and-later.ensures;
}
