use Rattle.std.specs.Prelude.{true, false, ◌||◌, []}
use Rattle.std.proofs.Common.{refl, ap, ◌∙◌}
use Rattle.co_core_tree.specs.Acts.{acts, init_acts}
use Rattle.co_core_walks.proofs.Forms.{acts_address, acts_arith, acts_both, acts_convert, acts_delete, acts_deref, acts_either, acts_exchange, acts_field, acts_load, acts_new, acts_pick, acts_rethrow_ptr, acts_same, acts_store, acts_test, acts_throw, acts_update, all_atomic, all_await, all_call, all_ctor, all_handle, all_kept, all_lib, all_members, all_one, all_plan, all_temp, all_three, all_two, flat_end, flat_step, init_acts_choose, init_acts_result, init_acts_value, inits_end, inits_step}
use Rattle.co_core_walks.proofs.walk.+walk.Goals as goal

pub walk_parts-returns-in-Field : goal.walk_parts-returns-in-Field
walk_parts-returns-in-Field g t c = λ objects d o.
    all_one g.V.Visitor.after _ _ _ _ _ _ (acts_field objects d o _ _ _ _ c.in-Field.is) (ap (acts objects d false) c.get.ensures) (c.walk_expr.ensures objects d false)

pub walk_parts-returns-in-Deref : goal.walk_parts-returns-in-Deref
walk_parts-returns-in-Deref g t c = λ objects d o.
    all_one g.V.Visitor.after _ _ _ _ _ _ (acts_deref objects d o _ _ _ c.in-Deref.is) (ap (acts objects d false) c.get-in-Deref.ensures) (c.walk_expr-in-Deref.ensures objects d false)

pub walk_parts-returns-in-Address : goal.walk_parts-returns-in-Address
walk_parts-returns-in-Address g t c = λ objects d o.
    all_one g.V.Visitor.after _ _ _ _ _ _ (acts_address objects d o _ _ _ c.in-Address.is) (ap (acts objects d false) c.get-in-Address.ensures) (c.walk_expr-in-Address.ensures objects d false)

pub walk_parts-returns-in-Load : goal.walk_parts-returns-in-Load
walk_parts-returns-in-Load g t c = λ objects d o.
    all_one g.V.Visitor.after _ _ _ _ _ _ (acts_load objects d o _ _ _ c.in-Load.is) (ap (acts objects d false) c.get-in-Load.ensures) (c.walk_expr-in-Load.ensures objects d false)

pub walk_parts-returns-in-Convert : goal.walk_parts-returns-in-Convert
walk_parts-returns-in-Convert g t c = λ objects d o.
    all_one g.V.Visitor.after _ _ _ _ _ _ (acts_convert objects d o _ _ _ _ c.in-Convert.is) (ap (acts objects d false) c.get-in-Convert.ensures) (c.walk_expr-in-Convert.ensures objects d false)

pub walk_parts-returns-in-Test : goal.walk_parts-returns-in-Test
walk_parts-returns-in-Test g t c = λ objects d o.
    all_one g.V.Visitor.after _ _ _ _ _ _ (acts_test objects d o _ _ _ c.in-Test.is) (ap (acts objects d false) c.get-in-Test.ensures) (c.walk_expr-in-Test.ensures objects d false)

pub walk_parts-returns-in-Throw : goal.walk_parts-returns-in-Throw
walk_parts-returns-in-Throw g t c = λ objects d o.
    all_one g.V.Visitor.after _ _ _ _ _ _ (acts_throw objects d o _ _ _ _ c.in-Throw.is) (ap (acts objects d false) c.get-in-Throw.ensures) (c.walk_expr-in-Throw.ensures objects d false)

pub walk_parts-returns-in-RethrowPtr : goal.walk_parts-returns-in-RethrowPtr
walk_parts-returns-in-RethrowPtr g t c = λ objects d o.
    all_one g.V.Visitor.after _ _ _ _ _ _ (acts_rethrow_ptr objects d o _ _ _ c.in-RethrowPtr.is) (ap (acts objects d false) c.get-in-RethrowPtr.ensures) (c.walk_expr-in-RethrowPtr.ensures objects d false)

pub walk_parts-returns-in-Store : goal.walk_parts-returns-in-Store
walk_parts-returns-in-Store g t c = λ objects d o.
    all_kept g.V.Visitor.after g.met.V.Visitor.keeps _ _ _ _ _ _ _ _ _ _ (acts_store objects d o _ _ _ _ c.in-Store.is) (ap (acts objects d false) c.get-in-Store.ensures) (ap (acts objects d false) c.get-in-Store-2.ensures) (c.walk_expr-in-Store.ensures objects d false) (c.walk_expr-in-Store-2.ensures objects d false)

pub walk_parts-returns-in-Exchange : goal.walk_parts-returns-in-Exchange
walk_parts-returns-in-Exchange g t c = λ objects d o.
    all_kept g.V.Visitor.after g.met.V.Visitor.keeps _ _ _ _ _ _ _ _ _ _ (acts_exchange objects d o _ _ _ _ c.in-Exchange.is) (ap (acts objects d false) c.get-in-Exchange.ensures) (ap (acts objects d false) c.get-in-Exchange-2.ensures) (c.walk_expr-in-Exchange.ensures objects d false) (c.walk_expr-in-Exchange-2.ensures objects d false)

pub walk_parts-returns-in-Update : goal.walk_parts-returns-in-Update
walk_parts-returns-in-Update g t c = λ objects d o.
    all_kept g.V.Visitor.after g.met.V.Visitor.keeps _ _ _ _ _ _ _ _ _ _ (acts_update objects d o _ _ _ _ _ _ _ c.in-Update.is) (ap (acts objects d false) c.get-in-Update.ensures) (ap (acts objects d false) c.get-in-Update-2.ensures) (c.walk_expr-in-Update.ensures objects d false) (c.walk_expr-in-Update-2.ensures objects d false)

pub walk_parts-returns-in-Arith : goal.walk_parts-returns-in-Arith
walk_parts-returns-in-Arith g t c = λ objects d o.
    all_kept g.V.Visitor.after g.met.V.Visitor.keeps _ _ _ _ _ _ _ _ _ _ (acts_arith objects d o _ _ _ _ _ _ c.in-Arith.is) (ap (acts objects d false) c.get-in-Arith.ensures) (ap (acts objects d false) c.get-in-Arith-2.ensures) (c.walk_expr-in-Arith.ensures objects d false) (c.walk_expr-in-Arith-2.ensures objects d false)

pub walk_parts-returns-in-Same : goal.walk_parts-returns-in-Same
walk_parts-returns-in-Same g t c = λ objects d o.
    all_kept g.V.Visitor.after g.met.V.Visitor.keeps _ _ _ _ _ _ _ _ _ _ (acts_same objects d o _ _ _ _ c.in-Same.is) (ap (acts objects d false) c.get-in-Same.ensures) (ap (acts objects d false) c.get-in-Same-2.ensures) (c.walk_expr-in-Same.ensures objects d false) (c.walk_expr-in-Same-2.ensures objects d false)

pub walk_parts-returns-in-Both : goal.walk_parts-returns-in-Both
walk_parts-returns-in-Both g t c = λ objects d o.
    all_two g.V.Visitor.after _ _ _ _ _ _ _ _ _ (acts_both objects d o _ _ _ _ c.in-Both.is) (ap (acts objects d false) c.get-in-Both.ensures) (ap (acts objects true false) c.get-in-Both-2.ensures) (c.walk_expr-in-Both.ensures objects d false) (c.walk_expr-in-Both-2.ensures objects true false)

pub walk_parts-returns-in-Either : goal.walk_parts-returns-in-Either
walk_parts-returns-in-Either g t c = λ objects d o.
    all_two g.V.Visitor.after _ _ _ _ _ _ _ _ _ (acts_either objects d o _ _ _ _ c.in-Either.is) (ap (acts objects d false) c.get-in-Either.ensures) (ap (acts objects true false) c.get-in-Either-2.ensures) (c.walk_expr-in-Either.ensures objects d false) (c.walk_expr-in-Either-2.ensures objects true false)

pub walk_parts-returns-in-Pick : goal.walk_parts-returns-in-Pick
walk_parts-returns-in-Pick g t c = λ objects d o.
    all_three g.V.Visitor.after _ _ _ _ _ _ _ _ _ _ _ _ (acts_pick objects d o _ _ _ _ _ c.in-Pick.is) (ap (acts objects d false) c.get-in-Pick.ensures) (ap (acts objects true false) c.get-in-Pick-2.ensures) (ap (acts objects true false) c.get-in-Pick-3.ensures) (c.walk_expr-in-Pick.ensures objects d false) (c.walk_expr-in-Pick-2.ensures objects true false) (c.walk_expr-in-Pick-3.ensures objects true false)

pub walk_parts-returns-in-Call : goal.walk_parts-returns-in-Call
walk_parts-returns-in-Call g t c = λ objects d o.
    all_call g.V.Visitor.after g.met.V.Visitor.keeps _ _ objects d o _ _ _ _ _ c.in-Call.is c.as_slice.ensures (c.walk_inits.ensures objects _ d)

pub walk_parts-returns-in-Temp : goal.walk_parts-returns-in-Temp
walk_parts-returns-in-Temp g t c = λ objects d o.
    all_temp g.V.Visitor.after g.met.V.Visitor.passes _ _ objects d o _ _ _ _ _ c.in-Temp.is c.get-in-Temp.ensures (c.walk_init.ensures objects d false)

pub walk_parts-returns-in-Await : goal.walk_parts-returns-in-Await
walk_parts-returns-in-Await g t c = λ objects d o.
    all_await g.V.Visitor.after _ _ objects d o _ _ _ c.in-Await.is c.get-in-Await.ensures (c.walk_await.ensures objects d)

pub walk_parts-returns-in-Handle : goal.walk_parts-returns-in-Handle
walk_parts-returns-in-Handle g t c = λ objects d o.
    all_handle g.V.Visitor.after g.met.V.Visitor.keeps _ _ objects d o _ _ _ _ _ c.in-Handle.is c.as_slice-in-Handle.ensures (c.walk_exprs.ensures objects d)

pub walk_parts-returns-in-Atomic : goal.walk_parts-returns-in-Atomic
walk_parts-returns-in-Atomic g t c = λ objects d o.
    all_atomic g.V.Visitor.after g.met.V.Visitor.keeps _ _ objects d o _ _ _ _ _ c.in-Atomic.is c.as_slice-in-Atomic.ensures (c.walk_exprs-in-Atomic.ensures objects d)

pub walk_parts-returns-in-Lib : goal.walk_parts-returns-in-Lib
walk_parts-returns-in-Lib g t c = λ objects d o.
    all_lib g.V.Visitor.after g.met.V.Visitor.keeps _ _ objects d o _ _ _ _ _ c.in-Lib.is c.as_slice-in-Lib.ensures (c.walk_exprs-in-Lib.ensures objects d)

pub walk_parts-returns-in-New : goal.walk_parts-returns-in-New
walk_parts-returns-in-New g t c = λ objects d o.
    all_one g.V.Visitor.after _ _ _ _ _ _ (acts_new objects d o _ _ c.in-New.is) (ap (λ p. init_acts objects (d || p.may_be_null) false p.init) c.get-in-New.ensures) (c.walk_init-in-New.ensures objects _ false)

pub walk_parts-returns-in-Delete : goal.walk_parts-returns-in-Delete
walk_parts-returns-in-Delete g t c = λ objects d o.
    all_one g.V.Visitor.after _ _ _ _ _ _ (acts_delete objects d o _ _ c.in-Delete.is) (ap (λ p. acts objects d false p.pointer) c.get-in-Delete.ensures) (c.walk_expr-in-Delete.ensures objects d false)

pub walk_await-returns : goal.walk_await-returns
walk_await-returns g t c = λ objects d.
    all_plan g.V.Visitor.after _ _ _ _ _ objects d c.args.plan.now (c.walk_expr.ensures objects d false) (c.walk_expr-2.ensures objects d false) (c.walk_expr-3.ensures objects d false) (c.walk_expr-4.ensures objects d false)

pub walk_expr-returns : goal.walk_expr-returns
walk_expr-returns g t c = λ objects d o. c.visit_expr.ensures d ∙ c.walk_parts.ensures objects d o

pub walk_init-returns : goal.walk_init-returns
walk_init-returns g t c = λ objects d o. c.visit_init.ensures ∙ c.walk_init_parts.ensures objects d o

pub walk_init_parts-returns-in-Ctor : goal.walk_init_parts-returns-in-Ctor
walk_init_parts-returns-in-Ctor g t c = λ objects d o.
    all_ctor g.V.Visitor.after g.met.V.Visitor.keeps _ _ objects d o _ _ _ _ c.in-Ctor.is c.as_slice.ensures (c.walk_inits.ensures objects _ d)

pub walk_init_parts-returns-in-Members : goal.walk_init_parts-returns-in-Members
walk_init_parts-returns-in-Members g t c = λ objects d o.
    all_members g.V.Visitor.after _ _ objects d o _ _ _ c.in-Members.is c.as_slice-in-Members.ensures (c.walk_inits-in-Members.ensures objects [] d)

pub walk_init_parts-returns-in-Value : goal.walk_init_parts-returns-in-Value
walk_init_parts-returns-in-Value g t c = λ objects d o.
    all_one g.V.Visitor.after _ _ _ _ _ _ (init_acts_value objects d o _ _ c.in-Value.is) refl (c.walk_expr.ensures objects d o)

pub walk_init_parts-returns-in-Result : goal.walk_init_parts-returns-in-Result
walk_init_parts-returns-in-Result g t c = λ objects d o.
    all_one g.V.Visitor.after _ _ _ _ _ _ (init_acts_result objects d o _ _ c.in-Result.is) refl (c.walk_expr-in-Result.ensures objects d false)

pub walk_init_parts-returns-in-Choose : goal.walk_init_parts-returns-in-Choose
walk_init_parts-returns-in-Choose g t c = λ objects d o.
    all_three g.V.Visitor.after _ _ _ _ _ _ _ _ _ _ _ _ (init_acts_choose objects d o _ _ _ _ c.in-Choose.is) refl (ap (init_acts objects true false) c.get.ensures) (ap (init_acts objects true false) c.get-in-Choose.ensures) (c.walk_expr-in-Choose.ensures objects d false) (c.walk_init.ensures objects true false) (c.walk_init-in-Choose.ensures objects true false)

pub walk_exprs-loop-e-init : goal.walk_exprs-loop-e-init
walk_exprs-loop-e-init g t c = λ objects d. refl

pub walk_exprs-loop-e-preserved : goal.walk_exprs-loop-e-preserved
walk_exprs-loop-e-preserved g t c = λ objects d.
    flat_step g.V.Visitor.after (acts objects d false) _ _ _ _ _ _ c.loop-e-test.true c.e-item.is (c.walk_expr.ensures objects d false) (c.loop-e.invariant objects d)

pub walk_exprs-returns : goal.walk_exprs-returns
walk_exprs-returns g t c = λ objects d.
    flat_end g.V.Visitor.after (acts objects d false) _ _ _ _ c.loop-e-test.false (c.loop-e.invariant objects d)

pub walk_inits-loop-i-init : goal.walk_inits-loop-i-init
walk_inits-loop-i-init g t c = λ objects flags d. refl

pub walk_inits-loop-i-preserved : goal.walk_inits-loop-i-preserved
walk_inits-loop-i-preserved g t c = λ objects flags d.
    inits_step g.V.Visitor.after _ _ objects flags d _ _ _ _ c.loop-i-test.true c.i-item.is (c.walk_init.ensures objects d _) (c.loop-i.invariant objects flags d)

pub walk_inits-returns : goal.walk_inits-returns
walk_inits-returns g t c = λ objects flags d.
    inits_end g.V.Visitor.after _ objects _ d _ _ _ c.loop-i-test.false (c.loop-i.invariant objects flags d)
