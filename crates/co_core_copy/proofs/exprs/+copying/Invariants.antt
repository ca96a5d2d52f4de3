use Rattle.std.proofs.Common.{◌≡◌, ◌+◌, ◌*◌, max, take}
use Rattle.co_core_tree.specs.declared.exprs.CoreExpr.{size-CoreExpr}
use Rattle.co_core_tree.specs.declared.exprs.Init.{size-Init}
use Rattle.co_core_copy.proofs.exprs.+copying.Given as goal

abbrev pub invariant-copy_exprs-loop-item : goal.invariant-copy_exprs-loop-item
invariant-copy_exprs-loop-item l = l.copied ≡ take l.item-index l.exprs

abbrev pub invariant-copy_inits-loop-item : goal.invariant-copy_inits-loop-item
invariant-copy_inits-loop-item l = l.copied ≡ take l.item-index l.inits

abbrev pub decreases-copy_expr : goal.decreases-copy_expr
decreases-copy_expr l = 8 * size-CoreExpr l.e.now

abbrev pub decreases-boxed : goal.decreases-boxed
decreases-boxed l = 8 * size-CoreExpr l.e.now + 1

abbrev pub decreases-copy_field : goal.decreases-copy_field
decreases-copy_field l = 8 * size-CoreExpr l.object.now + 6

abbrev pub decreases-copy_deref : goal.decreases-copy_deref
decreases-copy_deref l = 8 * size-CoreExpr l.pointer.now + 6

abbrev pub decreases-copy_address : goal.decreases-copy_address
decreases-copy_address l = 8 * size-CoreExpr l.place.now + 6

abbrev pub decreases-copy_load : goal.decreases-copy_load
decreases-copy_load l = 8 * size-CoreExpr l.place.now + 6

abbrev pub decreases-copy_test : goal.decreases-copy_test
decreases-copy_test l = 8 * size-CoreExpr l.part.now + 6

abbrev pub decreases-copy_rethrow_ptr : goal.decreases-copy_rethrow_ptr
decreases-copy_rethrow_ptr l = 8 * size-CoreExpr l.part.now + 6

abbrev pub decreases-copy_convert : goal.decreases-copy_convert
decreases-copy_convert l = 8 * size-CoreExpr l.part.now + 6

abbrev pub decreases-copy_store : goal.decreases-copy_store
decreases-copy_store l = 8 * max (size-CoreExpr l.place.now) (size-CoreExpr l.value.now) + 6

abbrev pub decreases-copy_exchange : goal.decreases-copy_exchange
decreases-copy_exchange l = 8 * max (size-CoreExpr l.place.now) (size-CoreExpr l.value.now) + 6

abbrev pub decreases-copy_same : goal.decreases-copy_same
decreases-copy_same l = 8 * max (size-CoreExpr l.left.now) (size-CoreExpr l.right.now) + 6

abbrev pub decreases-copy_both : goal.decreases-copy_both
decreases-copy_both l = 8 * max (size-CoreExpr l.left.now) (size-CoreExpr l.right.now) + 6

abbrev pub decreases-copy_either : goal.decreases-copy_either
decreases-copy_either l = 8 * max (size-CoreExpr l.left.now) (size-CoreExpr l.right.now) + 6

abbrev pub decreases-copy_update : goal.decreases-copy_update
decreases-copy_update l = 8 * max (size-CoreExpr l.place.now) (size-CoreExpr l.value.now) + 6

abbrev pub decreases-copy_arith : goal.decreases-copy_arith
decreases-copy_arith l = 8 * max (size-CoreExpr l.left.now) (size-CoreExpr l.right.now) + 6

abbrev pub decreases-copy_pick : goal.decreases-copy_pick
decreases-copy_pick l = 8 * max (size-CoreExpr l.condition.now) (max (size-CoreExpr l.x.now) (size-CoreExpr l.y.now)) + 6

abbrev pub decreases-copy_call : goal.decreases-copy_call
decreases-copy_call l = 8 * goal.size-copy_call l + 6

abbrev pub decreases-copy_temp : goal.decreases-copy_temp
decreases-copy_temp l = 8 * size-Init l.init.now + 6

abbrev pub decreases-copy_throw : goal.decreases-copy_throw
decreases-copy_throw l = 8 * size-CoreExpr l.part.now + 6

abbrev pub decreases-copy_handle : goal.decreases-copy_handle
decreases-copy_handle l = 8 * goal.size-copy_handle l + 6

abbrev pub decreases-copy_atomic : goal.decreases-copy_atomic
decreases-copy_atomic l = 8 * goal.size-copy_atomic l + 6

abbrev pub decreases-copy_lib : goal.decreases-copy_lib
decreases-copy_lib l = 8 * goal.size-copy_lib l + 6

abbrev pub decreases-copy_await_expr : goal.decreases-copy_await_expr
decreases-copy_await_expr l = 8 * goal.size-copy_await_expr l + 6

abbrev pub decreases-copy_new_expr : goal.decreases-copy_new_expr
decreases-copy_new_expr l = 8 * goal.size-copy_new_expr l + 6

abbrev pub decreases-copy_delete_expr : goal.decreases-copy_delete_expr
decreases-copy_delete_expr l = 8 * goal.size-copy_delete_expr l + 6

abbrev pub decreases-copy_exprs : goal.decreases-copy_exprs
decreases-copy_exprs l = 8 * goal.size-copy_exprs l + 5

abbrev pub decreases-copy_await : goal.decreases-copy_await
decreases-copy_await l = 8 * goal.size-copy_await l + 5

abbrev pub decreases-copy_two : goal.decreases-copy_two
decreases-copy_two l = 8 * max (size-CoreExpr l.x.now) (size-CoreExpr l.y.now) + 6

abbrev pub decreases-copy_new : goal.decreases-copy_new
decreases-copy_new l = 8 * goal.size-copy_new l + 5

abbrev pub decreases-copy_delete : goal.decreases-copy_delete
decreases-copy_delete l = 8 * goal.size-copy_delete l + 5

abbrev pub decreases-copy_init : goal.decreases-copy_init
decreases-copy_init l = 8 * size-Init l.init.now

abbrev pub decreases-copy_ctor : goal.decreases-copy_ctor
decreases-copy_ctor l = 8 * goal.size-copy_ctor l + 6

abbrev pub decreases-copy_members : goal.decreases-copy_members
decreases-copy_members l = 8 * goal.size-copy_members l + 6

abbrev pub decreases-copy_value : goal.decreases-copy_value
decreases-copy_value l = 8 * size-CoreExpr l.e.now + 6

abbrev pub decreases-copy_result : goal.decreases-copy_result
decreases-copy_result l = 8 * size-CoreExpr l.e.now + 6

abbrev pub decreases-copy_choose : goal.decreases-copy_choose
decreases-copy_choose l = 8 * max (size-CoreExpr l.condition.now) (max (size-Init l.x.now) (size-Init l.y.now)) + 6

abbrev pub decreases-boxed_init : goal.decreases-boxed_init
decreases-boxed_init l = 8 * size-Init l.init.now + 1

abbrev pub decreases-copy_inits : goal.decreases-copy_inits
decreases-copy_inits l = 8 * goal.size-copy_inits l + 5
