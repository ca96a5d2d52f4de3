use Rattle.co_core_typed.specs.Seen.{wholes_of}
use Rattle.co_core_typed.proofs.Parts.{fits_field, view_field, fits_deref, view_deref, fits_address, view_address, fits_load, view_load, fits_store, view_store, fits_exchange, view_exchange, fits_update, view_update, fits_arith, view_arith, fits_convert, view_convert, fits_test, view_test, fits_same, view_same, fits_both, view_both, fits_either, view_either, fits_pick, view_pick, fits_throw, view_throw, fits_rethrow_ptr, view_rethrow_ptr, fits_call, fits_temp, view_temp, fits_await, view_await, fits_new, view_new, fits_delete, view_delete, fits_handle, view_handle, fits_atomic, view_atomic, fits_lib, view_lib, fits_ctor, fits_members, arguments_none, members_none, arguments_done, members_done, fits_choose}
use Rattle.co_core_typed.proofs.walk.+typing.Goals as goal

pub check-returns-in-Field-clause-fits : goal.check-returns-in-Field-clause-fits
check-returns-in-Field-clause-fits t c =
    fits_field c.args.scene.unit.now c.args.scene.func.now (wholes_of c.args.wholes.now) _ _ _ _ _ _ _ _ c.in-Field.is c.get.ensures c.check.ensures.fits c.check.ensures.view c.field.ensures.fits

pub check-returns-in-Field-clause-view : goal.check-returns-in-Field-clause-view
check-returns-in-Field-clause-view t c =
    view_field c.args.scene.unit.now c.args.scene.func.now (wholes_of c.args.wholes.now) _ _ _ _ _ _ _ c.in-Field.is c.get.ensures c.check.ensures.view c.field.ensures.view

pub check-returns-in-Deref-clause-fits : goal.check-returns-in-Deref-clause-fits
check-returns-in-Deref-clause-fits t c =
    fits_deref c.args.scene.unit.now c.args.scene.func.now (wholes_of c.args.wholes.now) _ _ _ _ _ _ _ c.in-Deref.is c.get-in-Deref.ensures c.check-in-Deref.ensures.fits c.check-in-Deref.ensures.view c.deref.ensures.fits

pub check-returns-in-Deref-clause-view : goal.check-returns-in-Deref-clause-view
check-returns-in-Deref-clause-view t c =
    view_deref c.args.scene.unit.now c.args.scene.func.now (wholes_of c.args.wholes.now) _ _ _ _ _ _ c.in-Deref.is c.get-in-Deref.ensures c.check-in-Deref.ensures.view c.deref.ensures.view

pub check-returns-in-Address-clause-fits : goal.check-returns-in-Address-clause-fits
check-returns-in-Address-clause-fits t c =
    fits_address c.args.scene.unit.now c.args.scene.func.now (wholes_of c.args.wholes.now) _ _ _ _ _ _ _ c.in-Address.is c.get-in-Address.ensures c.check-in-Address.ensures.fits c.check-in-Address.ensures.view c.address.ensures.fits

pub check-returns-in-Address-clause-view : goal.check-returns-in-Address-clause-view
check-returns-in-Address-clause-view t c =
    view_address c.args.scene.unit.now c.args.scene.func.now (wholes_of c.args.wholes.now) _ _ _ _ _ _ c.in-Address.is c.get-in-Address.ensures c.check-in-Address.ensures.view c.address.ensures.view

pub check-returns-in-Load-clause-fits : goal.check-returns-in-Load-clause-fits
check-returns-in-Load-clause-fits t c =
    fits_load c.args.scene.unit.now c.args.scene.func.now (wholes_of c.args.wholes.now) _ _ _ _ _ _ _ c.in-Load.is c.get-in-Load.ensures c.check-in-Load.ensures.fits c.check-in-Load.ensures.view c.load.ensures.fits

pub check-returns-in-Load-clause-view : goal.check-returns-in-Load-clause-view
check-returns-in-Load-clause-view t c =
    view_load c.args.scene.unit.now c.args.scene.func.now (wholes_of c.args.wholes.now) _ _ _ _ _ _ c.in-Load.is c.get-in-Load.ensures c.check-in-Load.ensures.view c.load.ensures.view

pub check-returns-in-Store-clause-fits : goal.check-returns-in-Store-clause-fits
check-returns-in-Store-clause-fits t c =
    fits_store c.args.scene.unit.now c.args.scene.func.now (wholes_of c.args.wholes.now) _ _ _ _ _ _ _ _ _ _ _ c.in-Store.is c.get-in-Store.ensures c.get-in-Store-2.ensures c.check-in-Store.ensures.fits c.check-in-Store-2.ensures.fits c.check-in-Store.ensures.view c.check-in-Store-2.ensures.view c.store.ensures.fits

pub check-returns-in-Store-clause-view : goal.check-returns-in-Store-clause-view
check-returns-in-Store-clause-view t c =
    view_store c.args.scene.unit.now c.args.scene.func.now (wholes_of c.args.wholes.now) _ _ _ _ _ _ _ _ _ c.in-Store.is c.get-in-Store.ensures c.get-in-Store-2.ensures c.check-in-Store.ensures.view c.check-in-Store-2.ensures.view c.store.ensures.view

pub check-returns-in-Exchange-clause-fits : goal.check-returns-in-Exchange-clause-fits
check-returns-in-Exchange-clause-fits t c =
    fits_exchange c.args.scene.unit.now c.args.scene.func.now (wholes_of c.args.wholes.now) _ _ _ _ _ _ _ _ _ _ _ c.in-Exchange.is c.get-in-Exchange.ensures c.get-in-Exchange-2.ensures c.check-in-Exchange.ensures.fits c.check-in-Exchange-2.ensures.fits c.check-in-Exchange.ensures.view c.check-in-Exchange-2.ensures.view c.exchange.ensures.fits

pub check-returns-in-Exchange-clause-view : goal.check-returns-in-Exchange-clause-view
check-returns-in-Exchange-clause-view t c =
    view_exchange c.args.scene.unit.now c.args.scene.func.now (wholes_of c.args.wholes.now) _ _ _ _ _ _ _ _ _ c.in-Exchange.is c.get-in-Exchange.ensures c.get-in-Exchange-2.ensures c.check-in-Exchange.ensures.view c.check-in-Exchange-2.ensures.view c.exchange.ensures.view

pub check-returns-in-Update-clause-fits : goal.check-returns-in-Update-clause-fits
check-returns-in-Update-clause-fits t c =
    fits_update c.args.scene.unit.now c.args.scene.func.now (wholes_of c.args.wholes.now) _ _ _ _ _ _ _ _ _ _ _ _ _ _ c.in-Update.is c.get-in-Update.ensures c.get-in-Update-2.ensures c.check-in-Update.ensures.fits c.check-in-Update-2.ensures.fits c.check-in-Update.ensures.view c.check-in-Update-2.ensures.view c.update.ensures.fits

pub check-returns-in-Update-clause-view : goal.check-returns-in-Update-clause-view
check-returns-in-Update-clause-view t c =
    view_update c.args.scene.unit.now c.args.scene.func.now (wholes_of c.args.wholes.now) _ _ _ _ _ _ _ _ _ _ _ _ c.in-Update.is c.get-in-Update.ensures c.get-in-Update-2.ensures c.check-in-Update.ensures.view c.check-in-Update-2.ensures.view c.update.ensures.view

pub check-returns-in-Arith-clause-fits : goal.check-returns-in-Arith-clause-fits
check-returns-in-Arith-clause-fits t c =
    fits_arith c.args.scene.unit.now c.args.scene.func.now (wholes_of c.args.wholes.now) _ _ _ _ _ _ _ _ _ _ _ _ _ c.in-Arith.is c.get-in-Arith.ensures c.get-in-Arith-2.ensures c.check-in-Arith.ensures.fits c.check-in-Arith-2.ensures.fits c.check-in-Arith.ensures.view c.check-in-Arith-2.ensures.view c.arith.ensures.fits

pub check-returns-in-Arith-clause-view : goal.check-returns-in-Arith-clause-view
check-returns-in-Arith-clause-view t c =
    view_arith c.args.scene.unit.now c.args.scene.func.now (wholes_of c.args.wholes.now) _ _ _ _ _ _ _ _ _ _ _ c.in-Arith.is c.get-in-Arith.ensures c.get-in-Arith-2.ensures c.check-in-Arith.ensures.view c.check-in-Arith-2.ensures.view c.arith.ensures.view

pub check-returns-in-Convert-clause-fits : goal.check-returns-in-Convert-clause-fits
check-returns-in-Convert-clause-fits t c =
    fits_convert c.args.scene.unit.now c.args.scene.func.now (wholes_of c.args.wholes.now) _ _ _ _ _ _ _ _ c.in-Convert.is c.get-in-Convert.ensures c.check-in-Convert.ensures.fits c.check-in-Convert.ensures.view c.convert.ensures.fits

pub check-returns-in-Convert-clause-view : goal.check-returns-in-Convert-clause-view
check-returns-in-Convert-clause-view t c =
    view_convert c.args.scene.unit.now c.args.scene.func.now (wholes_of c.args.wholes.now) _ _ _ _ _ _ _ c.in-Convert.is c.get-in-Convert.ensures c.check-in-Convert.ensures.view c.convert.ensures.view

pub check-returns-in-Test-clause-fits : goal.check-returns-in-Test-clause-fits
check-returns-in-Test-clause-fits t c =
    fits_test c.args.scene.unit.now c.args.scene.func.now (wholes_of c.args.wholes.now) _ _ _ _ _ _ _ c.in-Test.is c.get-in-Test.ensures c.check-in-Test.ensures.fits c.check-in-Test.ensures.view c.test.ensures.fits

pub check-returns-in-Test-clause-view : goal.check-returns-in-Test-clause-view
check-returns-in-Test-clause-view t c =
    view_test c.args.scene.unit.now c.args.scene.func.now (wholes_of c.args.wholes.now) _ _ _ _ _ _ c.in-Test.is c.get-in-Test.ensures c.check-in-Test.ensures.view c.test.ensures.view

pub check-returns-in-Same-clause-fits : goal.check-returns-in-Same-clause-fits
check-returns-in-Same-clause-fits t c =
    fits_same c.args.scene.unit.now c.args.scene.func.now (wholes_of c.args.wholes.now) _ _ _ _ _ _ _ _ _ _ _ c.in-Same.is c.get-in-Same.ensures c.get-in-Same-2.ensures c.check-in-Same.ensures.fits c.check-in-Same-2.ensures.fits c.check-in-Same.ensures.view c.check-in-Same-2.ensures.view c.same.ensures.fits

pub check-returns-in-Same-clause-view : goal.check-returns-in-Same-clause-view
check-returns-in-Same-clause-view t c =
    view_same c.args.scene.unit.now c.args.scene.func.now (wholes_of c.args.wholes.now) _ _ _ _ _ _ _ _ _ c.in-Same.is c.get-in-Same.ensures c.get-in-Same-2.ensures c.check-in-Same.ensures.view c.check-in-Same-2.ensures.view c.same.ensures.view

pub check-returns-in-Both-clause-fits : goal.check-returns-in-Both-clause-fits
check-returns-in-Both-clause-fits t c =
    fits_both c.args.scene.unit.now c.args.scene.func.now (wholes_of c.args.wholes.now) _ _ _ _ _ _ _ _ _ _ _ c.in-Both.is c.get-in-Both.ensures c.get-in-Both-2.ensures c.check-in-Both.ensures.fits c.check-in-Both-2.ensures.fits c.check-in-Both.ensures.view c.check-in-Both-2.ensures.view c.logical.ensures.fits

pub check-returns-in-Both-clause-view : goal.check-returns-in-Both-clause-view
check-returns-in-Both-clause-view t c =
    view_both c.args.scene.unit.now c.args.scene.func.now (wholes_of c.args.wholes.now) _ _ _ _ _ _ _ _ _ c.in-Both.is c.get-in-Both.ensures c.get-in-Both-2.ensures c.check-in-Both.ensures.view c.check-in-Both-2.ensures.view c.logical.ensures.view

pub check-returns-in-Either-clause-fits : goal.check-returns-in-Either-clause-fits
check-returns-in-Either-clause-fits t c =
    fits_either c.args.scene.unit.now c.args.scene.func.now (wholes_of c.args.wholes.now) _ _ _ _ _ _ _ _ _ _ _ c.in-Either.is c.get-in-Either.ensures c.get-in-Either-2.ensures c.check-in-Either.ensures.fits c.check-in-Either-2.ensures.fits c.check-in-Either.ensures.view c.check-in-Either-2.ensures.view c.logical-in-Either.ensures.fits

pub check-returns-in-Either-clause-view : goal.check-returns-in-Either-clause-view
check-returns-in-Either-clause-view t c =
    view_either c.args.scene.unit.now c.args.scene.func.now (wholes_of c.args.wholes.now) _ _ _ _ _ _ _ _ _ c.in-Either.is c.get-in-Either.ensures c.get-in-Either-2.ensures c.check-in-Either.ensures.view c.check-in-Either-2.ensures.view c.logical-in-Either.ensures.view

pub check-returns-in-Pick-clause-fits : goal.check-returns-in-Pick-clause-fits
check-returns-in-Pick-clause-fits t c =
    fits_pick c.args.scene.unit.now c.args.scene.func.now (wholes_of c.args.wholes.now) _ _ _ _ _ _ _ _ _ _ _ _ _ _ _ c.in-Pick.is c.get-in-Pick.ensures c.get-in-Pick-2.ensures c.get-in-Pick-3.ensures c.check-in-Pick.ensures.fits c.check-in-Pick-2.ensures.fits c.check-in-Pick-3.ensures.fits c.check-in-Pick.ensures.view c.check-in-Pick-2.ensures.view c.check-in-Pick-3.ensures.view c.pick.ensures.fits

pub check-returns-in-Pick-clause-view : goal.check-returns-in-Pick-clause-view
check-returns-in-Pick-clause-view t c =
    view_pick c.args.scene.unit.now c.args.scene.func.now (wholes_of c.args.wholes.now) _ _ _ _ _ _ _ _ _ _ _ _ c.in-Pick.is c.get-in-Pick.ensures c.get-in-Pick-2.ensures c.get-in-Pick-3.ensures c.check-in-Pick.ensures.view c.check-in-Pick-2.ensures.view c.check-in-Pick-3.ensures.view c.pick.ensures.view

pub check-returns-in-Throw-clause-fits : goal.check-returns-in-Throw-clause-fits
check-returns-in-Throw-clause-fits t c =
    fits_throw c.args.scene.unit.now c.args.scene.func.now (wholes_of c.args.wholes.now) _ _ _ _ _ _ _ _ c.in-Throw.is c.get-in-Throw.ensures c.check-in-Throw.ensures.fits c.check-in-Throw.ensures.view c.throw.ensures.fits

pub check-returns-in-Throw-clause-view : goal.check-returns-in-Throw-clause-view
check-returns-in-Throw-clause-view t c =
    view_throw c.args.scene.unit.now c.args.scene.func.now (wholes_of c.args.wholes.now) _ _ _ _ _ _ _ c.in-Throw.is c.get-in-Throw.ensures c.check-in-Throw.ensures.view c.throw.ensures.view

pub check-returns-in-RethrowPtr-clause-fits : goal.check-returns-in-RethrowPtr-clause-fits
check-returns-in-RethrowPtr-clause-fits t c =
    fits_rethrow_ptr c.args.scene.unit.now c.args.scene.func.now (wholes_of c.args.wholes.now) _ _ _ _ _ _ _ c.in-RethrowPtr.is c.get-in-RethrowPtr.ensures c.check-in-RethrowPtr.ensures.fits c.check-in-RethrowPtr.ensures.view c.rethrow.ensures.fits

pub check-returns-in-RethrowPtr-clause-view : goal.check-returns-in-RethrowPtr-clause-view
check-returns-in-RethrowPtr-clause-view t c =
    view_rethrow_ptr c.args.scene.unit.now c.args.scene.func.now (wholes_of c.args.wholes.now) _ _ _ _ _ _ c.in-RethrowPtr.is c.get-in-RethrowPtr.ensures c.check-in-RethrowPtr.ensures.view c.rethrow.ensures.view

pub check-returns-in-Call-clause-fits : goal.check-returns-in-Call-clause-fits
check-returns-in-Call-clause-fits t c =
    fits_call c.args.scene.unit.now c.args.scene.func.now (wholes_of c.args.wholes.now) _ _ _ _ _ _ _ _ c.in-Call.is c.as_slice-in-Call.ensures c.as_slice-in-Call-2.ensures c.func_at.ensures c.call.ensures.fits

pub check-returns-in-Temp-clause-fits : goal.check-returns-in-Temp-clause-fits
check-returns-in-Temp-clause-fits t c =
    fits_temp c.args.scene.unit.now c.args.scene.func.now (wholes_of c.args.wholes.now) _ _ _ _ _ _ _ c.in-Temp.is c.get-in-Temp.ensures c.slot_type.ensures c.init_fits.ensures

pub check-returns-in-Temp-clause-view : goal.check-returns-in-Temp-clause-view
check-returns-in-Temp-clause-view t c =
    view_temp c.args.scene.unit.now c.args.scene.func.now (wholes_of c.args.wholes.now) _ _ _ _ _ c.in-Temp.is c.slot_place-in-Temp.ensures

pub check-returns-in-Await-clause-fits : goal.check-returns-in-Await-clause-fits
check-returns-in-Await-clause-fits t c =
    fits_await c.args.scene.unit.now c.args.scene.func.now (wholes_of c.args.wholes.now) _ _ _ _ c.in-Await.is c.get-in-Await.ensures c.check_await.ensures.fits

pub check-returns-in-Await-clause-view : goal.check-returns-in-Await-clause-view
check-returns-in-Await-clause-view t c =
    view_await c.args.scene.unit.now c.args.scene.func.now (wholes_of c.args.wholes.now) _ _ _ _ c.in-Await.is c.get-in-Await.ensures c.check_await.ensures.view

pub check-returns-in-New-clause-fits : goal.check-returns-in-New-clause-fits
check-returns-in-New-clause-fits t c =
    fits_new c.args.scene.unit.now c.args.scene.func.now (wholes_of c.args.wholes.now) _ _ _ _ c.in-New.is c.get-in-New.ensures c.check_new.ensures.fits

pub check-returns-in-New-clause-view : goal.check-returns-in-New-clause-view
check-returns-in-New-clause-view t c =
    view_new c.args.scene.unit.now c.args.scene.func.now (wholes_of c.args.wholes.now) _ _ _ _ c.in-New.is c.get-in-New.ensures c.check_new.ensures.view

pub check-returns-in-Delete-clause-fits : goal.check-returns-in-Delete-clause-fits
check-returns-in-Delete-clause-fits t c =
    fits_delete c.args.scene.unit.now c.args.scene.func.now (wholes_of c.args.wholes.now) _ _ _ _ _ _ _ c.in-Delete.is c.get-in-Delete.ensures c.get-in-Delete-2.ensures c.check-in-Delete.ensures.fits c.check-in-Delete.ensures.view c.delete.ensures.fits

pub check-returns-in-Delete-clause-view : goal.check-returns-in-Delete-clause-view
check-returns-in-Delete-clause-view t c =
    view_delete c.args.scene.unit.now c.args.scene.func.now (wholes_of c.args.wholes.now) _ _ _ c.in-Delete.is c.delete.ensures.view

pub check-returns-in-Handle-clause-fits : goal.check-returns-in-Handle-clause-fits
check-returns-in-Handle-clause-fits t c =
    fits_handle c.args.scene.unit.now c.args.scene.func.now (wholes_of c.args.wholes.now) _ _ _ _ _ _ c.in-Handle.is c.as_slice-in-Handle.ensures c.handle.ensures.fits

pub check-returns-in-Handle-clause-view : goal.check-returns-in-Handle-clause-view
check-returns-in-Handle-clause-view t c =
    view_handle c.args.scene.unit.now c.args.scene.func.now (wholes_of c.args.wholes.now) _ _ _ _ _ _ c.in-Handle.is c.as_slice-in-Handle.ensures c.handle.ensures.view

pub check-returns-in-Atomic-clause-fits : goal.check-returns-in-Atomic-clause-fits
check-returns-in-Atomic-clause-fits t c =
    fits_atomic c.args.scene.unit.now c.args.scene.func.now (wholes_of c.args.wholes.now) _ _ _ _ _ _ c.in-Atomic.is c.as_slice-in-Atomic.ensures c.atomic.ensures.fits

pub check-returns-in-Atomic-clause-view : goal.check-returns-in-Atomic-clause-view
check-returns-in-Atomic-clause-view t c =
    view_atomic c.args.scene.unit.now c.args.scene.func.now (wholes_of c.args.wholes.now) _ _ _ _ _ _ c.in-Atomic.is c.as_slice-in-Atomic.ensures c.atomic.ensures.view

pub check-returns-in-Lib-clause-fits : goal.check-returns-in-Lib-clause-fits
check-returns-in-Lib-clause-fits t c =
    fits_lib c.args.scene.unit.now c.args.scene.func.now (wholes_of c.args.wholes.now) _ _ _ _ _ _ c.in-Lib.is c.as_slice-in-Lib.ensures c.lib.ensures.fits

pub check-returns-in-Lib-clause-view : goal.check-returns-in-Lib-clause-view
check-returns-in-Lib-clause-view t c =
    view_lib c.args.scene.unit.now c.args.scene.func.now (wholes_of c.args.wholes.now) _ _ _ _ _ _ c.in-Lib.is c.as_slice-in-Lib.ensures c.lib.ensures.view

pub init_fits-returns-in-Ctor : goal.init_fits-returns-in-Ctor
init_fits-returns-in-Ctor t c =
    fits_ctor c.args.scene.unit.now c.args.scene.func.now (wholes_of c.args.wholes.now) _ _ _ _ _ _ _ _ _ _ c.in-Ctor.is c.as_slice.ensures c.head.ensures c.as_slice-in-Ctor.ensures c.func_at.ensures c.constructor_fits.ensures

pub init_fits-returns-in-Members : goal.init_fits-returns-in-Members
init_fits-returns-in-Members t c =
    fits_members c.args.scene.unit.now c.args.scene.func.now (wholes_of c.args.wholes.now) _ _ _ _ _ _ _ c.in-Members.is c.as_slice-in-Members.ensures c.head-in-Members.ensures c.members_fit.ensures

pub arguments_fit-returns-in_default : goal.arguments_fit-returns-in_default
arguments_fit-returns-in_default t c =
    arguments_none c.args.scene.unit.now c.args.scene.func.now (wholes_of c.args.wholes.now) c.args.callee.now c.loop-arg.rest.now c.args.args.now c.loop-arg.arg-index c.arg-item.result _ c.loop-arg-test.true c.in_default.len_below c.loop-arg.invariant

pub fields_fit-returns-in_default : goal.fields_fit-returns-in_default
fields_fit-returns-in_default t c =
    members_none c.args.scene.unit.now c.args.scene.func.now (wholes_of c.args.wholes.now) c.loop-member.rest.now c.args.members.now c.loop-member.member-index c.member-item.result _ c.loop-member-test.true c.in_default.len_below c.loop-member.invariant

pub arguments_fit-returns : goal.arguments_fit-returns
arguments_fit-returns t c =
    arguments_done c.args.scene.unit.now c.args.scene.func.now (wholes_of c.args.wholes.now) c.args.callee.now c.loop-arg.rest.now c.args.args.now c.loop-arg.arg-index _ c.is_empty.result c.loop-arg-test.false c.is_empty.ensures c.loop-arg.invariant

pub fields_fit-returns : goal.fields_fit-returns
fields_fit-returns t c =
    members_done c.args.scene.unit.now c.args.scene.func.now (wholes_of c.args.wholes.now) c.loop-member.rest.now c.args.members.now c.loop-member.member-index _ c.is_empty.result c.loop-member-test.false c.is_empty.ensures c.loop-member.invariant

pub init_fits-returns-in-Choose : goal.init_fits-returns-in-Choose
init_fits-returns-in-Choose t c =
    fits_choose c.args.scene.unit.now c.args.scene.func.now (wholes_of c.args.wholes.now) _ _ _ _ _ _ _ _ _ _ _ _ _ _ c.in-Choose.is c.head-in-Choose.ensures c.check-in-Choose.ensures.fits c.check-in-Choose.ensures.view c.get.ensures c.init_fits.ensures c.get-in-Choose.ensures c.init_fits-in-Choose.ensures c.chosen.ensures
