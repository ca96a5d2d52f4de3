use Rattle.std.specs.Prelude.{◌≡◌, Option, IfOk}
use Rattle.std.proofs.Common.{subst, sym}
use Rattle.co_eval_data.proofs.Opening as opening
use Rattle.co_eval_data.specs.Agents.{local_of}
use Rattle.co_eval_data.specs.Changed.{after}
use Rattle.co_eval_data.specs.Seen.{place_if}
use Rattle.co_eval_expressions.proofs.Forms as form
use Rattle.co_eval_expressions.proofs.entering.enter.Goals as goal
use Rattle.co_meaning.specs.Expressions.{evaluate, make_temporary}
use Rattle.co_meaning_calls.specs.Objects.{type_of_slot}
use Rattle.co_meaning_data.specs.Turn.{Local, Turned}

pub first-requires : goal.first-requires
first-requires c l = search (form.field, c.in-Field.is, c.get.ensures)

pub first-requires-in-Address : goal.first-requires-in-Address
first-requires-in-Address c l = search (form.address, c.in-Address.is, c.get-in-Address.ensures)

pub first-requires-in-Store : goal.first-requires-in-Store
first-requires-in-Store c l = search (form.store, opening.store_value, c.in-Store.is, c.get-in-Store.ensures)

pub first-requires-in-Exchange : goal.first-requires-in-Exchange
first-requires-in-Exchange c l = search (form.exchange, opening.exchange_place, c.in-Exchange.is, c.get-in-Exchange.ensures)

pub first-requires-in-Update : goal.first-requires-in-Update
first-requires-in-Update c l = search (form.update, opening.update_value, c.in-Update.is, c.get-in-Update.ensures)

pub first-requires-in-Arith : goal.first-requires-in-Arith
first-requires-in-Arith c l = search (form.arithmetic, opening.arith_right, c.in-Arith.is, c.get-in-Arith.ensures)

pub first-requires-in-Convert : goal.first-requires-in-Convert
first-requires-in-Convert c l = search (form.convert, c.in-Convert.is, c.get-in-Convert.ensures)

pub first-requires-in-Test : goal.first-requires-in-Test
first-requires-in-Test c l = search (form.test, c.in-Test.is, c.get-in-Test.ensures)

pub first-requires-in-Same : goal.first-requires-in-Same
first-requires-in-Same c l = search (form.same, opening.same_right, c.in-Same.is, c.get-in-Same.ensures)

pub first-requires-in-Both : goal.first-requires-in-Both
first-requires-in-Both c l = search (form.both, opening.both_right, c.in-Both.is, c.get-in-Both.ensures)

pub first-requires-in-Either : goal.first-requires-in-Either
first-requires-in-Either c l = search (form.either, opening.either_right, c.in-Either.is, c.get-in-Either.ensures)

pub first-requires-in-Pick : goal.first-requires-in-Pick
first-requires-in-Pick c l = search (form.pick, opening.pick_one, c.in-Pick.is, c.get-in-Pick.ensures)

pub first-requires-in-Throw : goal.first-requires-in-Throw
first-requires-in-Throw c l = search (form.throw_of, opening.throw_of, c.in-Throw.is, c.get-in-Throw.ensures)

pub operands_first-requires : goal.operands_first-requires
operands_first-requires c l = search (form.on_handle, c.in-Handle.is)

pub operands_first-requires-in-Atomic : goal.operands_first-requires-in-Atomic
operands_first-requires-in-Atomic c l = search (form.on_atomic, c.in-Atomic.is)

pub operands_first-requires-in-Lib : goal.operands_first-requires-in-Lib
operands_first-requires-in-Lib c l = search (form.of_library, c.in-Lib.is)

pub returns-in-Temp : goal.returns-in-Temp
returns-in-Temp c =
    let l : Local = local_of c.args.here.now in
    let P : Option Turned → Type 0 = λ t. IfOk c.make_temporary.result (λ x. after x l ≡ t) in
    let made : evaluate c.args.e.now (place_if c.args.into.now) l ≡ make_temporary c.in-Temp.slot.0 c.get-in-Temp.result.now l (type_of_slot l c.in-Temp.slot.0) = search (form.temporary, c.in-Temp.is, c.get-in-Temp.ensures) in
    subst P (sym made) c.make_temporary.ensures
