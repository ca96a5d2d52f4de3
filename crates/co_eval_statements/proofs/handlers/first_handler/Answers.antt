use Rattle.std.proofs.Common.{◌≡◌, ◌∙◌, ap, sym, refl, length, arith, Some}
use Rattle.std.specs.Prelude.{slice_get}
use Rattle.std.proofs.lemmas.Option.{slice_get_read}
use Rattle.co_core_tree.specs.declared.stmts.Handler.{Handler}
use Rattle.co_meaning.specs.Statements.{catches}
use Rattle.co_eval_statements.proofs.Found.{is_first, is_other, none_caught}
use Rattle.co_eval_statements.proofs.handlers.first_handler.Goals as goal

pub returns-then-is_caught : goal.returns-then-is_caught
returns-then-is_caught c =
    let hs = c.args.handlers.now in
    let there : slice_get hs c.loop-at.at ≡ Some c.index-handlers-at.result = slice_get_read hs (length hs) c.loop-at.at c.index-handlers-at.result refl (omega arith) c.index-handlers-at.is in
    sym c.loop-at.invariant ∙ is_first c.args.value hs c.loop-at.at c.index-handlers-at.result there (ap (λ (h : Handler). catches h.of c.args.value) c.index-handlers-at.is ∙ sym c.is_caught.ensures ∙ c.if-is_caught.true)

pub loop-at-preserved : goal.loop-at-preserved
loop-at-preserved c =
    let hs = c.args.handlers.now in
    let there : slice_get hs c.loop-at.at ≡ Some c.index-handlers-at.result = slice_get_read hs (length hs) c.loop-at.at c.index-handlers-at.result refl (omega arith) c.index-handlers-at.is in
    sym (is_other c.args.value hs c.loop-at.at c.index-handlers-at.result there (ap (λ (h : Handler). catches h.of c.args.value) c.index-handlers-at.is ∙ sym c.is_caught.ensures ∙ c.if-is_caught.false)) ∙ c.loop-at.invariant

pub returns : goal.returns
returns c = sym c.loop-at.invariant ∙ none_caught c.args.value c.args.handlers.now c.loop-at.at (omega arith)
