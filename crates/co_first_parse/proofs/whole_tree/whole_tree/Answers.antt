use Rattle.std.proofs.Common.{◌≡◌, true, false, sym, ap, subst, ◌∙◌, arith}
use Rattle.std.proofs.lemmas.Result.{err_from_is_err_and}
use Rattle.co_first_parse.specs.Grammar.{IsTree}
use Rattle.co_first_parse.specs.Place.{opening, is_end}
use Rattle.co_first_parse.proofs.Terms.{steps_none}
use Rattle.co_first_parse.proofs.Whole.{Parsing, parsing_start, opening_fails, parsing_step, parsing_fails, parsing_end}
use Rattle.co_first_parse.proofs.whole_tree.whole_tree.Goals as goal

pub returns-in_err-opening-clause-refused : goal.returns-in_err-opening-clause-refused
returns-in_err-opening-clause-refused c h =
    let p = err_from_is_err_and c.from_residual.result c.from_residual.ensures.1 in
    opening_fails _ (ap opening (sym c.new-cursor.ensures) ∙ steps_none _ _ _ c.in_err-opening.ensures (cc (p.1, p.2, h)))

pub turns-init : goal.turns-init
turns-init c =
    subst (λ place. Parsing c.args.tokens.now place) (sym c.new-parser.ensures)
    (parsing_start _ _ c.requires (ap opening (sym c.new-cursor.ensures) ∙ c.in_ok-opening.ensures))

pub turns-preserved : goal.turns-preserved
turns-preserved c =
    let e : is_end c.turns.parser ≡ false = first_of (cc, grind arith) in
    parsing_step _ _ _ c.turns.invariant e c.in_ok-step.ensures.step

pub returns-in_err-step-clause-refused : goal.returns-in_err-step-clause-refused
returns-in_err-step-clause-refused c h =
    let p = err_from_is_err_and c.from_residual-in_err-step.result c.from_residual-in_err-step.ensures.1 in
    let e : is_end c.turns.parser ≡ false = first_of (cc, grind arith) in
    parsing_fails _ _ c.turns.invariant e (steps_none _ _ _ c.in_err-step.ensures.step (cc (p.1, p.2, h)))

pub returns-clause-ok : goal.returns-clause-ok
returns-clause-ok c =
    let e : is_end c.turns.parser ≡ true = first_of (cc, grind arith) in
    subst (IsTree c.args.tokens.now) (sym c.into_program.ensures) (parsing_end _ _ c.turns.invariant e)
