use Rattle.std.proofs.Common.{rules, arith}
use Rattle.std.proofs.lemmas.Grind.{common_steps}
use Rattle.co_rules.specs.Names.{holds}
use Rattle.co_parse.specs.Declarations.{specifiers, specifiers_from}
use Rattle.co_parse.proofs.Turns.{one_more, no_more}
use Rattle.co_parse.proofs.declarations.specifiers.Goals as goal

pub loop-turn-init : goal.loop-turn-init
unfolding specifiers
loop-turn-init c = first_of (search rules, grind (arith, common_steps))

pub returns-in_default : goal.returns-in_default
unfolding specifiers_from
returns-in_default c =
    let e = one_more (λ n. specifiers_from n c.loop-turn.found c.loop-turn.cursor) _ c.loop-turn._turn c.loop-turn-test.true c.loop-turn.invariant in
    first_of (search rules, grind (arith, common_steps))

pub loop-turn-preserved : goal.loop-turn-preserved
unfolding specifiers_from
loop-turn-preserved c =
    let e = one_more (λ n. specifiers_from n c.loop-turn.found c.loop-turn.cursor) _ c.loop-turn._turn c.loop-turn-test.true c.loop-turn.invariant in
    first_of (search rules, grind (arith, common_steps))

pub returns : goal.returns
unfolding specifiers_from
returns c =
    let e = no_more (λ n. specifiers_from n c.loop-turn.found c.loop-turn.cursor) _ c.loop-turn._turn c.loop-turn-test.false c.loop-turn.invariant in
    first_of (search rules, grind (arith, common_steps))
