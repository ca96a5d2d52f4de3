use Rattle.std.proofs.Common.{rules, arith}
use Rattle.std.proofs.lemmas.Grind.{common_steps}
use Rattle.co_reader.specs.Types.{stars, stars_from}
use Rattle.co_reader.proofs.Turns.{one_more, no_more}
use Rattle.co_reader.proofs.types.stars.Goals as goal

pub returns-then-not-eat : goal.returns-then-not-eat
unfolding stars_from
returns-then-not-eat c =
    let e = one_more (λ n. stars_from n c.loop-turn.turn c.loop-turn.cursor) _ c.loop-turn.turn c.loop-turn-test.true c.loop-turn.invariant in
    first_of (search rules, grind (arith, common_steps))

pub loop-turn-preserved : goal.loop-turn-preserved
unfolding stars_from
loop-turn-preserved c =
    let e = one_more (λ n. stars_from n c.loop-turn.turn c.loop-turn.cursor) _ c.loop-turn.turn c.loop-turn-test.true c.loop-turn.invariant in
    first_of (search rules, grind (arith, common_steps))

pub returns : goal.returns
unfolding stars_from
returns c =
    let e = no_more (λ n. stars_from n c.loop-turn.turn c.loop-turn.cursor) _ c.loop-turn.turn c.loop-turn-test.false c.loop-turn.invariant in
    first_of (search rules, grind (arith, common_steps))
