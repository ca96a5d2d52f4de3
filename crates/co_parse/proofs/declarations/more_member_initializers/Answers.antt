use Rattle.std.proofs.Common.{rules, arith}
use Rattle.std.proofs.lemmas.Grind.{common_steps}
use Rattle.co_rules.specs.Names.{holds}
use Rattle.co_expressions.specs.Expressions.{expression}
use Rattle.co_parse.specs.Declarations.{more_member_initializers, member_initializers_from}
use Rattle.co_parse.proofs.Turns.{one_more, no_more}
use Rattle.co_parse.proofs.declarations.more_member_initializers.Goals as goal

pub loop-turn-init : goal.loop-turn-init
unfolding more_member_initializers
loop-turn-init c = first_of (search rules, grind (arith, common_steps))

pub returns-in_err-member_initializer : goal.returns-in_err-member_initializer
unfolding member_initializers_from
returns-in_err-member_initializer c =
    let e = one_more (λ n. member_initializers_from (expression (holds c.args.within.now.classes.now) c.args.within.now.depth) n c.loop-turn.found c.loop-turn.cursor) _ c.loop-turn._turn c.loop-turn-test.true c.loop-turn.invariant in
    first_of (search rules, grind (arith, common_steps))

pub returns-then-not-eat : goal.returns-then-not-eat
unfolding member_initializers_from
returns-then-not-eat c =
    let e = one_more (λ n. member_initializers_from (expression (holds c.args.within.now.classes.now) c.args.within.now.depth) n c.loop-turn.found c.loop-turn.cursor) _ c.loop-turn._turn c.loop-turn-test.true c.loop-turn.invariant in
    first_of (search rules, grind (arith, common_steps))

pub loop-turn-preserved : goal.loop-turn-preserved
unfolding member_initializers_from
loop-turn-preserved c =
    let e = one_more (λ n. member_initializers_from (expression (holds c.args.within.now.classes.now) c.args.within.now.depth) n c.loop-turn.found c.loop-turn.cursor) _ c.loop-turn._turn c.loop-turn-test.true c.loop-turn.invariant in
    first_of (search rules, grind (arith, common_steps))

pub returns : goal.returns
unfolding member_initializers_from
returns c =
    let e = no_more (λ n. member_initializers_from (expression (holds c.args.within.now.classes.now) c.args.within.now.depth) n c.loop-turn.found c.loop-turn.cursor) _ c.loop-turn._turn c.loop-turn-test.false c.loop-turn.invariant in
    first_of (search rules, grind (arith, common_steps))
