use Rattle.std.proofs.Common.{rules, arith}
use Rattle.std.proofs.lemmas.Grind.{common_steps}
use Rattle.co_rules.specs.Names.{holds}
use Rattle.co_expressions.specs.Expressions.{expression, more, more_from}
use Rattle.co_expressions.proofs.Turns.{one_more, no_more}
use Rattle.co_expressions.proofs.expressions.Grammar.more.Goals as goal

pub loop-turn-init : goal.loop-turn-init
unfolding more
loop-turn-init g c = first_of (search rules, grind (arith, common_steps))

pub returns-then-not-eat : goal.returns-then-not-eat
unfolding more_from
returns-then-not-eat g c =
    let e = one_more (λ n. more_from (expression (holds c.args.self.now.classes.now) c.args.self.now.depth) n c.loop-turn.found c.loop-turn.cursor) _ c.loop-turn._turn c.loop-turn-test.true c.loop-turn.invariant in
    first_of (search rules, grind (arith, common_steps))

pub returns-in_err-expr : goal.returns-in_err-expr
unfolding more_from
returns-in_err-expr g c =
    let e = one_more (λ n. more_from (expression (holds c.args.self.now.classes.now) c.args.self.now.depth) n c.loop-turn.found c.loop-turn.cursor) _ c.loop-turn._turn c.loop-turn-test.true c.loop-turn.invariant in
    first_of (search rules, grind (arith, common_steps))

pub loop-turn-preserved : goal.loop-turn-preserved
unfolding more_from
loop-turn-preserved g c =
    let e = one_more (λ n. more_from (expression (holds c.args.self.now.classes.now) c.args.self.now.depth) n c.loop-turn.found c.loop-turn.cursor) _ c.loop-turn._turn c.loop-turn-test.true c.loop-turn.invariant in
    first_of (search rules, grind (arith, common_steps))

pub returns : goal.returns
unfolding more_from
returns g c =
    let e = no_more (λ n. more_from (expression (holds c.args.self.now.classes.now) c.args.self.now.depth) n c.loop-turn.found c.loop-turn.cursor) _ c.loop-turn._turn c.loop-turn-test.false c.loop-turn.invariant in
    first_of (search rules, grind (arith, common_steps))
