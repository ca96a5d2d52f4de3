use Rattle.std.proofs.Common.{rules, arith}
use Rattle.std.proofs.lemmas.Grind.{common_steps}
use Rattle.co_rules.specs.Names.{holds}
use Rattle.co_expressions.specs.Expressions.{expression, operations, operations_from}
use Rattle.co_expressions.proofs.Turns.{one_more, no_more}
use Rattle.co_expressions.proofs.expressions.Grammar.operations.Goals as goal

pub loop-turn-init : goal.loop-turn-init
unfolding operations
loop-turn-init g c = first_of (search rules, grind (arith, common_steps))

pub returns-then-binds-least : goal.returns-then-binds-least
unfolding operations_from
returns-then-binds-least g c =
    let e = one_more (λ n. operations_from (expression (holds c.args.self.now.classes.now) c.args.self.now.depth) c.args.at c.args.least n c.loop-turn.left c.loop-turn.cursor) _ c.loop-turn._turn c.loop-turn-test.true c.loop-turn.invariant in
    first_of (search rules, grind (arith, common_steps))

pub returns-in_err-left : goal.returns-in_err-left
unfolding operations_from
returns-in_err-left g c =
    let e = one_more (λ n. operations_from (expression (holds c.args.self.now.classes.now) c.args.self.now.depth) c.args.at c.args.least n c.loop-turn.left c.loop-turn.cursor) _ c.loop-turn._turn c.loop-turn-test.true c.loop-turn.invariant in
    first_of (search rules, grind (arith, common_steps))

pub loop-turn-preserved : goal.loop-turn-preserved
unfolding operations_from
loop-turn-preserved g c =
    let e = one_more (λ n. operations_from (expression (holds c.args.self.now.classes.now) c.args.self.now.depth) c.args.at c.args.least n c.loop-turn.left c.loop-turn.cursor) _ c.loop-turn._turn c.loop-turn-test.true c.loop-turn.invariant in
    first_of (search rules, grind (arith, common_steps))

pub returns : goal.returns
unfolding operations_from
returns g c =
    let e = no_more (λ n. operations_from (expression (holds c.args.self.now.classes.now) c.args.self.now.depth) c.args.at c.args.least n c.loop-turn.left c.loop-turn.cursor) _ c.loop-turn._turn c.loop-turn-test.false c.loop-turn.invariant in
    first_of (search rules, grind (arith, common_steps))
