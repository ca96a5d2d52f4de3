use Rattle.std.proofs.Common.{rules, arith}
use Rattle.std.proofs.lemmas.Grind.{common_steps}
use Rattle.co_rules.specs.Names.{holds}
use Rattle.co_expressions.specs.Expressions.{expression}
use Rattle.co_statements.specs.Statements.{statement}
use Rattle.co_statements.specs.Statements.{more_handlers, handlers_from}
use Rattle.co_statements.proofs.Turns.{one_more, no_more}
use Rattle.co_statements.proofs.statements.Blocks.more_handlers.Goals as goal

pub loop-turn-init : goal.loop-turn-init
unfolding more_handlers
loop-turn-init g c = first_of (search rules, grind (arith, common_steps))

pub returns-in_err-handler : goal.returns-in_err-handler
unfolding handlers_from
returns-in_err-handler g c =
    let e = one_more (λ n. handlers_from (holds c.args.self.now.within.classes.now) (expression (holds c.args.self.now.within.classes.now) c.args.self.now.within.depth) (statement (holds c.args.self.now.within.classes.now) c.args.self.now.within.depth) n c.loop-turn.found c.loop-turn.cursor) _ c.loop-turn._turn c.loop-turn-test.true c.loop-turn.invariant in
    first_of (search rules, grind (arith, common_steps))

pub returns-then-not-sees_word : goal.returns-then-not-sees_word
unfolding handlers_from
returns-then-not-sees_word g c =
    let e = one_more (λ n. handlers_from (holds c.args.self.now.within.classes.now) (expression (holds c.args.self.now.within.classes.now) c.args.self.now.within.depth) (statement (holds c.args.self.now.within.classes.now) c.args.self.now.within.depth) n c.loop-turn.found c.loop-turn.cursor) _ c.loop-turn._turn c.loop-turn-test.true c.loop-turn.invariant in
    first_of (search rules, grind (arith, common_steps))

pub loop-turn-preserved : goal.loop-turn-preserved
unfolding handlers_from
loop-turn-preserved g c =
    let e = one_more (λ n. handlers_from (holds c.args.self.now.within.classes.now) (expression (holds c.args.self.now.within.classes.now) c.args.self.now.within.depth) (statement (holds c.args.self.now.within.classes.now) c.args.self.now.within.depth) n c.loop-turn.found c.loop-turn.cursor) _ c.loop-turn._turn c.loop-turn-test.true c.loop-turn.invariant in
    first_of (search rules, grind (arith, common_steps))

pub returns : goal.returns
unfolding handlers_from
returns g c =
    let e = no_more (λ n. handlers_from (holds c.args.self.now.within.classes.now) (expression (holds c.args.self.now.within.classes.now) c.args.self.now.within.depth) (statement (holds c.args.self.now.within.classes.now) c.args.self.now.within.depth) n c.loop-turn.found c.loop-turn.cursor) _ c.loop-turn._turn c.loop-turn-test.false c.loop-turn.invariant in
    first_of (search rules, grind (arith, common_steps))
