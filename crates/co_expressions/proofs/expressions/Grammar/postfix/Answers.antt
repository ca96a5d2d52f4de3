use Rattle.std.proofs.Common.{rules, arith}
use Rattle.std.proofs.lemmas.Grind.{common_steps}
use Rattle.co_rules.specs.Names.{holds}
use Rattle.co_expressions.specs.Expressions.{expression, postfix, postfix_from}
use Rattle.co_expressions.proofs.Turns.{one_more, no_more}
use Rattle.co_expressions.proofs.expressions.Grammar.postfix.Goals as goal

pub loop-turn-init : goal.loop-turn-init
unfolding postfix
loop-turn-init g c = first_of (search rules, grind (arith, common_steps))

pub returns-then-not-begins_suffix : goal.returns-then-not-begins_suffix
unfolding postfix_from
returns-then-not-begins_suffix g c =
    let e = one_more (λ n. postfix_from (expression (holds c.args.self.now.classes.now) c.args.self.now.depth) c.args.at n c.loop-turn.operand c.loop-turn.cursor) _ c.loop-turn._turn c.loop-turn-test.true c.loop-turn.invariant in
    first_of (search rules, grind (arith, common_steps))

pub returns-in_err-operand : goal.returns-in_err-operand
unfolding postfix_from
returns-in_err-operand g c =
    let e = one_more (λ n. postfix_from (expression (holds c.args.self.now.classes.now) c.args.self.now.depth) c.args.at n c.loop-turn.operand c.loop-turn.cursor) _ c.loop-turn._turn c.loop-turn-test.true c.loop-turn.invariant in
    first_of (search rules, grind (arith, common_steps))

pub loop-turn-preserved : goal.loop-turn-preserved
unfolding postfix_from
loop-turn-preserved g c =
    let e = one_more (λ n. postfix_from (expression (holds c.args.self.now.classes.now) c.args.self.now.depth) c.args.at n c.loop-turn.operand c.loop-turn.cursor) _ c.loop-turn._turn c.loop-turn-test.true c.loop-turn.invariant in
    first_of (search rules, grind (arith, common_steps))

pub returns : goal.returns
unfolding postfix_from
returns g c =
    let e = no_more (λ n. postfix_from (expression (holds c.args.self.now.classes.now) c.args.self.now.depth) c.args.at n c.loop-turn.operand c.loop-turn.cursor) _ c.loop-turn._turn c.loop-turn-test.false c.loop-turn.invariant in
    first_of (search rules, grind (arith, common_steps))
