use Rattle.std.proofs.Common.{rules, arith}
use Rattle.std.proofs.lemmas.Grind.{common_steps}
use Rattle.co_rules.specs.Names.{holds}
use Rattle.co_parse.specs.Declarations.{member}
use Rattle.co_parse.specs.Declarations.{members, members_from}
use Rattle.co_parse.proofs.Turns.{one_more, no_more}
use Rattle.co_parse.proofs.members.Members.members.Goals as goal

pub loop-turn-init : goal.loop-turn-init
unfolding members
loop-turn-init g c = first_of (search rules, grind (arith, common_steps))

pub returns-in_err-member : goal.returns-in_err-member
unfolding members_from
returns-in_err-member g c =
    let e = one_more (λ n. members_from (member (holds c.args.self.now.within.classes.now) c.args.self.now.within.depth) n c.loop-turn.found c.loop-turn.cursor) _ c.loop-turn._turn c.loop-turn-test.true c.loop-turn.invariant in
    first_of (search rules, grind (arith, common_steps))

pub returns-then-eat : goal.returns-then-eat
unfolding members_from
returns-then-eat g c =
    let e = one_more (λ n. members_from (member (holds c.args.self.now.within.classes.now) c.args.self.now.within.depth) n c.loop-turn.found c.loop-turn.cursor) _ c.loop-turn._turn c.loop-turn-test.true c.loop-turn.invariant in
    first_of (search rules, grind (arith, common_steps))

pub loop-turn-preserved : goal.loop-turn-preserved
unfolding members_from
loop-turn-preserved g c =
    let e = one_more (λ n. members_from (member (holds c.args.self.now.within.classes.now) c.args.self.now.within.depth) n c.loop-turn.found c.loop-turn.cursor) _ c.loop-turn._turn c.loop-turn-test.true c.loop-turn.invariant in
    first_of (search rules, grind (arith, common_steps))

pub returns : goal.returns
unfolding members_from
returns g c =
    let e = no_more (λ n. members_from (member (holds c.args.self.now.within.classes.now) c.args.self.now.within.depth) n c.loop-turn.found c.loop-turn.cursor) _ c.loop-turn._turn c.loop-turn-test.false c.loop-turn.invariant in
    first_of (search rules, grind (arith, common_steps))
