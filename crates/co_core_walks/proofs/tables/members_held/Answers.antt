use Rattle.std.proofs.Common.{refl}
use Rattle.co_core.specs.Ids as spec
use Rattle.co_core_walks.proofs.Loops.{all_end, all_fails, all_step}
use Rattle.co_core_walks.proofs.tables.members_held.Goals as goal

pub loop-member-init : goal.loop-member-init
loop-member-init c = refl

pub loop-member-preserved : goal.loop-member-preserved
loop-member-preserved c =
    all_step (spec.member_held c.args.unit.now) _ _ _ _ _ c.loop-member-test.true c.member-item.is c.member_held-fits.ensures c.if-not-fits.false c.loop-member.invariant

pub returns-then-not-fits : goal.returns-then-not-fits
returns-then-not-fits c =
    all_fails (spec.member_held c.args.unit.now) _ _ _ _ _ c.loop-member-test.true c.member-item.is c.member_held-fits.ensures c.if-not-fits.true c.loop-member.invariant

pub returns : goal.returns
returns c =
    all_end (spec.member_held c.args.unit.now) _ _ _ c.loop-member-test.false c.loop-member.invariant
