use Rattle.std.proofs.Common.{refl, ◌∙◌}
use Rattle.co_core_scopes.specs.Scoped.{copy_seen}
use Rattle.co_core_scopes.proofs.Around.{copies_folded}
use Rattle.co_core_scopes.proofs.Loops.{each_end, each_step}
use Rattle.co_core_scopes.proofs.functions.visit_copies.Goals as goal

pub loop-copy-init : goal.loop-copy-init
loop-copy-init c = λ funcs. refl

pub loop-copy-preserved : goal.loop-copy-preserved
loop-copy-preserved c = λ funcs.
    each_step (copy_seen funcs) _ _ _ _ _ _ c.loop-copy-test.true c.copy-item.is (c.visit_full.ensures funcs) (c.loop-copy.invariant funcs)

pub returns : goal.returns
returns c = λ funcs. each_end (copy_seen funcs) _ _ _ _ c.loop-copy-test.false (c.loop-copy.invariant funcs) ∙ copies_folded funcs c.args.v.now c.args.copies.now
