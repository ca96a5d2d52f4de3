use Rattle.std.proofs.Common.{refl, ◌∙◌}
use Rattle.co_core_scopes.specs.Scoped.{init_seen}
use Rattle.co_core_scopes.proofs.Around.{inits_folded}
use Rattle.co_core_scopes.proofs.Loops.{each_end, each_step}
use Rattle.co_core_scopes.proofs.functions.visit_inits.Goals as goal

pub loop-i-init : goal.loop-i-init
loop-i-init c = λ funcs. refl

pub loop-i-preserved : goal.loop-i-preserved
loop-i-preserved c = λ funcs.
    each_step (init_seen funcs) _ _ _ _ _ _ c.loop-i-test.true c.i-item.is (c.visit_full.ensures funcs) (c.loop-i.invariant funcs)

pub returns : goal.returns
returns c = λ funcs. each_end (init_seen funcs) _ _ _ _ c.loop-i-test.false (c.loop-i.invariant funcs) ∙ inits_folded funcs c.args.v.now c.args.is.now
