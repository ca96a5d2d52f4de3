use Rattle.std.proofs.Common.{refl, [], ◌∷◌}
use Rattle.co_core_scopes.specs.Makes.{marked}
use Rattle.co_core_scopes.proofs.Loops.{flat_end, flat_step}
use Rattle.co_core_scopes.proofs.makes.Makes.make_copies.Goals as goal

pub loop-copy-init : goal.loop-copy-init
loop-copy-init c = refl

pub loop-copy-preserved : goal.loop-copy-preserved
loop-copy-preserved c = flat_step marked (λ copy. copy.to ∷ []) _ _ _ _ _ _ c.loop-copy-test.true c.copy-item.is c.make.ensures c.loop-copy.invariant

pub returns : goal.returns
returns c = flat_end marked (λ copy. copy.to ∷ []) _ _ _ _ c.loop-copy-test.false c.loop-copy.invariant
