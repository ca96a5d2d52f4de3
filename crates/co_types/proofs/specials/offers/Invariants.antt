use Rattle.std.proofs.Common.{◌≡◌, length}
use Rattle.co_types.specs.Special.{offers_in}
use Rattle.co_types.proofs.specials.offers.Given as goal

abbrev pub invariant-loop-rest : goal.invariant-loop-rest
invariant-loop-rest l = offers_in l.class l.info.name l.kind l.allowed l.rest ≡ offers_in l.class l.info.name l.kind l.allowed l.info.funcs

abbrev pub decreases-loop-rest : goal.decreases-loop-rest
decreases-loop-rest l = length l.rest
