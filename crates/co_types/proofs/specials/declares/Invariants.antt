use Rattle.std.proofs.Common.{◌≡◌, length}
use Rattle.co_types.specs.Special.{declares_in}
use Rattle.co_types.proofs.specials.declares.Given as goal

abbrev pub invariant-loop-rest : goal.invariant-loop-rest
invariant-loop-rest l = declares_in l.class l.info.name l.kind l.rest ≡ declares_in l.class l.info.name l.kind l.info.funcs

abbrev pub decreases-loop-rest : goal.decreases-loop-rest
decreases-loop-rest l = length l.rest
