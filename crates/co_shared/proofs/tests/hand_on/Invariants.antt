use Rattle.std.proofs.Common.{◌≡◌}
use Rattle.co_shared.specs.Sights.{IsLater}
use Rattle.co_shared.proofs.tests.hand_on.Given as goal

abbrev pub invariant-tries : goal.invariant-tries
invariant-tries g l = (l.held.ground ≡ l.initial.held.ground) × IsLater l.initial.held.pass l.held.pass
