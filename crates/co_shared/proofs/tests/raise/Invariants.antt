use Rattle.std.proofs.Common.{◌≡◌}
use Rattle.co_shared.specs.Sights.{IsLater}
use Rattle.co_shared.proofs.tests.raise.Given as goal

abbrev pub invariant-tries : goal.invariant-tries
invariant-tries l = (l.held.ground ≡ l.initial.held.ground) × IsLater l.initial.held.pass l.held.pass
