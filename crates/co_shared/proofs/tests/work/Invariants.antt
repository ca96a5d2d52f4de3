use Rattle.std.proofs.Common.{◌≡◌}
use Rattle.co_shared.specs.Sights.{IsLater}
use Rattle.co_shared.proofs.tests.work.Given as goal

abbrev pub invariant-adds : goal.invariant-adds
invariant-adds g l = (l.held.ground ≡ l.initial.held.ground) × IsLater l.initial.held.pass l.held.pass
