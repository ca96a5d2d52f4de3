use Rattle.std.specs.Prelude.{false}
use Rattle.std.proofs.lemmas.List.{length-replicate}
use Rattle.co_core_scopes.proofs.Marks.{none_in}
use Rattle.co_core_scopes.proofs.points.none_marked.Goals as goal

pub returns : goal.returns
returns c = record { size = length-replicate 65535 false; none = λ k. none_in 65535 k }
