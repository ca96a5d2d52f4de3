use Rattle.std.proofs.Common.{◌∙◌, ap}
use Rattle.std.specs.Option.{is_some}
use Rattle.co_core_counts.proofs.Left.{fits_within}
use Rattle.co_core_counts.proofs.limits.points_fit.Goals as goal

pub returns : goal.returns
returns c = c.is_some.ensures ∙ ap is_some c.after_funcs.ensures ∙ fits_within 65535 _
