use Rattle.std.proofs.Common.{ap, ◌∙◌}
use Rattle.std.specs.List.{list_all}
use Rattle.co_core_params.specs.Limited as limited
use Rattle.co_core_params.proofs.Room.{all_listed}
use Rattle.co_core_params.proofs.listed.params_listed.Goals as goal

pub returns : goal.returns
returns c =
    c.each_lists_params.ensures ∙ ap (λ funcs. list_all (limited.func_params funcs) funcs) c.as_slice.ensures ∙ all_listed c.args.unit.now c.requires.counts
