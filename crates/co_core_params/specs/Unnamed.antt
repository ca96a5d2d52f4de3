-- What is left of a test of all acts after one more.
use Rattle.std.specs.Prelude.{◌&&◌}
use Rattle.co_core_tree.specs.Acts.{Act}
use Rattle.co_core.specs.Plans.{act_names_no_param}
use Rattle.co_core_params.specs.declared.names.Unnamed.{Unnamed}

abbrev pub unnamed_after : Unnamed → Act → Unnamed
unnamed_after v a = record v { holds = v.holds && act_names_no_param v.func.now a }
