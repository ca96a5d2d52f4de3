-- What is left of a test of all acts after one more.
use Rattle.std.specs.Prelude.{◌&&◌}
use Rattle.co_core_tree.specs.Acts.{Act}
use Rattle.co_core_plans.specs.declared.rules.Every.{Every}
use Rattle.co_core_plans.specs.Rules.{follows}

abbrev pub every_after : Every → Act → Every
every_after v a = record v { holds = v.holds && follows v.unit.now v.rule a }
