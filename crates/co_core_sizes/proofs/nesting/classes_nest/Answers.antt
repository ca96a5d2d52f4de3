use Rattle.co_core_sizes.proofs.Deeper.{fresh}
use Rattle.co_core_sizes.proofs.nesting.classes_nest.Goals as goal

pub all_nest-requires : goal.all_nest-requires
all_nest-requires c = fresh c.args.classes.now 1024
