use Rattle.co_core_sizes.proofs.Same.{none_counted}
use Rattle.co_core_sizes.proofs.tables.words_of_classes.Goals as goal

pub all_words-requires-clause-counted : goal.all_words-requires-clause-counted
all_words-requires-clause-counted c = none_counted c.args.classes.now 1024
