use Rattle.co_core_sizes.proofs.Same.{none_counted}
use Rattle.co_core_sizes.proofs.words.words_fit.Goals as goal

pub all_words_fit-requires-clause-counted : goal.all_words_fit-requires-clause-counted
all_words_fit-requires-clause-counted c = none_counted c.args.classes.now 1024
