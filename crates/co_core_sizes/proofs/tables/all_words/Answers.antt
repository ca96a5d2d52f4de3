use Rattle.std.proofs.Common.{refl, arith, ap, ◌∙◌}
use Rattle.co_core_sizes.proofs.Tabled.{all_words, by_end, fits_at, nests_at, one_more}
use Rattle.co_core_sizes.proofs.tables.all_words.Goals as goal

pub words_of-requires-clause-nests : goal.words_of-requires-clause-nests
words_of-requires-clause-nests c = nests_at c.args.classes.now c.requires.nest c.loop-number.number (omega (arith, c.loop-number-test.true, c.len-number-end.ensures))

pub words_of-requires-clause-fits : goal.words_of-requires-clause-fits
words_of-requires-clause-fits c = fits_at c.args.classes.now c.requires.fit c.loop-number.number (omega (arith, c.loop-number-test.true, c.len-number-end.ensures))

pub loop-number-preserved : goal.loop-number-preserved
loop-number-preserved c = (
  c.words_of.ensures.counted,
  one_more c.args.classes.now c.loop-number.number c.words_of.result c.loop-number.words c.push.new.self c.loop-number.invariant.1 c.words_of.ensures.words c.in_ok-push.ensures.ok,
)

pub returns : goal.returns
returns c = all_words c.args.classes.now c.loop-number.words (by_end c.args.classes.now c.loop-number.number c.loop-number.words (omega (arith, c.loop-number-test.false, c.len-number-end.ensures, c.loop-number.auto.number-end)) c.loop-number.invariant.1)
