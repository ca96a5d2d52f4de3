use Rattle.co_first_gen.proofs.Lists.{terms_more}
use Rattle.co_first_gen.proofs.emit.emit_terms.Goals as goal

pub loop-term-preserved : goal.loop-term-preserved
loop-term-preserved c =
    terms_more _ _ _ _ _ _ _ c.loop-term-test.true c.loop-term.invariant c.in_ok-emit_term.ensures
