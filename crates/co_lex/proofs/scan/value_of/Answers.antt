use Rattle.std.proofs.Common.{sym, arith}
use Rattle.co_lex.proofs.Numbers.{too_large}
use Rattle.co_lex.proofs.scan.value_of.Goals as goal

pub returns-then-value-digit-clause-value : goal.returns-then-value-digit-clause-value
returns-then-value-digit-clause-value c = sym (too_large c.args.digits.now c.loop-b.b-index c.loop-b.value (omega arith) (omega arith) c.loop-b.invariant.0)
