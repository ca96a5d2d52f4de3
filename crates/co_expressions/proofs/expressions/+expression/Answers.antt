use Rattle.std.proofs.Common.{◌≡◌, ap, arith}
use Rattle.co_rules.specs.Names.{holds}
use Rattle.co_expressions.specs.Expressions.{expression}
use Rattle.co_expressions.proofs.Turns.{deeper}
use Rattle.co_expressions.proofs.expressions.+expression.Goals as goal

pub returns-then-depth-eq0 : goal.returns-then-depth-eq0
unfolding expression
returns-then-depth-eq0 t c = let none : c.args.depth ≡ 0 = omega arith in ap (λ n. expression (holds c.args.classes.now) n c.args.least c.args.cursor.now) none

pub returns : goal.returns
unfolding expression
returns t c = rw (deeper (λ n. expression (holds c.args.classes.now) n c.args.least c.args.cursor.now) c.args.depth (omega arith)) c.level.ensures
