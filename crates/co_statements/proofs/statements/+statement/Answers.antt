use Rattle.std.proofs.Common.{◌≡◌, ap, arith}
use Rattle.co_rules.specs.Names.{holds}
use Rattle.co_statements.specs.Statements.{statement}
use Rattle.co_statements.proofs.Turns.{deeper}
use Rattle.co_statements.proofs.statements.+statement.Goals as goal

pub returns-then-depth-eq0 : goal.returns-then-depth-eq0
unfolding statement
returns-then-depth-eq0 t c = let none : c.args.depth ≡ 0 = omega arith in ap (λ n. statement (holds c.args.classes.now) n c.args.cursor.now) none

pub returns : goal.returns
unfolding statement
returns t c = rw (deeper (λ n. statement (holds c.args.classes.now) n c.args.cursor.now) c.args.depth (omega arith)) c.level.ensures
