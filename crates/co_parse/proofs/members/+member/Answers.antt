use Rattle.std.proofs.Common.{◌≡◌, ap, arith}
use Rattle.co_rules.specs.Names.{holds}
use Rattle.co_parse.specs.Declarations.{member}
use Rattle.co_parse.proofs.Turns.{deeper}
use Rattle.co_parse.proofs.members.+member.Goals as goal

pub returns-then-depth-eq0 : goal.returns-then-depth-eq0
unfolding member
returns-then-depth-eq0 t c = let none : c.args.depth ≡ 0 = omega arith in ap (λ n. member (holds c.args.classes.now) n c.args.cursor.now) none

pub returns : goal.returns
unfolding member
returns t c = rw (deeper (λ n. member (holds c.args.classes.now) n c.args.cursor.now) c.args.depth (omega arith)) c.level.ensures
