use Rattle.co_eval_commit.proofs.Stood.{own_same}
use Rattle.co_eval_commit.proofs.stands.among_own.Goals as goal

pub returns-in-Some : goal.returns-in-Some
returns-in-Some c slot fs f e holds others = own_same slot c.args.x fs c.args.at f c.args.into.now c.args.own.now _ e others holds c.in-Some.is
