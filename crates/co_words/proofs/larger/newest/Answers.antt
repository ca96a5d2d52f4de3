use Rattle.std.proofs.Common.{sym}
use Rattle.co_words.specs.Chains.{no_link}
use Rattle.co_words.proofs.Groups.{newest_none, newest_last}
use Rattle.co_words.proofs.larger.newest.Goals as goal

pub returns-in-None : goal.returns-in-None
returns-in-None c = sym (newest_none c.args.size c.args.blocks.now c.in-None.ensures)

pub returns-in-Some : goal.returns-in-Some
returns-in-Some c =
    let e = c.in-Some.ensures in
    sym (newest_last c.args.size c.args.blocks.now c.in-Some.n no_link.block e.0 e.1 e.2)
