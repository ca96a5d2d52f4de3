use Rattle.std.proofs.Common.{◌≡◌, ◌-◌}
use Rattle.co_rules.specs.Names.{holds}
use Rattle.co_parse.specs.Declarations.{member}
use Rattle.co_parse.specs.Declarations.{members, members_from}
use Rattle.co_parse.proofs.members.Members.members.Given as goal

abbrev pub invariant-loop-turn : goal.invariant-loop-turn
invariant-loop-turn g l = members (member (holds l.self.within.classes.now) l.self.within.depth) l.fn.cursor ≡ members_from (member (holds l.self.within.classes.now) l.self.within.depth) (l._turn-end - l._turn) l.found l.cursor
