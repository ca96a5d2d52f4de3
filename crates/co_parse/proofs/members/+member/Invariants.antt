use Rattle.co_parse.proofs.members.+member.Given as goal

abbrev pub decreases-member : goal.decreases-member
decreases-member l = l.depth
