use Rattle.co_rules.proofs.Unique.{one_rule_begins}
use Rattle.co_rules.proofs.laws.one_rule_begins.Goals as goal

pub returns : goal.returns
returns c = one_rule_begins
