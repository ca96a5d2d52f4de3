use Rattle.co_core_scopes.proofs.Openings.{seen_given}
use Rattle.co_core_scopes.proofs.statements.visit_given.Goals as goal

pub returns-in-Some : goal.returns-in-Some
returns-in-Some c = λ funcs at. seen_given funcs c.args.v.now _ _ _ at c.in-Some.is (c.visit_full.ensures funcs)
