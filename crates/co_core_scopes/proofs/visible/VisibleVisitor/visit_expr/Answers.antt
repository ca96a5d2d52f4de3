use Rattle.std.proofs.Common.{refl}
use Rattle.co_core_scopes.specs.declared.visible.Phase.TheVariants as phase
use Rattle.co_core_scopes.proofs.Phases.{acted_naming, acted_quiet}
use Rattle.co_core_scopes.proofs.visible.VisibleVisitor.visit_expr.Goals as goal

pub returns-in-Makes : goal.returns-in-Makes
returns-in-Makes c = λ conditional. acted_quiet phase.Makes c.args.self.now _ _ c.args.e.now conditional refl c.in-Makes.is c.made_by.ensures c.insert_if.ensures

pub returns-in-Names : goal.returns-in-Names
returns-in-Names c = λ conditional. acted_naming c.args.self.now _ c.args.e.now conditional c.in-Names.is c.name.ensures

pub returns-in-Clears : goal.returns-in-Clears
returns-in-Clears c = λ conditional. acted_quiet phase.Clears c.args.self.now _ _ c.args.e.now conditional refl c.in-Clears.is c.made_by-in-Clears.ensures c.remove_if.ensures
