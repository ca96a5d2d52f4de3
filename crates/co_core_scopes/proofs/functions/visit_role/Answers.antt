use Rattle.std.proofs.Common.{sym, ap, ◌∙◌}
use Rattle.co_core.specs.Bodies.{inits_fulls, role_fulls}
use Rattle.co_core_scopes.specs.Scoped.{fulls_seen}
use Rattle.co_core_scopes.proofs.functions.visit_role.Goals as goal

pub returns-in-Ctor : goal.returns-in-Ctor
returns-in-Ctor c = λ funcs.
    c.visit_inits.ensures funcs ∙ ap (λ l. fulls_seen c.args.v.now (inits_fulls funcs l)) c.as_slice.ensures ∙ ap (λ r. fulls_seen c.args.v.now (role_fulls funcs r)) (sym c.in-Ctor.is)
