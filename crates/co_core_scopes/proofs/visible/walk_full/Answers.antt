use Rattle.std.specs.Prelude.{false, fold}
use Rattle.std.proofs.Common.{sym, ap, ◌∙◌}
use Rattle.co_core_tree.specs.Slots.{class_params}
use Rattle.co_core_scopes.specs.Scoped.{acted, full_acts}
use Rattle.co_core_scopes.proofs.visible.walk_full.Goals as goal

pub returns-in-Expr : goal.returns-in-Expr
returns-in-Expr c = λ funcs. c.walk_expr.ensures (class_params funcs) false false ∙ ap (λ f. fold acted c.args.v.now (full_acts funcs f)) (sym c.in-Expr.is)

pub returns-in-Init : goal.returns-in-Init
returns-in-Init c = λ funcs. c.walk_init.ensures (class_params funcs) false false ∙ ap (λ f. fold acted c.args.v.now (full_acts funcs f)) (sym c.in-Init.is)

pub returns-in-Await : goal.returns-in-Await
returns-in-Await c = λ funcs. c.walk_await.ensures (class_params funcs) false ∙ ap (λ f. fold acted c.args.v.now (full_acts funcs f)) (sym c.in-Await.is)
