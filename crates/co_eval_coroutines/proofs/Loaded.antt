-- A call whose value is loaded.
use Rattle.std.specs.Prelude.{◌≡◌}
use Rattle.std.proofs.Common.{refl}
use Rattle.co_base.specs.declared.span.Span.{Span}
use Rattle.co_core_tree.specs.declared.exprs.CoreExpr.{CoreExpr}
use Rattle.co_core_tree.specs.declared.exprs.CoreExpr.TheBlock.{shape-the_row-CoreExpr-0, hidden-the_row-CoreExpr-0, shown-the_row-CoreExpr-0}
use Rattle.co_core_tree.specs.declared.exprs.CoreExpr.TheVariants as expr
use Rattle.co_eval_coroutines.specs.Calling.{is_plain_call}
use Rattle.co_meaning_calls.specs.Coroutines.{is_call}

pub load_of : (e : CoreExpr) (at : Span) → is_call (expr.Load e at) ≡ is_plain_call e
unfolding shape-the_row-CoreExpr-0 hidden-the_row-CoreExpr-0 shown-the_row-CoreExpr-0 denote.Hole.Carrier.hidden
load_of (expr.Call' f n args span) at = refl
load_of e at = refl
