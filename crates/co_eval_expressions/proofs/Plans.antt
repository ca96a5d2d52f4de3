-- The frames of `new` and `delete` expressions.
use Rattle.std.specs.Prelude.{◌≡◌, ℕ, Some}
use Rattle.std.proofs.Common.{ap, ◌∙◌}
use Rattle.co_core_tree.specs.declared.exprs.CoreExpr.{CoreExpr}
use Rattle.co_core_tree.specs.declared.exprs.CoreExpr.TheVariants as expr
use Rattle.co_core_tree.specs.declared.exprs.DeletePlan.{DeletePlan}
use Rattle.co_core_tree.specs.declared.exprs.NewPlan.{NewPlan}
use Rattle.co_meaning_data.specs.Frames as meaning
use Rattle.co_eval_data.specs.Seen as seen
use Rattle.co_eval_data.proofs.Opening as opening

with_new : (f : NewPlan → meaning.Frame) (e : CoreExpr) (plan : NewPlan) → e ≡ expr.New plan → seen.with_new f (Some e) ≡ f plan
with_new f e plan is = ap (λ x. seen.with_new f (Some x)) is ∙ opening.with_new f plan

with_delete : (f : DeletePlan → meaning.Frame) (e : CoreExpr) (plan : DeletePlan) → e ≡ expr.Delete plan → seen.with_delete f (Some e) ≡ f plan
with_delete f e plan is = ap (λ x. seen.with_delete f (Some x)) is ∙ opening.with_delete f plan

pub new_taken : (e : CoreExpr) (plan : NewPlan) → e ≡ expr.New plan → seen.with_new (λ p. meaning.NewTaken p) (Some e) ≡ meaning.NewTaken plan
new_taken e plan is = with_new (λ p. meaning.NewTaken p) e plan is

pub new_made : (x b : ℕ) (e : CoreExpr) (plan : NewPlan) → e ≡ expr.New plan → seen.with_new (λ p. meaning.NewMade x b p) (Some e) ≡ meaning.NewMade x b plan
new_made x b e plan is = with_new (λ p. meaning.NewMade x b p) e plan is

pub delete_ended : (x b : ℕ) (e : CoreExpr) (plan : DeletePlan) → e ≡ expr.Delete plan → seen.with_delete (λ p. meaning.DeleteEnded x b p) (Some e) ≡ meaning.DeleteEnded x b plan
delete_ended x b e plan is = with_delete (λ p. meaning.DeleteEnded x b p) e plan is
