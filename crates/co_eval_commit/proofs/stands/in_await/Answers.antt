use Rattle.std.specs.Prelude.{ℕ}
use Rattle.std.proofs.Common.{sym, ◌∙◌}
use Rattle.std.proofs.lemmas.Result.{IfOk-weaker}
use Rattle.co_eval_commit.specs.Looked.{HoldsOwn, StandsInAwait, StandsInFull}
use Rattle.co_eval_commit.proofs.Stood.{is_await_node}
use Rattle.co_eval_commit.proofs.stands.in_await.Goals as goal

pub returns-in-Await : goal.returns-in-Await
returns-in-Await c =
    IfOk-weaker c.among_own.result (λ stand. (slot : ℕ) → StandsInFull c.args.at (HoldsOwn c.args.into.now c.args.own.now) slot c.args.x stand) (λ stand. (slot : ℕ) → StandsInAwait c.args.at c.args.node.now c.args.into.now c.args.own.now slot c.args.x stand) (λ stand h slot fs f e is node met others. h slot fs f e (c.in-Await.field-0, is, node ∙ c.in-Await.is) others) c.among_own.ensures

pub returns-in_default : goal.returns-in_default
returns-in_default c slot fs f e is node met others = absurd (is_await_node f c.args.into.now c.args.own.now met is (λ plan same. c.in_default.not-Await plan (sym node ∙ same)))
