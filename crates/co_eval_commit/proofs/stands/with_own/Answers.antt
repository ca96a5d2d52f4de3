use Rattle.std.specs.Prelude.{◌∷◌}
use Rattle.std.proofs.Common.{ap, ◌∙◌}
use Rattle.co_eval_commit.proofs.Stood.{own_at}
use Rattle.co_eval_commit.proofs.stands.with_own.Goals as goal

pub returns : goal.returns
returns c slot fs f e holds others =
    rw c.in_ok-into.ensures (own_at slot c.args.x fs c.args.at f c.args.into.now c.args.own.now c.in_ok-more.more e others holds c.requires (c.in_ok-more.ensures ∙ ap (λ list. c.args.x.object ∷ list) c.as_slice.ensures))
