use Rattle.std.proofs.Common.{rules}
use Rattle.co_rules.proofs.Classes.{gathered-next}
use Rattle.co_rules.proofs.names.class_names.Goals as goal

pub loop-token-preserved : goal.loop-token-preserved
loop-token-preserved c =
    gathered-next c.loop-token.classes c.add_named.new.classes c.loop-token.is_named c.introduces-is_named.result c.args.tokens.now c.loop-token.token-index c.token-item.result _ c.loop-token-test.true (search rules) c.introduces-is_named.ensures c.in_ok-add_named.ensures c.loop-token.invariant
