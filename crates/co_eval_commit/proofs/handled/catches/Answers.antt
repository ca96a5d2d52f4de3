use Rattle.std.specs.Prelude.{◌∷◌, reverse}
use Rattle.std.proofs.Common.{ap, rules, ◌∙◌}
use Rattle.co_eval_commit.specs.InPlace.{seeing}
use Rattle.co_eval_commit.proofs.Beside.{newest_handled}
use Rattle.co_eval_commit.proofs.handled.catches.Goals as goal

pub returns-in_err-adds-clause-made : goal.returns-in_err-adds-clause-made
returns-in_err-adds-clause-made c worker l fs =
    search (rules, ap (λ h. record (seeing c.adds.new.shared c.adds.new.top fs l) { worker = worker; handled = reverse h }) c.reserve.ensures.items ∙ c.in_err-adds.ensures.made (record l { worker = worker; handled = reverse c.args.handled.now.items }) fs)

pub returns-clause-made : goal.returns-clause-made
returns-clause-made c worker l fs =
    ap (λ h. record (seeing c.adds.new.shared c.adds.new.top fs l) { worker = worker; handled = h }) (newest_handled c.args.handled.now.items _ _ c.args.value c.reserve.ensures.items c.push_reserved.ensures.items) ∙ c.in_ok-adds.ensures.made (record l { worker = worker; handled = c.args.value ∷ reverse c.args.handled.now.items }) fs
