use Rattle.std.specs.Prelude.{suc, map, length}
use Rattle.std.proofs.Common.{refl, ap, ◌∙◌}
use Rattle.co_eval_data.specs.Agents.{coroutine_of, shared_of, top_of}
use Rattle.co_meaning_calls.specs.Coroutines.{with_new_coroutine}
use Rattle.co_eval_commit.proofs.slotted.draws.Goals as goal

pub returns-clause-made : goal.returns-clause-made
returns-clause-made c l fs =
    c.draw-number.ensures (record l { top = top_of c.args.top.now fs }) refl ∙ ap (λ list. with_new_coroutine (suc (length list)) c.args.block (record l { shared = record (shared_of c.args.shared.now) { coroutines = list }; top = top_of c.args.top.now fs })) (ap (map coroutine_of) c.reserve.ensures.items)
