use Rattle.std.specs.Prelude.{◌≡◌, [], Option}
use Rattle.std.proofs.Common.{ap, ◌∙◌, sym}
use Rattle.std.proofs.lemmas.Result.{IfOk-weaker}
use Rattle.co_eval_data.specs.Agents.{local_of}
use Rattle.co_eval_data.specs.Changed.{after}
use Rattle.co_eval_data.specs.Seen.{call_of}
use Rattle.co_eval_data.specs.declared.changes.Change.{Change}
use Rattle.co_meaning.specs.Step.{or_enter}
use Rattle.co_meaning_calls.specs.Calls.{enter}
use Rattle.co_meaning_calls.specs.Coroutines.{suspends_before}
use Rattle.co_eval_coroutines.proofs.suspending.enters.Goals as goal

pub returns : goal.returns
returns c =
    let l = local_of c.args.here.now in
    let call = call_of c.args.call.now [] in
    IfOk-weaker c.enter.result
    (λ (x : Option Change). after x l ≡ enter call l)
    (λ (x : Option Change). after x l ≡ or_enter call l (suspends_before call l.top.frames l))
    (λ x is. is ∙ sym (ap (or_enter call l) c.requires))
    c.enter.ensures
