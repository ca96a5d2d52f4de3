use Rattle.std.proofs.Common.{◌≡◌, ◌+◌, arith, ◌∙◌, ap}
use Rattle.std.specs.Prelude.{List}
use Rattle.co_eval_data.specs.Agents.{local_of}
use Rattle.co_eval_data.specs.Changed.{goes_after}
use Rattle.co_eval_data.specs.Seen.{outcome_of, place_of}
use Rattle.co_eval_data.specs.declared.frames.Frame.{Frame}
use Rattle.co_eval_accesses.proofs.Words.{written_on}
use Rattle.co_eval_accesses.proofs.writing.write_on.Goals as goal

pub returns : goal.returns
returns c =
    let count : c.in-Some.next ≡ c.args.word.number + 1 = search (arith, c.in-Some.ensures) in
    let made = c.makes.ensures ∙ ap (λ (fs : List Frame). goes_after c.in_ok-effect.effect fs c.in_ok-task.task (local_of c.args.here.now)) c.new.ensures in
    written_on c.in_ok-effect.effect c.in_ok-task.task c.makes.result c.args.initial (place_of c.args.place.now) c.args.word.number c.in-Some.next c.args.word.value c.args.word.left (outcome_of c.args.outcome.now) c.args.at (local_of c.args.here.now) made c.in_ok-effect.ensures count c.in_ok-task.ensures
