use Rattle.std.specs.Prelude.{◌≡◌, Option, Some, IfOk}
use Rattle.std.proofs.Common.{ap, subst, sym, ◌∙◌}
use Rattle.co_eval_data.specs.Agents.{local_of}
use Rattle.co_eval_data.specs.Changed.{after}
use Rattle.co_eval_data.specs.Seen.{place_of}
use Rattle.co_eval_expressions.proofs.Inits as form
use Rattle.co_eval_expressions.proofs.initializing.initialize_at.Goals as goal
use Rattle.co_meaning.specs.Expressions.{initialize}
use Rattle.co_meaning_data.specs.Turn.{Turned}

pub returns-in-Ctor : goal.returns-in-Ctor
returns-in-Ctor c =
    let P : Option Turned → Type 0 = λ t. IfOk c.constructs.result (λ x. after x (local_of c.args.here.now) ≡ t) in
    subst P (sym (ap (λ i. initialize i (Some (place_of c.args.place.now)) (local_of c.args.here.now)) c.in-Ctor.is ∙ form.constructor c.in-Ctor.func c.in-Ctor.args (place_of c.args.place.now) (local_of c.args.here.now))) c.constructs.ensures

pub returns-in-Members : goal.returns-in-Members
returns-in-Members c =
    let P : Option Turned → Type 0 = λ t. IfOk c.makes_members.result (λ x. after x (local_of c.args.here.now) ≡ t) in
    subst P (sym (ap (λ i. initialize i (Some (place_of c.args.place.now)) (local_of c.args.here.now)) c.in-Members.is ∙ form.by_members c.in-Members.members (place_of c.args.place.now) (local_of c.args.here.now))) c.makes_members.ensures
