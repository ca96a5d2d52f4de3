use Rattle.std.specs.Prelude.{List, Some}
use Rattle.std.proofs.Common.{subst, sym}
use Rattle.co_eval_data.specs.declared.frames.Temporal.{Temporal}
use Rattle.co_eval_commit.specs.Temporaries.{IsFirst}
use Rattle.co_eval_commit.proofs.FirstOf.{made_found, none_first}
use Rattle.co_eval_commit.proofs.Slots.{none_made}
use Rattle.co_eval_commit.proofs.temporaries.made_with.Goals as goal

pub returns-in_default : goal.returns-in_default
returns-in_default c =
    let P : List Temporal → Type 0 = λ ts. IsFirst c.args.slot ts c.slot_at.result in
    none_made c.args.slot c.args.x c.args.temporaries.now (none_first c.args.slot c.args.temporaries.now c.slot_at.result (subst P c.as_slice.ensures c.slot_at.ensures.found) c.in_default.is)

pub returns : goal.returns
returns c =
    let P : List Temporal → Type 0 = λ ts. IsFirst c.args.slot ts (Some c.in-Some.at) in
    made_found c.args.slot c.args.x c.args.temporaries.now c.in-Some.at c.in-Some-get.temporal.now c.in_ok-made.made (subst P c.as_slice.ensures c.in-Some.ensures.found) (sym c.in-Some-get.ensures.value) c.in_ok-made.ensures
