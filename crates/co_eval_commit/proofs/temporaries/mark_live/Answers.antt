use Rattle.std.specs.Prelude.{List, map, Some}
use Rattle.std.proofs.Common.{ap, subst, sym, ◌∙◌}
use Rattle.co_eval_data.specs.Seen.{temporal_of}
use Rattle.co_eval_data.specs.declared.frames.Temporal.{Temporal}
use Rattle.co_eval_commit.specs.Temporaries.{IsFirst}
use Rattle.co_eval_commit.proofs.FirstOf.{live_found, none_first}
use Rattle.co_eval_commit.proofs.Slots.{none_live}
use Rattle.co_eval_commit.proofs.temporaries.mark_live.Goals as goal

pub returns-in-Some-get : goal.returns-in-Some-get
returns-in-Some-get c =
    let P : List Temporal → Type 0 = λ ts. IsFirst c.args.slot ts (Some c.in-Some.at) in
    ap (map temporal_of) c.set.ensures ∙ live_found c.args.slot c.args.temporaries.now c.in-Some.at c.in-Some-get.temporal.now (subst P c.as_slice.ensures c.in-Some.ensures.found) (sym c.in-Some-get.ensures.value)

pub returns-in_default : goal.returns-in_default
returns-in_default c =
    let P : List Temporal → Type 0 = λ ts. IsFirst c.args.slot ts c.slot_at.result in
    none_live c.args.slot c.args.temporaries.now (none_first c.args.slot c.args.temporaries.now c.slot_at.result (subst P c.as_slice.ensures c.slot_at.ensures.found) c.in_default.is)
