use Rattle.std.specs.Prelude.{◌≡◌, List, slice_get, Some}
use Rattle.std.proofs.Common.{subst}
use Rattle.co_eval_data.specs.declared.frames.Frame.{Frame}
use Rattle.co_eval_commit.specs.Looked.{IsInnermost}
use Rattle.co_eval_commit.specs.declared.looked.Looked.TheVariants as looked
use Rattle.co_eval_commit.proofs.Lists.{found}
use Rattle.co_eval_commit.proofs.Marked.{is_full_step, marked_at, met, none_marked, none_there}
use Rattle.co_eval_commit.proofs.marks.set_mark.Goals as goal

pub returns-in_default-clause-seen : goal.returns-in_default-clause-seen
returns-in_default-clause-seen c =
    let P : List Frame → Type 0 = λ fs. IsInnermost looked.Full fs c.innermost.result in
    none_marked c.args.slot c.args.frames.now.items (none_there looked.Full c.args.frames.now.items c.innermost.result (subst P c.as_slice.ensures.value c.innermost.ensures.found) c.in_default.is)

pub returns-in-Full-clause-seen : goal.returns-in-Full-clause-seen
returns-in-Full-clause-seen c =
    let P : List Frame → Type 0 = λ fs. IsInnermost looked.Full fs (Some c.in-Some.at) in
    let h : IsInnermost looked.Full c.args.frames.now.items (Some c.in-Some.at) = subst P c.as_slice.ensures.value c.in-Some.ensures.found in
    marked_at c.args.slot c.args.frames.now.items c.in-Some.at c.in-Some-get_mut.frame.now _ c.mark_live.new.temporaries (found c.args.frames.now.items c.in-Some.at c.in-Some-get_mut.frame c.in-Some-get_mut.ensures.item) h.3 c.in-Full.is c.mark_live.ensures

pub returns-in_default-step : goal.returns-in_default-step
returns-in_default-step c =
    let P : List Frame → Type 0 = λ fs. IsInnermost looked.Full fs (Some c.in-Some.at) in
    let h : IsInnermost looked.Full c.args.frames.now.items (Some c.in-Some.at) = subst P c.as_slice.ensures.value c.in-Some.ensures.found in
    let e : slice_get c.args.frames.now.items c.in-Some.at ≡ Some c.in-Some-get_mut.frame.now = found c.args.frames.now.items c.in-Some.at c.in-Some-get_mut.frame c.in-Some-get_mut.ensures.item in
    absurd (is_full_step c.in-Some-get_mut.frame.now (met looked.Full c.args.frames.now.items c.in-Some.at c.in-Some-get_mut.frame.now h e) c.in_default-step.not-Full)
