use Rattle.std.specs.Prelude.{◌≡◌, List, slice_get, Some}
use Rattle.std.proofs.Common.{subst}
use Rattle.co_eval_data.specs.declared.frames.Frame.{Frame}
use Rattle.co_eval_commit.specs.Looked.{IsInnermost}
use Rattle.co_eval_commit.specs.declared.looked.Looked.TheVariants as looked
use Rattle.co_eval_commit.proofs.Lists.{found}
use Rattle.co_eval_commit.proofs.Marked.{is_guard_step, met, none_reached, none_there, reached_at}
use Rattle.co_eval_commit.proofs.marks.reach.Goals as goal

pub returns-in_default-clause-seen : goal.returns-in_default-clause-seen
returns-in_default-clause-seen c =
    let P : List Frame → Type 0 = λ fs. IsInnermost looked.Guard fs c.innermost.result in
    none_reached c.args.frames.now.items (none_there looked.Guard c.args.frames.now.items c.innermost.result (subst P c.as_slice.ensures.value c.innermost.ensures.found) c.in_default.is)

pub returns-in-Guards-clause-seen : goal.returns-in-Guards-clause-seen
returns-in-Guards-clause-seen c =
    let P : List Frame → Type 0 = λ fs. IsInnermost looked.Guard fs (Some c.in-Some.at) in
    let h : IsInnermost looked.Guard c.args.frames.now.items (Some c.in-Some.at) = subst P c.as_slice.ensures.value c.in-Some.ensures.found in
    reached_at c.args.frames.now.items c.in-Some.at c.in-Some-get_mut.frame.now _ (found c.args.frames.now.items c.in-Some.at c.in-Some-get_mut.frame c.in-Some-get_mut.ensures.item) h.3 c.in-Guards.is

pub returns-in_default-step : goal.returns-in_default-step
returns-in_default-step c =
    let P : List Frame → Type 0 = λ fs. IsInnermost looked.Guard fs (Some c.in-Some.at) in
    let h : IsInnermost looked.Guard c.args.frames.now.items (Some c.in-Some.at) = subst P c.as_slice.ensures.value c.in-Some.ensures.found in
    let e : slice_get c.args.frames.now.items c.in-Some.at ≡ Some c.in-Some-get_mut.frame.now = found c.args.frames.now.items c.in-Some.at c.in-Some-get_mut.frame c.in-Some-get_mut.ensures.item in
    absurd (is_guard_step c.in-Some-get_mut.frame.now (met looked.Guard c.args.frames.now.items c.in-Some.at c.in-Some-get_mut.frame.now h e) c.in_default-step.not-Guards)
