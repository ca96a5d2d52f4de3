use Rattle.std.specs.Prelude.{◌≡◌, ◌∷◌, length, slice_get, Some}
use Rattle.std.proofs.Common.{ap, get_or, refl, ◌∙◌}
use Rattle.std.proofs.lemmas.Option.{slice_get_read}
use Rattle.co_eval_data.specs.Seen.{alive_of}
use Rattle.co_eval_commit.specs.declared.looked.Looked.TheVariants as looked
use Rattle.co_eval_commit.proofs.Marked.{met, none_there}
use Rattle.co_eval_commit.proofs.Stood.{hold_at, is_hold_step, none_held}
use Rattle.co_eval_commit.proofs.stands.in_hold.Goals as goal

pub returns-in_default : goal.returns-in_default
returns-in_default c = none_held (alive_of c.args.x) c.args.frames.now (none_there looked.Hold c.args.frames.now _ c.innermost.ensures.found c.in_default.is)

pub returns-in_default-step : goal.returns-in_default-step
returns-in_default-step c =
    let f = get_or c.args.frames.now c.in-Some.at c.index-frames-at.result in
    let e : slice_get c.args.frames.now c.in-Some.at ≡ Some (get_or c.args.frames.now c.in-Some.at c.index-frames-at.result) = slice_get_read c.args.frames.now (length c.args.frames.now) c.in-Some.at c.index-frames-at.result refl c.in-Some.ensures.within c.index-frames-at.is ∙ ap (λ x. Some x) c.index-frames-at.is in
    absurd (is_hold_step f (met looked.Hold c.args.frames.now c.in-Some.at f c.in-Some.ensures.found e) c.in_default-step.not-Holds)

pub returns : goal.returns
returns c =
    let f = get_or c.args.frames.now c.in-Some.at c.index-frames-at.result in
    let e : slice_get c.args.frames.now c.in-Some.at ≡ Some (get_or c.args.frames.now c.in-Some.at c.index-frames-at.result) = slice_get_read c.args.frames.now (length c.args.frames.now) c.in-Some.at c.index-frames-at.result refl c.in-Some.ensures.within c.index-frames-at.is ∙ ap (λ x. Some x) c.index-frames-at.is in
    hold_at c.args.x c.args.frames.now c.in-Some.at f c.in-Holds.hold c.in_ok-more.more e c.in-Some.ensures.found.3 c.in-Holds.is (c.in_ok-more.ensures ∙ ap (λ list. c.args.x ∷ list) c.as_slice.ensures)
