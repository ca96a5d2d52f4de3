use Rattle.std.specs.Prelude.{◌≡◌, length, slice_get, Some}
use Rattle.std.proofs.Common.{refl}
use Rattle.std.proofs.lemmas.Option.{slice_get_read}
use Rattle.std.proofs.lemmas.Result.{IfOk-weaker}
use Rattle.co_eval_data.specs.Changed.{or_same}
use Rattle.co_eval_data.specs.Seen.{alive_of, frames_of}
use Rattle.co_meaning_calls.specs.Objects.{into_full}
use Rattle.co_eval_commit.specs.Looked.{StandsInFrame, stood_by}
use Rattle.co_eval_commit.specs.declared.looked.Looked.TheVariants as looked
use Rattle.co_eval_commit.proofs.Marked.{met, none_there}
use Rattle.co_eval_commit.proofs.Stood.{none_in_full}
use Rattle.co_eval_commit.proofs.stands.in_full.Goals as goal

pub returns-in_default : goal.returns-in_default
returns-in_default c = none_in_full c.args.slot (alive_of c.args.x) c.args.frames.now (none_there looked.Temporaries c.args.frames.now _ c.innermost.ensures.found c.in_default.is)

pub returns : goal.returns
returns c =
    let fs = c.args.frames.now in
    let f = c.index-frames-at.result in
    let e : slice_get c.args.frames.now c.in-Some.at ≡ Some c.index-frames-at.result = slice_get_read fs (length fs) c.in-Some.at f refl c.in-Some.ensures.within c.index-frames-at.is in
    IfOk-weaker c.in_frame.result (λ stand. StandsInFrame c.in-Some.at f c.args.slot c.args.x stand) (λ stand. frames_of (stood_by stand fs) ≡ or_same (frames_of fs) (into_full c.args.slot (alive_of c.args.x) (frames_of fs))) (λ stand h. h fs e (met looked.Temporaries fs c.in-Some.at f c.in-Some.ensures.found e) c.in-Some.ensures.found.3) c.in_frame.ensures
