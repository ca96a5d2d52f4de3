use Rattle.std.specs.Prelude.{◌≡◌, true, ◌∷◌, ◌++◌, Some}
use Rattle.std.proofs.lemmas.Result.{IfOk-weaker}
use Rattle.co_eval_calls.proofs.Left.{constructed}
use Rattle.co_eval_data.specs.Seen.{frame_with, frames_of, place_of}
use Rattle.co_eval_data.specs.declared.frames.Node.TheVariants as node
use Rattle.co_eval_data.specs.declared.frames.Step.TheVariants as step
use Rattle.co_meaning_calls.specs.Calls.{member_frames}
use Rattle.co_eval_calls.proofs.entering.constructs.Goals as goal

pub returns : goal.returns
returns c =
    let h = c.args.here.now in
    let func = c.args.func.now in
    let below = frames_of c.args.frames.items in
    IfOk-weaker c.above.result
    (λ more. frames_of more.items ≡ frame_with (step.Constructing c.in_ok-place.place c.args.class 0 0 true) (node.Func h.program.now.unit c.args.id) ∷ below)
    (λ more. frames_of more.items ≡ member_frames (Some (place_of c.args.this.now)) func.role func.body ++ below)
    (λ more is. constructed h func c.args.id c.args.class c.in_ok-place.place c.args.this.now (frames_of more.items) below c.requires.found c.requires.role c.in_ok-place.ensures is)
    c.above.ensures
