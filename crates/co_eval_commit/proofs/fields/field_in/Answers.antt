use Rattle.std.specs.Prelude.{◌≡◌, length, slice_get, Some}
use Rattle.std.proofs.Common.{refl, sym, ◌∙◌}
use Rattle.std.proofs.lemmas.Option.{slice_get_read}
use Rattle.co_eval_commit.specs.declared.looked.Looked.TheVariants as looked
use Rattle.co_eval_commit.proofs.Making.{fielded_at, fielded_same, none_fielded}
use Rattle.co_eval_commit.proofs.Marked.{met, none_there}
use Rattle.co_eval_commit.proofs.fields.field_in.Goals as goal

pub returns-in_default : goal.returns-in_default
returns-in_default c = none_fielded c.args.frames.now (none_there looked.Making c.args.frames.now _ c.innermost.ensures.found c.in_default.is)

pub returns-in-Some-after : goal.returns-in-Some-after
returns-in-Some-after c =
    let fs = c.args.frames.now in
    let f = c.index-frames-at.result in
    let e : slice_get c.args.frames.now c.in-Some.at ≡ Some c.index-frames-at.result = slice_get_read fs (length fs) c.in-Some.at f refl c.in-Some.ensures.within c.index-frames-at.is in
    fielded_at fs c.in-Some.at f c.in-Some-after.fields e c.in-Some.ensures.found.3 (sym c.in_ok-after.ensures ∙ c.in-Some-after.is)

pub returns-in-None : goal.returns-in-None
returns-in-None c =
    let fs = c.args.frames.now in
    let f = c.index-frames-at.result in
    let e : slice_get c.args.frames.now c.in-Some.at ≡ Some c.index-frames-at.result = slice_get_read fs (length fs) c.in-Some.at f refl c.in-Some.ensures.within c.index-frames-at.is in
    fielded_same fs c.in-Some.at f e c.in-Some.ensures.found.3 (met looked.Making fs c.in-Some.at f c.in-Some.ensures.found e) (sym c.in_ok-after.ensures ∙ c.in-None.is)
