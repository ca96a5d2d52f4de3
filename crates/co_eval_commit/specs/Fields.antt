-- The number of the fields that are made of the object that is made.
use Rattle.std.specs.Prelude.{ℕ, suc, List, slice_get, slice_set, Option, None, Some}
use Rattle.co_eval_data.specs.declared.frames.Frame.{Frame}
use Rattle.co_eval_data.specs.declared.frames.Step.{Step}
use Rattle.co_eval_data.specs.declared.frames.Step.TheVariants as step
use Rattle.co_eval_commit.specs.declared.looked.Fielded.{Fielded}

-- how many are made after one more, where an object is made
abbrev pub fields_after : Step → Option ℕ
fields_after (step.Building p fields) = Some (suc fields)
fields_after (step.Constructing p class fields taken body) = Some (suc fields)
fields_after s = None

abbrev pub with_fields : ℕ → Step → Step
with_fields n (step.Building p fields) = step.Building p n
with_fields n (step.Constructing p class fields taken body) = step.Constructing p class n taken body
with_fields n s = s

abbrev pub fielded : List Frame → ℕ → ℕ → Option Frame → List Frame
fielded fs at n None = fs
fielded fs at n (Some f) = slice_set fs at (record f { step = with_fields n f.step })

-- the frames, where so many fields are made in the frame that is meant
abbrev pub fielded_by : Option Fielded → List Frame → List Frame
fielded_by None fs = fs
fielded_by (Some made) fs = fielded fs made.at made.fields (slice_get fs made.at)
