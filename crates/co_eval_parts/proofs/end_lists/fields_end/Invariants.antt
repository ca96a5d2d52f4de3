use Rattle.std.specs.Prelude.{◌≡◌, ◌++◌, map}
use Rattle.co_eval_data.specs.Seen.{ending_of, place_of}
use Rattle.co_meaning_calls.specs.Objects as objects
use Rattle.co_eval_parts.proofs.end_lists.fields_end.Given as goal

abbrev pub invariant-loop-field : goal.invariant-loop-field
invariant-loop-field l = map ending_of l.list ++ objects.fields_end (place_of l.place) l.field ≡ objects.fields_end (place_of l.place) l.below

abbrev pub decreases-loop-field : goal.decreases-loop-field
decreases-loop-field l = l.field
