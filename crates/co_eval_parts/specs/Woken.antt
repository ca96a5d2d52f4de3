-- Which coroutines can be resumed or destroyed, and where the activation of one that goes on stands.
use Rattle.std.specs.Prelude.{Bool, true, false, Option, None, Some}
use Rattle.co_eval_data.specs.declared.changes.Wake.{Wake}
use Rattle.co_eval_data.specs.declared.changes.Wake.TheVariants as wake
use Rattle.co_meaning_calls.specs.Coroutines.{above, instead}
use Rattle.co_meaning_data.specs.Frames.{Activation, Condition, Coroutine, Final, Suspended}
use Rattle.co_meaning_data.specs.Turn.{Local, Turned}

abbrev pub is_resumable_condition : Condition → Bool
is_resumable_condition (Suspended point serial rest) = true
is_resumable_condition now = false

abbrev pub is_resumable : Option Coroutine → Bool
is_resumable None = false
is_resumable (Some c) = is_resumable_condition c.condition

abbrev pub is_destroyable_condition : Condition → Bool
is_destroyable_condition (Suspended point serial rest) = true
is_destroyable_condition (Final point serial rest) = true
is_destroyable_condition now = false

abbrev pub is_destroyable : Option Coroutine → Bool
is_destroyable None = false
is_destroyable (Some c) = is_destroyable_condition c.condition

abbrev pub stands_there : Wake → Option (Activation × Local) → Option Turned
stands_there wake.Above woken = above woken
stands_there wake.Instead woken = instead woken
