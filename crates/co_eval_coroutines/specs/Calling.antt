-- The call of `await_suspend`, beneath which a coroutine is suspended.
use Rattle.std.specs.Prelude.{ℕ, suc, Bool, true, false, List, [], ◌∷◌, Option, None, Some}
use Rattle.co_base.specs.declared.span.Span.{Span}
use Rattle.co_core_tree.specs.declared.exprs.AwaitPlan.{AwaitPlan}
use Rattle.co_core_tree.specs.declared.exprs.CoreExpr.{CoreExpr}
use Rattle.co_core_tree.specs.declared.exprs.CoreExpr.TheVariants as expr
use Rattle.co_meaning_calls.specs.Coroutines.{serial_now, set_condition, suspended_at}
use Rattle.co_meaning_data.specs.Frames.{Activation, AwaitResume, Continuation, Frame, LoadFrom}
use Rattle.co_meaning_data.specs.Store.{Place}
use Rattle.co_meaning_data.specs.Turn.{Local}

abbrev pub is_plain_call : CoreExpr → Bool
is_plain_call (expr.Call' f n args at) = true
is_plain_call e = false

-- what the call gives is loaded where it is a reference
abbrev pub load_frames : Option Span → List Frame
load_frames None = []
load_frames (Some at) = LoadFrom at ∷ []

-- how many frames the call takes away: that of the await, and that of the load, where there is one
abbrev pub taken_with : Option Span → ℕ
taken_with None = 1
taken_with (Some at) = 2

-- the coroutine is suspended at its await, and the activation stands in the place of its own
abbrev pub suspended_under : ℕ → AwaitPlan → Option Place → Activation → Local → Local
suspended_under n plan into a l =
    let rest : Continuation = record { slots = l.top.slots; frames = AwaitResume plan into ∷ l.top.frames } in
    record (set_condition n (suspended_at plan.point.0 (suc (serial_now n l)) rest) l) { top = a }
