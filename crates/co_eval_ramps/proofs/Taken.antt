-- The call of an `operator new` that takes the coroutine's parameters, opened.
use Rattle.std.specs.Prelude.{◌≡◌, List, [], ◌∷◌, ◌++◌, Option}
use Rattle.std.proofs.Common.{ap, ◌∙◌}
use Rattle.co_base.specs.declared.ids.FuncId.{FuncId}
use Rattle.co_core_tree.specs.Slots.{class_params}
use Rattle.co_core_tree.specs.declared.exprs.Init.{Init}
use Rattle.co_eval_data.specs.Seen.{frames_of}
use Rattle.co_eval_data.specs.declared.agents.Task.TheVariants as task
use Rattle.co_eval_data.specs.declared.changes.Effect.TheVariants as effect
use Rattle.co_eval_data.specs.declared.frames.Frame.{Frame}
use Rattle.co_eval_data.specs.declared.outcomes.Outcome.TheVariants as outcome
use Rattle.co_eval_fulls.specs.Fulls.{opens_after, unmade_here}
use Rattle.co_meaning_calls.specs.Calls.{arguments_acts, call_acts, opens, opens_with, without}
use Rattle.co_meaning_calls.specs.Coroutines.{take_call}
use Rattle.co_meaning_data.specs.Frames as meaning
use Rattle.co_meaning_data.specs.Turn.{Local, Turned, funcs, pushed, with_frames}

pub taken_with : (f : FuncId) (args rest : List Init) (outer inner : List Frame) (l : Local) (o : Option Turned) →
    rest ≡ args → frames_of outer ≡ meaning.RampTaken ∷ [] → frames_of inner ≡ meaning.Calling (take_call f args l) ∷ [] →
    o ≡ opens_after (arguments_acts (funcs l) (without 1 (class_params (funcs l) f)) rest) effect.Nothing outer inner (task.Comes outcome.Passes) l →
    o ≡ opens (call_acts l (take_call f args l)) (meaning.Calling (take_call f args l) ∷ []) (meaning.Comes meaning.Passes) (pushed meaning.RampTaken l)
taken_with f args rest outer inner l o same around within is =
    let us = unmade_here (arguments_acts (funcs l) (without 1 (class_params (funcs l) f)) rest) l in
    let next = meaning.Comes meaning.Passes in
    is
    ∙ ap (λ (fs : List meaning.Frame). opens_with us (frames_of inner) next (with_frames (fs ++ l.top.frames) l)) around
    ∙ ap (λ (fs : List meaning.Frame). opens_with us fs next (pushed meaning.RampTaken l)) within
    ∙ ap (λ (k : List Init). opens_with (unmade_here (arguments_acts (funcs l) (without 1 (class_params (funcs l) f)) k) l) (meaning.Calling (take_call f args l) ∷ []) next (pushed meaning.RampTaken l)) same
