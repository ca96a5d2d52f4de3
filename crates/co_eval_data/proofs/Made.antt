-- Changes that only go on.
use Rattle.std.proofs.Common.{◌≡◌, ℕ, [], List, Option, Some, None, true, refl}
use Rattle.std.proofs.lemmas.Bool.{false≢true}
use Rattle.co_base.specs.declared.kinds.Thrown.{Thrown}
use Rattle.co_meaning_data.specs.Turn.{Local}
use Rattle.co_meaning_data.specs.Turn as turn
use Rattle.co_eval_data.specs.Agents.{opened, task_of}
use Rattle.co_eval_data.specs.Changed as changed
use Rattle.co_eval_data.specs.declared.agents.Task.{Task}
use Rattle.co_eval_data.specs.declared.frames.Frame.{Frame}
use Rattle.co_eval_data.specs.declared.agents.Task.TheVariants as task
use Rattle.co_eval_data.specs.declared.outcomes.Going.TheVariants as going
use Rattle.co_eval_data.specs.declared.outcomes.Outcome.TheVariants as outcome
use Rattle.co_eval_data.specs.declared.changes.Effect.{Effect}
use Rattle.co_eval_data.specs.declared.changes.Effect.TheVariants as effect

pub goes_on : (t : Task) (l : Local) → Some (changed.turned_by (record { taken = 0; effect = effect.Nothing; frames = []; doing = record { opens = None; task = t } }) l) ≡ turn.goes (task_of t) l
unfolding changed.turned_by
goes_on t l = refl

pub goes_above : (fs : List Frame) (t : Task) (l : Local) → Some (changed.turned_by (record { taken = 0; effect = effect.Nothing; frames = fs; doing = record { opens = None; task = t } }) l) ≡ changed.goes_above fs t l
unfolding changed.turned_by
goes_above fs t l = refl

pub is_halted : (v : Thrown) (l : Local) → Some (changed.turned_by (record { taken = 0; effect = effect.IsUncaught v; frames = []; doing = record { opens = None; task = task.Comes (outcome.Goes (going.Throwing v)) } }) l) ≡ turn.is_uncaught v l
unfolding changed.turned_by
is_halted v l = refl

-- an agent that goes on is as the effect leaves it
pub is_made : (opens : Option ℕ) (e : Effect) (fs : List Frame) (t : Task) (l : Local) → changed.goes_on e ≡ true → Some (changed.turned_by (record { taken = 0; effect = e; frames = fs; doing = record { opens = opens; task = t } }) l) ≡ turn.goes (opened opens (task_of t)) (changed.all_pushed fs (changed.effected e l))
unfolding changed.turned_by
is_made opens effect.Nothing fs t l on = refl
is_made opens (effect.Happens a) fs t l on = refl
is_made opens (effect.IsUndefined a b) fs t l on = refl
is_made opens (effect.Adds a b) fs t l on = refl
is_made opens (effect.AddsPromise a b) fs t l on = refl
is_made opens (effect.AddsIn a b) fs t l on = refl
is_made opens (effect.Lives a) fs t l on = refl
is_made opens (effect.LivesAt a b) fs t l on = refl
is_made opens (effect.LivesInFull a b) fs t l on = refl
is_made opens (effect.Stands a b) fs t l on = refl
is_made opens (effect.IsBorn a b c) fs t l on = refl
is_made opens (effect.Ends a) fs t l on = refl
is_made opens (effect.Writes a b c) fs t l on = refl
is_made opens (effect.Fills a b c d) fs t l on = refl
is_made opens (effect.AddsBlock a) fs t l on = refl
is_made opens (effect.Releases a) fs t l on = refl
is_made opens (effect.Draws a) fs t l on = refl
is_made opens (effect.Closes a b) fs t l on = refl
is_made opens (effect.Posts a) fs t l on = refl
is_made opens (effect.Handles a) fs t l on = refl
is_made opens (effect.Catches a b c) fs t l on = refl
is_made opens effect.HandlesNoMore fs t l on = refl
is_made opens (effect.Enters a b c) fs t l on = refl
is_made opens effect.Returns fs t l on = refl
is_made opens (effect.Wakes a b c) fs t l on = refl
is_made opens (effect.Suspends a b c d) fs t l on = refl
is_made opens (effect.Escapes a b c) fs t l on = refl
is_made opens effect.FieldMade fs t l on = refl
is_made opens effect.Reached fs t l on = refl
is_made opens effect.Rests fs t l on = absurd (false≢true on)
is_made opens (effect.RestsAfterMain z) fs t l on = absurd (false≢true on)
is_made opens (effect.IsUncaught v) fs t l on = absurd (false≢true on)
