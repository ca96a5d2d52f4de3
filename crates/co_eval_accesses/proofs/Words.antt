-- The words of a scalar that are written one by one.
use Rattle.std.specs.Prelude.{◌≡◌, ℕ, suc, ◌+◌, Bool, List, [], Some}
use Rattle.std.proofs.Common.{ap, ◌∙◌, add-one}
use Rattle.co_base.specs.declared.span.Span.{Span}
use Rattle.co_eval_data.specs.Agents.{task_of}
use Rattle.co_eval_data.specs.Changed.{goes_after, turned_by}
use Rattle.co_eval_data.specs.declared.agents.Task.{Task}
use Rattle.co_eval_data.specs.declared.changes.Change.{Change}
use Rattle.co_eval_data.specs.declared.changes.Effect.{Effect}
use Rattle.co_eval_data.specs.declared.changes.Effect.TheVariants as effect
use Rattle.co_meaning_data.specs.Access as access
use Rattle.co_meaning_data.specs.Frames.{Outcome}
use Rattle.co_meaning_data.specs.Store.{Place, offset_at}
use Rattle.co_meaning_data.specs.Turn.{Local, classes, goes, store}
use Rattle.co_meaning_data.specs.declared.values.Value.{Value}

-- a word is written, and those after it are still to be
pub written_on : (e : Effect) (t : Task) (c : Change) (initial : Bool) (p : Place) (number next : ℕ) (v : Value) (left : List Value) (o : Outcome) (at : Span) (l : Local) →
    Some (turned_by c l) ≡ goes_after e [] t l → e ≡ effect.Writes p.object (offset_at (classes l) (store l) p + number) v → next ≡ number + 1 →
    ((m : Local) → goes (task_of t) m ≡ access.write_on initial p next left o at m) →
    Some (turned_by c l) ≡ access.write_on initial p (suc number) left o at (access.written p number v l)
written_on e t c initial p number next v left o at l made is count on =
    made
    ∙ ap (λ f. goes_after f [] t l) is
    ∙ on (access.written p number v l)
    ∙ ap (λ n. access.write_on initial p n left o at (access.written p number v l)) (count ∙ add-one number)
