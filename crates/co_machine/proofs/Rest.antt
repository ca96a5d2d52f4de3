-- A worker at rest, and the count of its Idles.
use Rattle.std.proofs.Common.{◌≡◌, ℕ, ◌+◌, Bool, true, false, List, None, refl, sym, add-zero}
use Rattle.std.specs.Prelude.{ℤ, ◌==◌, if◌then◌else◌}
use Rattle.co_code.specs.declared.image.Image.{Image}
use Rattle.co_code.specs.declared.instr.Instr.{Instr}
use Rattle.co_code.specs.declared.instr.Instr.TheVariants as op
use Rattle.co_machine.specs.declared.due.Due.{Due}
use Rattle.co_machine.specs.declared.due.Due.TheVariants as act
use Rattle.co_machine.specs.declared.state.Next.TheVariants.{Stopped, Seen}
use Rattle.co_machine.specs.declared.state.State.{State}
use Rattle.co_machine.specs.declared.state.Tally.{Tally}
use Rattle.co_machine.specs.declared.stop.Looked.{Looked}
use Rattle.co_machine.specs.declared.stop.Looked.TheVariants as looked
use Rattle.co_machine.specs.declared.stop.StopKind.{StopKind}
use Rattle.co_machine.specs.declared.stop.StopKind.TheVariants as stop
use Rattle.co_machine.specs.declared.stop.Turn.TheVariants.{Went, Stop}
use Rattle.co_machine.specs.Effect.{look_answer}
use Rattle.co_machine.specs.Turn.{ask, instr, due, idled, tallied, counted_with, answer_by, turn_answer}

at_rest : (image : Image) (inputs : List ℤ) (s : State) (old : ℕ) → due image s ≡ act.Rest → (ask image s ≡ None) × (instr image inputs s old ≡ s)
at_rest image inputs s old e = (rw e refl, rw e refl)

pub stopped : (image : Image) (inputs : List ℤ) (s : State) (old stamp : ℕ) (kind : StopKind) → s.control.next ≡ Stopped stamp kind → (ask image s ≡ None) × (instr image inputs s old ≡ s)
stopped image inputs s old stamp kind h =
    let e : due image s ≡ act.Rest = rw h refl in
    at_rest image inputs s old e

pub seen_stop : (image : Image) (inputs : List ℤ) (s : State) (old : ℕ) → s.control.next ≡ Seen → (ask image s ≡ None) × (instr image inputs s old ≡ s)
seen_stop image inputs s old h =
    let e : due image s ≡ act.Rest = rw h refl in
    at_rest image inputs s old e

loaded_idles : (found : Bool) (t : Tally) → (if found then record t { since = 0 } else t).idles ≡ t.idles + idled (if found then Went else Stop stop.Seen)
loaded_idles true t = sym (add-zero t.idles)
loaded_idles false t = sym (add-zero t.idles)

with_idles : (i : Instr) (t : Tally) → (counted_with i t).idles ≡ t.idles + 0
with_idles op.Made t = sym (add-zero t.idles)
with_idles i t = sym (add-zero t.idles)

pub tallied_idles : (d : Due) (seen : Looked) (old : ℕ) (t : Tally) → (tallied d seen old t).idles ≡ t.idles + idled (answer_by d seen old)
tallied_idles act.LoadStop seen old t = loaded_idles (old == 0) t
tallied_idles act.LookStop seen old t = loaded_idles (old == 0) t
tallied_idles act.LookCell looked.Empty old t = refl
tallied_idles act.LookCell (looked.Found handle) old t = sym (add-zero t.idles)
tallied_idles act.LookCell looked.Next old t = sym (add-zero t.idles)
tallied_idles (act.Do i) seen old t = with_idles i t
tallied_idles d seen old t = sym (add-zero t.idles)

pub idles_counted : (image : Image) (inputs : List ℤ) (s : State) (old : ℕ) → (instr image inputs s old).tally.idles ≡ s.tally.idles + idled (turn_answer image s old)
idles_counted image inputs s old = tallied_idles (due image s) (look_answer old s.control) old s.tally
