-- What holds of each turn.
use Rattle.std.specs.Prelude.{ℕ, ◌+◌, ◌≡◌, ◌<◌, ◌≤◌, List, [], ◌∷◌, ◌++◌, Some, None, ℤ}
use Rattle.co_base.specs.Integers.{held_by}
use Rattle.co_base.specs.declared.kinds.Print.{Print}
use Rattle.co_base.specs.declared.kinds.Print.TheVariants as print
use Rattle.co_code.specs.declared.image.Image.{Image}
use Rattle.co_code.specs.declared.instr.Instr.TheVariants as op
use Rattle.co_machine.specs.declared.due.Due.{Due}
use Rattle.co_machine.specs.declared.due.Due.TheVariants as act
use Rattle.co_machine.specs.declared.limits.Limits.{Limits}
use Rattle.co_machine.specs.declared.state.Control.{Control}
use Rattle.co_machine.specs.declared.state.Next.TheVariants.{Stopped, Seen}
use Rattle.co_machine.specs.declared.state.State.{State}
use Rattle.co_machine.specs.declared.state.Tally.{Tally}
use Rattle.co_machine.specs.declared.stop.Looked.{Looked}
use Rattle.co_machine.specs.declared.stop.StopKind.{StopKind}
use Rattle.co_words.specs.declared.access.Access.TheVariants.{Add}
use Rattle.co_machine.specs.Ready.{IsAllowed, IsSteady, IsWithin}
use Rattle.co_machine.specs.Turn.{ask, instr, due, idled, tallied, turn_answer}

-- a worker that has stopped makes no access and stays as it is
abbrev pub StaysStopped : Type 0
StaysStopped =
    (image : Image) (inputs : List ℤ) (s : State) (old stamp : ℕ) (kind : StopKind) → s.control.next ≡ Stopped stamp kind → (ask image s ≡ None) × (instr image inputs s old ≡ s)

-- so does one that has seen another's stop
abbrev pub StaysSeen : Type 0
StaysSeen =
    (image : Image) (inputs : List ℤ) (s : State) (old : ℕ) → s.control.next ≡ Seen → (ask image s ≡ None) × (instr image inputs s old ≡ s)

-- a turn that is counted only while the budget lasts leaves each count in the budget
abbrev pub StaysSteady : Type 0
StaysSteady =
    (limits : Limits) (d : Due) (seen : Looked) (old : ℕ) (t : Tally) → IsSteady limits t → IsAllowed d limits t → IsSteady limits (tallied d seen old t)

-- the Idles are counted: one more at each turn that answers Idle, and else none
abbrev pub CountsIdles : Type 0
CountsIdles =
    (image : Image) (inputs : List ℤ) (s : State) (old : ℕ) → (instr image inputs s old).tally.idles ≡ s.tally.idles + idled (turn_answer image s old)

-- the access of a turn, where there is one, is to one of the words, and never to word 0; a cell's number has 16 bits
abbrev pub StaysWithin : Type 0
StaysWithin =
    (image : Image) (s : State) → 65552 ≤ s.limits.words → s.control.look < 65536 → IsWithin (ask image s) s.limits.words

-- the print that is made, if one is, with the stamp that was drawn
abbrev pub new_prints : Due → Control → ℕ → List (ℕ × Print)
new_prints (act.Do op.Print) k old = (old, print.Num (held_by k.registers.a)) ∷ []
new_prints (act.Do (op.Lit n)) k old = (old, print.Lit n) ∷ []
new_prints d k old = []

-- what was printed stays printed: a turn adds at the end
abbrev pub PrintsGrow : Type 0
PrintsGrow =
    (image : Image) (inputs : List ℤ) (s : State) (old : ℕ) → (instr image inputs s old).control.prints ≡ s.control.prints ++ new_prints (due image s) s.control old

-- no stamp is above this one
abbrev pub NoneAbove : ℕ → List (ℕ × Print) → Type 0
NoneAbove stamp [] = Unit {0}
NoneAbove stamp (p ∷ prints) = (p.0 ≤ stamp) × NoneAbove stamp prints

-- no stamp is below this one
abbrev pub NoneBelow : ℕ → List (ℕ × Print) → Type 0
NoneBelow stamp [] = Unit {0}
NoneBelow stamp (p ∷ prints) = (stamp ≤ p.0) × NoneBelow stamp prints

-- along the list the stamps never fall
abbrev pub NeverFall : List (ℕ × Print) → Type 0
NeverFall [] = Unit {0}
NeverFall (p ∷ prints) = NoneBelow p.0 prints × NeverFall prints

-- the stamps never fall, where a turn that draws one finds no number below those that were drawn
abbrev pub StampsNeverFall : Type 0
StampsNeverFall =
    (image : Image) (inputs : List ℤ) (s : State) (old : ℕ) → NeverFall s.control.prints → (ask image s ≡ Some (Add 1 1) → NoneAbove old s.control.prints) → NeverFall (instr image inputs s old).control.prints
