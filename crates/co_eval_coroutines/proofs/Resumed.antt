-- What is left where a coroutine runs again in place of its parked activation.
use Rattle.std.specs.Prelude.{◌≡◌, ℕ, zero, suc, true, false, Option, None, Some}
use Rattle.std.proofs.Common.{refl, ap}
use Rattle.std.proofs.lemmas.Bool.{false≢true}
use Rattle.co_eval_data.specs.Changed.{continuation_in, serial_after, woken}
use Rattle.co_eval_data.specs.declared.changes.Wake.TheVariants as wake
use Rattle.co_eval_parts.specs.Woken.{is_destroyable, is_destroyable_condition}
use Rattle.co_meaning_calls.specs.Coroutines.{activation_of, conditioned, coroutines, set_condition, taken_by, taken_in}
use Rattle.co_meaning_data.specs.Frames as meaning
use Rattle.co_meaning_data.specs.Frames.{Activation, Condition, Coroutine, Running, Suspended, Final, Over}
use Rattle.co_meaning_data.specs.Turn.{Local, goes}
use Rattle.co_meaning_data.specs.Undefined.{numbered}

conditioned_beneath : (n : ℕ) (now : Condition) (l : Local) (a : Activation) (c : Option Coroutine) → record (conditioned n now l c) { top = a } ≡ conditioned n now (record l { top = a }) c
conditioned_beneath n now l a None = refl
conditioned_beneath zero now l a (Some c) = refl
conditioned_beneath (suc n) now l a (Some c) = refl

set_beneath : (n : ℕ) (now : Condition) (l : Local) (a : Activation) → record (set_condition n now l) { top = a } ≡ set_condition n now (record l { top = a })
set_beneath n now l a = conditioned_beneath n now l a (numbered (coroutines l) n)

taken_back_by : (n : ℕ) (o : meaning.Outcome) (l : Local) (c : Coroutine) (now : Condition) → is_destroyable_condition now ≡ true →
    goes (meaning.Comes o) (record (set_condition n (Running (serial_after now)) l) { top = activation_of meaning.OfBody n c (continuation_in now) }) ≡ taken_by n c now o l
taken_back_by n o l c (Suspended point serial rest) on = ap (goes (meaning.Comes o)) (set_beneath n (Running serial) l (activation_of meaning.OfBody n c rest))
taken_back_by n o l c (Final point serial rest) on = ap (goes (meaning.Comes o)) (set_beneath n (Running serial) l (activation_of meaning.OfBody n c rest))
taken_back_by n o l c (Running serial) on = absurd (false≢true on)
taken_back_by n o l c Over on = absurd (false≢true on)

taken_back_in : (n : ℕ) (o : meaning.Outcome) (l : Local) (c : Option Coroutine) → is_destroyable c ≡ true → goes (meaning.Comes o) (woken n meaning.OfBody wake.Instead l c) ≡ taken_in n o l c
taken_back_in n o l None on = absurd (false≢true on)
taken_back_in n o l (Some c) on = taken_back_by n o l c c.condition on

pub taken_back : (n : ℕ) (o : meaning.Outcome) (l : Local) → is_destroyable (numbered (coroutines l) n) ≡ true →
    goes (meaning.Comes o) (woken n meaning.OfBody wake.Instead l (numbered (coroutines l) n)) ≡ taken_in n o l (numbered (coroutines l) n)
taken_back n o l on = taken_back_in n o l (numbered (coroutines l) n) on

not_taken_by : (n : ℕ) (o : meaning.Outcome) (l : Local) (c : Coroutine) (now : Condition) → is_destroyable_condition now ≡ false → None ≡ taken_by n c now o l
not_taken_by n o l c (Suspended point serial rest) off = absurd (cc off)
not_taken_by n o l c (Final point serial rest) off = absurd (cc off)
not_taken_by n o l c (Running serial) off = refl
not_taken_by n o l c Over off = refl

not_taken_in : (n : ℕ) (o : meaning.Outcome) (l : Local) (c : Option Coroutine) → is_destroyable c ≡ false → None ≡ taken_in n o l c
not_taken_in n o l None off = refl
not_taken_in n o l (Some c) off = not_taken_by n o l c c.condition off

pub not_taken : (n : ℕ) (o : meaning.Outcome) (l : Local) → is_destroyable (numbered (coroutines l) n) ≡ false → None ≡ taken_in n o l (numbered (coroutines l) n)
not_taken n o l off = not_taken_in n o l (numbered (coroutines l) n) off
