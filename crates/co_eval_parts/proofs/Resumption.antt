-- What the waking of a coroutine leaves.
use Rattle.std.specs.Prelude.{◌≡◌, ℕ, true, false, Option, None, Some}
use Rattle.std.proofs.Common.{refl}
use Rattle.std.proofs.lemmas.Bool.{false≢true}
use Rattle.co_eval_data.specs.Changed.{continuation_in, serial_after, stands_as, woken}
use Rattle.co_eval_data.specs.declared.changes.Wake.{Wake}
use Rattle.co_eval_data.specs.declared.changes.Wake.TheVariants as wake
use Rattle.co_eval_parts.specs.Woken.{is_destroyable, is_destroyable_condition, is_resumable, is_resumable_condition, stands_there}
use Rattle.co_meaning_calls.specs.Coroutines.{activation_of, coroutines, destroyed, destroyed_by, resumed, resumed_by, set_condition, wakes}
use Rattle.co_meaning_data.specs.Frames as meaning
use Rattle.co_meaning_data.specs.Frames.{Condition, Coroutine, Running, Suspended, Final, Over}
use Rattle.co_meaning_data.specs.Turn.{Local, goes}
use Rattle.co_meaning_data.specs.Undefined.{numbered}

resumes_by : (n : ℕ) (place : Wake) (l : Local) (c : Coroutine) (now : Condition) → is_resumable_condition now ≡ true →
    goes (meaning.Comes meaning.Passes) (stands_as place (activation_of meaning.OfBody n c (continuation_in now)) (set_condition n (Running (serial_after now)) l)) ≡ stands_there place (resumed_by n c now l)
resumes_by n wake.Above l c (Suspended point serial rest) on = refl
resumes_by n wake.Instead l c (Suspended point serial rest) on = refl
resumes_by n place l c (Running serial) on = absurd (false≢true on)
resumes_by n place l c (Final point serial rest) on = absurd (false≢true on)
resumes_by n place l c Over on = absurd (false≢true on)

resumes_in : (n : ℕ) (place : Wake) (l : Local) (c : Option Coroutine) → is_resumable c ≡ true →
    goes (meaning.Comes meaning.Passes) (woken n meaning.OfBody place l c) ≡ stands_there place (resumed n l c)
resumes_in n place l None on = absurd (false≢true on)
resumes_in n place l (Some c) on = resumes_by n place l c c.condition on

pub resumes : (n : ℕ) (place : Wake) (l : Local) → is_resumable (numbered (coroutines l) n) ≡ true →
    goes (meaning.Comes meaning.Passes) (woken n meaning.OfBody place l (numbered (coroutines l) n)) ≡ stands_there place (wakes n l)
resumes n place l on = resumes_in n place l (numbered (coroutines l) n) on

not_resumed_by : (n : ℕ) (place : Wake) (l : Local) (c : Coroutine) (now : Condition) → is_resumable_condition now ≡ false → None ≡ stands_there place (resumed_by n c now l)
not_resumed_by n place l c (Suspended point serial rest) off = absurd (cc off)
not_resumed_by n wake.Above l c (Running serial) off = refl
not_resumed_by n wake.Instead l c (Running serial) off = refl
not_resumed_by n wake.Above l c (Final point serial rest) off = refl
not_resumed_by n wake.Instead l c (Final point serial rest) off = refl
not_resumed_by n wake.Above l c Over off = refl
not_resumed_by n wake.Instead l c Over off = refl

not_resumed_in : (n : ℕ) (place : Wake) (l : Local) (c : Option Coroutine) → is_resumable c ≡ false → None ≡ stands_there place (resumed n l c)
not_resumed_in n wake.Above l None off = refl
not_resumed_in n wake.Instead l None off = refl
not_resumed_in n place l (Some c) off = not_resumed_by n place l c c.condition off

pub not_resumed : (n : ℕ) (place : Wake) (l : Local) → is_resumable (numbered (coroutines l) n) ≡ false → None ≡ stands_there place (wakes n l)
not_resumed n place l off = not_resumed_in n place l (numbered (coroutines l) n) off

destroys_by : (n : ℕ) (l : Local) (c : Coroutine) (now : Condition) → is_destroyable_condition now ≡ true →
    goes (meaning.Comes (meaning.Goes meaning.Destroying)) (stands_as wake.Above (activation_of meaning.OfDestroy n c (continuation_in now)) (set_condition n (Running (serial_after now)) l)) ≡ destroyed_by n c now l
destroys_by n l c (Suspended point serial rest) on = refl
destroys_by n l c (Final point serial rest) on = refl
destroys_by n l c (Running serial) on = absurd (false≢true on)
destroys_by n l c Over on = absurd (false≢true on)

destroys_in : (n : ℕ) (l : Local) (c : Option Coroutine) → is_destroyable c ≡ true →
    goes (meaning.Comes (meaning.Goes meaning.Destroying)) (woken n meaning.OfDestroy wake.Above l c) ≡ destroyed n l c
destroys_in n l None on = absurd (false≢true on)
destroys_in n l (Some c) on = destroys_by n l c c.condition on

pub destroys : (n : ℕ) (l : Local) → is_destroyable (numbered (coroutines l) n) ≡ true →
    goes (meaning.Comes (meaning.Goes meaning.Destroying)) (woken n meaning.OfDestroy wake.Above l (numbered (coroutines l) n)) ≡ destroyed n l (numbered (coroutines l) n)
destroys n l on = destroys_in n l (numbered (coroutines l) n) on

not_destroyed_by : (n : ℕ) (l : Local) (c : Coroutine) (now : Condition) → is_destroyable_condition now ≡ false → None ≡ destroyed_by n c now l
not_destroyed_by n l c (Suspended point serial rest) off = absurd (cc off)
not_destroyed_by n l c (Final point serial rest) off = absurd (cc off)
not_destroyed_by n l c (Running serial) off = refl
not_destroyed_by n l c Over off = refl

not_destroyed_in : (n : ℕ) (l : Local) (c : Option Coroutine) → is_destroyable c ≡ false → None ≡ destroyed n l c
not_destroyed_in n l None off = refl
not_destroyed_in n l (Some c) off = not_destroyed_by n l c c.condition off

pub not_destroyed : (n : ℕ) (l : Local) → is_destroyable (numbered (coroutines l) n) ≡ false → None ≡ destroyed n l (numbered (coroutines l) n)
not_destroyed n l off = not_destroyed_in n l (numbered (coroutines l) n) off
