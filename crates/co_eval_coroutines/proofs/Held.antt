-- Slots that refer to an awaiter, and the flag of the initial await.
use Rattle.std.specs.Prelude.{◌≡◌, ◌≢◌, ℕ, zero, suc, Option, None}
use Rattle.std.proofs.Common.{refl}
use Rattle.co_core_tree.specs.declared.exprs.AwaitPlan.{AwaitPlan}
use Rattle.co_meaning_calls.specs.Coroutines.{held_as, reached, reached_at, ready_under}
use Rattle.co_meaning_data.specs.Frames as meaning
use Rattle.co_meaning_data.specs.Store.{Place}
use Rattle.co_meaning_data.specs.Turn.{Local, with_frames}

pub no_type : (plan : AwaitPlan) (into : Option Place) (slot : ℕ) (g : meaning.Given) (l : Local) → ready_under plan into (held_as slot g l None) ≡ None
no_type plan into slot (meaning.Scalar v) l = refl
no_type plan into slot (meaning.Parts vs) l = refl
no_type plan into slot (meaning.At p) l = refl
no_type plan into slot meaning.Nothing l = refl

pub is_initial : (point : ℕ) (l : Local) → point ≡ 0 → reached_at point l ≡ with_frames (reached l.top.frames) l
is_initial zero l e = refl
is_initial (suc n) l e = absurd (cc e)

pub is_other : (point : ℕ) (l : Local) → point ≢ 0 → reached_at point l ≡ l
is_other zero l e = absurd (e refl)
is_other (suc n) l e = refl
