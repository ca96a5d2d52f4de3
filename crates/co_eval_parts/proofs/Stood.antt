-- What the standing of an object in the frames leaves.
use Rattle.std.specs.Prelude.{◌≡◌, ℕ, ◌==◌, Bool, true, false, List, [], ◌∷◌, Option, None, Some, is_some}
use Rattle.std.specs.Option.{option_map}
use Rattle.std.proofs.Common.{refl, ap, ◌∙◌, sym, inl, inr}
use Rattle.std.proofs.lemmas.Bool.{cases_Bool, false≢true}
use Rattle.co_eval_data.specs.Changed.{lived, or_same, stood, stood_unseen}
use Rattle.co_eval_parts.proofs.Rooms.{some_mapped}
use Rattle.co_meaning_calls.specs.Objects.{comes_on, into_full, live_temporaries, made_of, made_temporaries, own_with, set_mark, stands, stands_and_comes}
use Rattle.co_meaning_data.specs.Frames.{Alive, AwaitSuspend, Comes, Frame, Full, InFull, Outcome, Spot, Temporal}
use Rattle.co_meaning_data.specs.Store.{make_live}
use Rattle.co_meaning_data.specs.Turn.{Local, goes, store, with_frames, with_store}

there : (o : Outcome) (l : Local) (fs : Option (List Frame)) → is_some fs ≡ true → goes (Comes o) (with_frames (or_same l.top.frames fs) l) ≡ comes_on o l fs
there o l None is = absurd (false≢true is)
there o l (Some fs) is = refl

nowhere : (o : Outcome) (l : Local) (fs : Option (List Frame)) → is_some fs ≡ false → None ≡ comes_on o l fs
nowhere o l None is = refl
nowhere o l (Some fs) is = absurd (cc is)

pub stands_there : (x : Alive) (spot : Spot) (o : Outcome) (l : Local) → is_some (stands spot x l.top.frames) ≡ true → goes (Comes o) (stood x spot l) ≡ stands_and_comes x spot o l
stands_there x spot o l is = there o l (stands spot x l.top.frames) is

pub stands_nowhere : (x : Alive) (spot : Spot) (o : Outcome) (l : Local) → is_some (stands spot x l.top.frames) ≡ false → None ≡ stands_and_comes x spot o l
stands_nowhere x spot o l is = nowhere o l (stands spot x l.top.frames) is

-- ---- marks

made_room : (slot : ℕ) (x : Alive) (t : Temporal) (ts : List Temporal) (o : Option Alive) → is_some (made_of x (record t { live = true }) ts o) ≡ is_some (made_of x t ts o)
made_room slot x t ts None = refl
made_room slot x t ts (Some y) = refl

live_room : (slot : ℕ) (x : Alive) (ts : List Temporal) → is_some (made_temporaries slot x (live_temporaries slot ts)) ≡ is_some (made_temporaries slot x ts)
live_room slot x [] = refl
live_room slot x (t ∷ ts) =
    elim (cases_Bool (t.slot == slot)) as (λ z. is_some (made_temporaries slot x (live_temporaries slot (t ∷ ts))) ≡ is_some (made_temporaries slot x (t ∷ ts))) [
      | inl e ↦ simp e (made_room slot x t ts t.object)
      | inr e ↦ simp e (some_mapped (λ us. t ∷ us) (made_temporaries slot x (live_temporaries slot ts)) ∙ live_room slot x ts ∙ sym (some_mapped (λ us. t ∷ us) (made_temporaries slot x ts)))
    ]

-- the mark of a temporary takes no place from an object
marked_room : (slot : ℕ) (x : Alive) (fs : List Frame) → is_some (into_full slot x (set_mark slot fs)) ≡ is_some (into_full slot x fs)
marked_room slot x [] = refl
marked_room slot x (Full ts ∷ fs) =
    some_mapped (λ us. Full us ∷ fs) (made_temporaries slot x (live_temporaries slot ts)) ∙ live_room slot x ts ∙ sym (some_mapped (λ us. Full us ∷ fs) (made_temporaries slot x ts))
marked_room slot x (AwaitSuspend plan into own ∷ fs) =
    some_mapped (λ xs. AwaitSuspend plan into xs ∷ set_mark slot fs) (own_with x own x.coroutine) ∙ sym (some_mapped (λ xs. AwaitSuspend plan into xs ∷ fs) (own_with x own x.coroutine))
marked_room slot x (f ∷ fs) =
    some_mapped (λ gs. f ∷ gs) (into_full slot x (set_mark slot fs)) ∙ marked_room slot x fs ∙ sym (some_mapped (λ gs. f ∷ gs) (into_full slot x fs))

abbrev marked : ℕ → ℕ → Local → Local
marked slot n l = lived n (with_frames (set_mark slot l.top.frames) l)

pub made_there : (slot : ℕ) (x : Alive) (o : Outcome) (l : Local) → x.coroutine ≡ None → is_some (stands (InFull slot) x l.top.frames) ≡ true →
    goes (Comes o) (stood_unseen x (InFull slot) (lived x.object (with_frames (set_mark slot l.top.frames) l)) x.coroutine) ≡ stands_and_comes x (InFull slot) o (lived x.object (with_frames (set_mark slot l.top.frames) l))
made_there slot x o l unseen is =
    ap (λ c. goes (Comes o) (stood_unseen x (InFull slot) (marked slot x.object l) c)) unseen
    ∙ stands_there x (InFull slot) o (marked slot x.object l) (marked_room slot x l.top.frames ∙ is)

pub made_nowhere : (slot : ℕ) (x : Alive) (o : Outcome) (l : Local) → is_some (stands (InFull slot) x l.top.frames) ≡ false → None ≡ stands_and_comes x (InFull slot) o (lived x.object (with_frames (set_mark slot l.top.frames) l))
made_nowhere slot x o l is = stands_nowhere x (InFull slot) o (marked slot x.object l) (marked_room slot x l.top.frames ∙ is)
