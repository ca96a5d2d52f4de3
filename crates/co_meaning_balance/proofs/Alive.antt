-- What keeps the objects of a coroutine alive in frames that are changed, and what is seen.
use Rattle.std.proofs.Common.{◌≡◌, ℕ, zero, suc, ◌+◌, ◌≤◌, ◌⊎◌, inl, inr, List, [], ◌∷◌, ◌++◌, Bool, true, false, Some, None, refl, ap, arith}
use Rattle.std.proofs.lemmas.Bool.{eqb-true}
use Rattle.std.specs.Option.{option_map}
use Rattle.std.specs.Prelude.{◌==◌, ◌&&◌, if◌then◌else◌, Option}
use Rattle.co_core_tree.specs.Slots.{Temporary}
use Rattle.co_core_tree.specs.declared.exprs.AwaitPlan.{AwaitPlan}
use Rattle.co_core_tree.specs.declared.units.CoreFunc.{CoreFunc}
use Rattle.co_meaning_data.specs.Frames.{Alive, AwaitSuspend, Border, Building, Closes, Condition, Constructing, Ending, Ends, EndsObject, EndsPart, PassesMark, Final, Frame, Full, Function, Guards, Holds, InFull, InHold, InScope, ObjectEnds, Over, Running, Scope, Spot, Suspended, Temporal}
use Rattle.co_meaning_data.specs.Store.{Place}
use Rattle.co_meaning_data.specs.declared.events.Event.{Event}
use Rattle.co_meaning_data.specs.declared.events.Event.TheVariants as event
use Rattle.co_meaning_calls.specs.Calls.{one_more_field, unmade, unmade_all}
use Rattle.co_meaning_calls.specs.Coroutines.{reached}
use Rattle.co_meaning_calls.specs.Objects.{endings, fields_end, into_full, into_hold, into_scope, live_temporaries, made_of, made_temporaries, own_with, set_mark, stands, temporaries_end, temporary_ends, unseen_endings}
use Rattle.co_meaning.specs.Balanced.{births_in, deaths}
use Rattle.co_meaning_balance.proofs.Frames.{marks, one-more, reaches}
use Rattle.co_meaning_balance.specs.Order.{frame_holds, frame_inner, frame_strays, frames_hold, frames_inner, frames_stray, is_other, lacks, object_needs, one_more}
use Rattle.co_meaning_balance.specs.Places.{condition_alive, condition_holds, ended, ending_alive, endings_alive, frame_alive, frames_alive, object_alive, objects_alive, option_alive, present, seen_alive, temporaries_alive}

module _ (number item : ℕ) where
  -- ---- what is seen

  pub births-add : (es fs : List Event) → births_in number item (es ++ fs) ≡ births_in number item es + births_in number item fs
  births-add [] fs = omega arith
  births-add (event.Born c y ∷ es) fs = go (births-add es fs) ((number == c) && (item == y))
    where
      go : births_in number item (es ++ fs) ≡ births_in number item es + births_in number item fs → (b : Bool)
          → (if b then suc (births_in number item (es ++ fs)) else births_in number item (es ++ fs)) ≡ (if b then suc (births_in number item es) else births_in number item es) + births_in number item fs
      go rest true = omega (arith, rest)
      go rest false = omega (arith, rest)
  births-add (d ∷ es) fs = let rest = births-add es fs in omega (arith, rest)

  pub deaths-add : (es fs : List Event) → deaths item (es ++ fs) ≡ deaths item es + deaths item fs
  deaths-add [] fs = omega arith
  deaths-add (event.Died c y ∷ es) fs = go (deaths-add es fs) (item == y)
    where
      go : deaths item (es ++ fs) ≡ deaths item es + deaths item fs → (b : Bool)
          → (if b then suc (deaths item (es ++ fs)) else deaths item (es ++ fs)) ≡ (if b then suc (deaths item es) else deaths item es) + deaths item fs
      go rest true = omega (arith, rest)
      go rest false = omega (arith, rest)
  deaths-add (d ∷ es) fs = let rest = deaths-add es fs in omega (arith, rest)

  pub ended-add : (es fs : List Event) → ended number item (es ++ fs) ≡ ended number item es + ended number item fs
  ended-add [] fs = omega arith
  ended-add (event.Ended m ∷ es) fs = go (ended-add es fs) (number == m)
    where
      go : ended number item (es ++ fs) ≡ ended number item es + ended number item fs → (b : Bool)
          → (if b then suc (ended number item (es ++ fs)) else ended number item (es ++ fs)) ≡ (if b then suc (ended number item es) else ended number item es) + ended number item fs
      go rest true = omega (arith, rest)
      go rest false = omega (arith, rest)
  ended-add (d ∷ es) fs = let rest = ended-add es fs in omega (arith, rest)

  -- a place counts no more than its death
  pub death : (held c y : ℕ) → seen_alive number item (present held) (Some c) y ≤ deaths item (event.Died c y ∷ [])
  death zero c y = go (number == c) (item == y)
    where
      go : (a b : Bool) → (if a && b then 0 else 0) ≤ (if b then 1 else 0)
      go true true = omega arith
      go true false = omega arith
      go false b = omega arith
  death (suc held) c y = go (number == c) (item == y)
    where
      go : (a b : Bool) → (if a && b then 1 else 0) ≤ (if b then 1 else 0)
      go true true = omega arith
      go true false = omega arith
      go false true = omega arith
      go false false = omega arith

  -- a birth is that of a place
  pub birth-is : (c y : ℕ) → births_in number item (event.Born c y ∷ []) ≡ seen_alive number item 1 (Some c) y
  birth-is c y = go ((number == c) && (item == y))
    where
      go : (b : Bool) → ◌≡◌ {A = ℕ} (if b then 1 else 0) (if b then 1 else 0)
      go b = refl

  -- ---- frames that hold the coroutine nowhere

  nothing : (b : Bool) → ◌≡◌ {A = ℕ} (if b then 0 else 0) 0
  nothing true = refl
  nothing false = refl

  pub object-none : (y : Alive) → object_alive number item 0 y ≡ 0
  object-none y = go y.coroutine
    where
      go : (c : Option ℕ) → seen_alive number item 0 c y.object ≡ 0
      go None = refl
      go (Some c) = nothing ((number == c) && (item == y.object))

  objects-none : (ys : List Alive) → objects_alive number item 0 ys ≡ 0
  objects-none [] = refl
  objects-none (y ∷ ys) = let one = object-none y in let rest = objects-none ys in omega (arith, one, rest)

  option-none : (o : Option Alive) → option_alive number item 0 o ≡ 0
  option-none None = refl
  option-none (Some y) = object-none y

  temporaries-none : (ts : List Temporal) → temporaries_alive number item 0 ts ≡ 0
  temporaries-none [] = refl
  temporaries-none (t ∷ ts) = let one = option-none t.object in let rest = temporaries-none ts in omega (arith, one, rest)

  ending-none : (e : Ending) → ending_alive number item 0 e ≡ 0
  ending-none (EndsObject y) = object-none y
  ending-none (EndsPart p) = refl
  ending-none (PassesMark o) = option-none o

  endings-none : (es : List Ending) → endings_alive number item 0 es ≡ 0
  endings-none [] = refl
  endings-none (e ∷ es) = let one = ending-none e in let rest = endings-none es in omega (arith, one, rest)

  frame-none : (f : Frame) (alive : ℕ) → frame_alive number item 0 f alive ≡ alive
  frame-none (Ends rest outcome) alive = let none = endings-none rest in omega (arith, none)
  frame-none (ObjectEnds y) alive = let none = object-none y in omega (arith, none)
  frame-none (Full ts) alive = let none = temporaries-none ts in omega (arith, none)
  frame-none (Scope objects rest) alive = let none = objects-none objects in omega (arith, none)
  frame-none (Holds hold) alive = let none = objects-none hold.alive in omega (arith, none)
  frame-none f alive = refl

  no-more : (c : Option ℕ) (m held : ℕ) → one_more c m held ≤ 0 → held ≤ 0
  no-more None m held known = known
  no-more (Some n) m held known = go (n == m) known
    where
      go : (b : Bool) → (if b then suc held else held) ≤ 0 → held ≤ 0
      go true known = absurd (omega (arith, known))
      go false known = known

  frame-holds-none : (c : Option ℕ) (f : Frame) (held : ℕ) → frame_holds c f held ≤ 0 → held ≤ 0
  frame-holds-none c (Holds hold) held known = no-more c hold.coroutine held known
  frame-holds-none c (Closes m block outcome) held known = no-more c m held known
  frame-holds-none c f held known = known

  pub frames-none : (fs : List Frame) → frames_hold (Some number) fs ≤ 0 → frames_alive number item fs ≡ 0
  frames-none [] known = refl
  frames-none (f ∷ fs) known =
      let rest = frames-none fs (frame-holds-none (Some number) f (frames_hold (Some number) fs) known) in
      let none : frames_hold (Some number) (f ∷ fs) ≡ 0 = omega (arith, known) in
      let here = ap (λ h. frame_alive number item (present h) f (frames_alive number item fs)) none in
      let empty = frame-none f (frames_alive number item fs) in
      omega (arith, here, empty, rest)

  pub condition-none : (c : Condition) → condition_holds number item c ≤ 0 → condition_alive number item c ≡ 0
  condition-none (Running serial) known = refl
  condition-none (Suspended point serial rest) known = frames-none rest.frames known
  condition-none (Final point serial rest) known = frames-none rest.frames known
  condition-none Over known = refl

  -- frames of another coroutine do not hold this one
  foreign-one : (c : Option ℕ) (m held : ℕ) → is_other c m ≤ 0 → 1 ≤ is_other c number → held ≤ 0 → one_more (Some number) m held ≤ 0
  foreign-one c m held known other none = go (number == m) refl
    where
      go : (b : Bool) → (number == m) ≡ b → (if b then suc held else held) ≤ 0
      go true e = absurd (let same = ap (is_other c) (eqb-true number m e) in omega (arith, same, known, other))
      go false e = none

  foreign-frame : (c : Option ℕ) (h inner : ℕ) (f : Frame) (held : ℕ) → frame_strays c h inner f ≤ 0 → 1 ≤ is_other c number → held ≤ 0 → frame_holds (Some number) f held ≤ 0
  foreign-frame c h inner (Holds hold) held known other none = foreign-one c hold.coroutine held (omega (arith, known)) other none
  foreign-frame c h inner (Closes m block outcome) held known other none = foreign-one c m held (omega (arith, known)) other none
  foreign-frame c h inner f held known other none = none

  pub foreign : (c : Option ℕ) (fs : List Frame) → frames_stray c fs ≤ 0 → 1 ≤ is_other c number → frames_hold (Some number) fs ≤ 0
  foreign c [] known other = omega arith
  foreign c (f ∷ fs) known other = foreign-frame c (frames_hold c fs) (frames_inner fs) f (frames_hold (Some number) fs) (omega (arith, known)) other (foreign c fs (omega (arith, known)) other)

  -- what stands around functions holds no coroutine
  bare-frame : (f : Frame) (inner held : ℕ) → frame_inner f inner ≤ 0 → (inner ≤ 0) × (held ≤ 0 → frame_holds (Some number) f held ≤ 0)
  bare-frame Border inner held known = (known, λ none. none)
  bare-frame (Function own) inner held known = (known, λ none. none)
  bare-frame f inner held known = absurd (omega (arith, known))

  pub bare : (fs : List Frame) → frames_inner fs ≤ 0 → frames_hold (Some number) fs ≤ 0
  bare [] known = omega arith
  bare (f ∷ fs) known =
      let both = bare-frame f (frames_inner fs) (frames_hold (Some number) fs) known in
      both.1 (bare fs both.0)

  -- ---- lists that are turned into others

  pub endings-alive : (k : ℕ) (xs : List Alive) → endings_alive number item k (endings xs) ≡ objects_alive number item k xs
  endings-alive k [] = refl
  endings-alive k (y ∷ ys) = let rest = endings-alive k ys in omega (arith, rest)

  pub unseen-alive : (k : ℕ) (xs : List ℕ) → endings_alive number item k (unseen_endings xs) ≡ 0
  unseen-alive k [] = refl
  unseen-alive k (y ∷ ys) = let rest = unseen-alive k ys in omega (arith, rest)

  pub fields-alive : (k : ℕ) (p : Place) (m : ℕ) → endings_alive number item k (fields_end p m) ≡ 0
  fields-alive k p zero = refl
  fields-alive k p (suc m) = let rest = fields-alive k p m in omega (arith, rest)

  pub temporaries-alive : (k : ℕ) (ts : List Temporal) → endings_alive number item k (temporaries_end ts) ≡ temporaries_alive number item k ts
  temporaries-alive k [] = refl
  temporaries-alive k (t ∷ ts) = go (temporaries-alive k ts) t.marked t.object
    where
      go : endings_alive number item k (temporaries_end ts) ≡ temporaries_alive number item k ts → (c : Bool) (o : Option Alive) → endings_alive number item k (temporary_ends c o ++ temporaries_end ts) ≡ option_alive number item k o + temporaries_alive number item k ts
      go rest true o = omega (arith, rest)
      go rest false None = omega (arith, rest)
      go rest false (Some y) = omega (arith, rest)

  temporaries-join : (k : ℕ) (ts us : List Temporal) → temporaries_alive number item k (ts ++ us) ≡ temporaries_alive number item k ts + temporaries_alive number item k us
  temporaries-join k [] us = omega arith
  temporaries-join k (t ∷ ts) us = let rest = temporaries-join k ts us in omega (arith, rest)

  pub unmade-none : (k : ℕ) (func : Option CoreFunc) (ts : List Temporary) → temporaries_alive number item k (unmade_all func ts) ≡ 0
  unmade-none k func [] = refl
  unmade-none k func (t ∷ ts) = let rest = unmade-none k func ts in let both = temporaries-join k (unmade_all func ts) (unmade func t ∷ []) in omega (arith, rest, both)

  -- ---- frames with as much alive

  same-above : (f : Frame) (fs gs : List Frame) → frames_hold (Some number) gs ≡ frames_hold (Some number) fs → frames_alive number item gs ≡ frames_alive number item fs → frames_alive number item (f ∷ gs) ≡ frames_alive number item (f ∷ fs)
  same-above f fs gs held alive =
      let one = ap (λ h. frame_alive number item (present (frame_holds (Some number) f h)) f (frames_alive number item gs)) held in
      let two = ap (frame_alive number item (present (frames_hold (Some number) (f ∷ fs))) f) alive in
      omega (arith, one, two)

  live-alive : (k slot : ℕ) (ts : List Temporal) → temporaries_alive number item k (live_temporaries slot ts) ≡ temporaries_alive number item k ts
  live-alive k slot [] = refl
  live-alive k slot (t ∷ ts) = go (live-alive k slot ts) (t.slot == slot)
    where
      go : temporaries_alive number item k (live_temporaries slot ts) ≡ temporaries_alive number item k ts → (c : Bool) → temporaries_alive number item k (if c then record t { live = true } ∷ ts else t ∷ live_temporaries slot ts) ≡ option_alive number item k t.object + temporaries_alive number item k ts
      go rest true = refl
      go rest false = omega (arith, rest)

  pub marks-alive : (slot : ℕ) (fs : List Frame) → frames_alive number item (set_mark slot fs) ≡ frames_alive number item fs
  marks-alive slot [] = refl
  marks-alive slot (Full ts ∷ fs) = let same = live-alive (present (frames_hold (Some number) fs)) slot ts in omega (arith, same)
  marks-alive slot (f ∷ fs) = same-above f fs (set_mark slot fs) (marks (Some number) slot fs).held (marks-alive slot fs)

  pub reaches-alive : (fs : List Frame) → frames_alive number item (reached fs) ≡ frames_alive number item fs
  reaches-alive [] = refl
  reaches-alive (Guards resumed ∷ fs) = refl
  reaches-alive (f ∷ fs) = same-above f fs (reached fs) (reaches (Some number) fs).held (reaches-alive fs)

  pub one-more-alive : (fs : List Frame) → frames_alive number item (one_more_field fs) ≡ frames_alive number item fs
  one-more-alive (Building p built rest ∷ fs) = refl
  one-more-alive (Constructing p class built rest body ∷ fs) = refl
  one-more-alive (Full ts ∷ fs) = same-above (Full ts) fs (one_more_field fs) (one-more (Some number) fs).held (one-more-alive fs)
  one-more-alive fs = refl

  pub inner-held : (inner : List Frame) (ts : List Temporal) (fs : List Frame) → frames_hold (Some number) (inner ++ Full ts ∷ fs) ≡ frames_hold (Some number) (inner ++ fs)
  inner-held [] ts fs = refl
  inner-held (f ∷ inner) ts fs = ap (frame_holds (Some number) f) (inner-held inner ts fs)

  pub inner-alive : (inner : List Frame) (ts : List Temporal) (fs : List Frame) → ((k : ℕ) → temporaries_alive number item k ts ≡ 0) → frames_alive number item (inner ++ Full ts ∷ fs) ≡ frames_alive number item (inner ++ fs)
  inner-alive [] ts fs none = let nothing = none (present (frames_hold (Some number) fs)) in omega (arith, nothing)
  inner-alive (f ∷ inner) ts fs none = same-above f (inner ++ fs) (inner ++ Full ts ∷ fs) (inner-held inner ts fs) (inner-alive inner ts fs none)

-- ---- the frames in which an object stands from now on

-- An object that counts stands in frames that hold its coroutine, and that are in order.
module _ (number item : ℕ) (c : Option ℕ) (y : Alive) where
  abbrev pub Fits : List Frame → Type 0
  Fits fs = (object_alive number item 1 y ≤ 0) ⊎ ((1 ≤ frames_hold (Some number) fs) × (frames_stray c fs ≤ 0))

  abbrev pub Grows : List Frame → Option (List Frame) → Type 0
  Grows fs None = Unit {0}
  Grows fs (Some gs) = (frames_hold (Some number) gs ≡ frames_hold (Some number) fs) × (object_alive number item 1 y + frames_alive number item fs ≤ frames_alive number item gs)

  worth : (held : ℕ) → (object_alive number item 1 y ≤ 0) ⊎ (1 ≤ held) → object_alive number item 1 y ≤ object_alive number item (present held) y
  worth held (inl none) = omega (arith, none)
  worth zero (inr some) = absurd (omega (arith, some))
  worth (suc held) (inr some) = omega arith

  frame-more : (k more : ℕ) (f : Frame) (a b : ℕ) → more + a ≤ b → more + frame_alive number item k f a ≤ frame_alive number item k f b
  frame-more k more (Ends rest outcome) a b known = omega (arith, known)
  frame-more k more (ObjectEnds z) a b known = omega (arith, known)
  frame-more k more (Full ts) a b known = omega (arith, known)
  frame-more k more (Scope objects rest) a b known = omega (arith, known)
  frame-more k more (Holds hold) a b known = omega (arith, known)
  frame-more k more f a b known = known

  behind : (f : Frame) (fs : List Frame) (o : Option (List Frame)) → Grows fs o → Grows (f ∷ fs) (option_map (λ gs. f ∷ gs) o)
  behind f fs None grows = tt
  behind f fs (Some gs) grows =
      let held = ap (frame_holds (Some number) f) grows.0 in
      let same = ap (λ h. frame_alive number item (present h) f (frames_alive number item gs)) held in
      let more = frame-more (present (frames_hold (Some number) (f ∷ fs))) (object_alive number item 1 y) f (frames_alive number item fs) (frames_alive number item gs) grows.1 in
      (held, omega (arith, same, more))

  -- below a frame that holds a coroutine nothing stands
  abbrev Below : List Frame → Type 0
  Below fs = (frames_inner fs ≤ 0) ⊎ Fits fs

  frame-below : (f : Frame) (h inner held : ℕ) → frame_strays c h inner f ≤ 0 → 1 ≤ frame_holds (Some number) f held → (inner ≤ 0) ⊎ (1 ≤ held)
  frame-below (Holds hold) h inner held known some = inl (omega (arith, known))
  frame-below (Closes m block outcome) h inner held known some = inl (omega (arith, known))
  frame-below f h inner held known some = inr some

  below : (f : Frame) (fs : List Frame) → Fits (f ∷ fs) → Below fs
  below f fs (inl none) = inr (inl none)
  below f fs (inr both) =
      let strays = both.1 in
      go (omega (arith, strays)) (frame-below f (frames_hold c fs) (frames_inner fs) (frames_hold (Some number) fs) (omega (arith, strays)) both.0)
    where
      go : frames_stray c fs ≤ 0 → (frames_inner fs ≤ 0) ⊎ (1 ≤ frames_hold (Some number) fs) → Below fs
      go strays (inl none) = inl none
      go strays (inr some) = inr (inr (some, strays))

  bare-scope : (fs : List Frame) → frames_inner fs ≤ 0 → Grows fs (into_scope y fs)
  bare-scope [] known = tt
  bare-scope (Border ∷ fs) known = behind Border fs (into_scope y fs) (bare-scope fs known)
  bare-scope (Function own ∷ fs) known = behind (Function own) fs (into_scope y fs) (bare-scope fs known)
  bare-scope (f ∷ fs) known = absurd (omega (arith, known))

  bare-full : (slot : ℕ) (fs : List Frame) → frames_inner fs ≤ 0 → Grows fs (into_full slot y fs)
  bare-full slot [] known = tt
  bare-full slot (Border ∷ fs) known = behind Border fs (into_full slot y fs) (bare-full slot fs known)
  bare-full slot (Function own ∷ fs) known = behind (Function own) fs (into_full slot y fs) (bare-full slot fs known)
  bare-full slot (f ∷ fs) known = absurd (omega (arith, known))

  bare-hold : (fs : List Frame) → frames_inner fs ≤ 0 → Grows fs (into_hold y fs)
  bare-hold [] known = tt
  bare-hold (Border ∷ fs) known = behind Border fs (into_hold y fs) (bare-hold fs known)
  bare-hold (Function own ∷ fs) known = behind (Function own) fs (into_hold y fs) (bare-hold fs known)
  bare-hold (f ∷ fs) known = absurd (omega (arith, known))

  counts-here : (fs : List Frame) → Fits fs → (object_alive number item 1 y ≤ 0) ⊎ (1 ≤ frames_hold (Some number) fs)
  counts-here fs (inl none) = inl none
  counts-here fs (inr both) = inr both.0

  scope : (fs : List Frame) → Below fs → Grows fs (into_scope y fs)
  scope fs (inl bare) = bare-scope fs bare
  scope [] (inr fits) = tt
  scope (Scope alive rest ∷ fs) (inr fits) = (refl, let more = worth (frames_hold (Some number) fs) (counts-here (Scope alive rest ∷ fs) fits) in omega (arith, more))
  scope (f ∷ fs) (inr fits) = behind f fs (into_scope y fs) (scope fs (below f fs fits))

  hold : (fs : List Frame) → Below fs → Grows fs (into_hold y fs)
  hold fs (inl bare) = bare-hold fs bare
  hold [] (inr fits) = tt
  hold (Holds h ∷ fs) (inr fits) = (refl, let more = worth (frames_hold (Some number) (Holds h ∷ fs)) (counts-here (Holds h ∷ fs) fits) in omega (arith, more))
  hold (f ∷ fs) (inr fits) = behind f fs (into_hold y fs) (hold fs (below f fs fits))

  abbrev GrowTemporaries : ℕ → List Temporal → Option (List Temporal) → Type 0
  GrowTemporaries k ts None = Unit {0}
  GrowTemporaries k ts (Some us) = object_alive number item k y + temporaries_alive number item k ts ≤ temporaries_alive number item k us

  made_now : (k : ℕ) (t : Temporal) (ts : List Temporal) (o : Option Alive) → t.object ≡ o → GrowTemporaries k (t ∷ ts) (made_of y t ts o)
  made_now k t ts None e = let none = ap (option_alive number item k) e in omega (arith, none)
  made_now k t ts (Some z) e = tt

  made_later : (k : ℕ) (t : Temporal) (ts : List Temporal) (o : Option (List Temporal)) → GrowTemporaries k ts o → GrowTemporaries k (t ∷ ts) (option_map (λ us. t ∷ us) o)
  made_later k t ts None grows = tt
  made_later k t ts (Some us) grows = omega (arith, grows)

  made : (k slot : ℕ) (ts : List Temporal) → GrowTemporaries k ts (made_temporaries slot y ts)
  made k slot [] = tt
  made k slot (t ∷ ts) = go (made k slot ts) (t.slot == slot)
    where
      go : GrowTemporaries k ts (made_temporaries slot y ts) → (b : Bool) → GrowTemporaries k (t ∷ ts) (if b then made_of y t ts t.object else option_map (λ us. t ∷ us) (made_temporaries slot y ts))
      go rest true = made_now k t ts t.object refl
      go rest false = made_later k t ts (made_temporaries slot y ts) rest

  full_with : (ts : List Temporal) (fs : List Frame) (o : Option (List Temporal)) → (object_alive number item 1 y ≤ 0) ⊎ (1 ≤ frames_hold (Some number) fs) → GrowTemporaries (present (frames_hold (Some number) fs)) ts o → Grows (Full ts ∷ fs) (option_map (λ us. Full us ∷ fs) o)
  full_with ts fs None some grows = tt
  full_with ts fs (Some us) some grows = (refl, let more = worth (frames_hold (Some number) fs) some in omega (arith, grows, more))

  own_with-grows : (plan : AwaitPlan) (into : Option Place) (own : List ℕ) (fs : List Frame) (o : Option ℕ) → y.coroutine ≡ o → Grows (AwaitSuspend plan into own ∷ fs) (option_map (λ xs. AwaitSuspend plan into xs ∷ fs) (own_with y own o))
  own_with-grows plan into own fs None e = (refl, let none = ap (λ o. seen_alive number item 1 o y.object) e in omega (arith, none))
  own_with-grows plan into own fs (Some m) e = tt

  full : (slot : ℕ) (fs : List Frame) → Below fs → Grows fs (into_full slot y fs)
  full slot fs (inl bare) = bare-full slot fs bare
  full slot [] (inr fits) = tt
  full slot (Full ts ∷ fs) (inr fits) = full_with ts fs (made_temporaries slot y ts) (counts-here (Full ts ∷ fs) fits) (made (present (frames_hold (Some number) fs)) slot ts)
  full slot (AwaitSuspend plan into own ∷ fs) (inr fits) = own_with-grows plan into own fs y.coroutine refl
  full slot (f ∷ fs) (inr fits) = behind f fs (into_full slot y fs) (full slot fs (below f fs fits))

  pub stands-grows : (spot : Spot) (fs : List Frame) → Fits fs → Grows fs (stands spot y fs)
  stands-grows InScope fs fits = scope fs (inr fits)
  stands-grows (InFull slot) fs fits = full slot fs (inr fits)
  stands-grows InHold fs fits = hold fs (inr fits)

  -- an object of which the birth is due may stand in frames in order
  pub fits-born : (fs : List Frame) (o : Option ℕ) → y.coroutine ≡ o → object_needs c (frames_hold c fs) o ≤ 0 → frames_stray c fs ≤ 0 → Fits fs
  fits-born fs None e needs strays = inl (let none = ap (λ o. seen_alive number item 1 o y.object) e in omega (arith, none))
  fits-born fs (Some m) e needs strays = go (number == m) refl
    where
      held : (d : Option ℕ) → is_other d m ≤ 0 → d ≡ Some m
      held None known = absurd (omega (arith, known))
      held (Some n) known = same (n == m) refl known
        where
          same : (b : Bool) → (n == m) ≡ b → (if b then 0 else 1) ≤ 0 → Some n ≡ Some m
          same true e known = ap (λ k. Some k) (eqb-true n m e)
          same false e known = absurd (omega (arith, known))

      lacking : (h : ℕ) → lacks h ≤ 0 → 1 ≤ h
      lacking zero known = absurd (omega (arith, known))
      lacking (suc h) known = omega arith

      go : (b : Bool) → (number == m) ≡ b → Fits fs
      go true f =
          let some = lacking (frames_hold c fs) (omega (arith, needs)) in
          let is = held c (omega (arith, needs)) in
          let same = ap (λ d. frames_hold d fs) is in
          let other = ap (λ k. frames_hold (Some k) fs) (eqb-true number m f) in
          inr (omega (arith, some, same, other), strays)
      go false f =
          inl (let one = ap (λ o. seen_alive number item 1 o y.object) e in let two = ap {B = ℕ} (λ b. if b && (item == y.object) then 1 else 0) f in omega (arith, one, two))
