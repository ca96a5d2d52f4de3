-- Frames that are changed, and still hold and stand as before.
use Rattle.std.proofs.Common.{◌≡◌, ℕ, suc, ◌≤◌, List, [], ◌∷◌, Bool, true, false, Some, None, refl, ap, arith}
use Rattle.std.proofs.lemmas.Bool.{eq-eqb}
use Rattle.std.specs.Option.{option_map}
use Rattle.std.specs.Prelude.{◌==◌, if◌then◌else◌, Option}
use Rattle.co_types.specs.declared.types.CoType.{CoType}
use Rattle.co_core_tree.specs.Slots.{is_class}
use Rattle.co_core_tree.specs.declared.exprs.AwaitPlan.{AwaitPlan}
use Rattle.co_core_tree.specs.declared.exprs.Init.{Init}
use Rattle.co_meaning_data.specs.Frames.{Alive, AwaitSuspend, Border, Building, Constructing, Frame, Full, Function, Guards, Holds, InFull, InHold, InScope, Scope, Spot, Temporal}
use Rattle.co_meaning_data.specs.Store.{Place}
use Rattle.co_meaning_data.specs.Turn.{Local}
use Rattle.co_meaning_calls.specs.Calls.{border, one_more_field}
use Rattle.co_meaning_calls.specs.Coroutines.{reached}
use Rattle.co_meaning_calls.specs.Objects.{counted_in, into_full, into_hold, into_scope, made_temporaries, own_with, set_mark, stands}
use Rattle.co_meaning_balance.specs.Order.{call_needs, frame_holds, frame_inner, frame_strays, frames_hold, frames_inner, frames_stray, is_other, lacks, needs, object_needs, one_more}

-- ---- frames as before

pub record Alike (c : Option ℕ) (fs gs : List Frame) : Type 0 where
  pub held : frames_hold c gs ≡ frames_hold c fs
  pub inner : frames_inner gs ≡ frames_inner fs
  pub strays : frames_stray c gs ≡ frames_stray c fs

abbrev pub IfAlike : Option ℕ → List Frame → Option (List Frame) → Type 0
IfAlike c fs None = Unit {0}
IfAlike c fs (Some gs) = Alike c fs gs

under : (c : Option ℕ) (f : Frame) (fs gs : List Frame) → Alike c fs gs → Alike c (f ∷ fs) (f ∷ gs)
under c f fs gs alike =
    let strays = alike.strays in
    let one = ap (λ n. frame_strays c n (frames_inner gs) f) alike.held in
    let two = ap (λ n. frame_strays c (frames_hold c fs) n f) alike.inner in
    record { held = ap (frame_holds c f) alike.held; inner = ap (frame_inner f) alike.inner; strays = omega (arith, strays, one, two) }

behind : (c : Option ℕ) (f : Frame) (fs : List Frame) (o : Option (List Frame)) → IfAlike c fs o → IfAlike c (f ∷ fs) (option_map (λ gs. f ∷ gs) o)
behind c f fs None alike = tt
behind c f fs (Some gs) alike = under c f fs gs alike

scope : (c : Option ℕ) (y : Alive) (fs : List Frame) → IfAlike c fs (into_scope y fs)
scope c y [] = tt
scope c y (Scope alive rest ∷ fs) = record { held = refl; inner = refl; strays = refl }
scope c y (f ∷ fs) = behind c f fs (into_scope y fs) (scope c y fs)

hold : (c : Option ℕ) (y : Alive) (fs : List Frame) → IfAlike c fs (into_hold y fs)
hold c y [] = tt
hold c y (Holds h ∷ fs) = record { held = refl; inner = refl; strays = refl }
hold c y (f ∷ fs) = behind c f fs (into_hold y fs) (hold c y fs)

full_with : (c : Option ℕ) (ts : List Temporal) (fs : List Frame) (o : Option (List Temporal)) → IfAlike c (Full ts ∷ fs) (option_map (λ us. Full us ∷ fs) o)
full_with c ts fs None = tt
full_with c ts fs (Some us) = record { held = refl; inner = refl; strays = refl }

own_with-alike : (c : Option ℕ) (plan : AwaitPlan) (into : Option Place) (own : List ℕ) (fs : List Frame) (o : Option (List ℕ)) → IfAlike c (AwaitSuspend plan into own ∷ fs) (option_map (λ xs. AwaitSuspend plan into xs ∷ fs) o)
own_with-alike c plan into own fs None = tt
own_with-alike c plan into own fs (Some xs) = record { held = refl; inner = refl; strays = refl }

full : (c : Option ℕ) (slot : ℕ) (y : Alive) (fs : List Frame) → IfAlike c fs (into_full slot y fs)
full c slot y [] = tt
full c slot y (Full ts ∷ fs) = full_with c ts fs (made_temporaries slot y ts)
full c slot y (AwaitSuspend plan into own ∷ fs) = own_with-alike c plan into own fs (own_with y own y.coroutine)
full c slot y (f ∷ fs) = behind c f fs (into_full slot y fs) (full c slot y fs)

pub spot : (c : Option ℕ) (s : Spot) (y : Alive) (fs : List Frame) → IfAlike c fs (stands s y fs)
spot c InScope y fs = scope c y fs
spot c (InFull slot) y fs = full c slot y fs
spot c InHold y fs = hold c y fs

pub marks : (c : Option ℕ) (slot : ℕ) (fs : List Frame) → Alike c fs (set_mark slot fs)
marks c slot [] = record { held = refl; inner = refl; strays = refl }
marks c slot (Full ts ∷ fs) = record { held = refl; inner = refl; strays = refl }
marks c slot (f ∷ fs) = under c f fs (set_mark slot fs) (marks c slot fs)

pub reaches : (c : Option ℕ) (fs : List Frame) → Alike c fs (reached fs)
reaches c [] = record { held = refl; inner = refl; strays = refl }
reaches c (Guards resumed ∷ fs) = record { held = refl; inner = refl; strays = refl }
reaches c (f ∷ fs) = under c f fs (reached fs) (reaches c fs)

pub one-more : (c : Option ℕ) (fs : List Frame) → Alike c fs (one_more_field fs)
one-more c (Building p built rest ∷ fs) = record { held = refl; inner = refl; strays = refl }
one-more c (Constructing p class built rest body ∷ fs) = record { held = refl; inner = refl; strays = refl }
one-more c (Full ts ∷ fs) = under c (Full ts) fs (one_more_field fs) (one-more c fs)
one-more c fs = record { held = refl; inner = refl; strays = refl }

-- ---- what stands where

pub few : (n : ℕ) (rest : List Init) → call_needs n rest ≤ n
few n [] = omega arith
few n (i ∷ rest) = omega arith

pub itself : (m : ℕ) → is_other (Some m) m ≡ 0
itself m = ap (λ b. if b then 0 else 1) (eq-eqb m m refl)

-- an object of a class is one of its function's coroutine
pub counts : (l : Local) (of : CoType) (held : ℕ) → object_needs l.top.coroutine held (counted_in l of) ≤ needs l.top.coroutine held
counts l of held = go l.top.coroutine (is_class of)
  where
    go : (c : Option ℕ) (b : Bool) → object_needs c held (if b then c else None) ≤ needs c held
    go None true = omega arith
    go (Some m) true = let same = itself m in omega (arith, same)
    go c false = omega arith

-- a frame that holds the coroutine of its frames is enough for all above it
pub holding : (c : Option ℕ) (m held : ℕ) → is_other c m ≤ 0 → needs c (one_more c m held) ≡ 0
holding None m held known = absurd (omega (arith, known))
holding (Some n) m held known = go (n == m) known
  where
    go : (b : Bool) → (if b then 0 else 1) ≤ 0 → lacks (if b then suc held else held) ≡ 0
    go true known = refl
    go false known = absurd (omega (arith, known))

around-one : (c : Option ℕ) (held inner : ℕ) (f : Frame) → frame_inner f inner ≤ 0 → (inner ≤ 0) × (frame_strays c held inner f ≡ 0)
around-one c held inner Border known = (known, refl)
around-one c held inner (Function own) known = (known, refl)
around-one c held inner f known = absurd (omega (arith, known))

-- what stands around functions may stand anywhere
pub around-strays : (c : Option ℕ) (fs : List Frame) → frames_inner fs ≤ 0 → frames_stray c fs ≡ 0
around-strays c [] known = refl
around-strays c (f ∷ fs) known =
    let both = around-one c (frames_hold c fs) (frames_inner fs) f known in
    let first = both.1 in
    let rest = around-strays c fs both.0 in
    omega (arith, rest, first)

pub borders : (b : Bool) → frames_inner (border b) ≡ 0
borders true = refl
borders false = refl

pub border-strays : (c : Option ℕ) (b : Bool) → frames_stray c (border b) ≡ 0
border-strays c true = refl
border-strays c false = refl
