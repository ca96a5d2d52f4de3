-- The search for a temporary that is not made yet, and for a place in the frames.
use Rattle.std.specs.Prelude.{◌≡◌, ◌≢◌, ◌<◌, ◌≤◌, ℕ, zero, suc, ◌-◌, Bool, true, false, if◌then◌else◌, List, [], ◌∷◌, ◌++◌, length, map, reverse, take, drop, get_or, None, Some}
use Rattle.std.proofs.Common.{refl, ap, ◌∙◌, sym, arith}
use Rattle.std.proofs.lemmas.Bool.{eq-eqb, ne_eqb}
use Rattle.std.proofs.lemmas.List.{map-append, reverse-append}
use Rattle.co_eval_data.specs.Seen.{frame_of, frames_of, temporal_of}
use Rattle.co_eval_data.specs.declared.frames.Frame.{Frame}
use Rattle.co_eval_data.specs.declared.frames.Temporal.{Temporal}
use Rattle.co_eval_parts.specs.Rooms.{has_room, is_unmade, no_object, or_else, room, stand}
use Rattle.co_eval_reads.proofs.Rests.{one_off}
use Rattle.co_meaning_data.specs.Frames as meaning

-- ---- temporaries

other_next : (slot : ℕ) (t : Temporal) (ts : List Temporal) → t.slot ≢ slot → is_unmade slot (map temporal_of (t ∷ ts)) ≡ is_unmade slot (map temporal_of ts)
other_next slot t ts other = ap (λ b. if b then no_object (temporal_of t) else is_unmade slot (map temporal_of ts)) (ne_eqb t.slot slot other)

found_next : (slot : ℕ) (t : Temporal) (ts : List Temporal) → t.slot ≡ slot → is_unmade slot (map temporal_of (t ∷ ts)) ≡ no_object (temporal_of t)
found_next slot t ts same = ap (λ b. if b then no_object (temporal_of t) else is_unmade slot (map temporal_of ts)) (eq-eqb t.slot slot same)

split : (slot : ℕ) (t : Temporal) (rest : List Temporal) (whole : Bool) → 1 ≤ length rest → t ≡ get_or rest 0 t → is_unmade slot (map temporal_of rest) ≡ whole →
    is_unmade slot (map temporal_of (t ∷ take (length rest - 1) (drop 1 rest))) ≡ whole
split slot t rest whole some is h = sym (ap (λ l. is_unmade slot (map temporal_of l)) (one_off rest t some is)) ∙ h

pub unmade_on : (slot : ℕ) (t : Temporal) (rest : List Temporal) (whole : Bool) → 1 ≤ length rest → t ≡ get_or rest 0 t → t.slot ≢ slot →
    is_unmade slot (map temporal_of rest) ≡ whole → is_unmade slot (map temporal_of (take (length rest - 1) (drop 1 rest))) ≡ whole
unmade_on slot t rest whole some is other h = sym (other_next slot t (take (length rest - 1) (drop 1 rest)) other) ∙ split slot t rest whole some is h

pub unmade_found : (slot : ℕ) (t : Temporal) (rest : List Temporal) (whole : Bool) → 1 ≤ length rest → t ≡ get_or rest 0 t → t.slot ≡ slot →
    is_unmade slot (map temporal_of rest) ≡ whole → no_object (temporal_of t) ≡ whole
unmade_found slot t rest whole some is same h = sym (found_next slot t (take (length rest - 1) (drop 1 rest)) same) ∙ split slot t rest whole some is h

pub unmade_none : (slot : ℕ) (rest : List Temporal) (whole : Bool) → length rest < 1 → is_unmade slot (map temporal_of rest) ≡ whole → false ≡ whole
unmade_none slot [] whole none h = h
unmade_none slot (t ∷ rest) whole none h = absurd (omega (arith, none))

-- ---- frames

one_more : {A : Type 0} (fs : List A) (at : ℕ) (f : A) → 1 ≤ at → at ≤ length fs → f ≡ get_or fs (at - 1) f → take at fs ≡ take (at - 1) fs ++ f ∷ []
one_more [] at f some within is = absurd (omega (arith, some, within))
one_more (g ∷ fs) zero f some within is = absurd (omega (arith, some))
one_more (g ∷ fs) (suc zero) f some within is =
    let down : suc zero - 1 ≡ zero = omega arith in
    let same : f ≡ g = is ∙ ap (λ m. get_or (g ∷ fs) m f) down in
    ap (λ k. k ∷ []) (sym same) ∙ ap (λ m. take m (g ∷ fs) ++ f ∷ []) (sym down)
one_more (g ∷ fs) (suc (suc n)) f some within is =
    let down : suc (suc n) - 1 ≡ suc n = omega arith in
    let back : suc n - 1 ≡ n = omega arith in
    let there : f ≡ get_or fs n f = is ∙ ap (λ m. get_or (g ∷ fs) m f) down in
    let inner : f ≡ get_or fs (suc n - 1) f = there ∙ ap (λ m. get_or fs m f) (sym back) in
    ap (λ l. g ∷ l) (one_more fs (suc n) f (omega arith) (omega (arith, within)) inner ∙ ap (λ m. take m fs ++ f ∷ []) back) ∙ ap (λ m. take m (g ∷ fs) ++ f ∷ []) (sym down)

innermost_apart : (fs : List Frame) (at : ℕ) (f : Frame) → 1 ≤ at → at ≤ length fs → f ≡ get_or fs (at - 1) f → frames_of (take at fs) ≡ frame_of f ∷ frames_of (take (at - 1) fs)
innermost_apart fs at f some within is =
    let outer = take (at - 1) fs in
    ap frames_of (one_more fs at f some within is)
    ∙ ap reverse (map-append frame_of outer (f ∷ []))
    ∙ reverse-append (map frame_of outer) (frame_of f ∷ [])

next_room : (spot : meaning.Spot) (x : meaning.Alive) (f : Frame) (fs : List Frame) (at : ℕ) (whole : Bool) → 1 ≤ at → at ≤ length fs → f ≡ get_or fs (at - 1) f → has_room spot x (frames_of (take at fs)) ≡ whole →
    or_else (room spot x (stand (frame_of f))) (has_room spot x (frames_of (take (at - 1) fs))) ≡ whole
next_room spot x f fs at whole some within is h = sym (ap (has_room spot x) (innermost_apart fs at f some within is)) ∙ h

pub room_on : (spot : meaning.Spot) (x : meaning.Alive) (f : Frame) (fs : List Frame) (at : ℕ) (whole : Bool) → 1 ≤ at → at ≤ length fs → f ≡ get_or fs (at - 1) f → None ≡ room spot x (stand (frame_of f)) →
    has_room spot x (frames_of (take at fs)) ≡ whole → has_room spot x (frames_of (take (at - 1) fs)) ≡ whole
room_on spot x f fs at whole some within is none h = ap (λ r. or_else r (has_room spot x (frames_of (take (at - 1) fs)))) none ∙ next_room spot x f fs at whole some within is h

pub room_found : (spot : meaning.Spot) (x : meaning.Alive) (f : Frame) (fs : List Frame) (at : ℕ) (b whole : Bool) → 1 ≤ at → at ≤ length fs → f ≡ get_or fs (at - 1) f → Some b ≡ room spot x (stand (frame_of f)) →
    has_room spot x (frames_of (take at fs)) ≡ whole → b ≡ whole
room_found spot x f fs at b whole some within is found h = ap (λ r. or_else r (has_room spot x (frames_of (take (at - 1) fs)))) found ∙ next_room spot x f fs at whole some within is h

pub room_none : (spot : meaning.Spot) (x : meaning.Alive) (fs : List Frame) (at : ℕ) (whole : Bool) → at < 1 → has_room spot x (frames_of (take at fs)) ≡ whole → false ≡ whole
room_none spot x fs zero whole none h = h
room_none spot x fs (suc n) whole none h = absurd (omega (arith, none))
