-- What a step weighs, by the way in which it goes on, and what the parts of a state weigh.
use Rattle.std.proofs.Common.{◌≡◌, ℕ, zero, suc, ◌+◌, ◌≤◌, List, [], ◌∷◌, ◌++◌, Bool, true, false, Some, None, refl, ap, ◌∙◌, arith, length, length-append, length-set}
use Rattle.std.proofs.lemmas.Bool.{eqb-true, ltb-false, ltb-true}
use Rattle.std.specs.Prelude.{Option, if◌then◌else◌, ◌==◌, nat_lt, slice_set}
use Rattle.std.specs.Option.{option_map}
use Rattle.co_base.specs.declared.kinds.Thrown.{Thrown}
use Rattle.co_base.specs.declared.kinds.Undef.{Undef}
use Rattle.co_base.specs.declared.span.Span.{Span}
use Rattle.co_types.specs.declared.classes.ClassInfo.{ClassInfo}
use Rattle.co_core_tree.specs.declared.exprs.AwaitPlan.{AwaitPlan}
use Rattle.co_meaning_calls.specs.Calls.{calls}
use Rattle.co_meaning_data.specs.Frames.{Alive, Spot, InScope, InFull, InHold, Activation, Doing, Frame, Given, Going, Temporal, Scope, Full, AwaitSuspend, Holds}
use Rattle.co_meaning_data.specs.Store.{Place, Store, StoredBlock, StoredObject, add_object, end_object, end_part, ended_object, leave_block, made_live, make_live, object_at, block_at, release, released_block, end_standing, set_cell, set_part, set_standing, stands_in, standing_in, with_cell, with_cells, set_cells, is_object_standing, all_outside, next_object, offset_at, words_of, type_at, with_object}
use Rattle.co_meaning_data.specs.Turn.{Local, Turned, goes, under, gives, passes, leaves, rests, judged, unless_undefined, is_undefined, is_uncaught}
use Rattle.co_meaning_data.specs.Undefined.{Fault, counts}
use Rattle.co_meaning_data.specs.declared.events.Event.{Event}
use Rattle.co_meaning_data.specs.declared.events.Event.TheVariants as event
use Rattle.co_meaning_data.specs.declared.values.Cell.{Cell}
use Rattle.co_meaning_data.specs.declared.values.Cell.TheVariants as cell
use Rattle.co_meaning_data.specs.declared.values.Lifetime.TheVariants as lifetime
use Rattle.co_meaning_data.specs.declared.values.Standing.{Standing}
use Rattle.co_meaning_data.specs.declared.values.Standing.TheVariants as standing
use Rattle.co_meaning_calls.specs.Objects.{endings, fields_end, into_full, into_hold, into_scope, live_temporaries, made_of, made_temporaries, own_with, set_mark, stands, temporaries_end, temporary_ends, unseen_endings}
use Rattle.co_meaning_lives.specs.Tokens.{Fits, alive_weigh, alive_weighs, common_weighs, credits, doing_weighs, endings_weigh, event_credits, event_weighs, events_weigh, frame_weighs, frames_weigh, fresh_weighs, local_weighs, object_weighs, seen_weighs, temporaries_weigh, weighs}

-- ---- the store has as many objects as before

pub make_live-count : (x : ℕ) (s : Store) → length (make_live x s).objects ≡ length s.objects
make_live-count x s = go (object_at s x)
  where
    go : (o : Option StoredObject) → length (made_live s x o).objects ≡ length s.objects
    go None = refl
    go (Some o) = length-set s.objects x (record o { lifetime = lifetime.Live })

pub set_standing-count : (b : ℕ) (what : Standing) (s : Store) → length (set_standing b what s).objects ≡ length s.objects
set_standing-count b what s = go (block_at s b)
  where
    go : (o : Option StoredBlock) → length (stands_in s b what o).objects ≡ length s.objects
    go None = refl
    go (Some o) = refl

leave_block-count : (x : ℕ) (b : Option ℕ) (s : Store) → length (leave_block x b s).objects ≡ length s.objects
leave_block-count x None s = refl
leave_block-count x (Some b) s = go (is_object_standing x (standing_in (block_at s b)))
  where
    go : (c : Bool) → length (if c then set_standing b standing.Nothing s else s).objects ≡ length s.objects
    go true = set_standing-count b standing.Nothing s
    go false = refl

pub end_object-count : (x : ℕ) (s : Store) → length (end_object x s).objects ≡ length s.objects
end_object-count x s = go (object_at s x)
  where
    go : (o : Option StoredObject) → length (ended_object s x o).objects ≡ length s.objects
    go None = refl
    go (Some o) = leave_block-count x o.block (with_object s x (record o { lifetime = lifetime.Ended; cells = all_outside o.cells })) ∙ length-set s.objects x (record o { lifetime = lifetime.Ended; cells = all_outside o.cells })

pub set_cell-count : (classes : List ClassInfo) (p : Place) (n : ℕ) (c : Cell) (s : Store) → length (set_cell classes p n c s).objects ≡ length s.objects
set_cell-count classes p n c s = go (object_at s p.object)
  where
    go : (o : Option StoredObject) → length (with_cell s p.object (offset_at classes s p + n) c o).objects ≡ length s.objects
    go None = refl
    go (Some o) = length-set s.objects p.object (record o { cells = slice_set o.cells (offset_at classes s p + n) c })

pub set_part-count : (classes : List ClassInfo) (p : Place) (c : Cell) (s : Store) → length (set_part classes p c s).objects ≡ length s.objects
set_part-count classes p c s = go (object_at s p.object)
  where
    go : (o : Option StoredObject) → length (with_cells s p.object (offset_at classes s p) (words_of classes (type_at classes s p)) c o).objects ≡ length s.objects
    go None = refl
    go (Some o) = length-set s.objects p.object (record o { cells = set_cells (offset_at classes s p) (words_of classes (type_at classes s p)) c o.cells })

pub end_part-count : (classes : List ClassInfo) (p : Place) (s : Store) → length (end_part classes p s).objects ≡ length s.objects
end_part-count classes p s = set_part-count classes p cell.Outside s

pub release-count : (b : ℕ) (s : Store) → length (release b s).objects ≡ length s.objects
release-count b s = freed (end_standing (standing_in (block_at s b)) s) (block_at (end_standing (standing_in (block_at s b)) s) b) ∙ stood (standing_in (block_at s b))
  where
    freed : (t : Store) (o : Option StoredBlock) → length (released_block t b o).objects ≡ length t.objects
    freed t None = refl
    freed t (Some o) = refl

    stood : (w : Standing) → length (end_standing w s).objects ≡ length s.objects
    stood (standing.Object x) = end_object-count x s
    stood (standing.Frame n) = refl
    stood standing.Nothing = refl

module _ (item raw on_birth on_death credit each : ℕ) (small : on_birth + on_death ≤ raw + credit) where
  pub same : (s t : Store) → length s.objects ≡ length t.objects → fresh_weighs item raw on_birth on_death credit each s ≡ fresh_weighs item raw on_birth on_death credit each t
  same s t e = ap (λ n. if nat_lt item n then 0 else raw) e

  fresh_tested : (n m : ℕ) (c d e : Bool) → m ≡ n + 1 → nat_lt item n ≡ c → nat_lt item m ≡ d → (item == n) ≡ e → (if e then raw else 0) + (if d then 0 else raw) ≤ (if c then 0 else raw)
  fresh_tested n m true d true k p q r = absurd (let less = ltb-true item n p in let equal = eqb-true item n r in omega (arith, less, equal))
  fresh_tested n m true true false k p q r = omega arith
  fresh_tested n m true false false k p q r = absurd (let less = ltb-true item n p in let more = ltb-false item m q in omega (arith, less, more, k))
  fresh_tested n m false true e k p q r = go e
    where
      go : (e : Bool) → (if e then raw else 0) + 0 ≤ raw
      go true = omega arith
      go false = omega arith
  fresh_tested n m false false true k p q r = absurd (let equal = eqb-true item n r in let more = ltb-false item m q in omega (arith, equal, more, k))
  fresh_tested n m false false false k p q r = omega arith

  -- a new object weighs as much as one whose number was not given yet
  pub fresh : (o : StoredObject) (s : Store) → weighs item raw on_birth on_death credit each (next_object s) raw + fresh_weighs item raw on_birth on_death credit each (add_object o s) ≤ fresh_weighs item raw on_birth on_death credit each s
  fresh o s = fresh_tested (length s.objects) (length (s.objects ++ o ∷ [])) (nat_lt item (length s.objects)) (nat_lt item (length (s.objects ++ o ∷ []))) (item == length s.objects) (length-append s.objects (o ∷ [])) refl refl refl

  -- a death that is seen is one of an object whose birth is
  pub counted : (y : Alive) → alive_weighs item raw on_birth on_death credit each y ≤ weighs item raw on_birth on_death credit each y.object on_death
  counted y = go y.coroutine
    where
      go : (c : Option ℕ) → seen_weighs item raw on_birth on_death credit each c (weighs item raw on_birth on_death credit each y.object on_death) ≤ weighs item raw on_birth on_death credit each y.object on_death
      go None = omega arith
      go (Some c) = omega arith

  -- a birth and the end that is due after it weigh no more than a place that is to make the object, and what the birth is worth
  pub splits : (y : ℕ) → weighs item raw on_birth on_death credit each y on_birth + weighs item raw on_birth on_death credit each y on_death ≤ weighs item raw on_birth on_death credit each y raw + weighs item raw on_birth on_death credit each y credit
  splits y = go (item == y)
    where
      go : (c : Bool) → (if c then on_birth else 0) + (if c then on_death else 0) ≤ (if c then raw else 0) + (if c then credit else 0)
      go true = small
      go false = omega arith

  pub goes-fits : (limit : ℕ) (d : Doing) (l : Local) → doing_weighs item raw on_birth on_death credit each d + local_weighs item raw on_birth on_death credit each l ≤ limit + credits item raw on_birth on_death credit each l.seen → Fits item raw on_birth on_death credit each limit (goes d l)
  goes-fits limit d l known = omega (arith, known)

  pub under-fits : (limit : ℕ) (f : Frame) (d : Doing) (l : Local) → frame_weighs item raw on_birth on_death credit each f + (doing_weighs item raw on_birth on_death credit each d + local_weighs item raw on_birth on_death credit each l) ≤ limit + credits item raw on_birth on_death credit each l.seen → Fits item raw on_birth on_death credit each limit (under f d l)
  under-fits limit f d l known = omega (arith, known)

  pub gives-fits : (limit : ℕ) (g : Given) (l : Local) → local_weighs item raw on_birth on_death credit each l ≤ limit + credits item raw on_birth on_death credit each l.seen → Fits item raw on_birth on_death credit each limit (gives g l)
  gives-fits limit g l known = omega (arith, known)

  pub passes-fits : (limit : ℕ) (l : Local) → local_weighs item raw on_birth on_death credit each l ≤ limit + credits item raw on_birth on_death credit each l.seen → Fits item raw on_birth on_death credit each limit (passes l)
  passes-fits limit l known = omega (arith, known)

  pub leaves-fits : (limit : ℕ) (g : Going) (l : Local) → local_weighs item raw on_birth on_death credit each l ≤ limit + credits item raw on_birth on_death credit each l.seen → Fits item raw on_birth on_death credit each limit (leaves g l)
  leaves-fits limit g l known = omega (arith, known)

  pub rests-fits : (limit : ℕ) (d : Doing) (l : Local) → doing_weighs item raw on_birth on_death credit each d + common_weighs item raw on_birth on_death credit each l ≤ limit + credits item raw on_birth on_death credit each l.seen → Fits item raw on_birth on_death credit each limit (rests d l)
  rests-fits limit d l known = omega (arith, known)

  pub calls-fits : (limit : ℕ) (d : Doing) (a : Activation) (l : Local) → doing_weighs item raw on_birth on_death credit each d + (frames_weigh item raw on_birth on_death credit each a.frames + local_weighs item raw on_birth on_death credit each l) ≤ limit + credits item raw on_birth on_death credit each l.seen → Fits item raw on_birth on_death credit each limit (calls d a l)
  calls-fits limit d a l known = omega (arith, known)

  pub events-add : (es : List Event) (e : Event) → events_weigh item raw on_birth on_death credit each (es ++ e ∷ []) ≡ events_weigh item raw on_birth on_death credit each es + (event_weighs item raw on_birth on_death credit each e + each)
  events-add [] e = omega arith
  events-add (d ∷ es) e = let rest = events-add es e in omega (arith, rest)

  pub credits-add : (es : List Event) (e : Event) → credits item raw on_birth on_death credit each (es ++ e ∷ []) ≡ credits item raw on_birth on_death credit each es + event_credits item raw on_birth on_death credit each e
  credits-add [] e = omega arith
  credits-add (d ∷ es) e = let rest = credits-add es e in omega (arith, rest)

  pub is_undefined-fits : (limit : ℕ) (kind : Undef) (at : Span) (l : Local) → local_weighs item raw on_birth on_death credit each l + each ≤ limit + credits item raw on_birth on_death credit each l.seen → Fits item raw on_birth on_death credit each limit (is_undefined kind at l)
  is_undefined-fits limit kind at l known = let e = events-add l.seen (event.Undefined l.worker kind at) in let c = credits-add l.seen (event.Undefined l.worker kind at) in omega (arith, e, c, known)

  pub is_uncaught-fits : (limit : ℕ) (v : Thrown) (l : Local) → local_weighs item raw on_birth on_death credit each l + each ≤ limit + credits item raw on_birth on_death credit each l.seen → Fits item raw on_birth on_death credit each limit (is_uncaught v l)
  is_uncaught-fits limit v l known = let e = events-add l.seen (event.Uncaught l.worker v) in let c = credits-add l.seen (event.Uncaught l.worker v) in omega (arith, e, c, known)

  judged-fits : (limit : ℕ) (k : Option Undef) (at : Span) (l : Local) (t : Option Turned) → local_weighs item raw on_birth on_death credit each l + each ≤ limit + credits item raw on_birth on_death credit each l.seen → Fits item raw on_birth on_death credit each limit t → Fits item raw on_birth on_death credit each limit (judged k at l t)
  judged-fits limit None at l t known fits = fits
  judged-fits limit (Some kind) at l t known fits = is_undefined-fits limit kind at l known

  pub unless-fits : (limit : ℕ) (faults : List Fault) (at : Span) (l : Local) (t : Option Turned) → local_weighs item raw on_birth on_death credit each l + each ≤ limit + credits item raw on_birth on_death credit each l.seen → Fits item raw on_birth on_death credit each limit t → Fits item raw on_birth on_death credit each limit (unless_undefined faults at l t)
  unless-fits limit faults at l t known fits = judged-fits limit (counts faults) at l t known fits

  pub if-fits : (limit : ℕ) (c : Bool) (t u : Option Turned) → Fits item raw on_birth on_death credit each limit t → Fits item raw on_birth on_death credit each limit u → Fits item raw on_birth on_death credit each limit (if c then t else u)
  if-fits limit true t u p q = p
  if-fits limit false t u p q = q

  -- ---- lists in frames

  -- the frames, where there are some, weigh no more
  abbrev pub Below : ℕ → Option (List Frame) → Type 0
  Below n None = Unit {0}
  Below n (Some fs) = frames_weigh item raw on_birth on_death credit each fs ≤ n

  behind : (f : Frame) (n : ℕ) (o : Option (List Frame)) → Below n o → Below (frame_weighs item raw on_birth on_death credit each f + n) (option_map (λ gs. f ∷ gs) o)
  behind f n None h = tt
  behind f n (Some fs) h = omega (arith, h)

  wider : (m n : ℕ) (o : Option (List Frame)) → m ≤ n → Below m o → Below n o
  wider m n None e h = tt
  wider m n (Some fs) e h = omega (arith, e, h)

  pub scope : (y : Alive) (fs : List Frame) → Below (alive_weighs item raw on_birth on_death credit each y + frames_weigh item raw on_birth on_death credit each fs) (into_scope y fs)
  scope y [] = tt
  scope y (Scope alive rest ∷ fs) = omega arith
  scope y (f ∷ fs) = wider _ _ (into_scope y (f ∷ fs)) (omega arith) (behind f _ (into_scope y fs) (scope y fs))

  pub hold : (y : Alive) (fs : List Frame) → Below (alive_weighs item raw on_birth on_death credit each y + frames_weigh item raw on_birth on_death credit each fs) (into_hold y fs)
  hold y [] = tt
  hold y (Holds h ∷ fs) = omega arith
  hold y (f ∷ fs) = wider _ _ (into_hold y (f ∷ fs)) (omega arith) (behind f _ (into_hold y fs) (hold y fs))

  abbrev BelowTemporaries : ℕ → Option (List Temporal) → Type 0
  BelowTemporaries n None = Unit {0}
  BelowTemporaries n (Some ts) = temporaries_weigh item raw on_birth on_death credit each ts ≤ n

  made_now : (y : Alive) (t : Temporal) (ts : List Temporal) (o : Option Alive) → BelowTemporaries (alive_weighs item raw on_birth on_death credit each y + (object_weighs item raw on_birth on_death credit each o + temporaries_weigh item raw on_birth on_death credit each ts)) (made_of y t ts o)
  made_now y t ts None = omega arith
  made_now y t ts (Some z) = tt

  made_later : (n : ℕ) (t : Temporal) (o : Option (List Temporal)) → BelowTemporaries n o → BelowTemporaries (object_weighs item raw on_birth on_death credit each t.object + n) (option_map (λ us. t ∷ us) o)
  made_later n t None h = tt
  made_later n t (Some ts) h = omega (arith, h)

  more_temporaries : (m n : ℕ) (o : Option (List Temporal)) → m ≤ n → BelowTemporaries m o → BelowTemporaries n o
  more_temporaries m n None e h = tt
  more_temporaries m n (Some ts) e h = omega (arith, e, h)

  made : (slot : ℕ) (y : Alive) (ts : List Temporal) → BelowTemporaries (alive_weighs item raw on_birth on_death credit each y + temporaries_weigh item raw on_birth on_death credit each ts) (made_temporaries slot y ts)
  made slot y [] = tt
  made slot y (t ∷ ts) = go (made slot y ts) (t.slot == slot)
    where
      go : BelowTemporaries (alive_weighs item raw on_birth on_death credit each y + temporaries_weigh item raw on_birth on_death credit each ts) (made_temporaries slot y ts) → (c : Bool)
          → BelowTemporaries (alive_weighs item raw on_birth on_death credit each y + (object_weighs item raw on_birth on_death credit each t.object + temporaries_weigh item raw on_birth on_death credit each ts)) (if c then made_of y t ts t.object else option_map (λ us. t ∷ us) (made_temporaries slot y ts))
      go rest true = made_now y t ts t.object
      go rest false = more_temporaries _ _ (option_map (λ us. t ∷ us) (made_temporaries slot y ts)) (omega arith) (made_later _ t (made_temporaries slot y ts) rest)

  full_with : (n : ℕ) (fs : List Frame) (o : Option (List Temporal)) → BelowTemporaries n o → Below (n + frames_weigh item raw on_birth on_death credit each fs) (option_map (λ us. Full us ∷ fs) o)
  full_with n fs None h = tt
  full_with n fs (Some ts) h = omega (arith, h)

  own_with-below : (y : Alive) (own : List ℕ) (plan : AwaitPlan) (into : Option Place) (fs : List Frame) (c : Option ℕ)
      → Below (alive_weighs item raw on_birth on_death credit each y + frames_weigh item raw on_birth on_death credit each fs) (option_map (λ xs. AwaitSuspend plan into xs ∷ fs) (own_with y own c))
  own_with-below y own plan into fs None = omega arith
  own_with-below y own plan into fs (Some c) = tt

  full : (slot : ℕ) (y : Alive) (fs : List Frame) → Below (alive_weighs item raw on_birth on_death credit each y + frames_weigh item raw on_birth on_death credit each fs) (into_full slot y fs)
  full slot y [] = tt
  full slot y (Full ts ∷ fs) = wider _ _ (into_full slot y (Full ts ∷ fs)) (omega arith) (full_with _ fs (made_temporaries slot y ts) (made slot y ts))
  full slot y (AwaitSuspend plan into own ∷ fs) = wider _ _ (into_full slot y (AwaitSuspend plan into own ∷ fs)) (omega arith) (own_with-below y own plan into fs y.coroutine)
  full slot y (f ∷ fs) = wider _ _ (into_full slot y (f ∷ fs)) (omega arith) (behind f _ (into_full slot y fs) (full slot y fs))

  pub spot-fits : (spot : Spot) (y : Alive) (fs : List Frame) → Below (alive_weighs item raw on_birth on_death credit each y + frames_weigh item raw on_birth on_death credit each fs) (stands spot y fs)
  spot-fits InScope y fs = scope y fs
  spot-fits (InFull slot) y fs = full slot y fs
  spot-fits InHold y fs = hold y fs

  live : (slot : ℕ) (ts : List Temporal) → temporaries_weigh item raw on_birth on_death credit each (live_temporaries slot ts) ≡ temporaries_weigh item raw on_birth on_death credit each ts
  live slot [] = refl
  live slot (t ∷ ts) = go (live slot ts) (t.slot == slot)
    where
      go : temporaries_weigh item raw on_birth on_death credit each (live_temporaries slot ts) ≡ temporaries_weigh item raw on_birth on_death credit each ts → (c : Bool) → temporaries_weigh item raw on_birth on_death credit each (if c then record t { live = true } ∷ ts else t ∷ live_temporaries slot ts) ≡ object_weighs item raw on_birth on_death credit each t.object + temporaries_weigh item raw on_birth on_death credit each ts
      go rest true = refl
      go rest false = omega (arith, rest)

  pub marks : (slot : ℕ) (fs : List Frame) → frames_weigh item raw on_birth on_death credit each (set_mark slot fs) ≡ frames_weigh item raw on_birth on_death credit each fs
  marks slot [] = refl
  marks slot (Full ts ∷ fs) = let rest = live slot ts in omega (arith, rest)
  marks slot (f ∷ fs) = let rest = marks slot fs in omega (arith, rest)

  pub endings-weigh : (xs : List Alive) → endings_weigh item raw on_birth on_death credit each (endings xs) ≡ alive_weigh item raw on_birth on_death credit each xs
  endings-weigh [] = refl
  endings-weigh (y ∷ ys) = let rest = endings-weigh ys in omega (arith, rest)

  pub unseen-weigh : (xs : List ℕ) → endings_weigh item raw on_birth on_death credit each (unseen_endings xs) ≡ 0
  unseen-weigh [] = refl
  unseen-weigh (y ∷ ys) = let rest = unseen-weigh ys in omega (arith, rest)

  pub fields-weigh : (p : Place) (n : ℕ) → endings_weigh item raw on_birth on_death credit each (fields_end p n) ≡ 0
  fields-weigh p zero = refl
  fields-weigh p (suc n) = let rest = fields-weigh p n in omega (arith, rest)

  pub temporaries-end : (ts : List Temporal) → endings_weigh item raw on_birth on_death credit each (temporaries_end ts) ≤ temporaries_weigh item raw on_birth on_death credit each ts
  temporaries-end [] = omega arith
  temporaries-end (t ∷ ts) = go (temporaries-end ts) t.marked t.object
    where
      go : endings_weigh item raw on_birth on_death credit each (temporaries_end ts) ≤ temporaries_weigh item raw on_birth on_death credit each ts → (c : Bool) (o : Option Alive) → endings_weigh item raw on_birth on_death credit each (temporary_ends c o ++ temporaries_end ts) ≤ object_weighs item raw on_birth on_death credit each o + temporaries_weigh item raw on_birth on_death credit each ts
      go rest true o = omega (arith, rest)
      go rest false None = omega (arith, rest)
      go rest false (Some y) = omega (arith, rest)

  pub frames-join : (fs gs : List Frame) → frames_weigh item raw on_birth on_death credit each (fs ++ gs) ≡ frames_weigh item raw on_birth on_death credit each fs + frames_weigh item raw on_birth on_death credit each gs
  frames-join [] gs = omega arith
  frames-join (f ∷ fs) gs = let rest = frames-join fs gs in omega (arith, rest)
