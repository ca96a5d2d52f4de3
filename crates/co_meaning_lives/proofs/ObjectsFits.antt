-- The making and the ends of objects keep what is to come.
use Rattle.std.proofs.Common.{◌≡◌, ℕ, ◌+◌, ◌≤◌, List, [], ◌∷◌, Some, None, refl, ap, arith}
use Rattle.std.specs.Prelude.{Option}
use Rattle.co_base.specs.declared.ids.FuncId.{FuncId}
use Rattle.co_meaning_data.specs.Frames.{Alive, Spot, At, Comes, Dies, Ending, Ends, EndsObject, Frame, EndsPart, HasDied, IsBorn, ObjectEnds, Outcome, PartEnds, Passes, PassesMark}
use Rattle.co_meaning_data.specs.Store.{Place, end_object, end_part, make_live, type_at, whole}
use Rattle.co_meaning_data.specs.Turn.{Local, classes, happens, nowhere, pushed, store, with_frames, with_store}
use Rattle.co_meaning_calls.specs.Objects.{comes_on, stands, stands_and_comes, born_in, lives, birth, is_born, ends, dtor_of_type, call_with, end_object_by, end_whole, end_part_by, end_field, end_next, died_in, dies, has_died, abandon}
use Rattle.co_meaning_lives.specs.Tokens.{Fits, alive_weighs, credits, endings_weigh, event_credits, event_weighs, events_weigh, local_weighs, rest_weighs, seen_weighs, weighs}
use Rattle.co_meaning_lives.proofs.Weights.{make_live-count, end_object-count, end_part-count, same, splits, goes-fits, under-fits, passes-fits, events-add, counted, credits-add, spot-fits, Below}
use Rattle.co_meaning_data.specs.declared.events.Event.{Event}
use Rattle.co_meaning_data.specs.declared.events.Event.TheVariants as event

module _ (item raw on_birth on_death credit each : ℕ) (small : on_birth + on_death ≤ raw + credit) where
  comes_on-fits : (limit n : ℕ) (outcome : Outcome) (l : Local) (o : Option (List Frame)) → Below item raw on_birth on_death credit each small n o → n + rest_weighs item raw on_birth on_death credit each l ≤ limit + credits item raw on_birth on_death credit each l.seen → Fits item raw on_birth on_death credit each limit (comes_on outcome l o)
  comes_on-fits limit n outcome l None below known = tt
  comes_on-fits limit n outcome l (Some fs) below known = goes-fits item raw on_birth on_death credit each small limit (Comes outcome) (with_frames fs l) (omega (arith, known, below))

  stands-fits : (limit : ℕ) (y : Alive) (spot : Spot) (outcome : Outcome) (l : Local) → alive_weighs item raw on_birth on_death credit each y + local_weighs item raw on_birth on_death credit each l ≤ limit + credits item raw on_birth on_death credit each l.seen → Fits item raw on_birth on_death credit each limit (stands_and_comes y spot outcome l)
  stands-fits limit y spot outcome l known = comes_on-fits limit _ outcome l (stands spot y l.top.frames) (spot-fits item raw on_birth on_death credit each small spot y l.top.frames) (omega (arith, known))

  born_in-fits : (limit : ℕ) (y : Alive) (spot : Spot) (outcome : Outcome) (l : Local) (o : Option ℕ) → y.coroutine ≡ o → weighs item raw on_birth on_death credit each y.object raw + local_weighs item raw on_birth on_death credit each l + each ≤ limit + credits item raw on_birth on_death credit each l.seen → Fits item raw on_birth on_death credit each limit (born_in y spot outcome l o)
  born_in-fits limit y spot outcome l None e known =
      stands-fits limit y spot outcome l
      (let none = ap (λ c. seen_weighs item raw on_birth on_death credit each c (weighs item raw on_birth on_death credit each y.object on_death)) e in omega (arith, known, none))
  born_in-fits limit y spot outcome l (Some c) e known = goes-fits item raw on_birth on_death credit each small limit (IsBorn y spot outcome) l (omega (arith, known))

  pub lives-fits : (limit : ℕ) (y : Alive) (spot : Spot) (outcome : Outcome) (l : Local) → weighs item raw on_birth on_death credit each y.object raw + local_weighs item raw on_birth on_death credit each l + each ≤ limit + credits item raw on_birth on_death credit each l.seen → Fits item raw on_birth on_death credit each limit (lives y spot outcome l)
  lives-fits limit y spot outcome l known = born_in-fits limit y spot outcome (with_store (make_live y.object (store l)) l) y.coroutine refl (let kept = same item raw on_birth on_death credit each small (make_live y.object (store l)) (store l) (make_live-count y.object (store l)) in omega (arith, known, kept))

  seen-weigh : (e : Event) (l : Local) → events_weigh item raw on_birth on_death credit each (happens e l).seen ≡ events_weigh item raw on_birth on_death credit each l.seen + (event_weighs item raw on_birth on_death credit each e + each)
  seen-weigh e l = events-add item raw on_birth on_death credit each small l.seen e

  seen-credits : (e : Event) (l : Local) → credits item raw on_birth on_death credit each (happens e l).seen ≡ credits item raw on_birth on_death credit each l.seen + event_credits item raw on_birth on_death credit each e
  seen-credits e l = credits-add item raw on_birth on_death credit each small l.seen e

  pub birth-fits : (limit : ℕ) (y0 : Alive) (y1 : Spot) (y2 : Outcome) (y3 : Local) (y4 : Option ℕ) → weighs item raw on_birth on_death credit each y0.object raw + (local_weighs item raw on_birth on_death credit each y3) + each ≤ limit + credits item raw on_birth on_death credit each y3.seen → Fits item raw on_birth on_death credit each limit (birth y0 y1 y2 y3 y4)
  birth-fits limit x spot outcome l None known = tt
  birth-fits limit x spot outcome l (Some c) known =
      comes_on-fits limit _ outcome (happens (event.Born c x.object) l) (stands spot x l.top.frames) (spot-fits item raw on_birth on_death credit each small spot x l.top.frames)
      (let f0 = seen-weigh (event.Born c x.object) l in let f1 = seen-credits (event.Born c x.object) l in let f3 = counted item raw on_birth on_death credit each small x in let f4 = splits item raw on_birth on_death credit each small x.object in omega (arith, known, f0, f1, f3, f4))

  pub is_born-fits : (limit : ℕ) (y0 : Alive) (y1 : Spot) (y2 : Outcome) (y3 : Local) → weighs item raw on_birth on_death credit each y0.object raw + (local_weighs item raw on_birth on_death credit each y3) + each ≤ limit + credits item raw on_birth on_death credit each y3.seen → Fits item raw on_birth on_death credit each limit (is_born y0 y1 y2 y3)
  is_born-fits limit x spot outcome l known = (birth-fits limit x spot outcome l x.coroutine (omega (arith, known)))

  pub ends-fits : (limit : ℕ) (y0 : List Ending) (y1 : Outcome) (y2 : Local) → endings_weigh item raw on_birth on_death credit each y0 + (local_weighs item raw on_birth on_death credit each y2) + each ≤ limit + credits item raw on_birth on_death credit each y2.seen → Fits item raw on_birth on_death credit each limit (ends y0 y1 y2)
  ends-fits limit list outcome l known = (under-fits item raw on_birth on_death credit each small limit (Ends list outcome) (Comes Passes) l (omega (arith, known)))

  pub end_object_by-fits : (limit : ℕ) (y0 : Alive) (y1 : Local) (y2 : Option FuncId) → alive_weighs item raw on_birth on_death credit each y0 + (local_weighs item raw on_birth on_death credit each y1) + each ≤ limit + credits item raw on_birth on_death credit each y1.seen → Fits item raw on_birth on_death credit each limit (end_object_by y0 y1 y2)
  end_object_by-fits limit x l None known = (goes-fits item raw on_birth on_death credit each small limit (Dies x) l (omega (arith, known)))
  end_object_by-fits limit x l (Some f) known = (under-fits item raw on_birth on_death credit each small limit (call_with f (At (whole x.object) ∷ []) None nowhere) (Comes Passes) (pushed (ObjectEnds x) l) (omega (arith, known)))

  pub end_whole-fits : (limit : ℕ) (y0 : Alive) (y1 : Local) → alive_weighs item raw on_birth on_death credit each y0 + (local_weighs item raw on_birth on_death credit each y1) + each ≤ limit + credits item raw on_birth on_death credit each y1.seen → Fits item raw on_birth on_death credit each limit (end_whole y0 y1)
  end_whole-fits limit x l known = (end_object_by-fits limit x l (dtor_of_type l (type_at (classes l) (store l) (whole x.object))) (omega (arith, known)))

  pub end_part_by-fits : (limit : ℕ) (y0 : Place) (y1 : Local) (y2 : Option FuncId) → local_weighs item raw on_birth on_death credit each y1 + each ≤ limit + credits item raw on_birth on_death credit each y1.seen → Fits item raw on_birth on_death credit each limit (end_part_by y0 y1 y2)
  end_part_by-fits limit p l None known = (passes-fits item raw on_birth on_death credit each small limit (with_store (end_part (classes l) p (store l)) l) (let f0 = same item raw on_birth on_death credit each small (end_part (classes l) p (store l)) (store l) (end_part-count (classes l) p (store l)) in omega (arith, known, f0)))
  end_part_by-fits limit p l (Some f) known = (under-fits item raw on_birth on_death credit each small limit (call_with f (At p ∷ []) None nowhere) (Comes Passes) (pushed (PartEnds p) l) (omega (arith, known)))

  pub end_field-fits : (limit : ℕ) (y0 : Place) (y1 : Local) → local_weighs item raw on_birth on_death credit each y1 + each ≤ limit + credits item raw on_birth on_death credit each y1.seen → Fits item raw on_birth on_death credit each limit (end_field y0 y1)
  end_field-fits limit p l known = (end_part_by-fits limit p l (dtor_of_type l (type_at (classes l) (store l) p)) (omega (arith, known)))

  pub end_next-fits : (limit : ℕ) (y0 : List Ending) (y1 : Outcome) (y2 : Local) → endings_weigh item raw on_birth on_death credit each y0 + (local_weighs item raw on_birth on_death credit each y2) + each ≤ limit + credits item raw on_birth on_death credit each y2.seen → Fits item raw on_birth on_death credit each limit (end_next y0 y1 y2)
  end_next-fits limit [] outcome l known = (goes-fits item raw on_birth on_death credit each small limit (Comes outcome) l (omega (arith, known)))
  end_next-fits limit (EndsObject x ∷ rest) outcome l known = (end_whole-fits limit x (pushed (Ends rest outcome) l) (omega (arith, known)))
  end_next-fits limit (EndsPart p ∷ rest) outcome l known = (end_field-fits limit p (pushed (Ends rest outcome) l) (omega (arith, known)))
  end_next-fits limit (PassesMark None ∷ rest) outcome l known = (ends-fits limit rest outcome l (omega (arith, known)))
  end_next-fits limit (PassesMark (Some x) ∷ rest) outcome l known = (ends-fits limit (EndsObject x ∷ rest) outcome l (omega (arith, known)))

  died_in-fits : (limit : ℕ) (y : Alive) (l : Local) (o : Option ℕ) → y.coroutine ≡ o → alive_weighs item raw on_birth on_death credit each y + local_weighs item raw on_birth on_death credit each l + each ≤ limit + credits item raw on_birth on_death credit each l.seen → Fits item raw on_birth on_death credit each limit (died_in y l o)
  died_in-fits limit y l None e known = passes-fits item raw on_birth on_death credit each small limit l (omega (arith, known))
  died_in-fits limit y l (Some c) e known = goes-fits item raw on_birth on_death credit each small limit (HasDied c y.object) l (let some = ap (λ c. seen_weighs item raw on_birth on_death credit each c (weighs item raw on_birth on_death credit each y.object on_death)) e in omega (arith, known, some))

  pub dies-fits : (limit : ℕ) (y : Alive) (l : Local) → alive_weighs item raw on_birth on_death credit each y + local_weighs item raw on_birth on_death credit each l + each ≤ limit + credits item raw on_birth on_death credit each l.seen → Fits item raw on_birth on_death credit each limit (dies y l)
  dies-fits limit y l known = died_in-fits limit y (with_store (end_object y.object (store l)) l) y.coroutine refl (let kept = same item raw on_birth on_death credit each small (end_object y.object (store l)) (store l) (end_object-count y.object (store l)) in omega (arith, known, kept))

  pub has_died-fits : (limit : ℕ) (y0 : ℕ) (y1 : ℕ) (y2 : Local) → weighs item raw on_birth on_death credit each y1 on_death + (local_weighs item raw on_birth on_death credit each y2) + each ≤ limit + credits item raw on_birth on_death credit each y2.seen → Fits item raw on_birth on_death credit each limit (has_died y0 y1 y2)
  has_died-fits limit c x l known = (passes-fits item raw on_birth on_death credit each small limit (happens (event.Died c x) l) (let f0 = events-add item raw on_birth on_death credit each small l.seen (event.Died c x) in let f1 = credits-add item raw on_birth on_death credit each small l.seen (event.Died c x) in omega (arith, known, f0, f1)))

  pub abandon-fits : (limit : ℕ) (y0 : ℕ) (y1 : Outcome) (y2 : Local) → local_weighs item raw on_birth on_death credit each y2 + each ≤ limit + credits item raw on_birth on_death credit each y2.seen → Fits item raw on_birth on_death credit each limit (abandon y0 y1 y2)
  abandon-fits limit x outcome l known = (goes-fits item raw on_birth on_death credit each small limit (Comes outcome) (with_store (end_object x (store l)) l) (let f0 = same item raw on_birth on_death credit each small (end_object x (store l)) (store l) (end_object-count x (store l)) in omega (arith, known, f0)))
