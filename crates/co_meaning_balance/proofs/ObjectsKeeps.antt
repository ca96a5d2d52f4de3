-- The making and the ends of objects lose none.
use Rattle.std.proofs.Common.{◌≡◌, ℕ, ◌≤◌, List, [], ◌∷◌, Some, None, refl, ap, arith, inl, true, false, Bool}
use Rattle.std.specs.Prelude.{Option, if◌then◌else◌}
use Rattle.co_base.specs.declared.ids.FuncId.{FuncId}
use Rattle.co_base.specs.declared.kinds.Thrown.{Thrown}
use Rattle.co_base.specs.declared.kinds.Undef.{Undef}
use Rattle.co_base.specs.declared.span.Span.{Span}
use Rattle.co_meaning_data.specs.Frames.{Alive, Spot, Ending, Ends, EndsObject, Frame, EndsPart, Outcome, PassesMark, Full, Scope, Temporal}
use Rattle.co_meaning_data.specs.Store.{Place, end_object, make_live, type_at, whole}
use Rattle.co_meaning_data.specs.Turn.{Local, classes, happens, pushed, store, with_store, Turned, is_uncaught, is_undefined, judged, unless_undefined}
use Rattle.co_meaning_data.specs.Undefined.{Fault, counts}
use Rattle.co_meaning_data.specs.declared.events.Event.{Event}
use Rattle.co_meaning_data.specs.declared.events.Event.TheVariants as event
use Rattle.co_meaning_calls.specs.Objects.{comes_on, stands, stands_and_comes, born_in, lives, birth, is_born, ends, dtor_of_type, end_object_by, end_whole, end_part_by, end_field, end_next, died_in, dies, has_died, abandon, endings, fields_end, temporaries_end, unseen_endings}
use Rattle.co_meaning.specs.Balanced.{births_in, deaths}
use Rattle.co_meaning_balance.proofs.Alive.{Fits, Grows, birth-is, births-add, death, deaths-add, ended-add, endings-alive, fields-alive, fits-born, stands-grows, temporaries-alive, unseen-alive}
use Rattle.co_meaning_balance.specs.Order.{frames_hold, frames_stray, object_needs}
use Rattle.co_meaning_balance.specs.Places.{ended, Keeps, Kept, KeptWith, endings_alive, object_alive, present, seen_alive}

module _ (number item limit owed : ℕ) where
  pub happened : (e : Event) (l : Local) → births_in number item (e ∷ []) ≤ deaths item (e ∷ []) → ended number item (e ∷ []) ≤ 0 → Kept number item limit owed l → Kept number item limit owed (happens e l)
  happened e l fits over known =
      let born = births-add number item l.seen (e ∷ []) in
      let died = deaths-add number item l.seen (e ∷ []) in
      let over_now = ended-add number item l.seen (e ∷ []) in
      let once = known.1 in
      let enough = known.2 in
      (known.0, omega (arith, over, over_now, once), omega (arith, fits, born, died, enough))

  pub is_undefined-keeps : (kind : Undef) (at : Span) (l : Local) → Kept number item limit owed l → Keeps number item limit owed (is_undefined kind at l)
  is_undefined-keeps kind at l known = happened (event.Undefined l.worker kind at) l (omega arith) (omega arith) known

  pub is_uncaught-keeps : (v : Thrown) (l : Local) → Kept number item limit owed l → Keeps number item limit owed (is_uncaught v l)
  is_uncaught-keeps v l known = happened (event.Uncaught l.worker v) l (omega arith) (omega arith) known

  judged-keeps : (k : Option Undef) (at : Span) (l : Local) (t : Option Turned) → Kept number item limit owed l → Keeps number item limit owed t → Keeps number item limit owed (judged k at l t)
  judged-keeps None at l t known fits = fits
  judged-keeps (Some kind) at l t known fits = is_undefined-keeps kind at l known

  pub unless-keeps : (faults : List Fault) (at : Span) (l : Local) (t : Option Turned) → Kept number item limit owed l → Keeps number item limit owed t → Keeps number item limit owed (unless_undefined faults at l t)
  unless-keeps faults at l t known fits = judged-keeps (counts faults) at l t known fits

  pub if-keeps : (c : Bool) (t u : Option Turned) → Keeps number item limit owed t → Keeps number item limit owed u → Keeps number item limit owed (if c then t else u)
  if-keeps true t u p q = p
  if-keeps false t u p q = q

  comes_on-keeps : (c : Option ℕ) (y : Alive) (outcome : Outcome) (l : Local) (o : Option (List Frame)) → Grows number item c y l.top.frames o → KeptWith number item limit owed (object_alive number item 1 y) l → Keeps number item limit owed (comes_on outcome l o)
  comes_on-keeps c y outcome l None grows known = tt
  comes_on-keeps c y outcome l (Some fs) grows known =
      let held = grows.0 in
      let more = grows.1 in
      let once = known.1 in
      let enough = known.2 in
      (known.0, omega (arith, held, once), omega (arith, more, enough))

  stands-keeps : (c : Option ℕ) (y : Alive) (spot : Spot) (outcome : Outcome) (l : Local) → Fits number item c y l.top.frames → KeptWith number item limit owed (object_alive number item 1 y) l → Keeps number item limit owed (stands_and_comes y spot outcome l)
  stands-keeps c y spot outcome l fits known = comes_on-keeps c y outcome l (stands spot y l.top.frames) (stands-grows number item c y spot l.top.frames fits) known

  born_in-keeps : (y : Alive) (spot : Spot) (outcome : Outcome) (l : Local) (o : Option ℕ) → y.coroutine ≡ o → Kept number item limit owed l → Keeps number item limit owed (born_in y spot outcome l o)
  born_in-keeps y spot outcome l None e known =
      let none = ap (λ o. seen_alive number item 1 o y.object) e in
      let enough = known.2 in
      stands-keeps None y spot outcome l (inl (omega (arith, none))) (known.0, known.1, omega (arith, enough))
  born_in-keeps y spot outcome l (Some c) e known = known

  pub lives-keeps : (y : Alive) (spot : Spot) (outcome : Outcome) (l : Local) → Kept number item limit owed l → Keeps number item limit owed (lives y spot outcome l)
  lives-keeps y spot outcome l known = born_in-keeps y spot outcome (with_store (make_live y.object (store l)) l) y.coroutine refl known

  birth-keeps : (y : Alive) (spot : Spot) (outcome : Outcome) (l : Local) (o : Option ℕ) → y.coroutine ≡ o → object_needs l.top.coroutine (frames_hold l.top.coroutine l.top.frames) o ≤ 0 → frames_stray l.top.coroutine l.top.frames ≤ 0 → Kept number item limit owed l → Keeps number item limit owed (birth y spot outcome l o)
  birth-keeps y spot outcome l None e needs order known = tt
  birth-keeps y spot outcome l (Some c) e needs order known =
      let born = births-add number item l.seen (event.Born c y.object ∷ []) in
      let died = deaths-add number item l.seen (event.Born c y.object ∷ []) in
      let one = birth-is number item c y.object in
      let same = ap (λ o. seen_alive number item 1 o y.object) e in
      let over = ended-add number item l.seen (event.Born c y.object ∷ []) in
      let once = known.1 in
      let enough = known.2 in
      stands-keeps l.top.coroutine y spot outcome (happens (event.Born c y.object) l) (fits-born number item l.top.coroutine y l.top.frames (Some c) e needs order) (known.0, omega (arith, over, once), omega (arith, born, died, one, same, enough))

  pub is_born-keeps : (y : Alive) (spot : Spot) (outcome : Outcome) (l : Local) → object_needs l.top.coroutine (frames_hold l.top.coroutine l.top.frames) y.coroutine ≤ 0 → frames_stray l.top.coroutine l.top.frames ≤ 0 → Kept number item limit owed l → Keeps number item limit owed (is_born y spot outcome l)
  is_born-keeps y spot outcome l needs order known = birth-keeps y spot outcome l y.coroutine refl needs order known

  pub ends-keeps : (list : List Ending) (outcome : Outcome) (l : Local) → KeptWith number item limit owed (endings_alive number item (present (frames_hold (Some number) l.top.frames)) list) l → Keeps number item limit owed (ends list outcome l)
  ends-keeps list outcome l known = (known.0, known.1, let enough = known.2 in omega (arith, enough))

  pub unseen_ends-keeps : (own : List ℕ) (outcome : Outcome) (l : Local) → Kept number item limit owed l → Keeps number item limit owed (ends (unseen_endings own) outcome l)
  unseen_ends-keeps own outcome l known = ends-keeps (unseen_endings own) outcome l (known.0, known.1, let none = unseen-alive number item (present (frames_hold (Some number) l.top.frames)) own in let enough = known.2 in omega (arith, none, enough))

  pub fields_end-keeps : (p : Place) (k : ℕ) (outcome : Outcome) (l : Local) → Kept number item limit owed l → Keeps number item limit owed (ends (fields_end p k) outcome l)
  fields_end-keeps p k outcome l known = ends-keeps (fields_end p k) outcome l (known.0, known.1, let none = fields-alive number item (present (frames_hold (Some number) l.top.frames)) p k in let enough = known.2 in omega (arith, none, enough))

  pub full_ends-keeps : (ts : List Temporal) (outcome : Outcome) (l : Local) → Kept number item limit owed (pushed (Full ts) l) → Keeps number item limit owed (ends (temporaries_end ts) outcome l)
  full_ends-keeps ts outcome l known = ends-keeps (temporaries_end ts) outcome l (known.0, known.1, let same = temporaries-alive number item (present (frames_hold (Some number) l.top.frames)) ts in let enough = known.2 in omega (arith, same, enough))

  pub scope_ends-keeps : (alive : List Alive) (outcome : Outcome) (l : Local) → Kept number item limit owed (pushed (Scope alive []) l) → Keeps number item limit owed (ends (endings alive) outcome l)
  scope_ends-keeps alive outcome l known = ends-keeps (endings alive) outcome l (known.0, known.1, let same = endings-alive number item (present (frames_hold (Some number) l.top.frames)) alive in let enough = known.2 in omega (arith, same, enough))

  end_object_by-keeps : (y : Alive) (l : Local) (f : Option FuncId) → KeptWith number item limit owed (object_alive number item (present (frames_hold (Some number) l.top.frames)) y) l → Keeps number item limit owed (end_object_by y l f)
  end_object_by-keeps y l None known = known
  end_object_by-keeps y l (Some f) known = (known.0, known.1, let enough = known.2 in omega (arith, enough))

  end_whole-keeps : (y : Alive) (l : Local) → KeptWith number item limit owed (object_alive number item (present (frames_hold (Some number) l.top.frames)) y) l → Keeps number item limit owed (end_whole y l)
  end_whole-keeps y l known = end_object_by-keeps y l (dtor_of_type l (type_at (classes l) (store l) (whole y.object))) known

  end_part_by-keeps : (p : Place) (l : Local) (o : Option FuncId) → Kept number item limit owed l → Keeps number item limit owed (end_part_by p l o)
  end_part_by-keeps p l None known = known
  end_part_by-keeps p l (Some f) known = known

  end_field-keeps : (p : Place) (l : Local) → Kept number item limit owed l → Keeps number item limit owed (end_field p l)
  end_field-keeps p l known = end_part_by-keeps p l (dtor_of_type l (type_at (classes l) (store l) p)) known

  pub end_next-keeps : (list : List Ending) (outcome : Outcome) (l : Local) → KeptWith number item limit owed (endings_alive number item (present (frames_hold (Some number) l.top.frames)) list) l → Keeps number item limit owed (end_next list outcome l)
  end_next-keeps [] outcome l known = (known.0, known.1, let enough = known.2 in omega (arith, enough))
  end_next-keeps (EndsObject y ∷ rest) outcome l known = end_whole-keeps y (pushed (Ends rest outcome) l) (known.0, known.1, let enough = known.2 in omega (arith, enough))
  end_next-keeps (EndsPart p ∷ rest) outcome l known = end_field-keeps p (pushed (Ends rest outcome) l) (known.0, known.1, let enough = known.2 in omega (arith, enough))
  end_next-keeps (PassesMark None ∷ rest) outcome l known = ends-keeps rest outcome l (known.0, known.1, let enough = known.2 in omega (arith, enough))
  end_next-keeps (PassesMark (Some y) ∷ rest) outcome l known = ends-keeps (EndsObject y ∷ rest) outcome l known

  died_in-keeps : (y : Alive) (l : Local) (o : Option ℕ) → y.coroutine ≡ o → KeptWith number item limit owed (object_alive number item (present (frames_hold (Some number) l.top.frames)) y) l → Keeps number item limit owed (died_in y l o)
  died_in-keeps y l None e known =
      let none = ap (λ o. seen_alive number item (present (frames_hold (Some number) l.top.frames)) o y.object) e in
      let enough = known.2 in
      (known.0, known.1, omega (arith, none, enough))
  died_in-keeps y l (Some c) e known =
      let same = ap (λ o. seen_alive number item (present (frames_hold (Some number) l.top.frames)) o y.object) e in
      let enough = known.2 in
      (known.0, known.1, omega (arith, same, enough))

  pub dies-keeps : (y : Alive) (l : Local) → KeptWith number item limit owed (object_alive number item (present (frames_hold (Some number) l.top.frames)) y) l → Keeps number item limit owed (dies y l)
  dies-keeps y l known = died_in-keeps y (with_store (end_object y.object (store l)) l) y.coroutine refl known

  pub has_died-keeps : (c y : ℕ) (l : Local) → KeptWith number item limit owed (seen_alive number item (present (frames_hold (Some number) l.top.frames)) (Some c) y) l → Keeps number item limit owed (has_died c y l)
  has_died-keeps c y l known =
      let born = births-add number item l.seen (event.Died c y ∷ []) in
      let died = deaths-add number item l.seen (event.Died c y ∷ []) in
      let one = death number item (frames_hold (Some number) l.top.frames) c y in
      let over = ended-add number item l.seen (event.Died c y ∷ []) in
      let once = known.1 in
      let enough = known.2 in
      (known.0, omega (arith, over, once), omega (arith, born, died, one, enough))

  pub abandon-keeps : (x : ℕ) (outcome : Outcome) (l : Local) → Kept number item limit owed l → Keeps number item limit owed (abandon x outcome l)
  abandon-keeps x outcome l known = known
