-- The making and the ends of objects keep the frames in order.
use Rattle.std.proofs.Common.{ℕ, ◌≤◌, List, [], ◌∷◌, Some, None, arith}
use Rattle.std.specs.Prelude.{Option, Bool, true, false, if◌then◌else◌}
use Rattle.co_base.specs.declared.ids.FuncId.{FuncId}
use Rattle.co_base.specs.declared.kinds.Undef.{Undef}
use Rattle.co_base.specs.declared.span.Span.{Span}
use Rattle.co_meaning_data.specs.Frames.{Alive, Spot, Ending, Ends, EndsObject, Frame, EndsPart, Outcome, PassesMark}
use Rattle.co_meaning_data.specs.Store.{Place, end_object, make_live, type_at, whole}
use Rattle.co_meaning_data.specs.Turn.{Local, classes, happens, pushed, store, with_store, Turned, judged, unless_undefined}
use Rattle.co_meaning_data.specs.Undefined.{Fault, counts}
use Rattle.co_meaning_data.specs.declared.events.Event.TheVariants as event
use Rattle.co_meaning_calls.specs.Objects.{comes_on, stands, stands_and_comes, born_in, lives, birth, is_born, ends, dtor_of_type, end_object_by, end_whole, end_part_by, end_field, end_next, died_in, dies, has_died, abandon}
use Rattle.co_meaning_balance.proofs.Frames.{IfAlike, spot}
use Rattle.co_meaning_balance.specs.Order.{InOrder, local_strays, made_strays}

judged-order : (k : Option Undef) (at : Span) (l : Local) (t : Option Turned) → local_strays l ≤ 0 → InOrder t → InOrder (judged k at l t)
judged-order None at l t known fits = fits
judged-order (Some kind) at l t known fits = omega (arith, known)

pub unless-order : (faults : List Fault) (at : Span) (l : Local) (t : Option Turned) → local_strays l ≤ 0 → InOrder t → InOrder (unless_undefined faults at l t)
unless-order faults at l t known fits = judged-order (counts faults) at l t known fits

pub if-order : (c : Bool) (t u : Option Turned) → InOrder t → InOrder u → InOrder (if c then t else u)
if-order true t u p q = p
if-order false t u p q = q

comes_on-order : (outcome : Outcome) (l : Local) (o : Option (List Frame)) → IfAlike l.top.coroutine l.top.frames o → local_strays l ≤ 0 → InOrder (comes_on outcome l o)
comes_on-order outcome l None alike known = tt
comes_on-order outcome l (Some fs) alike known = let strays = alike.strays in omega (arith, known, strays)

stands-order : (y : Alive) (spot : Spot) (outcome : Outcome) (l : Local) → local_strays l ≤ 0 → InOrder (stands_and_comes y spot outcome l)
stands-order y s outcome l known = comes_on-order outcome l (stands s y l.top.frames) (spot l.top.coroutine s y l.top.frames) known

born_in-order : (y : Alive) (spot : Spot) (outcome : Outcome) (l : Local) (o : Option ℕ) → made_strays y l ≤ 0 → InOrder (born_in y spot outcome l o)
born_in-order y spot outcome l None known = stands-order y spot outcome l (omega (arith, known))
born_in-order y spot outcome l (Some c) known = omega (arith, known)

pub lives-order : (y : Alive) (spot : Spot) (outcome : Outcome) (l : Local) → made_strays y l ≤ 0 → InOrder (lives y spot outcome l)
lives-order y spot outcome l known = born_in-order y spot outcome (with_store (make_live y.object (store l)) l) y.coroutine (omega (arith, known))

birth-order : (y : Alive) (spot : Spot) (outcome : Outcome) (l : Local) (o : Option ℕ) → local_strays l ≤ 0 → InOrder (birth y spot outcome l o)
birth-order y spot outcome l None known = tt
birth-order y spot outcome l (Some c) known = stands-order y spot outcome (happens (event.Born c y.object) l) (omega (arith, known))

pub is_born-order : (y : Alive) (spot : Spot) (outcome : Outcome) (l : Local) → local_strays l ≤ 0 → InOrder (is_born y spot outcome l)
is_born-order y spot outcome l known = birth-order y spot outcome l y.coroutine known

pub ends-order : (list : List Ending) (outcome : Outcome) (l : Local) → local_strays l ≤ 0 → InOrder (ends list outcome l)
ends-order list outcome l known = omega (arith, known)

end_object_by-order : (x : Alive) (l : Local) (o : Option FuncId) → local_strays l ≤ 0 → InOrder (end_object_by x l o)
end_object_by-order x l None known = omega (arith, known)
end_object_by-order x l (Some f) known = omega (arith, known)

end_whole-order : (x : Alive) (l : Local) → local_strays l ≤ 0 → InOrder (end_whole x l)
end_whole-order x l known = end_object_by-order x l (dtor_of_type l (type_at (classes l) (store l) (whole x.object))) (omega (arith, known))

end_part_by-order : (p : Place) (l : Local) (o : Option FuncId) → local_strays l ≤ 0 → InOrder (end_part_by p l o)
end_part_by-order p l None known = omega (arith, known)
end_part_by-order p l (Some f) known = omega (arith, known)

end_field-order : (p : Place) (l : Local) → local_strays l ≤ 0 → InOrder (end_field p l)
end_field-order p l known = end_part_by-order p l (dtor_of_type l (type_at (classes l) (store l) p)) (omega (arith, known))

pub end_next-order : (list : List Ending) (outcome : Outcome) (l : Local) → local_strays l ≤ 0 → InOrder (end_next list outcome l)
end_next-order [] outcome l known = omega (arith, known)
end_next-order (EndsObject x ∷ rest) outcome l known = end_whole-order x (pushed (Ends rest outcome) l) (omega (arith, known))
end_next-order (EndsPart p ∷ rest) outcome l known = end_field-order p (pushed (Ends rest outcome) l) (omega (arith, known))
end_next-order (PassesMark None ∷ rest) outcome l known = ends-order rest outcome l (omega (arith, known))
end_next-order (PassesMark (Some x) ∷ rest) outcome l known = ends-order (EndsObject x ∷ rest) outcome l (omega (arith, known))

died_in-order : (y : Alive) (l : Local) (o : Option ℕ) → local_strays l ≤ 0 → InOrder (died_in y l o)
died_in-order y l None known = omega (arith, known)
died_in-order y l (Some c) known = omega (arith, known)

pub dies-order : (y : Alive) (l : Local) → local_strays l ≤ 0 → InOrder (dies y l)
dies-order y l known = died_in-order y (with_store (end_object y.object (store l)) l) y.coroutine (omega (arith, known))

pub has_died-order : (c : ℕ) (x : ℕ) (l : Local) → local_strays l ≤ 0 → InOrder (has_died c x l)
has_died-order c x l known = omega (arith, known)

pub abandon-order : (x : ℕ) (outcome : Outcome) (l : Local) → local_strays l ≤ 0 → InOrder (abandon x outcome l)
abandon-order x outcome l known = omega (arith, known)
