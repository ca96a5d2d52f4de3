-- How objects are made and how they end.
use Rattle.std.specs.Prelude.{ℕ, zero, suc, Bool, true, false, ◌==◌, if◌then◌else◌, List, [], ◌∷◌, ◌++◌, slice_get, Option, None, Some}
use Rattle.std.specs.Option.{option_map}
use Rattle.co_base.specs.declared.ids.FuncId.{FuncId}
use Rattle.co_base.specs.declared.span.Span.{Span}
use Rattle.co_types.specs.declared.classes.FuncInfo.{FuncInfo}
use Rattle.co_types.specs.declared.types.CoType.{CoType}
use Rattle.co_types.specs.declared.types.Head.{Head}
use Rattle.co_types.specs.declared.types.Head.TheVariants as head
use Rattle.co_types.specs.Types.{head_of}
use Rattle.co_core_tree.specs.Sizes.{dtor_of}
use Rattle.co_core_tree.specs.Slots.{is_class}
use Rattle.co_core_tree.specs.declared.units.CoreFunc.{CoreFunc}
use Rattle.co_core_tree.specs.declared.units.SlotInfo.{SlotInfo}
use Rattle.co_meaning_data.specs.declared.events.Event.TheVariants as event
use Rattle.co_meaning_data.specs.Frames.{Alive, Spot, InScope, InFull, InHold, At, AwaitSuspend, Calling, Comes, Dies, Ending, Ends, EndsObject, EndsPart, Frame, Full, Given, HasDied, Holds, IsBorn, ObjectEnds, Outcome, PartEnds, Passes, PassesMark, Scope, Temporal}
use Rattle.co_meaning_data.specs.Store.{Place, add_object, end_object, end_part, make_live, next_object, raw_object, type_at, whole}
use Rattle.co_meaning_data.specs.Turn.{with_frames, Local, Turned, classes, func_of, goes, happens, nowhere, passes, pushed, store, under, with_slot, with_store}

-- ---- making [basic.life]

abbrev pub slot_type_in : Option SlotInfo → Option CoType
slot_type_in None = None
slot_type_in (Some slot) = Some slot.of

abbrev pub slot_in : Option CoreFunc → ℕ → Option CoType
slot_in None slot = None
slot_in (Some func) slot = slot_type_in (slice_get func.slots slot)

-- the type of a slot of the function
abbrev pub type_of_slot : Local → ℕ → Option CoType
type_of_slot l slot = slot_in (func_of l) slot

-- the object of a slot of a coroutine is one of those whose births and deaths are seen where it is of a class
abbrev pub counted_in : Local → CoType → Option ℕ
counted_in l of = if is_class of then l.top.coroutine else None

-- the state with a new raw object in a slot; its number is the next one
abbrev pub with_raw : ℕ → CoType → Option ℕ → Local → Local
with_raw slot of coroutine l =
    with_slot slot (next_object (store l)) (with_store (add_object (raw_object (classes l) of None coroutine) (store l)) l)

-- an object whose birth and death are not seen
abbrev pub unseen : ℕ → Alive
unseen x = record { object = x; coroutine = None }

-- ---- what is alive in the frames

-- Where an object that lives has no place to stand there is no step: each frame below is looked at, the innermost first.

-- the local stands in its block's scope from now on [stmt.block]
abbrev pub into_scope : Alive → List Frame → Option (List Frame)
into_scope x [] = None
into_scope x (Scope alive rest ∷ fs) = Some (Scope (x ∷ alive) rest ∷ fs)
into_scope x (f ∷ fs) = option_map (λ gs. f ∷ gs) (into_scope x fs)

abbrev pub made_of : Alive → Temporal → List Temporal → Option Alive → Option (List Temporal)
made_of x t ts None = Some (record t { object = Some x } ∷ ts)
made_of x t ts (Some y) = None

-- a temporary is made once
abbrev pub made_temporaries : ℕ → Alive → List Temporal → Option (List Temporal)
made_temporaries slot x [] = None
made_temporaries slot x (t ∷ ts) = if t.slot == slot then made_of x t ts t.object else option_map (λ us. t ∷ us) (made_temporaries slot x ts)

abbrev pub own_with : Alive → List ℕ → Option ℕ → Option (List ℕ)
own_with x own None = Some (x.object ∷ own)
own_with x own (Some c) = None

-- The temporary stands in its full-expression from now on. One that is made for `await_suspend` is the agent's own, and no class of
-- the file [class.temporary].
abbrev pub into_full : ℕ → Alive → List Frame → Option (List Frame)
into_full slot x [] = None
into_full slot x (Full ts ∷ fs) = option_map (λ us. Full us ∷ fs) (made_temporaries slot x ts)
into_full slot x (AwaitSuspend plan into own ∷ fs) = option_map (λ xs. AwaitSuspend plan into xs ∷ fs) (own_with x own x.coroutine)
into_full slot x (f ∷ fs) = option_map (λ gs. f ∷ gs) (into_full slot x fs)

-- the parameter copy or the promise is alive from now on [dcl.fct.def.coroutine]
abbrev pub into_hold : Alive → List Frame → Option (List Frame)
into_hold x [] = None
into_hold x (Holds hold ∷ fs) = Some (Holds (record hold { alive = x ∷ hold.alive }) ∷ fs)
into_hold x (f ∷ fs) = option_map (λ gs. f ∷ gs) (into_hold x fs)

abbrev pub stands : Spot → Alive → List Frame → Option (List Frame)
stands InScope x fs = into_scope x fs
stands (InFull slot) x fs = into_full slot x fs
stands InHold x fs = into_hold x fs

abbrev pub live_temporaries : ℕ → List Temporal → List Temporal
live_temporaries slot [] = []
live_temporaries slot (t ∷ ts) = if t.slot == slot then record t { live = true } ∷ ts else t ∷ live_temporaries slot ts

-- the temporary is live, and its mark is set
abbrev pub set_mark : ℕ → List Frame → List Frame
set_mark slot [] = []
set_mark slot (Full ts ∷ fs) = Full (live_temporaries slot ts) ∷ fs
set_mark slot (f ∷ fs) = f ∷ set_mark slot fs

-- ---- the beginning of a lifetime [basic.life]

abbrev pub comes_on : Outcome → Local → Option (List Frame) → Option Turned
comes_on outcome l None = None
comes_on outcome l (Some fs) = goes (Comes outcome) (with_frames fs l)

-- the object stands there, and this comes to the frame on top
abbrev pub stands_and_comes : Alive → Spot → Outcome → Local → Option Turned
stands_and_comes x spot outcome l = comes_on outcome l (stands spot x l.top.frames)

abbrev pub born_in : Alive → Spot → Outcome → Local → Option ℕ → Option Turned
born_in x spot outcome l None = stands_and_comes x spot outcome l
born_in x spot outcome l (Some c) = goes (IsBorn x spot outcome) l

-- The object is live from this step on. Where its birth is seen it is seen in the next one.
abbrev pub lives : Alive → Spot → Outcome → Local → Option Turned
lives x spot outcome l = born_in x spot outcome (with_store (make_live x.object (store l)) l) x.coroutine

abbrev pub birth : Alive → Spot → Outcome → Local → Option ℕ → Option Turned
birth x spot outcome l None = None
birth x spot outcome l (Some c) = stands_and_comes x spot outcome (happens (event.Born c x.object) l)

-- the event of a birth
abbrev pub is_born : Alive → Spot → Outcome → Local → Option Turned
is_born x spot outcome l = birth x spot outcome l x.coroutine

-- ---- what is to end

abbrev pub endings : List Alive → List Ending
endings [] = []
endings (x ∷ xs) = EndsObject x ∷ endings xs

abbrev pub unseen_endings : List ℕ → List Ending
unseen_endings [] = []
unseen_endings (x ∷ xs) = EndsObject (unseen x) ∷ unseen_endings xs

abbrev pub temporary_ends : Bool → Option Alive → List Ending
temporary_ends true x = PassesMark x ∷ []
temporary_ends false None = []
temporary_ends false (Some x) = EndsObject x ∷ []

-- The temporaries die in the reverse of the order in which they were made; each mark is passed [class.temporary].
abbrev pub temporaries_end : List Temporal → List Ending
temporaries_end [] = []
temporaries_end (t ∷ ts) = temporary_ends t.marked t.object ++ temporaries_end ts

-- the fields below this number end, the last first [class.base.init] [class.dtor]
abbrev pub fields_end : Place → ℕ → List Ending
fields_end p zero = []
fields_end p (suc k) = EndsPart (record { object = p.object; path = p.path ++ k ∷ [] }) ∷ fields_end p k

-- the frame is left: these end, and then this comes to the frame below
abbrev pub ends : List Ending → Outcome → Local → Option Turned
ends list outcome l = under (Ends list outcome) (Comes Passes) l

-- ---- ending [class.dtor]

abbrev pub id_of : Option FuncInfo → Option FuncId
id_of None = None
id_of (Some info) = Some info.id

abbrev pub dtor_of_head : Local → Head → Option FuncId
dtor_of_head l (head.Class class) = id_of (dtor_of (classes l) class)
dtor_of_head l h = None

abbrev pub dtor_of_type : Local → Option CoType → Option FuncId
dtor_of_type l None = None
dtor_of_type l (Some of) = dtor_of_head l (head_of of)

-- a call with these arguments, the last first, and no others
abbrev pub call_with : FuncId → List Given → Option Place → Span → Frame
call_with f given into at = Calling (record { func = f; given = given; objects = []; rest = []; into = into; at = at })

abbrev pub end_object_by : Alive → Local → Option FuncId → Option Turned
end_object_by x l None = goes (Dies x) l
end_object_by x l (Some f) = under (call_with f (At (whole x.object) ∷ []) None nowhere) (Comes Passes) (pushed (ObjectEnds x) l)

-- the end of an object begins: its destructor is called, if it has one
abbrev pub end_whole : Alive → Local → Option Turned
end_whole x l = end_object_by x l (dtor_of_type l (type_at (classes l) (store l) (whole x.object)))

abbrev pub end_part_by : Place → Local → Option FuncId → Option Turned
end_part_by p l None = passes (with_store (end_part (classes l) p (store l)) l)
end_part_by p l (Some f) = under (call_with f (At p ∷ []) None nowhere) (Comes Passes) (pushed (PartEnds p) l)

-- the same of a part of an object
abbrev pub end_field : Place → Local → Option Turned
end_field p l = end_part_by p l (dtor_of_type l (type_at (classes l) (store l) p))

-- the next of these ends
abbrev pub end_next : List Ending → Outcome → Local → Option Turned
end_next [] outcome l = goes (Comes outcome) l
end_next (EndsObject x ∷ rest) outcome l = end_whole x (pushed (Ends rest outcome) l)
end_next (EndsPart p ∷ rest) outcome l = end_field p (pushed (Ends rest outcome) l)
end_next (PassesMark None ∷ rest) outcome l = ends rest outcome l
end_next (PassesMark (Some x) ∷ rest) outcome l = ends (EndsObject x ∷ rest) outcome l

abbrev pub died_in : Alive → Local → Option ℕ → Option Turned
died_in x l None = passes l
died_in x l (Some c) = goes (HasDied c x.object) l

-- The object is ended: its destructor, if any, has returned. Where its death is seen it is seen in the next step [basic.life].
abbrev pub dies : Alive → Local → Option Turned
dies x l = died_in x (with_store (end_object x.object (store l)) l) x.coroutine

-- the event of a death
abbrev pub has_died : ℕ → ℕ → Local → Option Turned
has_died c x l = passes (happens (event.Died c x) l)

-- an object whose initialization is left is ended, without an event, and the leaving goes on [except.ctor]
abbrev pub abandon : ℕ → Outcome → Local → Option Turned
abandon x outcome l = goes (Comes outcome) (with_store (end_object x (store l)) l)
