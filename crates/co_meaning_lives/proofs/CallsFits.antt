-- Calls keep what is to come.
use Rattle.std.proofs.Common.{◌≡◌, ℕ, zero, suc, ◌+◌, ◌≤◌, List, [], ◌∷◌, ◌++◌, Bool, true, false, Some, None, refl, arith, length}
use Rattle.std.specs.Prelude.{if◌then◌else◌, replicate, reverse, slice_get, Option, is_some}
use Rattle.co_base.specs.declared.ids.ClassId.{ClassId}
use Rattle.co_base.specs.declared.ids.SlotId.{SlotId}
use Rattle.co_types.specs.declared.types.CoType.{CoType}
use Rattle.co_core_tree.specs.Acts.{Act, init_acts}
use Rattle.co_core_tree.specs.Slots.{Temporary, class_params, is_class, temporaries}
use Rattle.co_core_tree.specs.declared.exprs.Init.{Init}
use Rattle.co_core_tree.specs.declared.stmts.CoreStmt.{CoreStmt}
use Rattle.co_core_tree.specs.declared.units.CoreFunc.{CoreFunc}
use Rattle.co_core_tree.specs.declared.units.FuncRole.{FuncRole}
use Rattle.co_meaning_data.specs.declared.values.Value.{Value}
use Rattle.co_meaning_data.specs.Frames.{Activation, ArgumentMade, At, Building, Call, Called, Calling, Comes, Constructing, Doing, Execute, FieldMade, Frame, Full, Function, Given, Gives, Goes, Going, Idle, Initialize, Kind, Nothing, OfFunction, Opens, Outcome, Passes, RampTake, Returning, Temporal, Throwing}
use Rattle.co_meaning_data.specs.Store.{make_live, Place, Store, field_of_place, live_object, next_object, whole, raw_object}
use Rattle.co_meaning_calls.specs.Objects.{unseen_endings, type_of_slot, with_raw}
use Rattle.co_meaning_data.specs.Turn.{Local, func_of, funcs, parts_for, pushed, store, with_frames, with_store, classes}
use Rattle.co_meaning_calls.specs.Calls.{unmade, unmade_all, mark_count, opens_with, opens, open_step, temp_of, argument_object, class_argument, argument_for, argument, argument_made, argument_lives, cells_of, bind_object, bind_parts, bind_type, bind_slot, slot_type, bind_rest, bind, border, around, this_of, member_frames, first_doing, frames_for, doing_for, activation_for, entered, enter_in, enter, next_member, next_element, one_more_field, field_made, returned_main, returns_to, returns, throws_to, last_frame, function_left, at_border, call_returned, Bound}
use Rattle.co_meaning_lives.specs.Tokens.{Fits, activations_weigh, common_weighs, credits, doing_weighs, frames_weigh, fresh_weighs, local_weighs, rest_weighs, temporaries_weigh}
use Rattle.co_meaning_lives.proofs.Weights.{make_live-count, same, fresh, goes-fits, under-fits, gives-fits, passes-fits, leaves-fits, rests-fits, calls-fits, is_uncaught-fits, marks, unseen-weigh, frames-join}
use Rattle.co_core_tree.specs.declared.units.FuncRole.TheVariants as role
use Rattle.co_meaning_lives.proofs.ObjectsFits.{ends-fits}

module _ (item raw on_birth on_death credit each : ℕ) (small : on_birth + on_death ≤ raw + credit) where
  temporaries-join : (ts us : List Temporal) → temporaries_weigh item raw on_birth on_death credit each (ts ++ us) ≡ temporaries_weigh item raw on_birth on_death credit each ts + temporaries_weigh item raw on_birth on_death credit each us
  temporaries-join [] us = omega arith
  temporaries-join (t ∷ ts) us = let rest = temporaries-join ts us in omega (arith, rest)

  unmade-weigh : (func : Option CoreFunc) (ts : List Temporary) → temporaries_weigh item raw on_birth on_death credit each (unmade_all func ts) ≡ 0
  unmade-weigh func [] = refl
  unmade-weigh func (t ∷ ts) = let rest = unmade-weigh func ts in let both = temporaries-join (unmade_all func ts) (unmade func t ∷ []) in omega (arith, rest, both)

  pub around-weigh : (func : CoreFunc) (own : List ℕ) → frames_weigh item raw on_birth on_death credit each (around func own) ≡ 0
  around-weigh func own = go func.noexcept
    where
      go : (c : Bool) → frames_weigh item raw on_birth on_death credit each (border c ++ Function own ∷ []) ≡ 0
      go true = omega arith
      go false = omega arith

  members-weigh : (this : Option Place) (r : FuncRole) (body : CoreStmt) → frames_weigh item raw on_birth on_death credit each (member_frames this r body) ≡ 0
  members-weigh (Some p) (role.Ctor class members) body = refl
  members-weigh (Some p) (role.Dtor class) body = refl
  members-weigh this r body = refl

  frames-weigh : (func : CoreFunc) (given : List Given) (own : List ℕ) → frames_weigh item raw on_birth on_death credit each (frames_for func given own) ≡ 0
  frames-weigh func given own = go (around-weigh func own) (members-weigh (this_of given) func.role func.body) (frames-join item raw on_birth on_death credit each small (member_frames (this_of given) func.role func.body) (around func own)) (is_some func.plan)
    where
      go : frames_weigh item raw on_birth on_death credit each (around func own) ≡ 0 → frames_weigh item raw on_birth on_death credit each (member_frames (this_of given) func.role func.body) ≡ 0 → frames_weigh item raw on_birth on_death credit each (member_frames (this_of given) func.role func.body ++ around func own) ≡ frames_weigh item raw on_birth on_death credit each (member_frames (this_of given) func.role func.body) + frames_weigh item raw on_birth on_death credit each (around func own) → (c : Bool) → frames_weigh item raw on_birth on_death credit each (if c then RampTake ∷ around func own else member_frames (this_of given) func.role func.body ++ around func own) ≡ 0
      go p q r true = omega (arith, p)
      go p q r false = omega (arith, p, q, r)

  first-weighs : (r : FuncRole) (body : CoreStmt) → doing_weighs item raw on_birth on_death credit each (first_doing r body) ≡ 0
  first-weighs (role.Ctor class members) body = refl
  first-weighs r body = refl

  doing-weighs : (func : CoreFunc) → doing_weighs item raw on_birth on_death credit each (doing_for func) ≡ 0
  doing-weighs func = go (first-weighs func.role func.body) (is_some func.plan)
    where
      go : doing_weighs item raw on_birth on_death credit each (first_doing func.role func.body) ≡ 0 → (c : Bool) → doing_weighs item raw on_birth on_death credit each (if c then Comes Passes else first_doing func.role func.body) ≡ 0
      go p true = refl
      go p false = p

  -- what the parameters weigh
  abbrev IfBound : ℕ → Option Bound → Type 0
  IfBound m None = Unit {0}
  IfBound m (Some b) = fresh_weighs item raw on_birth on_death credit each b.store ≤ m

  bind_object-fits : (m slot : ℕ) (g : Given) (b : Bound) → IfBound m (Some b) → IfBound m (bind_object slot g b)
  bind_object-fits m slot (At p) b known = known
  bind_object-fits m slot g b known = tt

  bind_parts-fits : (m slot : ℕ) (of : CoType) (b : Bound) (vs : Option (List Value)) → IfBound m (Some b) → IfBound m (bind_parts slot of b vs)
  bind_parts-fits m slot of b None known = tt
  bind_parts-fits m slot of b (Some vs) known =
      let new = fresh item raw on_birth on_death credit each small (live_object of (cells_of vs)) b.store in
      omega (arith, known, new)

  bind_type-fits : (m slot : ℕ) (of : CoType) (g : Given) (b : Bound) → IfBound m (Some b) → IfBound m (bind_type slot of g b)
  bind_type-fits m slot of g b known = go (bind_object-fits m slot g b known) (bind_parts-fits m slot of b (parts_for (Some of) g) known) (is_class of)
    where
      go : IfBound m (bind_object slot g b) → IfBound m (bind_parts slot of b (parts_for (Some of) g)) → (c : Bool) → IfBound m (if c then bind_object slot g b else bind_parts slot of b (parts_for (Some of) g))
      go p q true = p
      go p q false = q

  bind_slot-fits : (m slot : ℕ) (of : Option CoType) (g : Given) (b : Bound) → IfBound m (Some b) → IfBound m (bind_slot slot of g b)
  bind_slot-fits m slot None g b known = tt
  bind_slot-fits m slot (Some of) g b known = bind_type-fits m slot of g b known

  bind_rest-fits : (m : ℕ) (func : CoreFunc) (slots : List SlotId) (given : List Given) (b : Option Bound) → IfBound m b → IfBound m (bind_rest func slots given b)
  bind_rest-fits m func slots given None known = tt
  bind_rest-fits m func [] [] (Some b) known = known
  bind_rest-fits m func (slot ∷ slots) (g ∷ given) (Some b) known = bind_rest-fits m func slots given (bind_slot slot.0 (slot_type func slot.0) g b) (bind_slot-fits m slot.0 (slot_type func slot.0) g b known)
  bind_rest-fits m func slots given (Some b) known = tt

  bind-fits : (func : CoreFunc) (given : List Given) (s : Store) → IfBound (fresh_weighs item raw on_birth on_death credit each s) (bind func given s)
  bind-fits func given s = bind_rest-fits (fresh_weighs item raw on_birth on_death credit each s) func func.params given (Some (record { store = s; slots = replicate (length func.slots) None; own = [] })) (omega arith)

  returned-main : (k : Kind) (g : Given) (l : Local) → (common_weighs item raw on_birth on_death credit each (returned_main k g l) ≡ common_weighs item raw on_birth on_death credit each l) × (credits item raw on_birth on_death credit each (returned_main k g l).seen ≡ credits item raw on_birth on_death credit each l.seen)
  returned-main OfFunction g l = (refl, refl)
  returned-main k g l = (refl, refl)

  one-more : (fs : List Frame) → frames_weigh item raw on_birth on_death credit each (one_more_field fs) ≡ frames_weigh item raw on_birth on_death credit each fs
  one-more (Building p built rest ∷ fs) = refl
  one-more (Constructing p class built rest body ∷ fs) = refl
  one-more (Full ts ∷ fs) = let rest = one-more fs in omega (arith, rest)
  one-more fs = refl

  opens_with-fits : (limit : ℕ) (ts : List Temporal) (inner : List Frame) (d : Doing) (l : Local) → temporaries_weigh item raw on_birth on_death credit each ts + (frames_weigh item raw on_birth on_death credit each inner + (doing_weighs item raw on_birth on_death credit each d + local_weighs item raw on_birth on_death credit each l)) ≤ limit + credits item raw on_birth on_death credit each l.seen → Fits item raw on_birth on_death credit each limit (opens_with ts inner d l)
  opens_with-fits limit ts inner d l known = goes-fits item raw on_birth on_death credit each small limit (Opens (mark_count ts) d) (with_frames (inner ++ Full ts ∷ l.top.frames) l) (let both = frames-join item raw on_birth on_death credit each small inner (Full ts ∷ l.top.frames) in omega (arith, known, both))

  pub opens-fits : (limit : ℕ) (list : List Act) (inner : List Frame) (d : Doing) (l : Local) → frames_weigh item raw on_birth on_death credit each inner + (doing_weighs item raw on_birth on_death credit each d + local_weighs item raw on_birth on_death credit each l) + each ≤ limit + credits item raw on_birth on_death credit each l.seen → Fits item raw on_birth on_death credit each limit (opens list inner d l)
  opens-fits limit list inner d l known = opens_with-fits limit (unmade_all (func_of l) (temporaries list)) inner d l (let none = unmade-weigh (func_of l) (temporaries list) in omega (arith, known, none))

  pub open_step-fits : (limit : ℕ) (y0 : ℕ) (y1 : Doing) (y2 : Local) → doing_weighs item raw on_birth on_death credit each y1 + (local_weighs item raw on_birth on_death credit each y2) + each ≤ limit + credits item raw on_birth on_death credit each y2.seen → Fits item raw on_birth on_death credit each limit (open_step y0 y1 y2)
  open_step-fits limit zero d l known = (goes-fits item raw on_birth on_death credit each small limit d l (omega (arith, known)))
  open_step-fits limit (suc marks) d l known = (goes-fits item raw on_birth on_death credit each small limit (Opens marks d) l (omega (arith, known)))

  pub argument_object-fits : (limit : ℕ) (y0 : ℕ) (y1 : Init) (y2 : Call) (y3 : Local) (y4 : Option CoType) → local_weighs item raw on_birth on_death credit each y3 + each ≤ limit + credits item raw on_birth on_death credit each y3.seen → Fits item raw on_birth on_death credit each limit (argument_object y0 y1 y2 y3 y4)
  argument_object-fits limit slot i call l None known = tt
  argument_object-fits limit slot i call l (Some of) known = (under-fits item raw on_birth on_death credit each small limit (ArgumentMade (next_object (store l))) (Initialize i (Some (whole (next_object (store l))))) (pushed (Calling call) (with_raw slot of None l)) (let f0 = fresh item raw on_birth on_death credit each small (raw_object (classes l) of None None) (store l) in omega (arith, known, f0)))

  pub class_argument-fits : (limit : ℕ) (y0 : Call) (y1 : Init) (y2 : Local) (y3 : Option (ℕ × Init)) → local_weighs item raw on_birth on_death credit each y2 + each ≤ limit + credits item raw on_birth on_death credit each y2.seen → Fits item raw on_birth on_death credit each limit (class_argument y0 y1 y2 y3)
  class_argument-fits limit call i l None known = (under-fits item raw on_birth on_death credit each small limit (Calling call) (Initialize i None) l (omega (arith, known)))
  class_argument-fits limit call i l (Some made) known = (argument_object-fits limit made.0 made.1 call l (type_of_slot l made.0) (omega (arith, known)))

  pub argument_for-fits : (limit : ℕ) (y0 : Option Bool) (y1 : Init) (y2 : Call) (y3 : Local) → local_weighs item raw on_birth on_death credit each y3 + each ≤ limit + credits item raw on_birth on_death credit each y3.seen → Fits item raw on_birth on_death credit each limit (argument_for y0 y1 y2 y3)
  argument_for-fits limit (Some true) i call l known = (class_argument-fits limit call i l (temp_of i) (omega (arith, known)))
  argument_for-fits limit flag i call l known = (under-fits item raw on_birth on_death credit each small limit (Calling call) (Initialize i None) l (omega (arith, known)))

  pub argument-fits : (limit : ℕ) (y0 : Call) (y1 : Init) (y2 : Local) → local_weighs item raw on_birth on_death credit each y2 + each ≤ limit + credits item raw on_birth on_death credit each y2.seen → Fits item raw on_birth on_death credit each limit (argument y0 y1 y2)
  argument-fits limit call i l known = (argument_for-fits limit (slice_get (class_params (funcs l) call.func) (length call.given)) i call l (omega (arith, known)))

  pub argument_made-fits : (limit : ℕ) (y0 : ℕ) (y1 : Call) (y2 : Local) → local_weighs item raw on_birth on_death credit each y2 + each ≤ limit + credits item raw on_birth on_death credit each y2.seen → Fits item raw on_birth on_death credit each limit (argument_made y0 y1 y2)
  argument_made-fits limit x call l known = (gives-fits item raw on_birth on_death credit each small limit (At (whole x)) (with_store (make_live x (store l)) (pushed (Calling (record call { objects = x ∷ call.objects })) l)) (let f0 = same item raw on_birth on_death credit each small (make_live x (store l)) (store l) (make_live-count x (store l)) in omega (arith, known, f0)))

  pub argument_lives-fits : (limit : ℕ) (y0 : ℕ) (y1 : List Frame) (y2 : Local) → frames_weigh item raw on_birth on_death credit each y1 + (rest_weighs item raw on_birth on_death credit each y2) + each ≤ limit + credits item raw on_birth on_death credit each y2.seen → Fits item raw on_birth on_death credit each limit (argument_lives y0 y1 y2)
  argument_lives-fits limit x (Calling call ∷ fs) l known = (argument_made-fits limit x call (with_frames fs l) (omega (arith, known)))
  argument_lives-fits limit x fs l known = tt

  entered-fits : (limit : ℕ) (func : CoreFunc) (call : Call) (l : Local) (b : Option Bound) → IfBound (fresh_weighs item raw on_birth on_death credit each (store l)) b → local_weighs item raw on_birth on_death credit each l + each ≤ limit + credits item raw on_birth on_death credit each l.seen → Fits item raw on_birth on_death credit each limit (entered func call l b)
  entered-fits limit func call l None bound known = tt
  entered-fits limit func call l (Some b) bound known =
      let frames = frames-weigh func (reverse call.given) b.own in
      let doing = doing-weighs func in
      calls-fits item raw on_birth on_death credit each small limit (doing_for func) (activation_for func call b) (pushed (Called call.objects) (with_store b.store l)) (omega (arith, known, bound, frames, doing))

  enter_in-fits : (limit : ℕ) (call : Call) (l : Local) (func : Option CoreFunc) → local_weighs item raw on_birth on_death credit each l + each ≤ limit + credits item raw on_birth on_death credit each l.seen → Fits item raw on_birth on_death credit each limit (enter_in call l func)
  enter_in-fits limit call l None known = tt
  enter_in-fits limit call l (Some func) known = entered-fits limit func call l (bind func (reverse call.given) (store l)) (bind-fits func (reverse call.given) (store l)) known

  pub enter-fits : (limit : ℕ) (y0 : Call) (y1 : Local) → local_weighs item raw on_birth on_death credit each y1 + each ≤ limit + credits item raw on_birth on_death credit each y1.seen → Fits item raw on_birth on_death credit each limit (enter y0 y1)
  enter-fits limit call l known = (enter_in-fits limit call l (slice_get (funcs l) call.func.0) (omega (arith, known)))

  pub next_member-fits : (limit : ℕ) (y0 : Place) (y1 : ClassId) (y2 : ℕ) (y3 : List Init) (y4 : List CoreStmt) (y5 : Local) → local_weighs item raw on_birth on_death credit each y5 + each ≤ limit + credits item raw on_birth on_death credit each y5.seen → Fits item raw on_birth on_death credit each limit (next_member y0 y1 y2 y3 y4 y5)
  next_member-fits limit p class built (i ∷ rest) body l known = (opens-fits limit (init_acts (class_params (funcs l)) false false i) (FieldMade ∷ []) (Initialize i (Some (field_of_place p built))) (pushed (Constructing p class built rest body) l) (omega (arith, known)))
  next_member-fits limit p class built [] (s ∷ body) l known = (under-fits item raw on_birth on_death credit each small limit (Constructing p class built [] body) (Execute s) l (omega (arith, known)))
  next_member-fits limit p class built [] [] l known = (passes-fits item raw on_birth on_death credit each small limit l (omega (arith, known)))

  pub next_element-fits : (limit : ℕ) (y0 : Place) (y1 : ℕ) (y2 : List Init) (y3 : Local) → local_weighs item raw on_birth on_death credit each y3 + each ≤ limit + credits item raw on_birth on_death credit each y3.seen → Fits item raw on_birth on_death credit each limit (next_element y0 y1 y2 y3)
  next_element-fits limit p built (i ∷ rest) l known = (under-fits item raw on_birth on_death credit each small limit FieldMade (Initialize i (Some (field_of_place p built))) (pushed (Building p built rest) l) (omega (arith, known)))
  next_element-fits limit p built [] l known = (passes-fits item raw on_birth on_death credit each small limit l (omega (arith, known)))

  pub field_made-fits : (limit : ℕ) (l : Local) → local_weighs item raw on_birth on_death credit each l + each ≤ limit + credits item raw on_birth on_death credit each l.seen → Fits item raw on_birth on_death credit each limit (field_made l)
  field_made-fits limit l known = passes-fits item raw on_birth on_death credit each small limit (with_frames (one_more_field l.top.frames) l) (let kept = one-more l.top.frames in omega (arith, known, kept))

  pub returns_to-fits : (limit : ℕ) (below : List Activation) (g : Given) (l : Local) → activations_weigh item raw on_birth on_death credit each below + common_weighs item raw on_birth on_death credit each l + each ≤ limit + credits item raw on_birth on_death credit each l.seen → Fits item raw on_birth on_death credit each limit (returns_to below g l)
  returns_to-fits limit [] g l known = rests-fits item raw on_birth on_death credit each small limit Idle (returned_main l.top.kind g l) (let kept = (returned-main l.top.kind g l).0 in let worth = (returned-main l.top.kind g l).1 in omega (arith, known, kept, worth))
  returns_to-fits limit (a ∷ rest) g l known = gives-fits item raw on_birth on_death credit each small limit g (record l { top = a; below = rest }) (omega (arith, known))

  pub returns-fits : (limit : ℕ) (y0 : Given) (y1 : Local) → local_weighs item raw on_birth on_death credit each y1 + each ≤ limit + credits item raw on_birth on_death credit each y1.seen → Fits item raw on_birth on_death credit each limit (returns y0 y1)
  returns-fits limit g l known = (returns_to-fits limit l.below g l (omega (arith, known)))

  pub throws_to-fits : (limit : ℕ) (y0 : List Activation) (y1 : Going) (y2 : Local) → frames_weigh item raw on_birth on_death credit each y2.top.frames + (activations_weigh item raw on_birth on_death credit each y0 + (common_weighs item raw on_birth on_death credit each y2)) + each ≤ limit + credits item raw on_birth on_death credit each y2.seen → Fits item raw on_birth on_death credit each limit (throws_to y0 y1 y2)
  throws_to-fits limit [] (Throwing v) l known = (is_uncaught-fits item raw on_birth on_death credit each small limit v (record l { below = [] }) (omega (arith, known)))
  throws_to-fits limit (a ∷ rest) (Throwing v) l known = (leaves-fits item raw on_birth on_death credit each small limit (Throwing v) (record l { top = a; below = rest }) (omega (arith, known)))
  throws_to-fits limit below going l known = tt

  pub last_frame-fits : (limit : ℕ) (y0 : Outcome) (y1 : Local) → local_weighs item raw on_birth on_death credit each y1 + each ≤ limit + credits item raw on_birth on_death credit each y1.seen → Fits item raw on_birth on_death credit each limit (last_frame y0 y1)
  last_frame-fits limit (Gives g) l known = (returns-fits limit g l (omega (arith, known)))
  last_frame-fits limit Passes l known = (returns-fits limit Nothing l (omega (arith, known)))
  last_frame-fits limit (Goes going) l known = (throws_to-fits limit l.below going l (omega (arith, known)))

  pub function_left-fits : (limit : ℕ) (y0 : List ℕ) (y1 : Going) (y2 : Local) → local_weighs item raw on_birth on_death credit each y2 + each ≤ limit + credits item raw on_birth on_death credit each y2.seen → Fits item raw on_birth on_death credit each limit (function_left y0 y1 y2)
  function_left-fits limit own (Returning g) l known = (ends-fits item raw on_birth on_death credit each small limit (unseen_endings own) (Gives g) l (let f0 = unseen-weigh item raw on_birth on_death credit each small own in omega (arith, known, f0)))
  function_left-fits limit own (Throwing v) l known = (ends-fits item raw on_birth on_death credit each small limit (unseen_endings own) (Goes (Throwing v)) l (let f0 = unseen-weigh item raw on_birth on_death credit each small own in omega (arith, known, f0)))
  function_left-fits limit own going l known = tt

  pub at_border-fits : (limit : ℕ) (y0 : Going) (y1 : Local) → local_weighs item raw on_birth on_death credit each y1 + each ≤ limit + credits item raw on_birth on_death credit each y1.seen → Fits item raw on_birth on_death credit each limit (at_border y0 y1)
  at_border-fits limit (Throwing v) l known = (is_uncaught-fits item raw on_birth on_death credit each small limit v l (omega (arith, known)))
  at_border-fits limit going l known = (leaves-fits item raw on_birth on_death credit each small limit going l (omega (arith, known)))

  pub call_returned-fits : (limit : ℕ) (y0 : List ℕ) (y1 : Outcome) (y2 : Local) → local_weighs item raw on_birth on_death credit each y2 + each ≤ limit + credits item raw on_birth on_death credit each y2.seen → Fits item raw on_birth on_death credit each limit (call_returned y0 y1 y2)
  call_returned-fits limit [] outcome l known = (goes-fits item raw on_birth on_death credit each small limit (Comes outcome) l (omega (arith, known)))
  call_returned-fits limit (x ∷ xs) outcome l known = (ends-fits item raw on_birth on_death credit each small limit (unseen_endings (x ∷ xs)) outcome l (let f0 = unseen-weigh item raw on_birth on_death credit each small (x ∷ xs) in omega (arith, known, f0)))
