-- Calls lose no object.
use Rattle.std.proofs.Common.{◌≡◌, ℕ, zero, suc, ◌+◌, List, [], ◌∷◌, ◌++◌, Bool, true, false, Some, None, refl, arith, length, ap, subst, sym, ◌∙◌}
use Rattle.std.specs.Prelude.{if◌then◌else◌, reverse, slice_get, Option, is_some}
use Rattle.co_base.specs.declared.ids.ClassId.{ClassId}
use Rattle.co_types.specs.declared.types.CoType.{CoType}
use Rattle.co_core_tree.specs.Acts.{Act, init_acts}
use Rattle.co_core_tree.specs.Slots.{class_params, temporaries}
use Rattle.co_core_tree.specs.declared.exprs.Init.{Init}
use Rattle.co_core_tree.specs.declared.stmts.CoreStmt.{CoreStmt}
use Rattle.co_core_tree.specs.declared.units.CoreFunc.{CoreFunc}
use Rattle.co_core_tree.specs.declared.units.FuncRole.{FuncRole}
use Rattle.co_core_tree.specs.declared.units.FuncRole.TheVariants as role
use Rattle.co_meaning_data.specs.Frames.{Activation, Call, Calling, Comes, Constructing, Doing, FieldMade, Frame, Full, Function, Given, Gives, Goes, Going, Idle, Initialize, Kind, Nothing, OfFunction, Opens, Outcome, Passes, RampTake, Returning, Throwing}
use Rattle.co_meaning_data.specs.Store.{Place, field_of_place}
use Rattle.co_meaning_data.specs.Turn.{Local, func_of, funcs, pushed, store, with_frames, goes, rests}
use Rattle.co_meaning_data.specs.Undefined.{numbered}
use Rattle.co_meaning_calls.specs.Calls.{unmade_all, mark_count, opens, open_step, temp_of, argument_object, class_argument, argument_for, argument, argument_made, argument_lives, bind, border, around, this_of, member_frames, first_doing, frames_for, doing_for, activation_for, entered, enter_in, enter, next_member, next_element, one_more_field, field_made, returned_main, returns_to, returns, throws_to, last_frame, function_left, at_border, call_returned, Bound}
use Rattle.co_meaning_calls.specs.Objects.{type_of_slot}
use Rattle.co_meaning_balance.proofs.Alive.{inner-alive, inner-held, one-more-alive, unmade-none}
use Rattle.co_meaning_balance.proofs.Frames.{one-more}
use Rattle.co_meaning_balance.proofs.ObjectsKeeps.{is_uncaught-keeps, unseen_ends-keeps}
use Rattle.co_meaning_balance.specs.Order.{frames_hold}
use Rattle.co_meaning_balance.specs.Places.{Balances, Keeps, Kept, RestKept, activations_alive, activations_hold, coroutine_alive, coroutine_tokens, doing_alive, doing_tokens, frames_alive, present}

module _ (number item limit owed : ℕ) where
  -- frames that hold and keep alive as much
  pub as-before : (d : Doing) (fs gs : List Frame) (l : Local) → frames_hold (Some number) gs ≡ frames_hold (Some number) fs → frames_alive number item gs ≡ frames_alive number item fs → Keeps number item limit owed (goes d (with_frames fs l)) → Keeps number item limit owed (goes d (with_frames gs l))
  as-before d fs gs l held alive known = subst (λ h. stands h (frames_alive number item gs)) (sym held) (subst (λ a. stands (frames_hold (Some number) fs) a) (sym alive) known)
    where
      stands : ℕ → ℕ → Type 0
      stands h a =
          Balances number item limit owed (doing_tokens number item d (h + activations_hold number item l.below + coroutine_tokens number item (numbered l.shared.coroutines number))) (doing_alive number item (present h) d (a + activations_alive number item l.below + coroutine_alive number item (numbered l.shared.coroutines number))) l.seen

  pub around-held : (func : CoreFunc) (own : List ℕ) → (frames_hold (Some number) (around func own) ≡ 0) × (frames_alive number item (around func own) ≡ 0)
  around-held func own = go func.noexcept
    where
      go : (c : Bool) → (frames_hold (Some number) (border c ++ Function own ∷ []) ≡ 0) × (frames_alive number item (border c ++ Function own ∷ []) ≡ 0)
      go true = (refl, refl)
      go false = (refl, refl)

  members-held : (this : Option Place) (r : FuncRole) (body : CoreStmt) (fs : List Frame) → (frames_hold (Some number) (member_frames this r body ++ fs) ≡ frames_hold (Some number) fs) × (frames_alive number item (member_frames this r body ++ fs) ≡ frames_alive number item fs)
  members-held (Some p) (role.Ctor class members) body fs = (refl, refl)
  members-held (Some p) (role.Dtor class) body fs = (refl, refl)
  members-held this r body fs = (refl, refl)

  frames-held : (func : CoreFunc) (given : List Given) (own : List ℕ) → (frames_hold (Some number) (frames_for func given own) ≡ 0) × (frames_alive number item (frames_for func given own) ≡ 0)
  frames-held func given own = go (is_some func.plan)
    where
      go : (c : Bool) → (frames_hold (Some number) (if c then RampTake ∷ around func own else member_frames (this_of given) func.role func.body ++ around func own) ≡ 0) × (frames_alive number item (if c then RampTake ∷ around func own else member_frames (this_of given) func.role func.body ++ around func own) ≡ 0)
      go true = around-held func own
      go false =
          let both = members-held (this_of given) func.role func.body (around func own) in
          let outer = around-held func own in
          (both.0 ∙ outer.0, both.1 ∙ outer.1)

  first-plain : (r : FuncRole) (body : CoreStmt) (k n : ℕ) → (doing_tokens number item (first_doing r body) n ≡ n) × (doing_alive number item k (first_doing r body) n ≡ n)
  first-plain (role.Ctor class members) body k n = (refl, refl)
  first-plain r body k n = (refl, refl)

  doing-plain : (func : CoreFunc) (k n : ℕ) → (doing_tokens number item (doing_for func) n ≡ n) × (doing_alive number item k (doing_for func) n ≡ n)
  doing-plain func k n = go (is_some func.plan)
    where
      go : (c : Bool) → (doing_tokens number item (if c then Comes Passes else first_doing func.role func.body) n ≡ n) × (doing_alive number item k (if c then Comes Passes else first_doing func.role func.body) n ≡ n)
      go true = (refl, refl)
      go false = first-plain func.role func.body k n

  returned-main : (k : Kind) (g : Given) (l : Local) → Keeps number item limit owed (rests Idle l) → Keeps number item limit owed (rests Idle (returned_main k g l))
  returned-main OfFunction g l known = known
  returned-main k g l known = known

  pub opens-keeps : (list : List Act) (inner : List Frame) (d : Doing) (l : Local) → Keeps number item limit owed (goes d (with_frames (inner ++ l.top.frames) l)) → Keeps number item limit owed (opens list inner d l)
  opens-keeps list inner d l known =
      as-before (Opens (mark_count (unmade_all (func_of l) (temporaries list))) d) (inner ++ l.top.frames) (inner ++ Full (unmade_all (func_of l) (temporaries list)) ∷ l.top.frames) l
      (inner-held number item inner (unmade_all (func_of l) (temporaries list)) l.top.frames)
      (inner-alive number item inner (unmade_all (func_of l) (temporaries list)) l.top.frames (λ k. unmade-none number item k (func_of l) (temporaries list)))
      known

  pub open_step-keeps : (marks : ℕ) (d : Doing) (l : Local) → Keeps number item limit owed (goes d l) → Keeps number item limit owed (open_step marks d l)
  open_step-keeps zero d l known = known
  open_step-keeps (suc marks) d l known = known

  argument_object-keeps : (slot : ℕ) (i : Init) (call : Call) (l : Local) (o : Option CoType) → Kept number item limit owed l → Keeps number item limit owed (argument_object slot i call l o)
  argument_object-keeps slot i call l None known = tt
  argument_object-keeps slot i call l (Some of) known = known

  class_argument-keeps : (call : Call) (i : Init) (l : Local) (o : Option (ℕ × Init)) → Kept number item limit owed l → Keeps number item limit owed (class_argument call i l o)
  class_argument-keeps call i l None known = known
  class_argument-keeps call i l (Some made) known = argument_object-keeps made.0 made.1 call l (type_of_slot l made.0) known

  argument_for-keeps : (flag : Option Bool) (i : Init) (call : Call) (l : Local) → Kept number item limit owed l → Keeps number item limit owed (argument_for flag i call l)
  argument_for-keeps (Some true) i call l known = class_argument-keeps call i l (temp_of i) known
  argument_for-keeps flag i call l known = known

  pub argument-keeps : (call : Call) (i : Init) (l : Local) → Kept number item limit owed l → Keeps number item limit owed (argument call i l)
  argument-keeps call i l known = argument_for-keeps (slice_get (class_params (funcs l) call.func) (length call.given)) i call l known

  argument_made-keeps : (x : ℕ) (call : Call) (l : Local) → Kept number item limit owed l → Keeps number item limit owed (argument_made x call l)
  argument_made-keeps x call l known = known

  pub argument_lives-keeps : (x : ℕ) (fs : List Frame) (l : Local) → Kept number item limit owed (with_frames fs l) → Keeps number item limit owed (argument_lives x fs l)
  argument_lives-keeps x (Calling call ∷ fs) l known = argument_made-keeps x call (with_frames fs l) known
  argument_lives-keeps x fs l known = tt

  entered-keeps : (func : CoreFunc) (call : Call) (l : Local) (b : Option Bound) → Kept number item limit owed l → Keeps number item limit owed (entered func call l b)
  entered-keeps func call l None known = tt
  entered-keeps func call l (Some b) known =
      let a = activation_for func call b in
      let frames = frames-held func (reverse call.given) b.own in
      let held = frames.0 in
      let alive = frames.1 in
      let tokens = (doing-plain func 0 (activations_hold number item (a ∷ l.top ∷ l.below) + coroutine_tokens number item (numbered l.shared.coroutines number))).0 in
      let places = (doing-plain func (present (frames_hold (Some number) a.frames)) (activations_alive number item (a ∷ l.top ∷ l.below) + coroutine_alive number item (numbered l.shared.coroutines number))).1 in
      let once = known.1 in
      let enough = known.2 in
      (known.0, omega (arith, held, tokens, once), omega (arith, alive, places, enough))

  enter_in-keeps : (call : Call) (l : Local) (func : Option CoreFunc) → Kept number item limit owed l → Keeps number item limit owed (enter_in call l func)
  enter_in-keeps call l None known = tt
  enter_in-keeps call l (Some func) known = entered-keeps func call l (bind func (reverse call.given) (store l)) known

  pub enter-keeps : (call : Call) (l : Local) → Kept number item limit owed l → Keeps number item limit owed (enter call l)
  enter-keeps call l known = enter_in-keeps call l (slice_get (funcs l) call.func.0) known

  pub next_member-keeps : (p : Place) (class : ClassId) (built : ℕ) (list : List Init) (body : List CoreStmt) (l : Local) → Kept number item limit owed l → Keeps number item limit owed (next_member p class built list body l)
  next_member-keeps p class built (i ∷ rest) body l known = opens-keeps (init_acts (class_params (funcs l)) false false i) (FieldMade ∷ []) (Initialize i (Some (field_of_place p built))) (pushed (Constructing p class built rest body) l) known
  next_member-keeps p class built [] (s ∷ body) l known = known
  next_member-keeps p class built [] [] l known = known

  pub next_element-keeps : (p : Place) (built : ℕ) (list : List Init) (l : Local) → Kept number item limit owed l → Keeps number item limit owed (next_element p built list l)
  next_element-keeps p built (i ∷ rest) l known = known
  next_element-keeps p built [] l known = known

  pub field_made-keeps : (l : Local) → Kept number item limit owed l → Keeps number item limit owed (field_made l)
  field_made-keeps l known = as-before (Comes Passes) l.top.frames (one_more_field l.top.frames) l (one-more (Some number) l.top.frames).held (one-more-alive number item l.top.frames) known

  returns_to-keeps : (below : List Activation) (g : Given) (l : Local) → RestKept number item limit owed (record l { below = below }) → Keeps number item limit owed (returns_to below g l)
  returns_to-keeps [] g l known = returned-main l.top.kind g l known
  returns_to-keeps (a ∷ rest) g l known = known

  pub returns-keeps : (g : Given) (l : Local) → RestKept number item limit owed l → Keeps number item limit owed (returns g l)
  returns-keeps g l known = returns_to-keeps l.below g l known

  throws_to-keeps : (below : List Activation) (going : Going) (l : Local) → l.top.frames ≡ [] → RestKept number item limit owed (record l { below = below }) → Keeps number item limit owed (throws_to below going l)
  throws_to-keeps [] (Throwing v) l e known =
      let held = ap (frames_hold (Some number)) e in
      let alive = ap (frames_alive number item) e in
      let once = known.1 in
      let enough = known.2 in
      is_uncaught-keeps number item limit owed v (record l { below = [] }) (known.0, omega (arith, held, once), omega (arith, alive, enough))
  throws_to-keeps (a ∷ rest) (Throwing v) l e known = known
  throws_to-keeps below going l e known = tt

  pub last_frame-keeps : (outcome : Outcome) (l : Local) → l.top.frames ≡ [] → Kept number item limit owed l → Keeps number item limit owed (last_frame outcome l)
  last_frame-keeps outcome l e known = go outcome (let held = ap (frames_hold (Some number)) e in let alive = ap (frames_alive number item) e in let once = known.1 in let enough = known.2 in (known.0, omega (arith, held, once), omega (arith, alive, enough)))
    where
      go : (o : Outcome) → RestKept number item limit owed l → Keeps number item limit owed (last_frame o l)
      go (Gives g) rest = returns-keeps g l rest
      go Passes rest = returns-keeps Nothing l rest
      go (Goes going) rest = throws_to-keeps l.below going l e rest

  pub function_left-keeps : (own : List ℕ) (going : Going) (l : Local) → Kept number item limit owed l → Keeps number item limit owed (function_left own going l)
  function_left-keeps own (Returning g) l known = unseen_ends-keeps number item limit owed own (Gives g) l known
  function_left-keeps own (Throwing v) l known = unseen_ends-keeps number item limit owed own (Goes (Throwing v)) l known
  function_left-keeps own going l known = tt

  pub at_border-keeps : (going : Going) (l : Local) → Kept number item limit owed l → Keeps number item limit owed (at_border going l)
  at_border-keeps (Throwing v) l known = is_uncaught-keeps number item limit owed v l known
  at_border-keeps going l known = known

  pub call_returned-keeps : (list : List ℕ) (outcome : Outcome) (l : Local) → Kept number item limit owed l → Keeps number item limit owed (call_returned list outcome l)
  call_returned-keeps [] outcome l known = known
  call_returned-keeps (x ∷ xs) outcome l known = unseen_ends-keeps number item limit owed (x ∷ xs) outcome l known
