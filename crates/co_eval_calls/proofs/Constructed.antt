-- The next member or field that is made, and the full-expression that is opened for it.
use Rattle.std.specs.Prelude.{◌≡◌, ℕ, ◌+◌, Bool, false, true, List, [], ◌∷◌, ◌++◌, drop, slice_get, Option, None, Some}
use Rattle.std.specs.Borrow.{Bor}
use Rattle.std.proofs.Common.{refl, ap, ◌∙◌, sym}
use Rattle.co_base.specs.declared.ids.ClassId.{ClassId}
use Rattle.co_core_tree.specs.declared.exprs.Init.{Init}
use Rattle.co_core_tree.specs.declared.stmts.CoreStmt.{CoreStmt}
use Rattle.co_core_tree.specs.declared.units.CoreFunc.{CoreFunc}
use Rattle.co_core_tree.specs.declared.units.FuncRole.TheVariants as role
use Rattle.co_core_tree.specs.Slots.{init_acts_of}
use Rattle.co_eval_calls.proofs.Left.{first_left, none_left}
use Rattle.co_eval_data.specs.Changed.{goes_above}
use Rattle.co_eval_data.specs.Seen.{body_left, constructing, constructing_with, frame_with, func_in, inits_in, members_of, place_of}
use Rattle.co_eval_data.specs.declared.agents.Task.TheVariants as task
use Rattle.co_eval_data.specs.declared.changes.Effect.TheVariants as effect
use Rattle.co_eval_data.specs.declared.frames.Frame.{Frame}
use Rattle.co_eval_data.specs.declared.frames.Node.{Node}
use Rattle.co_eval_data.specs.declared.frames.Node.TheVariants as node
use Rattle.co_eval_data.specs.declared.frames.Step.{Step}
use Rattle.co_eval_data.specs.declared.frames.Step.TheVariants as step
use Rattle.co_eval_data.specs.declared.values.Place.{Place}
use Rattle.co_eval_fulls.specs.Fulls.{opens_after, unmade_here}
use Rattle.co_meaning.specs.Step.{pass}
use Rattle.co_meaning_calls.specs.Calls.{next_element, next_member, opens_with}
use Rattle.co_meaning_data.specs.Frames as meaning
use Rattle.co_meaning_data.specs.Store as stored
use Rattle.co_meaning_data.specs.Store.{field_of_place}
use Rattle.co_meaning_data.specs.Turn.{Local, Turned, funcs, goes, passes, under, with_frames}

-- the frame of the making of members in a function whose members are these
making : (p : stored.Place) (class : ClassId) (built taken : ℕ) (left : Bool) (n : Node) (func : CoreFunc) (members : List Init) → func_in n ≡ Some func → members_of func.role ≡ Some members →
    constructing p class built taken left (func_in n) ≡ meaning.Constructing p class built (drop taken members) (body_left left func.body)
making p class built taken left n func members found made =
    ap (constructing p class built taken left) found
    ∙ ap (constructing_with p class built taken (body_left left func.body)) made

pub member_opened : (q x : Place) (class : ClassId) (built taken next : ℕ) (left : Bool) (n : Node) (func : CoreFunc) (members : List Init) (i : Bor Init) (s : Step) (outer inner : List Frame) (l : Local) (o : Option Turned) →
    func_in n ≡ Some func → members_of func.role ≡ Some members → drop taken members ≡ i.now ∷ drop next members →
    place_of x ≡ field_of_place (place_of q) built → s ≡ step.Constructing q class built next left →
    outer ≡ record { step = s; node = n } ∷ [] → inner ≡ record { step = step.FieldMade; node = node.Nothing } ∷ [] →
    o ≡ opens_after (init_acts_of (funcs l) i.now) effect.Nothing outer inner (task.Initialize i (Some x)) l →
    o ≡ next_member (place_of q) class built (drop taken members) (body_left left func.body) l
member_opened q x class built taken next left n func members i s outer inner l o found made rest field begun around within is =
    let list = init_acts_of (funcs l) i.now in
    let us = unmade_here list l in
    is
    ∙ ap (λ fs. opens_after list effect.Nothing fs inner (task.Initialize i (Some x)) l) around
    ∙ ap (λ fs. opens_after list effect.Nothing (record { step = s; node = n } ∷ []) fs (task.Initialize i (Some x)) l) within
    ∙ ap (λ k. opens_with us (meaning.FieldMade ∷ []) (meaning.Initialize i.now (Some (place_of x))) (with_frames (frame_with k n ∷ l.top.frames) l)) begun
    ∙ ap (λ f. opens_with us (meaning.FieldMade ∷ []) (meaning.Initialize i.now (Some (place_of x))) (with_frames (f ∷ l.top.frames) l)) (making (place_of q) class built next left n func members found made)
    ∙ ap (λ y. opens_with us (meaning.FieldMade ∷ []) (meaning.Initialize i.now (Some y)) (with_frames (meaning.Constructing (place_of q) class built (drop next members) (body_left left func.body) ∷ l.top.frames) l)) field
    ∙ ap (λ is. next_member (place_of q) class built is (body_left left func.body) l) (sym rest)

pub body_done : (q : Place) (class : ClassId) (built taken : ℕ) (left : Bool) (n : Node) (func : CoreFunc) (members : List Init) (s : Step) (l : Local) (o : Option Turned) →
    func_in n ≡ Some func → members_of func.role ≡ Some members → drop taken members ≡ [] → left ≡ true → s ≡ step.Constructing q class built taken false →
    o ≡ under (frame_with s n) (meaning.Execute func.body) l → o ≡ next_member (place_of q) class built (drop taken members) (body_left left func.body) l
body_done q class built taken left n func members s l o found made all on begun is =
    is
    ∙ ap (λ k. under (frame_with k n) (meaning.Execute func.body) l) begun
    ∙ ap (λ f. under f (meaning.Execute func.body) l) (making (place_of q) class built taken false n func members found made)
    ∙ ap (λ k. under (meaning.Constructing (place_of q) class built k []) (meaning.Execute func.body) l) all
    ∙ ap (λ b. next_member (place_of q) class built [] (body_left b func.body) l) (sym on)
    ∙ ap (λ k. next_member (place_of q) class built k (body_left left func.body) l) (sym all)

pub nothing_left : (p : stored.Place) (class : ClassId) (built : ℕ) (rest : List Init) (left : Bool) (body : CoreStmt) (l : Local) (o : Option Turned) → rest ≡ [] → left ≡ false → o ≡ passes l →
    o ≡ next_member p class built rest (body_left left body) l
nothing_left p class built rest left body l o all off is =
    is
    ∙ ap (λ b. next_member p class built [] (body_left b body) l) (sym off)
    ∙ ap (λ k. next_member p class built k (body_left left body) l) (sym all)

pub members_there : (func : CoreFunc) (class : ClassId) (members : List Init) → func.role ≡ role.Ctor class members → members_of func.role ≡ Some members
members_there func class members is = ap members_of is

-- ---- what a step does with the frame

pub passed : (p : stored.Place) (class : ClassId) (built taken : ℕ) (left : Bool) (n : Node) (func : CoreFunc) (members : List Init) (l : Local) (o : Option Turned) →
    func_in n ≡ Some func → members_of func.role ≡ Some members → o ≡ next_member p class built (drop taken members) (body_left left func.body) l →
    o ≡ pass (constructing p class built taken left (func_in n)) l
passed p class built taken left n func members l o found made is = is ∙ ap (λ f. pass f l) (sym (making p class built taken left n func members found made))

pub plain_passed : (p : stored.Place) (class : ClassId) (built taken : ℕ) (left : Bool) (n : Node) (func : CoreFunc) (l : Local) →
    func_in n ≡ Some func → func.role ≡ role.Plain → None ≡ pass (constructing p class built taken left (func_in n)) l
plain_passed p class built taken left n func l found is =
    sym (ap (λ m. pass (constructing_with p class built taken (body_left left func.body) (members_of m)) l) is)
    ∙ sym (ap (λ f. pass (constructing p class built taken left f) l) found)

pub destructor_passed : (p : stored.Place) (class other : ClassId) (built taken : ℕ) (left : Bool) (n : Node) (func : CoreFunc) (l : Local) →
    func_in n ≡ Some func → func.role ≡ role.Dtor other → None ≡ pass (constructing p class built taken left (func_in n)) l
destructor_passed p class other built taken left n func l found is =
    sym (ap (λ m. pass (constructing_with p class built taken (body_left left func.body) (members_of m)) l) is)
    ∙ sym (ap (λ f. pass (constructing p class built taken left f) l) found)

pub none_passed : (p : stored.Place) (class : ClassId) (built taken : ℕ) (left : Bool) (n : Node) (l : Local) → None ≡ func_in n → None ≡ pass (constructing p class built taken left (func_in n)) l
none_passed p class built taken left n l is = ap (λ f. pass (constructing p class built taken left f) l) is

-- ---- the fields of an aggregate

pub field_opened : (q x around : Place) (built : ℕ) (n : Node) (i : Bor Init) (one frames : List Frame) (l : Local) (o : Option Turned) → place_of x ≡ field_of_place (place_of q) built → around ≡ q →
    one ≡ record { step = step.Building around built; node = n } ∷ [] → frames ≡ one ++ record { step = step.FieldMade; node = node.Nothing } ∷ [] →
    o ≡ goes_above frames (task.Initialize i (Some x)) l → o ≡ next_element (place_of q) built (i.now ∷ inits_in n) l
field_opened q x around built n i one frames l o field same first both is =
    is
    ∙ ap (λ fs. goes_above fs (task.Initialize i (Some x)) l) both
    ∙ ap (λ fs. goes_above (fs ++ record { step = step.FieldMade; node = node.Nothing } ∷ []) (task.Initialize i (Some x)) l) first
    ∙ ap (λ k. goes (meaning.Initialize i.now (Some (place_of x))) (with_frames (meaning.FieldMade ∷ meaning.Building (place_of k) built (inits_in n) ∷ l.top.frames) l)) same
    ∙ ap (λ y. goes (meaning.Initialize i.now (Some y)) (with_frames (meaning.FieldMade ∷ meaning.Building (place_of q) built (inits_in n) ∷ l.top.frames) l)) field

pub elements_left : (p : stored.Place) (built from next : ℕ) (rest xs : List Init) (x : Init) (l : Local) (o : Option Turned) → rest ≡ drop from xs → slice_get xs from ≡ Some x → next ≡ from + 1 →
    o ≡ next_element p built (x ∷ drop next xs) l → o ≡ next_element p built rest l
elements_left p built from next rest xs x l o all first more is = is ∙ ap (λ k. next_element p built k l) (sym (all ∙ first_left xs from next x first more))

pub no_element : (p : stored.Place) (built from : ℕ) (rest xs : List Init) (l : Local) (o : Option Turned) → rest ≡ drop from xs → slice_get xs from ≡ None → o ≡ passes l → o ≡ next_element p built rest l
no_element p built from rest xs l o all none is = is ∙ ap (λ k. next_element p built k l) (sym (all ∙ none_left xs from none))
