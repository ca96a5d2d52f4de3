-- The initializers that are left from a number on.
use Rattle.std.specs.Prelude.{◌≡◌, ℕ, zero, suc, ◌+◌, List, [], ◌∷◌, ◌++◌, drop, slice_get, true, None, Some}
use Rattle.std.proofs.Common.{refl, ap, ◌∙◌, sym, arith}
use Rattle.co_base.specs.declared.ids.ClassId.{ClassId}
use Rattle.co_base.specs.declared.ids.FuncId.{FuncId}
use Rattle.co_core_tree.specs.declared.exprs.Init.{Init}
use Rattle.co_core_tree.specs.declared.units.CoreFunc.{CoreFunc}
use Rattle.co_core_tree.specs.declared.units.FuncRole.TheVariants as role
use Rattle.co_eval_data.specs.Agents.{local_of}
use Rattle.co_eval_data.specs.Seen.{constructing, constructing_with, frame_with, members_of, place_of}
use Rattle.co_eval_data.specs.declared.frames.Node.TheVariants as node
use Rattle.co_eval_data.specs.declared.frames.Step.TheVariants as step
use Rattle.co_eval_data.specs.declared.here.Here.{Here}
use Rattle.co_eval_data.specs.declared.values.Place as values
use Rattle.co_meaning_calls.specs.Calls.{member_frames}
use Rattle.co_meaning_data.specs.Frames as meaning
use Rattle.co_meaning_data.specs.Store.{Place}
use Rattle.co_meaning_data.specs.Turn.{funcs}

pub some_left : {A : Type 0} (xs : List A) (n : ℕ) (x : A) → slice_get xs n ≡ Some x → drop n xs ≡ x ∷ drop (n + 1) xs
some_left [] n x e = absurd (cc e)
some_left (y ∷ xs) zero x e = let same : y ≡ x = cc e in ap (λ k. k ∷ xs) same
some_left (y ∷ xs) (suc n) x e =
    let count : suc (n + 1) ≡ suc n + 1 = omega arith in
    some_left xs n x e ∙ ap (λ k. x ∷ drop k (y ∷ xs)) count

pub first_left : {A : Type 0} (xs : List A) (n next : ℕ) (x : A) → slice_get xs n ≡ Some x → next ≡ n + 1 → drop n xs ≡ x ∷ drop next xs
first_left xs n next x e more = some_left xs n x e ∙ ap (λ k. x ∷ drop k xs) (sym more)

pub none_left : {A : Type 0} (xs : List A) (n : ℕ) → slice_get xs n ≡ None → drop n xs ≡ []
none_left [] zero e = refl
none_left [] (suc n) e = refl
none_left (y ∷ xs) zero e = absurd (cc e)
none_left (y ∷ xs) (suc n) e = none_left xs n e

-- none of the members of a constructor is made, and its body is still to be done
pub members_first : (func : CoreFunc) (class : ClassId) (members : List Init) (p : Place) → func.role ≡ role.Ctor class members →
    member_frames (Some p) func.role func.body ≡ constructing p class 0 0 true (Some func) ∷ []
members_first func class members p is =
    ap (λ r. member_frames (Some p) r func.body) is ∙ sym (ap (λ r. constructing_with p class 0 0 (func.body ∷ []) (members_of r) ∷ []) is)

pub found : (h : Here) (func : CoreFunc) (id : FuncId) → slice_get (funcs (local_of h)) id.0 ≡ Some func → slice_get h.program.now.unit.now.funcs id.0 ≡ Some func
unfolding local_of
found h func id e = e

-- the frame of a constructor that was only begun stands above the others
pub constructed : (h : Here) (func : CoreFunc) (id : FuncId) (class : ClassId) (p q : values.Place) (more fs : List meaning.Frame) → slice_get (funcs (local_of h)) id.0 ≡ Some func →
    ((place : Place) → member_frames (Some place) func.role func.body ≡ constructing place class 0 0 true (Some func) ∷ []) → p ≡ q →
    more ≡ frame_with (step.Constructing p class 0 0 true) (node.Func h.program.now.unit id) ∷ fs → more ≡ member_frames (Some (place_of q)) func.role func.body ++ fs
constructed h func id class p q more fs e first same is =
    is
    ∙ ap (λ o. constructing (place_of p) class 0 0 true o ∷ fs) (found h func id e)
    ∙ ap (λ k. constructing (place_of k) class 0 0 true (Some func) ∷ fs) same
    ∙ sym (ap (λ k. k ++ fs) (first (place_of q)))

-- the frame of a destructor whose members are still to be ended stands above the others
pub destroyed : (func : CoreFunc) (class : ClassId) (p q : values.Place) (more fs : List meaning.Frame) → func.role ≡ role.Dtor class → p ≡ q → more ≡ frame_with (step.FieldsEnd p class) node.Nothing ∷ fs →
    more ≡ member_frames (Some (place_of q)) func.role func.body ++ fs
destroyed func class p q more fs is same all =
    all ∙ ap (λ k. meaning.FieldsEnd (place_of k) class ∷ fs) same ∙ sym (ap (λ r. member_frames (Some (place_of q)) r func.body ++ fs) is)
