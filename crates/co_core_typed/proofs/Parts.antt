-- What each form's parts come to, where the parts are those that the form has.
use Rattle.std.specs.Prelude.{◌≡◌, ℕ, ◌==◌, Bool, false, ◌&&◌, List, [], ◌∷◌, slice_get}
use Rattle.std.specs.List.{list_all}
use Rattle.std.proofs.Common.{refl, ap, ◌∙◌, map}
use Rattle.co_base.specs.declared.kinds.Num.{Num}
use Rattle.co_base.specs.declared.kinds.Op.{Op}
use Rattle.co_base.specs.declared.ids.ClassId.{ClassId}
use Rattle.co_base.specs.declared.ids.FuncId.{FuncId}
use Rattle.co_base.specs.declared.ids.SlotId.{SlotId}
use Rattle.co_base.specs.declared.span.Span.{Span}
use Rattle.co_types.specs.declared.types.CoType.{CoType}
use Rattle.co_types.specs.declared.types.Head.TheVariants as head
use Rattle.co_types.specs.declared.classes.FieldInfo.{FieldInfo}
use Rattle.co_types.specs.Types.{head_of}
use Rattle.co_core_tree.specs.declared.kinds.HandleOp.{HandleOp}
use Rattle.co_core_tree.specs.declared.kinds.AtomicOp.{AtomicOp}
use Rattle.co_core_tree.specs.declared.kinds.LibOp.{LibOp}
use Rattle.co_core_tree.specs.declared.exprs.CoreExpr.{CoreExpr}
use Rattle.co_core_tree.specs.declared.exprs.CoreExpr.TheVariants as expr
use Rattle.co_core_tree.specs.declared.exprs.Init.{Init}
use Rattle.co_core_tree.specs.declared.exprs.Init.TheVariants as init
use Rattle.co_core_tree.specs.declared.exprs.AwaitPlan.{AwaitPlan}
use Rattle.co_core_tree.specs.declared.exprs.NewPlan.{NewPlan}
use Rattle.co_core_tree.specs.declared.exprs.DeletePlan.{DeletePlan}
use Rattle.co_core_tree.specs.declared.units.CoreFunc.{CoreFunc}
use Rattle.co_core_tree.specs.declared.units.UnitParts.{UnitParts}
use Rattle.co_core_tree.specs.Slots.{slot_at}
use Rattle.co_core_typing.specs.Gives.{Gives, Nothing, Throws, Value, plain_shape, pointer_shape, number, truth, is_right, is_some_number, value_converts, arith_gives, field_place, referent, pointer_to, loaded, joined}
use Rattle.co_core_typing.specs.Forms.{store_fits, arith_fits, update_fits, updated, is_testable, same_fits, are_truths, pick_fits, handle_gives, atomic_gives, lib_gives, is_object, delete_fits, choose_fits}
use Rattle.co_core_typing.specs.Tables.{slot_place, slot_type, types_of, param_types_of, after_first, is_plain, constructs, throw_fits}
use Rattle.co_core_typing.specs.Rules.{gives, typed, init_typed, arguments_typed, members_typed, fields_of_head, has_members, inside}
use Rattle.std.specs.Prelude.{Option, length, zero, suc, ◌<◌, ◌≤◌}
use Rattle.std.proofs.Common.{sym, drop, arith}
use Rattle.std.proofs.lemmas.List.{drop_more}
use Rattle.std.proofs.Math.Dec.{eqb-suc-zero}
use Rattle.co_types.specs.declared.types.Head.{Head}
use Rattle.co_core_typing.specs.Rules.{await_typed}
use Rattle.co_core_typed.proofs.Forms.{gives_field, typed_field, gives_deref, typed_deref, gives_address, typed_address, gives_load, typed_load, gives_store, typed_store, gives_exchange, typed_exchange, gives_update, typed_update, gives_arith, typed_arith, gives_convert, typed_convert, gives_test, typed_test, gives_same, typed_same, gives_both, typed_both, gives_either, typed_either, gives_pick, typed_pick, gives_temp, typed_temp, gives_throw, typed_throw, gives_rethrow_ptr, typed_rethrow_ptr, gives_await, typed_await, gives_new, typed_new, gives_delete, typed_delete, typed_call, gives_handle, typed_handle, gives_atomic, typed_atomic, gives_lib, typed_lib, typed_ctor, typed_members, typed_choose}

drop_all : {A : Type 0} → (k : ℕ) (xs : List A) → length xs ≤ k → drop k xs ≡ []
drop_all zero [] less = refl
drop_all zero (x ∷ xs) less = absurd (omega (arith, less))
drop_all (suc k) [] less = refl
drop_all (suc k) (x ∷ xs) less = drop_all k xs (omega (arith, less))

module _ (unit : UnitParts) (func : CoreFunc) (w : List ClassId) where
  pub fits_field : (whole : CoreExpr) (e : CoreExpr) (k : ℕ) (at : Span) (e' : CoreExpr) (be : Bool) (ge : Gives) (res : Bool) → whole ≡ expr.Field e k at → e' ≡ e → be ≡ typed unit func w e' → ge ≡ gives unit func w e' → res ≡ (be && is_right (field_place unit.classes (ge) k)) → res ≡ typed unit func w whole
  fits_field whole e k at e' be ge res is ee te se made =
      let o = typed_field unit func w e k at in
      cc

  pub view_field : (whole : CoreExpr) (e : CoreExpr) (k : ℕ) (at : Span) (e' : CoreExpr) (ge : Gives) (view : Gives) → whole ≡ expr.Field e k at → e' ≡ e → ge ≡ gives unit func w e' → view ≡ (field_place unit.classes (ge) k) → view ≡ gives unit func w whole
  view_field whole e k at e' ge view is ee se made =
      let o = gives_field unit func w e k at in
      cc

  pub fits_deref : (whole : CoreExpr) (e : CoreExpr) (at : Span) (e' : CoreExpr) (be : Bool) (ge : Gives) (res : Bool) → whole ≡ expr.Deref e at → e' ≡ e → be ≡ typed unit func w e' → ge ≡ gives unit func w e' → res ≡ (be && is_right (referent (ge))) → res ≡ typed unit func w whole
  fits_deref whole e at e' be ge res is ee te se made =
      let o = typed_deref unit func w e at in
      cc

  pub view_deref : (whole : CoreExpr) (e : CoreExpr) (at : Span) (e' : CoreExpr) (ge : Gives) (view : Gives) → whole ≡ expr.Deref e at → e' ≡ e → ge ≡ gives unit func w e' → view ≡ (referent (ge)) → view ≡ gives unit func w whole
  view_deref whole e at e' ge view is ee se made =
      let o = gives_deref unit func w e at in
      cc

  pub fits_address : (whole : CoreExpr) (e : CoreExpr) (at : Span) (e' : CoreExpr) (be : Bool) (ge : Gives) (res : Bool) → whole ≡ expr.Address e at → e' ≡ e → be ≡ typed unit func w e' → ge ≡ gives unit func w e' → res ≡ (be && is_right (pointer_to (ge))) → res ≡ typed unit func w whole
  fits_address whole e at e' be ge res is ee te se made =
      let o = typed_address unit func w e at in
      cc

  pub view_address : (whole : CoreExpr) (e : CoreExpr) (at : Span) (e' : CoreExpr) (ge : Gives) (view : Gives) → whole ≡ expr.Address e at → e' ≡ e → ge ≡ gives unit func w e' → view ≡ (pointer_to (ge)) → view ≡ gives unit func w whole
  view_address whole e at e' ge view is ee se made =
      let o = gives_address unit func w e at in
      cc

  pub fits_load : (whole : CoreExpr) (e : CoreExpr) (at : Span) (e' : CoreExpr) (be : Bool) (ge : Gives) (res : Bool) → whole ≡ expr.Load e at → e' ≡ e → be ≡ typed unit func w e' → ge ≡ gives unit func w e' → res ≡ (be && is_right (loaded (ge))) → res ≡ typed unit func w whole
  fits_load whole e at e' be ge res is ee te se made =
      let o = typed_load unit func w e at in
      cc

  pub view_load : (whole : CoreExpr) (e : CoreExpr) (at : Span) (e' : CoreExpr) (ge : Gives) (view : Gives) → whole ≡ expr.Load e at → e' ≡ e → ge ≡ gives unit func w e' → view ≡ (loaded (ge)) → view ≡ gives unit func w whole
  view_load whole e at e' ge view is ee se made =
      let o = gives_load unit func w e at in
      cc

  pub fits_store : (whole : CoreExpr) (p v : CoreExpr) (at : Span) (p' v' : CoreExpr) (bp bv : Bool) (gp gv : Gives) (res : Bool) → whole ≡ expr.Store p v at → p' ≡ p → v' ≡ v → bp ≡ typed unit func w p' → bv ≡ typed unit func w v' → gp ≡ gives unit func w p' → gv ≡ gives unit func w v' → res ≡ (bv && (bp && store_fits (gp) (gv))) → res ≡ typed unit func w whole
  fits_store whole p v at p' v' bp bv gp gv res is ep ev tp tv sp sv made =
      let o = typed_store unit func w p v at in
      cc

  pub view_store : (whole : CoreExpr) (p v : CoreExpr) (at : Span) (p' v' : CoreExpr) (gp gv : Gives) (view : Gives) → whole ≡ expr.Store p v at → p' ≡ p → v' ≡ v → gp ≡ gives unit func w p' → gv ≡ gives unit func w v' → view ≡ (gp) → view ≡ gives unit func w whole
  view_store whole p v at p' v' gp gv view is ep ev sp sv made =
      let o = gives_store unit func w p v at in
      cc

  pub fits_exchange : (whole : CoreExpr) (p v : CoreExpr) (at : Span) (p' v' : CoreExpr) (bp bv : Bool) (gp gv : Gives) (res : Bool) → whole ≡ expr.Exchange p v at → p' ≡ p → v' ≡ v → bp ≡ typed unit func w p' → bv ≡ typed unit func w v' → gp ≡ gives unit func w p' → gv ≡ gives unit func w v' → res ≡ (bp && (bv && store_fits (gp) (gv))) → res ≡ typed unit func w whole
  fits_exchange whole p v at p' v' bp bv gp gv res is ep ev tp tv sp sv made =
      let o = typed_exchange unit func w p v at in
      cc

  pub view_exchange : (whole : CoreExpr) (p v : CoreExpr) (at : Span) (p' v' : CoreExpr) (gp gv : Gives) (view : Gives) → whole ≡ expr.Exchange p v at → p' ≡ p → v' ≡ v → gp ≡ gives unit func w p' → gv ≡ gives unit func w v' → view ≡ (loaded (gp)) → view ≡ gives unit func w whole
  view_exchange whole p v at p' v' gp gv view is ep ev sp sv made =
      let o = gives_exchange unit func w p v at in
      cc

  pub fits_update : (whole : CoreExpr) (o : Op) (n : Num) (p v : CoreExpr) (old : Bool) (at : Span) (p' v' : CoreExpr) (bp bv : Bool) (gp gv : Gives) (res : Bool) → whole ≡ expr.Update o n p v old at → p' ≡ p → v' ≡ v → bp ≡ typed unit func w p' → bv ≡ typed unit func w v' → gp ≡ gives unit func w p' → gv ≡ gives unit func w v' → res ≡ (bv && (bp && update_fits o n (gp) (gv))) → res ≡ typed unit func w whole
  fits_update whole o n p v old at p' v' bp bv gp gv res is ep ev tp tv sp sv made =
      let o = typed_update unit func w o n p v old at in
      cc

  pub view_update : (whole : CoreExpr) (o : Op) (n : Num) (p v : CoreExpr) (old : Bool) (at : Span) (p' v' : CoreExpr) (gp gv : Gives) (view : Gives) → whole ≡ expr.Update o n p v old at → p' ≡ p → v' ≡ v → gp ≡ gives unit func w p' → gv ≡ gives unit func w v' → view ≡ (updated old (gp)) → view ≡ gives unit func w whole
  view_update whole o n p v old at p' v' gp gv view is ep ev sp sv made =
      let o = gives_update unit func w o n p v old at in
      cc

  pub fits_arith : (whole : CoreExpr) (o : Op) (n : Num) (l r : CoreExpr) (at : Span) (l' r' : CoreExpr) (bl br : Bool) (gl gr : Gives) (res : Bool) → whole ≡ expr.Arith o n l r at → l' ≡ l → r' ≡ r → bl ≡ typed unit func w l' → br ≡ typed unit func w r' → gl ≡ gives unit func w l' → gr ≡ gives unit func w r' → res ≡ (bl && (br && arith_fits o n (gl) (gr))) → res ≡ typed unit func w whole
  fits_arith whole o n l r at l' r' bl br gl gr res is el er tl tr sl sr made =
      let o = typed_arith unit func w o n l r at in
      cc

  pub view_arith : (whole : CoreExpr) (o : Op) (n : Num) (l r : CoreExpr) (at : Span) (l' r' : CoreExpr) (gl gr : Gives) (view : Gives) → whole ≡ expr.Arith o n l r at → l' ≡ l → r' ≡ r → gl ≡ gives unit func w l' → gr ≡ gives unit func w r' → view ≡ (arith_gives o n) → view ≡ gives unit func w whole
  view_arith whole o n l r at l' r' gl gr view is el er sl sr made =
      let o = gives_arith unit func w o n l r at in
      cc

  pub fits_convert : (whole : CoreExpr) (n : Num) (e : CoreExpr) (at : Span) (e' : CoreExpr) (be : Bool) (ge : Gives) (res : Bool) → whole ≡ expr.Convert n e at → e' ≡ e → be ≡ typed unit func w e' → ge ≡ gives unit func w e' → res ≡ (be && is_some_number (ge)) → res ≡ typed unit func w whole
  fits_convert whole n e at e' be ge res is ee te se made =
      let o = typed_convert unit func w n e at in
      cc

  pub view_convert : (whole : CoreExpr) (n : Num) (e : CoreExpr) (at : Span) (e' : CoreExpr) (ge : Gives) (view : Gives) → whole ≡ expr.Convert n e at → e' ≡ e → ge ≡ gives unit func w e' → view ≡ (number n) → view ≡ gives unit func w whole
  view_convert whole n e at e' ge view is ee se made =
      let o = gives_convert unit func w n e at in
      cc

  pub fits_test : (whole : CoreExpr) (e : CoreExpr) (at : Span) (e' : CoreExpr) (be : Bool) (ge : Gives) (res : Bool) → whole ≡ expr.Test e at → e' ≡ e → be ≡ typed unit func w e' → ge ≡ gives unit func w e' → res ≡ (be && is_testable (ge)) → res ≡ typed unit func w whole
  fits_test whole e at e' be ge res is ee te se made =
      let o = typed_test unit func w e at in
      cc

  pub view_test : (whole : CoreExpr) (e : CoreExpr) (at : Span) (e' : CoreExpr) (ge : Gives) (view : Gives) → whole ≡ expr.Test e at → e' ≡ e → ge ≡ gives unit func w e' → view ≡ (truth) → view ≡ gives unit func w whole
  view_test whole e at e' ge view is ee se made =
      let o = gives_test unit func w e at in
      cc

  pub fits_same : (whole : CoreExpr) (l r : CoreExpr) (at : Span) (l' r' : CoreExpr) (bl br : Bool) (gl gr : Gives) (res : Bool) → whole ≡ expr.Same l r at → l' ≡ l → r' ≡ r → bl ≡ typed unit func w l' → br ≡ typed unit func w r' → gl ≡ gives unit func w l' → gr ≡ gives unit func w r' → res ≡ (bl && (br && same_fits (gl) (gr))) → res ≡ typed unit func w whole
  fits_same whole l r at l' r' bl br gl gr res is el er tl tr sl sr made =
      let o = typed_same unit func w l r at in
      cc

  pub view_same : (whole : CoreExpr) (l r : CoreExpr) (at : Span) (l' r' : CoreExpr) (gl gr : Gives) (view : Gives) → whole ≡ expr.Same l r at → l' ≡ l → r' ≡ r → gl ≡ gives unit func w l' → gr ≡ gives unit func w r' → view ≡ (truth) → view ≡ gives unit func w whole
  view_same whole l r at l' r' gl gr view is el er sl sr made =
      let o = gives_same unit func w l r at in
      cc

  pub fits_both : (whole : CoreExpr) (l r : CoreExpr) (at : Span) (l' r' : CoreExpr) (bl br : Bool) (gl gr : Gives) (res : Bool) → whole ≡ expr.Both l r at → l' ≡ l → r' ≡ r → bl ≡ typed unit func w l' → br ≡ typed unit func w r' → gl ≡ gives unit func w l' → gr ≡ gives unit func w r' → res ≡ (bl && (br && are_truths (gl) (gr))) → res ≡ typed unit func w whole
  fits_both whole l r at l' r' bl br gl gr res is el er tl tr sl sr made =
      let o = typed_both unit func w l r at in
      cc

  pub view_both : (whole : CoreExpr) (l r : CoreExpr) (at : Span) (l' r' : CoreExpr) (gl gr : Gives) (view : Gives) → whole ≡ expr.Both l r at → l' ≡ l → r' ≡ r → gl ≡ gives unit func w l' → gr ≡ gives unit func w r' → view ≡ (truth) → view ≡ gives unit func w whole
  view_both whole l r at l' r' gl gr view is el er sl sr made =
      let o = gives_both unit func w l r at in
      cc

  pub fits_either : (whole : CoreExpr) (l r : CoreExpr) (at : Span) (l' r' : CoreExpr) (bl br : Bool) (gl gr : Gives) (res : Bool) → whole ≡ expr.Either l r at → l' ≡ l → r' ≡ r → bl ≡ typed unit func w l' → br ≡ typed unit func w r' → gl ≡ gives unit func w l' → gr ≡ gives unit func w r' → res ≡ (bl && (br && are_truths (gl) (gr))) → res ≡ typed unit func w whole
  fits_either whole l r at l' r' bl br gl gr res is el er tl tr sl sr made =
      let o = typed_either unit func w l r at in
      cc

  pub view_either : (whole : CoreExpr) (l r : CoreExpr) (at : Span) (l' r' : CoreExpr) (gl gr : Gives) (view : Gives) → whole ≡ expr.Either l r at → l' ≡ l → r' ≡ r → gl ≡ gives unit func w l' → gr ≡ gives unit func w r' → view ≡ (truth) → view ≡ gives unit func w whole
  view_either whole l r at l' r' gl gr view is el er sl sr made =
      let o = gives_either unit func w l r at in
      cc

  pub fits_pick : (whole : CoreExpr) (e x y : CoreExpr) (at : Span) (e' x' y' : CoreExpr) (be bx by : Bool) (ge gx gy : Gives) (res : Bool) → whole ≡ expr.Pick e x y at → e' ≡ e → x' ≡ x → y' ≡ y → be ≡ typed unit func w e' → bx ≡ typed unit func w x' → by ≡ typed unit func w y' → ge ≡ gives unit func w e' → gx ≡ gives unit func w x' → gy ≡ gives unit func w y' → res ≡ (be && (bx && (by && pick_fits (ge) (joined (gx) (gy))))) → res ≡ typed unit func w whole
  fits_pick whole e x y at e' x' y' be bx by ge gx gy res is ee ex ey te tx ty se sx sy made =
      let o = typed_pick unit func w e x y at in
      cc

  pub view_pick : (whole : CoreExpr) (e x y : CoreExpr) (at : Span) (e' x' y' : CoreExpr) (ge gx gy : Gives) (view : Gives) → whole ≡ expr.Pick e x y at → e' ≡ e → x' ≡ x → y' ≡ y → ge ≡ gives unit func w e' → gx ≡ gives unit func w x' → gy ≡ gives unit func w y' → view ≡ (joined (gx) (gy)) → view ≡ gives unit func w whole
  view_pick whole e x y at e' x' y' ge gx gy view is ee ex ey se sx sy made =
      let o = gives_pick unit func w e x y at in
      cc

  pub fits_throw : (whole : CoreExpr) (of : CoType) (e : CoreExpr) (at : Span) (e' : CoreExpr) (be : Bool) (ge : Gives) (res : Bool) → whole ≡ expr.Throw of e at → e' ≡ e → be ≡ typed unit func w e' → ge ≡ gives unit func w e' → res ≡ (be && throw_fits unit.classes of (ge)) → res ≡ typed unit func w whole
  fits_throw whole of e at e' be ge res is ee te se made =
      let o = typed_throw unit func w of e at in
      cc

  pub view_throw : (whole : CoreExpr) (of : CoType) (e : CoreExpr) (at : Span) (e' : CoreExpr) (ge : Gives) (view : Gives) → whole ≡ expr.Throw of e at → e' ≡ e → ge ≡ gives unit func w e' → view ≡ (Throws) → view ≡ gives unit func w whole
  view_throw whole of e at e' ge view is ee se made =
      let o = gives_throw unit func w of e at in
      cc

  pub fits_rethrow_ptr : (whole : CoreExpr) (e : CoreExpr) (at : Span) (e' : CoreExpr) (be : Bool) (ge : Gives) (res : Bool) → whole ≡ expr.RethrowPtr e at → e' ≡ e → be ≡ typed unit func w e' → ge ≡ gives unit func w e' → res ≡ (be && value_converts (plain_shape head.ExceptionPtr) (ge)) → res ≡ typed unit func w whole
  fits_rethrow_ptr whole e at e' be ge res is ee te se made =
      let o = typed_rethrow_ptr unit func w e at in
      cc

  pub view_rethrow_ptr : (whole : CoreExpr) (e : CoreExpr) (at : Span) (e' : CoreExpr) (ge : Gives) (view : Gives) → whole ≡ expr.RethrowPtr e at → e' ≡ e → ge ≡ gives unit func w e' → view ≡ (Nothing) → view ≡ gives unit func w whole
  view_rethrow_ptr whole e at e' ge view is ee se made =
      let o = gives_rethrow_ptr unit func w e at in
      cc

  pub fits_call : (whole : CoreExpr) (f : FuncId) (args args' : List Init) (at : Span) (funcs : List CoreFunc) (callee : Option CoreFunc) (res : Bool) → whole ≡ expr.Call f args at → args' ≡ args → funcs ≡ unit.funcs → callee ≡ slice_get funcs f.0 → res ≡ (is_plain callee && arguments_typed unit func w (param_types_of callee) args') → res ≡ typed unit func w whole
  fits_call whole f args args' at funcs callee res is ea ef ec made =
      let o = typed_call unit func w f args at in
      cc

  pub fits_temp : (whole : CoreExpr) (slot : SlotId) (i i' : Init) (at : Span) (to : CoType) (res : Bool) → whole ≡ expr.Temp slot i at → i' ≡ i → to ≡ slot_type func slot → res ≡ init_typed unit func w false to i' → res ≡ typed unit func w whole
  fits_temp whole slot i i' at to res is ei et made =
      let o = typed_temp unit func w slot i at in
      cc

  pub view_temp : (whole : CoreExpr) (slot : SlotId) (i : Init) (at : Span) (view : Gives) → whole ≡ expr.Temp slot i at → view ≡ slot_place (slot_at func slot) → view ≡ gives unit func w whole
  view_temp whole slot i at view is made =
      let o = gives_temp unit func w slot i at in
      cc

  pub fits_await : (whole : CoreExpr) (plan plan' : AwaitPlan) (res : Bool) → whole ≡ expr.Await plan → plan' ≡ plan → res ≡ await_typed unit func w plan' → res ≡ typed unit func w whole
  fits_await whole plan plan' res is ep made = made ∙ ap (await_typed unit func w) ep ∙ sym (typed_await unit func w plan) ∙ ap (typed unit func w) (sym is)

  pub view_await : (whole : CoreExpr) (plan plan' : AwaitPlan) (view : Gives) → whole ≡ expr.Await plan → plan' ≡ plan → view ≡ gives unit func w plan'.resume → view ≡ gives unit func w whole
  view_await whole plan plan' view is ep made = made ∙ ap (λ p. gives unit func w p.resume) ep ∙ sym (gives_await unit func w plan) ∙ ap (gives unit func w) (sym is)

  pub fits_new : (whole : CoreExpr) (plan plan' : NewPlan) (res : Bool) → whole ≡ expr.New plan → plan' ≡ plan → res ≡ (is_object (head_of plan'.of) && init_typed unit func w false plan'.of plan'.init) → res ≡ typed unit func w whole
  fits_new whole plan plan' res is ep made = made ∙ ap (λ p. is_object (head_of p.of) && init_typed unit func w false p.of p.init) ep ∙ sym (typed_new unit func w plan) ∙ ap (typed unit func w) (sym is)

  pub view_new : (whole : CoreExpr) (plan plan' : NewPlan) (view : Gives) → whole ≡ expr.New plan → plan' ≡ plan → view ≡ Value (pointer_shape plan'.of) → view ≡ gives unit func w whole
  view_new whole plan plan' view is ep made = made ∙ ap (λ p. Value (pointer_shape p.of)) ep ∙ sym (gives_new unit func w plan) ∙ ap (gives unit func w) (sym is)

  pub fits_delete : (whole : CoreExpr) (plan plan' plan'' : DeletePlan) (b : Bool) (g : Gives) (res : Bool) → whole ≡ expr.Delete plan → plan' ≡ plan → plan'' ≡ plan → b ≡ typed unit func w plan''.pointer → g ≡ gives unit func w plan''.pointer → res ≡ (b && delete_fits plan'.of g) → res ≡ typed unit func w whole
  fits_delete whole plan plan' plan'' b g res is e e' tb tg made =
      made ∙ ap (λ x. x && delete_fits plan'.of g) (tb ∙ ap (λ p. typed unit func w p.pointer) e')
      ∙ ap (λ x. typed unit func w plan.pointer && delete_fits plan'.of x) (tg ∙ ap (λ p. gives unit func w p.pointer) e')
      ∙ ap (λ p. typed unit func w plan.pointer && delete_fits p.of (gives unit func w plan.pointer)) e
      ∙ sym (typed_delete unit func w plan) ∙ ap (typed unit func w) (sym is)

  pub view_delete : (whole : CoreExpr) (plan : DeletePlan) (view : Gives) → whole ≡ expr.Delete plan → view ≡ Nothing → view ≡ gives unit func w whole
  view_delete whole plan view is made = made ∙ sym (gives_delete unit func w plan) ∙ ap (gives unit func w) (sym is)

  pub fits_handle : (whole : CoreExpr) (o : HandleOp) (operands operands' : List CoreExpr) (at : Span) (res : Bool) → whole ≡ expr.Handle o operands at → operands' ≡ operands → res ≡ (list_all (typed unit func w) operands' && is_right (handle_gives o (map (gives unit func w) operands'))) → res ≡ typed unit func w whole
  fits_handle whole o operands operands' at res is e made = made ∙ ap (λ l. list_all (typed unit func w) l && is_right (handle_gives o (map (gives unit func w) l))) e ∙ sym (typed_handle unit func w o operands at) ∙ ap (typed unit func w) (sym is)

  pub view_handle : (whole : CoreExpr) (o : HandleOp) (operands operands' : List CoreExpr) (at : Span) (view : Gives) → whole ≡ expr.Handle o operands at → operands' ≡ operands → view ≡ handle_gives o (map (gives unit func w) operands') → view ≡ gives unit func w whole
  view_handle whole o operands operands' at view is e made = made ∙ ap (λ l. handle_gives o (map (gives unit func w) l)) e ∙ sym (gives_handle unit func w o operands at) ∙ ap (gives unit func w) (sym is)

  pub fits_atomic : (whole : CoreExpr) (o : AtomicOp) (operands operands' : List CoreExpr) (at : Span) (res : Bool) → whole ≡ expr.Atomic o operands at → operands' ≡ operands → res ≡ (list_all (typed unit func w) operands' && is_right (atomic_gives o (map (gives unit func w) operands'))) → res ≡ typed unit func w whole
  fits_atomic whole o operands operands' at res is e made = made ∙ ap (λ l. list_all (typed unit func w) l && is_right (atomic_gives o (map (gives unit func w) l))) e ∙ sym (typed_atomic unit func w o operands at) ∙ ap (typed unit func w) (sym is)

  pub view_atomic : (whole : CoreExpr) (o : AtomicOp) (operands operands' : List CoreExpr) (at : Span) (view : Gives) → whole ≡ expr.Atomic o operands at → operands' ≡ operands → view ≡ atomic_gives o (map (gives unit func w) operands') → view ≡ gives unit func w whole
  view_atomic whole o operands operands' at view is e made = made ∙ ap (λ l. atomic_gives o (map (gives unit func w) l)) e ∙ sym (gives_atomic unit func w o operands at) ∙ ap (gives unit func w) (sym is)

  pub fits_lib : (whole : CoreExpr) (o : LibOp) (operands operands' : List CoreExpr) (at : Span) (res : Bool) → whole ≡ expr.Lib o operands at → operands' ≡ operands → res ≡ (list_all (typed unit func w) operands' && is_right (lib_gives o (map (gives unit func w) operands'))) → res ≡ typed unit func w whole
  fits_lib whole o operands operands' at res is e made = made ∙ ap (λ l. list_all (typed unit func w) l && is_right (lib_gives o (map (gives unit func w) l))) e ∙ sym (typed_lib unit func w o operands at) ∙ ap (typed unit func w) (sym is)

  pub view_lib : (whole : CoreExpr) (o : LibOp) (operands operands' : List CoreExpr) (at : Span) (view : Gives) → whole ≡ expr.Lib o operands at → operands' ≡ operands → view ≡ lib_gives o (map (gives unit func w) operands') → view ≡ gives unit func w whole
  view_lib whole o operands operands' at view is e made = made ∙ ap (λ l. lib_gives o (map (gives unit func w) l)) e ∙ sym (gives_lib unit func w o operands at) ∙ ap (gives unit func w) (sym is)

  pub fits_ctor : (object : Bool) (whole : Init) (f : FuncId) (args args' : List Init) (to : CoType) (h : Head) (funcs : List CoreFunc) (callee : Option CoreFunc) (res : Bool) → whole ≡ init.Ctor f args → args' ≡ args → h ≡ head_of to → funcs ≡ unit.funcs → callee ≡ slice_get funcs f.0 → res ≡ (constructs callee h && arguments_typed unit func w (after_first (param_types_of callee)) args') → res ≡ init_typed unit func w object to whole
  fits_ctor object whole f args args' to h funcs callee res is ea eh ef ec made =
      let o = typed_ctor unit func w object to f args in
      cc

  pub fits_members : (object : Bool) (whole : Init) (members members' : List Init) (to : CoType) (h : Head) (res : Bool) → whole ≡ init.Members members → members' ≡ members → h ≡ head_of to → res ≡ (has_members unit.classes h && members_typed unit func (inside h w) (fields_of_head unit.classes h) members') → res ≡ init_typed unit func w object to whole
  fits_members object whole members members' to h res is em eh made =
      let o = typed_members unit func w object to members in
      cc

  pub fits_choose : (object : Bool) (whole : Init) (e : CoreExpr) (x y x' y' : Init) (to : CoType) (h : Head) (be bx by : Bool) (ge : Gives) (res : Bool) → whole ≡ init.Choose e x y → h ≡ head_of to → be ≡ typed unit func w e → ge ≡ gives unit func w e → x' ≡ x → bx ≡ init_typed unit func w false to x' → y' ≡ y → by ≡ init_typed unit func w false to y' → res ≡ (be && (choose_fits h ge && (bx && by))) → res ≡ init_typed unit func w object to whole
  fits_choose object whole e x y x' y' to h be bx by ge res is eh tb tg ex tx ey ty made =
      let o = typed_choose unit func w object to e x y in
      cc

  -- where there are more arguments than parameters, or more members than fields
  pub arguments_none : (callee : CoreFunc) (rest : List SlotId) (args : List Init) (k : ℕ) (d : Init) (whole : Bool) → k < length args → length rest < 1 → arguments_typed unit func w (types_of callee rest) (drop k args) ≡ whole → false ≡ whole
  arguments_none callee [] args k d whole less none keeps = sym (ap (arguments_typed unit func w []) (drop_more args k d less)) ∙ keeps
  arguments_none callee (slot ∷ rest) args k d whole less none keeps = absurd (omega (arith, none))

  pub members_none : (rest : List FieldInfo) (members : List Init) (k : ℕ) (d : Init) (whole : Bool) → k < length members → length rest < 1 → members_typed unit func w rest (drop k members) ≡ whole → false ≡ whole
  members_none [] members k d whole less none keeps = sym (ap (members_typed unit func w []) (drop_more members k d less)) ∙ keeps
  members_none (field ∷ rest) members k d whole less none keeps = absurd (omega (arith, none))

  -- where all arguments, or all members, have been seen
  pub arguments_done : (callee : CoreFunc) (rest : List SlotId) (args : List Init) (k : ℕ) (whole res : Bool) → length args ≤ k → res ≡ (length rest == 0) → arguments_typed unit func w (types_of callee rest) (drop k args) ≡ whole → res ≡ whole
  arguments_done callee [] args k whole res less made keeps = made ∙ sym (ap (arguments_typed unit func w []) (drop_all k args less)) ∙ keeps
  arguments_done callee (slot ∷ rest) args k whole res less made keeps =
      made ∙ eqb-suc-zero (length rest) ∙ sym (ap (arguments_typed unit func w (types_of callee (slot ∷ rest))) (drop_all k args less)) ∙ keeps

  pub members_done : (rest : List FieldInfo) (members : List Init) (k : ℕ) (whole res : Bool) → length members ≤ k → res ≡ (length rest == 0) → members_typed unit func w rest (drop k members) ≡ whole → res ≡ whole
  members_done [] members k whole res less made keeps = made ∙ sym (ap (members_typed unit func w []) (drop_all k members less)) ∙ keeps
  members_done (field ∷ rest) members k whole res less made keeps =
      made ∙ eqb-suc-zero (length rest) ∙ sym (ap (members_typed unit func w (field ∷ rest)) (drop_all k members less)) ∙ keeps
