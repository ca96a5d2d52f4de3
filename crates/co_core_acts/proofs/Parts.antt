-- What each form comes to, where its parts are those that the form has.
use Rattle.std.specs.Prelude.{◌≡◌, ℕ, Bool, true, false, ◌||◌, cond, List, [], ◌∷◌, ◌++◌}
use Rattle.std.proofs.Common.{ap, ◌∙◌, drop}
use Rattle.co_base.specs.declared.kinds.Num.{Num}
use Rattle.co_base.specs.declared.kinds.Op.{Op}
use Rattle.co_base.specs.declared.ids.FuncId.{FuncId}
use Rattle.co_base.specs.declared.ids.SlotId.{SlotId}
use Rattle.co_base.specs.declared.span.Span.{Span}
use Rattle.co_types.specs.declared.types.CoType.{CoType}
use Rattle.co_core_tree.specs.declared.kinds.HandleOp.{HandleOp}
use Rattle.co_core_tree.specs.declared.kinds.AtomicOp.{AtomicOp}
use Rattle.co_core_tree.specs.declared.kinds.LibOp.{LibOp}
use Rattle.co_core_tree.specs.declared.exprs.CoreExpr.{CoreExpr}
use Rattle.co_core_tree.specs.declared.exprs.CoreExpr.TheVariants as expr
use Rattle.co_core_tree.specs.declared.exprs.Init.{Init}
use Rattle.co_core_tree.specs.declared.exprs.Init.TheVariants as init
use Rattle.co_core_tree.specs.declared.exprs.AwaitPlan.{AwaitPlan}
use Rattle.co_core_tree.specs.declared.exprs.NewPlan.{NewPlan}
use Rattle.co_core_tree.specs.declared.exprs.DeletePlan.{DeletePlan}
use Rattle.co_core_tree.specs.declared.units.CoreFunc.{CoreFunc}
use Rattle.co_core_tree.specs.Acts.{Act, Does, Keeps, OfExpr, Starts, acts, init_acts, temp_act}
use Rattle.co_core_tree.specs.Slots.{class_params}
use Rattle.co_core_acts.specs.declared.visitor.Awaits.{Awaits}
use Rattle.co_core_acts.specs.Visits.{arguments_acts, awaits_of, back, inits_acts, joined, operands_acts, plan_acts}
use Rattle.co_core_acts.proofs.Lists.{back_append, kept_end}
use Rattle.co_core_acts.proofs.Forms.{acts_field, awaits_field, acts_deref, awaits_deref, acts_address, awaits_address, acts_load, awaits_load, acts_convert, awaits_convert, acts_test, awaits_test, acts_throw, awaits_throw, acts_rethrow_ptr, awaits_rethrow_ptr, acts_store, awaits_store, acts_exchange, awaits_exchange, acts_update, awaits_update, acts_arith, awaits_arith, acts_same, awaits_same, acts_both, awaits_both, acts_either, awaits_either, acts_pick, awaits_pick, acts_temp, awaits_temp, acts_await, awaits_await, acts_new, awaits_new, acts_delete, awaits_delete, acts_call, awaits_call, acts_handle, awaits_handle, acts_atomic, awaits_atomic, acts_lib, awaits_lib, acts_ctor, awaits_ctor, acts_members, awaits_members, acts_value, awaits_value, acts_result, awaits_result, acts_choose, awaits_choose}

same_awaits : (r : Awaits) (any in_new : Bool) → r.any ≡ any → r.in_new ≡ in_new → r ≡ record { any = any; in_new = in_new }
same_awaits r any in_new e f = ap (λ (b : Bool). record { any = b; in_new = r.in_new }) e ∙ ap (λ (b : Bool). record { any = any; in_new = b }) f

module _ {V : Type 0} (after : V → Act → V) (funcs : List CoreFunc) where
  pub visited_field : (whole e e' : CoreExpr) (k : ℕ) (at : Span) (c o : Bool) (v v' : V) → whole ≡ expr.Field e k at → e' ≡ e → v' ≡ back after v (acts (class_params funcs) c false e' ++ Does c whole ∷ []) → v' ≡ back after v (acts (class_params funcs) c o whole)
  visited_field whole e e' k at c o v v' is ee made =
      let f = acts_field funcs c o e k at in
      cc

  pub awaits_in_field : (whole e e' : CoreExpr) (k : ℕ) (at : Span) (r : Awaits) → whole ≡ expr.Field e k at → e' ≡ e → ((c : Bool) → r ≡ awaits_of funcs (acts (class_params funcs) c false e')) → (c o : Bool) → r ≡ awaits_of funcs (acts (class_params funcs) c o whole)
  awaits_in_field whole e e' k at r is ee made c o =
      let m = made c in
      let f = awaits_field funcs c o e k at in
      cc

  pub visited_deref : (whole e e' : CoreExpr) (at : Span) (c o : Bool) (v v' : V) → whole ≡ expr.Deref e at → e' ≡ e → v' ≡ back after v (acts (class_params funcs) c false e' ++ Does c whole ∷ []) → v' ≡ back after v (acts (class_params funcs) c o whole)
  visited_deref whole e e' at c o v v' is ee made =
      let f = acts_deref funcs c o e at in
      cc

  pub awaits_in_deref : (whole e e' : CoreExpr) (at : Span) (r : Awaits) → whole ≡ expr.Deref e at → e' ≡ e → ((c : Bool) → r ≡ awaits_of funcs (acts (class_params funcs) c false e')) → (c o : Bool) → r ≡ awaits_of funcs (acts (class_params funcs) c o whole)
  awaits_in_deref whole e e' at r is ee made c o =
      let m = made c in
      let f = awaits_deref funcs c o e at in
      cc

  pub visited_address : (whole e e' : CoreExpr) (at : Span) (c o : Bool) (v v' : V) → whole ≡ expr.Address e at → e' ≡ e → v' ≡ back after v (acts (class_params funcs) c false e' ++ Does c whole ∷ []) → v' ≡ back after v (acts (class_params funcs) c o whole)
  visited_address whole e e' at c o v v' is ee made =
      let f = acts_address funcs c o e at in
      cc

  pub awaits_in_address : (whole e e' : CoreExpr) (at : Span) (r : Awaits) → whole ≡ expr.Address e at → e' ≡ e → ((c : Bool) → r ≡ awaits_of funcs (acts (class_params funcs) c false e')) → (c o : Bool) → r ≡ awaits_of funcs (acts (class_params funcs) c o whole)
  awaits_in_address whole e e' at r is ee made c o =
      let m = made c in
      let f = awaits_address funcs c o e at in
      cc

  pub visited_load : (whole e e' : CoreExpr) (at : Span) (c o : Bool) (v v' : V) → whole ≡ expr.Load e at → e' ≡ e → v' ≡ back after v (acts (class_params funcs) c false e' ++ Does c whole ∷ []) → v' ≡ back after v (acts (class_params funcs) c o whole)
  visited_load whole e e' at c o v v' is ee made =
      let f = acts_load funcs c o e at in
      cc

  pub awaits_in_load : (whole e e' : CoreExpr) (at : Span) (r : Awaits) → whole ≡ expr.Load e at → e' ≡ e → ((c : Bool) → r ≡ awaits_of funcs (acts (class_params funcs) c false e')) → (c o : Bool) → r ≡ awaits_of funcs (acts (class_params funcs) c o whole)
  awaits_in_load whole e e' at r is ee made c o =
      let m = made c in
      let f = awaits_load funcs c o e at in
      cc

  pub visited_convert : (whole e e' : CoreExpr) (n : Num) (at : Span) (c o : Bool) (v v' : V) → whole ≡ expr.Convert n e at → e' ≡ e → v' ≡ back after v (acts (class_params funcs) c false e' ++ Does c whole ∷ []) → v' ≡ back after v (acts (class_params funcs) c o whole)
  visited_convert whole e e' n at c o v v' is ee made =
      let f = acts_convert funcs c o n e at in
      cc

  pub awaits_in_convert : (whole e e' : CoreExpr) (n : Num) (at : Span) (r : Awaits) → whole ≡ expr.Convert n e at → e' ≡ e → ((c : Bool) → r ≡ awaits_of funcs (acts (class_params funcs) c false e')) → (c o : Bool) → r ≡ awaits_of funcs (acts (class_params funcs) c o whole)
  awaits_in_convert whole e e' n at r is ee made c o =
      let m = made c in
      let f = awaits_convert funcs c o n e at in
      cc

  pub visited_test : (whole e e' : CoreExpr) (at : Span) (c o : Bool) (v v' : V) → whole ≡ expr.Test e at → e' ≡ e → v' ≡ back after v (acts (class_params funcs) c false e' ++ Does c whole ∷ []) → v' ≡ back after v (acts (class_params funcs) c o whole)
  visited_test whole e e' at c o v v' is ee made =
      let f = acts_test funcs c o e at in
      cc

  pub awaits_in_test : (whole e e' : CoreExpr) (at : Span) (r : Awaits) → whole ≡ expr.Test e at → e' ≡ e → ((c : Bool) → r ≡ awaits_of funcs (acts (class_params funcs) c false e')) → (c o : Bool) → r ≡ awaits_of funcs (acts (class_params funcs) c o whole)
  awaits_in_test whole e e' at r is ee made c o =
      let m = made c in
      let f = awaits_test funcs c o e at in
      cc

  pub visited_throw : (whole e e' : CoreExpr) (of : CoType) (at : Span) (c o : Bool) (v v' : V) → whole ≡ expr.Throw of e at → e' ≡ e → v' ≡ back after v (acts (class_params funcs) c false e' ++ Does c whole ∷ []) → v' ≡ back after v (acts (class_params funcs) c o whole)
  visited_throw whole e e' of at c o v v' is ee made =
      let f = acts_throw funcs c o of e at in
      cc

  pub awaits_in_throw : (whole e e' : CoreExpr) (of : CoType) (at : Span) (r : Awaits) → whole ≡ expr.Throw of e at → e' ≡ e → ((c : Bool) → r ≡ awaits_of funcs (acts (class_params funcs) c false e')) → (c o : Bool) → r ≡ awaits_of funcs (acts (class_params funcs) c o whole)
  awaits_in_throw whole e e' of at r is ee made c o =
      let m = made c in
      let f = awaits_throw funcs c o of e at in
      cc

  pub visited_rethrow_ptr : (whole e e' : CoreExpr) (at : Span) (c o : Bool) (v v' : V) → whole ≡ expr.RethrowPtr e at → e' ≡ e → v' ≡ back after v (acts (class_params funcs) c false e' ++ Does c whole ∷ []) → v' ≡ back after v (acts (class_params funcs) c o whole)
  visited_rethrow_ptr whole e e' at c o v v' is ee made =
      let f = acts_rethrow_ptr funcs c o e at in
      cc

  pub awaits_in_rethrow_ptr : (whole e e' : CoreExpr) (at : Span) (r : Awaits) → whole ≡ expr.RethrowPtr e at → e' ≡ e → ((c : Bool) → r ≡ awaits_of funcs (acts (class_params funcs) c false e')) → (c o : Bool) → r ≡ awaits_of funcs (acts (class_params funcs) c o whole)
  awaits_in_rethrow_ptr whole e e' at r is ee made c o =
      let m = made c in
      let f = awaits_rethrow_ptr funcs c o e at in
      cc

  pub visited_store : (whole x x' y y' : CoreExpr) (at : Span) (c o : Bool) (v v1 v2 : V) (later : Awaits) → whole ≡ expr.Store y x at → x' ≡ x → y' ≡ y → v1 ≡ back after v (acts (class_params funcs) c false y' ++ Does c whole ∷ []) → ((d : Bool) → later ≡ awaits_of funcs (acts (class_params funcs) d false y')) → v2 ≡ back after (cond later.any (after v1 (Keeps (OfExpr x'))) v1) (acts (class_params funcs) c false x') → v2 ≡ back after v (acts (class_params funcs) c o whole)
  visited_store whole x x' y y' at c o v v1 v2 later is ex ey m1 r1 m2 =
      let f = acts_store funcs c o y x at in
      let k = kept_end after v v1 v2 (OfExpr x') (acts (class_params funcs) c false x') (acts (class_params funcs) c false y') (Does c whole) later.any (ap (λ (a : Awaits). a.any) (r1 c)) m1 m2 in
      cc

  pub awaits_in_store : (whole x x' y y' : CoreExpr) (at : Span) (later r : Awaits) → whole ≡ expr.Store y x at → x' ≡ x → y' ≡ y → ((d : Bool) → later ≡ awaits_of funcs (acts (class_params funcs) d false y')) → ((d : Bool) → r ≡ joined (awaits_of funcs (acts (class_params funcs) d false x')) later) → (c o : Bool) → r ≡ awaits_of funcs (acts (class_params funcs) c o whole)
  awaits_in_store whole x x' y y' at later r is ex ey r1 r2 c o =
      let a = r1 c in
      let b = r2 c in
      let f = awaits_store funcs c o y x at in
      cc

  pub visited_exchange : (whole x x' y y' : CoreExpr) (at : Span) (c o : Bool) (v v1 v2 : V) (later : Awaits) → whole ≡ expr.Exchange x y at → x' ≡ x → y' ≡ y → v1 ≡ back after v (acts (class_params funcs) c false y' ++ Does c whole ∷ []) → ((d : Bool) → later ≡ awaits_of funcs (acts (class_params funcs) d false y')) → v2 ≡ back after (cond later.any (after v1 (Keeps (OfExpr x'))) v1) (acts (class_params funcs) c false x') → v2 ≡ back after v (acts (class_params funcs) c o whole)
  visited_exchange whole x x' y y' at c o v v1 v2 later is ex ey m1 r1 m2 =
      let f = acts_exchange funcs c o x y at in
      let k = kept_end after v v1 v2 (OfExpr x') (acts (class_params funcs) c false x') (acts (class_params funcs) c false y') (Does c whole) later.any (ap (λ (a : Awaits). a.any) (r1 c)) m1 m2 in
      cc

  pub awaits_in_exchange : (whole x x' y y' : CoreExpr) (at : Span) (later r : Awaits) → whole ≡ expr.Exchange x y at → x' ≡ x → y' ≡ y → ((d : Bool) → later ≡ awaits_of funcs (acts (class_params funcs) d false y')) → ((d : Bool) → r ≡ joined (awaits_of funcs (acts (class_params funcs) d false x')) later) → (c o : Bool) → r ≡ awaits_of funcs (acts (class_params funcs) c o whole)
  awaits_in_exchange whole x x' y y' at later r is ex ey r1 r2 c o =
      let a = r1 c in
      let b = r2 c in
      let f = awaits_exchange funcs c o x y at in
      cc

  pub visited_update : (whole x x' y y' : CoreExpr) (op : Op) (n : Num) (old : Bool) (at : Span) (c o : Bool) (v v1 v2 : V) (later : Awaits) → whole ≡ expr.Update op n y x old at → x' ≡ x → y' ≡ y → v1 ≡ back after v (acts (class_params funcs) c false y' ++ Does c whole ∷ []) → ((d : Bool) → later ≡ awaits_of funcs (acts (class_params funcs) d false y')) → v2 ≡ back after (cond later.any (after v1 (Keeps (OfExpr x'))) v1) (acts (class_params funcs) c false x') → v2 ≡ back after v (acts (class_params funcs) c o whole)
  visited_update whole x x' y y' op n old at c o v v1 v2 later is ex ey m1 r1 m2 =
      let f = acts_update funcs c o op n y x old at in
      let k = kept_end after v v1 v2 (OfExpr x') (acts (class_params funcs) c false x') (acts (class_params funcs) c false y') (Does c whole) later.any (ap (λ (a : Awaits). a.any) (r1 c)) m1 m2 in
      cc

  pub awaits_in_update : (whole x x' y y' : CoreExpr) (op : Op) (n : Num) (old : Bool) (at : Span) (later r : Awaits) → whole ≡ expr.Update op n y x old at → x' ≡ x → y' ≡ y → ((d : Bool) → later ≡ awaits_of funcs (acts (class_params funcs) d false y')) → ((d : Bool) → r ≡ joined (awaits_of funcs (acts (class_params funcs) d false x')) later) → (c o : Bool) → r ≡ awaits_of funcs (acts (class_params funcs) c o whole)
  awaits_in_update whole x x' y y' op n old at later r is ex ey r1 r2 c o =
      let a = r1 c in
      let b = r2 c in
      let f = awaits_update funcs c o op n y x old at in
      cc

  pub visited_arith : (whole x x' y y' : CoreExpr) (op : Op) (n : Num) (at : Span) (c o : Bool) (v v1 v2 : V) (later : Awaits) → whole ≡ expr.Arith op n x y at → x' ≡ x → y' ≡ y → v1 ≡ back after v (acts (class_params funcs) c false y' ++ Does c whole ∷ []) → ((d : Bool) → later ≡ awaits_of funcs (acts (class_params funcs) d false y')) → v2 ≡ back after (cond later.any (after v1 (Keeps (OfExpr x'))) v1) (acts (class_params funcs) c false x') → v2 ≡ back after v (acts (class_params funcs) c o whole)
  visited_arith whole x x' y y' op n at c o v v1 v2 later is ex ey m1 r1 m2 =
      let f = acts_arith funcs c o op n x y at in
      let k = kept_end after v v1 v2 (OfExpr x') (acts (class_params funcs) c false x') (acts (class_params funcs) c false y') (Does c whole) later.any (ap (λ (a : Awaits). a.any) (r1 c)) m1 m2 in
      cc

  pub awaits_in_arith : (whole x x' y y' : CoreExpr) (op : Op) (n : Num) (at : Span) (later r : Awaits) → whole ≡ expr.Arith op n x y at → x' ≡ x → y' ≡ y → ((d : Bool) → later ≡ awaits_of funcs (acts (class_params funcs) d false y')) → ((d : Bool) → r ≡ joined (awaits_of funcs (acts (class_params funcs) d false x')) later) → (c o : Bool) → r ≡ awaits_of funcs (acts (class_params funcs) c o whole)
  awaits_in_arith whole x x' y y' op n at later r is ex ey r1 r2 c o =
      let a = r1 c in
      let b = r2 c in
      let f = awaits_arith funcs c o op n x y at in
      cc

  pub visited_same : (whole x x' y y' : CoreExpr) (at : Span) (c o : Bool) (v v1 v2 : V) (later : Awaits) → whole ≡ expr.Same x y at → x' ≡ x → y' ≡ y → v1 ≡ back after v (acts (class_params funcs) c false y' ++ Does c whole ∷ []) → ((d : Bool) → later ≡ awaits_of funcs (acts (class_params funcs) d false y')) → v2 ≡ back after (cond later.any (after v1 (Keeps (OfExpr x'))) v1) (acts (class_params funcs) c false x') → v2 ≡ back after v (acts (class_params funcs) c o whole)
  visited_same whole x x' y y' at c o v v1 v2 later is ex ey m1 r1 m2 =
      let f = acts_same funcs c o x y at in
      let k = kept_end after v v1 v2 (OfExpr x') (acts (class_params funcs) c false x') (acts (class_params funcs) c false y') (Does c whole) later.any (ap (λ (a : Awaits). a.any) (r1 c)) m1 m2 in
      cc

  pub awaits_in_same : (whole x x' y y' : CoreExpr) (at : Span) (later r : Awaits) → whole ≡ expr.Same x y at → x' ≡ x → y' ≡ y → ((d : Bool) → later ≡ awaits_of funcs (acts (class_params funcs) d false y')) → ((d : Bool) → r ≡ joined (awaits_of funcs (acts (class_params funcs) d false x')) later) → (c o : Bool) → r ≡ awaits_of funcs (acts (class_params funcs) c o whole)
  awaits_in_same whole x x' y y' at later r is ex ey r1 r2 c o =
      let a = r1 c in
      let b = r2 c in
      let f = awaits_same funcs c o x y at in
      cc

  pub visited_both : (whole x x' y y' : CoreExpr) (at : Span) (c o : Bool) (v v1 v2 : V) → whole ≡ expr.Both x y at → x' ≡ x → y' ≡ y → v1 ≡ back after v (acts (class_params funcs) true false y' ++ Does c whole ∷ []) → v2 ≡ back after v1 (acts (class_params funcs) c false x') → v2 ≡ back after v (acts (class_params funcs) c o whole)
  visited_both whole x x' y y' at c o v v1 v2 is ex ey m1 m2 =
      let f = acts_both funcs c o x y at in
      let k = back_append after v (acts (class_params funcs) c false x') (acts (class_params funcs) true false y' ++ Does c whole ∷ []) in
      cc

  pub awaits_in_both : (whole x x' y y' : CoreExpr) (at : Span) (later r : Awaits) → whole ≡ expr.Both x y at → x' ≡ x → y' ≡ y → ((d : Bool) → later ≡ awaits_of funcs (acts (class_params funcs) d false y')) → ((d : Bool) → r ≡ joined (awaits_of funcs (acts (class_params funcs) d false x')) later) → (c o : Bool) → r ≡ awaits_of funcs (acts (class_params funcs) c o whole)
  awaits_in_both whole x x' y y' at later r is ex ey r1 r2 c o =
      let a = r1 true in
      let b = r2 c in
      let f = awaits_both funcs c o x y at in
      cc

  pub visited_either : (whole x x' y y' : CoreExpr) (at : Span) (c o : Bool) (v v1 v2 : V) → whole ≡ expr.Either x y at → x' ≡ x → y' ≡ y → v1 ≡ back after v (acts (class_params funcs) true false y' ++ Does c whole ∷ []) → v2 ≡ back after v1 (acts (class_params funcs) c false x') → v2 ≡ back after v (acts (class_params funcs) c o whole)
  visited_either whole x x' y y' at c o v v1 v2 is ex ey m1 m2 =
      let f = acts_either funcs c o x y at in
      let k = back_append after v (acts (class_params funcs) c false x') (acts (class_params funcs) true false y' ++ Does c whole ∷ []) in
      cc

  pub awaits_in_either : (whole x x' y y' : CoreExpr) (at : Span) (later r : Awaits) → whole ≡ expr.Either x y at → x' ≡ x → y' ≡ y → ((d : Bool) → later ≡ awaits_of funcs (acts (class_params funcs) d false y')) → ((d : Bool) → r ≡ joined (awaits_of funcs (acts (class_params funcs) d false x')) later) → (c o : Bool) → r ≡ awaits_of funcs (acts (class_params funcs) c o whole)
  awaits_in_either whole x x' y y' at later r is ex ey r1 r2 c o =
      let a = r1 true in
      let b = r2 c in
      let f = awaits_either funcs c o x y at in
      cc

  pub visited_pick : (whole e e' x x' y y' : CoreExpr) (at : Span) (c o : Bool) (v v1 v2 v3 : V) → whole ≡ expr.Pick e x y at → e' ≡ e → x' ≡ x → y' ≡ y → v1 ≡ back after v (acts (class_params funcs) true false y' ++ Does c whole ∷ []) → v2 ≡ back after v1 (acts (class_params funcs) true false x') → v3 ≡ back after v2 (acts (class_params funcs) c false e') → v3 ≡ back after v (acts (class_params funcs) c o whole)
  visited_pick whole e e' x x' y y' at c o v v1 v2 v3 is ee ex ey m1 m2 m3 =
      let f = acts_pick funcs c o e x y at in
      let k = back_append after v (acts (class_params funcs) true false x') (acts (class_params funcs) true false y' ++ Does c whole ∷ []) in
      let l = back_append after v (acts (class_params funcs) c false e') (acts (class_params funcs) true false x' ++ (acts (class_params funcs) true false y' ++ Does c whole ∷ [])) in
      cc

  pub awaits_in_pick : (whole e e' x x' y y' : CoreExpr) (at : Span) (last later r : Awaits) → whole ≡ expr.Pick e x y at → e' ≡ e → x' ≡ x → y' ≡ y → ((d : Bool) → last ≡ awaits_of funcs (acts (class_params funcs) d false y')) → ((d : Bool) → later ≡ joined (awaits_of funcs (acts (class_params funcs) d false x')) last) → ((d : Bool) → r ≡ joined (awaits_of funcs (acts (class_params funcs) d false e')) later) → (c o : Bool) → r ≡ awaits_of funcs (acts (class_params funcs) c o whole)
  awaits_in_pick whole e e' x x' y y' at last later r is ee ex ey r1 r2 r3 c o =
      let p = r1 true in
      let q = r2 true in
      let s = r3 c in
      let f = awaits_pick funcs c o e x y at in
      cc

  pub visited_call : (whole : CoreExpr) (g : FuncId) (l l' : List Init) (at : Span) (c o : Bool) (v v' : V) → whole ≡ expr.Call g l at → l' ≡ l → v' ≡ back after v (arguments_acts funcs (class_params funcs g) c l' ++ Does c whole ∷ []) → v' ≡ back after v (acts (class_params funcs) c o whole)
  visited_call whole g l l' at c o v v' is e1 made =
      let f = acts_call funcs c o g l at in
      cc

  pub awaits_in_call : (whole : CoreExpr) (g : FuncId) (l l' : List Init) (at : Span) (r : Awaits) → whole ≡ expr.Call g l at → l' ≡ l → ((c : Bool) → r ≡ awaits_of funcs (arguments_acts funcs (class_params funcs g) c l')) → (c o : Bool) → r ≡ awaits_of funcs (acts (class_params funcs) c o whole)
  awaits_in_call whole g l l' at r is e1 made c o =
      let m = made c in
      let f = awaits_call funcs c o g l at in
      cc

  pub visited_handle : (whole : CoreExpr) (op : HandleOp) (l l' : List CoreExpr) (at : Span) (c o : Bool) (v v' : V) → whole ≡ expr.Handle op l at → l' ≡ l → v' ≡ back after v (operands_acts funcs c l' ++ Does c whole ∷ []) → v' ≡ back after v (acts (class_params funcs) c o whole)
  visited_handle whole op l l' at c o v v' is e1 made =
      let f = acts_handle funcs c o op l at in
      cc

  pub awaits_in_handle : (whole : CoreExpr) (op : HandleOp) (l l' : List CoreExpr) (at : Span) (r : Awaits) → whole ≡ expr.Handle op l at → l' ≡ l → ((c : Bool) → r ≡ awaits_of funcs (operands_acts funcs c l')) → (c o : Bool) → r ≡ awaits_of funcs (acts (class_params funcs) c o whole)
  awaits_in_handle whole op l l' at r is e1 made c o =
      let m = made c in
      let f = awaits_handle funcs c o op l at in
      cc

  pub visited_atomic : (whole : CoreExpr) (op : AtomicOp) (l l' : List CoreExpr) (at : Span) (c o : Bool) (v v' : V) → whole ≡ expr.Atomic op l at → l' ≡ l → v' ≡ back after v (operands_acts funcs c l' ++ Does c whole ∷ []) → v' ≡ back after v (acts (class_params funcs) c o whole)
  visited_atomic whole op l l' at c o v v' is e1 made =
      let f = acts_atomic funcs c o op l at in
      cc

  pub awaits_in_atomic : (whole : CoreExpr) (op : AtomicOp) (l l' : List CoreExpr) (at : Span) (r : Awaits) → whole ≡ expr.Atomic op l at → l' ≡ l → ((c : Bool) → r ≡ awaits_of funcs (operands_acts funcs c l')) → (c o : Bool) → r ≡ awaits_of funcs (acts (class_params funcs) c o whole)
  awaits_in_atomic whole op l l' at r is e1 made c o =
      let m = made c in
      let f = awaits_atomic funcs c o op l at in
      cc

  pub visited_lib : (whole : CoreExpr) (op : LibOp) (l l' : List CoreExpr) (at : Span) (c o : Bool) (v v' : V) → whole ≡ expr.Lib op l at → l' ≡ l → v' ≡ back after v (operands_acts funcs c l' ++ Does c whole ∷ []) → v' ≡ back after v (acts (class_params funcs) c o whole)
  visited_lib whole op l l' at c o v v' is e1 made =
      let f = acts_lib funcs c o op l at in
      cc

  pub awaits_in_lib : (whole : CoreExpr) (op : LibOp) (l l' : List CoreExpr) (at : Span) (r : Awaits) → whole ≡ expr.Lib op l at → l' ≡ l → ((c : Bool) → r ≡ awaits_of funcs (operands_acts funcs c l')) → (c o : Bool) → r ≡ awaits_of funcs (acts (class_params funcs) c o whole)
  awaits_in_lib whole op l l' at r is e1 made c o =
      let m = made c in
      let f = awaits_lib funcs c o op l at in
      cc

  pub visited_temp : (whole : CoreExpr) (slot : SlotId) (i i' : Init) (at : Span) (c o : Bool) (v v1 v2 : V) → whole ≡ expr.Temp slot i at → i' ≡ i → v1 ≡ after v (temp_act c o whole) → v2 ≡ back after v1 (init_acts (class_params funcs) c false i') → v2 ≡ back after v (acts (class_params funcs) c o whole)
  visited_temp whole slot i i' at c o v v1 v2 is ei m1 m2 =
      let f = acts_temp funcs c o slot i at in
      let k = back_append after v (init_acts (class_params funcs) c false i') (temp_act c o whole ∷ []) in
      cc

  pub awaits_in_temp : (whole : CoreExpr) (slot : SlotId) (i i' : Init) (at : Span) (r : Awaits) → whole ≡ expr.Temp slot i at → i' ≡ i → ((c o : Bool) → r ≡ awaits_of funcs (init_acts (class_params funcs) c o i')) → (c o : Bool) → r ≡ awaits_of funcs (acts (class_params funcs) c o whole)
  awaits_in_temp whole slot i i' at r is ei made c o =
      let m = made c false in
      let f = awaits_temp funcs c o slot i at in
      cc

  pub visited_await : (whole : CoreExpr) (p p' : AwaitPlan) (c o : Bool) (v v' : V) → whole ≡ expr.Await p → p' ≡ p → v' ≡ back after v (plan_acts funcs c p' ++ Does c whole ∷ []) → v' ≡ back after v (acts (class_params funcs) c o whole)
  visited_await whole p p' c o v v' is ep made =
      let f = acts_await funcs c o p in
      cc

  pub awaits_in_await : (whole : CoreExpr) (p p' : AwaitPlan) (r : Awaits) → whole ≡ expr.Await p → p' ≡ p → r.any ≡ true → ((c : Bool) → r.in_new ≡ (awaits_of funcs (plan_acts funcs c p')).in_new) → (c o : Bool) → r ≡ awaits_of funcs (acts (class_params funcs) c o whole)
  awaits_in_await whole p p' r is ep any in_new c o =
      let b = same_awaits r true (awaits_of funcs (plan_acts funcs c p')).in_new any (in_new c) in
      let f = awaits_await funcs c o p in
      cc

  pub visited_new : (whole : CoreExpr) (p p' : NewPlan) (c o : Bool) (v v' : V) → whole ≡ expr.New p → p' ≡ p → v' ≡ back after v (init_acts (class_params funcs) (c || p'.may_be_null) false p'.init ++ Does c whole ∷ []) → v' ≡ back after v (acts (class_params funcs) c o whole)
  visited_new whole p p' c o v v' is ep made =
      let f = acts_new funcs c o p in
      cc

  pub awaits_in_new_form : (whole : CoreExpr) (p p' : NewPlan) (r : Awaits) → whole ≡ expr.New p → p' ≡ p → ((c : Bool) → r.any ≡ (awaits_of funcs (init_acts (class_params funcs) c false p'.init)).any) → ((c d : Bool) → r.in_new ≡ ((awaits_of funcs (init_acts (class_params funcs) c false p'.init)).in_new || (awaits_of funcs (init_acts (class_params funcs) d false p'.init)).any)) → (c o : Bool) → r ≡ awaits_of funcs (acts (class_params funcs) c o whole)
  awaits_in_new_form whole p p' r is ep any in_new c o =
      let b = same_awaits r _ _ (any (c || p'.may_be_null)) (in_new (c || p'.may_be_null) false) in
      let f = awaits_new funcs c o p in
      cc

  pub visited_delete : (whole : CoreExpr) (p p' : DeletePlan) (c o : Bool) (v v' : V) → whole ≡ expr.Delete p → p' ≡ p → v' ≡ back after v (acts (class_params funcs) c false p'.pointer ++ Does c whole ∷ []) → v' ≡ back after v (acts (class_params funcs) c o whole)
  visited_delete whole p p' c o v v' is ep made =
      let f = acts_delete funcs c o p in
      cc

  pub awaits_in_delete : (whole : CoreExpr) (p p' : DeletePlan) (r : Awaits) → whole ≡ expr.Delete p → p' ≡ p → ((c : Bool) → r ≡ awaits_of funcs (acts (class_params funcs) c false p'.pointer)) → (c o : Bool) → r ≡ awaits_of funcs (acts (class_params funcs) c o whole)
  awaits_in_delete whole p p' r is ep made c o =
      let m = made c in
      let f = awaits_delete funcs c o p in
      cc

  pub visited_ctor : (whole : Init) (g : FuncId) (l l' : List Init) (c o : Bool) (v v1 v2 : V) → whole ≡ init.Ctor g l → l' ≡ l → v1 ≡ after v (Starts whole) → v2 ≡ back after v1 (arguments_acts funcs (drop 1 (class_params funcs g)) c l') → v2 ≡ back after v (init_acts (class_params funcs) c o whole)
  visited_ctor whole g l l' c o v v1 v2 is e1 m1 m2 =
      let f = acts_ctor funcs c o g l in
      let k = back_append after v (arguments_acts funcs (drop 1 (class_params funcs g)) c l') (Starts whole ∷ []) in
      cc

  pub awaits_in_ctor : (whole : Init) (g : FuncId) (l l' : List Init) (r : Awaits) → whole ≡ init.Ctor g l → l' ≡ l → ((c : Bool) → r ≡ awaits_of funcs (arguments_acts funcs (drop 1 (class_params funcs g)) c l')) → (c o : Bool) → r ≡ awaits_of funcs (init_acts (class_params funcs) c o whole)
  awaits_in_ctor whole g l l' r is e1 made c o =
      let m = made c in
      let f = awaits_ctor funcs c o g l in
      cc

  pub visited_members : (whole : Init) (l l' : List Init) (c o : Bool) (v v1 v2 : V) → whole ≡ init.Members l → l' ≡ l → v1 ≡ after v (Starts whole) → v2 ≡ back after v1 (inits_acts funcs c l') → v2 ≡ back after v (init_acts (class_params funcs) c o whole)
  visited_members whole l l' c o v v1 v2 is e1 m1 m2 =
      let f = acts_members funcs c o l in
      let k = back_append after v (inits_acts funcs c l') (Starts whole ∷ []) in
      cc

  pub awaits_in_members : (whole : Init) (l l' : List Init) (r : Awaits) → whole ≡ init.Members l → l' ≡ l → ((c : Bool) → r ≡ awaits_of funcs (inits_acts funcs c l')) → (c o : Bool) → r ≡ awaits_of funcs (init_acts (class_params funcs) c o whole)
  awaits_in_members whole l l' r is e1 made c o =
      let m = made c in
      let f = awaits_members funcs c o l in
      cc

  pub visited_value : (whole : Init) (e : CoreExpr) (c o : Bool) (v v1 v2 : V) → whole ≡ init.Value e → v1 ≡ after v (Starts whole) → v2 ≡ back after v1 (acts (class_params funcs) c o e) → v2 ≡ back after v (init_acts (class_params funcs) c o whole)
  visited_value whole e c o v v1 v2 is m1 m2 =
      let f = acts_value funcs c o e in
      let k = back_append after v (acts (class_params funcs) c o e) (Starts whole ∷ []) in
      cc

  pub awaits_in_value : (whole : Init) (e : CoreExpr) (r : Awaits) → whole ≡ init.Value e → ((c o : Bool) → r ≡ awaits_of funcs (acts (class_params funcs) c o e)) → (c o : Bool) → r ≡ awaits_of funcs (init_acts (class_params funcs) c o whole)
  awaits_in_value whole e r is made c o =
      let m = made c o in
      let f = awaits_value funcs c o e in
      cc

  pub visited_result : (whole : Init) (e : CoreExpr) (c o : Bool) (v v1 v2 : V) → whole ≡ init.Result e → v1 ≡ after v (Starts whole) → v2 ≡ back after v1 (acts (class_params funcs) c false e) → v2 ≡ back after v (init_acts (class_params funcs) c o whole)
  visited_result whole e c o v v1 v2 is m1 m2 =
      let f = acts_result funcs c o e in
      let k = back_append after v (acts (class_params funcs) c false e) (Starts whole ∷ []) in
      cc

  pub awaits_in_result : (whole : Init) (e : CoreExpr) (r : Awaits) → whole ≡ init.Result e → ((c o : Bool) → r ≡ awaits_of funcs (acts (class_params funcs) c o e)) → (c o : Bool) → r ≡ awaits_of funcs (init_acts (class_params funcs) c o whole)
  awaits_in_result whole e r is made c o =
      let m = made c false in
      let f = awaits_result funcs c o e in
      cc

  pub visited_choose : (whole : Init) (e : CoreExpr) (x x' y y' : Init) (c o : Bool) (v v1 v2 v3 v4 : V) → whole ≡ init.Choose e x y → x' ≡ x → y' ≡ y → v1 ≡ after v (Starts whole) → v2 ≡ back after v1 (init_acts (class_params funcs) true false y') → v3 ≡ back after v2 (init_acts (class_params funcs) true false x') → v4 ≡ back after v3 (acts (class_params funcs) c false e) → v4 ≡ back after v (init_acts (class_params funcs) c o whole)
  visited_choose whole e x x' y y' c o v v1 v2 v3 v4 is ex ey m1 m2 m3 m4 =
      let f = acts_choose funcs c o e x y in
      let j = back_append after v (init_acts (class_params funcs) true false y') (Starts whole ∷ []) in
      let k = back_append after v (init_acts (class_params funcs) true false x') (init_acts (class_params funcs) true false y' ++ Starts whole ∷ []) in
      let l = back_append after v (acts (class_params funcs) c false e) (init_acts (class_params funcs) true false x' ++ (init_acts (class_params funcs) true false y' ++ Starts whole ∷ [])) in
      cc

  pub awaits_in_choose : (whole : Init) (e : CoreExpr) (x x' y y' : Init) (last first later r : Awaits) → whole ≡ init.Choose e x y → x' ≡ x → y' ≡ y → ((d o : Bool) → last ≡ awaits_of funcs (init_acts (class_params funcs) d o y')) → ((d o : Bool) → first ≡ awaits_of funcs (init_acts (class_params funcs) d o x')) → later ≡ joined first last → ((d : Bool) → r ≡ joined (awaits_of funcs (acts (class_params funcs) d false e)) later) → (c o : Bool) → r ≡ awaits_of funcs (init_acts (class_params funcs) c o whole)
  awaits_in_choose whole e x x' y y' last first later r is ex ey r1 r2 r3 r4 c o =
      let p = r1 true false in
      let q = r2 true false in
      let s = r4 c in
      let f = awaits_choose funcs c o e x y in
      cc

  pub before_end : (xs : List Act) (a : Act) (v v1 v2 : V) → v1 ≡ after v a → v2 ≡ back after v1 xs → v2 ≡ back after v (xs ++ a ∷ [])
  before_end xs a v v1 v2 m1 m2 =
      let k = back_append after v xs (a ∷ []) in
      cc

  pub visited_made : (i : Init) (a : Act) (u b : Bool) (v v1 v2 : V) → u ≡ b → v1 ≡ after v a → v2 ≡ back after v1 (init_acts (class_params funcs) u false i) → v2 ≡ back after v (init_acts (class_params funcs) b false i ++ a ∷ [])
  visited_made i a u b v v1 v2 e m1 m2 =
      before_end (init_acts (class_params funcs) b false i) a v v1 v2 m1 (m2 ∙ ap (λ w. back after v1 (init_acts (class_params funcs) w false i)) e)

  pub visited_plan : (p : AwaitPlan) (c : Bool) (v v1 v2 v3 v4 : V) → v1 ≡ back after v (acts (class_params funcs) c false p.resume) → v2 ≡ back after v1 (acts (class_params funcs) c false p.suspend) → v3 ≡ back after v2 (acts (class_params funcs) c false p.ready) → v4 ≡ back after v3 (acts (class_params funcs) c false p.operand) → v4 ≡ back after v (plan_acts funcs c p)
  visited_plan p c v v1 v2 v3 v4 m1 m2 m3 m4 =
      let j = back_append after v (acts (class_params funcs) c false p.suspend) (acts (class_params funcs) c false p.resume) in
      let k = back_append after v (acts (class_params funcs) c false p.ready) (acts (class_params funcs) c false p.suspend ++ acts (class_params funcs) c false p.resume) in
      let l = back_append after v (acts (class_params funcs) c false p.operand) (acts (class_params funcs) c false p.ready ++ (acts (class_params funcs) c false p.suspend ++ acts (class_params funcs) c false p.resume)) in
      cc
