-- What an expression and an initializer give and need at each form that holds others.
use Rattle.std.specs.Prelude.{◌≡◌, ℕ, ◌==◌, Bool, true, false, ◌&&◌, List, [], ◌∷◌, slice_get}
use Rattle.std.specs.List.{list_all}
use Rattle.std.proofs.Common.{refl, ap, ◌∙◌, map}
use mathlib.Core.Former.{Count}
use Rattle.co_base.specs.declared.kinds.Num.{Num}
use Rattle.co_base.specs.declared.kinds.Op.{Op}
use Rattle.co_base.specs.declared.ids.ClassId.{ClassId}
use Rattle.co_base.specs.declared.ids.FuncId.{FuncId}
use Rattle.co_base.specs.declared.ids.SlotId.{SlotId}
use Rattle.co_base.specs.declared.span.Span.{Span}
use Rattle.co_types.specs.declared.types.CoType.{CoType}
use Rattle.co_types.specs.declared.types.Head.TheVariants as head
use Rattle.co_types.specs.declared.classes.FieldInfo.{FieldInfo}
use Rattle.co_types.specs.Types.{head_of}
use Rattle.co_core_tree.specs.declared.kinds.HandleOp.{HandleOp}
use Rattle.co_core_tree.specs.declared.kinds.AtomicOp.{AtomicOp}
use Rattle.co_core_tree.specs.declared.kinds.LibOp.{LibOp}
use Rattle.co_core_tree.specs.declared.exprs.CoreExpr.{CoreExpr, Row_of-CoreExpr, end_of-CoreExpr, more_of-CoreExpr, items-the_row-CoreExpr, items_hidden-the_row-CoreExpr-4, Row_of-Init, end_of-Init, more_of-Init, items-the_row-Init, items_hidden-the_row-Init-1}
use Rattle.co_core_tree.specs.declared.exprs.CoreExpr.TheVariants as expr
use Rattle.co_core_tree.specs.declared.exprs.CoreExpr.TheBlock.{shape-the_row-CoreExpr-0, hidden-the_row-CoreExpr-0, shown-the_row-CoreExpr-0, shape-the_row-Init-2, hidden-the_row-Init-2, shown-the_row-Init-2, shape-the_row-AwaitPlan-3, hidden-the_row-AwaitPlan-3, shown-the_row-AwaitPlan-3, shape-the_row-NewPlan-5, hidden-the_row-NewPlan-5, shown-the_row-NewPlan-5, shape-the_row-DeletePlan-6, hidden-the_row-DeletePlan-6, shown-the_row-DeletePlan-6}
use Rattle.co_core_tree.specs.declared.exprs.Init.{Init}
use Rattle.co_core_tree.specs.declared.exprs.Init.TheVariants as init
use Rattle.co_core_tree.specs.declared.exprs.AwaitPlan.{AwaitPlan}
use Rattle.co_core_tree.specs.declared.exprs.NewPlan.{NewPlan}
use Rattle.co_core_tree.specs.declared.exprs.DeletePlan.{DeletePlan}
use Rattle.co_core_tree.specs.declared.units.CoreFunc.{CoreFunc}
use Rattle.co_core_tree.specs.declared.units.UnitParts.{UnitParts}
use Rattle.co_core_tree.specs.Slots.{slot_at}
use Rattle.co_core_typing.specs.Gives.{Nothing, Throws, Value, plain_shape, pointer_shape, number, truth, is_right, is_some_number, value_converts, arith_gives, field_place, referent, pointer_to, loaded, joined}
use Rattle.co_core_typing.specs.Forms.{store_fits, arith_fits, update_fits, updated, is_testable, same_fits, are_truths, pick_fits, handle_gives, atomic_gives, lib_gives, is_object, delete_fits, is_temp, makes_temp, await_fits, choose_fits}
use Rattle.co_core_typing.specs.Tables.{slot_place, slot_type, param_types_of, after_first, is_plain, constructs, call_gives, throw_fits}
use Rattle.co_core_typing.specs.Rules.{gives, typed, init_typed, all_give, all_typed, args_typed, fields_typed, arguments_typed, members_typed, fields_of_head, has_members, inside}

-- the row of a form that holds a list
abbrev init_row : CoreExpr → (n : Count) × Row_of-Init n
init_row (expr.Call' f n args at) = (_, args)
init_row e = (_, end_of-Init)

abbrev expr_row : CoreExpr → (n : Count) × Row_of-CoreExpr n
expr_row (expr.Handle' o n operands at) = (_, operands)
expr_row (expr.Atomic' o n operands at) = (_, operands)
expr_row (expr.Lib' o n operands at) = (_, operands)
expr_row e = (_, end_of-CoreExpr)

abbrev part_row : Init → (n : Count) × Row_of-Init n
part_row (init.Ctor' f n args) = (_, args)
part_row (init.Members' n members) = (_, members)
part_row i = (_, end_of-Init)

module _ (unit : UnitParts) (func : CoreFunc) (w : List ClassId) where
  pub gives_field : (e : CoreExpr) (k : ℕ) (at : Span) → gives unit func w (expr.Field e k at) ≡ field_place unit.classes (gives unit func w e) k
  unfolding shape-the_row-CoreExpr-0 hidden-the_row-CoreExpr-0 shown-the_row-CoreExpr-0 denote.Hole.Carrier.hidden
  gives_field e k at = refl

  pub typed_field : (e : CoreExpr) (k : ℕ) (at : Span) → typed unit func w (expr.Field e k at) ≡ (typed unit func w e && is_right (field_place unit.classes (gives unit func w e) k))
  unfolding shape-the_row-CoreExpr-0 hidden-the_row-CoreExpr-0 shown-the_row-CoreExpr-0 denote.Hole.Carrier.hidden
  typed_field e k at = refl

  pub gives_deref : (e : CoreExpr) (at : Span) → gives unit func w (expr.Deref e at) ≡ referent (gives unit func w e)
  unfolding shape-the_row-CoreExpr-0 hidden-the_row-CoreExpr-0 shown-the_row-CoreExpr-0 denote.Hole.Carrier.hidden
  gives_deref e at = refl

  pub typed_deref : (e : CoreExpr) (at : Span) → typed unit func w (expr.Deref e at) ≡ (typed unit func w e && is_right (referent (gives unit func w e)))
  unfolding shape-the_row-CoreExpr-0 hidden-the_row-CoreExpr-0 shown-the_row-CoreExpr-0 denote.Hole.Carrier.hidden
  typed_deref e at = refl

  pub gives_address : (e : CoreExpr) (at : Span) → gives unit func w (expr.Address e at) ≡ pointer_to (gives unit func w e)
  unfolding shape-the_row-CoreExpr-0 hidden-the_row-CoreExpr-0 shown-the_row-CoreExpr-0 denote.Hole.Carrier.hidden
  gives_address e at = refl

  pub typed_address : (e : CoreExpr) (at : Span) → typed unit func w (expr.Address e at) ≡ (typed unit func w e && is_right (pointer_to (gives unit func w e)))
  unfolding shape-the_row-CoreExpr-0 hidden-the_row-CoreExpr-0 shown-the_row-CoreExpr-0 denote.Hole.Carrier.hidden
  typed_address e at = refl

  pub gives_load : (e : CoreExpr) (at : Span) → gives unit func w (expr.Load e at) ≡ loaded (gives unit func w e)
  unfolding shape-the_row-CoreExpr-0 hidden-the_row-CoreExpr-0 shown-the_row-CoreExpr-0 denote.Hole.Carrier.hidden
  gives_load e at = refl

  pub typed_load : (e : CoreExpr) (at : Span) → typed unit func w (expr.Load e at) ≡ (typed unit func w e && is_right (loaded (gives unit func w e)))
  unfolding shape-the_row-CoreExpr-0 hidden-the_row-CoreExpr-0 shown-the_row-CoreExpr-0 denote.Hole.Carrier.hidden
  typed_load e at = refl

  pub gives_store : (p v : CoreExpr) (at : Span) → gives unit func w (expr.Store p v at) ≡ gives unit func w p
  unfolding shape-the_row-CoreExpr-0 hidden-the_row-CoreExpr-0 shown-the_row-CoreExpr-0 denote.Hole.Carrier.hidden
  gives_store p v at = refl

  pub typed_store : (p v : CoreExpr) (at : Span) → typed unit func w (expr.Store p v at) ≡ (typed unit func w v && (typed unit func w p && store_fits (gives unit func w p) (gives unit func w v)))
  unfolding shape-the_row-CoreExpr-0 hidden-the_row-CoreExpr-0 shown-the_row-CoreExpr-0 denote.Hole.Carrier.hidden
  typed_store p v at = refl

  pub gives_exchange : (p v : CoreExpr) (at : Span) → gives unit func w (expr.Exchange p v at) ≡ loaded (gives unit func w p)
  unfolding shape-the_row-CoreExpr-0 hidden-the_row-CoreExpr-0 shown-the_row-CoreExpr-0 denote.Hole.Carrier.hidden
  gives_exchange p v at = refl

  pub typed_exchange : (p v : CoreExpr) (at : Span) → typed unit func w (expr.Exchange p v at) ≡ (typed unit func w p && (typed unit func w v && store_fits (gives unit func w p) (gives unit func w v)))
  unfolding shape-the_row-CoreExpr-0 hidden-the_row-CoreExpr-0 shown-the_row-CoreExpr-0 denote.Hole.Carrier.hidden
  typed_exchange p v at = refl

  pub gives_update : (o : Op) (n : Num) (p v : CoreExpr) (old : Bool) (at : Span) → gives unit func w (expr.Update o n p v old at) ≡ updated old (gives unit func w p)
  unfolding shape-the_row-CoreExpr-0 hidden-the_row-CoreExpr-0 shown-the_row-CoreExpr-0 denote.Hole.Carrier.hidden
  gives_update o n p v old at = refl

  pub typed_update : (o : Op) (n : Num) (p v : CoreExpr) (old : Bool) (at : Span) → typed unit func w (expr.Update o n p v old at) ≡ (typed unit func w v && (typed unit func w p && update_fits o n (gives unit func w p) (gives unit func w v)))
  unfolding shape-the_row-CoreExpr-0 hidden-the_row-CoreExpr-0 shown-the_row-CoreExpr-0 denote.Hole.Carrier.hidden
  typed_update o n p v old at = refl

  pub gives_arith : (o : Op) (n : Num) (l r : CoreExpr) (at : Span) → gives unit func w (expr.Arith o n l r at) ≡ arith_gives o n
  unfolding shape-the_row-CoreExpr-0 hidden-the_row-CoreExpr-0 shown-the_row-CoreExpr-0 denote.Hole.Carrier.hidden
  gives_arith o n l r at = refl

  pub typed_arith : (o : Op) (n : Num) (l r : CoreExpr) (at : Span) → typed unit func w (expr.Arith o n l r at) ≡ (typed unit func w l && (typed unit func w r && arith_fits o n (gives unit func w l) (gives unit func w r)))
  unfolding shape-the_row-CoreExpr-0 hidden-the_row-CoreExpr-0 shown-the_row-CoreExpr-0 denote.Hole.Carrier.hidden
  typed_arith o n l r at = refl

  pub gives_convert : (n : Num) (e : CoreExpr) (at : Span) → gives unit func w (expr.Convert n e at) ≡ number n
  unfolding shape-the_row-CoreExpr-0 hidden-the_row-CoreExpr-0 shown-the_row-CoreExpr-0 denote.Hole.Carrier.hidden
  gives_convert n e at = refl

  pub typed_convert : (n : Num) (e : CoreExpr) (at : Span) → typed unit func w (expr.Convert n e at) ≡ (typed unit func w e && is_some_number (gives unit func w e))
  unfolding shape-the_row-CoreExpr-0 hidden-the_row-CoreExpr-0 shown-the_row-CoreExpr-0 denote.Hole.Carrier.hidden
  typed_convert n e at = refl

  pub gives_test : (e : CoreExpr) (at : Span) → gives unit func w (expr.Test e at) ≡ truth
  unfolding shape-the_row-CoreExpr-0 hidden-the_row-CoreExpr-0 shown-the_row-CoreExpr-0 denote.Hole.Carrier.hidden
  gives_test e at = refl

  pub typed_test : (e : CoreExpr) (at : Span) → typed unit func w (expr.Test e at) ≡ (typed unit func w e && is_testable (gives unit func w e))
  unfolding shape-the_row-CoreExpr-0 hidden-the_row-CoreExpr-0 shown-the_row-CoreExpr-0 denote.Hole.Carrier.hidden
  typed_test e at = refl

  pub gives_same : (l r : CoreExpr) (at : Span) → gives unit func w (expr.Same l r at) ≡ truth
  unfolding shape-the_row-CoreExpr-0 hidden-the_row-CoreExpr-0 shown-the_row-CoreExpr-0 denote.Hole.Carrier.hidden
  gives_same l r at = refl

  pub typed_same : (l r : CoreExpr) (at : Span) → typed unit func w (expr.Same l r at) ≡ (typed unit func w l && (typed unit func w r && same_fits (gives unit func w l) (gives unit func w r)))
  unfolding shape-the_row-CoreExpr-0 hidden-the_row-CoreExpr-0 shown-the_row-CoreExpr-0 denote.Hole.Carrier.hidden
  typed_same l r at = refl

  pub gives_both : (l r : CoreExpr) (at : Span) → gives unit func w (expr.Both l r at) ≡ truth
  unfolding shape-the_row-CoreExpr-0 hidden-the_row-CoreExpr-0 shown-the_row-CoreExpr-0 denote.Hole.Carrier.hidden
  gives_both l r at = refl

  pub typed_both : (l r : CoreExpr) (at : Span) → typed unit func w (expr.Both l r at) ≡ (typed unit func w l && (typed unit func w r && are_truths (gives unit func w l) (gives unit func w r)))
  unfolding shape-the_row-CoreExpr-0 hidden-the_row-CoreExpr-0 shown-the_row-CoreExpr-0 denote.Hole.Carrier.hidden
  typed_both l r at = refl

  pub gives_either : (l r : CoreExpr) (at : Span) → gives unit func w (expr.Either l r at) ≡ truth
  unfolding shape-the_row-CoreExpr-0 hidden-the_row-CoreExpr-0 shown-the_row-CoreExpr-0 denote.Hole.Carrier.hidden
  gives_either l r at = refl

  pub typed_either : (l r : CoreExpr) (at : Span) → typed unit func w (expr.Either l r at) ≡ (typed unit func w l && (typed unit func w r && are_truths (gives unit func w l) (gives unit func w r)))
  unfolding shape-the_row-CoreExpr-0 hidden-the_row-CoreExpr-0 shown-the_row-CoreExpr-0 denote.Hole.Carrier.hidden
  typed_either l r at = refl

  pub gives_pick : (e x y : CoreExpr) (at : Span) → gives unit func w (expr.Pick e x y at) ≡ joined (gives unit func w x) (gives unit func w y)
  unfolding shape-the_row-CoreExpr-0 hidden-the_row-CoreExpr-0 shown-the_row-CoreExpr-0 denote.Hole.Carrier.hidden
  gives_pick e x y at = refl

  pub typed_pick : (e x y : CoreExpr) (at : Span) → typed unit func w (expr.Pick e x y at) ≡ (typed unit func w e && (typed unit func w x && (typed unit func w y && pick_fits (gives unit func w e) (joined (gives unit func w x) (gives unit func w y)))))
  unfolding shape-the_row-CoreExpr-0 hidden-the_row-CoreExpr-0 shown-the_row-CoreExpr-0 denote.Hole.Carrier.hidden
  typed_pick e x y at = refl

  pub gives_temp : (slot : SlotId) (i : Init) (at : Span) → gives unit func w (expr.Temp slot i at) ≡ slot_place (slot_at func slot)
  unfolding shape-the_row-Init-2 hidden-the_row-Init-2 shown-the_row-Init-2 denote.Hole.Carrier.hidden
  gives_temp slot i at = refl

  pub typed_temp : (slot : SlotId) (i : Init) (at : Span) → typed unit func w (expr.Temp slot i at) ≡ (init_typed unit func w false (slot_type func slot) i)
  unfolding shape-the_row-Init-2 hidden-the_row-Init-2 shown-the_row-Init-2 denote.Hole.Carrier.hidden
  typed_temp slot i at = refl

  pub gives_throw : (of : CoType) (e : CoreExpr) (at : Span) → gives unit func w (expr.Throw of e at) ≡ Throws
  unfolding shape-the_row-CoreExpr-0 hidden-the_row-CoreExpr-0 shown-the_row-CoreExpr-0 denote.Hole.Carrier.hidden
  gives_throw of e at = refl

  pub typed_throw : (of : CoType) (e : CoreExpr) (at : Span) → typed unit func w (expr.Throw of e at) ≡ (typed unit func w e && throw_fits unit.classes of (gives unit func w e))
  unfolding shape-the_row-CoreExpr-0 hidden-the_row-CoreExpr-0 shown-the_row-CoreExpr-0 denote.Hole.Carrier.hidden
  typed_throw of e at = refl

  pub gives_rethrow_ptr : (e : CoreExpr) (at : Span) → gives unit func w (expr.RethrowPtr e at) ≡ Nothing
  unfolding shape-the_row-CoreExpr-0 hidden-the_row-CoreExpr-0 shown-the_row-CoreExpr-0 denote.Hole.Carrier.hidden
  gives_rethrow_ptr e at = refl

  pub typed_rethrow_ptr : (e : CoreExpr) (at : Span) → typed unit func w (expr.RethrowPtr e at) ≡ (typed unit func w e && value_converts (plain_shape head.ExceptionPtr) (gives unit func w e))
  unfolding shape-the_row-CoreExpr-0 hidden-the_row-CoreExpr-0 shown-the_row-CoreExpr-0 denote.Hole.Carrier.hidden
  typed_rethrow_ptr e at = refl

  pub gives_await : (p : AwaitPlan) → gives unit func w (expr.Await p) ≡ gives unit func w p.resume
  unfolding shape-the_row-AwaitPlan-3 hidden-the_row-AwaitPlan-3 shown-the_row-AwaitPlan-3 denote.Hole.Carrier.hidden
  gives_await p = refl

  pub typed_await : (p : AwaitPlan) → typed unit func w (expr.Await p) ≡ (typed unit func w p.operand && (typed unit func w p.ready && (typed unit func w p.suspend && (typed unit func w p.resume && await_fits (slot_at func p.holder) (makes_temp p.holder p.operand) p.answer (gives unit func w p.operand) (gives unit func w p.ready) (gives unit func w p.suspend)))))
  unfolding shape-the_row-AwaitPlan-3 hidden-the_row-AwaitPlan-3 shown-the_row-AwaitPlan-3 denote.Hole.Carrier.hidden
  typed_await p = refl

  pub gives_new : (p : NewPlan) → gives unit func w (expr.New p) ≡ Value (pointer_shape p.of)
  unfolding shape-the_row-NewPlan-5 hidden-the_row-NewPlan-5 shown-the_row-NewPlan-5 denote.Hole.Carrier.hidden
  gives_new p = refl

  pub typed_new : (p : NewPlan) → typed unit func w (expr.New p) ≡ (is_object (head_of p.of) && init_typed unit func w false p.of p.init)
  unfolding shape-the_row-NewPlan-5 hidden-the_row-NewPlan-5 shown-the_row-NewPlan-5 denote.Hole.Carrier.hidden
  typed_new p = refl

  pub gives_delete : (p : DeletePlan) → gives unit func w (expr.Delete p) ≡ Nothing
  unfolding shape-the_row-DeletePlan-6 hidden-the_row-DeletePlan-6 shown-the_row-DeletePlan-6 denote.Hole.Carrier.hidden
  gives_delete p = refl

  pub typed_delete : (p : DeletePlan) → typed unit func w (expr.Delete p) ≡ (typed unit func w p.pointer && delete_fits p.of (gives unit func w p.pointer))
  unfolding shape-the_row-DeletePlan-6 hidden-the_row-DeletePlan-6 shown-the_row-DeletePlan-6 denote.Hole.Carrier.hidden
  typed_delete p = refl

  rows_arguments : (m : Count) (row : Row_of-Init m) (v : List ClassId) (types : List CoType) → args_typed unit func v types row ≡ arguments_typed unit func v types (items-the_row-Init m row)
  rows_arguments m end_of-Init v [] = refl
  rows_arguments m end_of-Init v (to ∷ types) = refl
  rows_arguments m (more_of-Init i rest) v [] = refl
  rows_arguments m (more_of-Init i rest) v (to ∷ types) = ap (λ b. init_typed unit func v true to i && b) (rows_arguments _ rest v types)

  rows_members : (m : Count) (row : Row_of-Init m) (v : List ClassId) (fields : List FieldInfo) → fields_typed unit func v fields row ≡ members_typed unit func v fields (items-the_row-Init m row)
  rows_members m end_of-Init v [] = refl
  rows_members m end_of-Init v (field ∷ fields) = refl
  rows_members m (more_of-Init i rest) v [] = refl
  rows_members m (more_of-Init i rest) v (field ∷ fields) = ap (λ b. init_typed unit func v false field.of i && b) (rows_members _ rest v fields)

  rows_give : (m : Count) (row : Row_of-CoreExpr m) → all_give unit func w row ≡ map (gives unit func w) (items-the_row-CoreExpr m row)
  rows_give m end_of-CoreExpr = refl
  rows_give m (more_of-CoreExpr e rest) = ap (λ l. gives unit func w e ∷ l) (rows_give _ rest)

  rows_typed : (m : Count) (row : Row_of-CoreExpr m) → all_typed unit func w row ≡ list_all (typed unit func w) (items-the_row-CoreExpr m row)
  rows_typed m end_of-CoreExpr = refl
  rows_typed m (more_of-CoreExpr e rest) = ap (λ b. typed unit func w e && b) (rows_typed _ rest)

  give_list : (m : Count) (row : Row_of-CoreExpr m) (operands : List CoreExpr) → items-the_row-CoreExpr m row ≡ operands → all_give unit func w row ≡ map (gives unit func w) operands
  give_list m row operands e = rows_give m row ∙ ap (map (gives unit func w)) e

  typed_list : (m : Count) (row : Row_of-CoreExpr m) (operands : List CoreExpr) → items-the_row-CoreExpr m row ≡ operands → all_typed unit func w row ≡ list_all (typed unit func w) operands
  typed_list m row operands e = rows_typed m row ∙ ap (list_all (typed unit func w)) e

  pub typed_call : (f : FuncId) (args : List Init) (at : Span) → typed unit func w (expr.Call f args at) ≡ (is_plain (slice_get unit.funcs f.0) && arguments_typed unit func w (param_types_of (slice_get unit.funcs f.0)) args)
  typed_call f args at =
      let row = init_row (expr.Call f args at) in
      let types = param_types_of (slice_get unit.funcs f.0) in
      ap (λ b. is_plain (slice_get unit.funcs f.0) && b) (rows_arguments row.0 row.1 w types ∙ ap (arguments_typed unit func w types) (items_hidden-the_row-Init-1 args))

  pub gives_call : (f : FuncId) (args : List Init) (at : Span) → gives unit func w (expr.Call f args at) ≡ call_gives (slice_get unit.funcs f.0)
  gives_call f args at = refl

  pub gives_handle : (o : HandleOp) (operands : List CoreExpr) (at : Span) → gives unit func w (expr.Handle o operands at) ≡ handle_gives o (map (gives unit func w) operands)
  gives_handle o operands at =
      let row = expr_row (expr.Handle o operands at) in
      ap (handle_gives o) (give_list row.0 row.1 operands (items_hidden-the_row-CoreExpr-4 operands))

  pub typed_handle : (o : HandleOp) (operands : List CoreExpr) (at : Span) → typed unit func w (expr.Handle o operands at) ≡ (list_all (typed unit func w) operands && is_right (handle_gives o (map (gives unit func w) operands)))
  typed_handle o operands at =
      let row = expr_row (expr.Handle o operands at) in
      let shown = items_hidden-the_row-CoreExpr-4 operands in
      ap (λ b. b && is_right (handle_gives o (all_give unit func w row.1))) (typed_list row.0 row.1 operands shown)
      ∙ ap (λ l. list_all (typed unit func w) operands && is_right (handle_gives o l)) (give_list row.0 row.1 operands shown)

  pub gives_atomic : (o : AtomicOp) (operands : List CoreExpr) (at : Span) → gives unit func w (expr.Atomic o operands at) ≡ atomic_gives o (map (gives unit func w) operands)
  gives_atomic o operands at =
      let row = expr_row (expr.Atomic o operands at) in
      ap (atomic_gives o) (give_list row.0 row.1 operands (items_hidden-the_row-CoreExpr-4 operands))

  pub typed_atomic : (o : AtomicOp) (operands : List CoreExpr) (at : Span) → typed unit func w (expr.Atomic o operands at) ≡ (list_all (typed unit func w) operands && is_right (atomic_gives o (map (gives unit func w) operands)))
  typed_atomic o operands at =
      let row = expr_row (expr.Atomic o operands at) in
      let shown = items_hidden-the_row-CoreExpr-4 operands in
      ap (λ b. b && is_right (atomic_gives o (all_give unit func w row.1))) (typed_list row.0 row.1 operands shown)
      ∙ ap (λ l. list_all (typed unit func w) operands && is_right (atomic_gives o l)) (give_list row.0 row.1 operands shown)

  pub gives_lib : (o : LibOp) (operands : List CoreExpr) (at : Span) → gives unit func w (expr.Lib o operands at) ≡ lib_gives o (map (gives unit func w) operands)
  gives_lib o operands at =
      let row = expr_row (expr.Lib o operands at) in
      ap (lib_gives o) (give_list row.0 row.1 operands (items_hidden-the_row-CoreExpr-4 operands))

  pub typed_lib : (o : LibOp) (operands : List CoreExpr) (at : Span) → typed unit func w (expr.Lib o operands at) ≡ (list_all (typed unit func w) operands && is_right (lib_gives o (map (gives unit func w) operands)))
  typed_lib o operands at =
      let row = expr_row (expr.Lib o operands at) in
      let shown = items_hidden-the_row-CoreExpr-4 operands in
      ap (λ b. b && is_right (lib_gives o (all_give unit func w row.1))) (typed_list row.0 row.1 operands shown)
      ∙ ap (λ l. list_all (typed unit func w) operands && is_right (lib_gives o l)) (give_list row.0 row.1 operands shown)

  pub typed_ctor : (object : Bool) (to : CoType) (f : FuncId) (args : List Init) → init_typed unit func w object to (init.Ctor f args) ≡ (constructs (slice_get unit.funcs f.0) (head_of to) && arguments_typed unit func w (after_first (param_types_of (slice_get unit.funcs f.0))) args)
  typed_ctor object to f args =
      let row = part_row (init.Ctor f args) in
      let types = after_first (param_types_of (slice_get unit.funcs f.0)) in
      ap (λ b. constructs (slice_get unit.funcs f.0) (head_of to) && b) (rows_arguments row.0 row.1 w types ∙ ap (arguments_typed unit func w types) (items_hidden-the_row-Init-1 args))

  pub typed_members : (object : Bool) (to : CoType) (members : List Init) → init_typed unit func w object to (init.Members members) ≡ (has_members unit.classes (head_of to) && members_typed unit func (inside (head_of to) w) (fields_of_head unit.classes (head_of to)) members)
  typed_members object to members =
      let row = part_row (init.Members members) in
      let fields = fields_of_head unit.classes (head_of to) in
      ap (λ b. has_members unit.classes (head_of to) && b) (rows_members row.0 row.1 (inside (head_of to) w) fields ∙ ap (members_typed unit func (inside (head_of to) w) fields) (items_hidden-the_row-Init-1 members))

  pub typed_choose : (object : Bool) (to : CoType) (e : CoreExpr) (x y : Init) → init_typed unit func w object to (init.Choose e x y) ≡ (typed unit func w e && (choose_fits (head_of to) (gives unit func w e) && (init_typed unit func w false to x && init_typed unit func w false to y)))
  unfolding shape-the_row-Init-2 hidden-the_row-Init-2 shown-the_row-Init-2 denote.Hole.Carrier.hidden
  typed_choose object to e x y = refl

pub ruleset opened = (gives_field, typed_field, gives_deref, typed_deref, gives_address, typed_address, gives_load, typed_load, gives_store, typed_store, gives_exchange, typed_exchange, gives_update, typed_update, gives_arith, typed_arith, gives_convert, typed_convert, gives_test, typed_test, gives_same, typed_same, gives_both, typed_both, gives_either, typed_either, gives_pick, typed_pick, gives_temp, typed_temp, gives_throw, typed_throw, gives_rethrow_ptr, typed_rethrow_ptr, gives_await, typed_await, gives_new, typed_new, gives_delete, typed_delete, typed_call, gives_call, gives_handle, typed_handle, gives_atomic, typed_atomic, gives_lib, typed_lib, typed_ctor, typed_members, typed_choose)

pub is_temp_temp : (slot : SlotId) (i : Init) (at : Span) → is_temp (expr.Temp slot i at) ≡ true
unfolding shape-the_row-Init-2 hidden-the_row-Init-2 shown-the_row-Init-2 denote.Hole.Carrier.hidden
is_temp_temp slot i at = refl

pub makes_temp_temp : (holder slot : SlotId) (i : Init) (at : Span) → makes_temp holder (expr.Temp slot i at) ≡ (slot.0 == holder.0)
unfolding shape-the_row-Init-2 hidden-the_row-Init-2 shown-the_row-Init-2 denote.Hole.Carrier.hidden
makes_temp_temp holder slot i at = refl

pub ruleset opened_temps = (is_temp_temp, makes_temp_temp)
