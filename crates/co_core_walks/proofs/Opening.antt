-- What the definitions come to at the forms that hold a box.
use Rattle.std.specs.Prelude.{◌≡◌, Bool, true, false, ◌&&◌, List}
use Rattle.std.specs.List.{list_all}
use Rattle.std.proofs.Common.{refl, sym, ap, ◌∙◌}
use mathlib.Core.Former.{Count}
use Rattle.co_base.specs.declared.span.Span.{Span}
use Rattle.co_types.specs.declared.types.CoType.{CoType}
use Rattle.co_types.specs.declared.types.CoType.TheVariants as type
use Rattle.co_types.specs.declared.types.CoType.TheBlock.{shape-the_row-CoType-0, hidden-the_row-CoType-0, shown-the_row-CoType-0}
use Rattle.co_core_tree.specs.declared.kinds.HandleOp.{HandleOp}
use Rattle.co_core_tree.specs.declared.kinds.HandleOp.TheVariants as handle
use Rattle.co_core_tree.specs.declared.kinds.LibOp.{LibOp}
use Rattle.co_core_tree.specs.declared.kinds.LibOp.TheVariants as lib
use Rattle.co_core_tree.specs.declared.exprs.CoreExpr.{CoreExpr, Row_of-CoreExpr, end_of-CoreExpr, more_of-CoreExpr, items-the_row-CoreExpr, items_hidden-the_row-CoreExpr-4}
use Rattle.co_core_tree.specs.declared.exprs.CoreExpr.TheVariants as expr
use Rattle.co_core_tree.specs.declared.exprs.CoreExpr.TheBlock.{shape-the_row-AwaitPlan-3, hidden-the_row-AwaitPlan-3, shown-the_row-AwaitPlan-3, shape-the_row-NewPlan-5, hidden-the_row-NewPlan-5, shown-the_row-NewPlan-5, shape-the_row-DeletePlan-6, hidden-the_row-DeletePlan-6, shown-the_row-DeletePlan-6}
use Rattle.co_core_tree.specs.declared.exprs.AwaitPlan.{AwaitPlan}
use Rattle.co_core_tree.specs.declared.exprs.NewPlan.{NewPlan}
use Rattle.co_core_tree.specs.declared.exprs.DeletePlan.{DeletePlan}
use Rattle.co_core_tree.specs.declared.stmts.CoreStmt.{CoreStmt, Row_of-Handler, end_of-Handler, more_of-Handler, items-the_row-Handler, items_hidden-the_row-Handler-2}
use Rattle.co_core_tree.specs.declared.stmts.CoreStmt.TheVariants as stmt
use Rattle.co_core_tree.specs.declared.stmts.Handler.{Handler}
use Rattle.co_core_tree.specs.declared.units.CoreFunc.{CoreFunc}
use Rattle.co_core_tree.specs.declared.units.UnitParts.{UnitParts}
use Rattle.co_core.specs.Ids.{catch_held, expr_held, first_is_text, func_held_if, give_held, handlers_held, slot_held, slot_held_if, stmt_held, take_held, type_held}
use Rattle.co_core_walks.specs.Lists.{handle_names, handler_names, lib_names, lit_held}

abbrev expr_row : CoreExpr → (n : Count) × Row_of-CoreExpr n
expr_row (expr.Lib' o n operands at) = (_, operands)
expr_row e = (_, end_of-CoreExpr)

module _ (unit : UnitParts) where
  pub held_pointer : (to : CoType) → type_held unit (type.Pointer to) ≡ type_held unit to
  unfolding shape-the_row-CoType-0 hidden-the_row-CoType-0 shown-the_row-CoType-0 denote.Hole.Carrier.hidden
  held_pointer to = refl

  pub held_ref : (to : CoType) → type_held unit (type.Ref to) ≡ type_held unit to
  unfolding shape-the_row-CoType-0 hidden-the_row-CoType-0 shown-the_row-CoType-0 denote.Hole.Carrier.hidden
  held_ref to = refl

  pub held_const_ref : (to : CoType) → type_held unit (type.ConstRef to) ≡ type_held unit to
  unfolding shape-the_row-CoType-0 hidden-the_row-CoType-0 shown-the_row-CoType-0 denote.Hole.Carrier.hidden
  held_const_ref to = refl

  pub held_ref_ref : (to : CoType) → type_held unit (type.RefRef to) ≡ type_held unit to
  unfolding shape-the_row-CoType-0 hidden-the_row-CoType-0 shown-the_row-CoType-0 denote.Hole.Carrier.hidden
  held_ref_ref to = refl

  module _ (func : CoreFunc) where
    held_await : (plan : AwaitPlan) → expr_held unit func (expr.Await plan) ≡ slot_held unit func plan.holder
    unfolding shape-the_row-AwaitPlan-3 hidden-the_row-AwaitPlan-3 shown-the_row-AwaitPlan-3 denote.Hole.Carrier.hidden
    held_await plan = refl

    held_new : (plan : NewPlan) → expr_held unit func (expr.New plan) ≡ (type_held unit plan.of && (take_held unit plan.take && give_held unit plan.give))
    unfolding shape-the_row-NewPlan-5 hidden-the_row-NewPlan-5 shown-the_row-NewPlan-5 denote.Hole.Carrier.hidden
    held_new plan = refl

    held_delete : (plan : DeletePlan) → expr_held unit func (expr.Delete plan) ≡ (type_held unit plan.of && (func_held_if unit plan.destroy && give_held unit plan.give))
    unfolding shape-the_row-DeletePlan-6 hidden-the_row-DeletePlan-6 shown-the_row-DeletePlan-6 denote.Hole.Carrier.hidden
    held_delete plan = refl

    held_handle : (op : HandleOp) (operands : List CoreExpr) (at : Span) → expr_held unit func (expr.Handle op operands at) ≡ handle_names unit op
    held_handle (handle.FromAddress promise) operands at = refl
    held_handle handle.Resume operands at = refl
    held_handle handle.Destroy operands at = refl
    held_handle handle.Done operands at = refl
    held_handle handle.Promise operands at = refl
    held_handle handle.FromPromise operands at = refl
    held_handle handle.Address operands at = refl
    held_handle handle.Noop operands at = refl

    pub names_await : (whole : CoreExpr) (plan plan' : AwaitPlan) (b : Bool) → whole ≡ expr.Await plan → plan' ≡ plan → b ≡ slot_held unit func plan'.holder → b ≡ expr_held unit func whole
    names_await whole plan plan' b is e h = h ∙ ap (λ p. slot_held unit func p.holder) e ∙ sym (held_await plan) ∙ ap (expr_held unit func) (sym is)

    pub names_new : (whole : CoreExpr) (plan plan' : NewPlan) (b : Bool) → whole ≡ expr.New plan → plan' ≡ plan → b ≡ (type_held unit plan'.of && (take_held unit plan'.take && give_held unit plan'.give)) → b ≡ expr_held unit func whole
    names_new whole plan plan' b is e h = h ∙ ap (λ p. type_held unit p.of && (take_held unit p.take && give_held unit p.give)) e ∙ sym (held_new plan) ∙ ap (expr_held unit func) (sym is)

    pub names_delete : (whole : CoreExpr) (plan plan' : DeletePlan) (b : Bool) → whole ≡ expr.Delete plan → plan' ≡ plan → b ≡ (type_held unit plan'.of && (func_held_if unit plan'.destroy && give_held unit plan'.give)) → b ≡ expr_held unit func whole
    names_delete whole plan plan' b is e h = h ∙ ap (λ p. type_held unit p.of && (func_held_if unit p.destroy && give_held unit p.give)) e ∙ sym (held_delete plan) ∙ ap (expr_held unit func) (sym is)

    rows_text : (m : Count) (row : Row_of-CoreExpr m) → first_is_text unit func row ≡ lit_held unit func (items-the_row-CoreExpr m row)
    rows_text m end_of-CoreExpr = refl
    rows_text m (more_of-CoreExpr e rest) = refl

    held_lib : (op : LibOp) (operands : List CoreExpr) (at : Span) → expr_held unit func (expr.Lib op operands at) ≡ lib_names unit func op operands
    held_lib lib.Lit operands at =
        let row = expr_row (expr.Lib lib.Lit operands at) in
        rows_text row.0 row.1 ∙ ap (lit_held unit func) (items_hidden-the_row-CoreExpr-4 operands)
    held_lib lib.Print operands at = refl
    held_lib lib.Post operands at = refl
    held_lib lib.Input operands at = refl
    held_lib lib.Inputs operands at = refl
    held_lib lib.Take operands at = refl
    held_lib lib.Give operands at = refl

    pub names_lib : (whole : CoreExpr) (op : LibOp) (operands operands' : List CoreExpr) (at : Span) (b : Bool) → whole ≡ expr.Lib op operands at → operands' ≡ operands → b ≡ lib_names unit func op operands' → b ≡ expr_held unit func whole
    names_lib whole op operands operands' at b is e h = h ∙ ap (lib_names unit func op) e ∙ sym (held_lib op operands at) ∙ ap (expr_held unit func) (sym is)

    pub names_handle : (whole : CoreExpr) (op : HandleOp) (operands : List CoreExpr) (at : Span) (b : Bool) → whole ≡ expr.Handle op operands at → b ≡ handle_names unit op → b ≡ expr_held unit func whole
    names_handle whole op operands at b is h = h ∙ sym (held_handle op operands at) ∙ ap (expr_held unit func) (sym is)

pub ruleset opened = (held_pointer, held_ref, held_const_ref, held_ref_ref)

-- ---- statements

abbrev handler_row : CoreStmt → (n : Count) × Row_of-Handler n
handler_row (stmt.Try' n body m handlers at) = (_, handlers)
handler_row s = (_, end_of-Handler)

module _ (unit : UnitParts) (func : CoreFunc) where
  and_assoc : (a b d : Bool) → (a && (b && d)) ≡ ((a && b) && d)
  and_assoc true b d = refl
  and_assoc false b d = refl

  rows_named : (m : Count) (row : Row_of-Handler m) → handlers_held unit func row ≡ list_all (handler_names unit func) (items-the_row-Handler m row)
  rows_named m end_of-Handler = refl
  rows_named m (more_of-Handler of slot body rest) =
      and_assoc (catch_held unit func of) (slot_held_if unit func slot) (handlers_held unit func rest) ∙ ap (λ b. (catch_held unit func of && slot_held_if unit func slot) && b) (rows_named _ rest)

  open_named : (body : CoreStmt) (handlers : List Handler) (at : Span) → stmt_held unit func (stmt.Try body handlers at) ≡ handlers_held unit func (handler_row (stmt.Try body handlers at)).1
  open_named body handlers at = refl

  named_try : (body : CoreStmt) (handlers : List Handler) (at : Span) → stmt_held unit func (stmt.Try body handlers at) ≡ list_all (handler_names unit func) handlers
  named_try body handlers at =
      let row = handler_row (stmt.Try body handlers at) in
      open_named body handlers at ∙ rows_named row.0 row.1 ∙ ap (list_all (handler_names unit func)) (items_hidden-the_row-Handler-2 handlers)

  pub names_try : (whole body : CoreStmt) (handlers handlers' : List Handler) (at : Span) (b : Bool) → whole ≡ stmt.Try body handlers at → handlers' ≡ handlers → b ≡ list_all (handler_names unit func) handlers' → b ≡ stmt_held unit func whole
  names_try whole body handlers handlers' at b is e h = h ∙ ap (list_all (handler_names unit func)) e ∙ sym (named_try body handlers at) ∙ ap (stmt_held unit func) (sym is)
