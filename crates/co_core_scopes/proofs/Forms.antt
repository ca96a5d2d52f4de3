-- What the forms that make slots come to.
use Rattle.std.specs.Prelude.{◌≡◌, Bool, true, false, ◌&&◌, if◌then◌else◌, Option, List, [], ◌∷◌, flat_map, fold, None, Some}
use Rattle.std.specs.List.{list_all}
use Rattle.std.proofs.Common.{refl, sym, ap, ◌∙◌, append-nil}
use mathlib.Core.Former.{Count}
use Rattle.co_base.specs.declared.span.Span.{Span}
use Rattle.co_core_tree.specs.declared.exprs.CoreExpr.{CoreExpr}
use Rattle.co_core_tree.specs.declared.exprs.CoreExpr.TheVariants as expr
use Rattle.co_core_tree.specs.declared.exprs.CoreExpr.TheBlock.{shape-the_row-AwaitPlan-3, hidden-the_row-AwaitPlan-3, shown-the_row-AwaitPlan-3}
use Rattle.co_core_tree.specs.declared.exprs.AwaitPlan.{AwaitPlan}
use Rattle.co_core_tree.specs.declared.stmts.CoreStmt.{CoreStmt, Row_of-Handler, end_of-Handler, more_of-Handler, items-the_row-Handler, items_hidden-the_row-Handler-2}
use Rattle.co_core_tree.specs.declared.stmts.CoreStmt.TheVariants as stmt
use Rattle.co_core_tree.specs.declared.stmts.Handler.{Handler}
use Rattle.co_core_tree.specs.declared.units.CoreFunc.{CoreFunc}
use Rattle.co_core_tree.specs.Acts.{Does}
use Rattle.co_core_tree.specs.Slots.{is_held, made, makes, slot_at}
use Rattle.co_core_scopes.specs.Scoped.{held_slot}
use Rattle.co_base.specs.declared.ids.SlotId.{SlotId}
use Rattle.co_core.specs.Bodies.{Standing}
use Rattle.co_core.specs.Scopes.{handlers_local, handlers_make, makes_local, stmt_makes}
use Rattle.co_core_scopes.specs.declared.makes.Makes.{Makes}
use Rattle.co_core_scopes.specs.Makes.{handler_local, held_holder, marked, slot_list}

pub made_await : (func : CoreFunc) (plan : AwaitPlan) → made func (expr.Await plan) ≡ held_holder func plan.holder
unfolding shape-the_row-AwaitPlan-3 hidden-the_row-AwaitPlan-3 shown-the_row-AwaitPlan-3 denote.Hole.Carrier.hidden
made_await func plan = refl

pub makes_await : (s s1 : Makes) (whole : CoreExpr) (plan plan' : AwaitPlan) (c : Bool) → whole ≡ expr.Await plan → plan' ≡ plan → s1 ≡ fold marked s (held_holder s.func.now plan'.holder) → s1 ≡ fold marked s (makes s.func.now (Does c whole ∷ []))
makes_await s s1 whole plan plan' c is e h =
    let func = s.func.now in
    h ∙ ap (λ p. fold marked s (held_holder func p.holder)) e ∙ ap (fold marked s) (sym (ap (made func) is ∙ made_await func plan)) ∙ ap (fold marked s) (sym (append-nil (made func whole)))

abbrev handler_row : CoreStmt → (n : Count) × Row_of-Handler n
handler_row (stmt.Try' n body m handlers at) = (_, handlers)
handler_row s = (_, end_of-Handler)

rows_make : (m : Count) (row : Row_of-Handler m) → handlers_make row ≡ flat_map (λ handler. slot_list handler.slot) (items-the_row-Handler m row)
rows_make m end_of-Handler = refl
rows_make m (more_of-Handler of (Some slot) body rest) = ap (λ l. slot ∷ l) (rows_make _ rest)
rows_make m (more_of-Handler of None body rest) = rows_make _ rest

rows_local : (func : CoreFunc) (m : Count) (row : Row_of-Handler m) → handlers_local func row ≡ list_all (handler_local func) (items-the_row-Handler m row)
rows_local func m end_of-Handler = refl
rows_local func m (more_of-Handler of (Some slot) body rest) = ap (λ b. handler_local func (record { of = of; slot = Some slot; body = body }) && b) (rows_local func _ rest)
rows_local func m (more_of-Handler of None body rest) = rows_local func _ rest

pub makes_try : (s s1 : Makes) (whole body : CoreStmt) (handlers handlers' : List Handler) (at : Span) → whole ≡ stmt.Try body handlers at → handlers' ≡ handlers → s1 ≡ fold marked s (flat_map (λ handler. slot_list handler.slot) handlers') → s1 ≡ fold marked s (stmt_makes whole)
makes_try s s1 whole body handlers handlers' at is e h =
    let row = handler_row (stmt.Try body handlers at) in
    let r = rows_make row.0 row.1 ∙ ap (flat_map (λ handler. slot_list handler.slot)) (items_hidden-the_row-Handler-2 handlers ∙ sym e) in
    h ∙ ap (fold marked s) (sym r) ∙ ap (λ w. fold marked s (stmt_makes w)) (sym is)

pub local_try : (func : CoreFunc) (stands : Standing) (whole body : CoreStmt) (handlers handlers' : List Handler) (at : Span) (b : Bool) → whole ≡ stmt.Try body handlers at → handlers' ≡ handlers → b ≡ list_all (handler_local func) handlers' → b ≡ makes_local func (record { stands = stands; stmt = whole })
local_try func stands whole body handlers handlers' at b is e h =
    let row = handler_row (stmt.Try body handlers at) in
    let r = rows_local func row.0 row.1 ∙ ap (list_all (handler_local func)) (items_hidden-the_row-Handler-2 handlers ∙ sym e) in
    h ∙ sym r ∙ ap (λ w. makes_local func (record { stands = stands; stmt = w })) (sym is)

held_list : (b : Bool) (slot : SlotId) → slot_list (if b then Some slot else None) ≡ (if b then slot ∷ [] else [])
held_list true slot = refl
held_list false slot = refl

pub made_held : (func : CoreFunc) (whole : CoreExpr) (plan plan' : AwaitPlan) (o : Option SlotId) → whole ≡ expr.Await plan → plan' ≡ plan → o ≡ held_slot func plan'.holder → slot_list o ≡ made func whole
made_held func whole plan plan' o is e h =
    ap slot_list (h ∙ ap (λ p. held_slot func p.holder) e) ∙ held_list (is_held (slot_at func plan.holder)) plan.holder ∙ sym (ap (made func) is ∙ made_await func plan)
