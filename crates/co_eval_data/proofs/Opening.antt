-- What the views of frames come to at each form that they name.
use Rattle.std.specs.Prelude.{◌≡◌, Bool, List, drop, length, Option, Some}
use Rattle.std.proofs.Common.{refl, ap}
use Rattle.co_base.specs.declared.kinds.Num.{Num}
use Rattle.co_base.specs.declared.kinds.Op.{Op}
use Rattle.co_base.specs.declared.span.Span.{Span}
use Rattle.co_types.specs.declared.types.CoType.{CoType}
use Rattle.co_core_tree.specs.declared.kinds.AtomicOp.{AtomicOp}
use Rattle.co_core_tree.specs.declared.kinds.HandleOp.{HandleOp}
use Rattle.co_core_tree.specs.declared.kinds.LibOp.{LibOp}
use Rattle.co_core_tree.specs.declared.exprs.CoreExpr.{CoreExpr, items_hidden-the_row-CoreExpr-4}
use Rattle.co_core_tree.specs.declared.exprs.CoreExpr.TheVariants as expr
use Rattle.co_core_tree.specs.declared.exprs.CoreExpr.TheBlock.{shape-the_row-CoreExpr-0, hidden-the_row-CoreExpr-0, shown-the_row-CoreExpr-0, shape-the_row-Init-2, hidden-the_row-Init-2, shown-the_row-Init-2, shape-the_row-NewPlan-5, hidden-the_row-NewPlan-5, shown-the_row-NewPlan-5, shape-the_row-DeletePlan-6, hidden-the_row-DeletePlan-6, shown-the_row-DeletePlan-6}
use Rattle.co_core_tree.specs.declared.exprs.Init.{Init}
use Rattle.co_core_tree.specs.declared.exprs.Init.TheVariants as init
use Rattle.co_core_tree.specs.declared.exprs.NewPlan.{NewPlan}
use Rattle.co_core_tree.specs.declared.exprs.DeletePlan.{DeletePlan}
use Rattle.co_core_tree.specs.declared.stmts.CoreStmt.{CoreStmt, items_hidden-the_row-Handler-2}
use Rattle.co_core_tree.specs.declared.stmts.CoreStmt.TheVariants as stmt
use Rattle.co_core_tree.specs.declared.stmts.CoreStmt.TheBlock.{shape-the_row-CoreStmt-1, hidden-the_row-CoreStmt-1, shown-the_row-CoreStmt-1}
use Rattle.co_core_tree.specs.declared.stmts.Handler.{Handler}
use Rattle.co_meaning_data.specs.Frames as meaning
use Rattle.co_meaning_data.specs.Store as stored
use Rattle.co_eval_data.specs.Seen as seen

pub store_value : (p v : CoreExpr) (at : Span) → seen.store_value (Some (expr.Store p v at)) ≡ meaning.StoreValue p at
unfolding shape-the_row-CoreExpr-0 hidden-the_row-CoreExpr-0 shown-the_row-CoreExpr-0 denote.Hole.Carrier.hidden
store_value p v at = refl

pub exchange_place : (p v : CoreExpr) (at : Span) → seen.exchange_place (Some (expr.Exchange p v at)) ≡ meaning.ExchangePlace v at
unfolding shape-the_row-CoreExpr-0 hidden-the_row-CoreExpr-0 shown-the_row-CoreExpr-0 denote.Hole.Carrier.hidden
exchange_place p v at = refl

pub update_value : (o : Op) (n : Num) (p v : CoreExpr) (old : Bool) (at : Span) → seen.update_value (Some (expr.Update o n p v old at)) ≡ meaning.UpdateValue o n p old at
unfolding shape-the_row-CoreExpr-0 hidden-the_row-CoreExpr-0 shown-the_row-CoreExpr-0 denote.Hole.Carrier.hidden
update_value o n p v old at = refl

pub update_at : (g : meaning.Given) (o : Op) (n : Num) (p v : CoreExpr) (old : Bool) (at : Span) → seen.update_at g (Some (expr.Update o n p v old at)) ≡ meaning.UpdateAt o n g old at
unfolding shape-the_row-CoreExpr-0 hidden-the_row-CoreExpr-0 shown-the_row-CoreExpr-0 denote.Hole.Carrier.hidden
update_at g o n p v old at = refl

pub update_from : (g : meaning.Given) (place : stored.Place) (o : Op) (n : Num) (p v : CoreExpr) (old : Bool) (at : Span) → seen.update_from g place (Some (expr.Update o n p v old at)) ≡ meaning.UpdateFrom o n g place old at
unfolding shape-the_row-CoreExpr-0 hidden-the_row-CoreExpr-0 shown-the_row-CoreExpr-0 denote.Hole.Carrier.hidden
update_from g place o n p v old at = refl

pub arith_right : (o : Op) (n : Num) (x y : CoreExpr) (at : Span) → seen.arith_right (Some (expr.Arith o n x y at)) ≡ meaning.ArithRight o n y at
unfolding shape-the_row-CoreExpr-0 hidden-the_row-CoreExpr-0 shown-the_row-CoreExpr-0 denote.Hole.Carrier.hidden
arith_right o n x y at = refl

pub arith_with : (g : meaning.Given) (o : Op) (n : Num) (x y : CoreExpr) (at : Span) → seen.arith_with g (Some (expr.Arith o n x y at)) ≡ meaning.ArithWith o n g at
unfolding shape-the_row-CoreExpr-0 hidden-the_row-CoreExpr-0 shown-the_row-CoreExpr-0 denote.Hole.Carrier.hidden
arith_with g o n x y at = refl

pub same_right : (x y : CoreExpr) (at : Span) → seen.same_right (Some (expr.Same x y at)) ≡ meaning.SameRight y at
unfolding shape-the_row-CoreExpr-0 hidden-the_row-CoreExpr-0 shown-the_row-CoreExpr-0 denote.Hole.Carrier.hidden
same_right x y at = refl

pub both_right : (x y : CoreExpr) (at : Span) → seen.both_right (Some (expr.Both x y at)) ≡ meaning.BothRight y
unfolding shape-the_row-CoreExpr-0 hidden-the_row-CoreExpr-0 shown-the_row-CoreExpr-0 denote.Hole.Carrier.hidden
both_right x y at = refl

pub either_right : (x y : CoreExpr) (at : Span) → seen.either_right (Some (expr.Either x y at)) ≡ meaning.EitherRight y
unfolding shape-the_row-CoreExpr-0 hidden-the_row-CoreExpr-0 shown-the_row-CoreExpr-0 denote.Hole.Carrier.hidden
either_right x y at = refl

pub pick_one : (e x y : CoreExpr) (at : Span) → seen.pick_one (Some (expr.Pick e x y at)) ≡ meaning.PickOne x y
unfolding shape-the_row-CoreExpr-0 hidden-the_row-CoreExpr-0 shown-the_row-CoreExpr-0 denote.Hole.Carrier.hidden
pick_one e x y at = refl

pub throw_of : (of : CoType) (e : CoreExpr) (at : Span) → seen.throw_of (Some (expr.Throw of e at)) ≡ meaning.ThrowOf of at
unfolding shape-the_row-CoreExpr-0 hidden-the_row-CoreExpr-0 shown-the_row-CoreExpr-0 denote.Hole.Carrier.hidden
throw_of of e at = refl

pub handle_operands : (gs : List meaning.Given) (o : HandleOp) (list : List CoreExpr) (at : Span) → seen.operands gs (Some (expr.Handle o list at)) ≡ meaning.Operands (meaning.OnHandle o) gs (drop (length gs) list) at
handle_operands gs o list at = ap (λ l. meaning.Operands (meaning.OnHandle o) gs (drop (length gs) l) at) (items_hidden-the_row-CoreExpr-4 list)

pub atomic_operands : (gs : List meaning.Given) (o : AtomicOp) (list : List CoreExpr) (at : Span) → seen.operands gs (Some (expr.Atomic o list at)) ≡ meaning.Operands (meaning.OnAtomic o) gs (drop (length gs) list) at
atomic_operands gs o list at = ap (λ l. meaning.Operands (meaning.OnAtomic o) gs (drop (length gs) l) at) (items_hidden-the_row-CoreExpr-4 list)

pub library_operands : (gs : List meaning.Given) (o : LibOp) (list : List CoreExpr) (at : Span) → seen.operands gs (Some (expr.Lib o list at)) ≡ meaning.Operands (meaning.OfLibrary o) gs (drop (length gs) list) at
library_operands gs o list at = ap (λ l. meaning.Operands (meaning.OfLibrary o) gs (drop (length gs) l) at) (items_hidden-the_row-CoreExpr-4 list)

pub with_new : (f : NewPlan → meaning.Frame) (plan : NewPlan) → seen.with_new f (Some (expr.New plan)) ≡ f plan
unfolding shape-the_row-NewPlan-5 hidden-the_row-NewPlan-5 shown-the_row-NewPlan-5 denote.Hole.Carrier.hidden
with_new f plan = refl

pub with_delete : (f : DeletePlan → meaning.Frame) (plan : DeletePlan) → seen.with_delete f (Some (expr.Delete plan)) ≡ f plan
unfolding shape-the_row-DeletePlan-6 hidden-the_row-DeletePlan-6 shown-the_row-DeletePlan-6 denote.Hole.Carrier.hidden
with_delete f plan = refl

pub choose_one : (p : Option stored.Place) (e : CoreExpr) (x y : Init) → seen.choose_one p (Some (init.Choose e x y)) ≡ meaning.ChooseOne x y p
unfolding shape-the_row-Init-2 hidden-the_row-Init-2 shown-the_row-Init-2 denote.Hole.Carrier.hidden
choose_one p e x y = refl

pub branch_on : (e : CoreExpr) (x y : CoreStmt) (at : Span) → seen.branch_on (Some (stmt.If e x y at)) ≡ meaning.BranchOn x y
unfolding shape-the_row-CoreStmt-1 hidden-the_row-CoreStmt-1 shown-the_row-CoreStmt-1 denote.Hole.Carrier.hidden
branch_on e x y at = refl

pub with_loop : (f : CoreExpr → CoreExpr → CoreStmt → meaning.Frame) (e next : CoreExpr) (body : CoreStmt) (at : Span) → seen.with_loop f (Some (stmt.Loop e next body at)) ≡ f e next body
unfolding shape-the_row-CoreStmt-1 hidden-the_row-CoreStmt-1 shown-the_row-CoreStmt-1 denote.Hole.Carrier.hidden
with_loop f e next body at = refl

pub tries : (body : CoreStmt) (handlers : List Handler) (at : Span) → seen.tries (Some (stmt.Try body handlers at)) ≡ meaning.Tries handlers
unfolding shape-the_row-CoreStmt-1 hidden-the_row-CoreStmt-1 shown-the_row-CoreStmt-1 denote.Hole.Carrier.hidden
tries body handlers at = ap (λ l. meaning.Tries l) (items_hidden-the_row-Handler-2 handlers)

pub ruleset opened = (store_value, exchange_place, update_value, update_at, update_from, arith_right, arith_with, same_right, both_right, either_right, pick_one, throw_of, handle_operands, atomic_operands, library_operands, with_new, with_delete, choose_one, branch_on, with_loop, tries)
