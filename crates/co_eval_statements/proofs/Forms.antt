-- What is done first with a statement, at each form.
use Rattle.std.specs.Prelude.{◌≡◌, List, [], None, Some}
use Rattle.std.proofs.Common.{refl, ap}
use Rattle.co_base.specs.declared.kinds.Undef.TheVariants.{U6}
use Rattle.co_base.specs.declared.ids.SlotId.{SlotId}
use Rattle.co_base.specs.declared.span.Span.{Span}
use Rattle.co_core_tree.specs.Slots.{init_acts_of}
use Rattle.co_core_tree.specs.declared.exprs.CoreExpr.{CoreExpr}
use Rattle.co_core_tree.specs.declared.exprs.Init.{Init}
use Rattle.co_core_tree.specs.declared.stmts.CoreStmt.{CoreStmt, items_hidden-the_row-CoreStmt-0, items_hidden-the_row-Handler-2}
use Rattle.co_core_tree.specs.declared.stmts.CoreStmt.TheVariants as stmt
use Rattle.co_core_tree.specs.declared.stmts.CoreStmt.TheBlock.{shape-the_row-CoreStmt-1, hidden-the_row-CoreStmt-1, shown-the_row-CoreStmt-1}
use Rattle.co_core_tree.specs.declared.stmts.Handler.{Handler}
use Rattle.co_meaning.specs.Statements.{declare_in, execute, full}
use Rattle.co_meaning_calls.specs.Calls.{opens}
use Rattle.co_meaning_calls.specs.Objects.{type_of_slot}
use Rattle.co_meaning_data.specs.Frames as meaning
use Rattle.co_meaning_data.specs.Turn.{Local, funcs, is_undefined, leaves, pushed, under}

pub scope : (list : List CoreStmt) (at : Span) (l : Local) → execute (stmt.Scope list at) l ≡ under (meaning.Scope [] list) (meaning.Comes meaning.Passes) l
scope list at l = ap (λ s. under (meaning.Scope [] s) (meaning.Comes meaning.Passes) l) (items_hidden-the_row-CoreStmt-0 list)

pub whole : (e : CoreExpr) (at : Span) (l : Local) → execute (stmt.Full e at) l ≡ full e (pushed meaning.Drops l)
whole e at l = refl

pub local : (slot : SlotId) (i : Init) (at : Span) (l : Local) → execute (stmt.Local slot i at) l ≡ declare_in slot.0 i l (type_of_slot l slot.0)
local slot i at l = refl

pub branches : (e : CoreExpr) (x y : CoreStmt) (at : Span) (l : Local) → execute (stmt.If e x y at) l ≡ full e (pushed (meaning.BranchOn x y) l)
unfolding shape-the_row-CoreStmt-1 hidden-the_row-CoreStmt-1 shown-the_row-CoreStmt-1 denote.Hole.Carrier.hidden
branches e x y at l = refl

pub loops : (e next : CoreExpr) (body : CoreStmt) (at : Span) (l : Local) → execute (stmt.Loop e next body at) l ≡ full e (pushed (meaning.LoopTest e next body) l)
unfolding shape-the_row-CoreStmt-1 hidden-the_row-CoreStmt-1 shown-the_row-CoreStmt-1 denote.Hole.Carrier.hidden
loops e next body at l = refl

pub breaks : (at : Span) (l : Local) → execute (stmt.Break at) l ≡ leaves meaning.Breaking l
breaks at l = refl

pub continues : (at : Span) (l : Local) → execute (stmt.Continue at) l ≡ leaves meaning.Continuing l
continues at l = refl

pub returns_nothing : (at : Span) (l : Local) → execute (stmt.Return None at) l ≡ leaves (meaning.Returning meaning.Nothing) l
returns_nothing at l = refl

pub returns_value : (i : Init) (at : Span) (l : Local) → execute (stmt.Return (Some i) at) l ≡ opens (init_acts_of (funcs l) i) [] (meaning.Initialize i l.top.into) (pushed meaning.Returns l)
returns_value i at l = refl

pub leaves_body : (at : Span) (l : Local) → execute (stmt.Leave at) l ≡ leaves meaning.Leaving l
leaves_body at l = refl

pub tries_body : (body : CoreStmt) (handlers : List Handler) (at : Span) (l : Local) → execute (stmt.Try body handlers at) l ≡ under (meaning.Tries handlers) (meaning.Execute body) l
unfolding shape-the_row-CoreStmt-1 hidden-the_row-CoreStmt-1 shown-the_row-CoreStmt-1 denote.Hole.Carrier.hidden
tries_body body handlers at l = ap (λ h. under (meaning.Tries h) (meaning.Execute body) l) (items_hidden-the_row-Handler-2 handlers)

pub off_end : (at : Span) (l : Local) → execute (stmt.OffEnd at) l ≡ is_undefined U6 at l
off_end at l = refl

pub ruleset executed = (scope, whole, local, branches, loops, breaks, continues, returns_nothing, returns_value, leaves_body, tries_body, off_end)
