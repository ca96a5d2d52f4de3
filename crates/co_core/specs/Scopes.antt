-- Where slots may be named and made.
use Rattle.std.specs.Prelude.{Bool, true, false, not, ◌||◌, ◌&&◌, ◌==◌, List, [], ◌∷◌, ◌++◌, Option, None, Some}
use Rattle.std.specs.List.{list_all, list_any}
use Rattle.co_base.specs.declared.ids.SlotId.{SlotId}
use Rattle.co_core_tree.specs.declared.kinds.SlotKind.{SlotKind}
use Rattle.co_core_tree.specs.declared.kinds.SlotKind.TheVariants as kind
use Rattle.co_core_tree.specs.declared.stmts.CoreStmt.{CoreStmt, Row_of-CoreStmt, end_of-CoreStmt, more_of-CoreStmt, Row_of-Handler, end_of-Handler, more_of-Handler}
use Rattle.co_core_tree.specs.declared.stmts.CoreStmt.TheVariants as stmt
use Rattle.co_core_tree.specs.declared.exprs.CoreExpr.{CoreExpr}
use Rattle.co_core_tree.specs.declared.exprs.CoreExpr.TheVariants as expr
use Rattle.co_core_tree.specs.declared.exprs.AwaitPlan.{AwaitPlan}
use Rattle.co_core_tree.specs.declared.units.SlotInfo.{SlotInfo}
use Rattle.co_core_tree.specs.declared.units.CopyPlan.{CopyPlan}
use Rattle.co_core_tree.specs.declared.units.PromisePlan.{PromisePlan}
use Rattle.co_core_tree.specs.declared.units.CoreFunc.{CoreFunc}
use Rattle.co_core_tree.specs.declared.units.UnitParts.{UnitParts}
use Rattle.co_core_tree.specs.Acts.{Act, Does, Passes, Starts, Keeps}
use Rattle.co_core_tree.specs.Slots.{acts_of, init_acts_of, is_held, makes, slot_at}
use Rattle.co_core.specs.Bodies.{Placed, await_acts, body_of, copies_fulls, inits_fulls, func_acts, role_fulls}

-- ---- kinds

abbrev pub is_param : SlotKind → Bool
is_param kind.Param = true
is_param k = false

abbrev pub is_copy : SlotKind → Bool
is_copy kind.Copy = true
is_copy k = false

abbrev pub is_promise : SlotKind → Bool
is_promise kind.Promise = true
is_promise k = false

abbrev pub is_local : SlotKind → Bool
is_local kind.Local = true
is_local k = false

abbrev pub is_temp_kind : SlotKind → Bool
is_temp_kind kind.Temp = true
is_temp_kind k = false

abbrev pub is_mark : SlotKind → Bool
is_mark kind.Mark = true
is_mark k = false

-- whether a slot is there and is of a kind
abbrev pub slot_is : (SlotKind → Bool) → Option SlotInfo → Bool
slot_is test None = false
slot_is test (Some slot) = test slot.kind

-- ---- names

abbrev pub same_slot : SlotId → SlotId → Bool
same_slot a b = a.0 == b.0

abbrev pub member : SlotId → List SlotId → Bool
member slot slots = list_any (same_slot slot) slots

-- a parameter, the promise and the copies of parameters live as long as the function [basic.stc.auto]
abbrev pub is_lasting : SlotKind → Bool
is_lasting k = is_param k || (is_promise k || is_copy k)

module _ (func : CoreFunc) where
  abbrev pub is_visible : List SlotId → SlotId → Bool
  is_visible seen slot = slot_is is_lasting (slot_at func slot) || member slot seen

  abbrev pub expr_visible : List SlotId → CoreExpr → Bool
  expr_visible seen (expr.Slot slot at) = is_visible seen slot
  expr_visible seen e = true

  abbrev pub act_visible : List SlotId → Act → Bool
  act_visible seen (Does conditional e) = expr_visible seen e
  act_visible seen (Passes e) = true
  act_visible seen (Starts i) = true
  act_visible seen (Keeps part) = true

  -- a full-expression names what is visible there and what it makes itself [class.temporary]
  abbrev pub full_visible : List SlotId → List Act → Bool
  full_visible seen acts = list_all (act_visible (makes func acts ++ seen)) acts

-- the slot of an initial or final awaiter that is no temporary
abbrev pub holder_of : CoreFunc → AwaitPlan → List SlotId
holder_of func plan = if_held (is_held (slot_at func plan.holder)) plan.holder
  where
    if_held : Bool → SlotId → List SlotId
    if_held true slot = slot ∷ []
    if_held false slot = []

-- what is visible after a statement of a list: a declaration adds its local [basic.scope.block]
abbrev pub declared : List SlotId → CoreStmt → List SlotId
declared seen (stmt.Local slot i at) = slot ∷ seen
declared seen s = seen

abbrev pub with_variable : Option SlotId → List SlotId → List SlotId
with_variable None seen = seen
with_variable (Some slot) seen = slot ∷ seen

module _ (funcs : List CoreFunc) (func : CoreFunc) where
  abbrev mutual
    -- each slot that a statement names is visible where it is named: a local from its own initializer on to the end of its
    -- `Scope`, the variable of a handler in its body
    pub stmt_visible : List SlotId → CoreStmt → Bool
    stmt_visible seen (stmt.Scope' n stmts at) = row_visible seen stmts
    stmt_visible seen (stmt.Full e at) = full_visible func seen (acts_of funcs e)
    stmt_visible seen (stmt.Local slot i at) = full_visible func (slot ∷ seen) (init_acts_of funcs i)
    stmt_visible seen (stmt.If' e n (more_of-CoreStmt x end_of-CoreStmt) m (more_of-CoreStmt y end_of-CoreStmt) at) =
        full_visible func seen (acts_of funcs e) && (stmt_visible seen x && stmt_visible seen y)
    stmt_visible seen (stmt.Loop' e step n (more_of-CoreStmt body end_of-CoreStmt) at) =
        full_visible func seen (acts_of funcs e) && (full_visible func seen (acts_of funcs step) && stmt_visible seen body)
    stmt_visible seen (stmt.Return (Some i) at) = full_visible func seen (init_acts_of funcs i)
    stmt_visible seen (stmt.Return None at) = true
    stmt_visible seen (stmt.Try' n (more_of-CoreStmt body end_of-CoreStmt) m handlers at) = stmt_visible seen body && handlers_visible seen handlers
    stmt_visible seen (stmt.Break at) = true
    stmt_visible seen (stmt.Continue at) = true
    stmt_visible seen (stmt.Leave at) = true
    stmt_visible seen (stmt.OffEnd at) = true

    pub row_visible : {m : _} → List SlotId → Row_of-CoreStmt m → Bool
    row_visible seen end_of-CoreStmt = true
    row_visible seen (more_of-CoreStmt s rest) = stmt_visible seen s && row_visible (declared seen s) rest

    pub handlers_visible : {m : _} → List SlotId → Row_of-Handler m → Bool
    handlers_visible seen end_of-Handler = true
    handlers_visible seen (more_of-Handler of slot body rest) = stmt_visible (with_variable slot seen) body && handlers_visible seen rest

  abbrev pub inits_visible : List (List Act) → Bool
  inits_visible acts = list_all (full_visible func []) acts

  -- an initial or final await names its own awaiter
  abbrev pub await_visible : AwaitPlan → Bool
  await_visible plan = full_visible func (holder_of func plan) (await_acts funcs plan)

  abbrev pub plan_visible : Option PromisePlan → Bool
  plan_visible None = true
  plan_visible (Some plan) =
      inits_visible (inits_fulls funcs plan.take_args) && (inits_visible (copies_fulls funcs plan.copies) && (inits_visible (inits_fulls funcs plan.ctor_args) &&
      (await_visible plan.initial && await_visible plan.last)))

  abbrev pub func_visible : Bool
  func_visible = inits_visible (role_fulls funcs func.role) && (plan_visible func.plan && stmt_visible [] func.body)

-- A slot is named only in its function, scope, full-expression or handler.
abbrev pub all_visible : UnitParts → Bool
all_visible unit = list_all (func_visible unit.funcs) unit.funcs

-- ---- what is made

abbrev pub copies_make : List CopyPlan → List SlotId
copies_make [] = []
copies_make (copy ∷ copies) = copy.to ∷ copies_make copies

abbrev pub plan_makes : CoreFunc → Option PromisePlan → List SlotId
plan_makes func None = []
plan_makes func (Some plan) = copies_make plan.copies ++ (holder_of func plan.initial ++ holder_of func plan.last)

abbrev pub handlers_make : {m : _} → Row_of-Handler m → List SlotId
handlers_make end_of-Handler = []
handlers_make (more_of-Handler of (Some slot) body rest) = slot ∷ handlers_make rest
handlers_make (more_of-Handler of None body rest) = handlers_make rest

abbrev pub stmt_makes : CoreStmt → List SlotId
stmt_makes (stmt.Local slot i at) = slot ∷ []
stmt_makes (stmt.Try' n body m handlers at) = handlers_make handlers
stmt_makes s = []

abbrev pub placed_make : List Placed → List SlotId
placed_make [] = []
placed_make (p ∷ ps) = stmt_makes p.stmt ++ placed_make ps

-- the slots that a function makes, one for each place that makes one
abbrev pub func_makes : List CoreFunc → CoreFunc → List SlotId
func_makes funcs func = plan_makes func func.plan ++ (makes func (func_acts funcs func) ++ placed_make (body_of func))

abbrev pub distinct : List SlotId → Bool
distinct [] = true
distinct (slot ∷ slots) = not (member slot slots) && distinct slots

module _ (func : CoreFunc) where
  abbrev pub handlers_local : {m : _} → Row_of-Handler m → Bool
  handlers_local end_of-Handler = true
  handlers_local (more_of-Handler of (Some slot) body rest) = slot_is is_local (slot_at func slot) && handlers_local rest
  handlers_local (more_of-Handler of None body rest) = handlers_local rest

  abbrev pub local_in_scope : Bool → SlotId → Bool
  local_in_scope in_scope slot = in_scope && slot_is is_local (slot_at func slot)

  -- a local is declared directly in a list, and has a slot of kind Local as the variable of a handler has
  abbrev pub makes_local : Placed → Bool
  makes_local p = stmt_makes_local p.stmt
    where
      stmt_makes_local : CoreStmt → Bool
      stmt_makes_local (stmt.Local slot i at) = local_in_scope p.stands.in_scope slot
      stmt_makes_local (stmt.Try' n body m handlers at) = handlers_local handlers
      stmt_makes_local s = true

  abbrev pub makes_temp_slot : CoreExpr → Bool
  makes_temp_slot (expr.Temp' slot n i at) = slot_is is_temp_kind (slot_at func slot)
  makes_temp_slot e = true

  abbrev pub act_makes_temp : Act → Bool
  act_makes_temp (Does conditional e) = makes_temp_slot e
  act_makes_temp (Passes e) = makes_temp_slot e
  act_makes_temp (Starts i) = true
  act_makes_temp (Keeps part) = true

abbrev pub func_makes_once : List CoreFunc → CoreFunc → Bool
func_makes_once funcs func = distinct (func_makes funcs func) && (list_all (makes_local func) (body_of func) && list_all (act_makes_temp func) (func_acts funcs func))

-- No slot is made at two places of its function's tree, and each is of the kind of what makes it.
abbrev pub made_once : UnitParts → Bool
made_once unit = list_all (func_makes_once unit.funcs) unit.funcs
