-- What a walk over a function does with the slots that are visible.
use Rattle.std.specs.Prelude.{◌≡◌, ℕ, Bool, true, false, not, ◌&&◌, ◌||◌, if◌then◌else◌, List, [], ◌++◌, fold, length, slice_index_or, Option, None, Some}
use Rattle.co_base.specs.declared.ids.SlotId.{SlotId}
use Rattle.co_core_tree.specs.declared.stmts.CoreStmt.{CoreStmt, Row_of-CoreStmt, end_of-CoreStmt, more_of-CoreStmt, Row_of-Handler, end_of-Handler, more_of-Handler}
use Rattle.co_core_tree.specs.declared.stmts.CoreStmt.TheVariants as stmt
use Rattle.co_core_tree.specs.declared.stmts.Handler.{Handler}
use Rattle.co_core_tree.specs.declared.exprs.AwaitPlan.{AwaitPlan}
use Rattle.co_core_tree.specs.declared.exprs.CoreExpr.{CoreExpr}
use Rattle.co_core_tree.specs.declared.exprs.CoreExpr.TheVariants as expr
use Rattle.co_core_tree.specs.declared.exprs.Init.{Init}
use Rattle.co_core_tree.specs.declared.units.CopyPlan.{CopyPlan}
use Rattle.co_core_tree.specs.declared.units.CoreFunc.{CoreFunc}
use Rattle.co_core_tree.specs.declared.units.PromisePlan.{PromisePlan}
use Rattle.co_core_tree.specs.Acts.{Act, Does, Passes, Starts, Keeps}
use Rattle.co_core_tree.specs.Slots.{acts_of, init_acts_of, is_held, made, slot_at}
use Rattle.co_core.specs.Bodies.{await_acts, copies_fulls, inits_fulls, role_fulls}
use Rattle.co_core.specs.Scopes.{is_lasting, slot_is}
use Rattle.co_core_scopes.specs.declared.sets.SlotSet.{SlotSet}
use Rattle.co_core_scopes.specs.declared.visible.Full.{Full}
use Rattle.co_core_scopes.specs.declared.visible.Full.TheVariants as full
use Rattle.co_core_scopes.specs.declared.visible.Phase.{Phase}
use Rattle.co_core_scopes.specs.declared.visible.Phase.TheVariants as phase
use Rattle.co_core_scopes.specs.declared.visible.Visible.{Visible}
use Rattle.co_core_scopes.specs.Makes.{slot_list}
use Rattle.co_core_scopes.specs.Sets.{has, inserted, local_of, removed}

-- ---- one act

abbrev pub is_naming : Phase → Bool
is_naming phase.Names = true
is_naming p = false

-- what a phase does with a slot that the full-expression makes
abbrev pub changed : Phase → SlotSet → SlotId → SlotSet
changed phase.Makes = inserted
changed phase.Names = λ set slot. set
changed phase.Clears = removed

abbrev pub slot_seen : Visible → SlotId → Bool
slot_seen s slot = slot_is is_lasting (slot_at s.func.now slot) || (has s.scope slot || has s.made slot)

abbrev pub expr_seen : Visible → CoreExpr → Bool
expr_seen s (expr.Slot slot at) = slot_seen s slot
expr_seen s e = true

abbrev pub with_holds : Visible → Bool → Visible
with_holds s b = record { func = s.func; phase = s.phase; scope = s.scope; made = s.made; holds = b }

abbrev pub named : Visible → CoreExpr → Visible
named s e = with_holds s (expr_seen s e && s.holds)

abbrev pub act_passes : Visible → Act → Bool
act_passes s (Does conditional e) = expr_seen s e || not (is_naming s.phase)
act_passes s (Passes e) = true
act_passes s (Starts i) = true
act_passes s (Keeps part) = true

abbrev pub act_makes : CoreFunc → Act → List SlotId
act_makes func (Does conditional e) = made func e
act_makes func (Passes e) = made func e
act_makes func (Starts i) = []
act_makes func (Keeps part) = []

abbrev pub acted : Visible → Act → Visible
acted s act =
    record { func = s.func; phase = s.phase; scope = s.scope; made = fold (changed s.phase) s.made (act_makes s.func.now act); holds = act_passes s act && s.holds }

-- nothing is visible yet
pub record Begun (func : CoreFunc) (s : Visible) : Type 0 where
  pub func_is : s.func.now ≡ func
  pub scope_size : length s.scope.marks ≡ 4096
  pub made_size : length s.made.marks ≡ 4096
  pub scope_none : (k : ℕ) → slice_index_or s.scope.marks k false ≡ false
  pub made_none : (k : ℕ) → slice_index_or s.made.marks k false ≡ false
  pub holds_is : s.holds ≡ true

-- the slot of an awaiter that is no temporary
abbrev pub held_slot : CoreFunc → SlotId → Option SlotId
held_slot func slot = if is_held (slot_at func slot) then Some slot else None

-- ---- one full-expression

abbrev pub full_acts : List CoreFunc → Full → List Act
full_acts funcs (full.Expr e) = acts_of funcs e.now
full_acts funcs (full.Init i) = init_acts_of funcs i.now
full_acts funcs (full.Await plan) = await_acts funcs plan.now

abbrev pub in_phase : Phase → Visible → Visible
in_phase p s = record { func = s.func; phase = p; scope = s.scope; made = s.made; holds = s.holds }

abbrev pub with_made : Visible → SlotSet → Visible
with_made s set = record { func = s.func; phase = s.phase; scope = s.scope; made = set; holds = s.holds }

abbrev pub with_scope : Visible → SlotSet → Visible
with_scope s set = record { func = s.func; phase = s.phase; scope = set; made = s.made; holds = s.holds }

abbrev pub walked : Phase → Visible → List Act → Visible
walked p s acts = fold acted (in_phase p s) acts

abbrev pub left : Visible → List SlotId → Visible
left s slots = with_made s (fold removed s.made slots)

-- a full-expression, where the slot that it initializes is visible too
abbrev pub full_seen : Visible → Option SlotId → List Act → Visible
full_seen s own acts = left (walked phase.Clears (walked phase.Names (walked phase.Makes (with_made s (fold inserted s.made (slot_list own))) acts) acts) acts) (slot_list own)

abbrev pub fulls_seen : Visible → List (List Act) → Visible
fulls_seen s fulls = fold (λ v acts. full_seen v None acts) s fulls

-- ---- statements

abbrev pub entered : Visible → Option SlotId → Visible
entered s slot = with_scope s (fold inserted s.scope (slot_list slot))

abbrev pub unscoped : Visible → List SlotId → Visible
unscoped s slots = with_scope s (fold removed s.scope slots)

abbrev pub row_locals : {m : _} → Row_of-CoreStmt m → List SlotId
row_locals end_of-CoreStmt = []
row_locals (more_of-CoreStmt x rest) = slot_list (local_of x) ++ row_locals rest

module _ (funcs : List CoreFunc) where
  abbrev mutual
    pub stmt_seen : Visible → CoreStmt → Visible
    stmt_seen s (stmt.Scope' n stmts at) = unscoped (row_seen s stmts) (row_locals stmts)
    stmt_seen s (stmt.Full e at) = full_seen s None (acts_of funcs e)
    stmt_seen s (stmt.Local slot i at) = full_seen s (Some slot) (init_acts_of funcs i)
    stmt_seen s (stmt.If' e n (more_of-CoreStmt x end_of-CoreStmt) m (more_of-CoreStmt y end_of-CoreStmt) at) = stmt_seen (stmt_seen (full_seen s None (acts_of funcs e)) x) y
    stmt_seen s (stmt.Loop' e step n (more_of-CoreStmt body end_of-CoreStmt) at) = stmt_seen (full_seen (full_seen s None (acts_of funcs e)) None (acts_of funcs step)) body
    stmt_seen s (stmt.Return (Some i) at) = full_seen s None (init_acts_of funcs i)
    stmt_seen s (stmt.Return None at) = s
    stmt_seen s (stmt.Try' n (more_of-CoreStmt body end_of-CoreStmt) m handlers at) = handlers_seen (stmt_seen s body) handlers
    stmt_seen s (stmt.Break at) = s
    stmt_seen s (stmt.Continue at) = s
    stmt_seen s (stmt.Leave at) = s
    stmt_seen s (stmt.OffEnd at) = s

    pub row_seen : {m : _} → Visible → Row_of-CoreStmt m → Visible
    row_seen s end_of-CoreStmt = s
    row_seen s (more_of-CoreStmt x rest) = row_seen (entered (stmt_seen s x) (local_of x)) rest

    pub handlers_seen : {m : _} → Visible → Row_of-Handler m → Visible
    handlers_seen s end_of-Handler = s
    handlers_seen s (more_of-Handler of slot body rest) = handlers_seen (unscoped (stmt_seen (entered s slot) body) (slot_list slot)) rest

  abbrev pub listed : Visible → CoreStmt → Visible
  listed s x = entered (stmt_seen s x) (local_of x)

  abbrev pub handled : Visible → Handler → Visible
  handled s handler = unscoped (stmt_seen (entered s handler.slot) handler.body) (slot_list handler.slot)

  -- ---- a function

  abbrev pub init_seen : Visible → Init → Visible
  init_seen s i = full_seen s None (init_acts_of funcs i)

  abbrev pub copy_seen : Visible → CopyPlan → Visible
  copy_seen s copy = full_seen s None (init_acts_of funcs copy.init)

  abbrev pub await_seen : Visible → AwaitPlan → Visible
  await_seen s plan = full_seen s (held_slot s.func.now plan.holder) (await_acts funcs plan)

  abbrev pub plan_seen : Visible → Option PromisePlan → Visible
  plan_seen s None = s
  plan_seen s (Some plan) =
      await_seen (await_seen (fulls_seen (fulls_seen (fulls_seen s (inits_fulls funcs plan.take_args)) (copies_fulls funcs plan.copies)) (inits_fulls funcs plan.ctor_args)) plan.initial) plan.last

  abbrev pub func_seen : Visible → CoreFunc → Visible
  func_seen s func = stmt_seen (plan_seen (fulls_seen s (role_fulls funcs func.role)) func.plan) func.body
