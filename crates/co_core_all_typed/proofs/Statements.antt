-- What the walk over the statements tests at each form that holds others.
use Rattle.std.specs.Prelude.{◌≡◌, Bool, true, false, ◌&&◌, Option, List, [], ◌∷◌, ◌++◌}
use Rattle.std.specs.List.{list_all}
use Rattle.std.proofs.Common.{refl, ap, ◌∙◌, sym}
use Rattle.std.proofs.lemmas.List.Folds.{list_all-append}
use mathlib.Core.Former.{Count}
use Rattle.co_base.specs.declared.ids.SlotId.{SlotId}
use Rattle.co_base.specs.declared.span.Span.{Span}
use Rattle.co_core_tree.specs.declared.exprs.CoreExpr.{CoreExpr}
use Rattle.co_core_tree.specs.declared.exprs.Init.{Init}
use Rattle.co_core_tree.specs.declared.stmts.CoreStmt.{CoreStmt, Row_of-CoreStmt, end_of-CoreStmt, more_of-CoreStmt, items-the_row-CoreStmt, items_hidden-the_row-CoreStmt-0, Row_of-Handler, end_of-Handler, more_of-Handler, items-the_row-Handler, items_hidden-the_row-Handler-2}
use Rattle.co_core_tree.specs.declared.stmts.CoreStmt.TheBlock.{shape-the_row-CoreStmt-1, hidden-the_row-CoreStmt-1, shown-the_row-CoreStmt-1}
use Rattle.co_core_tree.specs.declared.stmts.CoreStmt.TheVariants as stmt
use Rattle.co_core_tree.specs.declared.stmts.Handler.{Handler}
use Rattle.co_core_tree.specs.declared.units.CoreFunc.{CoreFunc}
use Rattle.co_core_tree.specs.declared.units.UnitParts.{UnitParts}
use Rattle.co_core_typing.specs.Rules.{typed, init_typed}
use Rattle.co_core_typing.specs.Tables.{slot_type}
use Rattle.co_core.specs.Bodies.{Standing, in_body, placed, row_placed, handlers_placed, in_branch, in_loop_body, in_scope_list, in_handler_body}
use Rattle.co_core.specs.Typed.{catchable, caught_fits, condition, handlers_typed, placed_typed, returned}
use Rattle.co_core_all_typed.specs.Walks.{within_typed, handler_typed, handler_within}

-- the row of a form that holds a list
abbrev stmt_row : CoreStmt → (n : Count) × Row_of-CoreStmt n
stmt_row (stmt.Scope' n stmts at) = (_, stmts)
stmt_row s = (_, end_of-CoreStmt)

abbrev handler_row : CoreStmt → (n : Count) × Row_of-Handler n
handler_row (stmt.Try' n body m handlers at) = (_, handlers)
handler_row s = (_, end_of-Handler)

and_true : (b : Bool) → (b && true) ≡ b
and_true true = refl
and_true false = refl

and_assoc : (a b c : Bool) → ((a && b) && c) ≡ (a && (b && c))
and_assoc true b c = refl
and_assoc false b c = refl

both : {a b c d : Bool} → a ≡ b → c ≡ d → (a && c) ≡ (b && d)
both {a} {b} {c} {d} e f = ap (λ x. x && c) e ∙ ap (λ x. b && x) f

module _ (unit : UnitParts) (func : CoreFunc) where
  abbrev tests : (Standing) → CoreStmt → Bool
  tests s x = list_all (placed_typed unit func) (placed s x)

  abbrev row_tests : {m : _} → Standing → Row_of-CoreStmt m → Bool
  row_tests s row = list_all (placed_typed unit func) (row_placed s row)

  abbrev handlers_tests : {m : _} → Standing → Row_of-Handler m → Bool
  handlers_tests s row = list_all (placed_typed unit func) (handlers_placed s row)

  mutual
    -- where a statement stands makes no difference
    wherever : (s t : Standing) (x : CoreStmt) → tests s x ≡ tests t x
    wherever s t (stmt.Scope' n stmts at) = rows_wherever (in_scope_list s) (in_scope_list t) stmts
    wherever s t (stmt.If' e n (more_of-CoreStmt x end_of-CoreStmt) m (more_of-CoreStmt y end_of-CoreStmt) at) =
        ap (λ b. condition unit func e && b)
        (list_all-append (placed_typed unit func) (placed (in_branch s) x) (placed (in_branch s) y)
        ∙ both (wherever (in_branch s) (in_branch t) x) (wherever (in_branch s) (in_branch t) y)
        ∙ sym (list_all-append (placed_typed unit func) (placed (in_branch t) x) (placed (in_branch t) y)))
    wherever s t (stmt.Loop' e step n (more_of-CoreStmt body end_of-CoreStmt) at) =
        ap (λ b. (condition unit func e && typed unit func [] step) && b) (wherever (in_loop_body s) (in_loop_body t) body)
    wherever s t (stmt.Try' n (more_of-CoreStmt body end_of-CoreStmt) m handlers at) =
        ap (λ b. handlers_typed unit func handlers && b)
        (list_all-append (placed_typed unit func) (placed (in_branch s) body) (handlers_placed (in_handler_body s) handlers)
        ∙ both (wherever (in_branch s) (in_branch t) body) (handlers_wherever (in_handler_body s) (in_handler_body t) handlers)
        ∙ sym (list_all-append (placed_typed unit func) (placed (in_branch t) body) (handlers_placed (in_handler_body t) handlers)))
    wherever s t (stmt.Full e at) = refl
    wherever s t (stmt.Local slot i at) = refl
    wherever s t (stmt.Break at) = refl
    wherever s t (stmt.Continue at) = refl
    wherever s t (stmt.Return i at) = refl
    wherever s t (stmt.Leave at) = refl
    wherever s t (stmt.OffEnd at) = refl

    rows_wherever : {m : Count} (s t : Standing) (row : Row_of-CoreStmt m) → row_tests s row ≡ row_tests t row
    rows_wherever s t end_of-CoreStmt = refl
    rows_wherever s t (more_of-CoreStmt x rest) =
        list_all-append (placed_typed unit func) (placed s x) (row_placed s rest)
        ∙ both (wherever s t x) (rows_wherever s t rest)
        ∙ sym (list_all-append (placed_typed unit func) (placed t x) (row_placed t rest))

    handlers_wherever : {m : Count} (s t : Standing) (row : Row_of-Handler m) → handlers_tests s row ≡ handlers_tests t row
    handlers_wherever s t end_of-Handler = refl
    handlers_wherever s t (more_of-Handler of slot body rest) =
        list_all-append (placed_typed unit func) (placed s body) (handlers_placed s rest)
        ∙ both (wherever s t body) (handlers_wherever s t rest)
        ∙ sym (list_all-append (placed_typed unit func) (placed t body) (handlers_placed t rest))

  rows_within : (m : Count) (s : Standing) (row : Row_of-CoreStmt m) → row_tests s row ≡ list_all (within_typed unit func) (items-the_row-CoreStmt m row)
  rows_within m s end_of-CoreStmt = refl
  rows_within m s (more_of-CoreStmt x rest) =
      list_all-append (placed_typed unit func) (placed s x) (row_placed s rest) ∙ both (wherever s in_body x) (rows_within _ s rest)

  handlers_within : (m : Count) (s : Standing) (row : Row_of-Handler m) → handlers_tests s row ≡ list_all (handler_within unit func) (items-the_row-Handler m row)
  handlers_within m s end_of-Handler = refl
  handlers_within m s (more_of-Handler of slot body rest) =
      list_all-append (placed_typed unit func) (placed s body) (handlers_placed s rest) ∙ both (wherever s in_body body) (handlers_within _ s rest)

  handlers_each : (m : Count) (row : Row_of-Handler m) → handlers_typed unit func row ≡ list_all (handler_typed unit func) (items-the_row-Handler m row)
  handlers_each m end_of-Handler = refl
  handlers_each m (more_of-Handler of slot body rest) =
      ap (λ b. catchable unit func of && (caught_fits unit func of slot && b)) (handlers_each _ rest)
      ∙ sym (and_assoc (catchable unit func of) (caught_fits unit func of slot) (list_all (handler_typed unit func) (items-the_row-Handler _ rest)))

  within_scope : (stmts : List CoreStmt) (at : Span) → within_typed unit func (stmt.Scope stmts at) ≡ list_all (within_typed unit func) stmts
  within_scope stmts at =
      let row = stmt_row (stmt.Scope stmts at) in
      rows_within row.0 (in_scope_list in_body) row.1 ∙ ap (list_all (within_typed unit func)) (items_hidden-the_row-CoreStmt-0 stmts)

  within_if : (e : CoreExpr) (x y : CoreStmt) (at : Span) → within_typed unit func (stmt.If e x y at) ≡ (condition unit func e && (within_typed unit func x && within_typed unit func y))
  unfolding shape-the_row-CoreStmt-1 hidden-the_row-CoreStmt-1 shown-the_row-CoreStmt-1 denote.Hole.Carrier.hidden
  within_if e x y at = ap (λ b. condition unit func e && b) (list_all-append (placed_typed unit func) (placed (in_branch in_body) x) (placed (in_branch in_body) y))

  within_loop : (e step : CoreExpr) (body : CoreStmt) (at : Span) → within_typed unit func (stmt.Loop e step body at) ≡ ((condition unit func e && typed unit func [] step) && within_typed unit func body)
  unfolding shape-the_row-CoreStmt-1 hidden-the_row-CoreStmt-1 shown-the_row-CoreStmt-1 denote.Hole.Carrier.hidden
  within_loop e step body at = ap (λ b. (condition unit func e && typed unit func [] step) && b) (wherever (in_loop_body in_body) in_body body)

  within_try : (body : CoreStmt) (handlers : List Handler) (at : Span) → within_typed unit func (stmt.Try body handlers at) ≡ (list_all (handler_typed unit func) handlers && (within_typed unit func body && list_all (handler_within unit func) handlers))
  unfolding shape-the_row-CoreStmt-1 hidden-the_row-CoreStmt-1 shown-the_row-CoreStmt-1 denote.Hole.Carrier.hidden
  within_try body handlers at =
      let row = handler_row (stmt.Try body handlers at) in
      let shown = items_hidden-the_row-Handler-2 handlers in
      both
      (handlers_each row.0 row.1 ∙ ap (list_all (handler_typed unit func)) shown)
      (list_all-append (placed_typed unit func) (placed (in_branch in_body) body) (handlers_placed (in_handler_body in_body) row.1)
      ∙ ap (λ b. within_typed unit func body && b) (handlers_within row.0 (in_handler_body in_body) row.1 ∙ ap (list_all (handler_within unit func)) shown))

  pub within_full : (e : CoreExpr) (at : Span) → within_typed unit func (stmt.Full e at) ≡ typed unit func [] e
  within_full e at = and_true (typed unit func [] e)

  pub within_local : (slot : SlotId) (i : Init) (at : Span) → within_typed unit func (stmt.Local slot i at) ≡ init_typed unit func [] false (slot_type func slot) i
  within_local slot i at = and_true (init_typed unit func [] false (slot_type func slot) i)

  pub within_return : (i : Option Init) (at : Span) → within_typed unit func (stmt.Return i at) ≡ returned unit func i
  within_return i at = and_true (returned unit func i)

  -- the same of a statement that is seen to be of a form, and of its parts as they are read
  pub scope_within : (s : CoreStmt) (stmts read : List CoreStmt) (at : Span) (b : Bool) → s ≡ stmt.Scope stmts at → read ≡ stmts → b ≡ list_all (within_typed unit func) read → b ≡ within_typed unit func s
  scope_within s stmts read at b is same holds =
      holds ∙ ap (list_all (within_typed unit func)) same ∙ sym (within_scope stmts at) ∙ ap (within_typed unit func) (sym is)

  pub if_within : (s : CoreStmt) (e : CoreExpr) (x y read_x read_y : CoreStmt) (at : Span) (b : Bool) → s ≡ stmt.If e x y at → read_x ≡ x → read_y ≡ y → b ≡ (condition unit func e && (within_typed unit func read_x && within_typed unit func read_y)) → b ≡ within_typed unit func s
  if_within s e x y read_x read_y at b is same_x same_y holds =
      holds ∙ ap (λ z. condition unit func e && z) (both (ap (within_typed unit func) same_x) (ap (within_typed unit func) same_y))
      ∙ sym (within_if e x y at) ∙ ap (within_typed unit func) (sym is)

  pub loop_within : (s : CoreStmt) (e step : CoreExpr) (body read : CoreStmt) (at : Span) (b : Bool) → s ≡ stmt.Loop e step body at → read ≡ body → b ≡ ((condition unit func e && typed unit func [] step) && within_typed unit func read) → b ≡ within_typed unit func s
  loop_within s e step body read at b is same holds =
      holds ∙ ap (λ z. (condition unit func e && typed unit func [] step) && within_typed unit func z) same
      ∙ sym (within_loop e step body at) ∙ ap (within_typed unit func) (sym is)

  pub try_within : (s body read : CoreStmt) (handlers read_handlers : List Handler) (at : Span) (b : Bool) → s ≡ stmt.Try body handlers at → read ≡ body → read_handlers ≡ handlers → b ≡ (list_all (handler_typed unit func) read_handlers && (within_typed unit func read && list_all (handler_within unit func) read_handlers)) → b ≡ within_typed unit func s
  try_within s body read handlers read_handlers at b is same same_handlers holds =
      holds ∙ ap (λ z. list_all (handler_typed unit func) z && (within_typed unit func read && list_all (handler_within unit func) z)) same_handlers
      ∙ ap (λ z. list_all (handler_typed unit func) handlers && (within_typed unit func z && list_all (handler_within unit func) handlers)) same
      ∙ sym (within_try body handlers at) ∙ ap (within_typed unit func) (sym is)

pub ruleset opened_statements = (within_full, within_local, within_return)
