-- The acts of each form of statement in either order.
use Rattle.std.specs.Prelude.{◌≡◌, List, [], ◌∷◌, ◌++◌, None, Some}
use Rattle.std.proofs.Common.{refl, ap, sym, ◌∙◌}
use mathlib.Core.Former.{Count}
use Rattle.co_base.specs.declared.ids.SlotId.{SlotId}
use Rattle.co_base.specs.declared.span.Span.{Span}
use Rattle.co_core_tree.specs.declared.exprs.CoreExpr.{CoreExpr}
use Rattle.co_core_tree.specs.declared.exprs.Init.{Init}
use Rattle.co_core_tree.specs.declared.stmts.CoreStmt.{CoreStmt, Row_of-CoreStmt, end_of-CoreStmt, more_of-CoreStmt, Row_of-Handler, end_of-Handler, more_of-Handler, items-the_row-CoreStmt, items_hidden-the_row-CoreStmt-0, items-the_row-Handler, items_hidden-the_row-Handler-2}
use Rattle.co_core_tree.specs.declared.stmts.CoreStmt.TheBlock.{shape-the_row-CoreStmt-1, hidden-the_row-CoreStmt-1, shown-the_row-CoreStmt-1}
use Rattle.co_core_tree.specs.declared.stmts.CoreStmt.TheVariants as stmt
use Rattle.co_core_tree.specs.declared.stmts.Handler.{Handler}
use Rattle.co_core_tree.specs.declared.units.CoreFunc.{CoreFunc}
use Rattle.co_core_tree.specs.Acts.{Act}
use Rattle.co_core_tree.specs.Slots.{acts_of, init_acts_of}
use Rattle.co_core.specs.Bodies.{Placed, Standing, evaluated, handlers_evaluated, handlers_placed, in_body, in_branch, in_handler_body, in_loop_body, in_scope_list, joined_acts, placed, placed_fulls, row_evaluated, row_placed, own_fulls}
use Rattle.co_core_acts.specs.declared.stmts.Order.{Order}
use Rattle.co_core_acts.specs.declared.stmts.Order.TheVariants as order
use Rattle.co_core_acts.specs.Fulls.{handlers_fulls, stmt_fulls, stmts_fulls, turn_fulls}
use Rattle.co_core_acts.proofs.Lists.{append_assoc, append_nil}

abbrev stmt_row : CoreStmt → (n : Count) × Row_of-CoreStmt n
stmt_row (stmt.Scope' n stmts at) = (_, stmts)
stmt_row s = (_, end_of-CoreStmt)

abbrev handler_row : CoreStmt → (n : Count) × Row_of-Handler n
handler_row (stmt.Try' n body m handlers at) = (_, handlers)
handler_row s = (_, end_of-Handler)

module _ (funcs : List CoreFunc) where
  pub joined_append : (xs ys : List (List Act)) → joined_acts funcs (xs ++ ys) ≡ joined_acts funcs xs ++ joined_acts funcs ys
  joined_append [] ys = refl
  joined_append (x ∷ xs) ys = ap (λ l. x ++ l) (joined_append xs ys) ∙ sym (append_assoc x (joined_acts funcs xs) (joined_acts funcs ys))

  fulls_append : (ps qs : List Placed) → placed_fulls funcs (ps ++ qs) ≡ placed_fulls funcs ps ++ placed_fulls funcs qs
  fulls_append [] qs = refl
  fulls_append (p ∷ ps) qs = ap (λ l. own_fulls funcs p.stmt ++ l) (fulls_append ps qs) ∙ sym (lists_assoc (own_fulls funcs p.stmt) (placed_fulls funcs ps) (placed_fulls funcs qs))
    where
      lists_assoc : (xs ys zs : List (List Act)) → (xs ++ ys) ++ zs ≡ xs ++ (ys ++ zs)
      lists_assoc [] ys zs = refl
      lists_assoc (x ∷ xs) ys zs = ap (λ l. x ∷ l) (lists_assoc xs ys zs)

  two_fulls : (ps ps' qs qs' : List Placed) → placed_fulls funcs ps ≡ placed_fulls funcs ps' → placed_fulls funcs qs ≡ placed_fulls funcs qs' → placed_fulls funcs (ps ++ qs) ≡ placed_fulls funcs (ps' ++ qs')
  two_fulls ps ps' qs qs' e f = fulls_append ps qs ∙ ap (λ l. l ++ placed_fulls funcs qs) e ∙ ap (λ l. placed_fulls funcs ps' ++ l) f ∙ sym (fulls_append ps' qs')

  -- where a statement stands does not change its full-expressions
  mutual
    standing : (s t : Standing) (x : CoreStmt) → placed_fulls funcs (placed s x) ≡ placed_fulls funcs (placed t x)
    standing s t (stmt.Scope' n stmts at) = rows_standing (in_scope_list s) (in_scope_list t) stmts
    standing s t (stmt.If' e n (more_of-CoreStmt x end_of-CoreStmt) m (more_of-CoreStmt y end_of-CoreStmt) at) =
        ap (λ l. acts_of funcs e ∷ l) (two_fulls (placed (in_branch s) x) (placed (in_branch t) x) (placed (in_branch s) y) (placed (in_branch t) y) (standing (in_branch s) (in_branch t) x) (standing (in_branch s) (in_branch t) y))
    standing s t (stmt.Loop' e step n (more_of-CoreStmt body end_of-CoreStmt) at) = ap (λ l. acts_of funcs e ∷ acts_of funcs step ∷ l) (standing (in_loop_body s) (in_loop_body t) body)
    standing s t (stmt.Try' n (more_of-CoreStmt body end_of-CoreStmt) m handlers at) =
        two_fulls (placed (in_branch s) body) (placed (in_branch t) body) (handlers_placed (in_handler_body s) handlers) (handlers_placed (in_handler_body t) handlers) (standing (in_branch s) (in_branch t) body) (handlers_standing (in_handler_body s) (in_handler_body t) handlers)
    standing s t (stmt.Full e at) = refl
    standing s t (stmt.Local slot i at) = refl
    standing s t (stmt.Break at) = refl
    standing s t (stmt.Continue at) = refl
    standing s t (stmt.Return i at) = refl
    standing s t (stmt.Leave at) = refl
    standing s t (stmt.OffEnd at) = refl

    rows_standing : {m : _} → (s t : Standing) (row : Row_of-CoreStmt m) → placed_fulls funcs (row_placed s row) ≡ placed_fulls funcs (row_placed t row)
    rows_standing s t end_of-CoreStmt = refl
    rows_standing s t (more_of-CoreStmt x rest) = two_fulls (placed s x) (placed t x) (row_placed s rest) (row_placed t rest) (standing s t x) (rows_standing s t rest)

    handlers_standing : {m : _} → (s t : Standing) (row : Row_of-Handler m) → placed_fulls funcs (handlers_placed s row) ≡ placed_fulls funcs (handlers_placed t row)
    handlers_standing s t end_of-Handler = refl
    handlers_standing s t (more_of-Handler of slot body rest) = two_fulls (placed s body) (placed t body) (handlers_placed s rest) (handlers_placed t rest) (standing s t body) (handlers_standing s t rest)

  -- ---- lists

  rows_text : (m : Count) (row : Row_of-CoreStmt m) (s : Standing) → placed_fulls funcs (row_placed s row) ≡ stmts_fulls funcs order.Text (items-the_row-CoreStmt m row)
  rows_text m end_of-CoreStmt s = refl
  rows_text m (more_of-CoreStmt x rest) s = fulls_append (placed s x) (row_placed s rest) ∙ ap (λ l. l ++ placed_fulls funcs (row_placed s rest)) (standing s in_body x) ∙ ap (λ l. placed_fulls funcs (placed in_body x) ++ l) (rows_text _ rest s)

  rows_evaluation : (m : Count) (row : Row_of-CoreStmt m) → row_evaluated funcs row ≡ stmts_fulls funcs order.Evaluation (items-the_row-CoreStmt m row)
  rows_evaluation m end_of-CoreStmt = refl
  rows_evaluation m (more_of-CoreStmt x rest) = ap (λ l. evaluated funcs x ++ l) (rows_evaluation _ rest)

  handlers_text : (m : Count) (row : Row_of-Handler m) (s : Standing) → placed_fulls funcs (handlers_placed s row) ≡ handlers_fulls funcs order.Text (items-the_row-Handler m row)
  handlers_text m end_of-Handler s = refl
  handlers_text m (more_of-Handler of slot body rest) s = fulls_append (placed s body) (handlers_placed s rest) ∙ ap (λ l. l ++ placed_fulls funcs (handlers_placed s rest)) (standing s in_body body) ∙ ap (λ l. placed_fulls funcs (placed in_body body) ++ l) (handlers_text _ rest s)

  handlers_evaluation : (m : Count) (row : Row_of-Handler m) → handlers_evaluated funcs row ≡ handlers_fulls funcs order.Evaluation (items-the_row-Handler m row)
  handlers_evaluation m end_of-Handler = refl
  handlers_evaluation m (more_of-Handler of slot body rest) = ap (λ l. evaluated funcs body ++ l) (handlers_evaluation _ rest)

  -- ---- forms

  pub acts_scope : (o : Order) (stmts : List CoreStmt) (at : Span) → joined_acts funcs (stmt_fulls funcs o (stmt.Scope stmts at)) ≡ joined_acts funcs (stmts_fulls funcs o stmts)
  acts_scope order.Text stmts at = let row = stmt_row (stmt.Scope stmts at) in ap (joined_acts funcs) (rows_text row.0 row.1 (in_scope_list in_body) ∙ ap (stmts_fulls funcs order.Text) (items_hidden-the_row-CoreStmt-0 stmts))
  acts_scope order.Evaluation stmts at = let row = stmt_row (stmt.Scope stmts at) in ap (joined_acts funcs) (rows_evaluation row.0 row.1 ∙ ap (stmts_fulls funcs order.Evaluation) (items_hidden-the_row-CoreStmt-0 stmts))

  pub acts_full : (o : Order) (e : CoreExpr) (at : Span) → joined_acts funcs (stmt_fulls funcs o (stmt.Full e at)) ≡ acts_of funcs e
  acts_full order.Text e at = append_nil (acts_of funcs e)
  acts_full order.Evaluation e at = append_nil (acts_of funcs e)

  pub acts_local : (o : Order) (slot : SlotId) (i : Init) (at : Span) → joined_acts funcs (stmt_fulls funcs o (stmt.Local slot i at)) ≡ init_acts_of funcs i
  acts_local order.Text slot i at = append_nil (init_acts_of funcs i)
  acts_local order.Evaluation slot i at = append_nil (init_acts_of funcs i)

  pub acts_return : (o : Order) (i : Init) (at : Span) → joined_acts funcs (stmt_fulls funcs o (stmt.Return (Some i) at)) ≡ init_acts_of funcs i
  acts_return order.Text i at = append_nil (init_acts_of funcs i)
  acts_return order.Evaluation i at = append_nil (init_acts_of funcs i)

  pub acts_return_none : (o : Order) (at : Span) → joined_acts funcs (stmt_fulls funcs o (stmt.Return None at)) ≡ []
  acts_return_none order.Text at = refl
  acts_return_none order.Evaluation at = refl

  pub acts_break : (o : Order) (at : Span) → joined_acts funcs (stmt_fulls funcs o (stmt.Break at)) ≡ []
  acts_break order.Text at = refl
  acts_break order.Evaluation at = refl

  pub acts_continue : (o : Order) (at : Span) → joined_acts funcs (stmt_fulls funcs o (stmt.Continue at)) ≡ []
  acts_continue order.Text at = refl
  acts_continue order.Evaluation at = refl

  pub acts_leave : (o : Order) (at : Span) → joined_acts funcs (stmt_fulls funcs o (stmt.Leave at)) ≡ []
  acts_leave order.Text at = refl
  acts_leave order.Evaluation at = refl

  pub acts_off_end : (o : Order) (at : Span) → joined_acts funcs (stmt_fulls funcs o (stmt.OffEnd at)) ≡ []
  acts_off_end order.Text at = refl
  acts_off_end order.Evaluation at = refl

  pub acts_if : (o : Order) (e : CoreExpr) (x y : CoreStmt) (at : Span) → joined_acts funcs (stmt_fulls funcs o (stmt.If e x y at)) ≡ acts_of funcs e ++ (joined_acts funcs (stmt_fulls funcs o x) ++ joined_acts funcs (stmt_fulls funcs o y))
  unfolding shape-the_row-CoreStmt-1 hidden-the_row-CoreStmt-1 shown-the_row-CoreStmt-1 denote.Hole.Carrier.hidden
  acts_if order.Text e x y at =
      ap (λ l. acts_of funcs e ++ joined_acts funcs l) (two_fulls (placed (in_branch in_body) x) (placed in_body x) (placed (in_branch in_body) y) (placed in_body y) (standing (in_branch in_body) in_body x) (standing (in_branch in_body) in_body y) ∙ fulls_append (placed in_body x) (placed in_body y))
      ∙ ap (λ l. acts_of funcs e ++ l) (joined_append (placed_fulls funcs (placed in_body x)) (placed_fulls funcs (placed in_body y)))
  acts_if order.Evaluation e x y at = ap (λ l. acts_of funcs e ++ l) (joined_append (evaluated funcs x) (evaluated funcs y))

  pub acts_loop : (o : Order) (e step : CoreExpr) (body : CoreStmt) (at : Span) → joined_acts funcs (stmt_fulls funcs o (stmt.Loop e step body at)) ≡ acts_of funcs e ++ joined_acts funcs (turn_fulls funcs o body step)
  unfolding shape-the_row-CoreStmt-1 hidden-the_row-CoreStmt-1 shown-the_row-CoreStmt-1 denote.Hole.Carrier.hidden
  acts_loop order.Text e step body at = ap (λ l. acts_of funcs e ++ (acts_of funcs step ++ joined_acts funcs l)) (standing (in_loop_body in_body) in_body body)
  acts_loop order.Evaluation e step body at = refl

  pub acts_turn_text : (body : CoreStmt) (step : CoreExpr) → joined_acts funcs (turn_fulls funcs order.Text body step) ≡ acts_of funcs step ++ joined_acts funcs (stmt_fulls funcs order.Text body)
  acts_turn_text body step = refl

  pub acts_turn_evaluation : (body : CoreStmt) (step : CoreExpr) → joined_acts funcs (turn_fulls funcs order.Evaluation body step) ≡ joined_acts funcs (stmt_fulls funcs order.Evaluation body) ++ acts_of funcs step
  acts_turn_evaluation body step = joined_append (evaluated funcs body) (acts_of funcs step ∷ []) ∙ ap (λ l. joined_acts funcs (evaluated funcs body) ++ l) (append_nil (acts_of funcs step))

  pub acts_try : (o : Order) (body : CoreStmt) (handlers : List Handler) (at : Span) → joined_acts funcs (stmt_fulls funcs o (stmt.Try body handlers at)) ≡ joined_acts funcs (stmt_fulls funcs o body) ++ joined_acts funcs (handlers_fulls funcs o handlers)
  unfolding shape-the_row-CoreStmt-1 hidden-the_row-CoreStmt-1 shown-the_row-CoreStmt-1 denote.Hole.Carrier.hidden
  acts_try order.Text body handlers at =
      let row = handler_row (stmt.Try body handlers at) in
      ap (joined_acts funcs) (fulls_append (placed (in_branch in_body) body) (handlers_placed (in_handler_body in_body) row.1) ∙ ap (λ l. l ++ placed_fulls funcs (handlers_placed (in_handler_body in_body) row.1)) (standing (in_branch in_body) in_body body))
      ∙ joined_append (placed_fulls funcs (placed in_body body)) (placed_fulls funcs (handlers_placed (in_handler_body in_body) row.1))
      ∙ ap (λ l. joined_acts funcs (placed_fulls funcs (placed in_body body)) ++ joined_acts funcs l) (handlers_text row.0 row.1 (in_handler_body in_body) ∙ ap (handlers_fulls funcs order.Text) (items_hidden-the_row-Handler-2 handlers))
  acts_try order.Evaluation body handlers at =
      let row = handler_row (stmt.Try body handlers at) in
      joined_append (evaluated funcs body) (handlers_evaluated funcs row.1)
      ∙ ap (λ l. joined_acts funcs (evaluated funcs body) ++ joined_acts funcs l) (handlers_evaluation row.0 row.1 ∙ ap (handlers_fulls funcs order.Evaluation) (items_hidden-the_row-Handler-2 handlers))

pub ruleset empty_stmts = (acts_break, acts_continue, acts_leave, acts_off_end, acts_return_none)
