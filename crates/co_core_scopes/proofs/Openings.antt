-- What a walk over each form of statement comes to.
use Rattle.std.specs.Prelude.{◌≡◌, List, ◌++◌, flat_map, fold, Option, None, Some}
use Rattle.std.proofs.Common.{refl, sym, ap, ◌∙◌}
use mathlib.Core.Former.{Count}
use Rattle.co_base.specs.declared.ids.SlotId.{SlotId}
use Rattle.co_base.specs.declared.span.Span.{Span}
use Rattle.co_core_tree.specs.declared.exprs.CoreExpr.{CoreExpr}
use Rattle.co_core_tree.specs.declared.exprs.Init.{Init}
use Rattle.co_core_tree.specs.declared.stmts.CoreStmt.{CoreStmt, Row_of-CoreStmt, end_of-CoreStmt, more_of-CoreStmt, items-the_row-CoreStmt, items_hidden-the_row-CoreStmt-0, Row_of-Handler, end_of-Handler, more_of-Handler, items-the_row-Handler, items_hidden-the_row-Handler-2}
use Rattle.co_core_tree.specs.declared.stmts.CoreStmt.TheVariants as stmt
use Rattle.co_core_tree.specs.declared.stmts.CoreStmt.TheBlock.{shape-the_row-CoreStmt-1, hidden-the_row-CoreStmt-1, shown-the_row-CoreStmt-1}
use Rattle.co_core_tree.specs.declared.stmts.Handler.{Handler}
use Rattle.co_core_tree.specs.declared.units.CoreFunc.{CoreFunc}
use Rattle.co_core_tree.specs.Slots.{acts_of, init_acts_of}
use Rattle.co_core_scopes.specs.declared.visible.Visible.{Visible}
use Rattle.co_core_scopes.specs.Makes.{slot_list}
use Rattle.co_core_scopes.specs.Sets.{local_of}
use Rattle.co_core_scopes.specs.Scoped.{entered, full_seen, handled, handlers_seen, listed, row_locals, row_seen, stmt_seen, unscoped}

abbrev stmt_row : CoreStmt → (n : Count) × Row_of-CoreStmt n
stmt_row (stmt.Scope' n stmts at) = (_, stmts)
stmt_row s = (_, end_of-CoreStmt)

abbrev handler_row : CoreStmt → (n : Count) × Row_of-Handler n
handler_row (stmt.Try' n body m handlers at) = (_, handlers)
handler_row s = (_, end_of-Handler)

abbrev locals_in : List CoreStmt → List SlotId
locals_in stmts = flat_map (λ x. slot_list (local_of x)) stmts

rows_locals : (m : Count) (row : Row_of-CoreStmt m) → row_locals row ≡ locals_in (items-the_row-CoreStmt m row)
rows_locals m end_of-CoreStmt = refl
rows_locals m (more_of-CoreStmt x rest) = ap (λ l. slot_list (local_of x) ++ l) (rows_locals _ rest)

module _ (funcs : List CoreFunc) where
  rows_seen : (m : Count) (row : Row_of-CoreStmt m) (s : Visible) → row_seen funcs s row ≡ fold (listed funcs) s (items-the_row-CoreStmt m row)
  rows_seen m end_of-CoreStmt s = refl
  rows_seen m (more_of-CoreStmt x rest) s = rows_seen _ rest (entered (stmt_seen funcs s x) (local_of x))

  rows_handled : (m : Count) (row : Row_of-Handler m) (s : Visible) → handlers_seen funcs s row ≡ fold (handled funcs) s (items-the_row-Handler m row)
  rows_handled m end_of-Handler s = refl
  rows_handled m (more_of-Handler of slot body rest) s = rows_handled _ rest (unscoped (stmt_seen funcs (entered s slot) body) (slot_list slot))

  open_if : (s : Visible) (e : CoreExpr) (x y : CoreStmt) (at : Span) → stmt_seen funcs s (stmt.If e x y at) ≡ stmt_seen funcs (stmt_seen funcs (full_seen s None (acts_of funcs e)) x) y
  unfolding shape-the_row-CoreStmt-1 hidden-the_row-CoreStmt-1 shown-the_row-CoreStmt-1 denote.Hole.Carrier.hidden
  open_if s e x y at = refl

  open_loop : (s : Visible) (e step : CoreExpr) (x : CoreStmt) (at : Span) → stmt_seen funcs s (stmt.Loop e step x at) ≡ stmt_seen funcs (full_seen (full_seen s None (acts_of funcs e)) None (acts_of funcs step)) x
  unfolding shape-the_row-CoreStmt-1 hidden-the_row-CoreStmt-1 shown-the_row-CoreStmt-1 denote.Hole.Carrier.hidden
  open_loop s e step x at = refl

  open_try : (s : Visible) (x : CoreStmt) (handlers : List Handler) (at : Span) → stmt_seen funcs s (stmt.Try x handlers at) ≡ handlers_seen funcs (stmt_seen funcs s x) (handler_row (stmt.Try x handlers at)).1
  unfolding shape-the_row-CoreStmt-1 hidden-the_row-CoreStmt-1 shown-the_row-CoreStmt-1 denote.Hole.Carrier.hidden
  open_try s x handlers at = refl

  pub seen_scope : (s s1 s2 : Visible) (whole : CoreStmt) (stmts stmts' : List CoreStmt) (at : Span) → whole ≡ stmt.Scope stmts at → stmts' ≡ stmts → s1 ≡ fold (listed funcs) s stmts' → s2 ≡ unscoped s1 (locals_in stmts') → s2 ≡ stmt_seen funcs s whole
  seen_scope s s1 s2 whole stmts stmts' at is e h k =
      let row = stmt_row (stmt.Scope stmts at) in
      let i = items_hidden-the_row-CoreStmt-0 stmts ∙ sym e in
      let r1 : row_seen funcs s row.1 ≡ fold (listed funcs) s stmts' = rows_seen row.0 row.1 s ∙ ap (fold (listed funcs) s) i in
      let r2 : row_locals row.1 ≡ locals_in stmts' = rows_locals row.0 row.1 ∙ ap locals_in i in
      k ∙ ap (λ z. unscoped z (locals_in stmts')) (h ∙ sym r1) ∙ ap (unscoped (row_seen funcs s row.1)) (sym r2) ∙ ap (stmt_seen funcs s) (sym is)

  pub seen_full : (s s1 : Visible) (whole : CoreStmt) (e : CoreExpr) (at : Span) → whole ≡ stmt.Full e at → s1 ≡ full_seen s None (acts_of funcs e) → s1 ≡ stmt_seen funcs s whole
  seen_full s s1 whole e at is h = h ∙ ap (stmt_seen funcs s) (sym is)

  pub seen_local : (s s1 : Visible) (whole : CoreStmt) (slot : SlotId) (i : Init) (at : Span) → whole ≡ stmt.Local slot i at → s1 ≡ full_seen s (Some slot) (init_acts_of funcs i) → s1 ≡ stmt_seen funcs s whole
  seen_local s s1 whole slot i at is h = h ∙ ap (stmt_seen funcs s) (sym is)

  pub seen_if : (s s1 s2 s3 : Visible) (whole : CoreStmt) (e : CoreExpr) (x y x' y' : CoreStmt) (at : Span) → whole ≡ stmt.If e x y at → x' ≡ x → y' ≡ y → s1 ≡ full_seen s None (acts_of funcs e) → s2 ≡ stmt_seen funcs s1 x' → s3 ≡ stmt_seen funcs s2 y' → s3 ≡ stmt_seen funcs s whole
  seen_if s s1 s2 s3 whole e x y x' y' at is ex ey h k l =
      l ∙ ap (stmt_seen funcs s2) ey ∙ ap (λ z. stmt_seen funcs z y) (k ∙ ap (stmt_seen funcs s1) ex ∙ ap (λ z. stmt_seen funcs z x) h) ∙ sym (open_if s e x y at) ∙ ap (stmt_seen funcs s) (sym is)

  pub seen_loop : (s s1 s2 s3 : Visible) (whole : CoreStmt) (e step : CoreExpr) (x x' : CoreStmt) (at : Span) → whole ≡ stmt.Loop e step x at → x' ≡ x → s1 ≡ full_seen s None (acts_of funcs e) → s2 ≡ full_seen s1 None (acts_of funcs step) → s3 ≡ stmt_seen funcs s2 x' → s3 ≡ stmt_seen funcs s whole
  seen_loop s s1 s2 s3 whole e step x x' at is ex h k l =
      l ∙ ap (stmt_seen funcs s2) ex ∙ ap (λ z. stmt_seen funcs z x) (k ∙ ap (λ z. full_seen z None (acts_of funcs step)) h) ∙ sym (open_loop s e step x at) ∙ ap (stmt_seen funcs s) (sym is)

  pub seen_try : (s s1 s2 : Visible) (whole : CoreStmt) (x x' : CoreStmt) (handlers handlers' : List Handler) (at : Span) → whole ≡ stmt.Try x handlers at → x' ≡ x → handlers' ≡ handlers → s1 ≡ stmt_seen funcs s x' → s2 ≡ fold (handled funcs) s1 handlers' → s2 ≡ stmt_seen funcs s whole
  seen_try s s1 s2 whole x x' handlers handlers' at is ex e h k =
      let row = handler_row (stmt.Try x handlers at) in
      let r : handlers_seen funcs s1 row.1 ≡ fold (handled funcs) s1 handlers' = rows_handled row.0 row.1 s1 ∙ ap (fold (handled funcs) s1) (items_hidden-the_row-Handler-2 handlers ∙ sym e) in
      k ∙ sym r ∙ ap (λ z. handlers_seen funcs z row.1) (h ∙ ap (stmt_seen funcs s) ex) ∙ sym (open_try s x handlers at) ∙ ap (stmt_seen funcs s) (sym is)

  pub seen_given : (s s1 : Visible) (given : Option Init) (i : Init) (at : Span) → given ≡ Some i → s1 ≡ full_seen s None (init_acts_of funcs i) → s1 ≡ stmt_seen funcs s (stmt.Return given at)
  seen_given s s1 given i at is h = h ∙ ap (λ o. stmt_seen funcs s (stmt.Return o at)) (sym is)

  pub seen_return : (s s1 : Visible) (whole : CoreStmt) (given : Option Init) (at : Span) → whole ≡ stmt.Return given at → s1 ≡ stmt_seen funcs s (stmt.Return given at) → s1 ≡ stmt_seen funcs s whole
  seen_return s s1 whole given at is h = h ∙ ap (stmt_seen funcs s) (sym is)

  pub seen_break : (s : Visible) (whole : CoreStmt) (at : Span) → whole ≡ stmt.Break at → s ≡ stmt_seen funcs s whole
  seen_break s whole at is = ap (stmt_seen funcs s) (sym is)

  pub seen_continue : (s : Visible) (whole : CoreStmt) (at : Span) → whole ≡ stmt.Continue at → s ≡ stmt_seen funcs s whole
  seen_continue s whole at is = ap (stmt_seen funcs s) (sym is)

  pub seen_leave : (s : Visible) (whole : CoreStmt) (at : Span) → whole ≡ stmt.Leave at → s ≡ stmt_seen funcs s whole
  seen_leave s whole at is = ap (stmt_seen funcs s) (sym is)

  pub seen_off_end : (s : Visible) (whole : CoreStmt) (at : Span) → whole ≡ stmt.OffEnd at → s ≡ stmt_seen funcs s whole
  seen_off_end s whole at is = ap (stmt_seen funcs s) (sym is)

  pub listed_is : (s s1 s2 : Visible) (x : CoreStmt) (o : Option SlotId) → s1 ≡ stmt_seen funcs s x → o ≡ local_of x → s2 ≡ entered s1 o → s2 ≡ listed funcs s x
  listed_is s s1 s2 x o h e k = k ∙ ap (λ z. entered z o) h ∙ ap (entered (stmt_seen funcs s x)) e

  pub handled_is : (s s1 s2 s3 : Visible) (handler : Handler) → s1 ≡ entered s handler.slot → s2 ≡ stmt_seen funcs s1 handler.body → s3 ≡ unscoped s2 (slot_list handler.slot) → s3 ≡ handled funcs s handler
  handled_is s s1 s2 s3 handler h k l = l ∙ ap (λ z. unscoped z (slot_list handler.slot)) (k ∙ ap (λ z. stmt_seen funcs z handler.body) h)
