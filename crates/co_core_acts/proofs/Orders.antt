-- What is visited in either order, form by form.
use Rattle.std.specs.Prelude.{◌≡◌, ℕ, ◌-◌, ◌<◌, ◌≤◌, List, [], ◌∷◌, ◌++◌, length, Some}
use Rattle.std.proofs.Common.{ap, sym, ◌∙◌, drop, get_or}
use Rattle.co_base.specs.declared.ids.SlotId.{SlotId}
use Rattle.co_base.specs.declared.span.Span.{Span}
use Rattle.co_core_tree.specs.declared.exprs.CoreExpr.{CoreExpr}
use Rattle.co_core_tree.specs.declared.exprs.Init.{Init}
use Rattle.co_core_tree.specs.declared.stmts.CoreStmt.{CoreStmt}
use Rattle.co_core_tree.specs.declared.stmts.CoreStmt.TheVariants as stmt
use Rattle.co_core_tree.specs.declared.stmts.Handler.{Handler}
use Rattle.co_core_tree.specs.declared.units.CoreFunc.{CoreFunc}
use Rattle.co_core_tree.specs.declared.units.CopyPlan.{CopyPlan}
use Rattle.co_core_tree.specs.declared.units.PromisePlan.{PromisePlan}
use Rattle.co_core_tree.specs.Acts.{Act}
use Rattle.co_core_tree.specs.Slots.{acts_of, init_acts_of}
use Rattle.co_core.specs.Bodies.{await_acts, copies_fulls, inits_fulls, joined_acts, plan_fulls, role_fulls}
use Rattle.co_core_acts.specs.declared.visitor.Awaits.{Awaits}
use Rattle.co_core_acts.specs.declared.stmts.Order.{Order}
use Rattle.co_core_acts.specs.declared.stmts.Order.TheVariants as order
use Rattle.co_core_acts.specs.Visits.{awaits_of, back, joined}
use Rattle.co_core_acts.specs.Fulls.{acts_in, handlers_fulls, stmt_fulls, stmts_fulls, turn_fulls}
use Rattle.co_core_acts.proofs.Lists.{append_nil, awaits_append, back_append}
use Rattle.co_core_acts.proofs.Loops.{drop_back}
use Rattle.co_core_acts.proofs.Statements.{acts_full, acts_if, acts_local, acts_loop, acts_scope, acts_try, acts_turn_evaluation, joined_append}

module _ {V : Type 0} (after : V → Act → V) where
  pub follows : (v v1 v2 : V) (xs ys : List Act) → v1 ≡ back after v ys → v2 ≡ back after v1 xs → v2 ≡ back after v (xs ++ ys)
  follows v v1 v2 xs ys m1 m2 = m2 ∙ ap (λ w. back after w xs) m1 ∙ sym (back_append after v xs ys)

  -- a turn of a loop over the elements of a list, from the last to the first
  pub list_step : {X : Type 0} → (lists : List X → List Act) (own : X → List Act) → ((x : X) (xs : List X) → lists (x ∷ xs) ≡ own x ++ lists xs) →
      (xs : List X) (at : ℕ) (x : X) (v v1 v2 : V) → 0 < at → at ≤ length xs → x ≡ get_or xs (at - 1) x →
      v1 ≡ back after v (lists (drop at xs)) → v2 ≡ back after v1 (own x) → v2 ≡ back after v (lists (drop (at - 1) xs))
  list_step lists own more xs at x v v1 v2 some within is m1 m2 =
      follows v v1 v2 (own x) (lists (drop at xs)) m1 m2 ∙ ap (back after v) (sym (ap lists (drop_back xs at x some within is) ∙ more x (drop at xs)))

pub both_await : (funcs : List CoreFunc) (xs ys : List Act) (a b r : Awaits) → a ≡ awaits_of funcs xs → b ≡ awaits_of funcs ys → r ≡ joined a b → r ≡ awaits_of funcs (xs ++ ys)
both_await funcs xs ys a b r e f m = m ∙ ap (λ c. joined c b) e ∙ ap (joined (awaits_of funcs xs)) f ∙ sym (awaits_append funcs xs ys)

pub list_awaits : (funcs : List CoreFunc) {X : Type 0} (lists : List X → List Act) (own : X → List Act) → ((x : X) (xs : List X) → lists (x ∷ xs) ≡ own x ++ lists xs) →
    (xs : List X) (at : ℕ) (x : X) (later a r : Awaits) → 0 < at → at ≤ length xs → x ≡ get_or xs (at - 1) x →
    later ≡ awaits_of funcs (lists (drop at xs)) → a ≡ awaits_of funcs (own x) → r ≡ joined a later → r ≡ awaits_of funcs (lists (drop (at - 1) xs))
list_awaits funcs lists own more xs at x later a r some within is l e m =
    both_await funcs (own x) (lists (drop at xs)) a later r e l m ∙ ap (awaits_of funcs) (sym (ap lists (drop_back xs at x some within is) ∙ more x (drop at xs)))

module _ (funcs : List CoreFunc) where
  abbrev pub inits_lists : List Init → List Act
  inits_lists l = joined_acts funcs (inits_fulls funcs l)

  abbrev pub copies_lists : List CopyPlan → List Act
  copies_lists l = joined_acts funcs (copies_fulls funcs l)

  abbrev pub copy_own : CopyPlan → List Act
  copy_own copy = init_acts_of funcs copy.init

  abbrev pub stmt_acts : Order → CoreStmt → List Act
  stmt_acts o s = joined_acts funcs (stmt_fulls funcs o s)

  abbrev pub stmts_lists : Order → List CoreStmt → List Act
  stmts_lists o l = joined_acts funcs (stmts_fulls funcs o l)

  abbrev pub handlers_lists : Order → List Handler → List Act
  handlers_lists o l = joined_acts funcs (handlers_fulls funcs o l)

  abbrev pub handler_own : Order → Handler → List Act
  handler_own o handler = stmt_acts o handler.body

  pub stmts_more : (o : Order) (s : CoreStmt) (l : List CoreStmt) → stmts_lists o (s ∷ l) ≡ stmt_acts o s ++ stmts_lists o l
  stmts_more o s l = joined_append funcs (stmt_fulls funcs o s) (stmts_fulls funcs o l)

  pub handlers_more : (o : Order) (h : Handler) (l : List Handler) → handlers_lists o (h ∷ l) ≡ handler_own o h ++ handlers_lists o l
  handlers_more o h l = joined_append funcs (stmt_fulls funcs o h.body) (handlers_fulls funcs o l)

  -- ---- awaits

  pub awaits_scope : (o : Order) (whole : CoreStmt) (l l' : List CoreStmt) (at : Span) (r : Awaits) → whole ≡ stmt.Scope l at → l' ≡ l → r ≡ awaits_of funcs (stmts_lists o l') → r ≡ awaits_of funcs (stmt_acts o whole)
  awaits_scope o whole l l' at r is e m = m ∙ ap (λ k. awaits_of funcs (stmts_lists o k)) e ∙ sym (ap (awaits_of funcs) (acts_scope funcs o l at)) ∙ sym (ap (λ w. awaits_of funcs (stmt_acts o w)) is)

  pub awaits_full : (o : Order) (whole : CoreStmt) (e : CoreExpr) (at : Span) (r : Awaits) → whole ≡ stmt.Full e at → r ≡ awaits_of funcs (acts_of funcs e) → r ≡ awaits_of funcs (stmt_acts o whole)
  awaits_full o whole e at r is m = m ∙ sym (ap (awaits_of funcs) (acts_full funcs o e at)) ∙ sym (ap (λ w. awaits_of funcs (stmt_acts o w)) is)

  pub awaits_local : (o : Order) (whole : CoreStmt) (slot : SlotId) (i : Init) (at : Span) (r : Awaits) → whole ≡ stmt.Local slot i at → r ≡ awaits_of funcs (init_acts_of funcs i) → r ≡ awaits_of funcs (stmt_acts o whole)
  awaits_local o whole slot i at r is m = m ∙ sym (ap (awaits_of funcs) (acts_local funcs o slot i at)) ∙ sym (ap (λ w. awaits_of funcs (stmt_acts o w)) is)

  pub awaits_if : (o : Order) (whole : CoreStmt) (e : CoreExpr) (x x' y y' : CoreStmt) (at : Span) (a b c d r : Awaits) → whole ≡ stmt.If e x y at → x' ≡ x → y' ≡ y →
      a ≡ awaits_of funcs (stmt_acts o y') → b ≡ awaits_of funcs (stmt_acts o x') → c ≡ joined b a → d ≡ awaits_of funcs (acts_of funcs e) → r ≡ joined d c → r ≡ awaits_of funcs (stmt_acts o whole)
  awaits_if o whole e x x' y y' at a b c d r is ex ey ra rb rc rd m =
      both_await funcs (acts_of funcs e) (stmt_acts o x ++ stmt_acts o y) d c r rd
      (both_await funcs (stmt_acts o x) (stmt_acts o y) b a c (rb ∙ ap (λ s. awaits_of funcs (stmt_acts o s)) ex) (ra ∙ ap (λ s. awaits_of funcs (stmt_acts o s)) ey) rc) m
      ∙ sym (ap (awaits_of funcs) (acts_if funcs o e x y at)) ∙ sym (ap (λ w. awaits_of funcs (stmt_acts o w)) is)

  pub awaits_loop : (o : Order) (whole : CoreStmt) (e step : CoreExpr) (body body' : CoreStmt) (at : Span) (a b r : Awaits) → whole ≡ stmt.Loop e step body at → body' ≡ body →
      a ≡ awaits_of funcs (joined_acts funcs (turn_fulls funcs o body' step)) → b ≡ awaits_of funcs (acts_of funcs e) → r ≡ joined b a → r ≡ awaits_of funcs (stmt_acts o whole)
  awaits_loop o whole e step body body' at a b r is eb ra rb m =
      both_await funcs (acts_of funcs e) (joined_acts funcs (turn_fulls funcs o body step)) b a r rb (ra ∙ ap (λ s. awaits_of funcs (joined_acts funcs (turn_fulls funcs o s step))) eb) m
      ∙ sym (ap (awaits_of funcs) (acts_loop funcs o e step body at)) ∙ sym (ap (λ w. awaits_of funcs (stmt_acts o w)) is)

  pub awaits_try : (o : Order) (whole body body' : CoreStmt) (l l' : List Handler) (at : Span) (a b r : Awaits) → whole ≡ stmt.Try body l at → body' ≡ body → l' ≡ l →
      a ≡ awaits_of funcs (handlers_lists o l') → b ≡ awaits_of funcs (stmt_acts o body') → r ≡ joined b a → r ≡ awaits_of funcs (stmt_acts o whole)
  awaits_try o whole body body' l l' at a b r is eb el ra rb m =
      both_await funcs (stmt_acts o body) (handlers_lists o l) b a r (rb ∙ ap (λ s. awaits_of funcs (stmt_acts o s)) eb) (ra ∙ ap (λ k. awaits_of funcs (handlers_lists o k)) el) m
      ∙ sym (ap (awaits_of funcs) (acts_try funcs o body l at)) ∙ sym (ap (λ w. awaits_of funcs (stmt_acts o w)) is)

  -- ---- plans and functions

  pub acts_promise : (p : PromisePlan) → joined_acts funcs (plan_fulls funcs (Some p)) ≡ inits_lists p.take_args ++ (copies_lists p.copies ++ (inits_lists p.ctor_args ++ (await_acts funcs p.initial ++ await_acts funcs p.last)))
  acts_promise p =
      let awaits = await_acts funcs p.initial ∷ await_acts funcs p.last ∷ [] in
      joined_append funcs (inits_fulls funcs p.take_args) (copies_fulls funcs p.copies ++ (inits_fulls funcs p.ctor_args ++ awaits))
      ∙ ap (λ l. inits_lists p.take_args ++ l) (joined_append funcs (copies_fulls funcs p.copies) (inits_fulls funcs p.ctor_args ++ awaits)
      ∙ ap (λ l. copies_lists p.copies ++ l) (joined_append funcs (inits_fulls funcs p.ctor_args) awaits
      ∙ ap (λ l. inits_lists p.ctor_args ++ (await_acts funcs p.initial ++ l)) (append_nil (await_acts funcs p.last))))

  pub acts_parts : (o : Order) (f : CoreFunc) → acts_in funcs o f ≡ joined_acts funcs (role_fulls funcs f.role) ++ (joined_acts funcs (plan_fulls funcs f.plan) ++ stmt_acts o f.body)
  acts_parts o f = joined_append funcs (role_fulls funcs f.role) (plan_fulls funcs f.plan ++ stmt_fulls funcs o f.body) ∙ ap (λ l. joined_acts funcs (role_fulls funcs f.role) ++ l) (joined_append funcs (plan_fulls funcs f.plan) (stmt_fulls funcs o f.body))

module _ {V : Type 0} (after : V → Act → V) (funcs : List CoreFunc) where
  pub visited_scope : (o : Order) (whole : CoreStmt) (l l' : List CoreStmt) (at : Span) (v v' : V) → whole ≡ stmt.Scope l at → l' ≡ l → v' ≡ back after v (stmts_lists funcs o l') → v' ≡ back after v (stmt_acts funcs o whole)
  visited_scope o whole l l' at v v' is e m = m ∙ ap (λ k. back after v (stmts_lists funcs o k)) e ∙ sym (ap (back after v) (acts_scope funcs o l at)) ∙ sym (ap (λ w. back after v (stmt_acts funcs o w)) is)

  pub visited_full : (o : Order) (whole : CoreStmt) (e : CoreExpr) (at : Span) (v v' : V) → whole ≡ stmt.Full e at → v' ≡ back after v (acts_of funcs e) → v' ≡ back after v (stmt_acts funcs o whole)
  visited_full o whole e at v v' is m = m ∙ sym (ap (back after v) (acts_full funcs o e at)) ∙ sym (ap (λ w. back after v (stmt_acts funcs o w)) is)

  pub visited_local : (o : Order) (whole : CoreStmt) (slot : SlotId) (i : Init) (at : Span) (v v' : V) → whole ≡ stmt.Local slot i at → v' ≡ back after v (init_acts_of funcs i) → v' ≡ back after v (stmt_acts funcs o whole)
  visited_local o whole slot i at v v' is m = m ∙ sym (ap (back after v) (acts_local funcs o slot i at)) ∙ sym (ap (λ w. back after v (stmt_acts funcs o w)) is)

  pub visited_if : (o : Order) (whole : CoreStmt) (e : CoreExpr) (x x' y y' : CoreStmt) (at : Span) (v v1 v2 v3 : V) → whole ≡ stmt.If e x y at → x' ≡ x → y' ≡ y →
      v1 ≡ back after v (stmt_acts funcs o y') → v2 ≡ back after v1 (stmt_acts funcs o x') → v3 ≡ back after v2 (acts_of funcs e) → v3 ≡ back after v (stmt_acts funcs o whole)
  visited_if o whole e x x' y y' at v v1 v2 v3 is ex ey m1 m2 m3 =
      follows after v v2 v3 (acts_of funcs e) (stmt_acts funcs o x ++ stmt_acts funcs o y)
      (follows after v v1 v2 (stmt_acts funcs o x) (stmt_acts funcs o y) (m1 ∙ ap (λ s. back after v (stmt_acts funcs o s)) ey) (m2 ∙ ap (λ s. back after v1 (stmt_acts funcs o s)) ex)) m3
      ∙ sym (ap (back after v) (acts_if funcs o e x y at)) ∙ sym (ap (λ w. back after v (stmt_acts funcs o w)) is)

  pub visited_loop : (o : Order) (whole : CoreStmt) (e step : CoreExpr) (body body' : CoreStmt) (at : Span) (v v1 v2 : V) → whole ≡ stmt.Loop e step body at → body' ≡ body →
      v1 ≡ back after v (joined_acts funcs (turn_fulls funcs o body' step)) → v2 ≡ back after v1 (acts_of funcs e) → v2 ≡ back after v (stmt_acts funcs o whole)
  visited_loop o whole e step body body' at v v1 v2 is eb m1 m2 =
      follows after v v1 v2 (acts_of funcs e) (joined_acts funcs (turn_fulls funcs o body step)) (m1 ∙ ap (λ s. back after v (joined_acts funcs (turn_fulls funcs o s step))) eb) m2
      ∙ sym (ap (back after v) (acts_loop funcs o e step body at)) ∙ sym (ap (λ w. back after v (stmt_acts funcs o w)) is)

  pub visited_try : (o : Order) (whole body body' : CoreStmt) (l l' : List Handler) (at : Span) (v v1 v2 : V) → whole ≡ stmt.Try body l at → body' ≡ body → l' ≡ l →
      v1 ≡ back after v (handlers_lists funcs o l') → v2 ≡ back after v1 (stmt_acts funcs o body') → v2 ≡ back after v (stmt_acts funcs o whole)
  visited_try o whole body body' l l' at v v1 v2 is eb el m1 m2 =
      follows after v v1 v2 (stmt_acts funcs o body) (handlers_lists funcs o l) (m1 ∙ ap (λ k. back after v (handlers_lists funcs o k)) el) (m2 ∙ ap (λ s. back after v1 (stmt_acts funcs o s)) eb)
      ∙ sym (ap (back after v) (acts_try funcs o body l at)) ∙ sym (ap (λ w. back after v (stmt_acts funcs o w)) is)

  pub visited_text : (o : Order) (body : CoreStmt) (step : CoreExpr) (v v1 v2 : V) → o ≡ order.Text → v1 ≡ back after v (stmt_acts funcs o body) → v2 ≡ back after v1 (acts_of funcs step) → v2 ≡ back after v (joined_acts funcs (turn_fulls funcs o body step))
  visited_text o body step v v1 v2 is m1 m2 =
      follows after v v1 v2 (acts_of funcs step) (stmt_acts funcs order.Text body) (m1 ∙ ap (λ p. back after v (stmt_acts funcs p body)) is) m2 ∙ sym (ap (λ p. back after v (joined_acts funcs (turn_fulls funcs p body step))) is)

  pub visited_evaluation : (o : Order) (body : CoreStmt) (step : CoreExpr) (v v1 v2 : V) → o ≡ order.Evaluation → v1 ≡ back after v (acts_of funcs step) → v2 ≡ back after v1 (stmt_acts funcs o body) → v2 ≡ back after v (joined_acts funcs (turn_fulls funcs o body step))
  visited_evaluation o body step v v1 v2 is m1 m2 =
      follows after v v1 v2 (stmt_acts funcs order.Evaluation body) (acts_of funcs step) m1 (m2 ∙ ap (λ p. back after v1 (stmt_acts funcs p body)) is)
      ∙ sym (ap (back after v) (acts_turn_evaluation funcs body step)) ∙ sym (ap (λ p. back after v (joined_acts funcs (turn_fulls funcs p body step))) is)

  pub visited_promise : (p : PromisePlan) (v v1 v2 v3 v4 v5 : V) → v1 ≡ back after v (await_acts funcs p.last) → v2 ≡ back after v1 (await_acts funcs p.initial) → v3 ≡ back after v2 (inits_lists funcs p.ctor_args) →
      v4 ≡ back after v3 (copies_lists funcs p.copies) → v5 ≡ back after v4 (inits_lists funcs p.take_args) → v5 ≡ back after v (joined_acts funcs (plan_fulls funcs (Some p)))
  visited_promise p v v1 v2 v3 v4 v5 m1 m2 m3 m4 m5 =
      let a = follows after v v1 v2 (await_acts funcs p.initial) (await_acts funcs p.last) m1 m2 in
      let b = follows after v v2 v3 (inits_lists funcs p.ctor_args) (await_acts funcs p.initial ++ await_acts funcs p.last) a m3 in
      let c = follows after v v3 v4 (copies_lists funcs p.copies) (inits_lists funcs p.ctor_args ++ (await_acts funcs p.initial ++ await_acts funcs p.last)) b m4 in
      follows after v v4 v5 (inits_lists funcs p.take_args) (copies_lists funcs p.copies ++ (inits_lists funcs p.ctor_args ++ (await_acts funcs p.initial ++ await_acts funcs p.last))) c m5
      ∙ sym (ap (back after v) (acts_promise funcs p))

  pub visited_func : (o : Order) (f : CoreFunc) (v v1 v2 v3 : V) → v1 ≡ back after v (stmt_acts funcs o f.body) → v2 ≡ back after v1 (joined_acts funcs (plan_fulls funcs f.plan)) → v3 ≡ back after v2 (joined_acts funcs (role_fulls funcs f.role)) → v3 ≡ back after v (acts_in funcs o f)
  visited_func o f v v1 v2 v3 m1 m2 m3 =
      follows after v v2 v3 (joined_acts funcs (role_fulls funcs f.role)) (joined_acts funcs (plan_fulls funcs f.plan) ++ stmt_acts funcs o f.body)
      (follows after v v1 v2 (joined_acts funcs (plan_fulls funcs f.plan)) (stmt_acts funcs o f.body) m1 m2) m3
      ∙ sym (ap (back after v) (acts_parts funcs o f))

module _ (funcs : List CoreFunc) where
  pub awaits_text : (o : Order) (body : CoreStmt) (step : CoreExpr) (a b r : Awaits) → o ≡ order.Text → a ≡ awaits_of funcs (stmt_acts funcs o body) → b ≡ awaits_of funcs (acts_of funcs step) → r ≡ joined b a → r ≡ awaits_of funcs (joined_acts funcs (turn_fulls funcs o body step))
  awaits_text o body step a b r is ra rb m =
      both_await funcs (acts_of funcs step) (stmt_acts funcs order.Text body) b a r rb (ra ∙ ap (λ p. awaits_of funcs (stmt_acts funcs p body)) is) m ∙ sym (ap (λ p. awaits_of funcs (joined_acts funcs (turn_fulls funcs p body step))) is)

  pub awaits_evaluation : (o : Order) (body : CoreStmt) (step : CoreExpr) (a b r : Awaits) → o ≡ order.Evaluation → a ≡ awaits_of funcs (acts_of funcs step) → b ≡ awaits_of funcs (stmt_acts funcs o body) → r ≡ joined b a → r ≡ awaits_of funcs (joined_acts funcs (turn_fulls funcs o body step))
  awaits_evaluation o body step a b r is ra rb m =
      both_await funcs (stmt_acts funcs order.Evaluation body) (acts_of funcs step) b a r (rb ∙ ap (λ p. awaits_of funcs (stmt_acts funcs p body)) is) ra m
      ∙ sym (ap (awaits_of funcs) (acts_turn_evaluation funcs body step)) ∙ sym (ap (λ p. awaits_of funcs (joined_acts funcs (turn_fulls funcs p body step))) is)

  pub awaits_promise : (p : PromisePlan) (last initial args copies taken r1 r2 r3 r : Awaits) → last ≡ awaits_of funcs (await_acts funcs p.last) → initial ≡ awaits_of funcs (await_acts funcs p.initial) → args ≡ awaits_of funcs (inits_lists funcs p.ctor_args) →
      copies ≡ awaits_of funcs (copies_lists funcs p.copies) → taken ≡ awaits_of funcs (inits_lists funcs p.take_args) → r1 ≡ joined initial last → r2 ≡ joined args r1 → r3 ≡ joined copies r2 → r ≡ joined taken r3 → r ≡ awaits_of funcs (joined_acts funcs (plan_fulls funcs (Some p)))
  awaits_promise p last initial args copies taken r1 r2 r3 r el ei ea ec et m1 m2 m3 m4 =
      let a = both_await funcs (await_acts funcs p.initial) (await_acts funcs p.last) initial last r1 ei el m1 in
      let b = both_await funcs (inits_lists funcs p.ctor_args) (await_acts funcs p.initial ++ await_acts funcs p.last) args r1 r2 ea a m2 in
      let c = both_await funcs (copies_lists funcs p.copies) (inits_lists funcs p.ctor_args ++ (await_acts funcs p.initial ++ await_acts funcs p.last)) copies r2 r3 ec b m3 in
      both_await funcs (inits_lists funcs p.take_args) (copies_lists funcs p.copies ++ (inits_lists funcs p.ctor_args ++ (await_acts funcs p.initial ++ await_acts funcs p.last))) taken r3 r et c m4
      ∙ sym (ap (awaits_of funcs) (acts_promise funcs p))

  pub awaits_func : (o : Order) (f : CoreFunc) (body plan role r1 r : Awaits) → body ≡ awaits_of funcs (stmt_acts funcs o f.body) → plan ≡ awaits_of funcs (joined_acts funcs (plan_fulls funcs f.plan)) → role ≡ awaits_of funcs (joined_acts funcs (role_fulls funcs f.role)) →
      r1 ≡ joined plan body → r ≡ joined role r1 → r ≡ awaits_of funcs (acts_in funcs o f)
  awaits_func o f body plan role r1 r eb ep er m1 m2 =
      both_await funcs (joined_acts funcs (role_fulls funcs f.role)) (joined_acts funcs (plan_fulls funcs f.plan) ++ stmt_acts funcs o f.body) role r1 r er
      (both_await funcs (joined_acts funcs (plan_fulls funcs f.plan)) (stmt_acts funcs o f.body) plan body r1 ep eb m1) m2
      ∙ sym (ap (awaits_of funcs) (acts_parts funcs o f))
