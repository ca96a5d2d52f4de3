-- The statements in each form of statement, and the acts of their full-expressions.
use Rattle.std.specs.Prelude.{◌≡◌, false, Option, Some, List, [], ◌∷◌, ◌++◌, flat_map, fold}
use Rattle.std.proofs.Common.{refl, sym, ap, ◌∙◌, append_assoc, append-nil}
use Rattle.std.proofs.lemmas.List.Sums.{fold-append}
use mathlib.Core.Former.{Count}
use Rattle.co_base.specs.declared.ids.ClassId.{ClassId}
use Rattle.co_base.specs.declared.ids.SlotId.{SlotId}
use Rattle.co_base.specs.declared.span.Span.{Span}
use Rattle.co_core_tree.specs.declared.exprs.CoreExpr.{CoreExpr}
use Rattle.co_core_tree.specs.declared.exprs.Init.{Init}
use Rattle.co_core_tree.specs.declared.exprs.AwaitPlan.{AwaitPlan}
use Rattle.co_core_tree.specs.declared.stmts.CoreStmt.{CoreStmt, Row_of-CoreStmt, end_of-CoreStmt, more_of-CoreStmt, items-the_row-CoreStmt, items_hidden-the_row-CoreStmt-0, Row_of-Handler, end_of-Handler, more_of-Handler, items-the_row-Handler, items_hidden-the_row-Handler-2}
use Rattle.co_core_tree.specs.declared.stmts.CoreStmt.TheVariants as stmt
use Rattle.co_core_tree.specs.declared.stmts.CoreStmt.TheBlock.{shape-the_row-CoreStmt-1, hidden-the_row-CoreStmt-1, shown-the_row-CoreStmt-1}
use Rattle.co_core_tree.specs.declared.stmts.Handler.{Handler}
use Rattle.co_core_tree.specs.declared.units.CoreFunc.{CoreFunc}
use Rattle.co_core_tree.specs.declared.units.CopyPlan.{CopyPlan}
use Rattle.co_core_tree.specs.declared.units.FuncRole.{FuncRole}
use Rattle.co_core_tree.specs.declared.units.FuncRole.TheVariants as role
use Rattle.co_core_tree.specs.declared.units.PromisePlan.{PromisePlan}
use Rattle.co_core_tree.specs.Acts.{Act, acts}
use Rattle.co_core_tree.specs.Slots.{acts_of, class_params, init_acts_of}
use Rattle.co_core.specs.Bodies.{Placed, Standing, await_acts, copies_fulls, func_acts, handlers_placed, in_branch, in_handler_body, in_loop_body, in_body, in_scope_list, inits_fulls, joined_acts, own_fulls, placed, placed_fulls, plan_fulls, role_fulls, row_placed}
use Rattle.co_core_walks.specs.Lists.{inits_acts, stmt_acts}

-- the row of a form that holds a list
abbrev stmt_row : CoreStmt → (n : Count) × Row_of-CoreStmt n
stmt_row (stmt.Scope' n stmts at) = (_, stmts)
stmt_row s = (_, end_of-CoreStmt)

abbrev handler_row : CoreStmt → (n : Count) × Row_of-Handler n
handler_row (stmt.Try' n body m handlers at) = (_, handlers)
handler_row s = (_, end_of-Handler)

abbrev here : Standing → CoreStmt → Placed
here stands s = record { stands = stands; stmt = s }

-- ---- the statements of each form

rows_placed : (m : Count) (row : Row_of-CoreStmt m) (stands : Standing) → row_placed stands row ≡ flat_map (placed stands) (items-the_row-CoreStmt m row)
rows_placed m end_of-CoreStmt stands = refl
rows_placed m (more_of-CoreStmt s rest) stands = ap (λ l. placed stands s ++ l) (rows_placed _ rest stands)

rows_handlers : (m : Count) (row : Row_of-Handler m) (stands : Standing) → handlers_placed stands row ≡ flat_map (λ handler. placed stands handler.body) (items-the_row-Handler m row)
rows_handlers m end_of-Handler stands = refl
rows_handlers m (more_of-Handler of slot body rest) stands = ap (λ l. placed stands body ++ l) (rows_handlers _ rest stands)

module _ (stands : Standing) where
  placed_scope : (whole : CoreStmt) (stmts stmts' : List CoreStmt) (at : Span) → whole ≡ stmt.Scope stmts at → stmts' ≡ stmts → placed stands whole ≡ here stands whole ∷ flat_map (placed (in_scope_list stands)) stmts'
  placed_scope whole stmts stmts' at is e =
      let row = stmt_row (stmt.Scope stmts at) in
      let r = rows_placed row.0 row.1 (in_scope_list stands) ∙ ap (flat_map (placed (in_scope_list stands))) (items_hidden-the_row-CoreStmt-0 stmts ∙ sym e) in
      ap (placed stands) is ∙ ap (λ w. here stands w ∷ row_placed (in_scope_list stands) row.1) (sym is) ∙ ap (λ l. here stands whole ∷ l) r

  open_if : (e : CoreExpr) (x y : CoreStmt) (at : Span) → placed stands (stmt.If e x y at) ≡ here stands (stmt.If e x y at) ∷ (placed (in_branch stands) x ++ placed (in_branch stands) y)
  unfolding shape-the_row-CoreStmt-1 hidden-the_row-CoreStmt-1 shown-the_row-CoreStmt-1 denote.Hole.Carrier.hidden
  open_if e x y at = refl

  placed_if : (whole : CoreStmt) (e : CoreExpr) (x y x' y' : CoreStmt) (at : Span) → whole ≡ stmt.If e x y at → x' ≡ x → y' ≡ y → placed stands whole ≡ here stands whole ∷ (placed (in_branch stands) x' ++ placed (in_branch stands) y')
  placed_if whole e x y x' y' at is ex ey = let h = open_if e x y at in cc

  open_loop : (e step : CoreExpr) (x : CoreStmt) (at : Span) → placed stands (stmt.Loop e step x at) ≡ here stands (stmt.Loop e step x at) ∷ placed (in_loop_body stands) x
  unfolding shape-the_row-CoreStmt-1 hidden-the_row-CoreStmt-1 shown-the_row-CoreStmt-1 denote.Hole.Carrier.hidden
  open_loop e step x at = refl

  placed_loop : (whole : CoreStmt) (e step : CoreExpr) (x x' : CoreStmt) (at : Span) → whole ≡ stmt.Loop e step x at → x' ≡ x → placed stands whole ≡ here stands whole ∷ placed (in_loop_body stands) x'
  placed_loop whole e step x x' at is ex = let h = open_loop e step x at in cc

  open_try : (x : CoreStmt) (handlers : List Handler) (at : Span) → placed stands (stmt.Try x handlers at) ≡ here stands (stmt.Try x handlers at) ∷ (placed (in_branch stands) x ++ handlers_placed (in_handler_body stands) (handler_row (stmt.Try x handlers at)).1)
  unfolding shape-the_row-CoreStmt-1 hidden-the_row-CoreStmt-1 shown-the_row-CoreStmt-1 denote.Hole.Carrier.hidden
  open_try x handlers at = refl

  placed_try : (whole x x' : CoreStmt) (handlers handlers' : List Handler) (at : Span) → whole ≡ stmt.Try x handlers at → x' ≡ x → handlers' ≡ handlers → placed stands whole ≡ here stands whole ∷ (placed (in_branch stands) x' ++ flat_map (λ handler. placed (in_handler_body stands) handler.body) handlers')
  placed_try whole x x' handlers handlers' at is ex e =
      let row = handler_row (stmt.Try x handlers at) in
      let inner = in_handler_body stands in
      let r = rows_handlers row.0 row.1 inner ∙ ap (flat_map (λ handler. placed inner handler.body)) (items_hidden-the_row-Handler-2 handlers ∙ sym e) in
      let h = open_try x handlers at in
      cc

-- ---- a walk over them

stmts_one : {S : Type 0} (after : S → Placed → S) (s s1 s2 : S) (p : Placed) (xs whole : List Placed) → whole ≡ p ∷ xs → s1 ≡ after s p → s2 ≡ fold after s1 xs → s2 ≡ fold after s whole
stmts_one after s s1 s2 p xs whole is h k = let e : fold after s (p ∷ xs) ≡ fold after (after s p) xs = refl in cc

stmts_two : {S : Type 0} (after : S → Placed → S) (s s1 s2 s3 : S) (p : Placed) (xs ys whole : List Placed) → whole ≡ p ∷ (xs ++ ys) → s1 ≡ after s p → s2 ≡ fold after s1 xs → s3 ≡ fold after s2 ys → s3 ≡ fold after s whole
stmts_two after s s1 s2 s3 p xs ys whole is h k l =
    let e : fold after s (p ∷ (xs ++ ys)) ≡ fold after (after s p) (xs ++ ys) = refl in
    let a = fold-append after s1 xs ys in
    cc

module _ {S : Type 0} (after : S → Placed → S) (stands : Standing) (s s1 s2 : S) (whole : CoreStmt) (p q : Standing) (first : s1 ≡ after s (here stands whole)) where
  pub walked_scope : (stmts stmts' : List CoreStmt) (at : Span) → whole ≡ stmt.Scope stmts at → stmts' ≡ stmts → p ≡ in_scope_list stands → s2 ≡ fold after s1 (flat_map (placed p) stmts') → s2 ≡ fold after s (placed stands whole)
  walked_scope stmts stmts' at is e i h = stmts_one after s s1 s2 (here stands whole) _ _ (placed_scope stands whole stmts stmts' at is e) first (h ∙ ap (λ r. fold after s1 (flat_map (placed r) stmts')) i)

  pub walked_if : (s3 : S) (e : CoreExpr) (x y x' y' : CoreStmt) (at : Span) → whole ≡ stmt.If e x y at → x' ≡ x → y' ≡ y → p ≡ in_branch stands → q ≡ in_branch stands → s2 ≡ fold after s1 (placed p x') → s3 ≡ fold after s2 (placed q y') → s3 ≡ fold after s (placed stands whole)
  walked_if s3 e x y x' y' at is ex ey i j h k =
      stmts_two after s s1 s2 s3 (here stands whole) (placed (in_branch stands) x') (placed (in_branch stands) y') _ (placed_if stands whole e x y x' y' at is ex ey) first
      (h ∙ ap (λ r. fold after s1 (placed r x')) i) (k ∙ ap (λ r. fold after s2 (placed r y')) j)

  pub walked_loop : (e step : CoreExpr) (x x' : CoreStmt) (at : Span) → whole ≡ stmt.Loop e step x at → x' ≡ x → p ≡ in_loop_body stands → s2 ≡ fold after s1 (placed p x') → s2 ≡ fold after s (placed stands whole)
  walked_loop e step x x' at is ex i h = stmts_one after s s1 s2 (here stands whole) (placed (in_loop_body stands) x') _ (placed_loop stands whole e step x x' at is ex) first (h ∙ ap (λ r. fold after s1 (placed r x')) i)

  pub walked_try : (s3 : S) (x x' : CoreStmt) (handlers handlers' : List Handler) (at : Span) → whole ≡ stmt.Try x handlers at → x' ≡ x → handlers' ≡ handlers → p ≡ in_branch stands → q ≡ in_handler_body stands → s2 ≡ fold after s1 (placed p x') → s3 ≡ fold after s2 (flat_map (λ handler. placed q handler.body) handlers') → s3 ≡ fold after s (placed stands whole)
  walked_try s3 x x' handlers handlers' at is ex e i j h k =
      stmts_two after s s1 s2 s3 (here stands whole) (placed (in_branch stands) x') (flat_map (λ handler. placed (in_handler_body stands) handler.body) handlers') _ (placed_try stands whole x x' handlers handlers' at is ex e) first
      (h ∙ ap (λ r. fold after s1 (placed r x')) i) (k ∙ ap (λ r. fold after s2 (flat_map (λ handler. placed r handler.body) handlers')) j)

pub walked_body : {S : Type 0} (after : S → Placed → S) (s s1 : S) (p : Standing) (x : CoreStmt) → p ≡ in_body → s1 ≡ fold after s (placed p x) → s1 ≡ fold after s (placed in_body x)
walked_body after s s1 p x i h = h ∙ ap (λ r. fold after s (placed r x)) i

-- ---- the acts of their full-expressions

module _ (funcs : List CoreFunc) where
  pub joined-append : (xs ys : List (List Act)) → joined_acts funcs (xs ++ ys) ≡ joined_acts funcs xs ++ joined_acts funcs ys
  joined-append [] ys = refl
  joined-append (acts ∷ xs) ys = ap (λ l. acts ++ l) (joined-append xs ys) ∙ sym (append_assoc acts (joined_acts funcs xs) (joined_acts funcs ys))

  fulls-append : (xs ys : List Placed) → placed_fulls funcs (xs ++ ys) ≡ placed_fulls funcs xs ++ placed_fulls funcs ys
  fulls-append [] ys = refl
  fulls-append (p ∷ xs) ys = ap (λ l. own_fulls funcs p.stmt ++ l) (fulls-append xs ys) ∙ sym (append_assoc (own_fulls funcs p.stmt) (placed_fulls funcs xs) (placed_fulls funcs ys))

  abbrev placed_acts : List Placed → List Act
  placed_acts ps = joined_acts funcs (placed_fulls funcs ps)

  acts-append : (xs ys : List Placed) → placed_acts (xs ++ ys) ≡ placed_acts xs ++ placed_acts ys
  acts-append xs ys = ap (joined_acts funcs) (fulls-append xs ys) ∙ joined-append (placed_fulls funcs xs) (placed_fulls funcs ys)

  acts-first : (p : Placed) (xs : List Placed) → placed_acts (p ∷ xs) ≡ joined_acts funcs (own_fulls funcs p.stmt) ++ placed_acts xs
  acts-first p xs = joined-append (own_fulls funcs p.stmt) (placed_fulls funcs xs)

  acts_flat : {X : Type 0} (f : X → List Placed) (xs : List X) → placed_acts (flat_map f xs) ≡ flat_map (λ x. placed_acts (f x)) xs
  acts_flat f [] = refl
  acts_flat f (x ∷ xs) = acts-append (f x) (flat_map f xs) ∙ ap (λ l. placed_acts (f x) ++ l) (acts_flat f xs)

  fulls_one : {S : Type 0} (after : S → Act → S) (s s1 s2 : S) (p : Placed) (xs whole : List Placed) → whole ≡ p ∷ xs → s1 ≡ fold after s (joined_acts funcs (own_fulls funcs p.stmt)) → s2 ≡ fold after s1 (placed_acts xs) → s2 ≡ fold after s (placed_acts whole)
  fulls_one after s s1 s2 p xs whole is h k =
      let e = ap placed_acts is ∙ acts-first p xs in
      let a = fold-append after s (joined_acts funcs (own_fulls funcs p.stmt)) (placed_acts xs) in
      cc

  fulls_two : {S : Type 0} (after : S → Act → S) (s s1 s2 s3 : S) (p : Placed) (xs ys whole : List Placed) → whole ≡ p ∷ (xs ++ ys) → s1 ≡ fold after s (joined_acts funcs (own_fulls funcs p.stmt)) → s2 ≡ fold after s1 (placed_acts xs) → s3 ≡ fold after s2 (placed_acts ys) → s3 ≡ fold after s (placed_acts whole)
  fulls_two after s s1 s2 s3 p xs ys whole is h k l =
      let e = acts-append xs ys in
      let a = fold-append after s1 (placed_acts xs) (placed_acts ys) in
      let k : s3 ≡ fold after s1 (placed_acts (xs ++ ys)) = cc in
      fulls_one after s s1 s3 p (xs ++ ys) whole is h k

  fulls_list : {S X : Type 0} (after : S → Act → S) (s s1 s2 : S) (p : Placed) (f : X → List Placed) (xs : List X) (whole : List Placed) → whole ≡ p ∷ flat_map f xs → s1 ≡ fold after s (joined_acts funcs (own_fulls funcs p.stmt)) → s2 ≡ fold after s1 (flat_map (λ x. placed_acts (f x)) xs) → s2 ≡ fold after s (placed_acts whole)
  fulls_list after s s1 s2 p f xs whole is h k = fulls_one after s s1 s2 p (flat_map f xs) whole is h (k ∙ ap (fold after s1) (sym (acts_flat f xs)))

  fulls_try : {S X : Type 0} (after : S → Act → S) (s s1 s2 s3 : S) (p : Placed) (ps : List Placed) (f : X → List Placed) (xs : List X) (whole : List Placed) → whole ≡ p ∷ (ps ++ flat_map f xs) → s1 ≡ fold after s (joined_acts funcs (own_fulls funcs p.stmt)) → s2 ≡ fold after s1 (placed_acts ps) → s3 ≡ fold after s2 (flat_map (λ x. placed_acts (f x)) xs) → s3 ≡ fold after s (placed_acts whole)
  fulls_try after s s1 s2 s3 p ps f xs whole is h k l = fulls_two after s s1 s2 s3 p ps (flat_map f xs) whole is h k (l ∙ ap (fold after s2) (sym (acts_flat f xs)))

  module _ {S : Type 0} (after : S → Act → S) (stands : Standing) (s s1 s2 : S) (whole : CoreStmt) (first : s1 ≡ fold after s (joined_acts funcs (own_fulls funcs whole))) where
    pub acted_scope : (stmts stmts' : List CoreStmt) (at : Span) → whole ≡ stmt.Scope stmts at → stmts' ≡ stmts → s2 ≡ fold after s1 (flat_map (stmt_acts funcs (in_scope_list stands)) stmts') → s2 ≡ fold after s (stmt_acts funcs stands whole)
    acted_scope stmts stmts' at is e h = fulls_list after s s1 s2 (here stands whole) (placed (in_scope_list stands)) stmts' _ (placed_scope stands whole stmts stmts' at is e) first h

    pub acted_if : (s3 : S) (e : CoreExpr) (x y x' y' : CoreStmt) (at : Span) → whole ≡ stmt.If e x y at → x' ≡ x → y' ≡ y → s2 ≡ fold after s1 (stmt_acts funcs (in_branch stands) x') → s3 ≡ fold after s2 (stmt_acts funcs (in_branch stands) y') → s3 ≡ fold after s (stmt_acts funcs stands whole)
    acted_if s3 e x y x' y' at is ex ey h k =
        fulls_two after s s1 s2 s3 (here stands whole) (placed (in_branch stands) x') (placed (in_branch stands) y') _ (placed_if stands whole e x y x' y' at is ex ey) first h k

    pub acted_loop : (e step : CoreExpr) (x x' : CoreStmt) (at : Span) → whole ≡ stmt.Loop e step x at → x' ≡ x → s2 ≡ fold after s1 (stmt_acts funcs (in_loop_body stands) x') → s2 ≡ fold after s (stmt_acts funcs stands whole)
    acted_loop e step x x' at is ex h = fulls_one after s s1 s2 (here stands whole) (placed (in_loop_body stands) x') _ (placed_loop stands whole e step x x' at is ex) first h

    pub acted_try : (s3 : S) (x x' : CoreStmt) (handlers handlers' : List Handler) (at : Span) → whole ≡ stmt.Try x handlers at → x' ≡ x → handlers' ≡ handlers → s2 ≡ fold after s1 (stmt_acts funcs (in_branch stands) x') → s3 ≡ fold after s2 (flat_map (λ handler. stmt_acts funcs (in_handler_body stands) handler.body) handlers') → s3 ≡ fold after s (stmt_acts funcs stands whole)
    acted_try s3 x x' handlers handlers' at is ex e h k =
        fulls_try after s s1 s2 s3 (here stands whole) (placed (in_branch stands) x') (λ handler. placed (in_handler_body stands) handler.body) handlers' _ (placed_try stands whole x x' handlers handlers' at is ex e) first h k

    -- a statement in which no other stands
    acted_alone : placed stands whole ≡ here stands whole ∷ [] → s1 ≡ fold after s (stmt_acts funcs stands whole)
    acted_alone is = fulls_one after s s1 s1 (here stands whole) [] (placed stands whole) is first refl

    pub acted_full : (e : CoreExpr) (at : Span) → whole ≡ stmt.Full e at → s1 ≡ fold after s (stmt_acts funcs stands whole)
    acted_full e at is = acted_alone (ap (placed stands) is ∙ ap (λ w. here stands w ∷ []) (sym is))

    pub acted_local : (slot : SlotId) (i : Init) (at : Span) → whole ≡ stmt.Local slot i at → s1 ≡ fold after s (stmt_acts funcs stands whole)
    acted_local slot i at is = acted_alone (ap (placed stands) is ∙ ap (λ w. here stands w ∷ []) (sym is))

    pub acted_break : (at : Span) → whole ≡ stmt.Break at → s1 ≡ fold after s (stmt_acts funcs stands whole)
    acted_break at is = acted_alone (ap (placed stands) is ∙ ap (λ w. here stands w ∷ []) (sym is))

    pub acted_continue : (at : Span) → whole ≡ stmt.Continue at → s1 ≡ fold after s (stmt_acts funcs stands whole)
    acted_continue at is = acted_alone (ap (placed stands) is ∙ ap (λ w. here stands w ∷ []) (sym is))

    pub acted_return : (i : Option Init) (at : Span) → whole ≡ stmt.Return i at → s1 ≡ fold after s (stmt_acts funcs stands whole)
    acted_return i at is = acted_alone (ap (placed stands) is ∙ ap (λ w. here stands w ∷ []) (sym is))

    pub acted_leave : (at : Span) → whole ≡ stmt.Leave at → s1 ≡ fold after s (stmt_acts funcs stands whole)
    acted_leave at is = acted_alone (ap (placed stands) is ∙ ap (λ w. here stands w ∷ []) (sym is))

    pub acted_off_end : (at : Span) → whole ≡ stmt.OffEnd at → s1 ≡ fold after s (stmt_acts funcs stands whole)
    acted_off_end at is = acted_alone (ap (placed stands) is ∙ ap (λ w. here stands w ∷ []) (sym is))

  -- ---- the full-expressions around a body

  pub joined_one : (xs : List Act) → joined_acts funcs (xs ∷ []) ≡ xs
  joined_one xs = append-nil xs

  pub joined_two : (xs ys : List Act) → joined_acts funcs (xs ∷ ys ∷ []) ≡ xs ++ ys
  joined_two xs ys = ap (λ l. xs ++ l) (append-nil ys)

  pub joined_inits : (is : List Init) → joined_acts funcs (inits_fulls funcs is) ≡ inits_acts (class_params funcs) [] false is
  joined_inits [] = refl
  joined_inits (i ∷ is) = ap (λ l. init_acts_of funcs i ++ l) (joined_inits is)

  pub joined_copies : (copies : List CopyPlan) → joined_acts funcs (copies_fulls funcs copies) ≡ flat_map (λ copy. init_acts_of funcs copy.init) copies
  joined_copies [] = refl
  joined_copies (copy ∷ copies) = ap (λ l. init_acts_of funcs copy.init ++ l) (joined_copies copies)

  module _ {S : Type 0} (after : S → Act → S) where
    pub after_inits : (s s1 : S) (is : List Init) → s1 ≡ fold after s (inits_acts (class_params funcs) [] false is) → s1 ≡ fold after s (joined_acts funcs (inits_fulls funcs is))
    after_inits s s1 is h = h ∙ ap (fold after s) (sym (joined_inits is))

    pub after_joined : (s s1 s2 : S) (xs ys : List (List Act)) → s1 ≡ fold after s (joined_acts funcs xs) → s2 ≡ fold after s1 (joined_acts funcs ys) → s2 ≡ fold after s (joined_acts funcs (xs ++ ys))
    after_joined s s1 s2 xs ys h k =
        let e = joined-append xs ys in
        let a = fold-append after s (joined_acts funcs xs) (joined_acts funcs ys) in
        cc

    after_awaits : (s s1 s2 : S) (x y : AwaitPlan) → s1 ≡ fold after s (await_acts funcs x) → s2 ≡ fold after s1 (await_acts funcs y) → s2 ≡ fold after s (joined_acts funcs (await_acts funcs x ∷ await_acts funcs y ∷ []))
    after_awaits s s1 s2 x y h k =
        let e = joined_two (await_acts funcs x) (await_acts funcs y) in
        let a = fold-append after s (await_acts funcs x) (await_acts funcs y) in
        cc

    pub after_plan : (s s1 s2 s3 s4 s5 : S) (plan : PromisePlan) → s1 ≡ fold after s (inits_acts (class_params funcs) [] false plan.take_args) → s2 ≡ fold after s1 (joined_acts funcs (copies_fulls funcs plan.copies)) → s3 ≡ fold after s2 (inits_acts (class_params funcs) [] false plan.ctor_args) → s4 ≡ fold after s3 (await_acts funcs plan.initial) → s5 ≡ fold after s4 (await_acts funcs plan.last) → s5 ≡ fold after s (joined_acts funcs (plan_fulls funcs (Some plan)))
    after_plan s s1 s2 s3 s4 s5 plan h1 h2 h3 h4 h5 =
        after_joined s s1 s5 (inits_fulls funcs plan.take_args) _ (after_inits s s1 plan.take_args h1)
        (after_joined s1 s2 s5 (copies_fulls funcs plan.copies) _ h2
        (after_joined s2 s3 s5 (inits_fulls funcs plan.ctor_args) _ (after_inits s2 s3 plan.ctor_args h3) (after_awaits s3 s4 s5 plan.initial plan.last h4 h5)))

    pub after_func : (s s1 s2 s3 : S) (func : CoreFunc) → s1 ≡ fold after s (joined_acts funcs (role_fulls funcs func.role)) → s2 ≡ fold after s1 (joined_acts funcs (plan_fulls funcs func.plan)) → s3 ≡ fold after s2 (stmt_acts funcs in_body func.body) → s3 ≡ fold after s (func_acts funcs func)
    after_func s s1 s2 s3 func h1 h2 h3 = after_joined s s1 s3 (role_fulls funcs func.role) _ h1 (after_joined s1 s2 s3 (plan_fulls funcs func.plan) _ h2 h3)

    pub after_some_plan : (s s1 s2 s3 s4 s5 : S) (whole : Option PromisePlan) (plan : PromisePlan) (takes ctors : List Init) (copies : List CopyPlan) → whole ≡ Some plan → takes ≡ plan.take_args → copies ≡ plan.copies → ctors ≡ plan.ctor_args → s1 ≡ fold after s (inits_acts (class_params funcs) [] false takes) → s2 ≡ fold after s1 (joined_acts funcs (copies_fulls funcs copies)) → s3 ≡ fold after s2 (inits_acts (class_params funcs) [] false ctors) → s4 ≡ fold after s3 (await_acts funcs plan.initial) → s5 ≡ fold after s4 (await_acts funcs plan.last) → s5 ≡ fold after s (joined_acts funcs (plan_fulls funcs whole))
    after_some_plan s s1 s2 s3 s4 s5 whole plan takes ctors copies is e1 e2 e3 h1 h2 h3 h4 h5 =
        after_plan s s1 s2 s3 s4 s5 plan (h1 ∙ ap (λ l. fold after s (inits_acts (class_params funcs) [] false l)) e1) (h2 ∙ ap (λ l. fold after s1 (joined_acts funcs (copies_fulls funcs l))) e2)
        (h3 ∙ ap (λ l. fold after s2 (inits_acts (class_params funcs) [] false l)) e3) h4 h5
        ∙ ap (λ p. fold after s (joined_acts funcs (plan_fulls funcs p))) (sym is)

    pub after_ctor : (s s1 : S) (whole : FuncRole) (class : ClassId) (members members' : List Init) → whole ≡ role.Ctor class members → members' ≡ members → s1 ≡ fold after s (inits_acts (class_params funcs) [] false members') → s1 ≡ fold after s (joined_acts funcs (role_fulls funcs whole))
    after_ctor s s1 whole class members members' is e h =
        after_inits s s1 members (h ∙ ap (λ l. fold after s (inits_acts (class_params funcs) [] false l)) e) ∙ ap (λ r. fold after s (joined_acts funcs (role_fulls funcs r))) (sym is)

    own_one : (s s1 : S) (whole : CoreStmt) (xs : List Act) → own_fulls funcs whole ≡ xs ∷ [] → s1 ≡ fold after s xs → s1 ≡ fold after s (joined_acts funcs (own_fulls funcs whole))
    own_one s s1 whole xs is h = h ∙ ap (fold after s) (sym (ap (joined_acts funcs) is ∙ joined_one xs))

    pub own_full : (s s1 : S) (whole : CoreStmt) (e : CoreExpr) (at : Span) → whole ≡ stmt.Full e at → s1 ≡ fold after s (acts_of funcs e) → s1 ≡ fold after s (joined_acts funcs (own_fulls funcs whole))
    own_full s s1 whole e at is h = own_one s s1 whole (acts_of funcs e) (ap (own_fulls funcs) is) h

    pub own_local : (s s1 : S) (whole : CoreStmt) (slot : SlotId) (i : Init) (at : Span) → whole ≡ stmt.Local slot i at → s1 ≡ fold after s (init_acts_of funcs i) → s1 ≡ fold after s (joined_acts funcs (own_fulls funcs whole))
    own_local s s1 whole slot i at is h = own_one s s1 whole (init_acts_of funcs i) (ap (own_fulls funcs) is) h

    pub own_if : (s s1 : S) (whole : CoreStmt) (e : CoreExpr) (x y : CoreStmt) (at : Span) → whole ≡ stmt.If e x y at → s1 ≡ fold after s (acts_of funcs e) → s1 ≡ fold after s (joined_acts funcs (own_fulls funcs whole))
    own_if s s1 whole e x y at is h = own_one s s1 whole (acts_of funcs e) (ap (own_fulls funcs) is) h

    pub own_return : (s s1 : S) (result : Option Init) (i : Init) (at : Span) → result ≡ Some i → s1 ≡ fold after s (init_acts_of funcs i) → s1 ≡ fold after s (joined_acts funcs (own_fulls funcs (stmt.Return result at)))
    own_return s s1 result i at is h = own_one s s1 (stmt.Return result at) (init_acts_of funcs i) (ap (λ r. own_fulls funcs (stmt.Return r at)) is) h

    pub own_result : (s s1 : S) (whole : CoreStmt) (result : Option Init) (at : Span) → whole ≡ stmt.Return result at → s1 ≡ fold after s (joined_acts funcs (own_fulls funcs (stmt.Return result at))) → s1 ≡ fold after s (joined_acts funcs (own_fulls funcs whole))
    own_result s s1 whole result at is h = h ∙ ap (λ w. fold after s (joined_acts funcs (own_fulls funcs w))) (sym is)

    pub own_loop : (s s1 s2 : S) (whole : CoreStmt) (e step : CoreExpr) (x : CoreStmt) (at : Span) → whole ≡ stmt.Loop e step x at → s1 ≡ fold after s (acts_of funcs e) → s2 ≡ fold after s1 (acts_of funcs step) → s2 ≡ fold after s (joined_acts funcs (own_fulls funcs whole))
    own_loop s s1 s2 whole e step x at is h k =
        let o : own_fulls funcs whole ≡ acts_of funcs e ∷ acts_of funcs step ∷ [] = ap (own_fulls funcs) is in
        let j = joined_two (acts_of funcs e) (acts_of funcs step) in
        let a = fold-append after s (acts_of funcs e) (acts_of funcs step) in
        cc
