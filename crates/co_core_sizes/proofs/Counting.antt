-- How many statements there are in each form that holds others.
use Rattle.std.specs.Prelude.{◌≡◌, ◌<◌, ℕ, suc, ◌+◌, Option, IfSome, IfNone, List, ◌++◌, length}
use Rattle.std.specs.List.{sum_by}
use Rattle.std.proofs.Common.{refl, ap, ◌∙◌, sym, subst, arith}
use Rattle.std.proofs.lemmas.List.{length-append}
use Rattle.std.proofs.lemmas.List.Sums.{sum_by-cons}
use mathlib.Core.Former.{Count}
use Rattle.co_base.specs.declared.span.Span.{Span}
use Rattle.co_core_tree.specs.declared.exprs.CoreExpr.{CoreExpr}
use Rattle.co_core_tree.specs.declared.stmts.CoreStmt.{CoreStmt, Row_of-CoreStmt, end_of-CoreStmt, more_of-CoreStmt, items-the_row-CoreStmt, items_hidden-the_row-CoreStmt-0, Row_of-Handler, end_of-Handler, more_of-Handler, items-the_row-Handler, items_hidden-the_row-Handler-2}
use Rattle.co_core_tree.specs.declared.stmts.CoreStmt.TheBlock.{shape-the_row-CoreStmt-1, hidden-the_row-CoreStmt-1, shown-the_row-CoreStmt-1}
use Rattle.co_core_tree.specs.declared.stmts.CoreStmt.TheVariants as stmt
use Rattle.co_core_tree.specs.declared.stmts.Handler.{Handler}
use Rattle.co_core.specs.Bodies.{Standing, in_body, placed, row_placed, handlers_placed, in_branch, in_loop_body, in_scope_list, in_handler_body}
use Rattle.co_core_sizes.proofs.Options.{some_gives, none_gives}
use Rattle.co_core_sizes.specs.Statements.{statements, handler_statements}

joined : {X : Type 0} (xs ys zs ws : List X) → length xs ≡ length zs → length ys ≡ length ws → length (xs ++ ys) ≡ length (zs ++ ws)
joined xs ys zs ws e f = length-append xs ys ∙ ap (λ n. n + length ys) e ∙ ap (λ n. length zs + n) f ∙ sym (length-append zs ws)

mutual
  -- where a statement stands makes no difference
  wherever : (s t : Standing) (x : CoreStmt) → length (placed s x) ≡ length (placed t x)
  wherever s t (stmt.Scope' n stmts at) = ap suc (rows_wherever (in_scope_list s) (in_scope_list t) stmts)
  wherever s t (stmt.If' e n (more_of-CoreStmt x end_of-CoreStmt) m (more_of-CoreStmt y end_of-CoreStmt) at) =
      ap suc (joined _ _ _ _ (wherever (in_branch s) (in_branch t) x) (wherever (in_branch s) (in_branch t) y))
  wherever s t (stmt.Loop' e step n (more_of-CoreStmt body end_of-CoreStmt) at) = ap suc (wherever (in_loop_body s) (in_loop_body t) body)
  wherever s t (stmt.Try' n (more_of-CoreStmt body end_of-CoreStmt) m handlers at) =
      ap suc (joined _ _ _ _ (wherever (in_branch s) (in_branch t) body) (handlers_wherever (in_handler_body s) (in_handler_body t) handlers))
  wherever s t (stmt.Full e at) = refl
  wherever s t (stmt.Local slot i at) = refl
  wherever s t (stmt.Break at) = refl
  wherever s t (stmt.Continue at) = refl
  wherever s t (stmt.Return i at) = refl
  wherever s t (stmt.Leave at) = refl
  wherever s t (stmt.OffEnd at) = refl

  rows_wherever : {m : Count} (s t : Standing) (row : Row_of-CoreStmt m) → length (row_placed s row) ≡ length (row_placed t row)
  rows_wherever s t end_of-CoreStmt = refl
  rows_wherever s t (more_of-CoreStmt x rest) = joined _ _ _ _ (wherever s t x) (rows_wherever s t rest)

  handlers_wherever : {m : Count} (s t : Standing) (row : Row_of-Handler m) → length (handlers_placed s row) ≡ length (handlers_placed t row)
  handlers_wherever s t end_of-Handler = refl
  handlers_wherever s t (more_of-Handler of slot body rest) = joined _ _ _ _ (wherever s t body) (handlers_wherever s t rest)

rows_summed : (m : Count) (s : Standing) (row : Row_of-CoreStmt m) → length (row_placed s row) ≡ sum_by statements (items-the_row-CoreStmt m row)
rows_summed m s end_of-CoreStmt = refl
rows_summed m s (more_of-CoreStmt x rest) =
    length-append (placed s x) (row_placed s rest) ∙ ap (λ n. n + length (row_placed s rest)) (wherever s in_body x) ∙ ap (λ n. statements x + n) (rows_summed _ s rest)
    ∙ sym (sum_by-cons statements x (items-the_row-CoreStmt _ rest))

handlers_summed : (m : Count) (s : Standing) (row : Row_of-Handler m) → length (handlers_placed s row) ≡ sum_by handler_statements (items-the_row-Handler m row)
handlers_summed m s end_of-Handler = refl
handlers_summed m s (more_of-Handler of slot body rest) =
    length-append (placed s body) (handlers_placed s rest) ∙ ap (λ n. n + length (handlers_placed s rest)) (wherever s in_body body) ∙ ap (λ n. statements body + n) (handlers_summed _ s rest)
    ∙ sym (sum_by-cons handler_statements (record { of = of; slot = slot; body = body }) (items-the_row-Handler _ rest))

-- the row of a form that holds a list
abbrev stmt_row : CoreStmt → (n : Count) × Row_of-CoreStmt n
stmt_row (stmt.Scope' n stmts at) = (_, stmts)
stmt_row s = (_, end_of-CoreStmt)

abbrev handler_row : CoreStmt → (n : Count) × Row_of-Handler n
handler_row (stmt.Try' n body m handlers at) = (_, handlers)
handler_row s = (_, end_of-Handler)

statements_scope : (stmts : List CoreStmt) (at : Span) → statements (stmt.Scope stmts at) ≡ suc (sum_by statements stmts)
statements_scope stmts at =
    let row = stmt_row (stmt.Scope stmts at) in
    ap suc (rows_summed row.0 (in_scope_list in_body) row.1 ∙ ap (sum_by statements) (items_hidden-the_row-CoreStmt-0 stmts))

statements_if : (e : CoreExpr) (x y : CoreStmt) (at : Span) → statements (stmt.If e x y at) ≡ suc (statements x + statements y)
unfolding shape-the_row-CoreStmt-1 hidden-the_row-CoreStmt-1 shown-the_row-CoreStmt-1 denote.Hole.Carrier.hidden
statements_if e x y at = ap suc (length-append (placed (in_branch in_body) x) (placed (in_branch in_body) y))

statements_loop : (e step : CoreExpr) (body : CoreStmt) (at : Span) → statements (stmt.Loop e step body at) ≡ suc (statements body)
unfolding shape-the_row-CoreStmt-1 hidden-the_row-CoreStmt-1 shown-the_row-CoreStmt-1 denote.Hole.Carrier.hidden
statements_loop e step body at = ap suc (wherever (in_loop_body in_body) in_body body)

statements_try : (body : CoreStmt) (handlers : List Handler) (at : Span) → statements (stmt.Try body handlers at) ≡ suc (statements body + sum_by handler_statements handlers)
unfolding shape-the_row-CoreStmt-1 hidden-the_row-CoreStmt-1 shown-the_row-CoreStmt-1 denote.Hole.Carrier.hidden
statements_try body handlers at =
    let row = handler_row (stmt.Try body handlers at) in
    ap suc (length-append (placed (in_branch in_body) body) (handlers_placed (in_handler_body in_body) row.1)
    ∙ ap (λ n. statements body + n) (handlers_summed row.0 (in_handler_body in_body) row.1 ∙ ap (sum_by handler_statements) (items_hidden-the_row-Handler-2 handlers)))

-- the same of a statement that is seen to be of a form, and of its parts as they are read
pub scope_is : (s : CoreStmt) (stmts read : List CoreStmt) (at : Span) → s ≡ stmt.Scope stmts at → read ≡ stmts → statements s ≡ suc (sum_by statements read)
scope_is s stmts read at is same =
    ap statements is ∙ statements_scope stmts at ∙ ap (λ z. suc (sum_by statements z)) (sym same)

pub if_is : (s : CoreStmt) (e : CoreExpr) (x y read_x read_y : CoreStmt) (at : Span) → s ≡ stmt.If e x y at → read_x ≡ x → read_y ≡ y → statements s ≡ suc (statements read_x + statements read_y)
if_is s e x y read_x read_y at is same_x same_y =
    ap statements is ∙ statements_if e x y at ∙ ap (λ z. suc (statements z + statements y)) (sym same_x)
    ∙ ap (λ z. suc (statements read_x + statements z)) (sym same_y)

pub loop_is : (s : CoreStmt) (e step : CoreExpr) (body read : CoreStmt) (at : Span) → s ≡ stmt.Loop e step body at → read ≡ body → statements s ≡ suc (statements read)
loop_is s e step body read at is same =
    ap statements is ∙ statements_loop e step body at ∙ ap (λ z. suc (statements z)) (sym same)

pub try_is : (s body read : CoreStmt) (handlers read_handlers : List Handler) (at : Span) → s ≡ stmt.Try body handlers at → read ≡ body → read_handlers ≡ handlers → statements s ≡ suc (statements read + sum_by handler_statements read_handlers)
try_is s body read handlers read_handlers at is same same_handlers =
    ap statements is ∙ statements_try body handlers at ∙ ap (λ z. suc (statements z + sum_by handler_statements handlers)) (sym same)
    ∙ ap (λ z. suc (statements read + sum_by handler_statements z)) (sym same_handlers)

-- a statement more is counted
pub left_beside : (r : Option ℕ) (few more room : ℕ) → more ≡ suc few → IfSome r (λ left. left + few ≡ room) → IfSome r (λ left. left + more ≡ room + 1)
left_beside r few more room e h =
    some_gives r (λ left. left + few ≡ room) (λ left. left + more ≡ room + 1) (λ left k. omega (arith, e, k)) h

pub too_few : (r : Option ℕ) (few more room : ℕ) → more ≡ suc few → IfNone r (room < few) → IfNone r (room + 1 < more)
too_few r few more room e h = none_gives r (room < few) (room + 1 < more) (λ k. omega (arith, e, k)) h

positive : (n : ℕ) → 0 < suc n
positive n = omega arith

one_at_least : (s : CoreStmt) → 0 < statements s
one_at_least (stmt.Scope' n stmts at) = positive _
one_at_least (stmt.Full e at) = positive _
one_at_least (stmt.Local slot i at) = positive _
one_at_least (stmt.If' e n (more_of-CoreStmt x end_of-CoreStmt) m (more_of-CoreStmt y end_of-CoreStmt) at) = positive _
one_at_least (stmt.Loop' e step n (more_of-CoreStmt body end_of-CoreStmt) at) = positive _
one_at_least (stmt.Break at) = positive _
one_at_least (stmt.Continue at) = positive _
one_at_least (stmt.Return i at) = positive _
one_at_least (stmt.Leave at) = positive _
one_at_least (stmt.Try' n (more_of-CoreStmt body end_of-CoreStmt) m handlers at) = positive _
one_at_least (stmt.OffEnd at) = positive _

pub none_beside : (room : ℕ) (s : CoreStmt) → room ≡ 0 → room < statements s
none_beside room s none = subst (λ n. n < statements s) (sym none) (one_at_least s)
