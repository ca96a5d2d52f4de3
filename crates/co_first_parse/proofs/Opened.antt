-- What a `while` over a list of statements keeps, by the list.
use Rattle.std.proofs.Common.{◌≡◌, ℕ, ◌+◌, ◌≤◌, List, [], ◌∷◌, refl, sym, ap, subst, ◌∙◌}
use mathlib.Core.Former.{Count}
use Rattle.co_first_tree.specs.declared.tree.Sum.{Sum}
use Rattle.co_first_tree.specs.declared.tree.Stmt.{Stmt, While, While', Row_of-Stmt, end_of-Stmt, more_of-Stmt, items-the_row-Stmt, items_hidden-the_row-Stmt-0}
use Rattle.co_first_tree.specs.Form.{Scope, SumStands, StmtStands, AllStand, scope_after, scope_after_all, ListStands, scope_after_list}

abbrev row_of : Stmt → (n : Count) × Row_of-Stmt n
row_of (While' value shape row) = (_, row)
row_of _ = (_, end_of-Stmt)

rows_stand : (m : Count) (row : Row_of-Stmt m) (scope : Scope) (level : ℕ) → AllStand scope level row → ListStands scope level (items-the_row-Stmt m row)
rows_stand m end_of-Stmt scope level h = tt
rows_stand m (more_of-Stmt stmt rest) scope level h = (h.0, rows_stand _ rest (scope_after scope stmt) level h.1)

rows_from : (m : Count) (row : Row_of-Stmt m) (scope : Scope) (level : ℕ) → ListStands scope level (items-the_row-Stmt m row) → AllStand scope level row
rows_from m end_of-Stmt scope level h = tt
rows_from m (more_of-Stmt stmt rest) scope level h = (h.0, rows_from _ rest (scope_after scope stmt) level h.1)

rows_after : (m : Count) (row : Row_of-Stmt m) (scope : Scope) → scope_after_all scope row ≡ scope_after_list scope (items-the_row-Stmt m row)
rows_after m end_of-Stmt scope = refl
rows_after m (more_of-Stmt stmt rest) scope = rows_after _ rest (scope_after scope stmt)

pub while_stands : (scope : Scope) (level : ℕ) (value : Sum) (body : List Stmt) → StmtStands scope level (While value body) → SumStands scope value × (level + 1 ≤ 32) × ListStands scope (level + 1) body
while_stands scope level value body h =
    let row = row_of (While value body) in
    (h.0, h.1, subst (λ xs. ListStands scope (level + 1) xs) (items_hidden-the_row-Stmt-0 body) (rows_stand row.0 row.1 scope (level + 1) h.2))

pub while_from : (scope : Scope) (level : ℕ) (value : Sum) (body : List Stmt) → SumStands scope value → level + 1 ≤ 32 → ListStands scope (level + 1) body → StmtStands scope level (While value body)
while_from scope level value body a b c =
    let row = row_of (While value body) in
    (a, b, rows_from row.0 row.1 scope (level + 1) (subst (λ xs. ListStands scope (level + 1) xs) (sym (items_hidden-the_row-Stmt-0 body)) c))

pub while_after : (scope : Scope) (value : Sum) (body : List Stmt) → scope_after scope (While value body) ≡ record { declared = (scope_after_list scope body).declared; visible = scope.visible }
while_after scope value body =
    let row = row_of (While value body) in
    ap (λ s. record { declared = s.declared; visible = scope.visible }) (rows_after row.0 row.1 scope ∙ ap (scope_after_list scope) (items_hidden-the_row-Stmt-0 body))
