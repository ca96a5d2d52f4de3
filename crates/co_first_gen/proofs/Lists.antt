-- The code of a list grows with the list.
use Rattle.std.proofs.Common.{◌≡◌, ℕ, ◌+◌, ◌<◌, List, [], ◌∷◌, ◌++◌, length, get_or, take, refl, sym, ap, ◌∙◌, arith, append_assoc, length-append}
use Rattle.std.proofs.lemmas.List.{take_more}
use mathlib.Core.Former.{Count}
use Rattle.co_base.specs.declared.span.Span.{Span}
use Rattle.co_first_exec.specs.declared.instr.Placed.{Placed}
use Rattle.co_first_tree.specs.declared.tree.Stmt.{Stmt, While, While', Row_of-Stmt, end_of-Stmt, more_of-Stmt, items-the_row-Stmt, items_hidden-the_row-Stmt-0}
use Rattle.co_first_tree.specs.declared.tree.Sum.{Sum}
use Rattle.co_first_tree.specs.declared.tree.Term.{Term}
use Rattle.co_first_gen.specs.Code.{term_code, terms_code, sum_code, while_code, stmt_code, row_code, list_code}

append-nil : {A : Type 0} → (xs : List A) → xs ++ [] ≡ xs
append-nil [] = refl
append-nil (x ∷ xs) = ap (λ l. x ∷ l) (append-nil xs)

terms_last : (span : Span) (terms : List Term) (term : Term) → terms_code span (terms ++ term ∷ []) ≡ terms_code span terms ++ term_code span term
terms_last span [] term = append-nil (term_code span term)
terms_last span (t ∷ terms) term =
    ap (λ l. term_code span t ++ l) (terms_last span terms term) ∙ sym (append_assoc (term_code span t) (terms_code span terms) (term_code span term))

-- one more term of a list in a loop
pub terms_more : (span : Span) (terms : List Term) (i : ℕ) (d : Term) (base c c' : List Placed) → i < length terms → c ≡ base ++ terms_code span (take i terms) → c' ≡ c ++ term_code span (get_or terms i d) → c' ≡ base ++ terms_code span (take (i + 1) terms)
terms_more span terms i d base c c' lt e e' =
    e'
    ∙ ap (λ l. l ++ term_code span (get_or terms i d)) e
    ∙ append_assoc base (terms_code span (take i terms)) (term_code span (get_or terms i d))
    ∙ ap (λ l. base ++ l) (sym (terms_last span (take i terms) (get_or terms i d)) ∙ ap (terms_code span) (sym (take_more terms i d lt)))

list_last : (place : ℕ) (stmts : List Stmt) (stmt : Stmt) → list_code place (stmts ++ stmt ∷ []) ≡ list_code place stmts ++ stmt_code (place + length (list_code place stmts)) stmt
list_last place [] stmt =
    let here : place ≡ place + 0 = omega arith in
    append-nil (stmt_code place stmt) ∙ ap (λ n. stmt_code n stmt) here
list_last place (s ∷ stmts) stmt =
    let first = stmt_code place s in
    let next = place + length first in
    let rest = list_code next stmts in
    let there : next + length rest ≡ place + length (first ++ rest) = omega (arith, length-append first rest) in
    ap (λ l. first ++ l) (list_last next stmts stmt)
    ∙ sym (append_assoc first rest (stmt_code (next + length rest) stmt))
    ∙ ap (λ n. (first ++ rest) ++ stmt_code n stmt) there

-- one more statement of a list in a loop
pub list_more : (stmts : List Stmt) (i : ℕ) (d : Stmt) (base c c' : List Placed) → i < length stmts → c ≡ base ++ list_code (length base) (take i stmts) → c' ≡ c ++ stmt_code (length c) (get_or stmts i d) → c' ≡ base ++ list_code (length base) (take (i + 1) stmts)
list_more stmts i d base c c' lt e e' =
    let front = list_code (length base) (take i stmts) in
    let stmt = get_or stmts i d in
    let n : length c ≡ length base + length front = ap length e ∙ length-append base front in
    e'
    ∙ ap (λ l. l ++ stmt_code (length c) stmt) e
    ∙ ap (λ m. (base ++ front) ++ stmt_code m stmt) n
    ∙ append_assoc base front (stmt_code (length base + length front) stmt)
    ∙ ap (λ l. base ++ l) (sym (list_last (length base) (take i stmts) stmt) ∙ ap (list_code (length base)) (sym (take_more stmts i d lt)))

pub rows_code : (m : Count) (row : Row_of-Stmt m) (place : ℕ) → row_code place row ≡ list_code place (items-the_row-Stmt m row)
rows_code m end_of-Stmt place = refl
rows_code m (more_of-Stmt stmt rest) place =
    ap (λ l. stmt_code place stmt ++ l) (rows_code _ rest (place + length (stmt_code place stmt)))

abbrev row_of : Stmt → (n : Count) × Row_of-Stmt n
row_of (While' sum shape row) = (_, row)
row_of _ = (_, end_of-Stmt)

-- the code of a loop by the list of its body
pub while_is : (place : ℕ) (sum : Sum) (body : List Stmt) → stmt_code place (While sum body) ≡ while_code place sum (list_code (place + length (sum_code sum) + 1) body)
while_is place sum body =
    let row = row_of (While sum body) in
    let start = place + length (sum_code sum) + 1 in
    ap (while_code place sum) (rows_code row.0 row.1 start ∙ ap (list_code start) (items_hidden-the_row-Stmt-0 body))
