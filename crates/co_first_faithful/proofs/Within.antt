-- Each variable of a program has a number below the count of its declarations, and each literal is an `int`.
use Rattle.std.proofs.Common.{ℕ, ◌+◌, ◌^◌, ◌<◌, ◌≤◌, List, [], ◌∷◌, length, arith, All}
use Rattle.std.proofs.lemmas.List.Elements.{All-cons, All-head, All-tail, All-contains, All-nil}
use mathlib.Core.Former.{Count}
use Rattle.co_first_tree.specs.declared.tree.Program.{Program}
use Rattle.co_first_tree.specs.declared.tree.Stmt.{Stmt, Row_of-Stmt, end_of-Stmt, more_of-Stmt, items-the_row-Stmt}
use Rattle.co_first_tree.specs.declared.tree.Stmt.TheVariants.{Declare, Assign, While', Print}
use Rattle.co_first_tree.specs.declared.tree.Sum.{Sum}
use Rattle.co_first_tree.specs.declared.tree.Sum.TheVariants.{Int, Name}
use Rattle.co_first_tree.specs.declared.tree.Term.{Term}
use Rattle.co_first_tree.specs.declared.tree.Atom.{Atom}
use Rattle.co_first_tree.specs.declared.tree.Atom.TheVariants as operand
use Rattle.co_first_tree.specs.Form.{Scope, AtomStands, SumStands, scope_after, scope_after_all, scope_after_list, StmtStands, AllStand, ListStands, no_variable, IsFormed}

abbrev pub IsAtom : ℕ → Atom → Type 0
IsAtom count (operand.Int value) = value < 2 ^ 31
IsAtom count (operand.Name x) = x < count

abbrev pub AreTerms : ℕ → List Term → Type 0
AreTerms count [] = Unit {0}
AreTerms count (term ∷ terms) = IsAtom count term.atom × AreTerms count terms

abbrev pub IsSum : ℕ → Sum → Type 0
IsSum count (Int value span) = value < 2 ^ 31
IsSum count (Name x terms span) = (x < count) × AreTerms count terms

abbrev mutual
  pub IsStmt : ℕ → Stmt → Type 0
  IsStmt count (Declare x sum) = (x < count) × IsSum count sum
  IsStmt count (Assign x sum) = (x < count) × IsSum count sum
  IsStmt count (While' sum shape body) = IsSum count sum × AreRow count body
  IsStmt count (Print sum) = IsSum count sum

  pub AreRow : {m : _} → ℕ → Row_of-Stmt m → Type 0
  AreRow count end_of-Stmt = Unit {0}
  AreRow count (more_of-Stmt stmt rest) = IsStmt count stmt × AreRow count rest

abbrev pub AreStmts : ℕ → List Stmt → Type 0
AreStmts count [] = Unit {0}
AreStmts count (stmt ∷ stmts) = IsStmt count stmt × AreStmts count stmts

pub of_row : (m : Count) (row : Row_of-Stmt m) (count : ℕ) → AreRow count row → AreStmts count (items-the_row-Stmt m row)
of_row m end_of-Stmt count h = tt
of_row m (more_of-Stmt stmt rest) count h = (h.0, of_row _ rest count h.1)

-- what is seen was declared
record Sees (scope : Scope) : Type 0 where
  below : All (λ x. x < scope.declared) scope.visible

-- a scope after another that sees no variable but those declared
record Later (scope after : Scope) : Type 0 where
  sees : Sees after
  more : scope.declared ≤ after.declared

all_raised : (low high : ℕ) (xs : List ℕ) → low ≤ high → All (λ x. x < low) xs → All (λ x. x < high) xs
all_raised low high xs le h k d lt = let below = h k d lt in omega arith

later_declared : (scope : Scope) → Sees scope → Later scope (record { declared = scope.declared + 1; visible = scope.declared ∷ scope.visible })
later_declared scope h =
    let raised = all_raised scope.declared (scope.declared + 1) scope.visible (omega arith) h.below in
    record { sees = record { below = All-cons (λ x. x < scope.declared + 1) scope.declared scope.visible (omega arith) raised }; more = omega arith }

mutual
  later : (stmt : Stmt) (scope : Scope) (level : ℕ) → Sees scope → StmtStands scope level stmt → Later scope (scope_after scope stmt)
  later (Declare x sum) scope level h s = later_declared scope h
  later (Assign x sum) scope level h s = record { sees = h; more = omega arith }
  later (While' sum shape body) scope level h s =
      let inner = later_row _ body scope (level + 1) h s.2 in
      let raised = all_raised scope.declared (scope_after_all scope body).declared scope.visible inner.more h.below in
      record { sees = record { below = raised }; more = inner.more }
  later (Print sum) scope level h s = record { sees = h; more = omega arith }

  later_row : (m : Count) (row : Row_of-Stmt m) (scope : Scope) (level : ℕ) → Sees scope → AllStand scope level row → Later scope (scope_after_all scope row)
  later_row m end_of-Stmt scope level h s = record { sees = h; more = omega arith }
  later_row m (more_of-Stmt stmt rest) scope level h s =
      let first = later stmt scope level h s.0 in
      let others = later_row _ rest (scope_after scope stmt) level first.sees s.1 in
      record { sees = others.sees; more = omega (arith, first.more, others.more) }

later_list : (stmts : List Stmt) (scope : Scope) (level : ℕ) → Sees scope → ListStands scope level stmts → Later scope (scope_after_list scope stmts)
later_list [] scope level h s = record { sees = h; more = omega arith }
later_list (stmt ∷ stmts) scope level h s =
    let first = later stmt scope level h s.0 in
    let others = later_list stmts (scope_after scope stmt) level first.sees s.1 in
    record { sees = others.sees; more = omega (arith, first.more, others.more) }

atom_within : (scope : Scope) (count : ℕ) (atom : Atom) → Sees scope → scope.declared ≤ count → AtomStands scope atom → IsAtom count atom
atom_within scope count (operand.Int value) h le s = s
atom_within scope count (operand.Name x) h le s =
    let below = All-contains (λ y. y < scope.declared) scope.visible x h.below s in omega arith

terms_within : (scope : Scope) (count : ℕ) (terms : List Term) → Sees scope → scope.declared ≤ count → All (λ term. AtomStands scope term.atom) terms → AreTerms count terms
terms_within scope count [] h le s = tt
terms_within scope count (term ∷ terms) h le s =
    (atom_within scope count term.atom h le (All-head (λ t. AtomStands scope t.atom) term terms s), terms_within scope count terms h le (All-tail (λ t. AtomStands scope t.atom) term terms s))

sum_within : (scope : Scope) (count : ℕ) (sum : Sum) → Sees scope → scope.declared ≤ count → SumStands scope sum → IsSum count sum
sum_within scope count (Int value span) h le s = s
sum_within scope count (Name x terms span) h le s =
    let below = All-contains (λ y. y < scope.declared) scope.visible x h.below s.0 in
    (omega arith, terms_within scope count terms h le s.2)

mutual
  stmt_within : (stmt : Stmt) (scope : Scope) (level count : ℕ) → Sees scope → StmtStands scope level stmt → (scope_after scope stmt).declared ≤ count → IsStmt count stmt
  stmt_within (Declare x sum) scope level count h s le = (omega (arith, s.1), sum_within scope count sum h (omega arith) s.0)
  stmt_within (Assign x sum) scope level count h s le =
      let below = All-contains (λ y. y < scope.declared) scope.visible x h.below s.1 in
      (omega arith, sum_within scope count sum h le s.0)
  stmt_within (While' sum shape body) scope level count h s le =
      let inner = later_row _ body scope (level + 1) h s.2 in
      (sum_within scope count sum h (omega (arith, inner.more)) s.0, row_within _ body scope (level + 1) count h s.2 le)
  stmt_within (Print sum) scope level count h s le = sum_within scope count sum h le s

  row_within : (m : Count) (row : Row_of-Stmt m) (scope : Scope) (level count : ℕ) → Sees scope → AllStand scope level row → (scope_after_all scope row).declared ≤ count → AreRow count row
  row_within m end_of-Stmt scope level count h s le = tt
  row_within m (more_of-Stmt stmt rest) scope level count h s le =
      let first = later stmt scope level h s.0 in
      let others = later_row _ rest (scope_after scope stmt) level first.sees s.1 in
      (stmt_within stmt scope level count h s.0 (omega (arith, others.more)), row_within _ rest (scope_after scope stmt) level count first.sees s.1 le)

list_within : (stmts : List Stmt) (scope : Scope) (level count : ℕ) → Sees scope → ListStands scope level stmts → (scope_after_list scope stmts).declared ≤ count → AreStmts count stmts
list_within [] scope level count h s le = tt
list_within (stmt ∷ stmts) scope level count h s le =
    let first = later stmt scope level h s.0 in
    let others = later_list stmts (scope_after scope stmt) level first.sees s.1 in
    (stmt_within stmt scope level count h s.0 (omega (arith, others.more)), list_within stmts (scope_after scope stmt) level count first.sees s.1 le)

pub within : (program : Program) → IsFormed program → AreStmts (length program.names) program.body
within program formed =
    let none : Sees no_variable = record { below = All-nil (λ x. x < 0) } in
    list_within program.body no_variable 1 (length program.names) none formed.stands (omega (arith, formed.declared))
