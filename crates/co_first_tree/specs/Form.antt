-- What a tree of the first form keeps besides its shape: names, scopes and limits.
use Rattle.std.specs.Prelude.{◌≡◌, ◌≢◌, ℕ, ◌+◌, ◌^◌, ◌<◌, ◌≤◌, List, [], ◌∷◌, length, Contains, slice_get, Some, All, codes}
use Rattle.co_base.specs.declared.span.Span.{Span}
use Rattle.co_first_tree.specs.declared.tree.Program.{Program}
use Rattle.co_first_tree.specs.declared.tree.Stmt.{Stmt, Row_of-Stmt, end_of-Stmt, more_of-Stmt}
use Rattle.co_first_tree.specs.declared.tree.Stmt.TheVariants.{Declare, Assign, While', Print}
use Rattle.co_first_tree.specs.declared.tree.Sum.{Sum}
use Rattle.co_first_tree.specs.declared.tree.Sum.TheVariants.{Int, Name}
use Rattle.co_first_tree.specs.declared.tree.Term.{Term}
use Rattle.co_first_tree.specs.declared.tree.Atom.{Atom}
use Rattle.co_first_tree.specs.declared.tree.Atom.TheVariants as operand

-- the words that are no names of variables: the words of the language, and std, corun and main
abbrev pub reserved_words : List (List ℕ)
reserved_words =
    codes "auto" ∷ codes "bool" ∷ codes "break" ∷ codes "catch" ∷ codes "class" ∷ codes "const" ∷ codes "continue" ∷ codes "default" ∷ codes "delete" ∷ codes "else" ∷ codes "explicit" ∷ codes "false" ∷ codes "for" ∷ codes "if" ∷ codes "inline" ∷ codes "int" ∷ codes "long" ∷ codes "new" ∷ codes "noexcept" ∷ codes "nullptr" ∷ codes "operator" ∷ codes "private" ∷ codes "protected" ∷ codes "public" ∷ codes "return" ∷ codes "static" ∷ codes "struct" ∷ codes "this" ∷ codes "throw" ∷ codes "true" ∷ codes "try" ∷ codes "using" ∷ codes "void" ∷ codes "while" ∷
    codes "alignas" ∷ codes "alignof" ∷ codes "case" ∷ codes "char" ∷ codes "concept" ∷ codes "consteval" ∷ codes "constexpr" ∷ codes "constinit" ∷ codes "decltype" ∷ codes "do" ∷ codes "double" ∷ codes "enum" ∷ codes "export" ∷ codes "extern" ∷ codes "float" ∷ codes "friend" ∷ codes "goto" ∷ codes "mutable" ∷ codes "namespace" ∷ codes "requires" ∷ codes "short" ∷ codes "signed" ∷ codes "sizeof" ∷ codes "switch" ∷ codes "template" ∷ codes "typedef" ∷ codes "typeid" ∷ codes "typename" ∷ codes "union" ∷ codes "unsigned" ∷ codes "virtual" ∷ codes "volatile" ∷
    codes "std" ∷ codes "corun" ∷ codes "main" ∷ []

-- a small letter
abbrev pub IsLetter : ℕ → Type 0
IsLetter byte = (97 ≤ byte) × (byte ≤ 122)

-- a name of a variable: small letters, and no reserved word
pub record IsVariable (name : List ℕ) : Type 0 where
  pub some : 0 < length name
  pub letters : All IsLetter name
  pub free : (i : ℕ) → slice_get reserved_words i ≢ Some name

-- the variables that a place of the file sees, and how many were declared before it
pub record Scope : Type 0 where
  pub declared : ℕ
  pub visible : List ℕ

-- a literal is a value of `int`, and a variable is one that is seen
abbrev pub AtomStands : Scope → Atom → Type 0
AtomStands scope (operand.Int value) = value < 2 ^ 31
AtomStands scope (operand.Name x) = Contains scope.visible x

-- each operand stands, and there are at most 64 operators
abbrev pub SumStands : Scope → Sum → Type 0
SumStands scope (Int value span) = value < 2 ^ 31
SumStands scope (Name x terms span) = Contains scope.visible x × (length terms ≤ 64) × All (λ term. AtomStands scope term.atom) terms

abbrev mutual
  -- what is seen after a statement: a declaration adds its variable, and a block takes its own away again
  pub scope_after : Scope → Stmt → Scope
  scope_after scope (Declare x sum) = record { declared = scope.declared + 1; visible = scope.declared ∷ scope.visible }
  scope_after scope (Assign x sum) = scope
  scope_after scope (While' sum shape body) = record { declared = (scope_after_all scope body).declared; visible = scope.visible }
  scope_after scope (Print sum) = scope

  pub scope_after_all : {m : _} → Scope → Row_of-Stmt m → Scope
  scope_after_all scope end_of-Stmt = scope
  scope_after_all scope (more_of-Stmt stmt rest) = scope_after_all (scope_after scope stmt) rest

abbrev mutual
  -- the statement stands in this scope, in a block of this level
  pub StmtStands : Scope → ℕ → Stmt → Type 0
  StmtStands scope level (Declare x sum) = SumStands scope sum × (x ≡ scope.declared)
  StmtStands scope level (Assign x sum) = SumStands scope sum × Contains scope.visible x
  StmtStands scope level (While' sum shape body) = SumStands scope sum × (level + 1 ≤ 32) × AllStand scope (level + 1) body
  StmtStands scope level (Print sum) = SumStands scope sum

  pub AllStand : {m : _} → Scope → ℕ → Row_of-Stmt m → Type 0
  AllStand scope level end_of-Stmt = Unit {0}
  AllStand scope level (more_of-Stmt stmt rest) = StmtStands scope level stmt × AllStand (scope_after scope stmt) level rest

-- the statements of a list stand one after the other
abbrev pub ListStands : Scope → ℕ → List Stmt → Type 0
ListStands scope level [] = Unit {0}
ListStands scope level (stmt ∷ stmts) = StmtStands scope level stmt × ListStands (scope_after scope stmt) level stmts

abbrev pub scope_after_list : Scope → List Stmt → Scope
scope_after_list scope [] = scope
scope_after_list scope (stmt ∷ stmts) = scope_after_list (scope_after scope stmt) stmts

abbrev pub no_variable : Scope
no_variable = record { declared = 0; visible = [] }

-- the tree keeps the rules of the first form: at most 32 variables with names of their own, each declared once, and each used
-- only after its declaration in the same block or in one inside it; at most 32 levels of blocks; at most 64 operators in a sum
pub record IsFormed (program : Program) : Type 0 where
  pub count : length program.names ≤ 32
  pub names : All IsVariable program.names
  pub distinct : (i j : ℕ) (name : List ℕ) → slice_get program.names i ≡ Some name → slice_get program.names j ≡ Some name → i ≡ j
  pub stands : ListStands no_variable 1 program.body
  pub declared : (scope_after_list no_variable program.body).declared ≡ length program.names
