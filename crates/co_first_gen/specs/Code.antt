-- The instructions of a program.
use Rattle.std.specs.Prelude.{ℕ, ◌+◌, List, [], ◌∷◌, ◌++◌, length, pos}
use Rattle.co_base.specs.declared.span.Span.{Span}
use Rattle.co_base.specs.declared.kinds.Op.{Op}
use Rattle.co_base.specs.declared.kinds.Op.TheVariants as op
use Rattle.co_base.specs.declared.kinds.Num.TheVariants as num
use Rattle.co_first_exec.specs.declared.instr.Instr.{Instr}
use Rattle.co_first_exec.specs.declared.instr.Instr.TheVariants.{Const, Arith, Slot, Load, Store, Push, Pop, Jump, JumpZ, MainRet}
use Rattle.co_first_exec.specs.declared.instr.Instr.TheVariants as instr
use Rattle.co_first_exec.specs.declared.instr.Placed.{Placed}
use Rattle.co_first_tree.specs.declared.tree.Program.{Program}
use Rattle.co_first_tree.specs.declared.tree.Stmt.{Stmt, Row_of-Stmt, end_of-Stmt, more_of-Stmt}
use Rattle.co_first_tree.specs.declared.tree.Stmt.TheVariants.{Declare, Assign, While', Print}
use Rattle.co_first_tree.specs.declared.tree.Sum.{Sum}
use Rattle.co_first_tree.specs.declared.tree.Sum.TheVariants.{Int, Name}
use Rattle.co_first_tree.specs.declared.tree.Term.{Term}
use Rattle.co_first_tree.specs.declared.tree.SumOp.{SumOp}
use Rattle.co_first_tree.specs.declared.tree.SumOp.TheVariants.{Add, Sub}
use Rattle.co_first_tree.specs.declared.tree.Atom.{Atom}
use Rattle.co_first_tree.specs.declared.tree.Atom.TheVariants as operand

abbrev pub placed : Instr → Span → Placed
placed instr span = record { instr = instr; span = span }

abbrev pub op_of : SumOp → Op
op_of Add = op.Add
op_of Sub = op.Sub

abbrev pub span_of : Sum → Span
span_of (Int value span) = span
span_of (Name x terms span) = span

-- an operand comes into a
abbrev pub atom_code : Span → Atom → List Placed
atom_code span (operand.Int value) = placed (Const (pos value)) span ∷ []
atom_code span (operand.Name x) = placed (Slot x) span ∷ placed Load span ∷ []

-- what is left of the operator, in a, waits on the stack while the right operand is made
abbrev pub term_code : Span → Term → List Placed
term_code span term =
    placed Push span ∷ (atom_code span term.atom ++ (placed Pop span ∷ placed (Arith (op_of term.op) num.Long) span ∷ []))

abbrev pub terms_code : Span → List Term → List Placed
terms_code span [] = []
terms_code span (term ∷ terms) = term_code span term ++ terms_code span terms

-- the value of a sum comes into a
abbrev pub sum_code : Sum → List Placed
sum_code (Int value span) = placed (Const (pos value)) span ∷ []
sum_code (Name x terms span) = placed (Slot x) span ∷ placed Load span ∷ terms_code span terms

-- the variable's address goes onto the stack, and the word there becomes the sum's value
abbrev pub assign_code : ℕ → Sum → List Placed
assign_code x sum =
    placed (Slot x) (span_of sum) ∷ placed Push (span_of sum) ∷ (sum_code sum ++ (placed Pop (span_of sum) ∷ placed Store (span_of sum) ∷ []))

-- a loop at `place`: the sum, a jump past the end where it is 0, the body, and a jump back to the sum
abbrev pub while_code : ℕ → Sum → List Placed → List Placed
while_code place sum body =
    sum_code sum ++ (placed (JumpZ (place + length (sum_code sum) + 1 + length body + 1)) (span_of sum) ∷ (body ++ placed (Jump place) (span_of sum) ∷ []))

abbrev mutual
  -- the code of a statement that stands at `place`
  pub stmt_code : ℕ → Stmt → List Placed
  stmt_code place (Declare x sum) = assign_code x sum
  stmt_code place (Assign x sum) = assign_code x sum
  stmt_code place (While' sum shape body) = while_code place sum (row_code (place + length (sum_code sum) + 1) body)
  stmt_code place (Print sum) = sum_code sum ++ placed instr.Print (span_of sum) ∷ []

  pub row_code : {m : _} → ℕ → Row_of-Stmt m → List Placed
  row_code place end_of-Stmt = []
  row_code place (more_of-Stmt stmt rest) = stmt_code place stmt ++ row_code (place + length (stmt_code place stmt)) rest

-- the statements of a list stand one after the other
abbrev pub list_code : ℕ → List Stmt → List Placed
list_code place [] = []
list_code place (stmt ∷ stmts) = stmt_code place stmt ++ list_code (place + length (stmt_code place stmt)) stmts

-- the end of `main` stands at no place of the file
abbrev pub main_end : Placed
main_end = placed MainRet (record { line = 0; col = 0 })

abbrev pub code_of : Program → List Placed
code_of program = list_code 0 program.body ++ main_end ∷ []
