-- What a program of the first form does: one step after the other, over its variables and what it has printed.
use Rattle.std.specs.Prelude.{ℕ, zero, suc, ◌^◌, List, [], ◌∷◌, ◌++◌, length, Bool, nat_lt, if◌then◌else◌, get_or, slice_set, replicate, ℤ, pos, negsuc, ◌+ℤ◌, ◌-ℤ◌}
use Rattle.co_base.specs.declared.span.Span.{Span}
use Rattle.co_first_tree.specs.declared.tree.Program.{Program}
use Rattle.co_first_tree.specs.declared.tree.Stmt.{Stmt, items-the_row-Stmt}
use Rattle.co_first_tree.specs.declared.tree.Stmt.TheVariants.{Declare, Assign, While', Print}
use Rattle.co_first_tree.specs.declared.tree.Sum.{Sum}
use Rattle.co_first_tree.specs.declared.tree.Sum.TheVariants.{Int, Name}
use Rattle.co_first_tree.specs.declared.tree.Term.{Term}
use Rattle.co_first_tree.specs.declared.tree.SumOp.{SumOp}
use Rattle.co_first_tree.specs.declared.tree.SumOp.TheVariants.{Add, Sub}
use Rattle.co_first_tree.specs.declared.tree.Atom.{Atom}
use Rattle.co_first_tree.specs.declared.tree.Atom.TheVariants as operand

-- what is done with the value of a sum: it becomes the value of a variable, it is printed, or it decides about a loop
pub data Purpose : Type 0 where
  Into : (x : ℕ) → Purpose
  Show : Purpose
  Test : (sum : Sum) (body : List Stmt) → Purpose

-- what is being done
pub data Doing : Type 0 where
  Evaluate : (sum : Sum) (purpose : Purpose) → Doing
  Extend : (left : ℤ) (terms : List Term) (span : Span) (purpose : Purpose) → Doing  -- a sum so far, and what is added and taken
  Give : (value : ℤ) (purpose : Purpose) → Doing
  Next : Doing  -- the next statement
  Ended : Doing  -- `main` has returned 0
  Failed : (span : Span) → Doing  -- an undefined act of the sum at this place: its value is none of `long`

-- what comes after the statement being done: the rest of a block, or a loop's next turn
pub data Frame : Type 0 where
  Rest : (stmts : List Stmt) → Frame
  Again : (sum : Sum) (body : List Stmt) → Frame

-- a run: what is being done, what comes after, innermost first, the variables by number, and the numbers printed
pub data Config : Type 0 where
  On : (doing : Doing) (frames : List Frame) (vars : List ℤ) (out : List ℤ) → Config

-- a value of `long`: 64 bits, two's complement [basic.fundamental]
abbrev pub is_long : ℤ → Bool
is_long (pos n) = nat_lt n (2 ^ 63)
is_long (negsuc n) = nat_lt n (2 ^ 63)

abbrev pub variable : List ℤ → ℕ → ℤ
variable vars x = get_or vars x (pos 0)

abbrev pub atom_value : List ℤ → Atom → ℤ
atom_value vars (operand.Int n) = pos n
atom_value vars (operand.Name x) = variable vars x

-- the sum or difference of two numbers [expr.add]
abbrev pub exact : SumOp → ℤ → ℤ → ℤ
exact Add x y = x +ℤ y
exact Sub x y = x -ℤ y

-- a sum that is no value of `long` is undefined [expr.pre]
abbrev pub extended : ℤ → List Term → Span → Purpose → Doing
extended z terms span purpose = if is_long z then Extend z terms span purpose else Failed span

-- the body is done while the value isn't 0 [stmt.while], [conv.bool]
abbrev pub tested : ℤ → Sum → List Stmt → List Frame → List Frame
tested (pos zero) sum body frames = frames
tested (pos (suc n)) sum body frames = Rest body ∷ Again sum body ∷ frames
tested (negsuc n) sum body frames = Rest body ∷ Again sum body ∷ frames

-- a statement evaluates its sum first [stmt.dcl], [expr.assign], [stmt.while]
abbrev pub begin : Stmt → Doing
begin (Declare x sum) = Evaluate sum (Into x)
begin (Assign x sum) = Evaluate sum (Into x)
begin (While' sum shape body) = Evaluate sum (Test sum (items-the_row-Stmt _ body))
begin (Print sum) = Evaluate sum Show

abbrev pub step : Config → Config
step (On (Evaluate (Int n span) purpose) frames vars out) = On (Give (pos n) purpose) frames vars out
step (On (Evaluate (Name x terms span) purpose) frames vars out) = On (Extend (variable vars x) terms span purpose) frames vars out
step (On (Extend left [] span purpose) frames vars out) = On (Give left purpose) frames vars out
step (On (Extend left (term ∷ terms) span purpose) frames vars out) =
    On (extended (exact term.op left (atom_value vars term.atom)) terms span purpose) frames vars out
step (On (Give value (Into x)) frames vars out) = On Next frames (slice_set vars x value) out
step (On (Give value Show) frames vars out) = On Next frames vars (out ++ value ∷ [])
step (On (Give value (Test sum body)) frames vars out) = On Next (tested value sum body frames) vars out
step (On Next (Rest (stmt ∷ stmts) ∷ frames) vars out) = On (begin stmt) (Rest stmts ∷ frames) vars out
step (On Next (Rest [] ∷ frames) vars out) = On Next frames vars out
step (On Next (Again sum body ∷ frames) vars out) = On (Evaluate sum (Test sum body)) frames vars out
step (On Next [] vars out) = On Ended [] vars out
step (On Ended frames vars out) = On Ended frames vars out
step (On (Failed span) frames vars out) = On (Failed span) frames vars out

abbrev pub steps : ℕ → Config → Config
steps zero c = c
steps (suc n) c = steps n (step c)

-- a run begins with the statements of `main`; a variable is read only after its declaration, so what it is before is not seen
abbrev pub start : Program → Config
start program = On Next (Rest program.body ∷ []) (replicate (length program.names) (pos 0)) []

abbrev pub doing_of : Config → Doing
doing_of (On doing frames vars out) = doing

-- the numbers that a run has printed, the oldest first
abbrev pub printed : Config → List ℤ
printed (On doing frames vars out) = out
