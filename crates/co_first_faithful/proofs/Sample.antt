-- A program of a loop, as the program's steps and as the turns of its code do it.
use Rattle.std.proofs.Common.{◌≡◌, ℕ, List, [], ◌∷◌, ◌++◌, refl}
use Rattle.std.specs.Prelude.{pos}
use Rattle.co_base.specs.declared.span.Span.{Span}
use Rattle.co_first_tree.specs.declared.tree.Stmt.{Stmt, end_of-Stmt, more_of-Stmt}
use Rattle.co_first_tree.specs.declared.tree.Stmt.TheVariants.{Declare, Assign, While', Print}
use Rattle.co_first_tree.specs.declared.tree.Sum.{Sum}
use Rattle.co_first_tree.specs.declared.tree.Sum.TheVariants.{Int, Name}
use Rattle.co_first_tree.specs.declared.tree.SumOp.{SumOp}
use Rattle.co_first_tree.specs.declared.tree.SumOp.TheVariants.{Add, Sub}
use Rattle.co_first_tree.specs.declared.tree.Atom.TheVariants as operand
use Rattle.co_first_exec.specs.declared.instr.Stop.TheVariants.{Main, Budget}
use Rattle.co_first_exec.specs.declared.local.Local.{Local}
use Rattle.co_first_exec.specs.Opening.{opening}
use Rattle.co_first_exec.specs.Machine.{turns}
use Rattle.co_first_meaning.specs.Meaning.{Next, Ended, Rest, Config, On, steps, doing_of, printed}
use Rattle.co_first_gen.specs.Code.{list_code, main_end}

abbrev at : ℕ → Span
at col = record { line = 1; col = col }

-- i and what is added or taken
abbrev i_and : SumOp → ℕ → Sum
i_and op n = Name 0 (record { op = op; atom = operand.Int n } ∷ []) (at 7)

-- long i = 0; while (i - 3) { corun::print(i); i = i + 1; }
abbrev counts : List Stmt
counts =
    Declare 0 (Int 0 (at 1)) ∷ While' (i_and Sub 3) (tt ∷ tt ∷ []) (more_of-Stmt (Print (Name 0 [] (at 3))) (more_of-Stmt (Assign 0 (i_and Add 1)) end_of-Stmt)) ∷ []

abbrev source : ℕ → Config
source n = steps n (On Next (Rest counts ∷ []) (pos 0 ∷ []) [])

-- eight words are enough for this program
abbrev target : ℕ → ℕ → Local
target budget n =
    let opened : Local = opening 1 budget in
    turns (list_code 0 counts ++ main_end ∷ []) n (record opened { words = 0 ∷ 0 ∷ 0 ∷ 0 ∷ 0 ∷ 0 ∷ 0 ∷ 0 ∷ [] })

source_prints : printed (source 60) ≡ pos 0 ∷ pos 1 ∷ pos 2 ∷ []
source_prints = refl

source_ends : doing_of (source 60) ≡ Ended
source_ends = refl

target_prints : (target 1000 100).prints ≡ pos 0 ∷ pos 1 ∷ pos 2 ∷ []
target_prints = refl

target_ends : (target 1000 100).stop ≡ Main (pos 0)
target_ends = refl

-- a shorter budget
target_cut : (target 20 100).stop ≡ Budget
target_cut = refl
