-- What holds of every run.
use Rattle.std.specs.Prelude.{◌≡◌, ℕ, ◌++◌, List, [], ◌∷◌, if◌then◌else◌, Option, Some, None, ℤ}
use Rattle.co_base.specs.declared.span.Span.{Span}
use Rattle.co_first_tree.specs.declared.tree.Sum.TheVariants.{Name}
use Rattle.co_first_tree.specs.declared.tree.Term.{Term}
use Rattle.co_first_meaning.specs.Meaning.{Purpose, Doing, Give, Ended, Failed, Evaluate, Config, On, Frame, is_long, exact, variable, atom_value, steps, printed}

-- what was printed is a front of what is printed later
abbrev pub PrintsGrow : Type 0
PrintsGrow = (n : ℕ) (c : Config) → (more : List ℤ) × (printed (steps n c) ≡ printed c ++ more)

-- an end is an end
pub record EndStays : Type 0 where
  pub ended : (n : ℕ) (frames : List Frame) (vars out : List ℤ) → steps n (On Ended frames vars out) ≡ On Ended frames vars out
  pub failed : (n : ℕ) (span : Span) (frames : List Frame) (vars out : List ℤ) → steps n (On (Failed span) frames vars out) ≡ On (Failed span) frames vars out

-- `z`, or none where it is no value of `long`
abbrev pub if_long : ℤ → Option ℤ
if_long z = if is_long z then Some z else None

-- a sum is what is left of its last operator, and then that operator with its right operand
abbrev pub onto : List ℤ → Term → Option ℤ → Option ℤ
onto vars term None = None
onto vars term (Some left) = if_long (exact term.op left (atom_value vars term.atom))

-- the value of `first` and these terms after it, the last one first
abbrev pub sum_value : List ℤ → ℤ → List Term → Option ℤ
sum_value vars first [] = Some first
sum_value vars first (last ∷ before) = onto vars last (sum_value vars first before)

-- what a sum's value leads to
abbrev pub given : Option ℤ → Span → Purpose → Doing
given (Some value) span purpose = Give value purpose
given None span purpose = Failed span

abbrev pub reversed : List Term → List Term → List Term
reversed [] before = before
reversed (term ∷ terms) before = reversed terms (term ∷ before)

-- from the left to the right: every sum comes to the value that it has by its last operator, or fails at its place
abbrev pub SumsFromTheLeft : Type 0
SumsFromTheLeft = (x : ℕ) (terms : List Term) (span : Span) (purpose : Purpose) (frames : List Frame) (vars out : List ℤ) → (n : ℕ) × (steps n (On (Evaluate (Name x terms span) purpose) frames vars out) ≡ On (given (sum_value vars (variable vars x) (reversed terms [])) span purpose) frames vars out)
