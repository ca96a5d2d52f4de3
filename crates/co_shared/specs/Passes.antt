-- What a pass has told, and what each step adds to it.
use Rattle.std.specs.Prelude.{◌≡◌, ℕ, ◌+◌, true, false, cond, List, [], ◌∷◌, ◌++◌, length}
use mathlib.Core.Option.{some}
use lib.ListN.{get_elem?}
use Rattle.co_words.specs.declared.access.Access.{Access}
use Rattle.co_shared.specs.declared.told.Entry.{Entry}
use Rattle.co_shared.specs.declared.told.Ended.{Ended}
use Rattle.co_shared.specs.declared.told.Told.{Told}
use Rattle.co_shared.specs.declared.told.View.{View}

abbrev pub entry : Access → ℕ → Entry
entry a n = record { access = a; old = n }

-- a pass that has done nothing
abbrev pub fresh : ℕ → Told
fresh n = record { number = n; list = []; splits = 0; ended = [] }

-- one access more, which found n
abbrev pub did : Told → Access → ℕ → Told
did t a n = record { number = t.number; list = t.list ++ entry a n ∷ []; splits = t.splits; ended = t.ended }

-- one pass more was split off
abbrev pub split_once : Told → Told
split_once t = record { number = t.number; list = t.list; splits = t.splits + 1; ended = t.ended }

abbrev pub ended_of : Told → Told → Ended
ended_of t u = record { number = u.number; list = u.list; before = length t.list }

-- u was joined into t
abbrev pub joined : Told → Told → Told
joined t u = record { number = t.number; list = t.list; splits = t.splits; ended = t.ended ++ ended_of t u ∷ [] }

-- no two ended passes have one number
abbrev pub AreDistinct : List Ended → Type 0
AreDistinct es = (j k : ℕ) (a b : Ended) → get_elem? es j ≡ some a → get_elem? es k ≡ some b → a.number ≡ b.number → j ≡ k

-- a pass with the number n ended
pub record HasNumber (es : List Ended) (n : ℕ) : Type 0 where
  pub at : ℕ
  pub pass : Ended
  pub there : get_elem? es at ≡ some pass
  pub is : pass.number ≡ n

-- what the rule keeps for a pass that lives, and for one that was joined into another
abbrev pub here : Told → View
here t = record { spent = false; told = t }

abbrev pub gone : View
gone = record { spent = true; told = fresh 0 }

abbrev pub newcomer : ℕ → View
newcomer n = here (fresh n)

abbrev pub steps : View → Access → ℕ → View
steps v a n = record { spent = v.spent; told = did v.told a n }

abbrev pub splitter : View → View
splitter v = here (split_once v.told)

abbrev pub newer : View → View
newer v = newcomer (v.told.splits + 1)

abbrev pub taker : View → View → View
taker v w = here (joined v.told w.told)

-- how many passes live
abbrev pub living : List View → ℕ
living [] = 0
living (v ∷ vs) = cond v.spent (living vs) (living vs + 1)
