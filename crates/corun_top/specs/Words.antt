-- Which lists of command words are accepted.
use Rattle.std.specs.Prelude.{◌≡◌, ◌≢◌, ℕ, ◌+◌, ◌<◌, ◌≤◌, List, [], ◌∷◌, ◌++◌, length, take, codes}

-- the name of a file: not empty, and no option, so it does not begin with `-`
abbrev pub IsFileName : List ℕ → Type 0
IsFileName [] = ⊥
IsFileName (first ∷ rest) = first ≢ 45

-- the one list that is accepted: `run FILE`
abbrev pub IsAccepted : List (List ℕ) → Type 0
IsAccepted [] = ⊥
IsAccepted (command ∷ []) = ⊥
IsAccepted (command ∷ file ∷ []) = (command ≡ codes "run") × IsFileName file
IsAccepted (command ∷ file ∷ stray ∷ more) = ⊥

-- some accepted list begins with these words
abbrev pub BeginsAccepted : List (List ℕ) → Type 0
BeginsAccepted words = (more : List (List ℕ)) × IsAccepted (words ++ more)

-- the words before the index begin an accepted list, and those up to it don't; where only the end is missing it is the number of words
pub record IsFirstBad (words : List (List ℕ)) (index : ℕ) : Type 0 where
  pub within : index ≤ length words
  pub before : BeginsAccepted (take index words)
  pub there : index < length words → BeginsAccepted (take (index + 1) words) → ⊥
  pub missing : IsAccepted words → ⊥
