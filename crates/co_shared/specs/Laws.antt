-- What legal and before say, of a history cut at any of its accesses.
use Rattle.std.specs.Prelude.{◌≡◌, ℕ, ◌≤◌, List, [], ◌∷◌, ◌++◌, length, slice_index}
use Rattle.co_words.specs.Words.{place, answer}
use Rattle.co_shared.specs.declared.told.Entry.{Entry}
use Rattle.co_shared.specs.History.{Rows, Legal, replay, part, Before}

-- in a legal history each access answers the word that the accesses before it have left
abbrev pub AnswersWhatStands : Type 0
AnswersWhatStands = (words : List ℕ) (earlier later : Rows) (r : ℕ × Entry) → Legal words (earlier ++ r ∷ later) → r.1.old ≡ answer r.1.access (slice_index (replay words earlier) (place r.1.access))

-- n did nothing after an access that number 0 made later than its first k
abbrev pub NothingAfter : Type 0
NothingAfter = (earlier later : Rows) (r : ℕ × Entry) (n k : ℕ) → Before (earlier ++ r ∷ later) n k → r.0 ≡ 0 → k ≤ length (part 0 earlier) → part n (r ∷ later) ≡ []
