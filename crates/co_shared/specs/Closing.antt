-- What is known of the history when the last pass closes it.
use Rattle.std.specs.Prelude.{◌≡◌, ℕ, ◌<◌, ◌≤◌, List, [], slice_index}
use mathlib.Core.Option.{some}
use lib.ListN.{get_elem?}
use Rattle.co_shared.specs.declared.told.Ended.{Ended}
use Rattle.co_shared.specs.declared.told.Told.{Told}
use Rattle.co_shared.specs.History.{Rows, Legal, replay, part}
use Rattle.co_shared.specs.Passes.{AreDistinct, HasNumber}
use Rattle.co_shared.specs.Rule.{IsEnded}

-- There is one history, legal on the opening words. The list of the closing pass is the part of number 0, the list of each ended pass the part of its number,
-- their numbers are those from 1 to the splits, each once, and nothing else stands in it. The words 1 and 2 are as it leaves them
pub record Closes (opening : List ℕ) (told : Told) (stamp stop : ℕ) : Type 0 where
  pub log : Rows
  pub legal : Legal opening log
  pub main : part 0 log ≡ told.list
  pub ended : (k : ℕ) (e : Ended) → get_elem? told.ended k ≡ some e → IsEnded log e
  pub bound : (k : ℕ) (e : Ended) → get_elem? told.ended k ≡ some e → e.number ≤ told.splits
  pub distinct : AreDistinct told.ended
  pub whole : (n : ℕ) → 0 < n → n ≤ told.splits → HasNumber told.ended n
  pub others : (n : ℕ) → told.splits < n → part n log ≡ []
  pub stamp_is : slice_index (replay opening log) 1 ≡ stamp
  pub stop_is : slice_index (replay opening log) 2 ≡ stop
