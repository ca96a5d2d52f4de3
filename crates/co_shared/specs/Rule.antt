-- The rule of the shared words, and what each kind of access adds to a pass.
use Rattle.std.specs.Prelude.{◌≡◌, ℕ, ◌+◌, ◌<◌, ◌≤◌, true, false, List, [], length}
use mathlib.Core.Option.{some}
use lib.ListN.{get_elem?}
use Rattle.atomic_table.specs.Table.{State, Me, Step}
use Rattle.co_words.specs.declared.access.Access.TheVariants.{Load, Store, Swap, Add, Cas}
use Rattle.co_shared.specs.declared.told.Ended.{Ended}
use Rattle.co_shared.specs.declared.told.Told.{Told}
use Rattle.co_shared.specs.declared.told.View.{View}
use Rattle.co_shared.specs.History.{Rows, Legal, replay, part, Before}
use Rattle.co_shared.specs.Passes.{steps, here, gone, living, AreDistinct, HasNumber}

-- an ended pass is not number 0, its list is its part of the history, and it stands before what number 0 did after the join
pub record IsEnded (log : Rows) (e : Ended) : Type 0 where
  pub other : 0 < e.number
  pub list : part e.number log ≡ e.list
  pub before : Before log e.number e.before

-- There is one history, legal on the opening words, which leaves the words as they are. The pass with number n has the view n, and its list is its part of the history
pub record Kept (opening : List ℕ) (s : State (Unit {0}) View) : Type 0 where
  pub log : Rows
  pub main : Told
  pub legal : Legal opening log
  pub words : replay opening log ≡ s.words
  pub first : get_elem? s.views 0 ≡ some (here main)
  pub count : length s.views ≡ main.splits + 1
  pub numbers : (i : ℕ) (v : View) → get_elem? s.views i ≡ some v → v.spent ≡ false → v.told.number ≡ i
  pub parts : (i : ℕ) (v : View) → get_elem? s.views i ≡ some v → v.spent ≡ false → part i log ≡ v.told.list
  pub others : (i : ℕ) → length s.views ≤ i → part i log ≡ []
  pub left : (k : ℕ) (e : Ended) → get_elem? main.ended k ≡ some e → get_elem? s.views e.number ≡ some gone
  pub ended : (k : ℕ) (e : Ended) → get_elem? main.ended k ≡ some e → IsEnded log e
  pub distinct : AreDistinct main.ended
  pub spent : (i : ℕ) (v : View) → get_elem? s.views i ≡ some v → v.spent ≡ true → HasNumber main.ended i
  pub alive : living s.views + length main.ended ≡ length s.views

abbrev pub loads : Step (Unit {0}) → Me (Unit {0}) View → ℕ → Me (Unit {0}) View → Type 0
loads st m r k = k ≡ (steps m.0 (Load st.word) r, m.1)

abbrev pub stores : Step (Unit {0}) → Me (Unit {0}) View → ℕ → Me (Unit {0}) View → Type 0
stores st m r k = k ≡ (steps m.0 (Store st.word st.first) 0, m.1)

abbrev pub swaps : Step (Unit {0}) → Me (Unit {0}) View → ℕ → Me (Unit {0}) View → Type 0
swaps st m r k = k ≡ (steps m.0 (Swap st.word st.first) r, m.1)

abbrev pub adds : Step (Unit {0}) → Me (Unit {0}) View → ℕ → Me (Unit {0}) View → Type 0
adds st m r k = k ≡ (steps m.0 (Add st.word st.first) r, m.1)

abbrev pub exchanges : Step (Unit {0}) → Me (Unit {0}) View → ℕ → Me (Unit {0}) View → Type 0
exchanges st m r k = k ≡ (steps m.0 (Cas st.word st.first st.second) r, m.1)
