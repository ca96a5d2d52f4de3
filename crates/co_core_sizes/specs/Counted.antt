-- How many words the objects of classes have, as far as they are counted.
use Rattle.std.specs.Prelude.{◌≡◌, ◌<◌, ℕ, true, List, get_or}
use Rattle.co_types.specs.declared.classes.ClassInfo.{ClassInfo}
use Rattle.co_core_tree.specs.Sizes.{class_words_within}
use Rattle.co_core.specs.Counts.{nests_within}

module _ (classes : List ClassInfo) where
  -- an object of the class has so many words, at each depth within which it nests
  abbrev pub HasWords : ℕ → ℕ → Type 0
  HasWords class words = (d : ℕ) → nests_within d classes (record { 0 = class }) ≡ true → class_words_within d classes (record { 0 = class }) ≡ words

  -- each number of words that is noted, by the number of its class, is that of the class; 0 stands for none
  abbrev pub AreCounted : List ℕ → Type 0
  AreCounted counted = (class : ℕ) → 0 < get_or counted class 0 → HasWords class (get_or counted class 0)
