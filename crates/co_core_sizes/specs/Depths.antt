-- How deep the objects in an object of a class lie in one another, and what the walk over the classes knows of that.
use Rattle.std.specs.Prelude.{◌≡◌, ◌<◌, ℕ, List, nat_le, get_or}
use Rattle.std.specs.List.{list_all}
use Rattle.co_types.specs.declared.types.Head.{Head}
use Rattle.co_types.specs.declared.classes.ClassInfo.{ClassInfo}
use Rattle.co_types.specs.declared.classes.FieldInfo.{FieldInfo}
use Rattle.co_core.specs.Counts.{field_nests, head_nests, nests_within}

module _ (classes : List ClassInfo) where
  -- the objects in an object of the class lie in one another exactly so deep
  abbrev pub HasDepth : ℕ → ℕ → Type 0
  HasDepth class depth = (d : ℕ) → nests_within d classes (record { 0 = class }) ≡ nat_le depth d

  abbrev pub HeadHasDepth : Head → ℕ → Type 0
  HeadHasDepth head depth = (d : ℕ) → head_nests (λ c. nests_within d classes c) head ≡ nat_le depth d

  abbrev pub FieldsHaveDepth : List FieldInfo → ℕ → Type 0
  FieldsHaveDepth fields depth = (d : ℕ) → list_all (field_nests (λ c. nests_within d classes c)) fields ≡ nat_le depth d

  -- each depth that is noted, by the number of its class, is that of the class; 0 stands for none
  abbrev pub AreNoted : List ℕ → Type 0
  AreNoted depths = (class : ℕ) → 0 < get_or depths class 0 → HasDepth class (get_or depths class 0)
