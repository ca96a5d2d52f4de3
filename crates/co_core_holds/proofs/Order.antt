-- The order of the tests does not matter.
use Rattle.std.specs.Prelude.{Bool, true, false, ◌&&◌, ◌≡◌, refl, List, [], ◌∷◌}
use Rattle.std.proofs.Common.{◌∙◌, ap}
use Rattle.co_core_tree.specs.declared.units.UnitParts.{UnitParts}
use Rattle.co_core.specs.Ids.{ids_held}
use Rattle.co_core.specs.Typed.{all_typed}
use Rattle.co_core.specs.Numbers.{numbers_fit}
use Rattle.co_core.specs.Scopes.{all_visible, made_once}
use Rattle.co_core.specs.Jumps.{ends_placed, jumps_placed, points_differ}
use Rattle.co_core.specs.Plans.{ends_noexcept, finals_noexcept, main_fits, params_listed, plans_call, storage_fits}
use Rattle.co_core.specs.Counts.{classes_nest, counts_fit, held_match, marks_match, sizes_fit}
use Rattle.co_core.specs.Valid.{holds_of}
use Rattle.co_core_holds.specs.Order.{in_order}

-- all of these tests, and then the last one
abbrev chain : Bool → List Bool → Bool
chain end [] = end
chain end (test ∷ tests) = test && chain end tests

-- a test that comes first may come after the next one
later : (a c rest moved : Bool) → (c && rest) ≡ moved → (c && (a && rest)) ≡ (a && moved)
later true c rest moved p = p
later false true rest moved p = refl
later false false rest moved p = refl

-- and after as many as there are
moves : (c end : Bool) (tests : List Bool) → (c && chain end tests) ≡ chain (c && end) tests
moves c end [] = refl
moves c end (test ∷ tests) = later test c (chain end tests) (chain (c && end) tests) (moves c end tests)

last : (a c : Bool) → (c && a) ≡ (a && c)
last true true = refl
last true false = refl
last false true = refl
last false false = refl

module _ (unit : UnitParts) where
  abbrev before_sizes : List Bool
  before_sizes =
      ids_held unit ∷ all_typed unit ∷ numbers_fit unit ∷ made_once unit ∷ all_visible unit ∷ jumps_placed unit ∷ points_differ unit ∷ ends_noexcept unit ∷ finals_noexcept unit ∷ main_fits unit ∷ ends_placed unit ∷
      params_listed unit ∷ plans_call unit ∷ marks_match unit ∷ storage_fits unit ∷ held_match unit ∷ classes_nest unit.classes ∷ []

  abbrev before_made : List Bool
  before_made = all_visible unit ∷ jumps_placed unit ∷ points_differ unit ∷ ends_noexcept unit ∷ finals_noexcept unit ∷ main_fits unit ∷ []

  abbrev after_made : Bool
  after_made =
      ends_placed unit && (params_listed unit && (plans_call unit && (marks_match unit && (storage_fits unit && (held_match unit && (classes_nest unit.classes && (sizes_fit unit && counts_fit unit)))))))

pub order_is_free : (unit : UnitParts) → in_order unit ≡ holds_of unit
order_is_free unit =
    moves (counts_fit unit) (sizes_fit unit) (before_sizes unit)
    ∙ (ap (λ end. chain end (before_sizes unit)) (last (sizes_fit unit) (counts_fit unit))
    ∙ ap (λ rest. ids_held unit && (all_typed unit && (numbers_fit unit && rest))) (moves (made_once unit) (after_made unit) (before_made unit)))
