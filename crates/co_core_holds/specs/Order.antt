-- The rules of validity in the order in which they are tested: the limits and the tables come first, and that slots are made
-- once before that they are visible, since others rest on these.
use Rattle.std.specs.Prelude.{Bool, ◌&&◌}
use Rattle.co_core_tree.specs.declared.units.UnitParts.{UnitParts}
use Rattle.co_core.specs.Ids.{ids_held}
use Rattle.co_core.specs.Typed.{all_typed}
use Rattle.co_core.specs.Numbers.{numbers_fit}
use Rattle.co_core.specs.Scopes.{all_visible, made_once}
use Rattle.co_core.specs.Jumps.{ends_placed, jumps_placed, points_differ}
use Rattle.co_core.specs.Plans.{ends_noexcept, finals_noexcept, main_fits, params_listed, plans_call, storage_fits}
use Rattle.co_core.specs.Counts.{classes_nest, counts_fit, held_match, marks_match, sizes_fit}

module _ (unit : UnitParts) where
  -- what is kept and stored, and how large the classes and functions are
  abbrev pub from_marks : Bool
  from_marks = marks_match unit && (storage_fits unit && (held_match unit && (classes_nest unit.classes && sizes_fit unit)))

  -- those, and the rules on `main`, on parameters and on the functions that plans name
  abbrev pub from_main : Bool
  from_main = main_fits unit && (ends_placed unit && (params_listed unit && (plans_call unit && from_marks)))

  -- those, and the rules on what is made, on scopes, jumps, points and noexcept functions
  abbrev pub from_made : Bool
  from_made = made_once unit && (all_visible unit && (jumps_placed unit && (points_differ unit && (ends_noexcept unit && (finals_noexcept unit && from_main)))))

  abbrev pub in_order : Bool
  in_order = counts_fit unit && (ids_held unit && (all_typed unit && (numbers_fit unit && from_made)))
