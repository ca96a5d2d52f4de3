-- What the layers above may rest on.
use Rattle.std.specs.Prelude.{Bool, ◌&&◌, ◌↔◌, IsTrue}
use Rattle.co_core_tree.specs.declared.units.UnitParts.{UnitParts}
use Rattle.co_core.specs.Ids.{ids_held}
use Rattle.co_core.specs.Typed.{all_typed}
use Rattle.co_core.specs.Numbers.{numbers_fit}
use Rattle.co_core.specs.Scopes.{all_visible, made_once}
use Rattle.co_core.specs.Jumps.{ends_placed, jumps_placed, points_differ}
use Rattle.co_core.specs.Plans.{ends_noexcept, finals_noexcept, main_fits, params_listed, plans_call, storage_fits}
use Rattle.co_core.specs.Counts.{classes_nest, counts_fit, held_match, marks_match, sizes_fit}

-- A valid unit: each conversion, construction, scope and implicit call is written out, and nothing of it is wrong.
pub record IsValid (unit : UnitParts) : Type 0 where
  -- each class, function, slot, global and text that it names is in its table
  pub ids : IsTrue (ids_held unit)
  -- each part of a form has the type that the form needs
  pub types : IsTrue (all_typed unit)
  -- each constant and the value of each global is a value of its type, and no operation computes in `bool`
  pub numbers : IsTrue (numbers_fit unit)
  -- a slot is named only in its function, scope, full-expression or handler
  pub scopes : IsTrue (all_visible unit)
  -- `Break` and `Continue` stand in a `Loop`, an `Await` in a function with a plan
  pub jumps : IsTrue (jumps_placed unit)
  -- the points of a function's awaits are different and below 65,535, and none is 2
  pub points : IsTrue (points_differ unit)
  -- each destructor and each function that releases storage is noexcept
  pub ends : IsTrue (ends_noexcept unit)
  -- a plan's final await calls noexcept functions alone, and nothing in it throws, suspends or resumes
  pub finals : IsTrue (finals_noexcept unit)
  -- `main` has no parameter, no plan and the result `int`, and nothing names it
  pub main : IsTrue (main_fits unit)
  -- no slot is made at two places; a `Local` stands directly in the list of a `Scope` and makes a slot of kind Local, and a
  -- `Temp` one of kind Temp
  pub made : IsTrue (made_once unit)
  -- a `Return` stands in a function without a plan, a `Leave` in one with a plan, and no `Await` in a handler
  pub returns : IsTrue (ends_placed unit)
  -- the parameters, the promise and the copies of parameters are the slots of their kinds, each once
  pub params : IsTrue (params_listed unit)
  -- each function that a plan names has the parameters and the result that its place needs
  pub plans : IsTrue (plans_call unit)
  -- each class temporary of a conditional operand has a mark of its own
  pub marks : IsTrue (marks_match unit)
  -- no `Await` stands in a `New`, and the functions that a `New` or a `Delete` names fit
  pub storage : IsTrue (storage_fits unit)
  -- each value that is kept over an await has a slot of its own
  pub held : IsTrue (held_match unit)
  -- no class contains an object of its own class
  pub classes : IsTrue (classes_nest unit.classes)
  -- no class has more than 1,024 words, no function more than 1,048,576 statements
  pub sizes : IsTrue (sizes_fit unit)
  -- at most 1,024 globals, 65,535 suspension points, and 4,096 slots of a function
  pub counts : IsTrue (counts_fit unit)

-- The same as one test.
abbrev pub holds_of : UnitParts → Bool
holds_of unit =
    ids_held unit && (all_typed unit && (numbers_fit unit && (all_visible unit && (jumps_placed unit && (points_differ unit && (ends_noexcept unit &&
    (finals_noexcept unit && (main_fits unit && (made_once unit && (ends_placed unit && (params_listed unit && (plans_call unit && (marks_match unit &&
    (storage_fits unit && (held_match unit && (classes_nest unit.classes && (sizes_fit unit && counts_fit unit)))))))))))))))))

-- The one test holds exactly where each rule does.
abbrev pub HoldsIsValid : Type 0
HoldsIsValid = (unit : UnitParts) → IsTrue (holds_of unit) ↔ IsValid unit
