-- Marks and kept values have slots of their own, and nothing is too large.
use Rattle.std.specs.Prelude.{ℕ, zero, suc, ◌+◌, Bool, true, false, not, ◌&&◌, nat_le, List, [], ◌∷◌, ◌++◌, length, Option, None, Some, slice_get}
use Rattle.std.specs.List.{list_all}
use Rattle.co_base.specs.declared.ids.ClassId.{ClassId}
use Rattle.co_base.specs.declared.ids.SlotId.{SlotId}
use Rattle.co_types.specs.declared.types.CoType.{CoType}
use Rattle.co_types.specs.declared.types.Head.{Head}
use Rattle.co_types.specs.declared.types.Head.TheVariants as head
use Rattle.co_types.specs.declared.classes.ClassInfo.{ClassInfo}
use Rattle.co_types.specs.declared.classes.FieldInfo.{FieldInfo}
use Rattle.co_types.specs.Types.{head_of, target_of, same_head}
use Rattle.co_core_tree.specs.declared.exprs.CoreExpr.{CoreExpr, end_of-AwaitPlan, more_of-AwaitPlan}
use Rattle.co_core_tree.specs.declared.exprs.CoreExpr.TheVariants as expr
use Rattle.co_core_tree.specs.declared.exprs.Init.TheVariants as init
use Rattle.co_core_tree.specs.declared.units.SlotInfo.{SlotInfo}
use Rattle.co_core_tree.specs.declared.units.PromisePlan.{PromisePlan}
use Rattle.co_core_tree.specs.declared.units.CoreFunc.{CoreFunc}
use Rattle.co_core_tree.specs.declared.units.UnitParts.{UnitParts}
use Rattle.co_core_tree.specs.Acts.{Part, OfExpr, OfInit, Act, Does, Passes, Starts, Keeps}
use Rattle.co_core_tree.specs.Sizes.{class_words}
use Rattle.co_core_tree.specs.Slots.{Temporary, held_of, holds_class, is_held_kind, slot_at, temporaries}
use Rattle.co_core_typing.specs.Gives.{Gives, Place, Value, same_shape, same_target, shape_of}
use Rattle.co_core_typing.specs.Rules.{gives}
use Rattle.co_core.specs.Bodies.{body_of, evaluated, func_acts, joined_acts, plan_fulls, role_fulls}
use Rattle.co_core.specs.Jumps.{func_points}
use Rattle.co_core.specs.Plans.{count_kind}
use Rattle.co_core.specs.Scopes.{holder_of, is_mark, member}

-- ---- marks

module _ (func : CoreFunc) where
  abbrev pub is_marked : Temporary → Bool
  is_marked temporary = temporary.conditional && holds_class (slot_at func temporary.slot)

  abbrev pub one_if : Bool → ℕ
  one_if true = 1
  one_if false = 0

  abbrev pub count_marked : List Temporary → ℕ
  count_marked [] = 0
  count_marked (temporary ∷ more) = one_if (is_marked temporary) + count_marked more

-- Each temporary of a class that is made in a conditional operand has a mark of its own: the marks of a function, by their
-- numbers, are those of its temporaries as these stand in the text [class.temporary].
abbrev pub func_marked : List CoreFunc → CoreFunc → Bool
func_marked funcs func = same (count_marked func (temporaries (func_acts funcs func))) (count_kind is_mark func.slots)
  where
    same : ℕ → ℕ → Bool
    same a b = nat_le a b && nat_le b a

abbrev pub marks_match : UnitParts → Bool
marks_match unit = list_all (func_marked unit.funcs) unit.funcs

-- ---- kept values

abbrev pub is_suspend_type : Head → Bool
is_suspend_type head.SuspendAlways = true
is_suspend_type head.SuspendNever = true
is_suspend_type h = false

-- a value is kept as it is, a place by a reference to it
abbrev pub keeps_given : CoType → Gives → Bool
keeps_given of (Place at) = same_head (head_of of) head.Ref && same_target (target_of of) (Some at)
keeps_given of (Value shape) = same_shape (shape_of of) shape
keeps_given of g = false

module _ (unit : UnitParts) (func : CoreFunc) where
  abbrev pub keeps_part : CoType → Part → Bool
  keeps_part of (OfExpr e) = keeps_given of (gives unit func [] e)
  keeps_part of (OfInit (init.Value e)) = keeps_given of (gives unit func [] e)
  keeps_part of (OfInit (init.Members' n members)) = is_suspend_type (head_of of)
  keeps_part of (OfInit i) = false

  -- the acts of a function in the order of evaluation
  abbrev pub acts_in_order : List Act
  acts_in_order = joined_acts unit.funcs (role_fulls unit.funcs func.role ++ (plan_fulls unit.funcs func.plan ++ evaluated unit.funcs func.body))

  abbrev pub expr_holder : CoreExpr → List SlotId
  expr_holder (expr.Await' n (more_of-AwaitPlan operand holder ready suspend answer resume point span end_of-AwaitPlan)) = holder ∷ []
  expr_holder e = []

  -- the holders of awaits
  abbrev pub holders : List Act → List SlotId
  holders [] = []
  holders (Does conditional e ∷ acts) = expr_holder e ++ holders acts
  holders (Passes e ∷ acts) = holders acts
  holders (Starts i ∷ acts) = holders acts
  holders (Keeps part ∷ acts) = holders acts

  abbrev pub plan_holders : Option PromisePlan → List SlotId
  plan_holders None = []
  plan_holders (Some plan) = holder_of func plan.initial ++ holder_of func plan.last

  abbrev pub func_holders : List SlotId
  func_holders = plan_holders func.plan ++ holders (func_acts unit.funcs func)

  -- the types of the slots of kind Held that are no await's holder, from the slot of this number on
  abbrev pub kept_types : ℕ → List SlotInfo → List CoType
  kept_types k [] = []
  kept_types k (slot ∷ slots) = kept_type (is_held_kind slot.kind && not (member (record { 0 = k }) func_holders)) slot.of ++ kept_types (k + 1) slots
    where
      kept_type : Bool → CoType → List CoType
      kept_type true of = of ∷ []
      kept_type false of = []

  abbrev pub keep : List CoType → List Part → Bool
  keep [] [] = true
  keep (of ∷ types) (part ∷ parts) = keeps_part of part && keep types parts
  keep types parts = false

  -- Each value that an expression keeps over an await has a slot of its own: the slots of kind Held that hold no awaiter, by
  -- their numbers, are those of the kept values in the order in which these are evaluated [expr.await].
  abbrev pub func_held : Bool
  func_held = keep (kept_types 0 func.slots) (held_of acts_in_order)

abbrev pub held_match : UnitParts → Bool
held_match unit = list_all (func_held unit) unit.funcs

-- ---- classes

abbrev pub head_nests : (ClassId → Bool) → Head → Bool
head_nests inner (head.Class class) = inner class
head_nests inner h = true

abbrev pub field_nests : (ClassId → Bool) → FieldInfo → Bool
field_nests inner field = head_nests inner (head_of field.of)

abbrev pub info_nests : (ClassId → Bool) → Option ClassInfo → Bool
info_nests inner None = false
info_nests inner (Some info) = list_all (field_nests inner) info.fields

-- the objects in an object of the class lie in one another at most so deep
abbrev pub nests_within : ℕ → List ClassInfo → ClassId → Bool
nests_within zero classes class = false
nests_within (suc depth) classes class = info_nests (λ c. nests_within depth classes c) (slice_get classes class.0)

abbrev pub each_class : (ClassId → Bool) → ℕ → List ClassInfo → Bool
each_class test k [] = true
each_class test k (info ∷ infos) = test (record { 0 = k }) && each_class test (k + 1) infos

-- No class contains an object of its own class, directly or through its fields: objects lie in one another no deeper than
-- there are classes [class.mem].
abbrev pub classes_nest : List ClassInfo → Bool
classes_nest classes = each_class (λ c. nests_within (length classes) classes c) 0 classes

-- ---- limits

abbrev pub words_fit : List ClassInfo → Bool
words_fit classes = each_class (λ c. nat_le (class_words classes c) 1024) 0 classes

abbrev pub statements_fit : CoreFunc → Bool
statements_fit func = nat_le (length (body_of func)) 1048576

-- No class has more than 1,024 words, and no function more than 1,048,576 statements.
abbrev pub sizes_fit : UnitParts → Bool
sizes_fit unit = words_fit unit.classes && list_all statements_fit unit.funcs

abbrev pub point_count : List CoreFunc → CoreFunc → Option PromisePlan → ℕ
point_count funcs func None = 0
point_count funcs func (Some plan) = length (func_points funcs func) + 1

abbrev pub sum_points : List CoreFunc → List CoreFunc → ℕ
sum_points funcs [] = 0
sum_points funcs (func ∷ more) = point_count funcs func func.plan + sum_points funcs more

abbrev pub slots_fit : CoreFunc → Bool
slots_fit func = nat_le (length func.slots) 4096

-- There are at most 1,024 globals and 65,535 suspension points, among which each coroutine has one more than awaits, and no
-- function has more than 4,096 slots.
abbrev pub counts_fit : UnitParts → Bool
counts_fit unit = nat_le (length unit.globals) 1024 && (nat_le (sum_points unit.funcs unit.funcs) 65535 && list_all slots_fit unit.funcs)
