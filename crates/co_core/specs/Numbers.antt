-- Each number of a unit is a value of its type.
use Rattle.std.specs.Prelude.{Bool, true, not, ◌&&◌, List, ℤ, pos}
use Rattle.std.specs.List.{list_all}
use Rattle.std.specs.Ordering.{int_eq}
use Rattle.co_base.specs.declared.kinds.Num.{Num}
use Rattle.co_base.specs.declared.kinds.Num.TheVariants as num
use Rattle.co_base.specs.declared.kinds.AtomicKind.{AtomicKind}
use Rattle.co_base.specs.declared.kinds.AtomicKind.TheVariants as atomic
use Rattle.co_base.specs.Integers.{lies_in}
use Rattle.co_types.specs.declared.types.Head.{Head}
use Rattle.co_types.specs.declared.types.Head.TheVariants as head
use Rattle.co_types.specs.Types.{head_of, same_num}
use Rattle.co_core_tree.specs.declared.exprs.CoreExpr.{CoreExpr}
use Rattle.co_core_tree.specs.declared.exprs.CoreExpr.TheVariants as expr
use Rattle.co_core_tree.specs.declared.units.GlobalInfo.{GlobalInfo}
use Rattle.co_core_tree.specs.declared.units.CoreFunc.{CoreFunc}
use Rattle.co_core_tree.specs.declared.units.UnitParts.{UnitParts}
use Rattle.co_core_tree.specs.Acts.{Act, Does, Passes, Starts, Keeps}
use Rattle.co_core.specs.Bodies.{func_acts}

-- whether an i64 holds a value of the type; a `std::size_t` it holds by its bits [basic.fundamental]
abbrev pub holds_value : Num → ℤ → Bool
holds_value num.Bool v = lies_in num.Bool v
holds_value num.Int v = lies_in num.Int v
holds_value n v = true

abbrev pub atomic_value : AtomicKind → ℤ → Bool
atomic_value atomic.Bool v = holds_value num.Bool v
atomic_value atomic.Int v = holds_value num.Int v
atomic_value atomic.Long v = true
atomic_value atomic.VoidPointer v = int_eq v (pos 0)

abbrev pub value_of_head : Head → ℤ → Bool
value_of_head (head.Num n) v = holds_value n v
value_of_head (head.Atomic k) v = atomic_value k v
value_of_head h v = int_eq v (pos 0)

abbrev pub global_value : GlobalInfo → Bool
global_value global = value_of_head (head_of global.of) global.value

-- a constant is a value of its type, and no operation computes in `bool` [conv.prom]
abbrev pub expr_numbers : CoreExpr → Bool
expr_numbers (expr.Const n v at) = holds_value n v
expr_numbers (expr.Arith' op n i l k r at) = not (same_num n num.Bool)
expr_numbers (expr.Update' op n i place k value old at) = not (same_num n num.Bool)
expr_numbers e = true

abbrev pub act_numbers : Act → Bool
act_numbers (Does conditional e) = expr_numbers e
act_numbers (Passes e) = true
act_numbers (Starts i) = true
act_numbers (Keeps part) = true

abbrev pub func_numbers : List CoreFunc → CoreFunc → Bool
func_numbers funcs func = list_all act_numbers (func_acts funcs func)

abbrev pub numbers_fit : UnitParts → Bool
numbers_fit unit = list_all global_value unit.globals && list_all (func_numbers unit.funcs) unit.funcs
