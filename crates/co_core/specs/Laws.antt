-- What the definitions come to.
use Rattle.std.specs.Prelude.{◌≡◌, false, List, []}
use Rattle.co_core_tree.specs.declared.exprs.CoreExpr.{CoreExpr}
use Rattle.co_core_tree.specs.declared.units.CoreFunc.{CoreFunc}
use Rattle.co_core_tree.specs.Acts.{suspends}
use Rattle.co_core_tree.specs.Slots.{acts_of, held_of}

-- An expression in which nothing awaits keeps no value.
abbrev pub KeepsForAwaitsAlone : Type 0
KeepsForAwaitsAlone = (funcs : List CoreFunc) (e : CoreExpr) → suspends (acts_of funcs e) ≡ false → held_of (acts_of funcs e) ≡ []
