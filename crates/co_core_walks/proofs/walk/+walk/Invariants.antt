use Rattle.std.proofs.Common.{◌≡◌, Bool, false, List, flat_map, fold, drop}
use Rattle.co_core_tree.specs.Acts.{acts}
use Rattle.co_base.specs.declared.ids.FuncId.{FuncId}
use Rattle.co_core_walks.specs.Lists.{inits_acts}
use Rattle.co_core_walks.proofs.walk.+walk.Given as goal

abbrev pub invariant-walk_exprs-loop-e : goal.invariant-walk_exprs-loop-e
invariant-walk_exprs-loop-e g l =
    (objects : FuncId → List Bool) (c : Bool) → fold g.V.Visitor.after l.v (flat_map (acts objects c false) (drop l.e-index l.es)) ≡ fold g.V.Visitor.after l.initial.v (flat_map (acts objects c false) l.es)

abbrev pub invariant-walk_inits-loop-i : goal.invariant-walk_inits-loop-i
invariant-walk_inits-loop-i g l =
    (objects : FuncId → List Bool) (flags : List Bool) (c : Bool) → fold g.V.Visitor.after l.v (inits_acts objects (drop l.i-index flags) c (drop l.i-index l.is)) ≡ fold g.V.Visitor.after l.initial.v (inits_acts objects flags c l.is)
