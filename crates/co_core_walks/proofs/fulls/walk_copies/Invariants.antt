use Rattle.std.proofs.Common.{◌≡◌, List, flat_map, fold, drop}
use Rattle.co_core_tree.specs.declared.units.CoreFunc.{CoreFunc}
use Rattle.co_core_tree.specs.Slots.{init_acts_of}
use Rattle.co_core_walks.proofs.fulls.walk_copies.Given as goal

abbrev pub invariant-loop-copy : goal.invariant-loop-copy
invariant-loop-copy g l =
    (funcs : List CoreFunc) → fold g.V.Visitor.after l.v (flat_map (λ copy. init_acts_of funcs copy.init) (drop l.copy-index l.copies)) ≡ fold g.V.Visitor.after l.initial.v (flat_map (λ copy. init_acts_of funcs copy.init) l.copies)
