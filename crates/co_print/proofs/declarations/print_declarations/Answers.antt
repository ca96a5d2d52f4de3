use Rattle.std.proofs.Common.{refl}
use Rattle.co_tree.specs.Declarations.{item, items}
use Rattle.co_print.proofs.StepsStatements as step
use Rattle.co_print.proofs.declarations.print_declarations.Goals as goal

pub loop-declaration-preserved : goal.loop-declaration-preserved
loop-declaration-preserved c =
    step.each_step item items (λ x xs. refl) _ _ _ c.args.declarations.now c.loop-declaration.declaration-index c.declaration-item.result c.loop-declaration-test.true c.declaration-item.is c.in_ok-print_declaration.ensures c.loop-declaration.invariant
