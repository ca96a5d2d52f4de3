use Rattle.std.proofs.Common.{refl}
use Rattle.co_core_params.proofs.Naming.{names_are}
use Rattle.co_core_params.proofs.names.names_copies.Goals as goal

pub returns : goal.returns
returns c =
    names_are c.args.funcs.now c.args.func.now c.args.plan.now _ _ _ _ _ _ c.as_slice.ensures refl refl c.visit_stmt.ensures.visited c.visit_await.ensures.visited c.visit_await-2.ensures.visited c.visit_inits.ensures.visited
