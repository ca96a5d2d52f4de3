use Rattle.std.proofs.Common.{◌≡◌, OnOk, sym, subst}
use Rattle.co_tree.specs.Types.{simple_kind}
use Rattle.co_print.specs.Printed.{put_all}
use Rattle.co_print.proofs.types.print_simple_type.Goals as goal

pub returns-in-SuspendAlways : goal.returns-in-SuspendAlways
returns-in-SuspendAlways c =
    subst (λ k. OnOk c.standard-in-SuspendAlways.result (c.standard-in-SuspendAlways.new.self ≡ put_all c.args.out.now (simple_kind k))) (sym c.in-SuspendAlways.is) c.standard-in-SuspendAlways.ensures

pub returns-in-SuspendNever : goal.returns-in-SuspendNever
returns-in-SuspendNever c =
    subst (λ k. OnOk c.standard-in-SuspendNever.result (c.standard-in-SuspendNever.new.self ≡ put_all c.args.out.now (simple_kind k))) (sym c.in-SuspendNever.is) c.standard-in-SuspendNever.ensures
