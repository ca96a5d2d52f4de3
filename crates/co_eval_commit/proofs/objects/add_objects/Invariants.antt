use Rattle.std.proofs.Common.{◌≡◌, ◌++◌, ◌+◌, ◌≤◌, length}
use Rattle.std.specs.Vec.{vec_len, vec_capacity}
use Rattle.co_eval_commit.proofs.objects.add_objects.Given as goal

abbrev pub invariant-loop-store : goal.invariant-loop-store
invariant-loop-store l = record {
  items : l.store.objects.items ++ l.objects ≡ l.fn.store.objects.items ++ l.fn.objects;
  blocks : l.store.blocks.items ≡ l.fn.store.blocks.items;
  room : vec_len l.store.objects + length l.objects ≤ vec_capacity l.store.objects;
}

abbrev pub decreases-loop-store : goal.decreases-loop-store
decreases-loop-store l = length l.objects
