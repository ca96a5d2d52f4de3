-- Which slots are marked as holders of awaits after some acts.
use Rattle.std.specs.Prelude.{ℕ, Bool, true, false, ◌&&◌, nat_lt, if◌then◌else◌, slice_index_or, slice_set}
use Rattle.co_base.specs.declared.ids.SlotId.{SlotId}
use Rattle.co_core_tree.specs.declared.exprs.CoreExpr.{CoreExpr, end_of-AwaitPlan, more_of-AwaitPlan}
use Rattle.co_core_tree.specs.declared.exprs.CoreExpr.TheVariants as expr
use Rattle.co_core_tree.specs.Acts.{Act, Does, Keeps, Passes, Starts}
use Rattle.co_core_kept.specs.declared.holders.Holders.{Holders}

-- whether a set of 4,096 slots has this one
abbrev pub has_mark : Holders → ℕ → Bool
has_mark s k = nat_lt k 4096 && slice_index_or s.marked k false

abbrev pub with_mark : Holders → SlotId → Holders
with_mark s slot = if nat_lt slot.0 4096 then record { marked = slice_set s.marked slot.0 true } else s

abbrev pub expr_marked : Holders → CoreExpr → Holders
expr_marked s (expr.Await' n (more_of-AwaitPlan operand holder ready suspend answer resume point span end_of-AwaitPlan)) = with_mark s holder
expr_marked s e = s

abbrev pub marked_after : Holders → Act → Holders
marked_after s (Does conditional e) = expr_marked s e
marked_after s (Passes e) = s
marked_after s (Starts i) = s
marked_after s (Keeps part) = s
