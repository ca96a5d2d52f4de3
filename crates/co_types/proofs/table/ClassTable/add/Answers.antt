use Rattle.co_types.proofs.Entries.{entries_grow}
use Rattle.co_types.proofs.table.ClassTable.add.Goals as goal

pub invariant_of-self-2 : goal.invariant_of-self-2
invariant_of-self-2 c =
    entries_grow c.self.inside.entries.items c.push.new.self.items _ c.in_ok-push.ensures.items (rw (← c.self.view_is) at c.requires.room) c.self.invariant.1 (c.requires.counted, c.in_ok-names.ensures)
