use Rattle.std.proofs.Common.{◌≡◌, ◌++◌, take}
use Rattle.co_types.specs.Names.{infos}
use Rattle.co_types.proofs.table.copy_entries.Given as goal

abbrev pub invariant-loop-entry : goal.invariant-loop-entry
invariant-loop-entry l = l.copied ≡ l.fn.copied ++ infos (take l.entry-index l.entries)
