use Rattle.std.proofs.Common.{◌≡◌, ◌++◌, drop}
use Rattle.co_code.specs.Listing as listing
use Rattle.co_code.proofs.listing_lines.dump.Given as goal

abbrev pub invariant-loop-n : goal.invariant-loop-n
invariant-loop-n l = listing.lines_from 0 l.instr-items ≡ l.out ++ listing.lines_from l.n (drop l.n l.instr-items)
