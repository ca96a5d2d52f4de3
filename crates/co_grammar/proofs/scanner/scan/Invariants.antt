use Rattle.std.proofs.Common.{◌≡◌, ◌-◌, ◌≤◌, length, drop}
use Rattle.co_rules.specs.Names.{classes, has_some}
use Rattle.co_grammar.specs.Scan.{scanned, scanned_from}
use Rattle.co_rules.specs.Terminal.{terminals}
use Rattle.co_grammar.proofs.scanner.scan.Given as goal

abbrev pub invariant-loop-at : goal.invariant-loop-at
invariant-loop-at l =
    (scanned_from (has_some (classes l.fn.tokens)) l.at (terminals (classes l.fn.tokens) (drop l.at l.fn.tokens)) l.stack ≡ scanned l.fn.tokens) × (l.at ≤ length l.fn.tokens)

abbrev pub decreases-loop-at : goal.decreases-loop-at
decreases-loop-at l = length l.fn.tokens - l.at
