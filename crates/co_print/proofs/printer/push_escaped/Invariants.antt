use Rattle.std.proofs.Common.{◌≡◌, ◌++◌, drop}
use Rattle.co_print.specs.Spelling.{escaped_all}
use Rattle.co_print.proofs.printer.push_escaped.Given as goal

abbrev pub invariant-loop-byte : goal.invariant-loop-byte
invariant-loop-byte l = l.text ++ escaped_all (drop l.byte-index l.bytes) ≡ l.initial.text ++ escaped_all l.bytes
