use Rattle.std.proofs.Common.{◌≡◌, ◌++◌, drop, false}
use Rattle.co_lex.specs.Scan.{text_of}
use Rattle.co_lex.proofs.scan.text_of.Given as goal

abbrev pub invariant-loop-b : goal.invariant-loop-b
invariant-loop-b l = l.text ++ text_of l.is_escaped (drop l.b-index l.z) ≡ text_of false l.z
