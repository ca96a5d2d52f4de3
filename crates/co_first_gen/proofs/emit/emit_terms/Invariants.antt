use Rattle.std.proofs.Common.{◌≡◌, ◌++◌, take}
use Rattle.co_first_gen.specs.Code.{terms_code}
use Rattle.co_first_gen.proofs.emit.emit_terms.Given as goal

abbrev pub invariant-loop-term : goal.invariant-loop-term
invariant-loop-term l = l.code.items ≡ l.initial.code.items ++ terms_code l.span (take l.term-index l.terms)
