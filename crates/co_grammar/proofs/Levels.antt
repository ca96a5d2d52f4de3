-- A stack has no more levels than symbols.
use Rattle.std.proofs.Common.{ℕ, ◌+◌, ◌≤◌, Bool, true, false, cond, List, [], ◌∷◌, length, arith}
use Rattle.co_rules.specs.declared.symbol.Symbol.{Symbol}
use Rattle.co_grammar.specs.Machine.{is_close, levels}

one_more : (b : Bool) (n m : ℕ) → n ≤ m → cond b (n + 1) n ≤ m + 1
one_more true n m h = omega arith
one_more false n m h = omega arith

pub levels_most : (stack : List Symbol) → levels stack ≤ length stack
levels_most [] = omega arith
levels_most (s ∷ rest) = let h = one_more (is_close s) (levels rest) (length rest) (levels_most rest) in omega (arith, h)
