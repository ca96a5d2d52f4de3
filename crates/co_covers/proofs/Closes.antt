-- Closed levels derive nothing, wherever they stand in a stack.
use Rattle.std.proofs.Common.{List, [], ◌∷◌, ◌++◌}
use Rattle.co_rules.specs.declared.symbol.Symbol.{Symbol}
use Rattle.co_rules.specs.declared.symbol.Symbol.TheVariants.{Many, Close}
use Rattle.co_rules.specs.declared.symbol.Terminal.{Terminal}
use Rattle.co_rules.specs.Derives.{Derives, nothing, token, close, one, some, none, more, last, taken, left_out}

-- the second stack is the first with closed levels put in
pub data Closes : List Symbol → List Symbol → Type 0 where
  done : Closes [] []
  keep : (s : Symbol) (a b : List Symbol) → Closes a b → Closes (s ∷ a) (s ∷ b)
  put : (a b : List Symbol) → Closes a b → Closes a (Close ∷ b)

pub same : (a : List Symbol) → Closes a a
same [] = done
same (s ∷ a) = keep s a a (same a)

under : (xs a b : List Symbol) → Closes a b → Closes (xs ++ a) (xs ++ b)
under [] a b c = c
under (x ∷ xs) a b c = keep x (xs ++ a) (xs ++ b) (under xs a b c)

pub closed : {a b : List Symbol} {ts : List Terminal} → Derives a ts → Closes a b → Derives b ts
closed d (put a b c) = close b _ (closed d c)
closed nothing done = nothing
closed (token p rest t ts h d) (keep s x b c) = token p b t ts h (closed d c)
closed (close rest ts d) (keep s x b c) = close b ts (closed d c)
closed (one n rest body t ts g d) (keep s x b c) = one n b body t ts g (closed d (under body rest b c))
closed (some n rest body t ts g d) (keep s x b c) = some n b body t ts g (closed d (under body rest b c))
closed (none n rest ts d) (keep s x b c) = none n b ts (closed d c)
closed (more n rest body t ts g d) (keep s x b c) = more n b body t ts g (closed d (under body (Many n ∷ rest) (Many n ∷ b) (keep (Many n) rest b c)))
closed (last n rest ts d) (keep s x b c) = last n b ts (closed d c)
closed (taken n p rest body t ts g d) (keep s x b c) = taken n p b body t ts g (closed d (under body rest b c))
closed (left_out n p rest ts h d) (keep s x b c) = left_out n p b ts h (closed d c)

-- a level is closed under the symbol on top
pub beneath : {s : Symbol} {a : List Symbol} {ts : List Terminal} → Derives (s ∷ a) ts → Derives (s ∷ Close ∷ a) ts
beneath {s} {a} d = closed d (keep s a (Close ∷ a) (put a a (same a)))
