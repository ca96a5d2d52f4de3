-- Which lists would be derived if an `else` could belong to any `if` before it.
use Rattle.std.specs.Prelude.{◌≡◌, ◌⊎◌, true, List, [], ◌∷◌, ◌++◌}
use Rattle.co_rules.specs.declared.symbol.Nonterminal.{Nonterminal}
use Rattle.co_rules.specs.declared.symbol.Nonterminal.TheVariants as nonterminal
use Rattle.co_rules.specs.declared.symbol.Pattern.{Pattern}
use Rattle.co_rules.specs.declared.symbol.Symbol.{Symbol}
use Rattle.co_rules.specs.declared.symbol.Symbol.TheVariants.{Token, One, Maybe, Many, Greedy, Close}
use Rattle.co_rules.specs.declared.symbol.Terminal.{Terminal}
use Rattle.co_rules.specs.Derives.{Begins, NoneNext}
use Rattle.co_rules.specs.Pattern.{admits}

-- As the rules derive, but that an `else` part may be left out before an `else` too.
pub data Loosely : List Symbol → List Terminal → Type 0 where
  nothing : Loosely [] []
  token : (p : Pattern) (rest : List Symbol) (t : Terminal) (ts : List Terminal) → admits p t ≡ true → Loosely rest ts → Loosely (Token p ∷ rest) (t ∷ ts)
  close : (rest : List Symbol) (ts : List Terminal) → Loosely rest ts → Loosely (Close ∷ rest) ts
  one : (n : Nonterminal) (rest body : List Symbol) (t : Terminal) (ts : List Terminal) → Begins n t body → Loosely (body ++ rest) ts → Loosely (One n ∷ rest) (t ∷ ts)
  some : (n : Nonterminal) (rest body : List Symbol) (t : Terminal) (ts : List Terminal) → Begins n t body → Loosely (body ++ rest) ts → Loosely (Maybe n ∷ rest) (t ∷ ts)
  none : (n : Nonterminal) (rest : List Symbol) (ts : List Terminal) → Loosely rest ts → Loosely (Maybe n ∷ rest) ts
  more : (n : Nonterminal) (rest body : List Symbol) (t : Terminal) (ts : List Terminal) → Begins n t body → Loosely (body ++ Many n ∷ rest) ts → Loosely (Many n ∷ rest) (t ∷ ts)
  last : (n : Nonterminal) (rest : List Symbol) (ts : List Terminal) → Loosely rest ts → Loosely (Many n ∷ rest) ts
  taken : (n : Nonterminal) (p : Pattern) (rest body : List Symbol) (t : Terminal) (ts : List Terminal) → Begins n t body → Loosely (body ++ rest) ts → Loosely (Greedy n p ∷ rest) (t ∷ ts)
  left_out : (n : Nonterminal) (p : Pattern) (rest : List Symbol) (ts : List Terminal) → (n ≡ nonterminal.Else) ⊎ NoneNext p ts → Loosely rest ts → Loosely (Greedy n p ∷ rest) ts
