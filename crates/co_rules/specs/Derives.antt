-- Which lists of terminals a list of symbols derives, by the rules alone.
use Rattle.std.specs.Prelude.{◌≡◌, true, false, List, [], ◌∷◌, ◌++◌}
use Rattle.co_rules.specs.declared.symbol.Nonterminal.{Nonterminal}
use Rattle.co_rules.specs.declared.symbol.Pattern.{Pattern}
use Rattle.co_rules.specs.declared.symbol.Symbol.{Symbol}
use Rattle.co_rules.specs.declared.symbol.Symbol.TheVariants.{Token, One, Maybe, Many, Greedy, Close}
use Rattle.co_rules.specs.declared.symbol.Terminal.{Terminal}
use Rattle.co_rules.specs.Pattern.{admits}
use Rattle.co_rules.specs.Rule.{Rule, rules, Stands}

-- A rule of the nonterminal begins with the terminal and goes on with the body.
abbrev pub Begins : Nonterminal → Terminal → List Symbol → Type 0
Begins n t body = (r : Rule) × Stands r rules × (r.of ≡ n) × (admits r.head t ≡ true) × (r.body ≡ body)

-- no terminal of the pattern comes next
abbrev pub NoneNext : Pattern → List Terminal → Type 0
NoneNext p [] = Unit {0}
NoneNext p (t ∷ ts) = admits p t ≡ false

-- A nonterminal is replaced by a rule of its own; `Maybe`, `Many` and `Greedy` may also derive nothing, the last only where no
-- terminal of its pattern comes next: an `else` belongs to the nearest `if` [stmt.if], and what may belong to the type of a
-- `new` does [expr.new].
pub data Derives : List Symbol → List Terminal → Type 0 where
  nothing : Derives [] []
  token : (p : Pattern) (rest : List Symbol) (t : Terminal) (ts : List Terminal) → admits p t ≡ true → Derives rest ts → Derives (Token p ∷ rest) (t ∷ ts)
  close : (rest : List Symbol) (ts : List Terminal) → Derives rest ts → Derives (Close ∷ rest) ts
  one : (n : Nonterminal) (rest body : List Symbol) (t : Terminal) (ts : List Terminal) → Begins n t body → Derives (body ++ rest) ts → Derives (One n ∷ rest) (t ∷ ts)
  some : (n : Nonterminal) (rest body : List Symbol) (t : Terminal) (ts : List Terminal) → Begins n t body → Derives (body ++ rest) ts → Derives (Maybe n ∷ rest) (t ∷ ts)
  none : (n : Nonterminal) (rest : List Symbol) (ts : List Terminal) → Derives rest ts → Derives (Maybe n ∷ rest) ts
  more : (n : Nonterminal) (rest body : List Symbol) (t : Terminal) (ts : List Terminal) → Begins n t body → Derives (body ++ Many n ∷ rest) ts → Derives (Many n ∷ rest) (t ∷ ts)
  last : (n : Nonterminal) (rest : List Symbol) (ts : List Terminal) → Derives rest ts → Derives (Many n ∷ rest) ts
  taken : (n : Nonterminal) (p : Pattern) (rest body : List Symbol) (t : Terminal) (ts : List Terminal) → Begins n t body → Derives (body ++ rest) ts → Derives (Greedy n p ∷ rest) (t ∷ ts)
  left_out : (n : Nonterminal) (p : Pattern) (rest : List Symbol) (ts : List Terminal) → NoneNext p ts → Derives rest ts → Derives (Greedy n p ∷ rest) ts
