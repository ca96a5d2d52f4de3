-- The machine that reads a list of terminals with a stack of symbols, the first symbol on top.
use Rattle.std.specs.Prelude.{◌≡◌, ℕ, ◌+◌, Bool, true, false, not, ◌&&◌, ◌||◌, if◌then◌else◌, nat_eq, nat_le, List, [], ◌∷◌, ◌++◌, Option, Some, None}
use Rattle.std.specs.Borrow.{Bor}
use Rattle.std.specs.List.{list_any}
use Rattle.co_rules.specs.declared.symbol.Nonterminal.{Nonterminal}
use Rattle.co_rules.specs.declared.symbol.Nonterminal.TheVariants as nonterminal
use Rattle.co_rules.specs.declared.symbol.Symbol.{Symbol}
use Rattle.co_rules.specs.declared.symbol.Symbol.TheVariants.{Token, One, Maybe, Many, Greedy, Close}
use Rattle.co_rules.specs.declared.symbol.Terminal.{Terminal}
use Rattle.co_rules.specs.Pattern.{admits, nonterminal_number}
use Rattle.co_rules.specs.Rule.{Rule, rules}

-- The symbol derives nothing where no name is of a class.
abbrev pub needs_class : Symbol → Bool
needs_class (One n) = nat_eq (nonterminal_number n) (nonterminal_number nonterminal.ClassPath)
needs_class _ = false

-- whether the body derives something: with classes, each one does
abbrev pub is_usable : Bool → List Symbol → Bool
is_usable has_classes body = has_classes || not (list_any needs_class body)

-- Whether the rule is one of the nonterminal that begins with the terminal.
abbrev pub applies : Bool → Nonterminal → Terminal → Rule → Bool
applies has_classes n t r = (nat_eq (nonterminal_number r.of) (nonterminal_number n) && admits r.head t) && is_usable has_classes r.body

-- the body of the first such rule
abbrev pub body_among : Bool → Nonterminal → Terminal → List Rule → Option (List Symbol)
body_among has_classes n t [] = None
body_among has_classes n t (r ∷ rs) = if applies has_classes n t r then Some r.body else body_among has_classes n t rs

unfoldable pub body_for : Bool → Nonterminal → Terminal → Option (List Symbol)
body_for has_classes n t = body_among has_classes n t rules

-- what the code finds is what is told
abbrev pub Finds : Option (Bor (List Symbol)) → Option (List Symbol) → Type 0
Finds None told = told ≡ None
Finds (Some body) told = told ≡ Some body.now

-- whether the nonterminal stands between these in the list of all
abbrev pub is_between : Nonterminal → Nonterminal → Nonterminal → Bool
is_between n first last = nat_le (nonterminal_number first) (nonterminal_number n) && nat_le (nonterminal_number n) (nonterminal_number last)

abbrev pub put : Option (List Symbol) → List Symbol → Option (List Symbol) → Option (List Symbol)
put (Some body) rest other = Some (body ++ rest)
put None rest other = other

-- The stack after the terminal, or none where no list that the stack derives begins with it.
abbrev pub step : Bool → Terminal → List Symbol → Option (List Symbol)
step has_classes t [] = None
step has_classes t (Token p ∷ rest) = if admits p t then Some rest else None
step has_classes t (Close ∷ rest) = step has_classes t rest
step has_classes t (One n ∷ rest) = put (body_for has_classes n t) rest None
step has_classes t (Maybe n ∷ rest) = put (body_for has_classes n t) rest (step has_classes t rest)
step has_classes t (Many n ∷ rest) = put (body_for has_classes n t) (Many n ∷ rest) (step has_classes t rest)
step has_classes t (Greedy n p ∷ rest) = put (body_for has_classes n t) rest (if admits p t then None else step has_classes t rest)

abbrev pub is_close : Symbol → Bool
is_close Close = true
is_close _ = false

abbrev pub is_nil : List Symbol → Bool
is_nil [] = true
is_nil (s ∷ rest) = false

-- how many nesting levels are open
abbrev pub levels : List Symbol → ℕ
levels [] = 0
levels (s ∷ rest) = if is_close s then levels rest + 1 else levels rest
