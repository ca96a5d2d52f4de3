-- What the table of rules keeps.
use Rattle.std.specs.Prelude.{◌≡◌, List}
use Rattle.co_rules.specs.declared.symbol.Nonterminal.{Nonterminal}
use Rattle.co_rules.specs.declared.symbol.Symbol.{Symbol}
use Rattle.co_rules.specs.declared.symbol.Terminal.{Terminal}
use Rattle.co_rules.specs.Derives.{Begins}

-- A nonterminal has one rule at most that begins with a terminal.
abbrev pub OneRuleBegins : Type 0
OneRuleBegins = (n : Nonterminal) (t : Terminal) (body other : List Symbol) → Begins n t body → Begins n t other → body ≡ other
