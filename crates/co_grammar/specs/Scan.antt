-- The first fault of a list of tokens.
use Rattle.std.specs.Prelude.{◌≡◌, ℕ, ◌+◌, Bool, if◌then◌else◌, nat_lt, List, [], ◌∷◌, Option, Some, None, Result, Ok, Err}
use Rattle.co_lex.specs.declared.token.Token.{Token}
use Rattle.co_grammar.specs.declared.fault.Fault.{Fault}
use Rattle.co_grammar.specs.declared.fault.Fault.TheVariants.{Syntax, TooDeep, NoMemory}
use Rattle.co_grammar.specs.declared.scanner.TheConstants.{MOST_LEVELS}
use Rattle.co_rules.specs.declared.symbol.Symbol.{Symbol}
use Rattle.co_rules.specs.declared.symbol.Terminal.{Terminal}
use Rattle.co_grammar.specs.Machine.{step, levels}
use Rattle.co_rules.specs.Names.{classes, has_some}
use Rattle.co_rules.specs.Rule.{start}
use Rattle.co_rules.specs.Terminal.{terminals}

-- the end of the terminals: the file has ended too, or the next token, of which there is none, is no part of one
abbrev pub ended : ℕ → List Symbol → Result (Unit {0}) Fault
ended at [] = Ok tt
ended at (s ∷ rest) = Err (Syntax at)

-- no step is a fault at the terminal; then more than 200 open levels are; and then the rest decides
abbrev pub go_on : ℕ → Option (List Symbol) → (List Symbol → Result (Unit {0}) Fault) → Result (Unit {0}) Fault
go_on at None more = Err (Syntax at)
go_on at (Some stack) more = if nat_lt MOST_LEVELS (levels stack) then Err (TooDeep at) else more stack

-- the fault of the first terminal that has one, `at` of them having been read
abbrev pub scanned_from : Bool → ℕ → List Terminal → List Symbol → Result (Unit {0}) Fault
scanned_from has_classes at [] stack = ended at stack
scanned_from has_classes at (t ∷ ts) stack = go_on at (step has_classes t stack) (scanned_from has_classes (at + 1) ts)

-- Whether the tokens are a file of the language, or the first one that is no part of one or is nested too deep.
unfoldable pub scanned : List Token → Result (Unit {0}) Fault
scanned tokens = scanned_from (has_some (classes tokens)) 0 (terminals (classes tokens) tokens) start

-- what the code answers for one terminal is what is done there
abbrev pub Reads : Result (List Symbol) Fault → ℕ → Option (List Symbol) → Type 0
Reads (Ok stack) at told = (more : List Symbol → Result (Unit {0}) Fault) → go_on at told more ≡ more stack
Reads (Err (Syntax place)) at told = (more : List Symbol → Result (Unit {0}) Fault) → go_on at told more ≡ Err (Syntax place)
Reads (Err (TooDeep place)) at told = (more : List Symbol → Result (Unit {0}) Fault) → go_on at told more ≡ Err (TooDeep place)
Reads (Err NoMemory) at told = Unit {0}

-- what the code answers is what is defined, unless memory ran out
abbrev pub Gives : {A : Type 0} → Result A Fault → Result (Unit {0}) Fault → Type 0
Gives (Ok a) told = told ≡ Ok tt
Gives (Err (Syntax at)) told = told ≡ Err (Syntax at)
Gives (Err (TooDeep at)) told = told ≡ Err (TooDeep at)
Gives (Err NoMemory) told = Unit {0}
