-- What the first fault of a list of tokens means.
use Rattle.std.specs.Prelude.{◌≡◌, ℕ, ◌+◌, ◌<◌, ◌≤◌, Bool, List, [], ◌∷◌, ◌++◌, length, take, slice_index, Option, Some, None, Ok, Err, ◌↔◌}
use Rattle.co_lex.specs.declared.token.Token.{Token}
use Rattle.co_grammar.specs.declared.fault.Fault.TheVariants.{Syntax, TooDeep}
use Rattle.co_grammar.specs.declared.scanner.TheConstants.{MOST_LEVELS}
use Rattle.co_rules.specs.declared.symbol.Symbol.{Symbol}
use Rattle.co_rules.specs.declared.symbol.Terminal.{Terminal}
use Rattle.co_rules.specs.Derives.{Derives}
use Rattle.co_grammar.specs.Loose.{Loosely}
use Rattle.co_grammar.specs.Machine.{step, levels}
use Rattle.co_rules.specs.Names.{classes, has_some}
use Rattle.co_rules.specs.Rule.{start}
use Rattle.co_grammar.specs.Scan.{scanned}
use Rattle.co_rules.specs.Terminal.{terminal_of, terminals}

-- the tokens are a file, where these are the names of classes
abbrev pub IsFile : List (List ℕ) → List Token → Type 0
IsFile names tokens = Derives start (terminals names tokens)

-- they are the beginning of one
abbrev pub IsBegun : List (List ℕ) → List Token → Type 0
IsBegun names tokens = (more : List Token) × IsFile names (tokens ++ more)

abbrev pub depths_on : Option (List Symbol) → (List Symbol → List ℕ) → List ℕ
depths_on None more = []
depths_on (Some stack) more = levels stack ∷ more stack

-- how many nesting levels are open after each terminal
abbrev pub depths_from : Bool → List Terminal → List Symbol → List ℕ
depths_from has_classes [] stack = []
depths_from has_classes (t ∷ ts) stack = depths_on (step has_classes t stack) (depths_from has_classes ts)

abbrev pub depths : List Token → List ℕ
depths tokens = depths_from (has_some (classes tokens)) (terminals (classes tokens) tokens) start

-- no more levels than may be are open after any of the first so many tokens
abbrev pub IsShallow : ℕ → List ℕ → Type 0
IsShallow count depths = (i : ℕ) → i < count → slice_index depths i ≤ MOST_LEVELS

-- A list is accepted exactly where it is a file and no token opens too many levels.
abbrev pub AcceptsFiles : Type 0
AcceptsFiles = (tokens : List Token) → (scanned tokens ≡ Ok tt) ↔ (IsFile (classes tokens) tokens × IsShallow (length tokens) (depths tokens))

-- A syntax fault stands at the first token that no file has there: the tokens before it are the beginning of a file, those up to
-- and with it of none. Where the list stops before a file does, it stands at the list's end. No token before opens too many levels.
abbrev pub SyntaxIsFirst : Type 0
SyntaxIsFirst =
    (tokens : List Token) (at : ℕ) → scanned tokens ≡ Err (Syntax at) → (at ≤ length tokens) × IsBegun (classes tokens) (take at tokens)
    × (at < length tokens → IsBegun (classes tokens) (take (at + 1) tokens) → ⊥) × (at ≡ length tokens → IsFile (classes tokens) tokens → ⊥) × IsShallow at (depths tokens)

-- The other fault stands at the first token that opens too many levels, and up to and with it the tokens are the beginning of a file.
abbrev pub DepthIsFirst : Type 0
DepthIsFirst =
    (tokens : List Token) (at : ℕ) → scanned tokens ≡ Err (TooDeep at) → (at < length tokens) × IsBegun (classes tokens) (take (at + 1) tokens) × (MOST_LEVELS < slice_index (depths tokens) at)
    × IsShallow at (depths tokens)

-- That an `else` belongs to the nearest `if` [stmt.if] refuses no list: what would be a file without that rule is one with it.
abbrev pub NearestIfRefusesNone : Type 0
NearestIfRefusesNone = (names : List (List ℕ)) (tokens : List Token) → Loosely start (terminals names tokens) → IsFile names tokens

-- the stack after the terminals
abbrev pub reached_on : Option (List Symbol) → (List Symbol → Option (List Symbol)) → Option (List Symbol)
reached_on None more = None
reached_on (Some stack) more = more stack

abbrev pub reached : Bool → List Terminal → List Symbol → Option (List Symbol)
reached has_classes [] stack = Some stack
reached has_classes (t ∷ ts) stack = reached_on (step has_classes t stack) (reached has_classes ts)

-- The step from a stack: no step where no list that the stack derives begins with the token, else to a stack that derives what
-- may follow the token there; and the stack derives some list.
abbrev pub IsStep : List (List ℕ) → List Symbol → Token → Option (List Symbol) → Type 0
IsStep names stack token None = (more : List Token) → Derives stack (terminals names (token ∷ more)) → ⊥
IsStep names stack token (Some after) = (more : List Token) → Derives stack (terminals names (token ∷ more)) ↔ Derives after (terminals names more)

abbrev pub StepsAreExact : Type 0
StepsAreExact =
    (tokens before : List Token) (token : Token) (stack : List Symbol) → let names = classes tokens in
    reached (has_some names) (terminals names before) start ≡ Some stack → IsStep names stack token (step (has_some names) (terminal_of names token.kind) stack) × ((more : List Token) × Derives stack (terminals names more))
