-- The rules derive the parameters of a tree.
use Rattle.std.proofs.Common.{ℕ, List, [], ◌∷◌, ◌++◌, Option, None, Some, refl}
use Rattle.co_lex.specs.declared.token.TokenKind.TheVariants as kind
use Rattle.co_lex.specs.declared.token.Mark.TheVariants as mark
use Rattle.co_rules.specs.Terminal.{terminal_of}
use Rattle.co_rules.specs.declared.symbol.Nonterminal.{Nonterminal}
use Rattle.co_rules.specs.declared.symbol.Nonterminal.TheVariants as n
use Rattle.co_rules.specs.declared.symbol.Symbol.{Symbol}
use Rattle.co_rules.specs.declared.symbol.Symbol.TheVariants.{One, Maybe, Many}
use Rattle.co_rules.specs.declared.symbol.Terminal.{Terminal}
use Rattle.co_rules.specs.Derives.{Derives}
use Rattle.co_rules.specs.Pattern.{admits}
use Rattle.co_tree.specs.Types.{type_id}
use Rattle.co_covers.proofs.Names as names_of
use Rattle.co_covers.proofs.Seen.{seen, both, may, again, skip, enough, maybe}
use Rattle.co_covers.proofs.Types.{type_at, type_id_of, OfType}
use Rattle.co_tree.specs.declared.declarations.Parameter.{Parameter}
use Rattle.co_tree.specs.FormedTree.{FormedParameter, FormedParameters, IsNameIf}
use Rattle.co_tree.specs.Statements.{parameter, name_if}
use Rattle.co_tree.specs.Declarations.{parameters, parameters_after}
use Rattle.co_covers.proofs.RulesOfTypes.{parameters-const, parameters-built_in_type, parameters-std, parameters-class_name, parameters-other_name, next_parameter-comma, parameter_name-name}
use Rattle.co_covers.proofs.RulesOfStatements.{catch_parameter-const, catch_parameter-built_in_type, catch_parameter-std, catch_parameter-class_name, catch_parameter-other_name}

name_maybe : (C : List (List ℕ)) (x : Option (List ℕ)) → IsNameIf x → (R : List Symbol) (ts : List Terminal) → Derives R ts → Derives (Maybe n.ParameterName ∷ R) (seen C (name_if x) ts)
name_maybe C None h R ts d = skip d
name_maybe C (Some x) h R ts d = may (parameter_name-name (terminal_of C (kind.Name x)) (names_of.name C x h)) d

-- a parameter, where the nonterminal begins with a type and goes on with a name
pub parameter_at : (C : List (List ℕ)) (N : Nonterminal) (tail R : List Symbol) → OfType N (Maybe n.ParameterName ∷ tail) → (p : Parameter) → FormedParameter C p → (ts : List Terminal) → Derives (tail ++ R) ts → Derives (One N ∷ R) (seen C (parameter p) ts)
parameter_at C N tail R o p h ts d = both C (type_id p.of) (name_if p.name) ts (type_at C N (Maybe n.ParameterName ∷ tail) R o p.of (seen C (name_if p.name) ts) h.0 (name_maybe C p.name h.1 (tail ++ R) ts d))

parameters_of : OfType n.Parameters (Maybe n.ParameterName ∷ Many n.NextParameter ∷ [])
parameters_of = record { const = parameters-const; base = record { built_in = parameters-built_in_type; library = parameters-std; path = record { class = parameters-class_name; outer = parameters-other_name } } }

pub catch_parameter_of : OfType n.CatchParameter (Maybe n.ParameterName ∷ [])
catch_parameter_of = record { const = catch_parameter-const; base = record { built_in = catch_parameter-built_in_type; library = catch_parameter-std; path = record { class = catch_parameter-class_name; outer = catch_parameter-other_name } } }

parameters_behind : (C : List (List ℕ)) (ps : List Parameter) → FormedParameters C ps → (R : List Symbol) (ts : List Terminal) → Derives R ts → Derives (Many n.NextParameter ∷ R) (seen C (parameters_after ps) ts)
unfolding admits
parameters_behind C [] h R ts d = enough d
parameters_behind C (p ∷ ps) h R ts d =
    again (next_parameter-comma (terminal_of C (kind.Mark mark.Comma)) refl) (both C (parameter p) (parameters_after ps) ts (both C (type_id p.of) (name_if p.name) (seen C (parameters_after ps) ts) (type_at C n.TypeId [] (Maybe n.ParameterName ∷ Many n.NextParameter ∷ R) type_id_of p.of (seen C (name_if p.name) (seen C (parameters_after ps) ts)) h.0.0 (name_maybe C p.name h.0.1 (Many n.NextParameter ∷ R) (seen C (parameters_after ps) ts) (parameters_behind C ps h.1 R ts d)))))

-- the parameters of a function
pub parameters_at : (C : List (List ℕ)) (ps : List Parameter) → FormedParameters C ps → (R : List Symbol) (ts : List Terminal) → Derives R ts → Derives (Maybe n.Parameters ∷ R) (seen C (parameters ps) ts)
parameters_at C [] h R ts d = skip d
parameters_at C (p ∷ ps) h R ts d = maybe (both C (parameter p) (parameters_after ps) ts (parameter_at C n.Parameters (Many n.NextParameter ∷ []) R parameters_of p h.0 (seen C (parameters_after ps) ts) (parameters_behind C ps h.1 R ts d)))
