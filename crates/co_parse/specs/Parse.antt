-- The tree of a list of tokens, or the fault of the first token that has one.
use Rattle.std.specs.Prelude.{◌≡◌, ℕ, Bool, true, false, if◌then◌else◌, List, [], ◌∷◌, length, Option, Some, None, Result, Ok, Err, slice_get}
use Rattle.co_base.specs.declared.span.Span.{Span}
use Rattle.co_lex.specs.declared.token.Token.{Token}
use Rattle.co_grammar.specs.declared.fault.Fault.{Fault}
use Rattle.co_grammar.specs.declared.fault.Fault.TheVariants as fault
use Rattle.co_rules.specs.Names.{classes, is_class}
use Rattle.co_grammar.specs.Scan.{scanned}
use Rattle.co_tree.specs.declared.declarations.Declaration.{Declaration}
use Rattle.co_tree.specs.declared.declarations.Tree.{Tree}
use Rattle.co_reader.specs.Reading.{Read, lead}
use Rattle.co_parse.specs.declared.fault.ParseFault.{ParseFault}
use Rattle.co_parse.specs.declared.fault.ParseFault.TheVariants.{Syntax, TooDeep, NoMemory}
use Rattle.co_parse.specs.Declarations.{declarations, is_end}

abbrev pub place_of : Option Token → Span
place_of None = record { line = 0; col = 0 }
place_of (Some t) = t.span

-- the place of the token of this number, counted from 0; 0:0 where there is none
abbrev pub place_at : List Token → ℕ → Span
place_at tokens at = place_of (slice_get tokens at)

abbrev pub placed : List Token → Fault → ParseFault
placed tokens (fault.Syntax at) = Syntax (place_at tokens at)
placed tokens (fault.TooDeep at) = TooDeep (place_at tokens at)
placed tokens fault.NoMemory = NoMemory

-- nothing but the end is left
abbrev pub is_last : List Token → Bool
is_last [] = false
is_last (t ∷ []) = is_end (lead (t ∷ []))
is_last (t ∷ u ∷ ts) = false

-- what was read up to the end is the tree
abbrev pub tree_of : List Token → Read (List Declaration) → Result Tree ParseFault
tree_of tokens (Some r) = if is_last r.1 then Ok (record { declarations = r.0 }) else Err (Syntax (place_at tokens (length tokens)))
tree_of tokens None = Err (Syntax (place_at tokens (length tokens)))

unfoldable pub built : (List ℕ → Bool) → List Token → Result Tree ParseFault
built is_class tokens = tree_of tokens (declarations is_class (length tokens) tokens)

abbrev pub parsed_by : List Token → Result (Unit {0}) Fault → Result Tree ParseFault
parsed_by tokens (Ok _) = built (is_class (classes tokens)) tokens
parsed_by tokens (Err f) = Err (placed tokens f)

-- The first fault of the grammar decides; a list without one has a tree, in which the names right after `struct`, `class` and
-- `using` are those of classes.
unfoldable pub parsed : List Token → Result Tree ParseFault
parsed tokens = parsed_by tokens (scanned tokens)

-- what the code answers is what is defined, unless memory ran out
abbrev pub Gives : Result Tree ParseFault → Result Tree ParseFault → Type 0
Gives (Ok tree) told = told ≡ Ok tree
Gives (Err (Syntax at)) told = told ≡ Err (Syntax at)
Gives (Err (TooDeep at)) told = told ≡ Err (TooDeep at)
Gives (Err NoMemory) told = Unit {0}
