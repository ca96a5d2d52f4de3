-- Which terminals stand where a pattern does.
use Rattle.std.specs.Prelude.{ℕ, Bool, true, false, not, ◌&&◌, nat_eq, List, [], ◌∷◌}
use Rattle.std.specs.List.{list_any}
use denote.Enum.Declared.{tag_of}
use Rattle.co_lex.specs.declared.token.Mark.{Mark}
use Rattle.co_lex.specs.declared.token.Word.{Word}
use Rattle.co_lex.specs.declared.token.Word.TheVariants as word
use Rattle.co_lex.specs.contracts.token.Mark as marks_of
use Rattle.co_lex.specs.contracts.token.Word as words_of
use Rattle.co_rules.specs.contracts.symbol.Known as known_of
use Rattle.co_rules.specs.contracts.symbol.Nonterminal as nonterminal_of
use Rattle.co_rules.specs.declared.pattern.TheConstants.{LITERALS, BUILTINS, ACCESSES, CLASS_KEYS, SPECIFIERS, ALLOCATIONS, OPERATOR_NAMES, UNARY, BINARY, ASSIGNMENTS, INCREMENTS, MEMBER_ACCESSES, REFERENCES, NEW_MARKS, LIBRARY_OBJECTS, LIBRARY_FUNCTIONS, HANDLE_FUNCTIONS, RUN_FUNCTIONS, NAMES}
use Rattle.co_rules.specs.declared.symbol.Known.{Known}
use Rattle.co_rules.specs.declared.symbol.Nonterminal.{Nonterminal}
use Rattle.co_rules.specs.declared.symbol.Pattern.{Pattern}
use Rattle.co_rules.specs.declared.symbol.Pattern.TheVariants as pattern
use Rattle.co_rules.specs.declared.symbol.Terminal.{Terminal}
use Rattle.co_rules.specs.declared.symbol.Terminal.TheVariants as terminal

-- the places of words, marks, names and nonterminals in the lists of their variants
abbrev pub word_number : Word → ℕ
word_number w = tag_of words_of.the_type w

abbrev pub mark_number : Mark → ℕ
mark_number m = tag_of marks_of.the_type m

abbrev pub known_number : Known → ℕ
known_number k = tag_of known_of.the_type k

abbrev pub nonterminal_number : Nonterminal → ℕ
nonterminal_number n = tag_of nonterminal_of.the_type n

-- the words of a pattern [lex.key]
abbrev pub words : Pattern → List Word
words (pattern.Keyword w) = w ∷ []
words pattern.UnaryOperator = word.CoAwait ∷ []
words pattern.Literal = LITERALS
words pattern.BuiltinType = BUILTINS
words pattern.AccessSpecifier = ACCESSES
words pattern.ClassKey = CLASS_KEYS
words pattern.FunctionSpecifier = SPECIFIERS
words pattern.Allocation = ALLOCATIONS
words pattern.OperatorName = OPERATOR_NAMES
words _ = []

-- its operators and punctuators [lex.operators]
abbrev pub marks : Pattern → List Mark
marks (pattern.Punctuator m) = m ∷ []
marks pattern.UnaryOperator = UNARY
marks pattern.BinaryOperator = BINARY
marks pattern.Assignment = ASSIGNMENTS
marks pattern.Increment = INCREMENTS
marks pattern.Access = MEMBER_ACCESSES
marks pattern.ReferenceMark = REFERENCES
marks pattern.NewMark = NEW_MARKS
marks _ = []

-- its names: all but `std` and `corun`, or those that it spells
abbrev pub names : Pattern → List Known
names (pattern.Spelled k) = k ∷ []
names pattern.Name = NAMES
names pattern.ClassName = NAMES
names pattern.OtherName = NAMES
names pattern.LibraryObject = LIBRARY_OBJECTS
names pattern.LibraryFunction = LIBRARY_FUNCTIONS
names pattern.HandleFunction = HANDLE_FUNCTIONS
names pattern.RunFunction = RUN_FUNCTIONS
names _ = []

-- whether the pattern's names may be, or may not be, those of classes
abbrev pub suits : Pattern → Bool → Bool
suits pattern.ClassName is_class = is_class
suits pattern.OtherName is_class = not is_class
suits _ is_class = true

abbrev pub is_literal : Pattern → Bool
is_literal pattern.Literal = true
is_literal _ = false

abbrev pub is_text : Pattern → Bool
is_text pattern.Text = true
is_text _ = false

abbrev pub is_end : Pattern → Bool
is_end pattern.End = true
is_end _ = false

-- whether a file may declare the name: any but `std` and `corun`
abbrev pub is_plain : Known → Bool
is_plain k = list_any (λ v. nat_eq (known_number v) (known_number k)) NAMES

abbrev pub admits_word : Pattern → Word → Bool
admits_word p w = list_any (λ v. nat_eq (word_number v) (word_number w)) (words p)

abbrev pub admits_mark : Pattern → Mark → Bool
admits_mark p m = list_any (λ v. nat_eq (mark_number v) (mark_number m)) (marks p)

abbrev pub admits_name : Pattern → Bool → Known → Bool
admits_name p is_class k = suits p is_class && list_any (λ v. nat_eq (known_number v) (known_number k)) (names p)

-- Whether a terminal may stand where the pattern does.
unfoldable pub admits : Pattern → Terminal → Bool
admits p (terminal.Word w) = admits_word p w
admits p (terminal.Mark m) = admits_mark p m
admits p terminal.Number = is_literal p
admits p terminal.Text = is_text p
admits p (terminal.Name is_class k) = admits_name p is_class k
admits p terminal.End = is_end p
