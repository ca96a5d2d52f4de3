-- The names of functions and variables where the rules read them.
use Rattle.std.proofs.Common.{◌≡◌, ℕ, true, List, [], ◌∷◌, Some, refl}
use Rattle.co_base.specs.declared.span.Span.{Span}
use Rattle.co_lex.specs.declared.token.Token.{Token}
use Rattle.co_lex.specs.declared.token.TokenKind.{TokenKind}
use Rattle.co_lex.specs.declared.token.TokenKind.TheVariants as kind
use Rattle.co_lex.specs.declared.token.Word.TheVariants as word
use Rattle.co_rules.specs.declared.symbol.Pattern.TheVariants as pattern
use Rattle.co_rules.specs.declared.symbol.Symbol.{Symbol}
use Rattle.co_rules.specs.declared.symbol.Symbol.TheVariants.{Token as Terminal}
use Rattle.co_rules.specs.Pattern.{admits}
use Rattle.co_rules.specs.Terminal.{terminal_of}
use Rattle.co_rules.proofs.Sets.{never}
use Rattle.co_tree.specs.declared.declarations.FunctionName.{FunctionName}
use Rattle.co_tree.specs.declared.declarations.FunctionName.TheVariants as function_name
use Rattle.co_tree.specs.Piece.{name}
use Rattle.co_tree.specs.Declarations.{function_named}
use Rattle.co_tree.specs.Formed.{IsName}
use Rattle.co_tree.specs.FormedTree.{FileName}
use Rattle.co_reader.specs.Reading.{name as name_reader, any_name, sees_word, after_word}
use Rattle.co_parse.specs.Declarations.{declared_name, operator_name}
use Rattle.co_reads.specs.Runs.{Runs, token as read_token}
use Rattle.co_reads.specs.Spells.{Spells}
use Rattle.co_reads.proofs.Firsts.{Named, named, name_first, Worded, worded, word_first, tested_name}

-- a plain name is declared
pub record PlainNamed (C : List (List ℕ)) (R : List Symbol) (ts : List Token) : Type 0 where
  pub text : List ℕ
  pub left : List Token
  pub read : declared_name ts ≡ Some (function_name.Name text, left)
  pub spelled : Spells (name text ∷ []) ts left
  pub is_name : IsName text
  pub runs : Runs C R left

plain_named : {C : List (List ℕ)} {R : List Symbol} {ts : List Token} → Named C IsName R ts → PlainNamed C R ts
unfolding declared_name name_reader any_name sees_word after_word
plain_named (named text at ts is r) = record { text = text; left = ts; read = rw (tested_name text is); spelled = (refl, refl); is_name = is; runs = r }

pub plain_name_taken : {C : List (List ℕ)} {R : List Symbol} {ts : List Token} → Runs C (Terminal pattern.Name ∷ R) ts → PlainNamed C R ts
plain_name_taken h = plain_named (name_first h)

-- an operator is declared, of which this is so
pub record OperatorNamed (Is : FunctionName → Type 0) (C : List (List ℕ)) (R : List Symbol) (ts : List Token) : Type 0 where
  pub called : FunctionName
  pub left : List Token
  pub read : declared_name ts ≡ Some (called, left)
  pub spelled : Spells (function_named called) ts left
  pub is : Is called
  pub runs : Runs C R left

file_operator : {C : List (List ℕ)} {R : List Symbol} {ts : List Token} (at : Span) → Worded C word.CoAwait R ts → OperatorNamed FileName C R (record { kind = kind.Word word.Operator; span = at } ∷ ts)
unfolding declared_name operator_name sees_word after_word
file_operator start (worded at ts r) = record { called = function_name.OperatorCoAwait; left = ts; read = refl; spelled = (refl, (refl, refl)); is = tt; runs = r }

file_operated : {C : List (List ℕ)} {R : List Symbol} {ts : List Token} → Worded C word.Operator (Terminal (pattern.Keyword word.CoAwait) ∷ R) ts → OperatorNamed FileName C R ts
file_operated (worded at ts r) = file_operator at (word_first r)

-- an operator of the file
pub file_operator_taken : {C : List (List ℕ)} {R : List Symbol} {ts : List Token} → Runs C (Terminal (pattern.Keyword word.Operator) ∷ Terminal (pattern.Keyword word.CoAwait) ∷ R) ts → OperatorNamed FileName C R ts
file_operator_taken h = file_operated (word_first h)

-- an operator of a class
abbrev pub IsOperator : FunctionName → Type 0
IsOperator (function_name.Name text) = ⊥
IsOperator called = Unit {0}

member_kind : (C : List (List ℕ)) (R : List Symbol) (start : Span) (k : TokenKind) (at : Span) (ts : List Token) → admits pattern.OperatorName (terminal_of C k) ≡ true → Runs C R ts
    → OperatorNamed IsOperator C R (record { kind = kind.Word word.Operator; span = start } ∷ record { kind = k; span = at } ∷ ts)
unfolding admits declared_name operator_name sees_word after_word
member_kind C R start (kind.Word word.CoAwait) at ts h r = record { called = function_name.OperatorCoAwait; left = ts; read = refl; spelled = (refl, (refl, refl)); is = tt; runs = r }
member_kind C R start (kind.Word word.New) at ts h r = record { called = function_name.OperatorNew; left = ts; read = refl; spelled = (refl, (refl, refl)); is = tt; runs = r }
member_kind C R start (kind.Word word.Delete) at ts h r = record { called = function_name.OperatorDelete; left = ts; read = refl; spelled = (refl, (refl, refl)); is = tt; runs = r }
member_kind C R start k at ts h r = never h

member_operator : {C : List (List ℕ)} {R : List Symbol} {ts : List Token} (at : Span) → Runs C (Terminal pattern.OperatorName ∷ R) ts → OperatorNamed IsOperator C R (record { kind = kind.Word word.Operator; span = at } ∷ ts)
member_operator {C} at (read_token p R t ts a few r) = member_kind C R at t.kind t.span ts a r

member_operated : {C : List (List ℕ)} {R : List Symbol} {ts : List Token} → Worded C word.Operator (Terminal pattern.OperatorName ∷ R) ts → OperatorNamed IsOperator C R ts
member_operated (worded at ts r) = member_operator at r

pub member_operator_taken : {C : List (List ℕ)} {R : List Symbol} {ts : List Token} → Runs C (Terminal (pattern.Keyword word.Operator) ∷ Terminal pattern.OperatorName ∷ R) ts → OperatorNamed IsOperator C R ts
member_operator_taken h = member_operated (word_first h)
