-- The result types of functions and the types of variables where the rules read them.
use Rattle.std.proofs.Common.{◌≡◌, ℕ, false, List, [], ◌∷◌, Some, None, refl, inl, inr}
use Rattle.co_lex.specs.declared.token.Token.{Token}
use Rattle.co_lex.specs.declared.token.Word.TheVariants as word
use Rattle.co_rules.specs.declared.symbol.Nonterminal.TheVariants as n
use Rattle.co_rules.specs.declared.symbol.Symbol.{Symbol}
use Rattle.co_rules.specs.declared.symbol.Symbol.TheVariants.{One}
use Rattle.co_rules.specs.Names.{is_class}
use Rattle.co_tree.specs.declared.types.SimpleTypeKind.{SimpleTypeKind}
use Rattle.co_tree.specs.declared.types.SimpleTypeKind.TheVariants as simple
use Rattle.co_tree.specs.declared.types.Reference.TheVariants as reference_of
use Rattle.co_tree.specs.Types as tree
use Rattle.co_tree.specs.Formed.{PlainKind, ResultType}
use Rattle.co_reader.specs.declared.lead.Lead.{Lead}
use Rattle.co_reader.specs.Reading.{lead, is_word, sees_word, after_word}
use Rattle.co_statements.specs.Statements.{auto_type}
use Rattle.co_parse.specs.Declarations.{specifier, class_key, is_auto, result_type}
use Rattle.co_reads.specs.Runs.{Runs}
use Rattle.co_reads.specs.Spells.{Spells}
use Rattle.co_reads.specs.Takes.{Takes}
use Rattle.co_reads.proofs.Cases.{Among, which}
use Rattle.co_reads.proofs.Firsts.{Worded, worded, word_first}
use Rattle.co_reads.proofs.TypeIds.{TypeTaken, type_taken}
use Rattle.co_reads_declarations.proofs.RulesOfDeclarations.{of_result_type, those_result_type}
use Rattle.co_reads_declarations.proofs.Typed.{TypeLead, constant, void_type, bool_type, int_type, long_type, some_name, type_lead, typed}

-- ---- what a type begins with

no_auto : (k : Lead) → TypeLead k → is_word word.Auto k ≡ false
no_auto k constant = refl
no_auto k void_type = refl
no_auto k bool_type = refl
no_auto k int_type = refl
no_auto k long_type = refl
no_auto k some_name = refl

pub no_specifier_lead : (k : Lead) → TypeLead k → specifier k ≡ None
no_specifier_lead k constant = refl
no_specifier_lead k void_type = refl
no_specifier_lead k bool_type = refl
no_specifier_lead k int_type = refl
no_specifier_lead k long_type = refl
no_specifier_lead k some_name = refl

pub no_key : (k : Lead) → TypeLead k → class_key k ≡ None
no_key k constant = refl
no_key k void_type = refl
no_key k bool_type = refl
no_key k int_type = refl
no_key k long_type = refl
no_key k some_name = refl

-- a type that is no `auto`
pub plain_kind : (C : List (List ℕ)) (k : SimpleTypeKind) → PlainKind C k → is_auto k ≡ false
plain_kind C simple.Auto h = absurd h
plain_kind C k h = refl

-- ---- result types

abbrev pub ResultTaken : List (List ℕ) → List Symbol → List Token → Type 0
ResultTaken C R ts = Takes (result_type (is_class C)) (λ t left. Spells (tree.type_id t) ts left × ResultType C t) C R ts

-- `auto` is the whole type
pub auto_taken : {C : List (List ℕ)} {R : List Symbol} {ts : List Token} → Worded C word.Auto R ts → ResultTaken C R ts
unfolding result_type sees_word after_word
auto_taken (worded at ts r) =
    record { part = auto_type at reference_of.None; left = ts; read = refl; is = ((refl, (refl, (refl, refl))), inr (record { base = refl; before = refl; after = refl; pointers = refl }, refl)); runs = r }

-- a type is read as it is where no `auto` stands
pub type_read : {C : List (List ℕ)} {R : List Symbol} {ts : List Token} → TypeLead (lead ts) → (t : TypeTaken C R ts) → result_type (is_class C) ts ≡ Some (t.part, t.left)
unfolding result_type sees_word after_word
type_read {ts = ts} k t = rw (no_auto (lead ts) k, t.read)

result_among : (C : List (List ℕ)) (R : List Symbol) (ts : List Token) → Among C R of_result_type ts → ResultTaken C R ts
result_among C R ts (inl h) = auto_taken (word_first h)
result_among C R ts (inr h) = let r = typed n.ResultType [] R h in let t = type_taken r in record { part = t.part; left = t.left; read = type_read (type_lead r) t; is = (t.is.0, inl t.is.1); runs = t.runs }

pub result_taken : {C : List (List ℕ)} {R : List Symbol} {ts : List Token} → Runs C (One n.ResultType ∷ R) ts → ResultTaken C R ts
result_taken {C} {R} {ts} h = result_among C R ts (which those_result_type h)
