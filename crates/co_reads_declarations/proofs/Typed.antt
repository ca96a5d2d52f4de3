-- Rules that begin with a type.
use Rattle.std.proofs.Common.{◌≡◌, ℕ, true, List, [], ◌∷◌, ◌++◌, refl, inl, inr}
use Rattle.co_lex.specs.declared.token.Token.{Token}
use Rattle.co_lex.specs.declared.token.TokenKind.{TokenKind}
use Rattle.co_lex.specs.declared.token.TokenKind.TheVariants as kind
use Rattle.co_lex.specs.declared.token.Mark.TheVariants as mark
use Rattle.co_lex.specs.declared.token.Word.TheVariants as word
use Rattle.co_rules.specs.declared.symbol.Known.TheVariants as known
use Rattle.co_rules.specs.declared.symbol.Nonterminal.{Nonterminal}
use Rattle.co_rules.specs.declared.symbol.Nonterminal.TheVariants as n
use Rattle.co_rules.specs.declared.symbol.Pattern.TheVariants as pattern
use Rattle.co_rules.specs.declared.symbol.Symbol.{Symbol}
use Rattle.co_rules.specs.declared.symbol.Symbol.TheVariants.{Token as Terminal, One, Maybe}
use Rattle.co_rules.specs.Pattern.{admits}
use Rattle.co_rules.specs.Rule.{Rule, rule}
use Rattle.co_rules.specs.Terminal.{terminal_of}
use Rattle.co_rules.proofs.Sets.{never}
use Rattle.co_reader.specs.declared.lead.Lead.{Lead}
use Rattle.co_reader.specs.declared.lead.Lead.TheVariants as l
use Rattle.co_reader.specs.Reading.{lead, lead_of}
use Rattle.co_reads.specs.Runs.{Runs, flat, token as read_token}
use Rattle.co_reads.proofs.Cases.{Among, which, by_rule}
use Rattle.co_reads.proofs.Firsts.{Named, named, SpelledNext, spelled_next, spelled_first, class_first, other_first, Worded, worded, word_first}
use Rattle.co_reads.proofs.RulesOfTypes.{of_type_id, those_type_id}

-- the rules that go on with these symbols behind a type
abbrev pub behind_type : Nonterminal → List Symbol → List Rule
behind_type N T =
    rule N (pattern.Keyword word.Const) (One n.Base ∷ Maybe n.TypeRest ∷ T) ∷
    rule N pattern.BuiltinType (Maybe n.TypeRest ∷ T) ∷
    rule N (pattern.Spelled known.Std) (Terminal (pattern.Punctuator mark.Scope) ∷ One n.LibraryType ∷ Maybe n.TypeRest ∷ T) ∷
    rule N pattern.ClassName (Maybe n.InnerClass ∷ Maybe n.TypeRest ∷ T) ∷
    rule N pattern.OtherName (Terminal (pattern.Punctuator mark.Scope) ∷ One n.ClassPath ∷ Maybe n.TypeRest ∷ T) ∷ []

-- what they read begins with a type
pub typed : {C : List (List ℕ)} {ts : List Token} (N : Nonterminal) (T R : List Symbol) → Among C R (behind_type N T) ts → Runs C (One n.TypeId ∷ (flat T ++ R)) ts
typed N T R (inl h) = by_rule (One n.Base ∷ Maybe n.TypeRest ∷ []) those_type_id (inl refl) h
typed N T R (inr (inl h)) = by_rule (Maybe n.TypeRest ∷ []) those_type_id (inr (inl refl)) h
typed N T R (inr (inr (inl h))) = by_rule (Terminal (pattern.Punctuator mark.Scope) ∷ One n.LibraryType ∷ Maybe n.TypeRest ∷ []) those_type_id (inr (inr (inl refl))) h
typed N T R (inr (inr (inr (inl h)))) = by_rule (Maybe n.InnerClass ∷ Maybe n.TypeRest ∷ []) those_type_id (inr (inr (inr (inl refl)))) h
typed N T R (inr (inr (inr (inr (inl h))))) = by_rule (Terminal (pattern.Punctuator mark.Scope) ∷ One n.ClassPath ∷ Maybe n.TypeRest ∷ []) those_type_id (inr (inr (inr (inr (inl refl))))) h
typed N T R (inr (inr (inr (inr (inr h))))) = absurd h

-- what a type begins with
pub data TypeLead : Lead → Type 0 where
  constant : TypeLead (l.Word word.Const)
  void_type : TypeLead (l.Word word.Void)
  bool_type : TypeLead (l.Word word.Bool)
  int_type : TypeLead (l.Word word.Int)
  long_type : TypeLead (l.Word word.Long)
  some_name : TypeLead l.Name

builtin_lead : (C : List (List ℕ)) (k : TokenKind) → admits pattern.BuiltinType (terminal_of C k) ≡ true → TypeLead (lead_of k)
unfolding admits
builtin_lead C (kind.Word word.Void) h = void_type
builtin_lead C (kind.Word word.Bool) h = bool_type
builtin_lead C (kind.Word word.Int) h = int_type
builtin_lead C (kind.Word word.Long) h = long_type
builtin_lead C k h = never h

by_builtin : {C : List (List ℕ)} {R : List Symbol} {ts : List Token} → Runs C (Terminal pattern.BuiltinType ∷ R) ts → TypeLead (lead ts)
by_builtin {C} (read_token p R t ts a few r) = builtin_lead C t.kind a

by_const : {C : List (List ℕ)} {R : List Symbol} {ts : List Token} → Worded C word.Const R ts → TypeLead (lead ts)
by_const (worded at ts r) = constant

by_std : {C : List (List ℕ)} {R : List Symbol} {ts : List Token} → SpelledNext C known.Std R ts → TypeLead (lead ts)
by_std (spelled_next at ts r) = some_name

pub by_name : {C : List (List ℕ)} {Is : List ℕ → Type 0} {R : List Symbol} {ts : List Token} → Named C Is R ts → TypeLead (lead ts)
by_name (named text at ts is r) = some_name

lead_among : (C : List (List ℕ)) (R : List Symbol) (ts : List Token) → Among C R of_type_id ts → TypeLead (lead ts)
lead_among C R ts (inl h) = by_const (word_first h)
lead_among C R ts (inr (inl h)) = by_builtin h
lead_among C R ts (inr (inr (inl h))) = by_std (spelled_first known.Std tt h)
lead_among C R ts (inr (inr (inr (inl h)))) = by_name (class_first h)
lead_among C R ts (inr (inr (inr (inr (inl h))))) = by_name (other_first h)
lead_among C R ts (inr (inr (inr (inr (inr h))))) = absurd h

pub type_lead : {C : List (List ℕ)} {R : List Symbol} {ts : List Token} → Runs C (One n.TypeId ∷ R) ts → TypeLead (lead ts)
type_lead {C} {R} {ts} h = lead_among C R ts (which those_type_id h)
