-- What stands behind the name with which a member of a class begins: a constructor's parameters, or the rest of a type.
use Rattle.std.proofs.Common.{◌≡◌, ℕ, true, false, not, List, [], ◌∷◌, refl, sym, inl, inr}
use Rattle.co_lex.specs.declared.token.Token.{Token}
use Rattle.co_lex.specs.declared.token.TokenKind.{TokenKind}
use Rattle.co_lex.specs.declared.token.TokenKind.TheVariants as kind
use Rattle.co_lex.specs.declared.token.Mark.TheVariants as mark
use Rattle.co_rules.specs.declared.symbol.Nonterminal.{Nonterminal}
use Rattle.co_rules.specs.declared.symbol.Nonterminal.TheVariants as n
use Rattle.co_rules.specs.declared.symbol.Pattern.TheVariants as pattern
use Rattle.co_rules.specs.declared.symbol.Symbol.{Symbol}
use Rattle.co_rules.specs.declared.symbol.Symbol.TheVariants.{Token as Terminal, One, Maybe, Close}
use Rattle.co_rules.specs.Names.{is_class, known}
use Rattle.co_rules.specs.Pattern.{admits, is_plain}
use Rattle.co_rules.specs.Rule.{Rule}
use Rattle.co_rules.specs.Terminal.{terminal_of}
use Rattle.co_rules.proofs.Follow.{numbers}
use Rattle.co_rules.proofs.Sets.{never, and_split}
use Rattle.co_reader.specs.declared.lead.Lead.{Lead}
use Rattle.co_reader.specs.declared.lead.Lead.TheVariants as l
use Rattle.co_reader.specs.Reading.{lead, lead_after, is_mark, sees}
use Rattle.co_parse.specs.Declarations.{is_opening}
use Rattle.co_reads.specs.Runs.{Runs, token as read_token, one, some}
use Rattle.co_reads.proofs.Cases.{Among, which, by_rule}
use Rattle.co_reads.proofs.Firsts.{Marked, marked, mark_first}
use Rattle.co_reads.proofs.Steps.{unseen}
use Rattle.co_reads.proofs.RulesOfTypes.{those_inner_class, those_type_rest, those_type_id}
use Rattle.co_reads_statements.proofs.LeftOut.{left_out}
use Rattle.co_reads_declarations.proofs.RulesOfDeclarations.{of_member_of_class, those_member_of_class, those_member_of_other, those_field_name}

-- the rest of a constructor
abbrev pub Constructs : List Symbol → List Symbol
Constructs R = Terminal (pattern.Punctuator mark.OpenParen) ∷ Maybe n.Parameters ∷ Terminal (pattern.Punctuator mark.CloseParen) ∷ Maybe n.Noexcept ∷ One n.ConstructorBody ∷ R

-- the rest of a type and what it is of
abbrev Typed : List Symbol → List Symbol
Typed R = Maybe n.TypeRest ∷ One n.FieldName ∷ R

-- what stands there was not left out
may_stand : {C : List (List ℕ)} {R : List Symbol} {N : Nonterminal} {ts : List Token} → Runs C (One N ∷ R) ts → Runs C (Maybe N ∷ R) ts
may_stand (one N R body t ts b few h) = some N R body t ts b few h

-- behind a name of a class
data AfterClass (C : List (List ℕ)) (R : List Symbol) (us : List Token) : Type 0 where
  constructs : Runs C (Constructs R) us → AfterClass C R us
  goes_on : is_opening (lead us) ≡ false → Runs C (Maybe n.InnerClass ∷ Typed R) us → AfterClass C R us

plain_lead : (k : Lead) → is_mark mark.OpenParen k ≡ false → is_opening k ≡ false
plain_lead (l.Mark mark.OpenParen) h = never (sym h)
plain_lead k h = refl

abbrev behind_first : List Rule → List Rule
behind_first [] = []
behind_first (r ∷ rs) = rs

-- the rest of a type behind the name of a class
goes_on_typed : (C : List (List ℕ)) (R : List Symbol) (us : List Token) → Among C R (behind_first of_member_of_class) us → Runs C (Maybe n.InnerClass ∷ Typed R) us
unfolding numbers
goes_on_typed C R us (inl h) = may_stand (by_rule (One n.ClassPath ∷ []) those_inner_class (inl refl) h)
goes_on_typed C R us (inr (inl h)) = left_out those_inner_class (refl, tt) h (may_stand (by_rule (Maybe n.Pointers ∷ []) those_type_rest (inl refl) h))
goes_on_typed C R us (inr (inr (inl h))) = left_out those_inner_class (refl, tt) h (may_stand (by_rule (Maybe n.Pointers ∷ Close ∷ []) those_type_rest (inr (inl refl)) h))
goes_on_typed C R us (inr (inr (inr (inl h)))) = left_out those_inner_class (refl, tt) h (may_stand (by_rule [] those_type_rest (inr (inr (inl refl))) h))
goes_on_typed C R us (inr (inr (inr (inr (inl h))))) = left_out those_inner_class (refl, tt) h (left_out those_type_rest (refl, (refl, (refl, tt))) h (by_rule (One n.FieldRest ∷ []) those_field_name (inl refl) h))
goes_on_typed C R us (inr (inr (inr (inr (inr (inl h)))))) = left_out those_inner_class (refl, tt) h (left_out those_type_rest (refl, (refl, (refl, tt))) h (by_rule (Terminal pattern.OperatorName ∷ One n.MethodRest ∷ []) those_field_name (inr (inl refl)) h))
goes_on_typed C R us (inr (inr (inr (inr (inr (inr h)))))) = absurd h

after_class : (C : List (List ℕ)) (R : List Symbol) (us : List Token) → Among C R of_member_of_class us → AfterClass C R us
unfolding sees
after_class C R us (inl h) = constructs h
after_class C R us (inr h) = goes_on (plain_lead (lead us) (unseen C R us mark.OpenParen (behind_first of_member_of_class) (refl, (refl, (refl, (refl, (refl, (refl, tt)))))) h)) (goes_on_typed C R us h)

-- ---- a member that begins with a name

-- It is a constructor, or a data member or a method.
pub data NameLed (C : List (List ℕ)) (R : List Symbol) (ts : List Token) : Type 0 where
  constructor_led : is_opening (lead_after ts) ≡ true → Runs C (Terminal pattern.Name ∷ Constructs R) ts → NameLed C R ts
  type_led : is_opening (lead_after ts) ≡ false → Runs C (One n.TypeId ∷ One n.FieldName ∷ R) ts → NameLed C R ts

plain_class : (C : List (List ℕ)) (k : TokenKind) → admits pattern.ClassName (terminal_of C k) ≡ true → admits pattern.Name (terminal_of C k) ≡ true
unfolding admits
plain_class C (kind.Name text) h = (and_split (is_class C text) (is_plain (known text)) h).1
plain_class C k h = never h

plain_other : (C : List (List ℕ)) (k : TokenKind) → admits pattern.OtherName (terminal_of C k) ≡ true → admits pattern.Name (terminal_of C k) ≡ true
unfolding admits
plain_other C (kind.Name text) h = (and_split (not (is_class C text)) (is_plain (known text)) h).1
plain_other C k h = never h

opened : {C : List (List ℕ)} {R : List Symbol} {us : List Token} → Marked C mark.OpenParen R us → is_opening (lead us) ≡ true
opened (marked at ts r) = refl

scoped : {C : List (List ℕ)} {R : List Symbol} {us : List Token} → Marked C mark.Scope R us → is_opening (lead us) ≡ false
scoped (marked at ts r) = refl

pub by_class : {C : List (List ℕ)} {R : List Symbol} {ts : List Token} → Runs C (Terminal pattern.ClassName ∷ One n.MemberOfClass ∷ R) ts → NameLed C R ts
by_class {C} {R} (read_token p _ t us a few r) =
    elim (after_class C R us (which those_member_of_class r)) [
      | constructs h ↦ constructor_led (opened (mark_first h)) (read_token pattern.Name (Constructs R) t us (plain_class C t.kind a) few h)
      | goes_on e h ↦ type_led e (by_rule (Maybe n.InnerClass ∷ Maybe n.TypeRest ∷ []) those_type_id (inr (inr (inr (inl refl)))) (read_token pattern.ClassName (Maybe n.InnerClass ∷ Typed R) t us a few h))
    ]

pub by_other : {C : List (List ℕ)} {R : List Symbol} {ts : List Token} → Runs C (Terminal pattern.OtherName ∷ One n.MemberOfOther ∷ R) ts → NameLed C R ts
by_other {C} {R} (read_token p _ t us a few r) =
    elim (which those_member_of_other r) [
      | inl h ↦ constructor_led (opened (mark_first h)) (read_token pattern.Name (Constructs R) t us (plain_other C t.kind a) few h)
      | inr q ↦ elim q [
        | inl h ↦ type_led (scoped (mark_first h)) (by_rule (Terminal (pattern.Punctuator mark.Scope) ∷ One n.ClassPath ∷ Maybe n.TypeRest ∷ []) those_type_id (inr (inr (inr (inr (inl refl))))) (read_token pattern.OtherName (Terminal (pattern.Punctuator mark.Scope) ∷ One n.ClassPath ∷ Typed R) t us a few h))
        | inr x ↦ absurd x
      ]
    ]
