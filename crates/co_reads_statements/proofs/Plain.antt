-- Expressions that begin with no type and with no name but `corun`: what the readers decide by their first token.
use Rattle.std.proofs.Common.{◌≡◌, ℕ, Bool, true, false, not, List, [], ◌∷◌, ◌++◌, codes, bytes_eq, refl, sym, ap, ◌∙◌, subst, inl, inr}
use Rattle.std.proofs.lemmas.Slice.Eq.{bytes_eq-Decides}
use Rattle.co_base.specs.declared.span.Span.{Span}
use Rattle.co_lex.specs.declared.token.Token.{Token}
use Rattle.co_lex.specs.declared.token.TokenKind.{TokenKind}
use Rattle.co_lex.specs.declared.token.TokenKind.TheVariants as kind
use Rattle.co_lex.specs.declared.token.Mark.TheVariants as mark
use Rattle.co_lex.specs.declared.token.Word.TheVariants as word
use Rattle.co_rules.specs.declared.symbol.Known.TheVariants as known
use Rattle.co_rules.specs.declared.symbol.Nonterminal.{Nonterminal}
use Rattle.co_rules.specs.declared.symbol.Nonterminal.TheVariants as n
use Rattle.co_rules.specs.declared.symbol.Pattern.{Pattern}
use Rattle.co_rules.specs.declared.symbol.Pattern.TheVariants as pattern
use Rattle.co_rules.specs.declared.symbol.Symbol.{Symbol}
use Rattle.co_rules.specs.declared.symbol.Symbol.TheVariants.{Token as Terminal, One, Maybe, Greedy, Close}
use Rattle.co_rules.specs.Pattern.{admits}
use Rattle.co_rules.specs.Rule.{Rule, rule}
use Rattle.co_rules.specs.Terminal.{terminal_of}
use Rattle.co_rules.proofs.Sets.{never}
use Rattle.co_tree.specs.declared.expressions.Expression.{Expression}
use Rattle.co_tree.specs.declared.expressions.Expression.TheVariants as expr
use Rattle.co_tree.specs.Formed.{first_of, BeginsWithType, BeginsWithClassCall, is_led_by_type, is_led_by_class}
use Rattle.co_reader.specs.Reading.{Reader, spells}
use Rattle.co_statements.specs.Statements.{first_argument, named_first, short, led_by_name, plain}
use Rattle.co_reads.specs.Expressions.{begins_type, IsLed}
use Rattle.co_reads.specs.Runs.{flat, Runs, token}
use Rattle.co_reads.proofs.Built.{kind_token}
use Rattle.co_reads.proofs.Cases.{Among, by_rule}
use Rattle.co_reads.proofs.Firsts.{mark_kind, word_kind, SpelledNext, spelled_next, spelled_first}
use Rattle.co_reads.proofs.RulesOfExpressions.{those_expression}

-- whether the token begins an expression, and is no name but `corun`
abbrev pub begins_plain : TokenKind → Bool
begins_plain (kind.Name text) = bytes_eq text (codes "corun")
begins_plain (kind.Int num value) = true
begins_plain (kind.Word word.CoAwait) = true
begins_plain (kind.Word word.CoYield) = true
begins_plain (kind.Word word.Throw) = true
begins_plain (kind.Word word.New) = true
begins_plain (kind.Word word.Delete) = true
begins_plain (kind.Word word.StaticCast) = true
begins_plain (kind.Word word.True) = true
begins_plain (kind.Word word.False) = true
begins_plain (kind.Word word.Nullptr) = true
begins_plain (kind.Word word.This) = true
begins_plain (kind.Mark mark.Plus) = true
begins_plain (kind.Mark mark.Minus) = true
begins_plain (kind.Mark mark.Not) = true
begins_plain (kind.Mark mark.Tilde) = true
begins_plain (kind.Mark mark.Star) = true
begins_plain (kind.Mark mark.And) = true
begins_plain (kind.Mark mark.Increment) = true
begins_plain (kind.Mark mark.Decrement) = true
begins_plain (kind.Mark mark.Scope) = true
begins_plain (kind.Mark mark.OpenParen) = true
begins_plain k = false

abbrev pub plain_next : List Token → Bool
plain_next [] = false
plain_next (t ∷ ts) = begins_plain t.kind

-- such a token begins no type
no_type : (k : TokenKind) (at : Span) (ts : List Token) → begins_plain k ≡ true → begins_type (kind_token k at ∷ ts) ≡ false
unfolding spells
no_type (kind.Name text) at ts h = ap not h
no_type (kind.Int num value) at ts h = refl
no_type (kind.Word word.CoAwait) at ts h = refl
no_type (kind.Word word.CoYield) at ts h = refl
no_type (kind.Word word.Throw) at ts h = refl
no_type (kind.Word word.New) at ts h = refl
no_type (kind.Word word.Delete) at ts h = refl
no_type (kind.Word word.StaticCast) at ts h = refl
no_type (kind.Word word.True) at ts h = refl
no_type (kind.Word word.False) at ts h = refl
no_type (kind.Word word.Nullptr) at ts h = refl
no_type (kind.Word word.This) at ts h = refl
no_type (kind.Mark mark.Plus) at ts h = refl
no_type (kind.Mark mark.Minus) at ts h = refl
no_type (kind.Mark mark.Not) at ts h = refl
no_type (kind.Mark mark.Tilde) at ts h = refl
no_type (kind.Mark mark.Star) at ts h = refl
no_type (kind.Mark mark.And) at ts h = refl
no_type (kind.Mark mark.Increment) at ts h = refl
no_type (kind.Mark mark.Decrement) at ts h = refl
no_type (kind.Mark mark.Scope) at ts h = refl
no_type (kind.Mark mark.OpenParen) at ts h = refl
no_type k at ts h = never h

no_type_next : (ts : List Token) → plain_next ts ≡ true → begins_type ts ≡ false
no_type_next [] h = never h
no_type_next (t ∷ ts) h = no_type t.kind t.span ts h

-- no expression that such a token begins has a type first
pub no_type_first : (ts : List Token) (e : Expression) → plain_next ts ≡ true → IsLed ts e → BeginsWithType e → ⊥
no_type_first ts e h led i = never (sym (no_type_next ts h) ∙ led i)

led_by_class : (e : Expression) → is_led_by_class e ≡ true → is_led_by_type e ≡ true
led_by_class (expr.Construction' base how s args) h = refl
led_by_class e h = never h

-- the path of a class is a type
pub class_is_type : (e : Expression) → BeginsWithClassCall e → BeginsWithType e
class_is_type e h = led_by_class (first_of e) h

-- ---- the rules

-- the first rules of an expression, with what stands behind it
abbrev pub plain_rules : Nonterminal → List Symbol → List Rule
plain_rules N tail =
    rule N (pattern.Keyword word.CoYield) (One n.Expression ∷ Close ∷ tail) ∷
    rule N (pattern.Keyword word.Throw) (Maybe n.Expression ∷ Close ∷ tail) ∷
    rule N pattern.UnaryOperator (One n.Unary ∷ Close ∷ Maybe n.Operators ∷ Maybe n.ExpressionRest ∷ tail) ∷
    rule N (pattern.Keyword word.New) (One n.Base ∷ Greedy n.NewRest pattern.NewMark ∷ Close ∷ Maybe n.Operators ∷ Maybe n.ExpressionRest ∷ tail) ∷
    rule N (pattern.Keyword word.Delete) (One n.Unary ∷ Close ∷ Maybe n.Operators ∷ Maybe n.ExpressionRest ∷ tail) ∷
    rule N (pattern.Punctuator mark.Scope) (One n.GlobalScope ∷ Maybe n.Operators ∷ Maybe n.ExpressionRest ∷ tail) ∷
    rule N (pattern.Punctuator mark.OpenParen) (One n.Expression ∷ Terminal (pattern.Punctuator mark.CloseParen) ∷ Close ∷ Maybe n.Postfix ∷ Maybe n.Operators ∷ Maybe n.ExpressionRest ∷ tail) ∷
    rule N (pattern.Spelled known.Corun) (Terminal (pattern.Punctuator mark.Scope) ∷ One n.RunName ∷ Maybe n.Postfix ∷ Maybe n.Operators ∷ Maybe n.ExpressionRest ∷ tail) ∷
    rule N (pattern.Keyword word.StaticCast) (Terminal (pattern.Punctuator mark.Less) ∷ One n.TypeId ∷ Terminal (pattern.Punctuator mark.Greater) ∷ One n.Condition ∷ Maybe n.Postfix ∷ Maybe n.Operators ∷ Maybe n.ExpressionRest ∷ tail) ∷
    rule N pattern.Literal (Maybe n.Postfix ∷ Maybe n.Operators ∷ Maybe n.ExpressionRest ∷ tail) ∷ []

-- such an expression comes next
pub record PlainNext (C : List (List ℕ)) (R : List Symbol) (ts : List Token) : Type 0 where
  pub plain : plain_next ts ≡ true
  pub runs : Runs C (One n.Expression ∷ R) ts

plain_first : {C : List (List ℕ)} {p : Pattern} {R : List Symbol} {ts : List Token} → ((k : TokenKind) → admits p (terminal_of C k) ≡ true → begins_plain k ≡ true) → Runs C (Terminal p ∷ R) ts → plain_next ts ≡ true
plain_first f (token p R t ts a few r) = f t.kind a

plain_unary : (C : List (List ℕ)) (k : TokenKind) → admits pattern.UnaryOperator (terminal_of C k) ≡ true → begins_plain k ≡ true
unfolding admits
plain_unary C (kind.Mark mark.Plus) h = refl
plain_unary C (kind.Mark mark.Minus) h = refl
plain_unary C (kind.Mark mark.Not) h = refl
plain_unary C (kind.Mark mark.Tilde) h = refl
plain_unary C (kind.Mark mark.Star) h = refl
plain_unary C (kind.Mark mark.And) h = refl
plain_unary C (kind.Mark mark.Increment) h = refl
plain_unary C (kind.Mark mark.Decrement) h = refl
plain_unary C (kind.Word word.CoAwait) h = refl
plain_unary C k h = never h

plain_literal : (C : List (List ℕ)) (k : TokenKind) → admits pattern.Literal (terminal_of C k) ≡ true → begins_plain k ≡ true
unfolding admits
plain_literal C (kind.Int num value) h = refl
plain_literal C (kind.Word word.True) h = refl
plain_literal C (kind.Word word.False) h = refl
plain_literal C (kind.Word word.Nullptr) h = refl
plain_literal C (kind.Word word.This) h = refl
plain_literal C k h = never h

plain_corun : {C : List (List ℕ)} {R : List Symbol} {ts : List Token} → SpelledNext C known.Corun R ts → plain_next ts ≡ true
plain_corun (spelled_next at ts r) = refl

pub plain_among : (N : Nonterminal) (tail : List Symbol) (C : List (List ℕ)) (R : List Symbol) (ts : List Token) → Among C R (plain_rules N tail) ts → PlainNext C (flat tail ++ R) ts
plain_among N tail C R ts (inl h) = record { plain = plain_first (λ k a. ap begins_plain (word_kind C word.CoYield k a)) h; runs = by_rule (One n.Expression ∷ Close ∷ []) those_expression (inl refl) h }
plain_among N tail C R ts (inr (inl h)) = record { plain = plain_first (λ k a. ap begins_plain (word_kind C word.Throw k a)) h; runs = by_rule (Maybe n.Expression ∷ Close ∷ []) those_expression (inr (inl refl)) h }
plain_among N tail C R ts (inr (inr (inl h))) =
    record { plain = plain_first (plain_unary C) h; runs = by_rule (One n.Unary ∷ Close ∷ Maybe n.Operators ∷ Maybe n.ExpressionRest ∷ []) those_expression (inr (inr (inl refl))) h }
plain_among N tail C R ts (inr (inr (inr (inl h)))) =
    record { plain = plain_first (λ k a. ap begins_plain (word_kind C word.New k a)) h; runs = by_rule (One n.Base ∷ Greedy n.NewRest pattern.NewMark ∷ Close ∷ Maybe n.Operators ∷ Maybe n.ExpressionRest ∷ []) those_expression (inr (inr (inr (inl refl)))) h }
plain_among N tail C R ts (inr (inr (inr (inr (inl h))))) =
    record { plain = plain_first (λ k a. ap begins_plain (word_kind C word.Delete k a)) h; runs = by_rule (One n.Unary ∷ Close ∷ Maybe n.Operators ∷ Maybe n.ExpressionRest ∷ []) those_expression (inr (inr (inr (inr (inl refl))))) h }
plain_among N tail C R ts (inr (inr (inr (inr (inr (inl h)))))) =
    record { plain = plain_first (λ k a. ap begins_plain (mark_kind C mark.Scope k a)) h; runs = by_rule (One n.GlobalScope ∷ Maybe n.Operators ∷ Maybe n.ExpressionRest ∷ []) those_expression (inr (inr (inr (inr (inr (inl refl)))))) h }
plain_among N tail C R ts (inr (inr (inr (inr (inr (inr (inl h))))))) =
    record {
      plain = plain_first (λ k a. ap begins_plain (mark_kind C mark.OpenParen k a)) h;
      runs = by_rule (One n.Expression ∷ Terminal (pattern.Punctuator mark.CloseParen) ∷ Close ∷ Maybe n.Postfix ∷ Maybe n.Operators ∷ Maybe n.ExpressionRest ∷ []) those_expression (inr (inr (inr (inr (inr (inr (inl refl))))))) h;
    }
plain_among N tail C R ts (inr (inr (inr (inr (inr (inr (inr (inl h)))))))) =
    record {
      plain = plain_corun (spelled_first known.Corun tt h);
      runs = by_rule (Terminal (pattern.Punctuator mark.Scope) ∷ One n.RunName ∷ Maybe n.Postfix ∷ Maybe n.Operators ∷ Maybe n.ExpressionRest ∷ []) those_expression (inr (inr (inr (inr (inr (inr (inr (inl refl)))))))) h;
    }
plain_among N tail C R ts (inr (inr (inr (inr (inr (inr (inr (inr (inl h))))))))) =
    record {
      plain = plain_first (λ k a. ap begins_plain (word_kind C word.StaticCast k a)) h;
      runs = by_rule (Terminal (pattern.Punctuator mark.Less) ∷ One n.TypeId ∷ Terminal (pattern.Punctuator mark.Greater) ∷ One n.Condition ∷ Maybe n.Postfix ∷ Maybe n.Operators ∷ Maybe n.ExpressionRest ∷ []) those_expression (inr (inr (inr (inr (inr (inr (inr (inr (inl refl))))))))) h;
    }
plain_among N tail C R ts (inr (inr (inr (inr (inr (inr (inr (inr (inr (inl h)))))))))) =
    record { plain = plain_first (plain_literal C) h; runs = by_rule (Maybe n.Postfix ∷ Maybe n.Operators ∷ Maybe n.ExpressionRest ∷ []) those_expression (inr (inr (inr (inr (inr (inr (inr (inr (inr (inl refl)))))))))) h }
plain_among N tail C R ts (inr (inr (inr (inr (inr (inr (inr (inr (inr (inr h)))))))))) = absurd h

-- ---- the readers

first_plain_by : (class : List ℕ → Bool) (expression : ℕ → Reader Expression) (k : TokenKind) (at : Span) (us : List Token) → begins_plain k ≡ true → first_argument class expression (kind_token k at ∷ us) ≡ expression 0 (kind_token k at ∷ us)
unfolding first_argument named_first spells
first_plain_by class expression (kind.Name text) at us h = subst (λ x. first_argument class expression (kind_token (kind.Name x) at ∷ us) ≡ expression 0 (kind_token (kind.Name x) at ∷ us)) (sym ((bytes_eq-Decides text (codes "corun")).0 h)) refl
first_plain_by class expression (kind.Int num value) at us h = refl
first_plain_by class expression (kind.Word word.CoAwait) at us h = refl
first_plain_by class expression (kind.Word word.CoYield) at us h = refl
first_plain_by class expression (kind.Word word.Throw) at us h = refl
first_plain_by class expression (kind.Word word.New) at us h = refl
first_plain_by class expression (kind.Word word.Delete) at us h = refl
first_plain_by class expression (kind.Word word.StaticCast) at us h = refl
first_plain_by class expression (kind.Word word.True) at us h = refl
first_plain_by class expression (kind.Word word.False) at us h = refl
first_plain_by class expression (kind.Word word.Nullptr) at us h = refl
first_plain_by class expression (kind.Word word.This) at us h = refl
first_plain_by class expression (kind.Mark mark.Plus) at us h = refl
first_plain_by class expression (kind.Mark mark.Minus) at us h = refl
first_plain_by class expression (kind.Mark mark.Not) at us h = refl
first_plain_by class expression (kind.Mark mark.Tilde) at us h = refl
first_plain_by class expression (kind.Mark mark.Star) at us h = refl
first_plain_by class expression (kind.Mark mark.And) at us h = refl
first_plain_by class expression (kind.Mark mark.Increment) at us h = refl
first_plain_by class expression (kind.Mark mark.Decrement) at us h = refl
first_plain_by class expression (kind.Mark mark.Scope) at us h = refl
first_plain_by class expression (kind.Mark mark.OpenParen) at us h = refl
first_plain_by class expression k at us h = never h

pub first_plain : (class : List ℕ → Bool) (expression : ℕ → Reader Expression) (ts : List Token) → plain_next ts ≡ true → first_argument class expression ts ≡ expression 0 ts
first_plain class expression [] h = never h
first_plain class expression (t ∷ ts) h = first_plain_by class expression t.kind t.span ts h

short_plain_by : (class : List ℕ → Bool) (expression : ℕ → Reader Expression) (k : TokenKind) (at : Span) (us : List Token) → begins_plain k ≡ true → short class expression (kind_token k at ∷ us) ≡ plain class expression (kind_token k at ∷ us)
unfolding short led_by_name spells
short_plain_by class expression (kind.Name text) at us h = subst (λ x. short class expression (kind_token (kind.Name x) at ∷ us) ≡ plain class expression (kind_token (kind.Name x) at ∷ us)) (sym ((bytes_eq-Decides text (codes "corun")).0 h)) refl
short_plain_by class expression (kind.Int num value) at us h = refl
short_plain_by class expression (kind.Word word.CoAwait) at us h = refl
short_plain_by class expression (kind.Word word.CoYield) at us h = refl
short_plain_by class expression (kind.Word word.Throw) at us h = refl
short_plain_by class expression (kind.Word word.New) at us h = refl
short_plain_by class expression (kind.Word word.Delete) at us h = refl
short_plain_by class expression (kind.Word word.StaticCast) at us h = refl
short_plain_by class expression (kind.Word word.True) at us h = refl
short_plain_by class expression (kind.Word word.False) at us h = refl
short_plain_by class expression (kind.Word word.Nullptr) at us h = refl
short_plain_by class expression (kind.Word word.This) at us h = refl
short_plain_by class expression (kind.Mark mark.Plus) at us h = refl
short_plain_by class expression (kind.Mark mark.Minus) at us h = refl
short_plain_by class expression (kind.Mark mark.Not) at us h = refl
short_plain_by class expression (kind.Mark mark.Tilde) at us h = refl
short_plain_by class expression (kind.Mark mark.Star) at us h = refl
short_plain_by class expression (kind.Mark mark.And) at us h = refl
short_plain_by class expression (kind.Mark mark.Increment) at us h = refl
short_plain_by class expression (kind.Mark mark.Decrement) at us h = refl
short_plain_by class expression (kind.Mark mark.Scope) at us h = refl
short_plain_by class expression (kind.Mark mark.OpenParen) at us h = refl
short_plain_by class expression k at us h = never h

pub short_plain : (class : List ℕ → Bool) (expression : ℕ → Reader Expression) (ts : List Token) → plain_next ts ≡ true → short class expression ts ≡ plain class expression ts
short_plain class expression [] h = never h
short_plain class expression (t ∷ ts) h = short_plain_by class expression t.kind t.span ts h
