-- Which tokens begin an expression.
use Rattle.std.proofs.Common.{◌≡◌, ℕ, Bool, true, false, ◌||◌, List, [], ◌∷◌, refl, sym, inl, inr}
use Rattle.std.specs.List.{list_any}
use Rattle.co_lex.specs.declared.token.Token.{Token}
use Rattle.co_lex.specs.declared.token.TokenKind.{TokenKind}
use Rattle.co_lex.specs.declared.token.TokenKind.TheVariants as kind
use Rattle.co_lex.specs.declared.token.Mark.TheVariants as mark
use Rattle.co_lex.specs.declared.token.Word.TheVariants as word
use Rattle.co_rules.specs.declared.symbol.Known.{Known}
use Rattle.co_rules.specs.declared.symbol.Known.TheVariants as known_name
use Rattle.co_rules.specs.declared.symbol.Symbol.{Symbol}
use Rattle.co_rules.specs.declared.symbol.Terminal.{Terminal}
use Rattle.co_rules.specs.declared.symbol.Terminal.TheVariants as terminal
use Rattle.co_rules.specs.Names.{known, is_class, has_some}
use Rattle.co_rules.specs.Pattern.{admits}
use Rattle.co_rules.specs.Rule.{Rule}
use Rattle.co_rules.specs.Terminal.{terminal_of}
use Rattle.co_rules.proofs.Sets.{never, or_left, or_right}
use Rattle.co_grammar.specs.Machine.{needs_class}
use Rattle.co_reader.specs.Reading.{lead, lead_of}
use Rattle.co_reader.specs.Leads.{begins_expression}
use Rattle.co_reads.specs.Runs.{token as read_token}
use Rattle.co_reads.proofs.Cases.{Among, BeginsNone, IsSome, NoneNext, some_among, usable}
use Rattle.co_reads.proofs.RulesOfExpressions.{of_expression}

-- whether one of the rules begins with the terminal
abbrev pub some_begins : List Rule → Terminal → Bool
some_begins rs t = list_any (λ r. admits r.head t) rs

pub among_begins : (C : List (List ℕ)) (R : List Symbol) (t : Token) (ts : List Token) (rs : List Rule) → Among C R rs (t ∷ ts) → some_begins rs (terminal_of C t.kind) ≡ true
among_begins C R t ts [] h = absurd h
among_begins C R t ts (r ∷ rs) (inl (read_token p S u us a few h)) = or_left (admits r.head (terminal_of C t.kind)) (some_begins rs (terminal_of C t.kind)) a
among_begins C R t ts (r ∷ rs) (inr h) = or_right (admits r.head (terminal_of C t.kind)) (some_begins rs (terminal_of C t.kind)) (among_begins C R t ts rs h)

-- no rule of them needs that there are classes
abbrev pub NeedNoClass : List Rule → Type 0
NeedNoClass [] = Unit {0}
NeedNoClass (r ∷ rs) = (list_any needs_class r.body ≡ false) × NeedNoClass rs

both_false : (a b : Bool) → a ≡ false → b ≡ false → (a || b) ≡ false
both_false true b h k = absurd cc
both_false false b h k = k

pub none_begins : (C : List (List ℕ)) (k : TokenKind) (rs : List Rule) → NeedNoClass rs → BeginsNone C k rs → some_begins rs (terminal_of C k) ≡ false
none_begins C k [] u h = refl
none_begins C k (r ∷ rs) u h = both_false (admits r.head (terminal_of C k)) (some_begins rs (terminal_of C k)) (h.0 (rw u.0 (usable (has_some C)))) (none_begins C k rs u.1 h.1)

begun : (C : List (List ℕ)) (k : TokenKind) → some_begins of_expression (terminal_of C k) ≡ true → begins_expression (lead_of k) ≡ true
unfolding admits
begun C (kind.Name text) h = refl
begun C (kind.Int num value) h = refl
begun C (kind.Mark mark.Plus) h = refl
begun C (kind.Mark mark.Minus) h = refl
begun C (kind.Mark mark.Not) h = refl
begun C (kind.Mark mark.Tilde) h = refl
begun C (kind.Mark mark.Star) h = refl
begun C (kind.Mark mark.And) h = refl
begun C (kind.Mark mark.Increment) h = refl
begun C (kind.Mark mark.Decrement) h = refl
begun C (kind.Mark mark.Scope) h = refl
begun C (kind.Mark mark.OpenParen) h = refl
begun C (kind.Word word.CoAwait) h = refl
begun C (kind.Word word.CoYield) h = refl
begun C (kind.Word word.Throw) h = refl
begun C (kind.Word word.New) h = refl
begun C (kind.Word word.Delete) h = refl
begun C (kind.Word word.StaticCast) h = refl
begun C (kind.Word word.True) h = refl
begun C (kind.Word word.False) h = refl
begun C (kind.Word word.Nullptr) h = refl
begun C (kind.Word word.This) h = refl
begun C (kind.Word word.Void) h = refl
begun C (kind.Word word.Bool) h = refl
begun C (kind.Word word.Int) h = refl
begun C (kind.Word word.Long) h = refl
begun C k h = never h

-- each name begins one
named : (is_class : Bool) (k : Known) → some_begins of_expression (terminal.Name is_class k) ≡ false → false ≡ true
unfolding admits
named true k h = by_known k h
  where
    by_known : (k : Known) → some_begins of_expression (terminal.Name true k) ≡ false → false ≡ true
    by_known known_name.Std h = sym h
    by_known known_name.Corun h = sym h
    by_known k h = sym h
named false k h = by_known k h
  where
    by_known : (k : Known) → some_begins of_expression (terminal.Name false k) ≡ false → false ≡ true
    by_known known_name.Std h = sym h
    by_known known_name.Corun h = sym h
    by_known k h = sym h

refused : (C : List (List ℕ)) (k : TokenKind) → some_begins of_expression (terminal_of C k) ≡ false → begins_expression (lead_of k) ≡ false
unfolding admits
refused C (kind.Name text) h = never (named (is_class C text) (known text) h)
refused C (kind.Int num value) h = never (sym h)
refused C (kind.Mark mark.Plus) h = never (sym h)
refused C (kind.Mark mark.Minus) h = never (sym h)
refused C (kind.Mark mark.Not) h = never (sym h)
refused C (kind.Mark mark.Tilde) h = never (sym h)
refused C (kind.Mark mark.Star) h = never (sym h)
refused C (kind.Mark mark.And) h = never (sym h)
refused C (kind.Mark mark.Increment) h = never (sym h)
refused C (kind.Mark mark.Decrement) h = never (sym h)
refused C (kind.Mark mark.Scope) h = never (sym h)
refused C (kind.Mark mark.OpenParen) h = never (sym h)
refused C (kind.Word word.CoAwait) h = never (sym h)
refused C (kind.Word word.CoYield) h = never (sym h)
refused C (kind.Word word.Throw) h = never (sym h)
refused C (kind.Word word.New) h = never (sym h)
refused C (kind.Word word.Delete) h = never (sym h)
refused C (kind.Word word.StaticCast) h = never (sym h)
refused C (kind.Word word.True) h = never (sym h)
refused C (kind.Word word.False) h = never (sym h)
refused C (kind.Word word.Nullptr) h = never (sym h)
refused C (kind.Word word.This) h = never (sym h)
refused C (kind.Word word.Void) h = never (sym h)
refused C (kind.Word word.Bool) h = never (sym h)
refused C (kind.Word word.Int) h = never (sym h)
refused C (kind.Word word.Long) h = never (sym h)
refused C k h = refl

need_no_class : NeedNoClass of_expression
need_no_class = (refl, (refl, (refl, (refl, (refl, (refl, (refl, (refl, (refl, (refl, (refl, (refl, (refl, (refl, tt))))))))))))))

begun_some : (C : List (List ℕ)) (R : List Symbol) (ts : List Token) → IsSome ts → Among C R of_expression ts → begins_expression (lead ts) ≡ true
begun_some C R [] some h = absurd some
begun_some C R (t ∷ ts) some h = begun C t.kind (among_begins C R t ts of_expression h)

pub expression_begins : (C : List (List ℕ)) (R : List Symbol) (ts : List Token) → Among C R of_expression ts → begins_expression (lead ts) ≡ true
expression_begins C R ts h = begun_some C R ts (some_among C R ts of_expression h) h

pub no_expression : (C : List (List ℕ)) (ts : List Token) → NoneNext C of_expression ts → begins_expression (lead ts) ≡ false
no_expression C [] h = absurd h
no_expression C (t ∷ ts) h = refused C t.kind (none_begins C t.kind of_expression need_no_class h)
