-- The names of a path with which a statement or a local's first argument begins.
use Rattle.std.proofs.Common.{◌≡◌, ℕ, zero, suc, ◌≤◌, true, false, List, [], ◌∷◌, length, refl, ◌⊎◌, inl, inr, arith}
use Rattle.co_base.specs.declared.span.Span.{Span}
use Rattle.co_lex.specs.declared.token.Token.{Token}
use Rattle.co_lex.specs.declared.token.TokenKind.TheVariants as kind
use Rattle.co_lex.specs.declared.token.Mark.TheVariants as mark
use Rattle.co_lex.specs.declared.token.Word.TheVariants as word
use Rattle.co_rules.specs.declared.symbol.Nonterminal.{Nonterminal}
use Rattle.co_rules.specs.declared.symbol.Nonterminal.TheVariants as n
use Rattle.co_rules.specs.declared.symbol.Pattern.TheVariants as pattern
use Rattle.co_rules.specs.declared.symbol.Symbol.{Symbol}
use Rattle.co_rules.specs.declared.symbol.Symbol.TheVariants.{Token as Terminal, One, Maybe, Close}
use Rattle.co_rules.specs.Names.{has_some, is_class}
use Rattle.co_rules.specs.Rule.{Rule, rule}
use Rattle.co_rules.proofs.Follow.{numbers}
use Rattle.co_tree.specs.Formed.{IsName, last_of}
use Rattle.co_reader.specs.Reading.{lead, sees}
use Rattle.co_reader.specs.Leads.{goes_on_as_type}
use Rattle.co_reads.specs.Runs.{Runs}
use Rattle.co_reads.proofs.Built.{mark_token, kind_token}
use Rattle.co_reads.proofs.Cases.{Among, NoneNext, which, whether, either, none_left, some_among, usable}
use Rattle.co_reads.proofs.Firsts.{Named, named, name_first, class_first, other_first, IsClassName, IsOtherName, Marked, marked, mark_first, Worded, worded, word_first}
use Rattle.co_reads.proofs.Operators.{ReferenceNext, lvalue, rvalue, reference_first}
use Rattle.co_reads.proofs.Paths.{only, then, PathNext}
use Rattle.co_reads.proofs.RulesOfArguments.{of_first_scope, those_first_scope, of_first_path, those_first_path}
use Rattle.co_reads.proofs.RulesOfExpressions.{of_postfix, those_postfix, of_operators, those_operators, those_expression_rest}
use Rattle.co_reads.proofs.RulesOfTypes.{of_type_rest, those_type_rest}
use Rattle.co_reads.proofs.Steps.{unseen, unseen_mark, BeginNot}
use Rattle.co_reads_statements.proofs.LeftOut.{may_by, left_out, none_by, Apart}
use Rattle.co_reads_statements.proofs.RulesOfStatements.{of_after_class, those_after_class, of_statement_path, those_statement_path, of_after_other, those_after_other}

-- ---- paths that name no class

-- the names of a path come next, and the last is the name of no class
pub record OtherNext (C : List (List ℕ)) (R : List Symbol) (ts : List Token) : Type 0 where
  pub next : PathNext C R ts
  pub other : is_class C (last_of next.later next.first) ≡ false

-- a name and `::` before them
other_longer : {C : List (List ℕ)} {R : List Symbol} {ts : List Token} (text : List ℕ) (at scope : Span) → IsName text → OtherNext C R ts → OtherNext C R (kind_token (kind.Name text) at ∷ mark_token mark.Scope scope ∷ ts)
other_longer text at scope is p =
    let q = p.next in
    record { next = record { first = text; later = q.first ∷ q.later; left = q.left; names = then text q.first q.later at scope _ q.left is q.names; runs = q.runs }; other = p.other }

other_scoped : {C : List (List ℕ)} {R S : List Symbol} {ts : List Token} (text : List ℕ) (at : Span) (k : ℕ) → IsName text → length ts ≤ k → ((us : List Token) → length us ≤ k → Runs C S us → OtherNext C R us) → Marked C mark.Scope S ts
    → OtherNext C R (kind_token (kind.Name text) at ∷ ts)
other_scoped text at k is l more (marked scope us r) = other_longer text at scope is (more us (omega (arith, l)) r)

-- a name of no class alone
other_alone : {C : List (List ℕ)} {R : List Symbol} {ts : List Token} (text : List ℕ) (at : Span) → IsOtherName C text → sees mark.Scope ts ≡ false → Runs C R ts → OtherNext C R (kind_token (kind.Name text) at ∷ ts)
other_alone {ts = ts} text at is e r = record { next = record { first = text; later = []; left = ts; names = only text at ts is.name e; runs = r }; other = is.class }

no_scope : (C : List (List ℕ)) (ts : List Token) → NoneNext C of_first_scope ts → sees mark.Scope ts ≡ false
no_scope C [] h = absurd h
no_scope C (t ∷ ts) h = unseen_mark C mark.Scope t ts (h.0 (usable (has_some C)))

-- what reads the names behind `::`
abbrev OtherLater : List (List ℕ) → List Symbol → ℕ → Type 0
OtherLater C R k = (us : List Token) → length us ≤ k → Runs C (One n.FirstPath ∷ R) us → OtherNext C R us

first_class : {C : List (List ℕ)} {R : List Symbol} {ts : List Token} (k : ℕ) → OtherLater C R k → length ts ≤ suc k → Named C (IsClassName C) (Terminal (pattern.Punctuator mark.Scope) ∷ One n.FirstPath ∷ R) ts → OtherNext C R ts
first_class k more l (named text at us is r) = other_scoped text at k is.name (omega (arith, l)) more (mark_first r)

on_scope : {C : List (List ℕ)} {R : List Symbol} {ts : List Token} (text : List ℕ) (at : Span) (k : ℕ) → IsOtherName C text → OtherLater C R k → length ts ≤ k → Among C R of_first_scope ts ⊎ (NoneNext C of_first_scope ts × Runs C R ts) → OtherNext C R (kind_token (kind.Name text) at ∷ ts)
on_scope text at k is more l (inl (inl h)) = other_scoped text at k is.name l more (mark_first h)
on_scope text at k is more l (inl (inr h)) = absurd h
on_scope {C} {ts = ts} text at k is more l (inr h) = other_alone text at is (no_scope C ts h.0) h.1

first_other : {C : List (List ℕ)} {R : List Symbol} {ts : List Token} (k : ℕ) → OtherLater C R k → length ts ≤ suc k → Named C (IsOtherName C) (Maybe n.FirstScope ∷ R) ts → OtherNext C R ts
first_other k more l (named text at us is r) = on_scope text at k is more (omega (arith, l)) (whether those_first_scope r)

first_path_by : (C : List (List ℕ)) (R : List Symbol) (k : ℕ) (ts : List Token) → length ts ≤ k → Among C R of_first_path ts → OtherNext C R ts
first_path_by C R zero ts l h = absurd (none_left ts (some_among C R ts of_first_path h) l)
first_path_by C R (suc k) ts l (inl h) = first_class k (λ us b q. first_path_by C R k us b (which those_first_path q)) l (class_first h)
first_path_by C R (suc k) ts l (inr (inl h)) = first_other k (λ us b q. first_path_by C R k us b (which those_first_path q)) l (other_first h)
first_path_by C R (suc k) ts l (inr (inr h)) = absurd h

pub first_path : {C : List (List ℕ)} {R : List Symbol} {ts : List Token} → Runs C (One n.FirstPath ∷ R) ts → OtherNext C R ts
first_path {C} {R} {ts} h = first_path_by C R (length ts) ts (omega arith) (which those_first_path h)

-- ---- the rest of a type, and the name of a variable

-- what stands behind the base of a local's type
abbrev pub named_rest : List Symbol → List Symbol
named_rest R = Maybe n.TypeRest ∷ Terminal pattern.Name ∷ Maybe n.LocalRest ∷ R

-- what stands behind a primary expression
abbrev pub behind : List Symbol → List Symbol
behind R = Maybe n.Postfix ∷ Maybe n.Operators ∷ Maybe n.ExpressionRest ∷ R

abbrev pub local_rules : Nonterminal → List Rule
local_rules N =
    rule N (pattern.Keyword word.Const) (Maybe n.Pointers ∷ Terminal pattern.Name ∷ Maybe n.LocalRest ∷ []) ∷
    rule N (pattern.Punctuator mark.Star) (Maybe n.Pointers ∷ Close ∷ Terminal pattern.Name ∷ Maybe n.LocalRest ∷ []) ∷
    rule N pattern.ReferenceMark (Terminal pattern.Name ∷ Maybe n.LocalRest ∷ []) ∷
    rule N pattern.Name (Maybe n.LocalRest ∷ []) ∷ []

-- a local goes on so
pub record LocalNext (C : List (List ℕ)) (R : List Symbol) (ts : List Token) : Type 0 where
  pub goes_on : goes_on_as_type (lead ts) ≡ true
  pub runs : Runs C (named_rest R) ts

const_goes : {C : List (List ℕ)} {R : List Symbol} {ts : List Token} → Worded C word.Const R ts → goes_on_as_type (lead ts) ≡ true
const_goes (worded at ts r) = refl

star_goes : {C : List (List ℕ)} {R : List Symbol} {ts : List Token} → Marked C mark.Star R ts → goes_on_as_type (lead ts) ≡ true
star_goes (marked at ts r) = refl

reference_goes : {C : List (List ℕ)} {R : List Symbol} {ts : List Token} → ReferenceNext C R ts → goes_on_as_type (lead ts) ≡ true
reference_goes (lvalue at ts r) = refl
reference_goes (rvalue at ts r) = refl

name_goes : {C : List (List ℕ)} {Is : List ℕ → Type 0} {R : List Symbol} {ts : List Token} → Named C Is R ts → goes_on_as_type (lead ts) ≡ true
name_goes (named text at ts is r) = refl

no_rest_named : Apart pattern.Name of_type_rest
unfolding numbers
no_rest_named = (refl, (refl, (refl, tt)))

pub local_next : (N : Nonterminal) (C : List (List ℕ)) (R : List Symbol) (ts : List Token) → Among C R (local_rules N) ts → LocalNext C R ts
local_next N C R ts (inl h) = record { goes_on = const_goes (word_first h); runs = may_by (Maybe n.Pointers ∷ []) those_type_rest (inl refl) h }
local_next N C R ts (inr (inl h)) = record { goes_on = star_goes (mark_first h); runs = may_by (Maybe n.Pointers ∷ Close ∷ []) those_type_rest (inr (inl refl)) h }
local_next N C R ts (inr (inr (inl h))) = record { goes_on = reference_goes (reference_first h); runs = may_by [] those_type_rest (inr (inr (inl refl))) h }
local_next N C R ts (inr (inr (inr (inl h)))) = record { goes_on = name_goes (name_first h); runs = left_out those_type_rest no_rest_named h h }
local_next N C R ts (inr (inr (inr (inr h)))) = absurd h

-- ---- paths with which a statement begins

-- what is read behind the names of such a path
pub data Led (C : List (List ℕ)) (R : List Symbol) (ts : List Token) : Type 0 where
  local_led : (p : PathNext C (named_rest R) ts) → is_class C (last_of p.later p.first) ≡ true → goes_on_as_type (lead p.left) ≡ true → Led C R ts
  built_led : (p : PathNext C (Terminal (pattern.Punctuator mark.OpenBrace) ∷ Maybe n.Arguments ∷ Terminal (pattern.Punctuator mark.CloseBrace) ∷ behind R) ts) → is_class C (last_of p.later p.first) ≡ true → Led C R ts
  operand_led : OtherNext C (behind R) ts → Led C R ts

path_longer : {C : List (List ℕ)} {R : List Symbol} {ts : List Token} (text : List ℕ) (at scope : Span) → IsName text → PathNext C R ts → PathNext C R (kind_token (kind.Name text) at ∷ mark_token mark.Scope scope ∷ ts)
path_longer text at scope is q = record { first = text; later = q.first ∷ q.later; left = q.left; names = then text q.first q.later at scope _ q.left is q.names; runs = q.runs }

longer : {C : List (List ℕ)} {R : List Symbol} {ts : List Token} (text : List ℕ) (at scope : Span) → IsName text → Led C R ts → Led C R (kind_token (kind.Name text) at ∷ mark_token mark.Scope scope ∷ ts)
unfolding path_longer
longer text at scope is (local_led p c g) = local_led (path_longer text at scope is p) c g
longer text at scope is (built_led p c) = built_led (path_longer text at scope is p) c
longer text at scope is (operand_led p) = operand_led (other_longer text at scope is p)

scoped : {C : List (List ℕ)} {R S : List Symbol} {ts : List Token} (text : List ℕ) (at : Span) (k : ℕ) → IsName text → length ts ≤ k → ((us : List Token) → length us ≤ k → Runs C S us → Led C R us) → Marked C mark.Scope S ts → Led C R (kind_token (kind.Name text) at ∷ ts)
scoped text at k is l more (marked scope us r) = longer text at scope is (more us (omega (arith, l)) r)

no_scope_local : (N : Nonterminal) → BeginNot mark.Scope (local_rules N)
no_scope_local N = (refl, (refl, (refl, (refl, tt))))

abbrev brace_rules : List Rule
brace_rules = rule n.AfterClass (pattern.Punctuator mark.OpenBrace) (Maybe n.Arguments ∷ Terminal (pattern.Punctuator mark.CloseBrace) ∷ Close ∷ Maybe n.Postfix ∷ Maybe n.Operators ∷ Maybe n.ExpressionRest ∷ []) ∷ []

-- after the name of a class that no `::` follows
class_ends : (C : List (List ℕ)) (R : List Symbol) (text : List ℕ) (at : Span) (ts : List Token) → IsClassName C text → Among C R (local_rules n.AfterClass) ts ⊎ Among C R brace_rules ts → Led C R (kind_token (kind.Name text) at ∷ ts)
class_ends C R text at ts is (inl h) =
    let x = local_next n.AfterClass C R ts h in
    local_led (record { first = text; later = []; left = ts; names = only text at ts is.name (unseen C R ts mark.Scope (local_rules n.AfterClass) (no_scope_local n.AfterClass) h); runs = x.runs }) is.class x.goes_on
class_ends C R text at ts is (inr (inl h)) =
    built_led (record { first = text; later = []; left = ts; names = only text at ts is.name (unseen C R ts mark.Scope brace_rules (refl, tt) (inl h)); runs = h }) is.class
class_ends C R text at ts is (inr (inr h)) = absurd h

-- ---- what may follow an operand is left out

no_postfix_binary : Apart pattern.BinaryOperator of_postfix
unfolding numbers
no_postfix_binary = (refl, (refl, (refl, tt)))

no_postfix_assignment : Apart pattern.Assignment of_postfix
unfolding numbers
no_postfix_assignment = (refl, (refl, (refl, tt)))

no_operators_assignment : Apart pattern.Assignment of_operators
unfolding numbers
no_operators_assignment = (refl, tt)

no_postfix_question : Apart (pattern.Punctuator mark.Question) of_postfix
unfolding numbers
no_postfix_question = (refl, (refl, (refl, tt)))

no_operators_question : Apart (pattern.Punctuator mark.Question) of_operators
unfolding numbers
no_operators_question = (refl, tt)

-- what stands behind a name of no class, but for `::`
abbrev other_rules : List Rule
other_rules =
    rule n.AfterOther pattern.Access (Terminal pattern.Name ∷ Maybe n.Postfix ∷ Close ∷ Maybe n.Operators ∷ Maybe n.ExpressionRest ∷ []) ∷
    rule n.AfterOther (pattern.Punctuator mark.OpenParen) (Maybe n.Arguments ∷ Terminal (pattern.Punctuator mark.CloseParen) ∷ Maybe n.Postfix ∷ Close ∷ Maybe n.Operators ∷ Maybe n.ExpressionRest ∷ []) ∷
    rule n.AfterOther pattern.Increment (Maybe n.Postfix ∷ Close ∷ Maybe n.Operators ∷ Maybe n.ExpressionRest ∷ []) ∷
    rule n.AfterOther pattern.BinaryOperator (One n.Unary ∷ Maybe n.Operators ∷ Close ∷ Maybe n.ExpressionRest ∷ []) ∷
    rule n.AfterOther pattern.Assignment (One n.Expression ∷ Close ∷ []) ∷
    rule n.AfterOther (pattern.Punctuator mark.Question) (One n.Expression ∷ Terminal (pattern.Punctuator mark.Colon) ∷ One n.Expression ∷ Close ∷ []) ∷ []

other_behind : (C : List (List ℕ)) (R : List Symbol) (ts : List Token) → Among C R other_rules ts → Runs C (behind R) ts
other_behind C R ts (inl h) = may_by (Terminal pattern.Name ∷ Maybe n.Postfix ∷ Close ∷ []) those_postfix (inl refl) h
other_behind C R ts (inr (inl h)) = may_by (Maybe n.Arguments ∷ Terminal (pattern.Punctuator mark.CloseParen) ∷ Maybe n.Postfix ∷ Close ∷ []) those_postfix (inr (inl refl)) h
other_behind C R ts (inr (inr (inl h))) = may_by (Maybe n.Postfix ∷ Close ∷ []) those_postfix (inr (inr (inl refl))) h
other_behind C R ts (inr (inr (inr (inl h)))) = left_out those_postfix no_postfix_binary h (may_by (One n.Unary ∷ Maybe n.Operators ∷ Close ∷ []) those_operators (inl refl) h)
other_behind C R ts (inr (inr (inr (inr (inl h))))) =
    left_out those_postfix no_postfix_assignment h (left_out those_operators no_operators_assignment h (may_by (One n.Expression ∷ Close ∷ []) those_expression_rest (inl refl) h))
other_behind C R ts (inr (inr (inr (inr (inr (inl h)))))) =
    left_out those_postfix no_postfix_question h
    (left_out those_operators no_operators_question h (may_by (One n.Expression ∷ Terminal (pattern.Punctuator mark.Colon) ∷ One n.Expression ∷ Close ∷ []) those_expression_rest (inr (inl refl)) h))
other_behind C R ts (inr (inr (inr (inr (inr (inr h)))))) = absurd h

-- nothing stands behind it
nothing_behind : (C : List (List ℕ)) (R : List Symbol) (ts : List Token) → NoneNext C of_after_other ts → Runs C R ts → Runs C (behind R) ts
nothing_behind C R [] h r = absurd h
nothing_behind C R (t ∷ ts) h r =
    let u = usable (has_some C) in
    none_by t ts those_postfix ((λ _. h.1.0 u), ((λ _. h.1.1.0 u), ((λ _. h.1.1.1.0 u), tt)))
    (none_by t ts those_operators ((λ _. h.1.1.1.1.0 u), tt) (none_by t ts those_expression_rest ((λ _. h.1.1.1.1.1.0 u), ((λ _. h.1.1.1.1.1.1.0 u), tt)) r))

no_scope_other : (C : List (List ℕ)) (ts : List Token) → NoneNext C of_after_other ts → sees mark.Scope ts ≡ false
no_scope_other C [] h = absurd h
no_scope_other C (t ∷ ts) h = unseen_mark C mark.Scope t ts (h.0 (usable (has_some C)))

not_scope : BeginNot mark.Scope other_rules
not_scope = (refl, (refl, (refl, (refl, (refl, (refl, tt))))))

-- what reads the names behind `::`
abbrev Later : List (List ℕ) → List Symbol → ℕ → Type 0
Later C R k = (us : List Token) → length us ≤ k → Runs C (One n.StatementPath ∷ R) us → Led C R us

after_class : {C : List (List ℕ)} {R : List Symbol} {ts : List Token} (text : List ℕ) (at : Span) (k : ℕ) → IsClassName C text → Later C R k → length ts ≤ k → Among C R of_after_class ts → Led C R (kind_token (kind.Name text) at ∷ ts)
after_class text at k is more l (inl h) = scoped text at k is.name l more (mark_first h)
after_class {C} {R} {ts} text at k is more l (inr h) = class_ends C R text at ts is (either C R ts (local_rules n.AfterClass) brace_rules h)

class_led : {C : List (List ℕ)} {R : List Symbol} {ts : List Token} (k : ℕ) → Later C R k → length ts ≤ suc k → Named C (IsClassName C) (One n.AfterClass ∷ R) ts → Led C R ts
class_led k more l (named text at us is r) = after_class text at k is more (omega (arith, l)) (which those_after_class r)

after_other : {C : List (List ℕ)} {R : List Symbol} {ts : List Token} (text : List ℕ) (at : Span) (k : ℕ) → IsOtherName C text → Later C R k → length ts ≤ k → Among C R of_after_other ts ⊎ (NoneNext C of_after_other ts × Runs C R ts)
    → Led C R (kind_token (kind.Name text) at ∷ ts)
after_other text at k is more l (inl (inl h)) = scoped text at k is.name l more (mark_first h)
after_other {C} {R} {ts} text at k is more l (inl (inr h)) = operand_led (other_alone text at is (unseen C R ts mark.Scope other_rules not_scope h) (other_behind C R ts h))
after_other {C} {R} {ts} text at k is more l (inr h) = operand_led (other_alone text at is (no_scope_other C ts h.0) (nothing_behind C R ts h.0 h.1))

other_led : {C : List (List ℕ)} {R : List Symbol} {ts : List Token} (k : ℕ) → Later C R k → length ts ≤ suc k → Named C (IsOtherName C) (Maybe n.AfterOther ∷ R) ts → Led C R ts
other_led k more l (named text at us is r) = after_other text at k is more (omega (arith, l)) (whether those_after_other r)

statement_path_by : (C : List (List ℕ)) (R : List Symbol) (k : ℕ) (ts : List Token) → length ts ≤ k → Among C R of_statement_path ts → Led C R ts
statement_path_by C R zero ts l h = absurd (none_left ts (some_among C R ts of_statement_path h) l)
statement_path_by C R (suc k) ts l (inl h) = class_led k (λ us b q. statement_path_by C R k us b (which those_statement_path q)) l (class_first h)
statement_path_by C R (suc k) ts l (inr (inl h)) = other_led k (λ us b q. statement_path_by C R k us b (which those_statement_path q)) l (other_first h)
statement_path_by C R (suc k) ts l (inr (inr h)) = absurd h

pub statement_path : {C : List (List ℕ)} {R : List Symbol} {ts : List Token} → Runs C (One n.StatementPath ∷ R) ts → Led C R ts
statement_path {C} {R} {ts} h = statement_path_by C R (length ts) ts (omega arith) (which those_statement_path h)
