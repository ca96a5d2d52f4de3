-- Unary expressions where the rules read them.
use Rattle.std.proofs.Common.{◌≡◌, ℕ, suc, ◌≤◌, true, false, List, ◌∷◌, length, refl, ◌∙◌, inl, inr, arith}
use Rattle.co_base.specs.declared.span.Span.{Span}
use Rattle.co_lex.specs.declared.token.Token.{Token}
use Rattle.co_lex.specs.declared.token.TokenKind.{TokenKind}
use Rattle.co_lex.specs.declared.token.TokenKind.TheVariants as kind
use Rattle.co_lex.specs.declared.token.Mark.TheVariants as mark
use Rattle.co_lex.specs.declared.token.Word.TheVariants as word
use Rattle.co_rules.specs.declared.symbol.Nonterminal.TheVariants as n
use Rattle.co_rules.specs.declared.symbol.Pattern.TheVariants as pattern
use Rattle.co_rules.specs.declared.symbol.Symbol.{Symbol}
use Rattle.co_rules.specs.declared.symbol.Symbol.TheVariants.{Token as Terminal, One, Maybe, Greedy}
use Rattle.co_rules.specs.Names.{is_class}
use Rattle.co_rules.specs.Pattern.{admits}
use Rattle.co_rules.specs.Terminal.{terminal_of}
use Rattle.co_rules.proofs.Sets.{never}
use Rattle.co_tree.specs.declared.expressions.Expression.{Expression}
use Rattle.co_tree.specs.declared.expressions.Expression.TheVariants as expr
use Rattle.co_tree.specs.Derives.{StandsAt}
use Rattle.co_tree.specs.Piece.{in_parentheses}
use Rattle.co_tree.specs.Sentence as tree
use Rattle.co_tree.specs.Sentence.{unary_token}
use Rattle.co_tree.specs.Formed.{BeginsWithType, as_unary}
use Rattle.co_reader.specs.Reading.{Reader, and_then, place}
use Rattle.co_reader.specs.Leads.{unary_operator}
use Rattle.co_expressions.specs.Expressions.{unary, prefix, primary, global, deleted, storage, postfix}
use Rattle.co_reads.specs.Expressions.{IsOperand, IsLed}
use Rattle.co_reads.specs.Runs.{Runs, token as read_token}
use Rattle.co_reads.specs.Takes.{Takes}
use Rattle.co_reads.proofs.Arguments.{given_taken}
use Rattle.co_reads.proofs.Built.{mark_token, word_token, kind_token, looser, unary_built, delete_built, operator_new_built, operator_delete_built, unary_unled, delete_unled, operator_new_unled, operator_delete_unled, still_unled, still_led}
use Rattle.co_reads.proofs.Cases.{Among, HasMore, which}
use Rattle.co_reads.proofs.Constructions.{LedRead}
use Rattle.co_reads.proofs.Firsts.{Marked, marked, Worded, worded, word_first}
use Rattle.co_reads.proofs.Nested.{Nested}
use Rattle.co_reads.proofs.News.{created_taken}
use Rattle.co_reads.proofs.Operators.{OperatorNext, operator_next}
use Rattle.co_reads.proofs.Postfixes.{postfix_taken}
use Rattle.co_reads.proofs.RulesOfExpressions.{of_global_scope, those_global_scope}
use Rattle.co_reads.proofs.Steps.{within}

-- a unary expression is read
abbrev pub UnaryRead : List (List ℕ) → (ℕ → Reader Expression) → List Symbol → List Token → Type 0
UnaryRead C expression R ts = Takes (unary (is_class C) expression (place ts)) (λ e left. IsOperand C as_unary ts e left × IsLed ts e) C R ts

-- ---- an operator, `new` and `delete`

pub operator_unary : {C : List (List ℕ)} {expression : ℕ → Reader Expression} {count : ℕ} {R : List Symbol} {ts : List Token} → Nested C expression count → HasMore R → length ts ≤ suc count → OperatorNext unary_operator unary_token C (One n.Unary ∷ R) ts → UnaryRead C expression R ts
unfolding unary
operator_unary {R = R} nested more b (operator_next op k at us f s r) =
    let x = nested.unary R us more (omega (arith, b)) r in
    record { part = expr.Unary op x.part at; left = x.left; read = rw (f, x.read); is = (unary_built op k at s x.is, λ h. absurd (unary_unled op x.part at h)); runs = x.runs }

pub new_unary : {C : List (List ℕ)} {expression : ℕ → Reader Expression} {count : ℕ} {R : List Symbol} {ts : List Token} → Nested C expression count → length ts ≤ suc count → Worded C word.New (One n.Base ∷ Greedy n.NewRest pattern.NewMark ∷ R) ts → UnaryRead C expression R ts
unfolding unary prefix
new_unary nested b (worded at us r) =
    let x = created_taken false at at nested (omega (arith, b)) (refl, refl) r in
    record { part = x.part; left = x.left; read = x.read; is = (x.is.0, λ h. absurd (x.is.1 h)); runs = x.runs }

pub delete_unary : {C : List (List ℕ)} {expression : ℕ → Reader Expression} {count : ℕ} {R : List Symbol} {ts : List Token} → Nested C expression count → HasMore R → length ts ≤ suc count → Worded C word.Delete (One n.Unary ∷ R) ts → UnaryRead C expression R ts
unfolding unary prefix deleted
delete_unary {R = R} nested more b (worded at us r) =
    let x = nested.unary R us more (omega (arith, b)) r in
    record { part = expr.Delete false x.part at; left = x.left; read = rw x.read; is = (delete_built false at at (refl, refl) x.is, λ h. absurd (delete_unled false x.part at h)); runs = x.runs }

-- ---- behind `::`

-- what stands behind `::` is read with it
abbrev GlobalRead : List (List ℕ) → (ℕ → Reader Expression) → List Symbol → Span → List Token → Type 0
GlobalRead C expression R at us = Takes (global (is_class C) expression at) (λ e left. IsOperand C as_unary (mark_token mark.Scope at ∷ us) e left × (BeginsWithType e → ⊥)) C R us

global_new : {C : List (List ℕ)} {expression : ℕ → Reader Expression} {count : ℕ} {R : List Symbol} {us : List Token} (at : Span) → Nested C expression count → length us ≤ suc count → Worded C word.New (One n.Base ∷ Greedy n.NewRest pattern.NewMark ∷ R) us → GlobalRead C expression R at us
unfolding global
global_new at nested b (worded of vs r) =
    let x = created_taken true at of nested (omega (arith, b)) (refl, (refl, refl)) r in
    record { part = x.part; left = x.left; read = x.read; is = x.is; runs = x.runs }

global_delete : {C : List (List ℕ)} {expression : ℕ → Reader Expression} {count : ℕ} {R : List Symbol} {us : List Token} (at : Span) → Nested C expression count → HasMore R → length us ≤ suc count → Worded C word.Delete (One n.Unary ∷ R) us → GlobalRead C expression R at us
unfolding global deleted
global_delete {R = R} at nested more b (worded of vs r) =
    let x = nested.unary R vs more (omega (arith, b)) r in
    record { part = expr.Delete true x.part at; left = x.left; read = rw x.read; is = (delete_built true at of (refl, (refl, refl)) x.is, delete_unled true x.part at); runs = x.runs }

-- `new` or `delete` behind `operator`
data AllocationNext (C : List (List ℕ)) (R : List Symbol) : List Token → Type 0 where
  of_new : (at : Span) (ts : List Token) → Runs C R ts → AllocationNext C R (word_token word.New at ∷ ts)
  of_delete : (at : Span) (ts : List Token) → Runs C R ts → AllocationNext C R (word_token word.Delete at ∷ ts)

allocation_kind : (C : List (List ℕ)) (R : List Symbol) (k : TokenKind) (at : Span) (ts : List Token) → admits pattern.Allocation (terminal_of C k) ≡ true → Runs C R ts → AllocationNext C R (kind_token k at ∷ ts)
unfolding admits
allocation_kind C R (kind.Word word.New) at ts h r = of_new at ts r
allocation_kind C R (kind.Word word.Delete) at ts h r = of_delete at ts r
allocation_kind C R k at ts h r = never h

allocation_first : {C : List (List ℕ)} {R : List Symbol} {ts : List Token} → Runs C (Terminal pattern.Allocation ∷ R) ts → AllocationNext C R ts
allocation_first {C} (read_token p R t ts a few r) = allocation_kind C R t.kind t.span ts a r

storage_end : {C : List (List ℕ)} {expression : ℕ → Reader Expression} {count : ℕ} {R : List Symbol} {us : List Token} (at of : Span) → Nested C expression count → length us ≤ suc count → AllocationNext C (One n.GivenArguments ∷ Maybe n.Postfix ∷ R) us → GlobalRead C expression R at (word_token word.Operator of ∷ us)
unfolding global storage
storage_end {C} {expression} {R = R} at of nested b (of_new which vs r) =
    let x = given_taken nested (omega (arith, b)) r in
    let w = within (in_parentheses (tree.arguments x.part)) vs x.left x.is.0 in
    let y = postfix_taken at nested (omega (arith, b, w)) refl (operator_new_built x.part at of which x.is.0 x.is.1 x.is.2) x.runs in
    record { part = y.part; left = y.left; read = rw (x.read, y.read); is = (looser as_unary y.is.0 (omega arith), still_unled (expr.OperatorNew x.part at) y.part y.is.1 (operator_new_unled x.part at)); runs = y.runs }
storage_end {C} {expression} {R = R} at of nested b (of_delete which vs r) =
    let x = given_taken nested (omega (arith, b)) r in
    let w = within (in_parentheses (tree.arguments x.part)) vs x.left x.is.0 in
    let y = postfix_taken at nested (omega (arith, b, w)) refl (operator_delete_built x.part at of which x.is.0 x.is.1 x.is.2) x.runs in
    record { part = y.part; left = y.left; read = rw (x.read, y.read); is = (looser as_unary y.is.0 (omega arith), still_unled (expr.OperatorDelete x.part at) y.part y.is.1 (operator_delete_unled x.part at)); runs = y.runs }

global_operator : {C : List (List ℕ)} {expression : ℕ → Reader Expression} {count : ℕ} {R : List Symbol} {us : List Token} (at : Span) → Nested C expression count → length us ≤ suc count → Worded C word.Operator (Terminal pattern.Allocation ∷ One n.GivenArguments ∷ Maybe n.Postfix ∷ R) us → GlobalRead C expression R at us
global_operator at nested b (worded of vs r) = storage_end at of nested (omega (arith, b)) (allocation_first r)

global_among : {expression : ℕ → Reader Expression} {count : ℕ} (C : List (List ℕ)) (R : List Symbol) (us : List Token) (at : Span) → Nested C expression count → HasMore R → length us ≤ suc count → Among C R of_global_scope us → GlobalRead C expression R at us
global_among C R us at nested more b (inl h) = global_new at nested b (word_first h)
global_among C R us at nested more b (inr (inl h)) = global_delete at nested more b (word_first h)
global_among C R us at nested more b (inr (inr (inl h))) = global_operator at nested b (word_first h)
global_among C R us at nested more b (inr (inr (inr h))) = absurd h

pub scope_unary : {C : List (List ℕ)} {expression : ℕ → Reader Expression} {count : ℕ} {R : List Symbol} {ts : List Token} → Nested C expression count → HasMore R → length ts ≤ suc count → Marked C mark.Scope (One n.GlobalScope ∷ R) ts → UnaryRead C expression R ts
unfolding unary prefix
scope_unary {C} {R = R} nested more b (marked at us r) =
    let x = global_among C R us at nested more (omega (arith, b)) (which those_global_scope r) in
    record { part = x.part; left = x.left; read = x.read; is = (x.is.0, λ h. absurd (x.is.1 h)); runs = x.runs }

-- ---- operands

-- what a postfix expression begins with is read
abbrev pub PrimaryRead : List (List ℕ) → (ℕ → Reader Expression) → List Symbol → List Token → Type 0
PrimaryRead C expression R ts = LedRead C (primary (is_class C) expression (place ts)) R ts

-- the unary expression is a postfix expression
abbrev pub IsPrimary : List (List ℕ) → (ℕ → Reader Expression) → List Token → Type 0
IsPrimary C expression ts = unary (is_class C) expression (place ts) ts ≡ and_then (primary (is_class C) expression (place ts) ts) (postfix expression (place ts))

pub with_postfix : {C : List (List ℕ)} {expression : ℕ → Reader Expression} {count : ℕ} {R : List Symbol} {ts : List Token} → Nested C expression count → length ts ≤ suc count → StandsAt ts (place ts) → IsPrimary C expression ts → PrimaryRead C expression (Maybe n.Postfix ∷ R) ts
    → UnaryRead C expression R ts
with_postfix {C} {expression} {R = R} {ts = ts} nested b p e x =
    let w = within (tree.expression x.part) ts x.left x.is.0.spelled in
    let y = postfix_taken (place ts) nested (omega (arith, b, w)) p x.is.0 x.runs in
    record { part = y.part; left = y.left; read = e ∙ rw (x.read, y.read); is = (looser as_unary y.is.0 (omega arith), still_led ts x.part y.part y.is.1 x.is.1); runs = y.runs }
