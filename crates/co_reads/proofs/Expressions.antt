-- Expressions where the rules read them.
use Rattle.std.proofs.lemmas.Bool.Decides.{nat_tests}
use Rattle.std.specs.Prelude.{◌==◌}
use Rattle.std.proofs.Common.{◌≡◌, ℕ, zero, suc, ◌≤◌, ◌<◌, false, List, ◌∷◌, length, refl, ◌∙◌, ◌⊎◌, inl, inr, arith}
use Rattle.co_base.specs.declared.span.Span.{Span}
use Rattle.co_lex.specs.declared.token.Token.{Token}
use Rattle.co_lex.specs.declared.token.Word.TheVariants as word
use Rattle.co_rules.specs.declared.symbol.Nonterminal.TheVariants as n
use Rattle.co_rules.specs.declared.symbol.Symbol.{Symbol}
use Rattle.co_rules.specs.declared.symbol.Symbol.TheVariants.{One, Maybe}
use Rattle.co_rules.specs.Names.{is_class}
use Rattle.co_tree.specs.declared.expressions.Expression.{Expression}
use Rattle.co_tree.specs.declared.expressions.Expression.TheVariants as expr
use Rattle.co_tree.specs.Sentence as tree
use Rattle.co_tree.specs.Formed.{BeginsWithType, as_unary}
use Rattle.co_reader.specs.declared.lead.Lead.{Lead}
use Rattle.co_reader.specs.declared.lead.Lead.TheVariants as l
use Rattle.co_reader.specs.Reading.{Reader, and_then, place, lead, is_word, sees_word}
use Rattle.co_expressions.specs.Expressions.{binds, unary, after_unary, thrown, whole, whole_by, level, expression}
use Rattle.co_reads.specs.Expressions.{IsRead, IsWhole, IsOperand}
use Rattle.co_reads.specs.Runs.{Runs}
use Rattle.co_reads.specs.Takes.{Takes}
use Rattle.co_reads.proofs.Begins.{expression_begins, no_expression}
use Rattle.co_reads.proofs.Built.{word_token, read_of, yield_built, throw_built, rethrow_built, yield_unled, throw_unled, still_led}
use Rattle.co_reads.proofs.Cases.{Among, HasMore, NoneNext, which, one_or_none, none_left, some_among, some_left, stands_some}
use Rattle.co_reads.proofs.Firsts.{Worded, worded, word_first}
use Rattle.co_reads.proofs.Nested.{Nested}
use Rattle.co_reads.proofs.Operations.{after_taken, operations_taken, no_operations}
use Rattle.co_reads.proofs.Primaries.{unary_among}
use Rattle.co_reads.proofs.RulesOfExpressions.{of_expression, those_expression, of_unary, those_unary}
use Rattle.co_reads.proofs.Steps.{unseen_word, within}

-- ---- whole expressions

-- a whole expression is read
abbrev pub WholeRead : List (List ℕ) → (ℕ → Reader Expression) → List Symbol → List Token → Type 0
WholeRead C expression R ts = Takes (whole (is_class C) expression (place ts)) (λ e left. IsWhole C ts e left) C R ts

unled_whole : {C : List (List ℕ)} {ts left : List Token} {e : Expression} → IsRead C ts e left → (BeginsWithType e → ⊥) → IsWhole C ts e left
unled_whole x u = record { spelled = x.spelled; formed = x.formed; led = λ h. absurd (u h) }

yield_read : {C : List (List ℕ)} {expression : ℕ → Reader Expression} {count : ℕ} {R : List Symbol} {ts : List Token} → Nested C expression count → length ts ≤ suc count → Worded C word.CoYield (One n.Expression ∷ R) ts → WholeRead C expression R ts
unfolding whole
yield_read {R = R} nested b (worded at us r) =
    let x = nested.whole R us (omega (arith, b)) r in
    record { part = expr.Yield x.part at; left = x.left; read = rw x.read; is = unled_whole (yield_built at (read_of x.is)) (yield_unled x.part at); runs = x.runs }

throw_some : {expression : ℕ → Reader Expression} {count : ℕ} (C : List (List ℕ)) (R : List Symbol) (at : Span) (us : List Token) → Nested C expression count → length us ≤ count → Runs C (One n.Expression ∷ R) us ⊎ (NoneNext C of_expression us × Runs C R us) → WholeRead C expression R (word_token word.Throw at ∷ us)
unfolding whole thrown
throw_some C R at us nested b (inl h) =
    let x = nested.whole R us b h in
    record { part = expr.Throw x.part at; left = x.left; read = rw (expression_begins C R us (which those_expression h), x.read); is = unled_whole (throw_built at (read_of x.is)) (throw_unled x.part at); runs = x.runs }
throw_some C R at us nested b (inr h) =
    record { part = expr.Rethrow at; left = us; read = rw (no_expression C us h.0); is = unled_whole (rethrow_built at) (λ h. absurd cc); runs = h.1 }

throw_read : {C : List (List ℕ)} {expression : ℕ → Reader Expression} {count : ℕ} {R : List Symbol} {ts : List Token} → Nested C expression count → length ts ≤ suc count → Worded C word.Throw (Maybe n.Expression ∷ R) ts → WholeRead C expression R ts
throw_read {C} {R = R} nested b (worded at us r) = throw_some C R at us nested (omega (arith, b)) (one_or_none those_expression r)

-- neither `co_yield` nor `throw` comes next
plain : (C : List (List ℕ)) (expression : ℕ → Reader Expression) (at : Span) (ts : List Token) (k : Lead) → is_word word.CoYield k ≡ false → is_word word.Throw k ≡ false
    → whole_by (is_class C) expression at k ts ≡ and_then (unary (is_class C) expression at ts) (after_unary expression at)
plain C expression at ts (l.Word word.CoYield) a b = absurd cc
plain C expression at ts (l.Word word.Throw) a b = absurd cc
plain C expression at ts k a b = refl

plain_read : {expression : ℕ → Reader Expression} {count : ℕ} (C : List (List ℕ)) (R : List Symbol) (ts : List Token) → Nested C expression count → length ts ≤ suc count → Among C (Maybe n.Operators ∷ Maybe n.ExpressionRest ∷ R) of_unary ts → WholeRead C expression R ts
unfolding whole sees_word
plain_read {expression} C R ts nested b h =
    let S = Maybe n.Operators ∷ Maybe n.ExpressionRest ∷ R in
    let y = unseen_word C S ts word.CoYield of_unary (refl, (refl, (refl, (refl, (refl, (refl, (refl, (refl, (refl, (refl, (refl, (refl, tt)))))))))))) h in
    let t = unseen_word C S ts word.Throw of_unary (refl, (refl, (refl, (refl, (refl, (refl, (refl, (refl, (refl, (refl, (refl, (refl, tt)))))))))))) h in
    let x = unary_among C S ts nested tt b h in
    let q = after_taken (place ts) nested b (stands_some ts (some_among C S ts of_unary h)) x.is.0 x.runs in
    record { part = q.part; left = q.left; read = plain C expression (place ts) ts (lead ts) y t ∙ rw (x.read, q.read); is = record { spelled = q.is.0.spelled; formed = q.is.0.formed; led = still_led ts x.part q.part q.is.1 x.is.1 }; runs = q.runs }

pub whole_among : {expression : ℕ → Reader Expression} {count : ℕ} (C : List (List ℕ)) (R : List Symbol) (ts : List Token) → Nested C expression count → length ts ≤ suc count → Among C R of_expression ts → WholeRead C expression R ts
whole_among C R ts nested b (inl h) = yield_read nested b (word_first h)
whole_among C R ts nested b (inr (inl h)) = throw_read nested b (word_first h)
whole_among C R ts nested b (inr (inr h)) = plain_read C R ts nested b h

-- ---- one level more

level_whole : {expression : ℕ → Reader Expression} {count : ℕ} (C : List (List ℕ)) (R : List Symbol) (ts : List Token) → Nested C expression count → length ts ≤ suc count → Runs C (One n.Expression ∷ R) ts → Takes (level (is_class C) expression 0) (λ e left. IsWhole C ts e left) C R ts
unfolding level
level_whole C R ts nested b h = let x = whole_among C R ts nested b (which those_expression h) in record { part = x.part; left = x.left; read = x.read; is = x.is; runs = x.runs }

level_unary : {expression : ℕ → Reader Expression} {count : ℕ} (C : List (List ℕ)) (R : List Symbol) (ts : List Token) → Nested C expression count → HasMore R → length ts ≤ suc count → Runs C (One n.Unary ∷ R) ts → Takes (level (is_class C) expression as_unary) (λ e left. IsOperand C as_unary ts e left) C R ts
unfolding level
level_unary {expression} C R ts nested more b h =
    let x = unary_among C R ts nested more b (which those_unary h) in
    record { part = x.part; left = x.left; read = rw (x.read, no_operations expression (place ts) x.part x.left (some_left x.runs more)); is = x.is.0; runs = x.runs }

not_none : (k : ℕ) → 1 ≤ k → (k == 0) ≡ false
not_none k h = grind (arith, nat_tests)

level_operand : {expression : ℕ → Reader Expression} {count : ℕ} (C : List (List ℕ)) (least : ℕ) (R : List Symbol) (ts : List Token) → Nested C expression count → 1 ≤ least → least ≤ as_unary → length ts ≤ suc count → Runs C (One n.Unary ∷ Maybe n.Operators ∷ R) ts
    → Takes (level (is_class C) expression least) (λ e left. IsOperand C least ts e left × (binds (lead left) < least)) C (Maybe n.Operators ∷ R) ts
unfolding level
level_operand C least R ts nested o u b h =
    let x = unary_among C (Maybe n.Operators ∷ R) ts nested tt b (which those_unary h) in
    let w = within (tree.expression x.part) ts x.left x.is.0.spelled in
    let q = operations_taken (place ts) nested o u (omega (arith, b, w)) (stands_some ts (some_left h tt)) x.is.0 x.runs in
    record { part = q.part; left = q.left; read = rw (not_none least o, x.read, q.read); is = (q.is.0, q.is.1); runs = q.runs }

no_tokens : {A : Type 0} {C : List (List ℕ)} {R : List Symbol} (ts : List Token) → length ts ≤ 0 → Runs C R ts → HasMore R → A
no_tokens ts b r more = absurd (none_left ts (some_left r more) b)

-- each expression of so many tokens is read
pub nested : (C : List (List ℕ)) (depth : ℕ) → Nested C (expression (is_class C) depth) depth
unfolding expression
nested C zero = record { whole = λ R ts b h. no_tokens ts b h tt; unary = λ R ts more b h. no_tokens ts b h tt; operand = λ least R ts o u b h. no_tokens ts b h tt }
nested C (suc depth) =
    record {
      whole = λ R ts b h. level_whole C R ts (nested C depth) b h;
      unary = λ R ts more b h. level_unary C R ts (nested C depth) more b h;
      operand = λ least R ts o u b h. level_operand C least R ts (nested C depth) o u b h;
    }
