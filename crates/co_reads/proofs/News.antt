-- What stands behind `new` where the rules read it.
use Rattle.std.proofs.Common.{◌≡◌, ℕ, zero, suc, min, ◌+◌, ◌≤◌, ◌<◌, Bool, false, List, [], ◌∷◌, length, Some, None, refl, ap, ◌∙◌, ◌⊎◌, inl, inr, arith}
use Rattle.std.specs.Prelude.{IsFalse}
use Rattle.co_base.specs.declared.span.Span.{Span}
use Rattle.co_lex.specs.declared.token.Token.{Token}
use Rattle.co_lex.specs.declared.token.TokenKind.{TokenKind}
use Rattle.co_lex.specs.declared.token.TokenKind.TheVariants as kind
use Rattle.co_lex.specs.declared.token.Mark.TheVariants as mark
use Rattle.co_lex.specs.declared.token.Word.TheVariants as word
use Rattle.co_rules.specs.declared.symbol.Nonterminal.TheVariants as n
use Rattle.co_rules.specs.declared.symbol.Pattern.TheVariants as pattern
use Rattle.co_rules.specs.declared.symbol.Symbol.{Symbol}
use Rattle.co_rules.specs.declared.symbol.Symbol.TheVariants.{Token as Terminal, One, Maybe, Greedy}
use Rattle.co_rules.specs.Names.{is_class}
use Rattle.co_rules.specs.Pattern.{admits}
use Rattle.co_rules.specs.Terminal.{terminal_of}
use Rattle.co_tree.specs.declared.expressions.BinaryOperator.{BinaryOperator}
use Rattle.co_tree.specs.declared.expressions.BinaryOperator.TheVariants as binary
use Rattle.co_tree.specs.declared.expressions.Brackets.{Brackets}
use Rattle.co_tree.specs.declared.expressions.Brackets.TheVariants.{Parentheses, Braces}
use Rattle.co_tree.specs.declared.expressions.Expression.{Expression}
use Rattle.co_tree.specs.declared.expressions.Expression.TheVariants as expr
use Rattle.co_tree.specs.declared.types.SimpleType.{SimpleType}
use Rattle.co_tree.specs.Types as types
use Rattle.co_tree.specs.Formed.{BeginsWithType, as_unary, is_of_type, PlainBase}
use Rattle.co_reader.specs.Reading.{Reader, lead, lead_of, sees, after, is_mark}
use Rattle.co_reader.specs.Leads.{binary_operator, opening, is_reference}
use Rattle.co_reader.specs.Types.{stars_from, stars, most_stars, simple_type}
use Rattle.co_expressions.specs.Expressions.{created, initialized}
use Rattle.co_reads.specs.Expressions.{IsOperand, IsNoPointerNext}
use Rattle.co_reads.specs.Runs.{Runs, HasFewStars, leading_stars}
use Rattle.co_reads.specs.Spells.{Spells}
use Rattle.co_reads.specs.Takes.{Takes}
use Rattle.co_reads.proofs.Arguments.{Bracketed, in_parens, in_braces}
use Rattle.co_reads.proofs.Bases.{base_taken}
use Rattle.co_reads.proofs.Built.{mark_token, word_token, IsGlobal, new_built, new_with_built, new_with_unled}
use Rattle.co_reads.proofs.Cases.{Among, NoneAdmitted, greedily, none_left, some_among, few_stars}
use Rattle.co_reads.proofs.Firsts.{Marked, marked, mark_first}
use Rattle.co_reads.proofs.Fronts.{after-left}
use Rattle.co_reads.proofs.Nested.{Nested}
use Rattle.co_reads.proofs.RulesOfExpressions.{of_new_rest, those_new_rest}
use Rattle.co_reads.proofs.Steps.{within}

-- ---- a token that belongs to no type

no_star : (C : List (List ℕ)) (k : TokenKind) → admits pattern.NewMark (terminal_of C k) ≡ false → is_mark mark.Star (lead_of k) ≡ false
unfolding admits
no_star C (kind.Mark mark.Star) h = absurd cc
no_star C k h = refl

no_opening : (C : List (List ℕ)) (k : TokenKind) → admits pattern.NewMark (terminal_of C k) ≡ false → opening (lead_of k) ≡ None
unfolding admits
no_opening C (kind.Mark mark.OpenParen) h = absurd cc
no_opening C (kind.Mark mark.OpenBrace) h = absurd cc
no_opening C k h = refl

no_reference : (C : List (List ℕ)) (k : TokenKind) → admits pattern.NewMark (terminal_of C k) ≡ false → is_reference (lead_of k) ≡ false
unfolding admits
no_reference C (kind.Mark mark.And) h = absurd cc
no_reference C (kind.Mark mark.AndAnd) h = absurd cc
no_reference C k h = refl

no_mul : (C : List (List ℕ)) (k : TokenKind) → admits pattern.NewMark (terminal_of C k) ≡ false → binary_operator (lead_of k) ≡ Some binary.Mul → ⊥
unfolding admits
no_mul C (kind.Mark mark.Star) h e = absurd cc
no_mul C k h e = absurd cc

no_and : (C : List (List ℕ)) (k : TokenKind) → admits pattern.NewMark (terminal_of C k) ≡ false → binary_operator (lead_of k) ≡ Some binary.And → ⊥
unfolding admits
no_and C (kind.Mark mark.And) h e = absurd cc
no_and C k h e = absurd cc

no_and_and : (C : List (List ℕ)) (k : TokenKind) → admits pattern.NewMark (terminal_of C k) ≡ false → binary_operator (lead_of k) ≡ Some binary.LogicalAnd → ⊥
unfolding admits
no_and_and C (kind.Mark mark.AndAnd) h e = absurd cc
no_and_and C k h e = absurd cc

no_pointer : (C : List (List ℕ)) (k : TokenKind) → admits pattern.NewMark (terminal_of C k) ≡ false → (op : BinaryOperator) → binary_operator (lead_of k) ≡ Some op → IsFalse (is_of_type op)
no_pointer C k h binary.Mul e = absurd (no_mul C k h e)
no_pointer C k h binary.And e = absurd (no_and C k h e)
no_pointer C k h binary.LogicalAnd e = absurd (no_and_and C k h e)
no_pointer C k h op e = refl

-- ---- `*` and an initializer

-- an initializer comes next, or nothing that could belong to the type
pub data NewEnd (C : List (List ℕ)) (expression : ℕ → Reader Expression) (R : List Symbol) (ts : List Token) : Type 0 where
  with_args : (how : Brackets) → Bracketed C expression how R ts → NewEnd C expression R ts
  without : opening (lead ts) ≡ None → is_reference (lead ts) ≡ false → IsNoPointerNext ts → Runs C R ts → NewEnd C expression R ts

pub record NewRest (C : List (List ℕ)) (expression : ℕ → Reader Expression) (R : List Symbol) (ts : List Token) : Type 0 where
  pub pointers : ℕ
  pub behind : List Token
  pub stars_read : (k count : ℕ) → leading_stars ts < k → stars_from k count ts ≡ Some (count + pointers, behind)
  pub spelled : Spells (types.stars pointers) ts behind
  pub end : NewEnd C expression R behind

starless : (k count : ℕ) (ts : List Token) → 0 < k → sees mark.Star ts ≡ false → stars_from k count ts ≡ Some (count + 0, ts)
unfolding stars_from
starless zero count ts l e = absurd (omega (arith, l))
starless (suc k) count ts l e = rw (e, after-left mark.Star ts e) (ap (λ x. Some (x, ts)) (omega arith))

ended : {C : List (List ℕ)} {expression : ℕ → Reader Expression} {R : List Symbol} {ts : List Token} → sees mark.Star ts ≡ false → NewEnd C expression R ts → NewRest C expression R ts
ended {ts = ts} e x = record { pointers = 0; behind = ts; stars_read = λ k count l. starless k count ts (omega (arith, l)) e; spelled = refl; end = x }

no_rest : {R : List Symbol} (C : List (List ℕ)) (expression : ℕ → Reader Expression) (ts : List Token) → NoneAdmitted C pattern.NewMark ts → Runs C R ts → NewRest C expression R ts
unfolding sees
no_rest C expression [] h r = absurd h
no_rest C expression (t ∷ ts) h r = ended (no_star C t.kind h) (without (no_opening C t.kind h) (no_reference C t.kind h) (no_pointer C t.kind h) r)

star_more : {C : List (List ℕ)} {expression : ℕ → Reader Expression} {R : List Symbol} (at : Span) (ts : List Token) → NewRest C expression R ts → NewRest C expression R (mark_token mark.Star at ∷ ts)
unfolding stars_from sees after
star_more at ts p =
    record {
      pointers = suc p.pointers;
      behind = p.behind;
      stars_read = elim [
        | zero ↦ λ count l. absurd (omega (arith, l))
        | suc k ↦ λ count l. p.stars_read k (count + 1) (omega (arith, l)) ∙ ap (λ x. Some (x, p.behind)) (omega arith)
      ];
      spelled = (refl, p.spelled);
      end = p.end;
    }

on_star : {C : List (List ℕ)} {expression : ℕ → Reader Expression} {R : List Symbol} {ts : List Token} (bound : ℕ) → length ts ≤ suc bound
    → ((us : List Token) → length us ≤ bound → Runs C (Greedy n.NewRest pattern.NewMark ∷ R) us → NewRest C expression R us) → Marked C mark.Star (Greedy n.NewRest pattern.NewMark ∷ R) ts → NewRest C expression R ts
on_star bound b more (marked at us r) = star_more at us (more us (omega (arith, b)) r)

at_paren : {C : List (List ℕ)} {expression : ℕ → Reader Expression} {count : ℕ} {R : List Symbol} {ts : List Token} → Nested C expression count → length ts ≤ suc count → Marked C mark.OpenParen (Maybe n.Arguments ∷ Terminal (pattern.Punctuator mark.CloseParen) ∷ R) ts → NewRest C expression R ts
unfolding sees
at_paren nested b (marked at us r) = ended refl (with_args Parentheses (in_parens nested b (marked at us r)))

at_brace : {C : List (List ℕ)} {expression : ℕ → Reader Expression} {count : ℕ} {R : List Symbol} {ts : List Token} → Nested C expression count → length ts ≤ suc count → Marked C mark.OpenBrace (Maybe n.Arguments ∷ Terminal (pattern.Punctuator mark.CloseBrace) ∷ R) ts → NewRest C expression R ts
unfolding sees
at_brace nested b (marked at us r) = ended refl (with_args Braces (in_braces nested b (marked at us r)))

rest_by : {expression : ℕ → Reader Expression} {count : ℕ} (C : List (List ℕ)) (R : List Symbol) (k : ℕ) (ts : List Token) → Nested C expression count → length ts ≤ suc count → length ts ≤ k
    → Among C R of_new_rest ts ⊎ (NoneAdmitted C pattern.NewMark ts × Runs C R ts) → NewRest C expression R ts
rest_by {expression} C R k ts nested d b (inr h) = no_rest C expression ts h.0 h.1
rest_by C R zero ts nested d b (inl h) = absurd (none_left ts (some_among C R ts of_new_rest h) b)
rest_by {expression} {count} C R (suc k) ts nested d b (inl (inl h)) = on_star (min k count) (omega (arith, b, d)) (λ us c r. rest_by C R k us nested (omega (arith, c)) (omega (arith, c)) (greedily those_new_rest r)) (mark_first h)
rest_by C R (suc k) ts nested d b (inl (inr (inl h))) = at_paren nested d (mark_first h)
rest_by C R (suc k) ts nested d b (inl (inr (inr (inl h)))) = at_brace nested d (mark_first h)
rest_by C R (suc k) ts nested d b (inl (inr (inr (inr h)))) = absurd h

pub new_rest : {C : List (List ℕ)} {expression : ℕ → Reader Expression} {count : ℕ} {R : List Symbol} {ts : List Token} → Nested C expression count → length ts ≤ suc count → Runs C (Greedy n.NewRest pattern.NewMark ∷ R) ts → NewRest C expression R ts
new_rest {C} {R = R} {ts = ts} nested b h = rest_by C R (length ts) ts nested b (omega arith) (greedily those_new_rest h)

new_stars : {C : List (List ℕ)} {expression : ℕ → Reader Expression} {R : List Symbol} {ts : List Token} (p : NewRest C expression R ts) → HasFewStars ts → stars ts ≡ Some (p.pointers, p.behind)
unfolding stars
new_stars p few = p.stars_read most_stars 0 few ∙ ap (λ x. Some (x, p.behind)) (omega arith)

-- ---- what is created

abbrev pub CreatedTaken : List (List ℕ) → (ℕ → Reader Expression) → List Symbol → Bool → Span → List Token → List Token → Type 0
CreatedTaken C expression R is_global at start ts = Takes (created (is_class C) expression is_global at) (λ e left. IsOperand C as_unary start e left × (BeginsWithType e → ⊥)) C R ts

created_end : {C : List (List ℕ)} {expression : ℕ → Reader Expression} {R : List Symbol} {start us ts : List Token} {base : SimpleType} (is_global : Bool) (at of : Span) → IsGlobal is_global at start (word_token word.New of ∷ us)
    → simple_type (is_class C) us ≡ Some (base, ts) → Spells (types.simple_type base) us ts → PlainBase C base → HasFewStars ts → (p : NewRest C expression R ts) → NewEnd C expression R p.behind → CreatedTaken C expression R is_global at start us
unfolding created initialized
created_end {us = us} {ts = ts} {base = base} is_global at of g read s plain few p (with_args how a) =
    record {
      part = expr.NewWith is_global base p.pointers how a.args at;
      left = a.left;
      read = rw (read, new_stars p few, a.opened, a.read);
      is = (new_with_built us ts p.behind a.args is_global p.pointers how at of g s plain p.spelled a.spelled a.formed, new_with_unled is_global base p.pointers how a.args at);
      runs = a.runs;
    }
created_end {us = us} {ts = ts} {base = base} is_global at of g read s plain few p (without o r next runs) =
    record {
      part = expr.New is_global base p.pointers at;
      left = p.behind;
      read = rw (read, new_stars p few, o, r);
      is = (new_built us ts is_global p.pointers at of g s plain p.spelled next, λ h. absurd cc);
      runs = runs;
    }

pub created_taken : {C : List (List ℕ)} {expression : ℕ → Reader Expression} {count : ℕ} {R : List Symbol} {start us : List Token} (is_global : Bool) (at of : Span) → Nested C expression count → length us ≤ suc count → IsGlobal is_global at start (word_token word.New of ∷ us)
    → Runs C (One n.Base ∷ Greedy n.NewRest pattern.NewMark ∷ R) us → CreatedTaken C expression R is_global at start us
created_taken {us = us} is_global at of nested b g h =
    let base = base_taken h in
    let w = within (types.simple_type base.part) us base.left base.is.0 in
    let p = new_rest nested (omega (arith, b, w)) base.runs in
    created_end is_global at of g base.read base.is.0 base.is.1 (few_stars base.runs) p p.end
