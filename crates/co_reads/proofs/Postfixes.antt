-- What stands behind an operand, where the rules read it.
use Rattle.std.proofs.Common.{◌∙◌, ◌≡◌, ℕ, zero, suc, min, ◌≤◌, true, false, List, [], ◌∷◌, ◌++◌, length, Some, None, refl, sym, subst, ◌⊎◌, inl, inr, arith}
use Rattle.co_base.specs.declared.span.Span.{Span}
use Rattle.co_lex.specs.declared.token.Token.{Token}
use Rattle.co_lex.specs.declared.token.TokenKind.{TokenKind}
use Rattle.co_lex.specs.declared.token.TokenKind.TheVariants as kind
use Rattle.co_lex.specs.declared.token.Mark.TheVariants as mark
use Rattle.co_rules.specs.declared.symbol.Nonterminal.TheVariants as n
use Rattle.co_rules.specs.declared.symbol.Pattern.TheVariants as pattern
use Rattle.co_rules.specs.declared.symbol.Symbol.{Symbol}
use Rattle.co_rules.specs.declared.symbol.Symbol.TheVariants.{Token as Terminal, Maybe}
use Rattle.co_rules.specs.Names.{has_some}
use Rattle.co_rules.specs.Pattern.{admits}
use Rattle.co_rules.specs.Terminal.{terminal_of}
use Rattle.co_tree.specs.declared.expressions.Expression.{Expression}
use Rattle.co_tree.specs.declared.expressions.Expression.TheVariants as expr
use Rattle.co_tree.specs.declared.expressions.MemberOperator.{MemberOperator}
use Rattle.co_tree.specs.declared.expressions.StepOperator.{StepOperator}
use Rattle.co_tree.specs.Derives.{StandsAt}
use Rattle.co_tree.specs.Piece.{m, name}
use Rattle.co_tree.specs.Sentence as tree
use Rattle.co_tree.specs.Sentence.{member_mark, step_mark}
use Rattle.co_tree.specs.Formed.{as_postfix, first_of}
use Rattle.co_reader.specs.declared.lead.Lead.{Lead}
use Rattle.co_reader.specs.declared.lead.Lead.TheVariants as l
use Rattle.co_reader.specs.Reading.{Reader, lead, lead_of, expect}
use Rattle.co_reader.specs.Leads.{member_operator, step_operator}
use Rattle.co_expressions.specs.Expressions.{begins_suffix, suffix, postfix, postfix_from}
use Rattle.co_reads.specs.Expressions.{IsOperand}
use Rattle.co_reads.specs.Runs.{Runs}
use Rattle.co_reads.specs.Spells.{Spells}
use Rattle.co_reads.specs.Takes.{Takes}
use Rattle.co_reads.proofs.Arguments.{arguments_taken, not_paren}
use Rattle.co_reads.proofs.Built.{mark_token, kind_token, member_built, step_built, call_built, first_member, first_step, first_call}
use Rattle.co_reads.proofs.Cases.{Among, NoneNext, whether, usable, none_left, some_among}
use Rattle.co_reads.proofs.Firsts.{Marked, marked, mark_first}
use Rattle.co_reads.proofs.Nested.{Nested}
use Rattle.co_reads.proofs.Operators.{OperatorNext, operator_next, member_first, step_first}
use Rattle.co_reads.proofs.RulesOfExpressions.{of_postfix, those_postfix}
use Rattle.co_reads.proofs.Steps.{taken_name, within}

-- ---- which token begins it

member_begins : (k : Lead) (op : MemberOperator) → member_operator k ≡ Some op → begins_suffix k ≡ true
member_begins (l.Mark mark.Dot) op h = refl
member_begins (l.Mark mark.Arrow) op h = refl
member_begins k op h = absurd cc

step_begins : (k : Lead) (op : StepOperator) → step_operator k ≡ Some op → (begins_suffix k ≡ true) × (member_operator k ≡ None)
step_begins (l.Mark mark.Increment) op h = (refl, refl)
step_begins (l.Mark mark.Decrement) op h = (refl, refl)
step_begins k op h = absurd cc

no_suffix : (C : List (List ℕ)) (k : TokenKind) → admits pattern.Access (terminal_of C k) ≡ false → admits (pattern.Punctuator mark.OpenParen) (terminal_of C k) ≡ false → admits pattern.Increment (terminal_of C k) ≡ false → begins_suffix (lead_of k) ≡ false
unfolding admits
no_suffix C (kind.Mark mark.Dot) a b c = absurd cc
no_suffix C (kind.Mark mark.Arrow) a b c = absurd cc
no_suffix C (kind.Mark mark.OpenParen) a b c = absurd cc
no_suffix C (kind.Mark mark.Increment) a b c = absurd cc
no_suffix C (kind.Mark mark.Decrement) a b c = absurd cc
no_suffix C k a b c = refl

-- ---- `.` `->` `(` `++` `--` behind an operand

-- the operand begins where it stands, and goes on with what comes next
pub record Postfixed (C : List (List ℕ)) (expression : ℕ → Reader Expression) (R : List Symbol) (start : List Token) (at : Span) (e : Expression) (ts : List Token) : Type 0 where
  pub part : Expression
  pub left : List Token
  pub read : (k : ℕ) → length ts ≤ k → postfix_from expression at k e ts ≡ Some (part, left)
  pub is : IsOperand C as_postfix start part left
  pub first : first_of part ≡ first_of e
  pub runs : Runs C R left

no_postfix : {R : List Symbol} {start : List Token} {e : Expression} (C : List (List ℕ)) (expression : ℕ → Reader Expression) (at : Span) (ts : List Token) → NoneNext C of_postfix ts → IsOperand C as_postfix start e ts → Runs C R ts → Postfixed C expression R start at e ts
unfolding postfix_from
no_postfix C expression at [] h x r = absurd h
no_postfix {e = e} C expression at (t ∷ ts) h x r =
    let b = no_suffix C t.kind (h.0 (usable (has_some C))) (h.1.0 (usable (has_some C))) (h.1.1.0 (usable (has_some C))) in
    record {
      part = e;
      left = t ∷ ts;
      read = elim [ zero ↦ λ l. absurd (omega (arith, l)) | suc k ↦ λ l. rw b ];
      is = x;
      first = refl;
      runs = r;
    }

-- one suffix is read, and the others behind it
suffixed : {C : List (List ℕ)} {expression : ℕ → Reader Expression} {R : List Symbol} {start : List Token} {at : Span} {e : Expression} (t : Token) (ts : List Token) (f : Expression) (mid : List Token) → begins_suffix (lead_of t.kind) ≡ true → suffix expression at e (t ∷ ts) ≡ Some (f, mid)
    → first_of f ≡ first_of e → length mid ≤ length ts → Postfixed C expression R start at f mid → Postfixed C expression R start at e (t ∷ ts)
unfolding postfix_from
suffixed t ts f mid b s q w p =
    record {
      part = p.part;
      left = p.left;
      read = elim [ zero ↦ λ l. absurd (omega (arith, l)) | suc k ↦ λ l. rw (b, s) (p.read k (omega (arith, l, w))) ];
      is = p.is;
      first = p.first ∙ q;
      runs = p.runs;
    }

-- what reads the suffixes that are left
abbrev Later : List (List ℕ) → (ℕ → Reader Expression) → List Symbol → List Token → Span → ℕ → Type 0
Later C expression R start at bound =
    (e : Expression) (ts : List Token) → length ts ≤ bound → IsOperand C as_postfix start e ts → Runs C (Maybe n.Postfix ∷ R) ts → Postfixed C expression R start at e ts

member_next : {C : List (List ℕ)} {R : List Symbol} {ts : List Token} (expression : ℕ → Reader Expression) (start : List Token) (at : Span) (e : Expression) (bound : ℕ) → StandsAt start at → length ts ≤ suc bound → Later C expression R start at bound → IsOperand C as_postfix start e ts
    → OperatorNext member_operator (λ op. m (member_mark op)) C (Terminal pattern.Name ∷ Maybe n.Postfix ∷ R) ts → Postfixed C expression R start at e ts
unfolding suffix
member_next expression start at e bound p b later x (operator_next op k of us f s r) =
    let c = taken_name r in
    let w = within (name c.part ∷ []) us c.left c.is.0 in
    let y = member_built op c.part at p x (subst (λ q. Spells (q ∷ name c.part ∷ []) (kind_token k of ∷ us) c.left) (sym s) (refl, c.is.0)) c.is.1 in
    suffixed (kind_token k of) us (expr.Member e op c.part at) c.left (member_begins (lead_of k) op f) (rw (f, c.read)) (first_member e op c.part at) w (later (expr.Member e op c.part at) c.left (omega (arith, b, w)) y c.runs)

step_next : {C : List (List ℕ)} {R : List Symbol} {ts : List Token} (expression : ℕ → Reader Expression) (start : List Token) (at : Span) (e : Expression) (bound : ℕ) → StandsAt start at → length ts ≤ suc bound → Later C expression R start at bound → IsOperand C as_postfix start e ts
    → OperatorNext step_operator (λ op. m (step_mark op)) C (Maybe n.Postfix ∷ R) ts → Postfixed C expression R start at e ts
unfolding suffix
step_next expression start at e bound p b later x (operator_next op k of us f s r) =
    let y = step_built op at p x (subst (λ q. Spells (q ∷ []) (kind_token k of ∷ us) us) (sym s) (refl, refl)) in
    let g = step_begins (lead_of k) op f in
    suffixed (kind_token k of) us (expr.Step e op at) us g.0 (rw (g.1, f)) (first_step e op at) (omega arith) (later (expr.Step e op at) us (omega (arith, b)) y r)

call_next : {C : List (List ℕ)} {R : List Symbol} {ts : List Token} {expression : ℕ → Reader Expression} {count : ℕ} (start : List Token) (at : Span) (e : Expression) (bound : ℕ) → Nested C expression count → length ts ≤ suc count → StandsAt start at → length ts ≤ suc bound → Later C expression R start at bound
    → IsOperand C as_postfix start e ts → Marked C mark.OpenParen (Maybe n.Arguments ∷ Terminal (pattern.Punctuator mark.CloseParen) ∷ Maybe n.Postfix ∷ R) ts → Postfixed C expression R start at e ts
unfolding suffix expect Rattle.co_reader.specs.Reading.sees
call_next start at e bound nested d p b later x (marked of us r) =
    let a = arguments_taken mark.CloseParen nested (omega (arith, d)) not_paren r in
    let w = within (tree.arguments a.part ++ m mark.CloseParen ∷ []) us a.left a.is.0 in
    let y = call_built a.part at p x (refl, a.is.0) a.is.1 in
    suffixed (mark_token mark.OpenParen of) us (expr.Call e a.part at) a.left refl (rw a.read) (first_call e a.part at) w (later (expr.Call e a.part at) a.left (omega (arith, b, w)) y a.runs)

postfix_by : {expression : ℕ → Reader Expression} {count : ℕ} (C : List (List ℕ)) (R : List Symbol) (start : List Token) (at : Span) (e : Expression) (k : ℕ) (ts : List Token) → Nested C expression count → length ts ≤ suc count → StandsAt start at → length ts ≤ k
    → IsOperand C as_postfix start e ts → Among C R of_postfix ts ⊎ (NoneNext C of_postfix ts × Runs C R ts) → Postfixed C expression R start at e ts
postfix_by {expression} C R start at e k ts nested d p b x (inr h) = no_postfix C expression at ts h.0 x h.1
postfix_by C R start at e zero ts nested d p b x (inl h) = absurd (none_left ts (some_among C R ts of_postfix h) b)
postfix_by {expression} {count} C R start at e (suc k) ts nested d p b x (inl (inl h)) =
    member_next expression start at e (min k count) p (omega (arith, b, d)) (λ f us c y r. postfix_by C R start at f k us nested (omega (arith, c)) p (omega (arith, c)) y (whether those_postfix r)) x (member_first h)
postfix_by {expression} {count} C R start at e (suc k) ts nested d p b x (inl (inr (inl h))) =
    call_next start at e (min k count) nested d p (omega (arith, b, d)) (λ f us c y r. postfix_by C R start at f k us nested (omega (arith, c)) p (omega (arith, c)) y (whether those_postfix r)) x (mark_first h)
postfix_by {expression} {count} C R start at e (suc k) ts nested d p b x (inl (inr (inr (inl h)))) =
    step_next expression start at e (min k count) p (omega (arith, b, d)) (λ f us c y r. postfix_by C R start at f k us nested (omega (arith, c)) p (omega (arith, c)) y (whether those_postfix r)) x (step_first h)
postfix_by C R start at e (suc k) ts nested d p b x (inl (inr (inr (inr h)))) = absurd h

abbrev pub PostfixTaken : List (List ℕ) → (ℕ → Reader Expression) → List Symbol → List Token → Span → Expression → List Token → Type 0
PostfixTaken C expression R start at e ts = Takes (postfix expression at e) (λ f left. IsOperand C as_postfix start f left × (first_of f ≡ first_of e)) C R ts

pub postfix_taken : {C : List (List ℕ)} {expression : ℕ → Reader Expression} {count : ℕ} {R : List Symbol} {start ts : List Token} {e : Expression} (at : Span) → Nested C expression count → length ts ≤ suc count → StandsAt start at → IsOperand C as_postfix start e ts → Runs C (Maybe n.Postfix ∷ R) ts
    → PostfixTaken C expression R start at e ts
unfolding postfix
postfix_taken {C} {R = R} {start = start} {ts = ts} {e = e} at nested b p x h =
    let q = postfix_by C R start at e (length ts) ts nested b p (omega arith) x (whether those_postfix h) in
    record { part = q.part; left = q.left; read = q.read (length ts) (omega arith); is = (q.is, q.first); runs = q.runs }
