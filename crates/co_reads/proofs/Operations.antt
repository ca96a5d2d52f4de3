-- Operators between operands, and what ends an expression, where the rules read them.
use Rattle.std.proofs.Common.{◌∙◌, ◌≡◌, ℕ, zero, suc, min, ◌+◌, ◌≤◌, ◌<◌, Bool, true, false, nat_lt, List, [], ◌∷◌, length, Option, Some, None, refl, sym, subst, ◌⊎◌, inl, inr, arith}
use Rattle.std.proofs.lemmas.Bool.Decides.{nat_tests}
use Rattle.co_base.specs.declared.span.Span.{Span}
use Rattle.co_lex.specs.declared.token.Token.{Token}
use Rattle.co_lex.specs.declared.token.TokenKind.{TokenKind}
use Rattle.co_lex.specs.declared.token.TokenKind.TheVariants as kind
use Rattle.co_lex.specs.declared.token.Mark.TheVariants as mark
use Rattle.co_rules.specs.declared.symbol.Nonterminal.TheVariants as n
use Rattle.co_rules.specs.declared.symbol.Pattern.TheVariants as pattern
use Rattle.co_rules.specs.declared.symbol.Symbol.{Symbol}
use Rattle.co_rules.specs.declared.symbol.Symbol.TheVariants.{Token as Terminal, One, Maybe}
use Rattle.co_rules.specs.Names.{has_some}
use Rattle.co_rules.specs.Pattern.{admits}
use Rattle.co_rules.specs.Terminal.{terminal_of}
use Rattle.co_tree.specs.declared.expressions.BinaryOperator.{BinaryOperator}
use Rattle.co_tree.specs.declared.expressions.BinaryOperator.TheVariants as binary
use Rattle.co_tree.specs.declared.expressions.Expression.{Expression}
use Rattle.co_tree.specs.declared.expressions.Expression.TheVariants as expr
use Rattle.co_tree.specs.Derives.{StandsAt}
use Rattle.co_tree.specs.Piece.{token, m}
use Rattle.co_tree.specs.Sentence as tree
use Rattle.co_tree.specs.Sentence.{binary_mark, assignment_mark}
use Rattle.co_tree.specs.Formed.{first_of, as_binary, as_unary, as_postfix, strength, tightness}
use Rattle.co_reader.specs.declared.lead.Lead.{Lead}
use Rattle.co_reader.specs.Reading.{Reader, lead, lead_of, sees}
use Rattle.co_reader.specs.Leads.{binary_operator, assignment_operator}
use Rattle.co_expressions.specs.Expressions.{binds, operation, operations, operations_from, ending, after_unary, after_primary}
use Rattle.co_reads.specs.Expressions.{IsRead, IsOperand}
use Rattle.co_reads.specs.Runs.{Runs}
use Rattle.co_reads.specs.Spells.{Spells}
use Rattle.co_reads.specs.Takes.{Takes}
use Rattle.co_reads.proofs.Built.{kind_token, as_read, read_of, looser, binary_built, assignment_built, conditional_built, first_binary, first_assignment, first_conditional}
use Rattle.co_reads.proofs.Cases.{Among, IsSome, NoneNext, whether, usable, none_left, some_among, some_left}
use Rattle.co_reads.proofs.Firsts.{Marked, marked, mark_first}
use Rattle.co_reads.proofs.Nested.{Nested}
use Rattle.co_reads.proofs.Operators.{OperatorNext, operator_next, binary_first, assignment_first}
use Rattle.co_reads.proofs.Postfixes.{postfix_taken}
use Rattle.co_reads.proofs.RulesOfExpressions.{of_operators, those_operators, of_expression_rest, those_expression_rest}
use Rattle.co_reads.proofs.Steps.{expected, unseen_mark, within}

-- ---- how tight operators bind

pub strength-bounds : (op : BinaryOperator) → (1 ≤ strength op) × (strength op ≤ 10)
strength-bounds binary.LogicalOr = (omega arith, omega arith)
strength-bounds binary.LogicalAnd = (omega arith, omega arith)
strength-bounds binary.Or = (omega arith, omega arith)
strength-bounds binary.Xor = (omega arith, omega arith)
strength-bounds binary.And = (omega arith, omega arith)
strength-bounds binary.Equal = (omega arith, omega arith)
strength-bounds binary.NotEqual = (omega arith, omega arith)
strength-bounds binary.Less = (omega arith, omega arith)
strength-bounds binary.LessEqual = (omega arith, omega arith)
strength-bounds binary.Greater = (omega arith, omega arith)
strength-bounds binary.GreaterEqual = (omega arith, omega arith)
strength-bounds binary.Shl = (omega arith, omega arith)
strength-bounds binary.Shr = (omega arith, omega arith)
strength-bounds binary.Add = (omega arith, omega arith)
strength-bounds binary.Sub = (omega arith, omega arith)
strength-bounds binary.Mul = (omega arith, omega arith)
strength-bounds binary.Div = (omega arith, omega arith)
strength-bounds binary.Rem = (omega arith, omega arith)

pub binds_by : (k : Lead) (op : BinaryOperator) → binary_operator k ≡ Some op → binds k ≡ strength op
unfolding binds
binds_by k op h = rw h

pub binds_none : (k : Lead) → binary_operator k ≡ None → binds k ≡ 0
unfolding binds
binds_none k h = rw h

pub binds_most : (k : Lead) → binds k ≤ 10
binds_most k = go (binary_operator k) refl
  where
    go : (o : Option BinaryOperator) → binary_operator k ≡ o → binds k ≤ 10
    go None e = let z = binds_none k e in omega (arith, z)
    go (Some op) e = let z = binds_by k op e in let s = (strength-bounds op).1 in omega (arith, z, s)

no_binary : (C : List (List ℕ)) (k : TokenKind) → admits pattern.BinaryOperator (terminal_of C k) ≡ false → binary_operator (lead_of k) ≡ None
unfolding admits
no_binary C (kind.Mark mark.OrOr) h = absurd cc
no_binary C (kind.Mark mark.AndAnd) h = absurd cc
no_binary C (kind.Mark mark.Or) h = absurd cc
no_binary C (kind.Mark mark.Xor) h = absurd cc
no_binary C (kind.Mark mark.And) h = absurd cc
no_binary C (kind.Mark mark.Equal) h = absurd cc
no_binary C (kind.Mark mark.NotEqual) h = absurd cc
no_binary C (kind.Mark mark.Less) h = absurd cc
no_binary C (kind.Mark mark.LessEqual) h = absurd cc
no_binary C (kind.Mark mark.Greater) h = absurd cc
no_binary C (kind.Mark mark.GreaterEqual) h = absurd cc
no_binary C (kind.Mark mark.Shl) h = absurd cc
no_binary C (kind.Mark mark.Shr) h = absurd cc
no_binary C (kind.Mark mark.Plus) h = absurd cc
no_binary C (kind.Mark mark.Minus) h = absurd cc
no_binary C (kind.Mark mark.Star) h = absurd cc
no_binary C (kind.Mark mark.Slash) h = absurd cc
no_binary C (kind.Mark mark.Percent) h = absurd cc
no_binary C k h = refl

none_binds : (C : List (List ℕ)) (ts : List Token) → NoneNext C of_operators ts → binds (lead ts) ≡ 0
none_binds C [] h = absurd h
none_binds C (t ∷ ts) h = binds_none (lead_of t.kind) (no_binary C t.kind (h.0 (usable (has_some C))))

-- ---- operators and operands, as far as they bind so tightly

pub record Operated (C : List (List ℕ)) (expression : ℕ → Reader Expression) (least : ℕ) (R : List Symbol) (start : List Token) (at : Span) (e : Expression) (ts : List Token) : Type 0 where
  pub part : Expression
  pub left : List Token
  pub read : (k : ℕ) → length ts ≤ k → operations_from expression at least k e ts ≡ Some (part, left)
  pub is : IsOperand C least start part left
  pub below : binds (lead left) < least
  pub first : first_of part ≡ first_of e
  pub runs : Runs C (Maybe n.Operators ∷ R) left

not_below : (a b : ℕ) → b ≤ a → nat_lt a b ≡ false
not_below a b h = grind (arith, nat_tests)

is_below : (a b : ℕ) → a < b → nat_lt a b ≡ true
is_below a b h = grind (arith, nat_tests)

some_tokens : (ts : List Token) → IsSome ts → 1 ≤ length ts
some_tokens [] h = absurd h
some_tokens (t ∷ ts) h = omega arith

-- the next operator binds less
stops : {C : List (List ℕ)} {least : ℕ} {R : List Symbol} {start ts : List Token} {e : Expression} (expression : ℕ → Reader Expression) (at : Span) → binds (lead ts) < least → 1 ≤ length ts → IsOperand C least start e ts → Runs C (Maybe n.Operators ∷ R) ts
    → Operated C expression least R start at e ts
unfolding operations_from
stops {least = least} {ts = ts} {e = e} expression at below some x r =
    record {
      part = e;
      left = ts;
      read = elim [ zero ↦ λ l. absurd (omega (arith, l, some)) | suc k ↦ λ l. rw (is_below (binds (lead ts)) least below) ];
      is = x;
      below = below;
      first = refl;
      runs = r;
    }

-- what reads the operators that are left
abbrev Later : List (List ℕ) → (ℕ → Reader Expression) → ℕ → List Symbol → List Token → Span → ℕ → Type 0
Later C expression least R start at bound =
    (e : Expression) (ts : List Token) → length ts ≤ bound → binds (lead ts) ≤ tightness e → IsOperand C least start e ts → Runs C (Maybe n.Operators ∷ R) ts → Operated C expression least R start at e ts

-- an operator that binds so tightly, its operand, and the others behind it
goes_on : {C : List (List ℕ)} {least : ℕ} {R : List Symbol} {start : List Token} {e : Expression} {expression : ℕ → Reader Expression} {count : ℕ} (at : Span) (op : BinaryOperator) (k : TokenKind) (of : Span) (us : List Token) (bound : ℕ) → Nested C expression count → length us ≤ count → StandsAt start at → length us ≤ bound → Later C expression least R start at bound
    → binary_operator (lead_of k) ≡ Some op → m (binary_mark op) ≡ token k → least ≤ strength op → strength op ≤ tightness e → IsOperand C least start e (kind_token k of ∷ us) → Runs C (One n.Unary ∷ Maybe n.Operators ∷ R) us → Operated C expression least R start at e (kind_token k of ∷ us)
unfolding operations_from operation
goes_on {C} {least} {R} {start} {e} {expression} at op k of us bound nested d p b later f s enough tight x r =
    let most = (strength-bounds op).1 in
    let y = nested.operand (strength op + 1) R us (omega arith) (omega (arith, most)) d r in
    let w = within (tree.expression y.part) us y.left y.is.0.spelled in
    let z = binary_built op at p (record { spelled = x.spelled; formed = x.formed; tight = tight; new = x.new }) f (subst (λ q. Spells (q ∷ []) (kind_token k of ∷ us) us) (sym s) (refl, refl)) y.is.0 in
    let zt = z.tight in
    let below = y.is.1 in
    let o = later (expr.Binary e op y.part at) y.left (omega (arith, b, w)) (omega (arith, zt, below)) (record { spelled = z.spelled; formed = z.formed; tight = omega (arith, zt, enough); new = z.new }) y.runs in
    record {
      part = o.part;
      left = o.left;
      read = elim [
        | zero ↦ λ l. absurd (omega (arith, l))
        | suc j ↦ λ l. rw (binds_by (lead_of k) op f, not_below (strength op) least enough, f, y.read) (o.read j (omega (arith, l, w)))
      ];
      is = o.is;
      below = o.below;
      first = o.first ∙ first_binary e op y.part at;
      runs = o.runs;
    }

operator_next_by : {C : List (List ℕ)} {least : ℕ} {R : List Symbol} {start : List Token} {e : Expression} {expression : ℕ → Reader Expression} {count : ℕ} {ts : List Token} (at : Span) (bound : ℕ) → Nested C expression count → length ts ≤ suc count → StandsAt start at → length ts ≤ suc bound → Later C expression least R start at bound
    → binds (lead ts) ≤ tightness e → IsOperand C least start e ts → Runs C (Maybe n.Operators ∷ R) ts → OperatorNext binary_operator (λ op. m (binary_mark op)) C (One n.Unary ∷ Maybe n.Operators ∷ R) ts → Operated C expression least R start at e ts
operator_next_by {C} {least} {R} {start} {e} {expression} at bound nested d p b later t x h (operator_next op k of us f s r) =
    by_test (nat_lt (strength op) least) refl
  where
    by_test : (c : Bool) → nat_lt (strength op) least ≡ c → Operated C expression least R start at e (kind_token k of ∷ us)
    by_test true c = let z = binds_by (lead_of k) op f in stops expression at (lower (strength op) least (binds (lead_of k)) z c) (omega arith) x h
      where
        lower : (a b g : ℕ) → g ≡ a → nat_lt a b ≡ true → g < b
        lower a b g e c = grind (arith, nat_tests)
    by_test false c = let z = binds_by (lead_of k) op f in goes_on at op k of us bound nested (omega (arith, d)) p (omega (arith, b)) later f s (higher (strength op) least c) (omega (arith, z, t)) x r
      where
        higher : (a b : ℕ) → nat_lt a b ≡ false → b ≤ a
        higher a b c = grind (arith, nat_tests)

operations_by : {least : ℕ} {start : List Token} {e : Expression} {expression : ℕ → Reader Expression} {count : ℕ} (C : List (List ℕ)) (R : List Symbol) (at : Span) (k : ℕ) (ts : List Token) → Nested C expression count → 1 ≤ least → length ts ≤ suc count → StandsAt start at → length ts ≤ k
    → binds (lead ts) ≤ tightness e → IsOperand C least start e ts → Runs C (Maybe n.Operators ∷ R) ts → Among C R of_operators ts ⊎ (NoneNext C of_operators ts × Runs C R ts) → Operated C expression least R start at e ts
operations_by {least} {expression = expression} C R at k ts nested o d p b t x r (inr h) = let z = none_binds C ts h.0 in stops expression at (omega (arith, z, o)) (some_tokens ts (some_left r tt)) x r
operations_by C R at zero ts nested o d p b t x r (inl h) = absurd (none_left ts (some_among C R ts of_operators h) b)
operations_by {least} {start} {expression = expression} {count} C R at (suc k) ts nested o d p b t x r (inl (inl h)) =
    operator_next_by at (min k count) nested d p (omega (arith, b, d)) (λ f us c tf y q. operations_by C R at k us nested o (omega (arith, c)) p (omega (arith, c)) tf y q (whether those_operators q)) t x r (binary_first h)
operations_by C R at (suc k) ts nested o d p b t x r (inl (inr h)) = absurd h

not_tighter : (a b : ℕ) → a ≤ 10 → as_unary ≤ b → a ≤ b
not_tighter a b h t = omega arith

-- operators and operands behind an operand
abbrev pub OperationsTaken : List (List ℕ) → (ℕ → Reader Expression) → ℕ → List Symbol → List Token → Span → Expression → List Token → Type 0
OperationsTaken C expression least R start at e ts = Takes (operations expression at least e) (λ f left. IsOperand C least start f left × (binds (lead left) < least) × (first_of f ≡ first_of e)) C (Maybe n.Operators ∷ R) ts

pub operations_taken : {C : List (List ℕ)} {least : ℕ} {R : List Symbol} {start ts : List Token} {e : Expression} {expression : ℕ → Reader Expression} {count : ℕ} (at : Span) → Nested C expression count → 1 ≤ least → least ≤ as_unary → length ts ≤ suc count → StandsAt start at
    → IsOperand C as_unary start e ts → Runs C (Maybe n.Operators ∷ R) ts → OperationsTaken C expression least R start at e ts
unfolding operations
operations_taken {C} {least} {R} {ts = ts} {e} at nested o u b p x h =
    let q = operations_by C R at (length ts) ts nested o b p (omega arith) (not_tighter (binds (lead ts)) (tightness e) (binds_most (lead ts)) x.tight) (looser least x u) h (whether those_operators h) in
    record { part = q.part; left = q.left; read = q.read (length ts) (omega arith); is = (q.is, q.below, q.first); runs = q.runs }

-- none binds as tightly as an operand
none_so_tight : (expression : ℕ → Reader Expression) (at : Span) (e : Expression) (ts : List Token) (k : ℕ) → 1 ≤ k → operations_from expression at as_unary k e ts ≡ Some (e, ts)
unfolding operations_from
none_so_tight expression at e ts zero h = absurd (omega (arith, h))
none_so_tight expression at e ts (suc k) h = let s = binds_most (lead ts) in rw (is_below (binds (lead ts)) as_unary (omega (arith, s)))

pub no_operations : (expression : ℕ → Reader Expression) (at : Span) (e : Expression) (ts : List Token) → IsSome ts → operations expression at as_unary e ts ≡ Some (e, ts)
unfolding operations
no_operations expression at e ts some = none_so_tight expression at e ts (length ts) (some_tokens ts some)

-- ---- what ends an expression

no_assignment : (C : List (List ℕ)) (k : TokenKind) → admits pattern.Assignment (terminal_of C k) ≡ false → assignment_operator (lead_of k) ≡ None
unfolding admits
no_assignment C (kind.Mark mark.Assign) h = absurd cc
no_assignment C (kind.Mark mark.AddAssign) h = absurd cc
no_assignment C (kind.Mark mark.SubAssign) h = absurd cc
no_assignment C (kind.Mark mark.MulAssign) h = absurd cc
no_assignment C (kind.Mark mark.DivAssign) h = absurd cc
no_assignment C (kind.Mark mark.RemAssign) h = absurd cc
no_assignment C (kind.Mark mark.AndAssign) h = absurd cc
no_assignment C (kind.Mark mark.OrAssign) h = absurd cc
no_assignment C (kind.Mark mark.XorAssign) h = absurd cc
no_assignment C (kind.Mark mark.ShlAssign) h = absurd cc
no_assignment C (kind.Mark mark.ShrAssign) h = absurd cc
no_assignment C k h = refl

abbrev pub EndingTaken : List (List ℕ) → (ℕ → Reader Expression) → List Symbol → List Token → Span → Expression → List Token → Type 0
EndingTaken C expression R start at e ts = Takes (ending expression at e) (λ f left. IsRead C start f left × (first_of f ≡ first_of e)) C R ts

no_ending : {R : List Symbol} {start : List Token} {e : Expression} (C : List (List ℕ)) (expression : ℕ → Reader Expression) (at : Span) (ts : List Token) → NoneNext C of_expression_rest ts → IsOperand C as_binary start e ts → Runs C R ts → EndingTaken C expression R start at e ts
unfolding ending
no_ending C expression at [] h x r = absurd h
no_ending {e = e} C expression at (t ∷ ts) h x r =
    record { part = e; left = t ∷ ts; read = rw (no_assignment C t.kind (h.0 (usable (has_some C))), unseen_mark C mark.Question t ts (h.1.0 (usable (has_some C)))); is = (as_read x, refl); runs = r }

assignment_end : {C : List (List ℕ)} {R : List Symbol} {start ts : List Token} {e : Expression} {expression : ℕ → Reader Expression} {count : ℕ} (at : Span) → Nested C expression count → length ts ≤ suc count → StandsAt start at → IsOperand C as_binary start e ts
    → OperatorNext assignment_operator (λ op. m (assignment_mark op)) C (One n.Expression ∷ R) ts → EndingTaken C expression R start at e ts
unfolding ending
assignment_end {R = R} {e = e} at nested b p x (operator_next op k of us f s r) =
    let y = nested.whole R us (omega (arith, b)) r in
    record { part = expr.Assignment e op y.part at; left = y.left; read = rw (f, y.read); is = (assignment_built op at p x (subst (λ q. Spells (q ∷ []) (kind_token k of ∷ us) us) (sym s) (refl, refl)) (read_of y.is), first_assignment e op y.part at); runs = y.runs }

question_end : {C : List (List ℕ)} {R : List Symbol} {start ts : List Token} {e : Expression} {expression : ℕ → Reader Expression} {count : ℕ} (at : Span) → Nested C expression count → length ts ≤ suc count → StandsAt start at → IsOperand C as_binary start e ts
    → Marked C mark.Question (One n.Expression ∷ Terminal (pattern.Punctuator mark.Colon) ∷ One n.Expression ∷ R) ts → EndingTaken C expression R start at e ts
unfolding ending sees
question_end {R = R} {e = e} at nested b p x (marked of us r) =
    let y = nested.whole (Terminal (pattern.Punctuator mark.Colon) ∷ One n.Expression ∷ R) us (omega (arith, b)) r in
    let w = within (tree.expression y.part) us y.left y.is.spelled in
    let c = expected mark.Colon y.runs in
    let v = within (m mark.Colon ∷ []) y.left c.left c.is in
    let z = nested.whole R c.left (omega (arith, b, w, v)) c.runs in
    record { part = expr.Conditional e y.part z.part at; left = z.left; read = rw (y.read, c.read, z.read); is = (conditional_built at p x (refl, refl) (read_of y.is) c.is (read_of z.is), first_conditional e y.part z.part at); runs = z.runs }

ending_among : {C : List (List ℕ)} {R : List Symbol} {start ts : List Token} {e : Expression} {expression : ℕ → Reader Expression} {count : ℕ} (at : Span) → Nested C expression count → length ts ≤ suc count → StandsAt start at → IsOperand C as_binary start e ts
    → Among C R of_expression_rest ts ⊎ (NoneNext C of_expression_rest ts × Runs C R ts) → EndingTaken C expression R start at e ts
ending_among {C} {expression = expression} at nested b p x (inr h) = no_ending C expression at _ h.0 x h.1
ending_among at nested b p x (inl (inl h)) = assignment_end at nested b p x (assignment_first h)
ending_among at nested b p x (inl (inr (inl h))) = question_end at nested b p x (mark_first h)
ending_among at nested b p x (inl (inr (inr h))) = absurd h

pub ending_taken : {C : List (List ℕ)} {R : List Symbol} {start ts : List Token} {e : Expression} {expression : ℕ → Reader Expression} {count : ℕ} (at : Span) → Nested C expression count → length ts ≤ suc count → StandsAt start at → IsOperand C as_binary start e ts → Runs C (Maybe n.ExpressionRest ∷ R) ts
    → EndingTaken C expression R start at e ts
ending_taken at nested b p x h = ending_among at nested b p x (whether those_expression_rest h)

-- no operator binds less than the weakest
operators_end : {R : List Symbol} (C : List (List ℕ)) (ts : List Token) → binds (lead ts) < 1 → Among C R of_operators ts ⊎ (NoneNext C of_operators ts × Runs C R ts) → Runs C R ts
operators_end C ts b (inr h) = h.1
operators_end C ts b (inl (inl h)) = absurd (no_operator (binary_first h) b)
  where
    no_operator : {R : List Symbol} {us : List Token} → OperatorNext binary_operator (λ op. m (binary_mark op)) C R us → binds (lead us) < 1 → ⊥
    no_operator (operator_next op k of us f s r) b = let z = binds_by (lead_of k) op f in let g = (strength-bounds op).0 in omega (arith, z, g, b)
operators_end C ts b (inl (inr h)) = absurd h

-- operators, operands and what ends an expression, behind its first operand
abbrev pub AfterTaken : List (List ℕ) → (ℕ → Reader Expression) → List Symbol → List Token → Span → Expression → List Token → Type 0
AfterTaken C expression R start at e ts = Takes (after_unary expression at e) (λ f left. IsRead C start f left × (first_of f ≡ first_of e)) C R ts

pub after_taken : {C : List (List ℕ)} {R : List Symbol} {start ts : List Token} {e : Expression} {expression : ℕ → Reader Expression} {count : ℕ} (at : Span) → Nested C expression count → length start ≤ suc count → StandsAt start at → IsOperand C as_unary start e ts
    → Runs C (Maybe n.Operators ∷ Maybe n.ExpressionRest ∷ R) ts → AfterTaken C expression R start at e ts
unfolding after_unary
after_taken {C} {R} {start} {ts} {e} {expression} at nested b p x h =
    let w = within (tree.expression e) start ts x.spelled in
    let o = operations_taken at nested (omega arith) (omega arith) (omega (arith, b, w)) p x h in
    let v = within (tree.expression o.part) start o.left o.is.0.spelled in
    let q = ending_taken at nested (omega (arith, b, v)) p o.is.0 (operators_end C o.left o.is.1 (whether those_operators o.runs)) in
    record { part = q.part; left = q.left; read = rw (o.read, q.read); is = (q.is.0, q.is.1 ∙ o.is.2); runs = q.runs }

-- the same, with what stands right behind the operand
pub after_primary_taken : {C : List (List ℕ)} {R : List Symbol} {start ts : List Token} {e : Expression} {expression : ℕ → Reader Expression} {count : ℕ} (at : Span) → Nested C expression count → length start ≤ suc count → StandsAt start at → IsOperand C as_postfix start e ts
    → Runs C (Maybe n.Postfix ∷ Maybe n.Operators ∷ Maybe n.ExpressionRest ∷ R) ts → Takes (after_primary expression at e) (λ f left. IsRead C start f left × (first_of f ≡ first_of e)) C R ts
unfolding after_primary
after_primary_taken {C} {R} {start} {ts} {e} at nested b p x h =
    let w = within (tree.expression e) start ts x.spelled in
    let y = postfix_taken at nested (omega (arith, b, w)) p x h in
    let q = after_taken at nested b p (looser as_unary y.is.0 (omega arith)) y.runs in
    record { part = q.part; left = q.left; read = rw (y.read, q.read); is = (q.is.0, q.is.1 ∙ y.is.1); runs = q.runs }
