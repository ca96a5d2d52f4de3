-- Arguments where the rules read them.
use Rattle.std.proofs.Common.{◌≡◌, ◌≢◌, ℕ, zero, suc, ◌≤◌, true, false, List, [], ◌∷◌, ◌++◌, append_assoc, append-nil, length, Some, refl, sym, ap, ◌∙◌, ◌⊎◌, inl, inr, arith}
use Rattle.co_base.specs.declared.span.Span.{Span}
use Rattle.co_lex.specs.declared.token.Token.{Token}
use Rattle.co_lex.specs.declared.token.TokenKind.TheVariants as kind
use Rattle.co_lex.specs.declared.token.Mark.{Mark}
use Rattle.co_lex.specs.declared.token.Mark.TheVariants as mark
use Rattle.co_rules.specs.declared.symbol.Nonterminal.TheVariants as n
use Rattle.co_rules.specs.declared.symbol.Pattern.TheVariants as pattern
use Rattle.co_rules.specs.declared.symbol.Symbol.{Symbol}
use Rattle.co_rules.specs.declared.symbol.Symbol.TheVariants.{Token as Terminal, One, Maybe, Many}
use Rattle.co_rules.specs.Names.{has_some}
use Rattle.co_tree.specs.declared.expressions.Brackets.{Brackets}
use Rattle.co_tree.specs.declared.expressions.Brackets.TheVariants.{Parentheses, Braces}
use Rattle.co_tree.specs.declared.expressions.Expression.{Expression}
use Rattle.co_tree.specs.Piece.{m, leave, rule, in_parentheses}
use Rattle.co_tree.specs.Sentence as tree
use Rattle.co_tree.specs.Formed.{FormedExpression, FormedAll}
use Rattle.co_reader.specs.Reading.{Reader, lead, pass, ◌>>◌, sees, after}
use Rattle.co_reader.specs.Leads.{opening, closing}
use Rattle.co_expressions.specs.Expressions.{more_from, more, listed, arguments, given_arguments, parenthesized}
use Rattle.co_reads.specs.Runs.{Runs}
use Rattle.co_reads.specs.Spells.{Spells}
use Rattle.co_reads.specs.Takes.{Takes}
use Rattle.co_reads.proofs.Built.{mark_token, in_parentheses_spelled}
use Rattle.co_reads.proofs.Cases.{Among, NoneNext, which, again, one_or_none, from_among, usable, none_left, some_among}
use Rattle.co_reads.proofs.Firsts.{Marked, marked, mark_first}
use Rattle.co_reads.proofs.Fronts.{after-left}
use Rattle.co_reads.proofs.Nested.{Nested, WholeTaken}
use Rattle.co_reads.proofs.RulesOfExpressions.{those_expression, of_next_argument, those_next_argument, of_given_arguments, those_given_arguments, of_condition, those_condition}
use Rattle.co_reads.proofs.RulesOfArguments.{of_arguments, those_arguments}
use Rattle.co_reads.proofs.Spells.{spells_append, spells_rule}
use Rattle.co_reads.proofs.Steps.{expected, sees_next, after_here, unseen, BeginNot, unseen_mark, within, shorter}

-- ---- `,` and an expression, any number of times

pub record More (C : List (List ℕ)) (expression : ℕ → Reader Expression) (R : List Symbol) (ts : List Token) : Type 0 where
  pub args : List Expression
  pub left : List Token
  pub read : (k : ℕ) (found : List Expression) → length ts ≤ k → more_from expression k found ts ≡ Some (found ++ args, left)
  pub spelled : Spells (tree.arguments_after args) ts left
  pub formed : FormedAll C args
  pub runs : Runs C R left

no_more : {R : List Symbol} (C : List (List ℕ)) (expression : ℕ → Reader Expression) (ts : List Token) → NoneNext C of_next_argument ts → Runs C R ts → More C expression R ts
unfolding more_from
no_more C expression [] h r = absurd h
no_more C expression (t ∷ ts) h r =
    let e = unseen_mark C mark.Comma t ts (h.0 (usable (has_some C))) in
    record {
      args = [];
      left = t ∷ ts;
      read = elim [
        | zero ↦ λ found l. absurd (omega (arith, l))
        | suc k ↦ λ found l. rw (e, after-left mark.Comma (t ∷ ts) e) (ap (λ xs. Some (xs, t ∷ ts)) (sym (append-nil found)))
      ];
      spelled = refl;
      formed = tt;
      runs = r;
    }

one_more : {C : List (List ℕ)} {expression : ℕ → Reader Expression} {R : List Symbol} (at : Span) (us : List Token) (x : WholeTaken C expression (Many n.NextArgument ∷ R) us) → More C expression R x.left → More C expression R (mark_token mark.Comma at ∷ us)
unfolding more_from sees after
one_more at us x more =
    let w = within (tree.expression x.part) us x.left x.is.spelled in
    record {
      args = x.part ∷ more.args;
      left = more.left;
      read = elim [
        | zero ↦ λ found l. absurd (omega (arith, l))
        | suc k ↦ λ found l. rw (x.read) (more.read k (found ++ x.part ∷ []) (omega (arith, l, w)) ∙ ap (λ xs. Some (xs, more.left)) (append_assoc found (x.part ∷ []) more.args))
      ];
      spelled = (refl, spells_append (rule (tree.expression x.part)) (tree.arguments_after more.args) us x.left more.left (spells_rule (tree.expression x.part) us x.left x.is.spelled) more.spelled);
      formed = (x.is.formed, more.formed);
      runs = more.runs;
    }

comma_next : {C : List (List ℕ)} {expression : ℕ → Reader Expression} {count : ℕ} {R : List Symbol} {ts : List Token} (k : ℕ) → Nested C expression count → length ts ≤ suc k → length ts ≤ count
    → ((us : List Token) → length us ≤ k → length us ≤ count → Runs C (Many n.NextArgument ∷ R) us → More C expression R us) → Marked C mark.Comma (One n.Expression ∷ Many n.NextArgument ∷ R) ts → More C expression R ts
comma_next {R = R} k nested l b more (marked at us r) =
    let x = nested.whole (Many n.NextArgument ∷ R) us (omega (arith, b)) r in
    let w = within (tree.expression x.part) us x.left x.is.spelled in
    one_more at us x (more x.left (omega (arith, l, w)) (omega (arith, b, w)) x.runs)

more_by : {expression : ℕ → Reader Expression} {count : ℕ} (C : List (List ℕ)) (R : List Symbol) (k : ℕ) (ts : List Token) → Nested C expression count → length ts ≤ k → length ts ≤ count
    → Among C (Many n.NextArgument ∷ R) of_next_argument ts ⊎ (NoneNext C of_next_argument ts × Runs C R ts) → More C expression R ts
more_by {expression} C R k ts nested l b (inr h) = no_more C expression ts h.0 h.1
more_by C R zero ts nested l b (inl h) = absurd (none_left ts (some_among C (Many n.NextArgument ∷ R) ts of_next_argument h) l)
more_by C R (suc k) ts nested l b (inl (inl h)) = comma_next k nested l b (λ us m c r. more_by C R k us nested m c (again those_next_argument r)) (mark_first h)
more_by C R (suc k) ts nested l b (inl (inr h)) = absurd h

pub more_taken : {C : List (List ℕ)} {expression : ℕ → Reader Expression} {count : ℕ} {R : List Symbol} {ts : List Token} → Nested C expression count → length ts ≤ count → Runs C (Many n.NextArgument ∷ R) ts → More C expression R ts
more_taken {C} {R = R} {ts = ts} nested b h = more_by C R (length ts) ts nested (omega arith) b (again those_next_argument h)

-- ---- arguments

-- some arguments are read
abbrev pub ListedTaken : List (List ℕ) → (ℕ → Reader Expression) → List Symbol → List Token → Type 0
ListedTaken C expression R ts = Takes (listed expression) (λ args left. Spells (tree.arguments args) ts left × FormedAll C args × (args ≢ [])) C R ts

pub arguments_first : {C : List (List ℕ)} {R : List Symbol} {ts : List Token} → Runs C (One n.Arguments ∷ R) ts → Runs C (One n.Expression ∷ Many n.NextArgument ∷ R) ts
arguments_first {C} {R} {ts} h = from_among C (Many n.NextArgument ∷ R) ts those_expression (which those_arguments h)

pub listed_from : {C : List (List ℕ)} {expression : ℕ → Reader Expression} {count : ℕ} {R : List Symbol} {ts : List Token} → Nested C expression count → length ts ≤ count → Runs C (One n.Expression ∷ Many n.NextArgument ∷ R) ts → ListedTaken C expression R ts
unfolding listed more
listed_from {C} {expression} {R = R} {ts = ts} nested b h =
    let x = nested.whole (Many n.NextArgument ∷ R) ts b h in
    let w = within (tree.expression x.part) ts x.left x.is.spelled in
    let more = more_taken nested (omega (arith, b, w)) x.runs in
    record {
      part = x.part ∷ more.args;
      left = more.left;
      read = rw (x.read) (more.read (length x.left) (x.part ∷ []) (omega arith));
      is = (spells_append (rule (tree.expression x.part)) (tree.arguments_after more.args) ts x.left more.left (spells_rule (tree.expression x.part) ts x.left x.is.spelled) more.spelled, (x.is.formed, more.formed), λ e. absurd cc);
      runs = more.runs;
    }

pub listed_taken : {C : List (List ℕ)} {expression : ℕ → Reader Expression} {count : ℕ} {R : List Symbol} {ts : List Token} → Nested C expression count → length ts ≤ count → Runs C (One n.Arguments ∷ R) ts → ListedTaken C expression R ts
listed_taken nested b h = listed_from nested b (arguments_first h)

-- arguments and the mark that ends them
abbrev pub ArgumentsTaken : List (List ℕ) → (ℕ → Reader Expression) → Mark → List Symbol → List Token → Type 0
ArgumentsTaken C expression close R ts = Takes (arguments expression close) (λ args left. Spells (tree.arguments args ++ m close ∷ []) ts left × FormedAll C args) C R ts

arguments_by : {expression : ℕ → Reader Expression} {count : ℕ} (C : List (List ℕ)) (R : List Symbol) (ts : List Token) (close : Mark) → Nested C expression count → length ts ≤ count → BeginNot close of_arguments
    → Runs C (One n.Arguments ∷ Terminal (pattern.Punctuator close) ∷ R) ts ⊎ (NoneNext C of_arguments ts × Runs C (Terminal (pattern.Punctuator close) ∷ R) ts) → ArgumentsTaken C expression close R ts
unfolding arguments
arguments_by C R ts close nested b not (inl h) =
    let e = unseen C (Terminal (pattern.Punctuator close) ∷ R) ts close of_arguments not (which those_arguments h) in
    let x = listed_taken nested b h in
    let c = expected close x.runs in
    record { part = x.part; left = c.left; read = rw (e, after-left close ts e, x.read, c.read); is = (spells_append (tree.arguments x.part) (m close ∷ []) ts x.left c.left x.is.0 c.is, x.is.1); runs = c.runs }
arguments_by {expression} C R ts close nested b not (inr h) = at_close (sees_next close h.1) (mark_first h.1)
  where
    at_close : {us : List Token} → sees close us ≡ true → Marked C close R us → ArgumentsTaken C expression close R us
    at_close e (marked at us r) = record { part = []; left = us; read = rw (e, after_here close at us); is = ((refl, refl), tt); runs = r }

pub arguments_taken : {C : List (List ℕ)} {expression : ℕ → Reader Expression} {count : ℕ} {R : List Symbol} {ts : List Token} (close : Mark) → Nested C expression count → length ts ≤ count → BeginNot close of_arguments
    → Runs C (Maybe n.Arguments ∷ Terminal (pattern.Punctuator close) ∷ R) ts → ArgumentsTaken C expression close R ts
arguments_taken {C} {R = R} {ts = ts} close nested b not h = arguments_by C R ts close nested b not (one_or_none those_arguments h)

-- no argument begins with `)` or `}`
pub not_paren : BeginNot mark.CloseParen of_arguments
not_paren = (refl, (refl, (refl, (refl, (refl, (refl, (refl, (refl, (refl, (refl, (refl, (refl, (refl, (refl, tt))))))))))))))

pub not_brace : BeginNot mark.CloseBrace of_arguments
not_brace = (refl, (refl, (refl, (refl, (refl, (refl, (refl, (refl, (refl, (refl, (refl, (refl, (refl, (refl, tt))))))))))))))

-- ---- brackets with arguments

-- arguments in brackets are read
pub record Bracketed (C : List (List ℕ)) (expression : ℕ → Reader Expression) (how : Brackets) (R : List Symbol) (ts : List Token) : Type 0 where
  pub args : List Expression
  pub left : List Token
  pub opened : opening (lead ts) ≡ Some how
  pub no_scope : sees mark.Scope ts ≡ false
  pub read : (pass >> arguments expression (closing how)) ts ≡ Some (args, left)
  pub spelled : Spells (tree.in_brackets how (tree.arguments args)) ts left
  pub formed : FormedAll C args
  pub runs : Runs C R left

pub in_parens : {C : List (List ℕ)} {expression : ℕ → Reader Expression} {count : ℕ} {R : List Symbol} {ts : List Token} → Nested C expression count → length ts ≤ suc count → Marked C mark.OpenParen (Maybe n.Arguments ∷ Terminal (pattern.Punctuator mark.CloseParen) ∷ R) ts
    → Bracketed C expression Parentheses R ts
unfolding sees
in_parens nested b (marked at us r) =
    let a = arguments_taken mark.CloseParen nested (omega (arith, b)) not_paren r in
    record {
      args = a.part;
      left = a.left;
      opened = refl;
      no_scope = refl;
      read = a.read;
      spelled = (refl, rw (← append_assoc (tree.arguments a.part) (m mark.CloseParen ∷ []) (leave ∷ [])) (spells_append (tree.arguments a.part ++ m mark.CloseParen ∷ []) (leave ∷ []) us a.left a.left a.is.0 refl));
      formed = a.is.1;
      runs = a.runs;
    }

pub in_braces : {C : List (List ℕ)} {expression : ℕ → Reader Expression} {count : ℕ} {R : List Symbol} {ts : List Token} → Nested C expression count → length ts ≤ suc count → Marked C mark.OpenBrace (Maybe n.Arguments ∷ Terminal (pattern.Punctuator mark.CloseBrace) ∷ R) ts
    → Bracketed C expression Braces R ts
unfolding sees
in_braces nested b (marked at us r) =
    let a = arguments_taken mark.CloseBrace nested (omega (arith, b)) not_brace r in
    record {
      args = a.part;
      left = a.left;
      opened = refl;
      no_scope = refl;
      read = a.read;
      spelled = (refl, rw (← append_assoc (tree.arguments a.part) (m mark.CloseBrace ∷ []) (leave ∷ [])) (spells_append (tree.arguments a.part ++ m mark.CloseBrace ∷ []) (leave ∷ []) us a.left a.left a.is.0 refl));
      formed = a.is.1;
      runs = a.runs;
    }

-- ---- `(` arguments `)` with some, and `(` expression `)`

abbrev pub GivenTaken : List (List ℕ) → (ℕ → Reader Expression) → List Symbol → List Token → Type 0
GivenTaken C expression R ts = Takes (given_arguments expression) (λ args left. Spells (in_parentheses (tree.arguments args)) ts left × FormedAll C args × (args ≢ [])) C R ts

given_among : {expression : ℕ → Reader Expression} {count : ℕ} (C : List (List ℕ)) (R : List Symbol) (ts : List Token) → Nested C expression count → length ts ≤ suc count → Among C R of_given_arguments ts → GivenTaken C expression R ts
unfolding given_arguments
given_among C R ts nested b (inl h) =
    let a = expected mark.OpenParen h in
    let x = listed_taken nested (shorter (kind.Mark mark.OpenParen) [] ts a.left b a.is) a.runs in
    let c = expected mark.CloseParen x.runs in
    record { part = x.part; left = c.left; read = rw (a.read, x.read, c.read); is = (in_parentheses_spelled (tree.arguments x.part) ts a.left x.left c.left a.is x.is.0 c.is, x.is.1, x.is.2); runs = c.runs }
given_among C R ts nested b (inr h) = absurd h

pub given_taken : {C : List (List ℕ)} {expression : ℕ → Reader Expression} {count : ℕ} {R : List Symbol} {ts : List Token} → Nested C expression count → length ts ≤ suc count → Runs C (One n.GivenArguments ∷ R) ts → GivenTaken C expression R ts
given_taken {C} {R = R} {ts = ts} nested b h = given_among C R ts nested b (which those_given_arguments h)

abbrev pub ParenthesizedTaken : List (List ℕ) → (ℕ → Reader Expression) → List Symbol → List Token → Type 0
ParenthesizedTaken C expression R ts = Takes (parenthesized expression) (λ e left. Spells (in_parentheses (rule (tree.expression e))) ts left × FormedExpression C e) C R ts

pub parenthesized_taken : {C : List (List ℕ)} {expression : ℕ → Reader Expression} {count : ℕ} {R : List Symbol} {ts : List Token} → Nested C expression count → length ts ≤ suc count
    → Runs C (Terminal (pattern.Punctuator mark.OpenParen) ∷ One n.Expression ∷ Terminal (pattern.Punctuator mark.CloseParen) ∷ R) ts → ParenthesizedTaken C expression R ts
unfolding parenthesized
parenthesized_taken {R = R} {ts = ts} nested b h =
    let a = expected mark.OpenParen h in
    let x = nested.whole (Terminal (pattern.Punctuator mark.CloseParen) ∷ R) a.left (shorter (kind.Mark mark.OpenParen) [] ts a.left b a.is) a.runs in
    let c = expected mark.CloseParen x.runs in
    record { part = x.part; left = c.left; read = rw (a.read, x.read, c.read); is = (in_parentheses_spelled (rule (tree.expression x.part)) ts a.left x.left c.left a.is (spells_rule (tree.expression x.part) a.left x.left x.is.spelled) c.is, x.is.formed); runs = c.runs }

condition_among : {expression : ℕ → Reader Expression} {count : ℕ} (C : List (List ℕ)) (R : List Symbol) (ts : List Token) → Nested C expression count → length ts ≤ suc count → Among C R of_condition ts → ParenthesizedTaken C expression R ts
condition_among C R ts nested b (inl h) = parenthesized_taken nested b h
condition_among C R ts nested b (inr h) = absurd h

pub condition_taken : {C : List (List ℕ)} {expression : ℕ → Reader Expression} {count : ℕ} {R : List Symbol} {ts : List Token} → Nested C expression count → length ts ≤ suc count → Runs C (One n.Condition ∷ R) ts → ParenthesizedTaken C expression R ts
condition_taken {C} {R = R} {ts = ts} nested b h = condition_among C R ts nested b (which those_condition h)
