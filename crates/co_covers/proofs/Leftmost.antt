-- An expression's tokens are those of its leftmost operand and what stands behind it.
use Rattle.std.proofs.Common.{◌≡◌, ℕ, ◌≤◌, ◌<◌, List, [], ◌∷◌, ◌++◌, refl, sym, subst, arith}
use Rattle.co_lex.specs.declared.token.TokenKind.TheVariants as kind
use Rattle.co_lex.specs.declared.token.Mark.TheVariants as mark
use Rattle.co_rules.specs.Terminal.{terminal_of}
use Rattle.co_rules.specs.declared.symbol.Nonterminal.TheVariants as n
use Rattle.co_rules.specs.declared.symbol.Pattern.TheVariants as pattern
use Rattle.co_rules.specs.declared.symbol.Symbol.{Symbol}
use Rattle.co_rules.specs.declared.symbol.Symbol.TheVariants.{Maybe}
use Rattle.co_rules.specs.declared.symbol.Terminal.{Terminal}
use Rattle.co_rules.specs.Derives.{Derives, NoneNext}
use Rattle.co_rules.specs.Pattern.{admits}
use Rattle.co_tree.specs.declared.expressions.Expression.{Expression, end_of-Expression, more_of-Expression}
use Rattle.co_tree.specs.declared.expressions.Expression.TheVariants as expr
use Rattle.co_tree.specs.Formed.{first_of, tightness, FormedExpression}
use Rattle.co_tree.specs.Piece.{opens, m, name, rule}
use Rattle.co_tree.specs.Sentence.{assignment_mark, binary_mark, step_mark, member_mark, is_binary, is_postfix, part, expression, row_arguments}
use Rattle.co_covers.proofs.Names as names_of
use Rattle.co_covers.proofs.Seen.{seen, both, ruled, by_token, may, skip}
use Rattle.co_covers.proofs.Closes.{beneath}
use Rattle.co_covers.proofs.Operands.{Follows}
use Rattle.co_covers.proofs.RulesOfExpressions.{postfix-access, postfix-increment}
use Rattle.co_covers.proofs.Primaries.{no_assignment, no_mark, least, most, is_increment, is_access, parted}
use Rattle.co_covers.proofs.Expressions.{covered, row_covered, assigned, chosen, operated, called}

-- What stands behind an operand of a full expression is derived by this stack, or by that without the marks behind a primary
-- expression.
pub record Starts (C : List (List ℕ)) (S R : List Symbol) (f : Expression) : Type 0 where
  pub postfix : 12 ≤ tightness f → (us : List Terminal) → Derives (Maybe n.Postfix ∷ Maybe n.Operators ∷ R) us → Derives S (seen C (expression f) us)
  pub unary : 1 ≤ tightness f → tightness f < 12 → (us : List Terminal) → Follows f us → Derives (Maybe n.Operators ∷ R) us → Derives S (seen C (expression f) us)

pub record StartsFull (C : List (List ℕ)) (S R : List Symbol) (f : Expression) : Type 0 where
  pub operand : Starts C S (Maybe n.ExpressionRest ∷ R) f
  pub full : tightness f < 1 → (us : List Terminal) → NoneNext pattern.NewMark us → Derives R us → Derives S (seen C (expression f) us)

abbrev pub LedPostfix : List (List ℕ) → Expression → Type 0
LedPostfix C e = (S R : List Symbol) (ts : List Terminal) → ((us : List Terminal) → Derives (Maybe n.Postfix ∷ R) us → Derives S (seen C (expression (first_of e)) us)) → Derives (Maybe n.Postfix ∷ R) ts → Derives S (seen C (expression e) ts)

abbrev pub LedBinary : List (List ℕ) → Expression → Type 0
LedBinary C e = (S R : List Symbol) (ts : List Terminal) → Starts C S R (first_of e) → Follows e ts → Derives (Maybe n.Operators ∷ R) ts → Derives S (seen C (expression e) ts)

abbrev pub LedFull : List (List ℕ) → Expression → Type 0
LedFull C e = (S R : List Symbol) (ts : List Terminal) → StartsFull C S R (first_of e) → NoneNext pattern.NewMark ts → Derives R ts → Derives S (seen C (expression e) ts)

pub record Led (C : List (List ℕ)) (e : Expression) : Type 0 where
  pub tight : 12 ≤ tightness e → 12 ≤ tightness (first_of e)
  pub formed : FormedExpression C (first_of e)
  pub postfix : 12 ≤ tightness e → LedPostfix C e
  pub binary : 1 ≤ tightness e → LedBinary C e
  pub full : LedFull C e

led_postfix : (C : List (List ℕ)) (e : Expression) → FormedExpression C (first_of e) → 12 ≤ tightness (first_of e) → LedPostfix C e → Led C e
led_postfix C e h t p = record { tight = λ l. t; formed = h; postfix = λ l. p; binary = λ l S R ts s f d. p S (Maybe n.Operators ∷ R) ts (s.postfix t) (skip d); full = λ S R ts s f d. p S (Maybe n.Operators ∷ Maybe n.ExpressionRest ∷ R) ts (s.operand.postfix t) (skip (skip (skip d))) }

led_binary : (C : List (List ℕ)) (e : Expression) → FormedExpression C (first_of e) → (12 ≤ tightness e → ⊥) → LedBinary C e → Led C e
led_binary C e h l p = record { tight = λ x. absurd (l x); formed = h; postfix = λ x. absurd (l x); binary = λ x. p; full = λ S R ts s f d. p S (Maybe n.ExpressionRest ∷ R) ts s.operand (λ x. f) (skip (skip d)) }

led_full : (C : List (List ℕ)) (e : Expression) → FormedExpression C (first_of e) → (1 ≤ tightness e → ⊥) → LedFull C e → Led C e
led_full C e h l p = record { tight = λ x. absurd (l (omega (arith, x))); formed = h; postfix = λ x. absurd (l (omega (arith, x))); binary = λ x. absurd (l x); full = p }

-- an expression with no other before it
primary : (C : List (List ℕ)) (e : Expression) → first_of e ≡ e → FormedExpression C e → 12 ≤ tightness e → Led C e
primary C e i h t = led_postfix C e (subst (λ x. FormedExpression C x) (sym i) h) (subst (λ x. 12 ≤ tightness x) (sym i) t) (λ S R ts k d. subst (λ x. Derives S (seen C (expression x) ts)) i (k ts d))

unary_first : (C : List (List ℕ)) (e : Expression) → first_of e ≡ e → FormedExpression C e → tightness e ≡ 11 → Led C e
unary_first C e i h t =
    led_binary C e (subst (λ x. FormedExpression C x) (sym i) h) (λ x. omega (arith, x, t)) (λ S R ts s f d. let z = subst (λ x. Starts C S R x) i s in z.unary (omega (arith, t)) (omega (arith, t)) ts f d)

full_first : (C : List (List ℕ)) (e : Expression) → first_of e ≡ e → FormedExpression C e → tightness e ≡ 0 → Led C e
full_first C e i h t =
    led_full C e (subst (λ x. FormedExpression C x) (sym i) h) (λ x. omega (arith, x, t)) (λ S R ts s f d. let z = subst (λ x. StartsFull C S R x) i s in z.full (omega (arith, t)) ts f d)

pub led_by : (C : List (List ℕ)) (e : Expression) → FormedExpression C e → Led C e
unfolding admits
led_by C (expr.Yield' s (more_of-Expression e end_of-Expression) at) h = full_first C _ refl h refl
led_by C (expr.Rethrow at) h = full_first C (expr.Rethrow at) refl h refl
led_by C (expr.Throw' s (more_of-Expression e end_of-Expression) at) h = full_first C _ refl h refl
led_by C (expr.Assignment' s (more_of-Expression a end_of-Expression) op t (more_of-Expression b end_of-Expression) at) h =
    let qs = opens ∷ m (assignment_mark op) ∷ rule (expression b) in
    let l = led_by C a h.0 in
    led_full C _ l.formed (λ x. omega (arith, x)) (λ S R ts s f d. both C (rule (expression a)) qs ts (ruled C (expression a) (seen C qs ts) (l.binary h.2 S (Maybe n.ExpressionRest ∷ R) (seen C qs ts) s.operand (λ x. no_assignment op) (skip (assigned C op b (covered C b h.1) R ts f d)))))
led_by C (expr.Conditional' s (more_of-Expression a end_of-Expression) t (more_of-Expression b end_of-Expression) u (more_of-Expression c end_of-Expression) at) h =
    let qs = opens ∷ m mark.Question ∷ (rule (expression b) ++ m mark.Colon ∷ rule (expression c)) in
    let l = led_by C a h.0 in
    led_full C _ l.formed (λ x. omega (arith, x)) (λ S R ts s f d. both C (rule (expression a)) qs ts (ruled C (expression a) (seen C qs ts) (l.binary h.3 S (Maybe n.ExpressionRest ∷ R) (seen C qs ts) s.operand (λ x. refl) (skip (chosen C b c (covered C b h.1) (covered C c h.2) R ts f d)))))
led_by C (expr.Binary' s (more_of-Expression a end_of-Expression) op t (more_of-Expression b end_of-Expression) at) h =
    let qs = opens ∷ m (binary_mark op) ∷ part (is_binary b) (expression b) in
    let l = led_by C a h.0 in
    led_binary C _ l.formed (λ x. omega (arith, x, most op)) (λ S R ts s f d. both C (part (is_binary a) (expression a)) qs ts (parted C (is_binary a) (expression a) (seen C qs ts) (l.binary (omega (arith, h.2, least op)) S R (seen C qs ts) s (λ x. no_mark op (h.4 x)) (operated C op (is_binary b) b ((covered C b h.1).binary (omega (arith, h.3, least op))) R ts f d))))
led_by C (expr.Unary' op s (more_of-Expression e end_of-Expression) at) h = unary_first C _ refl h refl
led_by C (expr.New is_global base pointers at) h = unary_first C (expr.New is_global base pointers at) refl h refl
led_by C (expr.NewWith' is_global base pointers how s args at) h = unary_first C (expr.NewWith' is_global base pointers how s args at) refl h refl
led_by C (expr.Delete' is_global s (more_of-Expression e end_of-Expression) at) h = unary_first C _ refl h refl
led_by C (expr.Member' s (more_of-Expression e end_of-Expression) op x at) h =
    let qs = opens ∷ m (member_mark op) ∷ name x ∷ [] in
    let l = led_by C e h.0 in
    led_postfix C _ l.formed (l.tight h.1) (λ S R ts k d. both C (part (is_postfix e) (expression e)) qs ts (parted C (is_postfix e) (expression e) (seen C qs ts) (l.postfix h.1 S R (seen C qs ts) k (may (postfix-access (terminal_of C (kind.Mark (member_mark op))) (is_access op)) (by_token (names_of.name C x h.2) (beneath d))))))
led_by C (expr.Call' s (more_of-Expression e end_of-Expression) t args at) h =
    let qs = opens ∷ m mark.OpenParen ∷ (row_arguments args ++ m mark.CloseParen ∷ []) in
    let l = led_by C e h.0 in
    led_postfix C _ l.formed (l.tight h.2) (λ S R ts k d. both C (part (is_postfix e) (expression e)) qs ts (parted C (is_postfix e) (expression e) (seen C qs ts) (l.postfix h.2 S R (seen C qs ts) k (called C args (row_covered C args h.1) R ts d))))
led_by C (expr.Step' s (more_of-Expression e end_of-Expression) op at) h =
    let qs = opens ∷ m (step_mark op) ∷ [] in
    let l = led_by C e h.0 in
    led_postfix C _ l.formed (l.tight h.1) (λ S R ts k d. both C (part (is_postfix e) (expression e)) qs ts (parted C (is_postfix e) (expression e) (seen C qs ts) (l.postfix h.1 S R (seen C qs ts) k (may (postfix-increment (terminal_of C (kind.Mark (step_mark op))) (is_increment op)) (beneath d)))))
led_by C (expr.Number num value at) h = primary C (expr.Number num value at) refl h (omega arith)
led_by C (expr.Bool value at) h = primary C (expr.Bool value at) refl h (omega arith)
led_by C (expr.Nullptr at) h = primary C (expr.Nullptr at) refl h (omega arith)
led_by C (expr.This at) h = primary C (expr.This at) refl h (omega arith)
led_by C (expr.Name p) h = primary C (expr.Name p) refl h (omega arith)
led_by C (expr.Construction' base how s args) h = primary C (expr.Construction' base how s args) refl h (omega arith)
led_by C (expr.Text text at) h = primary C (expr.Text text at) refl h (omega arith)
led_by C (expr.OperatorNew' s args at) h = primary C (expr.OperatorNew' s args at) refl h (omega arith)
led_by C (expr.OperatorDelete' s args at) h = primary C (expr.OperatorDelete' s args at) refl h (omega arith)
led_by C (expr.HandleFunction promise function at) h = primary C (expr.HandleFunction promise function at) refl h (omega arith)
led_by C (expr.StandardFunction function at) h = primary C (expr.StandardFunction function at) refl h (omega arith)
led_by C (expr.CorunFunction function at) h = primary C (expr.CorunFunction function at) refl h (omega arith)
led_by C (expr.Parenthesized' s (more_of-Expression e end_of-Expression) at) h = primary C _ refl h (omega arith)
led_by C (expr.StaticCast' of s (more_of-Expression e end_of-Expression) at) h = primary C _ refl h (omega arith)
