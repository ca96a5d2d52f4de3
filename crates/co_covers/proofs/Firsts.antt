-- How an expression starts where a type could stand in its place.
use Rattle.std.proofs.Common.{◌≡◌, ℕ, ◌≤◌, Bool, true, false, List, ◌∷◌, ◌++◌, refl, arith}
use Rattle.co_lex.specs.declared.token.TokenKind.TheVariants as kind
use Rattle.co_lex.specs.declared.token.Word.TheVariants as word
use Rattle.co_rules.specs.Names.{known}
use Rattle.co_rules.specs.Terminal.{terminal_of}
use Rattle.co_rules.specs.declared.symbol.Nonterminal.{Nonterminal}
use Rattle.co_rules.specs.declared.symbol.Nonterminal.TheVariants as n
use Rattle.co_rules.specs.declared.symbol.Pattern.TheVariants as pattern
use Rattle.co_rules.specs.declared.symbol.Symbol.{Symbol}
use Rattle.co_rules.specs.declared.symbol.Symbol.TheVariants.{One, Maybe, Close}
use Rattle.co_rules.specs.declared.symbol.Terminal.{Terminal}
use Rattle.co_rules.specs.Derives.{Derives, NoneNext}
use Rattle.co_rules.specs.Pattern.{admits}
use Rattle.co_tree.specs.declared.expressions.Expression.{Expression, end_of-Expression, more_of-Expression}
use Rattle.co_tree.specs.declared.expressions.Expression.TheVariants as expr
use Rattle.co_tree.specs.Formed.{first_of, tightness, FormedExpression}
use Rattle.co_tree.specs.Piece.{rule}
use Rattle.co_tree.specs.Types.{simple_type, stars}
use Rattle.co_tree.specs.Sentence.{in_brackets, expression, row_arguments}
use Rattle.co_covers.proofs.Seen.{seen, go, skip, shut, maybe}
use Rattle.co_covers.proofs.Expressions.{covered, full}
use Rattle.co_covers.proofs.Leftmost.{Starts, StartsFull, led_by}
use Rattle.co_covers.proofs.Plain.{IsPlainFirst, OfPlain, plain_led, corun_first, unary_first, global_first, truth_first}

-- no expression stands before it
abbrev pub is_first : Expression → Bool
is_first (expr.Assignment' s a op t b at) = false
is_first (expr.Conditional' s a t b u c at) = false
is_first (expr.Binary' s a op t b at) = false
is_first (expr.Member' s e op x at) = false
is_first (expr.Call' s e t args at) = false
is_first (expr.Step' s e op at) = false
is_first e = true

pub first_is : (e : Expression) → is_first (first_of e) ≡ true
first_is (expr.Assignment' s (more_of-Expression a end_of-Expression) op t b at) = first_is a
first_is (expr.Conditional' s (more_of-Expression a end_of-Expression) t b u c at) = first_is a
first_is (expr.Binary' s (more_of-Expression a end_of-Expression) op t b at) = first_is a
first_is (expr.Member' s (more_of-Expression e end_of-Expression) op x at) = first_is e
first_is (expr.Call' s (more_of-Expression e end_of-Expression) t args at) = first_is e
first_is (expr.Step' s (more_of-Expression e end_of-Expression) op at) = first_is e
first_is e = refl

-- a type or a path stands first in it
abbrev pub is_other : Expression → Bool
is_other (expr.Name p) = true
is_other (expr.Construction' base how s args) = true
is_other (expr.HandleFunction promise function at) = true
is_other (expr.StandardFunction function at) = true
is_other e = false

plain_starts : (C : List (List ℕ)) (N : Nonterminal) (tail R : List Symbol) → OfPlain N tail → (f : Expression) → FormedExpression C f → 1 ≤ tightness f → ((us : List Terminal) → IsPlainFirst (seen C (expression f) us)) → StartsFull C (One N ∷ R) (tail ++ R) f
plain_starts C N tail R o f h l first =
    record { operand = record { postfix = λ x us d. plain_led o (first us) ((covered C f h).postfix x (Maybe n.Operators ∷ Maybe n.ExpressionRest ∷ tail ++ R) us d); unary = λ x y us g d. plain_led o (first us) ((covered C f h).binary x (Maybe n.ExpressionRest ∷ tail ++ R) us g d) }; full = λ x. absurd (omega (arith, x, l)) }

full_starts : (C : List (List ℕ)) (S R : List Symbol) (f : Expression) → tightness f ≡ 0 → ((us : List Terminal) → NoneNext pattern.NewMark us → Derives R us → Derives S (seen C (expression f) us)) → StartsFull C S R f
full_starts C S R f l k = record { operand = record { postfix = λ x. absurd (omega (arith, x, l)); unary = λ x. absurd (omega (arith, x, l)) }; full = λ x. k }

other_starts : (C : List (List ℕ)) (S R : List Symbol) (f : Expression) → 12 ≤ tightness f → Starts C S (Maybe n.ExpressionRest ∷ R) f → StartsFull C S R f
other_starts C S R f l s = record { operand = s; full = λ x. absurd (omega (arith, x, l)) }

-- what is left is how the four that begin with a type or a path start
pub starts_full : (C : List (List ℕ)) (N : Nonterminal) (tail R : List Symbol) → OfPlain N tail → (f : Expression) → FormedExpression C f → is_first f ≡ true → (is_other f ≡ true → Starts C (One N ∷ R) (Maybe n.ExpressionRest ∷ tail ++ R) f) → StartsFull C (One N ∷ R) (tail ++ R) f
unfolding admits known
starts_full C N tail R o (expr.Yield' s (more_of-Expression e end_of-Expression) at) h i k = full_starts C _ _ _ refl (λ us g d. go (o.yield (terminal_of C (kind.Word word.CoYield)) refl) (full C e (covered C e h) (Close ∷ tail ++ R) us g (shut d)))
starts_full C N tail R o (expr.Rethrow at) h i k = full_starts C _ _ _ refl (λ us g d. go (o.throw (terminal_of C (kind.Word word.Throw)) refl) (skip (shut d)))
starts_full C N tail R o (expr.Throw' s (more_of-Expression e end_of-Expression) at) h i k = full_starts C _ _ _ refl (λ us g d. go (o.throw (terminal_of C (kind.Word word.Throw)) refl) (maybe (full C e (covered C e h) (Close ∷ tail ++ R) us g (shut d))))
starts_full C N tail R o (expr.Assignment' s a op t b at) h i k = absurd cc
starts_full C N tail R o (expr.Conditional' s a t b u c at) h i k = absurd cc
starts_full C N tail R o (expr.Binary' s a op t b at) h i k = absurd cc
starts_full C N tail R o (expr.Member' s e op x at) h i k = absurd cc
starts_full C N tail R o (expr.Call' s e t args at) h i k = absurd cc
starts_full C N tail R o (expr.Step' s e op at) h i k = absurd cc
starts_full C N tail R o (expr.Unary' op s (more_of-Expression e end_of-Expression) at) h i k = plain_starts C N tail R o _ h (omega arith) (λ us. unary_first C op (rule (expression e)) us)
starts_full C N tail R o (expr.New is_global base pointers at) h i k = plain_starts C N tail R o _ h (omega arith) (λ us. global_first C is_global word.New (simple_type base ++ stars pointers) us (refl, (refl, (refl, (refl, tt)))))
starts_full C N tail R o (expr.NewWith' is_global base pointers how s args at) h i k = plain_starts C N tail R o _ h (omega arith) (λ us. global_first C is_global word.New (simple_type base ++ (stars pointers ++ in_brackets how (row_arguments args))) us (refl, (refl, (refl, (refl, tt)))))
starts_full C N tail R o (expr.Delete' is_global s (more_of-Expression e end_of-Expression) at) h i k = plain_starts C N tail R o _ h (omega arith) (λ us. global_first C is_global word.Delete (rule (expression e)) us (refl, (refl, (refl, (refl, tt)))))
starts_full C N tail R o (expr.Number num value at) h i k = plain_starts C N tail R o _ h (omega arith) (λ us. (refl, (refl, (refl, (refl, tt)))))
starts_full C N tail R o (expr.Bool value at) h i k = plain_starts C N tail R o _ h (omega arith) (λ us. truth_first C value us)
starts_full C N tail R o (expr.Nullptr at) h i k = plain_starts C N tail R o _ h (omega arith) (λ us. (refl, (refl, (refl, (refl, tt)))))
starts_full C N tail R o (expr.This at) h i k = plain_starts C N tail R o _ h (omega arith) (λ us. (refl, (refl, (refl, (refl, tt)))))
starts_full C N tail R o (expr.Parenthesized' s (more_of-Expression e end_of-Expression) at) h i k = plain_starts C N tail R o _ h (omega arith) (λ us. (refl, (refl, (refl, (refl, tt)))))
starts_full C N tail R o (expr.Text text at) h i k = plain_starts C N tail R o _ h (omega arith) (λ us. corun_first C)
starts_full C N tail R o (expr.StaticCast' of s (more_of-Expression e end_of-Expression) at) h i k = plain_starts C N tail R o _ h (omega arith) (λ us. (refl, (refl, (refl, (refl, tt)))))
starts_full C N tail R o (expr.OperatorNew' s args at) h i k = plain_starts C N tail R o _ h (omega arith) (λ us. (refl, (refl, (refl, (refl, tt)))))
starts_full C N tail R o (expr.OperatorDelete' s args at) h i k = plain_starts C N tail R o _ h (omega arith) (λ us. (refl, (refl, (refl, (refl, tt)))))
starts_full C N tail R o (expr.CorunFunction function at) h i k = plain_starts C N tail R o _ h (omega arith) (λ us. corun_first C)
starts_full C N tail R o (expr.Name p) h i k = other_starts C _ _ _ (omega arith) (k refl)
starts_full C N tail R o (expr.Construction' base how s args) h i k = other_starts C _ _ _ (omega arith) (k refl)
starts_full C N tail R o (expr.HandleFunction promise function at) h i k = other_starts C _ _ _ (omega arith) (k refl)
starts_full C N tail R o (expr.StandardFunction function at) h i k = other_starts C _ _ _ (omega arith) (k refl)

-- an expression where a type could stand in its place, by how its leftmost operand starts
pub plain_at : (C : List (List ℕ)) (N : Nonterminal) (tail R : List Symbol) → OfPlain N tail → (e : Expression) → FormedExpression C e → (is_other (first_of e) ≡ true → Starts C (One N ∷ R) (Maybe n.ExpressionRest ∷ tail ++ R) (first_of e)) → (ts : List Terminal) → NoneNext pattern.NewMark ts → Derives (tail ++ R) ts → Derives (One N ∷ R) (seen C (expression e) ts)
plain_at C N tail R o e h k ts f d = (led_by C e h).full (One N ∷ R) (tail ++ R) ts (starts_full C N tail R o (first_of e) (led_by C e h).formed (first_is e) k) f d
