-- The rules derive the expressions of a tree.
use Rattle.std.proofs.Common.{ℕ, Bool, IsTrue, IsFalse, List, [], ◌∷◌, ◌++◌, codes, refl, arith}
use mathlib.Core.Former.{Count}
use Rattle.co_lex.specs.declared.token.TokenKind.TheVariants as kind
use Rattle.co_lex.specs.declared.token.Mark.TheVariants as mark
use Rattle.co_lex.specs.declared.token.Word.TheVariants as word
use Rattle.co_rules.specs.Names.{known}
use Rattle.co_rules.specs.Terminal.{terminal_of}
use Rattle.co_rules.specs.declared.symbol.Nonterminal.{Nonterminal}
use Rattle.co_rules.specs.declared.symbol.Nonterminal.TheVariants as n
use Rattle.co_rules.specs.declared.symbol.Pattern.TheVariants as pattern
use Rattle.co_rules.specs.declared.symbol.Symbol.{Symbol}
use Rattle.co_rules.specs.declared.symbol.Symbol.TheVariants.{Token, One, Maybe, Greedy, Close}
use Rattle.co_rules.specs.declared.symbol.Terminal.{Terminal}
use Rattle.co_rules.specs.Derives.{Derives, NoneNext}
use Rattle.co_rules.specs.Pattern.{admits}
use Rattle.co_tree.specs.declared.expressions.Brackets.{Brackets}
use Rattle.co_tree.specs.declared.expressions.Expression.{Expression, Row_of-Expression, end_of-Expression, more_of-Expression}
use Rattle.co_tree.specs.declared.types.SimpleType.{SimpleType}
use Rattle.co_tree.specs.declared.types.TypeId.{TypeId}
use Rattle.co_tree.specs.declared.expressions.AssignmentOperator.{AssignmentOperator}
use Rattle.co_tree.specs.declared.expressions.BinaryOperator.{BinaryOperator}
use Rattle.co_tree.specs.declared.expressions.StepOperator.{StepOperator}
use Rattle.co_tree.specs.declared.expressions.MemberOperator.{MemberOperator}
use Rattle.co_tree.specs.declared.expressions.Expression.TheVariants as expr
use Rattle.co_tree.specs.Formed.{IsName, PlainBase, PlainType, ends_in_new, is_of_type, HasOne, FormedExpression, FormedRow}
use Rattle.co_tree.specs.Piece.{opens, leave, w, m, name, rule, in_parentheses}
use Rattle.co_tree.specs.Types.{simple_type, stars, type_id}
use Rattle.co_tree.specs.Sentence.{assignment_mark, binary_mark, step_mark, member_mark, standard_name, corun_name, in_brackets, is_binary, is_postfix, part, global, expression, row_arguments}
use Rattle.co_covers.proofs.Names as names_of
use Rattle.co_covers.proofs.Seen.{seen, both, ruled, by_token, go, may, skip, shut, maybe}
use Rattle.co_covers.proofs.Closes.{beneath}
use Rattle.co_covers.proofs.Types.{base_at, base as base_of, type_at, type_id_of}
use Rattle.co_covers.proofs.Heads.{OfExpression, led, expression_of}
use Rattle.co_covers.proofs.Operands.{Follows, AsPostfix, AsBinary, Covered, from_postfix, from_unary, from_binary, from_full, RowCovered, no_arguments, more_arguments, stars_of_new, rest_of_new}
use Rattle.co_covers.proofs.RulesOfExpressions.{unary-scope, unary-paren, unary-static_cast, unary-literal, global_scope-operator, given_arguments-paren, run_name-text, run_name-run_function, text_argument-paren, library_operand-library_function, postfix-access, postfix-paren, postfix-increment, operators-binary_operator, expression_rest-assignment, expression_rest-question, condition-paren}
use Rattle.co_covers.proofs.Primaries.{is_assignment, no_assignment, is_operator, no_mark, least, most, is_increment, is_access, parted, operator_at, new_at, delete_at, truth_at, parenthesized, name_at, kind_at, handle_function_at, standard_at, is_library, is_run, corun_at}

-- ---- an expression by what is known of its parts

pub full : (C : List (List ℕ)) (e : Expression) → Covered C e → (R : List Symbol) (ts : List Terminal) → NoneNext pattern.NewMark ts → Derives R ts → Derives (One n.Expression ∷ R) (seen C (rule (expression e)) ts)
full C e c R ts f d = ruled C (expression e) ts (c.full n.Expression [] R ts expression_of f d)

yield_at : (C : List (List ℕ)) (e : Expression) → Covered C e → (N : Nonterminal) (tail R : List Symbol) (ts : List Terminal) → OfExpression N tail → NoneNext pattern.NewMark ts → Derives (tail ++ R) ts → Derives (One N ∷ R) (seen C (w word.CoYield ∷ rule (expression e)) ts)
unfolding admits
yield_at C e c N tail R ts o f d = go (o.yield (terminal_of C (kind.Word word.CoYield)) refl) (full C e c (Close ∷ tail ++ R) ts f (shut d))

throw_at : (C : List (List ℕ)) (e : Expression) → Covered C e → (N : Nonterminal) (tail R : List Symbol) (ts : List Terminal) → OfExpression N tail → NoneNext pattern.NewMark ts → Derives (tail ++ R) ts → Derives (One N ∷ R) (seen C (w word.Throw ∷ rule (expression e)) ts)
unfolding admits
throw_at C e c N tail R ts o f d = go (o.throw (terminal_of C (kind.Word word.Throw)) refl) (maybe (full C e c (Close ∷ tail ++ R) ts f (shut d)))

rethrow_at : (C : List (List ℕ)) (N : Nonterminal) (tail R : List Symbol) (ts : List Terminal) → OfExpression N tail → Derives (tail ++ R) ts → Derives (One N ∷ R) (seen C (w word.Throw ∷ []) ts)
unfolding admits
rethrow_at C N tail R ts o d = go (o.throw (terminal_of C (kind.Word word.Throw)) refl) (skip (shut d))

-- the rest of an expression behind its first operand
pub assigned : (C : List (List ℕ)) (op : AssignmentOperator) (b : Expression) → Covered C b → (R : List Symbol) (ts : List Terminal) → NoneNext pattern.NewMark ts → Derives R ts → Derives (Maybe n.ExpressionRest ∷ R) (seen C (m (assignment_mark op) ∷ rule (expression b)) ts)
assigned C op b c R ts f d = may (expression_rest-assignment (terminal_of C (kind.Mark (assignment_mark op))) (is_assignment op)) (full C b c (Close ∷ R) ts f (shut d))

pub chosen : (C : List (List ℕ)) (b c : Expression) → Covered C b → Covered C c → (R : List Symbol) (ts : List Terminal) → NoneNext pattern.NewMark ts → Derives R ts → Derives (Maybe n.ExpressionRest ∷ R) (seen C (m mark.Question ∷ (rule (expression b) ++ m mark.Colon ∷ rule (expression c))) ts)
unfolding admits
chosen C b c p q R ts f d =
    may (expression_rest-question (terminal_of C (kind.Mark mark.Question)) refl) (both C (rule (expression b)) (m mark.Colon ∷ rule (expression c)) ts (full C b p (Token (pattern.Punctuator mark.Colon) ∷ One n.Expression ∷ Close ∷ R) (seen C (m mark.Colon ∷ rule (expression c)) ts) refl (by_token refl (full C c q (Close ∷ R) ts f (shut d)))))

pub operated : (C : List (List ℕ)) (op : BinaryOperator) (is_part : Bool) (b : Expression) → AsBinary C b → (R : List Symbol) (ts : List Terminal) → Follows b ts → Derives (Maybe n.Operators ∷ R) ts → Derives (Maybe n.Operators ∷ R) (seen C (m (binary_mark op) ∷ part is_part (expression b)) ts)
operated C op is_part b p R ts f d = may (operators-binary_operator (terminal_of C (kind.Mark (binary_mark op))) (is_operator op)) (parted C is_part (expression b) ts (p (Close ∷ R) ts f (beneath d)))

-- an operand and what stands behind it
assignment_at : (C : List (List ℕ)) (a : Expression) (op : AssignmentOperator) (b : Expression) → AsBinary C a → Covered C b → (N : Nonterminal) (tail R : List Symbol) (ts : List Terminal) → OfExpression N tail → NoneNext pattern.NewMark ts → Derives (tail ++ R) ts → Derives (One N ∷ R) (seen C (rule (expression a) ++ opens ∷ m (assignment_mark op) ∷ rule (expression b)) ts)
assignment_at C a op b p q N tail R ts o f d =
    let us = seen C (m (assignment_mark op) ∷ rule (expression b)) ts in
    both C (rule (expression a)) (opens ∷ m (assignment_mark op) ∷ rule (expression b)) ts (ruled C (expression a) us (led o (p (Maybe n.ExpressionRest ∷ tail ++ R) us (λ h. no_assignment op) (skip (assigned C op b q (tail ++ R) ts f d)))))

conditional_at : (C : List (List ℕ)) (a b c : Expression) → AsBinary C a → Covered C b → Covered C c → (N : Nonterminal) (tail R : List Symbol) (ts : List Terminal) → OfExpression N tail → NoneNext pattern.NewMark ts → Derives (tail ++ R) ts → Derives (One N ∷ R) (seen C (rule (expression a) ++ opens ∷ m mark.Question ∷ (rule (expression b) ++ m mark.Colon ∷ rule (expression c))) ts)
unfolding admits
conditional_at C a b c p q r N tail R ts o f d =
    let qs = opens ∷ m mark.Question ∷ (rule (expression b) ++ m mark.Colon ∷ rule (expression c)) in
    both C (rule (expression a)) qs ts (ruled C (expression a) (seen C qs ts) (led o (p (Maybe n.ExpressionRest ∷ tail ++ R) (seen C qs ts) (λ h. refl) (skip (chosen C b c q r (tail ++ R) ts f d)))))

binary_at : (C : List (List ℕ)) (a : Expression) (op : BinaryOperator) (b : Expression) → (IsTrue (ends_in_new a) → IsFalse (is_of_type op)) → AsBinary C a → AsBinary C b → (R : List Symbol) (ts : List Terminal) → Follows b ts → Derives (Maybe n.Operators ∷ R) ts → Derives (One n.Unary ∷ Maybe n.Operators ∷ R) (seen C (part (is_binary a) (expression a) ++ opens ∷ m (binary_mark op) ∷ part (is_binary b) (expression b)) ts)
binary_at C a op b h p q R ts f d =
    let qs = opens ∷ m (binary_mark op) ∷ part (is_binary b) (expression b) in
    both C (part (is_binary a) (expression a)) qs ts (parted C (is_binary a) (expression a) (seen C qs ts) (p R (seen C qs ts) (λ e. no_mark op (h e)) (operated C op (is_binary b) b q R ts f d)))

member_at : (C : List (List ℕ)) (e : Expression) (op : MemberOperator) (x : List ℕ) → AsPostfix C e → IsName x → (R : List Symbol) (ts : List Terminal) → Derives (Maybe n.Postfix ∷ R) ts → Derives (One n.Unary ∷ R) (seen C (part (is_postfix e) (expression e) ++ opens ∷ m (member_mark op) ∷ name x ∷ []) ts)
member_at C e op x p h R ts d =
    let qs = opens ∷ m (member_mark op) ∷ name x ∷ [] in
    both C (part (is_postfix e) (expression e)) qs ts (parted C (is_postfix e) (expression e) (seen C qs ts) (p R (seen C qs ts) (may (postfix-access (terminal_of C (kind.Mark (member_mark op))) (is_access op)) (by_token (names_of.name C x h) (beneath d)))))

pub called : {k : Count} (C : List (List ℕ)) (args : Row_of-Expression k) → RowCovered C args → (R : List Symbol) (ts : List Terminal) → Derives (Maybe n.Postfix ∷ R) ts → Derives (Maybe n.Postfix ∷ R) (seen C (m mark.OpenParen ∷ (row_arguments args ++ m mark.CloseParen ∷ [])) ts)
unfolding admits
called C args r R ts d =
    may (postfix-paren (terminal_of C (kind.Mark mark.OpenParen)) refl) (both C (row_arguments args) (m mark.CloseParen ∷ []) ts (r.all (Token (pattern.Punctuator mark.CloseParen) ∷ Maybe n.Postfix ∷ Close ∷ R) (seen C (m mark.CloseParen ∷ []) ts) refl (by_token refl (beneath d))))

call_at : {k : Count} (C : List (List ℕ)) (e : Expression) (args : Row_of-Expression k) → AsPostfix C e → RowCovered C args → (R : List Symbol) (ts : List Terminal) → Derives (Maybe n.Postfix ∷ R) ts → Derives (One n.Unary ∷ R) (seen C (part (is_postfix e) (expression e) ++ opens ∷ m mark.OpenParen ∷ (row_arguments args ++ m mark.CloseParen ∷ [])) ts)
call_at C e args p r R ts d =
    let qs = opens ∷ m mark.OpenParen ∷ (row_arguments args ++ m mark.CloseParen ∷ []) in
    both C (part (is_postfix e) (expression e)) qs ts (parted C (is_postfix e) (expression e) (seen C qs ts) (p R (seen C qs ts) (called C args r R ts d)))

step_at : (C : List (List ℕ)) (e : Expression) (op : StepOperator) → AsPostfix C e → (R : List Symbol) (ts : List Terminal) → Derives (Maybe n.Postfix ∷ R) ts → Derives (One n.Unary ∷ R) (seen C (part (is_postfix e) (expression e) ++ opens ∷ m (step_mark op) ∷ []) ts)
step_at C e op p R ts d =
    let qs = opens ∷ m (step_mark op) ∷ [] in
    both C (part (is_postfix e) (expression e)) qs ts (parted C (is_postfix e) (expression e) (seen C qs ts) (p R (seen C qs ts) (may (postfix-increment (terminal_of C (kind.Mark (step_mark op))) (is_increment op)) (beneath d))))

new_type_at : (C : List (List ℕ)) (is_global : Bool) (base : SimpleType) (count : ℕ) → PlainBase C base → (R : List Symbol) (ts : List Terminal) → NoneNext pattern.NewMark ts → Derives R ts → Derives (One n.Unary ∷ R) (seen C (global is_global ++ opens ∷ w word.New ∷ (simple_type base ++ stars count)) ts)
new_type_at C is_global base count h R ts f d =
    new_at C is_global (simple_type base ++ stars count) ts (both C (simple_type base) (stars count) ts (base_at C n.Base [] (Greedy n.NewRest pattern.NewMark ∷ Close ∷ R) base_of base (seen C (stars count) ts) h (stars_of_new C (Close ∷ R) count ts f (shut d))))

new_with_at : {k : Count} (C : List (List ℕ)) (is_global : Bool) (base : SimpleType) (count : ℕ) (how : Brackets) (args : Row_of-Expression k) → PlainBase C base → RowCovered C args → (R : List Symbol) (ts : List Terminal) → Derives R ts → Derives (One n.Unary ∷ R) (seen C (global is_global ++ opens ∷ w word.New ∷ (simple_type base ++ (stars count ++ in_brackets how (row_arguments args)))) ts)
new_with_at C is_global base count how args h r R ts d =
    let qs = stars count ++ in_brackets how (row_arguments args) in
    new_at C is_global (simple_type base ++ qs) ts (both C (simple_type base) qs ts (base_at C n.Base [] (Greedy n.NewRest pattern.NewMark ∷ Close ∷ R) base_of base (seen C qs ts) h (both C (stars count) (in_brackets how (row_arguments args)) ts (rest_of_new C (Close ∷ R) count how args r ts (shut d)))))

cast_at : (C : List (List ℕ)) (of : TypeId) (e : Expression) → PlainType C of → Covered C e → (R : List Symbol) (ts : List Terminal) → Derives (Maybe n.Postfix ∷ R) ts → Derives (One n.Unary ∷ R) (seen C (w word.StaticCast ∷ m mark.Less ∷ (type_id of ++ m mark.Greater ∷ in_parentheses (rule (expression e)))) ts)
unfolding admits
cast_at C of e h c R ts d =
    let qs = m mark.Greater ∷ in_parentheses (rule (expression e)) in
    go (unary-static_cast (terminal_of C (kind.Word word.StaticCast)) refl) (by_token refl (both C (type_id of) qs ts (type_at C n.TypeId [] (Token (pattern.Punctuator mark.Greater) ∷ One n.Condition ∷ Maybe n.Postfix ∷ R) type_id_of of (seen C qs ts) h (by_token refl (go (condition-paren (terminal_of C (kind.Mark mark.OpenParen)) refl) (parenthesized C e c ts d))))))

given_at : {k : Count} (C : List (List ℕ)) (args : Row_of-Expression k) → HasOne args → RowCovered C args → (R : List Symbol) (ts : List Terminal) → Derives R ts → Derives (One n.GivenArguments ∷ R) (seen C (in_parentheses (row_arguments args)) ts)
unfolding admits
given_at C args h r R ts d =
    go (given_arguments-paren (terminal_of C (kind.Mark mark.OpenParen)) refl) (both C (row_arguments args) (m mark.CloseParen ∷ leave ∷ []) ts (r.some h (Token (pattern.Punctuator mark.CloseParen) ∷ Close ∷ R) (seen C (m mark.CloseParen ∷ leave ∷ []) ts) refl (by_token refl (shut d))))

construction_at : {k : Count} (C : List (List ℕ)) (base : SimpleType) (how : Brackets) (args : Row_of-Expression k) → PlainBase C base → RowCovered C args → (R : List Symbol) (ts : List Terminal) → Derives (Maybe n.Postfix ∷ R) ts → Derives (One n.Unary ∷ R) (seen C (simple_type base ++ in_brackets how (row_arguments args)) ts)
construction_at C base how args h r R ts d = both C (simple_type base) (in_brackets how (row_arguments args)) ts (kind_at C how args r R ts base.kind h d)

-- ---- all expressions

mutual
  unfolding known admits

  pub covered : (C : List (List ℕ)) (e : Expression) → FormedExpression C e → Covered C e
  covered C (expr.Yield' s (more_of-Expression e end_of-Expression) at) h = from_full C _ (λ l. omega (arith, l)) (yield_at C e (covered C e h))
  covered C (expr.Rethrow at) h = from_full C _ (λ l. omega (arith, l)) (λ N tail R ts o f d. rethrow_at C N tail R ts o d)
  covered C (expr.Throw' s (more_of-Expression e end_of-Expression) at) h = from_full C _ (λ l. omega (arith, l)) (throw_at C e (covered C e h))
  covered C (expr.Assignment' s (more_of-Expression a end_of-Expression) op t (more_of-Expression b end_of-Expression) at) h = from_full C _ (λ l. omega (arith, l)) (assignment_at C a op b ((covered C a h.0).binary h.2) (covered C b h.1))
  covered C (expr.Conditional' s (more_of-Expression a end_of-Expression) t (more_of-Expression b end_of-Expression) u (more_of-Expression c end_of-Expression) at) h =
      from_full C _ (λ l. omega (arith, l)) (conditional_at C a b c ((covered C a h.0).binary h.3) (covered C b h.1) (covered C c h.2))
  covered C (expr.Binary' s (more_of-Expression a end_of-Expression) op t (more_of-Expression b end_of-Expression) at) h =
      from_binary C _ (λ l. omega (arith, l, most op)) (binary_at C a op b h.4 ((covered C a h.0).binary (omega (arith, h.2, least op))) ((covered C b h.1).binary (omega (arith, h.3, least op))))
  covered C (expr.Unary' op s (more_of-Expression e end_of-Expression) at) h =
      from_unary C _ (λ l. omega (arith, l)) (λ R ts f d. operator_at C op (rule (expression e)) ts (ruled C (expression e) ts ((covered C e h.0).unary h.1 (Close ∷ R) ts f (shut d))))
  covered C (expr.New is_global base pointers at) h = from_unary C _ (λ l. omega (arith, l)) (λ R ts f d. new_type_at C is_global base pointers h R ts (f refl) d)
  covered C (expr.NewWith' is_global base pointers how s args at) h = from_unary C _ (λ l. omega (arith, l)) (λ R ts f d. new_with_at C is_global base pointers how args h.0 (row_covered C args h.1) R ts d)
  covered C (expr.Delete' is_global s (more_of-Expression e end_of-Expression) at) h =
      from_unary C _ (λ l. omega (arith, l)) (λ R ts f d. delete_at C is_global (rule (expression e)) ts (ruled C (expression e) ts ((covered C e h.0).unary h.1 (Close ∷ R) ts f (shut d))))
  covered C (expr.Member' s (more_of-Expression e end_of-Expression) op x at) h = from_postfix C _ (member_at C e op x ((covered C e h.0).postfix h.1) h.2)
  covered C (expr.Call' s (more_of-Expression e end_of-Expression) t args at) h = from_postfix C _ (call_at C e args ((covered C e h.0).postfix h.2) (row_covered C args h.1))
  covered C (expr.Step' s (more_of-Expression e end_of-Expression) op at) h = from_postfix C _ (step_at C e op ((covered C e h.0).postfix h.1))
  covered C (expr.Number num value at) h = from_postfix C _ (λ R ts d. go (unary-literal (terminal_of C (kind.Int num value)) refl) d)
  covered C (expr.Bool value at) h = from_postfix C _ (λ R ts d. truth_at C value ts d)
  covered C (expr.Nullptr at) h = from_postfix C _ (λ R ts d. go (unary-literal (terminal_of C (kind.Word word.Nullptr)) refl) d)
  covered C (expr.This at) h = from_postfix C _ (λ R ts d. go (unary-literal (terminal_of C (kind.Word word.This)) refl) d)
  covered C (expr.Name p) h = from_postfix C _ (name_at C p h)
  covered C (expr.Parenthesized' s (more_of-Expression e end_of-Expression) at) h = from_postfix C _ (λ R ts d. go (unary-paren (terminal_of C (kind.Mark mark.OpenParen)) refl) (parenthesized C e (covered C e h) ts d))
  covered C (expr.Construction' base how s args) h = from_postfix C _ (construction_at C base how args h.0 (row_covered C args h.1))
  covered C (expr.Text text at) h = from_postfix C _ (λ R ts d. corun_at C (go (run_name-text (terminal_of C (kind.Name (codes "text"))) refl) (go (text_argument-paren (terminal_of C (kind.Mark mark.OpenParen)) refl) (by_token refl (by_token refl (shut d))))))
  covered C (expr.StaticCast' of s (more_of-Expression e end_of-Expression) at) h = from_postfix C _ (cast_at C of e h.0 (covered C e h.1))
  covered C (expr.OperatorNew' s args at) h =
      from_postfix C _ (λ R ts d. go (unary-scope (terminal_of C (kind.Mark mark.Scope)) refl) (go (global_scope-operator (terminal_of C (kind.Word word.Operator)) refl) (by_token refl (given_at C args h.1 (row_covered C args h.0) (Maybe n.Postfix ∷ R) ts d))))
  covered C (expr.OperatorDelete' s args at) h =
      from_postfix C _ (λ R ts d. go (unary-scope (terminal_of C (kind.Mark mark.Scope)) refl) (go (global_scope-operator (terminal_of C (kind.Word word.Operator)) refl) (by_token refl (given_at C args h.1 (row_covered C args h.0) (Maybe n.Postfix ∷ R) ts d))))
  covered C (expr.HandleFunction promise function at) h = from_postfix C _ (λ R ts d. handle_function_at C promise function R ts h d)
  covered C (expr.StandardFunction function at) h = from_postfix C _ (λ R ts d. standard_at C (go (library_operand-library_function (terminal_of C (kind.Name (standard_name function))) (is_library C function)) d))
  covered C (expr.CorunFunction function at) h = from_postfix C _ (λ R ts d. corun_at C (go (run_name-run_function (terminal_of C (kind.Name (corun_name function))) (is_run C function)) d))

  pub row_covered : {k : Count} (C : List (List ℕ)) (row : Row_of-Expression k) → FormedRow C row → RowCovered C row
  row_covered C end_of-Expression h = no_arguments C
  row_covered C (more_of-Expression e rest) h = more_arguments C _ e rest (covered C e h.0) (row_covered C rest h.1)
