-- The sentence of each node that has others in it, and when it is formed, by the lists and the values of its parts.
use Rattle.std.specs.Prelude.{◌≡◌, ℕ, List, [], ◌∷◌, ◌++◌, Bool}
use Rattle.std.proofs.Common.{refl, sym, ap, ◌∙◌, ◌≤◌, ◌≢◌}
use Rattle.co_tree.specs.Formed.{FormedExpression, FormedRow, FormedAll, HasOne, PlainBase, as_postfix, tightness}
use mathlib.Core.Former.{Count}
use Rattle.co_base.specs.declared.span.Span.{Span}
use Rattle.co_lex.specs.declared.token.Word.TheVariants as word
use Rattle.co_lex.specs.declared.token.Mark.TheVariants as mark
use Rattle.co_tree.specs.declared.types.SimpleType.{SimpleType}
use Rattle.co_tree.specs.declared.types.TypeId.{TypeId}
use Rattle.co_tree.specs.declared.expressions.AssignmentOperator.{AssignmentOperator}
use Rattle.co_tree.specs.declared.expressions.BinaryOperator.{BinaryOperator}
use Rattle.co_tree.specs.declared.expressions.UnaryOperator.{UnaryOperator}
use Rattle.co_tree.specs.declared.expressions.StepOperator.{StepOperator}
use Rattle.co_tree.specs.declared.expressions.MemberOperator.{MemberOperator}
use Rattle.co_tree.specs.declared.expressions.Brackets.{Brackets}
use Rattle.co_tree.specs.declared.expressions.Expression.{Expression, Row_of-Expression, end_of-Expression, more_of-Expression, items-the_row-Expression, items_hidden-the_row-Expression-1}
use Rattle.co_tree.specs.declared.expressions.Expression.TheVariants as expr
use Rattle.co_tree.specs.declared.expressions.Expression.TheBlock.{shape-the_row-Expression-0, hidden-the_row-Expression-0, shown-the_row-Expression-0}
use Rattle.co_tree.specs.Piece.{node, opens, w, m, name, rule, in_parentheses}
use Rattle.co_tree.specs.Types.{simple_type, stars, type_id}
use Rattle.co_tree.specs.Sentence.{assignment_mark, binary_mark, unary_token, step_mark, member_mark, in_brackets, is_binary, is_postfix, part, global, expression, row_arguments, row_arguments_after, arguments, arguments_after}

pub sentence_yield : (e : Expression) (at : Span) → expression (expr.Yield e at) ≡ node at ∷ opens ∷ w word.CoYield ∷ rule (expression e)
unfolding shape-the_row-Expression-0 hidden-the_row-Expression-0 shown-the_row-Expression-0 denote.Hole.Carrier.hidden
sentence_yield e at = refl

pub sentence_throw : (e : Expression) (at : Span) → expression (expr.Throw e at) ≡ node at ∷ opens ∷ w word.Throw ∷ rule (expression e)
unfolding shape-the_row-Expression-0 hidden-the_row-Expression-0 shown-the_row-Expression-0 denote.Hole.Carrier.hidden
sentence_throw e at = refl

pub sentence_assignment : (a : Expression) (op : AssignmentOperator) (b : Expression) (at : Span) → expression (expr.Assignment a op b at) ≡ node at ∷ (rule (expression a) ++ opens ∷ m (assignment_mark op) ∷ rule (expression b))
unfolding shape-the_row-Expression-0 hidden-the_row-Expression-0 shown-the_row-Expression-0 denote.Hole.Carrier.hidden
sentence_assignment a op b at = refl

pub sentence_conditional : (a b c : Expression) (at : Span) → expression (expr.Conditional a b c at) ≡ node at ∷ (rule (expression a) ++ opens ∷ m mark.Question ∷ (rule (expression b) ++ m mark.Colon ∷ rule (expression c)))
unfolding shape-the_row-Expression-0 hidden-the_row-Expression-0 shown-the_row-Expression-0 denote.Hole.Carrier.hidden
sentence_conditional a b c at = refl

pub sentence_binary : (a : Expression) (op : BinaryOperator) (b : Expression) (at : Span) → expression (expr.Binary a op b at) ≡ node at ∷ (part (is_binary a) (expression a) ++ opens ∷ m (binary_mark op) ∷ part (is_binary b) (expression b))
unfolding shape-the_row-Expression-0 hidden-the_row-Expression-0 shown-the_row-Expression-0 denote.Hole.Carrier.hidden
sentence_binary a op b at = refl

pub sentence_unary : (op : UnaryOperator) (e : Expression) (at : Span) → expression (expr.Unary op e at) ≡ node at ∷ opens ∷ unary_token op ∷ rule (expression e)
unfolding shape-the_row-Expression-0 hidden-the_row-Expression-0 shown-the_row-Expression-0 denote.Hole.Carrier.hidden
sentence_unary op e at = refl

pub sentence_delete : (is_global : Bool) (e : Expression) (at : Span) → expression (expr.Delete is_global e at) ≡ node at ∷ (global is_global ++ opens ∷ w word.Delete ∷ rule (expression e))
unfolding shape-the_row-Expression-0 hidden-the_row-Expression-0 shown-the_row-Expression-0 denote.Hole.Carrier.hidden
sentence_delete is_global e at = refl

pub sentence_member : (e : Expression) (op : MemberOperator) (n : List ℕ) (at : Span) → expression (expr.Member e op n at) ≡ node at ∷ (part (is_postfix e) (expression e) ++ opens ∷ m (member_mark op) ∷ name n ∷ [])
unfolding shape-the_row-Expression-0 hidden-the_row-Expression-0 shown-the_row-Expression-0 denote.Hole.Carrier.hidden
sentence_member e op n at = refl

pub sentence_step : (e : Expression) (op : StepOperator) (at : Span) → expression (expr.Step e op at) ≡ node at ∷ (part (is_postfix e) (expression e) ++ opens ∷ m (step_mark op) ∷ [])
unfolding shape-the_row-Expression-0 hidden-the_row-Expression-0 shown-the_row-Expression-0 denote.Hole.Carrier.hidden
sentence_step e op at = refl

pub sentence_parenthesized : (e : Expression) (at : Span) → expression (expr.Parenthesized e at) ≡ node at ∷ in_parentheses (rule (expression e))
unfolding shape-the_row-Expression-0 hidden-the_row-Expression-0 shown-the_row-Expression-0 denote.Hole.Carrier.hidden
sentence_parenthesized e at = refl

pub sentence_static_cast : (of : TypeId) (e : Expression) (at : Span) → expression (expr.StaticCast of e at) ≡ node at ∷ w word.StaticCast ∷ m mark.Less ∷ (type_id of ++ m mark.Greater ∷ in_parentheses (rule (expression e)))
unfolding shape-the_row-Expression-0 hidden-the_row-Expression-0 shown-the_row-Expression-0 denote.Hole.Carrier.hidden
sentence_static_cast of e at = refl

-- ---- lists

rows_after : (n : Count) (row : Row_of-Expression n) → row_arguments_after row ≡ arguments_after (items-the_row-Expression n row)
rows_after n end_of-Expression = refl
rows_after n (more_of-Expression e rest) = ap (λ ps. m mark.Comma ∷ (rule (expression e) ++ ps)) (rows_after _ rest)

pub rows_arguments : (n : Count) (row : Row_of-Expression n) → row_arguments row ≡ arguments (items-the_row-Expression n row)
rows_arguments n end_of-Expression = refl
rows_arguments n (more_of-Expression e rest) = ap (λ ps. rule (expression e) ++ ps) (rows_after _ rest)

abbrev row_of : Expression → (n : Count) × Row_of-Expression n
row_of (expr.OperatorNew' s row at) = (_, row)
row_of _ = (_, end_of-Expression)

-- the arguments of a list as a row of them
hidden_arguments : (args : List Expression) (at : Span) → let row = row_of (expr.OperatorNew args at) in row_arguments row.1 ≡ arguments args
hidden_arguments args at =
    let row = row_of (expr.OperatorNew args at) in
    rows_arguments row.0 row.1 ∙ ap arguments (items_hidden-the_row-Expression-1 args)

pub sentence_operator_new : (args : List Expression) (at : Span) → expression (expr.OperatorNew args at) ≡ node at ∷ m mark.Scope ∷ w word.Operator ∷ w word.New ∷ in_parentheses (arguments args)
unfolding shape-the_row-Expression-0 hidden-the_row-Expression-0 shown-the_row-Expression-0 denote.Hole.Carrier.hidden
sentence_operator_new args at = ap (λ ps. node at ∷ m mark.Scope ∷ w word.Operator ∷ w word.New ∷ in_parentheses (ps)) (hidden_arguments args at)

pub sentence_operator_delete : (args : List Expression) (at : Span) → expression (expr.OperatorDelete args at) ≡ node at ∷ m mark.Scope ∷ w word.Operator ∷ w word.Delete ∷ in_parentheses (arguments args)
unfolding shape-the_row-Expression-0 hidden-the_row-Expression-0 shown-the_row-Expression-0 denote.Hole.Carrier.hidden
sentence_operator_delete args at = ap (λ ps. node at ∷ m mark.Scope ∷ w word.Operator ∷ w word.Delete ∷ in_parentheses (ps)) (hidden_arguments args at)

pub sentence_new_with : (is_global : Bool) (base : SimpleType) (pointers : ℕ) (brackets : Brackets) (args : List Expression) (at : Span) → expression (expr.NewWith is_global base pointers brackets args at) ≡ node at ∷ (global is_global ++ opens ∷ w word.New ∷ (simple_type base ++ (stars pointers ++ in_brackets brackets (arguments args))))
unfolding shape-the_row-Expression-0 hidden-the_row-Expression-0 shown-the_row-Expression-0 denote.Hole.Carrier.hidden
sentence_new_with is_global base pointers brackets args at = ap (λ ps. node at ∷ (global is_global ++ opens ∷ w word.New ∷ (simple_type base ++ (stars pointers ++ in_brackets brackets (ps))))) (hidden_arguments args at)

pub sentence_call : (e : Expression) (args : List Expression) (at : Span) → expression (expr.Call e args at) ≡ node at ∷ (part (is_postfix e) (expression e) ++ opens ∷ m mark.OpenParen ∷ (arguments args ++ m mark.CloseParen ∷ []))
unfolding shape-the_row-Expression-0 hidden-the_row-Expression-0 shown-the_row-Expression-0 denote.Hole.Carrier.hidden
sentence_call e args at = ap (λ ps. node at ∷ (part (is_postfix e) (expression e) ++ opens ∷ m mark.OpenParen ∷ (ps ++ m mark.CloseParen ∷ []))) (hidden_arguments args at)

pub sentence_construction : (base : SimpleType) (brackets : Brackets) (args : List Expression) → expression (expr.Construction base brackets args) ≡ simple_type base ++ in_brackets brackets (arguments args)
unfolding shape-the_row-Expression-0 hidden-the_row-Expression-0 shown-the_row-Expression-0 denote.Hole.Carrier.hidden
sentence_construction base brackets args = ap (λ ps. simple_type base ++ in_brackets brackets (ps)) (hidden_arguments args (record { line = 0; col = 0 }))

-- ---- what is formed

formed_rows : (C : List (List ℕ)) (n : Count) (row : Row_of-Expression n) → FormedRow C row ≡ FormedAll C (items-the_row-Expression n row)
formed_rows C n end_of-Expression = refl
formed_rows C n (more_of-Expression e rest) = ap (λ T. FormedExpression C e × T) (formed_rows C _ rest)

hidden_formed : (C : List (List ℕ)) (args : List Expression) (at : Span) → let row = row_of (expr.OperatorNew args at) in FormedRow C row.1 ≡ FormedAll C args
hidden_formed C args at =
    let row = row_of (expr.OperatorNew args at) in
    formed_rows C row.0 row.1 ∙ ap (FormedAll C) (items_hidden-the_row-Expression-1 args)

pub formed_new_with : (C : List (List ℕ)) (is_global : Bool) (base : SimpleType) (pointers : ℕ) (how : Brackets) (args : List Expression) (at : Span) → PlainBase C base → FormedAll C args → FormedExpression C (expr.NewWith is_global base pointers how args at)
unfolding shape-the_row-Expression-0 hidden-the_row-Expression-0 shown-the_row-Expression-0 denote.Hole.Carrier.hidden
formed_new_with C is_global base pointers how args at p h = (p, rw (hidden_formed C args at) h)

pub formed_call : (C : List (List ℕ)) (e : Expression) (args : List Expression) (at : Span) → FormedExpression C e → FormedAll C args → as_postfix ≤ tightness e → FormedExpression C (expr.Call e args at)
unfolding shape-the_row-Expression-0 hidden-the_row-Expression-0 shown-the_row-Expression-0 denote.Hole.Carrier.hidden
formed_call C e args at f h t = (f, rw (hidden_formed C args at) h, t)

pub formed_construction : (C : List (List ℕ)) (base : SimpleType) (how : Brackets) (args : List Expression) → PlainBase C base → FormedAll C args → FormedExpression C (expr.Construction base how args)
unfolding shape-the_row-Expression-0 hidden-the_row-Expression-0 shown-the_row-Expression-0 denote.Hole.Carrier.hidden
formed_construction C base how args p h = (p, rw (hidden_formed C args (record { line = 0; col = 0 })) h)

some_row : (n : Count) (row : Row_of-Expression n) → (items-the_row-Expression n row ≢ []) → HasOne row
some_row n end_of-Expression h = absurd (h refl)
some_row n (more_of-Expression e rest) h = tt

pub formed_operator_new : (C : List (List ℕ)) (args : List Expression) (at : Span) → FormedAll C args → args ≢ [] → FormedExpression C (expr.OperatorNew args at)
unfolding shape-the_row-Expression-0 hidden-the_row-Expression-0 shown-the_row-Expression-0 denote.Hole.Carrier.hidden
formed_operator_new C args at h some =
    let row = row_of (expr.OperatorNew args at) in
    (rw (hidden_formed C args at) h, some_row row.0 row.1 (λ e. some (sym (items_hidden-the_row-Expression-1 args) ∙ e)))

pub formed_operator_delete : (C : List (List ℕ)) (args : List Expression) (at : Span) → FormedAll C args → args ≢ [] → FormedExpression C (expr.OperatorDelete args at)
unfolding shape-the_row-Expression-0 hidden-the_row-Expression-0 shown-the_row-Expression-0 denote.Hole.Carrier.hidden
formed_operator_delete C args at h some =
    let row = row_of (expr.OperatorNew args at) in
    (rw (hidden_formed C args at) h, some_row row.0 row.1 (λ e. some (sym (items_hidden-the_row-Expression-1 args) ∙ e)))
