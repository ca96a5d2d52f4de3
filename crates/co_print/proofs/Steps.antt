-- What an expression puts, by what its parts put one after the other.
use Rattle.std.specs.Prelude.{◌≡◌, ℕ, List, Bool}
use Rattle.std.proofs.Common.{ap, ◌∙◌}
use Rattle.co_base.specs.declared.span.Span.{Span}
use Rattle.co_lex.specs.declared.token.TokenKind.TheVariants as kind
use Rattle.co_lex.specs.declared.token.Word.TheVariants as word
use Rattle.co_lex.specs.declared.token.Mark.{Mark}
use Rattle.co_lex.specs.declared.token.Mark.TheVariants as mark
use Rattle.co_tree.specs.declared.types.SimpleType.{SimpleType}
use Rattle.co_tree.specs.declared.types.TypeId.{TypeId}
use Rattle.co_tree.specs.declared.expressions.AssignmentOperator.{AssignmentOperator}
use Rattle.co_tree.specs.declared.expressions.BinaryOperator.{BinaryOperator}
use Rattle.co_tree.specs.declared.expressions.UnaryOperator.{UnaryOperator}
use Rattle.co_tree.specs.declared.expressions.StepOperator.{StepOperator}
use Rattle.co_tree.specs.declared.expressions.MemberOperator.{MemberOperator}
use Rattle.co_tree.specs.declared.expressions.Brackets.{Brackets}
use Rattle.co_tree.specs.declared.expressions.Expression.{Expression}
use Rattle.co_tree.specs.declared.expressions.Expression.TheVariants as expr
use Rattle.co_tree.specs.Piece.{in_parentheses}
use Rattle.co_tree.specs.Types.{simple_type, stars, type_id}
use Rattle.co_tree.specs.Sentence.{assignment_mark, binary_mark, unary_token, step_mark, member_mark, in_brackets, global, expression, arguments}
use Rattle.co_print.specs.declared.printer.Printer.{Printer}
use Rattle.co_print.specs.Printed.{put, put_token, put_all}
use Rattle.co_print.proofs.Puts.{put_append, put_part}
use Rattle.co_print.proofs.Opening as opening

put_yield : (s : Printer) (e : Expression) (at : Span) → put_all s (expression (expr.Yield e at)) ≡ put_all (put_token s (kind.Word word.CoYield)) (expression e)
put_yield s e at = ap (put_all s) (opening.sentence_yield e at) ∙ simp put_append

pub yield_step : (x : Expression) (e : Expression) (at : Span) (e' : Expression) (s s1 s2 : Printer) → x ≡ expr.Yield e at → s1 ≡ put_token s (kind.Word word.CoYield) → e' ≡ e → s2 ≡ put_all s1 (expression e') → s2 ≡ put_all s (expression x)
yield_step x e at e' s s1 s2 is e0 i1 e1 =
    let whole = put_yield s e at in cc

put_throw : (s : Printer) (e : Expression) (at : Span) → put_all s (expression (expr.Throw e at)) ≡ put_all (put_token s (kind.Word word.Throw)) (expression e)
put_throw s e at = ap (put_all s) (opening.sentence_throw e at) ∙ simp put_append

pub throw_step : (x : Expression) (e : Expression) (at : Span) (e' : Expression) (s s1 s2 : Printer) → x ≡ expr.Throw e at → s1 ≡ put_token s (kind.Word word.Throw) → e' ≡ e → s2 ≡ put_all s1 (expression e') → s2 ≡ put_all s (expression x)
throw_step x e at e' s s1 s2 is e0 i1 e1 =
    let whole = put_throw s e at in cc

put_assignment : (s : Printer) (a : Expression) (op : AssignmentOperator) (b : Expression) (at : Span) → put_all s (expression (expr.Assignment a op b at)) ≡ put_all (put_token (put_all s (expression a)) (kind.Mark (assignment_mark op))) (expression b)
put_assignment s a op b at = ap (put_all s) (opening.sentence_assignment a op b at) ∙ simp put_append

pub assignment_step : (x : Expression) (a : Expression) (op : AssignmentOperator) (b : Expression) (at : Span) (a' : Expression) (mk : Mark) (b' : Expression) (s s1 s2 s3 : Printer) → x ≡ expr.Assignment a op b at → a' ≡ a → s1 ≡ put_all s (expression a') → mk ≡ assignment_mark op → s2 ≡ put_token s1 (kind.Mark mk) → b' ≡ b → s3 ≡ put_all s2 (expression b') → s3 ≡ put_all s (expression x)
assignment_step x a op b at a' mk b' s s1 s2 s3 is i0 e0 i1 e1 i2 e2 =
    let whole = put_assignment s a op b at in cc

put_conditional : (s : Printer) (a : Expression) (b : Expression) (c : Expression) (at : Span) → put_all s (expression (expr.Conditional a b c at)) ≡ put_all (put_token (put_all (put_token (put_all s (expression a)) (kind.Mark mark.Question)) (expression b)) (kind.Mark mark.Colon)) (expression c)
put_conditional s a b c at = ap (put_all s) (opening.sentence_conditional a b c at) ∙ simp put_append

pub conditional_step : (x : Expression) (a : Expression) (b : Expression) (c : Expression) (at : Span) (a' : Expression) (b' : Expression) (c' : Expression) (s s1 s2 s3 s4 s5 : Printer) → x ≡ expr.Conditional a b c at → a' ≡ a → s1 ≡ put_all s (expression a') → s2 ≡ put_token s1 (kind.Mark mark.Question) → b' ≡ b → s3 ≡ put_all s2 (expression b') → s4 ≡ put_token s3 (kind.Mark mark.Colon) → c' ≡ c → s5 ≡ put_all s4 (expression c') → s5 ≡ put_all s (expression x)
conditional_step x a b c at a' b' c' s s1 s2 s3 s4 s5 is i0 e0 e1 i2 e2 e3 i4 e4 =
    let whole = put_conditional s a b c at in cc

put_binary : (s : Printer) (a : Expression) (op : BinaryOperator) (b : Expression) (at : Span) → put_all s (expression (expr.Binary a op b at)) ≡ put_all (put_token (put_all s (expression a)) (kind.Mark (binary_mark op))) (expression b)
put_binary s a op b at = ap (put_all s) (opening.sentence_binary a op b at) ∙ simp (put_append, put_part)

pub binary_step : (x : Expression) (a : Expression) (op : BinaryOperator) (b : Expression) (at : Span) (a' : Expression) (mk : Mark) (b' : Expression) (s s1 s2 s3 : Printer) → x ≡ expr.Binary a op b at → a' ≡ a → s1 ≡ put_all s (expression a') → mk ≡ binary_mark op → s2 ≡ put_token s1 (kind.Mark mk) → b' ≡ b → s3 ≡ put_all s2 (expression b') → s3 ≡ put_all s (expression x)
binary_step x a op b at a' mk b' s s1 s2 s3 is i0 e0 i1 e1 i2 e2 =
    let whole = put_binary s a op b at in cc

put_unary : (s : Printer) (op : UnaryOperator) (e : Expression) (at : Span) → put_all s (expression (expr.Unary op e at)) ≡ put_all (put s (unary_token op)) (expression e)
put_unary s op e at = ap (put_all s) (opening.sentence_unary op e at) ∙ simp put_append

pub unary_step : (x : Expression) (op : UnaryOperator) (e : Expression) (at : Span) (e' : Expression) (s s1 s2 : Printer) → x ≡ expr.Unary op e at → s1 ≡ put s (unary_token op) → e' ≡ e → s2 ≡ put_all s1 (expression e') → s2 ≡ put_all s (expression x)
unary_step x op e at e' s s1 s2 is e0 i1 e1 =
    let whole = put_unary s op e at in cc

put_new_with : (s : Printer) (is_global : Bool) (base : SimpleType) (pointers : ℕ) (brackets : Brackets) (args : List Expression) (at : Span) → put_all s (expression (expr.NewWith is_global base pointers brackets args at)) ≡ put_all (put_all (put_all (put_token (put_all s (global is_global)) (kind.Word word.New)) (simple_type base)) (stars pointers)) (in_brackets brackets (arguments args))
put_new_with s is_global base pointers brackets args at = ap (put_all s) (opening.sentence_new_with is_global base pointers brackets args at) ∙ simp put_append

pub new_with_step : (x : Expression) (is_global : Bool) (base : SimpleType) (pointers : ℕ) (brackets : Brackets) (args : List Expression) (at : Span) (args' : List Expression) (s s1 s2 s3 s4 s5 : Printer) → x ≡ expr.NewWith is_global base pointers brackets args at → s1 ≡ put_all s (global is_global) → s2 ≡ put_token s1 (kind.Word word.New) → s3 ≡ put_all s2 (simple_type base) → s4 ≡ put_all s3 (stars pointers) → args' ≡ args → s5 ≡ put_all s4 (in_brackets brackets (arguments args')) → s5 ≡ put_all s (expression x)
new_with_step x is_global base pointers brackets args at args' s s1 s2 s3 s4 s5 is e0 e1 e2 e3 i4 e4 =
    let whole = put_new_with s is_global base pointers brackets args at in cc

put_delete : (s : Printer) (is_global : Bool) (e : Expression) (at : Span) → put_all s (expression (expr.Delete is_global e at)) ≡ put_all (put_token (put_all s (global is_global)) (kind.Word word.Delete)) (expression e)
put_delete s is_global e at = ap (put_all s) (opening.sentence_delete is_global e at) ∙ simp put_append

pub delete_step : (x : Expression) (is_global : Bool) (e : Expression) (at : Span) (e' : Expression) (s s1 s2 s3 : Printer) → x ≡ expr.Delete is_global e at → s1 ≡ put_all s (global is_global) → s2 ≡ put_token s1 (kind.Word word.Delete) → e' ≡ e → s3 ≡ put_all s2 (expression e') → s3 ≡ put_all s (expression x)
delete_step x is_global e at e' s s1 s2 s3 is e0 e1 i2 e2 =
    let whole = put_delete s is_global e at in cc

put_member : (s : Printer) (e : Expression) (op : MemberOperator) (n : List ℕ) (at : Span) → put_all s (expression (expr.Member e op n at)) ≡ put_token (put_token (put_all s (expression e)) (kind.Mark (member_mark op))) (kind.Name n)
put_member s e op n at = ap (put_all s) (opening.sentence_member e op n at) ∙ simp (put_append, put_part)

pub member_step : (x : Expression) (e : Expression) (op : MemberOperator) (n : List ℕ) (at : Span) (e' : Expression) (mk : Mark) (n' : List ℕ) (s s1 s2 s3 : Printer) → x ≡ expr.Member e op n at → e' ≡ e → s1 ≡ put_all s (expression e') → mk ≡ member_mark op → s2 ≡ put_token s1 (kind.Mark mk) → n' ≡ n → s3 ≡ put_token s2 (kind.Name n') → s3 ≡ put_all s (expression x)
member_step x e op n at e' mk n' s s1 s2 s3 is i0 e0 i1 e1 i2 e2 =
    let whole = put_member s e op n at in cc

put_call : (s : Printer) (e : Expression) (args : List Expression) (at : Span) → put_all s (expression (expr.Call e args at)) ≡ put_token (put_all (put_token (put_all s (expression e)) (kind.Mark mark.OpenParen)) (arguments args)) (kind.Mark mark.CloseParen)
put_call s e args at = ap (put_all s) (opening.sentence_call e args at) ∙ simp (put_append, put_part)

pub call_step : (x : Expression) (e : Expression) (args : List Expression) (at : Span) (e' : Expression) (args' : List Expression) (s s1 s2 s3 s4 : Printer) → x ≡ expr.Call e args at → e' ≡ e → s1 ≡ put_all s (expression e') → s2 ≡ put_token s1 (kind.Mark mark.OpenParen) → args' ≡ args → s3 ≡ put_all s2 (arguments args') → s4 ≡ put_token s3 (kind.Mark mark.CloseParen) → s4 ≡ put_all s (expression x)
call_step x e args at e' args' s s1 s2 s3 s4 is i0 e0 e1 i2 e2 e3 =
    let whole = put_call s e args at in cc

put_step : (s : Printer) (e : Expression) (op : StepOperator) (at : Span) → put_all s (expression (expr.Step e op at)) ≡ put_token (put_all s (expression e)) (kind.Mark (step_mark op))
put_step s e op at = ap (put_all s) (opening.sentence_step e op at) ∙ simp (put_append, put_part)

pub step_step : (x : Expression) (e : Expression) (op : StepOperator) (at : Span) (e' : Expression) (mk : Mark) (s s1 s2 : Printer) → x ≡ expr.Step e op at → e' ≡ e → s1 ≡ put_all s (expression e') → mk ≡ step_mark op → s2 ≡ put_token s1 (kind.Mark mk) → s2 ≡ put_all s (expression x)
step_step x e op at e' mk s s1 s2 is i0 e0 i1 e1 =
    let whole = put_step s e op at in cc

put_parenthesized : (s : Printer) (e : Expression) (at : Span) → put_all s (expression (expr.Parenthesized e at)) ≡ put_token (put_all (put_token s (kind.Mark mark.OpenParen)) (expression e)) (kind.Mark mark.CloseParen)
put_parenthesized s e at = ap (put_all s) (opening.sentence_parenthesized e at) ∙ simp put_append

pub parenthesized_step : (x : Expression) (e : Expression) (at : Span) (e' : Expression) (s s1 s2 s3 : Printer) → x ≡ expr.Parenthesized e at → s1 ≡ put_token s (kind.Mark mark.OpenParen) → e' ≡ e → s2 ≡ put_all s1 (expression e') → s3 ≡ put_token s2 (kind.Mark mark.CloseParen) → s3 ≡ put_all s (expression x)
parenthesized_step x e at e' s s1 s2 s3 is e0 i1 e1 e2 =
    let whole = put_parenthesized s e at in cc

put_construction : (s : Printer) (base : SimpleType) (brackets : Brackets) (args : List Expression) → put_all s (expression (expr.Construction base brackets args)) ≡ put_all (put_all s (simple_type base)) (in_brackets brackets (arguments args))
put_construction s base brackets args = ap (put_all s) (opening.sentence_construction base brackets args) ∙ simp put_append

pub construction_step : (x : Expression) (base : SimpleType) (brackets : Brackets) (args : List Expression) (args' : List Expression) (s s1 s2 : Printer) → x ≡ expr.Construction base brackets args → s1 ≡ put_all s (simple_type base) → args' ≡ args → s2 ≡ put_all s1 (in_brackets brackets (arguments args')) → s2 ≡ put_all s (expression x)
construction_step x base brackets args args' s s1 s2 is e0 i1 e1 =
    let whole = put_construction s base brackets args in cc

put_static_cast : (s : Printer) (of : TypeId) (e : Expression) (at : Span) → put_all s (expression (expr.StaticCast of e at)) ≡ put_token (put_all (put_token (put_token (put_all (put_token (put_token s (kind.Word word.StaticCast)) (kind.Mark mark.Less)) (type_id of)) (kind.Mark mark.Greater)) (kind.Mark mark.OpenParen)) (expression e)) (kind.Mark mark.CloseParen)
put_static_cast s of e at = ap (put_all s) (opening.sentence_static_cast of e at) ∙ simp put_append

pub static_cast_step : (x : Expression) (of : TypeId) (e : Expression) (at : Span) (e' : Expression) (s s1 s2 s3 s4 s5 s6 s7 : Printer) → x ≡ expr.StaticCast of e at → s1 ≡ put_token s (kind.Word word.StaticCast) → s2 ≡ put_token s1 (kind.Mark mark.Less) → s3 ≡ put_all s2 (type_id of) → s4 ≡ put_token s3 (kind.Mark mark.Greater) → s5 ≡ put_token s4 (kind.Mark mark.OpenParen) → e' ≡ e → s6 ≡ put_all s5 (expression e') → s7 ≡ put_token s6 (kind.Mark mark.CloseParen) → s7 ≡ put_all s (expression x)
static_cast_step x of e at e' s s1 s2 s3 s4 s5 s6 s7 is e0 e1 e2 e3 e4 i5 e5 e6 =
    let whole = put_static_cast s of e at in cc

put_operator_new : (s : Printer) (args : List Expression) (at : Span) → put_all s (expression (expr.OperatorNew args at)) ≡ put_all (put_token (put_token (put_token s (kind.Mark mark.Scope)) (kind.Word word.Operator)) (kind.Word word.New)) (in_parentheses (arguments args))
put_operator_new s args at = ap (put_all s) (opening.sentence_operator_new args at) ∙ simp put_append

pub operator_new_step : (x : Expression) (args : List Expression) (at : Span) (args' : List Expression) (s s1 s2 s3 s4 : Printer) → x ≡ expr.OperatorNew args at → s1 ≡ put_token s (kind.Mark mark.Scope) → s2 ≡ put_token s1 (kind.Word word.Operator) → s3 ≡ put_token s2 (kind.Word word.New) → args' ≡ args → s4 ≡ put_all s3 (in_parentheses (arguments args')) → s4 ≡ put_all s (expression x)
operator_new_step x args at args' s s1 s2 s3 s4 is e0 e1 e2 i3 e3 =
    let whole = put_operator_new s args at in cc

put_operator_delete : (s : Printer) (args : List Expression) (at : Span) → put_all s (expression (expr.OperatorDelete args at)) ≡ put_all (put_token (put_token (put_token s (kind.Mark mark.Scope)) (kind.Word word.Operator)) (kind.Word word.Delete)) (in_parentheses (arguments args))
put_operator_delete s args at = ap (put_all s) (opening.sentence_operator_delete args at) ∙ simp put_append

pub operator_delete_step : (x : Expression) (args : List Expression) (at : Span) (args' : List Expression) (s s1 s2 s3 s4 : Printer) → x ≡ expr.OperatorDelete args at → s1 ≡ put_token s (kind.Mark mark.Scope) → s2 ≡ put_token s1 (kind.Word word.Operator) → s3 ≡ put_token s2 (kind.Word word.Delete) → args' ≡ args → s4 ≡ put_all s3 (in_parentheses (arguments args')) → s4 ≡ put_all s (expression x)
operator_delete_step x args at args' s s1 s2 s3 s4 is e0 e1 e2 i3 e3 =
    let whole = put_operator_delete s args at in cc
