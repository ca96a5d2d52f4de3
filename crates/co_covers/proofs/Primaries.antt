-- The rules derive the operators and the primary expressions of a tree.
use Rattle.std.proofs.Common.{◌≡◌, ℕ, ◌≤◌, Bool, true, false, IsFalse, List, [], ◌∷◌, ◌++◌, Option, codes, refl, arith}
use mathlib.Core.Former.{Count}
use Rattle.co_lex.specs.declared.token.TokenKind.TheVariants as kind
use Rattle.co_lex.specs.declared.token.Mark.TheVariants as mark
use Rattle.co_lex.specs.declared.token.Word.TheVariants as word
use Rattle.co_rules.specs.Names.{known, is_class}
use Rattle.co_rules.specs.Terminal.{terminal_of}
use Rattle.co_rules.specs.declared.symbol.Nonterminal.TheVariants as n
use Rattle.co_rules.specs.declared.symbol.Pattern.TheVariants as pattern
use Rattle.co_rules.specs.declared.symbol.Symbol.{Symbol}
use Rattle.co_rules.specs.declared.symbol.Symbol.TheVariants.{Token, One, Maybe, Greedy, Close}
use Rattle.co_rules.specs.declared.symbol.Terminal.{Terminal}
use Rattle.co_rules.specs.declared.symbol.Terminal.TheVariants as terminal
use Rattle.co_rules.specs.Derives.{Derives}
use Rattle.co_rules.specs.Pattern.{admits}
use Rattle.co_tree.specs.declared.expressions.Brackets.{Brackets}
use Rattle.co_tree.specs.declared.expressions.Expression.{Expression, Row_of-Expression}
use Rattle.co_tree.specs.declared.types.Path.{Path}
use Rattle.co_tree.specs.declared.types.SimpleTypeKind.{SimpleTypeKind}
use Rattle.co_tree.specs.declared.types.SimpleTypeKind.TheVariants as simple
use Rattle.co_tree.specs.declared.expressions.AssignmentOperator.{AssignmentOperator}
use Rattle.co_tree.specs.declared.expressions.AssignmentOperator.TheVariants as assign
use Rattle.co_tree.specs.declared.expressions.BinaryOperator.{BinaryOperator}
use Rattle.co_tree.specs.declared.expressions.BinaryOperator.TheVariants as binary
use Rattle.co_tree.specs.declared.expressions.UnaryOperator.{UnaryOperator}
use Rattle.co_tree.specs.declared.expressions.UnaryOperator.TheVariants as unary
use Rattle.co_tree.specs.declared.expressions.StepOperator.{StepOperator}
use Rattle.co_tree.specs.declared.expressions.StepOperator.TheVariants as step
use Rattle.co_tree.specs.declared.expressions.MemberOperator.{MemberOperator}
use Rattle.co_tree.specs.declared.expressions.MemberOperator.TheVariants as access
use Rattle.co_tree.specs.declared.expressions.HandleFunction.{HandleFunction}
use Rattle.co_tree.specs.declared.expressions.HandleFunction.TheVariants.{FromAddress, FromPromise}
use Rattle.co_tree.specs.declared.expressions.StandardFunction.{StandardFunction}
use Rattle.co_tree.specs.declared.expressions.StandardFunction.TheVariants as std_fn
use Rattle.co_tree.specs.declared.expressions.CorunFunction.{CorunFunction}
use Rattle.co_tree.specs.declared.expressions.CorunFunction.TheVariants as corun_fn
use Rattle.co_tree.specs.declared.expressions.Expression.TheVariants as expr
use Rattle.co_tree.specs.Formed.{PlainKind, ClassPathIf, last_of, strength, is_of_type, FormedExpression}
use Rattle.co_tree.specs.Piece.{Piece, opens, leave, w, m, standard, rule}
use Rattle.co_tree.specs.Types.{path_if, handle_name, atomic_argument, simple_kind}
use Rattle.co_tree.specs.Sentence.{assignment_mark, binary_mark, unary_token, step_mark, member_mark, truth, handle_function, standard_name, corun_name, in_brackets, part, global, expression, row_arguments}
use Rattle.co_covers.proofs.Names as names_of
use Rattle.co_covers.proofs.Seen.{seen, both, ruled, by_token, go, skip, shut}
use Rattle.co_covers.proofs.Types.{is_std, handle_at, atomic_at}
use Rattle.co_covers.proofs.Heads.{expression_of}
use Rattle.co_covers.proofs.Operands.{AsPostfix, Covered, RowCovered, bracketed, built, class_operand, handle_operand, OfOperand, Ends, named_operand}
use Rattle.co_covers.proofs.RulesOfExpressions.{unary-unary_operator, unary-new, unary-delete, unary-scope, unary-corun, unary-literal, unary-built_in_type, unary-std, unary-class_name, unary-other_name, global_scope-new, global_scope-delete, library_operand-library_object, library_operand-atomic, library_operand-coroutine_handle, handle_operand-scope}

-- ---- operators

pub is_assignment : (op : AssignmentOperator) → admits pattern.Assignment (terminal.Mark (assignment_mark op)) ≡ true
unfolding admits
is_assignment assign.Assign = refl
is_assignment assign.Add = refl
is_assignment assign.Sub = refl
is_assignment assign.Mul = refl
is_assignment assign.Div = refl
is_assignment assign.Rem = refl
is_assignment assign.And = refl
is_assignment assign.Or = refl
is_assignment assign.Xor = refl
is_assignment assign.Shl = refl
is_assignment assign.Shr = refl

pub no_assignment : (op : AssignmentOperator) → admits pattern.NewMark (terminal.Mark (assignment_mark op)) ≡ false
unfolding admits
no_assignment assign.Assign = refl
no_assignment assign.Add = refl
no_assignment assign.Sub = refl
no_assignment assign.Mul = refl
no_assignment assign.Div = refl
no_assignment assign.Rem = refl
no_assignment assign.And = refl
no_assignment assign.Or = refl
no_assignment assign.Xor = refl
no_assignment assign.Shl = refl
no_assignment assign.Shr = refl

pub is_operator : (op : BinaryOperator) → admits pattern.BinaryOperator (terminal.Mark (binary_mark op)) ≡ true
unfolding admits
is_operator binary.LogicalOr = refl
is_operator binary.LogicalAnd = refl
is_operator binary.Or = refl
is_operator binary.Xor = refl
is_operator binary.And = refl
is_operator binary.Equal = refl
is_operator binary.NotEqual = refl
is_operator binary.Less = refl
is_operator binary.LessEqual = refl
is_operator binary.Greater = refl
is_operator binary.GreaterEqual = refl
is_operator binary.Shl = refl
is_operator binary.Shr = refl
is_operator binary.Add = refl
is_operator binary.Sub = refl
is_operator binary.Mul = refl
is_operator binary.Div = refl
is_operator binary.Rem = refl

pub no_mark : (op : BinaryOperator) → IsFalse (is_of_type op) → admits pattern.NewMark (terminal.Mark (binary_mark op)) ≡ false
unfolding admits
no_mark binary.LogicalOr h = refl
no_mark binary.LogicalAnd h = absurd cc
no_mark binary.Or h = refl
no_mark binary.Xor h = refl
no_mark binary.And h = absurd cc
no_mark binary.Equal h = refl
no_mark binary.NotEqual h = refl
no_mark binary.Less h = refl
no_mark binary.LessEqual h = refl
no_mark binary.Greater h = refl
no_mark binary.GreaterEqual h = refl
no_mark binary.Shl h = refl
no_mark binary.Shr h = refl
no_mark binary.Add h = refl
no_mark binary.Sub h = refl
no_mark binary.Mul h = absurd cc
no_mark binary.Div h = refl
no_mark binary.Rem h = refl

pub least : (op : BinaryOperator) → 1 ≤ strength op
least binary.LogicalOr = omega arith
least binary.LogicalAnd = omega arith
least binary.Or = omega arith
least binary.Xor = omega arith
least binary.And = omega arith
least binary.Equal = omega arith
least binary.NotEqual = omega arith
least binary.Less = omega arith
least binary.LessEqual = omega arith
least binary.Greater = omega arith
least binary.GreaterEqual = omega arith
least binary.Shl = omega arith
least binary.Shr = omega arith
least binary.Add = omega arith
least binary.Sub = omega arith
least binary.Mul = omega arith
least binary.Div = omega arith
least binary.Rem = omega arith

pub most : (op : BinaryOperator) → strength op ≤ 10
most binary.LogicalOr = omega arith
most binary.LogicalAnd = omega arith
most binary.Or = omega arith
most binary.Xor = omega arith
most binary.And = omega arith
most binary.Equal = omega arith
most binary.NotEqual = omega arith
most binary.Less = omega arith
most binary.LessEqual = omega arith
most binary.Greater = omega arith
most binary.GreaterEqual = omega arith
most binary.Shl = omega arith
most binary.Shr = omega arith
most binary.Add = omega arith
most binary.Sub = omega arith
most binary.Mul = omega arith
most binary.Div = omega arith
most binary.Rem = omega arith

pub is_increment : (op : StepOperator) → admits pattern.Increment (terminal.Mark (step_mark op)) ≡ true
unfolding admits
is_increment step.Increment = refl
is_increment step.Decrement = refl

pub is_access : (op : MemberOperator) → admits pattern.Access (terminal.Mark (member_mark op)) ≡ true
unfolding admits
is_access access.Dot = refl
is_access access.Arrow = refl

pub parted : {S : List Symbol} (C : List (List ℕ)) (b : Bool) (ps : List Piece) (ts : List Terminal) → Derives S (seen C ps ts) → Derives S (seen C (part b ps) ts)
parted C true ps ts d = d
parted C false ps ts d = ruled C ps ts d

-- ---- operators before an operand

pub operator_at : {R : List Symbol} (C : List (List ℕ)) (op : UnaryOperator) (ps : List Piece) (ts : List Terminal) → Derives (One n.Unary ∷ Close ∷ R) (seen C ps ts) → Derives (One n.Unary ∷ R) (seen C (unary_token op ∷ ps) ts)
unfolding admits
operator_at C unary.Plus ps ts d = go (unary-unary_operator (terminal_of C (kind.Mark mark.Plus)) refl) d
operator_at C unary.Minus ps ts d = go (unary-unary_operator (terminal_of C (kind.Mark mark.Minus)) refl) d
operator_at C unary.Not ps ts d = go (unary-unary_operator (terminal_of C (kind.Mark mark.Not)) refl) d
operator_at C unary.Complement ps ts d = go (unary-unary_operator (terminal_of C (kind.Mark mark.Tilde)) refl) d
operator_at C unary.Dereference ps ts d = go (unary-unary_operator (terminal_of C (kind.Mark mark.Star)) refl) d
operator_at C unary.AddressOf ps ts d = go (unary-unary_operator (terminal_of C (kind.Mark mark.And)) refl) d
operator_at C unary.Increment ps ts d = go (unary-unary_operator (terminal_of C (kind.Mark mark.Increment)) refl) d
operator_at C unary.Decrement ps ts d = go (unary-unary_operator (terminal_of C (kind.Mark mark.Decrement)) refl) d
operator_at C unary.Await ps ts d = go (unary-unary_operator (terminal_of C (kind.Word word.CoAwait)) refl) d

pub new_at : {R : List Symbol} (C : List (List ℕ)) (is_global : Bool) (ps : List Piece) (ts : List Terminal) → Derives (One n.Base ∷ Greedy n.NewRest pattern.NewMark ∷ Close ∷ R) (seen C ps ts) → Derives (One n.Unary ∷ R) (seen C (global is_global ++ opens ∷ w word.New ∷ ps) ts)
unfolding admits
new_at C true ps ts d = go (unary-scope (terminal_of C (kind.Mark mark.Scope)) refl) (go (global_scope-new (terminal_of C (kind.Word word.New)) refl) d)
new_at C false ps ts d = go (unary-new (terminal_of C (kind.Word word.New)) refl) d

pub delete_at : {R : List Symbol} (C : List (List ℕ)) (is_global : Bool) (ps : List Piece) (ts : List Terminal) → Derives (One n.Unary ∷ Close ∷ R) (seen C ps ts) → Derives (One n.Unary ∷ R) (seen C (global is_global ++ opens ∷ w word.Delete ∷ ps) ts)
unfolding admits
delete_at C true ps ts d = go (unary-scope (terminal_of C (kind.Mark mark.Scope)) refl) (go (global_scope-delete (terminal_of C (kind.Word word.Delete)) refl) d)
delete_at C false ps ts d = go (unary-delete (terminal_of C (kind.Word word.Delete)) refl) d

-- ---- primary expressions

pub truth_at : {R : List Symbol} (C : List (List ℕ)) (value : Bool) (ts : List Terminal) → Derives (Maybe n.Postfix ∷ R) ts → Derives (One n.Unary ∷ R) (seen C (truth value ∷ []) ts)
unfolding admits
truth_at C true ts d = go (unary-literal (terminal_of C (kind.Word word.True)) refl) d
truth_at C false ts d = go (unary-literal (terminal_of C (kind.Word word.False)) refl) d

pub parenthesized : {R : List Symbol} (C : List (List ℕ)) (e : Expression) → Covered C e → (ts : List Terminal) → Derives R ts → Derives (One n.Expression ∷ Token (pattern.Punctuator mark.CloseParen) ∷ Close ∷ R) (seen C (rule (expression e) ++ m mark.CloseParen ∷ leave ∷ []) ts)
unfolding admits
parenthesized {R} C e c ts d =
    both C (rule (expression e)) (m mark.CloseParen ∷ leave ∷ []) ts (ruled C (expression e) (seen C (m mark.CloseParen ∷ leave ∷ []) ts) (c.full n.Expression [] (Token (pattern.Punctuator mark.CloseParen) ∷ Close ∷ R) (seen C (m mark.CloseParen ∷ leave ∷ []) ts) expression_of refl (by_token refl (shut d))))

pub ends_other : {R : List Symbol} {ts : List Terminal} (b : Bool) → (b ≡ true → ⊥) → Derives R ts → Ends R b ts
ends_other true h d = absurd (h refl)
ends_other false h d = skip d

pub ends_class : {R : List Symbol} {ts : List Terminal} (b : Bool) → b ≡ true → Derives (One n.ClassOperand ∷ R) ts → Ends R b ts
ends_class true h d = d
ends_class false h d = absurd cc

pub of_unary_operand : OfOperand n.Unary (Maybe n.Postfix ∷ [])
of_unary_operand = record { class = unary-class_name; outer = unary-other_name }

pub name_at : (C : List (List ℕ)) (p : Path) → FormedExpression C (expr.Name p) → AsPostfix C (expr.Name p)
name_at C p h R ts d = named_operand C n.Unary (Maybe n.Postfix ∷ []) R of_unary_operand p.names ts h.0.0 h.0.1 (ends_other (is_class C (last_of p.names [])) (λ e. h.1 (names_of.contained C (last_of p.names []) e)) d)

pub standard_at : {R : List Symbol} {ts : List Terminal} (C : List (List ℕ)) → Derives (One n.LibraryOperand ∷ Maybe n.Postfix ∷ R) ts → Derives (One n.Unary ∷ R) (terminal_of C (kind.Name (codes "std")) ∷ terminal_of C (kind.Mark mark.Scope) ∷ ts)
unfolding admits
standard_at C d = go (unary-std (terminal_of C (kind.Name (codes "std"))) (is_std C)) (by_token refl d)

pub kind_at : {k : Count} (C : List (List ℕ)) (how : Brackets) (args : Row_of-Expression k) → RowCovered C args → (R : List Symbol) (ts : List Terminal) (of : SimpleTypeKind) → PlainKind C of → Derives (Maybe n.Postfix ∷ R) ts → Derives (One n.Unary ∷ R) (seen C (simple_kind of) (seen C (in_brackets how (row_arguments args)) ts))
unfolding known admits handle_name
kind_at C how args r R ts simple.Void h d = go (unary-built_in_type (terminal_of C (kind.Word word.Void)) refl) (bracketed C n.Built built how args r ts d)
kind_at C how args r R ts simple.Bool h d = go (unary-built_in_type (terminal_of C (kind.Word word.Bool)) refl) (bracketed C n.Built built how args r ts d)
kind_at C how args r R ts simple.Int h d = go (unary-built_in_type (terminal_of C (kind.Word word.Int)) refl) (bracketed C n.Built built how args r ts d)
kind_at C how args r R ts simple.Long h d = go (unary-built_in_type (terminal_of C (kind.Word word.Long)) refl) (bracketed C n.Built built how args r ts d)
kind_at C how args r R ts simple.Auto h d = absurd h
kind_at C how args r R ts simple.Size h d = standard_at C (go (library_operand-library_object (terminal_of C (kind.Name (codes "size_t"))) refl) (bracketed C n.Built built how args r ts d))
kind_at C how args r R ts simple.ExceptionPtr h d = standard_at C (go (library_operand-library_object (terminal_of C (kind.Name (codes "exception_ptr"))) refl) (bracketed C n.Built built how args r ts d))
kind_at C how args r R ts simple.SuspendAlways h d = standard_at C (go (library_operand-library_object (terminal_of C (kind.Name (codes "suspend_always"))) refl) (bracketed C n.Built built how args r ts d))
kind_at C how args r R ts simple.SuspendNever h d = standard_at C (go (library_operand-library_object (terminal_of C (kind.Name (codes "suspend_never"))) refl) (bracketed C n.Built built how args r ts d))
kind_at C how args r R ts (simple.Handle p) h d =
    standard_at C (go (library_operand-coroutine_handle (terminal_of C (kind.Name handle_name)) refl) (handle_at C (One n.HandleOperand ∷ Maybe n.Postfix ∷ R) p (seen C (in_brackets how (row_arguments args)) ts) h (bracketed C n.HandleOperand handle_operand how args r ts d)))
kind_at C how args r R ts (simple.Atomic k) h d =
    ruled C (standard (codes "atomic") ++ m mark.Less ∷ (atomic_argument k ++ m mark.Greater ∷ [])) (seen C (in_brackets how (row_arguments args)) ts) (standard_at C (go (library_operand-atomic (terminal_of C (kind.Name (codes "atomic"))) refl) (by_token refl (atomic_at C (One n.Built ∷ Maybe n.Postfix ∷ R) k (seen C (in_brackets how (row_arguments args)) ts) (bracketed C n.Built built how args r ts d)))))
kind_at C how args r R ts (simple.Class p) h d =
    named_operand C n.Unary (Maybe n.Postfix ∷ []) R of_unary_operand p.names (seen C (in_brackets how (row_arguments args)) ts) h.0.0 h.0.1 (ends_class (is_class C (last_of p.names [])) (names_of.is_in C (last_of p.names []) h.1) (bracketed C n.ClassOperand class_operand how args r ts d))

function_at : {R : List Symbol} (C : List (List ℕ)) (function : HandleFunction) (ts : List Terminal) → Derives R ts → Derives (One n.HandleOperand ∷ R) (seen C (m mark.Scope ∷ handle_function function ∷ []) ts)
unfolding known admits
function_at C FromAddress ts d = go (handle_operand-scope (terminal_of C (kind.Mark mark.Scope)) refl) (by_token refl d)
function_at C FromPromise ts d = go (handle_operand-scope (terminal_of C (kind.Mark mark.Scope)) refl) (by_token refl d)

pub handle_function_at : (C : List (List ℕ)) (p : Option Path) (function : HandleFunction) (R : List Symbol) (ts : List Terminal) → ClassPathIf C p → Derives (Maybe n.Postfix ∷ R) ts → Derives (One n.Unary ∷ R) (seen C (standard handle_name ++ ((m mark.Less ∷ (path_if p ++ m mark.Greater ∷ [])) ++ m mark.Scope ∷ handle_function function ∷ [])) ts)
unfolding known admits handle_name
handle_function_at C p function R ts h d =
    standard_at C (go (library_operand-coroutine_handle (terminal_of C (kind.Name handle_name)) refl) (both C (m mark.Less ∷ (path_if p ++ m mark.Greater ∷ [])) (m mark.Scope ∷ handle_function function ∷ []) ts (handle_at C (One n.HandleOperand ∷ Maybe n.Postfix ∷ R) p (seen C (m mark.Scope ∷ handle_function function ∷ []) ts) h (function_at C function ts d))))

pub is_library : (C : List (List ℕ)) (f : StandardFunction) → admits pattern.LibraryFunction (terminal_of C (kind.Name (standard_name f))) ≡ true
unfolding known admits
is_library C std_fn.Move = refl
is_library C std_fn.Exchange = refl
is_library C std_fn.NoopCoroutine = refl
is_library C std_fn.Terminate = refl
is_library C std_fn.CurrentException = refl
is_library C std_fn.RethrowException = refl

pub is_run : (C : List (List ℕ)) (f : CorunFunction) → admits pattern.RunFunction (terminal_of C (kind.Name (corun_name f))) ≡ true
unfolding known admits
is_run C corun_fn.Print = refl
is_run C corun_fn.Post = refl
is_run C corun_fn.Input = refl
is_run C corun_fn.Inputs = refl

pub corun_at : {R : List Symbol} {ts : List Terminal} (C : List (List ℕ)) → Derives (One n.RunName ∷ Maybe n.Postfix ∷ R) ts → Derives (One n.Unary ∷ R) (terminal_of C (kind.Name (codes "corun")) ∷ terminal_of C (kind.Mark mark.Scope) ∷ ts)
unfolding known admits
corun_at C d = go (unary-corun (terminal_of C (kind.Name (codes "corun"))) refl) (by_token refl d)
