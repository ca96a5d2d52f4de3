-- Which operator, literal or type a token of a set is.
use Rattle.std.proofs.Common.{◌≡◌, ℕ, true, false, List, [], ◌∷◌, Option, Some, refl, sym}
use Rattle.co_base.specs.declared.span.Span.{Span}
use Rattle.co_lex.specs.declared.token.Token.{Token}
use Rattle.co_lex.specs.declared.token.TokenKind.{TokenKind}
use Rattle.co_lex.specs.declared.token.TokenKind.TheVariants as kind
use Rattle.co_lex.specs.declared.token.Mark.TheVariants as mark
use Rattle.co_lex.specs.declared.token.Word.TheVariants as word
use Rattle.co_rules.specs.declared.symbol.Pattern.TheVariants as pattern
use Rattle.co_rules.specs.declared.symbol.Symbol.{Symbol}
use Rattle.co_rules.specs.declared.symbol.Symbol.TheVariants.{Token as Terminal}
use Rattle.co_rules.specs.Pattern.{admits}
use Rattle.co_rules.specs.Terminal.{terminal_of}
use Rattle.co_rules.proofs.Sets.{never}
use Rattle.co_tree.specs.declared.expressions.AssignmentOperator.TheVariants as assign
use Rattle.co_tree.specs.declared.expressions.BinaryOperator.TheVariants as binary
use Rattle.co_tree.specs.declared.expressions.UnaryOperator.TheVariants as unary
use Rattle.co_tree.specs.declared.expressions.StepOperator.TheVariants as step
use Rattle.co_tree.specs.declared.expressions.MemberOperator.TheVariants as access
use Rattle.co_tree.specs.declared.types.SimpleTypeKind.{SimpleTypeKind}
use Rattle.co_tree.specs.declared.types.SimpleTypeKind.TheVariants as simple
use Rattle.co_tree.specs.Piece.{Piece, token, m}
use Rattle.co_tree.specs.Sentence.{assignment_mark, binary_mark, unary_token, step_mark, member_mark}
use Rattle.co_tree.specs.Types.{simple_kind}
use Rattle.co_tree.specs.Formed.{PlainKind}
use Rattle.co_reader.specs.declared.lead.Lead.{Lead}
use Rattle.co_reader.specs.Reading.{lead_of}
use Rattle.co_reader.specs.Leads.{builtin, unary_operator, binary_operator, assignment_operator, step_operator, member_operator, is_reference}
use Rattle.co_reads.specs.Runs.{Runs, token as read_token}

-- ---- operators

-- the token is an operator that is found by it
pub data IsOperator {O : Type 0} (find : Lead → Option O) (spell : O → Piece) : TokenKind → Type 0 where
  is_operator : (op : O) (k : TokenKind) → find (lead_of k) ≡ Some op → spell op ≡ token k → IsOperator find spell k

-- such a token comes next
pub data OperatorNext {O : Type 0} (find : Lead → Option O) (spell : O → Piece) (C : List (List ℕ)) (R : List Symbol) : List Token → Type 0 where
  operator_next : (op : O) (k : TokenKind) (at : Span) (ts : List Token) → find (lead_of k) ≡ Some op → spell op ≡ token k → Runs C R ts → OperatorNext find spell C R (record { kind = k; span = at } ∷ ts)

next : {O : Type 0} {find : Lead → Option O} {spell : O → Piece} {C : List (List ℕ)} {R : List Symbol} {k : TokenKind} (at : Span) (ts : List Token) → IsOperator find spell k → Runs C R ts → OperatorNext find spell C R (record { kind = k; span = at } ∷ ts)
next at ts (is_operator op k f s) r = operator_next op k at ts f s r

unary_kind : (C : List (List ℕ)) (k : TokenKind) → admits pattern.UnaryOperator (terminal_of C k) ≡ true → IsOperator unary_operator unary_token k
unfolding admits
unary_kind C (kind.Mark mark.Plus) h = is_operator unary.Plus (kind.Mark mark.Plus) refl refl
unary_kind C (kind.Mark mark.Minus) h = is_operator unary.Minus (kind.Mark mark.Minus) refl refl
unary_kind C (kind.Mark mark.Not) h = is_operator unary.Not (kind.Mark mark.Not) refl refl
unary_kind C (kind.Mark mark.Tilde) h = is_operator unary.Complement (kind.Mark mark.Tilde) refl refl
unary_kind C (kind.Mark mark.Star) h = is_operator unary.Dereference (kind.Mark mark.Star) refl refl
unary_kind C (kind.Mark mark.And) h = is_operator unary.AddressOf (kind.Mark mark.And) refl refl
unary_kind C (kind.Mark mark.Increment) h = is_operator unary.Increment (kind.Mark mark.Increment) refl refl
unary_kind C (kind.Mark mark.Decrement) h = is_operator unary.Decrement (kind.Mark mark.Decrement) refl refl
unary_kind C (kind.Word word.CoAwait) h = is_operator unary.Await (kind.Word word.CoAwait) refl refl
unary_kind C k h = never h

pub unary_first : {C : List (List ℕ)} {R : List Symbol} {ts : List Token} → Runs C (Terminal pattern.UnaryOperator ∷ R) ts → OperatorNext unary_operator unary_token C R ts
unary_first {C} (read_token p R t ts a few r) = next t.span ts (unary_kind C t.kind a) r

binary_kind : (C : List (List ℕ)) (k : TokenKind) → admits pattern.BinaryOperator (terminal_of C k) ≡ true → IsOperator binary_operator (λ op. m (binary_mark op)) k
unfolding admits
binary_kind C (kind.Mark mark.OrOr) h = is_operator binary.LogicalOr (kind.Mark mark.OrOr) refl refl
binary_kind C (kind.Mark mark.AndAnd) h = is_operator binary.LogicalAnd (kind.Mark mark.AndAnd) refl refl
binary_kind C (kind.Mark mark.Or) h = is_operator binary.Or (kind.Mark mark.Or) refl refl
binary_kind C (kind.Mark mark.Xor) h = is_operator binary.Xor (kind.Mark mark.Xor) refl refl
binary_kind C (kind.Mark mark.And) h = is_operator binary.And (kind.Mark mark.And) refl refl
binary_kind C (kind.Mark mark.Equal) h = is_operator binary.Equal (kind.Mark mark.Equal) refl refl
binary_kind C (kind.Mark mark.NotEqual) h = is_operator binary.NotEqual (kind.Mark mark.NotEqual) refl refl
binary_kind C (kind.Mark mark.Less) h = is_operator binary.Less (kind.Mark mark.Less) refl refl
binary_kind C (kind.Mark mark.LessEqual) h = is_operator binary.LessEqual (kind.Mark mark.LessEqual) refl refl
binary_kind C (kind.Mark mark.Greater) h = is_operator binary.Greater (kind.Mark mark.Greater) refl refl
binary_kind C (kind.Mark mark.GreaterEqual) h = is_operator binary.GreaterEqual (kind.Mark mark.GreaterEqual) refl refl
binary_kind C (kind.Mark mark.Shl) h = is_operator binary.Shl (kind.Mark mark.Shl) refl refl
binary_kind C (kind.Mark mark.Shr) h = is_operator binary.Shr (kind.Mark mark.Shr) refl refl
binary_kind C (kind.Mark mark.Plus) h = is_operator binary.Add (kind.Mark mark.Plus) refl refl
binary_kind C (kind.Mark mark.Minus) h = is_operator binary.Sub (kind.Mark mark.Minus) refl refl
binary_kind C (kind.Mark mark.Star) h = is_operator binary.Mul (kind.Mark mark.Star) refl refl
binary_kind C (kind.Mark mark.Slash) h = is_operator binary.Div (kind.Mark mark.Slash) refl refl
binary_kind C (kind.Mark mark.Percent) h = is_operator binary.Rem (kind.Mark mark.Percent) refl refl
binary_kind C k h = never h

pub binary_first : {C : List (List ℕ)} {R : List Symbol} {ts : List Token} → Runs C (Terminal pattern.BinaryOperator ∷ R) ts → OperatorNext binary_operator (λ op. m (binary_mark op)) C R ts
binary_first {C} (read_token p R t ts a few r) = next t.span ts (binary_kind C t.kind a) r

assignment_kind : (C : List (List ℕ)) (k : TokenKind) → admits pattern.Assignment (terminal_of C k) ≡ true → IsOperator assignment_operator (λ op. m (assignment_mark op)) k
unfolding admits
assignment_kind C (kind.Mark mark.Assign) h = is_operator assign.Assign (kind.Mark mark.Assign) refl refl
assignment_kind C (kind.Mark mark.AddAssign) h = is_operator assign.Add (kind.Mark mark.AddAssign) refl refl
assignment_kind C (kind.Mark mark.SubAssign) h = is_operator assign.Sub (kind.Mark mark.SubAssign) refl refl
assignment_kind C (kind.Mark mark.MulAssign) h = is_operator assign.Mul (kind.Mark mark.MulAssign) refl refl
assignment_kind C (kind.Mark mark.DivAssign) h = is_operator assign.Div (kind.Mark mark.DivAssign) refl refl
assignment_kind C (kind.Mark mark.RemAssign) h = is_operator assign.Rem (kind.Mark mark.RemAssign) refl refl
assignment_kind C (kind.Mark mark.AndAssign) h = is_operator assign.And (kind.Mark mark.AndAssign) refl refl
assignment_kind C (kind.Mark mark.OrAssign) h = is_operator assign.Or (kind.Mark mark.OrAssign) refl refl
assignment_kind C (kind.Mark mark.XorAssign) h = is_operator assign.Xor (kind.Mark mark.XorAssign) refl refl
assignment_kind C (kind.Mark mark.ShlAssign) h = is_operator assign.Shl (kind.Mark mark.ShlAssign) refl refl
assignment_kind C (kind.Mark mark.ShrAssign) h = is_operator assign.Shr (kind.Mark mark.ShrAssign) refl refl
assignment_kind C k h = never h

pub assignment_first : {C : List (List ℕ)} {R : List Symbol} {ts : List Token} → Runs C (Terminal pattern.Assignment ∷ R) ts → OperatorNext assignment_operator (λ op. m (assignment_mark op)) C R ts
assignment_first {C} (read_token p R t ts a few r) = next t.span ts (assignment_kind C t.kind a) r

step_kind : (C : List (List ℕ)) (k : TokenKind) → admits pattern.Increment (terminal_of C k) ≡ true → IsOperator step_operator (λ op. m (step_mark op)) k
unfolding admits
step_kind C (kind.Mark mark.Increment) h = is_operator step.Increment (kind.Mark mark.Increment) refl refl
step_kind C (kind.Mark mark.Decrement) h = is_operator step.Decrement (kind.Mark mark.Decrement) refl refl
step_kind C k h = never h

pub step_first : {C : List (List ℕ)} {R : List Symbol} {ts : List Token} → Runs C (Terminal pattern.Increment ∷ R) ts → OperatorNext step_operator (λ op. m (step_mark op)) C R ts
step_first {C} (read_token p R t ts a few r) = next t.span ts (step_kind C t.kind a) r

member_kind : (C : List (List ℕ)) (k : TokenKind) → admits pattern.Access (terminal_of C k) ≡ true → IsOperator member_operator (λ op. m (member_mark op)) k
unfolding admits
member_kind C (kind.Mark mark.Dot) h = is_operator access.Dot (kind.Mark mark.Dot) refl refl
member_kind C (kind.Mark mark.Arrow) h = is_operator access.Arrow (kind.Mark mark.Arrow) refl refl
member_kind C k h = never h

pub member_first : {C : List (List ℕ)} {R : List Symbol} {ts : List Token} → Runs C (Terminal pattern.Access ∷ R) ts → OperatorNext member_operator (λ op. m (member_mark op)) C R ts
member_first {C} (read_token p R t ts a few r) = next t.span ts (member_kind C t.kind a) r

-- ---- references and built-in types

-- `&` or `&&` comes next
pub data ReferenceNext (C : List (List ℕ)) (R : List Symbol) : List Token → Type 0 where
  lvalue : (at : Span) (ts : List Token) → Runs C R ts → ReferenceNext C R (record { kind = kind.Mark mark.And; span = at } ∷ ts)
  rvalue : (at : Span) (ts : List Token) → Runs C R ts → ReferenceNext C R (record { kind = kind.Mark mark.AndAnd; span = at } ∷ ts)

reference_next : (C : List (List ℕ)) (R : List Symbol) (k : TokenKind) (at : Span) (ts : List Token) → admits pattern.ReferenceMark (terminal_of C k) ≡ true → Runs C R ts → ReferenceNext C R (record { kind = k; span = at } ∷ ts)
unfolding admits
reference_next C R (kind.Mark mark.And) at ts h r = lvalue at ts r
reference_next C R (kind.Mark mark.AndAnd) at ts h r = rvalue at ts r
reference_next C R k at ts h r = never h

pub reference_first : {C : List (List ℕ)} {R : List Symbol} {ts : List Token} → Runs C (Terminal pattern.ReferenceMark ∷ R) ts → ReferenceNext C R ts
reference_first {C} (read_token p R t ts a few r) = reference_next C R t.kind t.span ts a r

-- a token that is neither
pub no_reference : (C : List (List ℕ)) (k : TokenKind) → admits pattern.ReferenceMark (terminal_of C k) ≡ false → is_reference (lead_of k) ≡ false
unfolding admits
no_reference C (kind.Mark mark.And) h = never (sym h)
no_reference C (kind.Mark mark.AndAnd) h = never (sym h)
no_reference C k h = refl

-- a built-in type comes next
pub data BuiltinNext (C : List (List ℕ)) (R : List Symbol) : List Token → Type 0 where
  builtin_next : (of : SimpleTypeKind) (k : TokenKind) (at : Span) (ts : List Token) → builtin (lead_of k) ≡ Some of → simple_kind of ≡ token k ∷ [] → ((D : List (List ℕ)) → PlainKind D of) → Runs C R ts
      → BuiltinNext C R (record { kind = k; span = at } ∷ ts)

builtin_kind : (C : List (List ℕ)) (R : List Symbol) (k : TokenKind) (at : Span) (ts : List Token) → admits pattern.BuiltinType (terminal_of C k) ≡ true → Runs C R ts → BuiltinNext C R (record { kind = k; span = at } ∷ ts)
unfolding admits
builtin_kind C R (kind.Word word.Void) at ts h r = builtin_next simple.Void (kind.Word word.Void) at ts refl refl (λ D. tt) r
builtin_kind C R (kind.Word word.Bool) at ts h r = builtin_next simple.Bool (kind.Word word.Bool) at ts refl refl (λ D. tt) r
builtin_kind C R (kind.Word word.Int) at ts h r = builtin_next simple.Int (kind.Word word.Int) at ts refl refl (λ D. tt) r
builtin_kind C R (kind.Word word.Long) at ts h r = builtin_next simple.Long (kind.Word word.Long) at ts refl refl (λ D. tt) r
builtin_kind C R k at ts h r = never h

pub builtin_first : {C : List (List ℕ)} {R : List Symbol} {ts : List Token} → Runs C (Terminal pattern.BuiltinType ∷ R) ts → BuiltinNext C R ts
builtin_first {C} (read_token p R t ts a few r) = builtin_kind C R t.kind t.span ts a r
