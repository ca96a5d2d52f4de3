-- The rules derive the operands of a tree: the parts of an expression, by what is known of the expressions in them.
use Rattle.std.proofs.Common.{◌≡◌, ◌≢◌, ℕ, zero, suc, ◌≤◌, Bool, true, false, IsTrue, List, [], ◌∷◌, ◌++◌, refl, sym, arith}
use mathlib.Core.Former.{Count}
use Rattle.std.specs.List.{AllByRecursion}
use Rattle.co_lex.specs.declared.token.TokenKind.TheVariants as kind
use Rattle.co_lex.specs.declared.token.Mark.{Mark}
use Rattle.co_lex.specs.declared.token.Mark.TheVariants as mark
use Rattle.co_rules.specs.Names.{is_class}
use Rattle.co_rules.specs.Terminal.{terminal_of}
use Rattle.co_rules.specs.declared.symbol.Nonterminal.{Nonterminal}
use Rattle.co_rules.specs.declared.symbol.Nonterminal.TheVariants as n
use Rattle.co_rules.specs.declared.symbol.Pattern.TheVariants as pattern
use Rattle.co_rules.specs.declared.symbol.Symbol.{Symbol}
use Rattle.co_rules.specs.declared.symbol.Symbol.TheVariants.{Token, One, Maybe, Many, Greedy, Close}
use Rattle.co_rules.specs.declared.symbol.Terminal.{Terminal}
use Rattle.co_rules.specs.Derives.{Begins, Derives, NoneNext, taken, left_out}
use Rattle.co_rules.specs.Pattern.{admits}
use Rattle.co_tree.specs.declared.expressions.Brackets.{Brackets}
use Rattle.co_tree.specs.declared.expressions.Brackets.TheVariants.{Parentheses, Braces}
use Rattle.co_tree.specs.declared.expressions.Expression.{Expression, Row_of-Expression, end_of-Expression, more_of-Expression}
use Rattle.co_tree.specs.Formed.{IsName, last_of, ends_in_new, tightness, HasOne}
use Rattle.co_tree.specs.Piece.{leave, m, name}
use Rattle.co_tree.specs.Types.{names_after, path_names, stars}
use Rattle.co_tree.specs.Sentence.{in_brackets, expression, row_arguments, row_arguments_after}
use Rattle.co_covers.proofs.Names as names_of
use Rattle.co_covers.proofs.Seen.{seen, both, ruled, by_token, go, may, again, skip, enough, shut, maybe}
use Rattle.co_covers.proofs.Heads.{OfExpression, led, expression_of, arguments_of}
use Rattle.co_covers.proofs.RulesOfExpressions.{path-class_name, path-other_name, class_operand-scope, scope-scope, new_rest-star, new_rest-paren, new_rest-brace, built-paren, built-brace, next_argument-comma, class_operand-paren, class_operand-brace, handle_operand-paren, handle_operand-brace}

-- ---- what is known of an expression

-- What follows the type of a `new` is none of its own marks.
abbrev pub Follows : Expression → List Terminal → Type 0
Follows e ts = IsTrue (ends_in_new e) → NoneNext pattern.NewMark ts

abbrev pub AsPostfix : List (List ℕ) → Expression → Type 0
AsPostfix C e = (R : List Symbol) (ts : List Terminal) → Derives (Maybe n.Postfix ∷ R) ts → Derives (One n.Unary ∷ R) (seen C (expression e) ts)

abbrev pub AsUnary : List (List ℕ) → Expression → Type 0
AsUnary C e = (R : List Symbol) (ts : List Terminal) → Follows e ts → Derives R ts → Derives (One n.Unary ∷ R) (seen C (expression e) ts)

abbrev pub AsBinary : List (List ℕ) → Expression → Type 0
AsBinary C e = (R : List Symbol) (ts : List Terminal) → Follows e ts → Derives (Maybe n.Operators ∷ R) ts → Derives (One n.Unary ∷ Maybe n.Operators ∷ R) (seen C (expression e) ts)

abbrev pub AsFull : List (List ℕ) → Expression → Type 0
AsFull C e = (N : Nonterminal) (tail R : List Symbol) (ts : List Terminal) → OfExpression N tail → NoneNext pattern.NewMark ts → Derives (tail ++ R) ts → Derives (One N ∷ R) (seen C (expression e) ts)

pub record Covered (C : List (List ℕ)) (e : Expression) : Type 0 where
  pub postfix : 12 ≤ tightness e → AsPostfix C e
  pub unary : 11 ≤ tightness e → AsUnary C e
  pub binary : 1 ≤ tightness e → AsBinary C e
  pub full : AsFull C e

pub from_postfix : (C : List (List ℕ)) (e : Expression) → AsPostfix C e → Covered C e
from_postfix C e p = record { postfix = λ h. p; unary = λ h R ts f d. p R ts (skip d); binary = λ h R ts f d. p (Maybe n.Operators ∷ R) ts (skip d); full = λ N tail R ts o f d. led o (p (Maybe n.Operators ∷ Maybe n.ExpressionRest ∷ tail ++ R) ts (skip (skip (skip d)))) }

pub from_unary : (C : List (List ℕ)) (e : Expression) → (12 ≤ tightness e → ⊥) → AsUnary C e → Covered C e
from_unary C e l p = record { postfix = λ h. absurd (l h); unary = λ h. p; binary = λ h R ts f d. p (Maybe n.Operators ∷ R) ts f d; full = λ N tail R ts o f d. led o (p (Maybe n.Operators ∷ Maybe n.ExpressionRest ∷ tail ++ R) ts (λ h. f) (skip (skip d))) }

pub from_binary : (C : List (List ℕ)) (e : Expression) → (11 ≤ tightness e → ⊥) → AsBinary C e → Covered C e
from_binary C e l p = record { postfix = λ h. absurd (l (omega (arith, h))); unary = λ h. absurd (l h); binary = λ h. p; full = λ N tail R ts o f d. led o (p (Maybe n.ExpressionRest ∷ tail ++ R) ts (λ h. f) (skip (skip d))) }

pub from_full : (C : List (List ℕ)) (e : Expression) → (1 ≤ tightness e → ⊥) → AsFull C e → Covered C e
from_full C e l p = record { postfix = λ h. absurd (l (omega (arith, h))); unary = λ h. absurd (l (omega (arith, h))); binary = λ h. absurd (l h); full = p }

-- ---- arguments

pub record RowCovered {k : Count} (C : List (List ℕ)) (row : Row_of-Expression k) : Type 0 where
  pub next : (ts : List Terminal) → NoneNext pattern.NewMark ts → NoneNext pattern.NewMark (seen C (row_arguments_after row) ts)
  pub after : (R : List Symbol) (ts : List Terminal) → NoneNext pattern.NewMark ts → Derives R ts → Derives (Many n.NextArgument ∷ R) (seen C (row_arguments_after row) ts)
  pub all : (R : List Symbol) (ts : List Terminal) → NoneNext pattern.NewMark ts → Derives R ts → Derives (Maybe n.Arguments ∷ R) (seen C (row_arguments row) ts)
  pub some : HasOne row → (R : List Symbol) (ts : List Terminal) → NoneNext pattern.NewMark ts → Derives R ts → Derives (One n.Arguments ∷ R) (seen C (row_arguments row) ts)

pub no_arguments : (C : List (List ℕ)) → RowCovered C end_of-Expression
no_arguments C = record { next = λ ts f. f; after = λ R ts f d. enough d; all = λ R ts f d. skip d; some = λ h. absurd h }

pub more_arguments : (C : List (List ℕ)) (k : Count) (e : Expression) (rest : Row_of-Expression k) → Covered C e → RowCovered C rest → RowCovered C (more_of-Expression e rest)
unfolding admits
more_arguments C k e rest c r = record { next = λ ts f. refl; after = after; all = λ R ts f d. maybe (first R ts f d); some = λ h. first }
  where
    first : (R : List Symbol) (ts : List Terminal) → NoneNext pattern.NewMark ts → Derives R ts → Derives (One n.Arguments ∷ R) (seen C (row_arguments (more_of-Expression e rest)) ts)
    first R ts f d =
        both C (expression e ++ leave ∷ []) (row_arguments_after rest) ts (ruled C (expression e) (seen C (row_arguments_after rest) ts) (c.full n.Arguments (Many n.NextArgument ∷ []) R (seen C (row_arguments_after rest) ts) arguments_of (r.next ts f) (r.after R ts f d)))

    after : (R : List Symbol) (ts : List Terminal) → NoneNext pattern.NewMark ts → Derives R ts → Derives (Many n.NextArgument ∷ R) (seen C (row_arguments_after (more_of-Expression e rest)) ts)
    after R ts f d =
        again (next_argument-comma (terminal_of C (kind.Mark mark.Comma)) refl) (both C (expression e ++ leave ∷ []) (row_arguments_after rest) ts (ruled C (expression e) (seen C (row_arguments_after rest) ts) (c.full n.Expression [] (Many n.NextArgument ∷ R) (seen C (row_arguments_after rest) ts) expression_of (r.next ts f) (r.after R ts f d))))

-- arguments and the mark that closes them
pub inside : {k : Count} {R : List Symbol} (C : List (List ℕ)) (row : Row_of-Expression k) → RowCovered C row → (x : Mark) (ts : List Terminal) → admits pattern.NewMark (terminal_of C (kind.Mark x)) ≡ false → admits (pattern.Punctuator x) (terminal_of C (kind.Mark x)) ≡ true → Derives R ts → Derives (Maybe n.Arguments ∷ Token (pattern.Punctuator x) ∷ R) (seen C (row_arguments row ++ m x ∷ leave ∷ []) ts)
inside {k} {R} C row r x ts f h d = both C (row_arguments row) (m x ∷ leave ∷ []) ts (r.all (Token (pattern.Punctuator x) ∷ R) (seen C (m x ∷ leave ∷ []) ts) f (by_token h d))

-- A nonterminal that brackets begin, with what stands behind them in its rules.
pub record OfBrackets (N : Nonterminal) : Type 0 where
  pub paren : (t : Terminal) → admits (pattern.Punctuator mark.OpenParen) t ≡ true → Begins N t (Maybe n.Arguments ∷ Token (pattern.Punctuator mark.CloseParen) ∷ Close ∷ [])
  pub brace : (t : Terminal) → admits (pattern.Punctuator mark.OpenBrace) t ≡ true → Begins N t (Maybe n.Arguments ∷ Token (pattern.Punctuator mark.CloseBrace) ∷ Close ∷ [])

pub bracketed : {k : Count} {R : List Symbol} (C : List (List ℕ)) (N : Nonterminal) → OfBrackets N → (how : Brackets) (row : Row_of-Expression k) → RowCovered C row → (ts : List Terminal) → Derives R ts → Derives (One N ∷ R) (seen C (in_brackets how (row_arguments row)) ts)
unfolding admits
bracketed C N o Parentheses row r ts d = go (o.paren (terminal_of C (kind.Mark mark.OpenParen)) refl) (inside C row r mark.CloseParen ts refl refl (shut d))
bracketed C N o Braces row r ts d = go (o.brace (terminal_of C (kind.Mark mark.OpenBrace)) refl) (inside C row r mark.CloseBrace ts refl refl (shut d))

pub built : OfBrackets n.Built
built = record { paren = built-paren; brace = built-brace }

pub class_operand : OfBrackets n.ClassOperand
class_operand = record { paren = class_operand-paren; brace = class_operand-brace }

pub handle_operand : OfBrackets n.HandleOperand
handle_operand = record { paren = handle_operand-paren; brace = handle_operand-brace }

-- ---- `new`

pub stars_of_new : (C : List (List ℕ)) (R : List Symbol) (count : ℕ) (ts : List Terminal) → NoneNext pattern.NewMark ts → Derives R ts → Derives (Greedy n.NewRest pattern.NewMark ∷ R) (seen C (stars count) ts)
unfolding admits
stars_of_new C R zero ts f d = left_out n.NewRest pattern.NewMark R ts f d
stars_of_new C R (suc count) ts f d = taken n.NewRest pattern.NewMark R (Greedy n.NewRest pattern.NewMark ∷ Close ∷ []) (terminal_of C (kind.Mark mark.Star)) (seen C (stars count) ts) (new_rest-star (terminal_of C (kind.Mark mark.Star)) refl) (stars_of_new C (Close ∷ R) count ts f (shut d))

pub brackets_of_new : {k : Count} (C : List (List ℕ)) (R : List Symbol) (how : Brackets) (row : Row_of-Expression k) → RowCovered C row → (ts : List Terminal) → Derives R ts → Derives (Greedy n.NewRest pattern.NewMark ∷ R) (seen C (in_brackets how (row_arguments row)) ts)
unfolding admits
brackets_of_new C R Parentheses row r ts d = taken n.NewRest pattern.NewMark R _ _ _ (new_rest-paren (terminal_of C (kind.Mark mark.OpenParen)) refl) (inside C row r mark.CloseParen ts refl refl (shut d))
brackets_of_new C R Braces row r ts d = taken n.NewRest pattern.NewMark R _ _ _ (new_rest-brace (terminal_of C (kind.Mark mark.OpenBrace)) refl) (inside C row r mark.CloseBrace ts refl refl (shut d))

pub rest_of_new : {k : Count} (C : List (List ℕ)) (R : List Symbol) (count : ℕ) (how : Brackets) (row : Row_of-Expression k) → RowCovered C row → (ts : List Terminal) → Derives R ts → Derives (Greedy n.NewRest pattern.NewMark ∷ R) (seen C (stars count) (seen C (in_brackets how (row_arguments row)) ts))
unfolding admits
rest_of_new C R zero how row r ts d = brackets_of_new C R how row r ts d
rest_of_new C R (suc count) how row r ts d = taken n.NewRest pattern.NewMark R (Greedy n.NewRest pattern.NewMark ∷ Close ∷ []) (terminal_of C (kind.Mark mark.Star)) _ (new_rest-star (terminal_of C (kind.Mark mark.Star)) refl) (rest_of_new C (Close ∷ R) count how row r ts (shut d))

-- ---- paths as operands

-- A nonterminal that the path of an operand begins.
pub record OfOperand (N : Nonterminal) (tail : List Symbol) : Type 0 where
  pub class : (t : Terminal) → admits pattern.ClassName t ≡ true → Begins N t (One n.ClassOperand ∷ tail)
  pub outer : (t : Terminal) → admits pattern.OtherName t ≡ true → Begins N t (Maybe n.Scope ∷ tail)

path : OfOperand n.Path []
path = record { class = path-class_name; outer = path-other_name }

-- what follows a path whose last name is of a class, or of none
abbrev pub Ends : List Symbol → Bool → List Terminal → Type 0
Ends R true ts = Derives (One n.ClassOperand ∷ R) ts
Ends R false ts = Derives (Maybe n.Scope ∷ R) ts

pub operand_at : (C : List (List ℕ)) (N : Nonterminal) (tail R : List Symbol) → OfOperand N tail → (x : List ℕ) (xs : List (List ℕ)) (ts : List Terminal) → IsName x → AllByRecursion IsName xs → Ends (tail ++ R) (is_class C (last_of xs x)) ts → Derives (One N ∷ R) (seen C (name x ∷ names_after xs) ts)
unfolding admits
operand_at C N tail R o x [] ts h hs c = by_class (is_class C x) refl c
  where
    by_class : (b : Bool) → b ≡ is_class C x → Ends (tail ++ R) b ts → Derives (One N ∷ R) (seen C (name x ∷ []) ts)
    by_class true e d = go (o.class (terminal_of C (kind.Name x)) (names_of.class_name C x h (sym e))) d
    by_class false e d = go (o.outer (terminal_of C (kind.Name x)) (names_of.other_name C x h (sym e))) d
operand_at C N tail R o x (y ∷ ys) ts h hs c = by_class (is_class C x) refl (operand_at C n.Path [] (tail ++ R) path y ys ts hs.0 hs.1 c)
  where
    by_class : (b : Bool) → b ≡ is_class C x → Derives (One n.Path ∷ tail ++ R) (seen C (name y ∷ names_after ys) ts) → Derives (One N ∷ R) (seen C (name x ∷ names_after (y ∷ ys)) ts)
    by_class true e p = go (o.class (terminal_of C (kind.Name x)) (names_of.class_name C x h (sym e))) (go (class_operand-scope (terminal_of C (kind.Mark mark.Scope)) refl) p)
    by_class false e p = go (o.outer (terminal_of C (kind.Name x)) (names_of.other_name C x h (sym e))) (may (scope-scope (terminal_of C (kind.Mark mark.Scope)) refl) p)

pub named_operand : (C : List (List ℕ)) (N : Nonterminal) (tail R : List Symbol) → OfOperand N tail → (xs : List (List ℕ)) (ts : List Terminal) → xs ≢ [] → AllByRecursion IsName xs → Ends (tail ++ R) (is_class C (last_of xs [])) ts → Derives (One N ∷ R) (seen C (path_names xs) ts)
named_operand C N tail R o [] ts e h c = absurd (e refl)
named_operand C N tail R o (x ∷ xs) ts e h c = operand_at C N tail R o x xs ts h.0 h.1 c
