-- Statements of an expression that begin with a path or a type, and first arguments that begin with a path.
use Rattle.std.proofs.Common.{◌≡◌, ◌≢◌, ℕ, ◌<◌, Bool, true, false, List, [], ◌∷◌, ◌++◌, codes, refl, sym, arith}
use mathlib.Core.Former.{Count}
use Rattle.std.specs.List.{AllByRecursion}
use Rattle.co_lex.specs.declared.token.TokenKind.TheVariants as kind
use Rattle.co_lex.specs.declared.token.Mark.TheVariants as mark
use Rattle.co_lex.specs.declared.token.Word.TheVariants as word
use Rattle.co_rules.specs.Names.{known, is_class}
use Rattle.co_rules.specs.Terminal.{terminal_of}
use Rattle.co_rules.specs.declared.symbol.Known.TheVariants as known_name
use Rattle.co_rules.specs.declared.symbol.Nonterminal.{Nonterminal}
use Rattle.co_rules.specs.declared.symbol.Nonterminal.TheVariants as n
use Rattle.co_rules.specs.declared.symbol.Pattern.TheVariants as pattern
use Rattle.co_rules.specs.declared.symbol.Symbol.{Symbol}
use Rattle.co_rules.specs.declared.symbol.Symbol.TheVariants.{Token, One, Maybe, Close}
use Rattle.co_rules.specs.declared.symbol.Terminal.{Terminal}
use Rattle.co_rules.specs.Derives.{Begins, Derives, NoneNext}
use Rattle.co_rules.specs.Pattern.{admits}
use Rattle.co_tree.specs.declared.expressions.Brackets.{Brackets}
use Rattle.co_tree.specs.declared.expressions.Brackets.TheVariants.{Parentheses, Braces}
use Rattle.co_tree.specs.declared.expressions.Expression.{Expression, Row_of-Expression}
use Rattle.co_tree.specs.declared.types.SimpleTypeKind.{SimpleTypeKind}
use Rattle.co_tree.specs.declared.types.SimpleTypeKind.TheVariants as simple
use Rattle.co_tree.specs.declared.expressions.HandleFunction.{HandleFunction}
use Rattle.co_tree.specs.declared.expressions.HandleFunction.TheVariants.{FromAddress, FromPromise}
use Rattle.co_tree.specs.declared.expressions.Expression.TheVariants as expr
use Rattle.co_tree.specs.Formed.{first_of, IsName, PlainKind, last_of, tightness, FormedExpression, BeginsWithClassCall, is_class_call, is_led_by_class}
use Rattle.co_tree.specs.Piece.{m, name, standard}
use Rattle.co_tree.specs.Types.{path_if, handle_name, atomic_argument, simple_kind, simple_type, names_after, path_names}
use Rattle.co_tree.specs.Sentence.{handle_function, standard_name, in_brackets, expression, row_arguments}
use Rattle.co_covers.proofs.Names as names_of
use Rattle.co_covers.proofs.Seen.{seen, both, ruled, by_token, go, may, shut}
use Rattle.co_covers.proofs.Types.{is_std, handle_at, atomic_at}
use Rattle.co_covers.proofs.Operands.{RowCovered, inside}
use Rattle.co_covers.proofs.Primaries.{is_library}
use Rattle.co_covers.proofs.Expressions.{row_covered}
use Rattle.co_covers.proofs.Leftmost.{led_by}
use Rattle.co_covers.proofs.Plain.{OfPlain, after_other}
use Rattle.co_covers.proofs.Firsts.{is_other, plain_at}
use Rattle.co_covers.proofs.RulesOfStatements.{statement-built_in_type, statement-std, statement-class_name, statement-other_name, for_init-built_in_type, for_init-std, for_init-class_name, for_init-other_name, after_builtin-paren, after_builtin-brace, after_class-scope, after_class-brace, after_handle-scope, after_handle-paren, after_handle-brace, library_statement-library_function, library_statement-library_object, library_statement-atomic, library_statement-coroutine_handle, statement_path-class_name, statement_path-other_name, after_other-scope}

abbrev pub Behind : List Symbol → List Symbol
Behind R = Maybe n.Postfix ∷ Maybe n.Operators ∷ Maybe n.ExpressionRest ∷ R

-- ---- paths where a statement begins

-- A nonterminal that a path begins where it may be that of a type.
pub record OfStatementPath (N : Nonterminal) (tail : List Symbol) : Type 0 where
  pub class : (t : Terminal) → admits pattern.ClassName t ≡ true → Begins N t (One n.AfterClass ∷ tail)
  pub outer : (t : Terminal) → admits pattern.OtherName t ≡ true → Begins N t (Maybe n.AfterOther ∷ tail)

statement_path : OfStatementPath n.StatementPath []
statement_path = record { class = statement_path-class_name; outer = statement_path-other_name }

-- what follows a path whose last name is of a class, or of none
abbrev pub After : List Symbol → Bool → List Terminal → Type 0
After R true ts = Derives (One n.AfterClass ∷ R) ts
After R false ts = Derives (Maybe n.AfterOther ∷ R) ts

pub statement_path_at : (C : List (List ℕ)) (N : Nonterminal) (tail R : List Symbol) → OfStatementPath N tail → (x : List ℕ) (xs : List (List ℕ)) (ts : List Terminal) → IsName x → AllByRecursion IsName xs → After (tail ++ R) (is_class C (last_of xs x)) ts → Derives (One N ∷ R) (seen C (name x ∷ names_after xs) ts)
unfolding admits
statement_path_at C N tail R o x [] ts h hs c = by_class (is_class C x) refl c
  where
    by_class : (b : Bool) → b ≡ is_class C x → After (tail ++ R) b ts → Derives (One N ∷ R) (seen C (name x ∷ []) ts)
    by_class true e d = go (o.class (terminal_of C (kind.Name x)) (names_of.class_name C x h (sym e))) d
    by_class false e d = go (o.outer (terminal_of C (kind.Name x)) (names_of.other_name C x h (sym e))) d
statement_path_at C N tail R o x (y ∷ ys) ts h hs c = by_class (is_class C x) refl (statement_path_at C n.StatementPath [] (tail ++ R) statement_path y ys ts hs.0 hs.1 c)
  where
    by_class : (b : Bool) → b ≡ is_class C x → Derives (One n.StatementPath ∷ tail ++ R) (seen C (name y ∷ names_after ys) ts) → Derives (One N ∷ R) (seen C (name x ∷ names_after (y ∷ ys)) ts)
    by_class true e p = go (o.class (terminal_of C (kind.Name x)) (names_of.class_name C x h (sym e))) (go (after_class-scope (terminal_of C (kind.Mark mark.Scope)) refl) p)
    by_class false e p = go (o.outer (terminal_of C (kind.Name x)) (names_of.other_name C x h (sym e))) (may (after_other-scope (terminal_of C (kind.Mark mark.Scope)) refl) p)

pub named_statement_path : (C : List (List ℕ)) (N : Nonterminal) (tail R : List Symbol) → OfStatementPath N tail → (xs : List (List ℕ)) (ts : List Terminal) → xs ≢ [] → AllByRecursion IsName xs → After (tail ++ R) (is_class C (last_of xs [])) ts → Derives (One N ∷ R) (seen C (path_names xs) ts)
named_statement_path C N tail R o [] ts e h c = absurd (e refl)
named_statement_path C N tail R o (x ∷ xs) ts e h c = statement_path_at C N tail R o x xs ts h.0 h.1 c

pub after_class_path : {R : List Symbol} {ts : List Terminal} (b : Bool) → b ≡ true → Derives (One n.AfterClass ∷ R) ts → After R b ts
after_class_path true h d = d
after_class_path false h d = absurd cc

pub after_other_path : {R : List Symbol} {ts : List Terminal} (b : Bool) → (b ≡ true → ⊥) → Derives (Maybe n.AfterOther ∷ R) ts → After R b ts
after_other_path true h d = absurd (h refl)
after_other_path false h d = d

-- ---- brackets behind a type where a statement begins

pub record OfAfter (N : Nonterminal) : Type 0 where
  pub paren : (t : Terminal) → admits (pattern.Punctuator mark.OpenParen) t ≡ true → Begins N t (Maybe n.Arguments ∷ Token (pattern.Punctuator mark.CloseParen) ∷ Close ∷ Behind [])
  pub brace : (t : Terminal) → admits (pattern.Punctuator mark.OpenBrace) t ≡ true → Begins N t (Maybe n.Arguments ∷ Token (pattern.Punctuator mark.CloseBrace) ∷ Close ∷ Behind [])

after_builtin : OfAfter n.AfterBuiltin
after_builtin = record { paren = after_builtin-paren; brace = after_builtin-brace }

after_handle : OfAfter n.AfterHandle
after_handle = record { paren = after_handle-paren; brace = after_handle-brace }

after_at : {k : Count} {R : List Symbol} (C : List (List ℕ)) (N : Nonterminal) → OfAfter N → (how : Brackets) (args : Row_of-Expression k) → RowCovered C args → (us : List Terminal) → Derives (Behind R) us → Derives (One N ∷ R) (seen C (in_brackets how (row_arguments args)) us)
unfolding admits
after_at C N o Parentheses args r us d = go (o.paren (terminal_of C (kind.Mark mark.OpenParen)) refl) (inside C args r mark.CloseParen us refl refl (shut d))
after_at C N o Braces args r us d = go (o.brace (terminal_of C (kind.Mark mark.OpenBrace)) refl) (inside C args r mark.CloseBrace us refl refl (shut d))

-- A nonterminal that a statement begins, with what stands behind the expression or the local in its rules.
pub record OfStatement (N : Nonterminal) (tail : List Symbol) : Type 0 where
  pub built_in : (t : Terminal) → admits pattern.BuiltinType t ≡ true → Begins N t (One n.AfterBuiltin ∷ tail)
  pub library : (t : Terminal) → admits (pattern.Spelled known_name.Std) t ≡ true → Begins N t (Token (pattern.Punctuator mark.Scope) ∷ One n.LibraryStatement ∷ tail)
  pub path : OfStatementPath N tail

pub library_at : {N : Nonterminal} {tail R : List Symbol} {ts : List Terminal} → (C : List (List ℕ)) → OfStatement N tail → Derives (One n.LibraryStatement ∷ tail ++ R) ts → Derives (One N ∷ R) (terminal_of C (kind.Name (codes "std")) ∷ terminal_of C (kind.Mark mark.Scope) ∷ ts)
unfolding admits
library_at C o d = go (o.library (terminal_of C (kind.Name (codes "std"))) (is_std C)) (by_token refl d)

kind_starts : {k : Count} (C : List (List ℕ)) (N : Nonterminal) (tail R : List Symbol) → OfStatement N tail → (how : Brackets) (args : Row_of-Expression k) → RowCovered C args → (us : List Terminal) (of : SimpleTypeKind) → PlainKind C of → (is_class_call of how ≡ true → ⊥) → Derives (Behind (tail ++ R)) us → Derives (One N ∷ R) (seen C (simple_kind of) (seen C (in_brackets how (row_arguments args)) us))
unfolding known admits handle_name
kind_starts C N tail R o how args r us simple.Void h c d = go (o.built_in (terminal_of C (kind.Word word.Void)) refl) (after_at C n.AfterBuiltin after_builtin how args r us d)
kind_starts C N tail R o how args r us simple.Bool h c d = go (o.built_in (terminal_of C (kind.Word word.Bool)) refl) (after_at C n.AfterBuiltin after_builtin how args r us d)
kind_starts C N tail R o how args r us simple.Int h c d = go (o.built_in (terminal_of C (kind.Word word.Int)) refl) (after_at C n.AfterBuiltin after_builtin how args r us d)
kind_starts C N tail R o how args r us simple.Long h c d = go (o.built_in (terminal_of C (kind.Word word.Long)) refl) (after_at C n.AfterBuiltin after_builtin how args r us d)
kind_starts C N tail R o how args r us simple.Auto h c d = absurd h
kind_starts C N tail R o how args r us simple.Size h c d = library_at C o (go (library_statement-library_object (terminal_of C (kind.Name (codes "size_t"))) refl) (after_at C n.AfterBuiltin after_builtin how args r us d))
kind_starts C N tail R o how args r us simple.ExceptionPtr h c d = library_at C o (go (library_statement-library_object (terminal_of C (kind.Name (codes "exception_ptr"))) refl) (after_at C n.AfterBuiltin after_builtin how args r us d))
kind_starts C N tail R o how args r us simple.SuspendAlways h c d = library_at C o (go (library_statement-library_object (terminal_of C (kind.Name (codes "suspend_always"))) refl) (after_at C n.AfterBuiltin after_builtin how args r us d))
kind_starts C N tail R o how args r us simple.SuspendNever h c d = library_at C o (go (library_statement-library_object (terminal_of C (kind.Name (codes "suspend_never"))) refl) (after_at C n.AfterBuiltin after_builtin how args r us d))
kind_starts C N tail R o how args r us (simple.Handle p) h c d =
    library_at C o (go (library_statement-coroutine_handle (terminal_of C (kind.Name handle_name)) refl) (handle_at C (One n.AfterHandle ∷ tail ++ R) p (seen C (in_brackets how (row_arguments args)) us) h (after_at C n.AfterHandle after_handle how args r us d)))
kind_starts C N tail R o how args r us (simple.Atomic k) h c d =
    ruled C (standard (codes "atomic") ++ m mark.Less ∷ (atomic_argument k ++ m mark.Greater ∷ [])) (seen C (in_brackets how (row_arguments args)) us) (library_at C o (go (library_statement-atomic (terminal_of C (kind.Name (codes "atomic"))) refl) (by_token refl (atomic_at C (One n.AfterBuiltin ∷ tail ++ R) k (seen C (in_brackets how (row_arguments args)) us) (after_at C n.AfterBuiltin after_builtin how args r us d)))))
kind_starts C N tail R o Parentheses args r us (simple.Class p) h c d = absurd (c refl)
kind_starts C N tail R o Braces args r us (simple.Class p) h c d =
    named_statement_path C N tail R o.path p.names (seen C (in_brackets Braces (row_arguments args)) us) h.0.0 h.0.1 (after_class_path (is_class C (last_of p.names [])) (names_of.is_in C (last_of p.names []) h.1) (go (after_class-brace (terminal_of C (kind.Mark mark.OpenBrace)) refl) (inside C args r mark.CloseBrace us refl refl (shut d))))

function_starts : {R : List Symbol} (C : List (List ℕ)) (function : HandleFunction) (us : List Terminal) → Derives (Behind R) us → Derives (One n.AfterHandle ∷ R) (seen C (m mark.Scope ∷ handle_function function ∷ []) us)
unfolding known admits
function_starts C FromAddress us d = go (after_handle-scope (terminal_of C (kind.Mark mark.Scope)) refl) (by_token refl d)
function_starts C FromPromise us d = go (after_handle-scope (terminal_of C (kind.Mark mark.Scope)) refl) (by_token refl d)

-- how the four that begin with a type or a path start a statement
others : (C : List (List ℕ)) (N : Nonterminal) (tail R : List Symbol) → OfStatement N tail → (f : Expression) → FormedExpression C f → (is_led_by_class f ≡ true → ⊥) → is_other f ≡ true → (us : List Terminal) → Derives (Behind (tail ++ R)) us → Derives (One N ∷ R) (seen C (expression f) us)
unfolding known admits handle_name
others C N tail R o (expr.Name p) h c i us d =
    named_statement_path C N tail R o.path p.names us h.0.0 h.0.1 (after_other_path (is_class C (last_of p.names [])) (λ e. h.1 (names_of.contained C (last_of p.names []) e)) (after_other d))
others C N tail R o (expr.Construction' base how s args) h c i us d = both C (simple_type base) (in_brackets how (row_arguments args)) us (kind_starts C N tail R o how args (row_covered C args h.1) us base.kind h.0 c d)
others C N tail R o (expr.HandleFunction p function at) h c i us d =
    library_at C o (go (library_statement-coroutine_handle (terminal_of C (kind.Name handle_name)) refl) (both C (m mark.Less ∷ (path_if p ++ m mark.Greater ∷ [])) (m mark.Scope ∷ handle_function function ∷ []) us (handle_at C (One n.AfterHandle ∷ tail ++ R) p (seen C (m mark.Scope ∷ handle_function function ∷ []) us) h (function_starts C function us d))))
others C N tail R o (expr.StandardFunction function at) h c i us d = library_at C o (go (library_statement-library_function (terminal_of C (kind.Name (standard_name function))) (is_library C function)) d)
others C N tail R o (expr.Yield' s e at) h c i us d = absurd cc
others C N tail R o (expr.Rethrow at) h c i us d = absurd cc
others C N tail R o (expr.Throw' s e at) h c i us d = absurd cc
others C N tail R o (expr.Assignment' s a op t b at) h c i us d = absurd cc
others C N tail R o (expr.Conditional' s a t b u c2 at) h c i us d = absurd cc
others C N tail R o (expr.Binary' s a op t b at) h c i us d = absurd cc
others C N tail R o (expr.Unary' op s e at) h c i us d = absurd cc
others C N tail R o (expr.New is_global base pointers at) h c i us d = absurd cc
others C N tail R o (expr.NewWith' is_global base pointers how s args at) h c i us d = absurd cc
others C N tail R o (expr.Delete' is_global s e at) h c i us d = absurd cc
others C N tail R o (expr.Member' s e op x at) h c i us d = absurd cc
others C N tail R o (expr.Call' s e t args at) h c i us d = absurd cc
others C N tail R o (expr.Step' s e op at) h c i us d = absurd cc
others C N tail R o (expr.Number num value at) h c i us d = absurd cc
others C N tail R o (expr.Bool value at) h c i us d = absurd cc
others C N tail R o (expr.Nullptr at) h c i us d = absurd cc
others C N tail R o (expr.This at) h c i us d = absurd cc
others C N tail R o (expr.Parenthesized' s e at) h c i us d = absurd cc
others C N tail R o (expr.Text text at) h c i us d = absurd cc
others C N tail R o (expr.StaticCast' of s e at) h c i us d = absurd cc
others C N tail R o (expr.OperatorNew' s args at) h c i us d = absurd cc
others C N tail R o (expr.OperatorDelete' s args at) h c i us d = absurd cc
others C N tail R o (expr.CorunFunction function at) h c i us d = absurd cc

pub tight_other : (f : Expression) → is_other f ≡ true → tightness f < 12 → ⊥
tight_other (expr.Name p) i l = omega (arith, l)
tight_other (expr.Construction' base how s args) i l = omega (arith, l)
tight_other (expr.HandleFunction p function at) i l = omega (arith, l)
tight_other (expr.StandardFunction function at) i l = omega (arith, l)
tight_other (expr.Yield' s e at) i l = absurd cc
tight_other (expr.Rethrow at) i l = absurd cc
tight_other (expr.Throw' s e at) i l = absurd cc
tight_other (expr.Assignment' s a op t b at) i l = absurd cc
tight_other (expr.Conditional' s a t b u c2 at) i l = absurd cc
tight_other (expr.Binary' s a op t b at) i l = absurd cc
tight_other (expr.Unary' op s e at) i l = absurd cc
tight_other (expr.New is_global base pointers at) i l = absurd cc
tight_other (expr.NewWith' is_global base pointers how s args at) i l = absurd cc
tight_other (expr.Delete' is_global s e at) i l = absurd cc
tight_other (expr.Member' s e op x at) i l = absurd cc
tight_other (expr.Call' s e t args at) i l = absurd cc
tight_other (expr.Step' s e op at) i l = absurd cc
tight_other (expr.Number num value at) i l = absurd cc
tight_other (expr.Bool value at) i l = absurd cc
tight_other (expr.Nullptr at) i l = absurd cc
tight_other (expr.This at) i l = absurd cc
tight_other (expr.Parenthesized' s e at) i l = absurd cc
tight_other (expr.Text text at) i l = absurd cc
tight_other (expr.StaticCast' of s e at) i l = absurd cc
tight_other (expr.OperatorNew' s args at) i l = absurd cc
tight_other (expr.OperatorDelete' s args at) i l = absurd cc
tight_other (expr.CorunFunction function at) i l = absurd cc

-- a statement of an expression
pub expression_at : (C : List (List ℕ)) (N : Nonterminal) (tail R : List Symbol) → OfPlain N tail → OfStatement N tail → (e : Expression) → FormedExpression C e → (BeginsWithClassCall e → ⊥) → (ts : List Terminal) → NoneNext pattern.NewMark ts → Derives (tail ++ R) ts → Derives (One N ∷ R) (seen C (expression e) ts)
expression_at C N tail R p o e h c ts f d = plain_at C N tail R p e h (λ i. record { postfix = λ x us y. others C N tail R o (first_of e) (led_by C e h).formed c i us y; unary = λ x y us g z. absurd (tight_other (first_of e) i y) }) ts f d

pub of_statement : OfStatement n.Statement (Token (pattern.Punctuator mark.Semicolon) ∷ [])
of_statement = record { built_in = statement-built_in_type; library = statement-std; path = record { class = statement-class_name; outer = statement-other_name } }

pub of_for_init : OfStatement n.ForInit (Token (pattern.Punctuator mark.Semicolon) ∷ [])
of_for_init = record { built_in = for_init-built_in_type; library = for_init-std; path = record { class = for_init-class_name; outer = for_init-other_name } }
