-- Locals: their types, their names and their initializers.
use Rattle.std.proofs.Common.{◌≡◌, ◌≢◌, ℕ, zero, suc, Bool, true, false, List, [], ◌∷◌, ◌++◌, inl, inr, codes, refl, sym, subst}
use Rattle.std.specs.List.{AllByRecursion}
use Rattle.co_base.specs.declared.span.Span.{Span}
use Rattle.co_lex.specs.declared.token.TokenKind.TheVariants as kind
use Rattle.co_lex.specs.declared.token.Mark.{Mark}
use Rattle.co_lex.specs.declared.token.Mark.TheVariants as mark
use Rattle.co_lex.specs.declared.token.Word.TheVariants as word
use Rattle.co_rules.specs.Names.{known, is_class}
use Rattle.co_rules.specs.Terminal.{terminal_of}
use Rattle.co_rules.specs.declared.symbol.Nonterminal.{Nonterminal}
use Rattle.co_rules.specs.declared.symbol.Nonterminal.TheVariants as n
use Rattle.co_rules.specs.declared.symbol.Pattern.TheVariants as pattern
use Rattle.co_rules.specs.declared.symbol.Symbol.{Symbol}
use Rattle.co_rules.specs.declared.symbol.Symbol.TheVariants.{Token, One, Maybe, Many, Close}
use Rattle.co_rules.specs.declared.symbol.Terminal.{Terminal}
use Rattle.co_rules.specs.Derives.{Begins, Derives, NoneNext}
use Rattle.co_rules.specs.Pattern.{admits}
use Rattle.co_tree.specs.declared.expressions.Expression.{Expression}
use Rattle.co_tree.specs.declared.types.SimpleTypeKind.{SimpleTypeKind}
use Rattle.co_tree.specs.declared.types.SimpleTypeKind.TheVariants as simple
use Rattle.co_tree.specs.declared.types.TypeId.{TypeId}
use Rattle.co_tree.specs.declared.expressions.Expression.TheVariants as expr
use Rattle.co_tree.specs.Formed.{first_of, IsName, PlainKind, PlainType, last_of, FormedExpression, BeginsWithType, is_led_by_type, FormedAll, LocalType}
use Rattle.co_tree.specs.Piece.{Piece, node, leave, w, m, name, standard, rule, if_said}
use Rattle.co_tree.specs.Types.{reference_mark, handle_name, atomic_argument, simple_kind, simple_type, stars, type_id, names_after, path_names}
use Rattle.co_tree.specs.Sentence.{expression, arguments, arguments_after}
use Rattle.co_covers.proofs.Names as names_of
use Rattle.co_covers.proofs.Seen.{seen, both, ruled, by_token, go, may, again, skip, enough, shut, maybe}
use Rattle.co_covers.proofs.Types.{is_std, handle_at, atomic_at, base_at, base as base_of, pointers_at, rest_at}
use Rattle.co_covers.proofs.Primaries.{is_library}
use Rattle.co_covers.proofs.Expressions.{covered, full}
use Rattle.co_covers.proofs.Leftmost.{led_by}
use Rattle.co_covers.proofs.Plain.{first_argument_of}
use Rattle.co_covers.proofs.Heads.{value_of, arguments_of}
use Rattle.co_covers.proofs.Firsts.{is_other, plain_at}
use Rattle.co_covers.proofs.Others.{Behind, OfStatement, library_at, named_statement_path, after_class_path, of_statement, of_for_init, tight_other}
use Rattle.co_tree.specs.declared.types.Reference.{Reference}
use Rattle.co_tree.specs.declared.types.Reference.TheVariants as reference
use Rattle.co_tree.specs.declared.statements.Initializer.{Initializer}
use Rattle.co_tree.specs.declared.statements.Initializer.TheVariants as init
use Rattle.co_tree.specs.declared.statements.Variable.{Variable}
use Rattle.co_tree.specs.FormedTree.{AreLocalArguments, LocalInitializer, FormedLocal}
use Rattle.co_tree.specs.Statements.{initializer, variable}
use Rattle.co_covers.proofs.RulesOfTypes.{reference-and}
use Rattle.co_covers.proofs.RulesOfExpressions.{next_argument-comma}
use Rattle.co_covers.proofs.RulesOfArguments.{value-brace, first_argument-std, first_argument-class_name, first_argument-other_name, first_scope-scope, first_path-class_name, first_path-other_name}
use Rattle.co_covers.proofs.RulesOfStatements.{local_rest-assign, local_rest-paren, local_rest-brace, after_builtin-const, after_builtin-star, after_builtin-reference, after_builtin-name, after_class-const, after_class-star, after_class-reference, after_class-name, after_handle-const, after_handle-star, after_handle-reference, after_handle-name, library_statement-library_object, library_statement-atomic, library_statement-coroutine_handle, statement-const, statement-auto, for_init-const, for_init-auto}

-- ---- lists of arguments

pub list_next : (C : List (List ℕ)) (es : List Expression) (ts : List Terminal) → NoneNext pattern.NewMark ts → NoneNext pattern.NewMark (seen C (arguments_after es) ts)
unfolding admits
list_next C [] ts f = f
list_next C (e ∷ es) ts f = refl

pub list_after : (C : List (List ℕ)) (es : List Expression) → FormedAll C es → (R : List Symbol) (ts : List Terminal) → NoneNext pattern.NewMark ts → Derives R ts → Derives (Many n.NextArgument ∷ R) (seen C (arguments_after es) ts)
unfolding admits
list_after C [] h R ts f d = enough d
list_after C (e ∷ es) h R ts f d =
    again (next_argument-comma (terminal_of C (kind.Mark mark.Comma)) refl) (both C (rule (expression e)) (arguments_after es) ts (full C e (covered C e h.0) (Many n.NextArgument ∷ R) (seen C (arguments_after es) ts) (list_next C es ts f) (list_after C es h.1 R ts f d)))

pub list_at : (C : List (List ℕ)) (es : List Expression) → FormedAll C es → (R : List Symbol) (ts : List Terminal) → NoneNext pattern.NewMark ts → Derives R ts → Derives (Maybe n.Arguments ∷ R) (seen C (arguments es) ts)
list_at C [] h R ts f d = skip d
list_at C (e ∷ es) h R ts f d =
    maybe (both C (rule (expression e)) (arguments_after es) ts (ruled C (expression e) (seen C (arguments_after es) ts) ((covered C e h.0).full n.Arguments (Many n.NextArgument ∷ []) R (seen C (arguments_after es) ts) arguments_of (list_next C es ts f) (list_after C es h.1 R ts f d))))

pub list_inside : {R : List Symbol} (C : List (List ℕ)) (es : List Expression) → FormedAll C es → (x : Mark) (ts : List Terminal) → admits pattern.NewMark (terminal_of C (kind.Mark x)) ≡ false → admits (pattern.Punctuator x) (terminal_of C (kind.Mark x)) ≡ true → Derives R ts → Derives (Maybe n.Arguments ∷ Token (pattern.Punctuator x) ∷ Close ∷ R) (seen C (arguments es ++ m x ∷ leave ∷ []) ts)
list_inside {R} C es h x ts f g d = both C (arguments es) (m x ∷ leave ∷ []) ts (list_at C es h (Token (pattern.Punctuator x) ∷ Close ∷ R) (seen C (m x ∷ leave ∷ []) ts) f (by_token g (shut d)))

-- ---- first arguments, which begin with no type

record OfFirstPath (N : Nonterminal) (tail : List Symbol) : Type 0 where
  class : (t : Terminal) → admits pattern.ClassName t ≡ true → Begins N t (Token (pattern.Punctuator mark.Scope) ∷ One n.FirstPath ∷ tail)
  outer : (t : Terminal) → admits pattern.OtherName t ≡ true → Begins N t (Maybe n.FirstScope ∷ tail)

first_path : OfFirstPath n.FirstPath []
first_path = record { class = first_path-class_name; outer = first_path-other_name }

first_path_at : (C : List (List ℕ)) (N : Nonterminal) (tail R : List Symbol) → OfFirstPath N tail → (x : List ℕ) (xs : List (List ℕ)) (ts : List Terminal) → IsName x → AllByRecursion IsName xs → (is_class C (last_of xs x) ≡ true → ⊥) → Derives (tail ++ R) ts → Derives (One N ∷ R) (seen C (name x ∷ names_after xs) ts)
unfolding admits
first_path_at C N tail R o x [] ts h hs c d = by_class (is_class C x) refl
  where
    by_class : (b : Bool) → b ≡ is_class C x → Derives (One N ∷ R) (seen C (name x ∷ []) ts)
    by_class true e = absurd (c (sym e))
    by_class false e = go (o.outer (terminal_of C (kind.Name x)) (names_of.other_name C x h (sym e))) (skip d)
first_path_at C N tail R o x (y ∷ ys) ts h hs c d = by_class (is_class C x) refl (first_path_at C n.FirstPath [] (tail ++ R) first_path y ys ts hs.0 hs.1 c d)
  where
    by_class : (b : Bool) → b ≡ is_class C x → Derives (One n.FirstPath ∷ tail ++ R) (seen C (name y ∷ names_after ys) ts) → Derives (One N ∷ R) (seen C (name x ∷ names_after (y ∷ ys)) ts)
    by_class true e p = go (o.class (terminal_of C (kind.Name x)) (names_of.class_name C x h (sym e))) (by_token refl p)
    by_class false e p = go (o.outer (terminal_of C (kind.Name x)) (names_of.other_name C x h (sym e))) (may (first_scope-scope (terminal_of C (kind.Mark mark.Scope)) refl) p)

first_name : (C : List (List ℕ)) (R : List Symbol) (xs : List (List ℕ)) (ts : List Terminal) → xs ≢ [] → AllByRecursion IsName xs → (is_class C (last_of xs []) ≡ true → ⊥) → Derives (Behind R) ts → Derives (One n.FirstArgument ∷ R) (seen C (path_names xs) ts)
first_name C R [] ts e h c d = absurd (e refl)
first_name C R (x ∷ xs) ts e h c d = first_path_at C n.FirstArgument (Behind []) R (record { class = first_argument-class_name; outer = first_argument-other_name }) x xs ts h.0 h.1 c d

first_others : (C : List (List ℕ)) (R : List Symbol) → (f : Expression) → FormedExpression C f → (is_led_by_type f ≡ true → ⊥) → is_other f ≡ true → (us : List Terminal) → Derives (Behind R) us → Derives (One n.FirstArgument ∷ R) (seen C (expression f) us)
unfolding admits
first_others C R (expr.Name p) h c i us d = first_name C R p.names us h.0.0 h.0.1 (λ e. h.1 (names_of.contained C (last_of p.names []) e)) d
first_others C R (expr.Construction' base how s args) h c i us d = absurd (c refl)
first_others C R (expr.HandleFunction p function at) h c i us d = absurd (c refl)
first_others C R (expr.StandardFunction function at) h c i us d = go (first_argument-std (terminal_of C (kind.Name (codes "std"))) (is_std C)) (by_token refl (by_token (is_library C function) d))
first_others C R (expr.Yield' s e at) h c i us d = absurd cc
first_others C R (expr.Rethrow at) h c i us d = absurd cc
first_others C R (expr.Throw' s e at) h c i us d = absurd cc
first_others C R (expr.Assignment' s a op t b at) h c i us d = absurd cc
first_others C R (expr.Conditional' s a t b u c2 at) h c i us d = absurd cc
first_others C R (expr.Binary' s a op t b at) h c i us d = absurd cc
first_others C R (expr.Unary' op s e at) h c i us d = absurd cc
first_others C R (expr.New is_global base pointers at) h c i us d = absurd cc
first_others C R (expr.NewWith' is_global base pointers how s args at) h c i us d = absurd cc
first_others C R (expr.Delete' is_global s e at) h c i us d = absurd cc
first_others C R (expr.Member' s e op x at) h c i us d = absurd cc
first_others C R (expr.Call' s e t args at) h c i us d = absurd cc
first_others C R (expr.Step' s e op at) h c i us d = absurd cc
first_others C R (expr.Number num value at) h c i us d = absurd cc
first_others C R (expr.Bool value at) h c i us d = absurd cc
first_others C R (expr.Nullptr at) h c i us d = absurd cc
first_others C R (expr.This at) h c i us d = absurd cc
first_others C R (expr.Parenthesized' s e at) h c i us d = absurd cc
first_others C R (expr.Text text at) h c i us d = absurd cc
first_others C R (expr.StaticCast' of s e at) h c i us d = absurd cc
first_others C R (expr.OperatorNew' s args at) h c i us d = absurd cc
first_others C R (expr.OperatorDelete' s args at) h c i us d = absurd cc
first_others C R (expr.CorunFunction function at) h c i us d = absurd cc

first_at : (C : List (List ℕ)) (e : Expression) → FormedExpression C e → (BeginsWithType e → ⊥) → (R : List Symbol) (ts : List Terminal) → NoneNext pattern.NewMark ts → Derives R ts → Derives (One n.FirstArgument ∷ R) (seen C (expression e) ts)
first_at C e h c R ts f d = plain_at C n.FirstArgument [] R first_argument_of e h (λ i. record { postfix = λ x us y. first_others C R (first_of e) (led_by C e h).formed c i us y; unary = λ x y us g z. absurd (tight_other (first_of e) i y) }) ts f d

-- ---- initializers

local_arguments : (C : List (List ℕ)) (es : List Expression) → FormedAll C es → AreLocalArguments es → (R : List Symbol) (ts : List Terminal) → NoneNext pattern.NewMark ts → Derives R ts → Derives (One n.FirstArgument ∷ Many n.NextArgument ∷ R) (seen C (arguments es) ts)
local_arguments C [] h a R ts f d = absurd a
local_arguments C (e ∷ es) h a R ts f d = both C (rule (expression e)) (arguments_after es) ts (ruled C (expression e) (seen C (arguments_after es) ts) (first_at C e h.0 a (Many n.NextArgument ∷ R) (seen C (arguments_after es) ts) (list_next C es ts f) (list_after C es h.1 R ts f d)))

pub initializer_at : (C : List (List ℕ)) (i : Initializer) → LocalInitializer C i → (R : List Symbol) (ts : List Terminal) → NoneNext pattern.NewMark ts → Derives R ts → Derives (Maybe n.LocalRest ∷ R) (seen C (initializer i) ts)
unfolding admits
initializer_at C init.None h R ts f d = skip d
initializer_at C (init.Equals e) h R ts f d = may (local_rest-assign (terminal_of C (kind.Mark mark.Assign)) refl) (ruled C (expression e) ts ((covered C e h).full n.Value [] R ts value_of f d))
initializer_at C (init.EqualsBraces es) h R ts f d = may (local_rest-assign (terminal_of C (kind.Mark mark.Assign)) refl) (go (value-brace (terminal_of C (kind.Mark mark.OpenBrace)) refl) (list_inside C es h mark.CloseBrace ts refl refl d))
initializer_at C (init.Parentheses es) h R ts f d =
    may (local_rest-paren (terminal_of C (kind.Mark mark.OpenParen)) refl) (both C (arguments es) (m mark.CloseParen ∷ leave ∷ []) ts (local_arguments C es h.0 h.1 (Token (pattern.Punctuator mark.CloseParen) ∷ Close ∷ R) (seen C (m mark.CloseParen ∷ leave ∷ []) ts) refl (by_token refl (shut d))))
initializer_at C (init.Braces es) h R ts f d = may (local_rest-brace (terminal_of C (kind.Mark mark.OpenBrace)) refl) (list_inside C es h mark.CloseBrace ts refl refl d)

-- ---- the type of a local and its name

pub record OfNamed (N : Nonterminal) : Type 0 where
  pub const : (t : Terminal) → admits (pattern.Keyword word.Const) t ≡ true → Begins N t (Maybe n.Pointers ∷ Token pattern.Name ∷ Maybe n.LocalRest ∷ [])
  pub star : (t : Terminal) → admits (pattern.Punctuator mark.Star) t ≡ true → Begins N t (Maybe n.Pointers ∷ Close ∷ Token pattern.Name ∷ Maybe n.LocalRest ∷ [])
  pub reference : (t : Terminal) → admits pattern.ReferenceMark t ≡ true → Begins N t (Token pattern.Name ∷ Maybe n.LocalRest ∷ [])
  pub name : (t : Terminal) → admits pattern.Name t ≡ true → Begins N t (Maybe n.LocalRest ∷ [])

named_at : (C : List (List ℕ)) (N : Nonterminal) (R : List Symbol) → OfNamed N → (is_const : Bool) (count : ℕ) (r : Reference) (x : List ℕ) (us : List Terminal) → IsName x → Derives (Maybe n.LocalRest ∷ R) us → Derives (One N ∷ R) (seen C (if_said is_const (w word.Const) ++ (stars count ++ reference_mark r)) (terminal_of C (kind.Name x) ∷ us))
unfolding admits
named_at C N R o true count r x us h d = go (o.const (terminal_of C (kind.Word word.Const)) refl) (pointers_at C (Token pattern.Name ∷ Maybe n.LocalRest ∷ R) count r (terminal_of C (kind.Name x) ∷ us) (by_token (names_of.name C x h) d))
named_at C N R o false zero reference.None x us h d = go (o.name (terminal_of C (kind.Name x)) (names_of.name C x h)) d
named_at C N R o false zero reference.Lvalue x us h d = go (o.reference (terminal_of C (kind.Mark mark.And)) refl) (by_token (names_of.name C x h) d)
named_at C N R o false zero reference.Rvalue x us h d = go (o.reference (terminal_of C (kind.Mark mark.AndAnd)) refl) (by_token (names_of.name C x h) d)
named_at C N R o false (suc count) r x us h d = go (o.star (terminal_of C (kind.Mark mark.Star)) refl) (pointers_at C (Close ∷ Token pattern.Name ∷ Maybe n.LocalRest ∷ R) count r (terminal_of C (kind.Name x) ∷ us) (shut (by_token (names_of.name C x h) d)))

after_builtin : OfNamed n.AfterBuiltin
after_builtin = record { const = after_builtin-const; star = after_builtin-star; reference = after_builtin-reference; name = after_builtin-name }

after_class : OfNamed n.AfterClass
after_class = record { const = after_class-const; star = after_class-star; reference = after_class-reference; name = after_class-name }

after_handle : OfNamed n.AfterHandle
after_handle = record { const = after_handle-const; star = after_handle-star; reference = after_handle-reference; name = after_handle-name }

kind_local : (C : List (List ℕ)) (N : Nonterminal) (tail R : List Symbol) → OfStatement N tail → (k : SimpleTypeKind) (ws : List Terminal) → PlainKind C k → ((M : Nonterminal) → OfNamed M → Derives (One M ∷ tail ++ R) ws) → Derives (One N ∷ R) (seen C (simple_kind k) ws)
unfolding known admits handle_name
kind_local C N tail R o simple.Void ws h k = go (o.built_in (terminal_of C (kind.Word word.Void)) refl) (k n.AfterBuiltin after_builtin)
kind_local C N tail R o simple.Bool ws h k = go (o.built_in (terminal_of C (kind.Word word.Bool)) refl) (k n.AfterBuiltin after_builtin)
kind_local C N tail R o simple.Int ws h k = go (o.built_in (terminal_of C (kind.Word word.Int)) refl) (k n.AfterBuiltin after_builtin)
kind_local C N tail R o simple.Long ws h k = go (o.built_in (terminal_of C (kind.Word word.Long)) refl) (k n.AfterBuiltin after_builtin)
kind_local C N tail R o simple.Auto ws h k = absurd h
kind_local C N tail R o simple.Size ws h k = library_at C o (go (library_statement-library_object (terminal_of C (kind.Name (codes "size_t"))) refl) (k n.AfterBuiltin after_builtin))
kind_local C N tail R o simple.ExceptionPtr ws h k = library_at C o (go (library_statement-library_object (terminal_of C (kind.Name (codes "exception_ptr"))) refl) (k n.AfterBuiltin after_builtin))
kind_local C N tail R o simple.SuspendAlways ws h k = library_at C o (go (library_statement-library_object (terminal_of C (kind.Name (codes "suspend_always"))) refl) (k n.AfterBuiltin after_builtin))
kind_local C N tail R o simple.SuspendNever ws h k = library_at C o (go (library_statement-library_object (terminal_of C (kind.Name (codes "suspend_never"))) refl) (k n.AfterBuiltin after_builtin))
kind_local C N tail R o (simple.Handle p) ws h k = library_at C o (go (library_statement-coroutine_handle (terminal_of C (kind.Name handle_name)) refl) (handle_at C (One n.AfterHandle ∷ tail ++ R) p ws h (k n.AfterHandle after_handle)))
kind_local C N tail R o (simple.Atomic a) ws h k =
    ruled C (standard (codes "atomic") ++ m mark.Less ∷ (atomic_argument a ++ m mark.Greater ∷ [])) ws (library_at C o (go (library_statement-atomic (terminal_of C (kind.Name (codes "atomic"))) refl) (by_token refl (atomic_at C (One n.AfterBuiltin ∷ tail ++ R) a ws (k n.AfterBuiltin after_builtin)))))
kind_local C N tail R o (simple.Class p) ws h k = named_statement_path C N tail R o.path p.names ws h.0.0 h.0.1 (after_class_path (is_class C (last_of p.names [])) (names_of.is_in C (last_of p.names []) h.1) (k n.AfterClass after_class))

-- A nonterminal that a local begins, with what stands behind the local in its rules.
pub record OfLocal (N : Nonterminal) (tail : List Symbol) : Type 0 where
  pub const : (t : Terminal) → admits (pattern.Keyword word.Const) t ≡ true → Begins N t (One n.Base ∷ Maybe n.TypeRest ∷ Token pattern.Name ∷ Maybe n.LocalRest ∷ tail)
  pub auto : (t : Terminal) → admits (pattern.Keyword word.Auto) t ≡ true → Begins N t (Maybe n.Reference ∷ Token pattern.Name ∷ Maybe n.LocalRest ∷ tail)
  pub statement : OfStatement N tail

plain_local : (C : List (List ℕ)) (N : Nonterminal) (tail R : List Symbol) → OfLocal N tail → (t : TypeId) (x : List ℕ) (us : List Terminal) → PlainType C t → IsName x → Derives (Maybe n.LocalRest ∷ tail ++ R) us → Derives (One N ∷ R) (seen C (type_id t) (terminal_of C (kind.Name x) ∷ us))
unfolding admits
plain_local C N tail R o t x us h g d = ruled C (if_said t.is_const (w word.Const) ++ (simple_type t.base ++ after)) ts (by_const t.is_const)
  where
    ts : List Terminal
    ts = terminal_of C (kind.Name x) ∷ us

    after : List Piece
    after = if_said t.is_const_after (w word.Const) ++ (stars t.pointers ++ reference_mark t.reference)

    by_const : (b : Bool) → Derives (One N ∷ R) (seen C (if_said b (w word.Const) ++ (simple_type t.base ++ after)) ts)
    by_const true = go (o.const (terminal_of C (kind.Word word.Const)) refl) (both C (simple_type t.base) after ts (base_at C n.Base [] (Maybe n.TypeRest ∷ Token pattern.Name ∷ Maybe n.LocalRest ∷ tail ++ R) base_of t.base (seen C after ts) h (rest_at C (Token pattern.Name ∷ Maybe n.LocalRest ∷ tail ++ R) t.is_const_after t.pointers t.reference ts (by_token (names_of.name C x g) d))))
    by_const false = both C (simple_type t.base) after ts (kind_local C N tail R o.statement t.base.kind (seen C after ts) h (λ M q. named_at C M (tail ++ R) q t.is_const_after t.pointers t.reference x us g d))

auto_at : (C : List (List ℕ)) (N : Nonterminal) (tail R : List Symbol) → OfLocal N tail → (r : Reference) → r ≢ reference.Rvalue → (x : List ℕ) (us : List Terminal) → IsName x → Derives (Maybe n.LocalRest ∷ tail ++ R) us → Derives (One N ∷ R) (seen C (w word.Auto ∷ reference_mark r) (terminal_of C (kind.Name x) ∷ us))
unfolding admits
auto_at C N tail R o reference.None e x us g d = go (o.auto (terminal_of C (kind.Word word.Auto)) refl) (skip (by_token (names_of.name C x g) d))
auto_at C N tail R o reference.Lvalue e x us g d = go (o.auto (terminal_of C (kind.Word word.Auto)) refl) (may (reference-and (terminal_of C (kind.Mark mark.And)) refl) (by_token (names_of.name C x g) d))
auto_at C N tail R o reference.Rvalue e x us g d = absurd (e refl)

pub auto_parts : {S : List Symbol} (C : List (List ℕ)) (at : Span) (before after : Bool) (k : SimpleTypeKind) (count : ℕ) (r : Reference) (ts : List Terminal) → k ≡ simple.Auto → before ≡ false → after ≡ false → count ≡ 0 → Derives S (seen C (w word.Auto ∷ reference_mark r) ts) → Derives S (seen C (if_said before (w word.Const) ++ (node at ∷ simple_kind k ++ (if_said after (w word.Const) ++ (stars count ++ reference_mark r)))) ts)
auto_parts {S} C at before after k count r ts e f g h d =
    subst (λ b. Derives S (seen C (if_said b (w word.Const) ++ (node at ∷ simple_kind k ++ (if_said after (w word.Const) ++ (stars count ++ reference_mark r)))) ts)) (sym f) (subst (λ j. Derives S (seen C (simple_kind j ++ (if_said after (w word.Const) ++ (stars count ++ reference_mark r))) ts)) (sym e) (subst (λ b. Derives S (seen C (w word.Auto ∷ (if_said b (w word.Const) ++ (stars count ++ reference_mark r))) ts)) (sym g) (subst (λ c. Derives S (seen C (w word.Auto ∷ (stars c ++ reference_mark r)) ts)) (sym h) d)))

-- ---- locals

local_type_at : (C : List (List ℕ)) (N : Nonterminal) (tail R : List Symbol) → OfLocal N tail → (t : TypeId) (x : List ℕ) (us : List Terminal) → LocalType C t → IsName x → Derives (Maybe n.LocalRest ∷ tail ++ R) us → Derives (One N ∷ R) (seen C (type_id t) (terminal_of C (kind.Name x) ∷ us))
local_type_at C N tail R o t x us (inl h) g d = plain_local C N tail R o t x us h g d
local_type_at C N tail R o t x us (inr h) g d =
    ruled C (if_said t.is_const (w word.Const) ++ (simple_type t.base ++ (if_said t.is_const_after (w word.Const) ++ (stars t.pointers ++ reference_mark t.reference)))) (terminal_of C (kind.Name x) ∷ us) (auto_parts C t.base.span t.is_const t.is_const_after t.base.kind t.pointers t.reference (terminal_of C (kind.Name x) ∷ us) h.0.base h.0.before h.0.after h.0.pointers (auto_at C N tail R o t.reference h.1 x us g d))

pub variable_at : (C : List (List ℕ)) (N : Nonterminal) (R : List Symbol) → OfLocal N (Token (pattern.Punctuator mark.Semicolon) ∷ []) → (v : Variable) (ts : List Terminal) → FormedLocal C v → Derives R ts → Derives (One N ∷ R) (seen C (variable v) ts)
unfolding admits
variable_at C N R o v ts h d =
    let semicolon = m mark.Semicolon ∷ [] in
    both C (type_id v.of) (name v.name ∷ (initializer v.initializer ++ semicolon)) ts (local_type_at C N (Token (pattern.Punctuator mark.Semicolon) ∷ []) R o v.of v.name (seen C (initializer v.initializer ++ semicolon) ts) h.0 h.1 (both C (initializer v.initializer) semicolon ts (initializer_at C v.initializer h.2 (Token (pattern.Punctuator mark.Semicolon) ∷ R) (seen C semicolon ts) refl (by_token refl d))))

pub statement_local : OfLocal n.Statement (Token (pattern.Punctuator mark.Semicolon) ∷ [])
statement_local = record { const = statement-const; auto = statement-auto; statement = of_statement }

pub for_init_local : OfLocal n.ForInit (Token (pattern.Punctuator mark.Semicolon) ∷ [])
for_init_local = record { const = for_init-const; auto = for_init-auto; statement = of_for_init }
