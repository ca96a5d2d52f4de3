-- What the grammar and its side sentences ask of a tree beyond its shape: which expressions may be the operands of which,
-- what names a class, where `auto` stands, and to what a token belongs that could belong to two.
use Rattle.std.specs.Prelude.{◌≡◌, ◌≢◌, ℕ, ◌<◌, ◌≤◌, List, [], ◌∷◌, ◌⊎◌, Bool, true, false, Option, None, Some, IsTrue, IsFalse, Contains, codes}
use Rattle.std.specs.List.{AllByRecursion}
use Rattle.co_tree.specs.declared.types.Path.{Path}
use Rattle.co_tree.specs.declared.types.SimpleType.{SimpleType}
use Rattle.co_tree.specs.declared.types.SimpleTypeKind.{SimpleTypeKind}
use Rattle.co_tree.specs.declared.types.SimpleTypeKind.TheVariants as simple
use Rattle.co_tree.specs.declared.types.Reference.TheVariants as reference
use Rattle.co_tree.specs.declared.types.TypeId.{TypeId}
use Rattle.co_tree.specs.declared.expressions.BinaryOperator.{BinaryOperator}
use Rattle.co_tree.specs.declared.expressions.BinaryOperator.TheVariants as binary
use Rattle.co_tree.specs.declared.expressions.Brackets.{Brackets}
use Rattle.co_tree.specs.declared.expressions.Brackets.TheVariants.{Parentheses}
use Rattle.co_tree.specs.declared.expressions.Expression.{Expression, Row_of-Expression, end_of-Expression, more_of-Expression}
use Rattle.co_tree.specs.declared.expressions.Expression.TheVariants as expr

-- ---- names, paths and types; C are the names of the classes

-- `std` and `corun` are no NAME
abbrev pub IsName : List ℕ → Type 0
IsName n = (n ≢ codes "std") × (n ≢ codes "corun")

abbrev pub last_of : List (List ℕ) → List ℕ → List ℕ
last_of [] n = n
last_of (n ∷ ns) other = last_of ns n

-- some names, each of them a NAME
abbrev pub IsPath : Path → Type 0
IsPath p = (p.names ≢ []) × AllByRecursion IsName p.names

-- A path names a class exactly where its last name does.
abbrev pub NamesClass : List (List ℕ) → Path → Type 0
NamesClass C p = Contains C (last_of p.names [])

abbrev pub ClassPath : List (List ℕ) → Path → Type 0
ClassPath C p = IsPath p × NamesClass C p

abbrev pub ClassPathIf : List (List ℕ) → Option Path → Type 0
ClassPathIf C None = Unit {0}
ClassPathIf C (Some p) = ClassPath C p

-- a base other than `auto`
abbrev pub PlainKind : List (List ℕ) → SimpleTypeKind → Type 0
PlainKind C simple.Auto = ⊥
PlainKind C (simple.Handle promise) = ClassPathIf C promise
PlainKind C (simple.Class p) = ClassPath C p
PlainKind C k = Unit {0}

abbrev pub PlainBase : List (List ℕ) → SimpleType → Type 0
PlainBase C base = PlainKind C base.kind

-- a type other than `auto`
abbrev pub PlainType : List (List ℕ) → TypeId → Type 0
PlainType C t = PlainBase C t.base

-- `auto` without `const` and `*`
pub record IsAuto (t : TypeId) : Type 0 where
  pub base : t.base.kind ≡ simple.Auto
  pub before : t.is_const ≡ false
  pub after : t.is_const_after ≡ false
  pub pointers : t.pointers ≡ 0

-- the type of a local: `auto` is the whole base, alone or with `&`
abbrev pub LocalType : List (List ℕ) → TypeId → Type 0
LocalType C t = PlainType C t ⊎ (IsAuto t × (t.reference ≢ reference.Rvalue))

-- the result of a function: `auto` is the whole type
abbrev pub ResultType : List (List ℕ) → TypeId → Type 0
ResultType C t = PlainType C t ⊎ (IsAuto t × (t.reference ≡ reference.None))

-- ---- how tight an expression is

-- each level of operators binds tighter than those before it [expr.log.or] to [expr.mul]
abbrev pub strength : BinaryOperator → ℕ
strength binary.LogicalOr = 1
strength binary.LogicalAnd = 2
strength binary.Or = 3
strength binary.Xor = 4
strength binary.And = 5
strength binary.Equal = 6
strength binary.NotEqual = 6
strength binary.Less = 7
strength binary.LessEqual = 7
strength binary.Greater = 7
strength binary.GreaterEqual = 7
strength binary.Shl = 8
strength binary.Shr = 8
strength binary.Add = 9
strength binary.Sub = 9
strength binary.Mul = 10
strength binary.Div = 10
strength binary.Rem = 10

-- what the rules `binary`, `unary` and `postfix` spell
abbrev pub as_binary : ℕ
as_binary = 1

abbrev pub as_unary : ℕ
as_unary = 11

abbrev pub as_postfix : ℕ
as_postfix = 12

-- 0 for what the rule `expr` alone spells, and `as_postfix` for what the rule `postfix` does
abbrev pub tightness : Expression → ℕ
tightness (expr.Yield' s e at) = 0
tightness (expr.Rethrow at) = 0
tightness (expr.Throw' s e at) = 0
tightness (expr.Assignment' s a op t b at) = 0
tightness (expr.Conditional' s a t b u c at) = 0
tightness (expr.Binary' s a op t b at) = strength op
tightness (expr.Unary' op s e at) = as_unary
tightness (expr.New is_global base pointers at) = as_unary
tightness (expr.NewWith' is_global base pointers how s args at) = as_unary
tightness (expr.Delete' is_global s e at) = as_unary
tightness e = as_postfix

-- ---- the first and the last tokens of an expression

-- the expression that its first tokens spell, which has no other before them
abbrev pub first_of : Expression → Expression
first_of (expr.Assignment' s (more_of-Expression a end_of-Expression) op t b at) = first_of a
first_of (expr.Conditional' s (more_of-Expression a end_of-Expression) t b u c at) = first_of a
first_of (expr.Binary' s (more_of-Expression a end_of-Expression) op t b at) = first_of a
first_of (expr.Member' s (more_of-Expression e end_of-Expression) op n at) = first_of e
first_of (expr.Call' s (more_of-Expression e end_of-Expression) t args at) = first_of e
first_of (expr.Step' s (more_of-Expression e end_of-Expression) op at) = first_of e
first_of e = e

-- a type stands first in it
abbrev pub is_led_by_type : Expression → Bool
is_led_by_type (expr.Construction' base how s args) = true
is_led_by_type (expr.HandleFunction promise function at) = true
is_led_by_type e = false

abbrev pub BeginsWithType : Expression → Type 0
BeginsWithType e = IsTrue (is_led_by_type (first_of e))

-- the path of a class and a `(` stand first in it
abbrev pub is_class_call : SimpleTypeKind → Brackets → Bool
is_class_call (simple.Class p) Parentheses = true
is_class_call k how = false

abbrev pub is_led_by_class : Expression → Bool
is_led_by_class (expr.Construction' base how s args) = is_class_call base.kind how
is_led_by_class e = false

abbrev pub BeginsWithClassCall : Expression → Type 0
BeginsWithClassCall e = IsTrue (is_led_by_class (first_of e))

-- its last tokens are the type of a `new` that has no initializer
abbrev pub ends_in_new : Expression → Bool
ends_in_new (expr.New is_global base pointers at) = true
ends_in_new (expr.Unary' op s (more_of-Expression e end_of-Expression) at) = ends_in_new e
ends_in_new (expr.Delete' is_global s (more_of-Expression e end_of-Expression) at) = ends_in_new e
ends_in_new (expr.Binary' s a op t (more_of-Expression b end_of-Expression) at) = ends_in_new b
ends_in_new e = false

-- `*`, `&` and `&&`, which belong to the type of a `new`
abbrev pub is_of_type : BinaryOperator → Bool
is_of_type binary.Mul = true
is_of_type binary.And = true
is_of_type binary.LogicalAnd = true
is_of_type op = false

-- A `*`, `&` or `&&` right after the type of a `new` is no binary operator.
abbrev pub IsNoPointer : Expression → BinaryOperator → Type 0
IsNoPointer a op = IsTrue (ends_in_new a) → IsFalse (is_of_type op)

-- ---- expressions

-- the list is not empty
abbrev pub HasOne : {n : _} → Row_of-Expression n → Type 0
HasOne end_of-Expression = ⊥
HasOne (more_of-Expression e rest) = Unit {0}

abbrev mutual
  pub FormedExpression : List (List ℕ) → Expression → Type 0
  FormedExpression C (expr.Yield' s (more_of-Expression e end_of-Expression) at) = FormedExpression C e
  FormedExpression C (expr.Throw' s (more_of-Expression e end_of-Expression) at) = FormedExpression C e
  FormedExpression C (expr.Assignment' s (more_of-Expression a end_of-Expression) op t (more_of-Expression b end_of-Expression) at) =
      FormedExpression C a × FormedExpression C b × (as_binary ≤ tightness a)
  FormedExpression C (expr.Conditional' s (more_of-Expression a end_of-Expression) t (more_of-Expression b end_of-Expression) u (more_of-Expression c end_of-Expression) at) =
      FormedExpression C a × FormedExpression C b × FormedExpression C c × (as_binary ≤ tightness a)
  -- operators of one level group from the left
  FormedExpression C (expr.Binary' s (more_of-Expression a end_of-Expression) op t (more_of-Expression b end_of-Expression) at) =
      FormedExpression C a × FormedExpression C b × (strength op ≤ tightness a) × (strength op < tightness b) × IsNoPointer a op
  FormedExpression C (expr.Unary' op s (more_of-Expression e end_of-Expression) at) = FormedExpression C e × (as_unary ≤ tightness e)
  FormedExpression C (expr.New is_global base pointers at) = PlainBase C base
  FormedExpression C (expr.NewWith' is_global base pointers how s args at) = PlainBase C base × FormedRow C args
  FormedExpression C (expr.Delete' is_global s (more_of-Expression e end_of-Expression) at) = FormedExpression C e × (as_unary ≤ tightness e)
  FormedExpression C (expr.Member' s (more_of-Expression e end_of-Expression) op n at) = FormedExpression C e × (as_postfix ≤ tightness e) × IsName n
  FormedExpression C (expr.Call' s (more_of-Expression e end_of-Expression) t args at) = FormedExpression C e × FormedRow C args × (as_postfix ≤ tightness e)
  FormedExpression C (expr.Step' s (more_of-Expression e end_of-Expression) op at) = FormedExpression C e × (as_postfix ≤ tightness e)
  -- a path that names a class is no expression
  FormedExpression C (expr.Name p) = IsPath p × (NamesClass C p → ⊥)
  FormedExpression C (expr.Parenthesized' s (more_of-Expression e end_of-Expression) at) = FormedExpression C e
  FormedExpression C (expr.Construction' base how s args) = PlainBase C base × FormedRow C args
  FormedExpression C (expr.StaticCast' of s (more_of-Expression e end_of-Expression) at) = PlainType C of × FormedExpression C e
  FormedExpression C (expr.OperatorNew' s args at) = FormedRow C args × HasOne args
  FormedExpression C (expr.OperatorDelete' s args at) = FormedRow C args × HasOne args
  FormedExpression C (expr.HandleFunction promise function at) = ClassPathIf C promise
  FormedExpression C (expr.Rethrow at) = Unit {0}
  FormedExpression C (expr.Number num value at) = Unit {0}
  FormedExpression C (expr.Bool value at) = Unit {0}
  FormedExpression C (expr.Nullptr at) = Unit {0}
  FormedExpression C (expr.This at) = Unit {0}
  FormedExpression C (expr.Text text at) = Unit {0}
  FormedExpression C (expr.StandardFunction function at) = Unit {0}
  FormedExpression C (expr.CorunFunction function at) = Unit {0}

  pub FormedRow : {n : _} → List (List ℕ) → Row_of-Expression n → Type 0
  FormedRow C end_of-Expression = Unit {0}
  FormedRow C (more_of-Expression e rest) = FormedExpression C e × FormedRow C rest

-- each of them is formed
abbrev pub FormedAll : List (List ℕ) → List Expression → Type 0
FormedAll C es = AllByRecursion (FormedExpression C) es
