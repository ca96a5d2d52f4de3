-- What is so of an expression that is read.
use Rattle.std.specs.Prelude.{◌≡◌, ℕ, ◌≤◌, Bool, true, false, not, List, Option, Some, None, IsTrue, IsFalse, codes}
use Rattle.co_lex.specs.declared.token.Token.{Token}
use Rattle.co_tree.specs.declared.expressions.BinaryOperator.{BinaryOperator}
use Rattle.co_tree.specs.declared.expressions.Expression.{Expression}
use Rattle.co_tree.specs.Sentence as tree
use Rattle.co_tree.specs.Formed.{BeginsWithType, FormedExpression, tightness, ends_in_new, is_of_type}
use Rattle.co_tree.specs.declared.types.SimpleTypeKind.{SimpleTypeKind}
use Rattle.co_reader.specs.declared.lead.Lead.{Lead}
use Rattle.co_reader.specs.declared.lead.Lead.TheVariants as l
use Rattle.co_reader.specs.Leads.{binary_operator, builtin}
use Rattle.co_reader.specs.Reading.{lead, spells}
use Rattle.co_reads.specs.Spells.{Spells}

-- The tokens spell it up to these, and it is formed.
pub record IsRead (C : List (List ℕ)) (ts : List Token) (e : Expression) (left : List Token) : Type 0 where
  pub spelled : Spells (tree.expression e) ts left
  pub formed : FormedExpression C e

-- whether the next token is that of a type, or a name that may be one's
abbrev pub is_of_types : Option SimpleTypeKind → Lead → Bool → Bool
is_of_types (Some kind) k is_run = true
is_of_types None l.Name is_run = not is_run
is_of_types None k is_run = false

abbrev pub begins_type : List Token → Bool
begins_type ts = is_of_types (builtin (lead ts)) (lead ts) (spells (codes "corun") ts)

-- a type stands first in it only where one comes next
abbrev pub IsLed : List Token → Expression → Type 0
IsLed ts e = BeginsWithType e → begins_type ts ≡ true

-- The same of a whole expression, and which token it begins with.
pub record IsWhole (C : List (List ℕ)) (ts : List Token) (e : Expression) (left : List Token) : Type 0 where
  pub spelled : Spells (tree.expression e) ts left
  pub formed : FormedExpression C e
  pub led : IsLed ts e

-- no `*`, `&` or `&&` comes next
abbrev pub IsNoPointerNext : List Token → Type 0
IsNoPointerNext left = (op : BinaryOperator) → binary_operator (lead left) ≡ Some op → IsFalse (is_of_type op)

-- It is so tight, and no `*`, `&` or `&&` stands behind the type of a `new` that it ends in.
pub record IsOperand (C : List (List ℕ)) (least : ℕ) (ts : List Token) (e : Expression) (left : List Token) : Type 0 where
  pub spelled : Spells (tree.expression e) ts left
  pub formed : FormedExpression C e
  pub tight : least ≤ tightness e
  pub new : IsTrue (ends_in_new e) → IsNoPointerNext left
