-- What the grammar and its side sentences ask of statements, declarations and a whole tree beyond their shape.
use Rattle.std.specs.Prelude.{◌≡◌, ℕ, List, [], ◌∷◌, Bool, true, false, Option, None, Some, IsFalse}
use Rattle.std.specs.List.{AllByRecursion}
use Rattle.co_lex.specs.declared.token.Token.{Token}
use Rattle.co_tree.specs.declared.declarations.Parameter.{Parameter}
use Rattle.co_tree.specs.declared.declarations.ForwardDeclaration.{ForwardDeclaration}
use Rattle.co_tree.specs.declared.declarations.AliasDeclaration.{AliasDeclaration}
use Rattle.co_tree.specs.declared.declarations.FunctionName.{FunctionName}
use Rattle.co_tree.specs.declared.declarations.FunctionName.TheVariants as function_name
use Rattle.co_tree.specs.declared.declarations.Function.{Function}
use Rattle.co_tree.specs.declared.declarations.MemberInitializer.{MemberInitializer}
use Rattle.co_tree.specs.declared.declarations.ConstructorBody.{ConstructorBody}
use Rattle.co_tree.specs.declared.declarations.ConstructorBody.TheVariants as constructor_body
use Rattle.co_tree.specs.declared.declarations.Constructor.{Constructor}
use Rattle.co_tree.specs.declared.declarations.DestructorBody.{DestructorBody}
use Rattle.co_tree.specs.declared.declarations.DestructorBody.TheVariants as destructor_body
use Rattle.co_tree.specs.declared.declarations.Destructor.{Destructor}
use Rattle.co_tree.specs.declared.declarations.ClassDefinition.{ClassDefinition}
use Rattle.co_tree.specs.declared.declarations.MemberDeclaration.{MemberDeclaration, Row_of-MemberDeclaration, end_of-MemberDeclaration, more_of-MemberDeclaration}
use Rattle.co_tree.specs.declared.declarations.MemberDeclaration.TheVariants as member_of
use Rattle.co_tree.specs.declared.declarations.Declaration.{Declaration}
use Rattle.co_tree.specs.declared.declarations.Declaration.TheVariants as declaration
use Rattle.co_tree.specs.declared.declarations.Tree.{Tree}
use Rattle.co_tree.specs.declared.expressions.Expression.{Expression}
use Rattle.co_tree.specs.declared.statements.Initializer.{Initializer}
use Rattle.co_tree.specs.declared.statements.Initializer.TheVariants as init
use Rattle.co_tree.specs.declared.statements.Variable.{Variable}
use Rattle.co_tree.specs.declared.statements.Caught.{Caught}
use Rattle.co_tree.specs.declared.statements.Caught.TheVariants as caught
use Rattle.co_tree.specs.declared.statements.ForInit.{ForInit}
use Rattle.co_tree.specs.declared.statements.ForInit.TheVariants as for_init
use Rattle.co_tree.specs.declared.statements.Returned.{Returned}
use Rattle.co_tree.specs.declared.statements.Returned.TheVariants as returned
use Rattle.co_tree.specs.declared.statements.Block.{Block}
use Rattle.co_tree.specs.declared.statements.Statement.{Statement, Row_of-Statement, end_of-Statement, more_of-Statement, Row_of-Handler, end_of-Handler, more_of-Handler}
use Rattle.co_tree.specs.declared.statements.Statement.TheVariants as stmt
use Rattle.co_tree.specs.Derives.{Reads}
use Rattle.co_tree.specs.Declarations.{sentence_of}
use Rattle.co_tree.specs.Formed.{IsName, PlainType, LocalType, ResultType, FormedExpression, FormedAll, BeginsWithType, BeginsWithClassCall}

-- ---- variables and parameters

abbrev pub FormedIf : List (List ℕ) → Option Expression → Type 0
FormedIf C None = Unit {0}
FormedIf C (Some e) = FormedExpression C e

-- the first argument does not begin with a type, and there is one
abbrev pub AreLocalArguments : List Expression → Type 0
AreLocalArguments [] = ⊥
AreLocalArguments (e ∷ es) = BeginsWithType e → ⊥

-- of a local
abbrev pub LocalInitializer : List (List ℕ) → Initializer → Type 0
LocalInitializer C init.None = Unit {0}
LocalInitializer C (init.Equals e) = FormedExpression C e
LocalInitializer C (init.EqualsBraces es) = FormedAll C es
LocalInitializer C (init.Parentheses es) = FormedAll C es × AreLocalArguments es
LocalInitializer C (init.Braces es) = FormedAll C es

-- of a global or a data member: `= e`, braces or none
abbrev pub FieldInitializer : List (List ℕ) → Initializer → Type 0
FieldInitializer C init.None = Unit {0}
FieldInitializer C (init.Equals e) = FormedExpression C e
FieldInitializer C (init.EqualsBraces es) = ⊥
FieldInitializer C (init.Parentheses es) = ⊥
FieldInitializer C (init.Braces es) = FormedAll C es

abbrev pub FormedLocal : List (List ℕ) → Variable → Type 0
FormedLocal C v = LocalType C v.of × IsName v.name × LocalInitializer C v.initializer

abbrev pub FormedField : List (List ℕ) → Variable → Type 0
FormedField C v = PlainType C v.of × IsName v.name × FieldInitializer C v.initializer

abbrev pub IsNameIf : Option (List ℕ) → Type 0
IsNameIf None = Unit {0}
IsNameIf (Some n) = IsName n

abbrev pub FormedParameter : List (List ℕ) → Parameter → Type 0
FormedParameter C p = PlainType C p.of × IsNameIf p.name

abbrev pub FormedParameters : List (List ℕ) → List Parameter → Type 0
FormedParameters C ps = AllByRecursion (FormedParameter C) ps

-- ---- statements

abbrev pub FormedCaught : List (List ℕ) → Caught → Type 0
FormedCaught C caught.All = Unit {0}
FormedCaught C (caught.One p) = FormedParameter C p

-- A statement does not begin with the path of a class and a `(`.
abbrev pub FormedStatementExpression : List (List ℕ) → Expression → Type 0
FormedStatementExpression C e = FormedExpression C e × (BeginsWithClassCall e → ⊥)

abbrev pub FormedForInit : List (List ℕ) → ForInit → Type 0
FormedForInit C for_init.None = Unit {0}
FormedForInit C (for_init.Local v) = FormedLocal C v
FormedForInit C (for_init.Expression e) = FormedStatementExpression C e

abbrev pub FormedReturned : List (List ℕ) → Returned → Type 0
FormedReturned C returned.None = Unit {0}
FormedReturned C (returned.Value e) = FormedExpression C e
FormedReturned C (returned.Braces es) = FormedAll C es

-- its last tokens are those of an `if` without `else`, to which an `else` behind it would belong
abbrev pub ends_in_if : Statement → Bool
ends_in_if (stmt.If' e s then at) = true
ends_in_if (stmt.IfElse' e s then t (more_of-Statement other end_of-Statement) at) = ends_in_if other
ends_in_if (stmt.While' e s (more_of-Statement body end_of-Statement) at) = ends_in_if body
ends_in_if (stmt.For' init c step s (more_of-Statement body end_of-Statement) at) = ends_in_if body
ends_in_if s = false

-- there is at least one handler
abbrev pub HasHandler : {n : _} → Row_of-Handler n → Type 0
HasHandler end_of-Handler = ⊥
HasHandler (more_of-Handler caught s row at span rest) = Unit {0}

abbrev mutual
  pub FormedStatement : List (List ℕ) → Statement → Type 0
  FormedStatement C (stmt.Block' s row at) = FormedStatements C row
  FormedStatement C (stmt.Empty at) = Unit {0}
  FormedStatement C (stmt.Local v) = FormedLocal C v
  FormedStatement C (stmt.Expression e at) = FormedStatementExpression C e
  FormedStatement C (stmt.Try' s row at t hs end) = FormedStatements C row × FormedHandlers C hs × HasHandler hs
  FormedStatement C (stmt.If' e s (more_of-Statement then end_of-Statement) at) = FormedExpression C e × FormedStatement C then
  -- an `else` belongs to the nearest `if`
  FormedStatement C (stmt.IfElse' e s (more_of-Statement then end_of-Statement) t (more_of-Statement other end_of-Statement) at) =
      FormedExpression C e × FormedStatement C then × FormedStatement C other × IsFalse (ends_in_if then)
  FormedStatement C (stmt.While' e s (more_of-Statement body end_of-Statement) at) = FormedExpression C e × FormedStatement C body
  FormedStatement C (stmt.For' init c step s (more_of-Statement body end_of-Statement) at) =
      FormedForInit C init × FormedIf C c × FormedIf C step × FormedStatement C body
  FormedStatement C (stmt.Break at) = Unit {0}
  FormedStatement C (stmt.Continue at) = Unit {0}
  FormedStatement C (stmt.Return value at) = FormedReturned C value
  FormedStatement C (stmt.CoReturn value at) = FormedIf C value

  pub FormedStatements : {n : _} → List (List ℕ) → Row_of-Statement n → Type 0
  FormedStatements C end_of-Statement = Unit {0}
  FormedStatements C (more_of-Statement s rest) = FormedStatement C s × FormedStatements C rest

  pub FormedHandlers : {n : _} → List (List ℕ) → Row_of-Handler n → Type 0
  FormedHandlers C end_of-Handler = Unit {0}
  FormedHandlers C (more_of-Handler caught s row at span rest) = FormedCaught C caught × FormedStatements C row × FormedHandlers C rest

abbrev pub FormedBlock : List (List ℕ) → Block → Type 0
FormedBlock C b = AllByRecursion (FormedStatement C) b.statements

-- ---- declarations

-- the name of a function of the file: no `operator new` and no `operator delete`
abbrev pub FileName : FunctionName → Type 0
FileName (function_name.Name n) = IsName n
FileName function_name.OperatorCoAwait = Unit {0}
FileName function_name.OperatorNew = ⊥
FileName function_name.OperatorDelete = ⊥

abbrev pub MemberName : FunctionName → Type 0
MemberName (function_name.Name n) = IsName n
MemberName function_name.OperatorCoAwait = Unit {0}
MemberName function_name.OperatorNew = Unit {0}
MemberName function_name.OperatorDelete = Unit {0}

abbrev pub FormedBody : List (List ℕ) → Option Block → Type 0
FormedBody C None = Unit {0}
FormedBody C (Some b) = FormedBlock C b

-- a function of a class has a body
abbrev pub HasBody : Option Block → Type 0
HasBody None = ⊥
HasBody (Some b) = Unit {0}

pub record FormedFunction (C : List (List ℕ)) (f : Function) : Type 0 where
  pub result : ResultType C f.result
  pub name : FileName f.name
  pub parameters : FormedParameters C f.parameters
  -- `const` stands in a class alone
  pub is_const : f.is_const ≡ false
  pub body : FormedBody C f.body

pub record FormedMethod (C : List (List ℕ)) (f : Function) : Type 0 where
  pub result : ResultType C f.result
  pub name : MemberName f.name
  pub parameters : FormedParameters C f.parameters
  pub has_body : HasBody f.body
  pub body : FormedBody C f.body

abbrev pub FormedForward : ForwardDeclaration → Type 0
FormedForward f = IsName f.name

abbrev pub FormedAlias : List (List ℕ) → AliasDeclaration → Type 0
FormedAlias C a = IsName a.name × PlainType C a.of

abbrev pub FormedMemberInitializer : List (List ℕ) → MemberInitializer → Type 0
FormedMemberInitializer C i = IsName i.name × FormedAll C i.arguments

abbrev pub FormedConstructorBody : List (List ℕ) → ConstructorBody → Type 0
FormedConstructorBody C (constructor_body.Block is b) = AllByRecursion (FormedMemberInitializer C) is × FormedBlock C b
FormedConstructorBody C constructor_body.Default = Unit {0}
FormedConstructorBody C constructor_body.Delete = Unit {0}

abbrev pub FormedConstructor : List (List ℕ) → Constructor → Type 0
FormedConstructor C c = IsName c.name × FormedParameters C c.parameters × FormedConstructorBody C c.body

abbrev pub FormedDestructorBody : List (List ℕ) → DestructorBody → Type 0
FormedDestructorBody C (destructor_body.Block b) = FormedBlock C b
FormedDestructorBody C destructor_body.Default = Unit {0}

abbrev pub FormedDestructor : List (List ℕ) → Destructor → Type 0
FormedDestructor C d = IsName d.name × FormedDestructorBody C d.body

abbrev mutual
  pub FormedMember : List (List ℕ) → MemberDeclaration → Type 0
  FormedMember C (member_of.Access specifier at) = Unit {0}
  FormedMember C (member_of.Class' key n s row at) = IsName n × FormedMembers C row
  FormedMember C (member_of.Forward f) = FormedForward f
  FormedMember C (member_of.Alias a) = FormedAlias C a
  FormedMember C (member_of.Field v) = FormedField C v
  FormedMember C (member_of.Method f) = FormedMethod C f
  FormedMember C (member_of.Constructor c) = FormedConstructor C c
  FormedMember C (member_of.Destructor d) = FormedDestructor C d

  pub FormedMembers : {n : _} → List (List ℕ) → Row_of-MemberDeclaration n → Type 0
  FormedMembers C end_of-MemberDeclaration = Unit {0}
  FormedMembers C (more_of-MemberDeclaration d rest) = FormedMember C d × FormedMembers C rest

abbrev pub FormedClass : List (List ℕ) → ClassDefinition → Type 0
FormedClass C c = IsName c.name × AllByRecursion (FormedMember C) c.members

abbrev pub FormedDeclaration : List (List ℕ) → Declaration → Type 0
FormedDeclaration C (declaration.Class c) = FormedClass C c
FormedDeclaration C (declaration.Forward f) = FormedForward f
FormedDeclaration C (declaration.Alias a) = FormedAlias C a
FormedDeclaration C (declaration.Global v) = FormedField C v
FormedDeclaration C (declaration.Function f) = FormedFunction C f

-- The tree is formed where C are the names of the classes.
abbrev pub Formed : List (List ℕ) → Tree → Type 0
Formed C tree = AllByRecursion (FormedDeclaration C) tree.declarations

-- The tree derives the tokens where C are the names of the classes: it is formed, the tokens are those of its sentence, and each
-- node has the place of its first token.
pub record Derives (C : List (List ℕ)) (tree : Tree) (tokens : List Token) : Type 0 where
  pub formed : Formed C tree
  pub reads : Reads (sentence_of tree) tokens
