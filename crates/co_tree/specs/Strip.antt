-- A tree with its places set aside: two trees are one but for their spans exactly where these are equal.
use Rattle.std.specs.Prelude.{List, [], ◌∷◌, map, Option}
use Rattle.std.specs.Option.{option_map}
use Rattle.co_base.specs.declared.span.Span.{Span}
use Rattle.co_tree.specs.declared.types.Path.{Path}
use Rattle.co_tree.specs.declared.types.SimpleType.{SimpleType}
use Rattle.co_tree.specs.declared.types.SimpleTypeKind.{SimpleTypeKind}
use Rattle.co_tree.specs.declared.types.SimpleTypeKind.TheVariants as simple
use Rattle.co_tree.specs.declared.types.TypeId.{TypeId}
use Rattle.co_tree.specs.declared.expressions.Expression.{Expression, Row_of-Expression, end_of-Expression, more_of-Expression}
use Rattle.co_tree.specs.declared.expressions.Expression.TheVariants as expr
use Rattle.co_tree.specs.declared.statements.Initializer.{Initializer}
use Rattle.co_tree.specs.declared.statements.Initializer.TheVariants as init
use Rattle.co_tree.specs.declared.statements.Variable.{Variable}
use Rattle.co_tree.specs.declared.statements.Caught.{Caught}
use Rattle.co_tree.specs.declared.statements.Caught.TheVariants as caught_as
use Rattle.co_tree.specs.declared.statements.ForInit.{ForInit}
use Rattle.co_tree.specs.declared.statements.ForInit.TheVariants as for_init
use Rattle.co_tree.specs.declared.statements.Returned.{Returned}
use Rattle.co_tree.specs.declared.statements.Returned.TheVariants as returned
use Rattle.co_tree.specs.declared.statements.Block.{Block}
use Rattle.co_tree.specs.declared.statements.Handler.{Handler}
use Rattle.co_tree.specs.declared.statements.Statement.{Statement, Row_of-Statement, end_of-Statement, more_of-Statement, Row_of-Handler, end_of-Handler, more_of-Handler}
use Rattle.co_tree.specs.declared.statements.Statement.TheVariants as stmt
use Rattle.co_tree.specs.declared.declarations.Parameter.{Parameter}
use Rattle.co_tree.specs.declared.declarations.ForwardDeclaration.{ForwardDeclaration}
use Rattle.co_tree.specs.declared.declarations.AliasDeclaration.{AliasDeclaration}
use Rattle.co_tree.specs.declared.declarations.Function.{Function}
use Rattle.co_tree.specs.declared.declarations.MemberInitializer.{MemberInitializer}
use Rattle.co_tree.specs.declared.declarations.ConstructorBody.{ConstructorBody}
use Rattle.co_tree.specs.declared.declarations.ConstructorBody.TheVariants as constructor_body
use Rattle.co_tree.specs.declared.declarations.Constructor.{Constructor}
use Rattle.co_tree.specs.declared.declarations.DestructorBody.{DestructorBody}
use Rattle.co_tree.specs.declared.declarations.DestructorBody.TheVariants as destructor_body
use Rattle.co_tree.specs.declared.declarations.Destructor.{Destructor}
use Rattle.co_tree.specs.declared.declarations.ClassDefinition.{ClassDefinition}
use Rattle.co_tree.specs.declared.declarations.MemberDeclaration.{MemberDeclaration, Row_of-MemberDeclaration, end_of-MemberDeclaration, more_of-MemberDeclaration}
use Rattle.co_tree.specs.declared.declarations.MemberDeclaration.TheVariants as member_of
use Rattle.co_tree.specs.declared.declarations.Declaration.{Declaration}
use Rattle.co_tree.specs.declared.declarations.Declaration.TheVariants as declaration
use Rattle.co_tree.specs.declared.declarations.Tree.{Tree}

-- the first place of a file, which stands for every place
abbrev pub first_place : Span
first_place = record { line = 1; col = 1 }

abbrev pub strip_path : Path → Path
strip_path p = record { names = p.names; span = first_place }

abbrev pub strip_kind : SimpleTypeKind → SimpleTypeKind
strip_kind (simple.Handle promise) = simple.Handle (option_map strip_path promise)
strip_kind (simple.Class p) = simple.Class (strip_path p)
strip_kind k = k

abbrev pub strip_base : SimpleType → SimpleType
strip_base b = record { kind = strip_kind b.kind; span = first_place }

abbrev pub strip_type : TypeId → TypeId
strip_type t = record { is_const = t.is_const; base = strip_base t.base; is_const_after = t.is_const_after; pointers = t.pointers; reference = t.reference; span = first_place }

abbrev mutual
  pub strip_expression : Expression → Expression
  strip_expression (expr.Yield' s (more_of-Expression e end_of-Expression) at) = expr.Yield (strip_expression e) first_place
  strip_expression (expr.Rethrow at) = expr.Rethrow first_place
  strip_expression (expr.Throw' s (more_of-Expression e end_of-Expression) at) = expr.Throw (strip_expression e) first_place
  strip_expression (expr.Assignment' s (more_of-Expression a end_of-Expression) op t (more_of-Expression b end_of-Expression) at) = expr.Assignment (strip_expression a) op (strip_expression b) first_place
  strip_expression (expr.Conditional' s (more_of-Expression a end_of-Expression) t (more_of-Expression b end_of-Expression) u (more_of-Expression c end_of-Expression) at) =
      expr.Conditional (strip_expression a) (strip_expression b) (strip_expression c) first_place
  strip_expression (expr.Binary' s (more_of-Expression a end_of-Expression) op t (more_of-Expression b end_of-Expression) at) = expr.Binary (strip_expression a) op (strip_expression b) first_place
  strip_expression (expr.Unary' op s (more_of-Expression e end_of-Expression) at) = expr.Unary op (strip_expression e) first_place
  strip_expression (expr.New is_global base pointers at) = expr.New is_global (strip_base base) pointers first_place
  strip_expression (expr.NewWith' is_global base pointers how s args at) = expr.NewWith is_global (strip_base base) pointers how (strip_row args) first_place
  strip_expression (expr.Delete' is_global s (more_of-Expression e end_of-Expression) at) = expr.Delete is_global (strip_expression e) first_place
  strip_expression (expr.Member' s (more_of-Expression e end_of-Expression) op n at) = expr.Member (strip_expression e) op n first_place
  strip_expression (expr.Call' s (more_of-Expression e end_of-Expression) t args at) = expr.Call (strip_expression e) (strip_row args) first_place
  strip_expression (expr.Step' s (more_of-Expression e end_of-Expression) op at) = expr.Step (strip_expression e) op first_place
  strip_expression (expr.Number num value at) = expr.Number num value first_place
  strip_expression (expr.Bool value at) = expr.Bool value first_place
  strip_expression (expr.Nullptr at) = expr.Nullptr first_place
  strip_expression (expr.This at) = expr.This first_place
  strip_expression (expr.Name p) = expr.Name (strip_path p)
  strip_expression (expr.Parenthesized' s (more_of-Expression e end_of-Expression) at) = expr.Parenthesized (strip_expression e) first_place
  strip_expression (expr.Construction' base how s args) = expr.Construction (strip_base base) how (strip_row args)
  strip_expression (expr.Text text at) = expr.Text text first_place
  strip_expression (expr.StaticCast' of s (more_of-Expression e end_of-Expression) at) = expr.StaticCast (strip_type of) (strip_expression e) first_place
  strip_expression (expr.OperatorNew' s args at) = expr.OperatorNew (strip_row args) first_place
  strip_expression (expr.OperatorDelete' s args at) = expr.OperatorDelete (strip_row args) first_place
  strip_expression (expr.HandleFunction promise function at) = expr.HandleFunction (option_map strip_path promise) function first_place
  strip_expression (expr.StandardFunction function at) = expr.StandardFunction function first_place
  strip_expression (expr.CorunFunction function at) = expr.CorunFunction function first_place

  pub strip_row : {n : _} → Row_of-Expression n → List Expression
  strip_row end_of-Expression = []
  strip_row (more_of-Expression e rest) = strip_expression e ∷ strip_row rest

abbrev pub strip_all : List Expression → List Expression
strip_all es = map strip_expression es

abbrev pub strip_if : Option Expression → Option Expression
strip_if e = option_map strip_expression e

abbrev pub strip_initializer : Initializer → Initializer
strip_initializer init.None = init.None
strip_initializer (init.Equals e) = init.Equals (strip_expression e)
strip_initializer (init.EqualsBraces es) = init.EqualsBraces (strip_all es)
strip_initializer (init.Parentheses es) = init.Parentheses (strip_all es)
strip_initializer (init.Braces es) = init.Braces (strip_all es)

abbrev pub strip_variable : Variable → Variable
strip_variable v = record { of = strip_type v.of; name = v.name; initializer = strip_initializer v.initializer; span = first_place }

abbrev pub strip_parameter : Parameter → Parameter
strip_parameter p = record { of = strip_type p.of; name = p.name; span = first_place }

abbrev pub strip_caught : Caught → Caught
strip_caught caught_as.All = caught_as.All
strip_caught (caught_as.One p) = caught_as.One (strip_parameter p)

abbrev pub strip_init : ForInit → ForInit
strip_init for_init.None = for_init.None
strip_init (for_init.Local v) = for_init.Local (strip_variable v)
strip_init (for_init.Expression e) = for_init.Expression (strip_expression e)

abbrev pub strip_returned : Returned → Returned
strip_returned returned.None = returned.None
strip_returned (returned.Value e) = returned.Value (strip_expression e)
strip_returned (returned.Braces es) = returned.Braces (strip_all es)

abbrev mutual
  pub strip_statement : Statement → Statement
  strip_statement (stmt.Block' s row at) = stmt.Block (record { statements = strip_statements row; span = first_place })
  strip_statement (stmt.Empty at) = stmt.Empty first_place
  strip_statement (stmt.Local v) = stmt.Local (strip_variable v)
  strip_statement (stmt.Expression e at) = stmt.Expression (strip_expression e) first_place
  strip_statement (stmt.Try' s row at t handlers end) = stmt.Try (record { statements = strip_statements row; span = first_place }) (strip_handlers handlers) first_place
  strip_statement (stmt.If' e s (more_of-Statement then end_of-Statement) at) = stmt.If (strip_expression e) (strip_statement then) first_place
  strip_statement (stmt.IfElse' e s (more_of-Statement then end_of-Statement) t (more_of-Statement other end_of-Statement) at) =
      stmt.IfElse (strip_expression e) (strip_statement then) (strip_statement other) first_place
  strip_statement (stmt.While' e s (more_of-Statement body end_of-Statement) at) = stmt.While (strip_expression e) (strip_statement body) first_place
  strip_statement (stmt.For' init c step s (more_of-Statement body end_of-Statement) at) = stmt.For (strip_init init) (strip_if c) (strip_if step) (strip_statement body) first_place
  strip_statement (stmt.Break at) = stmt.Break first_place
  strip_statement (stmt.Continue at) = stmt.Continue first_place
  strip_statement (stmt.Return value at) = stmt.Return (strip_returned value) first_place
  strip_statement (stmt.CoReturn value at) = stmt.CoReturn (strip_if value) first_place

  pub strip_statements : {n : _} → Row_of-Statement n → List Statement
  strip_statements end_of-Statement = []
  strip_statements (more_of-Statement s rest) = strip_statement s ∷ strip_statements rest

  pub strip_handlers : {n : _} → Row_of-Handler n → List Handler
  strip_handlers end_of-Handler = []
  strip_handlers (more_of-Handler caught s row at span rest) =
      record { caught = strip_caught caught; body = record { statements = strip_statements row; span = first_place }; span = first_place } ∷ strip_handlers rest

abbrev pub strip_block : Block → Block
strip_block b = record { statements = map strip_statement b.statements; span = first_place }

abbrev pub strip_forward : ForwardDeclaration → ForwardDeclaration
strip_forward f = record { key = f.key; name = f.name; span = first_place }

abbrev pub strip_alias : AliasDeclaration → AliasDeclaration
strip_alias a = record { name = a.name; of = strip_type a.of; span = first_place }

abbrev pub strip_function : Function → Function
strip_function f = record {
  specifiers = f.specifiers;
  result = strip_type f.result;
  name = f.name;
  parameters = map strip_parameter f.parameters;
  is_const = f.is_const;
  is_noexcept = f.is_noexcept;
  body = option_map strip_block f.body;
  span = first_place;
}

abbrev pub strip_member_initializer : MemberInitializer → MemberInitializer
strip_member_initializer i = record { name = i.name; brackets = i.brackets; arguments = strip_all i.arguments; span = first_place }

abbrev pub strip_constructor_body : ConstructorBody → ConstructorBody
strip_constructor_body (constructor_body.Block is b) = constructor_body.Block (map strip_member_initializer is) (strip_block b)
strip_constructor_body constructor_body.Default = constructor_body.Default
strip_constructor_body constructor_body.Delete = constructor_body.Delete

abbrev pub strip_constructor : Constructor → Constructor
strip_constructor c = record {
  is_explicit = c.is_explicit;
  name = c.name;
  parameters = map strip_parameter c.parameters;
  is_noexcept = c.is_noexcept;
  body = strip_constructor_body c.body;
  span = first_place;
}

abbrev pub strip_destructor_body : DestructorBody → DestructorBody
strip_destructor_body (destructor_body.Block b) = destructor_body.Block (strip_block b)
strip_destructor_body destructor_body.Default = destructor_body.Default

abbrev pub strip_destructor : Destructor → Destructor
strip_destructor d = record { name = d.name; is_noexcept = d.is_noexcept; body = strip_destructor_body d.body; span = first_place }

abbrev mutual
  pub strip_member : MemberDeclaration → MemberDeclaration
  strip_member (member_of.Access specifier at) = member_of.Access specifier first_place
  strip_member (member_of.Class' key n s row at) = member_of.Class key n (strip_members row) first_place
  strip_member (member_of.Forward f) = member_of.Forward (strip_forward f)
  strip_member (member_of.Alias a) = member_of.Alias (strip_alias a)
  strip_member (member_of.Field v) = member_of.Field (strip_variable v)
  strip_member (member_of.Method f) = member_of.Method (strip_function f)
  strip_member (member_of.Constructor c) = member_of.Constructor (strip_constructor c)
  strip_member (member_of.Destructor d) = member_of.Destructor (strip_destructor d)

  pub strip_members : {n : _} → Row_of-MemberDeclaration n → List MemberDeclaration
  strip_members end_of-MemberDeclaration = []
  strip_members (more_of-MemberDeclaration d rest) = strip_member d ∷ strip_members rest

abbrev pub strip_class : ClassDefinition → ClassDefinition
strip_class c = record { key = c.key; name = c.name; members = map strip_member c.members; span = first_place }

abbrev pub strip_declaration : Declaration → Declaration
strip_declaration (declaration.Class c) = declaration.Class (strip_class c)
strip_declaration (declaration.Forward f) = declaration.Forward (strip_forward f)
strip_declaration (declaration.Alias a) = declaration.Alias (strip_alias a)
strip_declaration (declaration.Global v) = declaration.Global (strip_variable v)
strip_declaration (declaration.Function f) = declaration.Function (strip_function f)

abbrev pub strip : Tree → Tree
strip tree = record { declarations = map strip_declaration tree.declarations }
