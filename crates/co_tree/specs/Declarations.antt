-- The grammar of declarations read aloud, one case for each alternative of each rule.
use Rattle.std.specs.Prelude.{List, [], ◌∷◌, ◌++◌, Option, None, Some}
use Rattle.co_lex.specs.declared.token.TokenKind.TheVariants as kind
use Rattle.co_lex.specs.declared.token.Word.{Word}
use Rattle.co_lex.specs.declared.token.Word.TheVariants as word
use Rattle.co_lex.specs.declared.token.Mark.TheVariants as mark
use Rattle.co_tree.specs.declared.declarations.Parameter.{Parameter}
use Rattle.co_tree.specs.declared.declarations.ClassKey.{ClassKey}
use Rattle.co_tree.specs.declared.declarations.ClassKey.TheVariants as key
use Rattle.co_tree.specs.declared.declarations.ForwardDeclaration.{ForwardDeclaration}
use Rattle.co_tree.specs.declared.declarations.AliasDeclaration.{AliasDeclaration}
use Rattle.co_tree.specs.declared.declarations.FunctionSpecifier.{FunctionSpecifier}
use Rattle.co_tree.specs.declared.declarations.FunctionSpecifier.TheVariants as specifier
use Rattle.co_tree.specs.declared.declarations.FunctionName.{FunctionName}
use Rattle.co_tree.specs.declared.declarations.FunctionName.TheVariants as function_name
use Rattle.co_tree.specs.declared.declarations.Function.{Function}
use Rattle.co_tree.specs.declared.declarations.MemberInitializer.{MemberInitializer}
use Rattle.co_tree.specs.declared.declarations.ConstructorBody.{ConstructorBody}
use Rattle.co_tree.specs.declared.declarations.ConstructorBody.TheVariants as constructor_body
use Rattle.co_tree.specs.declared.declarations.Constructor.{Constructor}
use Rattle.co_tree.specs.declared.declarations.DestructorBody.{DestructorBody}
use Rattle.co_tree.specs.declared.declarations.DestructorBody.TheVariants as destructor_body
use Rattle.co_tree.specs.declared.declarations.Destructor.{Destructor}
use Rattle.co_tree.specs.declared.declarations.AccessSpecifier.{AccessSpecifier}
use Rattle.co_tree.specs.declared.declarations.AccessSpecifier.TheVariants as access
use Rattle.co_tree.specs.declared.declarations.ClassDefinition.{ClassDefinition}
use Rattle.co_tree.specs.declared.declarations.MemberDeclaration.{MemberDeclaration, Row_of-MemberDeclaration, end_of-MemberDeclaration, more_of-MemberDeclaration}
use Rattle.co_tree.specs.declared.declarations.MemberDeclaration.TheVariants as member_of
use Rattle.co_tree.specs.declared.declarations.Declaration.{Declaration}
use Rattle.co_tree.specs.declared.declarations.Declaration.TheVariants as declaration
use Rattle.co_tree.specs.declared.declarations.Tree.{Tree}
use Rattle.co_tree.specs.declared.statements.Block.{Block}
use Rattle.co_tree.specs.Piece.{Piece, token, line, node, w, m, name, in_parentheses, in_braces, if_said}
use Rattle.co_tree.specs.Types.{type_id}
use Rattle.co_tree.specs.Sentence.{arguments, in_brackets}
use Rattle.co_tree.specs.Statements.{variable, parameter, block}

-- key = "struct" | "class"
abbrev pub key_word : ClassKey → Word
key_word key.Struct = word.Struct
key_word key.Class = word.Class

-- forward = key NAME ";"
abbrev pub forward : ForwardDeclaration → List Piece
forward f = node f.span ∷ w (key_word f.key) ∷ name f.name ∷ m mark.Semicolon ∷ []

-- alias = "using" NAME "=" type ";"
abbrev pub alias : AliasDeclaration → List Piece
alias a = node a.span ∷ w word.Using ∷ name a.name ∷ m mark.Assign ∷ (type_id a.of ++ m mark.Semicolon ∷ [])

-- { "static" | "inline" }
abbrev pub specifier_word : FunctionSpecifier → Word
specifier_word specifier.Static = word.Static
specifier_word specifier.Inline = word.Inline

abbrev pub specifiers : List FunctionSpecifier → List Piece
specifiers [] = []
specifiers (s ∷ rest) = w (specifier_word s) ∷ specifiers rest

-- fname = NAME | "operator" ( "co_await" | "new" | "delete" )
abbrev pub function_named : FunctionName → List Piece
function_named (function_name.Name n) = name n ∷ []
function_named function_name.OperatorCoAwait = w word.Operator ∷ w word.CoAwait ∷ []
function_named function_name.OperatorNew = w word.Operator ∷ w word.New ∷ []
function_named function_name.OperatorDelete = w word.Operator ∷ w word.Delete ∷ []

-- { "," param }
abbrev pub parameters_after : List Parameter → List Piece
parameters_after [] = []
parameters_after (p ∷ ps) = m mark.Comma ∷ (parameter p ++ parameters_after ps)

-- [ params ], where params = param { "," param }
abbrev pub parameters : List Parameter → List Piece
parameters [] = []
parameters (p ∷ ps) = parameter p ++ parameters_after ps

-- block | ";"
abbrev pub block_or_semicolon : Option Block → List Piece
block_or_semicolon None = m mark.Semicolon ∷ []
block_or_semicolon (Some b) = block b

-- function = { "static" | "inline" } type ( NAME | "operator" "co_await" ) "(" [ params ] ")" [ "noexcept" ] ( block | ";" )
-- method = { "static" | "inline" } type fname "(" [ params ] ")" [ "const" ] [ "noexcept" ] block
abbrev pub function : Function → List Piece
function f =
    node f.span ∷ (specifiers f.specifiers ++ (type_id f.result ++ (function_named f.name ++ (in_parentheses (parameters f.parameters)
    ++ (if_said f.is_const (w word.Const) ++ (if_said f.is_noexcept (w word.Noexcept) ++ block_or_semicolon f.body))))))

-- "(" [ args ] ")" | braces
abbrev pub bracketed : MemberInitializer → List Piece
bracketed i = in_brackets i.brackets (arguments i.arguments)

-- init = NAME ( "(" [ args ] ")" | braces )
abbrev pub member_initializer : MemberInitializer → List Piece
member_initializer i = node i.span ∷ name i.name ∷ bracketed i

-- { "," init }
abbrev pub member_initializers_after : List MemberInitializer → List Piece
member_initializers_after [] = []
member_initializers_after (i ∷ is) = m mark.Comma ∷ (member_initializer i ++ member_initializers_after is)

-- [ ":" init { "," init } ]
abbrev pub member_initializers : List MemberInitializer → List Piece
member_initializers [] = []
member_initializers (i ∷ is) = m mark.Colon ∷ (member_initializer i ++ member_initializers_after is)

-- [ ":" init { "," init } ] block | "=" ( "default" | "delete" ) ";"
abbrev pub constructor_end : ConstructorBody → List Piece
constructor_end (constructor_body.Block is b) = member_initializers is ++ block b
constructor_end constructor_body.Default = m mark.Assign ∷ w word.Default ∷ m mark.Semicolon ∷ []
constructor_end constructor_body.Delete = m mark.Assign ∷ w word.Delete ∷ m mark.Semicolon ∷ []

-- ctor = [ "explicit" ] NAME "(" [ params ] ")" [ "noexcept" ] ( [ ":" init { "," init } ] block | "=" ( "default" | "delete" ) ";" )
abbrev pub constructor : Constructor → List Piece
constructor c =
    node c.span ∷ (if_said c.is_explicit (w word.Explicit) ++ name c.name ∷ (in_parentheses (parameters c.parameters)
    ++ (if_said c.is_noexcept (w word.Noexcept) ++ constructor_end c.body)))

-- block | "=" "default" ";"
abbrev pub destructor_end : DestructorBody → List Piece
destructor_end (destructor_body.Block b) = block b
destructor_end destructor_body.Default = m mark.Assign ∷ w word.Default ∷ m mark.Semicolon ∷ []

-- dtor = "~" NAME "(" ")" [ "noexcept" ] ( block | "=" "default" ";" )
abbrev pub destructor : Destructor → List Piece
destructor d = node d.span ∷ m mark.Tilde ∷ name d.name ∷ (in_parentheses [] ++ (if_said d.is_noexcept (w word.Noexcept) ++ destructor_end d.body))

-- access = ( "public" | "private" | "protected" ) ":"
abbrev pub access_word : AccessSpecifier → Word
access_word access.Public = word.Public
access_word access.Private = word.Private
access_word access.Protected = word.Protected

abbrev mutual
  -- member = access | class | forward | alias | field | method | ctor | dtor
  pub member : MemberDeclaration → List Piece
  member (member_of.Access specifier at) = line ∷ node at ∷ w (access_word specifier) ∷ m mark.Colon ∷ []
  -- class = key NAME "{" { member } "}" ";"
  member (member_of.Class' key n s row at) = line ∷ node at ∷ w (key_word key) ∷ name n ∷ (in_braces (row_members row) ++ m mark.Semicolon ∷ [])
  member (member_of.Forward f) = line ∷ forward f
  member (member_of.Alias a) = line ∷ alias a
  member (member_of.Field v) = line ∷ variable v
  member (member_of.Method f) = line ∷ function f
  member (member_of.Constructor c) = line ∷ constructor c
  member (member_of.Destructor d) = line ∷ destructor d

  -- { member }
  pub row_members : {n : _} → Row_of-MemberDeclaration n → List Piece
  row_members end_of-MemberDeclaration = []
  row_members (more_of-MemberDeclaration d rest) = member d ++ row_members rest

-- { member }
abbrev pub members : List MemberDeclaration → List Piece
members [] = []
members (d ∷ ds) = member d ++ members ds

-- class = key NAME "{" { member } "}" ";"
abbrev pub class : ClassDefinition → List Piece
class c = node c.span ∷ w (key_word c.key) ∷ name c.name ∷ (in_braces (members c.members) ++ m mark.Semicolon ∷ [])

-- item = class | forward | alias | global | function
abbrev pub item : Declaration → List Piece
item (declaration.Class c) = line ∷ class c
item (declaration.Forward f) = line ∷ forward f
item (declaration.Alias a) = line ∷ alias a
item (declaration.Global v) = line ∷ variable v
item (declaration.Function f) = line ∷ function f

-- { item }
abbrev pub items : List Declaration → List Piece
items [] = []
items (d ∷ ds) = item d ++ items ds

-- file = { item } END
abbrev pub sentence_of : Tree → List Piece
sentence_of tree = items tree.declarations ++ line ∷ token kind.End ∷ []
