-- The grammar of statements read aloud, one case for each alternative of each rule.
use Rattle.std.specs.Prelude.{ℕ, List, [], ◌∷◌, ◌++◌, Option, None, Some}
use Rattle.co_lex.specs.declared.token.Word.TheVariants as word
use Rattle.co_lex.specs.declared.token.Mark.TheVariants as mark
use Rattle.co_tree.specs.declared.declarations.Parameter.{Parameter}
use Rattle.co_tree.specs.declared.expressions.Expression.{Expression}
use Rattle.co_tree.specs.declared.statements.Initializer.{Initializer}
use Rattle.co_tree.specs.declared.statements.Initializer.TheVariants as init
use Rattle.co_tree.specs.declared.statements.Variable.{Variable}
use Rattle.co_tree.specs.declared.statements.Caught.{Caught}
use Rattle.co_tree.specs.declared.statements.Caught.TheVariants as caught
use Rattle.co_tree.specs.declared.statements.ForInit.{ForInit}
use Rattle.co_tree.specs.declared.statements.ForInit.TheVariants as for_init
use Rattle.co_tree.specs.declared.statements.Returned.{Returned}
use Rattle.co_tree.specs.declared.statements.Returned.TheVariants as returned
use Rattle.co_tree.specs.declared.statements.Block.{Block}
use Rattle.co_tree.specs.declared.statements.Handler.{Handler}
use Rattle.co_tree.specs.declared.statements.Statement.{Statement, Row_of-Statement, end_of-Statement, more_of-Statement, Row_of-Handler, end_of-Handler, more_of-Handler}
use Rattle.co_tree.specs.declared.statements.Statement.TheVariants as stmt
use Rattle.co_tree.specs.Piece.{Piece, line, node, opens, w, m, name, rule, in_parentheses, in_braces}
use Rattle.co_tree.specs.Types.{type_id}
use Rattle.co_tree.specs.Sentence.{expression, arguments}

-- expr
abbrev pub full : Expression → List Piece
full e = rule (expression e)

-- [ expr ]
abbrev pub full_if : Option Expression → List Piece
full_if None = []
full_if (Some e) = full e

-- braces = "{" [ args ] "}"
abbrev pub braces : List Expression → List Piece
braces es = in_braces (arguments es)

-- [ "=" ( expr | braces ) | "(" args ")" | braces ]
abbrev pub initializer : Initializer → List Piece
initializer init.None = []
initializer (init.Equals e) = m mark.Assign ∷ full e
initializer (init.EqualsBraces es) = m mark.Assign ∷ braces es
initializer (init.Parentheses es) = in_parentheses (arguments es)
initializer (init.Braces es) = braces es

-- local = type NAME [ "=" ( expr | braces ) | "(" args ")" | braces ] ";"
-- field = type NAME [ "=" expr | braces ] ";"
-- global = type NAME [ "=" expr | braces ] ";"
abbrev pub variable : Variable → List Piece
variable v = node v.span ∷ (type_id v.of ++ name v.name ∷ (initializer v.initializer ++ m mark.Semicolon ∷ []))

-- [ NAME ]
abbrev pub name_if : Option (List ℕ) → List Piece
name_if None = []
name_if (Some n) = name n ∷ []

-- param = type [ NAME ]
abbrev pub parameter : Parameter → List Piece
parameter p = node p.span ∷ (type_id p.of ++ name_if p.name)

-- "..." | type [ NAME ]
abbrev pub caught_by : Caught → List Piece
caught_by caught.All = m mark.Ellipsis ∷ []
caught_by (caught.One p) = parameter p

-- local | [ expr ] ";"
abbrev pub for_head : ForInit → List Piece
for_head for_init.None = m mark.Semicolon ∷ []
for_head (for_init.Local v) = variable v
for_head (for_init.Expression e) = full e ++ m mark.Semicolon ∷ []

-- [ expr | braces ]
abbrev pub returned_value : Returned → List Piece
returned_value returned.None = []
returned_value (returned.Value e) = full e
returned_value (returned.Braces es) = braces es

-- "(" ( local | [ expr ] ";" ) [ expr ] ";" [ expr ] ")"
abbrev pub for_parentheses : ForInit → Option Expression → Option Expression → List Piece
for_parentheses init condition step = in_parentheses (for_head init ++ (full_if condition ++ m mark.Semicolon ∷ full_if step))

-- "(" expr ")"
abbrev pub condition : Expression → List Piece
condition e = in_parentheses (full e)

-- "catch" "(" ( "..." | type [ NAME ] ) ")"
abbrev pub catch_head : Caught → List Piece
catch_head caught = w word.Catch ∷ in_parentheses (caught_by caught)

abbrev mutual
  -- stmt = block | ";" | local | expr ";" | try
  --      | "if" "(" expr ")" stmt [ "else" stmt ] | "while" "(" expr ")" stmt
  --      | "for" "(" ( local | [ expr ] ";" ) [ expr ] ";" [ expr ] ")" stmt
  --      | "break" ";" | "continue" ";" | "return" [ expr | braces ] ";" | "co_return" [ expr ] ";"
  pub statement : Statement → List Piece
  statement (stmt.Block' s row at) = line ∷ node at ∷ in_braces (row_statements row)
  statement (stmt.Empty at) = line ∷ node at ∷ m mark.Semicolon ∷ []
  statement (stmt.Local v) = line ∷ variable v
  statement (stmt.Expression e at) = line ∷ node at ∷ (full e ++ m mark.Semicolon ∷ [])
  -- try = "try" block catch { catch }
  statement (stmt.Try' s row at t handlers end) = line ∷ node end ∷ w word.Try ∷ node at ∷ (in_braces (row_statements row) ++ row_handlers handlers)
  statement (stmt.If' e s (more_of-Statement then end_of-Statement) at) =
      line ∷ rule (node at ∷ opens ∷ w word.If ∷ (condition e ++ statement then))
  statement (stmt.IfElse' e s (more_of-Statement then end_of-Statement) t (more_of-Statement else end_of-Statement) at) =
      line ∷ rule (node at ∷ opens ∷ w word.If ∷ (condition e ++ (statement then ++ w word.Else ∷ statement else)))
  statement (stmt.While' e s (more_of-Statement body end_of-Statement) at) =
      line ∷ rule (node at ∷ opens ∷ w word.While ∷ (condition e ++ statement body))
  statement (stmt.For' init c step s (more_of-Statement body end_of-Statement) at) =
      line ∷ rule (node at ∷ opens ∷ w word.For ∷ (for_parentheses init c step ++ statement body))
  statement (stmt.Break at) = line ∷ node at ∷ w word.Break ∷ m mark.Semicolon ∷ []
  statement (stmt.Continue at) = line ∷ node at ∷ w word.Continue ∷ m mark.Semicolon ∷ []
  statement (stmt.Return value at) = line ∷ node at ∷ w word.Return ∷ (returned_value value ++ m mark.Semicolon ∷ [])
  statement (stmt.CoReturn value at) = line ∷ node at ∷ w word.CoReturn ∷ (full_if value ++ m mark.Semicolon ∷ [])

  -- { stmt }
  pub row_statements : {n : _} → Row_of-Statement n → List Piece
  row_statements end_of-Statement = []
  row_statements (more_of-Statement s rest) = statement s ++ row_statements rest

  -- { catch }, where catch = "catch" "(" ( "..." | type [ NAME ] ) ")" block
  pub row_handlers : {n : _} → Row_of-Handler n → List Piece
  row_handlers end_of-Handler = []
  row_handlers (more_of-Handler caught s row at span rest) =
      (node span ∷ (catch_head caught ++ node at ∷ in_braces (row_statements row))) ++ row_handlers rest

-- { stmt }
abbrev pub statements : List Statement → List Piece
statements [] = []
statements (s ∷ ss) = statement s ++ statements ss

-- block = "{" { stmt } "}"
abbrev pub block : Block → List Piece
block b = node b.span ∷ in_braces (statements b.statements)

-- catch = "catch" "(" ( "..." | type [ NAME ] ) ")" block
abbrev pub handler : Handler → List Piece
handler h = node h.span ∷ (catch_head h.caught ++ block h.body)

-- { catch }
abbrev pub handlers : List Handler → List Piece
handlers [] = []
handlers (h ∷ hs) = handler h ++ handlers hs
