-- The sentence of each statement that has others in it, by the lists and the values of its parts.
use Rattle.std.specs.Prelude.{◌≡◌, List, ◌∷◌, ◌++◌, Option}
use Rattle.std.proofs.Common.{refl, ap, sym, ◌∙◌}
use mathlib.Core.Former.{Count}
use Rattle.co_base.specs.declared.span.Span.{Span}
use Rattle.co_lex.specs.declared.token.Word.TheVariants as word
use Rattle.co_tree.specs.declared.expressions.Expression.{Expression}
use Rattle.co_tree.specs.declared.statements.ForInit.{ForInit}
use Rattle.co_tree.specs.declared.statements.Block.{Block}
use Rattle.co_tree.specs.declared.statements.Handler.{Handler}
use Rattle.co_tree.specs.declared.statements.Statement.{Statement, Row_of-Statement, end_of-Statement, more_of-Statement, Row_of-Handler, end_of-Handler, more_of-Handler, items-the_row-Statement, items-the_row-Handler, items_hidden-the_row-Statement-0, items_shown-the_row-Statement-0, items_hidden-the_row-Handler-1}
use Rattle.co_tree.specs.declared.statements.Statement.TheVariants as stmt
use Rattle.co_tree.specs.declared.statements.Statement.TheBlock.{shown-the_row-Statement-0, shape-the_row-Statement-2, hidden-the_row-Statement-2, shown-the_row-Statement-2}
use Rattle.co_tree.specs.Piece.{line, node, opens, w, rule, in_braces}
use Rattle.co_tree.specs.Statements.{condition, for_parentheses, catch_head, statement, row_statements, row_handlers, statements, block, handlers}

pub sentence_if : (e : Expression) (then : Statement) (at : Span) → statement (stmt.If e then at) ≡ line ∷ rule (node at ∷ opens ∷ w word.If ∷ (condition e ++ statement then))
unfolding shape-the_row-Statement-2 hidden-the_row-Statement-2 shown-the_row-Statement-2 denote.Hole.Carrier.hidden
sentence_if e then at = refl

pub sentence_if_else : (e : Expression) (then other : Statement) (at : Span) → statement (stmt.IfElse e then other at) ≡ line ∷ rule (node at ∷ opens ∷ w word.If ∷ (condition e ++ (statement then ++ w word.Else ∷ statement other)))
unfolding shape-the_row-Statement-2 hidden-the_row-Statement-2 shown-the_row-Statement-2 denote.Hole.Carrier.hidden
sentence_if_else e then other at = refl

pub sentence_while : (e : Expression) (body : Statement) (at : Span) → statement (stmt.While e body at) ≡ line ∷ rule (node at ∷ opens ∷ w word.While ∷ (condition e ++ statement body))
unfolding shape-the_row-Statement-2 hidden-the_row-Statement-2 shown-the_row-Statement-2 denote.Hole.Carrier.hidden
sentence_while e body at = refl

pub sentence_for : (init : ForInit) (c step : Option Expression) (body : Statement) (at : Span) → statement (stmt.For init c step body at) ≡ line ∷ rule (node at ∷ opens ∷ w word.For ∷ (for_parentheses init c step ++ statement body))
unfolding shape-the_row-Statement-2 hidden-the_row-Statement-2 shown-the_row-Statement-2 denote.Hole.Carrier.hidden
sentence_for init c step body at = refl

-- ---- lists

pub rows_statements : (n : Count) (row : Row_of-Statement n) → row_statements row ≡ statements (items-the_row-Statement n row)
rows_statements n end_of-Statement = refl
rows_statements n (more_of-Statement s rest) = ap (λ ps. statement s ++ ps) (rows_statements _ rest)

pub rows_handlers : (n : Count) (row : Row_of-Handler n) → row_handlers row ≡ handlers (items-the_row-Handler n row)
rows_handlers n end_of-Handler = refl
rows_handlers n (more_of-Handler caught s row at span rest) =
    ap (λ ps. (node span ∷ (catch_head caught ++ node at ∷ in_braces ps)) ++ row_handlers rest) (rows_statements _ row ∙ ap statements (sym (items_shown-the_row-Statement-0 s row)))
    ∙ ap (λ ps. (node span ∷ (catch_head caught ++ node at ∷ in_braces (statements (shown-the_row-Statement-0 s row)))) ++ ps) (rows_handlers _ rest)

abbrev row_of : Statement → (n : Count) × Row_of-Statement n
row_of (stmt.Block' s row at) = (_, row)
row_of (stmt.Try' s row at t hs end) = (_, row)
row_of _ = (_, end_of-Statement)

abbrev handlers_of : Statement → (n : Count) × Row_of-Handler n
handlers_of (stmt.Try' s row at t hs end) = (_, hs)
handlers_of _ = (_, end_of-Handler)

pub sentence_block : (b : Block) → statement (stmt.Block b) ≡ line ∷ block b
sentence_block b =
    let row = row_of (stmt.Block b) in
    ap (λ ps. line ∷ node b.span ∷ in_braces ps) (rows_statements row.0 row.1 ∙ ap statements (items_hidden-the_row-Statement-0 b.statements))

pub sentence_try : (b : Block) (hs : List Handler) (at : Span) → statement (stmt.Try b hs at) ≡ line ∷ node at ∷ w word.Try ∷ (block b ++ handlers hs)
sentence_try b hs at =
    let row = row_of (stmt.Try b hs at) in
    let rest = handlers_of (stmt.Try b hs at) in
    ap (λ ps. line ∷ node at ∷ w word.Try ∷ node b.span ∷ (in_braces ps ++ row_handlers rest.1)) (rows_statements row.0 row.1 ∙ ap statements (items_hidden-the_row-Statement-0 b.statements))
    ∙ ap (λ ps. line ∷ node at ∷ w word.Try ∷ (block b ++ ps)) (rows_handlers rest.0 rest.1 ∙ ap handlers (items_hidden-the_row-Handler-1 hs))
