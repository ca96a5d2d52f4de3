-- Statements that have others in them, by the lists and the values of their parts.
use Rattle.std.specs.Prelude.{◌≡◌, ℕ, false, List, [], ◌∷◌, ◌++◌, Option}
use Rattle.std.specs.List.{AllByRecursion}
use Rattle.std.proofs.Common.{refl, ap, sym, subst, ◌∙◌}
use mathlib.Core.Former.{Count}
use Rattle.co_base.specs.declared.span.Span.{Span}
use Rattle.co_lex.specs.declared.token.Word.TheVariants as word
use Rattle.co_tree.specs.declared.expressions.Expression.{Expression}
use Rattle.co_tree.specs.declared.statements.ForInit.{ForInit}
use Rattle.co_tree.specs.declared.statements.Block.{Block}
use Rattle.co_tree.specs.declared.statements.Handler.{Handler}
use Rattle.co_tree.specs.declared.statements.Statement.{Statement, Row_of-Statement, end_of-Statement, more_of-Statement, Row_of-Handler, end_of-Handler, more_of-Handler, items-the_row-Statement, items-the_row-Handler, items_hidden-the_row-Statement-0, items_shown-the_row-Statement-0, items_hidden-the_row-Handler-1}
use Rattle.co_tree.specs.declared.statements.Statement.TheVariants as stmt
use Rattle.co_tree.specs.declared.statements.Statement.TheBlock.{shown-the_row-Statement-0, shape-the_row-Statement-2, hidden-the_row-Statement-2, shown-the_row-Statement-2}
use Rattle.co_tree.specs.Formed.{FormedExpression}
use Rattle.co_tree.specs.FormedTree.{FormedIf, FormedCaught, FormedForInit, ends_in_if, HasHandler, FormedStatement, FormedStatements, FormedHandlers, FormedBlock}
use Rattle.co_tree.specs.Piece.{line, node, opens, w, rule, in_braces}
use Rattle.co_tree.specs.Statements.{condition, for_parentheses, catch_head, statement, row_statements, row_handlers, statements, block, handlers}

pub sentence_if : (e : Expression) (then : Statement) (at : Span) → statement (stmt.If e then at) ≡ line ∷ rule (node at ∷ opens ∷ w word.If ∷ (condition e ++ statement then))
unfolding shape-the_row-Statement-2 hidden-the_row-Statement-2 shown-the_row-Statement-2 denote.Hole.Carrier.hidden
sentence_if e then at = refl

pub sentence_if_else : (e : Expression) (then other : Statement) (at : Span) → statement (stmt.IfElse e then other at) ≡ line ∷ rule (node at ∷ opens ∷ w word.If ∷ (condition e ++ (statement then ++ w word.Else ∷ statement other)))
unfolding shape-the_row-Statement-2 hidden-the_row-Statement-2 shown-the_row-Statement-2 denote.Hole.Carrier.hidden
sentence_if_else e then other at = refl

pub sentence_while : (e : Expression) (body : Statement) (at : Span) → statement (stmt.While e body at) ≡ line ∷ rule (node at ∷ opens ∷ w word.While ∷ (condition e ++ statement body))
unfolding shape-the_row-Statement-2 hidden-the_row-Statement-2 shown-the_row-Statement-2 denote.Hole.Carrier.hidden
sentence_while e body at = refl

pub sentence_for : (init : ForInit) (c step : Option Expression) (body : Statement) (at : Span) → statement (stmt.For init c step body at) ≡ line ∷ rule (node at ∷ opens ∷ w word.For ∷ (for_parentheses init c step ++ statement body))
unfolding shape-the_row-Statement-2 hidden-the_row-Statement-2 shown-the_row-Statement-2 denote.Hole.Carrier.hidden
sentence_for init c step body at = refl

-- ---- lists

pub rows_statements : (n : Count) (row : Row_of-Statement n) → row_statements row ≡ statements (items-the_row-Statement n row)
rows_statements n end_of-Statement = refl
rows_statements n (more_of-Statement s rest) = ap (λ ps. statement s ++ ps) (rows_statements _ rest)

pub rows_handlers : (n : Count) (row : Row_of-Handler n) → row_handlers row ≡ handlers (items-the_row-Handler n row)
rows_handlers n end_of-Handler = refl
rows_handlers n (more_of-Handler caught s row at span rest) =
    ap (λ ps. (node span ∷ (catch_head caught ++ node at ∷ in_braces ps)) ++ row_handlers rest) (rows_statements _ row ∙ ap statements (sym (items_shown-the_row-Statement-0 s row)))
    ∙ ap (λ ps. (node span ∷ (catch_head caught ++ node at ∷ in_braces (statements (shown-the_row-Statement-0 s row)))) ++ ps) (rows_handlers _ rest)

abbrev row_of : Statement → (n : Count) × Row_of-Statement n
row_of (stmt.Block' s row at) = (_, row)
row_of (stmt.Try' s row at t hs end) = (_, row)
row_of _ = (_, end_of-Statement)

abbrev handlers_of : Statement → (n : Count) × Row_of-Handler n
handlers_of (stmt.Try' s row at t hs end) = (_, hs)
handlers_of _ = (_, end_of-Handler)

pub sentence_block : (b : Block) → statement (stmt.Block b) ≡ line ∷ block b
sentence_block b =
    let row = row_of (stmt.Block b) in
    ap (λ ps. line ∷ node b.span ∷ in_braces ps) (rows_statements row.0 row.1 ∙ ap statements (items_hidden-the_row-Statement-0 b.statements))

pub sentence_try : (b : Block) (hs : List Handler) (at : Span) → statement (stmt.Try b hs at) ≡ line ∷ node at ∷ w word.Try ∷ (block b ++ handlers hs)
sentence_try b hs at =
    let row = row_of (stmt.Try b hs at) in
    let rest = handlers_of (stmt.Try b hs at) in
    ap (λ ps. line ∷ node at ∷ w word.Try ∷ node b.span ∷ (in_braces ps ++ row_handlers rest.1)) (rows_statements row.0 row.1 ∙ ap statements (items_hidden-the_row-Statement-0 b.statements))
    ∙ ap (λ ps. line ∷ node at ∷ w word.Try ∷ (block b ++ ps)) (rows_handlers rest.0 rest.1 ∙ ap handlers (items_hidden-the_row-Handler-1 hs))

-- ---- which of them are formed

pub formed_if : (C : List (List ℕ)) (e : Expression) (then : Statement) (at : Span) → FormedExpression C e → FormedStatement C then → FormedStatement C (stmt.If e then at)
unfolding shape-the_row-Statement-2 hidden-the_row-Statement-2 shown-the_row-Statement-2 denote.Hole.Carrier.hidden
formed_if C e then at f g = (f, g)

pub formed_if_else : (C : List (List ℕ)) (e : Expression) (then other : Statement) (at : Span) → FormedExpression C e → FormedStatement C then → FormedStatement C other → ends_in_if then ≡ false → FormedStatement C (stmt.IfElse e then other at)
unfolding shape-the_row-Statement-2 hidden-the_row-Statement-2 shown-the_row-Statement-2 denote.Hole.Carrier.hidden
formed_if_else C e then other at f g h i = (f, g, h, i)

pub formed_while : (C : List (List ℕ)) (e : Expression) (body : Statement) (at : Span) → FormedExpression C e → FormedStatement C body → FormedStatement C (stmt.While e body at)
unfolding shape-the_row-Statement-2 hidden-the_row-Statement-2 shown-the_row-Statement-2 denote.Hole.Carrier.hidden
formed_while C e body at f g = (f, g)

pub formed_for : (C : List (List ℕ)) (init : ForInit) (c step : Option Expression) (body : Statement) (at : Span) → FormedForInit C init → FormedIf C c → FormedIf C step → FormedStatement C body → FormedStatement C (stmt.For init c step body at)
unfolding shape-the_row-Statement-2 hidden-the_row-Statement-2 shown-the_row-Statement-2 denote.Hole.Carrier.hidden
formed_for C init c step body at f g h i = (f, g, h, i)

-- ---- which of them end in an `if` without `else`

pub ends_if_else : (e : Expression) (then other : Statement) (at : Span) → ends_in_if (stmt.IfElse e then other at) ≡ ends_in_if other
unfolding shape-the_row-Statement-2 hidden-the_row-Statement-2 shown-the_row-Statement-2 denote.Hole.Carrier.hidden
ends_if_else e then other at = refl

pub ends_while : (e : Expression) (body : Statement) (at : Span) → ends_in_if (stmt.While e body at) ≡ ends_in_if body
unfolding shape-the_row-Statement-2 hidden-the_row-Statement-2 shown-the_row-Statement-2 denote.Hole.Carrier.hidden
ends_while e body at = refl

pub ends_for : (init : ForInit) (c step : Option Expression) (body : Statement) (at : Span) → ends_in_if (stmt.For init c step body at) ≡ ends_in_if body
unfolding shape-the_row-Statement-2 hidden-the_row-Statement-2 shown-the_row-Statement-2 denote.Hole.Carrier.hidden
ends_for init c step body at = refl

-- ---- blocks and handlers

rows_formed : (C : List (List ℕ)) (n : Count) (row : Row_of-Statement n) → FormedStatements C row ≡ AllByRecursion (FormedStatement C) (items-the_row-Statement n row)
rows_formed C n end_of-Statement = refl
rows_formed C n (more_of-Statement s rest) = ap (λ T. FormedStatement C s × T) (rows_formed C _ rest)

-- what is caught and the block are formed
abbrev pub FormedHandler : List (List ℕ) → Handler → Type 0
FormedHandler C h = FormedCaught C h.caught × FormedBlock C h.body

rows_caught : (C : List (List ℕ)) (n : Count) (row : Row_of-Handler n) → AllByRecursion (FormedHandler C) (items-the_row-Handler n row) → FormedHandlers C row
rows_caught C n end_of-Handler h = tt
rows_caught C n (more_of-Handler caught s row at span rest) h =
    (h.0.0, (rw (rows_formed C _ row) (subst (λ ss. AllByRecursion (FormedStatement C) ss) (items_shown-the_row-Statement-0 s row) h.0.1)), rows_caught C _ rest h.1)

some_handler : (n : Count) (row : Row_of-Handler n) → (items-the_row-Handler n row ≡ [] → ⊥) → HasHandler row
some_handler n end_of-Handler h = absurd (h refl)
some_handler n (more_of-Handler caught s row at span rest) h = tt

pub formed_block : (C : List (List ℕ)) (b : Block) → FormedBlock C b → FormedStatement C (stmt.Block b)
formed_block C b h =
    let row = row_of (stmt.Block b) in
    rw (rows_formed C row.0 row.1) (subst (λ ss. AllByRecursion (FormedStatement C) ss) (sym (items_hidden-the_row-Statement-0 b.statements)) h)

pub formed_try : (C : List (List ℕ)) (b : Block) (first : Handler) (hs : List Handler) (at : Span) → FormedBlock C b → AllByRecursion (FormedHandler C) (first ∷ hs) → FormedStatement C (stmt.Try b (first ∷ hs) at)
formed_try C b first hs at f g =
    let row = row_of (stmt.Try b (first ∷ hs) at) in
    let rest = handlers_of (stmt.Try b (first ∷ hs) at) in
    let e = items_hidden-the_row-Handler-1 (first ∷ hs) in (
      rw (rows_formed C row.0 row.1) (subst (λ ss. AllByRecursion (FormedStatement C) ss) (sym (items_hidden-the_row-Statement-0 b.statements)) f),
      rows_caught C rest.0 rest.1 (subst (λ xs. AllByRecursion (FormedHandler C) xs) (sym e) g),
      some_handler rest.0 rest.1 (λ x. absurd_list first hs (sym e ∙ x)),
    )
  where
    absurd_list : (x : Handler) (xs : List Handler) → x ∷ xs ≡ [] → ⊥
    absurd_list x xs h = absurd cc
