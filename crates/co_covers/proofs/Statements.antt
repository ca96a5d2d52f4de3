-- The rules derive the statements of a tree.
use Rattle.std.proofs.Common.{◌≡◌, ℕ, Bool, true, false, IsTrue, List, [], ◌∷◌, ◌++◌, Option, None, Some, refl, ◌∙◌, sym}
use mathlib.Core.Former.{Count}
use Rattle.co_lex.specs.declared.token.TokenKind.TheVariants as kind
use Rattle.co_lex.specs.declared.token.Mark.TheVariants as mark
use Rattle.co_lex.specs.declared.token.Word.TheVariants as word
use Rattle.co_rules.specs.Terminal.{terminal_of}
use Rattle.co_rules.specs.declared.symbol.Nonterminal.TheVariants as n
use Rattle.co_rules.specs.declared.symbol.Pattern.TheVariants as pattern
use Rattle.co_rules.specs.declared.symbol.Symbol.{Symbol}
use Rattle.co_rules.specs.declared.symbol.Symbol.TheVariants.{Token, One, Maybe, Many, Greedy, Close}
use Rattle.co_rules.specs.declared.symbol.Terminal.{Terminal}
use Rattle.co_rules.specs.Derives.{Derives, NoneNext, taken, left_out}
use Rattle.co_rules.specs.Pattern.{admits}
use Rattle.co_tree.specs.declared.expressions.Expression.{Expression}
use Rattle.co_tree.specs.Formed.{FormedExpression}
use Rattle.co_tree.specs.Piece.{node, opens, leave, in_braces, w, m, rule, in_parentheses}
use Rattle.co_tree.specs.Sentence.{expression}
use Rattle.co_covers.proofs.Seen.{seen, both, ruled, by_token, go, may, skip, enough, shut, maybe}
use Rattle.co_covers.proofs.RulesOfExpressions.{condition-paren}
use Rattle.co_covers.proofs.Primaries.{parenthesized}
use Rattle.co_covers.proofs.Expressions.{covered, full}
use Rattle.co_covers.proofs.Heads.{value_of}
use Rattle.co_covers.proofs.Others.{of_statement, of_for_init, expression_at}
use Rattle.co_tree.specs.FormedTree.{FormedIf, FormedForInit, FormedReturned, FormedCaught, FormedStatement, FormedStatements, FormedHandlers, HasHandler, ends_in_if}
use Rattle.co_tree.specs.Statements.{full_if, condition, for_head, for_parentheses, returned_value, caught_by, catch_head, statement, row_statements, row_handlers}
use Rattle.co_covers.proofs.RulesOfArguments.{value-brace}
use Rattle.co_covers.proofs.Plain.{statement_of, for_init_of}
use Rattle.co_covers.proofs.Locals.{variable_at, statement_local, for_init_local, list_inside}
use Rattle.co_covers.proofs.Parameters.{parameter_at, catch_parameter_of}
use Rattle.co_rules.proofs.Sets.{never}
use Rattle.co_covers.proofs.NoElse.{no_else, many}
use Rattle.co_tree.specs.declared.statements.Caught.{Caught}
use Rattle.co_tree.specs.declared.statements.Caught.TheVariants as caught
use Rattle.co_tree.specs.declared.statements.ForInit.{ForInit}
use Rattle.co_tree.specs.declared.statements.ForInit.TheVariants as for_init
use Rattle.co_tree.specs.declared.statements.Returned.{Returned}
use Rattle.co_tree.specs.declared.statements.Returned.TheVariants as returned
use Rattle.co_tree.specs.declared.statements.Statement.{Statement, Row_of-Statement, end_of-Statement, more_of-Statement, Row_of-Handler, end_of-Handler, more_of-Handler}
use Rattle.co_tree.specs.declared.statements.Statement.TheVariants as stmt
use Rattle.co_covers.proofs.RulesOfStatements.{statement-brace, statement-semicolon, statement-try, statement-if, statement-while, statement-for, statement-break, statement-continue, statement-return, statement-co_return, block-brace, else-else, for_head-paren, for_init-semicolon, catch-catch, catch_head-paren, catch_parameter-ellipsis}

condition_at : (C : List (List ℕ)) (e : Expression) → FormedExpression C e → (R : List Symbol) (ts : List Terminal) → Derives R ts → Derives (One n.Condition ∷ R) (seen C (condition e) ts)
unfolding admits
condition_at C e h R ts d = go (condition-paren (terminal_of C (kind.Mark mark.OpenParen)) refl) (parenthesized C e (covered C e h) ts d)

full_maybe : (C : List (List ℕ)) (e : Option Expression) → FormedIf C e → (R : List Symbol) (ts : List Terminal) → NoneNext pattern.NewMark ts → Derives R ts → Derives (Maybe n.Expression ∷ R) (seen C (full_if e) ts)
full_maybe C None h R ts f d = skip d
full_maybe C (Some e) h R ts f d = maybe (full C e (covered C e h) R ts f d)

returned_at : (C : List (List ℕ)) (v : Returned) → FormedReturned C v → (R : List Symbol) (ts : List Terminal) → NoneNext pattern.NewMark ts → Derives R ts → Derives (Maybe n.Value ∷ R) (seen C (returned_value v) ts)
unfolding admits
returned_at C returned.None h R ts f d = skip d
returned_at C (returned.Value e) h R ts f d = maybe (ruled C (expression e) ts ((covered C e h).full n.Value [] R ts value_of f d))
returned_at C (returned.Braces es) h R ts f d = may (value-brace (terminal_of C (kind.Mark mark.OpenBrace)) refl) (list_inside C es h mark.CloseBrace ts refl refl d)

for_init_at : (C : List (List ℕ)) (i : ForInit) → FormedForInit C i → (R : List Symbol) (ts : List Terminal) → Derives R ts → Derives (One n.ForInit ∷ R) (seen C (for_head i) ts)
unfolding admits
for_init_at C for_init.None h R ts d = go (for_init-semicolon (terminal_of C (kind.Mark mark.Semicolon)) refl) d
for_init_at C (for_init.Local v) h R ts d = variable_at C n.ForInit R for_init_local v ts h d
for_init_at C (for_init.Expression e) h R ts d = both C (rule (expression e)) (m mark.Semicolon ∷ []) ts (ruled C (expression e) (seen C (m mark.Semicolon ∷ []) ts) (expression_at C n.ForInit (Token (pattern.Punctuator mark.Semicolon) ∷ []) R for_init_of of_for_init e h.0 h.1 (seen C (m mark.Semicolon ∷ []) ts) refl (by_token refl d)))

for_at : (C : List (List ℕ)) (i : ForInit) (c s : Option Expression) → FormedForInit C i → FormedIf C c → FormedIf C s → (R : List Symbol) (ts : List Terminal) → Derives R ts → Derives (One n.ForHead ∷ R) (seen C (for_parentheses i c s) ts)
unfolding admits
for_at C i c s h g k R ts d =
    let end = m mark.CloseParen ∷ leave ∷ [] in
    let later = full_if c ++ m mark.Semicolon ∷ full_if s in
    go (for_head-paren (terminal_of C (kind.Mark mark.OpenParen)) refl) (both C (for_head i ++ later) end ts (both C (for_head i) later (seen C end ts) (for_init_at C i h _ (seen C later (seen C end ts)) (both C (full_if c) (m mark.Semicolon ∷ full_if s) (seen C end ts) (full_maybe C c g _ (seen C (m mark.Semicolon ∷ full_if s) (seen C end ts)) refl (by_token refl (full_maybe C s k (Token (pattern.Punctuator mark.CloseParen) ∷ Close ∷ R) (seen C end ts) refl (by_token refl (shut d)))))))))

caught_at : (C : List (List ℕ)) (c : Caught) → FormedCaught C c → (R : List Symbol) (ts : List Terminal) → Derives R ts → Derives (One n.CatchHead ∷ R) (seen C (in_parentheses (caught_by c)) ts)
unfolding admits
caught_at C caught.All h R ts d = go (catch_head-paren (terminal_of C (kind.Mark mark.OpenParen)) refl) (go (catch_parameter-ellipsis (terminal_of C (kind.Mark mark.Ellipsis)) refl) (by_token refl (shut d)))
caught_at C (caught.One p) h R ts d = go (catch_head-paren (terminal_of C (kind.Mark mark.OpenParen)) refl) (both C (caught_by (caught.One p)) (m mark.CloseParen ∷ leave ∷ []) ts (parameter_at C n.CatchParameter [] (Token (pattern.Punctuator mark.CloseParen) ∷ Close ∷ R) catch_parameter_of p h (seen C (m mark.CloseParen ∷ leave ∷ []) ts) (by_token refl (shut d))))

abbrev EndsIf : Statement → List Terminal → Type 0
EndsIf s ts = IsTrue (ends_in_if s) → NoneNext (pattern.Keyword word.Else) ts

not_both : {b : Bool} → b ≡ true → b ≡ false → ⊥
not_both h g = never (sym g ∙ h)

block_of : {k : Count} (C : List (List ℕ)) (row : Row_of-Statement k) (R : List Symbol) (ts : List Terminal) → Derives (Many n.Statement ∷ Token (pattern.Punctuator mark.CloseBrace) ∷ Close ∷ R) (seen C (row_statements row) (seen C (m mark.CloseBrace ∷ leave ∷ []) ts)) → Derives (One n.Block ∷ R) (seen C (in_braces (row_statements row)) ts)
unfolding admits
block_of C row R ts d = go (block-brace (terminal_of C (kind.Mark mark.OpenBrace)) refl) (both C (row_statements row) (m mark.CloseBrace ∷ leave ∷ []) ts d)

mutual
  unfolding admits

  pub statement_at : (C : List (List ℕ)) (s : Statement) → FormedStatement C s → (R : List Symbol) (ts : List Terminal) → EndsIf s ts → Derives R ts → Derives (One n.Statement ∷ R) (seen C (statement s) ts)
  statement_at C (stmt.Block' s row at) h R ts f d = go (statement-brace (terminal_of C (kind.Mark mark.OpenBrace)) refl) (both C (row_statements row) (m mark.CloseBrace ∷ leave ∷ []) ts ((row_at C row h (Token (pattern.Punctuator mark.CloseBrace) ∷ Close ∷ R) (seen C (m mark.CloseBrace ∷ leave ∷ []) ts) refl (by_token refl (shut d))).0))
  statement_at C (stmt.Empty at) h R ts f d = go (statement-semicolon (terminal_of C (kind.Mark mark.Semicolon)) refl) d
  statement_at C (stmt.Local v) h R ts f d = variable_at C n.Statement R statement_local v ts h d
  statement_at C (stmt.Expression e at) h R ts f d = both C (rule (expression e)) (m mark.Semicolon ∷ []) ts (ruled C (expression e) (seen C (m mark.Semicolon ∷ []) ts) (expression_at C n.Statement (Token (pattern.Punctuator mark.Semicolon) ∷ []) R statement_of of_statement e h.0 h.1 (seen C (m mark.Semicolon ∷ []) ts) refl (by_token refl d)))
  statement_at C (stmt.Try' s row at t hs end) h R ts f d = go (statement-try (terminal_of C (kind.Word word.Try)) refl) (both C (in_braces (row_statements row)) (row_handlers hs) ts (block_of C row (One n.Catch ∷ Many n.Catch ∷ R) (seen C (row_handlers hs) ts) ((row_at C row h.0 (Token (pattern.Punctuator mark.CloseBrace) ∷ Close ∷ One n.Catch ∷ Many n.Catch ∷ R) (seen C (m mark.CloseBrace ∷ leave ∷ []) (seen C (row_handlers hs) ts)) refl (by_token refl (shut ((handlers_at C hs h.1 R ts d).1 h.2)))).0)))
  statement_at C (stmt.If' e s (more_of-Statement then end_of-Statement) at) h R ts f d = ruled C (node at ∷ opens ∷ w word.If ∷ (condition e ++ statement then)) ts (go (statement-if (terminal_of C (kind.Word word.If)) refl) (both C (condition e) (statement then) ts (condition_at C e h.0 _ (seen C (statement then) ts) (statement_at C then h.1 (Greedy n.Else (pattern.Keyword word.Else) ∷ Close ∷ R) ts (λ x. f refl) (left_out n.Else (pattern.Keyword word.Else) (Close ∷ R) ts (f refl) (shut d))))))
  statement_at C (stmt.IfElse' e s (more_of-Statement then end_of-Statement) t (more_of-Statement other end_of-Statement) at) h R ts f d =
      ruled C (node at ∷ opens ∷ w word.If ∷ (condition e ++ (statement then ++ w word.Else ∷ statement other))) ts (go (statement-if (terminal_of C (kind.Word word.If)) refl) (both C (condition e) (statement then ++ w word.Else ∷ statement other) ts (condition_at C e h.0 _ (seen C (statement then ++ w word.Else ∷ statement other) ts) (both C (statement then) (w word.Else ∷ statement other) ts (statement_at C then h.1 (Greedy n.Else (pattern.Keyword word.Else) ∷ Close ∷ R) (seen C (w word.Else ∷ statement other) ts) (λ x. absurd (not_both x h.3)) (taken n.Else (pattern.Keyword word.Else) (Close ∷ R) (One n.Statement ∷ []) (terminal_of C (kind.Word word.Else)) (seen C (statement other) ts) (else-else (terminal_of C (kind.Word word.Else)) refl) (statement_at C other h.2 (Close ∷ R) ts f (shut d))))))))
  statement_at C (stmt.While' e s (more_of-Statement body end_of-Statement) at) h R ts f d = ruled C (node at ∷ opens ∷ w word.While ∷ (condition e ++ statement body)) ts (go (statement-while (terminal_of C (kind.Word word.While)) refl) (both C (condition e) (statement body) ts (condition_at C e h.0 _ (seen C (statement body) ts) (statement_at C body h.1 (Close ∷ R) ts f (shut d)))))
  statement_at C (stmt.For' init c step s (more_of-Statement body end_of-Statement) at) h R ts f d = ruled C (node at ∷ opens ∷ w word.For ∷ (for_parentheses init c step ++ statement body)) ts (go (statement-for (terminal_of C (kind.Word word.For)) refl) (both C (for_parentheses init c step) (statement body) ts (for_at C init c step h.0 h.1 h.2 _ (seen C (statement body) ts) (statement_at C body h.3 (Close ∷ R) ts f (shut d)))))
  statement_at C (stmt.Break at) h R ts f d = go (statement-break (terminal_of C (kind.Word word.Break)) refl) (by_token refl d)
  statement_at C (stmt.Continue at) h R ts f d = go (statement-continue (terminal_of C (kind.Word word.Continue)) refl) (by_token refl d)
  statement_at C (stmt.Return v at) h R ts f d = go (statement-return (terminal_of C (kind.Word word.Return)) refl) (both C (returned_value v) (m mark.Semicolon ∷ []) ts (returned_at C v h _ (seen C (m mark.Semicolon ∷ []) ts) refl (by_token refl d)))
  statement_at C (stmt.CoReturn v at) h R ts f d = go (statement-co_return (terminal_of C (kind.Word word.CoReturn)) refl) (both C (full_if v) (m mark.Semicolon ∷ []) ts (full_maybe C v h _ (seen C (m mark.Semicolon ∷ []) ts) refl (by_token refl d)))

  pub row_at : {k : Count} (C : List (List ℕ)) (row : Row_of-Statement k) → FormedStatements C row → (R : List Symbol) (ts : List Terminal) → NoneNext (pattern.Keyword word.Else) ts → Derives R ts → Derives (Many n.Statement ∷ R) (seen C (row_statements row) ts) × NoneNext (pattern.Keyword word.Else) (seen C (row_statements row) ts)
  row_at C end_of-Statement h R ts f d = (enough d, f)
  row_at C (more_of-Statement s rest) h R ts f d =
      let later = row_at C rest h.1 R ts f d in
      let z : Derives (One n.Statement ∷ Many n.Statement ∷ R) (seen C (statement s ++ row_statements rest) ts) = both C (statement s) (row_statements rest) ts (statement_at C s h.0 (Many n.Statement ∷ R) (seen C (row_statements rest) ts) (λ x. later.1) later.0) in
      (many z, no_else z)

  handlers_at : {k : Count} (C : List (List ℕ)) (hs : Row_of-Handler k) → FormedHandlers C hs → (R : List Symbol) (ts : List Terminal) → Derives R ts → Derives (Many n.Catch ∷ R) (seen C (row_handlers hs) ts) × (HasHandler hs → Derives (One n.Catch ∷ Many n.Catch ∷ R) (seen C (row_handlers hs) ts))
  handlers_at C end_of-Handler h R ts d = (enough d, λ g. absurd g)
  handlers_at C (more_of-Handler c s row at span rest) h R ts d =
      let later = handlers_at C rest h.2 R ts d in
      let us = seen C (row_handlers rest) ts in
      let z : Derives (One n.Catch ∷ Many n.Catch ∷ R) (seen C ((node span ∷ (catch_head c ++ node at ∷ in_braces (row_statements row))) ++ row_handlers rest) ts) = both C (node span ∷ (catch_head c ++ node at ∷ in_braces (row_statements row))) (row_handlers rest) ts (both C (catch_head c) (node at ∷ in_braces (row_statements row)) us (go (catch-catch (terminal_of C (kind.Word word.Catch)) refl) (caught_at C c h.0 (One n.Block ∷ Many n.Catch ∷ R) (seen C (in_braces (row_statements row)) us) (block_of C row (Many n.Catch ∷ R) us ((row_at C row h.1 (Token (pattern.Punctuator mark.CloseBrace) ∷ Close ∷ Many n.Catch ∷ R) (seen C (m mark.CloseBrace ∷ leave ∷ []) us) refl (by_token refl (shut later.0))).0))))) in
      (many z, λ g. z)
