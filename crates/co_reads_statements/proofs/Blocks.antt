-- Blocks and handlers where the rules read them.
use Rattle.std.proofs.Common.{◌≡◌, ℕ, zero, suc, ◌≤◌, ◌<◌, true, false, List, [], ◌∷◌, ◌++◌, length, Some, refl, sym, ap, ◌∙◌, ◌⊎◌, inl, inr, append_assoc, arith}
use Rattle.std.specs.List.{AllByRecursion}
use Rattle.std.proofs.lemmas.List.{append-nil}
use Rattle.co_base.specs.declared.span.Span.{Span}
use Rattle.co_lex.specs.declared.token.Token.{Token}
use Rattle.co_lex.specs.declared.token.TokenKind.TheVariants as kind
use Rattle.co_lex.specs.declared.token.Mark.TheVariants as mark
use Rattle.co_lex.specs.declared.token.Word.TheVariants as word
use Rattle.co_rules.specs.declared.symbol.Nonterminal.TheVariants as n
use Rattle.co_rules.specs.declared.symbol.Pattern.TheVariants as pattern
use Rattle.co_rules.specs.declared.symbol.Symbol.{Symbol}
use Rattle.co_rules.specs.declared.symbol.Symbol.TheVariants.{Token as Terminal, One, Many}
use Rattle.co_rules.specs.Names.{has_some, is_class}
use Rattle.co_tree.specs.declared.expressions.Expression.{Expression}
use Rattle.co_tree.specs.declared.statements.Handler.{Handler}
use Rattle.co_tree.specs.declared.statements.Statement.{Statement, end_of-Statement, more_of-Statement}
use Rattle.co_tree.specs.declared.statements.Statement.TheVariants as stmt
use Rattle.co_tree.specs.FormedTree.{FormedStatement, FormedBlock}
use Rattle.co_tree.specs.Piece.{leave, m, in_parentheses}
use Rattle.co_tree.specs.Statements as pieces
use Rattle.co_tree.specs.Types.{type_id}
use Rattle.co_reader.specs.Reading.{Reader, sees, expect_word, sees_word}
use Rattle.co_statements.specs.Statements.{statements_from, statements, block, handler, handlers_from}
use Rattle.co_reads.specs.Runs.{Runs}
use Rattle.co_reads.specs.Spells.{Spells}
use Rattle.co_reads.specs.Takes.{Takes}
use Rattle.co_reads.proofs.Built.{word_token, in_parentheses_spelled}
use Rattle.co_reads.proofs.Cases.{Among, NoneNext, which, again, from_among, none_left, some_among, usable}
use Rattle.co_reads.proofs.Firsts.{Marked, marked, mark_first, Worded, worded, word_first}
use Rattle.co_reads.proofs.Fronts.{after-left}
use Rattle.co_reads.proofs.Spells.{spells_append}
use Rattle.co_reads.proofs.Steps.{expected, expect_here, sees_here, after_here, unseen, BeginNot, refused_word, within}
use Rattle.co_reads_statements.specs.Statements.{IsStatement}
use Rattle.co_reads_statements.proofs.Opening.{FormedHandler}
use Rattle.co_reads_statements.proofs.Parts.{caught_taken}
use Rattle.co_reads_statements.proofs.Pieces.{takes, later}
use Rattle.co_reads_statements.proofs.RulesOfStatements.{of_block, those_block, of_statement, those_statement, of_catch, those_catch, of_catch_head, those_catch_head}

abbrev pub StatementTaken : List (List ℕ) → Reader Statement → List Symbol → List Token → Type 0
StatementTaken C inside R ts = Takes inside (λ s left. IsStatement C ts s left) C R ts

-- the reader reads each statement of so many tokens
abbrev pub NestedStatements : List (List ℕ) → Reader Statement → ℕ → Type 0
NestedStatements C inside count = (R : List Symbol) (ts : List Token) → length ts ≤ count → Runs C (One n.Statement ∷ R) ts → StatementTaken C inside R ts

-- ---- a statement takes a token

pub takes_token : (s : Statement) (ts left : List Token) → Spells (pieces.statement s) ts left → length left < length ts
takes_token (stmt.Block' s row at) ts left h = takes (pieces.statement (stmt.Block' s row at)) refl ts left h
takes_token (stmt.Empty at) ts left h = takes (pieces.statement (stmt.Empty at)) refl ts left h
takes_token (stmt.Local v) ts left h = later (type_id v.of) (kind.Name v.name) (pieces.initializer v.initializer ++ m mark.Semicolon ∷ []) ts left h.1
takes_token (stmt.Expression e at) ts left h = later (pieces.full e) (kind.Mark mark.Semicolon) [] ts left h.1
takes_token (stmt.Try' s row at t handlers end) ts left h = takes (pieces.statement (stmt.Try' s row at t handlers end)) refl ts left h
takes_token (stmt.If' e s (more_of-Statement then end_of-Statement) at) ts left h = takes (pieces.statement (stmt.If' e s (more_of-Statement then end_of-Statement) at)) refl ts left h
takes_token (stmt.IfElse' e s (more_of-Statement then end_of-Statement) t (more_of-Statement other end_of-Statement) at) ts left h = takes (pieces.statement (stmt.IfElse' e s (more_of-Statement then end_of-Statement) t (more_of-Statement other end_of-Statement) at)) refl ts left h
takes_token (stmt.While' e s (more_of-Statement body end_of-Statement) at) ts left h = takes (pieces.statement (stmt.While' e s (more_of-Statement body end_of-Statement) at)) refl ts left h
takes_token (stmt.For' init c step s (more_of-Statement body end_of-Statement) at) ts left h = takes (pieces.statement (stmt.For' init c step s (more_of-Statement body end_of-Statement) at)) refl ts left h
takes_token (stmt.Break at) ts left h = takes (pieces.statement (stmt.Break at)) refl ts left h
takes_token (stmt.Continue at) ts left h = takes (pieces.statement (stmt.Continue at)) refl ts left h
takes_token (stmt.Return value at) ts left h = takes (pieces.statement (stmt.Return value at)) refl ts left h
takes_token (stmt.CoReturn value at) ts left h = takes (pieces.statement (stmt.CoReturn value at)) refl ts left h

-- ---- blocks

-- statements are read up to the `}`
pub record Listed (C : List (List ℕ)) (expression : ℕ → Reader Expression) (inside : Reader Statement) (R : List Symbol) (ts : List Token) : Type 0 where
  pub list : List Statement
  pub left : List Token
  pub read : (k : ℕ) (found : List Statement) → length ts ≤ k → statements_from (is_class C) expression inside k found ts ≡ Some (found ++ list, left)
  pub spelled : Spells (pieces.statements list ++ m mark.CloseBrace ∷ []) ts left
  pub formed : AllByRecursion (FormedStatement C) list
  pub runs : Runs C R left

list_ends : {C : List (List ℕ)} {R : List Symbol} {ts : List Token} (expression : ℕ → Reader Expression) (inside : Reader Statement) → Marked C mark.CloseBrace R ts → Listed C expression inside R ts
unfolding statements_from
list_ends expression inside (marked at us r) =
    record {
      list = [];
      left = us;
      read = elim [
        | zero ↦ λ found l. absurd (omega (arith, l))
        | suc k ↦ λ found l. rw (sees_here mark.CloseBrace at us, after_here mark.CloseBrace at us) (ap (λ xs. Some (xs, us)) (sym (append-nil found)))
      ];
      spelled = (refl, refl);
      formed = tt;
      runs = r;
    }

list_goes_on : {C : List (List ℕ)} {R S : List Symbol} {ts : List Token} {expression : ℕ → Reader Expression} {inside : Reader Statement} → sees mark.CloseBrace ts ≡ false → (x : StatementTaken C inside S ts) → Listed C expression inside R x.left → Listed C expression inside R ts
unfolding statements_from
list_goes_on {ts = ts} e x more =
    let v = takes_token x.part ts x.left x.is.spelled in
    record {
      list = x.part ∷ more.list;
      left = more.left;
      read = elim [
        | zero ↦ λ found l. absurd (omega (arith, l, v))
        | suc k ↦ λ found l. rw (e, after-left mark.CloseBrace ts e, x.read) (more.read k (found ++ x.part ∷ []) (omega (arith, l, v)) ∙ ap (λ xs. Some (xs, more.left)) (append_assoc found (x.part ∷ []) more.list))
      ];
      spelled = rw (append_assoc (pieces.statement x.part) (pieces.statements more.list) (m mark.CloseBrace ∷ [])) (spells_append (pieces.statement x.part) (pieces.statements more.list ++ m mark.CloseBrace ∷ []) ts x.left more.left x.is.spelled more.spelled);
      formed = (x.is.formed, more.formed);
      runs = more.runs;
    }

no_statement_close : BeginNot mark.CloseBrace of_statement
no_statement_close = (refl, (refl, (refl, (refl, (refl, (refl, (refl, (refl, (refl, (refl, (refl, (refl, (refl, (refl, (refl, (refl, (refl, (refl, (refl, (refl, (refl, (refl, (refl, (refl, (refl, (refl, tt))))))))))))))))))))))))))

statements_by : {expression : ℕ → Reader Expression} {inside : Reader Statement} {count : ℕ} (C : List (List ℕ)) (R : List Symbol) (k : ℕ) (ts : List Token) → NestedStatements C inside count → length ts ≤ count → length ts ≤ k
    → Among C (Many n.Statement ∷ Terminal (pattern.Punctuator mark.CloseBrace) ∷ R) of_statement ts ⊎ (NoneNext C of_statement ts × Runs C (Terminal (pattern.Punctuator mark.CloseBrace) ∷ R) ts) → Listed C expression inside R ts
statements_by {expression} {inside} C R k ts nest b l (inr h) = list_ends expression inside (mark_first h.1)
statements_by C R zero ts nest b l (inl h) = absurd (none_left ts (some_among C (Many n.Statement ∷ Terminal (pattern.Punctuator mark.CloseBrace) ∷ R) ts of_statement h) l)
statements_by C R (suc k) ts nest b l (inl h) =
    let S = Many n.Statement ∷ Terminal (pattern.Punctuator mark.CloseBrace) ∷ R in
    let x = nest S ts b (from_among C S ts those_statement h) in
    let v = takes_token x.part ts x.left x.is.spelled in
    list_goes_on (unseen C S ts mark.CloseBrace of_statement no_statement_close h) x (statements_by C R k x.left nest (omega (arith, b, v)) (omega (arith, l, v)) (again those_statement x.runs))

pub statements_taken : {C : List (List ℕ)} {R : List Symbol} {ts : List Token} {expression : ℕ → Reader Expression} {inside : Reader Statement} {count : ℕ} → NestedStatements C inside count → length ts ≤ count
    → Runs C (Many n.Statement ∷ Terminal (pattern.Punctuator mark.CloseBrace) ∷ R) ts → Listed C expression inside R ts
statements_taken {C} {R} {ts} nest b h = statements_by C R (length ts) ts nest b (omega arith) (again those_statement h)

abbrev pub BlockTaken : List (List ℕ) → (ℕ → Reader Expression) → Reader Statement → List Symbol → List Token → Type 0
BlockTaken C expression inside R ts = Takes (block (is_class C) expression inside) (λ b left. Spells (pieces.block b) ts left × FormedBlock C b) C R ts

pub braced : {C : List (List ℕ)} {R : List Symbol} {ts : List Token} {inside : Reader Statement} {count : ℕ} (expression : ℕ → Reader Expression) → NestedStatements C inside count → length ts ≤ suc count
    → Marked C mark.OpenBrace (Many n.Statement ∷ Terminal (pattern.Punctuator mark.CloseBrace) ∷ R) ts → BlockTaken C expression inside R ts
unfolding block statements
braced expression nest b (marked at us r) =
    let x = statements_taken {expression = expression} nest (omega (arith, b)) r in
    record {
      part = record { statements = x.list; span = at };
      left = x.left;
      read = rw (expect_here mark.OpenBrace at us, x.read (length us) [] (omega arith));
      is = ((refl, (refl, rw (← append_assoc (pieces.statements x.list) (m mark.CloseBrace ∷ []) (leave ∷ [])) (spells_append (pieces.statements x.list ++ m mark.CloseBrace ∷ []) (leave ∷ []) us x.left x.left x.spelled refl))), x.formed);
      runs = x.runs;
    }

block_among : {inside : Reader Statement} {count : ℕ} (expression : ℕ → Reader Expression) (C : List (List ℕ)) (R : List Symbol) (ts : List Token) → NestedStatements C inside count → length ts ≤ suc count → Among C R of_block ts → BlockTaken C expression inside R ts
block_among expression C R ts nest b (inl h) = braced expression nest b (mark_first h)
block_among expression C R ts nest b (inr h) = absurd h

pub block_taken : {C : List (List ℕ)} {R : List Symbol} {ts : List Token} {inside : Reader Statement} {count : ℕ} (expression : ℕ → Reader Expression) → NestedStatements C inside count → length ts ≤ suc count → Runs C (One n.Block ∷ R) ts → BlockTaken C expression inside R ts
block_taken {C} {R} {ts} expression nest b h = block_among expression C R ts nest b (which those_block h)

-- ---- handlers

abbrev pub HandlerTaken : List (List ℕ) → (ℕ → Reader Expression) → Reader Statement → List Symbol → List Token → Type 0
HandlerTaken C expression inside R ts = Takes (handler (is_class C) expression inside) (λ h left. Spells (pieces.handler h) ts left × FormedHandler C h) C R ts

caught_head : {R : List Symbol} {ts : List Token} {inside : Reader Statement} {count : ℕ} (expression : ℕ → Reader Expression) (C : List (List ℕ)) (at : Span) → NestedStatements C inside count → length ts ≤ count → Among C (One n.Block ∷ R) of_catch_head ts
    → HandlerTaken C expression inside R (word_token word.Catch at ∷ ts)
unfolding handler expect_word sees_word
caught_head {ts = ts} expression C at nest b (inl h) =
    let o = expected mark.OpenParen h in
    let x = caught_taken o.runs in
    let c = expected mark.CloseParen x.runs in
    let s = in_parentheses_spelled (pieces.caught_by x.part) ts o.left x.left c.left o.is x.is.0 c.is in
    let v = within (in_parentheses (pieces.caught_by x.part)) ts c.left s in
    let y = block_taken expression nest (omega (arith, b, v)) c.runs in
    record {
      part = record { caught = x.part; body = y.part; span = at };
      left = y.left;
      read = rw (o.read, x.read, c.read, y.read);
      is = ((refl, (refl, spells_append (in_parentheses (pieces.caught_by x.part)) (pieces.block y.part) ts c.left y.left s y.is.0)), (x.is.1, y.is.1));
      runs = y.runs;
    }
caught_head expression C at nest b (inr h) = absurd h

handler_worded : {C : List (List ℕ)} {R : List Symbol} {ts : List Token} {inside : Reader Statement} {count : ℕ} (expression : ℕ → Reader Expression) → NestedStatements C inside count → length ts ≤ suc count → Worded C word.Catch (One n.CatchHead ∷ One n.Block ∷ R) ts → HandlerTaken C expression inside R ts
handler_worded {C} expression nest b (worded at us r) = caught_head expression C at nest (omega (arith, b)) (which those_catch_head r)

handler_among : {inside : Reader Statement} {count : ℕ} (expression : ℕ → Reader Expression) (C : List (List ℕ)) (R : List Symbol) (ts : List Token) → NestedStatements C inside count → length ts ≤ suc count → Among C R of_catch ts → HandlerTaken C expression inside R ts
handler_among expression C R ts nest b (inl h) = handler_worded expression nest b (word_first h)
handler_among expression C R ts nest b (inr h) = absurd h

-- handlers are read as far as they go
pub record Handlers (C : List (List ℕ)) (expression : ℕ → Reader Expression) (inside : Reader Statement) (R : List Symbol) (ts : List Token) : Type 0 where
  pub list : List Handler
  pub left : List Token
  pub read : (k : ℕ) (found : List Handler) → length ts ≤ k → handlers_from (is_class C) expression inside k found ts ≡ Some (found ++ list, left)
  pub spelled : Spells (pieces.handlers list) ts left
  pub formed : AllByRecursion (FormedHandler C) list
  pub runs : Runs C R left

no_handler : {R : List Symbol} (C : List (List ℕ)) (expression : ℕ → Reader Expression) (inside : Reader Statement) (ts : List Token) → NoneNext C of_catch ts → Runs C R ts → Handlers C expression inside R ts
unfolding handlers_from
no_handler C expression inside [] h r = absurd h
no_handler C expression inside (t ∷ ts) h r =
    let e = refused_word C word.Catch t ts (h.0 (usable (has_some C))) in
    record {
      list = [];
      left = t ∷ ts;
      read = elim [
        | zero ↦ λ found l. absurd (omega (arith, l))
        | suc k ↦ λ found l. rw e (ap (λ xs. Some (xs, t ∷ ts)) (sym (append-nil found)))
      ];
      spelled = refl;
      formed = tt;
      runs = r;
    }

handler_shorter : (h : Handler) (ts left : List Token) → Spells (pieces.handler h) ts left → length left < length ts
handler_shorter h ts left s = takes (pieces.handler h) refl ts left s

one_handler : {C : List (List ℕ)} {R S : List Symbol} {ts : List Token} (expression : ℕ → Reader Expression) (inside : Reader Statement) → sees_word word.Catch ts ≡ true → (x : HandlerTaken C expression inside S ts) → Handlers C expression inside R x.left → Handlers C expression inside R ts
unfolding handlers_from
one_handler {ts = ts} expression inside e x more =
    let v = handler_shorter x.part ts x.left x.is.0 in
    record {
      list = x.part ∷ more.list;
      left = more.left;
      read = elim [
        | zero ↦ λ found l. absurd (omega (arith, l, v))
        | suc k ↦ λ found l. rw (e, x.read) (more.read k (found ++ x.part ∷ []) (omega (arith, l, v)) ∙ ap (λ xs. Some (xs, more.left)) (append_assoc found (x.part ∷ []) more.list))
      ];
      spelled = spells_append (pieces.handler x.part) (pieces.handlers more.list) ts x.left more.left x.is.0 more.spelled;
      formed = (x.is.1, more.formed);
      runs = more.runs;
    }

catch_seen : {C : List (List ℕ)} {R : List Symbol} {ts : List Token} → Worded C word.Catch R ts → sees_word word.Catch ts ≡ true
unfolding sees_word
catch_seen (worded at us r) = refl

catch_next : {C : List (List ℕ)} {R : List Symbol} {ts : List Token} → Among C R of_catch ts → sees_word word.Catch ts ≡ true
catch_next (inl h) = catch_seen (word_first h)
catch_next (inr h) = absurd h

handlers_by : {inside : Reader Statement} {count : ℕ} (expression : ℕ → Reader Expression) (C : List (List ℕ)) (R : List Symbol) (k : ℕ) (ts : List Token) → NestedStatements C inside count → length ts ≤ suc count → length ts ≤ k → Among C (Many n.Catch ∷ R) of_catch ts ⊎ (NoneNext C of_catch ts × Runs C R ts)
    → Handlers C expression inside R ts
handlers_by {inside} expression C R k ts nest b l (inr h) = no_handler C expression inside ts h.0 h.1
handlers_by expression C R zero ts nest b l (inl h) = absurd (none_left ts (some_among C (Many n.Catch ∷ R) ts of_catch h) l)
handlers_by {inside} expression C R (suc k) ts nest b l (inl h) =
    let x = handler_among expression C (Many n.Catch ∷ R) ts nest b h in
    let v = handler_shorter x.part ts x.left x.is.0 in
    one_handler expression inside (catch_next h) x (handlers_by expression C R k x.left nest (omega (arith, b, v)) (omega (arith, l, v)) (again those_catch x.runs))

pub handler_taken : {C : List (List ℕ)} {R : List Symbol} {ts : List Token} {inside : Reader Statement} {count : ℕ} (expression : ℕ → Reader Expression) → NestedStatements C inside count → length ts ≤ suc count → Runs C (One n.Catch ∷ R) ts → HandlerTaken C expression inside R ts
handler_taken {C} {R} {ts} expression nest b h = handler_among expression C R ts nest b (which those_catch h)

pub handlers_taken : {C : List (List ℕ)} {R : List Symbol} {ts : List Token} {inside : Reader Statement} {count : ℕ} (expression : ℕ → Reader Expression) → NestedStatements C inside count → length ts ≤ suc count → Runs C (Many n.Catch ∷ R) ts → Handlers C expression inside R ts
handlers_taken {C} {R} {ts} expression nest b h = handlers_by expression C R (length ts) ts nest b (omega arith) (again those_catch h)
