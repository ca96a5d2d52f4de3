-- Statements where the rules read them.
use Rattle.std.proofs.Common.{◌≡◌, ℕ, zero, suc, ◌≤◌, Bool, true, false, List, [], ◌∷◌, ◌++◌, length, Option, Some, refl, sym, ap, ◌∙◌, subst, ◌⊎◌, inl, inr, append_assoc, arith}
use Rattle.co_base.specs.declared.span.Span.{Span}
use Rattle.co_lex.specs.declared.token.Token.{Token}
use Rattle.co_lex.specs.declared.token.Mark.TheVariants as mark
use Rattle.co_lex.specs.declared.token.Word.TheVariants as word
use Rattle.co_rules.specs.declared.symbol.Nonterminal.TheVariants as n
use Rattle.co_rules.specs.declared.symbol.Pattern.TheVariants as pattern
use Rattle.co_rules.specs.declared.symbol.Symbol.{Symbol}
use Rattle.co_rules.specs.declared.symbol.Symbol.TheVariants.{Token as Terminal, One, Maybe, Many, Greedy}
use Rattle.co_rules.specs.Names.{is_class}
use Rattle.co_rules.proofs.Sets.{never}
use Rattle.co_tree.specs.declared.expressions.Expression.{Expression}
use Rattle.co_tree.specs.declared.statements.ForInit.{ForInit}
use Rattle.co_tree.specs.declared.statements.ForInit.TheVariants as for_init
use Rattle.co_tree.specs.declared.statements.Statement.{Statement}
use Rattle.co_tree.specs.declared.statements.Statement.TheVariants as stmt
use Rattle.co_tree.specs.Derives.{StandsAt}
use Rattle.co_tree.specs.Formed.{FormedExpression}
use Rattle.co_tree.specs.FormedTree.{FormedStatement, FormedBlock, ends_in_if}
use Rattle.co_tree.specs.Piece.{Piece, line, node, opens, leave, m, w, rule}
use Rattle.co_tree.specs.Statements as pieces
use Rattle.co_reader.specs.Reading.{Reader, and_then, lead, place, expect, sees_word, after_word}
use Rattle.co_expressions.specs.Expressions.{expression as expression_of}
use Rattle.co_statements.specs.Statements.{statement_of, short, optional, more_handlers, tried, branches, chosen, repeated, counted, jump, statement_level, statement as statement_reader, block_within}
use Rattle.co_reads.specs.Runs.{Runs}
use Rattle.co_reads.specs.Spells.{Spells}
use Rattle.co_reads.specs.Takes.{Takes}
use Rattle.co_reads.proofs.Arguments.{condition_taken}
use Rattle.co_reads.proofs.Built.{mark_token, word_token, in_parentheses_spelled}
use Rattle.co_reads.proofs.Cases.{Among, NoneAdmitted, which, greedily, stands_some, some_among, stands_here, none_left, some_left}
use Rattle.co_reads.proofs.Expressions.{nested as nested_expressions}
use Rattle.co_reads.proofs.Firsts.{Marked, marked, mark_first, Worded, worded, word_first}
use Rattle.co_reads.proofs.Fronts.{after_word-left}
use Rattle.co_reads.proofs.Nested.{Nested}
use Rattle.co_reads.proofs.Spells.{spells_append}
use Rattle.co_reads.proofs.Steps.{expected, refused_word, within}
use Rattle.co_reads_statements.specs.Statements.{IsShort, IsStatement}
use Rattle.co_reads_statements.proofs.Blocks.{NestedStatements, block_taken, braced, handler_taken, handlers_taken}
use Rattle.co_reads_statements.proofs.Opening.{sentence_if, sentence_if_else, sentence_while, sentence_for, sentence_block, sentence_try, formed_if, formed_if_else, formed_while, formed_for, formed_block, formed_try, ends_if_else, ends_while, ends_for}
use Rattle.co_reads_statements.proofs.Parts.{optional_taken, not_semicolon, not_close, returned_taken}
use Rattle.co_reads_statements.proofs.Pieces.{spells_split, spells_behind}
use Rattle.co_reads_statements.proofs.RulesOfStatements.{of_statement, those_statement, of_else, those_else, of_for_head, those_for_head}
use Rattle.co_reads_statements.proofs.Shorts.{ShortTaken, after_semicolon, semicolon_taken, among_taken, short_taken}
use Rattle.co_reads_statements.proofs.Words.{NoWord, as_short, no_word}

-- the statements inside are read, with one level of nesting more
abbrev LevelTaken : List (List ℕ) → (ℕ → Reader Expression) → Reader Statement → List Symbol → List Token → Type 0
LevelTaken C expression inside R ts = Takes (statement_level (is_class C) expression inside) (λ s left. IsStatement C ts s left) C R ts

-- ---- `{` and `try`

level_block : {C : List (List ℕ)} {R : List Symbol} {ts : List Token} {inside : Reader Statement} {count : ℕ} (expression : ℕ → Reader Expression) → NestedStatements C inside count → length ts ≤ suc count
    → Marked C mark.OpenBrace (Many n.Statement ∷ Terminal (pattern.Punctuator mark.CloseBrace) ∷ R) ts → LevelTaken C expression inside R ts
unfolding statement_level
level_block {C} expression nest b (marked at us r) =
    let x = braced expression nest b (marked at us r) in
    record {
      part = stmt.Block x.part;
      left = x.left;
      read = rw x.read;
      is = record { spelled = subst (λ ps. Spells ps (mark_token mark.OpenBrace at ∷ us) x.left) (sym (sentence_block x.part)) x.is.0; formed = formed_block C x.part x.is.1; no_else = λ e. absurd cc };
      runs = x.runs;
    }

level_try : {C : List (List ℕ)} {R : List Symbol} {ts : List Token} {inside : Reader Statement} {count : ℕ} (expression : ℕ → Reader Expression) → NestedStatements C inside count → length ts ≤ suc count → Worded C word.Try (One n.Block ∷ One n.Catch ∷ Many n.Catch ∷ R) ts → LevelTaken C expression inside R ts
unfolding statement_level tried more_handlers
level_try {C} expression nest b (worded at us r) =
    let x = block_taken expression nest (omega (arith, b)) r in
    let u = within (pieces.block x.part) us x.left x.is.0 in
    let y = handler_taken expression nest (omega (arith, b, u)) x.runs in
    let v = within (pieces.handler y.part) x.left y.left y.is.0 in
    let z = handlers_taken expression nest (omega (arith, b, u, v)) y.runs in
    record {
      part = stmt.Try x.part (y.part ∷ z.list) at;
      left = z.left;
      read = rw (x.read, y.read, z.read (length y.left) (y.part ∷ []) (omega arith));
      is = record {
        spelled = subst (λ ps. Spells ps (word_token word.Try at ∷ us) z.left) (sym (sentence_try x.part (y.part ∷ z.list) at))
            (refl, (refl, spells_append (pieces.block x.part) (pieces.handlers (y.part ∷ z.list)) us x.left z.left x.is.0 (spells_append (pieces.handler y.part) (pieces.handlers z.list) x.left y.left z.left y.is.0 z.spelled)));
        formed = formed_try C x.part y.part z.list at x.is.1 (y.is.1, z.formed);
        no_else = λ e. absurd cc;
      };
      runs = z.runs;
    }

-- ---- `if`

-- the beginning of an `if` is spelled
if_spelled : (ps : List Piece) (at : Span) (us left : List Token) → Spells ps us left → Spells (line ∷ rule (node at ∷ opens ∷ w word.If ∷ ps)) (word_token word.If at ∷ us) left
if_spelled ps at us left s = (refl, (refl, spells_append ps (leave ∷ []) us left left s refl))

-- what is read behind the first branch
abbrev IfTaken : List (List ℕ) → (ℕ → Reader Expression) → Reader Statement → List Symbol → List Token → Span → Expression → Statement → List Token → Type 0
IfTaken C expression inside R us at e first ts = Takes (branches (is_class C) expression inside at e first) (λ s left. IsStatement C (word_token word.If at ∷ us) s left) C R ts

-- what stands behind `if` and before the branches
record Headed (C : List (List ℕ)) (us : List Token) (e : Expression) (first : Statement) (ts : List Token) : Type 0 where
  spelled : Spells (pieces.condition e ++ pieces.statement first) us ts
  condition : FormedExpression C e
  branch : FormedStatement C first
  no_else : ends_in_if first ≡ true → sees_word word.Else ts ≡ false

if_alone : {C : List (List ℕ)} {R : List Symbol} {us ts : List Token} {e : Expression} {first : Statement} (expression : ℕ → Reader Expression) (inside : Reader Statement) (at : Span) → Headed C us e first ts → sees_word word.Else ts ≡ false → Runs C R ts → IfTaken C expression inside R us at e first ts
unfolding branches
if_alone {C} {us = us} {ts} {e} {first} expression inside at h none r =
    record {
      part = stmt.If e first at;
      left = ts;
      read = rw (none, after_word-left word.Else ts none);
      is = record {
        spelled = subst (λ ps. Spells ps (word_token word.If at ∷ us) ts) (sym (sentence_if e first at)) (if_spelled (pieces.condition e ++ pieces.statement first) at us ts h.spelled);
        formed = formed_if C e first at h.condition h.branch;
        no_else = λ x. none;
      };
      runs = r;
    }

not_ends : (b : Bool) → (b ≡ true → ⊥) → b ≡ false
not_ends true f = absurd (f refl)
not_ends false f = refl

if_with_else : {C : List (List ℕ)} {R : List Symbol} {us ts : List Token} {e : Expression} {first : Statement} {inside : Reader Statement} {count : ℕ} (expression : ℕ → Reader Expression) (at : Span) → NestedStatements C inside count → length ts ≤ suc count → Headed C us e first ts → Worded C word.Else (One n.Statement ∷ R) ts
    → IfTaken C expression inside R us at e first ts
unfolding branches sees_word after_word
if_with_else {C} {R} {us = us} {e = e} {first} expression at nest b h (worded of vs r) =
    let x = nest R vs (omega (arith, b)) r in
    let tail = w word.Else ∷ pieces.statement x.part in
    record {
      part = stmt.IfElse e first x.part at;
      left = x.left;
      read = rw x.read;
      is = record {
        spelled = subst (λ ps. Spells ps (word_token word.If at ∷ us) x.left) (sym (sentence_if_else e first x.part at))
            (if_spelled (pieces.condition e ++ (pieces.statement first ++ tail)) at us x.left (spells_behind (pieces.condition e) (pieces.statement first) tail us (word_token word.Else of ∷ vs) x.left h.spelled (refl, x.is.spelled)));
        formed = formed_if_else C e first x.part at h.condition h.branch x.is.formed (not_ends (ends_in_if first) (λ y. never (sym (h.no_else y))));
        no_else = λ y. x.is.no_else (sym (ends_if_else e first x.part at) ∙ y);
      };
      runs = x.runs;
    }

no_else_word : (C : List (List ℕ)) (ts : List Token) → NoneAdmitted C (pattern.Keyword word.Else) ts → sees_word word.Else ts ≡ false
no_else_word C [] h = absurd h
no_else_word C (t ∷ ts) h = refused_word C word.Else t ts h

branches_by : {R : List Symbol} {us ts : List Token} {e : Expression} {first : Statement} {inside : Reader Statement} {count : ℕ} (C : List (List ℕ)) (expression : ℕ → Reader Expression) (at : Span) → NestedStatements C inside count → length ts ≤ suc count → Headed C us e first ts
    → Among C R of_else ts ⊎ (NoneAdmitted C (pattern.Keyword word.Else) ts × Runs C R ts) → IfTaken C expression inside R us at e first ts
branches_by C expression at nest b h (inl (inl a)) = if_with_else expression at nest b h (word_first a)
branches_by C expression at nest b h (inl (inr a)) = absurd a
branches_by {ts = ts} {inside = inside} C expression at nest b h (inr a) = if_alone expression inside at h (no_else_word C ts a.0) a.1

level_if : {C : List (List ℕ)} {R : List Symbol} {ts : List Token} {expression : ℕ → Reader Expression} {inside : Reader Statement} {count : ℕ} → Nested C expression count → NestedStatements C inside count → length ts ≤ suc count
    → Worded C word.If (One n.Condition ∷ One n.Statement ∷ Greedy n.Else (pattern.Keyword word.Else) ∷ R) ts → LevelTaken C expression inside R ts
unfolding statement_level chosen
level_if {C} {R} {expression = expression} nested nest b (worded at us r) =
    let c = condition_taken nested (omega (arith, b)) r in
    let u = within (pieces.condition c.part) us c.left c.is.0 in
    let x = nest (Greedy n.Else (pattern.Keyword word.Else) ∷ R) c.left (omega (arith, b, u)) c.runs in
    let v = within (pieces.statement x.part) c.left x.left x.is.spelled in
    let head : Headed C us c.part x.part x.left = record { spelled = spells_append (pieces.condition c.part) (pieces.statement x.part) us c.left x.left c.is.0 x.is.spelled; condition = c.is.1; branch = x.is.formed; no_else = x.is.no_else } in
    let y = branches_by C expression at nest (omega (arith, b, u, v)) head (greedily those_else x.runs) in
    record { part = y.part; left = y.left; read = rw (c.read, x.read, y.read); is = y.is; runs = y.runs }

-- ---- `while` and `for`

level_while : {C : List (List ℕ)} {R : List Symbol} {ts : List Token} {expression : ℕ → Reader Expression} {inside : Reader Statement} {count : ℕ} → Nested C expression count → NestedStatements C inside count → length ts ≤ suc count → Worded C word.While (One n.Condition ∷ One n.Statement ∷ R) ts
    → LevelTaken C expression inside R ts
unfolding statement_level repeated
level_while {C} {R} nested nest b (worded at us r) =
    let c = condition_taken nested (omega (arith, b)) r in
    let u = within (pieces.condition c.part) us c.left c.is.0 in
    let x = nest R c.left (omega (arith, b, u)) c.runs in
    let ps = pieces.condition c.part ++ pieces.statement x.part in
    record {
      part = stmt.While c.part x.part at;
      left = x.left;
      read = rw (c.read, x.read);
      is = record {
        spelled = subst (λ qs. Spells qs (word_token word.While at ∷ us) x.left) (sym (sentence_while c.part x.part at))
            (refl, (refl, spells_append ps (leave ∷ []) us x.left x.left (spells_append (pieces.condition c.part) (pieces.statement x.part) us c.left x.left c.is.0 x.is.spelled) refl));
        formed = formed_while C c.part x.part at c.is.1 x.is.formed;
        no_else = λ y. x.is.no_else (sym (ends_while c.part x.part at) ∙ y);
      };
      runs = x.runs;
    }

-- `(` .. `)` of a `for` are spelled
for_spelled : (i : ForInit) (c s : Option Expression) (ts us vs xs left : List Token) → Spells (m mark.OpenParen ∷ []) ts us → Spells (pieces.for_head i) us vs → Spells (pieces.full_if c ++ m mark.Semicolon ∷ []) vs xs → Spells (pieces.full_if s ++ m mark.CloseParen ∷ []) xs left
    → Spells (pieces.for_parentheses i c s) ts left
for_spelled i c s ts us vs xs left o a b e =
    let z = spells_split (pieces.full_if s) (m mark.CloseParen ∷ []) xs left e in
    in_parentheses_spelled (pieces.for_head i ++ (pieces.full_if c ++ m mark.Semicolon ∷ pieces.full_if s)) ts us z.0 left o
    (spells_append (pieces.for_head i) (pieces.full_if c ++ m mark.Semicolon ∷ pieces.full_if s) us vs z.0 a
    (rw (append_assoc (pieces.full_if c) (m mark.Semicolon ∷ []) (pieces.full_if s)) at (spells_append (pieces.full_if c ++ m mark.Semicolon ∷ []) (pieces.full_if s) vs xs z.0 b z.1)))
    z.2

counted_read : (class : List ℕ → Bool) (expression : ℕ → Reader Expression) (inside : Reader Statement) (at : Span) (ts us vs xs ys left : List Token) (i : ForInit) (c s : Option Expression) (body : Statement) → expect mark.OpenParen ts ≡ Some (tt, us) → short class expression us ≡ Some (i, vs)
    → optional expression mark.Semicolon vs ≡ Some (c, xs) → optional expression mark.CloseParen xs ≡ Some (s, ys) → inside ys ≡ Some (body, left) → counted class expression inside at ts ≡ Some (stmt.For i c s body at, left)
unfolding counted
counted_read class expression inside at ts us vs xs ys left i c s body a b d e f = rw (a, b, d, e, f)

for_head : {R : List Symbol} {ts : List Token} {expression : ℕ → Reader Expression} {inside : Reader Statement} {count : ℕ} (C : List (List ℕ)) (at : Span) → Nested C expression count → NestedStatements C inside count → length ts ≤ count → Among C (One n.Statement ∷ R) of_for_head ts
    → LevelTaken C expression inside R (word_token word.For at ∷ ts)
unfolding statement_level
for_head {R} {ts} {expression} {inside} C at nested nest b (inl h) =
    let o = expected mark.OpenParen h in
    let p = within (m mark.OpenParen ∷ []) ts o.left o.is in
    let i = short_taken nested (omega (arith, b, p)) o.runs in
    let q = within (pieces.for_head i.part) o.left i.left i.is.spelled in
    let c = optional_taken mark.Semicolon nested (omega (arith, b, p, q)) not_semicolon i.runs in
    let u = within (pieces.full_if c.part ++ m mark.Semicolon ∷ []) i.left c.left c.is.0 in
    let s = optional_taken mark.CloseParen nested (omega (arith, b, p, q, u)) not_close c.runs in
    let v = within (pieces.full_if s.part ++ m mark.CloseParen ∷ []) c.left s.left s.is.0 in
    let x = nest R s.left (omega (arith, b, p, q, u, v)) s.runs in
    let head = for_spelled i.part c.part s.part ts o.left i.left c.left s.left o.is i.is.spelled c.is.0 s.is.0 in
    record {
      part = stmt.For i.part c.part s.part x.part at;
      left = x.left;
      read = counted_read (is_class C) expression inside at ts o.left i.left c.left s.left x.left i.part c.part s.part x.part o.read i.read c.read s.read x.read;
      is = record {
        spelled = subst (λ qs. Spells qs (word_token word.For at ∷ ts) x.left) (sym (sentence_for i.part c.part s.part x.part at))
            (refl, (refl, spells_append (pieces.for_parentheses i.part c.part s.part ++ pieces.statement x.part) (leave ∷ []) ts x.left x.left (spells_append (pieces.for_parentheses i.part c.part s.part) (pieces.statement x.part) ts s.left x.left head x.is.spelled) refl));
        formed = formed_for C i.part c.part s.part x.part at i.is.formed c.is.1 s.is.1 x.is.formed;
        no_else = λ y. x.is.no_else (sym (ends_for i.part c.part s.part x.part at) ∙ y);
      };
      runs = x.runs;
    }
for_head C at nested nest b (inr h) = absurd h

level_for : {C : List (List ℕ)} {R : List Symbol} {ts : List Token} {expression : ℕ → Reader Expression} {inside : Reader Statement} {count : ℕ} → Nested C expression count → NestedStatements C inside count → length ts ≤ suc count → Worded C word.For (One n.ForHead ∷ One n.Statement ∷ R) ts → LevelTaken C expression inside R ts
level_for {C} nested nest b (worded at us r) = for_head C at nested nest (omega (arith, b)) (which those_for_head r)

-- ---- jumps

level_break : {C : List (List ℕ)} {R : List Symbol} {ts : List Token} (expression : ℕ → Reader Expression) (inside : Reader Statement) → Worded C word.Break (Terminal (pattern.Punctuator mark.Semicolon) ∷ R) ts → LevelTaken C expression inside R ts
unfolding statement_level jump
level_break expression inside (worded at us r) =
    let c = expected mark.Semicolon r in
    record { part = stmt.Break at; left = c.left; read = rw c.read; is = record { spelled = (refl, (refl, c.is)); formed = tt; no_else = λ y. absurd cc }; runs = c.runs }

level_continue : {C : List (List ℕ)} {R : List Symbol} {ts : List Token} (expression : ℕ → Reader Expression) (inside : Reader Statement) → Worded C word.Continue (Terminal (pattern.Punctuator mark.Semicolon) ∷ R) ts → LevelTaken C expression inside R ts
unfolding statement_level jump
level_continue expression inside (worded at us r) =
    let c = expected mark.Semicolon r in
    record { part = stmt.Continue at; left = c.left; read = rw c.read; is = record { spelled = (refl, (refl, c.is)); formed = tt; no_else = λ y. absurd cc }; runs = c.runs }

level_return : {C : List (List ℕ)} {R : List Symbol} {ts : List Token} {expression : ℕ → Reader Expression} {count : ℕ} (inside : Reader Statement) → Nested C expression count → length ts ≤ suc count → Worded C word.Return (Maybe n.Value ∷ Terminal (pattern.Punctuator mark.Semicolon) ∷ R) ts → LevelTaken C expression inside R ts
unfolding statement_level jump
level_return inside nested b (worded at us r) =
    let x = returned_taken nested (omega (arith, b)) r in
    record { part = stmt.Return x.part at; left = x.left; read = rw x.read; is = record { spelled = (refl, (refl, x.is.0)); formed = x.is.1; no_else = λ y. absurd cc }; runs = x.runs }

level_co_return : {C : List (List ℕ)} {R : List Symbol} {ts : List Token} {expression : ℕ → Reader Expression} {count : ℕ} (inside : Reader Statement) → Nested C expression count → length ts ≤ suc count → Worded C word.CoReturn (Maybe n.Expression ∷ Terminal (pattern.Punctuator mark.Semicolon) ∷ R) ts
    → LevelTaken C expression inside R ts
unfolding statement_level jump
level_co_return inside nested b (worded at us r) =
    let x = optional_taken mark.Semicolon nested (omega (arith, b)) not_semicolon r in
    record { part = stmt.CoReturn x.part at; left = x.left; read = rw x.read; is = record { spelled = (refl, (refl, x.is.0)); formed = x.is.1; no_else = λ y. absurd cc }; runs = x.runs }

-- ---- locals, expressions and lone `;`

short_is : (C : List (List ℕ)) (i : ForInit) (ts left : List Token) → StandsAt ts (place ts) → IsShort C ts i left → IsStatement C ts (statement_of (place ts) i) left
short_is C for_init.None ts left p x = record { spelled = (p, x.spelled); formed = tt; no_else = λ y. absurd cc }
short_is C (for_init.Local v) ts left p x = record { spelled = x.spelled; formed = x.formed; no_else = λ y. absurd cc }
short_is C (for_init.Expression e) ts left p x = record { spelled = (p, x.spelled); formed = x.formed; no_else = λ y. absurd cc }

level_short : {C : List (List ℕ)} {R : List Symbol} {ts : List Token} (expression : ℕ → Reader Expression) (inside : Reader Statement) → StandsAt ts (place ts) → NoWord (lead ts) → ShortTaken C expression R ts → LevelTaken C expression inside R ts
level_short {C} {ts = ts} expression inside p none x =
    record { part = statement_of (place ts) x.part; left = x.left; read = as_short (is_class C) expression inside ts none ∙ ap (λ r. and_then r (λ i us. Some (statement_of (place ts) i, us))) x.read; is = short_is C x.part ts x.left p x.is; runs = x.runs }

semicolon_word : {C : List (List ℕ)} {R : List Symbol} {ts : List Token} → Marked C mark.Semicolon R ts → NoWord (lead ts)
semicolon_word (marked at us r) = record { brace = refl; no_try = refl; no_if = refl; no_while = refl; no_for = refl; no_break = refl; no_continue = refl; no_return = refl; no_co_return = refl }

-- ---- all of them

-- the reader reads what stands in fewer tokens
fewer : {C : List (List ℕ)} {expression : ℕ → Reader Expression} {count : ℕ} → Nested C expression (suc count) → Nested C expression count
fewer nested =
    record {
      whole = λ R ts b h. nested.whole R ts (omega (arith, b)) h;
      unary = λ R ts more b h. nested.unary R ts more (omega (arith, b)) h;
      operand = λ least R ts o u b h. nested.operand least R ts o u (omega (arith, b)) h;
    }

level_among : {expression : ℕ → Reader Expression} {inside : Reader Statement} {count : ℕ} (C : List (List ℕ)) (R : List Symbol) (ts : List Token) → Nested C expression (suc count) → NestedStatements C inside count → length ts ≤ suc count → Among C R of_statement ts → LevelTaken C expression inside R ts
level_among {expression} {inside} C R ts nested nest b (inl h) = level_block expression nest b (mark_first h)
level_among {expression} {inside} C R ts nested nest b (inr (inl h)) = level_short expression inside (stands_here h tt) (semicolon_word (mark_first h)) (semicolon_taken expression h)
level_among {expression} {inside} C R ts nested nest b (inr (inr (inl h))) = level_try expression nest b (word_first h)
level_among {expression} {inside} C R ts nested nest b (inr (inr (inr (inl h)))) = level_if (fewer nested) nest b (word_first h)
level_among {expression} {inside} C R ts nested nest b (inr (inr (inr (inr (inl h))))) = level_while (fewer nested) nest b (word_first h)
level_among {expression} {inside} C R ts nested nest b (inr (inr (inr (inr (inr (inl h)))))) = level_for (fewer nested) nest b (word_first h)
level_among {expression} {inside} C R ts nested nest b (inr (inr (inr (inr (inr (inr (inl h))))))) = level_break expression inside (word_first h)
level_among {expression} {inside} C R ts nested nest b (inr (inr (inr (inr (inr (inr (inr (inl h)))))))) = level_continue expression inside (word_first h)
level_among {expression} {inside} C R ts nested nest b (inr (inr (inr (inr (inr (inr (inr (inr (inl h))))))))) = level_return inside (fewer nested) b (word_first h)
level_among {expression} {inside} C R ts nested nest b (inr (inr (inr (inr (inr (inr (inr (inr (inr (inl h)))))))))) = level_co_return inside (fewer nested) b (word_first h)
level_among {expression} {inside} C R ts nested nest b (inr (inr (inr (inr (inr (inr (inr (inr (inr (inr h)))))))))) = level_short expression inside (stands_some ts (some_among C R ts (after_semicolon n.Statement) h)) (no_word C R ts h) (among_taken n.Statement C R ts nested b h)

-- each statement of so many tokens is read, with one level of nesting more
pub nested_statements : (C : List (List ℕ)) (count : ℕ) → NestedStatements C (statement_reader (is_class C) (suc count)) count
unfolding statement_reader
nested_statements C zero R ts b h = absurd (none_left ts (some_left h tt) b)
nested_statements C (suc count) R ts b h = level_among C R ts (nested_expressions C (suc count)) (nested_statements C count) b (which those_statement h)

-- each block of so many tokens is read
pub block_within_taken : (C : List (List ℕ)) (depth : ℕ) (R : List Symbol) (ts : List Token) → length ts ≤ depth → Runs C (One n.Block ∷ R) ts → Takes (block_within (is_class C) depth) (λ b left. Spells (pieces.block b) ts left × FormedBlock C b) C R ts
unfolding block_within
block_within_taken C zero R ts b h = absurd (none_left ts (some_left h tt) b)
block_within_taken C (suc depth) R ts b h = block_taken (expression_of (is_class C) (suc depth)) (nested_statements C depth) b h
