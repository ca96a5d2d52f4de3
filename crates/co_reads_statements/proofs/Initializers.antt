-- The initializers of locals where the rules read them.
use Rattle.std.proofs.Common.{◌≡◌, ℕ, suc, ◌≤◌, ◌<◌, false, List, [], ◌∷◌, ◌++◌, length, codes, refl, sym, ap, ◌∙◌, ◌⊎◌, inl, inr, append_assoc, arith}
use Rattle.co_base.specs.declared.span.Span.{Span}
use Rattle.co_lex.specs.declared.token.Token.{Token}
use Rattle.co_lex.specs.declared.token.TokenKind.TheVariants as kind
use Rattle.co_lex.specs.declared.token.Mark.TheVariants as mark
use Rattle.co_rules.specs.declared.symbol.Known.TheVariants as known
use Rattle.co_rules.specs.declared.symbol.Nonterminal.TheVariants as n
use Rattle.co_rules.specs.declared.symbol.Pattern.TheVariants as pattern
use Rattle.co_rules.specs.declared.symbol.Symbol.{Symbol}
use Rattle.co_rules.specs.declared.symbol.Symbol.TheVariants.{Token as Terminal, One, Maybe, Many, Close}
use Rattle.co_rules.specs.Names.{is_class}
use Rattle.co_rules.specs.Rule.{Rule, rule}
use Rattle.co_rules.proofs.Sets.{never}
use Rattle.co_tree.specs.declared.expressions.Expression.{Expression}
use Rattle.co_tree.specs.declared.expressions.Expression.TheVariants as expr
use Rattle.co_tree.specs.declared.statements.Initializer.TheVariants as init
use Rattle.co_tree.specs.Formed.{BeginsWithType, first_of, is_led_by_type, as_postfix}
use Rattle.co_tree.specs.FormedTree.{LocalInitializer}
use Rattle.co_tree.specs.Piece.{leave, m}
use Rattle.co_tree.specs.Sentence as tree
use Rattle.co_tree.specs.Statements.{initializer, braces, full}
use Rattle.co_reader.specs.Reading.{Reader, place, any_name, spells}
use Rattle.co_expressions.specs.Expressions.{more}
use Rattle.co_statements.specs.Statements.{equals, first_argument, named_first, library_first, pathed_first, local_arguments, local_initializer}
use Rattle.co_reads.specs.Expressions.{IsRead, IsOperand}
use Rattle.co_reads.specs.Runs.{Runs}
use Rattle.co_reads.specs.Spells.{Spells}
use Rattle.co_reads.specs.Takes.{Takes}
use Rattle.co_reads.proofs.Arguments.{more_taken, arguments_taken, not_brace}
use Rattle.co_reads.proofs.Built.{mark_token, kind_token}
use Rattle.co_reads.proofs.Cases.{Among, NoneNext, which, whether, either, by_rule, from_among}
use Rattle.co_reads.proofs.Firsts.{Named, named, Marked, marked, mark_first, SpelledNext, spelled_next, spelled_first}
use Rattle.co_reads.proofs.Fronts.{after-left}
use Rattle.co_reads.proofs.Library.{IsFunction, function_first}
use Rattle.co_reads.proofs.Nested.{Nested}
use Rattle.co_reads.proofs.Operations.{after_primary_taken}
use Rattle.co_reads.proofs.Paths.{path_of, path_read, path_spelled, path_is, path_class, no_class_path, names_begin, names_stand}
use Rattle.co_reads.proofs.RulesOfArguments.{those_first_argument, of_value, those_value, those_first_path}
use Rattle.co_reads.proofs.RulesOfExpressions.{of_expression, those_expression}
use Rattle.co_reads.proofs.Spells.{spells_append, spells_rule}
use Rattle.co_reads.proofs.Steps.{expected, expect_here, sees_here, after_here, unseen, within}
use Rattle.co_reads_statements.proofs.Names.{OtherNext, behind, first_path}
use Rattle.co_reads_statements.proofs.Plain.{plain_rules, PlainNext, plain_among, first_plain, no_type_first}
use Rattle.co_reads_statements.proofs.RulesOfStatements.{of_local_rest, those_local_rest}

-- ---- after `=`

-- what is read is spelled with the `=` before it
abbrev pub EqualsTaken : List (List ℕ) → (ℕ → Reader Expression) → List Symbol → List Token → Type 0
EqualsTaken C expression R ts = Takes (equals expression) (λ i left. ((at : Span) → Spells (initializer i) (mark_token mark.Assign at ∷ ts) left) × LocalInitializer C i) C R ts

pub braced_spelled : (es : List Expression) (at : Span) (us left : List Token) → Spells (tree.arguments es ++ m mark.CloseBrace ∷ []) us left → Spells (braces es) (mark_token mark.OpenBrace at ∷ us) left
braced_spelled es at us left s = (refl, rw (← append_assoc (tree.arguments es) (m mark.CloseBrace ∷ []) (leave ∷ [])) (spells_append (tree.arguments es ++ m mark.CloseBrace ∷ []) (leave ∷ []) us left left s refl))

equals_whole : {C : List (List ℕ)} {R : List Symbol} {ts : List Token} {expression : ℕ → Reader Expression} {count : ℕ} → Nested C expression count → length ts ≤ count → Runs C (One n.Expression ∷ R) ts → EqualsTaken C expression R ts
unfolding equals
equals_whole {C} {R} {ts} nested b h =
    let e = unseen C R ts mark.OpenBrace of_expression (refl, (refl, (refl, (refl, (refl, (refl, (refl, (refl, (refl, (refl, (refl, (refl, (refl, (refl, tt)))))))))))))) (which those_expression h) in
    let x = nested.whole R ts b h in
    record { part = init.Equals x.part; left = x.left; read = rw (e, after-left mark.OpenBrace ts e, x.read); is = ((λ at. (refl, spells_rule (tree.expression x.part) ts x.left x.is.spelled)), x.is.formed); runs = x.runs }

equals_braced : {C : List (List ℕ)} {R : List Symbol} {ts : List Token} {expression : ℕ → Reader Expression} {count : ℕ} → Nested C expression count → length ts ≤ count → Marked C mark.OpenBrace (Maybe n.Arguments ∷ Terminal (pattern.Punctuator mark.CloseBrace) ∷ R) ts → EqualsTaken C expression R ts
unfolding equals
equals_braced nested b (marked at us r) =
    let a = arguments_taken mark.CloseBrace nested (omega (arith, b)) not_brace r in
    record {
      part = init.EqualsBraces a.part;
      left = a.left;
      read = rw (sees_here mark.OpenBrace at us, after_here mark.OpenBrace at us, a.read);
      is = ((λ assign. (refl, braced_spelled a.part at us a.left a.is.0)), a.is.1);
      runs = a.runs;
    }

abbrev braced_value : List Rule
braced_value = rule n.Value (pattern.Punctuator mark.OpenBrace) (Maybe n.Arguments ∷ Terminal (pattern.Punctuator mark.CloseBrace) ∷ Close ∷ []) ∷ []

pub value_cases : (C : List (List ℕ)) (R : List Symbol) (ts : List Token) → Among C R of_value ts → Runs C (One n.Expression ∷ R) ts ⊎ Runs C (Terminal (pattern.Punctuator mark.OpenBrace) ∷ Maybe n.Arguments ∷ Terminal (pattern.Punctuator mark.CloseBrace) ∷ R) ts
value_cases C R ts h = by (either C R ts of_expression braced_value h)
  where
    by : Among C R of_expression ts ⊎ Among C R braced_value ts → Runs C (One n.Expression ∷ R) ts ⊎ Runs C (Terminal (pattern.Punctuator mark.OpenBrace) ∷ Maybe n.Arguments ∷ Terminal (pattern.Punctuator mark.CloseBrace) ∷ R) ts
    by (inl a) = inl (from_among C R ts those_expression a)
    by (inr (inl a)) = inr a
    by (inr (inr a)) = absurd a

pub equals_taken : {C : List (List ℕ)} {R : List Symbol} {ts : List Token} {expression : ℕ → Reader Expression} {count : ℕ} → Nested C expression count → length ts ≤ count → Runs C (One n.Value ∷ R) ts → EqualsTaken C expression R ts
equals_taken {C} {R} {ts} nested b h = elim (value_cases C R ts (which those_value h)) [ inl a ↦ equals_whole nested b a | inr a ↦ equals_braced nested b (mark_first a) ]

-- ---- the first argument, which begins with no type

abbrev pub FirstTaken : List (List ℕ) → (ℕ → Reader Expression) → List Symbol → List Token → Type 0
FirstTaken C expression R ts = Takes (first_argument (is_class C) expression) (λ e left. IsRead C ts e left × (BeginsWithType e → ⊥)) C R ts

first_whole : {C : List (List ℕ)} {R : List Symbol} {ts : List Token} {expression : ℕ → Reader Expression} {count : ℕ} → Nested C expression count → length ts ≤ count → PlainNext C R ts → FirstTaken C expression R ts
first_whole {C} {R} {ts} {expression} nested b p =
    let x = nested.whole R ts b p.runs in
    record { part = x.part; left = x.left; read = first_plain (is_class C) expression ts p.plain ∙ x.read; is = (record { spelled = x.is.spelled; formed = x.is.formed }, no_type_first ts x.part p.plain x.is.led); runs = x.runs }

-- what stands first is no type
stays : (e f : Expression) → first_of f ≡ first_of e → is_led_by_type (first_of e) ≡ false → BeginsWithType f → ⊥
stays e f s h i = never (sym h ∙ (ap is_led_by_type (sym s) ∙ i))

-- a function of the library, with `std ::` before it
pub function_operand : {C : List (List ℕ)} {ts : List Token} (text : List ℕ) (at scope of : Span) (f : IsFunction text)
    → IsOperand C as_postfix (kind_token (kind.Name (codes "std")) at ∷ mark_token mark.Scope scope ∷ kind_token (kind.Name text) of ∷ ts) (expr.StandardFunction f.function at) ts
function_operand text at scope of f = record { spelled = (refl, (refl, (refl, (ap kind.Name f.spelled, refl)))); formed = tt; tight = omega arith; new = λ h. absurd cc }

first_function : {C : List (List ℕ)} {R : List Symbol} {ts : List Token} {expression : ℕ → Reader Expression} {count : ℕ} (at scope : Span) → Nested C expression count → length ts < count → Named C IsFunction (behind R) ts
    → FirstTaken C expression R (kind_token (kind.Name (codes "std")) at ∷ mark_token mark.Scope scope ∷ ts)
unfolding first_argument named_first library_first any_name spells
first_function {expression = expression} at scope nested b (named text of us f r) =
    let x = after_primary_taken at nested (omega (arith, b)) refl (function_operand text at scope of f) r in
    record {
      part = x.part;
      left = x.left;
      read = rw (expect_here mark.Scope scope (kind_token (kind.Name text) of ∷ us), f.found, x.read);
      is = (x.is.0, stays (expr.StandardFunction f.function at) x.part x.is.1 refl);
      runs = x.runs;
    }

-- a path of no class
pub path_operand : {C : List (List ℕ)} {R : List Symbol} {ts : List Token} (p : OtherNext C R ts) → IsOperand C as_postfix ts (expr.Name (path_of p.next.first p.next.later ts)) p.next.left
path_operand {C} p = record { spelled = path_spelled p.next.names; formed = (path_is p.next.names, no_class_path C p.next.names p.other); tight = omega arith; new = λ h. absurd cc }

first_pathed : {C : List (List ℕ)} {R : List Symbol} {ts : List Token} {expression : ℕ → Reader Expression} {count : ℕ} → Nested C expression count → length ts ≤ suc count → OtherNext C (behind R) ts → FirstTaken C expression R ts
unfolding first_argument named_first pathed_first
first_pathed {C} {ts = ts} {expression} nested b p =
    let g = names_begin p.next.names in
    let o = path_operand p in
    let x = after_primary_taken (place ts) nested b (names_stand p.next.names) o p.next.runs in
    record {
      part = x.part;
      left = x.left;
      read = rw (g.lead_is, g.no_std, g.no_corun, path_read p.next.names, path_class C p.next.names p.other, x.read);
      is = (x.is.0, stays (expr.Name (path_of p.next.first p.next.later ts)) x.part x.is.1 refl);
      runs = x.runs;
    }

abbrev other_arguments : List Rule
other_arguments =
    rule n.FirstArgument (pattern.Spelled known.Std) (Terminal (pattern.Punctuator mark.Scope) ∷ Terminal pattern.LibraryFunction ∷ Maybe n.Postfix ∷ Maybe n.Operators ∷ Maybe n.ExpressionRest ∷ []) ∷
    rule n.FirstArgument pattern.ClassName (Terminal (pattern.Punctuator mark.Scope) ∷ One n.FirstPath ∷ Maybe n.Postfix ∷ Maybe n.Operators ∷ Maybe n.ExpressionRest ∷ []) ∷
    rule n.FirstArgument pattern.OtherName (Maybe n.FirstScope ∷ Maybe n.Postfix ∷ Maybe n.Operators ∷ Maybe n.ExpressionRest ∷ []) ∷ []

on_std : {C : List (List ℕ)} {R : List Symbol} {ts : List Token} {expression : ℕ → Reader Expression} {count : ℕ} → Nested C expression count → length ts ≤ suc count → SpelledNext C known.Std (Terminal (pattern.Punctuator mark.Scope) ∷ Terminal pattern.LibraryFunction ∷ behind R) ts
    → FirstTaken C expression R ts
on_std {C} {R} {expression = expression} {count} nested b (spelled_next at us r) = on_mark (omega (arith, b)) (mark_first r)
  where
    on_mark : {vs : List Token} → length vs ≤ count → Marked C mark.Scope (Terminal pattern.LibraryFunction ∷ behind R) vs → FirstTaken C expression R (kind_token (kind.Name (codes "std")) at ∷ vs)
    on_mark b (marked scope ws q) = first_function at scope nested (omega (arith, b)) (function_first q)

first_among : {expression : ℕ → Reader Expression} {count : ℕ} (C : List (List ℕ)) (R : List Symbol) (ts : List Token) → Nested C expression count → length ts ≤ count → Among C R (plain_rules n.FirstArgument []) ts ⊎ Among C R other_arguments ts → FirstTaken C expression R ts
first_among C R ts nested b (inl h) = first_whole nested b (plain_among n.FirstArgument [] C R ts h)
first_among C R ts nested b (inr (inl h)) = on_std nested (omega (arith, b)) (spelled_first known.Std tt h)
first_among C R ts nested b (inr (inr (inl h))) = first_pathed nested (omega (arith, b)) (first_path (by_rule (Terminal (pattern.Punctuator mark.Scope) ∷ One n.FirstPath ∷ []) those_first_path (inl refl) h))
first_among C R ts nested b (inr (inr (inr (inl h)))) = first_pathed nested (omega (arith, b)) (first_path (by_rule (Maybe n.FirstScope ∷ []) those_first_path (inr (inl refl)) h))
first_among C R ts nested b (inr (inr (inr (inr h)))) = absurd h

pub first_taken : {C : List (List ℕ)} {R : List Symbol} {ts : List Token} {expression : ℕ → Reader Expression} {count : ℕ} → Nested C expression count → length ts ≤ count → Runs C (One n.FirstArgument ∷ R) ts → FirstTaken C expression R ts
first_taken {C} {R} {ts} nested b h = first_among C R ts nested b (either C R ts (plain_rules n.FirstArgument []) other_arguments (which those_first_argument h))

-- ---- initializers

abbrev pub InitializerTaken : List (List ℕ) → (ℕ → Reader Expression) → List Symbol → List Token → Type 0
InitializerTaken C expression R ts = Takes (local_initializer (is_class C) expression) (λ i left. Spells (initializer i) ts left × LocalInitializer C i) C R ts

by_equals : {C : List (List ℕ)} {R : List Symbol} {ts : List Token} {expression : ℕ → Reader Expression} {count : ℕ} → Nested C expression count → length ts ≤ suc count → Marked C mark.Assign (One n.Value ∷ R) ts → InitializerTaken C expression R ts
unfolding local_initializer
by_equals nested b (marked at us r) =
    let x = equals_taken nested (omega (arith, b)) r in
    record { part = x.part; left = x.left; read = rw x.read; is = (x.is.0 at, x.is.1); runs = x.runs }

by_parentheses : {C : List (List ℕ)} {R : List Symbol} {ts : List Token} {expression : ℕ → Reader Expression} {count : ℕ} → Nested C expression count → length ts ≤ suc count → Marked C mark.OpenParen (One n.FirstArgument ∷ Many n.NextArgument ∷ Terminal (pattern.Punctuator mark.CloseParen) ∷ R) ts
    → InitializerTaken C expression R ts
unfolding local_initializer local_arguments more
by_parentheses nested b (marked at us r) =
    let x = first_taken nested (omega (arith, b)) r in
    let w = within (tree.expression x.part) us x.left x.is.0.spelled in
    let a = more_taken nested (omega (arith, b, w)) x.runs in
    let c = expected mark.CloseParen a.runs in
    record {
      part = init.Parentheses (x.part ∷ a.args);
      left = c.left;
      read = rw (x.read, a.read (length x.left) (x.part ∷ []) (omega arith), c.read);
      is = ((refl, spells_append (tree.arguments (x.part ∷ a.args)) (m mark.CloseParen ∷ leave ∷ []) us a.left c.left (spells_append (full x.part) (tree.arguments_after a.args) us x.left a.left (spells_rule (tree.expression x.part) us x.left x.is.0.spelled) a.spelled) (spells_append (m mark.CloseParen ∷ []) (leave ∷ []) a.left c.left c.left c.is refl)), ((x.is.0.formed, a.formed), x.is.1));
      runs = c.runs;
    }

by_braces : {C : List (List ℕ)} {R : List Symbol} {ts : List Token} {expression : ℕ → Reader Expression} {count : ℕ} → Nested C expression count → length ts ≤ suc count → Marked C mark.OpenBrace (Maybe n.Arguments ∷ Terminal (pattern.Punctuator mark.CloseBrace) ∷ R) ts → InitializerTaken C expression R ts
unfolding local_initializer
by_braces nested b (marked at us r) =
    let a = arguments_taken mark.CloseBrace nested (omega (arith, b)) not_brace r in
    record { part = init.Braces a.part; left = a.left; read = rw a.read; is = (braced_spelled a.part at us a.left a.is.0, a.is.1); runs = a.runs }

-- none, where the `;` comes next
by_none : {C : List (List ℕ)} {R S : List Symbol} {ts : List Token} (expression : ℕ → Reader Expression) → Marked C mark.Semicolon S ts → Runs C R ts → InitializerTaken C expression R ts
unfolding local_initializer
by_none expression (marked at us r) h = record { part = init.None; left = mark_token mark.Semicolon at ∷ us; read = refl; is = (refl, tt); runs = h }

initializer_by : {expression : ℕ → Reader Expression} {count : ℕ} (C : List (List ℕ)) (R : List Symbol) (ts : List Token) → Nested C expression count → length ts ≤ suc count
    → Among C (Terminal (pattern.Punctuator mark.Semicolon) ∷ R) of_local_rest ts ⊎ (NoneNext C of_local_rest ts × Runs C (Terminal (pattern.Punctuator mark.Semicolon) ∷ R) ts) → InitializerTaken C expression (Terminal (pattern.Punctuator mark.Semicolon) ∷ R) ts
initializer_by C R ts nested b (inl (inl h)) = by_equals nested b (mark_first h)
initializer_by C R ts nested b (inl (inr (inl h))) = by_parentheses nested b (mark_first h)
initializer_by C R ts nested b (inl (inr (inr (inl h)))) = by_braces nested b (mark_first h)
initializer_by C R ts nested b (inl (inr (inr (inr h)))) = absurd h
initializer_by {expression} C R ts nested b (inr h) = by_none expression (mark_first h.1) h.1

pub initializer_taken : {C : List (List ℕ)} {R : List Symbol} {ts : List Token} {expression : ℕ → Reader Expression} {count : ℕ} → Nested C expression count → length ts ≤ suc count → Runs C (Maybe n.LocalRest ∷ Terminal (pattern.Punctuator mark.Semicolon) ∷ R) ts
    → InitializerTaken C expression (Terminal (pattern.Punctuator mark.Semicolon) ∷ R) ts
initializer_taken {C} {R} {ts} nested b h = initializer_by C R ts nested b (whether those_local_rest h)
