-- What statements have in their heads, and what they return, where the rules read them.
use Rattle.std.proofs.Common.{◌≡◌, ℕ, ◌≤◌, false, List, [], ◌∷◌, ◌++◌, length, Some, None, refl, ◌∙◌, ◌⊎◌, inl, inr, arith}
use Rattle.co_lex.specs.declared.token.Token.{Token}
use Rattle.co_lex.specs.declared.token.Mark.{Mark}
use Rattle.co_lex.specs.declared.token.Mark.TheVariants as mark
use Rattle.co_rules.specs.declared.symbol.Nonterminal.TheVariants as n
use Rattle.co_rules.specs.declared.symbol.Pattern.TheVariants as pattern
use Rattle.co_rules.specs.declared.symbol.Symbol.{Symbol}
use Rattle.co_rules.specs.declared.symbol.Symbol.TheVariants.{Token as Terminal, One, Maybe}
use Rattle.co_rules.specs.Names.{is_class}
use Rattle.co_tree.specs.declared.expressions.Expression.{Expression}
use Rattle.co_tree.specs.declared.statements.Caught.TheVariants as caught_as
use Rattle.co_tree.specs.declared.statements.Returned.TheVariants as returned_as
use Rattle.co_tree.specs.FormedTree.{FormedIf, IsNameIf, FormedParameter, FormedCaught, FormedReturned}
use Rattle.co_tree.specs.Piece.{m}
use Rattle.co_tree.specs.Sentence as tree
use Rattle.co_tree.specs.Statements as pieces
use Rattle.co_tree.specs.Types.{type_id as type_pieces}
use Rattle.co_reader.specs.declared.lead.Lead.{Lead}
use Rattle.co_reader.specs.declared.lead.Lead.TheVariants as l
use Rattle.co_reader.specs.Reading.{Reader, and_then, lead, place, sees, is_mark, expect}
use Rattle.co_statements.specs.Statements.{optional, returned, returned_by, name_if, parameter, caught}
use Rattle.co_reads.specs.Runs.{Runs}
use Rattle.co_reads.specs.Spells.{Spells}
use Rattle.co_reads.specs.Takes.{Takes}
use Rattle.co_reads.proofs.Arguments.{arguments_taken, not_brace}
use Rattle.co_reads.proofs.Built.{mark_token}
use Rattle.co_reads.proofs.Cases.{Among, NoneNext, which, whether, one_or_none, from_among, stands_here}
use Rattle.co_reads.proofs.Firsts.{Named, named, name_first, Marked, marked, mark_first}
use Rattle.co_reads.proofs.Fronts.{after-left}
use Rattle.co_reads.proofs.Nested.{Nested}
use Rattle.co_reads.proofs.RulesOfArguments.{of_value, those_value}
use Rattle.co_reads.proofs.RulesOfExpressions.{of_expression, those_expression}
use Rattle.co_reads.proofs.RulesOfTypes.{those_type_id, of_type_id, of_parameter_name, those_parameter_name}
use Rattle.co_reads.proofs.Spells.{spells_append, spells_rule}
use Rattle.co_reads.proofs.Steps.{expected, sees_here, after_here, unseen, BeginNot, NameTaken, taken_name}
use Rattle.co_reads.proofs.TypeIds.{type_taken}
use Rattle.co_reads_statements.proofs.Initializers.{value_cases, braced_spelled}
use Rattle.co_reads_statements.proofs.RulesOfStatements.{of_catch_parameter, those_catch_parameter}

-- ---- an expression that may be left out, and the mark behind it

abbrev pub OptionalTaken : List (List ℕ) → (ℕ → Reader Expression) → Mark → List Symbol → List Token → Type 0
OptionalTaken C expression close R ts = Takes (optional expression close) (λ o left. Spells (pieces.full_if o ++ m close ∷ []) ts left × FormedIf C o) C R ts

optional_by : {expression : ℕ → Reader Expression} {count : ℕ} (C : List (List ℕ)) (R : List Symbol) (ts : List Token) (close : Mark) → Nested C expression count → length ts ≤ count → BeginNot close of_expression
    → Runs C (One n.Expression ∷ Terminal (pattern.Punctuator close) ∷ R) ts ⊎ (NoneNext C of_expression ts × Runs C (Terminal (pattern.Punctuator close) ∷ R) ts) → OptionalTaken C expression close R ts
unfolding optional
optional_by C R ts close nested b not (inl h) =
    let e = unseen C (Terminal (pattern.Punctuator close) ∷ R) ts close of_expression not (which those_expression h) in
    let x = nested.whole (Terminal (pattern.Punctuator close) ∷ R) ts b h in
    let c = expected close x.runs in
    record {
      part = Some x.part;
      left = c.left;
      read = rw (e, after-left close ts e, x.read, c.read);
      is = (spells_append (pieces.full x.part) (m close ∷ []) ts x.left c.left (spells_rule (tree.expression x.part) ts x.left x.is.spelled) c.is, x.is.formed);
      runs = c.runs;
    }
optional_by {expression} C R ts close nested b not (inr h) = at_close (mark_first h.1)
  where
    at_close : {us : List Token} → Marked C close R us → OptionalTaken C expression close R us
    at_close (marked at us r) = record { part = None; left = us; read = rw (sees_here close at us, after_here close at us); is = ((refl, refl), tt); runs = r }

pub optional_taken : {C : List (List ℕ)} {R : List Symbol} {ts : List Token} {expression : ℕ → Reader Expression} {count : ℕ} (close : Mark) → Nested C expression count → length ts ≤ count → BeginNot close of_expression
    → Runs C (Maybe n.Expression ∷ Terminal (pattern.Punctuator close) ∷ R) ts → OptionalTaken C expression close R ts
optional_taken {C} {R} {ts} close nested b not h = optional_by C R ts close nested b not (one_or_none those_expression h)

pub not_semicolon : BeginNot mark.Semicolon of_expression
not_semicolon = (refl, (refl, (refl, (refl, (refl, (refl, (refl, (refl, (refl, (refl, (refl, (refl, (refl, (refl, tt))))))))))))))

pub not_close : BeginNot mark.CloseParen of_expression
not_close = (refl, (refl, (refl, (refl, (refl, (refl, (refl, (refl, (refl, (refl, (refl, (refl, (refl, (refl, tt))))))))))))))

not_open : BeginNot mark.OpenBrace of_expression
not_open = (refl, (refl, (refl, (refl, (refl, (refl, (refl, (refl, (refl, (refl, (refl, (refl, (refl, (refl, tt))))))))))))))

-- ---- what is returned

abbrev pub ReturnedTaken : List (List ℕ) → (ℕ → Reader Expression) → List Symbol → List Token → Type 0
ReturnedTaken C expression R ts = Takes (returned expression) (λ v left. Spells (pieces.returned_value v ++ m mark.Semicolon ∷ []) ts left × FormedReturned C v) C R ts

returned_whole : (expression : ℕ → Reader Expression) (k : Lead) (ts : List Token) → is_mark mark.Semicolon k ≡ false → is_mark mark.OpenBrace k ≡ false
    → returned_by expression k ts ≡ and_then (expression 0 ts) (λ e us. and_then (expect mark.Semicolon us) (λ _ vs. Some (returned_as.Value e, vs)))
returned_whole expression (l.Mark mark.Semicolon) ts a b = absurd cc
returned_whole expression (l.Mark mark.OpenBrace) ts a b = absurd cc
returned_whole expression k ts a b = refl

returned_value : {expression : ℕ → Reader Expression} {count : ℕ} (C : List (List ℕ)) (R : List Symbol) (ts : List Token) → Nested C expression count → length ts ≤ count → Runs C (One n.Expression ∷ Terminal (pattern.Punctuator mark.Semicolon) ∷ R) ts → ReturnedTaken C expression R ts
unfolding returned sees
returned_value {expression} C R ts nested b h =
    let s = unseen C (Terminal (pattern.Punctuator mark.Semicolon) ∷ R) ts mark.Semicolon of_expression not_semicolon (which those_expression h) in
    let o = unseen C (Terminal (pattern.Punctuator mark.Semicolon) ∷ R) ts mark.OpenBrace of_expression not_open (which those_expression h) in
    let x = nested.whole (Terminal (pattern.Punctuator mark.Semicolon) ∷ R) ts b h in
    let c = expected mark.Semicolon x.runs in
    record {
      part = returned_as.Value x.part;
      left = c.left;
      read = returned_whole expression (lead ts) ts s o ∙ rw (x.read, c.read);
      is = (spells_append (pieces.full x.part) (m mark.Semicolon ∷ []) ts x.left c.left (spells_rule (tree.expression x.part) ts x.left x.is.spelled) c.is, x.is.formed);
      runs = c.runs;
    }

returned_braces : {C : List (List ℕ)} {R : List Symbol} {ts : List Token} {expression : ℕ → Reader Expression} {count : ℕ} → Nested C expression count → length ts ≤ count
    → Marked C mark.OpenBrace (Maybe n.Arguments ∷ Terminal (pattern.Punctuator mark.CloseBrace) ∷ Terminal (pattern.Punctuator mark.Semicolon) ∷ R) ts → ReturnedTaken C expression R ts
unfolding returned
returned_braces nested b (marked at us r) =
    let a = arguments_taken mark.CloseBrace nested (omega (arith, b)) not_brace r in
    let c = expected mark.Semicolon a.runs in
    record {
      part = returned_as.Braces a.part;
      left = c.left;
      read = rw (a.read, c.read);
      is = (spells_append (pieces.braces a.part) (m mark.Semicolon ∷ []) (mark_token mark.OpenBrace at ∷ us) a.left c.left (braced_spelled a.part at us a.left a.is.0) c.is, a.is.1);
      runs = c.runs;
    }

returned_none : {C : List (List ℕ)} {R : List Symbol} {ts : List Token} (expression : ℕ → Reader Expression) → Marked C mark.Semicolon R ts → ReturnedTaken C expression R ts
unfolding returned
returned_none expression (marked at us r) = record { part = returned_as.None; left = us; read = refl; is = ((refl, refl), tt); runs = r }

returned_among : {expression : ℕ → Reader Expression} {count : ℕ} (C : List (List ℕ)) (R : List Symbol) (ts : List Token) → Nested C expression count → length ts ≤ count
    → Among C (Terminal (pattern.Punctuator mark.Semicolon) ∷ R) of_value ts ⊎ (NoneNext C of_value ts × Runs C (Terminal (pattern.Punctuator mark.Semicolon) ∷ R) ts) → ReturnedTaken C expression R ts
returned_among {expression} {count} C R ts nested b (inl h) = by (value_cases C (Terminal (pattern.Punctuator mark.Semicolon) ∷ R) ts h)
  where
    by : Runs C (One n.Expression ∷ Terminal (pattern.Punctuator mark.Semicolon) ∷ R) ts ⊎ Runs C (Terminal (pattern.Punctuator mark.OpenBrace) ∷ Maybe n.Arguments ∷ Terminal (pattern.Punctuator mark.CloseBrace) ∷ Terminal (pattern.Punctuator mark.Semicolon) ∷ R) ts
        → ReturnedTaken C expression R ts
    by (inl a) = returned_value C R ts nested b a
    by (inr a) = returned_braces nested b (mark_first a)
returned_among {expression} C R ts nested b (inr h) = returned_none expression (mark_first h.1)

pub returned_taken : {C : List (List ℕ)} {R : List Symbol} {ts : List Token} {expression : ℕ → Reader Expression} {count : ℕ} → Nested C expression count → length ts ≤ count → Runs C (Maybe n.Value ∷ Terminal (pattern.Punctuator mark.Semicolon) ∷ R) ts → ReturnedTaken C expression R ts
returned_taken {C} {R} {ts} nested b h = returned_among C R ts nested b (whether those_value h)

-- ---- what is caught

abbrev NameIfTaken : List (List ℕ) → List Symbol → List Token → Type 0
NameIfTaken C R ts = Takes name_if (λ x left. Spells (pieces.name_if x) ts left × IsNameIf x) C R ts

name_there : {C : List (List ℕ)} {Is : List ℕ → Type 0} {R S : List Symbol} {ts : List Token} → Named C Is S ts → NameTaken C R ts → NameIfTaken C R ts
unfolding name_if
name_there (named text at ts is r) x = record { part = Some x.part; left = x.left; read = rw (x.read); is = x.is; runs = x.runs }

no_name : {C : List (List ℕ)} {R S : List Symbol} {ts : List Token} → Marked C mark.CloseParen S ts → Runs C R ts → NameIfTaken C R ts
unfolding name_if
no_name (marked at us r) h = record { part = None; left = mark_token mark.CloseParen at ∷ us; read = refl; is = (refl, tt); runs = h }

name_if_by : {C : List (List ℕ)} {R : List Symbol} {ts : List Token} → Among C (Terminal (pattern.Punctuator mark.CloseParen) ∷ R) of_parameter_name ts ⊎ (NoneNext C of_parameter_name ts × Runs C (Terminal (pattern.Punctuator mark.CloseParen) ∷ R) ts)
    → NameIfTaken C (Terminal (pattern.Punctuator mark.CloseParen) ∷ R) ts
name_if_by (inl (inl h)) = name_there (name_first h) (taken_name h)
name_if_by (inl (inr h)) = absurd h
name_if_by (inr h) = no_name (mark_first h.1) h.1

parameter_taken : {C : List (List ℕ)} {R : List Symbol} {ts : List Token} → Runs C (One n.TypeId ∷ Maybe n.ParameterName ∷ Terminal (pattern.Punctuator mark.CloseParen) ∷ R) ts
    → Takes (parameter (is_class C)) (λ p left. Spells (pieces.parameter p) ts left × FormedParameter C p) C (Terminal (pattern.Punctuator mark.CloseParen) ∷ R) ts
unfolding parameter
parameter_taken {ts = ts} h =
    let t = type_taken h in
    let x = name_if_by (whether those_parameter_name t.runs) in
    record {
      part = record { of = t.part; name = x.part; span = place ts };
      left = x.left;
      read = rw (t.read, x.read);
      is = ((stands_here h tt, spells_append (type_pieces t.part) (pieces.name_if x.part) ts t.left x.left t.is.0 x.is.0), (t.is.1, x.is.1));
      runs = x.runs;
    }

abbrev pub CaughtTaken : List (List ℕ) → List Symbol → List Token → Type 0
CaughtTaken C R ts = Takes (caught (is_class C)) (λ c left. Spells (pieces.caught_by c) ts left × FormedCaught C c) C R ts

caught_all : {C : List (List ℕ)} {R : List Symbol} {ts : List Token} → Marked C mark.Ellipsis R ts → CaughtTaken C R ts
unfolding caught
caught_all (marked at us r) = record { part = caught_as.All; left = us; read = rw (sees_here mark.Ellipsis at us, after_here mark.Ellipsis at us); is = ((refl, refl), tt); runs = r }

caught_one : (C : List (List ℕ)) (R : List Symbol) (ts : List Token) → Among C (Maybe n.ParameterName ∷ Terminal (pattern.Punctuator mark.CloseParen) ∷ R) of_type_id ts → CaughtTaken C (Terminal (pattern.Punctuator mark.CloseParen) ∷ R) ts
unfolding caught
caught_one C R ts h =
    let S = Maybe n.ParameterName ∷ Terminal (pattern.Punctuator mark.CloseParen) ∷ R in
    let e = unseen C S ts mark.Ellipsis of_type_id (refl, (refl, (refl, (refl, (refl, tt))))) h in
    let p = parameter_taken (from_among C S ts those_type_id h) in
    record { part = caught_as.One p.part; left = p.left; read = rw (e, after-left mark.Ellipsis ts e, p.read); is = p.is; runs = p.runs }

caught_among : (C : List (List ℕ)) (R : List Symbol) (ts : List Token) → Among C (Terminal (pattern.Punctuator mark.CloseParen) ∷ R) of_catch_parameter ts → CaughtTaken C (Terminal (pattern.Punctuator mark.CloseParen) ∷ R) ts
caught_among C R ts (inl h) = caught_all (mark_first h)
caught_among C R ts (inr h) = caught_one C R ts h

pub caught_taken : {C : List (List ℕ)} {R : List Symbol} {ts : List Token} → Runs C (One n.CatchParameter ∷ Terminal (pattern.Punctuator mark.CloseParen) ∷ R) ts → CaughtTaken C (Terminal (pattern.Punctuator mark.CloseParen) ∷ R) ts
caught_taken {C} {R} {ts} h = caught_among C R ts (which those_catch_parameter h)
