-- Parameters where the rules read them.
use Rattle.std.proofs.Common.{◌≡◌, ℕ, zero, suc, ◌≤◌, false, List, [], ◌∷◌, ◌++◌, length, Some, None, refl, ◌⊎◌, inl, inr, arith}
use Rattle.co_base.specs.declared.span.Span.{Span}
use Rattle.co_lex.specs.declared.token.Token.{Token}
use Rattle.co_lex.specs.declared.token.TokenKind.TheVariants as kind
use Rattle.co_lex.specs.declared.token.Mark.{Mark}
use Rattle.co_lex.specs.declared.token.Mark.TheVariants as mark
use Rattle.co_rules.specs.declared.symbol.Nonterminal.TheVariants as n
use Rattle.co_rules.specs.declared.symbol.Pattern.TheVariants as pattern
use Rattle.co_rules.specs.declared.symbol.Symbol.{Symbol}
use Rattle.co_rules.specs.declared.symbol.Symbol.TheVariants.{Token as Terminal, One, Maybe, Many}
use Rattle.co_rules.specs.Names.{is_class, has_some}
use Rattle.co_tree.specs.declared.declarations.Parameter.{Parameter}
use Rattle.co_tree.specs.Piece.{m, leave, in_parentheses}
use Rattle.co_tree.specs.Types as tree_type
use Rattle.co_tree.specs.Statements as tree_part
use Rattle.co_tree.specs.Declarations as tree
use Rattle.co_tree.specs.Formed.{IsName}
use Rattle.co_tree.specs.FormedTree.{IsNameIf, FormedParameter, FormedParameters}
use Rattle.co_reader.specs.Reading.{place, sees, name as name_reader, any_name}
use Rattle.co_statements.specs.Statements.{name_if, parameter}
use Rattle.co_parse.specs.Declarations.{parameters_from, more_parameters, some_parameters, parameters}
use Rattle.co_reads.specs.Runs.{Runs}
use Rattle.co_reads.specs.Spells.{Spells}
use Rattle.co_reads.specs.Takes.{Takes}
use Rattle.co_reads.proofs.Cases.{Among, NoneNext, which, again, whether, one_or_none, usable, none_left, some_among, stands_here}
use Rattle.co_reads.proofs.Firsts.{Named, named, name_first, Marked, marked, mark_first, tested_name}
use Rattle.co_reads.proofs.Fronts.{after-left}
use Rattle.co_reads.proofs.RulesOfTypes.{of_parameters, those_parameters, of_next_parameter, those_next_parameter, those_parameter_name}
use Rattle.co_reads.proofs.Spells.{spells_append}
use Rattle.co_reads.proofs.Steps.{expected, expect_here, sees_here, after_here, unseen, unseen_mark, within}
use Rattle.co_reads.proofs.TypeIds.{type_taken}
use Rattle.co_reads_declarations.proofs.Enclosed.{closed}
use Rattle.co_reads_declarations.proofs.Typed.{typed}
use Rattle.co_reads_declarations.proofs.Turns.{Turns, no_turn, one_turn}

-- what comes behind a parameter
abbrev pub Behind : List Symbol → List Symbol
Behind R = Many n.NextParameter ∷ Terminal (pattern.Punctuator mark.CloseParen) ∷ R

-- ---- a name that may stand

abbrev pub NameIfTaken : List (List ℕ) → List Symbol → List Token → Type 0
NameIfTaken C R ts = Takes name_if (λ o left. Spells (tree_part.name_if o) ts left × IsNameIf o) C R ts

name_said : {C : List (List ℕ)} {R : List Symbol} {ts : List Token} → Named C IsName R ts → NameIfTaken C R ts
unfolding name_if name_reader any_name
name_said (named text at ts is r) = record { part = Some text; left = ts; read = rw (tested_name text is); is = ((refl, refl), is); runs = r }

unnamed : {C : List (List ℕ)} {R : List Symbol} {ts : List Token} (x : Mark) → Marked C x R ts → name_if ts ≡ Some (None, ts)
unfolding name_if
unnamed x (marked at ts r) = refl

unnamed_among : {C : List (List ℕ)} {R S : List Symbol} {ts : List Token} → Among C S of_next_parameter ts ⊎ (NoneNext C of_next_parameter ts × Runs C (Terminal (pattern.Punctuator mark.CloseParen) ∷ R) ts) → name_if ts ≡ Some (None, ts)
unnamed_among (inl (inl h)) = unnamed mark.Comma (mark_first h)
unnamed_among (inl (inr h)) = absurd h
unnamed_among (inr h) = unnamed mark.CloseParen (mark_first h.1)

name_if_taken : {C : List (List ℕ)} {R : List Symbol} {ts : List Token} → (Runs C R ts → name_if ts ≡ Some (None, ts)) → Runs C (Maybe n.ParameterName ∷ R) ts → NameIfTaken C R ts
name_if_taken {C} {R} {ts} f h =
    elim (whether those_parameter_name h) [
      | inl q ↦ elim q [ inl s ↦ name_said (name_first s) | inr s ↦ absurd s ]
      | inr q ↦ record { part = None; left = ts; read = f q.1; is = (refl, tt); runs = q.1 }
    ]

-- ---- a parameter

module _ (C : List (List ℕ)) where
  abbrev pub ParameterTaken : List Symbol → List Token → Type 0
  ParameterTaken R ts = Takes (parameter (is_class C)) (λ p left. Spells (tree_part.parameter p) ts left × FormedParameter C p) C R ts

  parameter_taken : (R : List Symbol) (ts : List Token) → ((us : List Token) → Runs C R us → name_if us ≡ Some (None, us)) → Runs C (One n.TypeId ∷ Maybe n.ParameterName ∷ R) ts → ParameterTaken R ts
  unfolding parameter
  parameter_taken R ts f h =
      let t = type_taken h in
      let o = name_if_taken (f t.left) t.runs in
      record {
        part = record { of = t.part; name = o.part; span = place ts };
        left = o.left;
        read = rw (t.read, o.read);
        is = ((stands_here h tt, spells_append (tree_type.type_id t.part) (tree_part.name_if o.part) ts t.left o.left t.is.0 o.is.0), (t.is.1, o.is.1));
        runs = o.runs;
      }

  in_list : (R : List Symbol) (ts : List Token) → Runs C (One n.TypeId ∷ Maybe n.ParameterName ∷ Behind R) ts → ParameterTaken (Behind R) ts
  in_list R ts h = parameter_taken (Behind R) ts (λ us r. unnamed_among (again those_next_parameter r)) h

  -- ---- those behind the first

  abbrev ParametersTurn : ℕ → List Symbol → List Parameter → List Token → Type 0
  ParametersTurn k R found ts = Turns (parameters_from (is_class C) k) tree.parameters_after (FormedParameter C) C (Terminal (pattern.Punctuator mark.CloseParen) ∷ R) found ts

  one_more : (k : ℕ) (R : List Symbol) (found : List Parameter) {ts : List Token} → length ts ≤ suc k
      → ((all : List Parameter) (us : List Token) → length us ≤ k → Runs C (Behind R) us → ParametersTurn k R all us) → Marked C mark.Comma (One n.TypeId ∷ Maybe n.ParameterName ∷ Behind R) ts → ParametersTurn (suc k) R found ts
  unfolding parameters_from
  one_more k R found b more (marked at ts r) =
      let p = in_list R ts r in
      one_turn p.part p.left (rw (sees_here mark.Comma at ts, after_here mark.Comma at ts, p.read) refl) p.is.1
      (λ all left s. (refl, spells_append (tree_part.parameter p.part) (tree.parameters_after all) ts p.left left p.is.0 s))
      (more (found ++ p.part ∷ []) p.left (let q = within (tree_part.parameter p.part) ts p.left p.is.0 in omega (arith, b, q)) p.runs)

  no_comma : (ts : List Token) → NoneNext C of_next_parameter ts → sees mark.Comma ts ≡ false
  no_comma [] h = absurd h
  no_comma (t ∷ ts) h = unseen_mark C mark.Comma t ts (h.0 (usable (has_some C)))

  no_more : (k : ℕ) (R : List Symbol) (found : List Parameter) (ts : List Token) → sees mark.Comma ts ≡ false → Runs C (Terminal (pattern.Punctuator mark.CloseParen) ∷ R) ts → ParametersTurn (suc k) R found ts
  unfolding parameters_from
  no_more k R found ts h r = no_turn ts (rw (h, after-left mark.Comma ts h) refl) refl r

  parameters_turn : (k : ℕ) (R : List Symbol) (found : List Parameter) (ts : List Token) → length ts ≤ k → Runs C (Behind R) ts → ParametersTurn k R found ts
  parameters_turn k R found ts b h = on k found ts b (again those_next_parameter h)
    where
      on : (k : ℕ) (found : List Parameter) (ts : List Token) → length ts ≤ k → Among C (Behind R) of_next_parameter ts ⊎ (NoneNext C of_next_parameter ts × Runs C (Terminal (pattern.Punctuator mark.CloseParen) ∷ R) ts) → ParametersTurn k R found ts
      on zero found ts b (inl h) = absurd (none_left ts (some_among C (Behind R) ts of_next_parameter h) b)
      on zero found [] b (inr h) = absurd h.0
      on zero found (t ∷ ts) b (inr h) = absurd (omega (arith, b))
      on (suc k) found ts b (inl (inl h)) = one_more k R found b (λ all us q r. on k all us q (again those_next_parameter r)) (mark_first h)
      on (suc k) found ts b (inl (inr h)) = absurd h
      on (suc k) found ts b (inr h) = no_more k R found ts (no_comma ts h.0) h.1

  -- ---- all of them

  abbrev pub ParametersTaken : List Symbol → List Token → Type 0
  ParametersTaken R ts = Takes (parameters (is_class C)) (λ ps left. Spells (in_parentheses (tree.parameters ps)) ts left × FormedParameters C ps) C R ts

  some : (R : List Symbol) (at : Span) (ts : List Token) → Runs C (One n.TypeId ∷ Maybe n.ParameterName ∷ Behind R) ts → sees mark.CloseParen ts ≡ false → ParametersTaken R (record { kind = kind.Mark mark.OpenParen; span = at } ∷ ts)
  unfolding parameters some_parameters more_parameters
  some R at ts h e =
      let p = in_list R ts h in
      let more = parameters_turn (length p.left) R (p.part ∷ []) p.left (omega arith) p.runs in
      let close = expected mark.CloseParen more.runs in
      record {
        part = p.part ∷ more.more;
        left = close.left;
        read = rw (expect_here mark.OpenParen at ts, e, after-left mark.CloseParen ts e, p.read, more.read, close.read);
        is = (
          (refl, spells_append (tree.parameters (p.part ∷ more.more)) (m mark.CloseParen ∷ leave ∷ []) ts more.left close.left (spells_append (tree_part.parameter p.part) (tree.parameters_after more.more) ts p.left more.left p.is.0 more.spelled) (closed mark.CloseParen more.left close.left close.is)),
          (p.is.1, more.are),
        );
        runs = close.runs;
      }

  empty : (R : List Symbol) (at : Span) {ts : List Token} → Marked C mark.CloseParen R ts → ParametersTaken R (record { kind = kind.Mark mark.OpenParen; span = at } ∷ ts)
  unfolding parameters
  empty R at (marked close ts r) =
      record { part = []; left = ts; read = rw (expect_here mark.OpenParen at (record { kind = kind.Mark mark.CloseParen; span = close } ∷ ts), sees_here mark.CloseParen close ts, after_here mark.CloseParen close ts); is = ((refl, (refl, refl)), tt); runs = r }

  given : (R : List Symbol) (at : Span) (ts : List Token) → Runs C (One n.Parameters ∷ Terminal (pattern.Punctuator mark.CloseParen) ∷ R) ts ⊎ (NoneNext C of_parameters ts × Runs C (Terminal (pattern.Punctuator mark.CloseParen) ∷ R) ts)
      → ParametersTaken R (record { kind = kind.Mark mark.OpenParen; span = at } ∷ ts)
  given R at ts (inl h) =
      let h' = which those_parameters h in
      some R at ts (typed n.Parameters (Maybe n.ParameterName ∷ Many n.NextParameter ∷ []) (Terminal (pattern.Punctuator mark.CloseParen) ∷ R) h')
      (unseen C (Terminal (pattern.Punctuator mark.CloseParen) ∷ R) ts mark.CloseParen of_parameters (refl, (refl, (refl, (refl, (refl, tt))))) h')
  given R at ts (inr h) = empty R at (mark_first h.1)

  marked_given : (R : List Symbol) {ts : List Token} → Marked C mark.OpenParen (Maybe n.Parameters ∷ Terminal (pattern.Punctuator mark.CloseParen) ∷ R) ts → ParametersTaken R ts
  marked_given R (marked at ts r) = given R at ts (one_or_none those_parameters r)

  pub parameters_taken : (R : List Symbol) {ts : List Token} → Runs C (Terminal (pattern.Punctuator mark.OpenParen) ∷ Maybe n.Parameters ∷ Terminal (pattern.Punctuator mark.CloseParen) ∷ R) ts → ParametersTaken R ts
  parameters_taken R h = marked_given R (mark_first h)
