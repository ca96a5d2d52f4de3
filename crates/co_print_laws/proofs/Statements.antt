-- Statements with other spans.
use Rattle.std.specs.Prelude.{◌≡◌, ℕ, List, [], ◌∷◌, Option, None, Some, map}
use Rattle.std.specs.List.{AllByRecursion}
use Rattle.std.proofs.Common.{refl, ap, sym, ◌∙◌}
use mathlib.Core.Former.{Count}
use Rattle.co_lex.specs.declared.token.Token.{Token}
use Rattle.co_tree.specs.declared.expressions.Expression.{Expression}
use Rattle.co_tree.specs.declared.declarations.Parameter.{Parameter}
use Rattle.co_tree.specs.declared.statements.Initializer.{Initializer}
use Rattle.co_tree.specs.declared.statements.Initializer.TheVariants as init
use Rattle.co_tree.specs.declared.statements.Variable.{Variable}
use Rattle.co_tree.specs.declared.statements.Caught.{Caught}
use Rattle.co_tree.specs.declared.statements.Caught.TheVariants as caught
use Rattle.co_tree.specs.declared.statements.ForInit.{ForInit}
use Rattle.co_tree.specs.declared.statements.ForInit.TheVariants as for_init
use Rattle.co_tree.specs.declared.statements.Returned.{Returned}
use Rattle.co_tree.specs.declared.statements.Returned.TheVariants as returned
use Rattle.co_tree.specs.declared.statements.Block.{Block}
use Rattle.co_tree.specs.declared.statements.Statement.{Statement, Row_of-Statement, end_of-Statement, more_of-Statement, Row_of-Handler, end_of-Handler, more_of-Handler}
use Rattle.co_tree.specs.declared.statements.Statement.TheVariants as stmt
use Rattle.co_tree.specs.Formed.{FormedAll}
use Rattle.co_tree.specs.FormedTree.{FormedIf, AreLocalArguments, LocalInitializer, FieldInitializer, FormedLocal, FormedField, FormedParameter, FormedCaught, FormedStatementExpression, FormedForInit, FormedReturned, ends_in_if, HasHandler, FormedStatement, FormedStatements, FormedHandlers, FormedBlock}
use Rattle.co_tree.specs.Sentence.{arguments, arguments_after}
use Rattle.co_tree.specs.Statements.{full_if, initializer, variable, name_if, parameter, caught_by, for_head, returned_value, statement, row_statements, row_handlers, statements, block}
use Rattle.co_tree.specs.Strip.{first_place, strip_all, strip_if, strip_initializer, strip_variable, strip_parameter, strip_caught, strip_init, strip_returned, strip_statement, strip_statements, strip_handlers, strip_block}
use Rattle.co_print_laws.proofs.Congruence.{ap_two, ap_three, ap_four}
use Rattle.co_print_laws.proofs.Placed.{place_of, after, behind, Placed, nothing, by_token, by_line, by_node, by_opens, both, by_rule, by_parentheses, by_braces, Moved}
use Rattle.co_print_laws.proofs.Types.{type_moved}
use Rattle.co_print_laws.proofs.Expressions.{AlikeExpression, expression_moved}

-- ---- lists of expressions

pub record AlikeAll (C : List (List ℕ)) (es fs : List Expression) : Type 0 where
  pub strip : strip_all fs ≡ strip_all es
  pub formed : FormedAll C es → FormedAll C fs
  pub local : AreLocalArguments es → AreLocalArguments fs

abbrev pub MovedAll : List (List ℕ) → List Expression → List Token → Type 0
MovedAll C es ts = Moved arguments (AlikeAll C) es ts

all_after_moved : (C : List (List ℕ)) (es : List Expression) (ts : List Token) → Moved arguments_after (AlikeAll C) es ts
all_after_moved C [] ts = record { it = []; rest = ts; alike = record { strip = refl; formed = λ h. h; local = λ h. h }; placed = nothing }
all_after_moved C (e ∷ es) ts =
    let x = expression_moved C e (after ts) in
    let y = all_after_moved C es x.rest in
    record {
      it = x.it ∷ y.it;
      rest = y.rest;
      alike = record {
        strip = ap_two (λ z zs. z ∷ zs) x.alike.strip y.alike.strip;
        formed = λ h. (x.alike.formed h.0, y.alike.formed h.1);
        local = λ h t. h (sym x.alike.by_type ∙ t);
      };
      placed = by_token (both (by_rule x.placed) y.placed);
    }

pub all_moved : (C : List (List ℕ)) (es : List Expression) (ts : List Token) → MovedAll C es ts
all_moved C [] ts = record { it = []; rest = ts; alike = record { strip = refl; formed = λ h. h; local = λ h. h }; placed = nothing }
all_moved C (e ∷ es) ts =
    let x = expression_moved C e ts in
    let y = all_after_moved C es x.rest in
    record {
      it = x.it ∷ y.it;
      rest = y.rest;
      alike = record {
        strip = ap_two (λ z zs. z ∷ zs) x.alike.strip y.alike.strip;
        formed = λ h. (x.alike.formed h.0, y.alike.formed h.1);
        local = λ h t. h (sym x.alike.by_type ∙ t);
      };
      placed = both (by_rule x.placed) y.placed;
    }

pub record AlikeIf (C : List (List ℕ)) (e f : Option Expression) : Type 0 where
  pub strip : strip_if f ≡ strip_if e
  pub formed : FormedIf C e → FormedIf C f

if_moved : (C : List (List ℕ)) (e : Option Expression) (ts : List Token) → Moved full_if (AlikeIf C) e ts
if_moved C None ts = record { it = None; rest = ts; alike = record { strip = refl; formed = λ h. h }; placed = nothing }
if_moved C (Some e) ts =
    let x = expression_moved C e ts in
    record { it = Some x.it; rest = x.rest; alike = record { strip = ap Some x.alike.strip; formed = x.alike.formed }; placed = by_rule x.placed }

-- ---- variables and parameters

pub record AlikeInitializer (C : List (List ℕ)) (i j : Initializer) : Type 0 where
  pub strip : strip_initializer j ≡ strip_initializer i
  pub local : LocalInitializer C i → LocalInitializer C j
  pub field : FieldInitializer C i → FieldInitializer C j

initializer_moved : (C : List (List ℕ)) (i : Initializer) (ts : List Token) → Moved initializer (AlikeInitializer C) i ts
initializer_moved C init.None ts = record { it = init.None; rest = ts; alike = record { strip = refl; local = λ h. h; field = λ h. h }; placed = nothing }
initializer_moved C (init.Equals e) ts =
    let x = expression_moved C e (after ts) in
    record {
      it = init.Equals x.it;
      rest = x.rest;
      alike = record { strip = ap init.Equals x.alike.strip; local = x.alike.formed; field = x.alike.formed };
      placed = by_token (by_rule x.placed);
    }
initializer_moved C (init.EqualsBraces es) ts =
    let x = all_moved C es (after (after ts)) in
    record {
      it = init.EqualsBraces x.it;
      rest = after x.rest;
      alike = record { strip = ap init.EqualsBraces x.alike.strip; local = x.alike.formed; field = λ h. h };
      placed = by_token (by_braces x.placed);
    }
initializer_moved C (init.Parentheses es) ts =
    let x = all_moved C es (after ts) in
    record {
      it = init.Parentheses x.it;
      rest = after x.rest;
      alike = record { strip = ap init.Parentheses x.alike.strip; local = λ h. (x.alike.formed h.0, x.alike.local h.1); field = λ h. h };
      placed = by_parentheses x.placed;
    }
initializer_moved C (init.Braces es) ts =
    let x = all_moved C es (after ts) in
    record {
      it = init.Braces x.it;
      rest = after x.rest;
      alike = record { strip = ap init.Braces x.alike.strip; local = x.alike.formed; field = x.alike.formed };
      placed = by_braces x.placed;
    }

pub record AlikeVariable (C : List (List ℕ)) (v u : Variable) : Type 0 where
  pub strip : strip_variable u ≡ strip_variable v
  pub local : FormedLocal C v → FormedLocal C u
  pub field : FormedField C v → FormedField C u

pub variable_moved : (C : List (List ℕ)) (v : Variable) (ts : List Token) → Moved variable (AlikeVariable C) v ts
variable_moved C v ts =
    let t = type_moved C v.of ts in
    let i = initializer_moved C v.initializer (after t.rest) in
    record {
      it = record { of = t.it; name = v.name; initializer = i.it; span = place_of ts };
      rest = after i.rest;
      alike = record {
        strip = ap_two (λ x y. record { of = x; name = v.name; initializer = y; span = first_place }) t.alike.strip i.alike.strip;
        local = λ h. (t.alike.local h.0, h.1, i.alike.local h.2);
        field = λ h. (t.alike.plain h.0, h.1, i.alike.field h.2);
      };
      placed = by_node (both t.placed (by_token (both i.placed (by_token nothing))));
    }

still_name : {ts : List Token} (n : Option (List ℕ)) → Placed ts (name_if n) (name_if n) (behind (name_if n) ts)
still_name None = nothing
still_name (Some n) = by_token nothing

pub record AlikeParameter (C : List (List ℕ)) (p q : Parameter) : Type 0 where
  pub strip : strip_parameter q ≡ strip_parameter p
  pub formed : FormedParameter C p → FormedParameter C q

pub parameter_moved : (C : List (List ℕ)) (p : Parameter) (ts : List Token) → Moved parameter (AlikeParameter C) p ts
parameter_moved C p ts =
    let t = type_moved C p.of ts in
    record {
      it = record { of = t.it; name = p.name; span = place_of ts };
      rest = behind (name_if p.name) t.rest;
      alike = record {
        strip = ap (λ x. record { of = x; name = p.name; span = first_place }) t.alike.strip;
        formed = λ h. (t.alike.plain h.0, h.1);
      };
      placed = by_node (both t.placed (still_name p.name));
    }

-- ---- parts of statements

pub record AlikeCaught (C : List (List ℕ)) (c d : Caught) : Type 0 where
  pub strip : strip_caught d ≡ strip_caught c
  pub formed : FormedCaught C c → FormedCaught C d

caught_moved : (C : List (List ℕ)) (c : Caught) (ts : List Token) → Moved caught_by (AlikeCaught C) c ts
caught_moved C caught.All ts = record { it = caught.All; rest = after ts; alike = record { strip = refl; formed = λ h. h }; placed = by_token nothing }
caught_moved C (caught.One p) ts =
    let x = parameter_moved C p ts in
    record { it = caught.One x.it; rest = x.rest; alike = record { strip = ap caught.One x.alike.strip; formed = x.alike.formed }; placed = x.placed }

statement_expression : {C : List (List ℕ)} {e f : Expression} → AlikeExpression C e f → FormedStatementExpression C e → FormedStatementExpression C f
statement_expression x h = (x.formed h.0, λ b. h.1 (sym x.by_class ∙ b))

pub record AlikeForInit (C : List (List ℕ)) (i j : ForInit) : Type 0 where
  pub strip : strip_init j ≡ strip_init i
  pub formed : FormedForInit C i → FormedForInit C j

for_init_moved : (C : List (List ℕ)) (i : ForInit) (ts : List Token) → Moved for_head (AlikeForInit C) i ts
for_init_moved C for_init.None ts = record { it = for_init.None; rest = after ts; alike = record { strip = refl; formed = λ h. h }; placed = by_token nothing }
for_init_moved C (for_init.Local v) ts =
    let x = variable_moved C v ts in
    record { it = for_init.Local x.it; rest = x.rest; alike = record { strip = ap for_init.Local x.alike.strip; formed = x.alike.local }; placed = x.placed }
for_init_moved C (for_init.Expression e) ts =
    let x = expression_moved C e ts in
    record {
      it = for_init.Expression x.it;
      rest = after x.rest;
      alike = record { strip = ap for_init.Expression x.alike.strip; formed = statement_expression x.alike };
      placed = both (by_rule x.placed) (by_token nothing);
    }

pub record AlikeReturned (C : List (List ℕ)) (r s : Returned) : Type 0 where
  pub strip : strip_returned s ≡ strip_returned r
  pub formed : FormedReturned C r → FormedReturned C s

returned_moved : (C : List (List ℕ)) (r : Returned) (ts : List Token) → Moved returned_value (AlikeReturned C) r ts
returned_moved C returned.None ts = record { it = returned.None; rest = ts; alike = record { strip = refl; formed = λ h. h }; placed = nothing }
returned_moved C (returned.Value e) ts =
    let x = expression_moved C e ts in
    record { it = returned.Value x.it; rest = x.rest; alike = record { strip = ap returned.Value x.alike.strip; formed = x.alike.formed }; placed = by_rule x.placed }
returned_moved C (returned.Braces es) ts =
    let x = all_moved C es (after ts) in
    record { it = returned.Braces x.it; rest = after x.rest; alike = record { strip = ap returned.Braces x.alike.strip; formed = x.alike.formed }; placed = by_braces x.placed }

-- ---- statements

pub record AlikeStatement (C : List (List ℕ)) (s u : Statement) : Type 0 where
  pub strip : strip_statement u ≡ strip_statement s
  pub formed : FormedStatement C s → FormedStatement C u
  pub in_if : ends_in_if u ≡ ends_in_if s

abbrev pub MovedStatement : List (List ℕ) → Statement → List Token → Type 0
MovedStatement C s ts = Moved statement (AlikeStatement C) s ts

pub record AlikeStatements {k : Count} (C : List (List ℕ)) (row other : Row_of-Statement k) : Type 0 where
  pub strip : strip_statements other ≡ strip_statements row
  pub formed : FormedStatements C row → FormedStatements C other

pub record AlikeHandlers {k : Count} (C : List (List ℕ)) (row other : Row_of-Handler k) : Type 0 where
  pub strip : strip_handlers other ≡ strip_handlers row
  pub formed : FormedHandlers C row → FormedHandlers C other
  pub has : HasHandler row → HasHandler other

mutual
  pub statement_moved : (C : List (List ℕ)) (s : Statement) (ts : List Token) → MovedStatement C s ts
  statement_moved C (stmt.Block' s row at) ts =
      let x = statements_moved C row (after ts) in
      record {
        it = stmt.Block' s x.it (place_of ts);
        rest = after x.rest;
        alike = record { strip = ap (λ z. stmt.Block (record { statements = z; span = first_place })) x.alike.strip; formed = x.alike.formed; in_if = refl };
        placed = by_line (by_node (by_braces x.placed));
      }
  statement_moved C (stmt.Empty at) ts =
      record { it = stmt.Empty (place_of ts); rest = after ts; alike = record { strip = refl; formed = λ h. h; in_if = refl }; placed = by_line (by_node (by_token nothing)) }
  statement_moved C (stmt.Local v) ts =
      let x = variable_moved C v ts in
      record { it = stmt.Local x.it; rest = x.rest; alike = record { strip = ap stmt.Local x.alike.strip; formed = x.alike.local; in_if = refl }; placed = by_line x.placed }
  statement_moved C (stmt.Expression e at) ts =
      let x = expression_moved C e ts in
      record {
        it = stmt.Expression x.it (place_of ts);
        rest = after x.rest;
        alike = record { strip = ap (λ z. stmt.Expression z first_place) x.alike.strip; formed = statement_expression x.alike; in_if = refl };
        placed = by_line (by_node (both (by_rule x.placed) (by_token nothing)));
      }
  statement_moved C (stmt.Try' s row at t handlers end) ts =
      let x = statements_moved C row (after (after ts)) in
      let y = handlers_moved C handlers (after x.rest) in
      record {
        it = stmt.Try' s x.it (place_of (after ts)) t y.it (place_of ts);
        rest = y.rest;
        alike = record {
          strip = ap_two (λ z zs. stmt.Try (record { statements = z; span = first_place }) zs first_place) x.alike.strip y.alike.strip;
          formed = λ h. (x.alike.formed h.0, y.alike.formed h.1, y.alike.has h.2);
          in_if = refl;
        };
        placed = by_line (by_node (by_token (by_node (both (by_braces x.placed) y.placed))));
      }
  statement_moved C (stmt.If' e s (more_of-Statement then end_of-Statement) at) ts =
      let x = expression_moved C e (after (after ts)) in
      let y = statement_moved C then (after x.rest) in
      record {
        it = stmt.If' x.it s (more_of-Statement y.it end_of-Statement) (place_of ts);
        rest = y.rest;
        alike = record { strip = ap_two (λ u v. stmt.If u v first_place) x.alike.strip y.alike.strip; formed = λ h. (x.alike.formed h.0, y.alike.formed h.1); in_if = refl };
        placed = by_line (by_rule (by_node (by_opens (by_token (both (by_parentheses (by_rule x.placed)) y.placed)))));
      }
  statement_moved C (stmt.IfElse' e s (more_of-Statement then end_of-Statement) t (more_of-Statement other end_of-Statement) at) ts =
      let x = expression_moved C e (after (after ts)) in
      let y = statement_moved C then (after x.rest) in
      let z = statement_moved C other (after y.rest) in
      record {
        it = stmt.IfElse' x.it s (more_of-Statement y.it end_of-Statement) t (more_of-Statement z.it end_of-Statement) (place_of ts);
        rest = z.rest;
        alike = record {
          strip = ap_three (λ i j k. stmt.IfElse i j k first_place) x.alike.strip y.alike.strip z.alike.strip;
          formed = λ h. (x.alike.formed h.0, y.alike.formed h.1, z.alike.formed h.2, y.alike.in_if ∙ h.3);
          in_if = z.alike.in_if;
        };
        placed = by_line (by_rule (by_node (by_opens (by_token (both (by_parentheses (by_rule x.placed)) (both y.placed (by_token z.placed)))))));
      }
  statement_moved C (stmt.While' e s (more_of-Statement body end_of-Statement) at) ts =
      let x = expression_moved C e (after (after ts)) in
      let y = statement_moved C body (after x.rest) in
      record {
        it = stmt.While' x.it s (more_of-Statement y.it end_of-Statement) (place_of ts);
        rest = y.rest;
        alike = record { strip = ap_two (λ u v. stmt.While u v first_place) x.alike.strip y.alike.strip; formed = λ h. (x.alike.formed h.0, y.alike.formed h.1); in_if = y.alike.in_if };
        placed = by_line (by_rule (by_node (by_opens (by_token (both (by_parentheses (by_rule x.placed)) y.placed)))));
      }
  statement_moved C (stmt.For' init c step s (more_of-Statement body end_of-Statement) at) ts =
      let i = for_init_moved C init (after (after ts)) in
      let x = if_moved C c i.rest in
      let y = if_moved C step (after x.rest) in
      let z = statement_moved C body (after y.rest) in
      record {
        it = stmt.For' i.it x.it y.it s (more_of-Statement z.it end_of-Statement) (place_of ts);
        rest = z.rest;
        alike = record {
          strip = ap_four (λ j k l u. stmt.For j k l u first_place) i.alike.strip x.alike.strip y.alike.strip z.alike.strip;
          formed = λ h. (i.alike.formed h.0, x.alike.formed h.1, y.alike.formed h.2, z.alike.formed h.3);
          in_if = z.alike.in_if;
        };
        placed = by_line (by_rule (by_node (by_opens (by_token (both (by_parentheses (both i.placed (both x.placed (by_token y.placed)))) z.placed)))));
      }
  statement_moved C (stmt.Break at) ts =
      record { it = stmt.Break (place_of ts); rest = _; alike = record { strip = refl; formed = λ h. h; in_if = refl }; placed = by_line (by_node (by_token (by_token nothing))) }
  statement_moved C (stmt.Continue at) ts =
      record { it = stmt.Continue (place_of ts); rest = _; alike = record { strip = refl; formed = λ h. h; in_if = refl }; placed = by_line (by_node (by_token (by_token nothing))) }
  statement_moved C (stmt.Return value at) ts =
      let x = returned_moved C value (after ts) in
      record {
        it = stmt.Return x.it (place_of ts);
        rest = after x.rest;
        alike = record { strip = ap (λ z. stmt.Return z first_place) x.alike.strip; formed = x.alike.formed; in_if = refl };
        placed = by_line (by_node (by_token (both x.placed (by_token nothing))));
      }
  statement_moved C (stmt.CoReturn value at) ts =
      let x = if_moved C value (after ts) in
      record {
        it = stmt.CoReturn x.it (place_of ts);
        rest = after x.rest;
        alike = record { strip = ap (λ z. stmt.CoReturn z first_place) x.alike.strip; formed = x.alike.formed; in_if = refl };
        placed = by_line (by_node (by_token (both x.placed (by_token nothing))));
      }

  statements_moved : {k : Count} (C : List (List ℕ)) (row : Row_of-Statement k) (ts : List Token) → Moved row_statements (AlikeStatements C) row ts
  statements_moved C end_of-Statement ts = record { it = end_of-Statement; rest = ts; alike = record { strip = refl; formed = λ h. h }; placed = nothing }
  statements_moved C (more_of-Statement s rest) ts =
      let x = statement_moved C s ts in
      let y = statements_moved C rest x.rest in
      record {
        it = more_of-Statement x.it y.it;
        rest = y.rest;
        alike = record { strip = ap_two (λ z zs. z ∷ zs) x.alike.strip y.alike.strip; formed = λ h. (x.alike.formed h.0, y.alike.formed h.1) };
        placed = both x.placed y.placed;
      }

  handlers_moved : {k : Count} (C : List (List ℕ)) (row : Row_of-Handler k) (ts : List Token) → Moved row_handlers (AlikeHandlers C) row ts
  handlers_moved C end_of-Handler ts = record { it = end_of-Handler; rest = ts; alike = record { strip = refl; formed = λ h. h; has = λ h. h }; placed = nothing }
  handlers_moved C (more_of-Handler caught s row at span rest) ts =
      let c = caught_moved C caught (after (after ts)) in
      let x = statements_moved C row (after (after c.rest)) in
      let y = handlers_moved C rest (after x.rest) in
      record {
        it = more_of-Handler c.it s x.it (place_of (after c.rest)) (place_of ts) y.it;
        rest = y.rest;
        alike = record {
          strip = ap_three (λ i j k. record { caught = i; body = record { statements = j; span = first_place }; span = first_place } ∷ k) c.alike.strip x.alike.strip y.alike.strip;
          formed = λ h. (c.alike.formed h.0, x.alike.formed h.1, y.alike.formed h.2);
          has = λ h. h;
        };
        placed = both (by_node (by_token (both (by_parentheses c.placed) (by_node (by_braces x.placed))))) y.placed;
      }

-- ---- blocks

pub record AlikeBlock (C : List (List ℕ)) (b d : Block) : Type 0 where
  pub strip : strip_block d ≡ strip_block b
  pub formed : FormedBlock C b → FormedBlock C d

pub record AlikeStatementList (C : List (List ℕ)) (ss us : List Statement) : Type 0 where
  pub strip : map strip_statement us ≡ map strip_statement ss
  pub formed : AllByRecursion (FormedStatement C) ss → AllByRecursion (FormedStatement C) us

statement_list_moved : (C : List (List ℕ)) (ss : List Statement) (ts : List Token) → Moved statements (AlikeStatementList C) ss ts
statement_list_moved C [] ts = record { it = []; rest = ts; alike = record { strip = refl; formed = λ h. h }; placed = nothing }
statement_list_moved C (s ∷ ss) ts =
    let x = statement_moved C s ts in
    let y = statement_list_moved C ss x.rest in
    record {
      it = x.it ∷ y.it;
      rest = y.rest;
      alike = record { strip = ap_two (λ z zs. z ∷ zs) x.alike.strip y.alike.strip; formed = λ h. (x.alike.formed h.0, y.alike.formed h.1) };
      placed = both x.placed y.placed;
    }

pub block_moved : (C : List (List ℕ)) (b : Block) (ts : List Token) → Moved block (AlikeBlock C) b ts
block_moved C b ts =
    let x = statement_list_moved C b.statements (after ts) in
    record {
      it = record { statements = x.it; span = place_of ts };
      rest = after x.rest;
      alike = record { strip = ap (λ z. record { statements = z; span = first_place }) x.alike.strip; formed = x.alike.formed };
      placed = by_node (by_braces x.placed);
    }
