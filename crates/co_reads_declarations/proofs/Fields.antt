-- The rest of globals and data members where the rules read them.
use Rattle.std.proofs.Common.{◌≡◌, ℕ, suc, ◌≤◌, false, List, [], ◌∷◌, ◌++◌, length, Some, refl, arith}
use Rattle.co_base.specs.declared.span.Span.{Span}
use Rattle.co_lex.specs.declared.token.Token.{Token}
use Rattle.co_lex.specs.declared.token.TokenKind.TheVariants as kind
use Rattle.co_lex.specs.declared.token.Mark.TheVariants as mark
use Rattle.co_rules.specs.declared.symbol.Nonterminal.TheVariants as n
use Rattle.co_rules.specs.declared.symbol.Pattern.TheVariants as pattern
use Rattle.co_rules.specs.declared.symbol.Symbol.{Symbol}
use Rattle.co_rules.specs.declared.symbol.Symbol.TheVariants.{Token as Terminal, One, Maybe}
use Rattle.co_rules.specs.Names.{is_class}
use Rattle.co_tree.specs.declared.statements.Initializer.{Initializer}
use Rattle.co_tree.specs.declared.statements.Initializer.TheVariants as init
use Rattle.co_tree.specs.declared.types.TypeId.{TypeId}
use Rattle.co_tree.specs.Piece.{m}
use Rattle.co_tree.specs.Statements as tree
use Rattle.co_tree.specs.FormedTree.{FieldInitializer}
use Rattle.co_reader.specs.Reading.{sees}
use Rattle.co_expressions.specs.Expressions.{expression}
use Rattle.co_parse.specs.Declarations.{field_initializer, initialized_variable}
use Rattle.co_reads.specs.Runs.{Runs}
use Rattle.co_reads.specs.Spells.{Spells}
use Rattle.co_reads.proofs.Arguments.{in_braces}
use Rattle.co_reads.proofs.Expressions.{nested}
use Rattle.co_reads.proofs.Firsts.{Marked, marked}
use Rattle.co_reads.proofs.Spells.{spells_append}
use Rattle.co_reads_declarations.proofs.Expressions.{expression_taken}
use Rattle.co_reads.proofs.Steps.{expected, expect_here}

module _ (C : List (List ℕ)) (depth : ℕ) where
  -- the rest of a global or a data member, after its name
  pub record VariableEnd (R : List Symbol) (ts : List Token) : Type 0 where
    pub initializer : Initializer
    pub left : List Token
    pub no_call : sees mark.OpenParen ts ≡ false
    pub read : (at : Span) (of : TypeId) (called : List ℕ) → initialized_variable (expression (is_class C) depth) at of called ts ≡ Some (record { of = of; name = called; initializer = initializer; span = at }, left)
    pub spelled : Spells (tree.initializer initializer ++ m mark.Semicolon ∷ []) ts left
    pub formed : FieldInitializer C initializer
    pub runs : Runs C R left

  pub assigned : (R : List Symbol) {ts : List Token} → length ts ≤ suc depth → Marked C mark.Assign (One n.Expression ∷ Terminal (pattern.Punctuator mark.Semicolon) ∷ R) ts → VariableEnd R ts
  unfolding sees initialized_variable field_initializer
  assigned R b (marked at ts r) =
      let e = expression_taken C depth (Terminal (pattern.Punctuator mark.Semicolon) ∷ R) ts (omega (arith, b)) r in
      let c = expected mark.Semicolon e.runs in
      record {
        initializer = init.Equals e.part;
        left = c.left;
        no_call = refl;
        read = λ start of called. rw (e.read, c.read);
        spelled = (refl, spells_append (tree.full e.part) (m mark.Semicolon ∷ []) ts e.left c.left e.is.0 c.is);
        formed = e.is.1;
        runs = c.runs;
      }

  pub braced : (R : List Symbol) {ts : List Token} → length ts ≤ suc depth → Marked C mark.OpenBrace (Maybe n.Arguments ∷ Terminal (pattern.Punctuator mark.CloseBrace) ∷ Terminal (pattern.Punctuator mark.Semicolon) ∷ R) ts → VariableEnd R ts
  unfolding sees initialized_variable field_initializer
  braced R b (marked at ts r) =
      let a = in_braces (nested C depth) b (marked at ts r) in
      let c = expected mark.Semicolon a.runs in
      record {
        initializer = init.Braces a.args;
        left = c.left;
        no_call = refl;
        read = λ start of called. rw (a.read, c.read);
        spelled = spells_append (tree.braces a.args) (m mark.Semicolon ∷ []) (record { kind = kind.Mark mark.OpenBrace; span = at } ∷ ts) a.left c.left a.spelled c.is;
        formed = a.formed;
        runs = c.runs;
      }

  pub plain : (R : List Symbol) {ts : List Token} → Marked C mark.Semicolon R ts → VariableEnd R ts
  unfolding sees initialized_variable field_initializer
  plain R (marked at ts r) = record { initializer = init.None; left = ts; no_call = refl; read = λ start of called. rw (expect_here mark.Semicolon at ts); spelled = (refl, refl); formed = tt; runs = r }
