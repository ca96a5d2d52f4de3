-- Constructors and destructors where the rules read them.
use Rattle.std.proofs.Common.{◌≡◌, ℕ, suc, ◌≤◌, Bool, false, List, [], ◌∷◌, ◌++◌, length, Some, refl, inl, inr, arith}
use Rattle.co_base.specs.declared.span.Span.{Span}
use Rattle.co_lex.specs.declared.token.Token.{Token}
use Rattle.co_lex.specs.declared.token.TokenKind.TheVariants as kind
use Rattle.co_lex.specs.declared.token.Mark.{Mark}
use Rattle.co_lex.specs.declared.token.Mark.TheVariants as mark
use Rattle.co_lex.specs.declared.token.Word.TheVariants as word
use Rattle.co_rules.specs.declared.symbol.Nonterminal.TheVariants as n
use Rattle.co_rules.specs.declared.symbol.Pattern.TheVariants as pattern
use Rattle.co_rules.specs.declared.symbol.Symbol.{Symbol}
use Rattle.co_rules.specs.declared.symbol.Symbol.TheVariants.{Token as Terminal, One, Maybe, Many, Close}
use Rattle.co_rules.specs.Names.{is_class}
use Rattle.co_tree.specs.declared.declarations.Parameter.{Parameter}
use Rattle.co_tree.specs.declared.declarations.ConstructorBody.{ConstructorBody}
use Rattle.co_tree.specs.declared.declarations.ConstructorBody.TheVariants as constructor_body
use Rattle.co_tree.specs.declared.declarations.DestructorBody.{DestructorBody}
use Rattle.co_tree.specs.declared.declarations.DestructorBody.TheVariants as destructor_body
use Rattle.co_tree.specs.Piece.{w, m, name, if_said, in_parentheses}
use Rattle.co_tree.specs.Statements as tree_part
use Rattle.co_tree.specs.Declarations as tree
use Rattle.co_tree.specs.Formed.{IsName}
use Rattle.co_tree.specs.FormedTree.{FormedParameters, FormedConstructorBody, FormedDestructorBody}
use Rattle.co_reader.specs.declared.lead.Lead.TheVariants as l
use Rattle.co_reader.specs.Reading.{lead, sees, after, expect_word, sees_word, after_word}
use Rattle.co_parse.specs.Declarations.{constructor, constructor_end, defaulted, initializing, destructor, destructor_end, destructor_default}
use Rattle.co_reads.specs.Runs.{Runs}
use Rattle.co_reads.specs.Spells.{Spells}
use Rattle.co_reads.specs.Takes.{Takes}
use Rattle.co_reads.proofs.Cases.{Among, which, by_rule}
use Rattle.co_reads.proofs.Firsts.{Marked, marked, mark_first, Worded, worded, word_first}
use Rattle.co_reads.proofs.Fronts.{after-left, word_if-spells}
use Rattle.co_reads.proofs.Spells.{spells_append}
use Rattle.co_reads.proofs.Steps.{expected, taken_name, unseen, within}
use Rattle.co_reads_declarations.proofs.Expressions.{BlockTaken}
use Rattle.co_reads_statements.proofs.RulesOfStatements.{of_block, those_block}
use Rattle.co_reads_statements.proofs.Statements.{block_within_taken}
use Rattle.co_reads_declarations.proofs.Initializers.{initializers_taken}
use Rattle.co_reads_declarations.proofs.Parameters.{parameters_taken}
use Rattle.co_reads_declarations.proofs.RulesOfDeclarations.{those_noexcept, of_constructor_body, those_constructor_body, of_defaulted, those_defaulted, of_destructor_body, those_destructor_body, of_no_parameters, those_no_parameters}
use Rattle.co_reads_statements.proofs.Pieces.{takes}
use Rattle.co_reads_declarations.proofs.Words.{behind_word}

mark_lead : {C : List (List ℕ)} {R : List Symbol} {ts : List Token} {x : Mark} → Marked C x R ts → lead ts ≡ l.Mark x
mark_lead (marked at ts r) = refl

module _ (C : List (List ℕ)) (depth : ℕ) where
  -- ---- the body of a constructor

  abbrev BodyTaken : List Symbol → List Token → Type 0
  BodyTaken R ts = Takes (constructor_end (is_class C) depth) (λ b left. Spells (tree.constructor_end b) ts left × FormedConstructorBody C b) C R ts

  initialized : (R : List Symbol) {ts : List Token} → length ts ≤ suc depth → Marked C mark.Colon (One n.Initializer ∷ Many n.NextInitializer ∷ One n.Block ∷ R) ts → BodyTaken R ts
  unfolding constructor_end initializing
  initialized R b (marked at ts r) =
      let is = initializers_taken C depth (One n.Block ∷ R) ts (omega (arith, b)) r in
      let all = record { kind = kind.Mark mark.Colon; span = at } ∷ ts in
      let s = is.is.0 all (refl, refl) in
      let q = is.is.2 in
      let o = block_within_taken C depth R is.left (omega (arith, b, q)) is.runs in
      record {
        part = constructor_body.Block is.part o.part;
        left = o.left;
        read = rw (is.read, o.read);
        is = (spells_append (tree.member_initializers is.part) (tree_part.block o.part) all is.left o.left s o.is.0, (is.is.1, o.is.1));
        runs = o.runs;
      }

  block_body : (R : List Symbol) (ts : List Token) → lead ts ≡ l.Mark mark.OpenBrace → BlockTaken C depth R ts → BodyTaken R ts
  unfolding constructor_end
  block_body R ts e o = record { part = constructor_body.Block [] o.part; left = o.left; read = rw (e, o.read); is = (o.is.0, (tt, o.is.1)); runs = o.runs }

  default_body : (R : List Symbol) (at : Span) {ts : List Token} → Worded C word.Default (Terminal (pattern.Punctuator mark.Semicolon) ∷ R) ts → BodyTaken R (record { kind = kind.Mark mark.Assign; span = at } ∷ ts)
  unfolding constructor_end defaulted
  default_body R start (worded at ts r) = let c = expected mark.Semicolon r in record { part = constructor_body.Default; left = c.left; read = rw c.read; is = ((refl, (refl, c.is)), tt); runs = c.runs }

  delete_body : (R : List Symbol) (at : Span) {ts : List Token} → Worded C word.Delete (Terminal (pattern.Punctuator mark.Semicolon) ∷ R) ts → BodyTaken R (record { kind = kind.Mark mark.Assign; span = at } ∷ ts)
  unfolding constructor_end defaulted
  delete_body R start (worded at ts r) = let c = expected mark.Semicolon r in record { part = constructor_body.Delete; left = c.left; read = rw c.read; is = ((refl, (refl, c.is)), tt); runs = c.runs }

  defaulted_among : (R : List Symbol) (at : Span) (ts : List Token) → Among C (Terminal (pattern.Punctuator mark.Semicolon) ∷ R) of_defaulted ts → BodyTaken R (record { kind = kind.Mark mark.Assign; span = at } ∷ ts)
  defaulted_among R at ts (inl h) = default_body R at (word_first h)
  defaulted_among R at ts (inr (inl h)) = delete_body R at (word_first h)
  defaulted_among R at ts (inr (inr h)) = absurd h

  assigned : (R : List Symbol) {ts : List Token} → Marked C mark.Assign (One n.Defaulted ∷ Terminal (pattern.Punctuator mark.Semicolon) ∷ R) ts → BodyTaken R ts
  assigned R (marked at ts r) = defaulted_among R at ts (which those_defaulted r)

  body_among : (R : List Symbol) (ts : List Token) → length ts ≤ depth → Among C R of_constructor_body ts → BodyTaken R ts
  body_among R ts b (inl h) = initialized R (omega (arith, b)) (mark_first h)
  body_among R ts b (inr (inl h)) = block_body R ts (mark_lead (mark_first h)) (block_within_taken C depth R ts b (by_rule (Many n.Statement ∷ Terminal (pattern.Punctuator mark.CloseBrace) ∷ Close ∷ []) those_block (inl refl) h))
  body_among R ts b (inr (inr (inl h))) = assigned R (mark_first h)
  body_among R ts b (inr (inr (inr h))) = absurd h

  -- ---- a constructor from its name on

  pub record ConstructorEnd (R : List Symbol) (ts : List Token) : Type 0 where
    pub called : List ℕ
    pub given : List Parameter
    pub is_noexcept : Bool
    pub body : ConstructorBody
    pub left : List Token
    pub read : (at : Span) (is_explicit : Bool) → constructor (is_class C) depth at is_explicit ts ≡ Some (record { is_explicit = is_explicit; name = called; parameters = given; is_noexcept = is_noexcept; body = body; span = at }, left)
    pub spelled : Spells (name called ∷ (in_parentheses (tree.parameters given) ++ (if_said is_noexcept (w word.Noexcept) ++ tree.constructor_end body))) ts left
    pub is_name : IsName called
    pub parameters : FormedParameters C given
    pub formed : FormedConstructorBody C body
    pub runs : Runs C R left

  pub constructor_taken : (R : List Symbol) (ts : List Token) → length ts ≤ suc depth
      → Runs C (Terminal pattern.Name ∷ Terminal (pattern.Punctuator mark.OpenParen) ∷ Maybe n.Parameters ∷ Terminal (pattern.Punctuator mark.CloseParen) ∷ Maybe n.Noexcept ∷ One n.ConstructorBody ∷ R) ts → ConstructorEnd R ts
  unfolding constructor
  constructor_taken R ts b h =
      let x = taken_name h in
      let p = parameters_taken C (Maybe n.Noexcept ∷ One n.ConstructorBody ∷ R) x.runs in
      let left = after_word word.Noexcept p.left in
      let said = if_said (sees_word word.Noexcept p.left) (w word.Noexcept) in
      let first = takes (name x.part ∷ []) refl ts x.left x.is.0 in
      let inner = within (in_parentheses (tree.parameters p.part)) x.left p.left p.is.0 in
      let outer = within said p.left left (word_if-spells word.Noexcept p.left) in
      let o = body_among R left (omega (arith, b, first, inner, outer)) (which those_constructor_body (behind_word word.Noexcept those_noexcept p.runs)) in
      record {
        called = x.part;
        given = p.part;
        is_noexcept = sees_word word.Noexcept p.left;
        body = o.part;
        left = o.left;
        read = λ at is_explicit. rw (x.read, p.read, o.read);
        spelled = spells_append (name x.part ∷ []) (in_parentheses (tree.parameters p.part) ++ (said ++ tree.constructor_end o.part)) ts x.left o.left x.is.0
            (spells_append (in_parentheses (tree.parameters p.part)) (said ++ tree.constructor_end o.part) x.left p.left o.left p.is.0 (spells_append said (tree.constructor_end o.part) p.left left o.left (word_if-spells word.Noexcept p.left) o.is.0));
        is_name = x.is.1;
        parameters = p.is.1;
        formed = o.is.1;
        runs = o.runs;
      }

  -- ---- destructors

  abbrev DestroyerTaken : List Symbol → List Token → Type 0
  DestroyerTaken R ts = Takes (destructor_end (is_class C) depth) (λ b left. Spells (tree.destructor_end b) ts left × FormedDestructorBody C b) C R ts

  destructor_block : (R : List Symbol) (ts : List Token) → sees mark.Assign ts ≡ false → BlockTaken C depth R ts → DestroyerTaken R ts
  unfolding destructor_end
  destructor_block R ts e o = record { part = destructor_body.Block o.part; left = o.left; read = rw (e, after-left mark.Assign ts e, o.read); is = (o.is.0, o.is.1); runs = o.runs }

  destructor_defaulted : (R : List Symbol) (start : Span) {ts : List Token} → Worded C word.Default (Terminal (pattern.Punctuator mark.Semicolon) ∷ R) ts → DestroyerTaken R (record { kind = kind.Mark mark.Assign; span = start } ∷ ts)
  unfolding destructor_end destructor_default expect_word sees_word sees after
  destructor_defaulted R start (worded at ts r) = let c = expected mark.Semicolon r in record { part = destructor_body.Default; left = c.left; read = rw c.read; is = ((refl, (refl, c.is)), tt); runs = c.runs }

  destructor_assigned : (R : List Symbol) {ts : List Token} → Marked C mark.Assign (Terminal (pattern.Keyword word.Default) ∷ Terminal (pattern.Punctuator mark.Semicolon) ∷ R) ts → DestroyerTaken R ts
  destructor_assigned R (marked at ts r) = destructor_defaulted R at (word_first r)

  destructor_among : (R : List Symbol) (ts : List Token) → length ts ≤ depth → Among C R of_destructor_body ts → DestroyerTaken R ts
  destructor_among R ts b (inl h) =
      let r = by_rule (Many n.Statement ∷ Terminal (pattern.Punctuator mark.CloseBrace) ∷ Close ∷ []) those_block (inl refl) h in
      destructor_block R ts (unseen C R ts mark.Assign of_block (refl, tt) (which those_block r)) (block_within_taken C depth R ts b r)
  destructor_among R ts b (inr (inl h)) = destructor_assigned R (mark_first h)
  destructor_among R ts b (inr (inr h)) = absurd h

  pub record DestructorEnd (R : List Symbol) (ts : List Token) : Type 0 where
    pub called : List ℕ
    pub is_noexcept : Bool
    pub body : DestructorBody
    pub left : List Token
    pub read : (at : Span) → destructor (is_class C) depth at ts ≡ Some (record { name = called; is_noexcept = is_noexcept; body = body; span = at }, left)
    pub spelled : Spells (name called ∷ (in_parentheses [] ++ (if_said is_noexcept (w word.Noexcept) ++ tree.destructor_end body))) ts left
    pub is_name : IsName called
    pub formed : FormedDestructorBody C body
    pub runs : Runs C R left

  no_parameters : (R : List Symbol) (ts : List Token) → Among C R of_no_parameters ts → Runs C (Terminal (pattern.Punctuator mark.OpenParen) ∷ Terminal (pattern.Punctuator mark.CloseParen) ∷ R) ts
  no_parameters R ts (inl h) = h
  no_parameters R ts (inr h) = absurd h

  pub destructor_taken : (R : List Symbol) (ts : List Token) → length ts ≤ suc depth → Runs C (Terminal pattern.Name ∷ One n.NoParameters ∷ Maybe n.Noexcept ∷ One n.DestructorBody ∷ R) ts → DestructorEnd R ts
  unfolding destructor
  destructor_taken R ts b h =
      let x = taken_name h in
      let opened = expected mark.OpenParen (no_parameters (Maybe n.Noexcept ∷ One n.DestructorBody ∷ R) x.left (which those_no_parameters x.runs)) in
      let shut = expected mark.CloseParen opened.runs in
      let left = after_word word.Noexcept shut.left in
      let said = if_said (sees_word word.Noexcept shut.left) (w word.Noexcept) in
      let first = takes (name x.part ∷ []) refl ts x.left x.is.0 in
      let second = within (m mark.OpenParen ∷ []) x.left opened.left opened.is in
      let third = within (m mark.CloseParen ∷ []) opened.left shut.left shut.is in
      let outer = within said shut.left left (word_if-spells word.Noexcept shut.left) in
      let o = destructor_among R left (omega (arith, b, first, second, third, outer)) (which those_destructor_body (behind_word word.Noexcept those_noexcept shut.runs)) in
      let tail = said ++ tree.destructor_end o.part in
      record {
        called = x.part;
        is_noexcept = sees_word word.Noexcept shut.left;
        body = o.part;
        left = o.left;
        read = λ at. rw (x.read, opened.read, shut.read, o.read);
        spelled = spells_append (name x.part ∷ []) (in_parentheses [] ++ tail) ts x.left o.left x.is.0
            (spells_append (m mark.OpenParen ∷ []) (m mark.CloseParen ∷ tail) x.left opened.left o.left opened.is (spells_append (m mark.CloseParen ∷ []) tail opened.left shut.left o.left shut.is (spells_append said (tree.destructor_end o.part) shut.left left o.left (word_if-spells word.Noexcept shut.left) o.is.0)));
        is_name = x.is.1;
        formed = o.is.1;
        runs = o.runs;
      }
