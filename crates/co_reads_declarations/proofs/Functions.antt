-- The rest of functions where the rules read them.
use Rattle.std.proofs.Common.{◌≡◌, ℕ, ◌≤◌, Bool, true, false, List, [], ◌∷◌, ◌++◌, length, Option, Some, None, refl, arith, inl, inr}
use Rattle.co_base.specs.declared.span.Span.{Span}
use Rattle.co_lex.specs.declared.token.Token.{Token}
use Rattle.co_lex.specs.declared.token.Mark.TheVariants as mark
use Rattle.co_lex.specs.declared.token.Word.TheVariants as word
use Rattle.co_rules.specs.declared.symbol.Nonterminal.TheVariants as n
use Rattle.co_rules.specs.declared.symbol.Pattern.TheVariants as pattern
use Rattle.co_rules.specs.declared.symbol.Symbol.{Symbol}
use Rattle.co_rules.specs.declared.symbol.Symbol.TheVariants.{Token as Terminal, One, Maybe, Many, Close}
use Rattle.co_rules.specs.Names.{is_class}
use Rattle.co_tree.specs.declared.declarations.Parameter.{Parameter}
use Rattle.co_tree.specs.declared.declarations.FunctionSpecifier.{FunctionSpecifier}
use Rattle.co_tree.specs.declared.declarations.FunctionName.{FunctionName}
use Rattle.co_tree.specs.declared.declarations.Function.{Function}
use Rattle.co_tree.specs.declared.statements.Block.{Block}
use Rattle.co_tree.specs.declared.types.TypeId.{TypeId}
use Rattle.co_tree.specs.Piece.{w, if_said, in_parentheses}
use Rattle.co_tree.specs.Statements as tree_part
use Rattle.co_tree.specs.Declarations as tree
use Rattle.co_tree.specs.FormedTree.{FormedParameters, FormedBlock, FormedBody}
use Rattle.co_reader.specs.Reading.{sees, sees_word, after_word}
use Rattle.co_parse.specs.Declarations.{block_or_semicolon, function_rest, method}
use Rattle.co_reads.specs.Runs.{Runs}
use Rattle.co_reads.specs.Spells.{Spells}
use Rattle.co_reads.specs.Takes.{Takes}
use Rattle.co_reads.proofs.Cases.{Among, which, by_rule}
use Rattle.co_reads.proofs.Firsts.{Marked, marked, mark_first}
use Rattle.co_reads.proofs.Fronts.{after-left, word_if-spells}
use Rattle.co_reads.proofs.Spells.{spells_append}
use Rattle.co_reads.proofs.Steps.{sees_here, after_here, sees_next, unseen, within}
use Rattle.co_reads_declarations.proofs.Expressions.{BlockTaken}
use Rattle.co_reads_statements.proofs.RulesOfStatements.{of_block, those_block}
use Rattle.co_reads_statements.proofs.Statements.{block_within_taken}
use Rattle.co_reads_declarations.proofs.Parameters.{parameters_taken}
use Rattle.co_reads_declarations.proofs.RulesOfDeclarations.{of_function_body, those_function_body, those_noexcept, those_const}
use Rattle.co_reads_declarations.proofs.Words.{behind_word}

-- the function of these parts
abbrev pub function_of : List FunctionSpecifier → TypeId → FunctionName → List Parameter → Bool → Bool → Option Block → Span → Function
function_of found of called given is_const is_noexcept body at =
    record { specifiers = found; result = of; name = called; parameters = given; is_const = is_const; is_noexcept = is_noexcept; body = body; span = at }

module _ (C : List (List ℕ)) (depth : ℕ) where
  -- the rest of a function of the file, after its name
  pub record FunctionEnd (R : List Symbol) (ts : List Token) : Type 0 where
    pub given : List Parameter
    pub is_noexcept : Bool
    pub body : Option Block
    pub left : List Token
    pub call : sees mark.OpenParen ts ≡ true
    pub read : (at : Span) (found : List FunctionSpecifier) (of : TypeId) (called : FunctionName) → function_rest (is_class C) depth at found of called ts ≡ Some (function_of found of called given false is_noexcept body at, left)
    pub spelled : Spells (in_parentheses (tree.parameters given) ++ (if_said is_noexcept (w word.Noexcept) ++ tree.block_or_semicolon body)) ts left
    pub parameters : FormedParameters C given
    pub formed : FormedBody C body
    pub runs : Runs C R left

  -- the rest of a function of a class
  pub record MethodEnd (R : List Symbol) (ts : List Token) : Type 0 where
    pub given : List Parameter
    pub is_const : Bool
    pub is_noexcept : Bool
    pub body : Block
    pub left : List Token
    pub call : sees mark.OpenParen ts ≡ true
    pub read : (at : Span) (found : List FunctionSpecifier) (of : TypeId) (called : FunctionName) → method (is_class C) depth at found of called ts ≡ Some (function_of found of called given is_const is_noexcept (Some body) at, left)
    pub spelled : Spells (in_parentheses (tree.parameters given) ++ (if_said is_const (w word.Const) ++ (if_said is_noexcept (w word.Noexcept) ++ tree_part.block body))) ts left
    pub parameters : FormedParameters C given
    pub formed : FormedBlock C body
    pub runs : Runs C R left

  abbrev BodyTaken : List Symbol → List Token → Type 0
  BodyTaken R ts = Takes (block_or_semicolon (is_class C) depth) (λ b left. Spells (tree.block_or_semicolon b) ts left × FormedBody C b) C R ts

  absent : (R : List Symbol) {ts : List Token} → Marked C mark.Semicolon R ts → BodyTaken R ts
  unfolding block_or_semicolon
  absent R (marked at ts r) = record { part = None; left = ts; read = rw (sees_here mark.Semicolon at ts, after_here mark.Semicolon at ts); is = ((refl, refl), tt); runs = r }

  present : (R : List Symbol) (ts : List Token) → sees mark.Semicolon ts ≡ false → BlockTaken C depth R ts → BodyTaken R ts
  unfolding block_or_semicolon
  present R ts e b = record { part = Some b.part; left = b.left; read = rw (e, after-left mark.Semicolon ts e, b.read); is = (b.is.0, b.is.1); runs = b.runs }

  body_among : (R : List Symbol) (ts : List Token) → length ts ≤ depth → Among C R of_function_body ts → BodyTaken R ts
  body_among R ts b (inl h) =
      let r = by_rule (Many n.Statement ∷ Terminal (pattern.Punctuator mark.CloseBrace) ∷ Close ∷ []) those_block (inl refl) h in
      present R ts (unseen C R ts mark.Semicolon of_block (refl, tt) (which those_block r)) (block_within_taken C depth R ts b r)
  body_among R ts b (inr (inl h)) = absent R (mark_first h)
  body_among R ts b (inr (inr h)) = absurd h

  pub function_end : (R : List Symbol) (ts : List Token) → length ts ≤ depth
      → Runs C (Terminal (pattern.Punctuator mark.OpenParen) ∷ Maybe n.Parameters ∷ Terminal (pattern.Punctuator mark.CloseParen) ∷ Maybe n.Noexcept ∷ One n.FunctionBody ∷ R) ts → FunctionEnd R ts
  unfolding function_rest
  function_end R ts b h =
      let p = parameters_taken C (Maybe n.Noexcept ∷ One n.FunctionBody ∷ R) h in
      let x = sees_word word.Noexcept p.left in
      let left = after_word word.Noexcept p.left in
      let inner = within (in_parentheses (tree.parameters p.part)) ts p.left p.is.0 in
      let outer = within (if_said x (w word.Noexcept)) p.left left (word_if-spells word.Noexcept p.left) in
      let o = body_among R left (omega (arith, b, inner, outer)) (which those_function_body (behind_word word.Noexcept those_noexcept p.runs)) in
      record {
        given = p.part;
        is_noexcept = x;
        body = o.part;
        left = o.left;
        call = sees_next mark.OpenParen h;
        read = λ at found of called. rw (p.read, o.read);
        spelled = spells_append (in_parentheses (tree.parameters p.part)) (if_said x (w word.Noexcept) ++ tree.block_or_semicolon o.part) ts p.left o.left p.is.0 (spells_append (if_said x (w word.Noexcept)) (tree.block_or_semicolon o.part) p.left left o.left (word_if-spells word.Noexcept p.left) o.is.0);
        parameters = p.is.1;
        formed = o.is.1;
        runs = o.runs;
      }

  pub method_end : (R : List Symbol) (ts : List Token) → length ts ≤ depth
      → Runs C (Terminal (pattern.Punctuator mark.OpenParen) ∷ Maybe n.Parameters ∷ Terminal (pattern.Punctuator mark.CloseParen) ∷ Maybe n.Const ∷ Maybe n.Noexcept ∷ One n.Block ∷ R) ts → MethodEnd R ts
  unfolding method
  method_end R ts b h =
      let p = parameters_taken C (Maybe n.Const ∷ Maybe n.Noexcept ∷ One n.Block ∷ R) h in
      let c = sees_word word.Const p.left in
      let const_left = after_word word.Const p.left in
      let x = sees_word word.Noexcept const_left in
      let left = after_word word.Noexcept const_left in
      let inner = within (in_parentheses (tree.parameters p.part)) ts p.left p.is.0 in
      let middle = within (if_said c (w word.Const)) p.left const_left (word_if-spells word.Const p.left) in
      let outer = within (if_said x (w word.Noexcept)) const_left left (word_if-spells word.Noexcept const_left) in
      let o = block_within_taken C depth R left (omega (arith, b, inner, middle, outer)) (behind_word word.Noexcept those_noexcept (behind_word word.Const those_const p.runs)) in
      let said = if_said x (w word.Noexcept) ++ tree_part.block o.part in
      record {
        given = p.part;
        is_const = c;
        is_noexcept = x;
        body = o.part;
        left = o.left;
        call = sees_next mark.OpenParen h;
        read = λ at found of called. rw (p.read, o.read);
        spelled = spells_append (in_parentheses (tree.parameters p.part)) (if_said c (w word.Const) ++ said) ts p.left o.left p.is.0
            (spells_append (if_said c (w word.Const)) said p.left const_left o.left (word_if-spells word.Const p.left) (spells_append (if_said x (w word.Noexcept)) (tree_part.block o.part) const_left left o.left (word_if-spells word.Noexcept const_left) o.is.0));
        parameters = p.is.1;
        formed = o.is.1;
        runs = o.runs;
      }
