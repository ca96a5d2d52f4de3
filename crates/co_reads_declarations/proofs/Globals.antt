-- Globals and functions of a file where the rules read them.
use Rattle.std.proofs.Common.{◌≡◌, ℕ, suc, ◌≤◌, Bool, true, false, List, [], ◌∷◌, ◌++◌, length, Option, Some, refl, ◌⊎◌, inl, inr, arith}
use Rattle.co_base.specs.declared.span.Span.{Span}
use Rattle.co_lex.specs.declared.token.Token.{Token}
use Rattle.co_lex.specs.declared.token.Mark.TheVariants as mark
use Rattle.co_lex.specs.declared.token.Word.TheVariants as word
use Rattle.co_rules.specs.declared.symbol.Nonterminal.TheVariants as n
use Rattle.co_rules.specs.declared.symbol.Pattern.TheVariants as pattern
use Rattle.co_rules.specs.declared.symbol.Symbol.{Symbol}
use Rattle.co_rules.specs.declared.symbol.Symbol.TheVariants.{Token as Terminal, One, Many}
use Rattle.co_rules.specs.Names.{is_class}
use Rattle.co_tree.specs.declared.declarations.Declaration.{Declaration}
use Rattle.co_tree.specs.declared.declarations.Declaration.TheVariants as declaration_of
use Rattle.co_tree.specs.declared.declarations.FunctionName.{FunctionName}
use Rattle.co_tree.specs.declared.declarations.FunctionName.TheVariants as function_name
use Rattle.co_tree.specs.declared.declarations.FunctionSpecifier.{FunctionSpecifier}
use Rattle.co_tree.specs.declared.declarations.Parameter.{Parameter}
use Rattle.co_tree.specs.declared.statements.Block.{Block}
use Rattle.co_tree.specs.declared.statements.Initializer.{Initializer}
use Rattle.co_tree.specs.declared.types.TypeId.{TypeId}
use Rattle.co_tree.specs.Piece.{w, m, name, if_said, in_parentheses}
use Rattle.co_tree.specs.Types as tree_type
use Rattle.co_tree.specs.Statements as tree_part
use Rattle.co_tree.specs.Declarations as tree
use Rattle.co_tree.specs.Formed.{IsName}
use Rattle.co_tree.specs.FormedTree.{FileName, FormedParameters, FormedBody, FieldInitializer, FormedDeclaration}
use Rattle.co_tree.specs.Derives.{StandsAt}
use Rattle.co_reader.specs.Reading.{Reader, ◌>>=◌, lead, place, sees}
use Rattle.co_parse.specs.Declarations.{specifiers, is_auto, is_of_file, declared_name, item_by, function, variable, global_item}
use Rattle.co_reads.specs.Runs.{Runs}
use Rattle.co_reads.specs.Spells.{Spells}
use Rattle.co_reads.specs.Takes.{Takes}
use Rattle.co_reads.proofs.Cases.{Among, which, stands_here}
use Rattle.co_reads.proofs.Firsts.{mark_first, Worded}
use Rattle.co_reads.proofs.Spells.{spells_append}
use Rattle.co_reads.proofs.Steps.{within}
use Rattle.co_reads.proofs.TypeIds.{TypeTaken, type_taken}
use Rattle.co_reads_declarations.proofs.Fields.{VariableEnd, assigned, braced, plain}
use Rattle.co_reads_declarations.proofs.Functions.{function_of, FunctionEnd, function_end}
use Rattle.co_reads_declarations.proofs.Names.{PlainNamed, plain_name_taken, OperatorNamed, file_operator_taken}
use Rattle.co_reads_declarations.proofs.Results.{ResultTaken, plain_kind, no_specifier_lead, auto_taken, type_read, result_taken}
use Rattle.co_reads_declarations.proofs.RulesOfDeclarations.{of_global_name, those_global_name, of_function_name, those_function_name, of_global_rest, those_global_rest, of_function_rest, those_function_rest}
use Rattle.co_reads_statements.proofs.Pieces.{takes}
use Rattle.co_reads_declarations.proofs.Tokens.{named_token}
use Rattle.co_reads_declarations.proofs.Specifiers.{specifiers_taken, no_specifiers, specified_stands, worded_stands, auto_specifiers, not_none}
use Rattle.co_reads_declarations.proofs.Words.{SpecifierNext}
use Rattle.co_reads_declarations.proofs.Typed.{TypeLead, type_lead}

module _ (C : List (List ℕ)) (depth : ℕ) where
  -- from the name on
  abbrev item_rest : Span → List FunctionSpecifier → TypeId → Reader Declaration
  item_rest at found of = declared_name >>= (λ called ts. item_by (is_class C) depth at found of called (sees mark.OpenParen ts) ts)

  -- a function, from its name on
  pub record FileFunction (R : List Symbol) (ts : List Token) : Type 0 where
    pub called : FunctionName
    pub given : List Parameter
    pub is_noexcept : Bool
    pub body : Option Block
    pub left : List Token
    pub read : (at : Span) (found : List FunctionSpecifier) (of : TypeId) → item_rest at found of ts ≡ Some (declaration_of.Function (function_of found of called given false is_noexcept body at), left)
    pub spelled : Spells (tree.function_named called ++ (in_parentheses (tree.parameters given) ++ (if_said is_noexcept (w word.Noexcept) ++ tree.block_or_semicolon body))) ts left
    pub name : FileName called
    pub parameters : FormedParameters C given
    pub formed : FormedBody C body
    pub runs : Runs C R left

  -- a global, from its name on
  pub record FileVariable (R : List Symbol) (ts : List Token) : Type 0 where
    pub text : List ℕ
    pub initializer : Initializer
    pub left : List Token
    pub read : (at : Span) (of : TypeId) → is_auto of.base.kind ≡ false → item_rest at [] of ts ≡ Some (declaration_of.Global (record { of = of; name = text; initializer = initializer; span = at }), left)
    pub spelled : Spells (name text ∷ (tree_part.initializer initializer ++ m mark.Semicolon ∷ [])) ts left
    pub is_name : IsName text
    pub formed : FieldInitializer C initializer
    pub runs : Runs C R left

  named_function : (R : List Symbol) (ts : List Token) (p : PlainNamed C R ts) (S : List Symbol) → FunctionEnd C depth S p.left → FileFunction S ts
  unfolding function
  named_function R ts p S f =
      record {
        called = function_name.Name p.text;
        given = f.given;
        is_noexcept = f.is_noexcept;
        body = f.body;
        left = f.left;
        read = λ at found of. rw (p.read, f.call, f.read at found of (function_name.Name p.text));
        spelled = spells_append (name p.text ∷ []) (in_parentheses (tree.parameters f.given) ++ (if_said f.is_noexcept (w word.Noexcept) ++ tree.block_or_semicolon f.body)) ts p.left f.left p.spelled f.spelled;
        name = p.is_name;
        parameters = f.parameters;
        formed = f.formed;
        runs = f.runs;
      }

  of_file : (called : FunctionName) → FileName called → is_of_file called ≡ true
  of_file (function_name.Name text) h = refl
  of_file function_name.OperatorCoAwait h = refl
  of_file function_name.OperatorNew h = absurd h
  of_file function_name.OperatorDelete h = absurd h

  operator_function : (R : List Symbol) (ts : List Token) (p : OperatorNamed FileName C R ts) (S : List Symbol) → FunctionEnd C depth S p.left → FileFunction S ts
  unfolding function
  operator_function R ts p S f =
      record {
        called = p.called;
        given = f.given;
        is_noexcept = f.is_noexcept;
        body = f.body;
        left = f.left;
        read = λ at found of. rw (p.read, f.call, of_file p.called p.is, f.read at found of p.called);
        spelled = spells_append (tree.function_named p.called) (in_parentheses (tree.parameters f.given) ++ (if_said f.is_noexcept (w word.Noexcept) ++ tree.block_or_semicolon f.body)) ts p.left f.left p.spelled f.spelled;
        name = p.is;
        parameters = f.parameters;
        formed = f.formed;
        runs = f.runs;
      }

  named_variable : (R : List Symbol) (ts : List Token) (p : PlainNamed C R ts) (S : List Symbol) → VariableEnd C depth S p.left → FileVariable S ts
  unfolding variable
  named_variable R ts p S v =
      record {
        text = p.text;
        initializer = v.initializer;
        left = v.left;
        read = λ at of e. rw (p.read, v.no_call, e, v.read at of p.text);
        spelled = spells_append (name p.text ∷ []) (tree_part.initializer v.initializer ++ m mark.Semicolon ∷ []) ts p.left v.left p.spelled v.spelled;
        is_name = p.is_name;
        formed = v.formed;
        runs = v.runs;
      }

  function_among : (R : List Symbol) (ts : List Token) → length ts ≤ depth → Among C R of_function_rest ts → FunctionEnd C depth R ts
  function_among R ts b (inl h) = function_end C depth R ts b h
  function_among R ts b (inr h) = absurd h

  rest_among : (R : List Symbol) (ts : List Token) → length ts ≤ depth → Among C R of_global_rest ts → FunctionEnd C depth R ts ⊎ VariableEnd C depth R ts
  rest_among R ts b (inl h) = inr (assigned C depth R (omega (arith, b)) (mark_first h))
  rest_among R ts b (inr (inl h)) = inr (braced C depth R (omega (arith, b)) (mark_first h))
  rest_among R ts b (inr (inr (inl h))) = inr (plain C depth R (mark_first h))
  rest_among R ts b (inr (inr (inr (inl h)))) = inl (function_end C depth R ts b h)
  rest_among R ts b (inr (inr (inr (inr h)))) = absurd h

  by_operator : (R : List Symbol) (ts : List Token) → length ts ≤ suc depth → Runs C (Terminal (pattern.Keyword word.Operator) ∷ Terminal (pattern.Keyword word.CoAwait) ∷ One n.FunctionRest ∷ R) ts → FileFunction R ts
  by_operator R ts b h =
      let o = file_operator_taken h in
      let q = takes (tree.function_named o.called) (named_token o.called) ts o.left o.spelled in
      operator_function (One n.FunctionRest ∷ R) ts o R (function_among R o.left (omega (arith, b, q)) (which those_function_rest o.runs))

  function_named_among : (R : List Symbol) (ts : List Token) → length ts ≤ suc depth → Among C R of_function_name ts → FileFunction R ts
  function_named_among R ts b (inl h) =
      let p = plain_name_taken h in
      let q = takes (name p.text ∷ []) refl ts p.left p.spelled in
      named_function (One n.FunctionRest ∷ R) ts p R (function_among R p.left (omega (arith, b, q)) (which those_function_rest p.runs))
  function_named_among R ts b (inr (inl h)) = by_operator R ts b h
  function_named_among R ts b (inr (inr h)) = absurd h

  either_named : (R : List Symbol) (ts : List Token) (p : PlainNamed C (One n.GlobalRest ∷ R) ts) → FunctionEnd C depth R p.left ⊎ VariableEnd C depth R p.left → FileFunction R ts ⊎ FileVariable R ts
  either_named R ts p (inl f) = inl (named_function (One n.GlobalRest ∷ R) ts p R f)
  either_named R ts p (inr v) = inr (named_variable (One n.GlobalRest ∷ R) ts p R v)

  global_named_among : (R : List Symbol) (ts : List Token) → length ts ≤ suc depth → Among C R of_global_name ts → FileFunction R ts ⊎ FileVariable R ts
  global_named_among R ts b (inl h) =
      let p = plain_name_taken h in
      let q = takes (name p.text ∷ []) refl ts p.left p.spelled in
      either_named R ts p (rest_among R p.left (omega (arith, b, q)) (which those_global_rest p.runs))
  global_named_among R ts b (inr (inl h)) = inl (by_operator R ts b h)
  global_named_among R ts b (inr (inr h)) = absurd h

  -- ---- the whole

  abbrev pub ItemTaken : List Symbol → List Token → Type 0
  ItemTaken R ts = Takes (global_item (is_class C) depth) (λ d left. Spells (tree.item d) ts left × FormedDeclaration C d) C R ts

  -- a function, of which the specifiers and the result are read
  whole_function : (R S : List Symbol) (ts mid : List Token) (found : List FunctionSpecifier) → StandsAt ts (place ts) → specifiers ts ≡ Some (found, mid) → Spells (tree.specifiers found) ts mid → (t : ResultTaken C S mid) → FileFunction R t.left
      → ItemTaken R ts
  unfolding global_item
  whole_function R S ts mid found s e spelled t f =
      let tail = tree.function_named f.called ++ (in_parentheses (tree.parameters f.given) ++ (if_said f.is_noexcept (w word.Noexcept) ++ tree.block_or_semicolon f.body)) in
      record {
        part = declaration_of.Function (function_of found t.part f.called f.given false f.is_noexcept f.body (place ts));
        left = f.left;
        read = rw (e, t.read, f.read (place ts) found t.part);
        is = (
          (s, spells_append (tree.specifiers found) (tree_type.type_id t.part ++ tail) ts mid f.left spelled (spells_append (tree_type.type_id t.part) tail mid t.left f.left t.is.0 f.spelled)),
          record { result = t.is.1; name = f.name; parameters = f.parameters; is_const = refl; body = f.formed },
        );
        runs = f.runs;
      }

  -- a global, of which the type is read
  whole_variable : (R S : List Symbol) (ts : List Token) → StandsAt ts (place ts) → specifiers ts ≡ Some ([], ts) → TypeLead (lead ts) → (t : TypeTaken C S ts) → FileVariable R t.left → ItemTaken R ts
  unfolding global_item
  whole_variable R S ts s e k t v =
      let tail = name v.text ∷ (tree_part.initializer v.initializer ++ m mark.Semicolon ∷ []) in
      record {
        part = declaration_of.Global (record { of = t.part; name = v.text; initializer = v.initializer; span = place ts });
        left = v.left;
        read = rw (e, type_read k t, v.read (place ts) t.part (plain_kind C t.part.base.kind t.is.1));
        is = ((s, spells_append (tree_type.type_id t.part) tail ts t.left v.left t.is.0 v.spelled), (t.is.1, v.is_name, v.formed));
        runs = v.runs;
      }

  function_named : (R : List Symbol) (ts : List Token) → length ts ≤ suc depth → Runs C (One n.FunctionName ∷ R) ts → FileFunction R ts
  function_named R ts b h = function_named_among R ts b (which those_function_name h)

  -- after specifiers
  pub specified_item : (R : List Symbol) {ts : List Token} → length ts ≤ suc depth → SpecifierNext C (Many n.Specifier ∷ One n.ResultType ∷ One n.FunctionName ∷ R) ts → ItemTaken R ts
  specified_item R {ts} b h =
      let found = specifiers_taken h in
      let t = result_taken found.runs in
      let q = within (tree.specifiers found.part) ts found.left found.is in
      let r = within (tree_type.type_id t.part) found.left t.left t.is.0 in
      whole_function R (One n.FunctionName ∷ R) ts found.left found.part (specified_stands h) found.read found.is t (function_named R t.left (omega (arith, b, q, r)) t.runs)

  -- from `auto` on
  pub auto_item : (R : List Symbol) {ts : List Token} → length ts ≤ suc depth → Worded C word.Auto (One n.FunctionName ∷ R) ts → ItemTaken R ts
  auto_item R {ts} b h =
      let t = auto_taken h in
      let r = within (tree_type.type_id t.part) ts t.left t.is.0 in
      whole_function R (One n.FunctionName ∷ R) ts ts [] (worded_stands h) (auto_specifiers h) refl t (function_named R t.left (omega (arith, b, r)) t.runs)

  typed_among : (R : List Symbol) (ts : List Token) → StandsAt ts (place ts) → specifiers ts ≡ Some ([], ts) → TypeLead (lead ts) → (t : TypeTaken C (One n.GlobalName ∷ R) ts) → FileFunction R t.left ⊎ FileVariable R t.left → ItemTaken R ts
  typed_among R ts s e k t (inl f) = whole_function R (One n.GlobalName ∷ R) ts ts [] s e refl (record { part = t.part; left = t.left; read = type_read k t; is = (t.is.0, inl t.is.1); runs = t.runs }) f
  typed_among R ts s e k t (inr v) = whole_variable R (One n.GlobalName ∷ R) ts s e k t v

  -- from a type on
  pub typed_item : (R : List Symbol) (ts : List Token) → length ts ≤ suc depth → Runs C (One n.TypeId ∷ One n.GlobalName ∷ R) ts → ItemTaken R ts
  typed_item R ts b h =
      let k = type_lead h in
      let t = type_taken h in
      let r = within (tree_type.type_id t.part) ts t.left t.is.0 in
      typed_among R ts (stands_here h tt) (no_specifiers ts (no_specifier_lead (lead ts) k) (not_none h tt)) k t (global_named_among R t.left (omega (arith, b, r)) (which those_global_name t.runs))
