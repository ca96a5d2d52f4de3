-- A file where the rules read it.
use Rattle.std.proofs.Common.{◌≡◌, ℕ, zero, suc, ◌≤◌, true, false, List, [], ◌∷◌, ◌++◌, length, Some, Ok, refl, sym, ap, ◌∙◌, subst, ◌⊎◌, inl, inr, arith}
use Rattle.std.specs.List.{AllByRecursion}
use Rattle.co_base.specs.declared.span.Span.{Span}
use Rattle.co_lex.specs.declared.token.Token.{Token}
use Rattle.co_lex.specs.declared.token.TokenKind.{TokenKind}
use Rattle.co_lex.specs.declared.token.TokenKind.TheVariants as kind
use Rattle.co_lex.specs.declared.token.Mark.TheVariants as mark
use Rattle.co_lex.specs.declared.token.Word.TheVariants as word
use Rattle.co_rules.specs.declared.symbol.Nonterminal.TheVariants as n
use Rattle.co_rules.specs.declared.symbol.Pattern.TheVariants as pattern
use Rattle.co_rules.specs.declared.symbol.Symbol.{Symbol}
use Rattle.co_rules.specs.declared.symbol.Symbol.TheVariants.{Token as Terminal, One, Many}
use Rattle.co_rules.specs.Names.{is_class}
use Rattle.co_rules.specs.Pattern.{admits}
use Rattle.co_rules.specs.Rule.{start}
use Rattle.co_rules.specs.Terminal.{terminal_of}
use Rattle.co_rules.proofs.Sets.{never}
use Rattle.co_tree.specs.declared.declarations.ClassKey.{ClassKey}
use Rattle.co_tree.specs.declared.declarations.ClassKey.TheVariants as key
use Rattle.co_tree.specs.declared.declarations.Declaration.{Declaration}
use Rattle.co_tree.specs.declared.declarations.Declaration.TheVariants as declaration_of
use Rattle.co_tree.specs.declared.declarations.FunctionSpecifier.TheVariants as specifier_of
use Rattle.co_tree.specs.declared.declarations.Tree.{Tree}
use Rattle.co_tree.specs.Piece.{token, line}
use Rattle.co_tree.specs.Declarations as tree
use Rattle.co_tree.specs.Declarations.{sentence_of}
use Rattle.co_tree.specs.FormedTree.{FormedDeclaration, Derives}
use Rattle.co_reader.specs.declared.lead.Lead.{Lead}
use Rattle.co_reader.specs.declared.lead.Lead.TheVariants as l
use Rattle.co_reader.specs.Reading.{lead, place}
use Rattle.co_parse.specs.Declarations.{class_key, is_end, member, global_item, file_class, declaration_by, declaration, declarations_from, declarations}
use Rattle.co_parse.specs.Parse.{tree_of, built}
use Rattle.co_reads.specs.Runs.{Runs, ended, token as read_token, one, more, last}
use Rattle.co_reads.specs.Spells.{Spells}
use Rattle.co_reads.proofs.Cases.{Among, which, none_left, some_left}
use Rattle.co_reads.proofs.Firsts.{Worded, worded, word_first}
use Rattle.co_reads.proofs.Spells.{spells_append, spells_reads}
use Rattle.co_reads_declarations.proofs.Aliases.{alias_taken}
use Rattle.co_reads_declarations.proofs.Classes.{ReadsMembers, reads_members, ForwardEnd, ClassEnd, class_taken, key_lead, variable_token, function_token}
use Rattle.co_reads_declarations.proofs.Globals.{ItemTaken, specified_item, auto_item, typed_item}
use Rattle.co_reads_declarations.proofs.RulesOfDeclarations.{of_item, those_item}
use Rattle.co_reads_statements.proofs.Pieces.{takes, has_token}
use Rattle.co_reads_declarations.proofs.Turns.{Turns, no_turn, one_turn}
use Rattle.co_reads_declarations.proofs.Typed.{TypeLead, constant, void_type, bool_type, int_type, long_type, some_name, type_lead, typed}
use Rattle.co_reads_declarations.proofs.Words.{KeyNext, key_next, key_first, SpecifierNext, specifier_next, specifier_first}

item_token : (d : Declaration) → has_token (tree.item d) ≡ true
item_token (declaration_of.Class c) = refl
item_token (declaration_of.Forward f) = refl
item_token (declaration_of.Alias a) = refl
item_token (declaration_of.Global v) = variable_token v
item_token (declaration_of.Function f) = function_token f

module _ (C : List (List ℕ)) (depth : ℕ) (reads : ReadsMembers C depth (member (is_class C) depth)) where
  -- a declaration that is read, where the file does not end
  record DeclarationTaken (R : List Symbol) (ts : List Token) : Type 0 where
    pub no_end : is_end (lead ts) ≡ false
    pub part : Declaration
    pub left : List Token
    pub read : declaration (is_class C) depth ts ≡ Some (part, left)
    pub spelled : Spells (tree.item part) ts left
    pub formed : FormedDeclaration C part
    pub runs : Runs C R left

  as_item : {R : List Symbol} {ts : List Token} → is_end (lead ts) ≡ false → declaration (is_class C) depth ts ≡ global_item (is_class C) depth ts → ItemTaken C depth R ts → DeclarationTaken R ts
  as_item k e i = record { no_end = k; part = i.part; left = i.left; read = e ∙ i.read; spelled = i.is.0; formed = i.is.1; runs = i.runs }

  key_end : (k : ClassKey) → is_end (l.Word (tree.key_word k)) ≡ false
  key_end key.Struct = refl
  key_end key.Class = refl

  of_class : (R : List Symbol) (k : ClassKey) (at : Span) (ts : List Token) → ForwardEnd C depth (member (is_class C) depth) reads R ts ⊎ ClassEnd C depth (member (is_class C) depth) reads R ts → DeclarationTaken R (record { kind = kind.Word (tree.key_word k); span = at } ∷ ts)
  unfolding declaration file_class
  of_class R k at ts (inl f) =
      record {
        no_end = key_end k;
        part = declaration_of.Forward (record { key = k; name = f.called; span = at });
        left = f.left;
        read = rw (key_lead k, f.named, f.ends, f.after_end);
        spelled = (refl, (refl, f.spelled));
        formed = f.is_name;
        runs = f.runs;
      }
  of_class R k at ts (inr c) =
      record {
        no_end = key_end k;
        part = declaration_of.Class (record { key = k; name = c.called; members = c.members; span = at });
        left = c.left;
        read = rw (key_lead k, c.named, c.goes_on, c.after_none, c.body);
        spelled = (refl, (refl, c.spelled));
        formed = (c.is_name, c.formed);
        runs = c.runs;
      }

  by_key : (R : List Symbol) {ts : List Token} → length ts ≤ suc depth → KeyNext C (Terminal pattern.Name ∷ One n.ClassRest ∷ R) ts → DeclarationTaken R ts
  by_key R b (key_next k at ts r) = of_class R k at ts (class_taken C depth (member (is_class C) depth) reads R ts (omega (arith, b)) r)

  by_using : (R : List Symbol) {ts : List Token} → Worded C word.Using (Terminal pattern.Name ∷ Terminal (pattern.Punctuator mark.Assign) ∷ One n.TypeId ∷ Terminal (pattern.Punctuator mark.Semicolon) ∷ R) ts → DeclarationTaken R ts
  unfolding declaration
  by_using R (worded at ts r) =
      let a = alias_taken C R at ts r in
      record { no_end = refl; part = declaration_of.Alias a.part; left = a.left; read = rw a.read; spelled = a.is.0; formed = a.is.1; runs = a.runs }

  specified_read : {R : List Symbol} {ts : List Token} → SpecifierNext C R ts → (is_end (lead ts) ≡ false) × (declaration (is_class C) depth ts ≡ global_item (is_class C) depth ts)
  unfolding declaration
  specified_read (specifier_next specifier_of.Static at ts r) = (refl, refl)
  specified_read (specifier_next specifier_of.Inline at ts r) = (refl, refl)

  by_specifier : (R : List Symbol) {ts : List Token} → length ts ≤ suc depth → SpecifierNext C (Many n.Specifier ∷ One n.ResultType ∷ One n.FunctionName ∷ R) ts → DeclarationTaken R ts
  by_specifier R b h = let e = specified_read h in as_item e.0 e.1 (specified_item C depth R b h)

  auto_read : {R : List Symbol} {ts : List Token} → Worded C word.Auto R ts → (is_end (lead ts) ≡ false) × (declaration (is_class C) depth ts ≡ global_item (is_class C) depth ts)
  unfolding declaration
  auto_read (worded at ts r) = (refl, refl)

  by_auto : (R : List Symbol) {ts : List Token} → length ts ≤ suc depth → Worded C word.Auto (One n.FunctionName ∷ R) ts → DeclarationTaken R ts
  by_auto R b h = let e = auto_read h in as_item e.0 e.1 (auto_item C depth R b h)

  typed_by : (at : Span) (k : Lead) (ts : List Token) → TypeLead k → (is_end k ≡ false) × (declaration_by (is_class C) depth at k (class_key k) ts ≡ global_item (is_class C) depth ts)
  typed_by at k ts constant = (refl, refl)
  typed_by at k ts void_type = (refl, refl)
  typed_by at k ts bool_type = (refl, refl)
  typed_by at k ts int_type = (refl, refl)
  typed_by at k ts long_type = (refl, refl)
  typed_by at k ts some_name = (refl, refl)

  by_type : (R : List Symbol) (ts : List Token) → length ts ≤ suc depth → Runs C (One n.TypeId ∷ One n.GlobalName ∷ R) ts → DeclarationTaken R ts
  unfolding declaration
  by_type R ts b h = let e = typed_by (place ts) (lead ts) ts (type_lead h) in as_item e.0 e.1 (typed_item C depth R ts b h)

  item_among : (R : List Symbol) (ts : List Token) → length ts ≤ suc depth → Among C R of_item ts → DeclarationTaken R ts
  item_among R ts b (inl h) = by_key R b (key_first h)
  item_among R ts b (inr (inl h)) = by_using R (word_first h)
  item_among R ts b (inr (inr (inl h))) = by_specifier R b (specifier_first h)
  item_among R ts b (inr (inr (inr (inl h)))) = by_auto R b (word_first h)
  item_among R ts b (inr (inr (inr (inr h)))) = by_type R ts b (typed n.Item (One n.GlobalName ∷ []) R h)

  -- ---- the declarations of a file

  abbrev End : List Symbol
  End = Terminal pattern.End ∷ []

  abbrev ItemsTurn : ℕ → List Declaration → List Token → Type 0
  ItemsTurn k found ts = Turns (declarations_from (is_class C) depth k) tree.items (FormedDeclaration C) C End found ts

  one_more : (k : ℕ) (found : List Declaration) (ts : List Token) → length ts ≤ suc k → length ts ≤ suc depth → ((all : List Declaration) (us : List Token) → length us ≤ k → length us ≤ suc depth → Runs C (Many n.Item ∷ End) us → ItemsTurn k all us)
      → DeclarationTaken (Many n.Item ∷ End) ts → ItemsTurn (suc k) found ts
  unfolding declarations_from
  one_more k found ts b d then i =
      let q = takes (tree.item i.part) (item_token i.part) ts i.left i.spelled in
      one_turn i.part i.left (rw (i.no_end, i.read) refl) i.formed (λ all left s. spells_append (tree.item i.part) (tree.items all) ts i.left left i.spelled s) (then (found ++ i.part ∷ []) i.left (omega (arith, b, q)) (omega (arith, d, q)) i.runs)

  end_kind : (k : TokenKind) → admits pattern.End (terminal_of C k) ≡ true → k ≡ kind.End
  unfolding admits
  end_kind kind.End h = refl
  end_kind k h = never h

  data AtEnd : List Token → Type 0 where
    at_end : (at : Span) → AtEnd (record { kind = kind.End; span = at } ∷ [])

  at_end_of : (k : TokenKind) (at : Span) (ts : List Token) → k ≡ kind.End → Runs C [] ts → AtEnd (record { kind = k; span = at } ∷ ts)
  at_end_of k at ts e ended = subst (λ x. AtEnd (record { kind = x; span = at } ∷ [])) (sym e) (at_end at)

  end_first : {ts : List Token} → Runs C End ts → AtEnd ts
  end_first (read_token p R t ts a few r) = at_end_of t.kind t.span ts (end_kind t.kind a) r

  end_lead : {ts : List Token} → AtEnd ts → is_end (lead ts) ≡ true
  end_lead (at_end at) = refl

  no_more : (k : ℕ) (found : List Declaration) (ts : List Token) → is_end (lead ts) ≡ true → Runs C End ts → ItemsTurn (suc k) found ts
  unfolding declarations_from
  no_more k found ts e r = no_turn ts (rw e refl) refl r

  next : {ts : List Token} → Runs C (Many n.Item ∷ End) ts → Runs C (One n.Item ∷ Many n.Item ∷ End) ts ⊎ Runs C End ts
  next (more N R body t ts b few h) = inl (one N (Many N ∷ R) body t ts b few h)
  next (last N R t ts b h) = inr h

  items_on : (k : ℕ) (found : List Declaration) (ts : List Token) → length ts ≤ k → length ts ≤ suc depth → Runs C (One n.Item ∷ Many n.Item ∷ End) ts ⊎ Runs C End ts → ItemsTurn k found ts
  items_on zero found ts b d (inl h) = absurd (none_left ts (some_left h tt) b)
  items_on zero found ts b d (inr h) = absurd (none_left ts (some_left h tt) b)
  items_on (suc k) found ts b d (inl h) = one_more k found ts b d (λ all us q o r. items_on k all us q o (next r)) (item_among (Many n.Item ∷ End) ts d (which those_item h))
  items_on (suc k) found ts b d (inr h) = no_more k found ts (end_lead (end_first h)) h

  -- ---- the tree

  pub record TreeRead (tokens : List Token) : Type 0 where
    pub tree : Tree
    pub read : tree_of tokens (declarations (is_class C) depth tokens) ≡ Ok tree
    pub derives : Derives C tree tokens

  ended_tree : (tokens : List Token) (ds : List Declaration) (left : List Token) → declarations (is_class C) depth tokens ≡ Some (ds, left) → Spells (tree.items ds) tokens left → AllByRecursion (FormedDeclaration C) ds → AtEnd left → TreeRead tokens
  ended_tree tokens ds left e s f (at_end at) =
      record {
        tree = record { declarations = ds };
        read = ap (tree_of tokens) e;
        derives = record { formed = f; reads = spells_reads (tree.items ds ++ line ∷ token kind.End ∷ []) tokens (spells_append (tree.items ds) (line ∷ token kind.End ∷ []) tokens left [] s (refl, refl)) };
      }

  tree_read : (tokens : List Token) → length tokens ≤ suc depth → Runs C start tokens → TreeRead tokens
  unfolding declarations
  tree_read tokens b h =
      let t = items_on (length tokens) [] tokens (omega arith) b (next h) in
      ended_tree tokens t.more t.left t.read t.spelled t.are (end_first t.runs)

-- what is built of tokens that the rules read
pub record Built (C : List (List ℕ)) (tokens : List Token) : Type 0 where
  pub tree : Tree
  pub read : built (is_class C) tokens ≡ Ok tree
  pub derives : Derives C tree tokens

pub built_read : (C : List (List ℕ)) (tokens : List Token) → Runs C start tokens → Built C tokens
unfolding built
built_read C tokens h =
    let depth = length tokens in
    let t = tree_read C depth (reads_members C depth) tokens (omega arith) h in
    record { tree = t.tree; read = t.read; derives = t.derives }
