-- Members of a class, but for classes, where the rules read them.
use Rattle.std.proofs.Common.{◌≡◌, ℕ, suc, ◌≤◌, true, false, List, ◌∷◌, length, Some, None, refl, ap, ◌∙◌, inl, inr, arith}
use Rattle.co_base.specs.declared.span.Span.{Span}
use Rattle.co_lex.specs.declared.token.Token.{Token}
use Rattle.co_lex.specs.declared.token.Mark.TheVariants as mark
use Rattle.co_lex.specs.declared.token.Word.TheVariants as word
use Rattle.co_rules.specs.declared.symbol.Nonterminal.TheVariants as n
use Rattle.co_rules.specs.declared.symbol.Pattern.TheVariants as pattern
use Rattle.co_rules.specs.declared.symbol.Symbol.{Symbol}
use Rattle.co_rules.specs.declared.symbol.Symbol.TheVariants.{Token as Terminal, One, Maybe, Many}
use Rattle.co_rules.specs.Names.{is_class}
use Rattle.co_tree.specs.declared.declarations.AccessSpecifier.{AccessSpecifier}
use Rattle.co_tree.specs.declared.declarations.AccessSpecifier.TheVariants as access
use Rattle.co_tree.specs.declared.declarations.MemberDeclaration.{MemberDeclaration}
use Rattle.co_tree.specs.declared.declarations.MemberDeclaration.TheVariants as member_of
use Rattle.co_tree.specs.declared.declarations.FunctionSpecifier.TheVariants as specifier_of
use Rattle.co_tree.specs.Declarations as tree
use Rattle.co_tree.specs.Derives.{StandsAt}
use Rattle.co_tree.specs.FormedTree.{FormedMember}
use Rattle.co_reader.specs.declared.lead.Lead.{Lead}
use Rattle.co_reader.specs.declared.lead.Lead.TheVariants as l
use Rattle.co_reader.specs.Reading.{◌<$>◌, and_then, pure, lead, lead_after, place}
use Rattle.co_parse.specs.Declarations.{class_key, access_specifier, is_opening, constructor, member_item, plain_member, simple_member, simple_member_by}
use Rattle.co_reads.specs.Runs.{Runs, token as read_token}
use Rattle.co_reads.specs.Spells.{Spells}
use Rattle.co_reads.proofs.Cases.{which}
use Rattle.co_reads.proofs.Firsts.{Marked, marked, Worded, worded}
use Rattle.co_reads.proofs.Steps.{expected}
use Rattle.co_reads_declarations.proofs.AfterNames.{Constructs, NameLed, constructor_led, type_led}
use Rattle.co_reads_declarations.proofs.Aliases.{alias_taken}
use Rattle.co_reads_declarations.proofs.Constructors.{constructor_taken, destructor_taken}
use Rattle.co_reads_declarations.proofs.Methods.{MemberItemTaken, specified_method, auto_method, typed_member}
use Rattle.co_reads_declarations.proofs.Results.{no_key}
use Rattle.co_reads_declarations.proofs.RulesOfDeclarations.{those_constructor_rest}
use Rattle.co_reads_declarations.proofs.Typed.{TypeLead, constant, void_type, bool_type, int_type, long_type, some_name, type_lead}
use Rattle.co_reads_declarations.proofs.Words.{AccessNext, access_next, SpecifierNext, specifier_next}

access_lead : (s : AccessSpecifier) → access_specifier (l.Word (tree.access_word s)) ≡ Some s
access_lead access.Public = refl
access_lead access.Private = refl
access_lead access.Protected = refl

access_key : (s : AccessSpecifier) → class_key (l.Word (tree.access_word s)) ≡ None
access_key access.Public = refl
access_key access.Private = refl
access_key access.Protected = refl

name_spelled : {C : List (List ℕ)} {R : List Symbol} {ts : List Token} → Runs C (Terminal pattern.Name ∷ One n.ConstructorRest ∷ R) ts → Runs C (Terminal pattern.Name ∷ Constructs R) ts
name_spelled {C} {R} (read_token p _ t ts a few r) = elim (which those_constructor_rest r) [ inl h ↦ read_token p (Constructs R) t ts a few h | inr h ↦ absurd h ]

module _ (C : List (List ℕ)) (depth : ℕ) where
  -- no class, and read as a member that is none
  pub record SimpleTaken (R : List Symbol) (ts : List Token) : Type 0 where
    pub no_class : class_key (lead ts) ≡ None
    pub part : MemberDeclaration
    pub left : List Token
    pub read : simple_member (is_class C) depth (place ts) ts ≡ Some (part, left)
    pub spelled : Spells (tree.member part) ts left
    pub formed : FormedMember C part
    pub runs : Runs C R left

  -- as a data member or a method is
  as_item : {R : List Symbol} {ts : List Token} → class_key (lead ts) ≡ None → simple_member (is_class C) depth (place ts) ts ≡ member_item (is_class C) depth ts → MemberItemTaken C depth R ts → SimpleTaken R ts
  as_item k e i = record { no_class = k; part = i.part; left = i.left; read = e ∙ i.read; spelled = i.is.0; formed = i.is.1; runs = i.runs }

  pub by_access : (R : List Symbol) {ts : List Token} → AccessNext C (Terminal (pattern.Punctuator mark.Colon) ∷ R) ts → SimpleTaken R ts
  unfolding simple_member
  by_access R (access_next s at ts r) =
      let c = expected mark.Colon r in
      record { no_class = access_key s; part = member_of.Access s at; left = c.left; read = rw (access_lead s, c.read); spelled = (refl, (refl, c.is)); formed = tt; runs = c.runs }

  pub by_using : (R : List Symbol) {ts : List Token} → Worded C word.Using (Terminal pattern.Name ∷ Terminal (pattern.Punctuator mark.Assign) ∷ One n.TypeId ∷ Terminal (pattern.Punctuator mark.Semicolon) ∷ R) ts → SimpleTaken R ts
  unfolding simple_member
  by_using R (worded at ts r) =
      let a = alias_taken C R at ts r in
      record { no_class = refl; part = member_of.Alias a.part; left = a.left; read = rw a.read; spelled = a.is.0; formed = a.is.1; runs = a.runs }

  pub by_explicit : (R : List Symbol) {ts : List Token} → length ts ≤ suc depth → Worded C word.Explicit (Terminal pattern.Name ∷ One n.ConstructorRest ∷ R) ts → SimpleTaken R ts
  unfolding simple_member
  by_explicit R b (worded at ts r) =
      let c = constructor_taken C depth R ts (omega (arith, b)) (name_spelled r) in
      record {
        no_class = refl;
        part = member_of.Constructor (record { is_explicit = true; name = c.called; parameters = c.given; is_noexcept = c.is_noexcept; body = c.body; span = at });
        left = c.left;
        read = rw (c.read at true);
        spelled = (refl, (refl, c.spelled));
        formed = (c.is_name, c.parameters, c.formed);
        runs = c.runs;
      }

  pub by_tilde : (R : List Symbol) {ts : List Token} → length ts ≤ suc depth → Marked C mark.Tilde (Terminal pattern.Name ∷ One n.NoParameters ∷ Maybe n.Noexcept ∷ One n.DestructorBody ∷ R) ts → SimpleTaken R ts
  unfolding simple_member
  by_tilde R b (marked at ts r) =
      let d = destructor_taken C depth R ts (omega (arith, b)) r in
      record {
        no_class = refl;
        part = member_of.Destructor (record { name = d.called; is_noexcept = d.is_noexcept; body = d.body; span = at });
        left = d.left;
        read = rw (d.read at);
        spelled = (refl, (refl, d.spelled));
        formed = (d.is_name, d.formed);
        runs = d.runs;
      }

  specified_read : {R : List Symbol} {ts : List Token} → SpecifierNext C R ts → (class_key (lead ts) ≡ None) × (simple_member (is_class C) depth (place ts) ts ≡ member_item (is_class C) depth ts)
  unfolding simple_member
  specified_read (specifier_next specifier_of.Static at ts r) = (refl, refl)
  specified_read (specifier_next specifier_of.Inline at ts r) = (refl, refl)

  pub by_specifier : (R : List Symbol) {ts : List Token} → length ts ≤ suc depth → SpecifierNext C (Many n.Specifier ∷ One n.ResultType ∷ One n.MethodName ∷ R) ts → SimpleTaken R ts
  by_specifier R b h = let e = specified_read h in as_item e.0 e.1 (specified_method C depth R b h)

  auto_read : {R : List Symbol} {ts : List Token} → Worded C word.Auto R ts → (class_key (lead ts) ≡ None) × (simple_member (is_class C) depth (place ts) ts ≡ member_item (is_class C) depth ts)
  unfolding simple_member
  auto_read (worded at ts r) = (refl, refl)

  pub by_auto : (R : List Symbol) {ts : List Token} → length ts ≤ suc depth → Worded C word.Auto (One n.MethodName ∷ R) ts → SimpleTaken R ts
  by_auto R b h = let e = auto_read h in as_item e.0 e.1 (auto_method C depth R b h)

  -- ---- members that a type begins

  typed_by : (at : Span) (k : Lead) (ts : List Token) → TypeLead k → (k ≡ l.Name → is_opening (lead_after ts) ≡ false) → simple_member_by (is_class C) depth at k (access_specifier k) ts ≡ member_item (is_class C) depth ts
  unfolding plain_member
  typed_by at k ts constant f = refl
  typed_by at k ts void_type f = refl
  typed_by at k ts bool_type f = refl
  typed_by at k ts int_type f = refl
  typed_by at k ts long_type f = refl
  typed_by at k ts some_name f = rw (f refl)

  typed_read : (ts : List Token) → TypeLead (lead ts) → (lead ts ≡ l.Name → is_opening (lead_after ts) ≡ false) → simple_member (is_class C) depth (place ts) ts ≡ member_item (is_class C) depth ts
  unfolding simple_member
  typed_read ts k f = typed_by (place ts) (lead ts) ts k f

  pub by_type : (R : List Symbol) (ts : List Token) → length ts ≤ suc depth → (lead ts ≡ l.Name → is_opening (lead_after ts) ≡ false) → Runs C (One n.TypeId ∷ One n.FieldName ∷ R) ts → SimpleTaken R ts
  by_type R ts b f h = let k = type_lead h in as_item (no_key (lead ts) k) (typed_read ts k f) (typed_member C depth R ts b h)

  -- ---- members that a name begins

  led_read : (at : Span) (ts : List Token) → lead ts ≡ l.Name → is_opening (lead_after ts) ≡ true → simple_member (is_class C) depth at ts ≡ (member_of.Constructor <$> constructor (is_class C) depth at false) ts
  unfolding simple_member plain_member
  led_read at ts e o = rw (e, o)

  pub by_name : (R : List Symbol) (ts : List Token) → length ts ≤ suc depth → lead ts ≡ l.Name → StandsAt ts (place ts) → NameLed C R ts → SimpleTaken R ts
  by_name R ts b e s (type_led f h) = by_type R ts b (λ k. f) h
  by_name R ts b e s (constructor_led f h) =
      let c = constructor_taken C depth R ts b h in
      record {
        no_class = ap class_key e;
        part = member_of.Constructor (record { is_explicit = false; name = c.called; parameters = c.given; is_noexcept = c.is_noexcept; body = c.body; span = place ts });
        left = c.left;
        read = led_read (place ts) ts e f ∙ ap (λ x. and_then x (λ y. pure (member_of.Constructor y))) (c.read (place ts) false);
        spelled = (s, c.spelled);
        formed = (c.is_name, c.parameters, c.formed);
        runs = c.runs;
      }
