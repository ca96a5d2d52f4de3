-- Classes where the rules read them.
use Rattle.std.proofs.Common.{◌≡◌, ℕ, zero, suc, ◌≤◌, true, false, List, [], ◌∷◌, ◌++◌, append_assoc, length, Option, Some, None, refl, sym, ap, subst, ◌⊎◌, inl, inr, arith}
use Rattle.std.specs.List.{AllByRecursion}
use Rattle.co_base.specs.declared.span.Span.{Span}
use Rattle.co_lex.specs.declared.token.Token.{Token}
use Rattle.co_lex.specs.declared.token.TokenKind.TheVariants as kind
use Rattle.co_lex.specs.declared.token.Mark.{Mark}
use Rattle.co_lex.specs.declared.token.Mark.TheVariants as mark
use Rattle.co_lex.specs.declared.token.Word.TheVariants as word
use Rattle.co_rules.specs.declared.symbol.Known.TheVariants as known
use Rattle.co_rules.specs.declared.symbol.Nonterminal.TheVariants as n
use Rattle.co_rules.specs.declared.symbol.Pattern.TheVariants as pattern
use Rattle.co_rules.specs.declared.symbol.Symbol.{Symbol}
use Rattle.co_rules.specs.declared.symbol.Symbol.TheVariants.{Token as Terminal, One, Many}
use Rattle.co_rules.specs.Names.{is_class}
use Rattle.co_tree.specs.declared.declarations.ClassKey.{ClassKey}
use Rattle.co_tree.specs.declared.declarations.ClassKey.TheVariants as key
use Rattle.co_tree.specs.declared.declarations.MemberDeclaration.{MemberDeclaration}
use Rattle.co_tree.specs.declared.declarations.MemberDeclaration.TheVariants as member_of
use Rattle.co_tree.specs.Declarations as tree
use Rattle.co_tree.specs.Piece.{Piece, w, m, name, leave, if_said, in_parentheses, in_braces}
use Rattle.co_tree.specs.Types as tree_type
use Rattle.co_tree.specs.Statements as tree_part
use Rattle.co_tree.specs.declared.declarations.Function.{Function}
use Rattle.co_tree.specs.declared.declarations.Constructor.{Constructor}
use Rattle.co_tree.specs.declared.statements.Variable.{Variable}
use Rattle.co_tree.specs.Formed.{IsName}
use Rattle.co_tree.specs.FormedTree.{FormedMember}
use Rattle.co_reader.specs.declared.lead.Lead.TheVariants as l
use Rattle.co_reader.specs.Leads.{builtin}
use Rattle.co_reader.specs.Reading.{Reader, lead, lead_of, lead_after, sees, after, name as name_reader}
use Rattle.co_parse.specs.Declarations.{class_key, is_opening, members_from, members, class_body, nested_class, member, member_level}
use Rattle.co_reads.specs.Runs.{Runs, one, more, last}
use Rattle.co_reads.specs.Spells.{Spells}
use Rattle.co_reads.specs.Takes.{Takes}
use Rattle.co_reads.proofs.Cases.{Among, which, none_left, some_left, stands_here}
use Rattle.co_reads.proofs.Firsts.{Named, named, class_first, other_first, Marked, marked, mark_first, Worded, worded, word_first, SpelledNext, spelled_next, spelled_first}
use Rattle.co_reads.proofs.Fronts.{after-left}
use Rattle.co_reads.proofs.Operators.{BuiltinNext, builtin_next, builtin_first}
use Rattle.co_reads.proofs.Spells.{spells_append}
use Rattle.co_reads.proofs.Steps.{NameTaken, expected, expect_here, taken_name, sees_here, after_here, unseen, within}
use Rattle.co_reads_declarations.proofs.AfterNames.{by_class, by_other}
use Rattle.co_reads_declarations.proofs.Enclosed.{enclosed}
use Rattle.co_reads_declarations.proofs.Members.{SimpleTaken, by_access, by_using, by_explicit, by_tilde, by_specifier, by_auto, by_type, by_name}
use Rattle.co_reads_declarations.proofs.Opening.{class_pieces, class_formed}
use Rattle.co_reads_declarations.proofs.RulesOfDeclarations.{of_member, those_member, of_class_rest, those_class_rest}
use Rattle.co_reads_statements.proofs.Pieces.{takes, has_token}
use Rattle.co_reads_declarations.proofs.Tokens.{behind_token}
use Rattle.co_reads_declarations.proofs.Turns.{Turns, no_turn, one_turn}
use Rattle.co_reads_declarations.proofs.Typed.{typed}
use Rattle.co_reads_declarations.proofs.Words.{KeyNext, key_next, key_first, access_first, specifier_first}

-- ---- each member takes a token

pub variable_token : (v : Variable) → has_token (tree_part.variable v) ≡ true
variable_token v = behind_token (tree_type.type_id v.of) (name v.name ∷ (tree_part.initializer v.initializer ++ m mark.Semicolon ∷ [])) refl

pub function_token : (f : Function) → has_token (tree.function f) ≡ true
function_token f =
    let tail = in_parentheses (tree.parameters f.parameters) ++ (if_said f.is_const (w word.Const) ++ (if_said f.is_noexcept (w word.Noexcept) ++ tree.block_or_semicolon f.body)) in
    behind_token (tree.specifiers f.specifiers) (tree_type.type_id f.result ++ (tree.function_named f.name ++ tail)) (behind_token (tree_type.type_id f.result) (tree.function_named f.name ++ tail) (behind_token (tree.function_named f.name) tail refl))

constructor_token : (c : Constructor) → has_token (tree.constructor c) ≡ true
constructor_token c = behind_token (if_said c.is_explicit (w word.Explicit)) (name c.name ∷ (in_parentheses (tree.parameters c.parameters) ++ (if_said c.is_noexcept (w word.Noexcept) ++ tree.constructor_end c.body))) refl

member_token : (d : MemberDeclaration) → has_token (tree.member d) ≡ true
member_token (member_of.Access s at) = refl
member_token (member_of.Class' k text s row at) = refl
member_token (member_of.Forward f) = refl
member_token (member_of.Alias a) = refl
member_token (member_of.Field v) = variable_token v
member_token (member_of.Method f) = function_token f
member_token (member_of.Constructor c) = constructor_token c
member_token (member_of.Destructor d) = refl

-- ---- the members of a class

abbrev pub MemberTaken : List (List ℕ) → Reader MemberDeclaration → List Symbol → List Token → Type 0
MemberTaken C reader R ts = Takes reader (λ d left. Spells (tree.member d) ts left × FormedMember C d) C R ts

-- the reader reads members of no more tokens than these
abbrev pub ReadsMembers : List (List ℕ) → ℕ → Reader MemberDeclaration → Type 0
ReadsMembers C depth reader = (R : List Symbol) (ts : List Token) → length ts ≤ depth → Runs C (One n.Member ∷ R) ts → MemberTaken C reader R ts

module _ (C : List (List ℕ)) (depth : ℕ) (reader : Reader MemberDeclaration) (reads : ReadsMembers C depth reader) where
  -- the members and the mark behind them
  abbrev closed_members : List MemberDeclaration → List Piece
  closed_members ds = tree.members ds ++ m mark.CloseBrace ∷ []

  abbrev MembersTurn : ℕ → List Symbol → List MemberDeclaration → List Token → Type 0
  MembersTurn k R found ts = Turns (members_from reader k) closed_members (FormedMember C) C R found ts

  abbrev Closing : List Symbol → List Symbol
  Closing R = Terminal (pattern.Punctuator mark.CloseBrace) ∷ R

  one_more : (k : ℕ) (R : List Symbol) (found : List MemberDeclaration) (ts : List Token) → length ts ≤ suc k → length ts ≤ depth
      → ((all : List MemberDeclaration) (us : List Token) → length us ≤ k → length us ≤ depth → Runs C (Many n.Member ∷ Closing R) us → MembersTurn k R all us) → sees mark.CloseBrace ts ≡ false → MemberTaken C reader (Many n.Member ∷ Closing R) ts
      → MembersTurn (suc k) R found ts
  unfolding members_from
  one_more k R found ts b d then e i =
      let q = takes (tree.member i.part) (member_token i.part) ts i.left i.is.0 in
      one_turn i.part i.left (rw (e, after-left mark.CloseBrace ts e, i.read) refl) i.is.1
      (λ all left s. subst (λ ps. Spells ps ts left) (sym (append_assoc (tree.member i.part) (tree.members all) (m mark.CloseBrace ∷ []))) (spells_append (tree.member i.part) (closed_members all) ts i.left left i.is.0 s))
      (then (found ++ i.part ∷ []) i.left (omega (arith, b, q)) (omega (arith, d, q)) i.runs)

  no_more : (k : ℕ) (R : List Symbol) (found : List MemberDeclaration) {ts : List Token} → Marked C mark.CloseBrace R ts → MembersTurn (suc k) R found ts
  unfolding members_from
  no_more k R found (marked at ts r) = no_turn ts (rw (sees_here mark.CloseBrace at ts, after_here mark.CloseBrace at ts) refl) (refl, refl) r

  some_tokens : (ts : List Token) (x : Mark) (R : List Symbol) → Marked C x R ts → length ts ≤ 0 → ⊥
  some_tokens ts x R (marked at us r) b = omega (arith, b)

  next : {R : List Symbol} {ts : List Token} → Runs C (Many n.Member ∷ Closing R) ts → Runs C (One n.Member ∷ Many n.Member ∷ Closing R) ts ⊎ Marked C mark.CloseBrace R ts
  next (more N R body t ts b few h) = inl (one N (Many N ∷ R) body t ts b few h)
  next (last N R t ts b h) = inr (mark_first h)

  members_on : (k : ℕ) (R : List Symbol) (found : List MemberDeclaration) (ts : List Token) → length ts ≤ k → length ts ≤ depth
      → Runs C (One n.Member ∷ Many n.Member ∷ Closing R) ts ⊎ Marked C mark.CloseBrace R ts → MembersTurn k R found ts
  members_on zero R found ts b d (inl h) = absurd (none_left ts (some_left h tt) b)
  members_on zero R found ts b d (inr h) = absurd (some_tokens ts mark.CloseBrace R h b)
  members_on (suc k) R found ts b d (inl h) =
      one_more k R found ts b d (λ all us q o r. members_on k R all us q o (next r)) (unseen C (Many n.Member ∷ Closing R) ts mark.CloseBrace of_member (refl, (refl, (refl, (refl, (refl, (refl, (refl, (refl, (refl, (refl, (refl, (refl, tt)))))))))))) (which those_member h)) (reads (Many n.Member ∷ Closing R) ts d h)
  members_on (suc k) R found ts b d (inr h) = no_more k R found h

  -- the braces and the members in them
  abbrev BodyTaken : List Symbol → List Token → Type 0
  BodyTaken R ts = Takes (class_body reader) (λ ds left. Spells (in_braces (tree.members ds) ++ m mark.Semicolon ∷ []) ts left × AllByRecursion (FormedMember C) ds) C R ts

  body_taken : (R : List Symbol) {ts : List Token} → length ts ≤ suc depth → Marked C mark.OpenBrace (Many n.Member ∷ Closing (Terminal (pattern.Punctuator mark.Semicolon) ∷ R)) ts → BodyTaken R ts
  unfolding class_body members
  body_taken R b (marked at ts r) =
      let t = members_on (length ts) (Terminal (pattern.Punctuator mark.Semicolon) ∷ R) [] ts (omega arith) (omega (arith, b)) (next r) in
      let c = expected mark.Semicolon t.runs in
      record {
        part = t.more;
        left = c.left;
        read = rw (expect_here mark.OpenBrace at ts, t.read, c.read);
        is = (
          (refl, spells_append (tree.members t.more ++ m mark.CloseBrace ∷ leave ∷ []) (m mark.Semicolon ∷ []) ts t.left c.left (enclosed mark.CloseBrace (tree.members t.more) ts t.left t.spelled) c.is),
          t.are,
        );
        runs = c.runs;
      }

  -- what is read after the key of a class
  pub record ForwardEnd (R : List Symbol) (ts : List Token) : Type 0 where
    pub called : List ℕ
    pub mid : List Token
    pub left : List Token
    pub named : name_reader ts ≡ Some (called, mid)
    pub ends : sees mark.Semicolon mid ≡ true
    pub after_end : after mark.Semicolon mid ≡ left
    pub spelled : Spells (name called ∷ m mark.Semicolon ∷ []) ts left
    pub is_name : IsName called
    pub runs : Runs C R left

  pub record ClassEnd (R : List Symbol) (ts : List Token) : Type 0 where
    pub called : List ℕ
    pub mid : List Token
    pub members : List MemberDeclaration
    pub left : List Token
    pub named : name_reader ts ≡ Some (called, mid)
    pub goes_on : sees mark.Semicolon mid ≡ false
    pub after_none : after mark.Semicolon mid ≡ mid
    pub body : class_body reader mid ≡ Some (members, left)
    pub spelled : Spells (name called ∷ (in_braces (tree.members members) ++ m mark.Semicolon ∷ [])) ts left
    pub is_name : IsName called
    pub formed : AllByRecursion (FormedMember C) members
    pub runs : Runs C R left

  forward_end : (S R : List Symbol) (ts : List Token) (x : NameTaken C S ts) → Marked C mark.Semicolon R x.left → ForwardEnd R ts
  forward_end S R ts x h = forward x.left x.read x.is.0 h
    where
      forward : (mid : List Token) → name_reader ts ≡ Some (x.part, mid) → Spells (name x.part ∷ []) ts mid → Marked C mark.Semicolon R mid → ForwardEnd R ts
      forward mid e s (marked at us r) =
          record { called = x.part; mid = mid; left = us; named = e; ends = sees_here mark.Semicolon at us; after_end = after_here mark.Semicolon at us; spelled = spells_append (name x.part ∷ []) (m mark.Semicolon ∷ []) ts mid us s (refl, refl); is_name = x.is.1; runs = r }

  no_semicolon : {R : List Symbol} (us : List Token) → Marked C mark.OpenBrace R us → sees mark.Semicolon us ≡ false
  unfolding sees
  no_semicolon us (marked at ts r) = refl

  class_end : (S R : List Symbol) (ts : List Token) → length ts ≤ suc depth → (x : NameTaken C S ts) → Marked C mark.OpenBrace (Many n.Member ∷ Closing (Terminal (pattern.Punctuator mark.Semicolon) ∷ R)) x.left → ClassEnd R ts
  class_end S R ts b x h =
      let q = within (name x.part ∷ []) ts x.left x.is.0 in
      let e = no_semicolon x.left h in
      let o = body_taken R (omega (arith, b, q)) h in
      record {
        called = x.part;
        mid = x.left;
        members = o.part;
        left = o.left;
        named = x.read;
        goes_on = e;
        after_none = after-left mark.Semicolon x.left e;
        body = o.read;
        spelled = spells_append (name x.part ∷ []) (in_braces (tree.members o.part) ++ m mark.Semicolon ∷ []) ts x.left o.left x.is.0 o.is.0;
        is_name = x.is.1;
        formed = o.is.1;
        runs = o.runs;
      }

  rest_among : (R : List Symbol) (ts : List Token) → length ts ≤ suc depth → (x : NameTaken C (One n.ClassRest ∷ R) ts) → Among C R of_class_rest x.left → ForwardEnd R ts ⊎ ClassEnd R ts
  rest_among R ts b x (inl h) = inl (forward_end (One n.ClassRest ∷ R) R ts x (mark_first h))
  rest_among R ts b x (inr (inl h)) = inr (class_end (One n.ClassRest ∷ R) R ts b x (mark_first h))
  rest_among R ts b x (inr (inr h)) = absurd h

  -- a class from its name on
  pub class_taken : (R : List Symbol) (ts : List Token) → length ts ≤ suc depth → Runs C (Terminal pattern.Name ∷ One n.ClassRest ∷ R) ts → ForwardEnd R ts ⊎ ClassEnd R ts
  class_taken R ts b h = let x = taken_name h in rest_among R ts b x (which those_class_rest x.runs)

-- ---- members of any kind

pub key_lead : (k : ClassKey) → class_key (l.Word (tree.key_word k)) ≡ Some k
key_lead key.Struct = refl
key_lead key.Class = refl

no_name_builtin : {C : List (List ℕ)} {R : List Symbol} {ts : List Token} → BuiltinNext C R ts → lead ts ≡ l.Name → ⊥
no_name_builtin (builtin_next of k at ts f s p r) e = absurd (none_is (builtin (lead_of k)) (ap builtin e) f)
  where
    none_is : {A : Type 0} {a : A} (x : Option A) → x ≡ None → x ≡ Some a → ⊥
    none_is x e f = absurd cc

module _ (C : List (List ℕ)) (depth : ℕ) (reads : ReadsMembers C depth (member (is_class C) depth)) where
  abbrev LevelTaken : List Symbol → List Token → Type 0
  LevelTaken R ts = MemberTaken C (member (is_class C) (suc depth)) R ts

  simple_level : (R : List Symbol) (ts : List Token) → SimpleTaken C depth R ts → LevelTaken R ts
  unfolding member member_level
  simple_level R ts s = record { part = s.part; left = s.left; read = rw (s.no_class, s.read); is = (s.spelled, s.formed); runs = s.runs }

  nested : (R : List Symbol) (k : ClassKey) (at : Span) (ts : List Token) → ForwardEnd C depth (member (is_class C) depth) reads R ts ⊎ ClassEnd C depth (member (is_class C) depth) reads R ts → LevelTaken R (record { kind = kind.Word (tree.key_word k); span = at } ∷ ts)
  unfolding member member_level nested_class
  nested R k at ts (inl f) =
      record { part = member_of.Forward (record { key = k; name = f.called; span = at }); left = f.left; read = rw (key_lead k, f.named, f.ends, f.after_end); is = ((refl, (refl, f.spelled)), f.is_name); runs = f.runs }
  nested R k at ts (inr c) =
      record {
        part = member_of.Class k c.called c.members at;
        left = c.left;
        read = rw (key_lead k, c.named, c.goes_on, c.after_none, c.body);
        is = (
          subst (λ ps. Spells ps (record { kind = kind.Word (tree.key_word k); span = at } ∷ ts) c.left) (sym (class_pieces k c.called c.members at)) (refl, (refl, c.spelled)),
          rw (class_formed C k c.called c.members at) (c.is_name, c.formed),
        );
        runs = c.runs;
      }

  by_key : (R : List Symbol) {ts : List Token} → length ts ≤ suc depth → KeyNext C (Terminal pattern.Name ∷ One n.ClassRest ∷ R) ts → LevelTaken R ts
  by_key R b (key_next k at ts r) = nested R k at ts (class_taken C depth (member (is_class C) depth) reads R ts (omega (arith, b)) r)

  name_lead : {Is : List ℕ → Type 0} {R : List Symbol} {ts : List Token} → Named C Is R ts → lead ts ≡ l.Name
  name_lead (named text at ts is r) = refl

  std_plain : {R : List Symbol} {ts : List Token} → SpelledNext C known.Std (Terminal (pattern.Punctuator mark.Scope) ∷ R) ts → is_opening (lead_after ts) ≡ false
  std_plain (spelled_next at ts r) = scope_lead (mark_first r)
    where
      scope_lead : {R : List Symbol} {us : List Token} → Marked C mark.Scope R us → is_opening (lead us) ≡ false
      scope_lead (marked at us r) = refl

  const_lead : {R : List Symbol} {ts : List Token} → Worded C word.Const R ts → lead ts ≡ l.Name → ⊥
  const_lead (worded at ts r) e = absurd cc

  member_among : (R : List Symbol) (ts : List Token) → length ts ≤ suc depth → Among C R of_member ts → LevelTaken R ts
  member_among R ts b (inl h) = simple_level R ts (by_access C depth R (access_first h))
  member_among R ts b (inr (inl h)) = by_key R b (key_first h)
  member_among R ts b (inr (inr (inl h))) = simple_level R ts (by_using C depth R (word_first h))
  member_among R ts b (inr (inr (inr (inl h)))) = simple_level R ts (by_explicit C depth R b (word_first h))
  member_among R ts b (inr (inr (inr (inr (inl h))))) = simple_level R ts (by_tilde C depth R b (mark_first h))
  member_among R ts b (inr (inr (inr (inr (inr (inl h)))))) = simple_level R ts (by_specifier C depth R b (specifier_first h))
  member_among R ts b (inr (inr (inr (inr (inr (inr (inl h))))))) = simple_level R ts (by_auto C depth R b (word_first h))
  member_among R ts b (inr (inr (inr (inr (inr (inr (inr (inl h)))))))) = simple_level R ts (by_type C depth R ts b (λ e. absurd (const_lead (word_first h) e)) (typed n.Member (One n.FieldName ∷ []) R (inl h)))
  member_among R ts b (inr (inr (inr (inr (inr (inr (inr (inr (inl h))))))))) = simple_level R ts (by_type C depth R ts b (λ e. absurd (no_name_builtin (builtin_first h) e)) (typed n.Member (One n.FieldName ∷ []) R (inr (inl h))))
  member_among R ts b (inr (inr (inr (inr (inr (inr (inr (inr (inr (inl h)))))))))) = simple_level R ts (by_type C depth R ts b (λ e. std_plain (spelled_first known.Std tt h)) (typed n.Member (One n.FieldName ∷ []) R (inr (inr (inl h)))))
  member_among R ts b (inr (inr (inr (inr (inr (inr (inr (inr (inr (inr (inl h))))))))))) = simple_level R ts (by_name C depth R ts b (name_lead (class_first h)) (stands_here h tt) (by_class h))
  member_among R ts b (inr (inr (inr (inr (inr (inr (inr (inr (inr (inr (inr (inl h)))))))))))) = simple_level R ts (by_name C depth R ts b (name_lead (other_first h)) (stands_here h tt) (by_other h))
  member_among R ts b (inr (inr (inr (inr (inr (inr (inr (inr (inr (inr (inr (inr h)))))))))))) = absurd h

-- the reader of members, nested no deeper than the number of tokens
pub reads_members : (C : List (List ℕ)) (depth : ℕ) → ReadsMembers C depth (member (is_class C) depth)
reads_members C zero R ts b h = absurd (none_left ts (some_left h tt) b)
reads_members C (suc depth) R ts b h = member_among C depth (reads_members C depth) R ts b (which those_member h)
