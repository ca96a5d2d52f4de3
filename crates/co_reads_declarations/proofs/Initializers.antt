-- The initializers of a constructor where the rules read them.
use Rattle.std.proofs.Common.{◌≡◌, ℕ, zero, suc, ◌≤◌, false, List, [], ◌∷◌, ◌++◌, length, refl, ◌⊎◌, inl, inr, arith}
use Rattle.std.specs.List.{AllByRecursion}
use Rattle.co_lex.specs.declared.token.Token.{Token}
use Rattle.co_lex.specs.declared.token.Mark.TheVariants as mark
use Rattle.co_rules.specs.declared.symbol.Nonterminal.TheVariants as n
use Rattle.co_rules.specs.declared.symbol.Symbol.{Symbol}
use Rattle.co_rules.specs.declared.symbol.Symbol.TheVariants.{One, Many}
use Rattle.co_rules.specs.Names.{is_class, has_some}
use Rattle.co_tree.specs.declared.declarations.MemberInitializer.{MemberInitializer}
use Rattle.co_tree.specs.Piece.{m, name}
use Rattle.co_tree.specs.Sentence.{in_brackets, arguments as argument_pieces}
use Rattle.co_tree.specs.Declarations as tree
use Rattle.co_tree.specs.FormedTree.{FormedMemberInitializer}
use Rattle.co_reader.specs.Reading.{place, sees}
use Rattle.co_expressions.specs.Expressions.{expression}
use Rattle.co_parse.specs.Declarations.{member_initializer, member_initializers_from, more_member_initializers, member_initializers}
use Rattle.co_reads.specs.Runs.{Runs}
use Rattle.co_reads.specs.Spells.{Spells}
use Rattle.co_reads.specs.Takes.{Takes}
use Rattle.co_reads.proofs.Cases.{Among, NoneNext, which, again, usable, none_left, some_among, stands_here}
use Rattle.co_reads.proofs.Firsts.{Marked, marked, mark_first}
use Rattle.co_reads.proofs.Constructions.{some_brackets}
use Rattle.co_reads.proofs.Expressions.{nested}
use Rattle.co_reads.proofs.Fronts.{after-left}
use Rattle.co_reads.proofs.Spells.{spells_append}
use Rattle.co_reads.proofs.Steps.{taken_name, sees_here, after_here, unseen_mark, within}
use Rattle.co_reads_declarations.proofs.RulesOfDeclarations.{of_initializer, those_initializer, of_next_initializer, those_next_initializer}
use Rattle.co_reads_declarations.proofs.Turns.{Turns, no_turn, one_turn}

module _ (C : List (List ℕ)) (depth : ℕ) where
  abbrev InitializerTaken : List Symbol → List Token → Type 0
  InitializerTaken R ts = Takes (member_initializer (expression (is_class C) depth)) (λ i left. Spells (tree.member_initializer i) ts left × FormedMemberInitializer C i) C R ts

  initializer_among : (R : List Symbol) (ts : List Token) → length ts ≤ suc depth → Among C R of_initializer ts → InitializerTaken R ts
  unfolding member_initializer
  initializer_among R ts b (inl h) =
      let x = taken_name h in
      let q = within (name x.part ∷ []) ts x.left x.is.0 in
      let o = some_brackets (nested C depth) (omega (arith, b, q)) x.runs in
      let a = o.bracketed in
      record {
        part = record { name = x.part; brackets = o.how; arguments = a.args; span = place ts };
        left = a.left;
        read = rw (x.read, a.opened, a.read);
        is = ((stands_here h tt, spells_append (name x.part ∷ []) (in_brackets o.how (argument_pieces a.args)) ts x.left a.left x.is.0 a.spelled), (x.is.1, a.formed));
        runs = a.runs;
      }
  initializer_among R ts b (inr h) = absurd h

  -- ---- those behind the first

  abbrev InitializersTurn : ℕ → List Symbol → List MemberInitializer → List Token → Type 0
  InitializersTurn k R found ts = Turns (member_initializers_from (expression (is_class C) depth) k) tree.member_initializers_after (FormedMemberInitializer C) C R found ts

  one_more : (k : ℕ) (R : List Symbol) (found : List MemberInitializer) {ts : List Token} → length ts ≤ suc k → length ts ≤ suc depth
      → ((all : List MemberInitializer) (us : List Token) → length us ≤ k → length us ≤ suc depth → Runs C (Many n.NextInitializer ∷ R) us → InitializersTurn k R all us) → Marked C mark.Comma (One n.Initializer ∷ Many n.NextInitializer ∷ R) ts
      → InitializersTurn (suc k) R found ts
  unfolding member_initializers_from
  one_more k R found b d more (marked at ts r) =
      let i = initializer_among (Many n.NextInitializer ∷ R) ts (omega (arith, d)) (which those_initializer r) in
      let q = within (tree.member_initializer i.part) ts i.left i.is.0 in
      one_turn i.part i.left (rw (sees_here mark.Comma at ts, after_here mark.Comma at ts, i.read) refl) i.is.1
      (λ all left s. (refl, spells_append (tree.member_initializer i.part) (tree.member_initializers_after all) ts i.left left i.is.0 s)) (more (found ++ i.part ∷ []) i.left (omega (arith, b, q)) (omega (arith, d, q)) i.runs)

  no_comma : (ts : List Token) → NoneNext C of_next_initializer ts → sees mark.Comma ts ≡ false
  no_comma [] h = absurd h
  no_comma (t ∷ ts) h = unseen_mark C mark.Comma t ts (h.0 (usable (has_some C)))

  no_more : (k : ℕ) (R : List Symbol) (found : List MemberInitializer) (ts : List Token) → sees mark.Comma ts ≡ false → Runs C R ts → InitializersTurn (suc k) R found ts
  unfolding member_initializers_from
  no_more k R found ts h r = no_turn ts (rw (h, after-left mark.Comma ts h) refl) refl r

  initializers_on : (k : ℕ) (R : List Symbol) (found : List MemberInitializer) (ts : List Token) → length ts ≤ k → length ts ≤ suc depth → Among C (Many n.NextInitializer ∷ R) of_next_initializer ts ⊎ (NoneNext C of_next_initializer ts × Runs C R ts)
      → InitializersTurn k R found ts
  initializers_on zero R found ts b d (inl h) = absurd (none_left ts (some_among C (Many n.NextInitializer ∷ R) ts of_next_initializer h) b)
  initializers_on zero R found [] b d (inr h) = absurd h.0
  initializers_on zero R found (t ∷ ts) b d (inr h) = absurd (omega (arith, b))
  initializers_on (suc k) R found ts b d (inl (inl h)) = one_more k R found b d (λ all us q o r. initializers_on k R all us q o (again those_next_initializer r)) (mark_first h)
  initializers_on (suc k) R found ts b d (inl (inr h)) = absurd h
  initializers_on (suc k) R found ts b d (inr h) = no_more k R found ts (no_comma ts h.0) h.1

  -- ---- all of them

  abbrev pub InitializersTaken : List Symbol → List Token → Type 0
  InitializersTaken R ts =
      Takes (member_initializers (expression (is_class C) depth)) (λ is left. ((us : List Token) → Spells (m mark.Colon ∷ []) us ts → Spells (tree.member_initializers is) us left) × AllByRecursion (FormedMemberInitializer C) is × (length left ≤ length ts)) C R ts

  pub initializers_taken : (R : List Symbol) (ts : List Token) → length ts ≤ suc depth → Runs C (One n.Initializer ∷ Many n.NextInitializer ∷ R) ts → InitializersTaken R ts
  unfolding member_initializers more_member_initializers
  initializers_taken R ts b h =
      let i = initializer_among (Many n.NextInitializer ∷ R) ts b (which those_initializer h) in
      let q = within (tree.member_initializer i.part) ts i.left i.is.0 in
      let t = initializers_on (length i.left) R (i.part ∷ []) i.left (omega arith) (omega (arith, b, q)) (again those_next_initializer i.runs) in
      record {
        part = i.part ∷ t.more;
        left = t.left;
        read = rw (i.read, t.read);
        is = (
          (λ us s. spells_append (m mark.Colon ∷ []) (tree.member_initializer i.part ++ tree.member_initializers_after t.more) us ts t.left s (spells_append (tree.member_initializer i.part) (tree.member_initializers_after t.more) ts i.left t.left i.is.0 t.spelled)),
          (i.is.1, t.are),
          (let r = within (tree.member_initializers_after t.more) i.left t.left t.spelled in omega (arith, q, r)),
        );
        runs = t.runs;
      }
