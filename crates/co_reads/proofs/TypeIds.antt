-- Whole types where the rules read them.
use Rattle.std.proofs.Common.{◌≡◌, ℕ, zero, suc, ◌+◌, ◌≤◌, ◌<◌, Bool, true, false, List, [], ◌∷◌, ◌++◌, length, Some, refl, ap, ◌∙◌, ◌⊎◌, inl, inr, arith}
use Rattle.co_base.specs.declared.span.Span.{Span}
use Rattle.co_lex.specs.declared.token.Token.{Token}
use Rattle.co_lex.specs.declared.token.TokenKind.TheVariants as kind
use Rattle.co_lex.specs.declared.token.Mark.TheVariants as mark
use Rattle.co_lex.specs.declared.token.Word.TheVariants as word
use Rattle.co_rules.specs.declared.symbol.Nonterminal.TheVariants as n
use Rattle.co_rules.specs.declared.symbol.Symbol.{Symbol}
use Rattle.co_rules.specs.declared.symbol.Symbol.TheVariants.{One, Maybe}
use Rattle.co_rules.specs.Names.{is_class, has_some}
use Rattle.co_tree.specs.Piece.{w, if_said}
use Rattle.co_tree.specs.Types as tree
use Rattle.co_tree.specs.Derives.{StandsAt}
use Rattle.co_tree.specs.Formed.{PlainType}
use Rattle.co_tree.specs.declared.types.SimpleType.{SimpleType}
use Rattle.co_tree.specs.declared.types.Reference.{Reference}
use Rattle.co_tree.specs.declared.types.Reference.TheVariants as reference_of
use Rattle.co_reader.specs.declared.lead.Lead.{Lead}
use Rattle.co_reader.specs.declared.lead.Lead.TheVariants as l
use Rattle.co_reader.specs.Reading.{lead_of, place, sees, after, sees_word, after_word}
use Rattle.co_reader.specs.Leads.{is_reference}
use Rattle.co_reader.specs.Types.{most_stars, type_rest, type_id, stars_from, stars, reference as reference_of_type, reference_by}
use Rattle.co_reads.specs.Runs.{Runs, HasFewStars, leading_stars}
use Rattle.co_reads.specs.Spells.{Spells}
use Rattle.co_reads.specs.Takes.{Takes}
use Rattle.co_reads.proofs.Bases.{base_among, base_taken}
use Rattle.co_reads.proofs.Cases.{Among, NoneNext, which, whether, usable, none_left, some_among, stands_some, few_stars}
use Rattle.co_reads.proofs.Firsts.{Marked, marked, mark_first, Worded, worded, word_first}
use Rattle.co_reads.proofs.Fronts.{after-left, after_word-left}
use Rattle.co_reads.proofs.Operators.{ReferenceNext, lvalue, rvalue, reference_first, no_reference}
use Rattle.co_reads.proofs.RulesOfTypes.{of_base, of_type_id, those_type_id, of_type_rest, those_type_rest, of_pointers, those_pointers}
use Rattle.co_reads.proofs.Spells.{spells_append, spells_rule}
use Rattle.co_reads.proofs.Steps.{unseen_word, unseen_mark, refused_word}

-- ---- `*`, `&` and `&&`

pub record Pointers (C : List (List ℕ)) (R : List Symbol) (ts : List Token) : Type 0 where
  pub pointers : ℕ
  pub behind : List Token
  pub reference : Reference
  pub left : List Token
  pub stars_read : (k count : ℕ) → leading_stars ts < k → stars_from k count ts ≡ Some (count + pointers, behind)
  pub reference_read : reference_of_type behind ≡ Some (reference, left)
  pub spelled : Spells (tree.stars pointers ++ tree.reference_mark reference) ts left
  pub runs : Runs C R left

no_star : (k : ℕ) (count : ℕ) (ts : List Token) → 0 < k → sees mark.Star ts ≡ false → stars_from k count ts ≡ Some (count + 0, ts)
unfolding stars_from
no_star zero count ts l e = absurd (omega (arith, l))
no_star (suc k) count ts l e = rw (e, after-left mark.Star ts e) (ap (λ x. Some (x, ts)) (omega arith))

reference_only : {C : List (List ℕ)} {R : List Symbol} {ts : List Token} → ReferenceNext C R ts → Pointers C R ts
unfolding reference_of_type sees
reference_only (lvalue at ts r) =
    record { pointers = 0; behind = record { kind = kind.Mark mark.And; span = at } ∷ ts; reference = reference_of.Lvalue; left = ts; stars_read = λ k count l. no_star k count _ (omega (arith, l)) refl; reference_read = refl; spelled = (refl, refl); runs = r }
reference_only (rvalue at ts r) =
    record { pointers = 0; behind = record { kind = kind.Mark mark.AndAnd; span = at } ∷ ts; reference = reference_of.Rvalue; left = ts; stars_read = λ k count l. no_star k count _ (omega (arith, l)) refl; reference_read = refl; spelled = (refl, refl); runs = r }

none_by : (k : Lead) (ts : List Token) → is_reference k ≡ false → reference_by k ts ≡ Some (reference_of.None, ts)
none_by (l.Mark mark.And) ts h = absurd cc
none_by (l.Mark mark.AndAnd) ts h = absurd cc
none_by k ts h = refl

no_pointers : {R : List Symbol} (C : List (List ℕ)) (ts : List Token) → NoneNext C of_pointers ts → Runs C R ts → Pointers C R ts
unfolding reference_of_type
no_pointers C [] h r = absurd h
no_pointers C (t ∷ ts) h r =
    record {
      pointers = 0;
      behind = t ∷ ts;
      reference = reference_of.None;
      left = t ∷ ts;
      stars_read = λ k count l. no_star k count (t ∷ ts) (omega (arith, l)) (unseen_mark C mark.Star t ts (h.0 (usable (has_some C))));
      reference_read = none_by (lead_of t.kind) (t ∷ ts) (no_reference C t.kind (h.1.0 (usable (has_some C))));
      spelled = refl;
      runs = r;
    }

star_more : {C : List (List ℕ)} {R : List Symbol} (at : Span) (ts : List Token) → Pointers C R ts → Pointers C R (record { kind = kind.Mark mark.Star; span = at } ∷ ts)
unfolding stars_from sees after
star_more at ts p =
    record {
      pointers = suc p.pointers;
      behind = p.behind;
      reference = p.reference;
      left = p.left;
      stars_read = elim [
        | zero ↦ λ count l. absurd (omega (arith, l))
        | suc k ↦ λ count l. p.stars_read k (count + 1) (omega (arith, l)) ∙ ap (λ x. Some (x, p.behind)) (omega arith)
      ];
      reference_read = p.reference_read;
      spelled = (refl, p.spelled);
      runs = p.runs;
    }

on_star : {C : List (List ℕ)} {R : List Symbol} {ts : List Token} (k : ℕ) → length ts ≤ suc k → ((us : List Token) → length us ≤ k → Runs C (Maybe n.Pointers ∷ R) us → Pointers C R us) → Marked C mark.Star (Maybe n.Pointers ∷ R) ts → Pointers C R ts
on_star k l more (marked at us r) = star_more at us (more us (omega (arith, l)) r)

pointers_by : (C : List (List ℕ)) (R : List Symbol) (k : ℕ) (ts : List Token) → length ts ≤ k → Among C R of_pointers ts ⊎ (NoneNext C of_pointers ts × Runs C R ts) → Pointers C R ts
pointers_by C R k ts l (inr h) = no_pointers C ts h.0 h.1
pointers_by C R zero ts l (inl h) = absurd (none_left ts (some_among C R ts of_pointers h) l)
pointers_by C R (suc k) ts l (inl (inl h)) = on_star k l (λ us b r. pointers_by C R k us b (whether those_pointers r)) (mark_first h)
pointers_by C R (suc k) ts l (inl (inr (inl h))) = reference_only (reference_first h)
pointers_by C R (suc k) ts l (inl (inr (inr h))) = absurd h

pub pointers : {C : List (List ℕ)} {R : List Symbol} {ts : List Token} → Runs C (Maybe n.Pointers ∷ R) ts → Pointers C R ts
pointers {C} {R} {ts} h = pointers_by C R (length ts) ts (omega arith) (whether those_pointers h)

pub all_stars : {C : List (List ℕ)} {R : List Symbol} {ts : List Token} (p : Pointers C R ts) → HasFewStars ts → stars ts ≡ Some (p.pointers, p.behind)
unfolding stars
all_stars p few = p.stars_read most_stars 0 few ∙ ap (λ x. Some (x, p.behind)) (omega arith)

-- ---- what stands behind the base of a type

-- the rest of a type is read, whatever its base
pub record TypeRest (C : List (List ℕ)) (R : List Symbol) (ts : List Token) : Type 0 where
  pub is_const_after : Bool
  pub pointers : ℕ
  pub reference : Reference
  pub left : List Token
  pub read : (at : Span) (is_const : Bool) (base : SimpleType) → type_rest at is_const base ts ≡ Some (record { is_const = is_const; base = base; is_const_after = is_const_after; pointers = pointers; reference = reference; span = at }, left)
  pub spelled : Spells (if_said is_const_after (w word.Const) ++ (tree.stars pointers ++ tree.reference_mark reference)) ts left
  pub runs : Runs C R left

without_const : {C : List (List ℕ)} {R : List Symbol} {ts : List Token} → HasFewStars ts → sees_word word.Const ts ≡ false → Pointers C R ts → TypeRest C R ts
unfolding type_rest
without_const {ts = ts} few e p =
    record {
      is_const_after = false;
      pointers = p.pointers;
      reference = p.reference;
      left = p.left;
      read = λ at is_const base. rw (e, after_word-left word.Const ts e, all_stars p few, p.reference_read);
      spelled = p.spelled;
      runs = p.runs;
    }

with_const : {C : List (List ℕ)} {R : List Symbol} (at : Span) (ts : List Token) → HasFewStars ts → Pointers C R ts → TypeRest C R (record { kind = kind.Word word.Const; span = at } ∷ ts)
unfolding type_rest sees_word after_word
with_const at ts few p =
    record {
      is_const_after = true;
      pointers = p.pointers;
      reference = p.reference;
      left = p.left;
      read = λ at is_const base. rw (all_stars p few, p.reference_read);
      spelled = (refl, p.spelled);
      runs = p.runs;
    }

no_rest : {R : List Symbol} (C : List (List ℕ)) (ts : List Token) → NoneNext C of_type_rest ts → Runs C R ts → TypeRest C R ts
no_rest C [] h r = absurd h
no_rest C (t ∷ ts) h r = without_const (few_stars r) (refused_word C word.Const t ts (h.0 (usable (has_some C)))) (no_pointers C (t ∷ ts) h.1 r)

some_rest : (C : List (List ℕ)) (R : List Symbol) (ts : List Token) → HasFewStars ts → Among C R of_type_rest ts → TypeRest C R ts
some_rest C R ts few (inl h) = on_const (word_first h)
  where
    on_const : {us : List Token} → Worded C word.Const (Maybe n.Pointers ∷ R) us → TypeRest C R us
    on_const (worded at us r) = with_const at us (few_stars r) (pointers r)
some_rest C R ts few (inr h) = without_const few (unseen_word C R ts word.Const of_pointers (refl, (refl, tt)) h) (pointers_by C R (length ts) ts (omega arith) (inl h))

pub type_rest_taken : {C : List (List ℕ)} {R : List Symbol} {ts : List Token} → Runs C (Maybe n.TypeRest ∷ R) ts → TypeRest C R ts
type_rest_taken {C} {R} {ts} h = elim (whether those_type_rest h) [ inl a ↦ some_rest C R ts (few_stars h) a | inr a ↦ no_rest C ts a.0 a.1 ]

-- ---- types

abbrev pub TypeTaken : List (List ℕ) → List Symbol → List Token → Type 0
TypeTaken C R ts = Takes (type_id (is_class C)) (λ t left. Spells (tree.type_id t) ts left × PlainType C t) C R ts

type_spelled : (ts us behind left : List Token) (at : Span) (b c : Bool) (base : SimpleType) (pointers : ℕ) (reference : Reference) → StandsAt ts at → Spells (if_said b (w word.Const)) ts us → Spells (tree.simple_type base) us behind
    → Spells (if_said c (w word.Const) ++ (tree.stars pointers ++ tree.reference_mark reference)) behind left
    → Spells (tree.type_id (record { is_const = b; base = base; is_const_after = c; pointers = pointers; reference = reference; span = at })) ts left
type_spelled ts us behind left at b c base pointers reference p s t r = (
  p,
  spells_rule (if_said b (w word.Const) ++ (tree.simple_type base ++ (if_said c (w word.Const) ++ (tree.stars pointers ++ tree.reference_mark reference)))) ts left
      (spells_append (if_said b (w word.Const)) (tree.simple_type base ++ (if_said c (w word.Const) ++ (tree.stars pointers ++ tree.reference_mark reference))) ts us left s
      (spells_append (tree.simple_type base) (if_said c (w word.Const) ++ (tree.stars pointers ++ tree.reference_mark reference)) us behind left t r)),
)

const_type : {C : List (List ℕ)} {R : List Symbol} (at : Span) (ts : List Token) → Runs C (One n.Base ∷ Maybe n.TypeRest ∷ R) ts → TypeTaken C R (record { kind = kind.Word word.Const; span = at } ∷ ts)
unfolding type_id sees_word after_word
const_type at ts h =
    let b = base_taken h in
    let r = type_rest_taken b.runs in
    record {
      part = record { is_const = true; base = b.part; is_const_after = r.is_const_after; pointers = r.pointers; reference = r.reference; span = at };
      left = r.left;
      read = rw (b.read, r.read at true b.part);
      is = (type_spelled (record { kind = kind.Word word.Const; span = at } ∷ ts) ts b.left r.left at true r.is_const_after b.part r.pointers r.reference refl (refl, refl) b.is.0 r.spelled, b.is.1);
      runs = r.runs;
    }

plain_type : (C : List (List ℕ)) (R : List Symbol) (ts : List Token) → Among C (Maybe n.TypeRest ∷ R) of_base ts → TypeTaken C R ts
unfolding type_id
plain_type C R ts h =
    let e = unseen_word C (Maybe n.TypeRest ∷ R) ts word.Const of_base (refl, (refl, (refl, (refl, tt)))) h in
    let b = base_among C (Maybe n.TypeRest ∷ R) ts h in
    let r = type_rest_taken b.runs in
    record {
      part = record { is_const = false; base = b.part; is_const_after = r.is_const_after; pointers = r.pointers; reference = r.reference; span = place ts };
      left = r.left;
      read = rw (e, after_word-left word.Const ts e, b.read, r.read (place ts) false b.part);
      is = (type_spelled ts ts b.left r.left (place ts) false r.is_const_after b.part r.pointers r.reference (stands_some ts (some_among C (Maybe n.TypeRest ∷ R) ts of_base h)) refl b.is.0 r.spelled, b.is.1);
      runs = r.runs;
    }

type_among : (C : List (List ℕ)) (R : List Symbol) (ts : List Token) → Among C R of_type_id ts → TypeTaken C R ts
type_among C R ts (inl h) = on_const (word_first h)
  where
    on_const : {us : List Token} → Worded C word.Const (One n.Base ∷ Maybe n.TypeRest ∷ R) us → TypeTaken C R us
    on_const (worded at us r) = const_type at us r
type_among C R ts (inr h) = plain_type C R ts h

pub type_taken : {C : List (List ℕ)} {R : List Symbol} {ts : List Token} → Runs C (One n.TypeId ∷ R) ts → TypeTaken C R ts
type_taken {C} {R} {ts} h = type_among C R ts (which those_type_id h)
