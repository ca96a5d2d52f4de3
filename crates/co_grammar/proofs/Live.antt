-- Each stack that is reached derives some list; and where no name is of a class, nothing derives a path to one.
use Rattle.std.proofs.Common.{◌≡◌, ℕ, zero, suc, Bool, true, false, not, ◌&&◌, ◌||◌, cond, nat_eq, List, [], ◌∷◌, ◌++◌, map, get_or, Some, None, refl, sym, ap, ◌∙◌, subst, inl, inr}
use Rattle.std.specs.List.{list_any, list_all}
use Rattle.co_rules.specs.declared.symbol.Nonterminal.{Nonterminal}
use Rattle.co_rules.specs.declared.symbol.Nonterminal.TheVariants as nonterminal
use Rattle.co_rules.specs.declared.symbol.Pattern.{Pattern}
use Rattle.co_rules.specs.declared.symbol.Pattern.TheVariants as pattern
use Rattle.co_rules.specs.declared.symbol.Symbol.{Symbol}
use Rattle.co_rules.specs.declared.symbol.Symbol.TheVariants.{Token, One, Maybe, Many, Greedy, Close}
use Rattle.co_rules.specs.declared.symbol.Terminal.{Terminal}
use Rattle.co_rules.specs.declared.symbol.Terminal.TheVariants as terminal
use Rattle.co_rules.specs.Derives as d
use Rattle.co_rules.specs.Derives.{Derives, Begins}
use Rattle.co_grammar.specs.Machine.{needs_class, is_usable, body_for, step}
use Rattle.co_rules.specs.Pattern.{admits, nonterminal_number}
use Rattle.co_rules.specs.Rule.{Rule, rules, Stands}
use Rattle.co_rules.proofs.Places.{number-same, every, at_place}
use Rattle.co_rules.proofs.Sets.{never, and_split, or_split}
use Rattle.co_grammar.proofs.Living.{every-lives, item-lives, rules-live, rules-barren}
use Rattle.co_grammar.proofs.Picks.{none_some, and_true}
use Rattle.co_grammar.proofs.Steps.{body_on, the_other, put_some, test_some, not_then, Plain, without}
use Rattle.co_grammar.proofs.Lives.{is_class_pattern, fits_classes, grows, lives, live, living, all_live, all_barren}
use Rattle.std.proofs.lemmas.List.{append-nil}

then_true : (a b : Bool) → (not a || b) ≡ true → a ≡ true → b ≡ true
then_true true b h e = h
then_true false b h e = never e

later_false : (a b : Bool) → not (a || b) ≡ true → not b ≡ true
later_false true b h = never h
later_false false b h = h

module _ (has : Bool) (ex : Pattern → Terminal) (ok : (p : Pattern) → fits_classes has p ≡ true → admits p (ex p) ≡ true) where
  -- what begins with an example and goes on to what derives a list of examples
  pub record Grown (n : Nonterminal) (rest : List Symbol) : Type 0 where
    pub first : Pattern
    pub body : List Symbol
    pub begins : Begins n (ex first) body
    pub others : List Pattern
    pub derives : Derives (body ++ rest) (map ex others)

  pub record Filled (stack : List Symbol) : Type 0 where
    pub examples : List Pattern
    pub derives : Derives stack (map ex examples)

  abbrev Grows : Nonterminal → Type 0
  Grows n = (rest : List Symbol) → Filled rest → Grown n rest

  filled : (f : Nonterminal → Bool) → ((n : Nonterminal) → f n ≡ true → Grows n) → (body rest : List Symbol) → grows f has body ≡ true → Filled rest → Filled (body ++ rest)
  filled f g [] rest h r = r
  filled f g (Token p ∷ body) rest h r =
      let a = and_split (fits_classes has p) (grows f has body) h in
      let i = filled f g body rest a.1 r in
      record { examples = p ∷ i.examples; derives = d.token p (body ++ rest) (ex p) (map ex i.examples) (ok p a.0) i.derives }
  filled f g (Close ∷ body) rest h r = let i = filled f g body rest h r in record { examples = i.examples; derives = d.close (body ++ rest) (map ex i.examples) i.derives }
  filled f g (One n ∷ body) rest h r =
      let a = and_split (f n) (grows f has body) h in
      let k = g n a.0 (body ++ rest) (filled f g body rest a.1 r) in
      record { examples = k.first ∷ k.others; derives = d.one n (body ++ rest) k.body (ex k.first) (map ex k.others) k.begins k.derives }
  filled f g (Maybe n ∷ body) rest h r = let i = filled f g body rest h r in record { examples = i.examples; derives = d.none n (body ++ rest) (map ex i.examples) i.derives }
  filled f g (Many n ∷ body) rest h r = let i = filled f g body rest h r in record { examples = i.examples; derives = d.last n (body ++ rest) (map ex i.examples) i.derives }
  filled f g (Greedy n p ∷ body) rest h r =
      let a = and_split (f n) (grows f has body) h in
      let k = g n a.0 (body ++ rest) (filled f g body rest a.1 r) in
      record { examples = k.first ∷ k.others; derives = d.taken n p (body ++ rest) k.body (ex k.first) (map ex k.others) k.begins k.derives }

  from_rule : (f : Nonterminal → Bool) → ((n : Nonterminal) → f n ≡ true → Grows n) → (n : Nonterminal) (rs : List Rule) → ((r : Rule) → Stands r rs → Stands r rules) → living f has n rs ≡ true → Grows n
  from_rule f g n [] s h rest r = never h
  from_rule f g n (q ∷ rs) s h rest r =
      elim (or_split (nat_eq (nonterminal_number q.of) (nonterminal_number n) && (fits_classes has q.head && grows f has q.body)) (living f has n rs) h) [
        | inl l ↦ (let a = and_split (nat_eq (nonterminal_number q.of) (nonterminal_number n)) (fits_classes has q.head && grows f has q.body) l in
            let b = and_split (fits_classes has q.head) (grows f has q.body) a.1 in
            let i = filled f g q.body rest b.1 r in
            record { first = q.head; body = q.body; begins = (q, s q (inl refl), number-same q.of n a.0, ok q.head b.0, refl); others = i.examples; derives = i.derives })
        | inr l ↦ from_rule f g n rs (λ x i. s x (inr i)) l rest r
      ]

  lives-grows : (k : ℕ) (n : Nonterminal) → lives k has n ≡ true → Grows n
  lives-grows zero n h = never h
  lives-grows (suc k) n h = from_rule (lives k has) (lives-grows k) n rules (λ r i. i) h

  every-at : (f : Nonterminal → Bool) (ns : List Nonterminal) (i : ℕ) → list_all f ns ≡ true → f nonterminal.Item ≡ true → f (get_or ns i nonterminal.Item) ≡ true
  every-at f [] i h e = e
  every-at f (n ∷ ns) zero h e = (and_split (f n) (list_all f ns) h).0
  every-at f (n ∷ ns) (suc i) h e = every-at f ns i (and_split (f n) (list_all f ns) h).1 e

  live-grows : (n : Nonterminal) → live has n ≡ true → Grows n
  live-grows n h =
      let f : Nonterminal → Bool = λ m. not (live has m) || lives 6 has m in
      let all = every-at f every (nonterminal_number n) (every-lives has) (item-lives has) in
      lives-grows 6 n (then_true (live has n) (lives 6 has n) (subst (λ m. f m ≡ true) (at_place n) all) h)

  -- a stack of living symbols derives a list of examples
  pub completed : (stack : List Symbol) → grows (live has) has stack ≡ true → Filled stack
  completed stack h =
      let i = filled (live has) live-grows stack [] h (record { examples = []; derives = d.nothing }) in
      record { examples = i.examples; derives = subst (λ s. Derives s (map ex i.examples)) (append-nil stack) i.derives }

-- ---- a stack that is reached lives

grows-append : (f : Nonterminal → Bool) (has : Bool) (body rest : List Symbol) → grows f has body ≡ true → grows f has rest ≡ true → grows f has (body ++ rest) ≡ true
grows-append f has [] rest h r = r
grows-append f has (Token p ∷ body) rest h r = let a = and_split (fits_classes has p) (grows f has body) h in and_true (fits_classes has p) (grows f has (body ++ rest)) a.0 (grows-append f has body rest a.1 r)
grows-append f has (Close ∷ body) rest h r = grows-append f has body rest h r
grows-append f has (One n ∷ body) rest h r = let a = and_split (f n) (grows f has body) h in and_true (f n) (grows f has (body ++ rest)) a.0 (grows-append f has body rest a.1 r)
grows-append f has (Maybe n ∷ body) rest h r = grows-append f has body rest h r
grows-append f has (Many n ∷ body) rest h r = grows-append f has body rest h r
grows-append f has (Greedy n p ∷ body) rest h r = let a = and_split (f n) (grows f has body) h in and_true (f n) (grows f has (body ++ rest)) a.0 (grows-append f has body rest a.1 r)

rule-live : (has : Bool) (r : Rule) (rs : List Rule) → all_live has rs ≡ true → Stands r rs → is_usable has r.body ≡ true → grows (live has) has r.body ≡ true
rule-live has r [] h s u = absurd s
rule-live has r (q ∷ rs) h s u =
    let a = and_split (not (is_usable has q.body) || grows (live has) has q.body) (all_live has rs) h in
    elim s [
      | inl e ↦ subst (λ x. grows (live has) has x.body ≡ true) e (then_true (is_usable has q.body) (grows (live has) has q.body) a.0 (ap (λ x. is_usable has x.body) e ∙ u))
      | inr k ↦ rule-live has r rs a.1 k u
    ]

body-live : (has : Bool) (n : Nonterminal) (t : Terminal) (body : List Symbol) → Begins n t body → is_usable has body ≡ true → grows (live has) has body ≡ true
body-live has n t body b u =
    subst (λ x. grows (live has) has x ≡ true) b.4 (rule-live has b.0 rules (rules-live has) b.1 (ap (is_usable has) b.4 ∙ u))

pub lives-on : (has : Bool) (t : Terminal) (stack after : List Symbol) → grows (live has) has stack ≡ true → step has t stack ≡ Some after → grows (live has) has after ≡ true
lives-on has t [] after f h = none_some h
lives-on has t (Token p ∷ rest) after f h = subst (λ s. grows (live has) has s ≡ true) (test_some (admits p t) rest after h).1 (and_split (fits_classes has p) (grows (live has) has rest) f).1
lives-on has t (Close ∷ rest) after f h = lives-on has t rest after f h
lives-on has t (One n ∷ rest) after f h =
    let a = and_split (live has n) (grows (live has) has rest) f in
    elim (put_some has n t rest None after (body_for has n t) refl h) [
      | body_on body b u i ↦ subst (λ s. grows (live has) has s ≡ true) (sym i) (grows-append (live has) has body rest (body-live has n t body b u) a.1)
      | the_other o ↦ none_some o
    ]
lives-on has t (Maybe n ∷ rest) after f h =
    elim (put_some has n t rest (step has t rest) after (body_for has n t) refl h) [
      | body_on body b u i ↦ subst (λ s. grows (live has) has s ≡ true) (sym i) (grows-append (live has) has body rest (body-live has n t body b u) f)
      | the_other o ↦ lives-on has t rest after f o
    ]
lives-on has t (Many n ∷ rest) after f h =
    elim (put_some has n t (Many n ∷ rest) (step has t rest) after (body_for has n t) refl h) [
      | body_on body b u i ↦ subst (λ s. grows (live has) has s ≡ true) (sym i) (grows-append (live has) has body (Many n ∷ rest) (body-live has n t body b u) f)
      | the_other o ↦ lives-on has t rest after f o
    ]
lives-on has t (Greedy n p ∷ rest) after f h =
    let a = and_split (live has n) (grows (live has) has rest) f in
    elim (put_some has n t rest (cond (admits p t) None (step has t rest)) after (body_for has n t) refl h) [
      | body_on body b u i ↦ subst (λ s. grows (live has) has s ≡ true) (sym i) (grows-append (live has) has body rest (body-live has n t body b u) a.1)
      | the_other o ↦ lives-on has t rest after a.1 (not_then (admits p t) (step has t rest) after o).1
    ]

-- ---- where no name is of a class

-- each terminal is no name of a class, or there is one
abbrev pub is_class_name : Terminal → Bool
is_class_name (terminal.Name is_class k) = is_class
is_class_name _ = false

abbrev pub Suits : Bool → List Terminal → Type 0
Suits has [] = Unit {0}
Suits has (t ∷ ts) = ((has || not (is_class_name t)) ≡ true) × Suits has ts

first_true : (a b : Bool) → (a && b) ≡ true → a ≡ true
first_true a b h = (and_split a b h).0

class-names : (p : Pattern) (t : Terminal) → is_class_pattern p ≡ true → admits p t ≡ true → is_class_name t ≡ true
unfolding admits
class-names pattern.ClassName (terminal.Name is_class k) h a = first_true is_class _ a
class-names pattern.ClassName _ h a = never a
class-names _ t h a = never h

not_both : (a : Bool) → not a ≡ true → a ≡ true → ⊥
not_both true h e = never h
not_both false h e = never e

barren-rule : (r : Rule) (rs : List Rule) (t : Terminal) → all_barren rs ≡ true → Stands r rs → nat_eq (nonterminal_number r.of) (nonterminal_number nonterminal.ClassPath) ≡ true → admits r.head t ≡ true → not (is_class_name t) ≡ true → list_any needs_class r.body ≡ true
barren-rule r [] t h s e a n = absurd s
barren-rule r (q ∷ rs) t h s e a n =
    let k = and_split (not (nat_eq (nonterminal_number q.of) (nonterminal_number nonterminal.ClassPath)) || (is_class_pattern q.head || list_any needs_class q.body)) (all_barren rs) h in
    elim s [
      | inl i ↦ subst (λ x. list_any needs_class x.body ≡ true) i (elim (or_split (is_class_pattern q.head) (list_any needs_class q.body) (then_true (nat_eq (nonterminal_number q.of) (nonterminal_number nonterminal.ClassPath)) (is_class_pattern q.head || list_any needs_class q.body) k.0 (ap (λ x. nat_eq (nonterminal_number x.of) (nonterminal_number nonterminal.ClassPath)) i ∙ e))) [
        | inl c ↦ absurd (not_both (is_class_name t) n (class-names q.head t c (ap (λ x. admits x.head t) i ∙ a)))
        | inr b ↦ b
      ])
      | inr l ↦ barren-rule r rs t k.1 l e a n
    ]

none_in_rest : (body rest : List Symbol) → not (list_any needs_class (body ++ rest)) ≡ true → not (list_any needs_class rest) ≡ true
none_in_rest [] rest h = h
none_in_rest (s ∷ body) rest h = none_in_rest body rest (later_false (needs_class s) (list_any needs_class (body ++ rest)) h)

one_not : (b r : Bool) → (b ≡ true → ⊥) → not r ≡ true → not (b || r) ≡ true
one_not true r h e = absurd (h refl)
one_not false r h e = e

plain-one : (n : Nonterminal) (rest body : List Symbol) (t : Terminal) → Begins n t body → not (is_class_name t) ≡ true → not (list_any needs_class (body ++ rest)) ≡ true → not (list_any needs_class (One n ∷ rest)) ≡ true
plain-one n rest body t b c h =
    one_not (nat_eq (nonterminal_number n) (nonterminal_number nonterminal.ClassPath)) (list_any needs_class rest) (λ e. not_both (list_any needs_class body) (without body rest h) (subst (λ x. list_any needs_class x ≡ true) b.4 (barren-rule b.0 rules t rules-barren b.1 (ap (λ m. nat_eq (nonterminal_number m) (nonterminal_number nonterminal.ClassPath)) b.2 ∙ e) b.3 c))) (none_in_rest body rest h)

plain : (stack : List Symbol) (ts : List Terminal) → Suits false ts → Derives stack ts → not (list_any needs_class stack) ≡ true
plain stack ts s d.nothing = refl
plain stack ts s (d.token p rest t us a e) = plain rest us s.1 e
plain stack ts s (d.close rest us e) = plain rest us s e
plain stack ts s (d.one n rest body t us b e) = plain-one n rest body t b s.0 (plain (body ++ rest) us s.1 e)
plain stack ts s (d.some n rest body t us b e) = none_in_rest body rest (plain (body ++ rest) us s.1 e)
plain stack ts s (d.none n rest us e) = plain rest us s e
plain stack ts s (d.more n rest body t us b e) = none_in_rest body (Many n ∷ rest) (plain (body ++ Many n ∷ rest) us s.1 e)
plain stack ts s (d.last n rest us e) = plain rest us s e
plain stack ts s (d.taken n p rest body t us b e) = none_in_rest body rest (plain (body ++ rest) us s.1 e)
plain stack ts s (d.left_out n p rest us q e) = plain rest us s e

pub suits-plain : (has : Bool) (ts : List Terminal) → Suits has ts → Plain has ts
suits-plain true ts s stack e = refl
suits-plain false ts s stack e = plain stack ts s e
