-- The rule that applies is the one that begins with the terminal.
use Rattle.std.proofs.Common.{◌≡◌, ℕ, Bool, true, false, not, ◌&&◌, ◌||◌, cond, nat_eq, List, [], ◌∷◌, ◌++◌, Some, None, refl, sym, ap, ◌∙◌, subst, inl, inr}
use Rattle.std.specs.List.{list_any}
use Rattle.co_rules.specs.declared.symbol.Nonterminal.{Nonterminal}
use Rattle.co_rules.specs.declared.symbol.Pattern.{Pattern}
use Rattle.co_rules.specs.declared.symbol.Pattern.TheVariants as pattern
use Rattle.co_rules.specs.declared.symbol.Symbol.{Symbol}
use Rattle.co_rules.specs.declared.symbol.Terminal.{Terminal}
use Rattle.co_rules.specs.declared.symbol.Terminal.TheVariants as terminal
use Rattle.co_rules.specs.Derives.{Begins}
use Rattle.co_grammar.specs.Machine.{needs_class, applies, body_among, body_for}
use Rattle.co_rules.specs.Pattern.{admits, words, marks, word_number, mark_number, nonterminal_number}
use Rattle.co_rules.specs.Rule.{Rule, rules, Stands}
use Rattle.co_rules.proofs.Follow.{number, numbers, heads, heads_among, follow, fits, fit, alone, distinct, covers, covered}
use Rattle.co_rules.proofs.Numbers.{admits-number}
use Rattle.co_rules.proofs.Places.{number-same}
use Rattle.co_rules.proofs.Sets.{never, eq_true, true_eq, and_split, In, in_left, in_right}
use Rattle.co_rules.proofs.Tested.{rules-distinct, rules-fit}
use Rattle.co_rules.proofs.Unique.{clash, alone-not}

pub none_some : {A B : Type 0} {a : A} → None ≡ Some a → B
none_some h = absurd cc

pub some_same : {A : Type 0} {a b : A} → Some a ≡ Some b → a ≡ b
some_same h = cc

pub and_true : (a b : Bool) → a ≡ true → b ≡ true → (a && b) ≡ true
and_true true b h e = e
and_true false b h e = never h

applies-made : (c : Bool) (n : Nonterminal) (t : Terminal) (r : Rule) → r.of ≡ n → admits r.head t ≡ true → (c || not (list_any needs_class r.body)) ≡ true → applies c n t r ≡ true
applies-made c n t r e a u =
    and_true (nat_eq (nonterminal_number r.of) (nonterminal_number n) && admits r.head t) (c || not (list_any needs_class r.body)) (and_true (nat_eq (nonterminal_number r.of) (nonterminal_number n)) (admits r.head t) (true_eq (nonterminal_number r.of) (nonterminal_number n) (ap nonterminal_number e)) a) u

pub record Applies (c : Bool) (n : Nonterminal) (t : Terminal) (r : Rule) : Type 0 where
  pub of : r.of ≡ n
  pub head : admits r.head t ≡ true
  pub usable : (c || not (list_any needs_class r.body)) ≡ true

applies-parts : (c : Bool) (n : Nonterminal) (t : Terminal) (r : Rule) → applies c n t r ≡ true → Applies c n t r
applies-parts c n t r h =
    let p = and_split (nat_eq (nonterminal_number r.of) (nonterminal_number n) && admits r.head t) (c || not (list_any needs_class r.body)) h in
    let q = and_split (nat_eq (nonterminal_number r.of) (nonterminal_number n)) (admits r.head t) p.0 in
    record { of = number-same r.of n q.0; head = q.1; usable = p.1 }

pub record Picked (c : Bool) (n : Nonterminal) (t : Terminal) (rs : List Rule) (body : List Symbol) : Type 0 where
  pub rule : Rule
  pub stands : Stands rule rs
  pub applies : Applies c n t rule
  pub is : rule.body ≡ body

picked-if : (c : Bool) (n : Nonterminal) (t : Terminal) (q : Rule) (rs : List Rule) (body : List Symbol) (b : Bool) → b ≡ applies c n t q → ((body_among c n t rs ≡ Some body) → Picked c n t rs body) → cond b (Some q.body) (body_among c n t rs) ≡ Some body → Picked c n t (q ∷ rs) body
picked-if c n t q rs body true e more h = record { rule = q; stands = inl refl; applies = applies-parts c n t q (sym e); is = some_same h }
picked-if c n t q rs body false e more h = let p = more h in record { rule = p.rule; stands = inr p.stands; applies = p.applies; is = p.is }

picked : (c : Bool) (n : Nonterminal) (t : Terminal) (rs : List Rule) (body : List Symbol) → body_among c n t rs ≡ Some body → Picked c n t rs body
picked c n t [] body h = none_some h
picked c n t (q ∷ rs) body h = picked-if c n t q rs body (applies c n t q) refl (picked c n t rs body) h

found-if : (c : Bool) (n : Nonterminal) (t : Terminal) (q r : Rule) (rs : List Rule) (b : Bool) → b ≡ applies c n t q → (b ≡ true → q.body ≡ r.body) → (b ≡ false → body_among c n t rs ≡ Some r.body) → cond b (Some q.body) (body_among c n t rs) ≡ Some r.body
found-if c n t q r rs true e same more = ap Some (same refl)
found-if c n t q r rs false e same more = more refl

found : (c : Bool) (n : Nonterminal) (t : Terminal) (r : Rule) (rs : List Rule) → distinct rs ≡ true → Stands r rs → Applies c n t r → body_among c n t rs ≡ Some r.body
found c n t r [] d s a = absurd s
found c n t r (q ∷ rs) d s a =
    let p = and_split (alone q rs) (distinct rs) d in
    elim s [
      | inl e ↦ found-if c n t q r rs (applies c n t q) refl (λ _. ap (λ x. x.body) e) (λ no_rule. never (sym no_rule ∙ (ap (λ x. applies c n t x) e ∙ applies-made c n t r a.of a.head a.usable)))
      | inr k ↦ found-if c n t q r rs (applies c n t q) refl (λ yes_rule. let b = applies-parts c n t q yes_rule in absurd (alone-not q rs r t p.0 k (a.of ∙ sym b.of) b.head a.head)) (λ _. found c n t r rs p.1 k a)
    ]

-- ---- what is picked for a terminal

pub begins-picked : (c : Bool) (n : Nonterminal) (t : Terminal) (body : List Symbol) → Begins n t body → (c || not (list_any needs_class body)) ≡ true → body_for c n t ≡ Some body
unfolding body_for
begins-picked c n t body b u =
    found c n t b.0 rules rules-distinct b.1 (record { of = b.2; head = b.3; usable = subst (λ y. (c || not (list_any needs_class y)) ≡ true) (sym b.4) u }) ∙ ap Some b.4

pub picked-begins : (c : Bool) (n : Nonterminal) (t : Terminal) (body : List Symbol) → body_for c n t ≡ Some body → Begins n t body
unfolding body_for
picked-begins c n t body h = let p = picked c n t rules body h in (p.rule, p.stands, p.applies.of, p.applies.head, p.is)

pub picked-usable : (c : Bool) (n : Nonterminal) (t : Terminal) (body : List Symbol) → body_for c n t ≡ Some body → (c || not (list_any needs_class body)) ≡ true
unfolding body_for
picked-usable c n t body h = let p = picked c n t rules body h in subst (λ y. (c || not (list_any needs_class y)) ≡ true) p.is p.applies.usable

-- ---- the tests of the rules, rule by rule

heads-here : (b : Bool) (a : ℕ) (xs ys : List ℕ) → b ≡ true → In a xs → In a (cond b (xs ++ ys) ys)
heads-here true a xs ys e h = in_left a xs ys h
heads-here false a xs ys e h = never e

heads-later : (b : Bool) (a : ℕ) (xs ys : List ℕ) → In a ys → In a (cond b (xs ++ ys) ys)
heads-later true a xs ys h = in_right a xs ys h
heads-later false a xs ys h = h

heads-in : (n : Nonterminal) (t : Terminal) (r : Rule) (rs : List Rule) → Stands r rs → r.of ≡ n → admits r.head t ≡ true → In (number t) (heads_among n rs)
heads-in n t r [] s e a = absurd s
heads-in n t r (q ∷ rs) s e a =
    elim s [
      | inl i ↦ heads-here (nat_eq (nonterminal_number q.of) (nonterminal_number n)) (number t) (numbers q.head) (heads_among n rs) (true_eq (nonterminal_number q.of) (nonterminal_number n) (ap (λ y. nonterminal_number y.of) i ∙ ap nonterminal_number e)) (admits-number q.head t (ap (λ y. admits y.head t) i ∙ a))
      | inr k ↦ heads-later (nat_eq (nonterminal_number q.of) (nonterminal_number n)) (number t) (numbers q.head) (heads_among n rs) (heads-in n t r rs k e a)
    ]

pub begins-heads : (n : Nonterminal) (t : Terminal) (body : List Symbol) → Begins n t body → In (number t) (heads n)
unfolding heads
begins-heads n t body b = heads-in n t b.0 rules b.1 b.2 b.3

fit-rule : (r : Rule) (rs : List Rule) → fit rs ≡ true → Stands r rs → fits (follow r.of) r.body ≡ true
fit-rule r [] h s = absurd s
fit-rule r (q ∷ rs) h s =
    let p = and_split (fits (follow q.of) q.body) (fit rs) h in
    elim s [ inl e ↦ subst (λ y. fits (follow y.of) y.body ≡ true) e p.0 | inr k ↦ fit-rule r rs p.1 k ]

pub begins-fits : (n : Nonterminal) (t : Terminal) (body : List Symbol) → Begins n t body → fits (follow n) body ≡ true
begins-fits n t body b = subst (λ m. fits (follow m) body ≡ true) b.2 (subst (λ y. fits (follow b.0.of) y ≡ true) b.4 (fit-rule b.0 rules rules-fit b.1))

-- a pattern that covers another one
both : {A : Type 0} (f : A → ℕ) (n m : ℕ) (xs : List A) → nat_eq n m ≡ true → list_any (λ v. nat_eq (f v) n) xs ≡ true → list_any (λ v. nat_eq (f v) m) xs ≡ true
both f n m xs e h = subst (λ k. list_any (λ v. nat_eq (f v) k) xs ≡ true) (eq_true n m e) h

first_of_one : (b : Bool) → (b || false) ≡ true → b ≡ true
first_of_one true h = refl
first_of_one false h = never h

pub covers-admits : (p q : Pattern) (t : Terminal) → covers p q ≡ true → admits q t ≡ true → admits p t ≡ true
unfolding admits
covers-admits p (pattern.Keyword w) (terminal.Word v) h a = both word_number (word_number w) (word_number v) (words p) (first_of_one (nat_eq (word_number w) (word_number v)) a) h
covers-admits p (pattern.Punctuator w) (terminal.Mark v) h a = both mark_number (mark_number w) (mark_number v) (marks p) (first_of_one (nat_eq (mark_number w) (mark_number v)) a) h
covers-admits p (pattern.Keyword w) _ h a = never a
covers-admits p (pattern.Punctuator w) _ h a = never a
covers-admits p _ t h a = never h

covered-rule : (p : Pattern) (n : Nonterminal) (t : Terminal) (r : Rule) (rs : List Rule) → covered p n rs ≡ true → Stands r rs → r.of ≡ n → admits r.head t ≡ true → admits p t ≡ true
covered-rule p n t r [] h s e a = absurd s
covered-rule p n t r (q ∷ rs) h s e a =
    let k = and_split (not (nat_eq (nonterminal_number q.of) (nonterminal_number n)) || covers p q.head) (covered p n rs) h in
    elim s [
      | inl i ↦ covers-admits p q.head t (clash (nat_eq (nonterminal_number q.of) (nonterminal_number n)) (covers p q.head) k.0 (true_eq (nonterminal_number q.of) (nonterminal_number n) (ap (λ y. nonterminal_number y.of) i ∙ ap nonterminal_number e))) (ap (λ y. admits y.head t) i ∙ a)
      | inr l ↦ covered-rule p n t r rs k.1 l e a
    ]

pub covered-begins : (p : Pattern) (n : Nonterminal) (t : Terminal) (body : List Symbol) → covered p n rules ≡ true → Begins n t body → admits p t ≡ true
covered-begins p n t body h b = covered-rule p n t b.0 rules h b.1 b.2 b.3
