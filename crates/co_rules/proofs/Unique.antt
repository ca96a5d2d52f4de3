-- One rule of a nonterminal at most begins with a terminal.
use Rattle.std.proofs.Common.{◌≡◌, Bool, true, false, not, ◌||◌, nat_eq, List, [], ◌∷◌, sym, ap, ◌∙◌, inl, inr}
use Rattle.co_rules.specs.declared.symbol.Terminal.{Terminal}
use Rattle.co_rules.specs.Laws.{OneRuleBegins}
use Rattle.co_rules.specs.Pattern.{admits, nonterminal_number}
use Rattle.co_rules.specs.Rule.{Rule, rules, Stands}
use Rattle.co_rules.proofs.Follow.{number, numbers, alone, distinct, none_in}
use Rattle.co_rules.proofs.Numbers.{admits-number}
use Rattle.co_rules.proofs.Sets.{never, true_eq, and_split, none_in-in}
use Rattle.co_rules.proofs.Tested.{rules-distinct}

pub clash : (a b : Bool) → (not a || b) ≡ true → a ≡ true → b ≡ true
clash true b h e = h
clash false b h e = never e

pub alone-not : (r : Rule) (rs : List Rule) (q : Rule) (t : Terminal) → alone r rs ≡ true → Stands q rs → q.of ≡ r.of → admits r.head t ≡ true → admits q.head t ≡ true → ⊥
alone-not r [] q t h s e a b = absurd s
alone-not r (x ∷ rs) q t h s e a b =
    let p = and_split (not (nat_eq (nonterminal_number x.of) (nonterminal_number r.of)) || none_in (numbers r.head) (numbers x.head)) (alone r rs) h in
    elim s [
      | inl i ↦ none_in-in (number t) (numbers r.head) (numbers x.head) (clash (nat_eq (nonterminal_number x.of) (nonterminal_number r.of)) (none_in (numbers r.head) (numbers x.head)) p.0 (true_eq (nonterminal_number x.of) (nonterminal_number r.of) (ap (λ y. nonterminal_number y.of) i ∙ ap nonterminal_number e))) (admits-number r.head t a) (admits-number x.head t (ap (λ y. admits y.head t) i ∙ b))
      | inr k ↦ alone-not r rs q t p.1 k e a b
    ]

one_among : (r q : Rule) (t : Terminal) (rs : List Rule) → distinct rs ≡ true → Stands r rs → Stands q rs → q.of ≡ r.of → admits r.head t ≡ true → admits q.head t ≡ true → r ≡ q
one_among r q t [] d s z e a b = absurd s
one_among r q t (x ∷ rs) d s z e a b =
    let p = and_split (alone x rs) (distinct rs) d in
    elim s [
      | inl i ↦ elim z [
        | inl j ↦ sym i ∙ j
        | inr k ↦ absurd (alone-not x rs q t p.0 k (e ∙ ap (λ y. y.of) (sym i)) (ap (λ y. admits y.head t) i ∙ a) b)
      ]
      | inr l ↦ elim z [
        | inl j ↦ absurd (alone-not x rs r t p.0 l (sym e ∙ ap (λ y. y.of) (sym j)) (ap (λ y. admits y.head t) j ∙ b) a)
        | inr k ↦ one_among r q t rs p.1 l k e a b
      ]
    ]

pub one_rule_begins : OneRuleBegins
one_rule_begins n t body other b c =
    sym b.4 ∙ (ap (λ r. r.body) (one_among b.0 c.0 t rules rules-distinct b.1 c.1 (c.2 ∙ sym b.2) b.3 c.3) ∙ c.4)
