-- The rules of one nonterminal among all rules.
use Rattle.std.proofs.Common.{◌≡◌, Bool, true, false, cond, if◌then◌else◌, nat_eq, List, [], ◌∷◌, refl, ap, ◌∙◌, sym, subst, inl, inr}
use Rattle.co_rules.specs.declared.symbol.Nonterminal.{Nonterminal}
use Rattle.co_rules.specs.declared.symbol.Pattern.{Pattern}
use Rattle.co_rules.specs.declared.symbol.Symbol.{Symbol}
use Rattle.co_rules.specs.declared.symbol.Terminal.{Terminal}
use Rattle.co_rules.specs.Derives.{Begins}
use Rattle.co_rules.specs.Pattern.{admits, nonterminal_number}
use Rattle.co_rules.specs.Rule.{Rule, rule, rules, Stands}
use Rattle.co_rules.proofs.Places.{number-same}
use Rattle.co_rules.proofs.Sets.{never, true_eq}

-- the rules of the nonterminal
abbrev pub those : Nonterminal → List Rule → List Rule
those n [] = []
those n (r ∷ rs) = if nat_eq (nonterminal_number r.of) (nonterminal_number n) then r ∷ those n rs else those n rs

kept : (b : Bool) (q r : Rule) (ms rs : List Rule) → (Stands r ms → Stands r rs) → Stands r (cond b (q ∷ ms) ms) → Stands r (q ∷ rs)
kept true q r ms rs f (inl e) = inl e
kept true q r ms rs f (inr s) = inr (f s)
kept false q r ms rs f s = inr (f s)

pub those-in : (n : Nonterminal) (rs : List Rule) (r : Rule) → Stands r (those n rs) → Stands r rs
those-in n [] r s = s
those-in n (q ∷ rs) r s = kept (nat_eq (nonterminal_number q.of) (nonterminal_number n)) q r (those n rs) rs (those-in n rs r) s

-- a rule of a nonterminal's list begins with the terminals that its first pattern admits
pub begins : (n : Nonterminal) (rs : List Rule) → those n rules ≡ rs → (t : Terminal) (p : Pattern) (body : List Symbol) → Stands (rule n p body) rs → admits p t ≡ true → Begins n t body
begins n rs e t p body s h = (rule n p body, those-in n rules (rule n p body) (subst (λ qs. Stands (rule n p body) qs) (sym e) s), refl, h, refl)

here : (b : Bool) (q r : Rule) (ms : List Rule) → b ≡ true → q ≡ r → Stands r (cond b (q ∷ ms) ms)
here true q r ms h e = inl e
here false q r ms h e = never h

there : (b : Bool) (q r : Rule) (ms : List Rule) → Stands r ms → Stands r (cond b (q ∷ ms) ms)
there true q r ms s = inr s
there false q r ms s = s

in-those : (n : Nonterminal) (rs : List Rule) (r : Rule) → Stands r rs → r.of ≡ n → Stands r (those n rs)
in-those n [] r s h = s
in-those n (q ∷ rs) r (inl e) h = here (nat_eq (nonterminal_number q.of) (nonterminal_number n)) q r (those n rs) (true_eq (nonterminal_number q.of) (nonterminal_number n) (ap (λ x. nonterminal_number x.of) e ∙ ap nonterminal_number h)) e
in-those n (q ∷ rs) r (inr s) h = there (nat_eq (nonterminal_number q.of) (nonterminal_number n)) q r (those n rs) (in-those n rs r s h)

-- the rule with which a nonterminal begins is one of its list
pub stands-those : (n : Nonterminal) (rs : List Rule) → those n rules ≡ rs → (t : Terminal) (body : List Symbol) (b : Begins n t body) → Stands b.0 rs
stands-those n rs e t body b = subst (λ qs. Stands b.0 qs) e (in-those n rules b.0 b.1 b.2)

of_kept : (b : Bool) (n : Nonterminal) (q r : Rule) (rs : List Rule) → (b ≡ true → q.of ≡ n) → (Stands r rs → r.of ≡ n) → Stands r (cond b (q ∷ rs) rs) → r.of ≡ n
of_kept true n q r rs f g (inl e) = subst (λ x. x.of ≡ n) e (f refl)
of_kept true n q r rs f g (inr s) = g s
of_kept false n q r rs f g s = g s

-- each rule of the list is of the nonterminal
pub those-of : (n : Nonterminal) (rs : List Rule) (r : Rule) → Stands r (those n rs) → r.of ≡ n
those-of n [] r s = absurd s
those-of n (q ∷ rs) r s = of_kept (nat_eq (nonterminal_number q.of) (nonterminal_number n)) n q r (those n rs) (number-same q.of n) (those-of n rs r) s
