-- Which rule of a nonterminal reads the tokens.
use Rattle.std.proofs.Common.{◌≡◌, ℕ, ◌≤◌, length, Bool, true, false, ◌||◌, List, [], ◌∷◌, ◌++◌, refl, sym, subst, ◌⊎◌, inl, inr, arith}
use Rattle.co_lex.specs.declared.token.Token.{Token}
use Rattle.co_lex.specs.declared.token.TokenKind.{TokenKind}
use Rattle.co_rules.specs.declared.symbol.Nonterminal.{Nonterminal}
use Rattle.co_rules.specs.declared.symbol.Pattern.{Pattern}
use Rattle.co_rules.specs.declared.symbol.Symbol.{Symbol}
use Rattle.co_rules.specs.declared.symbol.Symbol.TheVariants.{Token as Terminal, One, Maybe, Many, Greedy}
use Rattle.co_rules.specs.Derives.{Begins}
use Rattle.co_rules.specs.Names.{has_some}
use Rattle.co_rules.specs.Pattern.{admits}
use Rattle.co_rules.specs.Rule.{Rule, rule, rules, Stands}
use Rattle.co_rules.specs.Terminal.{terminal_of}
use Rattle.co_grammar.specs.Machine.{is_usable}
use Rattle.co_reads.specs.Runs.{flat, HasFewStars, NoneBegins, Runs, ended, token, one, some, none, more, last, taken, left_out}
use Rattle.co_reads.proofs.Those.{those, those-in, those-of, stands-those}
use Rattle.co_reader.specs.Reading.{place}
use Rattle.co_tree.specs.Derives.{StandsAt}

-- one of the rules reads the tokens, and these symbols what is behind it
abbrev pub Among : List (List ℕ) → List Symbol → List Rule → List Token → Type 0
Among C R [] ts = ⊥
Among C R (r ∷ rs) ts = Runs C (Terminal r.head ∷ (flat r.body ++ R)) ts ⊎ Among C R rs ts

pub among : (C : List (List ℕ)) (R : List Symbol) (ts : List Token) (rs : List Rule) (r : Rule) → Stands r rs → Runs C (Terminal r.head ∷ (flat r.body ++ R)) ts → Among C R rs ts
among C R ts [] r s h = absurd s
among C R ts (q ∷ rs) r (inl e) h = inl (subst (λ x. Runs C (Terminal x.head ∷ (flat x.body ++ R)) ts) (sym e) h)
among C R ts (q ∷ rs) r (inr s) h = inr (among C R ts rs r s h)

begun : {rs : List Rule} (C : List (List ℕ)) (R : List Symbol) (n : Nonterminal) → those n rules ≡ rs → (t : Token) (ts : List Token) (body : List Symbol) → Begins n (terminal_of C t.kind) body → HasFewStars (t ∷ ts) → Runs C (flat body ++ R) ts → Among C R rs (t ∷ ts)
begun {rs} C R n e t ts body b few h =
    among C R (t ∷ ts) rs b.0 (stands-those n rs e (terminal_of C t.kind) body b)
    (token b.0.head (flat b.0.body ++ R) t ts b.3 few (subst (λ x. Runs C (flat x ++ R) ts) (sym b.4) h))

-- the rule by which a nonterminal reads the tokens
pub which : {C : List (List ℕ)} {R : List Symbol} {ts : List Token} {rs : List Rule} {n : Nonterminal} → those n rules ≡ rs → Runs C (One n ∷ R) ts → Among C R rs ts
which {C} e (one n R body t ts b few h) = begun C R n e t ts body b few h

-- a nonterminal reads the tokens by a rule of its own
pub by_rule : {C : List (List ℕ)} {R : List Symbol} {ts : List Token} {rs : List Rule} {n : Nonterminal} {p : Pattern} (body : List Symbol) → those n rules ≡ rs → Stands (rule n p body) rs → Runs C (Terminal p ∷ (flat body ++ R)) ts → Runs C (One n ∷ R) ts
by_rule {C} {R} {ts} {rs} {n} {p} body e s (token _ _ t later a few h) =
    one n R body t later (rule n p body, those-in n rules (rule n p body) (subst (λ qs. Stands (rule n p body) qs) (sym e) s), refl, a, refl) few h

from_some : (C : List (List ℕ)) (R : List Symbol) (ts : List Token) (n : Nonterminal) (rs : List Rule) → ((r : Rule) → Stands r rs → Stands r (those n rules)) → Among C R rs ts → Runs C (One n ∷ R) ts
from_some C R ts n [] f h = absurd h
from_some C R ts n (r ∷ rs) f (inl (token _ _ t later a few h)) = one n R r.body t later (r, those-in n rules r (f r (inl refl)), those-of n rules r (f r (inl refl)), a, refl) few h
from_some C R ts n (r ∷ rs) f (inr h) = from_some C R ts n rs (λ q s. f q (inr s)) h

-- what one of a nonterminal's rules reads, the nonterminal does
pub from_among : {rs : List Rule} {n : Nonterminal} (C : List (List ℕ)) (R : List Symbol) (ts : List Token) → those n rules ≡ rs → Among C R rs ts → Runs C (One n ∷ R) ts
from_among {rs} {n} C R ts e h = from_some C R ts n rs (λ r s. subst (λ qs. Stands r qs) (sym e) s) h

-- ---- where no rule of the nonterminal begins

-- the token begins none of the rules that can be used
abbrev pub BeginsNone : List (List ℕ) → TokenKind → List Rule → Type 0
BeginsNone C k [] = Unit {0}
BeginsNone C k (r ∷ rs) = (is_usable (has_some C) r.body ≡ true → admits r.head (terminal_of C k) ≡ false) × BeginsNone C k rs

-- the token that comes next begins none of them
abbrev pub NoneNext : List (List ℕ) → List Rule → List Token → Type 0
NoneNext C rs [] = ⊥
NoneNext C rs (t ∷ ts) = BeginsNone C t.kind rs

not_so : (b : Bool) → (b ≡ true → ⊥) → b ≡ false
not_so true f = absurd (f refl)
not_so false f = refl

none_of : (C : List (List ℕ)) (n : Nonterminal) (k : TokenKind) (rs : List Rule) → NoneBegins C n k → ((r : Rule) → Stands r rs → Stands r (those n rules)) → BeginsNone C k rs
none_of C n k [] h f = tt
none_of C n k (r ∷ rs) h f =
    let s = f r (inl refl) in
    ((λ u. not_so (admits r.head (terminal_of C k)) (λ a. h r.body (r, those-in n rules r s, those-of n rules r s, a, refl) u)), none_of C n k rs h (λ q t. f q (inr t)))

left : {rs : List Rule} (C : List (List ℕ)) (n : Nonterminal) (k : TokenKind) → those n rules ≡ rs → NoneBegins C n k → BeginsNone C k rs
left {rs} C n k e h = none_of C n k rs h (λ r s. subst (λ qs. Stands r qs) (sym e) s)

-- what may be left out is read by a rule, or no rule begins with the token that comes next
pub whether : {C : List (List ℕ)} {R : List Symbol} {ts : List Token} {rs : List Rule} {n : Nonterminal} → those n rules ≡ rs → Runs C (Maybe n ∷ R) ts → Among C R rs ts ⊎ (NoneNext C rs ts × Runs C R ts)
whether {C} e (some n R body t ts b few h) = inl (begun C R n e t ts body b few h)
whether {C} e (none n R t ts b h) = inr (left C n t.kind e b, h)

-- what may be left out is read as if it stood there, or no rule begins with the token that comes next
pub one_or_none : {C : List (List ℕ)} {R : List Symbol} {ts : List Token} {rs : List Rule} {n : Nonterminal} → those n rules ≡ rs → Runs C (Maybe n ∷ R) ts → Runs C (One n ∷ R) ts ⊎ (NoneNext C rs ts × Runs C R ts)
one_or_none e (some n R body t ts b few h) = inl (one n R body t ts b few h)
one_or_none {C} e (none n R t ts b h) = inr (left C n t.kind e b, h)

-- what may stand any number of times is read by a rule, or no rule begins with the token that comes next
pub again : {C : List (List ℕ)} {R : List Symbol} {ts : List Token} {rs : List Rule} {n : Nonterminal} → those n rules ≡ rs → Runs C (Many n ∷ R) ts → Among C (Many n ∷ R) rs ts ⊎ (NoneNext C rs ts × Runs C R ts)
again {C} e (more n R body t ts b few h) = inl (begun C (Many n ∷ R) n e t ts body b few h)
again {C} e (last n R t ts b h) = inr (left C n t.kind e b, h)

-- the token that comes next is none of the pattern
abbrev pub NoneAdmitted : List (List ℕ) → Pattern → List Token → Type 0
NoneAdmitted C p [] = ⊥
NoneAdmitted C p (t ∷ ts) = admits p (terminal_of C t.kind) ≡ false

pub greedily : {C : List (List ℕ)} {R : List Symbol} {ts : List Token} {rs : List Rule} {n : Nonterminal} {p : Pattern} → those n rules ≡ rs → Runs C (Greedy n p ∷ R) ts → Among C R rs ts ⊎ (NoneAdmitted C p ts × Runs C R ts)
greedily {C} e (taken n p R body t ts b few h) = inl (begun C R n e t ts body b few h)
greedily e (left_out n p R t ts b a h) = inr (a, h)

-- ---- parts of a list of rules

pub either : (C : List (List ℕ)) (R : List Symbol) (ts : List Token) (qs rs : List Rule) → Among C R (qs ++ rs) ts → Among C R qs ts ⊎ Among C R rs ts
either C R ts [] rs h = inr h
either C R ts (q ∷ qs) rs (inl h) = inl (inl h)
either C R ts (q ∷ qs) rs (inr h) = elim (either C R ts qs rs h) [ inl l ↦ inl (inr l) | inr r ↦ inr r ]

-- ---- what is left

-- symbols that are left read a token more
abbrev pub HasMore : List Symbol → Type 0
HasMore [] = ⊥
HasMore (s ∷ R) = Unit {0}

abbrev pub IsSome : List Token → Type 0
IsSome [] = ⊥
IsSome (t ∷ ts) = Unit {0}

pub some_left : {C : List (List ℕ)} {R : List Symbol} {ts : List Token} → Runs C R ts → HasMore R → IsSome ts
some_left ended h = absurd h
some_left (token p R t ts a few r) h = tt
some_left (one n R body t ts b few r) h = tt
some_left (some n R body t ts b few r) h = tt
some_left (none n R t ts b r) h = tt
some_left (more n R body t ts b few r) h = tt
some_left (last n R t ts b r) h = tt
some_left (taken n p R body t ts b few r) h = tt
some_left (left_out n p R t ts b a r) h = tt

-- the first token stands at its place
pub stands_some : (ts : List Token) → IsSome ts → StandsAt ts (place ts)
stands_some [] h = absurd h
stands_some (t ∷ ts) h = refl

pub stands_here : {C : List (List ℕ)} {R : List Symbol} {ts : List Token} → Runs C R ts → HasMore R → StandsAt ts (place ts)
stands_here {ts = ts} r h = stands_some ts (some_left r h)

pub few_stars : {C : List (List ℕ)} {R : List Symbol} {ts : List Token} → Runs C R ts → HasFewStars ts
few_stars ended = omega arith
few_stars (token p R t ts a few r) = few
few_stars (one n R body t ts b few r) = few
few_stars (some n R body t ts b few r) = few
few_stars (none n R t ts b r) = few_stars r
few_stars (more n R body t ts b few r) = few
few_stars (last n R t ts b r) = few_stars r
few_stars (taken n p R body t ts b few r) = few
few_stars (left_out n p R t ts b a r) = few_stars r

pub usable : (b : Bool) → (b || true) ≡ true
usable true = refl
usable false = refl

pub some_among : (C : List (List ℕ)) (R : List Symbol) (ts : List Token) (rs : List Rule) → Among C R rs ts → IsSome ts
some_among C R ts [] h = absurd h
some_among C R ts (r ∷ rs) (inl h) = some_left h tt
some_among C R ts (r ∷ rs) (inr h) = some_among C R ts rs h

pub none_left : (ts : List Token) → IsSome ts → length ts ≤ 0 → ⊥
none_left [] s l = s
none_left (t ∷ ts) s l = omega (arith, l)
