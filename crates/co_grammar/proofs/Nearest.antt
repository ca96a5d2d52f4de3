-- That an `else` belongs to the nearest `if` refuses no list.
use Rattle.std.proofs.Common.{◌≡◌, ℕ, zero, suc, ◌<◌, ◌≤◌, Bool, true, false, not, ◌&&◌, ◌||◌, cond, nat_eq, List, [], ◌∷◌, ◌++◌, length, append_assoc, refl, sym, ap, ◌∙◌, subst, ◌⊎◌, inl, inr, arith}
use Rattle.co_lex.specs.declared.token.Word.TheVariants as word
use Rattle.co_rules.specs.declared.symbol.Nonterminal.{Nonterminal}
use Rattle.co_rules.specs.declared.symbol.Nonterminal.TheVariants as nonterminal
use Rattle.co_rules.specs.declared.symbol.Pattern.{Pattern}
use Rattle.co_rules.specs.declared.symbol.Pattern.TheVariants as pattern
use Rattle.co_rules.specs.declared.symbol.Symbol.{Symbol}
use Rattle.co_rules.specs.declared.symbol.Symbol.TheVariants.{Token, One, Maybe, Many, Greedy, Close}
use Rattle.co_rules.specs.declared.symbol.Terminal.{Terminal}
use Rattle.co_rules.specs.Derives as d
use Rattle.co_rules.specs.Derives.{Derives, Begins}
use Rattle.co_rules.specs.Pattern.{admits, nonterminal_number}
use Rattle.co_rules.specs.Rule.{Rule, rules, start, Stands, in_file, in_class, in_type, in_statement, in_head, in_local, in_value, in_argument, in_unary, in_operand, from_file, from_class, from_type, from_statement, from_head, from_local, from_value, from_argument, from_unary}
use Rattle.co_rules.proofs.Follow.{number, numbers, none_in, apart, follow, firsts, heads, covers}
use Rattle.co_rules.proofs.Numbers.{admits-number}
use Rattle.co_rules.proofs.Places.{number-same}
use Rattle.co_rules.proofs.Sets.{never, true_eq, and_split, none_in-in, apart-Apart, Within, add_split}
use Rattle.co_grammar.specs.Laws.{NearestIfRefusesNone}
use Rattle.co_grammar.specs.Loose as l
use Rattle.co_grammar.specs.Loose.{Loosely}
use Rattle.co_rules.specs.Terminal.{terminals}
use Rattle.co_grammar.proofs.Fits.{nothing, Fits, fits-Fits, fits-append, derives-first, start-fits}
use Rattle.co_grammar.proofs.Picks.{and_true, begins-fits, covers-admits}

abbrev else_word : Pattern
else_word = pattern.Keyword word.Else

-- no terminal of the pattern is an `else`
abbrev no_else : Pattern → Bool
no_else p = none_in (numbers p) (numbers else_word)

abbrev is_else : Nonterminal → Bool
is_else n = nat_eq (nonterminal_number n) (nonterminal_number nonterminal.Else)

-- an `else` begins nothing of the symbols but what may be left out before it
abbrev calm : List Symbol → Bool
calm [] = true
calm (Token p ∷ rest) = no_else p && calm rest
calm (Close ∷ rest) = calm rest
calm (One n ∷ rest) = not (is_else n) && calm rest
calm (Maybe n ∷ rest) = not (is_else n) && calm rest
calm (Many n ∷ rest) = not (is_else n) && calm rest
calm (Greedy n p ∷ rest) = cond (is_else n) (covers else_word p) (apart (follow n) (numbers else_word)) && calm rest

abbrev all_calm : List Rule → Bool
all_calm [] = true
all_calm (r ∷ rs) = (calm r.body && (is_else r.of || no_else r.head)) && all_calm rs

rules-calm : all_calm rules ≡ true
unfolding in_file in_class in_type in_statement in_head in_local in_value in_argument in_unary in_operand from_file from_class from_type from_statement from_head from_local from_value from_argument from_unary numbers follow
rules-calm = refl

start-calm : calm start ≡ true
unfolding numbers
start-calm = refl

calm-append : (body rest : List Symbol) → calm body ≡ true → calm rest ≡ true → calm (body ++ rest) ≡ true
calm-append [] rest h r = r
calm-append (Token p ∷ body) rest h r = let a = and_split (no_else p) (calm body) h in and_true (no_else p) (calm (body ++ rest)) a.0 (calm-append body rest a.1 r)
calm-append (Close ∷ body) rest h r = calm-append body rest h r
calm-append (One n ∷ body) rest h r = let a = and_split (not (is_else n)) (calm body) h in and_true (not (is_else n)) (calm (body ++ rest)) a.0 (calm-append body rest a.1 r)
calm-append (Maybe n ∷ body) rest h r = let a = and_split (not (is_else n)) (calm body) h in and_true (not (is_else n)) (calm (body ++ rest)) a.0 (calm-append body rest a.1 r)
calm-append (Many n ∷ body) rest h r = let a = and_split (not (is_else n)) (calm body) h in and_true (not (is_else n)) (calm (body ++ rest)) a.0 (calm-append body rest a.1 r)
calm-append (Greedy n p ∷ body) rest h r =
    let b = cond (is_else n) (covers else_word p) (apart (follow n) (numbers else_word)) in
    let a = and_split b (calm body) h in
    and_true b (calm (body ++ rest)) a.0 (calm-append body rest a.1 r)

pub record Calm (r : Rule) : Type 0 where
  pub body : calm r.body ≡ true
  pub head : (is_else r.of || no_else r.head) ≡ true

rule-calm : (r : Rule) (rs : List Rule) → all_calm rs ≡ true → Stands r rs → Calm r
rule-calm r [] h s = absurd s
rule-calm r (q ∷ rs) h s =
    let a = and_split (calm q.body && (is_else q.of || no_else q.head)) (all_calm rs) h in
    let b = and_split (calm q.body) (is_else q.of || no_else q.head) a.0 in
    elim s [ inl e ↦ subst Calm e (record { body = b.0; head = b.1 }) | inr k ↦ rule-calm r rs a.1 k ]

begins-calm : (n : Nonterminal) (t : Terminal) (body : List Symbol) → Begins n t body → calm body ≡ true
begins-calm n t body b = subst (λ x. calm x ≡ true) b.4 (rule-calm b.0 rules rules-calm b.1).body

either : (a b : Bool) → (a || b) ≡ true → (a ≡ true) ⊎ (b ≡ true)
either true b h = inl refl
either false b h = inr h

not_one : (p : Pattern) (t : Terminal) → no_else p ≡ true → admits else_word t ≡ true → admits p t ≡ true → ⊥
not_one p t h e a = none_in-in (number t) (numbers p) (numbers else_word) h (admits-number p t a) (admits-number else_word t e)

-- what begins with an `else` is of `Else`
only-else : (n : Nonterminal) (t : Terminal) (body : List Symbol) → Begins n t body → admits else_word t ≡ true → is_else n ≡ true
only-else n t body b e =
    elim (either (is_else b.0.of) (no_else b.0.head) (rule-calm b.0 rules rules-calm b.1).head) [
      | inl y ↦ ap is_else (sym b.2) ∙ y
      | inr z ↦ absurd (not_one b.0.head t z e b.3)
    ]

no : {A : Type 0} (b : Bool) → not b ≡ true → b ≡ true → A
no true h e = never h
no false h e = never e

-- ---- a symbol that derives nothing before the rest may be put there

abbrev Opens : Symbol → List Symbol → ℕ → Type 0
Opens s rest k = (us : List Terminal) → length us ≤ k → Derives rest us → Derives (s ∷ rest) us

abbrev Puts : Symbol → List Symbol → ℕ → Type 0
Puts s rest k = (body : List Symbol) (ts : List Terminal) → length ts < k → Derives (body ++ rest) ts → Derives (body ++ s ∷ rest) ts

again : (s : Symbol) (rest : List Symbol) (k : ℕ) → Puts s rest k → (b body : List Symbol) (ts : List Terminal) → length ts < k → Derives (b ++ (body ++ rest)) ts → Derives (b ++ (body ++ s ∷ rest)) ts
again s rest k p b body ts h e = subst (λ x. Derives x ts) (append_assoc b body (s ∷ rest)) (p (b ++ body) ts h (subst (λ x. Derives x ts) (sym (append_assoc b body rest)) e))

put-on : (s : Symbol) (rest : List Symbol) (k : ℕ) → Opens s rest k → Puts s rest k → (body : List Symbol) (ts : List Terminal) → length ts ≤ k → Derives (body ++ rest) ts → Derives (body ++ s ∷ rest) ts
put-on s rest k o p [] ts h e = o ts h e
put-on s rest k o p (Token q ∷ body) ts h (d.token _ _ u us a e) = d.token q (body ++ s ∷ rest) u us a (p body us (omega (arith, h)) e)
put-on s rest k o p (Close ∷ body) ts h (d.close _ _ e) = d.close (body ++ s ∷ rest) ts (put-on s rest k o p body ts h e)
put-on s rest k o p (One n ∷ body) ts h (d.one _ _ b u us g e) = d.one n (body ++ s ∷ rest) b u us g (again s rest k p b body us (omega (arith, h)) e)
put-on s rest k o p (Maybe n ∷ body) ts h (d.some _ _ b u us g e) = d.some n (body ++ s ∷ rest) b u us g (again s rest k p b body us (omega (arith, h)) e)
put-on s rest k o p (Maybe n ∷ body) ts h (d.none _ _ _ e) = d.none n (body ++ s ∷ rest) ts (put-on s rest k o p body ts h e)
put-on s rest k o p (Many n ∷ body) ts h (d.more _ _ b u us g e) =
    d.more n (body ++ s ∷ rest) b u us g (again s rest k p b (Many n ∷ body) us (omega (arith, h)) e)
put-on s rest k o p (Many n ∷ body) ts h (d.last _ _ _ e) = d.last n (body ++ s ∷ rest) ts (put-on s rest k o p body ts h e)
put-on s rest k o p (Greedy n q ∷ body) ts h (d.taken _ _ _ b u us g e) = d.taken n q (body ++ s ∷ rest) b u us g (again s rest k p b body us (omega (arith, h)) e)
put-on s rest k o p (Greedy n q ∷ body) ts h (d.left_out _ _ _ _ z e) = d.left_out n q (body ++ s ∷ rest) ts z (put-on s rest k o p body ts h e)

puts : (s : Symbol) (rest : List Symbol) (m : ℕ) → Opens s rest m → (k : ℕ) → k ≤ suc m → Puts s rest k
puts s rest m o zero h body ts l e = absurd (omega (arith, l))
puts s rest m o (suc k) h body ts l e = put-on s rest k (λ us i. o us (omega (arith, i, h))) (puts s rest m o k (omega (arith, h))) body ts (omega (arith, l)) e

put : (s : Symbol) (body rest : List Symbol) (ts : List Terminal) → Opens s rest (length ts) → Derives (body ++ rest) ts → Derives (body ++ s ∷ rest) ts
put s body rest ts o e = puts s rest (length ts) o (suc (length ts)) (omega arith) body ts (omega arith) e

-- ---- an `else` that is taken further down may be taken here

pub record Taken (t : Terminal) (ts : List Terminal) (stack : List Symbol) : Type 0 where
  pub body : List Symbol
  pub begins : Begins nonterminal.Else t body
  pub derives : Derives (body ++ stack) ts

abbrev Takes : ℕ → Type 0
Takes k = (t : Terminal) (ts : List Terminal) (stack : List Symbol) → length ts < k → Fits nothing stack → calm stack ≡ true → admits else_word t ≡ true → Derives stack (t ∷ ts) → Taken t ts stack

test : (b : Bool) → (b ≡ true) ⊎ (b ≡ false)
test true = inl refl
test false = inr refl

-- an `else` part may be put before what derives a list that may begin with an `else`
opens-else : (k : ℕ) → Takes k → (n : Nonterminal) (p : Pattern) (rest : List Symbol) → nonterminal.Else ≡ n → covers else_word p ≡ true → Fits nothing rest → calm rest ≡ true → Opens (Greedy n p) rest k
opens-else k takes n p rest i c f a [] h e = d.left_out n p rest [] tt e
opens-else k takes n p rest i c f a (u ∷ us) h e =
    elim (test (admits p u)) [
      | inl y ↦ (let s = takes u us rest (omega (arith, h)) f a (covers-admits else_word p u c y) e in d.taken n p rest s.body u us (subst (λ m. Begins m u s.body) i s.begins) s.derives)
      | inr z ↦ d.left_out n p rest (u ∷ us) z e
    ]

else-of : (n : Nonterminal) → is_else n ≡ true → nonterminal.Else ≡ n
else-of n h = sym (number-same n nonterminal.Else h)

when_true : (b : Bool) (x y : Bool) → b ≡ true → cond b x y ≡ true → x ≡ true
when_true true x y e h = h
when_true false x y e h = never e

when_false : (b : Bool) (x y : Bool) → b ≡ false → cond b x y ≡ true → y ≡ true
when_false true x y e h = never (sym e)
when_false false x y e h = h

take-on : (k : ℕ) → Takes k → (t : Terminal) (ts : List Terminal) (stack : List Symbol) → length ts ≤ k → Fits nothing stack → calm stack ≡ true → admits else_word t ≡ true → Derives stack (t ∷ ts) → Taken t ts stack
take-on k takes t ts stack h f a e (d.token p rest u us x y) = absurd (not_one p u (and_split (no_else p) (calm rest) a).0 e x)
take-on k takes t ts stack h f a e (d.close rest us y) =
    let s = take-on k takes t ts rest h f a e y in
    record { body = s.body; begins = s.begins; derives = put Close s.body rest ts (λ us i z. d.close rest us z) s.derives }
take-on k takes t ts stack h f a e (d.one n rest b u us g y) = no (is_else n) (and_split (not (is_else n)) (calm rest) a).0 (only-else n u b g e)
take-on k takes t ts stack h f a e (d.some n rest b u us g y) = no (is_else n) (and_split (not (is_else n)) (calm rest) a).0 (only-else n u b g e)
take-on k takes t ts stack h f a e (d.none n rest us y) =
    let s = take-on k takes t ts rest h f.2 (and_split (not (is_else n)) (calm rest) a).1 e y in
    record { body = s.body; begins = s.begins; derives = put (Maybe n) s.body rest ts (λ us i z. d.none n rest us z) s.derives }
take-on k takes t ts stack h f a e (d.more n rest b u us g y) = no (is_else n) (and_split (not (is_else n)) (calm rest) a).0 (only-else n u b g e)
take-on k takes t ts stack h f a e (d.last n rest us y) =
    let s = take-on k takes t ts rest h f.3 (and_split (not (is_else n)) (calm rest) a).1 e y in
    record { body = s.body; begins = s.begins; derives = put (Many n) s.body rest ts (λ us i z. d.last n rest us z) s.derives }
take-on k takes t ts stack h f a e (d.taken n p rest b u us g y) =
    let w = only-else n u b g e in
    let i = else-of n w in
    let c = and_split (cond (is_else n) (covers else_word p) (apart (follow n) (numbers else_word))) (calm rest) a in
    let o = opens-else k takes n p rest i (when_true (is_else n) (covers else_word p) (apart (follow n) (numbers else_word)) w c.0) f.2 c.1 in
    record { body = b; begins = subst (λ m. Begins m u b) (sym i) g; derives = put (Greedy n p) b rest us (λ vs j z. o vs (omega (arith, j, h)) z) y }
take-on k takes t ts stack h f a e (d.left_out n p rest us q y) =
    let c = and_split (cond (is_else n) (covers else_word p) (apart (follow n) (numbers else_word))) (calm rest) a in
    elim (test (is_else n)) [
      | inl w ↦ (let s = take-on k takes t ts rest h f.2 c.1 e y in
          let o = opens-else k takes n p rest (else-of n w) (when_true (is_else n) (covers else_word p) (apart (follow n) (numbers else_word)) w c.0) f.2 c.1 in
          record { body = s.body; begins = s.begins; derives = put (Greedy n p) s.body rest ts (λ vs j z. o vs (omega (arith, j, h)) z) s.derives })
      | inr w ↦ absurd (apart-Apart (follow n) (numbers else_word) (when_false (is_else n) (covers else_word p) (apart (follow n) (numbers else_word)) w c.0) (number t) (f.1 (number t) (derives-first rest t ts nothing y)) (admits-number else_word t e))
    ]

takes : (k : ℕ) → Takes k
takes zero t ts stack h f a e y = absurd (omega (arith, h))
takes (suc k) t ts stack h f a e y = take-on k (takes k) t ts stack (omega (arith, h)) f a e y

-- ---- what is derived loosely is derived

body-fits : (n : Nonterminal) (t : Terminal) (body : List Symbol) → Begins n t body → Fits (follow n) body
body-fits n t body b = fits-Fits (follow n) body (begins-fits n t body b)

many-after : (n : Nonterminal) (rest : List Symbol) → Fits nothing (Many n ∷ rest) → Within (firsts (Many n ∷ rest) nothing) (follow n)
many-after n rest f a m = elim (add_split a (heads n) (firsts rest nothing) m) [ inl x ↦ f.2 a x | inr y ↦ f.1 a y ]

strict : (stack : List Symbol) (ts : List Terminal) → Fits nothing stack → calm stack ≡ true → Loosely stack ts → Derives stack ts
strict stack ts f a l.nothing = d.nothing
strict stack ts f a (l.token p rest u us x y) = d.token p rest u us x (strict rest us f (and_split (no_else p) (calm rest) a).1 y)
strict stack ts f a (l.close rest us y) = d.close rest us (strict rest us f a y)
strict stack ts f a (l.one n rest b u us g y) =
    d.one n rest b u us g (strict (b ++ rest) us (fits-append b rest (follow n) nothing f.0 (body-fits n u b g) f.1) (calm-append b rest (begins-calm n u b g) (and_split (not (is_else n)) (calm rest) a).1) y)
strict stack ts f a (l.some n rest b u us g y) =
    d.some n rest b u us g (strict (b ++ rest) us (fits-append b rest (follow n) nothing f.1 (body-fits n u b g) f.2) (calm-append b rest (begins-calm n u b g) (and_split (not (is_else n)) (calm rest) a).1) y)
strict stack ts f a (l.none n rest us y) = d.none n rest us (strict rest us f.2 (and_split (not (is_else n)) (calm rest) a).1 y)
strict stack ts f a (l.more n rest b u us g y) =
    d.more n rest b u us g (strict (b ++ Many n ∷ rest) us (fits-append b (Many n ∷ rest) (follow n) nothing (many-after n rest f) (body-fits n u b g) f) (calm-append b (Many n ∷ rest) (begins-calm n u b g) a) y)
strict stack ts f a (l.last n rest us y) = d.last n rest us (strict rest us f.3 (and_split (not (is_else n)) (calm rest) a).1 y)
strict stack ts f a (l.taken n p rest b u us g y) =
    d.taken n p rest b u us g (strict (b ++ rest) us (fits-append b rest (follow n) nothing f.1 (body-fits n u b g) f.2) (calm-append b rest (begins-calm n u b g) (and_split (cond (is_else n) (covers else_word p) (apart (follow n) (numbers else_word))) (calm rest) a).1) y)
strict stack ts f a (l.left_out n p rest us q y) =
    let c = and_split (cond (is_else n) (covers else_word p) (apart (follow n) (numbers else_word))) (calm rest) a in
    let e = strict rest us f.2 c.1 y in
    elim q [
      | inl i ↦ opens-else (length us) (takes (length us)) n p rest (sym i) (when_true (is_else n) (covers else_word p) (apart (follow n) (numbers else_word)) (true_eq (nonterminal_number n) (nonterminal_number nonterminal.Else) (ap nonterminal_number i)) c.0) f.2 c.1 us (omega arith) e
      | inr z ↦ d.left_out n p rest us z e
    ]

pub nearest_if_refuses_none : NearestIfRefusesNone
nearest_if_refuses_none names tokens h = strict start (terminals names tokens) start-fits start-calm h
