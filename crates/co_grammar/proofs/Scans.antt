-- What a scan of terminals tells.
use Rattle.std.proofs.Common.{◌≡◌, ℕ, zero, suc, ◌+◌, ◌<◌, ◌≤◌, Bool, true, false, cond, nat_lt, List, [], ◌∷◌, ◌++◌, map, length, take, get_or, Option, Some, None, Result, Ok, Err, refl, sym, ap, ◌∙◌, subst, arith}
use Rattle.std.proofs.lemmas.Bool.Decides.{nat_tests}
use Rattle.co_grammar.specs.declared.fault.Fault.{Fault}
use Rattle.co_grammar.specs.declared.fault.Fault.TheVariants.{Syntax, TooDeep}
use Rattle.co_rules.specs.declared.symbol.Pattern.{Pattern}
use Rattle.co_rules.specs.declared.symbol.Symbol.{Symbol}
use Rattle.co_rules.specs.declared.symbol.Symbol.TheVariants.{Token, One, Maybe, Many, Greedy, Close}
use Rattle.co_rules.specs.declared.symbol.Terminal.{Terminal}
use Rattle.co_rules.specs.Derives as d
use Rattle.co_rules.specs.Derives.{Derives}
use Rattle.co_grammar.specs.Laws.{depths_from, depths_on, IsShallow}
use Rattle.co_grammar.specs.Machine.{step, levels, body_for}
use Rattle.co_rules.specs.Pattern.{admits}
use Rattle.co_grammar.specs.Scan.{go_on, ended, scanned_from}
use Rattle.co_grammar.proofs.Fits.{nothing, Fits}
use Rattle.co_grammar.proofs.Live.{completed, lives-on, Suits, suits-plain}
use Rattle.co_grammar.proofs.Lives.{fits_classes, grows, live}
use Rattle.co_grammar.proofs.Picks.{none_some, some_same}
use Rattle.co_rules.proofs.Sets.{never}
use Rattle.co_grammar.proofs.Steps.{sound, preserved, complete, body_on, the_other, put_some, test_some, not_then}

abbrev pub Answer : Type 0
Answer = Result (Unit {0}) Fault

-- ---- a stack ends with a token or is empty

abbrev pub is_token : Symbol → Bool
is_token (Token p) = true
is_token _ = false

abbrev pub ends : List Symbol → Bool
ends [] = true
ends (s ∷ []) = is_token s
ends (s ∷ r ∷ rest) = ends (r ∷ rest)

ends-rest : (s : Symbol) (rest : List Symbol) → ends (s ∷ rest) ≡ true → ends rest ≡ true
ends-rest s [] h = refl
ends-rest s (r ∷ rest) h = h

-- what is put before a rest that is not empty leaves its end
ends-put : (body rest : List Symbol) (s : Symbol) → ends (s ∷ rest) ≡ true → is_token s ≡ false → ends (body ++ rest) ≡ true
ends-put body [] s h n = never (sym n ∙ h)
ends-put [] (r ∷ rest) s h n = h
ends-put (b ∷ []) (r ∷ rest) s h n = h
ends-put (b ∷ c ∷ body) (r ∷ rest) s h n = ends-put (c ∷ body) (r ∷ rest) s h n

ends-on : (has : Bool) (t : Terminal) (stack after : List Symbol) → ends stack ≡ true → step has t stack ≡ Some after → ends after ≡ true
ends-on has t [] after f h = none_some h
ends-on has t (Token p ∷ rest) after f h = subst (λ s. ends s ≡ true) (test_some (admits p t) rest after h).1 (ends-rest (Token p) rest f)
ends-on has t (Close ∷ rest) after f h = ends-on has t rest after (ends-rest Close rest f) h
ends-on has t (One n ∷ rest) after f h =
    elim (put_some has n t rest None after (body_for has n t) refl h) [
      | body_on body b u i ↦ subst (λ s. ends s ≡ true) (sym i) (ends-put body rest (One n) f refl)
      | the_other o ↦ none_some o
    ]
ends-on has t (Maybe n ∷ rest) after f h =
    elim (put_some has n t rest (step has t rest) after (body_for has n t) refl h) [
      | body_on body b u i ↦ subst (λ s. ends s ≡ true) (sym i) (ends-put body rest (Maybe n) f refl)
      | the_other o ↦ ends-on has t rest after (ends-rest (Maybe n) rest f) o
    ]
ends-on has t (Many n ∷ rest) after f h =
    elim (put_some has n t (Many n ∷ rest) (step has t rest) after (body_for has n t) refl h) [
      | body_on body b u i ↦ subst (λ s. ends s ≡ true) (sym i) (ends-put body (Many n ∷ rest) (Many n) f refl)
      | the_other o ↦ ends-on has t rest after (ends-rest (Many n) rest f) o
    ]
ends-on has t (Greedy n p ∷ rest) after f h =
    elim (put_some has n t rest (cond (admits p t) None (step has t rest)) after (body_for has n t) refl h) [
      | body_on body b u i ↦ subst (λ s. ends s ≡ true) (sym i) (ends-put body rest (Greedy n p) f refl)
      | the_other o ↦ ends-on has t rest after (ends-rest (Greedy n p) rest f) (not_then (admits p t) (step has t rest) after o).1
    ]

one_more : (s : Symbol) (rest : List Symbol) → ends (s ∷ rest) ≡ true → is_token s ≡ false → rest ≡ [] → ⊥
one_more s [] h n e = never (sym n ∙ h)
one_more s (r ∷ rest) h n e = absurd cc

-- what ends with a token derives the empty list only if it is empty
nothing-left : (stack : List Symbol) → ends stack ≡ true → Derives stack [] → stack ≡ []
nothing-left stack h d.nothing = refl
nothing-left stack h (d.close rest us e) = absurd (one_more Close rest h refl (nothing-left rest (ends-rest Close rest h) e))
nothing-left stack h (d.none n rest us e) = absurd (one_more (Maybe n) rest h refl (nothing-left rest (ends-rest (Maybe n) rest h) e))
nothing-left stack h (d.last n rest us e) = absurd (one_more (Many n) rest h refl (nothing-left rest (ends-rest (Many n) rest h) e))
nothing-left stack h (d.left_out n p rest us q e) = absurd (one_more (Greedy n p) rest h refl (nothing-left rest (ends-rest (Greedy n p) rest h) e))

-- ---- the stacks that are reached

pub record Good (has : Bool) (stack : List Symbol) : Type 0 where
  pub fits : Fits nothing stack
  pub lives : grows (live has) has stack ≡ true
  pub ends : ends stack ≡ true

pub good-on : (has : Bool) (t : Terminal) (stack after : List Symbol) → Good has stack → step has t stack ≡ Some after → Good has after
good-on has t stack after g h = record { fits = preserved has t stack after g.fits h; lives = lives-on has t stack after g.lives h; ends = ends-on has t stack after g.ends h }

pub data Went (at : ℕ) (o : Option (List Symbol)) (more : List Symbol → Answer) (r : Answer) : Type 0 where
  read : (after : List Symbol) → o ≡ Some after → nat_lt 200 (levels after) ≡ false → more after ≡ r → Went at o more r
  refused : o ≡ None → r ≡ Err (Syntax at) → Went at o more r
  deep : (after : List Symbol) → o ≡ Some after → nat_lt 200 (levels after) ≡ true → r ≡ Err (TooDeep at) → Went at o more r

went-some : (at : ℕ) (after : List Symbol) (more : List Symbol → Answer) (r : Answer) (b : Bool) → b ≡ nat_lt 200 (levels after) → cond b (Err (TooDeep at)) (more after) ≡ r → Went at (Some after) more r
went-some at after more r true e h = deep after refl (sym e) (sym h)
went-some at after more r false e h = read after refl (sym e) h

went : (at : ℕ) (o : Option (List Symbol)) (more : List Symbol → Answer) (r : Answer) → go_on at o more ≡ r → Went at o more r
went at None more r h = refused refl (sym h)
went at (Some after) more r h = went-some at after more r (nat_lt 200 (levels after)) refl h

-- ---- accepted lists

pub ok_err : {B : Type 0} {f : Fault} (r : Answer) → r ≡ Ok tt → r ≡ Err f → B
ok_err r h e = absurd cc

ended-nil : (at : ℕ) (stack : List Symbol) → ended at stack ≡ Ok tt → stack ≡ []
ended-nil at [] h = refl
ended-nil at (s ∷ rest) h = ok_err (Err (Syntax at)) h refl

pub accepted : (has : Bool) (at : ℕ) (ts : List Terminal) (stack : List Symbol) → scanned_from has at ts stack ≡ Ok tt → Derives stack ts
accepted has at [] stack h = subst (λ s. Derives s []) (sym (ended-nil at stack h)) d.nothing
accepted has at (t ∷ ts) stack h =
    elim (went at (step has t stack) (scanned_from has (at + 1) ts) (Ok tt) h) [
      | read after o b m ↦ sound has t stack after ts o (accepted has (at + 1) ts after m)
      | refused o e ↦ ok_err (Ok tt) refl e
      | deep after o b e ↦ ok_err (Ok tt) refl e
    ]

-- ---- depths

not_deep : (n : ℕ) → nat_lt 200 n ≡ false → n ≤ 200
not_deep n h = grind (arith, nat_tests)

too_deep : (n : ℕ) → nat_lt 200 n ≡ true → 200 < n
too_deep n h = grind (arith, nat_tests)

shallow-none : (ds : List ℕ) → IsShallow 0 ds
shallow-none ds i h = absurd (omega arith)

shallow-more : (k n : ℕ) (ds : List ℕ) → n ≤ 200 → IsShallow k ds → IsShallow (suc k) (n ∷ ds)
shallow-more k n ds h f zero l = h
shallow-more k n ds h f (suc i) l = f i (omega arith)

shallow-step : (has : Bool) (t : Terminal) (ts : List Terminal) (stack after : List Symbol) (k : ℕ) → step has t stack ≡ Some after → nat_lt 200 (levels after) ≡ false → IsShallow k (depths_from has ts after) → IsShallow (suc k) (depths_from has (t ∷ ts) stack)
shallow-step has t ts stack after k o b f = subst (λ x. IsShallow (suc k) (depths_on x (depths_from has ts))) (sym o) (shallow-more k (levels after) (depths_from has ts after) (not_deep (levels after) b) f)

pub accepted-shallow : (has : Bool) (at : ℕ) (ts : List Terminal) (stack : List Symbol) → scanned_from has at ts stack ≡ Ok tt → IsShallow (length ts) (depths_from has ts stack)
accepted-shallow has at [] stack h = shallow-none []
accepted-shallow has at (t ∷ ts) stack h =
    elim (went at (step has t stack) (scanned_from has (at + 1) ts) (Ok tt) h) [
      | read after o b m ↦ shallow-step has t ts stack after (length ts) o b (accepted-shallow has (at + 1) ts after m)
      | refused o e ↦ ok_err (Ok tt) refl e
      | deep after o b e ↦ ok_err (Ok tt) refl e
    ]

-- ---- faults

syntax_deep : {B : Type 0} (at i : ℕ) (r : Answer) → r ≡ Err (Syntax i) → r ≡ Err (TooDeep at) → B
syntax_deep at i r h e = absurd cc

syntax_same : (at i : ℕ) (r : Answer) → r ≡ Err (Syntax i) → r ≡ Err (Syntax at) → i ≡ at
syntax_same at i r h e = cc

deep_same : (at i : ℕ) (r : Answer) → r ≡ Err (TooDeep i) → r ≡ Err (TooDeep at) → i ≡ at
deep_same at i r h e = cc

-- an end that is a fault stands at the end, with a stack that is not empty
pub record Short (at i : ℕ) (stack : List Symbol) : Type 0 where
  pub is : i ≡ at
  pub some : stack ≡ [] → ⊥

short : (at i : ℕ) (stack : List Symbol) → ended at stack ≡ Err (Syntax i) → Short at i stack
short at i [] h = ok_err (Ok tt) refl h
short at i (s ∷ rest) h = record { is = syntax_same at i (Err (Syntax at)) h refl; some = λ e. cc }

ended-deep : {B : Type 0} (at i : ℕ) (stack : List Symbol) → ended at stack ≡ Err (TooDeep i) → B
ended-deep at i [] h = ok_err (Ok tt) refl h
ended-deep at i (s ∷ rest) h = syntax_deep i at (Err (Syntax at)) refl h

module _ (has : Bool) (ex : Pattern → Terminal) (ok : (p : Pattern) → fits_classes has p ≡ true → admits p (ex p) ≡ true) where
  -- a syntax fault after so many terminals
  pub record Stopped (at : ℕ) (ts : List Terminal) (stack : List Symbol) (i : ℕ) : Type 0 where
    pub count : ℕ
    pub is : i ≡ at + count
    pub within : count ≤ length ts
    pub examples : List Pattern
    pub begun : Derives stack (take count ts ++ map ex examples)
    pub refused : count < length ts → (more : List Terminal) → Suits has more → Derives stack (take (suc count) ts ++ more) → ⊥
    pub short : count ≡ length ts → Derives stack ts → ⊥
    pub shallow : IsShallow count (depths_from has ts stack)

  pub no_step : (t : Terminal) (stack : List Symbol) (more : List Terminal) → Good has stack → Suits has more → step has t stack ≡ None → Derives stack (t ∷ more) → ⊥
  no_step t stack more g s o e = let k = complete has t more stack g.fits (suits-plain has more s) e in none_some (sym o ∙ k.is)

  pub one_step : (t : Terminal) (stack after : List Symbol) (more : List Terminal) → Good has stack → Suits has more → step has t stack ≡ Some after → Derives stack (t ∷ more) → Derives after more
  one_step t stack after more g s o e =
      let k = complete has t more stack g.fits (suits-plain has more s) e in
      subst (λ x. Derives x more) (some_same (sym k.is ∙ o)) k.derives

  suits-taken : (k : ℕ) (ts more : List Terminal) → Suits has ts → Suits has more → Suits has (take k ts ++ more)
  suits-taken zero ts more s m = m
  suits-taken (suc k) [] more s m = m
  suits-taken (suc k) (t ∷ ts) more s m = (s.0, suits-taken k ts more s.1 m)

  stopped-step : (at i : ℕ) (t : Terminal) (ts : List Terminal) (stack after : List Symbol) → Good has stack → Suits has ts → step has t stack ≡ Some after → nat_lt 200 (levels after) ≡ false → Stopped (at + 1) ts after i → Stopped at (t ∷ ts) stack i
  stopped-step at i t ts stack after g s o b p =
      record {
        count = suc p.count;
        is = p.is ∙ omega arith;
        within = let w = p.within in omega (arith, w);
        examples = p.examples;
        begun = sound has t stack after (take p.count ts ++ map ex p.examples) o p.begun;
        refused = λ l more m e. p.refused (omega (arith, l)) more m (one_step t stack after (take (suc p.count) ts ++ more) g (suits-taken (suc p.count) ts more s m) o e);
        short = λ l e. p.short (omega (arith, l)) (one_step t stack after ts g s o e);
        shallow = shallow-step has t ts stack after p.count o b p.shallow;
      }

  pub stopped : (at i : ℕ) (ts : List Terminal) (stack : List Symbol) → Good has stack → Suits has ts → scanned_from has at ts stack ≡ Err (Syntax i) → Stopped at ts stack i
  stopped at i [] stack g s h =
      let k = short at i stack h in
      let f = completed has ex ok stack g.lives in
      record {
        count = 0;
        is = k.is ∙ omega arith;
        within = omega arith;
        examples = f.examples;
        begun = f.derives;
        refused = λ l more m e. absurd (omega (arith, l));
        short = λ l e. k.some (nothing-left stack g.ends e);
        shallow = shallow-none [];
      }
  stopped at i (t ∷ ts) stack g s h =
      elim (went at (step has t stack) (scanned_from has (at + 1) ts) (Err (Syntax i)) h) [
        | read after o b m ↦ stopped-step at i t ts stack after g s.1 o b (stopped (at + 1) i ts after (good-on has t stack after g o) s.1 m)
        | refused o e ↦ (let f = completed has ex ok stack g.lives in
            record {
              count = 0;
              is = syntax_same at i (Err (Syntax i)) refl e ∙ omega arith;
              within = omega arith;
              examples = f.examples;
              begun = f.derives;
              refused = λ l more m d. no_step t stack more g m o d;
              short = λ l d. absurd (omega (arith, l));
              shallow = shallow-none (depths_from has (t ∷ ts) stack);
            })
        | deep after o b e ↦ syntax_deep at i (Err (Syntax i)) refl e
      ]

  -- too many levels after so many terminals and one
  pub record Sunk (at : ℕ) (ts : List Terminal) (stack : List Symbol) (i : ℕ) : Type 0 where
    pub count : ℕ
    pub is : i ≡ at + count
    pub within : count < length ts
    pub examples : List Pattern
    pub begun : Derives stack (take (suc count) ts ++ map ex examples)
    pub deep : 200 < get_or (depths_from has ts stack) count 0
    pub shallow : IsShallow count (depths_from has ts stack)

  pub sunk : (at i : ℕ) (ts : List Terminal) (stack : List Symbol) → Good has stack → scanned_from has at ts stack ≡ Err (TooDeep i) → Sunk at ts stack i
  sunk at i [] stack g h = ended-deep at i stack h
  sunk at i (t ∷ ts) stack g h =
      elim (went at (step has t stack) (scanned_from has (at + 1) ts) (Err (TooDeep i)) h) [
        | read after o b m ↦ (let p = sunk (at + 1) i ts after (good-on has t stack after g o) m in
            record {
              count = suc p.count;
              is = p.is ∙ omega arith;
              within = let w = p.within in omega (arith, w);
              examples = p.examples;
              begun = sound has t stack after (take (suc p.count) ts ++ map ex p.examples) o p.begun;
              deep = subst (λ x. 200 < get_or (depths_on x (depths_from has ts)) (suc p.count) 0) (sym o) p.deep;
              shallow = shallow-step has t ts stack after p.count o b p.shallow;
            })
        | refused o e ↦ syntax_deep i at (Err (TooDeep i)) e refl
        | deep after o b e ↦ (let f = completed has ex ok after (good-on has t stack after g o).lives in
            record {
              count = 0;
              is = deep_same at i (Err (TooDeep i)) refl e ∙ omega arith;
              within = omega arith;
              examples = f.examples;
              begun = sound has t stack after (map ex f.examples) o f.derives;
              deep = subst (λ x. 200 < get_or (depths_on x (depths_from has ts)) 0 0) (sym o) (too_deep (levels after) b);
              shallow = shallow-none (depths_from has (t ∷ ts) stack);
            })
      ]

-- ---- a derivable list that opens no more levels than may be is accepted

shallow_here : (n : ℕ) → n ≤ 200 → nat_lt 200 n ≡ false
shallow_here n h = grind (arith, nat_tests)

go : (at : ℕ) (o : Option (List Symbol)) (after : List Symbol) (more : List Symbol → Answer) → o ≡ Some after → nat_lt 200 (levels after) ≡ false → go_on at o more ≡ more after
go at o after more e b = ap (λ x. go_on at x more) e ∙ ap (λ x. cond x (Err (TooDeep at)) (more after)) b

pub accepts : (has : Bool) (at : ℕ) (ts : List Terminal) (stack : List Symbol) → Good has stack → Suits has ts → Derives stack ts → IsShallow (length ts) (depths_from has ts stack) → scanned_from has at ts stack ≡ Ok tt
accepts has at [] stack g s e f = ap (ended at) (nothing-left stack g.ends e)
accepts has at (t ∷ ts) stack g s e f =
    let k = complete has t ts stack g.fits (suits-plain has ts s.1) e in
    let f' : IsShallow (suc (length ts)) (levels k.after ∷ depths_from has ts k.after) = subst (λ x. IsShallow (suc (length ts)) (depths_on x (depths_from has ts))) k.is f in
    go at (step has t stack) k.after (scanned_from has (at + 1) ts) k.is (shallow_here (levels k.after) (f' 0 (omega arith))) ∙ accepts has (at + 1) ts k.after (good-on has t stack k.after g k.is) s.1 k.derives (λ i l. f' (suc i) (omega (arith, l)))
