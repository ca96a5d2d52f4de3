-- What the first fault of a list of tokens means.
use Rattle.std.proofs.Common.{Option, Some, None, ◌≡◌, ℕ, zero, suc, ◌+◌, ◌<◌, ◌≤◌, Bool, false, List, [], ◌∷◌, ◌++◌, map, length, take, get_or, refl, sym, ap, ◌∙◌, subst, arith}
use Rattle.co_lex.specs.declared.token.Token.{Token}
use Rattle.co_rules.specs.declared.symbol.Pattern.{Pattern}
use Rattle.co_rules.specs.declared.symbol.Terminal.{Terminal}
use Rattle.co_rules.specs.Derives.{Derives}
use Rattle.co_grammar.specs.Laws.{IsFile, IsBegun, IsShallow, depths, AcceptsFiles, SyntaxIsFirst, DepthIsFirst, StepsAreExact, IsStep, reached, reached_on}
use Rattle.co_rules.specs.Names.{classes, has_some}
use Rattle.co_rules.specs.Rule.{start}
use Rattle.co_grammar.specs.Scan.{scanned}
use Rattle.co_rules.specs.Terminal.{terminal_of, terminals}
use Rattle.co_grammar.specs.Machine.{step}
use Rattle.co_grammar.proofs.Live.{completed}
use Rattle.co_grammar.proofs.Picks.{none_some, some_same}
use Rattle.co_grammar.proofs.Steps.{sound}
use Rattle.co_rules.specs.declared.symbol.Symbol.{Symbol}
use Rattle.co_grammar.proofs.Examples.{ArePlain, example, example-admits, plain-classes, suits-terminals}
use Rattle.co_grammar.proofs.Fits.{start-fits}
use Rattle.co_grammar.proofs.Scans.{Good, good-on, no_step, one_step, Stopped, stopped, Sunk, sunk, accepted, accepted-shallow, accepts}
use Rattle.co_grammar.proofs.Living.{start-lives}

start-good : (has : Bool) → Good has start
start-good has = record { fits = start-fits; lives = start-lives has; ends = refl }

-- ---- terminals of parts of lists

terminals-append : (names : List (List ℕ)) (xs ys : List Token) → terminals names (xs ++ ys) ≡ terminals names xs ++ terminals names ys
terminals-append names [] ys = refl
terminals-append names (x ∷ xs) ys = ap (λ r. terminal_of names x.kind ∷ r) (terminals-append names xs ys)

terminals-take : (names : List (List ℕ)) (k : ℕ) (xs : List Token) → terminals names (take k xs) ≡ take k (terminals names xs)
terminals-take names zero xs = refl
terminals-take names (suc k) [] = refl
terminals-take names (suc k) (x ∷ xs) = ap (λ r. terminal_of names x.kind ∷ r) (terminals-take names k xs)

terminals-length : (names : List (List ℕ)) (xs : List Token) → length (terminals names xs) ≡ length xs
terminals-length names [] = refl
terminals-length names (x ∷ xs) = ap suc (terminals-length names xs)

abbrev token_for : List (List ℕ) → Pattern → Token
token_for names p = record { kind = example names p; span = record { line = 1; col = 1 } }

abbrev seen : List (List ℕ) → Pattern → Terminal
seen names p = terminal_of names (example names p)

terminals-examples : (names : List (List ℕ)) (ps : List Pattern) → terminals names (map (token_for names) ps) ≡ map (seen names) ps
terminals-examples names [] = refl
terminals-examples names (p ∷ ps) = ap (λ r. seen names p ∷ r) (terminals-examples names ps)

-- a list of terminals that is completed with examples is that of a list of tokens
begun : (names : List (List ℕ)) (k : ℕ) (tokens : List Token) (ps : List Pattern) → Derives start (take k (terminals names tokens) ++ map (seen names) ps) → IsBegun names (take k tokens)
begun names k tokens ps e =
    (map (token_for names) ps, subst (Derives start) (sym (terminals-append names (take k tokens) (map (token_for names) ps) ∙ (ap (λ r. r ++ terminals names (map (token_for names) ps)) (terminals-take names k tokens) ∙ ap (λ r. take k (terminals names tokens) ++ r) (terminals-examples names ps)))) e)

one_on : (names : List (List ℕ)) (k : ℕ) (tokens more : List Token) → IsFile names (take k tokens ++ more) → Derives start (take k (terminals names tokens) ++ terminals names more)
one_on names k tokens more e = subst (Derives start) (terminals-append names (take k tokens) more ∙ ap (λ r. r ++ terminals names more) (terminals-take names k tokens)) e

-- ---- the laws

pub accepts_files : AcceptsFiles
unfolding scanned
accepts_files tokens =
    let names = classes tokens in
    let ts = terminals names tokens in
    let has = has_some names in
    let len = terminals-length names tokens in (
      λ h. (accepted has 0 ts start h, subst (λ n. IsShallow n (depths tokens)) len (accepted-shallow has 0 ts start h)),
      λ h. accepts has 0 ts start (start-good has) (suits-terminals names tokens) h.0 (subst (λ n. IsShallow n (depths tokens)) (sym len) h.1),
    )

-- what a syntax fault after so many tokens means
abbrev SyntaxAt : List Token → ℕ → Type 0
SyntaxAt tokens at =
    (at ≤ length tokens) × IsBegun (classes tokens) (take at tokens) × (at < length tokens → IsBegun (classes tokens) (take (at + 1) tokens) → ⊥) × (at ≡ length tokens → IsFile (classes tokens) tokens → ⊥) × IsShallow at (depths tokens)

one_more : (k : ℕ) → k + 1 ≡ suc k
one_more k = omega arith

syntax-count : (tokens : List Token) (at : ℕ) (p : Stopped (has_some (classes tokens)) (seen (classes tokens)) (example-admits (classes tokens) (plain-classes false tokens)) 0 (terminals (classes tokens) tokens) start at) → SyntaxAt tokens p.count
syntax-count tokens at p =
    let names = classes tokens in
    let len = terminals-length names tokens in
    let within = p.within in (
      subst (λ n. p.count ≤ n) len within,
      begun names p.count tokens p.examples p.begun,
      λ l e. p.refused (subst (λ n. p.count < n) (sym len) l) (terminals names e.0) (suits-terminals names e.0) (one_on names (suc p.count) tokens e.0 (subst (λ n. IsFile names (take n tokens ++ e.0)) (one_more p.count) e.1)),
      λ l e. p.short (l ∙ sym len) e,
      p.shallow,
    )

pub syntax_is_first : SyntaxIsFirst
unfolding scanned
syntax_is_first tokens at h =
    let names = classes tokens in
    let p = stopped (has_some names) (seen names) (example-admits names (plain-classes false tokens)) 0 at (terminals names tokens) start (start-good (has_some names)) (suits-terminals names tokens) h in
    let is : p.count ≡ at = sym (p.is ∙ omega arith) in
    subst (SyntaxAt tokens) is (syntax-count tokens at p)

-- what the other fault after so many tokens means
abbrev DepthAt : List Token → ℕ → Type 0
DepthAt tokens at = (at < length tokens) × IsBegun (classes tokens) (take (at + 1) tokens) × (200 < get_or (depths tokens) at 0) × IsShallow at (depths tokens)

depth-count : (tokens : List Token) (at : ℕ) (p : Sunk (has_some (classes tokens)) (seen (classes tokens)) (example-admits (classes tokens) (plain-classes false tokens)) 0 (terminals (classes tokens) tokens) start at) → DepthAt tokens p.count
depth-count tokens at p =
    let names = classes tokens in
    let within = p.within in (
      subst (λ n. p.count < n) (terminals-length names tokens) within,
      subst (λ n. IsBegun names (take n tokens)) (sym (one_more p.count)) (begun names (suc p.count) tokens p.examples p.begun),
      p.deep,
      p.shallow,
    )

pub depth_is_first : DepthIsFirst
unfolding scanned
depth_is_first tokens at h =
    let names = classes tokens in
    let p = sunk (has_some names) (seen names) (example-admits names (plain-classes false tokens)) 0 at (terminals names tokens) start (start-good (has_some names)) h in
    let is : p.count ≡ at = sym (p.is ∙ omega arith) in
    subst (DepthAt tokens) is (depth-count tokens at p)

-- ---- each step

good-from : (has : Bool) (t : Terminal) (stack after : List Symbol) (more : List Symbol → Option (List Symbol)) → Good has stack → ((next : List Symbol) → Good has next → more next ≡ Some after → Good has after) → (o : Option (List Symbol)) → o ≡ step has t stack → reached_on o more ≡ Some after → Good has after
good-from has t stack after more g f None e h = none_some h
good-from has t stack after more g f (Some next) e h = f next (good-on has t stack next g (sym e)) h

good-reached : (has : Bool) (ts : List Terminal) (stack after : List Symbol) → Good has stack → reached has ts stack ≡ Some after → Good has after
good-reached has [] stack after g h = subst (Good has) (some_same h) g
good-reached has (t ∷ ts) stack after g h = good-from has t stack after (reached has ts) g (λ next k. good-reached has ts next after k) (step has t stack) refl h

is-step : (names : List (List ℕ)) (plain : ArePlain names) (stack : List Symbol) (token : Token) (o : Option (List Symbol)) → Good (has_some names) stack → o ≡ step (has_some names) (terminal_of names token.kind) stack → IsStep names stack token o
is-step names plain stack token None g e = λ more h. no_step (has_some names) (seen names) (example-admits names plain) (terminal_of names token.kind) stack (terminals names more) g (suits-terminals names more) (sym e) h
is-step names plain stack token (Some after) g e = λ more. (
  λ h. one_step (has_some names) (seen names) (example-admits names plain) (terminal_of names token.kind) stack after (terminals names more) g (suits-terminals names more) (sym e) h,
  λ h. sound (has_some names) (terminal_of names token.kind) stack after (terminals names more) (sym e) h,
)

pub steps_are_exact : StepsAreExact
steps_are_exact tokens before token stack h =
    let names = classes tokens in
    let g = good-reached (has_some names) (terminals names before) start stack (start-good (has_some names)) h in
    let f = completed (has_some names) (seen names) (example-admits names (plain-classes false tokens)) stack g.lives in (
      is-step names (plain-classes false tokens) stack token (step (has_some names) (terminal_of names token.kind) stack) g refl,
      (
        map (token_for names) f.examples,
        subst (Derives stack) (sym (terminals-examples names f.examples)) f.derives,
      ),
    )
