-- What a stack may begin with, and the stacks on which nothing is left out before what it begins with.
use Rattle.std.proofs.Common.{◌≡◌, ℕ, true, ◌&&◌, List, [], ◌∷◌, ◌++◌, refl, ap, subst, inl, inr}
use Rattle.co_rules.specs.declared.symbol.Symbol.{Symbol}
use Rattle.co_rules.specs.declared.symbol.Symbol.TheVariants.{Token, One, Maybe, Many, Greedy, Close}
use Rattle.co_rules.specs.declared.symbol.Terminal.{Terminal}
use Rattle.co_rules.specs.Derives as d
use Rattle.co_rules.specs.Derives.{Derives}
use Rattle.co_rules.specs.Rule.{rules, start, in_file, in_class, in_type, in_statement, in_head, in_local, in_value, in_argument, in_unary, in_operand, from_file, from_class, from_type, from_statement, from_head, from_local, from_value, from_argument, from_unary}
use Rattle.co_rules.proofs.Follow.{number, heads, follow, firsts, fits, Set, among, add, within, apart, covered}
use Rattle.co_rules.proofs.Numbers.{admits-number}
use Rattle.co_grammar.proofs.Picks.{begins-heads}
use Rattle.co_rules.proofs.Sets.{and_split, Meets, Within, Apart, within-Within, apart-Apart, add_left, add_right, add_split}

-- no terminal comes after
abbrev pub nothing : Set
nothing = among []

-- each nonterminal of the symbols is followed by what it may be followed by alone
abbrev pub Fits : Set → List Symbol → Type 0
Fits after [] = Unit {0}
Fits after (Token p ∷ rest) = Fits after rest
Fits after (Close ∷ rest) = Fits after rest
Fits after (One n ∷ rest) = Within (firsts rest after) (follow n) × Fits after rest
Fits after (Maybe n ∷ rest) = Apart (firsts rest after) (heads n) × Within (firsts rest after) (follow n) × Fits after rest
Fits after (Many n ∷ rest) = Apart (firsts rest after) (heads n) × Within (firsts rest after) (follow n) × Within (among (heads n)) (follow n) × Fits after rest
Fits after (Greedy n p ∷ rest) = (covered p n rules ≡ true) × Within (firsts rest after) (follow n) × Fits after rest

pub fits-Fits : (after : Set) (body : List Symbol) → fits after body ≡ true → Fits after body
unfolding fits
fits-Fits after [] h = tt
fits-Fits after (Token p ∷ rest) h = fits-Fits after rest h
fits-Fits after (Close ∷ rest) h = fits-Fits after rest h
fits-Fits after (One n ∷ rest) h =
    let a = and_split (within (firsts rest after) (follow n)) (fits after rest) h in
    (within-Within (firsts rest after) (follow n) a.0, fits-Fits after rest a.1)
fits-Fits after (Maybe n ∷ rest) h =
    let a = and_split (apart (firsts rest after) (heads n) && within (firsts rest after) (follow n)) (fits after rest) h in
    let b = and_split (apart (firsts rest after) (heads n)) (within (firsts rest after) (follow n)) a.0 in
    (apart-Apart (firsts rest after) (heads n) b.0, within-Within (firsts rest after) (follow n) b.1, fits-Fits after rest a.1)
fits-Fits after (Many n ∷ rest) h =
    let a = and_split ((apart (firsts rest after) (heads n) && within (firsts rest after) (follow n)) && within (among (heads n)) (follow n)) (fits after rest) h in
    let b = and_split (apart (firsts rest after) (heads n) && within (firsts rest after) (follow n)) (within (among (heads n)) (follow n)) a.0 in
    let c = and_split (apart (firsts rest after) (heads n)) (within (firsts rest after) (follow n)) b.0 in
    (apart-Apart (firsts rest after) (heads n) c.0, within-Within (firsts rest after) (follow n) c.1, within-Within (among (heads n)) (follow n) b.1, fits-Fits after rest a.1)
fits-Fits after (Greedy n p ∷ rest) h =
    let a = and_split (covered p n rules && within (firsts rest after) (follow n)) (fits after rest) h in
    let b = and_split (covered p n rules) (within (firsts rest after) (follow n)) a.0 in
    (b.0, within-Within (firsts rest after) (follow n) b.1, fits-Fits after rest a.1)

-- ---- firsts

add_grows : (xs : List ℕ) (x y : Set) → Within x y → Within (add xs x) (add xs y)
add_grows xs x y h a m = elim (add_split a xs x m) [ inl l ↦ add_left a xs y l | inr r ↦ add_right a xs y (h a r) ]

firsts_grow : (body : List Symbol) (x y : Set) → Within x y → Within (firsts body x) (firsts body y)
firsts_grow [] x y h = h
firsts_grow (Token p ∷ rest) x y h = λ a m. m
firsts_grow (Close ∷ rest) x y h = firsts_grow rest x y h
firsts_grow (One n ∷ rest) x y h = λ a m. m
firsts_grow (Maybe n ∷ rest) x y h = add_grows (heads n) (firsts rest x) (firsts rest y) (firsts_grow rest x y h)
firsts_grow (Many n ∷ rest) x y h = add_grows (heads n) (firsts rest x) (firsts rest y) (firsts_grow rest x y h)
firsts_grow (Greedy n p ∷ rest) x y h = add_grows (heads n) (firsts rest x) (firsts rest y) (firsts_grow rest x y h)

firsts-append : (body rest : List Symbol) (after : Set) → firsts (body ++ rest) after ≡ firsts body (firsts rest after)
firsts-append [] rest after = refl
firsts-append (Token p ∷ body) rest after = refl
firsts-append (Close ∷ body) rest after = firsts-append body rest after
firsts-append (One n ∷ body) rest after = refl
firsts-append (Maybe n ∷ body) rest after = ap (add (heads n)) (firsts-append body rest after)
firsts-append (Many n ∷ body) rest after = ap (add (heads n)) (firsts-append body rest after)
firsts-append (Greedy n p ∷ body) rest after = ap (add (heads n)) (firsts-append body rest after)

-- what is put before a rest begins as it may before all that may follow it
before : (body rest : List Symbol) (x after : Set) → Within (firsts rest after) x → Within (firsts (body ++ rest) after) (firsts body x)
before body rest x after h a m = firsts_grow body (firsts rest after) x h a (subst (λ s. Meets a s) (firsts-append body rest after) m)

pub fits-append : (body rest : List Symbol) (x after : Set) → Within (firsts rest after) x → Fits x body → Fits after rest → Fits after (body ++ rest)
fits-append [] rest x after h f g = g
fits-append (Token p ∷ body) rest x after h f g = fits-append body rest x after h f g
fits-append (Close ∷ body) rest x after h f g = fits-append body rest x after h f g
fits-append (One n ∷ body) rest x after h f g = (λ a m. f.0 a (before body rest x after h a m), fits-append body rest x after h f.1 g)
fits-append (Maybe n ∷ body) rest x after h f g =
    (λ a m. f.0 a (before body rest x after h a m), λ a m. f.1 a (before body rest x after h a m), fits-append body rest x after h f.2 g)
fits-append (Many n ∷ body) rest x after h f g =
    (λ a m. f.0 a (before body rest x after h a m), λ a m. f.1 a (before body rest x after h a m), f.2, fits-append body rest x after h f.3 g)
fits-append (Greedy n p ∷ body) rest x after h f g = (f.0, λ a m. f.1 a (before body rest x after h a m), fits-append body rest x after h f.2 g)

-- what a list of symbols derives begins with what it may
pub derives-first : (stack : List Symbol) (t : Terminal) (ts : List Terminal) (after : Set) → Derives stack (t ∷ ts) → Meets (number t) (firsts stack after)
derives-first stack t ts after (d.token p rest u us a e) = admits-number p u a
derives-first stack t ts after (d.close rest us e) = derives-first rest t ts after e
derives-first stack t ts after (d.one n rest body u us b e) = begins-heads n u body b
derives-first stack t ts after (d.some n rest body u us b e) = add_left (number u) (heads n) (firsts rest after) (begins-heads n u body b)
derives-first stack t ts after (d.none n rest us e) = add_right (number t) (heads n) (firsts rest after) (derives-first rest t ts after e)
derives-first stack t ts after (d.more n rest body u us b e) = add_left (number u) (heads n) (firsts rest after) (begins-heads n u body b)
derives-first stack t ts after (d.last n rest us e) = add_right (number t) (heads n) (firsts rest after) (derives-first rest t ts after e)
derives-first stack t ts after (d.taken n p rest body u us b e) = add_left (number u) (heads n) (firsts rest after) (begins-heads n u body b)
derives-first stack t ts after (d.left_out n p rest us q e) = add_right (number t) (heads n) (firsts rest after) (derives-first rest t ts after e)

pub start-fits : Fits nothing start
unfolding fits heads follow in_file in_class in_type in_statement in_head in_local in_value in_argument in_unary in_operand from_file from_class from_type from_statement from_head from_local from_value from_argument from_unary Rattle.co_rules.proofs.Follow.numbers
start-fits = fits-Fits nothing start refl
