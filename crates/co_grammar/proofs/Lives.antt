-- The test that each nonterminal derives some list.
use Rattle.std.specs.Prelude.{ℕ, zero, suc, Bool, true, false, not, ◌&&◌, ◌||◌, nat_eq, List, [], ◌∷◌}
use Rattle.co_rules.specs.declared.symbol.Nonterminal.{Nonterminal}
use Rattle.co_rules.specs.declared.symbol.Nonterminal.TheVariants as nonterminal
use Rattle.co_rules.specs.declared.symbol.Pattern.{Pattern}
use Rattle.co_rules.specs.declared.symbol.Pattern.TheVariants as pattern
use Rattle.co_rules.specs.declared.symbol.Symbol.{Symbol}
use Rattle.co_rules.specs.declared.symbol.Symbol.TheVariants.{Token, One, Maybe, Many, Greedy, Close}
use Rattle.co_grammar.specs.Machine.{needs_class, is_usable}
use Rattle.co_rules.specs.Pattern.{nonterminal_number}
use Rattle.co_rules.specs.Rule.{Rule, rules}
use Rattle.std.specs.List.{list_any}

abbrev pub is_class_pattern : Pattern → Bool
is_class_pattern pattern.ClassName = true
is_class_pattern _ = false

-- a token of the pattern needs no class, or there is one
abbrev pub fits_classes : Bool → Pattern → Bool
fits_classes has p = has || not (is_class_pattern p)

-- each symbol that derives a token derives some list, where the nonterminals that are told do
abbrev pub grows : (Nonterminal → Bool) → Bool → List Symbol → Bool
grows f has [] = true
grows f has (Token p ∷ rest) = fits_classes has p && grows f has rest
grows f has (Close ∷ rest) = grows f has rest
grows f has (One n ∷ rest) = f n && grows f has rest
grows f has (Maybe n ∷ rest) = grows f has rest
grows f has (Many n ∷ rest) = grows f has rest
grows f has (Greedy n p ∷ rest) = f n && grows f has rest

abbrev pub living : (Nonterminal → Bool) → Bool → Nonterminal → List Rule → Bool
living f has n [] = false
living f has n (r ∷ rs) = (nat_eq (nonterminal_number r.of) (nonterminal_number n) && (fits_classes has r.head && grows f has r.body)) || living f has n rs

-- the nonterminal derives a list in so many rounds
abbrev pub lives : ℕ → Bool → Nonterminal → Bool
lives zero has n = false
lives (suc k) has n = living (lives k has) has n rules

-- what derives a list: each nonterminal but those of paths to classes, where there is no class
abbrev pub live : Bool → Nonterminal → Bool
live has n = has || not (nat_eq (nonterminal_number n) (nonterminal_number nonterminal.ClassPath) || nat_eq (nonterminal_number n) (nonterminal_number nonterminal.InnerClass))

-- each rule's body that is usable derives a list
abbrev pub all_live : Bool → List Rule → Bool
all_live has [] = true
all_live has (r ∷ rs) = (not (is_usable has r.body) || grows (live has) has r.body) && all_live has rs

-- each rule of a path to a class begins with the name of one or has such a path
abbrev pub all_barren : List Rule → Bool
all_barren [] = true
all_barren (r ∷ rs) = (not (nat_eq (nonterminal_number r.of) (nonterminal_number nonterminal.ClassPath)) || (is_class_pattern r.head || list_any needs_class r.body)) && all_barren rs
