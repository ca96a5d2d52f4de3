-- No statement begins with `else`.
use Rattle.std.proofs.Common.{◌≡◌, Bool, true, false, List, [], ◌∷◌, inl, inr, refl, ap, ◌∙◌, sym}
use Rattle.co_lex.specs.declared.token.Word.TheVariants as word
use Rattle.co_rules.specs.declared.symbol.Nonterminal.{Nonterminal}
use Rattle.co_rules.specs.declared.symbol.Nonterminal.TheVariants as n
use Rattle.co_rules.specs.declared.symbol.Pattern.TheVariants as pattern
use Rattle.co_rules.specs.declared.symbol.Symbol.{Symbol}
use Rattle.co_rules.specs.declared.symbol.Symbol.TheVariants.{One, Many}
use Rattle.co_rules.specs.declared.symbol.Terminal.{Terminal}
use Rattle.co_rules.specs.Derives.{Derives, one, more, NoneNext}
use Rattle.co_rules.specs.Pattern.{admits}
use Rattle.co_rules.specs.Rule.{Rule, Stands}
use Rattle.co_rules.proofs.Follow.{number, numbers, none_in}
use Rattle.co_rules.proofs.Numbers.{admits-number}
use Rattle.co_rules.proofs.Sets.{none_in-in}
use Rattle.co_covers.proofs.Those.{stands-those}
use Rattle.co_covers.proofs.RulesOfStatements.{of_statement as statement_rules, those_statement}

abbrev Apart : List Rule → Type 0
Apart [] = Unit {0}
Apart (r ∷ rs) = (none_in (numbers (pattern.Keyword word.Else)) (numbers r.head) ≡ true) × Apart rs

apart_in : (rs : List Rule) (r : Rule) → Apart rs → Stands r rs → none_in (numbers (pattern.Keyword word.Else)) (numbers r.head) ≡ true
apart_in [] r a s = absurd s
apart_in (q ∷ rs) r a (inl e) = ap (λ x. none_in (numbers (pattern.Keyword word.Else)) (numbers x.head)) (sym e) ∙ a.0
apart_in (q ∷ rs) r a (inr s) = apart_in rs r a.1 s

all_apart : Apart statement_rules
unfolding numbers
all_apart = (refl, (refl, (refl, (refl, (refl, (refl, (refl, (refl, (refl, (refl, (refl, (refl, (refl, (refl, (refl, (refl, (refl, (refl, (refl, (refl, (refl, (refl, (refl, (refl, (refl, (refl, tt))))))))))))))))))))))))))

not_true : (b : Bool) → (b ≡ true → ⊥) → b ≡ false
not_true true h = absurd (h refl)
not_true false h = refl

-- no statement begins with `else`
pub no_else : {R : List Symbol} {ts : List Terminal} → Derives (One n.Statement ∷ R) ts → NoneNext (pattern.Keyword word.Else) ts
no_else (one k rest body t ts b d) =
    not_true (admits (pattern.Keyword word.Else) t) (λ h. none_in-in (number t) (numbers (pattern.Keyword word.Else)) (numbers b.0.head) (apart_in statement_rules b.0 all_apart (stands-those n.Statement statement_rules those_statement t body b)) (admits-number (pattern.Keyword word.Else) t h) (admits-number b.0.head t b.3))

pub many : {k : Nonterminal} {R : List Symbol} {ts : List Terminal} → Derives (One k ∷ Many k ∷ R) ts → Derives (Many k ∷ R) ts
many {k} {R} (one j rest body t ts b d) = more k R body t ts b d
