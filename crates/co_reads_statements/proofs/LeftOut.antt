-- What may be left out: where a rule of it reads the tokens, and where no rule of it begins with the next one.
use Rattle.std.proofs.Common.{◌≡◌, ℕ, Bool, true, false, List, [], ◌∷◌, ◌++◌, refl, sym, ◌∙◌, subst, inl, inr}
use Rattle.co_lex.specs.declared.token.Token.{Token}
use Rattle.co_lex.specs.declared.token.TokenKind.{TokenKind}
use Rattle.co_rules.specs.declared.symbol.Nonterminal.{Nonterminal}
use Rattle.co_rules.specs.declared.symbol.Pattern.{Pattern}
use Rattle.co_rules.specs.declared.symbol.Symbol.{Symbol}
use Rattle.co_rules.specs.declared.symbol.Symbol.TheVariants.{Token as Terminal, Maybe}
use Rattle.co_rules.specs.declared.symbol.Terminal.{Terminal as Seen}
use Rattle.co_rules.specs.Names.{has_some}
use Rattle.co_rules.specs.Pattern.{admits}
use Rattle.co_rules.specs.Rule.{Rule, rule, rules, Stands}
use Rattle.co_rules.specs.Terminal.{terminal_of}
use Rattle.co_rules.proofs.Follow.{number, numbers, none_in}
use Rattle.co_rules.proofs.Numbers.{admits-number}
use Rattle.co_rules.proofs.Sets.{never, none_in-in}
use Rattle.co_grammar.specs.Machine.{is_usable}
use Rattle.co_reads.specs.Runs.{flat, Runs, token, some, none}
use Rattle.co_reads.proofs.Cases.{BeginsNone}
use Rattle.co_reads.proofs.Those.{those, those-in, stands-those}

-- a rule reads what may be left out
pub may_by : {C : List (List ℕ)} {R : List Symbol} {ts : List Token} {rs : List Rule} {n : Nonterminal} {p : Pattern} (body : List Symbol) → those n rules ≡ rs → Stands (rule n p body) rs → Runs C (Terminal p ∷ (flat body ++ R)) ts → Runs C (Maybe n ∷ R) ts
may_by {C} {R} {ts} {rs} {n} {p} body e s (token _ _ t later a few h) =
    some n R body t later (rule n p body, those-in n rules (rule n p body) (subst (λ qs. Stands (rule n p body) qs) (sym e) s), refl, a, refl) few h

barred : (C : List (List ℕ)) (k : TokenKind) (rs : List Rule) (r : Rule) → BeginsNone C k rs → Stands r rs → is_usable (has_some C) r.body ≡ true → admits r.head (terminal_of C k) ≡ true → ⊥
barred C k [] r b s u a = s
barred C k (q ∷ rs) r b (inl e) u a = let f = subst (λ x. is_usable (has_some C) x.body ≡ true → admits x.head (terminal_of C k) ≡ false) e b.0 in never (sym (f u) ∙ a)
barred C k (q ∷ rs) r b (inr s) u a = barred C k rs r b.1 s u a

-- no rule of it begins with the token
pub none_by : {C : List (List ℕ)} {R : List Symbol} {rs : List Rule} {n : Nonterminal} (t : Token) (ts : List Token) → those n rules ≡ rs → BeginsNone C t.kind rs → Runs C R (t ∷ ts) → Runs C (Maybe n ∷ R) (t ∷ ts)
none_by {C} {R} {rs} {n} t ts e b h =
    none n R t ts (λ body g u. barred C t.kind rs g.0 b (stands-those n rs e (terminal_of C t.kind) body g) (subst (λ x. is_usable (has_some C) x ≡ true) (sym g.4) u) g.3) h

-- no token is both of the pattern and the first of one of the rules
abbrev pub Apart : Pattern → List Rule → Type 0
Apart p [] = Unit {0}
Apart p (r ∷ rs) = (none_in (numbers p) (numbers r.head) ≡ true) × Apart p rs

no_true : (b : Bool) → (b ≡ true → ⊥) → b ≡ false
no_true true f = absurd (f refl)
no_true false f = refl

pub other_pattern : (p q : Pattern) (t : Seen) → none_in (numbers p) (numbers q) ≡ true → admits p t ≡ true → admits q t ≡ false
other_pattern p q t h a = no_true (admits q t) (λ b. none_in-in (number t) (numbers p) (numbers q) h (admits-number p t a) (admits-number q t b))

pub begins_none : (C : List (List ℕ)) (k : TokenKind) (p : Pattern) (rs : List Rule) → Apart p rs → admits p (terminal_of C k) ≡ true → BeginsNone C k rs
begins_none C k p [] h a = tt
begins_none C k p (r ∷ rs) h a = ((λ u. other_pattern p r.head (terminal_of C k) h.0 a), begins_none C k p rs h.1 a)

-- where the first token is of the pattern, what begins with none such is left out
pub left_out : {C : List (List ℕ)} {R S : List Symbol} {ts : List Token} {rs : List Rule} {n : Nonterminal} {p : Pattern} → those n rules ≡ rs → Apart p rs → Runs C (Terminal p ∷ S) ts → Runs C R ts → Runs C (Maybe n ∷ R) ts
left_out {C} {rs = rs} e h (token p S t ts a few r) x = none_by t ts e (begins_none C t.kind p rs h a) x
