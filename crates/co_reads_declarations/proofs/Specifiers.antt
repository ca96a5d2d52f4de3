-- The specifiers of functions where the rules read them.
use Rattle.std.proofs.Common.{◌≡◌, ℕ, zero, suc, ◌≤◌, List, [], ◌∷◌, ◌++◌, length, Some, None, refl, ◌⊎◌, inl, inr, arith}
use Rattle.co_lex.specs.declared.token.Token.{Token}
use Rattle.co_lex.specs.declared.token.TokenKind.TheVariants as kind
use Rattle.co_lex.specs.declared.token.Word.{Word}
use Rattle.co_lex.specs.declared.token.Word.TheVariants as word
use Rattle.co_rules.specs.declared.symbol.Nonterminal.TheVariants as n
use Rattle.co_rules.specs.declared.symbol.Symbol.{Symbol}
use Rattle.co_rules.specs.declared.symbol.Symbol.TheVariants.{Many}
use Rattle.co_rules.specs.Names.{has_some}
use Rattle.co_tree.specs.declared.declarations.FunctionSpecifier.{FunctionSpecifier}
use Rattle.co_tree.specs.declared.declarations.FunctionSpecifier.TheVariants as specifier_of
use Rattle.co_tree.specs.Declarations as tree
use Rattle.co_tree.specs.Derives.{StandsAt}
use Rattle.co_reader.specs.Reading.{lead, lead_of, place}
use Rattle.co_parse.specs.Declarations.{specifier, specifiers_from, specifiers}
use Rattle.co_reads.specs.Runs.{Runs}
use Rattle.co_reads.specs.Spells.{Spells}
use Rattle.co_reads.specs.Takes.{Takes}
use Rattle.co_reads.proofs.Cases.{Among, NoneNext, HasMore, IsSome, some_left, again, usable, none_left, some_among}
use Rattle.co_reads.proofs.Firsts.{Worded, worded}
use Rattle.co_reads_declarations.proofs.RulesOfDeclarations.{of_specifier, those_specifier}
use Rattle.co_reads_declarations.proofs.Turns.{Turns, no_turn, one_turn}
use Rattle.co_reads_declarations.proofs.Words.{SpecifierNext, specifier_next, specifier_first, no_specifier}

abbrev SpecifiersTurn : List (List ℕ) → ℕ → List Symbol → List FunctionSpecifier → List Token → Type 0
SpecifiersTurn C k R found ts = Turns (specifiers_from k) tree.specifiers (λ s. Unit {0}) C R found ts

specifier_lead : (s : FunctionSpecifier) → specifier (lead_of (kind.Word (tree.specifier_word s))) ≡ Some s
specifier_lead specifier_of.Static = refl
specifier_lead specifier_of.Inline = refl

one_more : {C : List (List ℕ)} {R : List Symbol} {ts : List Token} (k : ℕ) (found : List FunctionSpecifier) → length ts ≤ suc k → ((all : List FunctionSpecifier) (us : List Token) → length us ≤ k → Runs C (Many n.Specifier ∷ R) us → SpecifiersTurn C k R all us)
    → SpecifierNext C (Many n.Specifier ∷ R) ts → SpecifiersTurn C (suc k) R found ts
unfolding specifiers_from
one_more k found b more (specifier_next s at ts r) = one_turn s ts (rw (specifier_lead s) refl) tt (λ all left p. (refl, p)) (more (found ++ s ∷ []) ts (omega (arith, b)) r)

unspecified : (C : List (List ℕ)) (ts : List Token) → NoneNext C of_specifier ts → specifier (lead ts) ≡ None
unspecified C [] h = absurd h
unspecified C (t ∷ ts) h = no_specifier C t.kind (h.0 (usable (has_some C)))

no_more : {C : List (List ℕ)} {R : List Symbol} (k : ℕ) (found : List FunctionSpecifier) (ts : List Token) → specifier (lead ts) ≡ None → Runs C R ts → SpecifiersTurn C (suc k) R found ts
unfolding specifiers_from
no_more k found ts h r = no_turn ts (rw h refl) refl r

specifiers_on : (C : List (List ℕ)) (R : List Symbol) (k : ℕ) (found : List FunctionSpecifier) (ts : List Token) → length ts ≤ k → Among C (Many n.Specifier ∷ R) of_specifier ts ⊎ (NoneNext C of_specifier ts × Runs C R ts) → SpecifiersTurn C k R found ts
specifiers_on C R zero found ts b (inl h) = absurd (none_left ts (some_among C (Many n.Specifier ∷ R) ts of_specifier h) b)
specifiers_on C R zero found [] b (inr h) = absurd h.0
specifiers_on C R zero found (t ∷ ts) b (inr h) = absurd (omega (arith, b))
specifiers_on C R (suc k) found ts b (inl (inl h)) = one_more k found b (λ all us q r. specifiers_on C R k all us q (again those_specifier r)) (specifier_first h)
specifiers_on C R (suc k) found ts b (inl (inr h)) = absurd h
specifiers_on C R (suc k) found ts b (inr h) = no_more k found ts (unspecified C ts h.0) h.1

abbrev pub SpecifiersTaken : List (List ℕ) → List Symbol → List Token → Type 0
SpecifiersTaken C R ts = Takes specifiers (λ found left. Spells (tree.specifiers found) ts left) C R ts

-- the specifiers after the first
pub specifiers_taken : {C : List (List ℕ)} {R : List Symbol} {ts : List Token} → SpecifierNext C (Many n.Specifier ∷ R) ts → SpecifiersTaken C R ts
unfolding specifiers specifiers_from
specifiers_taken {C} {R} (specifier_next s at ts r) =
    let t = specifiers_on C R (length ts) (s ∷ []) ts (omega arith) (again those_specifier r) in
    record { part = s ∷ t.more; left = t.left; read = rw (specifier_lead s, t.read); is = (refl, t.spelled); runs = t.runs }

-- there are none
pub no_specifiers : (ts : List Token) → specifier (lead ts) ≡ None → (length ts ≡ 0 → ⊥) → specifiers ts ≡ Some ([], ts)
unfolding specifiers specifiers_from
no_specifiers [] h b = absurd (b refl)
no_specifiers (t ∷ ts) h b = rw h

-- ---- what comes first

pub specified_stands : {C : List (List ℕ)} {R : List Symbol} {ts : List Token} → SpecifierNext C R ts → StandsAt ts (place ts)
specified_stands (specifier_next s at ts r) = refl

pub worded_stands : {C : List (List ℕ)} {R : List Symbol} {x : Word} {ts : List Token} → Worded C x R ts → StandsAt ts (place ts)
worded_stands (worded at ts r) = refl

pub auto_specifiers : {C : List (List ℕ)} {R : List Symbol} {ts : List Token} → Worded C word.Auto R ts → specifiers ts ≡ Some ([], ts)
unfolding specifiers specifiers_from
auto_specifiers (worded at ts r) = refl

some_length : (ts : List Token) → IsSome ts → length ts ≡ 0 → ⊥
some_length [] h e = h
some_length (t ∷ ts) h e = omega (arith, e)

pub not_none : {C : List (List ℕ)} {R : List Symbol} {ts : List Token} → Runs C R ts → HasMore R → length ts ≡ 0 → ⊥
not_none {ts = ts} r h e = some_length ts (some_left r h) e
