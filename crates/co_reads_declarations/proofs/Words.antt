-- Words that may stand, keys of classes and specifiers where the rules read them.
use Rattle.std.proofs.Common.{◌≡◌, ℕ, true, false, List, [], ◌∷◌, None, refl, sym, subst, inl, inr}
use Rattle.co_base.specs.declared.span.Span.{Span}
use Rattle.co_lex.specs.declared.token.Token.{Token}
use Rattle.co_lex.specs.declared.token.TokenKind.{TokenKind}
use Rattle.co_lex.specs.declared.token.TokenKind.TheVariants as kind
use Rattle.co_lex.specs.declared.token.Word.{Word}
use Rattle.co_lex.specs.declared.token.Word.TheVariants as word
use Rattle.co_rules.specs.declared.symbol.Nonterminal.{Nonterminal}
use Rattle.co_rules.specs.declared.symbol.Pattern.TheVariants as pattern
use Rattle.co_rules.specs.declared.symbol.Symbol.{Symbol}
use Rattle.co_rules.specs.declared.symbol.Symbol.TheVariants.{Token as Terminal, Maybe}
use Rattle.co_rules.specs.Names.{has_some}
use Rattle.co_rules.specs.Pattern.{admits, word_number}
use Rattle.co_rules.specs.Rule.{rule, rules}
use Rattle.co_rules.specs.Terminal.{terminal_of}
use Rattle.co_rules.proofs.Sets.{never, true_eq}
use Rattle.co_tree.specs.declared.declarations.ClassKey.{ClassKey}
use Rattle.co_tree.specs.declared.declarations.ClassKey.TheVariants as key
use Rattle.co_tree.specs.declared.declarations.FunctionSpecifier.{FunctionSpecifier}
use Rattle.co_tree.specs.declared.declarations.FunctionSpecifier.TheVariants as specifier_of
use Rattle.co_tree.specs.declared.declarations.AccessSpecifier.{AccessSpecifier}
use Rattle.co_tree.specs.declared.declarations.AccessSpecifier.TheVariants as access
use Rattle.co_tree.specs.Declarations.{key_word, specifier_word, access_word}
use Rattle.co_reader.specs.Reading.{lead_of, sees_word, after_word}
use Rattle.co_parse.specs.Declarations.{specifier}
use Rattle.co_reads.specs.Runs.{Runs, token as read_token}
use Rattle.co_reads.proofs.Cases.{NoneNext, whether, usable}
use Rattle.co_reads.proofs.Firsts.{Worded, worded, word_first}
use Rattle.co_reads.proofs.Fronts.{after_word-eaten, after_word-left}
use Rattle.co_reads.proofs.Steps.{refused_word}
use Rattle.co_reads.proofs.Those.{those}

-- ---- a word that may stand

sees_word_here : (x : Word) (at : Span) (ts : List Token) → sees_word x (record { kind = kind.Word x; span = at } ∷ ts) ≡ true
unfolding sees_word
sees_word_here x at ts = true_eq (word_number x) (word_number x) refl

word_said : {C : List (List ℕ)} {R : List Symbol} {ts : List Token} (x : Word) → Worded C x R ts → Runs C R (after_word x ts)
word_said {C} {R} x (worded at ts r) = subst (λ u. Runs C R u) (sym (after_word-eaten x (record { kind = kind.Word x; span = at } ∷ ts) (sees_word_here x at ts))) r

unseen_next : (C : List (List ℕ)) (N : Nonterminal) (x : Word) (ts : List Token) → NoneNext C (rule N (pattern.Keyword x) [] ∷ []) ts → sees_word x ts ≡ false
unseen_next C N x [] h = absurd h
unseen_next C N x (t ∷ ts) h = refused_word C x t ts (h.0 (usable (has_some C)))

-- what is behind a word that may stand
pub behind_word : {C : List (List ℕ)} {R : List Symbol} {ts : List Token} {N : Nonterminal} (x : Word) → those N rules ≡ rule N (pattern.Keyword x) [] ∷ [] → Runs C (Maybe N ∷ R) ts → Runs C R (after_word x ts)
behind_word {C = C} {R = R} {ts = ts} {N = N} x e h =
    elim (whether e h) [
      | inl q ↦ elim q [ inl s ↦ word_said x (word_first s) | inr s ↦ absurd s ]
      | inr q ↦ subst (λ u. Runs C R u) (sym (after_word-left x ts (unseen_next C N x ts q.0))) q.1
    ]

-- ---- keys of classes

pub data KeyNext (C : List (List ℕ)) (R : List Symbol) : List Token → Type 0 where
  key_next : (k : ClassKey) (at : Span) (ts : List Token) → Runs C R ts → KeyNext C R (record { kind = kind.Word (key_word k); span = at } ∷ ts)

key_kind : (C : List (List ℕ)) (R : List Symbol) (k : TokenKind) (at : Span) (ts : List Token) → admits pattern.ClassKey (terminal_of C k) ≡ true → Runs C R ts → KeyNext C R (record { kind = k; span = at } ∷ ts)
unfolding admits
key_kind C R (kind.Word word.Struct) at ts h r = key_next key.Struct at ts r
key_kind C R (kind.Word word.Class) at ts h r = key_next key.Class at ts r
key_kind C R k at ts h r = never h

pub key_first : {C : List (List ℕ)} {R : List Symbol} {ts : List Token} → Runs C (Terminal pattern.ClassKey ∷ R) ts → KeyNext C R ts
key_first {C} (read_token p R t ts a few r) = key_kind C R t.kind t.span ts a r

-- ---- specifiers of functions

pub data SpecifierNext (C : List (List ℕ)) (R : List Symbol) : List Token → Type 0 where
  specifier_next : (s : FunctionSpecifier) (at : Span) (ts : List Token) → Runs C R ts → SpecifierNext C R (record { kind = kind.Word (specifier_word s); span = at } ∷ ts)

specifier_kind : (C : List (List ℕ)) (R : List Symbol) (k : TokenKind) (at : Span) (ts : List Token) → admits pattern.FunctionSpecifier (terminal_of C k) ≡ true → Runs C R ts → SpecifierNext C R (record { kind = k; span = at } ∷ ts)
unfolding admits
specifier_kind C R (kind.Word word.Static) at ts h r = specifier_next specifier_of.Static at ts r
specifier_kind C R (kind.Word word.Inline) at ts h r = specifier_next specifier_of.Inline at ts r
specifier_kind C R k at ts h r = never h

pub specifier_first : {C : List (List ℕ)} {R : List Symbol} {ts : List Token} → Runs C (Terminal pattern.FunctionSpecifier ∷ R) ts → SpecifierNext C R ts
specifier_first {C} (read_token p R t ts a few r) = specifier_kind C R t.kind t.span ts a r

pub no_specifier : (C : List (List ℕ)) (k : TokenKind) → admits pattern.FunctionSpecifier (terminal_of C k) ≡ false → specifier (lead_of k) ≡ None
unfolding admits
no_specifier C (kind.Word word.Static) h = never (sym h)
no_specifier C (kind.Word word.Inline) h = never (sym h)
no_specifier C k h = refl

-- ---- access specifiers

pub data AccessNext (C : List (List ℕ)) (R : List Symbol) : List Token → Type 0 where
  access_next : (s : AccessSpecifier) (at : Span) (ts : List Token) → Runs C R ts → AccessNext C R (record { kind = kind.Word (access_word s); span = at } ∷ ts)

access_kind : (C : List (List ℕ)) (R : List Symbol) (k : TokenKind) (at : Span) (ts : List Token) → admits pattern.AccessSpecifier (terminal_of C k) ≡ true → Runs C R ts → AccessNext C R (record { kind = k; span = at } ∷ ts)
unfolding admits
access_kind C R (kind.Word word.Public) at ts h r = access_next access.Public at ts r
access_kind C R (kind.Word word.Private) at ts h r = access_next access.Private at ts r
access_kind C R (kind.Word word.Protected) at ts h r = access_next access.Protected at ts r
access_kind C R k at ts h r = never h

pub access_first : {C : List (List ℕ)} {R : List Symbol} {ts : List Token} → Runs C (Terminal pattern.AccessSpecifier ∷ R) ts → AccessNext C R ts
access_first {C} (read_token p R t ts a few r) = access_kind C R t.kind t.span ts a r
