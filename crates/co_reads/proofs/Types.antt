-- Types where the rules read them.
use Rattle.std.proofs.Common.{◌≡◌, ℕ, List, [], ◌∷◌, ◌++◌, Some, None, refl, ◌⊎◌, inl, inr}
use Rattle.co_base.specs.declared.span.Span.{Span}
use Rattle.co_base.specs.declared.kinds.AtomicKind.{AtomicKind}
use Rattle.co_base.specs.declared.kinds.AtomicKind.TheVariants as atomic_of
use Rattle.co_lex.specs.declared.token.Token.{Token}
use Rattle.co_lex.specs.declared.token.TokenKind.TheVariants as kind
use Rattle.co_lex.specs.declared.token.Mark.TheVariants as mark
use Rattle.co_lex.specs.declared.token.Word.{Word}
use Rattle.co_lex.specs.declared.token.Word.TheVariants as word
use Rattle.co_rules.specs.declared.symbol.Nonterminal.TheVariants as n
use Rattle.co_rules.specs.declared.symbol.Pattern.TheVariants as pattern
use Rattle.co_rules.specs.declared.symbol.Symbol.{Symbol}
use Rattle.co_rules.specs.declared.symbol.Symbol.TheVariants.{Token as Terminal, One, Maybe}
use Rattle.co_rules.specs.Names.{is_class}
use Rattle.co_tree.specs.Piece.{m, w, w as spelled_word}
use Rattle.co_tree.specs.Types as tree
use Rattle.co_tree.specs.Formed.{ClassPathIf}
use Rattle.co_reader.specs.Reading.{sees, expect}
use Rattle.co_reader.specs.Types.{promise, atomic, atomic_argument}
use Rattle.co_reads.specs.Runs.{Runs}
use Rattle.co_reads.specs.Spells.{Spells}
use Rattle.co_reads.specs.Takes.{Takes}
use Rattle.co_reads.proofs.Cases.{Among, NoneNext, which, one_or_none}
use Rattle.co_reads.proofs.Firsts.{Marked, marked, mark_first, Worded, worded, word_first}
use Rattle.co_reads.proofs.Paths.{class_taken}
use Rattle.co_reads.proofs.RulesOfTypes.{of_class_path, those_class_path, of_atomic_argument, those_atomic_argument, of_atomic_pointer, those_atomic_pointer}
use Rattle.co_reads.proofs.Spells.{spells_append}
use Rattle.co_reads.proofs.Steps.{expected, sees_next, unseen}

-- ---- the argument of an atomic

abbrev pub AtomicTaken : List (List ℕ) → List Symbol → List Token → Type 0
AtomicTaken C R ts = Takes atomic_argument (λ k left. Spells (tree.atomic_argument k) ts left) C (Terminal (pattern.Punctuator mark.Greater) ∷ R) ts

atomic_pointer : {C : List (List ℕ)} {R : List Symbol} {ts : List Token} (at : Span) → Marked C mark.Star (Terminal (pattern.Punctuator mark.Greater) ∷ R) ts → AtomicTaken C R (record { kind = kind.Word word.Void; span = at } ∷ ts)
unfolding atomic_argument expect sees
atomic_pointer at (marked star ts r) = record { part = atomic_of.VoidPointer; left = ts; read = refl; is = (refl, (refl, refl)); runs = r }

atomic_by_word : {C : List (List ℕ)} {R : List Symbol} {ts : List Token} (w : Word) (k : AtomicKind) → ((at : Span) (us : List Token) → atomic_argument (record { kind = kind.Word w; span = at } ∷ us) ≡ Some (k, us)) → tree.atomic_argument k ≡ spelled_word w ∷ []
    → Worded C w (Terminal (pattern.Punctuator mark.Greater) ∷ R) ts → AtomicTaken C R ts
atomic_by_word w k read spelled (worded at ts r) = record { part = k; left = ts; read = read at ts; is = rw spelled (refl, refl); runs = r }

atomic_among : (C : List (List ℕ)) (R : List Symbol) (ts : List Token) → Among C R of_atomic_argument ts → AtomicTaken C R ts
unfolding atomic_argument
atomic_among C R ts (inl h) = atomic_by_word word.Int atomic_of.Int (λ at us. refl) refl (word_first h)
atomic_among C R ts (inr (inl h)) = atomic_by_word word.Long atomic_of.Long (λ at us. refl) refl (word_first h)
atomic_among C R ts (inr (inr (inl h))) = atomic_by_word word.Bool atomic_of.Bool (λ at us. refl) refl (word_first h)
atomic_among C R ts (inr (inr (inr (inl h)))) = on_pointer (word_first h)
  where
    star : {us : List Token} (at : Span) → Among C R of_atomic_pointer us → AtomicTaken C R (record { kind = kind.Word word.Void; span = at } ∷ us)
    star at (inl h) = atomic_pointer at (mark_first h)
    star at (inr h) = absurd h

    on_pointer : {us : List Token} → Worded C word.Void (One n.AtomicPointer ∷ R) us → AtomicTaken C R us
    on_pointer (worded at us r) = star at (which those_atomic_pointer r)
atomic_among C R ts (inr (inr (inr (inr h)))) = absurd h

pub atomic_taken : {C : List (List ℕ)} {R : List Symbol} {ts : List Token} → Runs C (Terminal (pattern.Punctuator mark.Less) ∷ One n.AtomicArgument ∷ R) ts
    → Takes atomic (λ k left. Spells (m mark.Less ∷ (tree.atomic_argument k ++ m mark.Greater ∷ [])) ts left) C R ts
unfolding atomic
atomic_taken {C} {R} {ts} h =
    let a = expected mark.Less h in
    let b = atomic_among C R a.left (which those_atomic_argument a.runs) in
    let c = expected mark.Greater b.runs in
    record {
      part = b.part;
      left = c.left;
      read = rw (a.read, b.read, c.read);
      is = spells_append (m mark.Less ∷ []) (tree.atomic_argument b.part ++ m mark.Greater ∷ []) ts a.left c.left a.is (spells_append (tree.atomic_argument b.part) (m mark.Greater ∷ []) a.left b.left c.left b.is c.is);
      runs = c.runs;
    }

-- ---- the promise of a handle

abbrev pub PromiseTaken : List (List ℕ) → List Symbol → List Token → Type 0
PromiseTaken C R ts = Takes (promise (is_class C)) (λ p left. Spells (m mark.Less ∷ (tree.path_if p ++ m mark.Greater ∷ [])) ts left × ClassPathIf C p) C R ts

promise_in : {C : List (List ℕ)} {R : List Symbol} (ts us : List Token) → expect mark.Less ts ≡ Some (tt, us) → Spells (m mark.Less ∷ []) ts us
    → Runs C (One n.ClassPath ∷ Terminal (pattern.Punctuator mark.Greater) ∷ R) us ⊎ (NoneNext C of_class_path us × Runs C (Terminal (pattern.Punctuator mark.Greater) ∷ R) us) → PromiseTaken C R ts
unfolding promise
promise_in {C} {R} ts us e s (inl h) =
    let b = class_taken h in
    let c = expected mark.Greater b.runs in
    record {
      part = Some b.part;
      left = c.left;
      read = rw (e, unseen C (Terminal (pattern.Punctuator mark.Greater) ∷ R) us mark.Greater of_class_path (refl, (refl, tt)) (which those_class_path h), b.read, c.read);
      is = (spells_append (m mark.Less ∷ []) (tree.path b.part ++ m mark.Greater ∷ []) ts us c.left s (spells_append (tree.path b.part) (m mark.Greater ∷ []) us b.left c.left b.is.0 c.is), b.is.1);
      runs = c.runs;
    }
promise_in ts us e s (inr h) =
    let c = expected mark.Greater h.1 in
    record { part = None; left = c.left; read = rw (e, sees_next mark.Greater h.1, c.read); is = (spells_append (m mark.Less ∷ []) (m mark.Greater ∷ []) ts us c.left s c.is, tt); runs = c.runs }

pub promise_taken : {C : List (List ℕ)} {R : List Symbol} {ts : List Token} → Runs C (Terminal (pattern.Punctuator mark.Less) ∷ Maybe n.ClassPath ∷ Terminal (pattern.Punctuator mark.Greater) ∷ R) ts → PromiseTaken C R ts
promise_taken {ts = ts} h = let a = expected mark.Less h in promise_in ts a.left a.read a.is (one_or_none those_class_path a.runs)
