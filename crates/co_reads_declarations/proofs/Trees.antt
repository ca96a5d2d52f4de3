-- What is parsed is what the grammar of the tree derives.
use Rattle.std.proofs.Common.{◌≡◌, ℕ, zero, suc, ◌+◌, ◌<◌, ◌≤◌, Bool, true, false, cond, nat_lt, List, [], ◌∷◌, drop, length, Option, Some, None, Result, Ok, Err, refl, sym, ap, ◌∙◌, subst, ◌⊎◌, inl, inr, arith}
use Rattle.std.proofs.lemmas.List.{take-append-drop}
use Rattle.co_lex.specs.declared.token.Token.{Token}
use Rattle.co_grammar.specs.declared.fault.Fault.{Fault}
use Rattle.co_grammar.specs.declared.fault.Fault.TheVariants as fault
use Rattle.co_grammar.specs.Laws.{IsFile}
use Rattle.co_grammar.specs.Machine.{step, levels}
use Rattle.co_grammar.specs.Scan.{ended, go_on, scanned_from, scanned}
use Rattle.co_grammar.proofs.Exact.{syntax_is_first}
use Rattle.co_rules.specs.Names.{classes, has_some}
use Rattle.co_rules.specs.Rule.{start}
use Rattle.co_rules.specs.Terminal.{terminals}
use Rattle.co_rules.specs.declared.symbol.Symbol.{Symbol}
use Rattle.co_rules.specs.declared.symbol.Terminal.{Terminal}
use Rattle.co_tree.specs.declared.declarations.Tree.{Tree}
use Rattle.co_tree.specs.FormedTree.{Derives}
use Rattle.co_covers.proofs.Files.{each_tree_is_a_file}
use Rattle.co_parse.specs.declared.fault.ParseFault.{ParseFault}
use Rattle.co_parse.specs.Parse.{placed, parsed_by, parsed}
use Rattle.co_reads.proofs.Machine.{scanned_runs}
use Rattle.co_reads_declarations.specs.Laws.{Parses, AnswersDerive, IsNoSyntaxFault, RefusesNoTree, SyntaxFaultsAreOfNoTree}
use Rattle.co_reads_declarations.proofs.Files.{built_read}

pub parses : Parses
unfolding parsed
parses tokens e =
    let b = built_read (classes tokens) tokens (scanned_runs tokens e) in
    (b.tree, ap (parsed_by tokens) e ∙ b.read, b.derives)

-- ---- the answer

abbrev Answer : Type 0
Answer = Result Tree ParseFault

same_tree : {t u : Tree} (r : Answer) → r ≡ Ok t → r ≡ Ok u → t ≡ u
same_tree r e h = cc

no_answer : {f : ParseFault} {t : Tree} (r : Answer) → r ≡ Err f → r ≡ Ok t → ⊥
no_answer r e h = absurd cc

pub answers_derive : AnswersDerive
unfolding parsed
answers_derive tokens tree h = on (scanned tokens) refl
  where
    on : (r : Result (Unit {0}) Fault) → scanned tokens ≡ r → Derives (classes tokens) tree tokens
    on (Ok u) e = let p = parses tokens e in subst (λ t. Derives (classes tokens) t tokens) (same_tree (parsed tokens) p.1 h) p.2
    on (Err f) e = absurd (no_answer {f = placed tokens f} (parsed tokens) (ap (parsed_by tokens) e) h)

-- ---- tokens that a tree derives

none_ended : (at : ℕ) (stack : List Symbol) → ended at stack ≡ Err fault.NoMemory → ⊥
none_ended at [] h = absurd cc
none_ended at (s ∷ rest) h = absurd cc

none_on : (at : ℕ) (o : Option (List Symbol)) (more : List Symbol → Result (Unit {0}) Fault) → ((stack : List Symbol) → more stack ≡ Err fault.NoMemory → ⊥) → go_on at o more ≡ Err fault.NoMemory → ⊥
none_on at None more f h = absurd cc
none_on at (Some stack) more f h = by_depth (nat_lt 200 (levels stack)) h
  where
    by_depth : (b : Bool) → cond b (Err (fault.TooDeep at)) (more stack) ≡ Err fault.NoMemory → ⊥
    by_depth true h = absurd cc
    by_depth false h = f stack h

-- a scan never lacks memory
never_without_memory : (has : Bool) (at : ℕ) (ts : List Terminal) (stack : List Symbol) → scanned_from has at ts stack ≡ Err fault.NoMemory → ⊥
never_without_memory has at [] stack h = none_ended at stack h
never_without_memory has at (t ∷ ts) stack h = none_on at (step has t stack) (scanned_from has (at + 1) ts) (λ next k. never_without_memory has (at + 1) ts next k) h

at_or_before : (a n : ℕ) → a ≤ n → (a < n) ⊎ (a ≡ n)
at_or_before zero zero h = inr refl
at_or_before zero (suc n) h = inl (omega arith)
at_or_before (suc a) zero h = absurd (omega (arith, h))
at_or_before (suc a) (suc n) h = elim (at_or_before a n (omega (arith, h))) [ inl l ↦ inl (omega (arith, l)) | inr e ↦ inr (ap suc e) ]

no_syntax_fault : (tokens : List Token) (at : ℕ) → IsFile (classes tokens) tokens → scanned tokens ≡ Err (fault.Syntax at) → ⊥
no_syntax_fault tokens at file h =
    let p = syntax_is_first tokens at h in
    elim (at_or_before at (length tokens) p.0) [
      | inl b ↦ p.2 b (drop (at + 1) tokens, subst (IsFile (classes tokens)) (sym (take-append-drop (at + 1) tokens)) file)
      | inr e ↦ p.3 e file
    ]

no_memory : (tokens : List Token) → scanned tokens ≡ Err fault.NoMemory → ⊥
unfolding scanned
no_memory tokens e = never_without_memory (has_some (classes tokens)) 0 (terminals (classes tokens) tokens) start e

pub refuses_no_tree : RefusesNoTree
unfolding parsed
refuses_no_tree tokens tree d = on (scanned tokens) refl
  where
    on : (r : Result (Unit {0}) Fault) → scanned tokens ≡ r → IsNoSyntaxFault (parsed tokens)
    on (Ok u) e = let p = parses tokens e in subst IsNoSyntaxFault (sym p.1) tt
    on (Err (fault.Syntax at)) e = absurd (no_syntax_fault tokens at (each_tree_is_a_file (classes tokens) tree tokens d) e)
    on (Err (fault.TooDeep at)) e = subst IsNoSyntaxFault (sym (ap (parsed_by tokens) e)) tt
    on (Err fault.NoMemory) e = absurd (no_memory tokens e)

pub syntax_faults_are_of_no_tree : SyntaxFaultsAreOfNoTree
unfolding parsed
syntax_faults_are_of_no_tree tokens at e =
    let p = syntax_is_first tokens at e in
    (ap (parsed_by tokens) e, (λ before tree more d. p.2 before (more, each_tree_is_a_file (classes tokens) tree _ d)), (λ last tree d. p.3 last (each_tree_is_a_file (classes tokens) tree tokens d)))
