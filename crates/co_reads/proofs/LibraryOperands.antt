-- Operands of the library and of the run where the rules read them.
use Rattle.std.proofs.Common.{◌≡◌, ℕ, suc, ◌≤◌, true, List, [], ◌∷◌, ◌++◌, length, Option, Some, None, codes, refl, sym, ap, subst, inl, inr, arith}
use Rattle.co_base.specs.declared.span.Span.{Span}
use Rattle.co_lex.specs.declared.token.Token.{Token}
use Rattle.co_lex.specs.declared.token.TokenKind.{TokenKind}
use Rattle.co_lex.specs.declared.token.TokenKind.TheVariants as kind
use Rattle.co_lex.specs.declared.token.Mark.TheVariants as mark
use Rattle.co_rules.specs.declared.symbol.Known.TheVariants as known
use Rattle.co_rules.specs.declared.symbol.Nonterminal.TheVariants as n
use Rattle.co_rules.specs.declared.symbol.Pattern.TheVariants as pattern
use Rattle.co_rules.specs.declared.symbol.Symbol.{Symbol}
use Rattle.co_rules.specs.declared.symbol.Symbol.TheVariants.{Token as Terminal, One, Maybe}
use Rattle.co_rules.specs.Names.{is_class}
use Rattle.co_rules.specs.Pattern.{admits}
use Rattle.co_rules.specs.Terminal.{terminal_of}
use Rattle.co_rules.proofs.Sets.{never}
use Rattle.co_tree.specs.declared.expressions.Expression.{Expression}
use Rattle.co_tree.specs.declared.expressions.Expression.TheVariants as expr
use Rattle.co_tree.specs.declared.types.Path.{Path}
use Rattle.co_tree.specs.declared.types.SimpleTypeKind.TheVariants as simple
use Rattle.co_tree.specs.Piece.{m, leave}
use Rattle.co_tree.specs.Types as types
use Rattle.co_tree.specs.Sentence as tree
use Rattle.co_tree.specs.Formed.{ClassPathIf}
use Rattle.co_reader.specs.Reading.{Reader, place, sees, after, spells, any_name, text_literal}
use Rattle.co_reader.specs.Leads.{library_function}
use Rattle.co_reader.specs.Types.{library_type}
use Rattle.co_expressions.specs.Expressions.{based, library, of_corun, text, named as named_reader}
use Rattle.co_reads.specs.Runs.{Runs, token as read_token}
use Rattle.co_reads.specs.Spells.{Spells}
use Rattle.co_reads.proofs.Bases.{name_token, scope_token, KindTaken, atomic_kind}
use Rattle.co_reads.proofs.Built.{kind_token}
use Rattle.co_reads.proofs.Cases.{Among, which}
use Rattle.co_reads.proofs.Constructions.{OperandRead, PlainRead, LedRead, based_taken, brackets_among, some_brackets, SomeBrackets}
use Rattle.co_reads.proofs.Firsts.{Named, named, SpelledNext, spelled_next, spelled_first, Marked, marked, mark_first}
use Rattle.co_reads.proofs.Library.{IsFunction, function_first, IsObject, object_first, IsHandleFunction, handle_first, IsRunFunction, run_first}
use Rattle.co_reads.proofs.Nested.{Nested}
use Rattle.co_reads.proofs.RulesOfExpressions.{of_library_operand, those_library_operand, of_handle_operand, those_handle_operand, of_run_name, those_run_name, of_text_argument, those_text_argument}
use Rattle.co_reads.proofs.Spells.{spells_append}
use Rattle.co_reads.proofs.Steps.{expected, expect_here, within}
use Rattle.co_reads.proofs.Types.{promise_taken}

-- ---- behind `std ::`

-- what stands behind `std ::` is read with them
abbrev pub LibraryRead : List (List ℕ) → (ℕ → Reader Expression) → List Symbol → Span → Span → List Token → Type 0
LibraryRead C expression R std scope us = OperandRead C (library (is_class C) expression std) R (name_token (codes "std") std ∷ scope_token scope ∷ us) (scope_token scope ∷ us)

function_operand : {C : List (List ℕ)} {R : List Symbol} {us : List Token} (expression : ℕ → Reader Expression) (std scope : Span) → Named C IsFunction R us → LibraryRead C expression R std scope us
unfolding library any_name
function_operand expression std scope (named text at us f r) =
    record {
      part = expr.StandardFunction f.function std;
      left = us;
      read = rw (expect_here mark.Scope scope (name_token text at ∷ us), f.found);
      is = record { spelled = (refl, (refl, (refl, (ap kind.Name f.spelled, refl)))); formed = tt; tight = omega arith; new = λ h. absurd cc };
      runs = r;
    }

-- a type of the library, and brackets behind it
kind_operand : {C : List (List ℕ)} {expression : ℕ → Reader Expression} {R S : List Symbol} {us : List Token} (std scope at : Span) (called : List ℕ) → library_function called ≡ None → (k : KindTaken C S called us) → SomeBrackets C expression R k.left
    → LibraryRead C expression R std scope (name_token called at ∷ us)
unfolding library any_name
kind_operand {us = us} std scope at called other k b =
    let c = based_taken std (record { kind = k.part; span = std }) (refl, k.is.0 std scope at) k.is.1 b.bracketed in
    record { part = c.part; left = c.left; read = rw (expect_here mark.Scope scope (name_token called at ∷ us), other, k.read, c.read); is = c.is; runs = c.runs }

object_operand : {C : List (List ℕ)} {expression : ℕ → Reader Expression} {count : ℕ} {R : List Symbol} {us : List Token} (std scope : Span) → Nested C expression count → length us ≤ suc count → Named C IsObject (One n.Built ∷ R) us → LibraryRead C expression R std scope us
object_operand {C} {R = R} std scope nested b (named text at us o r) =
    kind_operand std scope at text o.no_function (record { part = o.object; left = us; read = o.read (is_class C) us; is = ((λ s c a. rw o.spelled (refl, (refl, (refl, refl)))), o.plain C, omega arith); runs = r }) (some_brackets nested (omega (arith, b)) r)

atomic_operand : {C : List (List ℕ)} {expression : ℕ → Reader Expression} {count : ℕ} {R : List Symbol} {us : List Token} (std scope : Span) → Nested C expression count → length us ≤ suc count → SpelledNext C known.Atomic (Terminal (pattern.Punctuator mark.Less) ∷ One n.AtomicArgument ∷ One n.Built ∷ R) us
    → LibraryRead C expression R std scope us
atomic_operand std scope nested b (spelled_next at us r) =
    let k = atomic_kind r in
    let w = k.is.2 in
    kind_operand std scope at (codes "atomic") refl k (some_brackets nested (omega (arith, b, w)) k.runs)

-- a static function of a handle
static_operand : {C : List (List ℕ)} {R : List Symbol} {us vs : List Token} (expression : ℕ → Reader Expression) (std scope at : Span) (p : Option Path) → library_type (is_class C) (codes "coroutine_handle") us ≡ Some (simple.Handle p, vs)
    → Spells (m mark.Less ∷ (types.path_if p ++ m mark.Greater ∷ [])) us vs → ClassPathIf C p → (of : Span) (xs : List Token) → vs ≡ scope_token of ∷ xs → Named C IsHandleFunction R xs → LibraryRead C expression R std scope (name_token (codes "coroutine_handle") at ∷ us)
unfolding library based any_name types.handle_name sees after
static_operand {us = us} {vs = vs} expression std scope at p read s i of xs e (named text place ts f r) =
    record {
      part = expr.HandleFunction p f.function std;
      left = ts;
      read = rw (expect_here mark.Scope scope (name_token (codes "coroutine_handle") at ∷ us), read, e, f.found);
      is = record {
        spelled = (
          refl,
          (
            refl,
            (
              refl,
              (
                refl,
                spells_append (m mark.Less ∷ (types.path_if p ++ m mark.Greater ∷ [])) (m mark.Scope ∷ tree.handle_function f.function ∷ []) us vs ts s
                    (rw e (refl, subst (λ q. Spells (q ∷ []) (name_token text place ∷ ts) ts) (sym f.spelled) (refl, refl))),
              ),
            ),
          ),
        );
        formed = i;
        tight = omega arith;
        new = λ h. absurd cc;
      };
      runs = r;
    }

handle_among : {expression : ℕ → Reader Expression} {count : ℕ} (C : List (List ℕ)) (R : List Symbol) (us vs : List Token) (std scope at : Span) → Nested C expression count → length vs ≤ suc count → (p : Option Path) → library_type (is_class C) (codes "coroutine_handle") us ≡ Some (simple.Handle p, vs)
    → Spells (m mark.Less ∷ (types.path_if p ++ m mark.Greater ∷ [])) us vs → ClassPathIf C p → Runs C (One n.HandleOperand ∷ R) vs → Among C R of_handle_operand vs → LibraryRead C expression R std scope (name_token (codes "coroutine_handle") at ∷ us)
unfolding types.handle_name
handle_among {expression} C R us vs std scope at nested b p read s i r (inl h) = on_scope us vs (mark_first h) read s
  where
    on_scope : (us ws : List Token) → Marked C mark.Scope (Terminal pattern.HandleFunction ∷ R) ws → library_type (is_class C) (codes "coroutine_handle") us ≡ Some (simple.Handle p, ws)
        → Spells (m mark.Less ∷ (types.path_if p ++ m mark.Greater ∷ [])) us ws → LibraryRead C expression R std scope (name_token (codes "coroutine_handle") at ∷ us)
    on_scope us _ (marked of xs q) read s = static_operand expression std scope at p read s i of xs refl (handle_first q)
handle_among C R us vs std scope at nested b p read s i r (inr h) =
    kind_operand std scope at (codes "coroutine_handle") refl (record { part = simple.Handle p; left = vs; read = read; is = ((λ s1 s2 a. (refl, (refl, (refl, s)))), i, within (m mark.Less ∷ (types.path_if p ++ m mark.Greater ∷ [])) us vs s); runs = r }) (brackets_among C R vs nested b h)

handle_operand : {C : List (List ℕ)} {expression : ℕ → Reader Expression} {count : ℕ} {R : List Symbol} {us : List Token} (std scope : Span) → Nested C expression count → length us ≤ suc count
    → SpelledNext C known.CoroutineHandle (Terminal (pattern.Punctuator mark.Less) ∷ Maybe n.ClassPath ∷ Terminal (pattern.Punctuator mark.Greater) ∷ One n.HandleOperand ∷ R) us → LibraryRead C expression R std scope us
unfolding library_type
handle_operand {C} {R = R} std scope nested b (spelled_next at us r) =
    let p = promise_taken r in
    let w = within (m mark.Less ∷ (types.path_if p.part ++ m mark.Greater ∷ [])) us p.left p.is.0 in
    handle_among C R us p.left std scope at nested (omega (arith, b, w)) p.part (rw p.read) p.is.0 p.is.1 p.runs (which those_handle_operand p.runs)

library_among : {expression : ℕ → Reader Expression} {count : ℕ} (C : List (List ℕ)) (R : List Symbol) (us : List Token) (std scope : Span) → Nested C expression count → length us ≤ suc count → Among C R of_library_operand us → LibraryRead C expression R std scope us
library_among {expression} C R us std scope nested b (inl h) = function_operand expression std scope (function_first h)
library_among C R us std scope nested b (inr (inl h)) = object_operand std scope nested b (object_first h)
library_among C R us std scope nested b (inr (inr (inl h))) = atomic_operand std scope nested b (spelled_first known.Atomic tt h)
library_among C R us std scope nested b (inr (inr (inr (inl h)))) = handle_operand std scope nested b (spelled_first known.CoroutineHandle tt h)
library_among C R us std scope nested b (inr (inr (inr (inr h)))) = absurd h

-- an operand that begins with a name is read
abbrev pub NamedRead : List (List ℕ) → (ℕ → Reader Expression) → List Symbol → List Token → Type 0
NamedRead C expression R ts = LedRead C (named_reader (is_class C) expression (place ts)) R ts

std_scope : {C : List (List ℕ)} {expression : ℕ → Reader Expression} {count : ℕ} {R : List Symbol} {us : List Token} (std : Span) → Nested C expression count → length us ≤ suc count → Marked C mark.Scope (One n.LibraryOperand ∷ R) us → NamedRead C expression R (name_token (codes "std") std ∷ us)
unfolding named_reader spells
std_scope {C} {R = R} std nested b (marked scope us r) =
    let x = library_among C R us std scope nested (omega (arith, b)) (which those_library_operand r) in
    record { part = x.part; left = x.left; read = x.read; is = (x.is, λ _. refl); runs = x.runs }

pub std_taken : {C : List (List ℕ)} {expression : ℕ → Reader Expression} {count : ℕ} {R : List Symbol} {ts : List Token} → Nested C expression count → length ts ≤ suc count → SpelledNext C known.Std (Terminal (pattern.Punctuator mark.Scope) ∷ One n.LibraryOperand ∷ R) ts → NamedRead C expression R ts
std_taken nested b (spelled_next at us r) = std_scope at nested (omega (arith, b)) (mark_first r)

-- ---- behind `corun ::`

-- what stands behind `corun ::` is read with them
abbrev pub RunRead : List (List ℕ) → List Symbol → Span → Span → List Token → Type 0
RunRead C R run scope us = PlainRead C (of_corun run) R (name_token (codes "corun") run ∷ scope_token scope ∷ us) (scope_token scope ∷ us)

run_operand : {C : List (List ℕ)} {R : List Symbol} {us : List Token} (run scope : Span) → Named C IsRunFunction R us → RunRead C R run scope us
unfolding of_corun any_name
run_operand run scope (named text at us f r) =
    record {
      part = expr.CorunFunction f.function run;
      left = us;
      read = rw (expect_here mark.Scope scope (name_token text at ∷ us), f.found);
      is = (record { spelled = (refl, (refl, (refl, (ap kind.Name f.spelled, refl)))); formed = tt; tight = omega arith; new = λ h. absurd cc }, λ h. absurd cc);
      runs = r;
    }

-- a text literal comes next
pub data TextNext (C : List (List ℕ)) (R : List Symbol) : List Token → Type 0 where
  text_next : (found : List ℕ) (at : Span) (ts : List Token) → Runs C R ts → TextNext C R (kind_token (kind.Lit found) at ∷ ts)

text_kind : (C : List (List ℕ)) (R : List Symbol) (k : TokenKind) (at : Span) (ts : List Token) → admits pattern.Text (terminal_of C k) ≡ true → Runs C R ts → TextNext C R (kind_token k at ∷ ts)
unfolding admits
text_kind C R (kind.Lit found) at ts h r = text_next found at ts r
text_kind C R k at ts h r = never h

pub text_first : {C : List (List ℕ)} {R : List Symbol} {ts : List Token} → Runs C (Terminal pattern.Text ∷ R) ts → TextNext C R ts
text_first {C} (read_token p R t ts a few r) = text_kind C R t.kind t.span ts a r

text_end : {C : List (List ℕ)} {R : List Symbol} {us : List Token} (run scope at opened : Span) → TextNext C (Terminal (pattern.Punctuator mark.CloseParen) ∷ R) us → RunRead C R run scope (name_token (codes "text") at ∷ kind_token (kind.Mark mark.OpenParen) opened ∷ us)
unfolding of_corun any_name text text_literal
text_end run scope at opened (text_next found of us r) =
    let c = expected mark.CloseParen r in
    record {
      part = expr.Text found run;
      left = c.left;
      read = rw (expect_here mark.Scope scope (name_token (codes "text") at ∷ kind_token (kind.Mark mark.OpenParen) opened ∷ kind_token (kind.Lit found) of ∷ us), expect_here mark.OpenParen opened (kind_token (kind.Lit found) of ∷ us), c.read);
      is = (record { spelled = (refl, (refl, (refl, (refl, (refl, (refl, spells_append (m mark.CloseParen ∷ []) (leave ∷ []) us c.left c.left c.is refl)))))); formed = tt; tight = omega arith; new = λ h. absurd cc }, λ h. absurd cc);
      runs = c.runs;
    }

text_paren : {C : List (List ℕ)} {R : List Symbol} {us : List Token} (run scope at : Span) → Marked C mark.OpenParen (Terminal pattern.Text ∷ Terminal (pattern.Punctuator mark.CloseParen) ∷ R) us → RunRead C R run scope (name_token (codes "text") at ∷ us)
text_paren run scope at (marked opened us r) = text_end run scope at opened (text_first r)

text_argument : (C : List (List ℕ)) (R : List Symbol) (us : List Token) (run scope at : Span) → Among C R of_text_argument us → RunRead C R run scope (name_token (codes "text") at ∷ us)
text_argument C R us run scope at (inl h) = text_paren run scope at (mark_first h)
text_argument C R us run scope at (inr h) = absurd h

text_operand : {C : List (List ℕ)} {R : List Symbol} {us : List Token} (run scope : Span) → SpelledNext C known.Text (One n.TextArgument ∷ R) us → RunRead C R run scope us
text_operand {C} {R} run scope (spelled_next at us r) = text_argument C R us run scope at (which those_text_argument r)

run_among : (C : List (List ℕ)) (R : List Symbol) (us : List Token) (run scope : Span) → Among C R of_run_name us → RunRead C R run scope us
run_among C R us run scope (inl h) = text_operand run scope (spelled_first known.Text tt h)
run_among C R us run scope (inr (inl h)) = run_operand run scope (run_first h)
run_among C R us run scope (inr (inr h)) = absurd h

run_scope : {C : List (List ℕ)} {R : List Symbol} {us : List Token} (expression : ℕ → Reader Expression) (run : Span) → Marked C mark.Scope (One n.RunName ∷ R) us → NamedRead C expression R (name_token (codes "corun") run ∷ us)
unfolding named_reader spells
run_scope {C} {R} expression run (marked scope us r) =
    let x = run_among C R us run scope (which those_run_name r) in
    record { part = x.part; left = x.left; read = x.read; is = (x.is.0, λ h. absurd (x.is.1 h)); runs = x.runs }

pub run_taken : {C : List (List ℕ)} {R : List Symbol} {ts : List Token} (expression : ℕ → Reader Expression) → SpelledNext C known.Corun (Terminal (pattern.Punctuator mark.Scope) ∷ One n.RunName ∷ R) ts → NamedRead C expression R ts
run_taken expression (spelled_next at us r) = run_scope expression at (mark_first r)
