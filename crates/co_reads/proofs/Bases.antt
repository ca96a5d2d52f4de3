-- The bases of types where the rules read them.
use Rattle.std.proofs.Common.{ℕ, ◌≤◌, length, arith, List, [], ◌∷◌, ◌++◌, codes, refl, inl, inr}
use Rattle.co_base.specs.declared.span.Span.{Span}
use Rattle.co_lex.specs.declared.token.Token.{Token}
use Rattle.co_lex.specs.declared.token.TokenKind.TheVariants as kind
use Rattle.co_lex.specs.declared.token.Mark.TheVariants as mark
use Rattle.co_rules.specs.declared.symbol.Known.TheVariants as known
use Rattle.co_rules.specs.declared.symbol.Nonterminal.TheVariants as n
use Rattle.co_rules.specs.declared.symbol.Pattern.TheVariants as pattern
use Rattle.co_rules.specs.declared.symbol.Symbol.{Symbol}
use Rattle.co_rules.specs.declared.symbol.Symbol.TheVariants.{Token as Terminal, One, Maybe}
use Rattle.co_rules.specs.Names.{is_class}
use Rattle.co_tree.specs.Piece.{leave, m}
use Rattle.co_tree.specs.Types as tree
use Rattle.co_tree.specs.Formed.{PlainKind, PlainBase}
use Rattle.co_tree.specs.declared.types.SimpleTypeKind.TheVariants as simple
use Rattle.co_reader.specs.Reading.{◌>>=◌, place, spells, any_name}
use Rattle.co_reader.specs.Types.{library_type, library_kind, simple_type}
use Rattle.co_reads.specs.Runs.{Runs}
use Rattle.co_reads.specs.Spells.{Spells}
use Rattle.co_reads.specs.Takes.{Takes}
use Rattle.co_reads.proofs.Cases.{Among, which, by_rule, stands_here}
use Rattle.co_reads.proofs.Firsts.{Named, named, SpelledNext, spelled_next, spelled_first, Marked, marked, mark_first}
use Rattle.co_reads.proofs.Library.{IsObject, object_first}
use Rattle.co_reads.proofs.Operators.{BuiltinNext, builtin_next, builtin_first}
use Rattle.co_reads.proofs.Paths.{class_taken, class_begins}
use Rattle.co_reads.proofs.RulesOfTypes.{those_class_path, of_library_type, those_library_type, of_base, those_base}
use Rattle.co_reads.proofs.Spells.{spells_append}
use Rattle.co_reads.proofs.Steps.{expect_here, within}
use Rattle.co_reads.proofs.Types.{atomic_taken, promise_taken}

-- a token of a name, and of a mark
abbrev pub name_token : List ℕ → Span → Token
name_token text at = record { kind = kind.Name text; span = at }

abbrev pub scope_token : Span → Token
scope_token at = record { kind = kind.Mark mark.Scope; span = at }

-- ---- what stands behind `std ::` and the name

-- the kind is spelled with the name before it
abbrev pub KindTaken : List (List ℕ) → List Symbol → List ℕ → List Token → Type 0
KindTaken C R text ts = Takes (library_type (is_class C) text) (λ k left. ((std scope at : Span) → Spells (tree.simple_kind k) (name_token (codes "std") std ∷ scope_token scope ∷ name_token text at ∷ ts) left) × PlainKind C k × (length left ≤ length ts)) C R ts

pub atomic_kind : {C : List (List ℕ)} {R : List Symbol} {ts : List Token} → Runs C (Terminal (pattern.Punctuator mark.Less) ∷ One n.AtomicArgument ∷ R) ts → KindTaken C R (codes "atomic") ts
unfolding library_type
atomic_kind {ts = ts} h =
    let k = atomic_taken h in
    record {
      part = simple.Atomic k.part;
      left = k.left;
      read = rw k.read;
      is = ((λ std scope at. (refl, (refl, (refl, spells_append (m mark.Less ∷ (tree.atomic_argument k.part ++ m mark.Greater ∷ [])) (leave ∷ []) ts k.left k.left k.is refl)))), tt, within (m mark.Less ∷ (tree.atomic_argument k.part ++ m mark.Greater ∷ [])) ts k.left k.is);
      runs = k.runs;
    }

pub handle_kind : {C : List (List ℕ)} {R : List Symbol} {ts : List Token} → Runs C (Terminal (pattern.Punctuator mark.Less) ∷ Maybe n.ClassPath ∷ Terminal (pattern.Punctuator mark.Greater) ∷ R) ts → KindTaken C R (codes "coroutine_handle") ts
unfolding tree.handle_name library_type
handle_kind {ts = ts} h =
    let p = promise_taken h in
    record { part = simple.Handle p.part; left = p.left; read = rw p.read; is = ((λ std scope at. (refl, (refl, (refl, p.is.0)))), p.is.1, within (m mark.Less ∷ (tree.path_if p.part ++ m mark.Greater ∷ [])) ts p.left p.is.0); runs = p.runs }

-- ---- what stands behind `std`

abbrev pub LibraryTaken : List (List ℕ) → List Symbol → List Token → Type 0
LibraryTaken C R ts = Takes (any_name >>= library_type (is_class C)) (λ k left. ((std scope : Span) → Spells (tree.simple_kind k) (name_token (codes "std") std ∷ scope_token scope ∷ ts) left) × PlainKind C k) C R ts

named_kind : {C : List (List ℕ)} {R : List Symbol} {ts : List Token} (text : List ℕ) (at : Span) → KindTaken C R text ts → LibraryTaken C R (name_token text at ∷ ts)
unfolding any_name
named_kind text at k = record { part = k.part; left = k.left; read = k.read; is = ((λ std scope. k.is.0 std scope at), k.is.1); runs = k.runs }

object_kind : {C : List (List ℕ)} {R : List Symbol} {ts : List Token} → Named C IsObject R ts → LibraryTaken C R ts
object_kind {C} (named text at ts o r) = named_kind text at (record { part = o.object; left = ts; read = o.read (is_class C) ts; is = ((λ std scope at. rw o.spelled (refl, (refl, (refl, refl)))), o.plain C, omega arith); runs = r })

handle_named : {C : List (List ℕ)} {R : List Symbol} {ts : List Token} → SpelledNext C known.CoroutineHandle (Terminal (pattern.Punctuator mark.Less) ∷ Maybe n.ClassPath ∷ Terminal (pattern.Punctuator mark.Greater) ∷ R) ts → LibraryTaken C R ts
handle_named (spelled_next at ts r) = named_kind (codes "coroutine_handle") at (handle_kind r)

atomic_named : {C : List (List ℕ)} {R : List Symbol} {ts : List Token} → SpelledNext C known.Atomic (Terminal (pattern.Punctuator mark.Less) ∷ One n.AtomicArgument ∷ R) ts → LibraryTaken C R ts
atomic_named (spelled_next at ts r) = named_kind (codes "atomic") at (atomic_kind r)

pub library_among : (C : List (List ℕ)) (R : List Symbol) (ts : List Token) → Among C R of_library_type ts → LibraryTaken C R ts
library_among C R ts (inl h) = object_kind (object_first h)
library_among C R ts (inr (inl h)) = handle_named (spelled_first known.CoroutineHandle tt h)
library_among C R ts (inr (inr (inl h))) = atomic_named (spelled_first known.Atomic tt h)
library_among C R ts (inr (inr (inr h))) = absurd h

-- ---- bases

abbrev pub BaseTaken : List (List ℕ) → List Symbol → List Token → Type 0
BaseTaken C R ts = Takes (simple_type (is_class C)) (λ base left. Spells (tree.simple_type base) ts left × PlainBase C base) C R ts

builtin_base : {C : List (List ℕ)} {R : List Symbol} {ts : List Token} → BuiltinNext C R ts → BaseTaken C R ts
unfolding simple_type
builtin_base {C} (builtin_next of k at ts found spelled plain r) =
    record { part = record { kind = of; span = at }; left = ts; read = rw found; is = ((refl, rw spelled (refl, refl)), plain C); runs = r }

library_base : {C : List (List ℕ)} {R : List Symbol} {ts : List Token} (std : Span) → Marked C mark.Scope (One n.LibraryType ∷ R) ts → BaseTaken C R (name_token (codes "std") std ∷ ts)
unfolding simple_type library_kind spells
library_base {C} {R} std (marked scope ts r) =
    let k = library_among C R ts (which those_library_type r) in
    record { part = record { kind = k.part; span = std }; left = k.left; read = rw (expect_here mark.Scope scope ts, k.read); is = ((refl, k.is.0 std scope), k.is.1); runs = k.runs }

std_base : {C : List (List ℕ)} {R : List Symbol} {ts : List Token} → SpelledNext C known.Std (Terminal (pattern.Punctuator mark.Scope) ∷ One n.LibraryType ∷ R) ts → BaseTaken C R ts
std_base (spelled_next at ts r) = library_base at (mark_first r)

class_base : {C : List (List ℕ)} {R : List Symbol} {ts : List Token} → Runs C (One n.ClassPath ∷ R) ts → BaseTaken C R ts
unfolding simple_type
class_base {ts = ts} h =
    let p = class_taken h in
    let b = class_begins h in
    record { part = record { kind = simple.Class p.part; span = place ts }; left = p.left; read = rw (b.no_std, b.lead_is, p.read); is = ((stands_here h tt, p.is.0), p.is.1); runs = p.runs }

pub base_among : (C : List (List ℕ)) (R : List Symbol) (ts : List Token) → Among C R of_base ts → BaseTaken C R ts
base_among C R ts (inl h) = builtin_base (builtin_first h)
base_among C R ts (inr (inl h)) = std_base (spelled_first known.Std tt h)
base_among C R ts (inr (inr (inl h))) = class_base (by_rule (Maybe n.InnerClass ∷ []) those_class_path (inl refl) h)
base_among C R ts (inr (inr (inr (inl h)))) = class_base (by_rule (Terminal (pattern.Punctuator mark.Scope) ∷ One n.ClassPath ∷ []) those_class_path (inr (inl refl)) h)
base_among C R ts (inr (inr (inr (inr h)))) = absurd h

pub base_taken : {C : List (List ℕ)} {R : List Symbol} {ts : List Token} → Runs C (One n.Base ∷ R) ts → BaseTaken C R ts
base_taken {C} {R} {ts} h = base_among C R ts (which those_base h)
