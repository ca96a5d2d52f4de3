-- Locals, expressions and lone `;` where the rules read them.
use Rattle.std.proofs.Common.{◌≡◌, ℕ, suc, ◌≤◌, ◌<◌, Bool, true, false, if◌then◌else◌, List, [], ◌∷◌, ◌++◌, length, Some, codes, refl, ap, ◌∙◌, ◌⊎◌, inl, inr, arith}
use Rattle.std.specs.List.{AllByRecursion}
use Rattle.co_base.specs.declared.span.Span.{Span}
use Rattle.co_lex.specs.declared.token.Token.{Token}
use Rattle.co_lex.specs.declared.token.TokenKind.{TokenKind}
use Rattle.co_lex.specs.declared.token.TokenKind.TheVariants as kind
use Rattle.co_lex.specs.declared.token.Mark.TheVariants as mark
use Rattle.co_lex.specs.declared.token.Word.TheVariants as word
use Rattle.co_rules.specs.declared.symbol.Known.TheVariants as known
use Rattle.co_rules.specs.declared.symbol.Nonterminal.{Nonterminal}
use Rattle.co_rules.specs.declared.symbol.Nonterminal.TheVariants as n
use Rattle.co_rules.specs.declared.symbol.Pattern.TheVariants as pattern
use Rattle.co_rules.specs.declared.symbol.Symbol.{Symbol}
use Rattle.co_rules.specs.declared.symbol.Symbol.TheVariants.{Token as Terminal, One, Maybe}
use Rattle.co_rules.specs.Names.{is_class}
use Rattle.co_rules.specs.Rule.{Rule, rule}
use Rattle.co_tree.specs.declared.expressions.Expression.{Expression}
use Rattle.co_tree.specs.declared.expressions.Expression.TheVariants as expr
use Rattle.co_tree.specs.declared.types.Path.{Path}
use Rattle.co_tree.specs.declared.types.SimpleTypeKind.{SimpleTypeKind}
use Rattle.co_tree.specs.declared.types.SimpleTypeKind.TheVariants as simple
use Rattle.co_tree.specs.declared.statements.ForInit.{ForInit}
use Rattle.co_tree.specs.declared.statements.ForInit.TheVariants as for_init
use Rattle.co_tree.specs.Formed.{IsName, PlainKind, last_of}
use Rattle.co_tree.specs.Piece.{Piece, token, m}
use Rattle.co_tree.specs.Sentence as tree
use Rattle.co_tree.specs.Statements.{full}
use Rattle.co_tree.specs.Types as types
use Rattle.co_reader.specs.Reading.{Reader, place, lead_of, any_name, spells}
use Rattle.co_reader.specs.Leads.{builtin}
use Rattle.co_reader.specs.Types.{library_type}
use Rattle.co_expressions.specs.Expressions.{of_kind}
use Rattle.co_statements.specs.Statements.{plain, ended, led_by_operand, led, led_by_library, led_by_name, led_by_path, led_by_builtin, short}
use Rattle.co_reads.specs.Runs.{Runs}
use Rattle.co_reads.specs.Spells.{Spells}
use Rattle.co_reads.specs.Takes.{Takes}
use Rattle.co_reads.proofs.Bases.{atomic_kind}
use Rattle.co_reads.proofs.Built.{mark_token, kind_token}
use Rattle.co_reads.proofs.Cases.{Among, which, either, by_rule}
use Rattle.co_reads.proofs.Firsts.{Named, named, Marked, marked, mark_first, Worded, worded, word_first, SpelledNext, spelled_next, spelled_first}
use Rattle.co_reads.proofs.Library.{IsFunction, function_first, IsObject, object_first}
use Rattle.co_reads.proofs.Nested.{Nested}
use Rattle.co_reads.proofs.Operators.{BuiltinNext, builtin_next, builtin_first}
use Rattle.co_reads.proofs.Paths.{NamesNext, path_of, path_read, path_spelled, path_class, is_class_path, names_begin, names_stand}
use Rattle.co_reads.proofs.Spells.{spells_append, spells_rule}
use Rattle.co_reads.proofs.Steps.{expected, expect_here, within}
use Rattle.co_reads.proofs.Types.{promise_taken}
use Rattle.co_reads_statements.specs.Statements.{IsShort}
use Rattle.co_reads_statements.proofs.Initializers.{function_operand, path_operand}
use Rattle.co_reads_statements.proofs.Locals.{constant_taken, automatic_taken, operand_led_taken, local_led_taken, class_brace_led, NoClass, base_led_taken, handle_led_taken}
use Rattle.co_reads_statements.proofs.Names.{behind, named_rest, Led, local_led, built_led, operand_led, statement_path}
use Rattle.co_reads_statements.proofs.Plain.{plain_rules, PlainNext, plain_among, short_plain, no_type_first, class_is_type}
use Rattle.co_reads_statements.proofs.RulesOfStatements.{of_library_statement, those_library_statement, those_statement_path, of_for_init, those_for_init}

-- what stands before a `;`
abbrev pub closed : List Symbol → List Symbol
closed R = Terminal (pattern.Punctuator mark.Semicolon) ∷ R

abbrev pub ShortTaken : List (List ℕ) → (ℕ → Reader Expression) → List Symbol → List Token → Type 0
ShortTaken C expression R ts = Takes (short (is_class C) expression) (λ i left. IsShort C ts i left) C R ts

-- ---- expressions that begin with no type

plain_taken : {C : List (List ℕ)} {R : List Symbol} {ts : List Token} {expression : ℕ → Reader Expression} {count : ℕ} → Nested C expression count → length ts ≤ count → PlainNext C (closed R) ts → ShortTaken C expression R ts
unfolding plain ended
plain_taken {C} {R} {ts} {expression} nested b p =
    let x = nested.whole (closed R) ts b p.runs in
    let c = expected mark.Semicolon x.runs in
    let read : plain (is_class C) expression ts ≡ Some (for_init.Expression x.part, c.left) = rw (x.read, c.read) in
    record {
      part = for_init.Expression x.part;
      left = c.left;
      read = short_plain (is_class C) expression ts p.plain ∙ read;
      is = record {
        spelled = spells_append (full x.part) (m mark.Semicolon ∷ []) ts x.left c.left (spells_rule (tree.expression x.part) ts x.left x.is.spelled) c.is;
        formed = (x.is.formed, λ i. no_type_first ts x.part p.plain x.is.led (class_is_type x.part i));
      };
      runs = c.runs;
    }

-- ---- `;`, `const` and `auto`

none_taken : {C : List (List ℕ)} {R : List Symbol} {ts : List Token} (expression : ℕ → Reader Expression) → Marked C mark.Semicolon R ts → ShortTaken C expression R ts
unfolding short
none_taken expression (marked at us r) = record { part = for_init.None; left = us; read = refl; is = record { spelled = (refl, refl); formed = tt }; runs = r }

const_taken : {C : List (List ℕ)} {R : List Symbol} {ts : List Token} {expression : ℕ → Reader Expression} {count : ℕ} → Nested C expression count → length ts ≤ suc count → Worded C word.Const (One n.Base ∷ named_rest (closed R)) ts → ShortTaken C expression R ts
unfolding short
const_taken nested b (worded at us r) = let x = constant_taken at nested (omega (arith, b)) r in record { part = x.part; left = x.left; read = x.read; is = x.is; runs = x.runs }

auto_taken : {C : List (List ℕ)} {R : List Symbol} {ts : List Token} {expression : ℕ → Reader Expression} {count : ℕ} → Nested C expression count → length ts ≤ suc count → Worded C word.Auto (Maybe n.Reference ∷ Terminal pattern.Name ∷ Maybe n.LocalRest ∷ closed R) ts → ShortTaken C expression R ts
unfolding short
auto_taken nested b (worded at us r) = let x = automatic_taken at nested (omega (arith, b)) r in record { part = x.part; left = x.left; read = x.read; is = x.is; runs = x.runs }

-- ---- built-in types

no_class : (k : SimpleTypeKind) (q : TokenKind) (ps : List Piece) → types.simple_kind k ≡ token q ∷ ps → NoClass k
no_class simple.Void q ps e = record { type = refl; call = λ how. refl }
no_class simple.Bool q ps e = record { type = refl; call = λ how. refl }
no_class simple.Int q ps e = record { type = refl; call = λ how. refl }
no_class simple.Long q ps e = record { type = refl; call = λ how. refl }
no_class simple.Auto q ps e = record { type = refl; call = λ how. refl }
no_class simple.Size q ps e = record { type = refl; call = λ how. refl }
no_class simple.ExceptionPtr q ps e = record { type = refl; call = λ how. refl }
no_class simple.SuspendAlways q ps e = record { type = refl; call = λ how. refl }
no_class simple.SuspendNever q ps e = record { type = refl; call = λ how. refl }
no_class (simple.Handle p) q ps e = record { type = refl; call = λ how. refl }
no_class (simple.Atomic a) q ps e = record { type = refl; call = λ how. refl }
no_class (simple.Class p) q ps e = absurd cc

short_builtin_by : (class : List ℕ → Bool) (expression : ℕ → Reader Expression) (k : TokenKind) (at : Span) (us : List Token) (of : SimpleTypeKind) → builtin (lead_of k) ≡ Some of → short class expression (kind_token k at ∷ us) ≡ led class expression at (of_kind of at) us
unfolding short
short_builtin_by class expression (kind.Word word.Void) at us of e = ap (λ o. led_by_builtin class expression at o (kind_token (kind.Word word.Void) at ∷ us)) e
short_builtin_by class expression (kind.Word word.Bool) at us of e = ap (λ o. led_by_builtin class expression at o (kind_token (kind.Word word.Bool) at ∷ us)) e
short_builtin_by class expression (kind.Word word.Int) at us of e = ap (λ o. led_by_builtin class expression at o (kind_token (kind.Word word.Int) at ∷ us)) e
short_builtin_by class expression (kind.Word word.Long) at us of e = ap (λ o. led_by_builtin class expression at o (kind_token (kind.Word word.Long) at ∷ us)) e
short_builtin_by class expression k at us of e = absurd cc

builtin_taken : {C : List (List ℕ)} {R : List Symbol} {ts : List Token} {expression : ℕ → Reader Expression} {count : ℕ} → Nested C expression count → length ts ≤ suc count → BuiltinNext C (One n.AfterBuiltin ∷ closed R) ts → ShortTaken C expression R ts
builtin_taken {C} {R} {expression = expression} nested b (builtin_next of k at us found spelled plain r) =
    let x = base_led_taken {R = R} {start = kind_token k at ∷ us} (of_kind of at) at nested b (omega (arith, b)) refl (refl, rw spelled (refl, refl)) (plain C) (no_class of k [] spelled) r in
    record { part = x.part; left = x.left; read = short_builtin_by (is_class C) expression k at us of found ∙ x.read; is = x.is; runs = x.runs }

-- ---- what stands behind `std`

-- the first tokens are `std ::`
abbrev from_std : Span → Span → List Token → List Token
from_std at scope ts = kind_token (kind.Name (codes "std")) at ∷ mark_token mark.Scope scope ∷ ts

abbrev StdTaken : List (List ℕ) → (ℕ → Reader Expression) → List Symbol → Span → Span → List Token → Type 0
StdTaken C expression R at scope ts = Takes (led_by_library (is_class C) expression at) (λ i left. IsShort C (from_std at scope ts) i left) C R (mark_token mark.Scope scope ∷ ts)

std_function : {C : List (List ℕ)} {R : List Symbol} {ts : List Token} {expression : ℕ → Reader Expression} {count : ℕ} (at scope : Span) → Nested C expression count → length ts < count → Named C IsFunction (behind (closed R)) ts → StdTaken C expression R at scope ts
unfolding led_by_library any_name
std_function at scope nested b (named text of us f r) =
    let x = operand_led_taken at nested (omega (arith, b)) refl (function_operand text at scope of f) refl r in
    record { part = x.part; left = x.left; read = rw (expect_here mark.Scope scope (kind_token (kind.Name text) of ∷ us), f.found, x.read); is = x.is; runs = x.runs }

std_object : {C : List (List ℕ)} {R : List Symbol} {ts : List Token} {expression : ℕ → Reader Expression} {count : ℕ} (at scope : Span) → Nested C expression count → length ts < count → Named C IsObject (One n.AfterBuiltin ∷ closed R) ts → StdTaken C expression R at scope ts
unfolding led_by_library any_name
std_object {C} {R} at scope nested b (named text of us o r) =
    let x = base_led_taken {R = R} {start = from_std at scope (kind_token (kind.Name text) of ∷ us)} (of_kind o.object at) at nested (omega (arith, b)) (omega (arith, b)) refl (refl, rw o.spelled (refl, (refl, (refl, refl)))) (o.plain C) (no_class o.object _ _ o.spelled) r in
    record { part = x.part; left = x.left; read = rw (expect_here mark.Scope scope (kind_token (kind.Name text) of ∷ us), o.no_function, o.read (is_class C) us, x.read); is = x.is; runs = x.runs }

-- what `std` begins is no class
no_class_std : (C : List (List ℕ)) (k : SimpleTypeKind) (at : Span) (ts left : List Token) → PlainKind C k → Spells (types.simple_kind k) (kind_token (kind.Name (codes "std")) at ∷ ts) left → NoClass k
no_class_std C (simple.Class p) at ts left h s = absurd (no_std p.names h.0.0 h.0.1 s.1)
  where
    no_std : (xs : List (List ℕ)) → (xs ≡ [] → ⊥) → AllByRecursion IsName xs → Spells (types.path_names xs) (kind_token (kind.Name (codes "std")) at ∷ ts) left → ⊥
    no_std [] e a s = e refl
    no_std (x ∷ xs) e a s = a.0.0 (name_same x s.0)
      where
        name_same : (x : List ℕ) → kind.Name (codes "std") ≡ kind.Name x → x ≡ codes "std"
        name_same x e = cc
no_class_std C simple.Void at ts left h s = record { type = refl; call = λ how. refl }
no_class_std C simple.Bool at ts left h s = record { type = refl; call = λ how. refl }
no_class_std C simple.Int at ts left h s = record { type = refl; call = λ how. refl }
no_class_std C simple.Long at ts left h s = record { type = refl; call = λ how. refl }
no_class_std C simple.Auto at ts left h s = record { type = refl; call = λ how. refl }
no_class_std C simple.Size at ts left h s = record { type = refl; call = λ how. refl }
no_class_std C simple.ExceptionPtr at ts left h s = record { type = refl; call = λ how. refl }
no_class_std C simple.SuspendAlways at ts left h s = record { type = refl; call = λ how. refl }
no_class_std C simple.SuspendNever at ts left h s = record { type = refl; call = λ how. refl }
no_class_std C (simple.Handle p) at ts left h s = record { type = refl; call = λ how. refl }
no_class_std C (simple.Atomic a) at ts left h s = record { type = refl; call = λ how. refl }

std_atomic : {C : List (List ℕ)} {R : List Symbol} {ts : List Token} {expression : ℕ → Reader Expression} {count : ℕ} (at scope : Span) → Nested C expression count → length ts < count → SpelledNext C known.Atomic (Terminal (pattern.Punctuator mark.Less) ∷ One n.AtomicArgument ∷ One n.AfterBuiltin ∷ closed R) ts
    → StdTaken C expression R at scope ts
unfolding led_by_library any_name
std_atomic {C} {R} at scope nested b (spelled_next of us r) =
    let k = atomic_kind r in
    let s = k.is.0 at scope of in
    let v = within (types.simple_kind k.part) (from_std at scope (kind_token (kind.Name (codes "atomic")) of ∷ us)) k.left s in
    let x = base_led_taken {R = R} {start = from_std at scope (kind_token (kind.Name (codes "atomic")) of ∷ us)} (of_kind k.part at) at nested (omega (arith, b)) (omega (arith, b, v)) refl (refl, s) k.is.1 (no_class_std C k.part at (mark_token mark.Scope scope ∷ kind_token (kind.Name (codes "atomic")) of ∷ us) k.left k.is.1 s) k.runs in
    record { part = x.part; left = x.left; read = rw (expect_here mark.Scope scope (kind_token (kind.Name (codes "atomic")) of ∷ us), k.read, x.read); is = x.is; runs = x.runs }

std_handle : {C : List (List ℕ)} {R : List Symbol} {ts : List Token} {expression : ℕ → Reader Expression} {count : ℕ} (at scope : Span) → Nested C expression count → length ts < count
    → SpelledNext C known.CoroutineHandle (Terminal (pattern.Punctuator mark.Less) ∷ Maybe n.ClassPath ∷ Terminal (pattern.Punctuator mark.Greater) ∷ One n.AfterHandle ∷ closed R) ts → StdTaken C expression R at scope ts
unfolding led_by_library any_name library_type types.handle_name
std_handle {C} {R} at scope nested b (spelled_next of us r) =
    let p = promise_taken r in
    let v = within (m mark.Less ∷ (types.path_if p.part ++ m mark.Greater ∷ [])) us p.left p.is.0 in
    let x = handle_led_taken {R = R} {start = from_std at scope (kind_token (kind.Name (codes "coroutine_handle")) of ∷ us)} p.part at nested (omega (arith, b)) (omega (arith, b, v)) refl (refl, (refl, (refl, p.is.0))) p.is.1 p.runs in
    record { part = x.part; left = x.left; read = rw (expect_here mark.Scope scope (kind_token (kind.Name (codes "coroutine_handle")) of ∷ us), p.read, x.read); is = x.is; runs = x.runs }

library_by : {expression : ℕ → Reader Expression} {count : ℕ} (C : List (List ℕ)) (R : List Symbol) (ts : List Token) (at scope : Span) → Nested C expression count → length ts < count → Among C (closed R) of_library_statement ts → StdTaken C expression R at scope ts
library_by C R ts at scope nested b (inl h) = std_function at scope nested b (function_first h)
library_by C R ts at scope nested b (inr (inl h)) = std_object at scope nested b (object_first h)
library_by C R ts at scope nested b (inr (inr (inl h))) = std_atomic at scope nested b (spelled_first known.Atomic tt h)
library_by C R ts at scope nested b (inr (inr (inr (inl h)))) = std_handle at scope nested b (spelled_first known.CoroutineHandle tt h)
library_by C R ts at scope nested b (inr (inr (inr (inr h)))) = absurd h

short_std : (class : List ℕ → Bool) (expression : ℕ → Reader Expression) (at : Span) (ts : List Token) → short class expression (kind_token (kind.Name (codes "std")) at ∷ ts) ≡ led_by_library class expression at ts
unfolding short led_by_name spells
short_std class expression at ts = refl

std_scoped : {C : List (List ℕ)} {R : List Symbol} {ts : List Token} {expression : ℕ → Reader Expression} {count : ℕ} (at : Span) → Nested C expression count → length ts ≤ count → Marked C mark.Scope (One n.LibraryStatement ∷ closed R) ts → ShortTaken C expression R (kind_token (kind.Name (codes "std")) at ∷ ts)
std_scoped {C} {R} {expression = expression} at nested b (marked scope us r) =
    let x = library_by C R us at scope nested (omega (arith, b)) (which those_library_statement r) in
    record { part = x.part; left = x.left; read = short_std (is_class C) expression at (mark_token mark.Scope scope ∷ us) ∙ x.read; is = x.is; runs = x.runs }

std_taken : {C : List (List ℕ)} {R : List Symbol} {ts : List Token} {expression : ℕ → Reader Expression} {count : ℕ} → Nested C expression count → length ts ≤ suc count → SpelledNext C known.Std (Terminal (pattern.Punctuator mark.Scope) ∷ One n.LibraryStatement ∷ closed R) ts → ShortTaken C expression R ts
std_taken nested b (spelled_next at us r) = std_scoped at nested (omega (arith, b)) (mark_first r)

-- ---- paths

-- a path is read, and then what stands behind it
-- by whether it names a class
abbrev led_by_class : (List ℕ → Bool) → (ℕ → Reader Expression) → Span → Bool → Path → Reader ForInit
led_by_class class expression at b p = if b then led class expression at (of_kind (simple.Class p) at) else led_by_operand class expression at (expr.Name p)

pathed : {first : List ℕ} {later : List (List ℕ)} {ts left : List Token} (C : List (List ℕ)) (expression : ℕ → Reader Expression) (b : Bool) → NamesNext first later ts left → is_class C (last_of later first) ≡ b
    → short (is_class C) expression ts ≡ led_by_class (is_class C) expression (place ts) b (path_of first later ts) left
unfolding short led_by_name led_by_path
pathed C expression b names e = let g = names_begin names in rw (g.lead_is, g.no_std, g.no_corun, path_read names, path_class C names e)

led_taken : {C : List (List ℕ)} {R : List Symbol} {ts : List Token} {expression : ℕ → Reader Expression} {count : ℕ} → Nested C expression count → length ts ≤ suc count → Led C (closed R) ts → ShortTaken C expression R ts
led_taken {C} {ts = ts} {expression} nested b (local_led p c g) =
    let s = path_spelled p.names in
    let v = within (types.path (path_of p.first p.later ts)) ts p.left s in
    let x = local_led_taken {start = ts} (of_kind (simple.Class (path_of p.first p.later ts)) (place ts)) (place ts) nested (omega (arith, b, v)) (names_stand p.names) (names_stand p.names, s) (is_class_path C p.names c) (record { goes_on = g; runs = p.runs }) in
    record { part = x.part; left = x.left; read = pathed C expression true p.names c ∙ x.read; is = x.is; runs = x.runs }
led_taken {C} {ts = ts} {expression} nested b (built_led p c) =
    let x = class_brace_led {start = ts} (of_kind (simple.Class (path_of p.first p.later ts)) (place ts)) (place ts) nested b (names_stand p.names) (names_stand p.names, path_spelled p.names) (is_class_path C p.names c) refl p.runs in
    record { part = x.part; left = x.left; read = pathed C expression true p.names c ∙ x.read; is = x.is; runs = x.runs }
led_taken {C} {ts = ts} {expression} nested b (operand_led p) =
    let x = operand_led_taken (place ts) nested b (names_stand p.next.names) (path_operand p) refl p.next.runs in
    record { part = x.part; left = x.left; read = pathed C expression false p.next.names p.other ∙ x.read; is = x.is; runs = x.runs }

-- ---- all of them

-- the rules of these, with the nonterminal
abbrev pub lead_rules : Nonterminal → List Rule
lead_rules N =
    rule N (pattern.Keyword word.Const) (One n.Base ∷ Maybe n.TypeRest ∷ Terminal pattern.Name ∷ Maybe n.LocalRest ∷ Terminal (pattern.Punctuator mark.Semicolon) ∷ []) ∷
    rule N (pattern.Keyword word.Auto) (Maybe n.Reference ∷ Terminal pattern.Name ∷ Maybe n.LocalRest ∷ Terminal (pattern.Punctuator mark.Semicolon) ∷ []) ∷
    rule N pattern.BuiltinType (One n.AfterBuiltin ∷ Terminal (pattern.Punctuator mark.Semicolon) ∷ []) ∷
    rule N (pattern.Spelled known.Std) (Terminal (pattern.Punctuator mark.Scope) ∷ One n.LibraryStatement ∷ Terminal (pattern.Punctuator mark.Semicolon) ∷ []) ∷
    rule N pattern.ClassName (One n.AfterClass ∷ Terminal (pattern.Punctuator mark.Semicolon) ∷ []) ∷
    rule N pattern.OtherName (Maybe n.AfterOther ∷ Terminal (pattern.Punctuator mark.Semicolon) ∷ []) ∷ []

lead_taken : {expression : ℕ → Reader Expression} {count : ℕ} (N : Nonterminal) (C : List (List ℕ)) (R : List Symbol) (ts : List Token) → Nested C expression count → length ts ≤ count → Among C R (lead_rules N) ts → ShortTaken C expression R ts
lead_taken N C R ts nested b (inl h) = const_taken nested (omega (arith, b)) (word_first h)
lead_taken N C R ts nested b (inr (inl h)) = auto_taken nested (omega (arith, b)) (word_first h)
lead_taken N C R ts nested b (inr (inr (inl h))) = builtin_taken nested (omega (arith, b)) (builtin_first h)
lead_taken N C R ts nested b (inr (inr (inr (inl h)))) = std_taken nested (omega (arith, b)) (spelled_first known.Std tt h)
lead_taken N C R ts nested b (inr (inr (inr (inr (inl h))))) = led_taken nested (omega (arith, b)) (statement_path (by_rule (One n.AfterClass ∷ []) those_statement_path (inl refl) h))
lead_taken N C R ts nested b (inr (inr (inr (inr (inr (inl h)))))) = led_taken nested (omega (arith, b)) (statement_path (by_rule (Maybe n.AfterOther ∷ []) those_statement_path (inr (inl refl)) h))
lead_taken N C R ts nested b (inr (inr (inr (inr (inr (inr h)))))) = absurd h

abbrev pub after_semicolon : Nonterminal → List Rule
after_semicolon N = plain_rules N (Terminal (pattern.Punctuator mark.Semicolon) ∷ []) ++ lead_rules N

pub semicolon_taken : {C : List (List ℕ)} {R : List Symbol} {ts : List Token} (expression : ℕ → Reader Expression) → Runs C (Terminal (pattern.Punctuator mark.Semicolon) ∷ R) ts → ShortTaken C expression R ts
semicolon_taken expression h = none_taken expression (mark_first h)

pub among_taken : {expression : ℕ → Reader Expression} {count : ℕ} (N : Nonterminal) (C : List (List ℕ)) (R : List Symbol) (ts : List Token) → Nested C expression count → length ts ≤ count → Among C R (after_semicolon N) ts → ShortTaken C expression R ts
among_taken {expression} {count} N C R ts nested b h = by (either C R ts (plain_rules N (Terminal (pattern.Punctuator mark.Semicolon) ∷ [])) (lead_rules N) h)
  where
    by : Among C R (plain_rules N (Terminal (pattern.Punctuator mark.Semicolon) ∷ [])) ts ⊎ Among C R (lead_rules N) ts → ShortTaken C expression R ts
    by (inl a) = plain_taken nested b (plain_among N (Terminal (pattern.Punctuator mark.Semicolon) ∷ []) C R ts a)
    by (inr a) = lead_taken N C R ts nested b a

pub short_taken : {C : List (List ℕ)} {R : List Symbol} {ts : List Token} {expression : ℕ → Reader Expression} {count : ℕ} → Nested C expression count → length ts ≤ count → Runs C (One n.ForInit ∷ R) ts → ShortTaken C expression R ts
short_taken {C} {R} {ts} {expression} {count} nested b h = by (which those_for_init h)
  where
    by : Among C R of_for_init ts → ShortTaken C expression R ts
    by (inl a) = semicolon_taken expression a
    by (inr a) = among_taken n.ForInit C R ts nested b a
