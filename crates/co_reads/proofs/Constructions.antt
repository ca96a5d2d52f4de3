-- Constructions, and paths that are operands, where the rules read them.
use Rattle.std.proofs.Common.{◌≡◌, ℕ, zero, suc, min, ◌≤◌, true, false, List, [], ◌∷◌, length, ◌⊎◌, inl, inr, arith}
use Rattle.co_base.specs.declared.span.Span.{Span}
use Rattle.co_lex.specs.declared.token.Token.{Token}
use Rattle.co_lex.specs.declared.token.Mark.TheVariants as mark
use Rattle.co_rules.specs.declared.symbol.Nonterminal.TheVariants as n
use Rattle.co_rules.specs.declared.symbol.Symbol.{Symbol}
use Rattle.co_rules.specs.declared.symbol.Symbol.TheVariants.{One, Maybe}
use Rattle.co_rules.specs.Names.{is_class, has_some}
use Rattle.co_tree.specs.declared.expressions.Brackets.{Brackets}
use Rattle.co_tree.specs.declared.expressions.Brackets.TheVariants.{Parentheses, Braces}
use Rattle.co_tree.specs.declared.expressions.Expression.{Expression}
use Rattle.co_tree.specs.declared.expressions.Expression.TheVariants as expr
use Rattle.co_tree.specs.declared.types.SimpleType.{SimpleType}
use Rattle.co_tree.specs.declared.types.SimpleTypeKind.TheVariants as simple
use Rattle.co_tree.specs.Types as types
use Rattle.co_tree.specs.Formed.{BeginsWithType, IsName, as_postfix, last_of, PlainBase}
use Rattle.co_reader.specs.Reading.{Reader, place, sees}
use Rattle.co_expressions.specs.Expressions.{construction, based, pathed}
use Rattle.co_reads.specs.Expressions.{IsOperand, IsLed}
use Rattle.co_reads.specs.Runs.{Runs}
use Rattle.co_reads.specs.Spells.{Spells}
use Rattle.co_reads.specs.Takes.{Takes}
use Rattle.co_reads.proofs.Arguments.{Bracketed, in_parens, in_braces}
use Rattle.co_reads.proofs.Bases.{name_token, scope_token}
use Rattle.co_reads.proofs.Built.{construction_built}
use Rattle.co_reads.proofs.Cases.{Among, NoneNext, which, whether, usable, none_left, some_among}
use Rattle.co_reads.proofs.Firsts.{Named, named, class_first, other_first, IsClassName, IsOtherName, Marked, marked, mark_first}
use Rattle.co_reads.proofs.Fronts.{after-left}
use Rattle.co_reads.proofs.Nested.{Nested}
use Rattle.co_reads.proofs.Paths.{NamesNext, only, then, names_stand, path_of, path_read, path_spelled, path_is, path_class, is_class_path, no_class_path, NameNext, names_begin}
use Rattle.co_reads.proofs.RulesOfExpressions.{of_built, those_built, of_class_operand, those_class_operand, of_scope, those_scope, of_path, those_path}
use Rattle.co_reads.proofs.Steps.{unseen_mark}

-- ---- a base and arguments in brackets

-- an operand is read that begins at the start
abbrev pub OperandRead : List (List ℕ) → Reader Expression → List Symbol → List Token → List Token → Type 0
OperandRead C reader R start ts = Takes reader (λ e left. IsOperand C as_postfix start e left) C R ts

-- no type stands first in it
abbrev pub PlainRead : List (List ℕ) → Reader Expression → List Symbol → List Token → List Token → Type 0
PlainRead C reader R start ts = Takes reader (λ e left. IsOperand C as_postfix start e left × (BeginsWithType e → ⊥)) C R ts

-- a type stands first in it only where one comes next
abbrev pub LedRead : List (List ℕ) → Reader Expression → List Symbol → List Token → Type 0
LedRead C reader R ts = Takes reader (λ e left. IsOperand C as_postfix ts e left × IsLed ts e) C R ts

pub construction_taken : {C : List (List ℕ)} {expression : ℕ → Reader Expression} {R : List Symbol} {start ts : List Token} {how : Brackets} (base : SimpleType) → Spells (types.simple_type base) start ts → PlainBase C base → Bracketed C expression how R ts
    → OperandRead C (construction expression base) R start ts
unfolding construction
construction_taken {start = start} {ts = ts} {how = how} base s p b =
    record { part = expr.Construction base how b.args; left = b.left; read = rw (b.opened, b.read); is = construction_built ts b.args how s p b.spelled b.formed; runs = b.runs }

pub based_taken : {C : List (List ℕ)} {expression : ℕ → Reader Expression} {R : List Symbol} {start ts : List Token} {how : Brackets} (at : Span) (base : SimpleType) → Spells (types.simple_type base) start ts → PlainBase C base → Bracketed C expression how R ts
    → OperandRead C (based expression at base) R start ts
unfolding based
based_taken {ts = ts} at base s p b =
    let c = construction_taken base s p b in
    record { part = c.part; left = c.left; read = rw (b.no_scope, after-left mark.Scope ts b.no_scope, c.read); is = c.is; runs = c.runs }

-- brackets of some kind come next
pub record SomeBrackets (C : List (List ℕ)) (expression : ℕ → Reader Expression) (R : List Symbol) (ts : List Token) : Type 0 where
  pub how : Brackets
  pub bracketed : Bracketed C expression how R ts

pub brackets_among : {expression : ℕ → Reader Expression} {count : ℕ} (C : List (List ℕ)) (R : List Symbol) (ts : List Token) → Nested C expression count → length ts ≤ suc count → Among C R of_built ts → SomeBrackets C expression R ts
brackets_among C R ts nested b (inl h) = record { how = Parentheses; bracketed = in_parens nested b (mark_first h) }
brackets_among C R ts nested b (inr (inl h)) = record { how = Braces; bracketed = in_braces nested b (mark_first h) }
brackets_among C R ts nested b (inr (inr h)) = absurd h

pub some_brackets : {C : List (List ℕ)} {expression : ℕ → Reader Expression} {count : ℕ} {R : List Symbol} {ts : List Token} → Nested C expression count → length ts ≤ suc count → Runs C (One n.Built ∷ R) ts → SomeBrackets C expression R ts
some_brackets {C} {R = R} {ts = ts} nested b h = brackets_among C R ts nested b (which those_built h)

-- ---- the paths of operands

-- the path of a class comes next, and brackets behind it; or a path of no class
pub data Walked (C : List (List ℕ)) (expression : ℕ → Reader Expression) (R : List Symbol) (ts : List Token) : Type 0 where
  of_class : (first : List ℕ) (later : List (List ℕ)) (left : List Token) → NamesNext first later ts left → is_class C (last_of later first) ≡ true → SomeBrackets C expression R left → Walked C expression R ts
  of_other : (first : List ℕ) (later : List (List ℕ)) (left : List Token) → NamesNext first later ts left → is_class C (last_of later first) ≡ false → Runs C R left → Walked C expression R ts

named_first : {C : List (List ℕ)} {expression : ℕ → Reader Expression} {R : List Symbol} {us : List Token} (text : List ℕ) (at scope : Span) → IsName text → Walked C expression R us → Walked C expression R (name_token text at ∷ scope_token scope ∷ us)
named_first text at scope is (of_class first later left names class b) = of_class text (first ∷ later) left (then text first later at scope _ left is names) class b
named_first text at scope is (of_other first later left names class r) = of_other text (first ∷ later) left (then text first later at scope _ left is names) class r

-- what reads the path that is left
abbrev Later : List (List ℕ) → (ℕ → Reader Expression) → List Symbol → ℕ → Type 0
Later C expression R bound = (us : List Token) → length us ≤ bound → Runs C (One n.Path ∷ R) us → Walked C expression R us

scoped : {C : List (List ℕ)} {expression : ℕ → Reader Expression} {R : List Symbol} {us : List Token} (text : List ℕ) (at : Span) (bound : ℕ) → IsName text → Later C expression R bound → length us ≤ suc bound → Marked C mark.Scope (One n.Path ∷ R) us
    → Walked C expression R (name_token text at ∷ us)
scoped text at bound is later b (marked scope us r) = named_first text at scope is (later us (omega (arith, b)) r)

ends_in_class : {C : List (List ℕ)} {expression : ℕ → Reader Expression} {R : List Symbol} {us : List Token} (text : List ℕ) (at : Span) → IsClassName C text → SomeBrackets C expression R us → Walked C expression R (name_token text at ∷ us)
ends_in_class {us = us} text at is b = of_class text [] us (only text at us is.name b.bracketed.no_scope) is.class b

class_operand : {expression : ℕ → Reader Expression} {count : ℕ} (C : List (List ℕ)) (R : List Symbol) (us : List Token) (text : List ℕ) (at : Span) (bound : ℕ) → Nested C expression count → length us ≤ suc count → length us ≤ suc bound → IsClassName C text → Later C expression R bound
    → Among C R of_class_operand us → Walked C expression R (name_token text at ∷ us)
class_operand C R us text at bound nested d b is later (inl h) = scoped text at bound is.name later b (mark_first h)
class_operand C R us text at bound nested d b is later (inr h) = ends_in_class text at is (brackets_among C R us nested d h)

unscoped : (C : List (List ℕ)) (us : List Token) → NoneNext C of_scope us → sees mark.Scope us ≡ false
unscoped C [] h = absurd h
unscoped C (t ∷ us) h = unseen_mark C mark.Scope t us (h.0 (usable (has_some C)))

other_operand : {expression : ℕ → Reader Expression} (C : List (List ℕ)) (R : List Symbol) (us : List Token) (text : List ℕ) (at : Span) (bound : ℕ) → length us ≤ suc bound → IsOtherName C text → Later C expression R bound
    → Among C R of_scope us ⊎ (NoneNext C of_scope us × Runs C R us) → Walked C expression R (name_token text at ∷ us)
other_operand C R us text at bound b is later (inl (inl h)) = scoped text at bound is.name later b (mark_first h)
other_operand C R us text at bound b is later (inl (inr h)) = absurd h
other_operand C R us text at bound b is later (inr h) = of_other text [] us (only text at us is.name (unscoped C us h.0)) is.class h.1

class_named : {C : List (List ℕ)} {expression : ℕ → Reader Expression} {count : ℕ} {R : List Symbol} {ts : List Token} (bound : ℕ) → Nested C expression count → length ts ≤ suc count → length ts ≤ suc bound → Later C expression R bound → Named C (IsClassName C) (One n.ClassOperand ∷ R) ts → Walked C expression R ts
class_named {C} {R = R} bound nested d b later (named text at us is r) = class_operand C R us text at bound nested (omega (arith, d)) (omega (arith, b)) is later (which those_class_operand r)

other_named : {C : List (List ℕ)} {expression : ℕ → Reader Expression} {R : List Symbol} {ts : List Token} (bound : ℕ) → length ts ≤ suc bound → Later C expression R bound → Named C (IsOtherName C) (Maybe n.Scope ∷ R) ts → Walked C expression R ts
other_named {C} {R = R} bound b later (named text at us is r) = other_operand C R us text at bound (omega (arith, b)) is later (whether those_scope r)

walk_by : {expression : ℕ → Reader Expression} {count : ℕ} (C : List (List ℕ)) (R : List Symbol) (k : ℕ) (ts : List Token) → Nested C expression count → length ts ≤ suc count → length ts ≤ k → Among C R of_path ts → Walked C expression R ts
walk_by C R zero ts nested d b h = absurd (none_left ts (some_among C R ts of_path h) b)
walk_by {count = count} C R (suc k) ts nested d b (inl h) = class_named (min k count) nested d (omega (arith, b, d)) (λ us c r. walk_by C R k us nested (omega (arith, c)) (omega (arith, c)) (which those_path r)) (class_first h)
walk_by {count = count} C R (suc k) ts nested d b (inr (inl h)) = other_named (min k count) (omega (arith, b, d)) (λ us c r. walk_by C R k us nested (omega (arith, c)) (omega (arith, c)) (which those_path r)) (other_first h)
walk_by C R (suc k) ts nested d b (inr (inr h)) = absurd h

pub walked : {expression : ℕ → Reader Expression} {count : ℕ} (C : List (List ℕ)) (R : List Symbol) (ts : List Token) → Nested C expression count → length ts ≤ suc count → Among C R of_path ts → Walked C expression R ts
walked C R ts nested b h = walk_by C R (length ts) ts nested b (omega arith) h

-- ---- what is read at the path

pub walked_begins : {C : List (List ℕ)} {expression : ℕ → Reader Expression} {R : List Symbol} {ts : List Token} → Walked C expression R ts → NameNext ts
walked_begins (of_class first later left names class b) = names_begin names
walked_begins (of_other first later left names class r) = names_begin names

-- a path is read, whatever comes behind it
class_path_taken : {C : List (List ℕ)} {expression : ℕ → Reader Expression} {R : List Symbol} {ts left : List Token} {first : List ℕ} {later : List (List ℕ)} → NamesNext first later ts left → is_class C (last_of later first) ≡ true → SomeBrackets C expression R left
    → OperandRead C (pathed (is_class C) expression (place ts)) R ts ts
unfolding pathed
class_path_taken {C} {R = R} {ts = ts} {left = left} {first = first} {later = later} names class b =
    let c = construction_taken (record { kind = simple.Class (path_of first later ts); span = place ts }) (names_stand names, path_spelled names) (is_class_path C names class) b.bracketed in
    record { part = c.part; left = c.left; read = rw (path_read names, path_class C names class, c.read); is = c.is; runs = c.runs }

pub pathed_taken : {C : List (List ℕ)} {expression : ℕ → Reader Expression} {R : List Symbol} {ts : List Token} → Walked C expression R ts → OperandRead C (pathed (is_class C) expression (place ts)) R ts ts
unfolding pathed
pathed_taken {C} {R = R} {ts = ts} (of_other first later left names class r) =
    record {
      part = expr.Name (path_of first later ts);
      left = left;
      read = rw (path_read names, path_class C names class);
      is = record { spelled = path_spelled names; formed = (path_is names, no_class_path C names class); tight = omega arith; new = λ h. absurd cc };
      runs = r;
    }
pathed_taken (of_class first later left names class b) = class_path_taken names class b
