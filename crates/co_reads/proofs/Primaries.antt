-- What a postfix expression begins with, where the rules read it.
use Rattle.std.proofs.Common.{◌≡◌, ℕ, suc, ◌≤◌, true, false, List, [], ◌∷◌, length, Some, refl, inl, inr, arith}
use Rattle.co_base.specs.declared.span.Span.{Span}
use Rattle.co_lex.specs.declared.token.Token.{Token}
use Rattle.co_lex.specs.declared.token.TokenKind.{TokenKind}
use Rattle.co_lex.specs.declared.token.TokenKind.TheVariants as kind
use Rattle.co_lex.specs.declared.token.Mark.TheVariants as mark
use Rattle.co_lex.specs.declared.token.Word.TheVariants as word
use Rattle.co_rules.specs.declared.symbol.Known.TheVariants as known
use Rattle.co_rules.specs.declared.symbol.Nonterminal.TheVariants as n
use Rattle.co_rules.specs.declared.symbol.Pattern.TheVariants as pattern
use Rattle.co_rules.specs.declared.symbol.Symbol.{Symbol}
use Rattle.co_rules.specs.declared.symbol.Symbol.TheVariants.{Token as Terminal, One, Maybe}
use Rattle.co_rules.specs.Names.{is_class}
use Rattle.co_rules.specs.Pattern.{admits}
use Rattle.co_rules.specs.Terminal.{terminal_of}
use Rattle.co_rules.proofs.Sets.{never}
use Rattle.co_tree.specs.declared.expressions.Expression.{Expression}
use Rattle.co_tree.specs.declared.expressions.Expression.TheVariants as expr
use Rattle.co_tree.specs.declared.types.SimpleTypeKind.{SimpleTypeKind}
use Rattle.co_tree.specs.declared.types.SimpleTypeKind.TheVariants as simple
use Rattle.co_tree.specs.Piece.{m, token}
use Rattle.co_tree.specs.Types as types
use Rattle.co_tree.specs.Formed.{BeginsWithType, as_postfix, PlainKind}
use Rattle.co_reader.specs.declared.lead.Lead.TheVariants as l
use Rattle.co_reader.specs.Reading.{Reader, lead, expect, sees}
use Rattle.co_expressions.specs.Expressions.{unary, prefix, primary, operand, cast, construction, parenthesized, named as named_reader}
use Rattle.co_reads.specs.Expressions.{IsOperand, begins_type}
use Rattle.co_reads.specs.Runs.{Runs, token as read_token}
use Rattle.co_reads.proofs.Arguments.{condition_taken}
use Rattle.co_reads.proofs.Built.{kind_token, read_of, parenthesized_built, static_cast_built, parenthesized_unled, static_cast_unled}
use Rattle.co_reads.proofs.Cases.{Among, HasMore, IsSome, some_left, some_among, stands_some}
use Rattle.co_reads.proofs.Constructions.{some_brackets, construction_taken, walked, walked_begins, pathed_taken}
use Rattle.co_reads.proofs.Firsts.{SpelledNext, spelled_next, spelled_first, Marked, marked, mark_first, Worded, worded, word_first}
use Rattle.co_reads.proofs.LibraryOperands.{NamedRead, std_taken, run_taken}
use Rattle.co_reads.proofs.Nested.{Nested}
use Rattle.co_reads.proofs.Operators.{unary_first}
use Rattle.co_reads.proofs.Paths.{NameNext}
use Rattle.co_reads.proofs.RulesOfExpressions.{of_unary, of_path}
use Rattle.co_reads.proofs.Steps.{expected, within}
use Rattle.co_reads.proofs.TypeIds.{type_taken}
use Rattle.co_reads.proofs.Unaries.{UnaryRead, IsPrimary, with_postfix, operator_unary, new_unary, delete_unary, scope_unary}

-- ---- literals

literal_operand : {C : List (List ℕ)} {expression : ℕ → Reader Expression} {count : ℕ} {R : List Symbol} (e : Expression) (k : TokenKind) (at : Span) (us : List Token) → Nested C expression count → length us ≤ count → IsPrimary C expression (kind_token k at ∷ us)
    → primary (is_class C) expression at (kind_token k at ∷ us) ≡ Some (e, us) → IsOperand C as_postfix (kind_token k at ∷ us) e us → (BeginsWithType e → ⊥) → Runs C (Maybe n.Postfix ∷ R) us → UnaryRead C expression R (kind_token k at ∷ us)
literal_operand e k at us nested b p read is unled r = with_postfix nested (omega (arith, b)) refl p (record { part = e; left = us; read = read; is = (is, λ h. absurd (unled h)); runs = r })

literal_kind : {expression : ℕ → Reader Expression} {count : ℕ} (C : List (List ℕ)) (R : List Symbol) (k : TokenKind) (at : Span) (us : List Token) → Nested C expression count → length us ≤ count → admits pattern.Literal (terminal_of C k) ≡ true → Runs C (Maybe n.Postfix ∷ R) us → UnaryRead C expression R (kind_token k at ∷ us)
unfolding admits unary prefix primary
literal_kind C R (kind.Int num value) at us nested b h r =
    literal_operand (expr.Number num value at) (kind.Int num value) at us nested b refl refl (record { spelled = (refl, (refl, refl)); formed = tt; tight = omega arith; new = λ h. absurd cc }) (λ h. absurd cc) r
literal_kind C R (kind.Word word.True) at us nested b h r =
    literal_operand (expr.Bool true at) (kind.Word word.True) at us nested b refl refl (record { spelled = (refl, (refl, refl)); formed = tt; tight = omega arith; new = λ h. absurd cc }) (λ h. absurd cc) r
literal_kind C R (kind.Word word.False) at us nested b h r =
    literal_operand (expr.Bool false at) (kind.Word word.False) at us nested b refl refl (record { spelled = (refl, (refl, refl)); formed = tt; tight = omega arith; new = λ h. absurd cc }) (λ h. absurd cc) r
literal_kind C R (kind.Word word.Nullptr) at us nested b h r =
    literal_operand (expr.Nullptr at) (kind.Word word.Nullptr) at us nested b refl refl (record { spelled = (refl, (refl, refl)); formed = tt; tight = omega arith; new = λ h. absurd cc }) (λ h. absurd cc) r
literal_kind C R (kind.Word word.This) at us nested b h r =
    literal_operand (expr.This at) (kind.Word word.This) at us nested b refl refl (record { spelled = (refl, (refl, refl)); formed = tt; tight = omega arith; new = λ h. absurd cc }) (λ h. absurd cc) r
literal_kind C R k at us nested b h r = never h

literal_unary : {C : List (List ℕ)} {expression : ℕ → Reader Expression} {count : ℕ} {R : List Symbol} {ts : List Token} → Nested C expression count → length ts ≤ suc count → Runs C (Terminal pattern.Literal ∷ Maybe n.Postfix ∷ R) ts → UnaryRead C expression R ts
literal_unary {C} {R = R} nested b (read_token p S t us a few r) = literal_kind C R t.kind t.span us nested (omega (arith, b)) a r

-- ---- built-in types

built_operand : {C : List (List ℕ)} {expression : ℕ → Reader Expression} {count : ℕ} {R : List Symbol} (of : SimpleTypeKind) (k : TokenKind) (at : Span) (us : List Token) → Nested C expression count → length us ≤ count → IsPrimary C expression (kind_token k at ∷ us)
    → types.simple_kind of ≡ token k ∷ [] → PlainKind C of → begins_type (kind_token k at ∷ us) ≡ true
    → ((e : Expression) (left : List Token) → construction expression (record { kind = of; span = at }) us ≡ Some (e, left) → primary (is_class C) expression at (kind_token k at ∷ us) ≡ Some (e, left))
    → Runs C (One n.Built ∷ Maybe n.Postfix ∷ R) us → UnaryRead C expression R (kind_token k at ∷ us)
built_operand of k at us nested b p spelled plain led read r =
    let a = some_brackets nested (omega (arith, b)) r in
    let c = construction_taken (record { kind = of; span = at }) (refl, rw spelled (refl, refl)) plain a.bracketed in
    with_postfix nested (omega (arith, b)) refl p (record { part = c.part; left = c.left; read = read c.part c.left c.read; is = (c.is, λ _. led); runs = c.runs })

built_kind : {expression : ℕ → Reader Expression} {count : ℕ} (C : List (List ℕ)) (R : List Symbol) (k : TokenKind) (at : Span) (us : List Token) → Nested C expression count → length us ≤ count → admits pattern.BuiltinType (terminal_of C k) ≡ true → Runs C (One n.Built ∷ Maybe n.Postfix ∷ R) us
    → UnaryRead C expression R (kind_token k at ∷ us)
unfolding admits unary prefix primary operand
built_kind C R (kind.Word word.Void) at us nested b h r = built_operand simple.Void (kind.Word word.Void) at us nested b refl refl tt refl (λ e left x. x) r
built_kind C R (kind.Word word.Bool) at us nested b h r = built_operand simple.Bool (kind.Word word.Bool) at us nested b refl refl tt refl (λ e left x. x) r
built_kind C R (kind.Word word.Int) at us nested b h r = built_operand simple.Int (kind.Word word.Int) at us nested b refl refl tt refl (λ e left x. x) r
built_kind C R (kind.Word word.Long) at us nested b h r = built_operand simple.Long (kind.Word word.Long) at us nested b refl refl tt refl (λ e left x. x) r
built_kind C R k at us nested b h r = never h

built_unary : {C : List (List ℕ)} {expression : ℕ → Reader Expression} {count : ℕ} {R : List Symbol} {ts : List Token} → Nested C expression count → length ts ≤ suc count → Runs C (Terminal pattern.BuiltinType ∷ One n.Built ∷ Maybe n.Postfix ∷ R) ts → UnaryRead C expression R ts
built_unary {C} {R = R} nested b (read_token p S t us a few r) = built_kind C R t.kind t.span us nested (omega (arith, b)) a r

-- ---- `(` and `static_cast`

paren_unary : {C : List (List ℕ)} {expression : ℕ → Reader Expression} {count : ℕ} {R : List Symbol} {ts : List Token} → Nested C expression count → length ts ≤ suc count → Marked C mark.OpenParen (One n.Expression ∷ Terminal (pattern.Punctuator mark.CloseParen) ∷ Maybe n.Postfix ∷ R) ts → UnaryRead C expression R ts
unfolding unary prefix primary operand parenthesized expect sees
paren_unary {R = R} nested b (marked at us r) =
    let x = nested.whole (Terminal (pattern.Punctuator mark.CloseParen) ∷ Maybe n.Postfix ∷ R) us (omega (arith, b)) r in
    let c = expected mark.CloseParen x.runs in
    with_postfix nested b refl refl (record { part = expr.Parenthesized x.part at; left = c.left; read = rw (x.read, c.read); is = (parenthesized_built at refl (refl, refl) (read_of x.is) c.is, λ h. absurd (parenthesized_unled x.part at h)); runs = c.runs })

cast_unary : {C : List (List ℕ)} {expression : ℕ → Reader Expression} {count : ℕ} {R : List Symbol} {ts : List Token} → Nested C expression count → length ts ≤ suc count
    → Worded C word.StaticCast (Terminal (pattern.Punctuator mark.Less) ∷ One n.TypeId ∷ Terminal (pattern.Punctuator mark.Greater) ∷ One n.Condition ∷ Maybe n.Postfix ∷ R) ts → UnaryRead C expression R ts
unfolding unary prefix primary operand cast
cast_unary nested b (worded at us r) =
    let a = expected mark.Less r in
    let aw = within (m mark.Less ∷ []) us a.left a.is in
    let t = type_taken a.runs in
    let tw = within (types.type_id t.part) a.left t.left t.is.0 in
    let g = expected mark.Greater t.runs in
    let gw = within (m mark.Greater ∷ []) t.left g.left g.is in
    let x = condition_taken nested (omega (arith, b, aw, tw, gw)) g.runs in
    with_postfix nested b refl refl
    (record { part = expr.StaticCast t.part x.part at; left = x.left; read = rw (a.read, t.read, g.read, x.read); is = (static_cast_built a.left t.left g.left x.part at a.is t.is.0 t.is.1 g.is x.is.0 x.is.1, λ h. absurd (static_cast_unled t.part x.part at h)); runs = x.runs })

-- ---- names

named_unary : {C : List (List ℕ)} {expression : ℕ → Reader Expression} {count : ℕ} {R : List Symbol} {ts : List Token} → Nested C expression count → length ts ≤ suc count → IsSome ts → lead ts ≡ l.Name → NamedRead C expression (Maybe n.Postfix ∷ R) ts → UnaryRead C expression R ts
unfolding unary prefix primary operand
named_unary {C} {expression} {R = R} {ts = ts} nested b some h x =
    with_postfix nested b (stands_some ts some) (rw (h, h, h, h)) (record { part = x.part; left = x.left; read = rw (h, h) x.read; is = x.is; runs = x.runs })

spelled_lead : {C : List (List ℕ)} {R : List Symbol} {ts : List Token} {k : _} → SpelledNext C k R ts → lead ts ≡ l.Name
spelled_lead (spelled_next at us r) = refl

-- a name that is not `corun` may be that of a type
name_led : (ts : List Token) → NameNext ts → begins_type ts ≡ true
name_led ts g = rw (g.lead_is, g.no_corun)

path_unary : {expression : ℕ → Reader Expression} {count : ℕ} (C : List (List ℕ)) (R : List Symbol) (ts : List Token) → Nested C expression count → length ts ≤ suc count → Among C (Maybe n.Postfix ∷ R) of_path ts → UnaryRead C expression R ts
unfolding named_reader
path_unary C R ts nested b h =
    let x = walked C (Maybe n.Postfix ∷ R) ts nested b h in
    let g = walked_begins x in
    let q = pathed_taken x in
    named_unary nested b (some_among C (Maybe n.Postfix ∷ R) ts of_path h) g.lead_is (record { part = q.part; left = q.left; read = rw (g.no_std, g.no_corun, q.read); is = (q.is, λ _. name_led ts g); runs = q.runs })

-- ---- unary expressions

pub unary_among : {expression : ℕ → Reader Expression} {count : ℕ} (C : List (List ℕ)) (R : List Symbol) (ts : List Token) → Nested C expression count → HasMore R → length ts ≤ suc count → Among C R of_unary ts → UnaryRead C expression R ts
unary_among C R ts nested more b (inl h) = operator_unary nested more b (unary_first h)
unary_among C R ts nested more b (inr (inl h)) = new_unary nested b (word_first h)
unary_among C R ts nested more b (inr (inr (inl h))) = delete_unary nested more b (word_first h)
unary_among C R ts nested more b (inr (inr (inr (inl h)))) = scope_unary nested more b (mark_first h)
unary_among C R ts nested more b (inr (inr (inr (inr (inl h))))) = paren_unary nested b (mark_first h)
unary_among {expression} C R ts nested more b (inr (inr (inr (inr (inr (inl h)))))) =
    let s = spelled_first known.Corun tt h in named_unary nested b (some_left h tt) (spelled_lead s) (run_taken expression s)
unary_among C R ts nested more b (inr (inr (inr (inr (inr (inr (inl h))))))) = cast_unary nested b (word_first h)
unary_among C R ts nested more b (inr (inr (inr (inr (inr (inr (inr (inl h)))))))) = literal_unary nested b h
unary_among C R ts nested more b (inr (inr (inr (inr (inr (inr (inr (inr (inl h))))))))) = built_unary nested b h
unary_among C R ts nested more b (inr (inr (inr (inr (inr (inr (inr (inr (inr (inl h)))))))))) =
    let s = spelled_first known.Std tt h in named_unary nested b (some_left h tt) (spelled_lead s) (std_taken nested b s)
unary_among C R ts nested more b (inr (inr (inr (inr (inr (inr (inr (inr (inr (inr h)))))))))) = path_unary C R ts nested b h
