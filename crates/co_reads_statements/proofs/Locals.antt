-- Locals, and statements that a type or a path begins, where the rules read them.
use Rattle.std.proofs.Common.{◌≡◌, ℕ, suc, ◌≤◌, Bool, true, false, ◌&&◌, List, [], ◌∷◌, ◌++◌, length, refl, sym, ap, ◌∙◌, subst, ◌⊎◌, inl, inr, arith}
use Rattle.co_base.specs.declared.span.Span.{Span}
use Rattle.co_lex.specs.declared.token.Token.{Token}
use Rattle.co_lex.specs.declared.token.TokenKind.TheVariants as kind
use Rattle.co_lex.specs.declared.token.Mark.TheVariants as mark
use Rattle.co_lex.specs.declared.token.Word.TheVariants as word
use Rattle.co_rules.specs.declared.symbol.Nonterminal.TheVariants as n
use Rattle.co_rules.specs.declared.symbol.Pattern.TheVariants as pattern
use Rattle.co_rules.specs.declared.symbol.Symbol.{Symbol}
use Rattle.co_rules.specs.declared.symbol.Symbol.TheVariants.{Token as Terminal, One, Maybe, Close}
use Rattle.co_rules.specs.Names.{has_some, is_class}
use Rattle.co_rules.specs.Rule.{Rule, rule}
use Rattle.co_rules.proofs.Sets.{never}
use Rattle.co_tree.specs.declared.expressions.Brackets.{Brackets}
use Rattle.co_tree.specs.declared.expressions.Brackets.TheVariants.{Parentheses, Braces}
use Rattle.co_tree.specs.declared.expressions.Expression.{Expression}
use Rattle.co_tree.specs.declared.expressions.Expression.TheVariants as expr
use Rattle.co_tree.specs.declared.expressions.Expression.TheBlock.{shape-the_row-Expression-0, hidden-the_row-Expression-0, shown-the_row-Expression-0}
use Rattle.co_tree.specs.declared.types.SimpleType.{SimpleType}
use Rattle.co_tree.specs.declared.types.SimpleTypeKind.{SimpleTypeKind}
use Rattle.co_tree.specs.declared.types.SimpleTypeKind.TheVariants as simple
use Rattle.co_tree.specs.declared.types.Reference.TheVariants as reference_of
use Rattle.co_tree.specs.declared.types.TypeId.{TypeId}
use Rattle.co_tree.specs.declared.statements.ForInit.TheVariants as for_init
use Rattle.co_tree.specs.Derives.{StandsAt}
use Rattle.co_tree.specs.Formed.{PlainBase, PlainKind, LocalType, BeginsWithClassCall, first_of, is_led_by_class, is_class_call, as_postfix}
use Rattle.co_tree.specs.Piece.{m, w, name, if_said}
use Rattle.co_tree.specs.Sentence as tree
use Rattle.co_tree.specs.Statements.{initializer, full}
use Rattle.co_tree.specs.Types as types
use Rattle.co_reader.specs.Reading.{Reader, sees, after, lead, any_name}
use Rattle.co_reader.specs.Leads.{goes_on_as_type}
use Rattle.co_expressions.specs.Expressions.{of_kind, based, construction}
use Rattle.co_statements.specs.Statements.{is_class_type, auto_type, ended, local, constant, automatic, led_by_operand, led_by_built, led}
use Rattle.co_reads.specs.Expressions.{IsOperand}
use Rattle.co_reads.specs.Runs.{Runs}
use Rattle.co_reads.specs.Spells.{Spells}
use Rattle.co_reads.specs.Takes.{Takes}
use Rattle.co_reads.proofs.Arguments.{Bracketed, in_parens, in_braces}
use Rattle.co_reads.proofs.Bases.{base_taken}
use Rattle.co_reads.proofs.Built.{mark_token, word_token, kind_token, construction_built}
use Rattle.co_reads.proofs.Cases.{Among, NoneNext, which, whether, either, usable}
use Rattle.co_reads.proofs.Firsts.{Named, named, Marked, marked, mark_first}
use Rattle.co_reads.proofs.Fronts.{after-left}
use Rattle.co_reads.proofs.Library.{IsHandleFunction, handle_first}
use Rattle.co_reads.proofs.Nested.{Nested}
use Rattle.co_reads.proofs.Operations.{after_primary_taken}
use Rattle.co_reads.proofs.RulesOfTypes.{of_reference, those_reference}
use Rattle.co_reads.proofs.Spells.{spells_append, spells_rule}
use Rattle.co_reads.proofs.Steps.{expected, sees_here, after_here, taken_name, within, unseen_mark}
use Rattle.co_reads.proofs.TypeIds.{type_rest_taken}
use Rattle.co_reads_statements.specs.Statements.{IsShort}
use Rattle.co_reads_statements.proofs.Initializers.{initializer_taken}
use Rattle.co_reads_statements.proofs.Names.{behind, named_rest, local_rules, LocalNext, local_next}
use Rattle.co_reads_statements.proofs.RulesOfStatements.{those_after_builtin, of_after_handle, those_after_handle}

-- ---- after the type of a local

pub local_taken : {C : List (List ℕ)} {R : List Symbol} {ts : List Token} {expression : ℕ → Reader Expression} {count : ℕ} (of : TypeId) (start : List Token) (at : Span) → Nested C expression count → length ts ≤ suc count → StandsAt start at → Spells (types.type_id of) start ts → LocalType C of
    → Runs C (Terminal pattern.Name ∷ Maybe n.LocalRest ∷ Terminal (pattern.Punctuator mark.Semicolon) ∷ R) ts → Takes (local (is_class C) expression at of) (λ i left. IsShort C start i left) C R ts
unfolding local
local_taken {ts = ts} of start at nested b p s f h =
    let x = taken_name h in
    let v = within (name x.part ∷ []) ts x.left x.is.0 in
    let i = initializer_taken nested (omega (arith, b, v)) x.runs in
    let c = expected mark.Semicolon i.runs in
    record {
      part = for_init.Local (record { of = of; name = x.part; initializer = i.part; span = at });
      left = c.left;
      read = rw (x.read, i.read, c.read);
      is = record {
        spelled = (
          p,
          spells_append (types.type_id of) (name x.part ∷ (initializer i.part ++ m mark.Semicolon ∷ [])) start ts c.left s
              (spells_append (name x.part ∷ []) (initializer i.part ++ m mark.Semicolon ∷ []) ts x.left c.left x.is.0 (spells_append (initializer i.part) (m mark.Semicolon ∷ []) x.left i.left c.left i.is.0 c.is)),
        );
        formed = (f, x.is.1, i.is.1);
      };
      runs = c.runs;
    }

-- a whole type of its parts
type_of_parts : (b c : Bool) (base : SimpleType) (pointers : ℕ) (reference : _) (at : Span) (start ts us left : List Token) → StandsAt start at → Spells (if_said b (w word.Const)) start ts → Spells (types.simple_type base) ts us
    → Spells (if_said c (w word.Const) ++ (types.stars pointers ++ types.reference_mark reference)) us left → Spells (types.type_id (record { is_const = b; base = base; is_const_after = c; pointers = pointers; reference = reference; span = at })) start left
type_of_parts b c base pointers reference at start ts us left p s t r =
    let rest = if_said c (w word.Const) ++ (types.stars pointers ++ types.reference_mark reference) in
    (p, spells_rule (if_said b (w word.Const) ++ (types.simple_type base ++ rest)) start left (spells_append (if_said b (w word.Const)) (types.simple_type base ++ rest) start ts left s (spells_append (types.simple_type base) rest ts us left t r)))

pub constant_taken : {C : List (List ℕ)} {R : List Symbol} {ts : List Token} {expression : ℕ → Reader Expression} {count : ℕ} (at : Span) → Nested C expression count → length ts ≤ count
    → Runs C (One n.Base ∷ named_rest (Terminal (pattern.Punctuator mark.Semicolon) ∷ R)) ts → Takes (constant (is_class C) expression at) (λ i left. IsShort C (word_token word.Const at ∷ ts) i left) C R ts
unfolding constant
constant_taken {ts = ts} at nested b h =
    let x = base_taken h in
    let v = within (types.simple_type x.part) ts x.left x.is.0 in
    let r = type_rest_taken x.runs in
    let u = within (if_said r.is_const_after (w word.Const) ++ (types.stars r.pointers ++ types.reference_mark r.reference)) x.left r.left r.spelled in
    let z = local_taken (record { is_const = true; base = x.part; is_const_after = r.is_const_after; pointers = r.pointers; reference = r.reference; span = at }) (word_token word.Const at ∷ ts) at nested (omega (arith, b, v, u)) refl (type_of_parts true r.is_const_after x.part r.pointers r.reference at (word_token word.Const at ∷ ts) ts x.left r.left refl (refl, refl) x.is.0 r.spelled) (inl x.is.1) r.runs in
    record { part = z.part; left = z.left; read = rw (x.read, r.read at true x.part, z.read); is = z.is; runs = z.runs }

automatic_by : {C : List (List ℕ)} {R : List Symbol} {ts : List Token} {expression : ℕ → Reader Expression} {count : ℕ} (at : Span) → Nested C expression count → length ts ≤ count
    → Among C (Terminal pattern.Name ∷ Maybe n.LocalRest ∷ Terminal (pattern.Punctuator mark.Semicolon) ∷ R) of_reference ts ⊎ (NoneNext C of_reference ts × Runs C (Terminal pattern.Name ∷ Maybe n.LocalRest ∷ Terminal (pattern.Punctuator mark.Semicolon) ∷ R) ts)
    → Takes (automatic (is_class C) expression at) (λ i left. IsShort C (word_token word.Auto at ∷ ts) i left) C R ts
unfolding automatic
automatic_by {C} {R} {expression = expression} at nested b (inl (inl h)) = lvalue nested b (mark_first h)
  where
    lvalue : {us : List Token} {count : ℕ} → Nested C expression count → length us ≤ count → Marked C mark.And (Terminal pattern.Name ∷ Maybe n.LocalRest ∷ Terminal (pattern.Punctuator mark.Semicolon) ∷ R) us → Takes (automatic (is_class C) expression at) (λ i left. IsShort C (word_token word.Auto at ∷ us) i left) C R us
    lvalue nested b (marked and us r) =
        let z = local_taken (auto_type at reference_of.Lvalue) (word_token word.Auto at ∷ mark_token mark.And and ∷ us) at nested (omega (arith, b)) refl (refl, (refl, (refl, (refl, refl)))) (inr ((record { base = refl; before = refl; after = refl; pointers = refl }), (λ e. absurd cc))) r in
        record { part = z.part; left = z.left; read = rw (sees_here mark.And and us, after_here mark.And and us) z.read; is = z.is; runs = z.runs }
automatic_by at nested b (inl (inr h)) = absurd h
automatic_by {C} {R} {ts} {expression} at nested b (inr h) = none nested b (unseen_and C ts h.0) h.1
  where
    unseen_and : (C : List (List ℕ)) (us : List Token) → NoneNext C of_reference us → sees mark.And us ≡ false
    unseen_and C [] h = absurd h
    unseen_and C (t ∷ us) h = unseen_mark C mark.And t us (h.0 (usable (has_some C)))

    none : {us : List Token} {count : ℕ} → Nested C expression count → length us ≤ count → sees mark.And us ≡ false → Runs C (Terminal pattern.Name ∷ Maybe n.LocalRest ∷ Terminal (pattern.Punctuator mark.Semicolon) ∷ R) us
        → Takes (automatic (is_class C) expression at) (λ i left. IsShort C (word_token word.Auto at ∷ us) i left) C R us
    none {us} nested b e r =
        let z = local_taken (auto_type at reference_of.None) (word_token word.Auto at ∷ us) at nested (omega (arith, b)) refl (refl, (refl, (refl, refl))) (inr ((record { base = refl; before = refl; after = refl; pointers = refl }), (λ e. absurd cc))) r in
        record { part = z.part; left = z.left; read = rw (e, after-left mark.And us e) z.read; is = z.is; runs = z.runs }

pub automatic_taken : {C : List (List ℕ)} {R : List Symbol} {ts : List Token} {expression : ℕ → Reader Expression} {count : ℕ} (at : Span) → Nested C expression count → length ts ≤ count
    → Runs C (Maybe n.Reference ∷ Terminal pattern.Name ∷ Maybe n.LocalRest ∷ Terminal (pattern.Punctuator mark.Semicolon) ∷ R) ts → Takes (automatic (is_class C) expression at) (λ i left. IsShort C (word_token word.Auto at ∷ ts) i left) C R ts
automatic_taken at nested b h = automatic_by at nested b (whether those_reference h)

-- ---- after an operand, and after the base of a type

-- what stands first is no call of a class
no_class_call : (e f : Expression) → first_of f ≡ first_of e → is_led_by_class (first_of e) ≡ false → BeginsWithClassCall f → ⊥
no_class_call e f s h i = never (sym h ∙ (ap is_led_by_class (sym s) ∙ i))

pub operand_led_taken : {C : List (List ℕ)} {R : List Symbol} {start ts : List Token} {e : Expression} {expression : ℕ → Reader Expression} {count : ℕ} (at : Span) → Nested C expression count → length start ≤ suc count → StandsAt start at → IsOperand C as_postfix start e ts
    → is_led_by_class (first_of e) ≡ false → Runs C (behind (Terminal (pattern.Punctuator mark.Semicolon) ∷ R)) ts → Takes (led_by_operand (is_class C) expression at e) (λ i left. IsShort C start i left) C R ts
unfolding led_by_operand ended
operand_led_taken {start = start} {ts} {e} {expression} at nested b p o f h =
    let x = after_primary_taken at nested b p o h in
    let c = expected mark.Semicolon x.runs in
    record {
      part = for_init.Expression x.part;
      left = c.left;
      read = rw (x.read, c.read);
      is = record {
        spelled = spells_append (full x.part) (m mark.Semicolon ∷ []) start x.left c.left (spells_rule (tree.expression x.part) start x.left x.is.0.spelled) c.is;
        formed = (x.is.0.formed, no_class_call e x.part x.is.1 f);
      };
      runs = c.runs;
    }

-- what is read behind the base of a type
abbrev pub LedTaken : List (List ℕ) → (ℕ → Reader Expression) → List Symbol → List Token → Span → SimpleType → List Token → Type 0
LedTaken C expression R start at base ts = Takes (led (is_class C) expression at base) (λ i left. IsShort C start i left) C R ts

pub local_led_taken : {C : List (List ℕ)} {R : List Symbol} {start ts : List Token} {expression : ℕ → Reader Expression} {count : ℕ} (base : SimpleType) (at : Span) → Nested C expression count → length ts ≤ suc count → StandsAt start at → Spells (types.simple_type base) start ts → PlainBase C base
    → LocalNext C (Terminal (pattern.Punctuator mark.Semicolon) ∷ R) ts → LedTaken C expression R start at base ts
unfolding led
local_led_taken {start = start} {ts} base at nested b p s f h =
    let r = type_rest_taken h.runs in
    let u = within (if_said r.is_const_after (w word.Const) ++ (types.stars r.pointers ++ types.reference_mark r.reference)) ts r.left r.spelled in
    let z = local_taken (record { is_const = false; base = base; is_const_after = r.is_const_after; pointers = r.pointers; reference = r.reference; span = at }) start at nested (omega (arith, b, u)) p (type_of_parts false r.is_const_after base r.pointers r.reference at start start ts r.left p refl s r.spelled) (inl f) r.runs in
    record { part = z.part; left = z.left; read = rw (h.goes_on, r.read at false base, z.read); is = z.is; runs = z.runs }

-- the base of a type is no class that a `(` follows
abbrev pub NoCall : SimpleType → Brackets → Type 0
NoCall base how = is_class_call base.kind how ≡ false

first_construction : (base : SimpleType) (how : Brackets) (es : List Expression) → is_led_by_class (first_of (expr.Construction base how es)) ≡ is_class_call base.kind how
unfolding shape-the_row-Expression-0 hidden-the_row-Expression-0 shown-the_row-Expression-0 denote.Hole.Carrier.hidden
first_construction base how es = refl

pub built_led_taken : {C : List (List ℕ)} {R : List Symbol} {start ts : List Token} {how : Brackets} {expression : ℕ → Reader Expression} {count : ℕ} (base : SimpleType) (at : Span) → Nested C expression count → length start ≤ suc count → StandsAt start at → Spells (types.simple_type base) start ts → PlainBase C base
    → NoCall base how → goes_on_as_type (lead ts) ≡ false → (is_class_type base.kind && sees mark.OpenParen ts) ≡ false → Bracketed C expression how (behind (Terminal (pattern.Punctuator mark.Semicolon) ∷ R)) ts → LedTaken C expression R start at base ts
unfolding led led_by_built based construction
built_led_taken {start = start} {ts} {how} base at nested b p s f c g call a =
    let z = operand_led_taken at nested b p (construction_built ts a.args how s f a.spelled a.formed) (first_construction base how a.args ∙ c) a.runs in
    record { part = z.part; left = z.left; read = rw (g, call, a.no_scope, after-left mark.Scope ts a.no_scope, a.opened, a.read, z.read); is = z.is; runs = z.runs }

-- ---- after a built-in type or an object of the library

-- the kind is no class
pub record NoClass (k : SimpleTypeKind) : Type 0 where
  pub type : is_class_type k ≡ false
  pub call : (how : Brackets) → is_class_call k how ≡ false

paren_led : {C : List (List ℕ)} {R : List Symbol} {start ts : List Token} {expression : ℕ → Reader Expression} {count : ℕ} (base : SimpleType) (at : Span) → Nested C expression count → length start ≤ suc count → length ts ≤ suc count → StandsAt start at → Spells (types.simple_type base) start ts → PlainBase C base → NoClass base.kind
    → Marked C mark.OpenParen (Maybe n.Arguments ∷ Terminal (pattern.Punctuator mark.CloseParen) ∷ behind (Terminal (pattern.Punctuator mark.Semicolon) ∷ R)) ts → LedTaken C expression R start at base ts
paren_led base at nested b l p s f c (marked of us r) = built_led_taken {how = Parentheses} base at nested b p s f (c.call Parentheses) refl (ap (λ x. x && sees mark.OpenParen (mark_token mark.OpenParen of ∷ us)) c.type) (in_parens nested l (marked of us r))

brace_led : {C : List (List ℕ)} {R : List Symbol} {start ts : List Token} {expression : ℕ → Reader Expression} {count : ℕ} (base : SimpleType) (at : Span) → Nested C expression count → length start ≤ suc count → length ts ≤ suc count → StandsAt start at → Spells (types.simple_type base) start ts → PlainBase C base → NoCall base Braces
    → Marked C mark.OpenBrace (Maybe n.Arguments ∷ Terminal (pattern.Punctuator mark.CloseBrace) ∷ behind (Terminal (pattern.Punctuator mark.Semicolon) ∷ R)) ts → LedTaken C expression R start at base ts
unfolding sees
brace_led base at nested b l p s f c (marked of us r) = built_led_taken {how = Braces} base at nested b p s f c refl (no_paren (is_class_type base.kind)) (in_braces nested l (marked of us r))
  where
    no_paren : (x : Bool) → (x && false) ≡ false
    no_paren true = refl
    no_paren false = refl

pub class_brace_led : {C : List (List ℕ)} {R : List Symbol} {start ts : List Token} {expression : ℕ → Reader Expression} {count : ℕ} (base : SimpleType) (at : Span) → Nested C expression count → length start ≤ suc count → StandsAt start at → Spells (types.simple_type base) start ts → PlainBase C base → NoCall base Braces
    → Runs C (Terminal (pattern.Punctuator mark.OpenBrace) ∷ Maybe n.Arguments ∷ Terminal (pattern.Punctuator mark.CloseBrace) ∷ behind (Terminal (pattern.Punctuator mark.Semicolon) ∷ R)) ts → LedTaken C expression R start at base ts
class_brace_led {start = start} {ts} base at nested b p s f c h = let v = within (types.simple_type base) start ts s in brace_led base at nested b (omega (arith, b, v)) p s f c (mark_first h)

abbrev bracket_rules : List Rule
bracket_rules =
    rule n.AfterBuiltin (pattern.Punctuator mark.OpenParen) (Maybe n.Arguments ∷ Terminal (pattern.Punctuator mark.CloseParen) ∷ Close ∷ Maybe n.Postfix ∷ Maybe n.Operators ∷ Maybe n.ExpressionRest ∷ []) ∷
    rule n.AfterBuiltin (pattern.Punctuator mark.OpenBrace) (Maybe n.Arguments ∷ Terminal (pattern.Punctuator mark.CloseBrace) ∷ Close ∷ Maybe n.Postfix ∷ Maybe n.Operators ∷ Maybe n.ExpressionRest ∷ []) ∷ []

base_led_by : {R : List Symbol} {start ts : List Token} {expression : ℕ → Reader Expression} {count : ℕ} (C : List (List ℕ)) (base : SimpleType) (at : Span) → Nested C expression count → length start ≤ suc count → length ts ≤ suc count → StandsAt start at → Spells (types.simple_type base) start ts → PlainBase C base → NoClass base.kind
    → Among C (Terminal (pattern.Punctuator mark.Semicolon) ∷ R) (local_rules n.AfterBuiltin) ts ⊎ Among C (Terminal (pattern.Punctuator mark.Semicolon) ∷ R) bracket_rules ts → LedTaken C expression R start at base ts
base_led_by {R} {ts = ts} C base at nested b l p s f c (inl h) = local_led_taken base at nested l p s f (local_next n.AfterBuiltin C (Terminal (pattern.Punctuator mark.Semicolon) ∷ R) ts h)
base_led_by C base at nested b l p s f c (inr (inl h)) = paren_led base at nested b (omega (arith, l)) p s f c (mark_first h)
base_led_by C base at nested b l p s f c (inr (inr (inl h))) = brace_led base at nested b (omega (arith, l)) p s f (c.call Braces) (mark_first h)
base_led_by C base at nested b l p s f c (inr (inr (inr h))) = absurd h

pub base_led_taken : {C : List (List ℕ)} {R : List Symbol} {start ts : List Token} {expression : ℕ → Reader Expression} {count : ℕ} (base : SimpleType) (at : Span) → Nested C expression count → length start ≤ suc count → length ts ≤ suc count → StandsAt start at → Spells (types.simple_type base) start ts → PlainBase C base → NoClass base.kind
    → Runs C (One n.AfterBuiltin ∷ Terminal (pattern.Punctuator mark.Semicolon) ∷ R) ts → LedTaken C expression R start at base ts
base_led_taken {C} {R} {ts = ts} base at nested b l p s f c h = base_led_by C base at nested b l p s f c (either C (Terminal (pattern.Punctuator mark.Semicolon) ∷ R) ts (local_rules n.AfterBuiltin) bracket_rules (which those_after_builtin h))

-- ---- after a handle

handle_operand : {C : List (List ℕ)} {start us : List Token} (p : _) (at scope : Span) (f : _) (text : List ℕ) (of : Span) → StandsAt start at → Spells (types.handle p) start (mark_token mark.Scope scope ∷ kind_token (kind.Name text) of ∷ us) → PlainKind C (simple.Handle p)
    → tree.handle_function f ≡ name text → IsOperand C as_postfix start (expr.HandleFunction p f at) us
handle_operand {start = start} {us = us} p at scope f text of stands s plain e =
    record {
      spelled = (stands, spells_append (types.handle p) (m mark.Scope ∷ tree.handle_function f ∷ []) start (mark_token mark.Scope scope ∷ kind_token (kind.Name text) of ∷ us) us s (refl, subst (λ q. Spells (q ∷ []) (kind_token (kind.Name text) of ∷ us) us) (sym e) (refl, refl)));
      formed = plain;
      tight = omega arith;
      new = λ h. absurd cc;
    }

static_led : {C : List (List ℕ)} {R : List Symbol} {start ts : List Token} {expression : ℕ → Reader Expression} {count : ℕ} (p : _) (at scope : Span) → Nested C expression count → length start ≤ suc count → StandsAt start at → Spells (types.handle p) start (mark_token mark.Scope scope ∷ ts) → PlainKind C (simple.Handle p)
    → Named C IsHandleFunction (behind (Terminal (pattern.Punctuator mark.Semicolon) ∷ R)) ts → LedTaken C expression R start at (of_kind (simple.Handle p) at) (mark_token mark.Scope scope ∷ ts)
unfolding led led_by_built based any_name sees after
static_led {expression = expression} p at scope nested b stands s plain (named text of us f r) =
    let z = operand_led_taken at nested b stands (handle_operand p at scope f.function text of stands s plain f.spelled) refl r in
    record { part = z.part; left = z.left; read = rw (f.found, z.read); is = z.is; runs = z.runs }

handle_led_by : {R : List Symbol} {start ts : List Token} {expression : ℕ → Reader Expression} {count : ℕ} (C : List (List ℕ)) (p : _) (at : Span) → Nested C expression count → length start ≤ suc count → length ts ≤ suc count → StandsAt start at → Spells (types.handle p) start ts → PlainKind C (simple.Handle p)
    → Among C (Terminal (pattern.Punctuator mark.Semicolon) ∷ R) of_after_handle ts → LedTaken C expression R start at (of_kind (simple.Handle p) at) ts
handle_led_by {R} {start} {expression = expression} {count} C p at nested b l stands s plain (inl h) = on_mark s (mark_first h)
  where
    on_mark : {us : List Token} → Spells (types.handle p) start us → Marked C mark.Scope (Terminal pattern.HandleFunction ∷ behind (Terminal (pattern.Punctuator mark.Semicolon) ∷ R)) us → LedTaken C expression R start at (of_kind (simple.Handle p) at) us
    on_mark s (marked scope us r) = static_led p at scope nested b stands s plain (handle_first r)
handle_led_by {R} {ts = ts} C p at nested b l stands s plain (inr h) =
    base_led_by C (of_kind (simple.Handle p) at) at nested b l stands (stands, s) plain (record { type = refl; call = λ how. refl }) (either C (Terminal (pattern.Punctuator mark.Semicolon) ∷ R) ts (local_rules n.AfterBuiltin) bracket_rules h)

pub handle_led_taken : {C : List (List ℕ)} {R : List Symbol} {start ts : List Token} {expression : ℕ → Reader Expression} {count : ℕ} (p : _) (at : Span) → Nested C expression count → length start ≤ suc count → length ts ≤ suc count → StandsAt start at → Spells (types.handle p) start ts → PlainKind C (simple.Handle p)
    → Runs C (One n.AfterHandle ∷ Terminal (pattern.Punctuator mark.Semicolon) ∷ R) ts → LedTaken C expression R start at (of_kind (simple.Handle p) at) ts
handle_led_taken {C} p at nested b l stands s plain h = handle_led_by C p at nested b l stands s plain (which those_after_handle h)
