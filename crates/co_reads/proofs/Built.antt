-- Expressions that are made of parts which are read.
use Rattle.std.proofs.Common.{IsTrue, ◌≡◌, ◌≢◌, ℕ, ◌+◌, ◌≤◌, Bool, true, false, List, [], ◌∷◌, ◌++◌, Some, refl, sym, subst, arith}
use Rattle.co_base.specs.declared.span.Span.{Span}
use Rattle.co_lex.specs.declared.token.Token.{Token}
use Rattle.co_lex.specs.declared.token.TokenKind.{TokenKind}
use Rattle.co_lex.specs.declared.token.TokenKind.TheVariants as kind
use Rattle.co_lex.specs.declared.token.Mark.{Mark}
use Rattle.co_lex.specs.declared.token.Mark.TheVariants as mark
use Rattle.co_lex.specs.declared.token.Word.{Word}
use Rattle.co_lex.specs.declared.token.Word.TheVariants as word
use Rattle.co_tree.specs.declared.types.SimpleType.{SimpleType}
use Rattle.co_tree.specs.declared.types.TypeId.{TypeId}
use Rattle.co_tree.specs.declared.expressions.AssignmentOperator.{AssignmentOperator}
use Rattle.co_tree.specs.declared.expressions.BinaryOperator.{BinaryOperator}
use Rattle.co_tree.specs.declared.expressions.UnaryOperator.{UnaryOperator}
use Rattle.co_tree.specs.declared.expressions.StepOperator.{StepOperator}
use Rattle.co_tree.specs.declared.expressions.MemberOperator.{MemberOperator}
use Rattle.co_tree.specs.declared.expressions.Brackets.{Brackets}
use Rattle.co_tree.specs.declared.expressions.Expression.{Expression}
use Rattle.co_tree.specs.declared.expressions.Expression.TheVariants as expr
use Rattle.co_tree.specs.declared.expressions.Expression.TheBlock.{shape-the_row-Expression-0, hidden-the_row-Expression-0, shown-the_row-Expression-0}
use Rattle.co_tree.specs.Derives.{StandsAt}
use Rattle.co_tree.specs.Piece.{Piece, token, opens, leave, m, w, name, rule, in_parentheses}
use Rattle.co_tree.specs.Types as types
use Rattle.co_tree.specs.Sentence as tree
use Rattle.co_tree.specs.Sentence.{assignment_mark, binary_mark, unary_token, step_mark, member_mark, in_brackets, is_binary, is_postfix, part, global, arguments}
use Rattle.co_tree.specs.Formed.{first_of, is_led_by_type, BeginsWithType, IsName, PlainBase, PlainType, FormedExpression, FormedAll, as_binary, as_unary, as_postfix, tightness, strength}
use Rattle.co_reader.specs.Reading.{lead}
use Rattle.co_reader.specs.Leads.{binary_operator}
use Rattle.co_reads.specs.Spells.{Spells}
use Rattle.co_reads.specs.Expressions.{IsRead, IsWhole, IsLed, IsOperand, IsNoPointerNext}
use Rattle.co_reads.proofs.Openings.{sentence_call, formed_call, sentence_new_with, formed_new_with, sentence_construction, formed_construction, sentence_operator_new, formed_operator_new, sentence_operator_delete, formed_operator_delete}
use Rattle.co_reads.proofs.Spells.{spells_append, spells_rule}

abbrev pub mark_token : Mark → Span → Token
mark_token x at = record { kind = kind.Mark x; span = at }

abbrev pub word_token : Word → Span → Token
word_token x at = record { kind = kind.Word x; span = at }

abbrev pub kind_token : TokenKind → Span → Token
kind_token k at = record { kind = k; span = at }

pub spells_part : (b : Bool) (ps : List Piece) (ts left : List Token) → Spells ps ts left → Spells (part b ps) ts left
spells_part true ps ts left s = s
spells_part false ps ts left s = spells_rule ps ts left s

pub as_read : {C : List (List ℕ)} {least : ℕ} {ts left : List Token} {e : Expression} → IsOperand C least ts e left → IsRead C ts e left
as_read x = record { spelled = x.spelled; formed = x.formed }

pub read_of : {C : List (List ℕ)} {ts left : List Token} {e : Expression} → IsWhole C ts e left → IsRead C ts e left
read_of x = record { spelled = x.spelled; formed = x.formed }

pub looser : {C : List (List ℕ)} {more : ℕ} {ts left : List Token} {e : Expression} (least : ℕ) → IsOperand C more ts e left → least ≤ more → IsOperand C least ts e left
looser {more = more} {e = e} least x h = record { spelled = x.spelled; formed = x.formed; tight = at_most least more (tightness e) h x.tight; new = x.new }
  where
    at_most : (a b c : ℕ) → a ≤ b → b ≤ c → a ≤ c
    at_most a b c h k = omega arith

-- ---- whole expressions

pub yield_built : {C : List (List ℕ)} {us left : List Token} {e : Expression} (at : Span) → IsRead C us e left → IsRead C (word_token word.CoYield at ∷ us) (expr.Yield e at) left
unfolding shape-the_row-Expression-0 hidden-the_row-Expression-0 shown-the_row-Expression-0 denote.Hole.Carrier.hidden
yield_built {us = us} {left = left} {e = e} at x = record { spelled = (refl, (refl, spells_rule (tree.expression e) us left x.spelled)); formed = x.formed }

pub throw_built : {C : List (List ℕ)} {us left : List Token} {e : Expression} (at : Span) → IsRead C us e left → IsRead C (word_token word.Throw at ∷ us) (expr.Throw e at) left
unfolding shape-the_row-Expression-0 hidden-the_row-Expression-0 shown-the_row-Expression-0 denote.Hole.Carrier.hidden
throw_built {us = us} {left = left} {e = e} at x = record { spelled = (refl, (refl, spells_rule (tree.expression e) us left x.spelled)); formed = x.formed }

pub rethrow_built : {C : List (List ℕ)} {us : List Token} (at : Span) → IsRead C (word_token word.Throw at ∷ us) (expr.Rethrow at) us
rethrow_built at = record { spelled = (refl, (refl, refl)); formed = tt }

pub assignment_built : {C : List (List ℕ)} {ts mid us left : List Token} {a b : Expression} (op : AssignmentOperator) (at : Span) → StandsAt ts at → IsOperand C as_binary ts a mid → Spells (m (assignment_mark op) ∷ []) mid us → IsRead C us b left
    → IsRead C ts (expr.Assignment a op b at) left
unfolding shape-the_row-Expression-0 hidden-the_row-Expression-0 shown-the_row-Expression-0 denote.Hole.Carrier.hidden
assignment_built {ts = ts} {mid = mid} {us = us} {left = left} {a = a} {b = b} op at p x s y =
    record {
      spelled = (
        p,
        spells_append (rule (tree.expression a)) (opens ∷ m (assignment_mark op) ∷ rule (tree.expression b)) ts mid left (spells_rule (tree.expression a) ts mid x.spelled)
            (spells_append (m (assignment_mark op) ∷ []) (rule (tree.expression b)) mid us left s (spells_rule (tree.expression b) us left y.spelled)),
      );
      formed = (x.formed, y.formed, x.tight);
    }

pub conditional_built : {C : List (List ℕ)} {ts mid us vs xs left : List Token} {a b c : Expression} (at : Span) → StandsAt ts at → IsOperand C as_binary ts a mid → Spells (m mark.Question ∷ []) mid us → IsRead C us b vs → Spells (m mark.Colon ∷ []) vs xs → IsRead C xs c left
    → IsRead C ts (expr.Conditional a b c at) left
unfolding shape-the_row-Expression-0 hidden-the_row-Expression-0 shown-the_row-Expression-0 denote.Hole.Carrier.hidden
conditional_built {ts = ts} {mid = mid} {us = us} {vs = vs} {xs = xs} {left = left} {a = a} {b = b} {c = c} at p x s y t z =
    record {
      spelled = (
        p,
        spells_append (rule (tree.expression a)) (opens ∷ m mark.Question ∷ (rule (tree.expression b) ++ m mark.Colon ∷ rule (tree.expression c))) ts mid left (spells_rule (tree.expression a) ts mid x.spelled)
            (spells_append (m mark.Question ∷ []) (rule (tree.expression b) ++ m mark.Colon ∷ rule (tree.expression c)) mid us left s
            (spells_append (rule (tree.expression b)) (m mark.Colon ∷ rule (tree.expression c)) us vs left (spells_rule (tree.expression b) us vs y.spelled)
            (spells_append (m mark.Colon ∷ []) (rule (tree.expression c)) vs xs left t (spells_rule (tree.expression c) xs left z.spelled)))),
      );
      formed = (x.formed, y.formed, z.formed, x.tight);
    }

-- ---- operators

pub binary_built : {C : List (List ℕ)} {ts mid us left : List Token} {a b : Expression} (op : BinaryOperator) (at : Span) → StandsAt ts at → IsOperand C (strength op) ts a mid → binary_operator (lead mid) ≡ Some op → Spells (m (binary_mark op) ∷ []) mid us → IsOperand C (strength op + 1) us b left
    → IsOperand C (strength op) ts (expr.Binary a op b at) left
unfolding shape-the_row-Expression-0 hidden-the_row-Expression-0 shown-the_row-Expression-0 denote.Hole.Carrier.hidden
binary_built {ts = ts} {mid = mid} {us = us} {left = left} {a = a} {b = b} op at p x found s y =
    let tight = y.tight in
    record {
      spelled = (
        p,
        spells_append (part (is_binary a) (tree.expression a)) (opens ∷ m (binary_mark op) ∷ part (is_binary b) (tree.expression b)) ts mid left (spells_part (is_binary a) (tree.expression a) ts mid x.spelled)
            (spells_append (m (binary_mark op) ∷ []) (part (is_binary b) (tree.expression b)) mid us left s (spells_part (is_binary b) (tree.expression b) us left y.spelled)),
      );
      formed = (x.formed, y.formed, x.tight, omega (arith, tight), λ h. x.new h op found);
      tight = omega arith;
      new = y.new;
    }

pub unary_built : {C : List (List ℕ)} {us left : List Token} {e : Expression} (op : UnaryOperator) (k : TokenKind) (at : Span) → unary_token op ≡ token k → IsOperand C as_unary us e left → IsOperand C as_unary (kind_token k at ∷ us) (expr.Unary op e at) left
unfolding shape-the_row-Expression-0 hidden-the_row-Expression-0 shown-the_row-Expression-0 denote.Hole.Carrier.hidden
unary_built {us = us} {left = left} {e = e} op k at s x =
    record { spelled = (refl, subst (λ q. Spells (q ∷ rule (tree.expression e)) (kind_token k at ∷ us) left) (sym s) (refl, spells_rule (tree.expression e) us left x.spelled)); formed = (x.formed, x.tight); tight = omega arith; new = x.new }

-- `::` before a `new` or a `delete`, if it stands there
abbrev pub IsGlobal : Bool → Span → List Token → List Token → Type 0
IsGlobal is_global at ts us = StandsAt ts at × Spells (global is_global) ts us

pub delete_built : {C : List (List ℕ)} {ts us left : List Token} {e : Expression} (is_global : Bool) (at of : Span) → IsGlobal is_global at ts (word_token word.Delete of ∷ us) → IsOperand C as_unary us e left → IsOperand C as_unary ts (expr.Delete is_global e at) left
unfolding shape-the_row-Expression-0 hidden-the_row-Expression-0 shown-the_row-Expression-0 denote.Hole.Carrier.hidden
delete_built {ts = ts} {us = us} {left = left} {e = e} is_global at of g x =
    record {
      spelled = (g.0, spells_append (global is_global) (opens ∷ w word.Delete ∷ rule (tree.expression e)) ts (word_token word.Delete of ∷ us) left g.1 (refl, spells_rule (tree.expression e) us left x.spelled));
      formed = (x.formed, x.tight);
      tight = omega arith;
      new = x.new;
    }

pub new_built : {C : List (List ℕ)} {ts left : List Token} {base : SimpleType} (us mid : List Token) (is_global : Bool) (pointers : ℕ) (at of : Span) → IsGlobal is_global at ts (word_token word.New of ∷ us) → Spells (types.simple_type base) us mid → PlainBase C base → Spells (types.stars pointers) mid left
    → IsNoPointerNext left → IsOperand C as_unary ts (expr.New is_global base pointers at) left
new_built {ts = ts} {left = left} {base = base} us mid is_global pointers at of g s p t next =
    record {
      spelled = (g.0, spells_append (global is_global) (opens ∷ w word.New ∷ (types.simple_type base ++ types.stars pointers)) ts (word_token word.New of ∷ us) left g.1 (refl, spells_append (types.simple_type base) (types.stars pointers) us mid left s t));
      formed = p;
      tight = omega arith;
      new = λ _. next;
    }

pub new_with_built : {C : List (List ℕ)} {ts left : List Token} {base : SimpleType} (us mid vs : List Token) (args : List Expression) (is_global : Bool) (pointers : ℕ) (how : Brackets) (at of : Span) → IsGlobal is_global at ts (word_token word.New of ∷ us) → Spells (types.simple_type base) us mid → PlainBase C base
    → Spells (types.stars pointers) mid vs → Spells (in_brackets how (arguments args)) vs left → FormedAll C args → IsOperand C as_unary ts (expr.NewWith is_global base pointers how args at) left
unfolding shape-the_row-Expression-0 hidden-the_row-Expression-0 shown-the_row-Expression-0 denote.Hole.Carrier.hidden
new_with_built {C} {ts = ts} {left = left} {base = base} us mid vs args is_global pointers how at of g s p t a f =
    record {
      spelled = subst (λ ps. Spells ps ts left) (sym (sentence_new_with is_global base pointers how args at)) (
        g.0,
        spells_append (global is_global) (opens ∷ w word.New ∷ (types.simple_type base ++ (types.stars pointers ++ in_brackets how (arguments args)))) ts (word_token word.New of ∷ us) left g.1
            (refl, spells_append (types.simple_type base) (types.stars pointers ++ in_brackets how (arguments args)) us mid left s (spells_append (types.stars pointers) (in_brackets how (arguments args)) mid vs left t a)),
      );
      formed = formed_new_with C is_global base pointers how args at p f;
      tight = omega arith;
      new = λ h. absurd cc;
    }

-- ---- what stands behind an operand

pub member_built : {C : List (List ℕ)} {ts mid left : List Token} {e : Expression} (op : MemberOperator) (text : List ℕ) (at : Span) → StandsAt ts at → IsOperand C as_postfix ts e mid → Spells (m (member_mark op) ∷ name text ∷ []) mid left → IsName text
    → IsOperand C as_postfix ts (expr.Member e op text at) left
unfolding shape-the_row-Expression-0 hidden-the_row-Expression-0 shown-the_row-Expression-0 denote.Hole.Carrier.hidden
member_built {ts = ts} {mid = mid} {left = left} {e = e} op text at p x s i =
    record {
      spelled = (p, spells_append (part (is_postfix e) (tree.expression e)) (opens ∷ m (member_mark op) ∷ name text ∷ []) ts mid left (spells_part (is_postfix e) (tree.expression e) ts mid x.spelled) s);
      formed = (x.formed, x.tight, i);
      tight = omega arith;
      new = λ h. absurd cc;
    }

pub step_built : {C : List (List ℕ)} {ts mid left : List Token} {e : Expression} (op : StepOperator) (at : Span) → StandsAt ts at → IsOperand C as_postfix ts e mid → Spells (m (step_mark op) ∷ []) mid left → IsOperand C as_postfix ts (expr.Step e op at) left
unfolding shape-the_row-Expression-0 hidden-the_row-Expression-0 shown-the_row-Expression-0 denote.Hole.Carrier.hidden
step_built {ts = ts} {mid = mid} {left = left} {e = e} op at p x s =
    record {
      spelled = (p, spells_append (part (is_postfix e) (tree.expression e)) (opens ∷ m (step_mark op) ∷ []) ts mid left (spells_part (is_postfix e) (tree.expression e) ts mid x.spelled) s);
      formed = (x.formed, x.tight);
      tight = omega arith;
      new = λ h. absurd cc;
    }

pub call_built : {C : List (List ℕ)} {ts mid left : List Token} {e : Expression} (args : List Expression) (at : Span) → StandsAt ts at → IsOperand C as_postfix ts e mid → Spells (m mark.OpenParen ∷ (arguments args ++ m mark.CloseParen ∷ [])) mid left → FormedAll C args
    → IsOperand C as_postfix ts (expr.Call e args at) left
unfolding shape-the_row-Expression-0 hidden-the_row-Expression-0 shown-the_row-Expression-0 denote.Hole.Carrier.hidden
call_built {C} {ts = ts} {mid = mid} {left = left} {e = e} args at p x s f =
    record {
      spelled = subst (λ ps. Spells ps ts left) (sym (sentence_call e args at))
          (p, spells_append (part (is_postfix e) (tree.expression e)) (opens ∷ m mark.OpenParen ∷ (arguments args ++ m mark.CloseParen ∷ [])) ts mid left (spells_part (is_postfix e) (tree.expression e) ts mid x.spelled) s);
      formed = formed_call C e args at x.formed f x.tight;
      tight = omega arith;
      new = λ h. absurd cc;
    }

-- ---- operands

-- `(` and `)` around an expression
pub in_parentheses_spelled : (ps : List Piece) (ts us mid left : List Token) → Spells (m mark.OpenParen ∷ []) ts us → Spells ps us mid → Spells (m mark.CloseParen ∷ []) mid left → Spells (in_parentheses ps) ts left
in_parentheses_spelled ps ts us mid left a b c =
    spells_append (m mark.OpenParen ∷ []) (ps ++ m mark.CloseParen ∷ leave ∷ []) ts us left a (spells_append ps (m mark.CloseParen ∷ leave ∷ []) us mid left b (spells_append (m mark.CloseParen ∷ []) (leave ∷ []) mid left left c refl))

pub parenthesized_built : {C : List (List ℕ)} {ts us mid left : List Token} {e : Expression} (at : Span) → StandsAt ts at → Spells (m mark.OpenParen ∷ []) ts us → IsRead C us e mid → Spells (m mark.CloseParen ∷ []) mid left → IsOperand C as_postfix ts (expr.Parenthesized e at) left
unfolding shape-the_row-Expression-0 hidden-the_row-Expression-0 shown-the_row-Expression-0 denote.Hole.Carrier.hidden
parenthesized_built {ts = ts} {us = us} {mid = mid} {left = left} {e = e} at p a x c =
    record { spelled = (p, in_parentheses_spelled (rule (tree.expression e)) ts us mid left a (spells_rule (tree.expression e) us mid x.spelled) c); formed = x.formed; tight = omega arith; new = λ h. absurd cc }

pub construction_built : {C : List (List ℕ)} {ts left : List Token} {base : SimpleType} (mid : List Token) (args : List Expression) (how : Brackets) → Spells (types.simple_type base) ts mid → PlainBase C base → Spells (in_brackets how (arguments args)) mid left → FormedAll C args
    → IsOperand C as_postfix ts (expr.Construction base how args) left
unfolding shape-the_row-Expression-0 hidden-the_row-Expression-0 shown-the_row-Expression-0 denote.Hole.Carrier.hidden
construction_built {C} {ts = ts} {left = left} {base = base} mid args how s p a f =
    record {
      spelled = subst (λ ps. Spells ps ts left) (sym (sentence_construction base how args)) (spells_append (types.simple_type base) (in_brackets how (arguments args)) ts mid left s a);
      formed = formed_construction C base how args p f;
      tight = omega arith;
      new = λ h. absurd cc;
    }

pub static_cast_built : {C : List (List ℕ)} {us left : List Token} {of : TypeId} (vs xs ys : List Token) (e : Expression) (at : Span) → Spells (m mark.Less ∷ []) us vs → Spells (types.type_id of) vs xs → PlainType C of → Spells (m mark.Greater ∷ []) xs ys
    → Spells (in_parentheses (rule (tree.expression e))) ys left → FormedExpression C e → IsOperand C as_postfix (word_token word.StaticCast at ∷ us) (expr.StaticCast of e at) left
unfolding shape-the_row-Expression-0 hidden-the_row-Expression-0 shown-the_row-Expression-0 denote.Hole.Carrier.hidden
static_cast_built {us = us} {left = left} {of = of} vs xs ys e at a t p b s f =
    record {
      spelled = (
        refl,
        (
          refl,
          spells_append (m mark.Less ∷ []) (types.type_id of ++ m mark.Greater ∷ in_parentheses (rule (tree.expression e))) us vs left a
              (spells_append (types.type_id of) (m mark.Greater ∷ in_parentheses (rule (tree.expression e))) vs xs left t (spells_append (m mark.Greater ∷ []) (in_parentheses (rule (tree.expression e))) xs ys left b s)),
        ),
      );
      formed = (p, f);
      tight = omega arith;
      new = λ h. absurd cc;
    }

pub operator_new_built : {C : List (List ℕ)} {us left : List Token} (args : List Expression) (at of which : Span) → Spells (in_parentheses (arguments args)) us left → FormedAll C args → args ≢ []
    → IsOperand C as_postfix (mark_token mark.Scope at ∷ word_token word.Operator of ∷ word_token word.New which ∷ us) (expr.OperatorNew args at) left
unfolding shape-the_row-Expression-0 hidden-the_row-Expression-0 shown-the_row-Expression-0 denote.Hole.Carrier.hidden
operator_new_built {C} {us = us} {left = left} args at of which s f some =
    record {
      spelled = subst (λ ps. Spells ps (mark_token mark.Scope at ∷ word_token word.Operator of ∷ word_token word.New which ∷ us) left) (sym (sentence_operator_new args at)) (refl, (refl, (refl, (refl, s))));
      formed = formed_operator_new C args at f some;
      tight = omega arith;
      new = λ h. absurd cc;
    }

pub operator_delete_built : {C : List (List ℕ)} {us left : List Token} (args : List Expression) (at of which : Span) → Spells (in_parentheses (arguments args)) us left → FormedAll C args → args ≢ []
    → IsOperand C as_postfix (mark_token mark.Scope at ∷ word_token word.Operator of ∷ word_token word.Delete which ∷ us) (expr.OperatorDelete args at) left
unfolding shape-the_row-Expression-0 hidden-the_row-Expression-0 shown-the_row-Expression-0 denote.Hole.Carrier.hidden
operator_delete_built {C} {us = us} {left = left} args at of which s f some =
    record {
      spelled = subst (λ ps. Spells ps (mark_token mark.Scope at ∷ word_token word.Operator of ∷ word_token word.Delete which ∷ us) left) (sym (sentence_operator_delete args at)) (refl, (refl, (refl, (refl, s))));
      formed = formed_operator_delete C args at f some;
      tight = omega arith;
      new = λ h. absurd cc;
    }

-- ---- what stands first

pub first_member : (e : Expression) (op : MemberOperator) (text : List ℕ) (at : Span) → first_of (expr.Member e op text at) ≡ first_of e
unfolding shape-the_row-Expression-0 hidden-the_row-Expression-0 shown-the_row-Expression-0 denote.Hole.Carrier.hidden
first_member e op text at = refl

pub first_call : (e : Expression) (args : List Expression) (at : Span) → first_of (expr.Call e args at) ≡ first_of e
unfolding shape-the_row-Expression-0 hidden-the_row-Expression-0 shown-the_row-Expression-0 denote.Hole.Carrier.hidden
first_call e args at = refl

pub first_step : (e : Expression) (op : StepOperator) (at : Span) → first_of (expr.Step e op at) ≡ first_of e
unfolding shape-the_row-Expression-0 hidden-the_row-Expression-0 shown-the_row-Expression-0 denote.Hole.Carrier.hidden
first_step e op at = refl

pub first_binary : (e : Expression) (op : BinaryOperator) (b : Expression) (at : Span) → first_of (expr.Binary e op b at) ≡ first_of e
unfolding shape-the_row-Expression-0 hidden-the_row-Expression-0 shown-the_row-Expression-0 denote.Hole.Carrier.hidden
first_binary e op b at = refl

pub first_assignment : (e : Expression) (op : AssignmentOperator) (b : Expression) (at : Span) → first_of (expr.Assignment e op b at) ≡ first_of e
unfolding shape-the_row-Expression-0 hidden-the_row-Expression-0 shown-the_row-Expression-0 denote.Hole.Carrier.hidden
first_assignment e op b at = refl

pub first_conditional : (e b c : Expression) (at : Span) → first_of (expr.Conditional e b c at) ≡ first_of e
unfolding shape-the_row-Expression-0 hidden-the_row-Expression-0 shown-the_row-Expression-0 denote.Hole.Carrier.hidden
first_conditional e b c at = refl

-- no type stands first in these
pub yield_unled : (e : Expression) (at : Span) → BeginsWithType (expr.Yield e at) → ⊥
unfolding shape-the_row-Expression-0 hidden-the_row-Expression-0 shown-the_row-Expression-0 denote.Hole.Carrier.hidden
yield_unled e at h = absurd cc

pub throw_unled : (e : Expression) (at : Span) → BeginsWithType (expr.Throw e at) → ⊥
unfolding shape-the_row-Expression-0 hidden-the_row-Expression-0 shown-the_row-Expression-0 denote.Hole.Carrier.hidden
throw_unled e at h = absurd cc

pub unary_unled : (op : UnaryOperator) (e : Expression) (at : Span) → BeginsWithType (expr.Unary op e at) → ⊥
unfolding shape-the_row-Expression-0 hidden-the_row-Expression-0 shown-the_row-Expression-0 denote.Hole.Carrier.hidden
unary_unled op e at h = absurd cc

pub delete_unled : (is_global : Bool) (e : Expression) (at : Span) → BeginsWithType (expr.Delete is_global e at) → ⊥
unfolding shape-the_row-Expression-0 hidden-the_row-Expression-0 shown-the_row-Expression-0 denote.Hole.Carrier.hidden
delete_unled is_global e at h = absurd cc

pub new_with_unled : (is_global : Bool) (base : SimpleType) (pointers : ℕ) (how : Brackets) (args : List Expression) (at : Span) → BeginsWithType (expr.NewWith is_global base pointers how args at) → ⊥
unfolding shape-the_row-Expression-0 hidden-the_row-Expression-0 shown-the_row-Expression-0 denote.Hole.Carrier.hidden
new_with_unled is_global base pointers how args at h = absurd cc

pub parenthesized_unled : (e : Expression) (at : Span) → BeginsWithType (expr.Parenthesized e at) → ⊥
unfolding shape-the_row-Expression-0 hidden-the_row-Expression-0 shown-the_row-Expression-0 denote.Hole.Carrier.hidden
parenthesized_unled e at h = absurd cc

pub static_cast_unled : (of : TypeId) (e : Expression) (at : Span) → BeginsWithType (expr.StaticCast of e at) → ⊥
unfolding shape-the_row-Expression-0 hidden-the_row-Expression-0 shown-the_row-Expression-0 denote.Hole.Carrier.hidden
static_cast_unled of e at h = absurd cc

pub operator_new_unled : (args : List Expression) (at : Span) → BeginsWithType (expr.OperatorNew args at) → ⊥
unfolding shape-the_row-Expression-0 hidden-the_row-Expression-0 shown-the_row-Expression-0 denote.Hole.Carrier.hidden
operator_new_unled args at h = absurd cc

pub operator_delete_unled : (args : List Expression) (at : Span) → BeginsWithType (expr.OperatorDelete args at) → ⊥
unfolding shape-the_row-Expression-0 hidden-the_row-Expression-0 shown-the_row-Expression-0 denote.Hole.Carrier.hidden
operator_delete_unled args at h = absurd cc

-- what stands first in a part stands first in the whole
pub still_unled : (e f : Expression) → first_of f ≡ first_of e → (BeginsWithType e → ⊥) → BeginsWithType f → ⊥
still_unled e f s h b = h (subst (λ x. IsTrue (is_led_by_type x)) s b)

pub still_led : (ts : List Token) (e f : Expression) → first_of f ≡ first_of e → IsLed ts e → IsLed ts f
still_led ts e f s h b = h (subst (λ x. IsTrue (is_led_by_type x)) s b)
