-- Expressions with other spans.
use Rattle.std.specs.Prelude.{◌≡◌, ℕ, ◌≤◌, ◌<◌, List, [], ◌∷◌, Bool, true, false}
use Rattle.std.proofs.Common.{refl, ap, sym, ◌∙◌, subst}
use mathlib.Core.Former.{Count}
use Rattle.co_lex.specs.declared.token.Token.{Token}
use Rattle.co_lex.specs.declared.token.TokenKind.TheVariants as kind
use Rattle.co_lex.specs.declared.token.Mark.TheVariants as mark
use Rattle.co_tree.specs.declared.expressions.UnaryOperator.{UnaryOperator}
use Rattle.co_tree.specs.declared.expressions.UnaryOperator.TheVariants as unary
use Rattle.co_tree.specs.declared.expressions.Brackets.{Brackets}
use Rattle.co_tree.specs.declared.expressions.Brackets.TheVariants.{Parentheses, Braces}
use Rattle.co_tree.specs.declared.expressions.HandleFunction.{HandleFunction}
use Rattle.co_tree.specs.declared.expressions.HandleFunction.TheVariants.{FromAddress, FromPromise}
use Rattle.co_tree.specs.declared.expressions.Expression.{Expression, Row_of-Expression, end_of-Expression, more_of-Expression}
use Rattle.co_tree.specs.declared.expressions.Expression.TheVariants as expr
use Rattle.co_tree.specs.Formed.{tightness, first_of, is_led_by_type, is_led_by_class, ends_in_new, HasOne, FormedExpression, FormedRow}
use Rattle.co_tree.specs.Piece.{Piece}
use Rattle.co_tree.specs.Types.{stars}
use Rattle.co_tree.specs.Sentence.{unary_token, handle_function, truth, in_brackets, is_binary, is_postfix, global, expression, row_arguments, row_arguments_after}
use Rattle.co_tree.specs.Strip.{first_place, strip_expression, strip_row}
use Rattle.co_print_laws.proofs.Congruence.{ap_two, ap_three}
use Rattle.co_print_laws.proofs.Placed.{place_of, after, behind, Placed, nothing, by_token, by_node, by_opens, both, by_rule, by_part, by_parentheses, by_braces, still_if, still_stars, Moved}
use Rattle.co_print_laws.proofs.Types.{path_at, path_placed, promise_moved, base_moved, type_moved}

no_less : {n a b : ℕ} → b ≡ a → n ≤ a → n ≤ b
no_less {n} e h = subst (λ z. n ≤ z) (sym e) h

more_than : {n a b : ℕ} → b ≡ a → n < a → n < b
more_than {n} e h = subst (λ z. n < z) (sym e) h

-- ---- pieces of an expression

by_unary : {ts rest : List Token} {ps qs : List Piece} (op : UnaryOperator) → Placed (after ts) ps qs rest → Placed ts (unary_token op ∷ ps) (unary_token op ∷ qs) rest
by_unary unary.Plus p = by_token p
by_unary unary.Minus p = by_token p
by_unary unary.Not p = by_token p
by_unary unary.Complement p = by_token p
by_unary unary.Dereference p = by_token p
by_unary unary.AddressOf p = by_token p
by_unary unary.Increment p = by_token p
by_unary unary.Decrement p = by_token p
by_unary unary.Await p = by_token p

by_truth : {ts : List Token} (value : Bool) → Placed ts (truth value ∷ []) (truth value ∷ []) (after ts)
by_truth true = by_token nothing
by_truth false = by_token nothing

by_function : {ts : List Token} (f : HandleFunction) → Placed ts (handle_function f ∷ []) (handle_function f ∷ []) (after ts)
by_function FromAddress = by_token nothing
by_function FromPromise = by_token nothing

pub by_brackets : {ts rest : List Token} {ps qs : List Piece} (how : Brackets) → Placed (after ts) ps qs rest → Placed ts (in_brackets how ps) (in_brackets how qs) (after rest)
by_brackets Parentheses p = by_parentheses p
by_brackets Braces p = by_braces p

-- ---- expressions

pub record AlikeExpression (C : List (List ℕ)) (e f : Expression) : Type 0 where
  pub strip : strip_expression f ≡ strip_expression e
  pub formed : FormedExpression C e → FormedExpression C f
  pub tight : tightness f ≡ tightness e
  pub by_type : is_led_by_type (first_of f) ≡ is_led_by_type (first_of e)
  pub by_class : is_led_by_class (first_of f) ≡ is_led_by_class (first_of e)
  pub in_new : ends_in_new f ≡ ends_in_new e

alike_by : {C : List (List ℕ)} {e f : Expression} → strip_expression f ≡ strip_expression e → (FormedExpression C e → FormedExpression C f) → tightness f ≡ tightness e →
    is_led_by_type (first_of f) ≡ is_led_by_type (first_of e) → is_led_by_class (first_of f) ≡ is_led_by_class (first_of e) → ends_in_new f ≡ ends_in_new e → AlikeExpression C e f
alike_by s h t k c n = record { strip = s; formed = h; tight = t; by_type = k; by_class = c; in_new = n }

abbrev pub MovedExpression : List (List ℕ) → Expression → List Token → Type 0
MovedExpression C e ts = Moved expression (AlikeExpression C) e ts

pub record AlikeRow {k : Count} (C : List (List ℕ)) (row other : Row_of-Expression k) : Type 0 where
  pub strip : strip_row other ≡ strip_row row
  pub formed : FormedRow C row → FormedRow C other
  pub some : HasOne row → HasOne other

abbrev pub MovedRow : {k : Count} → List (List ℕ) → Row_of-Expression k → List Token → Type 0
MovedRow C row ts = Moved row_arguments (AlikeRow C) row ts

abbrev pub MovedRowAfter : {k : Count} → List (List ℕ) → Row_of-Expression k → List Token → Type 0
MovedRowAfter C row ts = Moved row_arguments_after (AlikeRow C) row ts

mutual
  pub expression_moved : (C : List (List ℕ)) (e : Expression) (ts : List Token) → MovedExpression C e ts
  expression_moved C (expr.Yield' s (more_of-Expression e end_of-Expression) at) ts =
      let x = expression_moved C e (after ts) in
      record {
        it = expr.Yield' s (more_of-Expression x.it end_of-Expression) (place_of ts);
        rest = x.rest;
        alike = alike_by (ap (λ z. expr.Yield z first_place) x.alike.strip) x.alike.formed refl refl refl refl;
        placed = by_node (by_opens (by_token (by_rule x.placed)));
      }
  expression_moved C (expr.Rethrow at) ts =
      record { it = expr.Rethrow (place_of ts); rest = _; alike = alike_by refl (λ h. h) refl refl refl refl; placed = by_node (by_opens (by_token nothing)) }
  expression_moved C (expr.Throw' s (more_of-Expression e end_of-Expression) at) ts =
      let x = expression_moved C e (after ts) in
      record {
        it = expr.Throw' s (more_of-Expression x.it end_of-Expression) (place_of ts);
        rest = x.rest;
        alike = alike_by (ap (λ z. expr.Throw z first_place) x.alike.strip) x.alike.formed refl refl refl refl;
        placed = by_node (by_opens (by_token (by_rule x.placed)));
      }
  expression_moved C (expr.Assignment' s (more_of-Expression a end_of-Expression) op t (more_of-Expression b end_of-Expression) at) ts =
      let x = expression_moved C a ts in
      let y = expression_moved C b (after x.rest) in
      record {
        it = expr.Assignment' s (more_of-Expression x.it end_of-Expression) op t (more_of-Expression y.it end_of-Expression) (place_of ts);
        rest = y.rest;
        alike = alike_by (ap_two (λ u v. expr.Assignment u op v first_place) x.alike.strip y.alike.strip) (λ h. (x.alike.formed h.0, y.alike.formed h.1, no_less x.alike.tight h.2)) refl x.alike.by_type x.alike.by_class refl;
        placed = by_node (both (by_rule x.placed) (by_opens (by_token (by_rule y.placed))));
      }
  expression_moved C (expr.Conditional' s (more_of-Expression a end_of-Expression) t (more_of-Expression b end_of-Expression) u (more_of-Expression c end_of-Expression) at) ts =
      let x = expression_moved C a ts in
      let y = expression_moved C b (after x.rest) in
      let z = expression_moved C c (after y.rest) in
      record {
        it = expr.Conditional' s (more_of-Expression x.it end_of-Expression) t (more_of-Expression y.it end_of-Expression) u (more_of-Expression z.it end_of-Expression) (place_of ts);
        rest = z.rest;
        alike = alike_by (ap_three (λ i j k. expr.Conditional i j k first_place) x.alike.strip y.alike.strip z.alike.strip) (λ h. (x.alike.formed h.0, y.alike.formed h.1, z.alike.formed h.2, no_less x.alike.tight h.3)) refl x.alike.by_type x.alike.by_class refl;
        placed = by_node (both (by_rule x.placed) (by_opens (by_token (both (by_rule y.placed) (by_token (by_rule z.placed))))));
      }
  expression_moved C (expr.Binary' s (more_of-Expression a end_of-Expression) op t (more_of-Expression b end_of-Expression) at) ts =
      let x = expression_moved C a ts in
      let y = expression_moved C b (after x.rest) in
      record {
        it = expr.Binary' s (more_of-Expression x.it end_of-Expression) op t (more_of-Expression y.it end_of-Expression) (place_of ts);
        rest = y.rest;
        alike = alike_by (ap_two (λ u v. expr.Binary u op v first_place) x.alike.strip y.alike.strip) (λ h. (x.alike.formed h.0, y.alike.formed h.1, no_less x.alike.tight h.2, more_than y.alike.tight h.3, λ l. h.4 (sym x.alike.in_new ∙ l))) refl x.alike.by_type x.alike.by_class y.alike.in_new;
        placed = by_node (both (by_part (is_binary a) (is_binary x.it) x.placed) (by_opens (by_token (by_part (is_binary b) (is_binary y.it) y.placed))));
      }
  expression_moved C (expr.Unary' op s (more_of-Expression e end_of-Expression) at) ts =
      let x = expression_moved C e (after ts) in
      record {
        it = expr.Unary' op s (more_of-Expression x.it end_of-Expression) (place_of ts);
        rest = x.rest;
        alike = alike_by (ap (λ z. expr.Unary op z first_place) x.alike.strip) (λ h. (x.alike.formed h.0, no_less x.alike.tight h.1)) refl refl refl x.alike.in_new;
        placed = by_node (by_opens (by_unary op (by_rule x.placed)));
      }
  expression_moved C (expr.New is_global base pointers at) ts =
      let b = base_moved C base (after (behind (global is_global) ts)) in
      record {
        it = expr.New is_global b.it pointers (place_of ts);
        rest = _;
        alike = alike_by (ap (λ z. expr.New is_global z pointers first_place) b.alike.strip) b.alike.plain refl refl refl refl;
        placed = by_node (both (still_if is_global (kind.Mark mark.Scope)) (by_opens (by_token (both b.placed (still_stars pointers)))));
      }
  expression_moved C (expr.NewWith' is_global base pointers how s args at) ts =
      let b = base_moved C base (after (behind (global is_global) ts)) in
      let r = row_moved C args (after (behind (stars pointers) b.rest)) in
      record {
        it = expr.NewWith' is_global b.it pointers how s r.it (place_of ts);
        rest = after r.rest;
        alike = alike_by (ap_two (λ u v. expr.NewWith is_global u pointers how v first_place) b.alike.strip r.alike.strip) (λ h. (b.alike.plain h.0, r.alike.formed h.1)) refl refl refl refl;
        placed = by_node (both (still_if is_global (kind.Mark mark.Scope)) (by_opens (by_token (both b.placed (both (still_stars pointers) (by_brackets how r.placed))))));
      }
  expression_moved C (expr.Delete' is_global s (more_of-Expression e end_of-Expression) at) ts =
      let x = expression_moved C e (after (behind (global is_global) ts)) in
      record {
        it = expr.Delete' is_global s (more_of-Expression x.it end_of-Expression) (place_of ts);
        rest = x.rest;
        alike = alike_by (ap (λ z. expr.Delete is_global z first_place) x.alike.strip) (λ h. (x.alike.formed h.0, no_less x.alike.tight h.1)) refl refl refl x.alike.in_new;
        placed = by_node (both (still_if is_global (kind.Mark mark.Scope)) (by_opens (by_token (by_rule x.placed))));
      }
  expression_moved C (expr.Member' s (more_of-Expression e end_of-Expression) op n at) ts =
      let x = expression_moved C e ts in
      record {
        it = expr.Member' s (more_of-Expression x.it end_of-Expression) op n (place_of ts);
        rest = after (after x.rest);
        alike = alike_by (ap (λ z. expr.Member z op n first_place) x.alike.strip) (λ h. (x.alike.formed h.0, no_less x.alike.tight h.1, h.2)) refl x.alike.by_type x.alike.by_class refl;
        placed = by_node (both (by_part (is_postfix e) (is_postfix x.it) x.placed) (by_opens (by_token (by_token nothing))));
      }
  expression_moved C (expr.Call' s (more_of-Expression e end_of-Expression) t args at) ts =
      let x = expression_moved C e ts in
      let r = row_moved C args (after x.rest) in
      record {
        it = expr.Call' s (more_of-Expression x.it end_of-Expression) t r.it (place_of ts);
        rest = after r.rest;
        alike = alike_by (ap_two (λ u v. expr.Call u v first_place) x.alike.strip r.alike.strip) (λ h. (x.alike.formed h.0, r.alike.formed h.1, no_less x.alike.tight h.2)) refl x.alike.by_type x.alike.by_class refl;
        placed = by_node (both (by_part (is_postfix e) (is_postfix x.it) x.placed) (by_opens (by_token (both r.placed (by_token nothing)))));
      }
  expression_moved C (expr.Step' s (more_of-Expression e end_of-Expression) op at) ts =
      let x = expression_moved C e ts in
      record {
        it = expr.Step' s (more_of-Expression x.it end_of-Expression) op (place_of ts);
        rest = after x.rest;
        alike = alike_by (ap (λ z. expr.Step z op first_place) x.alike.strip) (λ h. (x.alike.formed h.0, no_less x.alike.tight h.1)) refl x.alike.by_type x.alike.by_class refl;
        placed = by_node (both (by_part (is_postfix e) (is_postfix x.it) x.placed) (by_opens (by_token nothing)));
      }
  expression_moved C (expr.Number num value at) ts =
      record { it = expr.Number num value (place_of ts); rest = after ts; alike = alike_by refl (λ h. h) refl refl refl refl; placed = by_node (by_token nothing) }
  expression_moved C (expr.Bool value at) ts =
      record { it = expr.Bool value (place_of ts); rest = after ts; alike = alike_by refl (λ h. h) refl refl refl refl; placed = by_node (by_truth value) }
  expression_moved C (expr.Nullptr at) ts =
      record { it = expr.Nullptr (place_of ts); rest = after ts; alike = alike_by refl (λ h. h) refl refl refl refl; placed = by_node (by_token nothing) }
  expression_moved C (expr.This at) ts =
      record { it = expr.This (place_of ts); rest = after ts; alike = alike_by refl (λ h. h) refl refl refl refl; placed = by_node (by_token nothing) }
  expression_moved C (expr.Name p) ts =
      record { it = expr.Name (path_at ts p); rest = _; alike = alike_by refl (λ h. h) refl refl refl refl; placed = path_placed p }
  expression_moved C (expr.Parenthesized' s (more_of-Expression e end_of-Expression) at) ts =
      let x = expression_moved C e (after ts) in
      record {
        it = expr.Parenthesized' s (more_of-Expression x.it end_of-Expression) (place_of ts);
        rest = after x.rest;
        alike = alike_by (ap (λ z. expr.Parenthesized z first_place) x.alike.strip) x.alike.formed refl refl refl refl;
        placed = by_node (by_parentheses (by_rule x.placed));
      }
  expression_moved C (expr.Construction' base how s args) ts =
      let b = base_moved C base ts in
      let r = row_moved C args (after b.rest) in
      record {
        it = expr.Construction' b.it how s r.it;
        rest = after r.rest;
        alike = alike_by (ap_two (λ u v. expr.Construction u how v) b.alike.strip r.alike.strip) (λ h. (b.alike.plain h.0, r.alike.formed h.1)) refl refl (b.alike.class_call how) refl;
        placed = both b.placed (by_brackets how r.placed);
      }
  expression_moved C (expr.Text text at) ts =
      record { it = expr.Text text (place_of ts); rest = _; alike = alike_by refl (λ h. h) refl refl refl refl; placed = by_node (by_token (by_token (by_token (by_parentheses (by_token nothing))))) }
  expression_moved C (expr.StaticCast' of s (more_of-Expression e end_of-Expression) at) ts =
      let t = type_moved C of (after (after ts)) in
      let x = expression_moved C e (after (after t.rest)) in
      record {
        it = expr.StaticCast' t.it s (more_of-Expression x.it end_of-Expression) (place_of ts);
        rest = after x.rest;
        alike = alike_by (ap_two (λ u v. expr.StaticCast u v first_place) t.alike.strip x.alike.strip) (λ h. (t.alike.plain h.0, x.alike.formed h.1)) refl refl refl refl;
        placed = by_node (by_token (by_token (both t.placed (by_token (by_parentheses (by_rule x.placed))))));
      }
  expression_moved C (expr.OperatorNew' s args at) ts =
      let r = row_moved C args (after (after (after (after ts)))) in
      record {
        it = expr.OperatorNew' s r.it (place_of ts);
        rest = after r.rest;
        alike = alike_by (ap (λ z. expr.OperatorNew z first_place) r.alike.strip) (λ h. (r.alike.formed h.0, r.alike.some h.1)) refl refl refl refl;
        placed = by_node (by_token (by_token (by_token (by_parentheses r.placed))));
      }
  expression_moved C (expr.OperatorDelete' s args at) ts =
      let r = row_moved C args (after (after (after (after ts)))) in
      record {
        it = expr.OperatorDelete' s r.it (place_of ts);
        rest = after r.rest;
        alike = alike_by (ap (λ z. expr.OperatorDelete z first_place) r.alike.strip) (λ h. (r.alike.formed h.0, r.alike.some h.1)) refl refl refl refl;
        placed = by_node (by_token (by_token (by_token (by_parentheses r.placed))));
      }
  expression_moved C (expr.HandleFunction promise function at) ts =
      let p = promise_moved C promise ts in
      record {
        it = expr.HandleFunction p.it function (place_of ts);
        rest = after (after p.rest);
        alike = alike_by (ap (λ z. expr.HandleFunction z function first_place) p.alike.strip) p.alike.formed refl refl refl refl;
        placed = by_node (both p.placed (by_token (by_function function)));
      }
  expression_moved C (expr.StandardFunction function at) ts =
      record { it = expr.StandardFunction function (place_of ts); rest = _; alike = alike_by refl (λ h. h) refl refl refl refl; placed = by_node (by_token (by_token (by_token nothing))) }
  expression_moved C (expr.CorunFunction function at) ts =
      record { it = expr.CorunFunction function (place_of ts); rest = _; alike = alike_by refl (λ h. h) refl refl refl refl; placed = by_node (by_token (by_token (by_token nothing))) }

  pub row_moved : {k : Count} (C : List (List ℕ)) (row : Row_of-Expression k) (ts : List Token) → MovedRow C row ts
  row_moved C end_of-Expression ts = record { it = end_of-Expression; rest = ts; alike = record { strip = refl; formed = λ h. h; some = λ h. h }; placed = nothing }
  row_moved C (more_of-Expression e rest) ts =
      let x = expression_moved C e ts in
      let y = row_after_moved C rest x.rest in
      record {
        it = more_of-Expression x.it y.it;
        rest = y.rest;
        alike = record { strip = ap_two (λ z zs. z ∷ zs) x.alike.strip y.alike.strip; formed = λ h. (x.alike.formed h.0, y.alike.formed h.1); some = λ h. h };
        placed = both (by_rule x.placed) y.placed;
      }

  row_after_moved : {k : Count} (C : List (List ℕ)) (row : Row_of-Expression k) (ts : List Token) → MovedRowAfter C row ts
  row_after_moved C end_of-Expression ts = record { it = end_of-Expression; rest = ts; alike = record { strip = refl; formed = λ h. h; some = λ h. h }; placed = nothing }
  row_after_moved C (more_of-Expression e rest) ts =
      let x = expression_moved C e (after ts) in
      let y = row_after_moved C rest x.rest in
      record {
        it = more_of-Expression x.it y.it;
        rest = y.rest;
        alike = record { strip = ap_two (λ z zs. z ∷ zs) x.alike.strip y.alike.strip; formed = λ h. (x.alike.formed h.0, y.alike.formed h.1); some = λ h. h };
        placed = by_token (both (by_rule x.placed) y.placed);
      }
