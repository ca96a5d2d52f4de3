-- Lists whose parts stand with a comma between them, one part after the other.
use Rattle.std.specs.Prelude.{◌≡◌, ℕ, suc, ◌+◌, ◌<◌, List, ◌∷◌, ◌++◌, drop, length, not, Bool, true, false}
use Rattle.std.proofs.Common.{ap, sym, ◌∙◌, get_or, drop-cons, add-one}
use Rattle.co_lex.specs.declared.token.Mark.TheVariants as mark
use Rattle.co_tree.specs.declared.expressions.Expression.{Expression}
use Rattle.co_tree.specs.Piece.{Piece, m, rule, if_said}
use Rattle.co_tree.specs.Sentence.{expression, arguments, arguments_after}
use Rattle.co_print.specs.declared.printer.Printer.{Printer}
use Rattle.co_print.specs.Printed.{put, put_all}
use Rattle.co_print.proofs.Puts.{put_append, put_rule}

-- the arguments from the first one on, or from a later one on
abbrev pub arguments_from : Bool → List Expression → List Piece
arguments_from true es = arguments es
arguments_from false es = arguments_after es

one_argument : (s : Printer) (e : Expression) (es : List Expression) → put_all s (rule (expression e) ++ arguments_after es) ≡ put_all (put_all s (expression e)) (arguments_after es)
one_argument s e es = put_append s (rule (expression e)) (arguments_after es) ∙ ap (λ t. put_all t (arguments_after es)) (put_rule s (expression e))

first_argument : (first : Bool) (s : Printer) (e : Expression) (es : List Expression) →
    put_all s (arguments_from first (e ∷ es)) ≡ put_all (put_all (put_all s (if_said (not first) (m mark.Comma))) (expression e)) (arguments_after es)
first_argument true s e es = one_argument s e es
first_argument false s e es = one_argument (put s (m mark.Comma)) e es

pub argument_step : (first : Bool) (s s1 s2 s0 : Printer) (es : List Expression) (i : ℕ) (e : Expression) → i < length es → e ≡ get_or es i e →
    s1 ≡ put_all s (if_said (not first) (m mark.Comma)) → s2 ≡ put_all s1 (expression e) → put_all s (arguments_from first (drop i es)) ≡ s0 →
    put_all s2 (arguments_after (drop (i + 1) es)) ≡ s0
argument_step first s s1 s2 s0 es i e lt is e1 e2 h =
    let cons : drop i es ≡ e ∷ drop (i + 1) es = rw add-one (drop-cons es i e lt ∙ ap (λ x. x ∷ drop (suc i) es) (sym is)) in
    ap (λ t. put_all t (arguments_after (drop (i + 1) es))) (e2 ∙ ap (λ t. put_all t (expression e)) e1)
    ∙ sym (first_argument first s e (drop (i + 1) es))
    ∙ ap (λ l. put_all s (arguments_from first l)) (sym cons)
    ∙ h

-- a list from the first part on, or from a later one on
abbrev pub from : {A : Type 0} → (List A → List Piece) → (List A → List Piece) → Bool → List A → List Piece
from all after true xs = all xs
from all after false xs = after xs

pub separated_step : {A : Type 0} (one : A → List Piece) (all after : List A → List Piece) (before : Bool → List Piece) →
    ((x : A) (xs : List A) → all (x ∷ xs) ≡ before true ++ (one x ++ after xs)) → ((x : A) (xs : List A) → after (x ∷ xs) ≡ before false ++ (one x ++ after xs)) →
    (first : Bool) (s s1 s2 s0 : Printer) (xs : List A) (i : ℕ) (x : A) → i < length xs → x ≡ get_or xs i x →
    s1 ≡ put_all s (before first) → s2 ≡ put_all s1 (one x) → put_all s (from all after first (drop i xs)) ≡ s0 → put_all s2 (after (drop (i + 1) xs)) ≡ s0
separated_step one all after before opened later first s s1 s2 s0 xs i x lt is e1 e2 h =
    let cons : drop i xs ≡ x ∷ drop (i + 1) xs = rw add-one (drop-cons xs i x lt ∙ ap (λ y. y ∷ drop (suc i) xs) (sym is)) in
    ap (λ t. put_all t (after (drop (i + 1) xs))) (e2 ∙ ap (λ t. put_all t (one x)) e1)
    ∙ sym (put_append (put_all s (before first)) (one x) (after (drop (i + 1) xs)))
    ∙ sym (put_append s (before first) (one x ++ after (drop (i + 1) xs)))
    ∙ ap (put_all s) (sym (ap (from all after first) cons ∙ at first))
    ∙ h
  where
    at : (b : Bool) → from all after b (x ∷ drop (i + 1) xs) ≡ before b ++ (one x ++ after (drop (i + 1) xs))
    at true = opened x (drop (i + 1) xs)
    at false = later x (drop (i + 1) xs)
