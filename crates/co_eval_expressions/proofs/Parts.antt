-- What is done with the parts of a `std::exception_ptr`, by their first.
use Rattle.std.specs.Prelude.{◌≡◌, ◌≤◌, ◌<◌, ◌-◌, true, false, not, ◌&&◌, List, [], ◌∷◌, length, take, drop, get_or, None}
use Rattle.std.proofs.Common.{refl, ap, ◌∙◌, sym, arith}
use Rattle.co_base.specs.declared.span.Span.{Span}
use Rattle.co_meaning_data.specs.declared.values.Value.{Value}
use Rattle.co_meaning_data.specs.Frames.{At, Nothing, Parts, Scalar}
use Rattle.co_meaning_data.specs.Store.{Place}
use Rattle.co_meaning_data.specs.Turn.{Local, gives, truth}
use Rattle.co_meaning_data.specs.Undefined.{is_null, same_value}
use Rattle.co_meaning.specs.Expressions.{compared_with, rethrow_parts, same_parts, tested}
use Rattle.co_eval_reads.proofs.Rests.{one_off}

pub none_same : (a b : List Value) → length a < 1 → length b < 1 → same_parts a b ≡ true
none_same [] [] none empty = refl
none_same a (y ∷ b) none empty = absurd (omega (arith, empty))
none_same (x ∷ a) b none empty = absurd (omega (arith, none))

pub none_other : (a b : List Value) → length a < 1 → 1 ≤ length b → same_parts a b ≡ false
none_other [] [] none some = absurd (omega (arith, some))
none_other [] (y ∷ b) none some = refl
none_other (x ∷ a) b none some = absurd (omega (arith, none))

pub other_none : (a b : List Value) → 1 ≤ length a → length b < 1 → same_parts a b ≡ false
other_none [] b some none = absurd (omega (arith, some))
other_none (x ∷ a) [] some none = refl
other_none (x ∷ a) (y ∷ b) some none = absurd (omega (arith, none))

pub first_same : (a b : List Value) (x y : Value) → 1 ≤ length a → x ≡ get_or a 0 x → 1 ≤ length b → y ≡ get_or b 0 y → same_parts a b ≡ (same_value x y && same_parts (take (length a - 1) (drop 1 a)) (take (length b - 1) (drop 1 b)))
first_same a b x y some is more too =
    ap (λ l. same_parts l b) (one_off a x some is) ∙ ap (λ l. same_parts (x ∷ take (length a - 1) (drop 1 a)) l) (one_off b y more too)

pub tested_first : (vs : List Value) (v : Value) (l : Local) → 1 ≤ length vs → v ≡ get_or vs 0 v → tested (Parts vs) l ≡ gives (truth (not (is_null v))) l
tested_first vs v l some is = ap (λ list. tested (Parts list) l) (one_off vs v some is)

pub tested_none : (vs : List Value) (l : Local) → length vs < 1 → tested (Parts vs) l ≡ None
tested_none [] l none = refl
tested_none (v ∷ vs) l none = absurd (omega (arith, none))

pub left_first : (vs : List Value) (v w : Value) (at : Span) (l : Local) → 1 ≤ length vs → v ≡ get_or vs 0 v → compared_with (Parts vs) (Scalar w) at l ≡ gives (truth (is_null v)) l
left_first vs v w at l some is = ap (λ list. compared_with (Parts list) (Scalar w) at l) (one_off vs v some is)

pub left_none : (vs : List Value) (w : Value) (at : Span) (l : Local) → length vs < 1 → compared_with (Parts vs) (Scalar w) at l ≡ None
left_none [] w at l none = refl
left_none (v ∷ vs) w at l none = absurd (omega (arith, none))

pub right_first : (vs : List Value) (v w : Value) (at : Span) (l : Local) → 1 ≤ length vs → v ≡ get_or vs 0 v → compared_with (Scalar w) (Parts vs) at l ≡ gives (truth (is_null v)) l
right_first vs v w at l some is = ap (λ list. compared_with (Scalar w) (Parts list) at l) (one_off vs v some is)

pub right_none : (vs : List Value) (w : Value) (at : Span) (l : Local) → length vs < 1 → compared_with (Scalar w) (Parts vs) at l ≡ None
right_none [] w at l none = refl
right_none (v ∷ vs) w at l none = absurd (omega (arith, none))

pub parts_compared : (vs ws : List Value) (at : Span) (l : Local) → compared_with (Parts vs) (Parts ws) at l ≡ gives (truth (same_parts vs ws)) l
parts_compared [] [] at l = refl
parts_compared [] (w ∷ ws) at l = refl
parts_compared (v ∷ vs) [] at l = refl
parts_compared (v ∷ vs) (w ∷ ws) at l = refl

pub parts_and_place : (vs : List Value) (p : Place) (at : Span) (l : Local) → compared_with (Parts vs) (At p) at l ≡ None
parts_and_place [] p at l = refl
parts_and_place (v ∷ vs) p at l = refl

pub parts_and_nothing : (vs : List Value) (at : Span) (l : Local) → compared_with (Parts vs) Nothing at l ≡ None
parts_and_nothing [] at l = refl
parts_and_nothing (v ∷ vs) at l = refl

pub rethrow_first : (vs : List Value) (v : Value) (at : Span) (l : Local) → 1 ≤ length vs → v ≡ get_or vs 0 v → rethrow_parts (Parts (v ∷ take (length vs - 1) (drop 1 vs))) at l ≡ rethrow_parts (Parts vs) at l
rethrow_first vs v at l some is = ap (λ list. rethrow_parts (Parts list) at l) (sym (one_off vs v some is))

pub rethrow_empty : (vs : List Value) (at : Span) (l : Local) → length vs < 1 → rethrow_parts (Parts vs) at l ≡ None
rethrow_empty [] at l none = refl
rethrow_empty (v ∷ vs) at l none = absurd (omega (arith, none))
