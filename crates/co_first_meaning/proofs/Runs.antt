-- The laws of runs.
use Rattle.std.proofs.Common.{◌≡◌, ℕ, zero, suc, List, [], ◌∷◌, ◌++◌, Bool, true, false, Some, None, refl, sym, ap, ◌∙◌, append_assoc}
use Rattle.std.specs.Prelude.{if◌then◌else◌, ℤ}
use Rattle.co_base.specs.declared.span.Span.{Span}
use Rattle.co_first_tree.specs.declared.tree.Sum.TheVariants.{Int, Name}
use Rattle.co_first_tree.specs.declared.tree.Term.{Term}
use Rattle.co_first_meaning.specs.Meaning.{Purpose, Into, Show, Test, Evaluate, Extend, Give, Next, Ended, Failed, Frame, Rest, Again, Config, On, is_long, exact, variable, atom_value, step, steps, printed}
use Rattle.co_first_meaning.specs.Laws.{PrintsGrow, EndStays, SumsFromTheLeft, onto, sum_value, given, reversed}

append-nil : (xs : List ℤ) → xs ≡ xs ++ []
append-nil [] = refl
append-nil (x ∷ xs) = ap (λ l. x ∷ l) (append-nil xs)

step_grows : (c : Config) → (more : List ℤ) × (printed (step c) ≡ printed c ++ more)
step_grows (On (Evaluate (Int n span) purpose) frames vars out) = ([], append-nil out)
step_grows (On (Evaluate (Name x terms span) purpose) frames vars out) = ([], append-nil out)
step_grows (On (Extend left [] span purpose) frames vars out) = ([], append-nil out)
step_grows (On (Extend left (term ∷ terms) span purpose) frames vars out) = ([], append-nil out)
step_grows (On (Give value (Into x)) frames vars out) = ([], append-nil out)
step_grows (On (Give value Show) frames vars out) = (value ∷ [], refl)
step_grows (On (Give value (Test sum body)) frames vars out) = ([], append-nil out)
step_grows (On Next (Rest (stmt ∷ stmts) ∷ frames) vars out) = ([], append-nil out)
step_grows (On Next (Rest [] ∷ frames) vars out) = ([], append-nil out)
step_grows (On Next (Again sum body ∷ frames) vars out) = ([], append-nil out)
step_grows (On Next [] vars out) = ([], append-nil out)
step_grows (On Ended frames vars out) = ([], append-nil out)
step_grows (On (Failed span) frames vars out) = ([], append-nil out)

pub grows : PrintsGrow
grows zero c = ([], append-nil (printed c))
grows (suc n) c =
    let one = step_grows c in
    let rest = grows n (step c) in
    (one.0 ++ rest.0, rest.1 ∙ ap (λ l. l ++ rest.0) one.1 ∙ append_assoc (printed c) one.0 rest.0)

ended_stays : (n : ℕ) (frames : List Frame) (vars out : List ℤ) → steps n (On Ended frames vars out) ≡ On Ended frames vars out
ended_stays zero frames vars out = refl
ended_stays (suc n) frames vars out = ended_stays n frames vars out

failed_stays : (n : ℕ) (span : Span) (frames : List Frame) (vars out : List ℤ) → steps n (On (Failed span) frames vars out) ≡ On (Failed span) frames vars out
failed_stays zero span frames vars out = refl
failed_stays (suc n) span frames vars out = failed_stays n span frames vars out

pub stays : EndStays
stays = record { ended = ended_stays; failed = failed_stays }

-- an undefined sum stays undefined whatever follows it
none_stays : (vars : List ℤ) (first : ℤ) (terms before : List Term) → sum_value vars first before ≡ None → sum_value vars first (reversed terms before) ≡ None
none_stays vars first [] before e = e
none_stays vars first (term ∷ terms) before e = none_stays vars first terms (term ∷ before) (ap (onto vars term) e)

-- an extended sum that is a value of `long` goes on, and else is undefined
by_long : (vars : List ℤ) (first z : ℤ) (terms before : List Term) (span : Span) (purpose : Purpose) (frames : List Frame) (out : List ℤ) (b : Bool) (last : Term) → is_long z ≡ b → onto vars last (sum_value vars first before) ≡ (if b then Some z else None) → (sum_value vars first (last ∷ before) ≡ Some z → (n : ℕ) × (steps n (On (Extend z terms span purpose) frames vars out) ≡ On (given (sum_value vars first (reversed terms (last ∷ before))) span purpose) frames vars out)) → (n : ℕ) × (steps n (On (if b then Extend z terms span purpose else Failed span) frames vars out) ≡ On (given (sum_value vars first (reversed terms (last ∷ before))) span purpose) frames vars out)
by_long vars first z terms before span purpose frames out true last h here go = go here
by_long vars first z terms before span purpose frames out false last h here go =
    let none = none_stays vars first terms (last ∷ before) here in
    (0, ap (λ o. On (given o span purpose) frames vars out) (sym none))

-- a sum that has come to `left`, with these terms to come
comes : (vars : List ℤ) (first left : ℤ) (terms before : List Term) (span : Span) (purpose : Purpose) (frames : List Frame) (out : List ℤ) → sum_value vars first before ≡ Some left → (n : ℕ) × (steps n (On (Extend left terms span purpose) frames vars out) ≡ On (given (sum_value vars first (reversed terms before)) span purpose) frames vars out)
comes vars first left [] before span purpose frames out e =
    (1, ap (λ o. On (given o span purpose) frames vars out) (sym e))
comes vars first left (term ∷ terms) before span purpose frames out e =
    let z = exact term.op left (atom_value vars term.atom) in
    let rest = by_long vars first z terms before span purpose frames out (is_long z) term refl (ap (onto vars term) e) (λ here. comes vars first z terms (term ∷ before) span purpose frames out here) in
    (suc rest.0, rest.1)

pub from_the_left : SumsFromTheLeft
from_the_left x terms span purpose frames vars out =
    let rest = comes vars (variable vars x) (variable vars x) terms [] span purpose frames out refl in
    (suc rest.0, rest.1)
