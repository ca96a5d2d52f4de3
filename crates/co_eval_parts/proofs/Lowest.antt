-- The return of control and the throw out of the newest activation.
use Rattle.std.specs.Prelude.{◌≡◌, ◌≢◌, ◌<◌, ◌≤◌, ℤ, Bool, true, false, List, [], ◌∷◌, ◌++◌, length, map, reverse, Option, None, Some}
use Rattle.std.proofs.Common.{refl, ap, ◌∙◌, sym, arith}
use Rattle.std.proofs.lemmas.Bool.{false≢true}
use Rattle.std.proofs.lemmas.List.{length-map, length-reverse}
use Rattle.co_base.specs.declared.kinds.Thrown.{Thrown}
use Rattle.co_eval_data.specs.Agents.{activation_of, local_of}
use Rattle.co_eval_data.specs.Changed as changed
use Rattle.co_eval_data.specs.Seen.{given_of}
use Rattle.co_eval_data.specs.declared.changes.Change.{Change}
use Rattle.co_eval_data.specs.declared.changes.Effect.TheVariants as effect
use Rattle.co_eval_data.specs.declared.here.Here.{Here}
use Rattle.co_eval_data.specs.declared.outcomes.Given.{Given}
use Rattle.co_eval_parts.specs.Lowest.{is_lowest, is_of_function, resting}
use Rattle.co_meaning_calls.specs.Calls.{main_value, returned_main, returns, returns_to, throws_to}
use Rattle.co_meaning_data.specs.Frames as meaning
use Rattle.co_meaning_data.specs.Turn as turn
use Rattle.co_meaning_data.specs.Turn.{Local}

counted : (below : List meaning.Activation) → length below ≡ 0 → true ≡ is_lowest below
counted [] e = refl
counted (a ∷ below) e = absurd (omega (arith, e))

counted_more : (below : List meaning.Activation) → length below ≢ 0 → false ≡ is_lowest below
counted_more [] e = absurd (e refl)
counted_more (a ∷ below) e = refl

below_counted : (h : Here) → length (local_of h).below ≡ length h.below.now
unfolding local_of
below_counted h = length-reverse (map activation_of h.below.now) ∙ length-map h.below.now activation_of

pub none_below : (h : Here) → length h.below.now < 1 → true ≡ is_lowest (local_of h).below
none_below h e = counted (local_of h).below (omega (arith, below_counted h, e))

pub some_below : (h : Here) → 1 ≤ length h.below.now → false ≡ is_lowest (local_of h).below
some_below h e = counted_more (local_of h).below (λ z. omega (arith, below_counted h, e, z))

-- ---- the return

main_returned : (k : meaning.Kind) (g : meaning.Given) (l : Local) → is_of_function k ≡ true → record l { shared = record l.shared { main = main_value g } } ≡ returned_main k g l
main_returned meaning.OfFunction g l on = refl
main_returned meaning.OfRamp g l on = absurd (false≢true on)
main_returned meaning.OfBody g l on = absurd (false≢true on)
main_returned meaning.OfDestroy g l on = absurd (false≢true on)
main_returned (meaning.OfParked n s a) g l on = absurd (false≢true on)

main_kept : (k : meaning.Kind) (g : meaning.Given) (l : Local) → is_of_function k ≡ false → l ≡ returned_main k g l
main_kept meaning.OfFunction g l off = absurd (cc off)
main_kept meaning.OfRamp g l off = refl
main_kept meaning.OfBody g l off = refl
main_kept meaning.OfDestroy g l off = refl
main_kept (meaning.OfParked n s a) g l off = refl

lowest_returns : (below : List meaning.Activation) (g : meaning.Given) (l : Local) → is_lowest below ≡ true → turn.rests meaning.Idle (returned_main l.top.kind g l) ≡ returns_to below g l
lowest_returns [] g l low = refl
lowest_returns (a ∷ below) g l low = absurd (false≢true low)

main_rests : (z : Option ℤ) (l : Local) → Some (changed.turned_by (resting (effect.RestsAfterMain z)) l) ≡ turn.rests meaning.Idle (record l { shared = record l.shared { main = z } })
unfolding changed.turned_by
main_rests z l = refl

other_rests : (l : Local) → Some (changed.turned_by (resting effect.Rests) l) ≡ turn.rests meaning.Idle l
unfolding changed.turned_by
other_rests l = refl

pub rests_after_main : (c : Change) (g : Given) (z : Option ℤ) (l : Local) → is_lowest l.below ≡ true → is_of_function l.top.kind ≡ true → z ≡ main_value (given_of g) → c ≡ resting (effect.RestsAfterMain z) →
    Some (changed.turned_by c l) ≡ returns (given_of g) l
rests_after_main c g z l low on is made =
    ap (λ (d : Change). Some (changed.turned_by d l)) made
    ∙ main_rests z l
    ∙ ap (λ y. turn.rests meaning.Idle (record l { shared = record l.shared { main = y } })) is
    ∙ ap (turn.rests meaning.Idle) (main_returned l.top.kind (given_of g) l on)
    ∙ lowest_returns l.below (given_of g) l low

pub rests : (c : Change) (g : meaning.Given) (l : Local) → is_lowest l.below ≡ true → is_of_function l.top.kind ≡ false → c ≡ resting effect.Rests → Some (changed.turned_by c l) ≡ returns g l
rests c g l low off made =
    ap (λ (d : Change). Some (changed.turned_by d l)) made
    ∙ other_rests l
    ∙ ap (turn.rests meaning.Idle) (main_kept l.top.kind g l off)
    ∙ lowest_returns l.below g l low

returned_to : (below : List meaning.Activation) (g : meaning.Given) (l : Local) → is_lowest below ≡ false → turn.gives g (changed.returned below l) ≡ returns_to below g l
returned_to [] g l some = absurd (cc some)
returned_to (a ∷ below) g l some = refl

pub returns_below : (g : Given) (l : Local) → is_lowest l.below ≡ false → turn.gives (given_of g) (changed.returned l.below l) ≡ returns (given_of g) l
returns_below g l some = returned_to l.below (given_of g) l some

-- ---- the throw

thrown_to : (below : List meaning.Activation) (v : Thrown) (l : Local) → is_lowest below ≡ false → turn.leaves (meaning.Throwing v) (changed.returned below l) ≡ throws_to below (meaning.Throwing v) l
thrown_to [] v l some = absurd (cc some)
thrown_to (a ∷ below) v l some = refl

pub throws_below : (v : Thrown) (l : Local) → is_lowest l.below ≡ false → turn.leaves (meaning.Throwing v) (changed.returned l.below l) ≡ throws_to l.below (meaning.Throwing v) l
throws_below v l some = thrown_to l.below v l some

uncaught_in : (below : List meaning.Activation) (v : Thrown) (l : Local) → is_lowest below ≡ true → turn.is_uncaught v (record l { below = below }) ≡ throws_to below (meaning.Throwing v) l
uncaught_in [] v l low = refl
uncaught_in (a ∷ below) v l low = absurd (false≢true low)

pub is_uncaught : (v : Thrown) (l : Local) → is_lowest l.below ≡ true → turn.is_uncaught v l ≡ throws_to l.below (meaning.Throwing v) l
is_uncaught v l low = uncaught_in l.below v l low
