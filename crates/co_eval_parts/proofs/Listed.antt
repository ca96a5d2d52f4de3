-- Lists of ends, built from the first to the last.
use Rattle.std.specs.Prelude.{◌≡◌, ◌<◌, ◌≤◌, ℕ, zero, suc, ◌+◌, ◌-◌, List, [], ◌∷◌, ◌++◌, map, length, take, drop, get_or, None}
use Rattle.std.proofs.Common.{refl, ap, ◌∙◌, sym, append_assoc, arith}
use Rattle.std.proofs.lemmas.List.{append-nil, map-append}
use Rattle.co_eval_data.specs.Seen.{alive_of, ending_of, option_of, place_of, temporal_of}
use Rattle.co_eval_data.specs.declared.frames.Alive.{Alive}
use Rattle.co_eval_data.specs.declared.frames.Ending.{Ending}
use Rattle.co_eval_data.specs.declared.frames.Ending.TheVariants as ending
use Rattle.co_eval_data.specs.declared.frames.Temporal.{Temporal}
use Rattle.co_eval_data.specs.declared.values.Place.{Place}
use Rattle.co_eval_reads.proofs.Rests.{one_off}
use Rattle.co_meaning_calls.specs.Objects as objects
use Rattle.co_meaning_data.specs.Frames as meaning
use Rattle.co_meaning_data.specs.Store as stored

pub one_more : {A B : Type 0} (f : A → B) (list : List A) (x : A) (ys : List B) → map f (list ++ x ∷ []) ++ ys ≡ map f list ++ f x ∷ ys
one_more f list x ys = ap (λ l. l ++ ys) (map-append f list (x ∷ [])) ∙ append_assoc (map f list) (f x ∷ []) ys

module _ {A : Type 0} (list : List Ending) (x : A) (rest : List A) (some : 1 ≤ length rest) (is : x ≡ get_or rest 0 x) where
  split : (g : List A → List meaning.Ending) (whole : List meaning.Ending) → map ending_of list ++ g rest ≡ whole → map ending_of list ++ g (x ∷ take (length rest - 1) (drop 1 rest)) ≡ whole
  split g whole h = sym (ap (λ l. map ending_of list ++ g l) (one_off rest x some is)) ∙ h

pub endings_on : (list : List Ending) (x : Alive) (rest : List Alive) (whole : List meaning.Ending) → 1 ≤ length rest → x ≡ get_or rest 0 x →
    map ending_of list ++ objects.endings (map alive_of rest) ≡ whole →
    map ending_of (list ++ ending.EndsObject x ∷ []) ++ objects.endings (map alive_of (take (length rest - 1) (drop 1 rest))) ≡ whole
endings_on list x rest whole some is h =
    one_more ending_of list (ending.EndsObject x) (objects.endings (map alive_of (take (length rest - 1) (drop 1 rest))))
    ∙ split list x rest some is (λ l. objects.endings (map alive_of l)) whole h

pub unseen_on : (list : List Ending) (x : ℕ) (rest : List ℕ) (whole : List meaning.Ending) → 1 ≤ length rest → x ≡ get_or rest 0 x →
    map ending_of list ++ objects.unseen_endings rest ≡ whole →
    map ending_of (list ++ ending.EndsObject (record { object = x; coroutine = None }) ∷ []) ++ objects.unseen_endings (take (length rest - 1) (drop 1 rest)) ≡ whole
unseen_on list x rest whole some is h =
    one_more ending_of list (ending.EndsObject (record { object = x; coroutine = None })) (objects.unseen_endings (take (length rest - 1) (drop 1 rest)))
    ∙ split list x rest some is objects.unseen_endings whole h

pub temporaries_on : (list more : List Ending) (t : Temporal) (rest : List Temporal) (whole : List meaning.Ending) → 1 ≤ length rest → t ≡ get_or rest 0 t →
    map ending_of more ≡ map ending_of list ++ objects.temporary_ends t.marked (option_of alive_of t.object) →
    map ending_of list ++ objects.temporaries_end (map temporal_of rest) ≡ whole →
    map ending_of more ++ objects.temporaries_end (map temporal_of (take (length rest - 1) (drop 1 rest))) ≡ whole
temporaries_on list more t rest whole some is e h =
    let tail = objects.temporaries_end (map temporal_of (take (length rest - 1) (drop 1 rest))) in
    ap (λ l. l ++ tail) e
    ∙ append_assoc (map ending_of list) (objects.temporary_ends t.marked (option_of alive_of t.object)) tail
    ∙ split list t rest some is (λ l. objects.temporaries_end (map temporal_of l)) whole h

fields_next : (p : stored.Place) (k n : ℕ) → k + 1 ≡ n → objects.fields_end p n ≡ meaning.EndsPart (stored.field_of_place p k) ∷ objects.fields_end p k
fields_next p k zero e = absurd (omega (arith, e))
fields_next p k (suc n) e =
    let same : n ≡ k = omega (arith, e) in
    ap (λ j. meaning.EndsPart (stored.field_of_place p j) ∷ objects.fields_end p j) same

pub fields_on : (list : List Ending) (part place : Place) (k n : ℕ) (whole : List meaning.Ending) → k + 1 ≡ n → place_of part ≡ stored.field_of_place (place_of place) k →
    map ending_of list ++ objects.fields_end (place_of place) n ≡ whole →
    map ending_of (list ++ ending.EndsPart part ∷ []) ++ objects.fields_end (place_of place) k ≡ whole
fields_on list part place k n whole e is h =
    one_more ending_of list (ending.EndsPart part) (objects.fields_end (place_of place) k)
    ∙ ap (λ p. map ending_of list ++ meaning.EndsPart p ∷ objects.fields_end (place_of place) k) is
    ∙ sym (ap (λ l. map ending_of list ++ l) (fields_next (place_of place) k n e))
    ∙ h

-- ---- the ends of the loops

all : {A : Type 0} (list : List Ending) (g : List A → List meaning.Ending) (rest : List A) (whole : List meaning.Ending) → length rest < 1 → g [] ≡ [] → map ending_of list ++ g rest ≡ whole → map ending_of list ≡ whole
all list g [] whole none nothing h = sym (append-nil (map ending_of list)) ∙ sym (ap (λ l. map ending_of list ++ l) nothing) ∙ h
all list g (x ∷ rest) whole none nothing h = absurd (omega (arith, none))

pub endings_all : (list : List Ending) (rest : List Alive) (whole : List meaning.Ending) → length rest < 1 → map ending_of list ++ objects.endings (map alive_of rest) ≡ whole → map ending_of list ≡ whole
endings_all list rest whole none h = all list (λ l. objects.endings (map alive_of l)) rest whole none refl h

pub unseen_all : (list : List Ending) (rest : List ℕ) (whole : List meaning.Ending) → length rest < 1 → map ending_of list ++ objects.unseen_endings rest ≡ whole → map ending_of list ≡ whole
unseen_all list rest whole none h = all list objects.unseen_endings rest whole none refl h

pub temporaries_all : (list : List Ending) (rest : List Temporal) (whole : List meaning.Ending) → length rest < 1 → map ending_of list ++ objects.temporaries_end (map temporal_of rest) ≡ whole → map ending_of list ≡ whole
temporaries_all list rest whole none h = all list (λ l. objects.temporaries_end (map temporal_of l)) rest whole none refl h

pub fields_all : (list : List Ending) (p : stored.Place) (n : ℕ) (whole : List meaning.Ending) → n ≤ 0 → map ending_of list ++ objects.fields_end p n ≡ whole → map ending_of list ≡ whole
fields_all list p zero whole none h = sym (append-nil (map ending_of list)) ∙ h
fields_all list p (suc n) whole none h = absurd (omega (arith, none))
