-- Parameters that get their arguments, one after the other.
use Rattle.std.specs.Prelude.{◌≡◌, ◌<◌, ◌≤◌, ℕ, zero, suc, ◌+◌, ◌-◌, List, [], ◌∷◌, ◌++◌, map, length, take, drop, get_or, reverse, Option, None, Some}
use Rattle.std.specs.Option.{option_map}
use Rattle.std.proofs.Common.{refl, ap, ◌∙◌, sym, arith, append_assoc, append-nil, length-append}
use Rattle.std.proofs.Math.Seq.{take-length}
use Rattle.std.proofs.lemmas.List.{length-map, reverse-append}
use Rattle.co_base.specs.declared.ids.SlotId.{SlotId}
use Rattle.co_core_tree.specs.declared.units.CoreFunc.{CoreFunc}
use Rattle.co_eval_calls.specs.Bound.{bound_of, bound_with}
use Rattle.co_eval_calls.specs.declared.binding.Binding.{Binding}
use Rattle.co_eval_data.specs.Agents.{object_of}
use Rattle.co_eval_data.specs.Changed.{all_added}
use Rattle.co_eval_data.specs.Seen.{given_of}
use Rattle.co_eval_data.specs.declared.outcomes.Given.{Given}
use Rattle.co_eval_data.specs.declared.stored.StoredObject.{StoredObject}
use Rattle.co_meaning_calls.specs.Calls.{Bound, bind_parts, bind_rest, bind_slot, cells_of, slot_type}
use Rattle.co_meaning_data.specs.Frames as meaning
use Rattle.co_meaning_data.specs.Store as stored
use Rattle.co_meaning_data.specs.declared.values.Cell.{Cell}
use Rattle.co_meaning_data.specs.declared.values.Cell.TheVariants as cell
use Rattle.co_meaning_data.specs.declared.values.Value.{Value}
use Rattle.co_types.specs.declared.types.CoType.{CoType}

pub next_cell : (vs : List Value) (i : ℕ) (v : Value) → i < length vs → v ≡ get_or vs i v → cells_of (take (i + 1) vs) ≡ cells_of (take i vs) ++ cell.Holds v ∷ []
next_cell [] i v less is = absurd (omega (arith, less))
next_cell (w ∷ vs) zero v less is = ap (λ k. cell.Holds k ∷ []) (sym is)
next_cell (w ∷ vs) (suc i) v less is =
    let count : suc i + 1 ≡ suc (i + 1) = omega arith in
    let more : i < length vs = omega (arith, less) in
    ap (λ k. cells_of (take k (w ∷ vs))) count ∙ ap (λ k. cell.Holds w ∷ k) (next_cell vs i v more is)

pub next_counted : (s : stored.Store) (b : Binding) → stored.next_object (bound_of s b).store ≡ stored.next_object s + length b.objects
next_counted s b = length-append s.objects (map object_of b.objects) ∙ ap (λ k. length s.objects + k) (length-map b.objects object_of)

mapped_with : (xs : List StoredObject) (o : StoredObject) → map object_of (xs ++ o ∷ []) ≡ map object_of xs ++ object_of o ∷ []
mapped_with [] o = refl
mapped_with (x ∷ xs) o = ap (λ k. object_of x ∷ k) (mapped_with xs o)

pub added_last : (s : stored.Store) (xs : List StoredObject) (o : StoredObject) → all_added (map object_of (xs ++ o ∷ [])) s ≡ stored.add_object (object_of o) (all_added (map object_of xs) s)
added_last s xs o = ap (λ k. all_added k s) (mapped_with xs o) ∙ ap (λ k. record s { objects = k }) (sym (append_assoc s.objects (map object_of xs) (object_of o ∷ [])))

pub nothing_added : (s : stored.Store) → all_added [] s ≡ s
nothing_added s = ap (λ k. record s { objects = k }) (append-nil s.objects)

pub some_parts : (slot : ℕ) (of : CoType) (b : Bound) (o : Option (List Value)) (cells : List Cell) → Some cells ≡ option_map (λ vs. cells_of vs) o → bind_parts slot of b o ≡ Some (bound_with slot of cells b)
some_parts slot of b None cells e = absurd (cc e)
some_parts slot of b (Some vs) cells e = let same : cells_of vs ≡ cells = cc e in ap (λ k. Some (bound_with slot of k b)) same

pub no_parts : (slot : ℕ) (of : CoType) (b : Bound) (o : Option (List Value)) → None ≡ option_map (λ vs. cells_of vs) o → bind_parts slot of b o ≡ None
no_parts slot of b None e = refl
no_parts slot of b (Some vs) e = absurd (cc e)

pub first_apart : {A : Type 0} (xs : List A) (x : A) → 1 ≤ length xs → x ≡ get_or xs 0 x → xs ≡ x ∷ take (length xs - 1) (drop 1 xs)
first_apart [] x some is = absurd (omega (arith, some))
first_apart (y ∷ ys) x some is =
    let count : length ys ≡ length (y ∷ ys) - 1 = omega arith in
    ap (λ k. y ∷ k) (sym (take-length ys) ∙ ap (λ k. take k ys) count) ∙ ap (λ k. k ∷ take (length (y ∷ ys) - 1) ys) (sym is)

last_apart : {A : Type 0} (xs : List A) (x : A) → 1 ≤ length xs → x ≡ get_or xs (length xs - 1) x → xs ≡ take (length xs - 1) xs ++ x ∷ []
last_apart [] x some is = absurd (omega (arith, some))
last_apart (y ∷ []) x some is = ap (λ k. k ∷ []) (sym is)
last_apart (y ∷ z ∷ xs) x some is =
    let more : 1 ≤ length (z ∷ xs) = omega arith in
    let count : suc (length (z ∷ xs) - 1) ≡ length (y ∷ z ∷ xs) - 1 = omega arith in
    let there : x ≡ get_or (z ∷ xs) (length (z ∷ xs) - 1) x = is ∙ ap (λ n. get_or (y ∷ z ∷ xs) n x) (sym count) in
    ap (λ k. y ∷ k) (last_apart (z ∷ xs) x more there) ∙ ap (λ n. take n (y ∷ z ∷ xs) ++ x ∷ []) count

given_with : (xs : List Given) (g : Given) → map given_of (xs ++ g ∷ []) ≡ map given_of xs ++ given_of g ∷ []
given_with [] g = refl
given_with (x ∷ xs) g = ap (λ k. given_of x ∷ k) (given_with xs g)

pub first_is_last : (xs : List Given) (g : Given) → 1 ≤ length xs → g ≡ get_or xs (length xs - 1) g → reverse (map given_of xs) ≡ given_of g ∷ reverse (map given_of (take (length xs - 1) xs))
first_is_last xs g some is =
    ap (λ k. reverse (map given_of k)) (last_apart xs g some is) ∙ ap reverse (given_with (take (length xs - 1) xs) g) ∙ reverse-append (map given_of (take (length xs - 1) xs)) (given_of g ∷ [])

-- where a parameter gets no argument none after it does
never_bound : (func : CoreFunc) (slots : List SlotId) (given : List meaning.Given) → bind_rest func slots given None ≡ None
never_bound func [] given = refl
never_bound func (slot ∷ slots) given = refl

pub none_bound : (func : CoreFunc) (slots rest : List SlotId) (given left : List meaning.Given) (slot : SlotId) (g : meaning.Given) (b : Bound) → slots ≡ slot ∷ rest → given ≡ g ∷ left →
    bind_slot slot.0 (slot_type func slot.0) g b ≡ None → bind_rest func slots given (Some b) ≡ None
none_bound func slots rest given left slot g b e h none = ap (λ k. bind_rest func k given (Some b)) e ∙ ap (λ k. bind_rest func (slot ∷ rest) k (Some b)) h ∙ ap (bind_rest func rest left) none ∙ never_bound func rest left

pub next_bound : (func : CoreFunc) (slots rest : List SlotId) (given left : List meaning.Given) (slot : SlotId) (g : meaning.Given) (b c : Bound) → slots ≡ slot ∷ rest → given ≡ g ∷ left →
    bind_slot slot.0 (slot_type func slot.0) g b ≡ Some c → bind_rest func slots given (Some b) ≡ bind_rest func rest left (Some c)
next_bound func slots rest given left slot g b c e h next = ap (λ k. bind_rest func k given (Some b)) e ∙ ap (λ k. bind_rest func (slot ∷ rest) k (Some b)) h ∙ ap (bind_rest func rest left) next

pub past_bound : (func : CoreFunc) (slots : List SlotId) (given : List meaning.Given) (b : Bound) → slots ≡ [] → given ≡ [] → bind_rest func slots given (Some b) ≡ Some b
past_bound func slots given b e h = ap (λ k. bind_rest func k given (Some b)) e ∙ ap (λ k. bind_rest func [] k (Some b)) h
