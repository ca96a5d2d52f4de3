-- Values that are matched with slots from the last to the first match them as well from the first to the last.
use Rattle.std.specs.Prelude.{◌≡◌, ℕ, zero, suc, ◌+◌, ◌-◌, ◌<◌, ◌≤◌, Bool, true, false, not, ◌&&◌, ◌==◌, nat_lt, if◌then◌else◌, List, [], ◌∷◌, ◌++◌, length, Some, slice_get}
use Rattle.std.proofs.Common.{refl, sym, ap, ◌∙◌, drop, arith, append-nil}
use Rattle.std.proofs.lemmas.Bool.{leb-true, lt-ltb, ne_eqb}
use Rattle.std.proofs.lemmas.List.{append_assoc}
use Rattle.std.proofs.lemmas.Option.{slice_get_within}
use Rattle.co_types.specs.declared.types.CoType.{CoType}
use Rattle.co_core_tree.specs.declared.units.CoreFunc.{CoreFunc}
use Rattle.co_core_tree.specs.declared.units.SlotInfo.{SlotInfo}
use Rattle.co_core_tree.specs.declared.units.UnitParts.{UnitParts}
use Rattle.co_core_tree.specs.Acts.{Act, Does, Keeps, Part, Passes, Starts}
use Rattle.co_core_tree.specs.Slots.{held_of, is_held, is_held_kind}
use Rattle.co_core_typing.specs.Tables.{type_of_slot}
use Rattle.co_core.specs.Counts.{acts_in_order, func_held, func_holders, keep, keeps_part, kept_types, slots_fit}
use Rattle.co_core.specs.Scopes.{member}
use Rattle.co_core_acts.specs.Visits.{back}
use Rattle.co_core_kept.specs.declared.held.Keeping.{Keeping}
use Rattle.co_core_kept.specs.declared.holders.Holders.{Holders}
use Rattle.co_core_kept.specs.Kept.{keeps_value, kept_after, last_keeping, type_at}
use Rattle.co_core_kept.specs.Marked.{has_mark}

and_true : (b : Bool) → (b && true) ≡ b
and_true true = refl
and_true false = refl

and_false : (b : Bool) → (b && false) ≡ false
and_false true = refl
and_false false = refl

and_assoc : (a b c : Bool) → ((a && b) && c) ≡ (a && (b && c))
and_assoc true b c = refl
and_assoc false b c = refl

and_swap : (a b : Bool) → (a && b) ≡ (b && a)
and_swap true b = sym (and_true b)
and_swap false b = sym (and_false b)

-- the last value with the last slot, and what is known of the values behind it
and_last : (a b c : Bool) → ((a && b) && c) ≡ (a && (c && b))
and_last true b c = and_swap b c
and_last false b c = refl

first_of : {A : Type 0} (xs : List A) (k : ℕ) → slice_get xs k ≡ slice_get (drop k xs) 0
first_of [] zero = refl
first_of [] (suc k) = refl
first_of (x ∷ xs) zero = refl
first_of (x ∷ xs) (suc k) = first_of xs k

drop_one : {A : Type 0} (xs : List A) (k : ℕ) → drop 1 (drop k xs) ≡ drop (suc k) xs
drop_one [] zero = refl
drop_one [] (suc k) = refl
drop_one (x ∷ xs) zero = refl
drop_one (x ∷ xs) (suc k) = drop_one xs k

module _ (unit : UnitParts) (func : CoreFunc) where
  -- ---- a type more and a part more at the ends of the lists

  keep_none : (types : List CoType) (of : CoType) → keep unit func (types ++ of ∷ []) [] ≡ false
  keep_none [] of = refl
  keep_none (first ∷ types) of = refl

  keep_lack : (parts : List Part) (part : Part) → keep unit func [] (parts ++ part ∷ []) ≡ false
  keep_lack [] part = refl
  keep_lack (first ∷ parts) part = refl

  keep_last : (types : List CoType) (of : CoType) (parts : List Part) (part : Part) → keep unit func (types ++ of ∷ []) (parts ++ part ∷ []) ≡ (keep unit func types parts && keeps_part unit func of part)
  keep_last [] of [] part = and_true (keeps_part unit func of part)
  keep_last [] of (first ∷ parts) part = ap (λ b. keeps_part unit func of first && b) (keep_lack parts part) ∙ and_false (keeps_part unit func of first)
  keep_last (own ∷ types) of [] part = ap (λ b. keeps_part unit func own part && b) (keep_none types of) ∙ and_false (keeps_part unit func own part)
  keep_last (own ∷ types) of (first ∷ parts) part =
      ap (λ b. keeps_part unit func own first && b) (keep_last types of parts part)
      ∙ sym (and_assoc (keeps_part unit func own first) (keep unit func types parts) (keeps_part unit func of part))

  -- ---- the slots that keep values, from the last to the first

  module _ (holders : Holders) where
    abbrev type_if : Bool → CoType → List CoType
    type_if b of = if b then of ∷ [] else []

    -- the types of the first slots that keep values
    abbrev types_to : ℕ → List CoType
    types_to zero = []
    types_to (suc k) = types_to k ++ type_if (keeps_value func holders k) (type_at func k)

    abbrev last_if : Bool → ℕ → ℕ
    last_if b k = if b then suc k else last_keeping func holders k

    types_more : (k : ℕ) → keeps_value func holders k ≡ true → types_to (suc k) ≡ types_to k ++ type_at func k ∷ []
    types_more k e = ap (λ b. types_to k ++ type_if b (type_at func k)) e

    types_same : (k : ℕ) → keeps_value func holders k ≡ false → types_to (suc k) ≡ types_to k
    types_same k e = ap (λ b. types_to k ++ type_if b (type_at func k)) e ∙ append-nil (types_to k)

    -- what is known of the last slot that keeps a value
    abbrev IsLast : ℕ → ℕ → Type 0
    IsLast n zero = types_to n ≡ []
    IsLast n (suc k) = types_to n ≡ types_to k ++ type_at func k ∷ []

    is_last_since : (n m last : ℕ) → types_to n ≡ types_to m → IsLast m last → IsLast n last
    is_last_since n m zero e h = e ∙ h
    is_last_since n m (suc k) e h = e ∙ h

    is_last_if : (b : Bool) (k : ℕ) → keeps_value func holders k ≡ b → IsLast k (last_keeping func holders k) → IsLast (suc k) (last_if b k)
    is_last_if true k e h = types_more k e
    is_last_if false k e h = is_last_since (suc k) k (last_keeping func holders k) (types_same k e) h

    is_last : (n : ℕ) → IsLast n (last_keeping func holders n)
    is_last zero = refl
    is_last (suc k) = is_last_if (keeps_value func holders k) k refl (is_last k)

    -- ---- one value

    abbrev fits_last : ℕ → Part → Bool
    fits_last last part = nat_lt 0 last && keeps_part unit func (type_at func (last - 1)) part

    step_since : (n last : ℕ) (parts : List Part) (part : Part) (b : Bool) → IsLast n last →
        (keep unit func (types_to n) (parts ++ part ∷ []) && b) ≡ (keep unit func (types_to (last - 1)) parts && (b && fits_last last part))
    step_since n zero parts part b h =
        ap (λ types. keep unit func types (parts ++ part ∷ []) && b) h ∙ ap (λ c. c && b) (keep_lack parts part)
        ∙ sym (ap (λ c. keep unit func (types_to (0 - 1)) parts && c) (and_false b) ∙ and_false (keep unit func (types_to (0 - 1)) parts))
    step_since n (suc k) parts part b h =
        let m : k ≡ suc k - 1 = omega arith in
        let p : nat_lt 0 (suc k) ≡ true = lt-ltb 0 (suc k) (omega arith) in
        ap (λ types. keep unit func types (parts ++ part ∷ []) && b) h
        ∙ ap (λ c. c && b) (keep_last (types_to k) (type_at func k) parts part)
        ∙ and_last (keep unit func (types_to k) parts) (keeps_part unit func (type_at func k) part) b
        ∙ ap (λ j. keep unit func (types_to j) parts && (b && keeps_part unit func (type_at func j) part)) m
        ∙ sym (ap (λ c. keep unit func (types_to (suc k - 1)) parts && (b && (c && keeps_part unit func (type_at func (suc k - 1)) part))) p)

    step : (n : ℕ) (parts : List Part) (part : Part) (b : Bool) →
        (keep unit func (types_to n) (parts ++ part ∷ []) && b) ≡ (keep unit func (types_to (last_keeping func holders n - 1)) parts && (b && fits_last (last_keeping func holders n) part))
    step n parts part b = step_since n (last_keeping func holders n) parts part b (is_last n)

    -- ---- all values

    abbrev left_after : ℕ → List Act → ℕ
    left_after n [] = n
    left_after n (Does c e ∷ acts) = left_after n acts
    left_after n (Passes e ∷ acts) = left_after n acts
    left_after n (Starts i ∷ acts) = left_after n acts
    left_after n (Keeps part ∷ acts) = last_keeping func holders (left_after n acts) - 1

    abbrev fits_after : ℕ → Bool → List Act → Bool
    fits_after n b [] = b
    fits_after n b (Does c e ∷ acts) = fits_after n b acts
    fits_after n b (Passes e ∷ acts) = fits_after n b acts
    fits_after n b (Starts i ∷ acts) = fits_after n b acts
    fits_after n b (Keeps part ∷ acts) = fits_after n b acts && fits_last (last_keeping func holders (left_after n acts)) part

    values_match : (n : ℕ) (b : Bool) (acts : List Act) (parts : List Part) →
        (keep unit func (types_to n) (parts ++ held_of acts) && b) ≡ (keep unit func (types_to (left_after n acts)) parts && fits_after n b acts)
    values_match n b [] parts = ap (λ l. keep unit func (types_to n) l && b) (append-nil parts)
    values_match n b (Does c e ∷ acts) parts = values_match n b acts parts
    values_match n b (Passes e ∷ acts) parts = values_match n b acts parts
    values_match n b (Starts i ∷ acts) parts = values_match n b acts parts
    values_match n b (Keeps part ∷ acts) parts =
        ap (λ l. keep unit func (types_to n) l && b) (sym (append_assoc parts (part ∷ []) (held_of acts)))
        ∙ values_match n b acts (parts ++ part ∷ [])
        ∙ step (left_after n acts) parts part (fits_after n b acts)

    none_left_since : (n last : ℕ) → IsLast n last → keep unit func (types_to n) [] ≡ (last == 0)
    none_left_since n zero h = ap (λ types. keep unit func types []) h
    none_left_since n (suc k) h = ap (λ types. keep unit func types []) h ∙ keep_none (types_to k) (type_at func k) ∙ sym (ne_eqb (suc k) 0 (λ q. omega (arith, q)))

    none_left : (n : ℕ) → keep unit func (types_to n) [] ≡ (last_keeping func holders n == 0)
    none_left n = none_left_since n (last_keeping func holders n) (is_last n)

    all_match : (n : ℕ) (acts : List Act) → (fits_after n true acts && (last_keeping func holders (left_after n acts) == 0)) ≡ keep unit func (types_to n) (held_of acts)
    all_match n acts =
        and_swap (fits_after n true acts) (last_keeping func holders (left_after n acts) == 0)
        ∙ ap (λ b. b && fits_after n true acts) (sym (none_left (left_after n acts)))
        ∙ sym (values_match n true acts [])
        ∙ and_true (keep unit func (types_to n) (held_of acts))

    -- ---- the types of the slots that keep values, from the first to the last

    module _ (marks : (k : ℕ) → k < 4096 → has_mark holders k ≡ member (record { 0 = k }) (func_holders unit func)) (small : length func.slots ≤ 4096) where
      types_first : (k : ℕ) (slot : SlotInfo) (slots : List SlotInfo) (b : Bool) → (is_held_kind slot.kind && not (member (record { 0 = k }) (func_holders unit func))) ≡ b →
          kept_types unit func k (slot ∷ slots) ≡ type_if b slot.of ++ kept_types unit func (k + 1) slots
      types_first k slot slots true e = rw e refl
      types_first k slot slots false e = rw e refl

      types_from : (slots : List SlotInfo) (k : ℕ) → drop k func.slots ≡ slots → types_to k ++ kept_types unit func k slots ≡ types_to (k + length slots)
      types_from [] k e =
          let n : k ≡ k + 0 = omega arith in
          append-nil (types_to k) ∙ ap types_to n
      types_from (slot ∷ slots) k e =
          let n : k + 1 ≡ suc k = omega arith in
          let m : suc k + length slots ≡ k + suc (length slots) = omega arith in
          let here : slice_get func.slots k ≡ Some slot = first_of func.slots k ∙ ap (λ l. slice_get l 0) e in
          let within = slice_get_within func.slots k slot here in
          let held = is_held_kind slot.kind && not (member (record { 0 = k }) (func_holders unit func)) in
          let own : type_if held slot.of ≡ type_if (keeps_value func holders k) (type_at func k) =
          sym (ap (λ o. type_if (is_held o && not (has_mark holders k)) (type_of_slot o)) here ∙ ap (λ b. type_if (is_held_kind slot.kind && not b) slot.of) (marks k (omega (arith, within, small)))) in
          ap (λ l. types_to k ++ l) (types_first k slot slots held refl)
          ∙ sym (append_assoc (types_to k) (type_if held slot.of) (kept_types unit func (k + 1) slots))
          ∙ ap (λ l. (types_to k ++ l) ++ kept_types unit func (k + 1) slots) own
          ∙ ap (λ j. types_to (suc k) ++ kept_types unit func j slots) n
          ∙ types_from slots (suc k) (sym (drop_one func.slots k) ∙ ap (λ l. drop 1 l) e)
          ∙ ap types_to m

      types_all : types_to (length func.slots) ≡ kept_types unit func 0 func.slots
      types_all =
          let n : 0 + length func.slots ≡ length func.slots = omega arith in
          sym (types_from func.slots 0 refl ∙ ap types_to n)

-- ---- what the visitor of the acts comes to

all_kept : (s : Keeping) (acts : List Act) →
    back kept_after s acts ≡ record s { left = left_after s.scene.unit.now s.scene.func.now s.holders s.left acts; fits = fits_after s.scene.unit.now s.scene.func.now s.holders s.left s.fits acts }
all_kept s [] = refl
all_kept s (Does c e ∷ acts) = all_kept s acts
all_kept s (Passes e ∷ acts) = all_kept s acts
all_kept s (Starts i ∷ acts) = all_kept s acts
all_kept s (Keeps part ∷ acts) = ap (λ (t : Keeping). kept_after t (Keeps part)) (all_kept s acts)

pub held_is : (s t : Keeping) (n : ℕ) → s.left ≡ length s.scene.func.now.slots → s.fits ≡ true →
    ((k : ℕ) → k < 4096 → has_mark s.holders k ≡ member (record { 0 = k }) (func_holders s.scene.unit.now s.scene.func.now)) → slots_fit s.scene.func.now ≡ true →
    t ≡ back kept_after s (acts_in_order s.scene.unit.now s.scene.func.now) → n ≡ last_keeping s.scene.func.now t.holders t.left →
    (t.fits && (n == 0)) ≡ func_held s.scene.unit.now s.scene.func.now
held_is s t n left fits marks small visited last =
    let unit = s.scene.unit.now in
    let func = s.scene.func.now in
    let acts = acts_in_order unit func in
    ap (λ x. t.fits && (x == 0)) last
    ∙ ap (λ (w : Keeping). w.fits && (last_keeping func w.holders w.left == 0)) (visited ∙ all_kept s acts)
    ∙ ap (λ b. fits_after unit func s.holders s.left b acts && (last_keeping func s.holders (left_after unit func s.holders s.left acts) == 0)) fits
    ∙ ap (λ l. fits_after unit func s.holders l true acts && (last_keeping func s.holders (left_after unit func s.holders l acts) == 0)) left
    ∙ all_match unit func s.holders (length func.slots) acts
    ∙ ap (λ types. keep unit func types (held_of acts)) (types_all unit func s.holders marks (leb-true (length func.slots) 4096 small))
