-- The values of the fields of a thrown object, made one after the other.
use Rattle.std.specs.Prelude.{◌≡◌, ◌<◌, ◌≤◌, ◌-◌, List, [], ◌∷◌, ◌++◌, length, take, drop, get_or, ℤ}
use Rattle.std.proofs.Common.{ap, ◌∙◌, sym, append_assoc, arith}
use Rattle.std.proofs.lemmas.List.{append-nil}
use Rattle.co_eval_reads.proofs.Rests.{one_off}
use Rattle.co_meaning.specs.Statements.{member_values, number_of_head}
use Rattle.co_meaning_data.specs.declared.values.Value.{Value}
use Rattle.co_meaning_data.specs.declared.values.Value.TheVariants as value
use Rattle.co_types.specs.Types.{head_of}
use Rattle.co_types.specs.declared.classes.FieldInfo.{FieldInfo}

pub members_on : (list : List Value) (f : FieldInfo) (fs : List FieldInfo) (n : ℤ) (ns : List ℤ) (whole : List Value) → 1 ≤ length fs → f ≡ get_or fs 0 f → 1 ≤ length ns → n ≡ get_or ns 0 n →
    list ++ member_values fs ns ≡ whole →
    (list ++ value.Number (number_of_head (head_of f.of)) n ∷ []) ++ member_values (take (length fs - 1) (drop 1 fs)) (take (length ns - 1) (drop 1 ns)) ≡ whole
members_on list f fs n ns whole some is more same h =
    let rest = take (length fs - 1) (drop 1 fs) in
    let left = take (length ns - 1) (drop 1 ns) in
    append_assoc list (value.Number (number_of_head (head_of f.of)) n ∷ []) (member_values rest left)
    ∙ sym (ap (λ k. list ++ member_values (f ∷ rest) k) (one_off ns n more same))
    ∙ sym (ap (λ k. list ++ member_values k ns) (one_off fs f some is))
    ∙ h

pub no_fields : (list : List Value) (fs : List FieldInfo) (ns : List ℤ) (whole : List Value) → length fs < 1 → list ++ member_values fs ns ≡ whole → list ≡ whole
no_fields list [] ns whole none h = sym (append-nil list) ∙ h
no_fields list (f ∷ fs) ns whole none h = absurd (omega (arith, none))

pub no_numbers : (list : List Value) (fs : List FieldInfo) (ns : List ℤ) (whole : List Value) → length ns < 1 → list ++ member_values fs ns ≡ whole → list ≡ whole
no_numbers list [] ns whole none h = sym (append-nil list) ∙ h
no_numbers list (f ∷ fs) [] whole none h = sym (append-nil list) ∙ h
no_numbers list (f ∷ fs) (n ∷ ns) whole none h = absurd (omega (arith, none))
