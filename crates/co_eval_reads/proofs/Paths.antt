-- The parts of objects along paths, and the words before them.
use Rattle.std.specs.Prelude.{◌≡◌, ◌≤◌, ℕ, zero, suc, ◌+◌, ◌-◌, List, [], ◌∷◌, length, take, drop, get_or, None}
use Rattle.std.proofs.Common.{refl, ap, subst, arith}
use Rattle.co_base.specs.declared.ids.ClassId.{ClassId}
use Rattle.co_core_tree.specs.Sizes.{fields_words, head_words}
use Rattle.co_meaning_data.specs.Store.{part_offset, part_type}
use Rattle.co_types.specs.declared.classes.ClassInfo.{ClassInfo}
use Rattle.co_types.specs.declared.classes.FieldInfo.{FieldInfo}
use Rattle.co_types.specs.Types.{head_of}
use Rattle.co_eval_reads.proofs.Rests.{one_off}

pub no_part : (classes : List ClassInfo) (path : List ℕ) → part_type classes None path ≡ None
no_part classes [] = refl
no_part classes (k ∷ path) = no_part classes path

pub no_offset : (classes : List ClassInfo) (path : List ℕ) → part_offset classes None path ≡ 0
no_offset classes [] = refl
no_offset classes (k ∷ path) = let e : 0 + part_offset classes None path ≡ 0 = omega (arith, no_offset classes path) in e

pub all_taken : {A : Type 0} (n : ℕ) (xs : List A) → length xs ≤ n → xs ≡ take n xs
all_taken zero [] fits = refl
all_taken (suc n) [] fits = refl
all_taken zero (x ∷ xs) fits = absurd (omega (arith, fits))
all_taken (suc n) (x ∷ xs) fits = ap (λ k. x ∷ k) (all_taken n xs (omega (arith, fits)))

-- one more field is counted
pub fields_on : (inner : ClassId → ℕ) (sum words more whole : ℕ) (f : FieldInfo) (rest : List FieldInfo) → 1 ≤ length rest → f ≡ get_or rest 0 f → words ≡ head_words inner (head_of f.of) → more ≡ sum + words →
    sum + fields_words inner rest ≡ whole → more + fields_words inner (take (length rest - 1) (drop 1 rest)) ≡ whole
fields_on inner sum words more whole f rest some is e m h =
    let tail = take (length rest - 1) (drop 1 rest) in
    let b : sum + fields_words inner (f ∷ tail) ≡ whole = subst (λ xs. sum + fields_words inner xs ≡ whole) (one_off rest f some is) h in
    omega (arith, b, e, m)
