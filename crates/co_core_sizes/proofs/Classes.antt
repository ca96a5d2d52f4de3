-- What holds of each class, by their numbers.
use Rattle.std.specs.Prelude.{◌≡◌, ◌<◌, ℕ, zero, suc, ◌+◌, Bool, true, false, ◌&&◌, List, [], ◌∷◌, length, drop}
use Rattle.std.proofs.Common.{refl, ap, ◌∙◌, sym, subst, arith}
use Rattle.co_base.specs.declared.ids.ClassId.{ClassId}
use Rattle.co_types.specs.declared.classes.ClassInfo.{ClassInfo}
use Rattle.co_core.specs.Counts.{each_class}

pub each_here : (test : ClassId → Bool) (k j : ℕ) (classes : List ClassInfo) → j < length classes → each_class test k (drop j classes) ≡ (test (record { 0 = k }) && each_class test (k + 1) (drop (suc j) classes))
each_here test k j [] less = absurd (omega (arith, less))
each_here test k zero (info ∷ infos) less = refl
each_here test k (suc j) (info ∷ infos) less = each_here test k j infos (omega (arith, less))

pub each_false : (test : ClassId → Bool) (k : ℕ) (classes : List ClassInfo) (whole : Bool) → k < length classes → each_class test k (drop k classes) ≡ whole → test (record { 0 = k }) ≡ false → false ≡ whole
each_false test k classes whole less rest fails =
    sym (sym rest ∙ each_here test k k classes less ∙ ap (λ b. b && each_class test (k + 1) (drop (suc k) classes)) fails)

pub each_next : (test : ClassId → Bool) (k : ℕ) (classes : List ClassInfo) (whole : Bool) → k < length classes → each_class test k (drop k classes) ≡ whole → test (record { 0 = k }) ≡ true → each_class test (k + 1) (drop (k + 1) classes) ≡ whole
each_next test k classes whole less rest holds =
    let e : suc k ≡ k + 1 = omega arith in
    subst (λ j. each_class test (k + 1) (drop j classes) ≡ whole) e
    (sym (each_here test k k classes less ∙ ap (λ b. b && each_class test (k + 1) (drop (suc k) classes)) holds) ∙ rest)
