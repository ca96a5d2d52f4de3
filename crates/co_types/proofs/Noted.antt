-- What a map of names holds once one more is noted.
use Rattle.std.specs.Prelude.{◌≡◌, ℕ, Bool, true, false, if◌then◌else◌, cond, List, [], ◌∷◌, Option, None, Some, nat_eq, bytes_eq, is_some}
use Rattle.std.proofs.Common.{refl, sym, ap, ◌∙◌, subst}
use Rattle.std.specs.Cmp.Lexicographic.{pointwise, bytes_decides}
use Rattle.std.specs.Map.{lookup}
use Rattle.indexmap.specs.IndexMap.{insert_entry}
use Rattle.co_types.specs.declared.members.Found.{Found}
use Rattle.co_types.specs.Classes.{first_of}
use Rattle.co_types.specs.Names.{noted}

clash : (b : Bool) → b ≡ true → b ≡ false → ⊥
clash b e f = cc

apart : (other x y : List ℕ) → pointwise nat_eq x y ≡ false → pointwise nat_eq other x ≡ true → pointwise nat_eq other y ≡ true → ⊥
apart other x y differ a b =
    let p : other ≡ x = (bytes_decides other x).0 a in
    let q : other ≡ y = (bytes_decides other y).0 b in
    clash (pointwise nat_eq x y) ((bytes_decides x y).1 (sym p ∙ q)) differ

module _ {X : Type 0} where
  put : (b c : Bool) (v old : X) (rest : Option X) → b ≡ c → cond c (Some v) rest ≡ cond b (Some v) (cond c (Some old) rest)
  put true true v old rest e = refl
  put true false v old rest e = cc
  put false true v old rest e = cc
  put false false v old rest e = refl

  kept : (b c : Bool) (v old : X) (rest : Option X) → (b ≡ true → c ≡ true → ⊥) → cond c (Some old) (cond b (Some v) rest) ≡ cond b (Some v) (cond c (Some old) rest)
  kept true true v old rest apart = absurd (apart refl refl)
  kept true false v old rest apart = refl
  kept false true v old rest apart = refl
  kept false false v old rest apart = refl

module _ {K X : Type 0} (items : K → List ℕ) (other : List ℕ) where
  pub lookup_inserted : (es : List (K × X)) (key : K) (v : X) →
      lookup (λ k. pointwise nat_eq other (items k)) (insert_entry (λ x y. pointwise nat_eq (items x) (items y)) es key v)
      ≡ cond (pointwise nat_eq other (items key)) (Some v) (lookup (λ k. pointwise nat_eq other (items k)) es)
  lookup_inserted [] key v = refl
  lookup_inserted (e ∷ es) key v = by (pointwise nat_eq (items key) (items e.0)) refl (lookup_inserted es key v)
    where
      by : (b : Bool) → pointwise nat_eq (items key) (items e.0) ≡ b →
          lookup (λ k. pointwise nat_eq other (items k)) (insert_entry (λ x y. pointwise nat_eq (items x) (items y)) es key v) ≡ cond (pointwise nat_eq other (items key)) (Some v) (lookup (λ k. pointwise nat_eq other (items k)) es) →
          lookup (λ k. pointwise nat_eq other (items k)) (if b then (e.0, v) ∷ es else e ∷ insert_entry (λ x y. pointwise nat_eq (items x) (items y)) es key v)
          ≡ cond (pointwise nat_eq other (items key)) (Some v) (cond (pointwise nat_eq other (items e.0)) (Some e.1) (lookup (λ k. pointwise nat_eq other (items k)) es))
      by true same rest =
          let p : items key ≡ items e.0 = (bytes_decides (items key) (items e.0)).0 same in
          put (pointwise nat_eq other (items key)) (pointwise nat_eq other (items e.0)) v e.1 (lookup (λ k. pointwise nat_eq other (items k)) es) (ap (pointwise nat_eq other) p)
      by false differ rest = rw rest (kept (pointwise nat_eq other (items key)) (pointwise nat_eq other (items e.0)) v e.1 (lookup (λ k. pointwise nat_eq other (items k)) es) (apart other (items key) (items e.0) differ))

-- a name that wasn't there has the member, and the others have what they had
pub noted_is : (name other : List ℕ) (member : Found) (old : List ℕ → Option Found) → old name ≡ None →
    cond (pointwise nat_eq other name) (Some member) (old other) ≡ noted (old other) name member other
noted_is name other member old none = by (bytes_eq name other) refl
  where
    first : (o : Option Found) → o ≡ first_of o None
    first None = refl
    first (Some found) = refl

    by : (b : Bool) → bytes_eq name other ≡ b → cond (pointwise nat_eq other name) (Some member) (old other) ≡ first_of (old other) (if b then Some member else None)
    by true same =
        let p : name ≡ other = (bytes_decides name other).0 same in
        let q : pointwise nat_eq other name ≡ true = (bytes_decides other name).1 (sym p) in
        let r : old other ≡ None = subst (λ x. old x ≡ None) p none in
        rw (q, r) refl
    by false differ = by_other (pointwise nat_eq other name) refl
      where
        by_other : (b : Bool) → pointwise nat_eq other name ≡ b → cond b (Some member) (old other) ≡ first_of (old other) None
        by_other true same =
            let p : other ≡ name = (bytes_decides other name).0 same in
            let q : bytes_eq name other ≡ true = (bytes_decides name other).1 (sym p) in
            absurd (clash (bytes_eq name other) q differ)
        by_other false e = first (old other)

pub none_of : (o : Option Found) → is_some o ≡ false → o ≡ None
none_of None e = refl
none_of (Some found) e = cc
