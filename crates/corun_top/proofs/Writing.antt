-- What several writes come to.
use Rattle.std.proofs.Common.{◌≡◌, ℕ, suc, ◌+◌, ◌<◌, List, [], ◌∷◌, ◌++◌, length, take, drop, ap, sym, subst, append-nil, ◌∙◌, arith, length-append, get_or}
use Rattle.std.specs.Prelude.{flat_map, ℤ}
use Rattle.std.proofs.lemmas.List.{take-append-le, take-append-drop, take_more}
use Rattle.std.proofs.lemmas.Grind.{flat_map-append}
use Rattle.co_base.specs.Outside.{HasRisen, Takes}
use Rattle.co_base.proofs.Taking.{Takes-append}
use Rattle.corun_top.specs.Written.{Tape, Gained, Broke}

pub gained_more : (xs ys : List ℕ) (a b c : Tape) → Gained xs a b → Gained ys b c → Gained (xs ++ ys) a c
gained_more xs ys a b c g h = record {
  whole = Takes-append a.taken b.taken c.taken xs ys g.whole h.whole;
  faultless = h.faultless ∙ g.faultless;
}

-- a front of the first text is a front of both together
pub broke_first : (xs ys : List ℕ) (a b : Tape) → Broke xs a b → Broke (xs ++ ys) a b
broke_first xs ys a b g = record {
  front =
      let P : List ℕ → Type 0 = λ z. Takes a.taken z b.taken in
      (g.front.0, omega (arith, length-append xs ys, g.front.1), subst P (sym (take-append-le g.front.0 xs ys g.front.1)) g.front.2);
  risen = g.risen;
}

take_past : (xs ys : List ℕ) (n : ℕ) → take (length xs + n) (xs ++ ys) ≡ xs ++ take n ys
take_past [] ys n = let e : length {A = ℕ} [] + n ≡ n = omega arith in ap (λ k. take k ys) e
take_past (x ∷ xs) ys n =
    let e : length (x ∷ xs) + n ≡ suc (length xs + n) = omega arith in
    ap (λ k. take k (x ∷ (xs ++ ys))) e ∙ ap (λ (zs : List ℕ). x ∷ zs) (take_past xs ys n)

-- the first text whole, and then a front of the second
pub broke_second : (xs ys : List ℕ) (a b c : Tape) → Gained xs a b → Broke ys b c → Broke (xs ++ ys) a c
broke_second xs ys a b c g h = record {
  front =
      let P : List ℕ → Type 0 = λ z. Takes a.taken z c.taken in (
        length xs + h.front.0,
        omega (arith, length-append xs ys, h.front.1),
        subst P (sym (take_past xs ys h.front.0)) (Takes-append a.taken b.taken c.taken xs (take h.front.0 ys) g.whole h.front.2),
      );
  risen = let P : ℕ → Type 0 = λ n. HasRisen n c.faults in subst P g.faultless h.risen;
}

-- the text of the first i + 1 elements is that of the first i and of one more
text_more : (f : ℤ → List ℕ) (xs : List ℤ) (i : ℕ) (d : ℤ) → i < length xs → flat_map f (take (i + 1) xs) ≡ flat_map f (take i xs) ++ f (get_or xs i d)
text_more f xs i d less =
    ap (flat_map f) (take_more xs i d less) ∙ flat_map-append f (take i xs) (get_or xs i d ∷ []) ∙ ap (λ (ys : List ℕ). flat_map f (take i xs) ++ ys) (append-nil (f (get_or xs i d)))

pub prints_more : (f : ℤ → List ℕ) (xs : List ℤ) (i : ℕ) (d : ℤ) (line : List ℕ) (a b c : Tape) → i < length xs → line ≡ f (get_or xs i d) → Gained (flat_map f (take i xs)) a b → Gained line b c → Gained (flat_map f (take (i + 1) xs)) a c
prints_more f xs i d line a b c less is g h =
    let P : List ℕ → Type 0 = λ t. Gained t a c in
    let Q : List ℕ → Type 0 = λ t. Gained t b c in
    subst P (sym (text_more f xs i d less)) (gained_more (flat_map f (take i xs)) (f (get_or xs i d)) a b c g (subst Q is h))

-- the text of a front, and that of the rest
text_front : (f : ℤ → List ℕ) (xs : List ℤ) (i : ℕ) → flat_map f (take i xs) ++ flat_map f (drop i xs) ≡ flat_map f xs
text_front f xs i = sym (flat_map-append f (take i xs) (drop i xs)) ∙ ap (flat_map f) (take-append-drop i xs)

pub prints_broke : (f : ℤ → List ℕ) (xs : List ℤ) (i : ℕ) (d : ℤ) (line : List ℕ) (a b c : Tape) → i < length xs → line ≡ f (get_or xs i d) → Gained (flat_map f (take i xs)) a b → Broke line b c → Broke (flat_map f xs) a c
prints_broke f xs i d line a b c less is g h =
    let R : List ℕ → Type 0 = λ t. Broke t b c in
    let P : List ℕ → Type 0 = λ t. Broke t a c in
    let Q : List ℕ → Type 0 = λ t. Broke (t ++ flat_map f (drop (i + 1) xs)) a c in
    subst P (text_front f xs (i + 1))
    (subst Q (sym (text_more f xs i d less)) (broke_first _ _ a c (broke_second (flat_map f (take i xs)) (f (get_or xs i d)) a b c g (subst R is h))))
