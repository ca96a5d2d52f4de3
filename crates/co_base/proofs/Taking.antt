-- Steps of the loops over a file's reads and a sink's writes.
use Rattle.std.proofs.Common.{◌≡◌, ℕ, zero, suc, ◌+◌, ◌-◌, ◌≤◌, List, [], ◌∷◌, ◌++◌, length, take, drop, refl, ap, sym, subst, append-nil, append_assoc, ◌∙◌, arith, length-append, length-drop, zero-add}
use Rattle.std.specs.Prelude.{Option, Some, None}
use Rattle.std.proofs.lemmas.List.{length-take-le, take_all, take-append-le}
use Rattle.std.proofs.Math.Seq.{take-append-add, take-nil}
use Rattle.co_base.specs.Outside.{HoldsFirst, Reads, Takes, TakesFront}

pub Takes-append : (a b c : Option (List ℕ)) (xs ys : List ℕ) → Takes a xs b → Takes b ys c → Takes a (xs ++ ys) c
Takes-append None b c xs ys h k = tt
Takes-append (Some bytes) b c xs ys h k =
    let P : Option (List ℕ) → Type 0 = λ o. Takes o ys c in
    let at_some : Takes (Some (bytes ++ xs)) ys c = subst P h k in
    at_some ∙ ap (λ (zs : List ℕ). Some zs) (append_assoc bytes xs ys)

pub Takes-nil : (a : Option (List ℕ)) → Takes a [] a
Takes-nil None = tt
Takes-nil (Some bytes) = ap (λ (zs : List ℕ). Some zs) (sym (append-nil bytes))

-- all of a piece and then the front of the next
pub TakesFront-append : (a b c : Option (List ℕ)) (xs ys : List ℕ) → Takes a xs b → TakesFront b ys c → TakesFront a (xs ++ ys) c
TakesFront-append a b c xs ys h (n, within, k) =
    (length xs + n, omega (arith, within, length-append xs ys), rw (take-append-add xs ys n) (Takes-append a b c xs (take n ys) h k))

-- the front of a piece, and nothing of the next
pub TakesFront-more : (a b : Option (List ℕ)) (xs ys : List ℕ) → TakesFront a xs b → TakesFront a (xs ++ ys) b
TakesFront-more a b xs ys (n, within, k) =
    (n, omega (arith, within, length-append xs ys), rw (take-append-le n xs ys within) k)

pub take-plus : (n m : ℕ) (xs : List ℕ) → take n xs ++ take m (drop n xs) ≡ take (n + m) xs
take-plus zero m xs = rw zero-add refl
take-plus (suc n) m [] = let e : suc n + m ≡ suc (n + m) = omega arith in rw (e, take-nil {A = ℕ}) refl
take-plus (suc n) m (x ∷ xs) = let e : suc n + m ≡ suc (n + m) = omega arith in rw e (ap (λ (ys : List ℕ). x ∷ ys) (take-plus n m xs))

-- the front of the rest of a piece joins the front that was taken before
pub take-rest : (n m : ℕ) (xs : List ℕ) → take n xs ++ take m (take (length xs - n) (drop n xs)) ≡ take (n + m) xs
take-rest n m xs =
    let e : take (length xs - n) (drop n xs) ≡ drop n xs = take_all _ _ (omega (arith, length-drop n xs)) in
    rw e (take-plus n m xs)

pub length-front : (m : ℕ) (xs ys : List ℕ) → m ≤ length xs → length (take m (xs ++ ys)) ≡ m
length-front m xs ys h = length-take-le m (xs ++ ys) (omega (arith, h, length-append xs ys))

-- one read more joins what was read before
pub read_more : (now first : List ℕ → Option (List ℕ)) (name : List ℕ) (at n m n' : ℕ) (xs ys into rest : List ℕ)
    → now ≡ first → HoldsFirst (first name) n xs → Reads (now name) at m into → at ≡ n → m ≤ length into
    → ys ≡ xs ++ take m (into ++ rest) → n' ≡ n + m → HoldsFirst (first name) n' ys
read_more now first name at n m n' xs ys into rest same before read at_end within joined count =
    let P : (List ℕ → Option (List ℕ)) → Type 0 = λ f. Reads (f name) at m into in
    rw count (joins (first name) n m xs ys into rest before (rw (← at_end) (subst P same read)) within joined)
  where
    joins : (told : Option (List ℕ)) (n m : ℕ) (xs ys into rest : List ℕ) → HoldsFirst told n xs → Reads told n m into
        → m ≤ length into → ys ≡ xs ++ take m (into ++ rest) → HoldsFirst told (n + m) ys
    joins None n m xs ys into rest before read within joined = tt
    joins (Some file) n m xs ys into rest before read within joined =
        let front : take m (into ++ rest) ≡ take m into = take-append-le m into rest within in
        rw (joined, front, read.0, before) (take-plus n m file)
