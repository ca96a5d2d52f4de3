-- What is said of spare blocks, at a list that is put together.
use Rattle.std.proofs.Common.{◌≡◌, ◌≢◌, ℕ, ◌+◌, ◌<◌, ◌≤◌, Bool, true, false, eqb, ltb, Some, None, List, [], ◌∷◌, ◌++◌, length, get_or, take, drop, ap, cond, append_assoc, arith, refl, sym, ◌∙◌}
use Rattle.std.proofs.lemmas.Bool.{eq-eqb, ne_eqb, lt-ltb, le-ltb, and_left, and_right, and_from, or_from, or_left, or_right, or_parts, not_from_true, not_from_false}
use Rattle.std.proofs.lemmas.List.{drop_more, take-append-drop}
use Rattle.co_words.specs.declared.links.Block.{Block}
use Rattle.co_words.specs.Storage.{has, is_last, newest_of, without, joined, group, given}
use Rattle.co_words.specs.Chains.{AllFrom}

-- each block has that size
abbrev pub AllOf : ℕ → List Block → Type 0
AllOf k [] = Unit {0}
AllOf k (b ∷ blocks) = (b.size ≡ k) × AllOf k blocks

pub all_of_push : (k : ℕ) (xs : List Block) (b : Block) → AllOf k xs → b.size ≡ k → AllOf k (xs ++ b ∷ [])
all_of_push k [] b h e = (e, tt)
all_of_push k (x ∷ xs) b h e = (h.0, all_of_push k xs b h.1 e)

pub from_of : (j k : ℕ) (xs ys : List Block) → AllOf k xs → j ≤ k → AllFrom j ys → AllFrom j (xs ++ ys)
from_of j k [] ys h le g = g
from_of j k (x ∷ xs) ys h le g = (omega (arith, h.0), from_of j k xs ys h.1 le g)

pub from_less : (j k : ℕ) (xs : List Block) → AllFrom k xs → j ≤ k → AllFrom j xs
from_less j k [] h le = tt
from_less j k (x ∷ xs) h le = (omega (arith, h.0), from_less j k xs h.1 le)

pub from_push : (k : ℕ) (xs : List Block) (b : Block) → AllFrom k xs → k ≤ b.size → AllFrom k (xs ++ b ∷ [])
from_push k [] b h e = (e, tt)
from_push k (x ∷ xs) b h e = (h.0, from_push k xs b h.1 e)

not_last : (s : ℕ) (b : Block) (xs : List Block) → b.size ≢ s → is_last s b xs ≡ false
not_last s b xs differs = and_left _ _ (ne_eqb b.size s differs)

not_yet : (s : ℕ) (b : Block) (xs : List Block) → has s xs ≡ true → is_last s b xs ≡ false
not_yet s b xs h = and_right _ _ (not_from_true _ h)

last_here : (s : ℕ) (b : Block) (xs : List Block) → b.size ≡ s → has s xs ≡ false → is_last s b xs ≡ true
last_here s b xs e h = and_from _ _ (eq-eqb b.size s e) (not_from_false _ h)

pub has_none : (s k : ℕ) (xs : List Block) → AllFrom k xs → s < k → has s xs ≡ false
has_none s k [] h lt = refl
has_none s k (b ∷ xs) h lt = or_from _ _ (ne_eqb b.size s (λ e. omega (arith, h.0))) (has_none s k xs h.1 lt)

pub newest_none : (s : ℕ) (xs : List Block) → has s xs ≡ false → newest_of s xs ≡ None
newest_none s [] h = refl
newest_none s (b ∷ xs) h =
    let parts = or_parts (eqb b.size s) (has s xs) h in
    rw (and_left _ _ parts.0) (newest_none s xs parts.1)

pub without_none : (s : ℕ) (xs : List Block) → has s xs ≡ false → without s xs ≡ xs
without_none s [] h = refl
without_none s (b ∷ xs) h =
    let parts = or_parts (eqb b.size s) (has s xs) h in
    rw (and_left _ _ parts.0) (ap (λ (l : List Block). b ∷ l) (without_none s xs parts.1))

pub has_skip : (s k : ℕ) (xs ys : List Block) → AllOf k xs → k ≢ s → has s (xs ++ ys) ≡ has s ys
has_skip s k [] ys h differs = refl
has_skip s k (b ∷ xs) ys h differs =
    rw (ne_eqb b.size s (λ e. differs (sym h.0 ∙ e))) (has_skip s k xs ys h.1 differs)

pub newest_skip : (s k : ℕ) (xs ys : List Block) → AllOf k xs → k ≢ s → newest_of s (xs ++ ys) ≡ newest_of s ys
newest_skip s k [] ys h differs = refl
newest_skip s k (b ∷ xs) ys h differs =
    rw (not_last s b (xs ++ ys) (λ e. differs (sym h.0 ∙ e))) (newest_skip s k xs ys h.1 differs)

pub without_skip : (s k : ℕ) (xs ys : List Block) → AllOf k xs → k ≢ s → without s (xs ++ ys) ≡ xs ++ without s ys
without_skip s k [] ys h differs = refl
without_skip s k (b ∷ xs) ys h differs =
    rw
    (not_last s b (xs ++ ys) (λ e. differs (sym h.0 ∙ e)))
    (ap (λ (l : List Block). b ∷ l) (without_skip s k xs ys h.1 differs))

has_at : (s : ℕ) (xs : List Block) (b : Block) (ys : List Block) → b.size ≡ s → has s (xs ++ b ∷ ys) ≡ true
has_at s [] b ys e = or_left _ _ (eq-eqb b.size s e)
has_at s (x ∷ xs) b ys e = or_right _ _ (has_at s xs b ys e)

pub newest_at : (s : ℕ) (xs : List Block) (b : Block) (ys : List Block) → b.size ≡ s → has s ys ≡ false → newest_of s (xs ++ b ∷ ys) ≡ Some b.place
newest_at s [] b ys e h = rw (last_here s b ys e h) refl
newest_at s (x ∷ xs) b ys e h = rw (not_yet s x (xs ++ b ∷ ys) (has_at s xs b ys e)) (newest_at s xs b ys e h)

pub without_at : (s : ℕ) (xs : List Block) (b : Block) (ys : List Block) → b.size ≡ s → has s ys ≡ false → without s (xs ++ b ∷ ys) ≡ xs ++ ys
without_at s [] b ys e h = rw (last_here s b ys e h) refl
without_at s (x ∷ xs) b ys e h =
    rw
    (not_yet s x (xs ++ b ∷ ys) (has_at s xs b ys e))
    (ap (λ (l : List Block). x ∷ l) (without_at s xs b ys e h))

pub joined_skip : (b : Block) (k : ℕ) (xs ys : List Block) → AllOf k xs → k ≤ b.size → joined b (xs ++ ys) ≡ xs ++ joined b ys
joined_skip b k [] ys h le = refl
joined_skip b k (x ∷ xs) ys h le =
    rw
    (le-ltb (group b.size) (group x.size) (omega (arith, h.0)))
    (ap (λ (l : List Block). x ∷ l) (joined_skip b k xs ys h.1 le))

pub joined_before : (b : Block) (ys : List Block) → AllFrom (b.size + 1) ys → b.size < 1025 → joined b ys ≡ b ∷ ys
joined_before b [] h small = refl
joined_before b (y ∷ ys) h small = rw (lt-ltb (group b.size) (group y.size) (omega (arith, h.0))) refl

pub joined_larger : (b : Block) (ys : List Block) → AllFrom 1025 ys → 1025 ≤ b.size → joined b ys ≡ ys ++ b ∷ []
joined_larger b [] h large = refl
joined_larger b (y ∷ ys) h large =
    rw
    (le-ltb (group b.size) (group y.size) (omega (arith, h.0)))
    (ap (λ (l : List Block). y ∷ l) (joined_larger b ys h.1 large))

pub length_joined : (b : Block) (ys : List Block) → length (joined b ys) ≡ length ys + 1
length_joined b [] = refl
length_joined b (y ∷ ys) = by_test (ltb (group b.size) (group y.size)) (length_joined b ys)
  where
    by_test : (t : Bool) → length (joined b ys) ≡ length ys + 1 → length (cond t (b ∷ (y ∷ ys)) (y ∷ joined b ys)) ≡ length (y ∷ ys) + 1
    by_test true e = omega arith
    by_test false e = omega arith

pub from_without : (s k : ℕ) (xs : List Block) → AllFrom k xs → AllFrom k (without s xs)
from_without s k [] h = tt
from_without s k (b ∷ xs) h = by_test (is_last s b xs) (from_without s k xs h.1)
  where
    by_test : (t : Bool) → AllFrom k (without s xs) → AllFrom k (cond t xs (b ∷ without s xs))
    by_test true rest = h.1
    by_test false rest = (h.0, rest)

pub length_without : (s p : ℕ) (xs : List Block) → newest_of s xs ≡ Some p → length (without s xs) + 1 ≡ length xs
length_without s p [] e = cc
length_without s p (b ∷ xs) e = by_test (is_last s b xs) e (length_without s p xs)
  where
    by_test : (t : Bool) → cond t (Some b.place) (newest_of s xs) ≡ Some p → (newest_of s xs ≡ Some p → length (without s xs) + 1 ≡ length xs) → length (cond t xs (b ∷ without s xs)) + 1 ≡ length (b ∷ xs)
    by_test true q rest = omega arith
    by_test false q rest = omega (arith, rest q)

pub newest_pushed : (s : ℕ) (xs : List Block) (b : Block) (ys : List Block) → b.size ≡ s → has s ys ≡ false → newest_of s ((xs ++ b ∷ []) ++ ys) ≡ Some b.place
newest_pushed s xs b ys e h = ap (newest_of s) (append_assoc xs (b ∷ []) ys) ∙ newest_at s xs b ys e h

pub without_pushed : (s : ℕ) (xs : List Block) (b : Block) (ys : List Block) → b.size ≡ s → has s ys ≡ false → without s ((xs ++ b ∷ []) ++ ys) ≡ xs ++ ys
without_pushed s xs b ys e h = ap (without s) (append_assoc xs (b ∷ []) ys) ∙ without_at s xs b ys e h

pub joined_pushed : (b : Block) (xs ys : List Block) → AllOf b.size xs → AllFrom (b.size + 1) ys → b.size < 1025 → joined b (xs ++ ys) ≡ (xs ++ b ∷ []) ++ ys
joined_pushed b xs ys h above small =
    joined_skip b b.size xs ys h (omega arith)
    ∙ ap (λ (l : List Block). xs ++ l) (joined_before b ys above small)
    ∙ sym (append_assoc xs (b ∷ []) ys)

-- at the last block of that size
pub split_at : (xs : List Block) (n : ℕ) (d : Block) → n < length xs → xs ≡ take n xs ++ get_or xs n d ∷ drop (n + 1) xs
split_at xs n d low = sym (take-append-drop n xs) ∙ ap (λ (l : List Block). take n xs ++ l) (drop_more xs n d low)

pub newest_last : (s : ℕ) (xs : List Block) (n : ℕ) (d : Block) → n < length xs → (get_or xs n d).size ≡ s → has s (drop (n + 1) xs) ≡ false → newest_of s xs ≡ Some (get_or xs n d).place
newest_last s xs n d low e h =
    ap (newest_of s) (split_at xs n d low) ∙ newest_at s (take n xs) (get_or xs n d) (drop (n + 1) xs) e h

pub without_last : (s : ℕ) (xs : List Block) (n : ℕ) (d : Block) → n < length xs → (get_or xs n d).size ≡ s → has s (drop (n + 1) xs) ≡ false → without s xs ≡ take n xs ++ drop (n + 1) xs
without_last s xs n d low e h =
    ap (without s) (split_at xs n d low) ∙ without_at s (take n xs) (get_or xs n d) (drop (n + 1) xs) e h

pub given_full : (b : Block) (xs : List Block) → 4096 ≤ length xs → given b xs ≡ xs
given_full b xs full = rw (le-ltb (length xs) 4096 full) refl

pub given_room : (b : Block) (xs : List Block) → length xs < 4096 → given b xs ≡ joined b xs
given_room b xs room = rw (lt-ltb (length xs) 4096 room) refl

pub without_absent : (s : ℕ) (xs : List Block) → newest_of s xs ≡ None → without s xs ≡ xs
without_absent s [] e = refl
without_absent s (b ∷ xs) e = by_test (is_last s b xs) e (without_absent s xs)
  where
    by_test : (t : Bool) → cond t (Some b.place) (newest_of s xs) ≡ None → (newest_of s xs ≡ None → without s xs ≡ xs) → cond t xs (b ∷ without s xs) ≡ b ∷ xs
    by_test true q rest = cc
    by_test false q rest = ap (λ (l : List Block). b ∷ l) (rest q)
