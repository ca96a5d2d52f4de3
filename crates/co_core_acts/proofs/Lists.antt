-- The visits of lists of acts, and the awaits among them.
use Rattle.std.specs.Prelude.{◌≡◌, ℕ, Bool, true, false, ◌||◌, cond, List, [], ◌∷◌, ◌++◌, Option, None, Some, slice_get, zero, suc}
use Rattle.std.specs.List.{list_any}
use Rattle.std.proofs.Common.{refl, ap, sym, ◌∙◌, drop}
use Rattle.std.proofs.lemmas.List.Folds.{list_any-append}
use Rattle.co_base.specs.declared.ids.SlotId.{SlotId}
use Rattle.co_core_tree.specs.declared.units.CoreFunc.{CoreFunc}
use Rattle.co_core_tree.specs.Acts.{Act, Keeps, Part, first, is_suspension, kept, others, suspends}
use Rattle.co_core_tree.specs.Slots.{class_slots, holds_class, slot_at}
use Rattle.co_core_acts.specs.declared.visitor.Awaits.{Awaits}
use Rattle.co_core_acts.specs.Visits.{awaits_in_new, awaits_of, back, joined}

-- ---- visits

pub append_nil : (xs : List Act) → xs ++ [] ≡ xs
append_nil [] = refl
append_nil (x ∷ xs) = ap (λ l. x ∷ l) (append_nil xs)

pub append_assoc : (xs ys zs : List Act) → (xs ++ ys) ++ zs ≡ xs ++ (ys ++ zs)
append_assoc [] ys zs = refl
append_assoc (x ∷ xs) ys zs = ap (λ l. x ∷ l) (append_assoc xs ys zs)

pub back_append : {V : Type 0} → (after : V → Act → V) (v : V) (xs ys : List Act) → back after v (xs ++ ys) ≡ back after (back after v ys) xs
back_append after v [] ys = refl
back_append after v (x ∷ xs) ys = ap (λ w. after w x) (back_append after v xs ys)

pub kept_back : {V : Type 0} → (after : V → Act → V) (v : V) (part : Part) (xs ys : List Act) →
    back after v (xs ++ kept part ys) ≡ back after (cond (suspends ys) (after (back after v ys) (Keeps part)) (back after v ys)) xs
kept_back after v part xs ys = back_append after v xs (kept part ys) ∙ ap (λ w. back after w xs) (by_await (suspends ys))
  where
    by_await : (b : Bool) → back after v (cond b (Keeps part ∷ ys) ys) ≡ cond b (after (back after v ys) (Keeps part)) (back after v ys)
    by_await true = refl
    by_await false = refl

pub kept_end : {V : Type 0} → (after : V → Act → V) (v v1 v2 : V) (part : Part) (xs ys : List Act) (a : Act) (b : Bool) →
    b ≡ suspends ys → v1 ≡ back after v (ys ++ a ∷ []) → v2 ≡ back after (cond b (after v1 (Keeps part)) v1) xs → v2 ≡ back after v (xs ++ (kept part ys ++ a ∷ []))
kept_end after v v1 v2 part xs ys a b e m1 m2 =
    m2
    ∙ ap (λ c. back after (cond c (after v1 (Keeps part)) v1) xs) e
    ∙ ap (λ u. back after (cond (suspends ys) (after u (Keeps part)) u) xs) (m1 ∙ back_append after v ys (a ∷ []))
    ∙ sym (kept_back after (back after v (a ∷ [])) part xs ys)
    ∙ sym (back_append after v (xs ++ kept part ys) (a ∷ []))
    ∙ ap (back after v) (append_assoc xs (kept part ys) (a ∷ []))

-- ---- awaits

abbrev pub no_awaits : Awaits
no_awaits = record { any = false; in_new = false }

or_false : (b : Bool) → (b || false) ≡ b
or_false true = refl
or_false false = refl

or_true : (b : Bool) → (b || true) ≡ true
or_true true = refl
or_true false = refl

pub joined_none : (a : Awaits) → joined a no_awaits ≡ a
joined_none a = ap (λ (b : Bool). record { any = b; in_new = a.in_new || false }) (or_false a.any) ∙ ap (λ (b : Bool). record { any = a.any; in_new = b }) (or_false a.in_new)

module _ (funcs : List CoreFunc) where
  pub awaits_append : (xs ys : List Act) → awaits_of funcs (xs ++ ys) ≡ joined (awaits_of funcs xs) (awaits_of funcs ys)
  awaits_append xs ys =
      ap (λ (b : Bool). record { any = b; in_new = list_any (awaits_in_new funcs) (xs ++ ys) }) (list_any-append is_suspension xs ys)
      ∙ ap (λ (b : Bool). record { any = suspends xs || suspends ys; in_new = b }) (list_any-append (awaits_in_new funcs) xs ys)

  -- an act that neither awaits nor has an await in its `New`
  pub silent : (xs : List Act) (a : Act) → awaits_of funcs (a ∷ []) ≡ no_awaits → awaits_of funcs (xs ++ a ∷ []) ≡ awaits_of funcs xs
  silent xs a e = awaits_append xs (a ∷ []) ∙ ap (joined (awaits_of funcs xs)) e ∙ joined_none (awaits_of funcs xs)

  pub silent_two : (xs ys : List Act) (a : Act) → awaits_of funcs (a ∷ []) ≡ no_awaits → awaits_of funcs (xs ++ (ys ++ a ∷ [])) ≡ joined (awaits_of funcs xs) (awaits_of funcs ys)
  silent_two xs ys a e = awaits_append xs (ys ++ a ∷ []) ∙ ap (joined (awaits_of funcs xs)) (silent ys a e)

  pub silent_three : (xs ys zs : List Act) (a : Act) → awaits_of funcs (a ∷ []) ≡ no_awaits → awaits_of funcs (xs ++ (ys ++ (zs ++ a ∷ []))) ≡ joined (awaits_of funcs xs) (joined (awaits_of funcs ys) (awaits_of funcs zs))
  silent_three xs ys zs a e = awaits_append xs (ys ++ (zs ++ a ∷ [])) ∙ ap (joined (awaits_of funcs xs)) (silent_two ys zs a e)

  -- what is kept awaits nothing
  pub awaits_kept : (part : Part) (ys : List Act) → awaits_of funcs (kept part ys) ≡ awaits_of funcs ys
  awaits_kept part ys = by_await (suspends ys)
    where
      by_await : (b : Bool) → awaits_of funcs (cond b (Keeps part ∷ ys) ys) ≡ awaits_of funcs ys
      by_await true = refl
      by_await false = refl

  pub silent_kept : (xs : List Act) (part : Part) (ys : List Act) (a : Act) → awaits_of funcs (a ∷ []) ≡ no_awaits → awaits_of funcs (xs ++ (kept part ys ++ a ∷ [])) ≡ joined (awaits_of funcs xs) (awaits_of funcs ys)
  silent_kept xs part ys a e = silent_two xs (kept part ys) a e ∙ ap (joined (awaits_of funcs xs)) (awaits_kept part ys)

  pub suspending : (xs : List Act) (a : Act) → awaits_of funcs (a ∷ []) ≡ record { any = true; in_new = false } → awaits_of funcs (xs ++ a ∷ []) ≡ record { any = true; in_new = (awaits_of funcs xs).in_new }
  suspending xs a e =
      awaits_append xs (a ∷ []) ∙ ap (joined (awaits_of funcs xs)) e
      ∙ ap (λ (b : Bool). record { any = b; in_new = (awaits_of funcs xs).in_new || false }) (or_true (suspends xs))
      ∙ ap (λ (b : Bool). record { any = true; in_new = b }) (or_false (awaits_of funcs xs).in_new)

  pub allocating : (xs : List Act) (a : Act) (b : Bool) → awaits_of funcs (a ∷ []) ≡ record { any = false; in_new = b || false } → awaits_of funcs (xs ++ a ∷ []) ≡ record { any = suspends xs; in_new = (awaits_of funcs xs).in_new || b }
  allocating xs a b e =
      awaits_append xs (a ∷ []) ∙ ap (joined (awaits_of funcs xs)) e
      ∙ ap (λ (d : Bool). record { any = d; in_new = (awaits_of funcs xs).in_new || (b || false) }) (or_false (suspends xs))
      ∙ ap (λ (d : Bool). record { any = suspends xs; in_new = (awaits_of funcs xs).in_new || d }) (or_false b)

-- ---- lists

pub plan_end : (a b c d : List Act) (x : Act) → a ++ (b ++ (c ++ (d ++ x ∷ []))) ≡ (a ++ (b ++ (c ++ d))) ++ x ∷ []
plan_end a b c d x = sym (append_assoc a (b ++ (c ++ d)) (x ∷ []) ∙ ap (λ l. a ++ l) (append_assoc b (c ++ d) (x ∷ []) ∙ ap (λ l. b ++ l) (append_assoc c d (x ∷ []))))

pub others_drop : (flags : List Bool) → others flags ≡ drop 1 flags
others_drop [] = refl
others_drop (flag ∷ flags) = refl

-- the flag of the parameter of a number
pub others_more : (k : ℕ) (flags : List Bool) → others (drop k flags) ≡ drop (suc k) flags
others_more zero flags = others_drop flags
others_more (suc k) [] = refl
others_more (suc k) (flag ∷ flags) = others_more k flags

abbrev holds_at : CoreFunc → Option SlotId → Bool
holds_at func None = false
holds_at func (Some slot) = holds_class (slot_at func slot)

pub flag_at : (func : CoreFunc) (slots : List SlotId) (k : ℕ) (param : Option SlotId) → param ≡ slice_get slots k → first (drop k (class_slots func slots)) ≡ holds_at func param
flag_at func [] zero param e = ap (holds_at func) (sym e)
flag_at func [] (suc k) param e = ap (holds_at func) (sym e)
flag_at func (slot ∷ slots) zero param e = ap (holds_at func) (sym e)
flag_at func (slot ∷ slots) (suc k) param e = flag_at func slots k param e
