-- The coroutine of a number, where one of the coroutines is changed or a new one is there.
use Rattle.std.proofs.Common.{◌≡◌, ℕ, zero, suc, ◌+◌, ◌≤◌, List, [], ◌∷◌, ◌++◌, Bool, true, false, Some, None, refl, sym, ap, ◌∙◌, arith, length}
use Rattle.std.proofs.lemmas.Bool.{eqb-false, eqb-true}
use Rattle.std.proofs.lemmas.Option.{none-some}
use Rattle.std.specs.Prelude.{◌==◌, if◌then◌else◌, slice_get, slice_set, Option}
use Rattle.co_meaning_data.specs.Frames.{Condition, Continuation, Coroutine, Running}
use Rattle.co_meaning_data.specs.Turn.{Local}
use Rattle.co_meaning_data.specs.Undefined.{numbered}
use Rattle.co_meaning_calls.specs.Coroutines.{conditioned, promised, promised_by, set_condition, with_coroutine}
use Rattle.co_meaning_balance.proofs.Alive.{condition-none, foreign}
use Rattle.co_meaning_balance.specs.Order.{frames_hold, frames_stray, is_other, lacks, one_more}
use Rattle.co_meaning_balance.specs.Places.{condition_alive, condition_holds, coroutine_alive, coroutine_tokens, frames_alive}
use Rattle.co_meaning_balance.proofs.CoroutinesOrder.{with_list}

set-here : (cs : List Coroutine) (i : ℕ) (new old : Coroutine) → slice_get cs i ≡ Some old → slice_get (slice_set cs i new) i ≡ Some new
set-here [] i new old e = absurd (none-some old e)
set-here (c ∷ cs) zero new old e = refl
set-here (c ∷ cs) (suc i) new old e = set-here cs i new old e

set-else : (cs : List Coroutine) (i j : ℕ) (new : Coroutine) → (i ≡ j → ⊥) → slice_get (slice_set cs i new) j ≡ slice_get cs j
set-else [] i j new apart = refl
set-else (c ∷ cs) zero zero new apart = absurd (apart refl)
set-else (c ∷ cs) zero (suc j) new apart = refl
set-else (c ∷ cs) (suc i) zero new apart = refl
set-else (c ∷ cs) (suc i) (suc j) new apart = set-else cs i j new (λ e. apart (ap (λ k. suc k) e))

join-here : (cs : List Coroutine) (c : Coroutine) → slice_get (cs ++ c ∷ []) (length cs) ≡ Some c
join-here [] c = refl
join-here (d ∷ cs) c = join-here cs c

join-none : (cs : List Coroutine) → slice_get cs (length cs) ≡ None
join-none [] = refl
join-none (d ∷ cs) = join-none cs

join-else : (cs : List Coroutine) (c : Coroutine) (j : ℕ) → (j ≡ length cs → ⊥) → slice_get (cs ++ c ∷ []) j ≡ slice_get cs j
join-else [] c zero apart = absurd (apart refl)
join-else [] c (suc j) apart = refl
join-else (d ∷ cs) c zero apart = refl
join-else (d ∷ cs) c (suc j) apart = join-else cs c j (λ e. apart (ap (λ k. suc k) e))

pub apart-more : (n m held : ℕ) → (n == m) ≡ false → one_more (Some n) m held ≡ held
apart-more n m held e = ap (λ b. if b then suc held else held) e

pub here-more : (n m held : ℕ) → (n == m) ≡ true → one_more (Some n) m held ≡ suc held
here-more n m held e = ap (λ b. if b then suc held else held) e

-- one more among others
pub more-among : (n m held others : ℕ) → one_more (Some n) m (held + others) ≡ one_more (Some n) m held + others
more-among n m held others = go (n == m)
  where
    go : (b : Bool) → (if b then suc (held + others) else held + others) ≡ (if b then suc held else held) + others
    go true = omega arith
    go false = refl

module _ (number item : ℕ) where
  -- the coroutine m is in another condition, if it is there
  pub record Moved (m : ℕ) (now : Condition) (l k : Local) : Type 0 where
    pub list : List Coroutine
    pub is : k ≡ with_list list l
    pub apart : (number ≡ m → ⊥) → numbered list number ≡ numbered l.shared.coroutines number
    pub here : number ≡ m → (c : Coroutine) → numbered l.shared.coroutines number ≡ Some c → (coroutine_tokens number item (numbered list number) ≡ condition_holds number item now) × (coroutine_alive number item (numbered list number) ≡ condition_alive number item now)

  with-apart : (n i : ℕ) (new : Coroutine) (cs : List Coroutine) → (n ≡ suc i → ⊥) → numbered (slice_set cs i new) n ≡ numbered cs n
  with-apart zero i new cs apart = refl
  with-apart (suc j) i new cs apart = set-else cs i j new (λ e. apart (ap (λ k. suc k) (sym e)))

  with-moved : (m : ℕ) (new old : Coroutine) (l : Local) → numbered l.shared.coroutines m ≡ Some old → Moved m new.condition l (with_coroutine m new l)
  with-moved zero new old l e = absurd (none-some old e)
  with-moved (suc i) new old l e =
      record {
        list = slice_set l.shared.coroutines i new;
        is = refl;
        apart = with-apart number i new l.shared.coroutines;
        here = λ same c found. let there = ap (numbered (slice_set l.shared.coroutines i new)) same ∙ set-here l.shared.coroutines i new old e in (ap (coroutine_tokens number item) there, ap (coroutine_alive number item) there);
      }

  conditioned-moved : (m : ℕ) (now : Condition) (l : Local) (o : Option Coroutine) → numbered l.shared.coroutines m ≡ o → Moved m now l (conditioned m now l o)
  conditioned-moved m now l None e =
      record { list = l.shared.coroutines; is = refl; apart = λ differ. refl; here = λ same c found. absurd (none-some c (sym e ∙ (sym (ap (numbered l.shared.coroutines) same) ∙ found))) }
  conditioned-moved m now l (Some c) e = with-moved m (record c { condition = now }) c l e

  pub set-moved : (m : ℕ) (now : Condition) (l : Local) → Moved m now l (set_condition m now l)
  set-moved m now l = conditioned-moved m now l (numbered l.shared.coroutines m) refl

  -- ---- the promise is told to the coroutine

  pub record Same (l k : Local) : Type 0 where
    pub list : List Coroutine
    pub is : k ≡ with_list list l
    pub tokens : coroutine_tokens number item (numbered list number) ≡ coroutine_tokens number item (numbered l.shared.coroutines number)
    pub alive : coroutine_alive number item (numbered list number) ≡ coroutine_alive number item (numbered l.shared.coroutines number)

  promised-same : (m y : ℕ) (l : Local) (o : Option Coroutine) → numbered l.shared.coroutines m ≡ o → Same l (promised m y l o)
  promised-same m y l None e = record { list = l.shared.coroutines; is = refl; tokens = refl; alive = refl }
  promised-same m y l (Some c) e = go (number == m) refl
    where
      moved : Moved m c.condition l (with_coroutine m (record c { promise = Some y }) l)
      moved = with-moved m (record c { promise = Some y }) c l e

      go : (b : Bool) → (number == m) ≡ b → Same l (with_coroutine m (record c { promise = Some y }) l)
      go true f =
          let same = eqb-true number m f in
          let found = ap (numbered l.shared.coroutines) same ∙ e in
          let both = moved.here same c found in
          record { list = moved.list; is = moved.is; tokens = both.0 ∙ sym (ap (coroutine_tokens number item) found); alive = both.1 ∙ sym (ap (coroutine_alive number item) found) }
      go false f =
          let same = moved.apart (eqb-false number m f) in
          record { list = moved.list; is = moved.is; tokens = ap (coroutine_tokens number item) same; alive = ap (coroutine_alive number item) same }

  pub promised_by-same : (y : ℕ) (l : Local) (o : Option ℕ) → Same l (promised_by y l o)
  promised_by-same y l None = record { list = l.shared.coroutines; is = refl; tokens = refl; alive = refl }
  promised_by-same y l (Some m) = promised-same m y l (numbered l.shared.coroutines m) refl

  -- ---- the next number is drawn

  pub draw : (cs : List Coroutine) (c : Coroutine) → c.condition ≡ Running 0 → (one_more (Some number) (suc (length cs)) (coroutine_tokens number item (numbered (cs ++ c ∷ []) number)) ≡ coroutine_tokens number item (numbered cs number)) × (coroutine_alive number item (numbered (cs ++ c ∷ []) number) ≡ coroutine_alive number item (numbered cs number))
  draw cs c running = go (number == suc (length cs)) refl
    where
      other : (n : ℕ) → (n ≡ suc (length cs) → ⊥) → numbered (cs ++ c ∷ []) n ≡ numbered cs n
      other zero differ = refl
      other (suc j) differ = join-else cs c j (λ e. differ (ap (λ k. suc k) e))

      go : (b : Bool) → (number == suc (length cs)) ≡ b → (one_more (Some number) (suc (length cs)) (coroutine_tokens number item (numbered (cs ++ c ∷ []) number)) ≡ coroutine_tokens number item (numbered cs number)) × (coroutine_alive number item (numbered (cs ++ c ∷ []) number) ≡ coroutine_alive number item (numbered cs number))
      go true f =
          let same = eqb-true number (suc (length cs)) f in
          let there = ap (numbered (cs ++ c ∷ [])) same ∙ join-here cs c in
          let before = ap (numbered cs) same ∙ join-none cs in
          let more = here-more number (suc (length cs)) (coroutine_tokens number item (numbered (cs ++ c ∷ []) number)) f in
          let none = ap (coroutine_tokens number item) there ∙ ap (condition_holds number item) running in
          let one = ap (coroutine_tokens number item) before in
          (omega (arith, more, none, one), ap (coroutine_alive number item) there ∙ (ap (condition_alive number item) running ∙ sym (ap (coroutine_alive number item) before)))
      go false f =
          let same = other number (eqb-false number (suc (length cs)) f) in
          let more = apart-more number (suc (length cs)) (coroutine_tokens number item (numbered (cs ++ c ∷ []) number)) f in
          (more ∙ ap (coroutine_tokens number item) same, ap (coroutine_alive number item) same)

  -- ---- a coroutine takes its frames back, or leaves them

  pub lacking : (held : ℕ) → lacks held ≤ 0 → 1 ≤ held
  lacking zero known = absurd (omega (arith, known))
  lacking (suc held) known = omega arith

  pub apart-other : (m : ℕ) → (number == m) ≡ false → 1 ≤ is_other (Some m) number
  apart-other m e = go (m == number) refl
    where
      go : (b : Bool) → (m == number) ≡ b → 1 ≤ (if b then 0 else 1)
      go true f = absurd (eqb-false number m e (sym (eqb-true m number f)))
      go false f = omega arith

  -- a coroutine without a frame that holds it is there, and keeps nothing alive
  pub found : (o : Option Coroutine) → coroutine_tokens number item o ≤ 0 → (c : Coroutine) × (o ≡ Some c) × (coroutine_alive number item o ≡ 0)
  found None none = absurd (omega (arith, none))
  found (Some c) none = (c, refl, condition-none number item c.condition none)

  pub taken : (m serial : ℕ) (c : Coroutine) (rest : Continuation) (l k : Local) → numbered l.shared.coroutines m ≡ Some c → condition_holds number item c.condition ≡ frames_hold (Some number) rest.frames → condition_alive number item c.condition ≡ frames_alive number item rest.frames → frames_stray (Some m) rest.frames ≤ 0 → (moved : Moved m (Running serial) l k)
      → (frames_hold (Some number) rest.frames + coroutine_tokens number item (numbered moved.list number) ≤ coroutine_tokens number item (numbered l.shared.coroutines number)) × (coroutine_alive number item (numbered l.shared.coroutines number) ≤ frames_alive number item rest.frames + coroutine_alive number item (numbered moved.list number))
  taken m serial c rest l k e holds alive order moved = go (number == m) refl
    where
      go : (b : Bool) → (number == m) ≡ b → (frames_hold (Some number) rest.frames + coroutine_tokens number item (numbered moved.list number) ≤ coroutine_tokens number item (numbered l.shared.coroutines number)) × (coroutine_alive number item (numbered l.shared.coroutines number) ≤ frames_alive number item rest.frames + coroutine_alive number item (numbered moved.list number))
      go true f =
          let same = eqb-true number m f in
          let there = ap (numbered l.shared.coroutines) same ∙ e in
          let both = moved.here same c there in
          let tokens = both.0 in
          let places = both.1 in
          let before = ap (coroutine_tokens number item) there in
          let kept = ap (coroutine_alive number item) there in
          (omega (arith, tokens, before, holds), omega (arith, places, kept, alive))
      go false f =
          let same = moved.apart (eqb-false number m f) in
          let none = foreign number item (Some m) rest.frames order (apart-other m f) in
          let tokens = ap (coroutine_tokens number item) same in
          let places = ap (coroutine_alive number item) same in
          (omega (arith, none, tokens), omega (arith, places))
