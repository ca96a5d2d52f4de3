-- The slot of the promise, sought from the first slot on.
use Rattle.std.specs.Prelude.{◌≡◌, ◌<◌, ◌≤◌, ℕ, suc, ◌+◌, ◌-◌, if◌then◌else◌, true, false, List, [], ◌∷◌, length, take, drop, get_or, None, Some}
use Rattle.std.proofs.Common.{refl, ap, ◌∙◌, arith}
use Rattle.co_core_tree.specs.declared.units.SlotInfo.{SlotInfo}
use Rattle.co_eval_reads.proofs.Rests.{one_off}
use Rattle.co_meaning_calls.specs.Coroutines.{is_promise_kind, promise_among}

pub promise_found : (at : ℕ) (rest : List SlotInfo) (slot : SlotInfo) → 1 ≤ length rest → slot ≡ get_or rest 0 slot → is_promise_kind slot.kind ≡ true → promise_among at rest ≡ Some at
promise_found at rest slot some is found =
    let tail = take (length rest - 1) (drop 1 rest) in
    ap (promise_among at) (one_off rest slot some is) ∙ ap (λ b. if b then Some at else promise_among (suc at) tail) found

pub promise_after : (at : ℕ) (rest : List SlotInfo) (slot : SlotInfo) → 1 ≤ length rest → slot ≡ get_or rest 0 slot → is_promise_kind slot.kind ≡ false →
    promise_among at rest ≡ promise_among (at + 1) (take (length rest - 1) (drop 1 rest))
promise_after at rest slot some is other =
    let tail = take (length rest - 1) (drop 1 rest) in
    let count : suc at ≡ at + 1 = omega arith in
    ap (promise_among at) (one_off rest slot some is) ∙ ap (λ b. if b then Some at else promise_among (suc at) tail) other ∙ ap (λ n. promise_among n tail) count

pub no_promise : (at : ℕ) (rest : List SlotInfo) → length rest < 1 → promise_among at rest ≡ None
no_promise at [] none = refl
no_promise at (slot ∷ rest) none = absurd (omega (arith, none))
