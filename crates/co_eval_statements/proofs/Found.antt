-- Handlers that are tried one after the other.
use Rattle.std.specs.Prelude.{◌≡◌, ℕ, zero, suc, ◌+◌, if◌then◌else◌, true, false, List, [], ◌∷◌, drop, length, slice_get, None, Some}
use Rattle.std.proofs.Common.{refl, ap, ◌≤◌, ◌∙◌, arith}
use Rattle.co_base.specs.declared.kinds.Thrown.{Thrown}
use Rattle.co_core_tree.specs.declared.stmts.Handler.{Handler}
use Rattle.co_meaning.specs.Statements.{catches, first_handler}

pub none_caught : (v : Thrown) (hs : List Handler) (at : ℕ) → length hs ≤ at → first_handler v (drop at hs) ≡ None
none_caught v [] zero past = refl
none_caught v [] (suc at) past = refl
none_caught v (h ∷ hs) zero past = absurd (omega (arith, past))
none_caught v (h ∷ hs) (suc at) past = none_caught v hs at (omega (arith, past))

pub is_first : (v : Thrown) (hs : List Handler) (at : ℕ) (h : Handler) → slice_get hs at ≡ Some h → catches h.of v ≡ true → first_handler v (drop at hs) ≡ slice_get hs at
is_first v [] at h e caught = cc
is_first v (g ∷ hs) zero h e caught =
    let same : g ≡ h = cc e in
    ap (λ (k : Handler). if catches k.of v then Some g else first_handler v hs) same ∙ ap (λ b. if b then Some g else first_handler v hs) caught
is_first v (g ∷ hs) (suc at) h e caught = is_first v hs at h e caught

pub is_other : (v : Thrown) (hs : List Handler) (at : ℕ) (h : Handler) → slice_get hs at ≡ Some h → catches h.of v ≡ false → first_handler v (drop at hs) ≡ first_handler v (drop (at + 1) hs)
is_other v [] at h e other = cc
is_other v (g ∷ hs) zero h e other =
    let same : g ≡ h = cc e in
    ap (λ (k : Handler). if catches k.of v then Some g else first_handler v hs) same ∙ ap (λ b. if b then Some g else first_handler v hs) other
is_other v (g ∷ hs) (suc at) h e other =
    let count : suc (at + 1) ≡ suc at + 1 = omega arith in
    is_other v hs at h e other ∙ ap (λ k. first_handler v (drop k (g ∷ hs))) count
