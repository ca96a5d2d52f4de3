use Rattle.std.proofs.Common.{◌≡◌, ℕ, ◌≤◌, Bool, true, false, ◌&&◌, cond, List, [], ◌∷◌, length, Option, Some, IfSome, refl, nat_lt, nat_eq, arith}
use Rattle.std.specs.List.{list_all, starts_with}
use Rattle.std.proofs.lemmas.Bool.Decides.{nat_tests}
use Rattle.co_lex.specs.declared.token.Mark.{Mark}
use Rattle.co_lex.specs.Table.{front, marks, mark_of}

both : (a b : Bool) → (a && b) ≡ true → (a ≡ true) × (b ≡ true)
both true b h = (refl, h)
both false b h = (h, absurd (cc))

chosen : (b : Bool) (n : ℕ) (m : Mark) (rest : Option (Mark × ℕ)) → 1 ≤ n → IfSome rest (λ k. 1 ≤ k.1) → IfSome (cond b (Some (m, n)) rest) (λ k. 1 ≤ k.1)
chosen true n m rest here there = here
chosen false n m rest here there = there

front-some : (ms : List (List ℕ × Mark)) (bytes : List ℕ) → list_all (λ m. nat_lt 0 (length m.0)) ms ≡ true → IfSome (front ms bytes) (λ m. 1 ≤ m.1)
front-some [] bytes h = tt
front-some (m ∷ ms) bytes h =
    let h2 = both (nat_lt 0 (length m.0)) (list_all (λ k. nat_lt 0 (length k.0)) ms) h in
    let here : 1 ≤ length m.0 = grind (arith, nat_tests) in
    chosen (starts_with nat_eq bytes m.0) (length m.0) m.1 (front ms bytes) here (front-some ms bytes h2.1)

pub mark_of-some : (bytes : List ℕ) → IfSome (mark_of bytes) (λ m. 1 ≤ m.1)
unfolding mark_of
mark_of-some bytes = front-some marks bytes refl
