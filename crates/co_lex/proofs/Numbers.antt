use Rattle.std.proofs.Common.{◌≡◌, ℕ, ◌+◌, ◌-◌, ◌*◌, ◌<◌, ◌≤◌, false, nat_le, List, [], ◌∷◌, length, get_or, drop, None, refl, arith}
use Rattle.std.proofs.lemmas.Bool.Decides.{nat_tests}
use Rattle.std.proofs.lemmas.List.{at_drop_more}
use Rattle.co_lex.specs.Scan.{value_after, value_of, greatest}

value_after-least : (v : ℕ) (ds : List ℕ) → v ≤ value_after v ds
value_after-least v [] = omega arith
value_after-least v (d ∷ ds) = let h = value_after-least (10 * v + (d - 48)) ds in omega arith

above : (n : ℕ) → greatest < n → nat_le n greatest ≡ false
above n h = grind (arith, nat_tests)

too_large_from : (v : ℕ) (digits : List ℕ) (i w : ℕ) → i < length digits → greatest < 10 * w + (get_or digits i 0 - 48) → value_after w (drop i digits) ≡ v → greatest < v
too_large_from v digits i w within large e =
    let step : value_after w (drop i digits) ≡ value_after (10 * w + (get_or digits i 0 - 48)) (drop (i + 1) digits) = at_drop_more (value_after w) digits i 0 within in
    let least = value_after-least (10 * w + (get_or digits i 0 - 48)) (drop (i + 1) digits) in
    omega arith

pub too_large : (digits : List ℕ) (i w : ℕ) → i < length digits → greatest < 10 * w + (get_or digits i 0 - 48) → value_after w (drop i digits) ≡ value_after 0 digits → value_of digits ≡ None
too_large digits i w within large e = rw (above (value_after 0 digits) (too_large_from (value_after 0 digits) digits i w within large e)) refl
