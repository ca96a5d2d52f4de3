-- Cells that are set one after another.
use Rattle.std.proofs.Common.{◌≡◌, ℕ, zero, suc, ◌≤◌, ◌<◌, ◌+◌, ◌-◌, add-one, List, [], ◌∷◌, length, refl, ap, ◌∙◌, arith}
use Rattle.std.proofs.lemmas.List.{set_past}
use Rattle.std.specs.Prelude.{slice_set}
use Rattle.co_meaning_data.specs.declared.values.Cell.{Cell}
use Rattle.co_meaning_data.specs.declared.values.Cell.TheVariants as cell
use Rattle.co_meaning_data.specs.Store.{all_outside, set_cells}

-- nothing is set past the end
pub past_end : (n count : ℕ) (c : Cell) (cells : List Cell) → length cells ≤ n → set_cells n count c cells ≡ cells
past_end n zero c cells past = refl
past_end n (suc count) c cells past = ap (λ l. set_cells (suc n) count c l) (set_past cells n c past) ∙ past_end (suc n) count c cells (omega arith)

pub step : (n total : ℕ) (c : Cell) (cells : List Cell) → n < total → set_cells (n + 1) (total - (n + 1)) c (slice_set cells n c) ≡ set_cells n (total - n) c cells
step n total c cells within =
    let e : total - n ≡ suc (total - (n + 1)) = omega arith in
    rw (e, add-one) refl

pub none_left : (n total : ℕ) (c : Cell) (cells : List Cell) → total ≤ n → set_cells n (total - n) c cells ≡ cells
none_left n total c cells past =
    let e : total - n ≡ 0 = omega arith in
    rw e refl

pub set_under : (n count : ℕ) (c d : Cell) (cells : List Cell) → set_cells (suc n) count c (d ∷ cells) ≡ d ∷ set_cells n count c cells
set_under n zero c d cells = refl
set_under n (suc count) c d cells = set_under (suc n) count c d (slice_set cells n c)

pub outside : (cells : List Cell) → set_cells 0 (length cells) cell.Outside cells ≡ all_outside cells
outside [] = refl
outside (d ∷ cells) = set_under 0 (length cells) cell.Outside cell.Outside cells ∙ ap (λ l. cell.Outside ∷ l) (outside cells)

pub nothing_left : (copies : List Cell) (n : ℕ) (c : Cell) (cells : List Cell) → copies ≡ [] → set_cells n (length copies) c cells ≡ cells
nothing_left copies n c cells e = rw e refl
