-- How marks are counted one after the other.
use Rattle.std.specs.Prelude.{◌≡◌, ◌<◌, ◌≤◌, ℕ, suc, ◌+◌, ◌-◌, Bool, true, false, if◌then◌else◌, List, [], ◌∷◌, length, map, take, drop, get_or}
use Rattle.std.proofs.Common.{ap, ◌∙◌, arith}
use Rattle.co_eval_data.specs.Seen.{temporal_of}
use Rattle.co_eval_data.specs.declared.frames.Temporal.{Temporal}
use Rattle.co_eval_reads.proofs.Rests.{one_off}
use Rattle.co_meaning_calls.specs.Calls.{mark_count}

abbrev marks : List Temporal → ℕ
marks ts = mark_count (map temporal_of ts)

next_mark : (b : Bool) (n : ℕ) → b ≡ true → (if b then suc n else n) ≡ suc n
next_mark b n e = ap (λ c. if c then suc n else n) e

no_next_mark : (b : Bool) (n : ℕ) → b ≡ false → (if b then suc n else n) ≡ n
no_next_mark b n e = ap (λ c. if c then suc n else n) e

split : (t : Temporal) (rest : List Temporal) → 1 ≤ length rest → t ≡ get_or rest 0 t → marks rest ≡ (if t.marked then suc (marks (take (length rest - 1) (drop 1 rest))) else marks (take (length rest - 1) (drop 1 rest)))
split t rest some is = ap marks (one_off rest t some is)

pub marked_on : (count more whole : ℕ) (t : Temporal) (rest : List Temporal) → 1 ≤ length rest → t ≡ get_or rest 0 t → t.marked ≡ true → more ≡ count + 1 → count + mark_count (map temporal_of rest) ≡ whole →
    more + mark_count (map temporal_of (take (length rest - 1) (drop 1 rest))) ≡ whole
marked_on count more whole t rest some is marked e h =
    let n = marks (take (length rest - 1) (drop 1 rest)) in
    let s : marks rest ≡ suc n = split t rest some is ∙ next_mark t.marked n marked in
    omega (arith, s, e, h)

pub unmarked_on : (count whole : ℕ) (t : Temporal) (rest : List Temporal) → 1 ≤ length rest → t ≡ get_or rest 0 t → t.marked ≡ false → count + mark_count (map temporal_of rest) ≡ whole →
    count + mark_count (map temporal_of (take (length rest - 1) (drop 1 rest))) ≡ whole
unmarked_on count whole t rest some is unmarked h =
    let n = marks (take (length rest - 1) (drop 1 rest)) in
    let s : marks rest ≡ n = split t rest some is ∙ no_next_mark t.marked n unmarked in
    omega (arith, s, h)

pub no_marks : (count whole : ℕ) (rest : List Temporal) → length rest < 1 → count + mark_count (map temporal_of rest) ≡ whole → count ≡ whole
no_marks count whole [] none h = omega (arith, h)
no_marks count whole (t ∷ rest) none h = absurd (omega (arith, none))
