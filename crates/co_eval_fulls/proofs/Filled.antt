-- What is written of the temporaries of acts, where there is room for all of them.
use Rattle.std.specs.Prelude.{◌≡◌, ◌<◌, suc, ◌+◌, Bool, true, false, nat_lt, if◌then◌else◌, List, [], ◌∷◌, ◌++◌, length, map, take, slice_set, Option}
use Rattle.std.specs.Option.{option_copied}
use Rattle.std.proofs.Common.{refl, ap, sym, ◌∙◌, arith}
use Rattle.std.proofs.Math.Seq.{take-length, take-suc-set}
use Rattle.std.proofs.lemmas.Bool.{false≢true, ltb-true}
use Rattle.std.proofs.lemmas.List.{map-append}
use Rattle.co_core_acts.specs.Visits.{back}
use Rattle.co_core_tree.specs.Acts.{Act, Does, Keeps, Passes, Starts}
use Rattle.co_core_tree.specs.declared.exprs.CoreExpr.{CoreExpr}
use Rattle.co_core_tree.specs.declared.exprs.CoreExpr.TheVariants as expr
use Rattle.co_core_tree.specs.declared.units.CoreFunc.{CoreFunc}
use Rattle.co_eval_data.specs.Seen.{temporal_of}
use Rattle.co_eval_data.specs.declared.frames.Temporal.{Temporal}
use Rattle.co_eval_fulls.specs.Unmade.{expr_after, unmade_after, unmade_as, unmade_of, written_after}
use Rattle.co_eval_fulls.specs.declared.temporals.Unmade.{Unmade}
use Rattle.co_meaning_data.specs.Frames as meaning

-- the temporaries that are written, as the meaning has them
abbrev written : Unmade → List meaning.Temporal
written s = map temporal_of (take s.next s.written)

abbrev write_if : Bool → Unmade → Temporal → Unmade
write_if b s t = if b then record s { written = slice_set s.written s.next t; next = s.next + 1 } else record s { fits = false }

same_func : (b : Bool) (s : Unmade) (t : Temporal) → (write_if b s t).func ≡ s.func
same_func true s t = refl
same_func false s t = refl

fit_before : (b : Bool) (s : Unmade) (t : Temporal) → (write_if b s t).fits ≡ true → s.fits ≡ true
fit_before true s t on = on
fit_before false s t on = absurd (false≢true on)

one_written : (s : Unmade) (t : Temporal) → s.next < length s.written → written (write_if true s t) ≡ written s ++ temporal_of t ∷ []
one_written s t room =
    let n : s.next + 1 ≡ suc s.next = omega arith in
    ap (λ k. map temporal_of (take k (slice_set s.written s.next t))) n
    ∙ ap (map temporal_of) (take-suc-set s.written s.next t room)
    ∙ map-append temporal_of (take s.next s.written) (t ∷ [])

written_if : (b : Bool) (s : Unmade) (t : Temporal) → nat_lt s.next (length s.written) ≡ b → (write_if b s t).fits ≡ true → written (write_if b s t) ≡ written s ++ temporal_of t ∷ []
written_if true s t e on = one_written s t (ltb-true s.next (length s.written) e)
written_if false s t e on = absurd (false≢true on)

written_more : (s : Unmade) (t : Temporal) → (written_after s t).fits ≡ true → written (written_after s t) ≡ written s ++ temporal_of t ∷ []
written_more s t on = written_if (nat_lt s.next (length s.written)) s t refl on

-- ---- acts

expr_func : (s : Unmade) (c : Bool) (e : CoreExpr) → (expr_after s c e).func ≡ s.func
expr_func s c (expr.Temp' slot n i at) = same_func (nat_lt s.next (length s.written)) s (unmade_as (option_copied s.func) slot c)
expr_func s c e = refl

act_func : (s : Unmade) (a : Act) → (unmade_after s a).func ≡ s.func
act_func s (Does c e) = expr_func s c e
act_func s (Passes e) = refl
act_func s (Starts i) = refl
act_func s (Keeps part) = refl

all_func : (s : Unmade) (list : List Act) → (back unmade_after s list).func ≡ s.func
all_func s [] = refl
all_func s (a ∷ list) = act_func (back unmade_after s list) a ∙ all_func s list

expr_fits : (s : Unmade) (c : Bool) (e : CoreExpr) → (expr_after s c e).fits ≡ true → s.fits ≡ true
expr_fits s c (expr.Temp' slot n i at) on = fit_before (nat_lt s.next (length s.written)) s (unmade_as (option_copied s.func) slot c) on
expr_fits s c e on = on

act_fits : (s : Unmade) (a : Act) → (unmade_after s a).fits ≡ true → s.fits ≡ true
act_fits s (Does c e) on = expr_fits s c e on
act_fits s (Passes e) on = on
act_fits s (Starts i) on = on
act_fits s (Keeps part) on = on

expr_written : (func : Option CoreFunc) (s : Unmade) (c : Bool) (e : CoreExpr) (list : List Act) → option_copied s.func ≡ func → (expr_after s c e).fits ≡ true → written s ≡ unmade_of func list →
    written (expr_after s c e) ≡ unmade_of func (Does c e ∷ list)
expr_written func s c (expr.Temp' slot n i at) list same on h =
    written_more s (unmade_as (option_copied s.func) slot c) on
    ∙ ap (λ f. written s ++ temporal_of (unmade_as f slot c) ∷ []) same
    ∙ ap (λ l. l ++ temporal_of (unmade_as func slot c) ∷ []) h
expr_written func s c e list same on h = h

act_written : (func : Option CoreFunc) (s : Unmade) (a : Act) (list : List Act) → option_copied s.func ≡ func → (unmade_after s a).fits ≡ true → written s ≡ unmade_of func list →
    written (unmade_after s a) ≡ unmade_of func (a ∷ list)
act_written func s (Does c e) list same on h = expr_written func s c e list same on h
act_written func s (Passes e) list same on h = h
act_written func s (Starts i) list same on h = h
act_written func s (Keeps part) list same on h = h

all_written : (s : Unmade) (list : List Act) → s.next ≡ 0 → (back unmade_after s list).fits ≡ true → written (back unmade_after s list) ≡ unmade_of (option_copied s.func) list
all_written s [] start on = ap (λ k. map temporal_of (take k s.written)) start
all_written s (a ∷ list) start on =
    let t = back unmade_after s list in
    act_written (option_copied s.func) t a list (ap option_copied (all_func s list)) on (all_written s list start (act_fits t a on))

pub filled : (s t : Unmade) (list : List Act) → s.next ≡ 0 → t ≡ back unmade_after s list → t.fits ≡ true → t.next ≡ length t.written → map temporal_of t.written ≡ unmade_of (option_copied s.func) list
filled s t list start is on full =
    sym (ap (map temporal_of) (ap (λ k. take k t.written) full ∙ take-length t.written))
    ∙ ap written is
    ∙ all_written s list start (sym (ap (λ (u : Unmade). u.fits) is) ∙ on)
