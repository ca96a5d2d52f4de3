-- Points that are noted one after the other differ exactly where each is new, and leave no mark once they are noted again.
use Rattle.std.specs.Prelude.{◌≡◌, ℕ, zero, suc, ◌<◌, ◌≤◌, Bool, true, false, not, ◌&&◌, ◌||◌, ◌==◌, nat_le, if◌then◌else◌, List, [], ◌∷◌, ◌++◌, fold, length, get_or, set, slice_set, slice_index_or}
use Rattle.std.specs.List.{list_all, list_any}
use Rattle.std.proofs.Common.{refl, sym, ap, ◌∙◌, arith, append-nil, inl, inr}
use Rattle.std.proofs.lemmas.Bool.{cases_Bool, cases_eq, eq-eqb, eqb-true, false≢true, ltb-false, ltb-true, leb-true, lt-ltb, le-leb, ne_eqb, or_parts}
use Rattle.std.proofs.lemmas.List.{get_or-set_other, get_or-set_same, length-set}
use Rattle.std.proofs.lemmas.List.Sums.{fold-append}
use Rattle.co_base.specs.declared.ids.SuspendId.{SuspendId}
use Rattle.co_core_tree.specs.declared.exprs.AwaitPlan.{AwaitPlan}
use Rattle.co_core_tree.specs.declared.exprs.CoreExpr.{CoreExpr}
use Rattle.co_core_tree.specs.declared.exprs.CoreExpr.TheVariants as expr
use Rattle.co_core_tree.specs.declared.exprs.CoreExpr.TheBlock.{shape-the_row-AwaitPlan-3, hidden-the_row-AwaitPlan-3, shown-the_row-AwaitPlan-3}
use Rattle.co_core_tree.specs.declared.units.CoreFunc.{CoreFunc}
use Rattle.co_core_tree.specs.Acts.{Act, Does, Passes, Starts, Keeps}
use Rattle.co_core_tree.specs.Slots.{point_of, points}
use Rattle.co_core.specs.Bodies.{func_acts}
use Rattle.co_core.specs.Jumps.{distinct_points, func_points, func_points_differ, is_free_point, plan_points, same_point}
use Rattle.co_core_scopes.specs.declared.points.Points.{Points}
use Rattle.co_core_scopes.specs.Points.{Clear, begun, has_room, is_unseen, noted}

and_false : (a : Bool) → (a && false) ≡ false
and_false true = refl
and_false false = refl

and_true : (a : Bool) → (a && true) ≡ a
and_true true = refl
and_true false = refl

abbrev roomy : Points → SuspendId → Points
roomy s point = record { seen = slice_set s.seen point.0 s.marks; marks = s.marks; differ = (s.differ && not (point.0 == 2)) && is_unseen s.seen point }

abbrev noted_if : Bool → Points → SuspendId → Points
noted_if b s point = if b then roomy s point else record { seen = s.seen; marks = s.marks; differ = false }

-- ---- the answer

room_is : (point : SuspendId) → nat_le point.0 65534 ≡ has_room point
room_is point =
    elim (cases_Bool (has_room point)) as (λ z. nat_le point.0 65534 ≡ has_room point) [
      | inl e ↦ let l : point.0 < 65535 = ltb-true point.0 65535 e in le-leb point.0 65534 (omega arith) ∙ sym e
      | inr e ↦
          elim (cases_Bool (nat_le point.0 65534)) as (λ z. nat_le point.0 65534 ≡ has_room point) [
            | inl h ↦ let l : point.0 ≤ 65534 = leb-true point.0 65534 h in absurd (false≢true (sym e ∙ lt-ltb point.0 65535 (omega arith)))
            | inr h ↦ h ∙ sym e
          ]
    ]

unseen_at : (seen : List Bool) (x y : SuspendId) → x.0 < length seen → is_unseen (slice_set seen x.0 true) y ≡ (not (same_point x y) && is_unseen seen y)
unseen_at seen x y less =
    elim (cases_eq y.0 x.0) as (λ z. is_unseen (slice_set seen x.0 true) y ≡ (not (same_point x y) && is_unseen seen y)) [
      | inl e ↦
          let g : get_or (set seen x.0 true) y.0 false ≡ true = ap (λ k. get_or (set seen x.0 true) k false) e ∙ get_or-set_same seen x.0 true false less in
          let q : (x.0 == y.0) ≡ true = eq-eqb x.0 y.0 (sym e) in
          ap not g ∙ sym (ap (λ b. not b && is_unseen seen y) q)
      | inr n ↦
          let g : get_or (set seen x.0 true) y.0 false ≡ get_or seen y.0 false = get_or-set_other seen x.0 y.0 true false n in
          let q : (x.0 == y.0) ≡ false = ne_eqb x.0 y.0 (λ h. n (sym h)) in
          ap not g ∙ sym (ap (λ b. not b && is_unseen seen y) q)
    ]

regroup : (e h m l : Bool) → ((not e && h) && (not m && l)) ≡ (not (e || m) && (h && l))
regroup true h m l = refl
regroup false true m l = refl
regroup false false m l = sym (and_false (not m))

unseen_all : (seen : List Bool) (x : SuspendId) (xs : List SuspendId) → x.0 < length seen → list_all (is_unseen (slice_set seen x.0 true)) xs ≡ (not (list_any (same_point x) xs) && list_all (is_unseen seen) xs)
unseen_all seen x [] less = refl
unseen_all seen x (y ∷ ys) less =
    ap (λ b. b && list_all (is_unseen (slice_set seen x.0 true)) ys) (unseen_at seen x y less)
    ∙ ap (λ b. (not (same_point x y) && is_unseen seen y) && b) (unseen_all seen x ys less)
    ∙ regroup (same_point x y) (is_unseen seen y) (list_any (same_point x) ys) (list_all (is_unseen seen) ys)

reorder : (o n u m l d f : Bool) → (((o && n) && u) && (((not m && l) && d) && f)) ≡ (o && ((u && l) && ((not m && d) && ((n && true) && f))))
reorder false n u m l d f = refl
reorder true false u m l d f = sym (ap (λ b. (u && l) && b) (and_false (not m && d)) ∙ and_false (u && l))
reorder true true false m l d f = refl
reorder true true true true l d f = sym (and_false l)
reorder true true true false true d f = refl
reorder true true true false false d f = refl

no_room : (o u l m d n f : Bool) → false ≡ (o && ((u && l) && ((m && d) && ((n && false) && f))))
no_room o u l m d n f =
    sym (ap (λ b. o && ((u && l) && ((m && d) && (b && f)))) (and_false n) ∙ ap (λ b. o && ((u && l) && b)) (and_false (m && d)) ∙ ap (λ b. o && b) (and_false (u && l)) ∙ and_false o)

lost : (s : Points) (xs : List SuspendId) → s.differ ≡ false → (fold noted s xs).differ ≡ false
lost s [] h = h
lost s (x ∷ xs) h =
    lost (noted s x) xs (
    elim (cases_Bool (has_room x)) as (λ z. (noted s x).differ ≡ false) [
      | inl e ↦ ap (λ b. (noted_if b s x).differ) e ∙ ap (λ b. (b && not (x.0 == 2)) && is_unseen s.seen x) h
      | inr e ↦ ap (λ b. (noted_if b s x).differ) e
    ])

differs : (s : Points) (xs : List SuspendId) → s.marks ≡ true → length s.seen ≡ 65535 → (fold noted s xs).differ ≡ (s.differ && (list_all (is_unseen s.seen) xs && (distinct_points xs && list_all is_free_point xs)))
differs s [] m e = sym (and_true s.differ)
differs s (x ∷ xs) m e =
    let any = list_any (same_point x) xs in
    let free : is_free_point x ≡ (not (x.0 == 2) && has_room x) = ap (λ b. not (x.0 == 2) && b) (room_is x) in
    let whole = λ (b : Bool). s.differ && ((is_unseen s.seen x && list_all (is_unseen s.seen) xs) && ((not any && distinct_points xs) && ((not (x.0 == 2) && b) && list_all is_free_point xs))) in
    let close : whole (has_room x) ≡ (s.differ && (list_all (is_unseen s.seen) (x ∷ xs) && (distinct_points (x ∷ xs) && list_all is_free_point (x ∷ xs)))) =
    ap (λ b. s.differ && ((is_unseen s.seen x && list_all (is_unseen s.seen) xs) && ((not any && distinct_points xs) && (b && list_all is_free_point xs)))) (sym free) in
    let goal : (fold noted s (x ∷ xs)).differ ≡ whole (has_room x) =
    elim (cases_Bool (has_room x)) as (λ z. (fold noted s (x ∷ xs)).differ ≡ whole (has_room x)) [
      | inl r ↦
          let l : x.0 < 65535 = ltb-true x.0 65535 r in
          let less : x.0 < length s.seen = omega arith in
          ap (λ b. (fold noted (noted_if b s x) xs).differ) r
          ∙ differs (roomy s x) xs m (length-set s.seen x.0 s.marks ∙ e)
          ∙ ap (λ b. (roomy s x).differ && (list_all (is_unseen (slice_set s.seen x.0 b)) xs && (distinct_points xs && list_all is_free_point xs))) m
          ∙ ap (λ b. (roomy s x).differ && (b && (distinct_points xs && list_all is_free_point xs))) (unseen_all s.seen x xs less)
          ∙ ap (λ b. (roomy s x).differ && b) (and_assoc (not any && list_all (is_unseen s.seen) xs) (distinct_points xs) (list_all is_free_point xs))
          ∙ reorder s.differ (not (x.0 == 2)) (is_unseen s.seen x) any (list_all (is_unseen s.seen) xs) (distinct_points xs) (list_all is_free_point xs)
          ∙ ap whole (sym r)
      | inr r ↦
          ap (λ b. (fold noted (noted_if b s x) xs).differ) r
          ∙ lost (record { seen = s.seen; marks = s.marks; differ = false }) xs refl
          ∙ no_room s.differ (is_unseen s.seen x) (list_all (is_unseen s.seen) xs) (not any) (distinct_points xs) (not (x.0 == 2)) (list_all is_free_point xs)
          ∙ ap whole (sym r)
    ] in
    goal ∙ close
  where
    and_assoc : (a b c : Bool) → (a && (b && c)) ≡ ((a && b) && c)
    and_assoc true b c = refl
    and_assoc false b c = refl

none_seen : (seen : List Bool) (xs : List SuspendId) → ((k : ℕ) → slice_index_or seen k false ≡ false) → list_all (is_unseen seen) xs ≡ true
none_seen seen [] none = refl
none_seen seen (x ∷ xs) none = ap (λ b. not b && list_all (is_unseen seen) xs) (none x.0) ∙ none_seen seen xs none

-- ---- the marks

abbrev names : ℕ → List SuspendId → Bool
names k xs = list_any (λ x. x.0 == k) xs

size_kept_if : (b : Bool) (s : Points) (x : SuspendId) → length (noted_if b s x).seen ≡ length s.seen
size_kept_if true s x = length-set s.seen x.0 s.marks
size_kept_if false s x = refl

size_kept : (s : Points) (xs : List SuspendId) → length (fold noted s xs).seen ≡ length s.seen
size_kept s [] = refl
size_kept s (x ∷ xs) = size_kept (noted s x) xs ∙ size_kept_if (has_room x) s x

marks_kept_if : (b : Bool) (s : Points) (x : SuspendId) → (noted_if b s x).marks ≡ s.marks
marks_kept_if true s x = refl
marks_kept_if false s x = refl

-- a mark that none of the points is at
other_if : (b : Bool) (s : Points) (x : SuspendId) (k : ℕ) → (x.0 == k) ≡ false → get_or (noted_if b s x).seen k false ≡ get_or s.seen k false
other_if true s x k n = get_or-set_other s.seen x.0 k s.marks false (λ h. false≢true (sym n ∙ eq-eqb x.0 k (sym h)))
other_if false s x k n = refl

others : (s : Points) (xs : List SuspendId) (k : ℕ) → names k xs ≡ false → get_or (fold noted s xs).seen k false ≡ get_or s.seen k false
others s [] k n = refl
others s (x ∷ xs) k n = let p = or_parts (x.0 == k) (names k xs) n in others (noted s x) xs k p.1 ∙ other_if (has_room x) s x k p.0

past_end : (xs : List Bool) (k : ℕ) → length xs ≤ k → get_or xs k false ≡ false
past_end [] k less = refl
past_end (x ∷ xs) zero less = absurd (omega (arith, less))
past_end (x ∷ xs) (suc k) less = past_end xs k (omega (arith, less))

-- a mark that a point takes away
gone : (s : Points) (x : SuspendId) (k : ℕ) → s.marks ≡ false → length s.seen ≡ 65535 → (x.0 == k) ≡ true → get_or (noted s x).seen k false ≡ false
gone s x k m e q =
    let at : x.0 ≡ k = eqb-true x.0 k q in
    elim (cases_Bool (has_room x)) as (λ z. get_or (noted s x).seen k false ≡ false) [
      | inl r ↦
          let l : x.0 < 65535 = ltb-true x.0 65535 r in
          let less : x.0 < length s.seen = omega arith in
          ap (λ b. get_or (noted_if b s x).seen k false) r ∙ ap (λ j. get_or (set s.seen x.0 s.marks) j false) (sym at) ∙ get_or-set_same s.seen x.0 s.marks false less ∙ m
      | inr r ↦
          let l : 65535 ≤ x.0 = ltb-false x.0 65535 r in
          ap (λ b. get_or (noted_if b s x).seen k false) r ∙ past_end s.seen k (omega arith)
    ]

all_gone : (s : Points) (xs : List SuspendId) (k : ℕ) → s.marks ≡ false → length s.seen ≡ 65535 → names k xs ≡ true → get_or (fold noted s xs).seen k false ≡ false
all_gone s [] k m e n = absurd (false≢true n)
all_gone s (x ∷ xs) k m e n =
    elim (cases_Bool (names k xs)) as (λ z. get_or (fold noted s (x ∷ xs)).seen k false ≡ false) [
      | inl later ↦ all_gone (noted s x) xs k (marks_kept_if (has_room x) s x ∙ m) (size_kept_if (has_room x) s x ∙ e) later
      | inr none ↦
          let q : (x.0 == k) ≡ true = sym (or_none (x.0 == k) (names k xs) none) ∙ n in
          others (noted s x) xs k none ∙ gone s x k m e q
    ]
  where
    or_none : (a b : Bool) → b ≡ false → (a || b) ≡ a
    or_none true b h = refl
    or_none false b h = h

-- ---- a function

pub answered : (funcs : List CoreFunc) (func : CoreFunc) (s s1 : Points) → Clear s → s1 ≡ fold noted (begun s true) (func_points funcs func) → s1.differ ≡ func_points_differ funcs func
answered funcs func s s1 clear h =
    let xs = func_points funcs func in
    ap (λ p. p.differ) h ∙ differs (begun s true) xs refl clear.size ∙ ap (λ b. b && (distinct_points xs && list_all is_free_point xs)) (none_seen s.seen xs clear.none)

pub cleared : (xs : List SuspendId) (s s1 s2 : Points) → Clear s → s1 ≡ fold noted (begun s true) xs → s2 ≡ fold noted (begun s1 false) xs → Clear s2
cleared xs s s1 s2 clear h1 h2 =
    let size1 : length s1.seen ≡ 65535 = ap (λ p. length p.seen) h1 ∙ size_kept (begun s true) xs ∙ clear.size in
    let size2 : length s2.seen ≡ 65535 = ap (λ p. length p.seen) h2 ∙ size_kept (begun s1 false) xs ∙ size1 in
    record {
      size = size2;
      none = λ k.
          elim (cases_Bool (names k xs)) as (λ z. get_or s2.seen k false ≡ false) [
            | inl named ↦ ap (λ p. get_or p.seen k false) h2 ∙ all_gone (begun s1 false) xs k refl size1 named
            | inr other ↦ ap (λ p. get_or p.seen k false) h2 ∙ others (begun s1 false) xs k other ∙ ap (λ p. get_or p.seen k false) h1 ∙ others (begun s true) xs k other ∙ clear.none k
          ];
    }

-- ---- the points of a function

point_await : (plan : AwaitPlan) → point_of (expr.Await plan) ≡ plan.point ∷ []
unfolding shape-the_row-AwaitPlan-3 hidden-the_row-AwaitPlan-3 shown-the_row-AwaitPlan-3 denote.Hole.Carrier.hidden
point_await plan = refl

pub noted_await : (s s1 : Points) (whole : CoreExpr) (plan plan' : AwaitPlan) (c : Bool) → whole ≡ expr.Await plan → plan' ≡ plan → s1 ≡ noted s plan'.point → s1 ≡ fold noted s (points (Does c whole ∷ []))
noted_await s s1 whole plan plan' c is e h =
    h ∙ ap (λ p. noted s p.point) e ∙ ap (fold noted s) (sym (ap point_of is ∙ point_await plan)) ∙ ap (fold noted s) (sym (append-nil (point_of whole)))

abbrev after_act : Points → Act → Points
after_act s act = fold noted s (points (act ∷ []))

points_first : (act : Act) (acts : List Act) → points (act ∷ acts) ≡ points (act ∷ []) ++ points acts
points_first (Does c e) acts = ap (λ l. l ++ points acts) (sym (append-nil (point_of e)))
points_first (Passes e) acts = refl
points_first (Starts i) acts = refl
points_first (Keeps part) acts = refl

acts_noted : (s : Points) (acts : List Act) → fold after_act s acts ≡ fold noted s (points acts)
acts_noted s [] = refl
acts_noted s (act ∷ acts) =
    acts_noted (after_act s act) acts ∙ sym (fold-append noted s (points (act ∷ [])) (points acts)) ∙ ap (fold noted s) (sym (points_first act acts))

pub all_noted : (s s1 s2 : Points) (funcs : List CoreFunc) (func : CoreFunc) → s1 ≡ fold noted s (plan_points func.plan) → s2 ≡ fold after_act s1 (func_acts funcs func) → s2 ≡ fold noted s (func_points funcs func)
all_noted s s1 s2 funcs func h1 h2 =
    h2 ∙ acts_noted s1 (func_acts funcs func) ∙ ap (λ z. fold noted z (points (func_acts funcs func))) h1 ∙ sym (fold-append noted s (plan_points func.plan) (points (func_acts funcs func)))
