-- What a full-expression does with the slots that are visible, and whether it names visible ones alone.
use Rattle.std.specs.Prelude.{◌≡◌, Bool, true, false, not, ◌&&◌, ◌||◌, List, [], ◌∷◌, ◌++◌, fold, length, Option}
use Rattle.std.specs.List.{list_all}
use Rattle.std.proofs.Common.{refl, sym, ap, ◌∙◌, subst}
use Rattle.std.proofs.lemmas.Bool.{and_parts}
use Rattle.std.proofs.lemmas.List.Folds.{list_any-append}
use Rattle.std.proofs.lemmas.List.Sums.{fold-append}
use Rattle.co_base.specs.declared.ids.SlotId.{SlotId}
use Rattle.co_core_tree.specs.declared.exprs.CoreExpr.{CoreExpr}
use Rattle.co_core_tree.specs.declared.exprs.CoreExpr.TheVariants as expr
use Rattle.co_core_tree.specs.declared.units.CoreFunc.{CoreFunc}
use Rattle.co_core_tree.specs.Acts.{Act, Does, Passes, Starts, Keeps}
use Rattle.co_core_tree.specs.Slots.{made, makes, slot_at}
use Rattle.co_core.specs.Scopes.{act_visible, expr_visible, full_visible, is_lasting, member, same_slot, slot_is}
use Rattle.co_core_scopes.specs.declared.sets.SlotSet.{SlotSet}
use Rattle.co_core_scopes.specs.declared.visible.Phase.{Phase}
use Rattle.co_core_scopes.specs.declared.visible.Phase.TheVariants as phase
use Rattle.co_core_scopes.specs.declared.visible.Visible.{Visible}
use Rattle.co_core_scopes.specs.Makes.{is_small, slot_list}
use Rattle.co_core_scopes.specs.Sets.{has, inserted, is_marked, removed}
use Rattle.co_core_scopes.specs.Scoped.{act_makes, act_passes, acted, changed, expr_seen, full_seen, in_phase, is_naming, left, named, walked, with_holds, with_made}
use Rattle.co_core_scopes.proofs.Members.{fold_inserted, fold_removed, size_inserted, size_removed}

or_true : (a : Bool) → (a || true) ≡ true
or_true true = refl
or_true false = refl

or_false : (a : Bool) → (a || false) ≡ a
or_false true = refl
or_false false = refl

makes_first : (func : CoreFunc) (act : Act) (acts : List Act) → makes func (act ∷ acts) ≡ act_makes func act ++ makes func acts
makes_first func (Does c e) acts = refl
makes_first func (Passes e) acts = refl
makes_first func (Starts i) acts = refl
makes_first func (Keeps part) acts = refl

-- ---- the phases

module _ (p : Phase) (quiet : is_naming p ≡ false) where
  quiet_step : (s : Visible) (act : Act) → acted (in_phase p s) act ≡ in_phase p (with_made s (fold (changed p) s.made (act_makes s.func.now act)))
  quiet_step s (Does c e) =
      let now : Bool → Visible = λ b. record { func = s.func; phase = p; scope = s.scope; made = fold (changed p) s.made (made s.func.now e); holds = b && s.holds } in
      ap (λ b. now (expr_seen (in_phase p s) e || not b)) quiet ∙ ap now (or_true (expr_seen (in_phase p s) e))
  quiet_step s (Passes e) = refl
  quiet_step s (Starts i) = refl
  quiet_step s (Keeps part) = refl

  quiet_all : (s : Visible) (acts : List Act) → fold acted (in_phase p s) acts ≡ in_phase p (with_made s (fold (changed p) s.made (makes s.func.now acts)))
  quiet_all s [] = refl
  quiet_all s (act ∷ acts) =
      let first = fold (changed p) s.made (act_makes s.func.now act) in
      ap (λ z. fold acted z acts) (quiet_step s act)
      ∙ quiet_all (with_made s first) acts
      ∙ ap (λ k. in_phase p (with_made s k)) (sym (fold-append (changed p) s.made (act_makes s.func.now act) (makes s.func.now acts)) ∙ ap (fold (changed p) s.made) (sym (makes_first s.func.now act acts)))

abbrev act_seen : Visible → Act → Bool
act_seen s (Does conditional e) = expr_seen s e
act_seen s (Passes e) = true
act_seen s (Starts i) = true
act_seen s (Keeps part) = true

seen_kept : (p : Phase) (s : Visible) (b : Bool) (e : CoreExpr) → expr_seen (in_phase p (with_holds s b)) e ≡ expr_seen s e
seen_kept p s b (expr.Slot slot at) = refl
seen_kept p s b e = refl

set_kept : (set : SlotSet) (xs : List SlotId) → fold (changed phase.Names) set xs ≡ set
set_kept set [] = refl
set_kept set (x ∷ xs) = set_kept set xs

naming_step : (s : Visible) (b : Bool) (act : Act) → acted (in_phase phase.Names (with_holds s b)) act ≡ in_phase phase.Names (with_holds s (act_seen s act && b))
naming_step s b (Does c e) =
    let now : SlotSet → Bool → Visible = λ set h. record { func = s.func; phase = phase.Names; scope = s.scope; made = set; holds = h && b } in
    ap (λ set. now set (act_passes (in_phase phase.Names (with_holds s b)) (Does c e))) (set_kept s.made (made s.func.now e))
    ∙ ap (now s.made) (or_false (expr_seen (in_phase phase.Names (with_holds s b)) e) ∙ seen_kept phase.Names s b e)
naming_step s b (Passes e) =
    let now : SlotSet → Visible = λ set. record { func = s.func; phase = phase.Names; scope = s.scope; made = set; holds = b } in
    ap now (set_kept s.made (made s.func.now e))
naming_step s b (Starts i) = refl
naming_step s b (Keeps part) = refl

and_turned : (l t b : Bool) → (l && (t && b)) ≡ ((t && l) && b)
and_turned true true b = refl
and_turned true false b = refl
and_turned false true b = refl
and_turned false false b = refl

naming_all : (s : Visible) (b : Bool) (acts : List Act) → fold acted (in_phase phase.Names (with_holds s b)) acts ≡ in_phase phase.Names (with_holds s (list_all (act_seen s) acts && b))
naming_all s b [] = refl
naming_all s b (act ∷ acts) =
    ap (λ z. fold acted z acts) (naming_step s b act)
    ∙ naming_all s (act_seen s act && b) acts
    ∙ ap (λ h. in_phase phase.Names (with_holds s h)) (and_turned (list_all (act_seen s) acts) (act_seen s act) b)

abbrev made_at_last : Visible → Option SlotId → List Act → SlotSet
made_at_last s own acts = fold inserted (fold inserted s.made (slot_list own)) (makes s.func.now acts)

abbrev full_after : Visible → Option SlotId → List Act → Visible
full_after s own acts =
    record {
      func = s.func;
      phase = phase.Clears;
      scope = s.scope;
      made = fold removed (fold removed (made_at_last s own acts) (makes s.func.now acts)) (slot_list own);
      holds = list_all (act_seen (with_made s (made_at_last s own acts))) acts && s.holds;
    }

full_is : (s : Visible) (own : Option SlotId) (acts : List Act) → full_seen s own acts ≡ full_after s own acts
full_is s own acts =
    let m1 = made_at_last s own acts in
    let h = list_all (act_seen (with_made s m1)) acts && s.holds in
    ap (λ z. left (walked phase.Clears (walked phase.Names z acts) acts) (slot_list own)) (quiet_all phase.Makes refl (with_made s (fold inserted s.made (slot_list own))) acts)
    ∙ ap (λ z. left (walked phase.Clears z acts) (slot_list own)) (naming_all (with_made s m1) s.holds acts)
    ∙ ap (λ z. left z (slot_list own)) (quiet_all phase.Clears refl (with_holds (with_made s m1) h) acts)

-- ---- what is visible

-- a slot that is named has room in the sets
abbrev expr_small : CoreExpr → Bool
expr_small (expr.Slot slot at) = is_small slot
expr_small e = true

abbrev pub act_small : Act → Bool
act_small (Does conditional e) = expr_small e
act_small (Passes e) = true
act_small (Starts i) = true
act_small (Keeps part) = true

pub record Stands (func : CoreFunc) (seen : List SlotId) (b : Bool) (s : Visible) : Type 0 where
  pub func_is : s.func.now ≡ func
  pub scope_size : length s.scope.marks ≡ 4096
  pub made_size : length s.made.marks ≡ 4096
  pub scoped : (x : SlotId) → is_small x ≡ true → is_marked s.scope x ≡ member x seen
  pub empty : (x : SlotId) → is_small x ≡ true → is_marked s.made x ≡ false
  pub holds_is : s.holds ≡ b

module _ (s : Visible) (seen : List SlotId) (same : (x : SlotId) → is_small x ≡ true → (has s.scope x || has s.made x) ≡ member x seen) where
  expr_same : (e : CoreExpr) → expr_small e ≡ true → expr_seen s e ≡ expr_visible s.func.now seen e
  expr_same (expr.Slot slot at) small = ap (λ b. slot_is is_lasting (slot_at s.func.now slot) || b) (same slot small)
  expr_same e small = refl

  act_same : (act : Act) → act_small act ≡ true → act_seen s act ≡ act_visible s.func.now seen act
  act_same (Does c e) small = expr_same e small
  act_same (Passes e) small = refl
  act_same (Starts i) small = refl
  act_same (Keeps part) small = refl

  all_same : (acts : List Act) → list_all act_small acts ≡ true → list_all (act_seen s) acts ≡ list_all (act_visible s.func.now seen) acts
  all_same [] small = refl
  all_same (act ∷ acts) small =
      let p = and_parts (act_small act) (list_all act_small acts) small in
      ap (λ b. b && list_all (act_seen s) acts) (act_same act p.0) ∙ ap (λ b. act_visible s.func.now seen act && b) (all_same acts p.1)

and_swapped : (a b : Bool) → (a && b) ≡ (b && a)
and_swapped true true = refl
and_swapped true false = refl
and_swapped false true = refl
and_swapped false false = refl

or_moved : (a m o : Bool) → (a || (m || (o || false))) ≡ (m || (o || a))
or_moved true true o = refl
or_moved true false true = refl
or_moved true false false = refl
or_moved false m true = refl
or_moved false m false = refl

emptied : (o m : Bool) → (not o && (not m && (m || (o || false)))) ≡ false
emptied true m = refl
emptied false true = refl
emptied false false = refl

module _ (func : CoreFunc) (seen : List SlotId) (b : Bool) (s : Visible) (own : Option SlotId) (acts : List Act) (stands : Stands func seen b s) where
  size_one : length (fold inserted s.made (slot_list own)).marks ≡ 4096
  size_one = size_inserted s.made (slot_list own) ∙ stands.made_size

  size_all : length (made_at_last s own acts).marks ≡ 4096
  size_all = size_inserted (fold inserted s.made (slot_list own)) (makes s.func.now acts) ∙ size_one

  size_back : length (fold removed (made_at_last s own acts) (makes s.func.now acts)).marks ≡ 4096
  size_back = size_removed (made_at_last s own acts) (makes s.func.now acts) ∙ size_all

  made_marks : (x : SlotId) → is_small x ≡ true → is_marked (made_at_last s own acts) x ≡ (member x (makes s.func.now acts) || (member x (slot_list own) || false))
  made_marks x small =
      fold_inserted (fold inserted s.made (slot_list own)) (makes s.func.now acts) x size_one small
      ∙ ap (λ z. member x (makes s.func.now acts) || z) (fold_inserted s.made (slot_list own) x stands.made_size small ∙ ap (λ z. member x (slot_list own) || z) (stands.empty x small))

  seen_now : (x : SlotId) → is_small x ≡ true → (has s.scope x || has (made_at_last s own acts) x) ≡ member x (makes s.func.now acts ++ (slot_list own ++ seen))
  seen_now x small =
      let m1 = made_at_last s own acts in
      let mk = makes s.func.now acts in
      ap (λ z. (z && is_marked s.scope x) || (z && is_marked m1 x)) small
      ∙ ap (λ z. z || is_marked m1 x) (stands.scoped x small)
      ∙ ap (λ z. member x seen || z) (made_marks x small)
      ∙ or_moved (member x seen) (member x mk) (member x (slot_list own))
      ∙ ap (λ z. member x mk || z) (sym (list_any-append (same_slot x) (slot_list own) seen))
      ∙ sym (list_any-append (same_slot x) mk (slot_list own ++ seen))

  pub full_stands : list_all act_small acts ≡ true → Stands func seen (b && full_visible func (slot_list own ++ seen) acts) (full_seen s own acts)
  full_stands small =
      let m1 = made_at_last s own acts in
      let mk = makes s.func.now acts in
      let answer : (list_all (act_seen (with_made s m1)) acts && s.holds) ≡ (b && full_visible func (slot_list own ++ seen) acts) =
      ap (λ z. z && s.holds) (all_same (with_made s m1) (mk ++ (slot_list own ++ seen)) seen_now acts small)
      ∙ ap (λ z. full_visible s.func.now (slot_list own ++ seen) acts && z) stands.holds_is
      ∙ ap (λ f. full_visible f (slot_list own ++ seen) acts && b) stands.func_is
      ∙ and_swapped (full_visible func (slot_list own ++ seen) acts) b in
      let after : Stands func seen (b && full_visible func (slot_list own ++ seen) acts) (full_after s own acts) =
      record {
        func_is = stands.func_is;
        scope_size = stands.scope_size;
        made_size = size_removed (fold removed m1 mk) (slot_list own) ∙ size_back;
        scoped = stands.scoped;
        empty = λ x small.
            fold_removed (fold removed m1 mk) (slot_list own) x size_back small
            ∙ ap (λ z. not (member x (slot_list own)) && z) (fold_removed m1 mk x size_all small ∙ ap (λ z. not (member x mk) && z) (made_marks x small))
            ∙ emptied (member x (slot_list own)) (member x mk);
        holds_is = answer;
      } in
      subst (Stands func seen (b && full_visible func (slot_list own ++ seen) acts)) (sym (full_is s own acts)) after

-- ---- the code's steps

pub acted_quiet : (p : Phase) (s : Visible) (set : SlotSet) (own : Option SlotId) (e : CoreExpr) (c : Bool) → is_naming p ≡ false → s.phase ≡ p → slot_list own ≡ made s.func.now e → set ≡ fold (changed p) s.made (slot_list own) → with_made s set ≡ acted s (Does c e)
acted_quiet p s set own e c quiet is m h =
    let now : SlotSet → Bool → Visible = λ k b. record { func = s.func; phase = s.phase; scope = s.scope; made = k; holds = b } in
    let k : set ≡ fold (changed s.phase) s.made (made s.func.now e) = h ∙ ap (fold (changed p) s.made) m ∙ ap (λ q. fold (changed q) s.made (made s.func.now e)) (sym is) in
    let b : s.holds ≡ ((expr_seen s e || not (is_naming s.phase)) && s.holds) = sym (ap (λ z. z && s.holds) (ap (λ z. expr_seen s e || not z) (ap is_naming is ∙ quiet) ∙ or_true (expr_seen s e))) in
    ap (λ z. now z s.holds) k ∙ ap (now (fold (changed s.phase) s.made (made s.func.now e))) b

pub acted_naming : (s s1 : Visible) (e : CoreExpr) (c : Bool) → s.phase ≡ phase.Names → s1 ≡ named s e → s1 ≡ acted s (Does c e)
acted_naming s s1 e c is h =
    let now : SlotSet → Bool → Visible = λ k b. record { func = s.func; phase = s.phase; scope = s.scope; made = k; holds = b } in
    let k : s.made ≡ fold (changed s.phase) s.made (made s.func.now e) = sym (ap (λ q. fold (changed q) s.made (made s.func.now e)) is ∙ set_kept s.made (made s.func.now e)) in
    let l : (expr_seen s e && s.holds) ≡ ((expr_seen s e || not (is_naming s.phase)) && s.holds) = ap (λ z. z && s.holds) (sym (ap (λ q. expr_seen s e || not (is_naming q)) is ∙ or_false (expr_seen s e))) in
    h ∙ ap (λ z. now z (expr_seen s e && s.holds)) k ∙ ap (now (fold (changed s.phase) s.made (made s.func.now e))) l

pub full_steps : (s s1 s2 s3 : Visible) (first last : SlotSet) (own : Option SlotId) (acts : List Act) → first ≡ fold inserted s.made (slot_list own) → s1 ≡ walked phase.Makes (with_made s first) acts → s2 ≡ walked phase.Names s1 acts → s3 ≡ walked phase.Clears s2 acts → last ≡ fold removed s3.made (slot_list own)
    → with_made s3 last ≡ full_seen s own acts
full_steps s s1 s2 s3 first last own acts h0 h1 h2 h3 h4 =
    ap (with_made s3) h4
    ∙ ap (λ z. left z (slot_list own)) (h3 ∙ ap (λ z. walked phase.Clears z acts) (h2 ∙ ap (λ z. walked phase.Names z acts) (h1 ∙ ap (λ z. walked phase.Makes (with_made s z) acts) h0)))
