-- What a statement does with the slots that are visible, and whether it names visible ones alone.
use Rattle.std.specs.Prelude.{◌≡◌, Bool, true, false, not, ◌&&◌, ◌||◌, List, [], ◌∷◌, ◌++◌, Option, None, Some}
use Rattle.std.specs.List.{list_all}
use Rattle.std.proofs.Common.{refl, sym, ap, ◌∙◌, append_assoc, subst}
use Rattle.std.proofs.lemmas.Bool.{and_from, and_parts}
use Rattle.std.proofs.lemmas.List.Folds.{list_all-append, list_any-append}
use Rattle.co_base.specs.declared.ids.SlotId.{SlotId}
use Rattle.co_base.specs.declared.kinds.CatchOf.{CatchOf}
use Rattle.co_core_tree.specs.declared.stmts.CoreStmt.{CoreStmt, Row_of-CoreStmt, end_of-CoreStmt, more_of-CoreStmt, Row_of-Handler, end_of-Handler, more_of-Handler}
use Rattle.co_core_tree.specs.declared.stmts.CoreStmt.TheVariants as stmt
use Rattle.co_core_tree.specs.declared.units.CoreFunc.{CoreFunc}
use Rattle.co_core_tree.specs.Acts.{Act}
use Rattle.co_core_tree.specs.Slots.{acts_of, init_acts_of}
use Rattle.co_core.specs.Bodies.{Placed, Standing, handlers_placed, in_branch, in_handler_body, in_loop_body, in_scope_list, own_fulls, placed, row_placed}
use Rattle.co_core.specs.Scopes.{declared, full_visible, handlers_make, handlers_visible, member, placed_make, row_visible, same_slot, stmt_makes, stmt_visible, with_variable}
use Rattle.co_core_scopes.specs.declared.visible.Visible.{Visible}
use Rattle.co_core_scopes.specs.Makes.{slot_list}
use Rattle.co_core_scopes.specs.Sets.{local_of}
use Rattle.co_core_scopes.specs.Scoped.{entered, full_seen, handlers_seen, row_locals, row_seen, stmt_seen, unscoped}
use Rattle.co_core_scopes.proofs.Members.{Apart, Within, apart_with, apart_within, fold_inserted, fold_removed, is_new, member_with, not_seen, size_inserted, size_removed, within_after, within_keep, within_left, within_right, within_skip, within_through}
use Rattle.co_core_scopes.proofs.Phases.{Stands, act_small, full_stands}

-- ---- entering and leaving scopes

pub stands_as : (func : CoreFunc) (seen : List SlotId) (b c : Bool) (s : Visible) → b ≡ c → Stands func seen b s → Stands func seen c s
stands_as func seen b c s e stands = subst (λ z. Stands func seen z s) e stands

enter_stands : (func : CoreFunc) (seen : List SlotId) (b : Bool) (s : Visible) (slot : Option SlotId) → Stands func seen b s → Stands func (with_variable slot seen) b (entered s slot)
enter_stands func seen b s slot stands =
    record {
      func_is = stands.func_is;
      scope_size = size_inserted s.scope (slot_list slot) ∙ stands.scope_size;
      made_size = stands.made_size;
      scoped = λ x small. fold_inserted s.scope (slot_list slot) x stands.scope_size small ∙ ap (λ z. member x (slot_list slot) || z) (stands.scoped x small) ∙ sym (member_with slot seen x);
      empty = stands.empty;
      holds_is = stands.holds_is;
    }

-- slots that are left are none of those that were seen before them
left_over : (m k : Bool) → (m ≡ true → k ≡ false) → (not m && (m || k)) ≡ k
left_over true k h = sym (h refl)
left_over false k h = refl

leave_stands : (func : CoreFunc) (seen inner : List SlotId) (b : Bool) (s : Visible) (slots : List SlotId) → ((x : SlotId) → member x inner ≡ (member x slots || member x seen)) → list_all (is_new seen) slots ≡ true → Stands func inner b s
    → Stands func seen b (unscoped s slots)
leave_stands func seen inner b s slots members fresh stands =
    record {
      func_is = stands.func_is;
      scope_size = size_removed s.scope slots ∙ stands.scope_size;
      made_size = stands.made_size;
      scoped = λ x small.
          fold_removed s.scope slots x stands.scope_size small
          ∙ ap (λ z. not (member x slots) && z) (stands.scoped x small ∙ members x)
          ∙ left_over (member x slots) (member x seen) (not_seen seen slots x fresh);
      empty = stands.empty;
      holds_is = stands.holds_is;
    }

-- ---- what is made

make_append : (xs ys : List Placed) → placed_make (xs ++ ys) ≡ placed_make xs ++ placed_make ys
make_append [] ys = refl
make_append (p ∷ xs) ys = ap (λ l. stmt_makes p.stmt ++ l) (make_append xs ys) ∙ sym (append_assoc (stmt_makes p.stmt) (placed_make xs) (placed_make ys))

apart_is : (seen xs ys : List SlotId) → xs ≡ ys → Apart seen xs → Apart seen ys
apart_is seen xs ys e apart = subst (Apart seen) e apart

apart_first : (seen : List SlotId) (xs ys : List Placed) → Apart seen (placed_make (xs ++ ys)) → Apart seen (placed_make xs)
apart_first seen xs ys apart = apart_within seen (placed_make xs) (placed_make xs ++ placed_make ys) (within_left (placed_make xs) (placed_make ys)) (apart_is seen (placed_make (xs ++ ys)) (placed_make xs ++ placed_make ys) (make_append xs ys) apart)

apart_last : (seen : List SlotId) (xs ys : List Placed) → Apart seen (placed_make (xs ++ ys)) → Apart seen (placed_make ys)
apart_last seen xs ys apart = apart_within seen (placed_make ys) (placed_make xs ++ placed_make ys) (within_right (placed_make xs) (placed_make ys)) (apart_is seen (placed_make (xs ++ ys)) (placed_make xs ++ placed_make ys) (make_append xs ys) apart)

-- what is declared by a statement of a list is apart from what the later ones make
apart_declared : (seen : List SlotId) (stands : Standing) (x : CoreStmt) (ps : List Placed) → Apart seen (placed_make (placed stands x ++ ps)) → Apart (declared seen x) (placed_make ps)
apart_declared seen stands (stmt.Local slot i at) ps apart = apart_with seen (Some slot) (placed_make ps) apart
apart_declared seen stands x ps apart = apart_last seen (placed stands x) ps apart

declared_is : (seen : List SlotId) (x : CoreStmt) → with_variable (local_of x) seen ≡ declared seen x
declared_is seen (stmt.Local slot i at) = refl
declared_is seen x = refl

local_fresh : (seen : List SlotId) (stands : Standing) (x : CoreStmt) → list_all (is_new seen) (placed_make (placed stands x)) ≡ true → list_all (is_new seen) (slot_list (local_of x)) ≡ true
local_fresh seen stands (stmt.Local slot i at) fresh = fresh
local_fresh seen stands x fresh = refl

locals_fresh : {m : _} (seen : List SlotId) (stands : Standing) (row : Row_of-CoreStmt m) → list_all (is_new seen) (placed_make (row_placed stands row)) ≡ true → list_all (is_new seen) (row_locals row) ≡ true
locals_fresh seen stands end_of-CoreStmt fresh = refl
locals_fresh seen stands (more_of-CoreStmt x rest) fresh =
    let here = placed_make (placed stands x) in
    let later = placed_make (row_placed stands rest) in
    let p = and_parts (list_all (is_new seen) here) (list_all (is_new seen) later) (sym (ap (list_all (is_new seen)) (make_append (placed stands x) (row_placed stands rest)) ∙ list_all-append (is_new seen) here later) ∙ fresh) in
    list_all-append (is_new seen) (slot_list (local_of x)) (row_locals rest) ∙ and_from (list_all (is_new seen) (slot_list (local_of x))) (list_all (is_new seen) (row_locals rest)) (local_fresh seen stands x p.0) (locals_fresh seen stands rest p.1)

-- what is visible after all statements of a list
abbrev row_declared : {m : _} → List SlotId → Row_of-CoreStmt m → List SlotId
row_declared seen end_of-CoreStmt = seen
row_declared seen (more_of-CoreStmt x rest) = row_declared (declared seen x) rest

or_moved : (l d s : Bool) → (l || (d || s)) ≡ ((d || l) || s)
or_moved true true s = refl
or_moved true false s = refl
or_moved false true s = refl
or_moved false false s = refl

declared_members : {m : _} (seen : List SlotId) (row : Row_of-CoreStmt m) (y : SlotId) → member y (row_declared seen row) ≡ (member y (row_locals row) || member y seen)
declared_members seen end_of-CoreStmt y = refl
declared_members seen (more_of-CoreStmt x rest) y =
    declared_members (declared seen x) rest y
    ∙ ap (λ l. member y (row_locals rest) || member y l) (sym (declared_is seen x))
    ∙ ap (λ z. member y (row_locals rest) || z) (member_with (local_of x) seen y)
    ∙ or_moved (member y (row_locals rest)) (member y (slot_list (local_of x))) (member y seen)
    ∙ ap (λ z. z || member y seen) (sym (list_any-append (same_slot y) (slot_list (local_of x)) (row_locals rest)))

-- the variable of a handler and what its body makes
handler_body : (slots more body later : List SlotId) → Within (slots ++ body) ((slots ++ more) ++ (body ++ later))
handler_body [] more body later = within_through body (body ++ later) (more ++ (body ++ later)) (within_left body later) (within_right more (body ++ later))
handler_body (slot ∷ slots) more body later = within_keep slot (slots ++ body) ((slots ++ more) ++ (body ++ later)) (handler_body slots more body later)

handler_rest : (slots more body later : List SlotId) → Within (more ++ later) ((slots ++ more) ++ (body ++ later))
handler_rest [] more body later = within_after more later (body ++ later) (within_right body later)
handler_rest (slot ∷ slots) more body later = within_skip slot (more ++ later) ((slots ++ more) ++ (body ++ later)) (handler_rest slots more body later)

make_handler : {m : _} (of : CatchOf) (slot : Option SlotId) (body : CoreStmt) (rest : Row_of-Handler m) → handlers_make (more_of-Handler of slot body rest) ≡ slot_list slot ++ handlers_make rest
make_handler of None body rest = refl
make_handler of (Some slot) body rest = refl

and_grouped : (a b c : Bool) → ((a && b) && c) ≡ (a && (b && c))
and_grouped true b c = refl
and_grouped false b c = refl

and_last : (a : Bool) → a ≡ (a && true)
and_last true = refl
and_last false = refl

-- ---- statements

abbrev pub full_small : List Act → Bool
full_small acts = list_all act_small acts

abbrev pub placed_small : List CoreFunc → Placed → Bool
placed_small funcs p = list_all full_small (own_fulls funcs p.stmt)

module _ (funcs : List CoreFunc) (func : CoreFunc) where
  small_parts : (xs ys : List Placed) → list_all (placed_small funcs) (xs ++ ys) ≡ true → (list_all (placed_small funcs) xs ≡ true) × (list_all (placed_small funcs) ys ≡ true)
  small_parts xs ys small = and_parts (list_all (placed_small funcs) xs) (list_all (placed_small funcs) ys) (sym (list_all-append (placed_small funcs) xs ys) ∙ small)

  -- the one full-expression of a statement in which no other stands
  one_small : (acts : List Act) → ((full_small acts && true) && true) ≡ true → full_small acts ≡ true
  one_small acts small = (and_parts (full_small acts) true ((and_parts (full_small acts && true) true small).0)).0

  mutual
    pub stmt_stands : (stands : Standing) (x : CoreStmt) (seen : List SlotId) (b : Bool) (s : Visible) → Stands func seen b s → list_all (placed_small funcs) (placed stands x) ≡ true → Apart seen (placed_make (placed stands x))
        → Stands func seen (b && stmt_visible funcs func seen x) (stmt_seen funcs s x)
    stmt_stands stands (stmt.Scope' n stmts at) seen b s h small apart =
        let inner = in_scope_list stands in
        leave_stands func seen (row_declared seen stmts) (b && row_visible funcs func seen stmts) (row_seen funcs s stmts) (row_locals stmts) (declared_members seen stmts) (locals_fresh seen inner stmts apart.fresh)
        (row_stands inner stmts seen b s h small apart)
    stmt_stands stands (stmt.Full e at) seen b s h small apart = full_stands func seen b s None (acts_of funcs e) h (one_small (acts_of funcs e) small)
    stmt_stands stands (stmt.Local slot i at) seen b s h small apart = full_stands func seen b s (Some slot) (init_acts_of funcs i) h (one_small (init_acts_of funcs i) small)
    stmt_stands stands (stmt.If' e n (more_of-CoreStmt x end_of-CoreStmt) m (more_of-CoreStmt y end_of-CoreStmt) at) seen b s h small apart =
        let inner = in_branch stands in
        let f = full_visible func seen (acts_of funcs e) in
        let p = and_parts (full_small (acts_of funcs e) && true) (list_all (placed_small funcs) (placed inner x ++ placed inner y)) small in
        let q = small_parts (placed inner x) (placed inner y) p.1 in
        let s1 = full_seen s None (acts_of funcs e) in
        let h1 : Stands func seen (b && f) s1 = full_stands func seen b s None (acts_of funcs e) h ((and_parts (full_small (acts_of funcs e)) true p.0).0) in
        let h2 = stmt_stands inner x seen (b && f) s1 h1 q.0 (apart_first seen (placed inner x) (placed inner y) apart) in
        let h3 = stmt_stands inner y seen ((b && f) && stmt_visible funcs func seen x) (stmt_seen funcs s1 x) h2 q.1 (apart_last seen (placed inner x) (placed inner y) apart) in
        stands_as func seen _ _ _ (and_grouped (b && f) (stmt_visible funcs func seen x) (stmt_visible funcs func seen y) ∙ and_grouped b f (stmt_visible funcs func seen x && stmt_visible funcs func seen y)) h3
    stmt_stands stands (stmt.Loop' e step n (more_of-CoreStmt body end_of-CoreStmt) at) seen b s h small apart =
        let inner = in_loop_body stands in
        let f = full_visible func seen (acts_of funcs e) in
        let g = full_visible func seen (acts_of funcs step) in
        let p = and_parts (full_small (acts_of funcs e) && (full_small (acts_of funcs step) && true)) (list_all (placed_small funcs) (placed inner body)) small in
        let q = and_parts (full_small (acts_of funcs e)) (full_small (acts_of funcs step) && true) p.0 in
        let s1 = full_seen s None (acts_of funcs e) in
        let h1 : Stands func seen (b && f) s1 = full_stands func seen b s None (acts_of funcs e) h q.0 in
        let h2 : Stands func seen ((b && f) && g) (full_seen s1 None (acts_of funcs step)) = full_stands func seen (b && f) s1 None (acts_of funcs step) h1 ((and_parts (full_small (acts_of funcs step)) true q.1).0) in
        let h3 = stmt_stands inner body seen ((b && f) && g) (full_seen s1 None (acts_of funcs step)) h2 p.1 apart in
        stands_as func seen _ _ _ (and_grouped (b && f) g (stmt_visible funcs func seen body) ∙ and_grouped b f (g && stmt_visible funcs func seen body)) h3
    stmt_stands stands (stmt.Return (Some i) at) seen b s h small apart = full_stands func seen b s None (init_acts_of funcs i) h (one_small (init_acts_of funcs i) small)
    stmt_stands stands (stmt.Return None at) seen b s h small apart = stands_as func seen b (b && true) s (and_last b) h
    stmt_stands stands (stmt.Try' n (more_of-CoreStmt body end_of-CoreStmt) m handlers at) seen b s h small apart =
        let inner = in_branch stands in
        let caught = in_handler_body stands in
        let v = stmt_visible funcs func seen body in
        let hp = handlers_placed caught handlers in
        let hm = handlers_make handlers in
        let q = small_parts (placed inner body) hp small in
        let whole : Apart seen (hm ++ (placed_make (placed inner body) ++ placed_make hp)) = apart_is seen _ _ (ap (λ l. hm ++ l) (make_append (placed inner body) hp)) apart in
        let a1 = apart_within seen (placed_make (placed inner body)) _ (within_through _ (placed_make (placed inner body) ++ placed_make hp) _ (within_left (placed_make (placed inner body)) (placed_make hp)) (within_right hm (placed_make (placed inner body) ++ placed_make hp))) whole in
        let a2 = apart_within seen (hm ++ placed_make hp) _ (within_after hm (placed_make hp) (placed_make (placed inner body) ++ placed_make hp) (within_right (placed_make (placed inner body)) (placed_make hp))) whole in
        let h1 = stmt_stands inner body seen b s h q.0 a1 in
        let h2 = handlers_stands caught handlers seen (b && v) (stmt_seen funcs s body) h1 q.1 a2 in
        stands_as func seen _ _ _ (and_grouped b v (handlers_visible funcs func seen handlers)) h2
    stmt_stands stands (stmt.Break at) seen b s h small apart = stands_as func seen b (b && true) s (and_last b) h
    stmt_stands stands (stmt.Continue at) seen b s h small apart = stands_as func seen b (b && true) s (and_last b) h
    stmt_stands stands (stmt.Leave at) seen b s h small apart = stands_as func seen b (b && true) s (and_last b) h
    stmt_stands stands (stmt.OffEnd at) seen b s h small apart = stands_as func seen b (b && true) s (and_last b) h

    row_stands : {m : _} → (stands : Standing) (row : Row_of-CoreStmt m) (seen : List SlotId) (b : Bool) (s : Visible) → Stands func seen b s → list_all (placed_small funcs) (row_placed stands row) ≡ true → Apart seen (placed_make (row_placed stands row))
        → Stands func (row_declared seen row) (b && row_visible funcs func seen row) (row_seen funcs s row)
    row_stands stands end_of-CoreStmt seen b s h small apart = stands_as func seen b (b && true) s (and_last b) h
    row_stands stands (more_of-CoreStmt x rest) seen b s h small apart =
        let v = stmt_visible funcs func seen x in
        let s1 = stmt_seen funcs s x in
        let q = small_parts (placed stands x) (row_placed stands rest) small in
        let h1 : Stands func seen (b && v) s1 = stmt_stands stands x seen b s h q.0 (apart_first seen (placed stands x) (row_placed stands rest) apart) in
        let h2 : Stands func (declared seen x) (b && v) (entered s1 (local_of x)) = subst (λ l. Stands func l (b && v) (entered s1 (local_of x))) (declared_is seen x) (enter_stands func seen (b && v) s1 (local_of x) h1) in
        let h3 = row_stands stands rest (declared seen x) (b && v) (entered s1 (local_of x)) h2 q.1 (apart_declared seen stands x (row_placed stands rest) apart) in
        stands_as func _ _ _ _ (and_grouped b v (row_visible funcs func (declared seen x) rest)) h3

    handlers_stands : {m : _} → (stands : Standing) (row : Row_of-Handler m) (seen : List SlotId) (b : Bool) (s : Visible) → Stands func seen b s → list_all (placed_small funcs) (handlers_placed stands row) ≡ true → Apart seen (handlers_make row ++ placed_make (handlers_placed stands row))
        → Stands func seen (b && handlers_visible funcs func seen row) (handlers_seen funcs s row)
    handlers_stands stands end_of-Handler seen b s h small apart = stands_as func seen b (b && true) s (and_last b) h
    handlers_stands stands (more_of-Handler of slot body rest) seen b s h small apart =
        let inner = with_variable slot seen in
        let v = stmt_visible funcs func inner body in
        let hp = handlers_placed stands rest in
        let hm = handlers_make rest in
        let bm = placed_make (placed stands body) in
        let q = small_parts (placed stands body) hp small in
        let whole : Apart seen ((slot_list slot ++ hm) ++ (bm ++ placed_make hp)) =
        apart_is seen _ _ (ap (λ l. l ++ placed_make (placed stands body ++ hp)) (make_handler of slot body rest) ∙ ap (λ l. (slot_list slot ++ hm) ++ l) (make_append (placed stands body) hp)) apart in
        let a1 : Apart seen (slot_list slot ++ bm) = apart_within seen _ _ (handler_body (slot_list slot) hm bm (placed_make hp)) whole in
        let a2 : Apart seen (hm ++ placed_make hp) = apart_within seen _ _ (handler_rest (slot_list slot) hm bm (placed_make hp)) whole in
        let a3 : Apart seen (slot_list slot) = apart_within seen _ _ (within_left (slot_list slot) bm) a1 in
        let h1 = enter_stands func seen b s slot h in
        let h2 : Stands func inner (b && v) (stmt_seen funcs (entered s slot) body) = stmt_stands stands body inner b (entered s slot) h1 q.0 (apart_with seen slot bm a1) in
        let s2 = unscoped (stmt_seen funcs (entered s slot) body) (slot_list slot) in
        let h3 : Stands func seen (b && v) s2 = leave_stands func seen inner (b && v) (stmt_seen funcs (entered s slot) body) (slot_list slot) (member_with slot seen) a3.fresh h2 in
        let h4 = handlers_stands stands rest seen (b && v) s2 h3 q.1 a2 in
        stands_as func seen _ _ _ (and_grouped b v (handlers_visible funcs func seen rest)) h4
