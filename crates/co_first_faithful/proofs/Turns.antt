-- One turn from each place of the code.
use Rattle.std.proofs.Common.{◌≡◌, ℕ, zero, suc, ◌+◌, ◌-◌, ◌^◌, ◌<◌, ◌≤◌, List, [], ◌∷◌, ◌++◌, length, get_or, set, Bool, true, false, Some, refl, sym, ap, ◌∙◌, subst, arith, length-append}
use Rattle.std.specs.Prelude.{nat_lt, if◌then◌else◌, ◌&&◌, slice_get, ℤ, pos, negsuc, ◌+ℤ◌, ◌-ℤ◌}
use Rattle.std.proofs.lemmas.Bool.{lt-ltb, ltb-true}
use Rattle.std.proofs.lemmas.Int.{to_z_pos, to_z-of_z}
use mir.Val.{to_z, of_z, sel, SFits}
use mir.Syntax.{w64}
use Rattle.co_base.specs.declared.span.Span.{Span}
use Rattle.co_base.specs.declared.kinds.Num.TheVariants as num
use Rattle.co_first_tree.specs.declared.tree.Stmt.{Stmt, items-the_row-Stmt}
use Rattle.co_first_tree.specs.declared.tree.Stmt.TheVariants.{Declare, Assign, While', Print}
use Rattle.co_first_tree.specs.declared.tree.Sum.{Sum}
use Rattle.co_first_tree.specs.declared.tree.Sum.TheVariants.{Int, Name}
use Rattle.co_first_tree.specs.declared.tree.Term.{Term}
use Rattle.co_first_tree.specs.declared.tree.SumOp.{SumOp}
use Rattle.co_first_tree.specs.declared.tree.SumOp.TheVariants.{Add, Sub}
use Rattle.co_first_tree.specs.declared.tree.Atom.{Atom}
use Rattle.co_first_tree.specs.declared.tree.Atom.TheVariants as operand
use Rattle.co_first_exec.specs.declared.instr.Instr.TheVariants.{Const, Arith, Slot, Load, Store, Push, Pop, Jump, JumpZ, MainRet}
use Rattle.co_first_exec.specs.declared.instr.Instr.TheVariants as instr
use Rattle.co_first_exec.specs.declared.instr.Placed.{Placed}
use Rattle.co_first_exec.specs.declared.instr.Stop.TheVariants.{Running}
use Rattle.co_first_exec.specs.declared.local.Local.{Local}
use Rattle.co_first_exec.specs.declared.turn.Due.TheVariants.{OutOfBudget, Meets, Does}
use Rattle.co_first_exec.specs.declared.turn.Computed.{Computed}
use Rattle.co_first_exec.specs.declared.turn.Computed.TheVariants.{Value, Outside, Absent}
use Rattle.co_first_exec.specs.Machine as machine
use Rattle.co_first_exec.specs.Machine.{lawful, met, checked, due_running, due_after, computed, settle, branch, taken, turn}
use Rattle.co_first_meaning.specs.Meaning.{Purpose, Into, Show, Test, Evaluate, Extend, Give, Next, Failed, Frame, Rest, Again, Config, On, is_long, variable, atom_value, exact, extended, tested, begin}
use Rattle.co_first_gen.specs.Code.{placed, op_of, span_of, atom_code, terms_code, sum_code, assign_code, while_code, stmt_code, list_code, row_code, main_end}
use Rattle.co_first_gen.proofs.Lists.{rows_code}
use Rattle.co_first_faithful.proofs.Places.{HasAt, has_front, has_back}
use Rattle.co_first_faithful.proofs.Within.{IsAtom, IsSum, IsStmt, of_row}
use Rattle.co_first_faithful.proofs.Holds.{Item, value, address, Holds, stack_room, pushed, popped, top_is, stored, showed, moved}
use Rattle.co_first_faithful.proofs.Live.{body_code, LoopAt, Leads, Takes, waits, Remain, term_of, term_end, Live, going, opening, opened, evaluating, loading, extending, waiting, fetching, ready, combining, giving, storing, Sim, live, over, Turned, earlier}

does : (code : List Placed) (k : Local) (p : Placed) → k.stop ≡ Running → nat_lt k.made k.budget ≡ true → slice_get code k.place ≡ Some p → lawful k p.instr ≡ true → turn code k ≡ taken (Does p.instr p.span) k
does code k p running budget at ok =
    ap (λ s. taken (due_after s (due_running code k)) k) running
    ∙ ap (λ b. taken (if b then checked k (slice_get code k.place) else OutOfBudget) k) budget
    ∙ ap (λ o. taken (checked k o) k) at
    ∙ ap (λ b. taken (if b then Does p.instr p.span else Meets (met p.instr)) k) ok

meets : (code : List Placed) (k : Local) (p : Placed) → k.stop ≡ Running → nat_lt k.made k.budget ≡ true → slice_get code k.place ≡ Some p → lawful k p.instr ≡ false → turn code k ≡ taken (Meets (met p.instr)) k
meets code k p running budget at bad =
    ap (λ s. taken (due_after s (due_running code k)) k) running
    ∙ ap (λ b. taken (if b then checked k (slice_get code k.place) else OutOfBudget) k) budget
    ∙ ap (λ o. taken (checked k o) k) at
    ∙ ap (λ b. taken (if b then Does p.instr p.span else Meets (met p.instr)) k) bad

-- a value of `long` fits 64 bits
fits_long : (z : ℤ) → is_long z ≡ true → SFits w64 z
fits_long (pos n) e = record { sfits = ltb-true n (2 ^ 63) e }
fits_long (negsuc n) e = record { sfits = ltb-true n (2 ^ 63) e }

same_long : (z : ℤ) → machine.if_long z ≡ (if is_long z then Value z else Outside)
same_long (pos n) = refl
same_long (negsuc n) = refl

-- the machine computes what the program's operator means
computes : (o : SumOp) (x y : ℤ) → computed (op_of o) num.Long x y ≡ (if is_long (exact o x y) then Value (exact o x y) else Outside)
computes Add x y = same_long (x +ℤ y)
computes Sub x y = same_long (x -ℤ y)

settled_made : (c : Computed) (span : Span) (l : Local) → (settle c span l).made ≡ l.made
settled_made (Value z) span l = refl
settled_made Outside span l = refl
settled_made Absent span l = refl

branched_made : (a place : ℕ) (l : Local) → (branch a place l).made ≡ l.made
branched_made zero place l = refl
branched_made (suc n) place l = refl

-- a word that isn't 0 holds a value that isn't 0
sel_not_zero : (b : Bool) (p q : ℕ) (sum : Sum) (body : List Stmt) (frames : List Frame) → tested (sel b (pos (suc p)) (negsuc q)) sum body frames ≡ Rest body ∷ Again sum body ∷ frames
sel_not_zero true p q sum body frames = refl
sel_not_zero false p q sum body frames = refl

not_zero : (m : ℕ) (sum : Sum) (body : List Stmt) (frames : List Frame) → tested (to_z w64 (suc m)) sum body frames ≡ Rest body ∷ Again sum body ∷ frames
not_zero m sum body frames = sel_not_zero (nat_lt (suc m) (2 ^ 63)) m (2 ^ 64 - suc (suc m)) sum body frames

few_wait : (purpose : Purpose) → length (waits purpose) ≤ 1
few_wait (Into x) = omega arith
few_wait Show = omega arith
few_wait (Test sum body) = omega arith

loop_end : (place : ℕ) (sum : Sum) (body : List Stmt) → place + length (while_code place sum (body_code place sum body)) ≡ place + length (sum_code sum) + 1 + length (body_code place sum body) + 1
loop_end place sum body =
    let inside = body_code place sum body in
    let back : List Placed = placed (Jump place) (span_of sum) ∷ [] in
    let skip : Placed = placed (JumpZ (place + length (sum_code sum) + 1 + length inside + 1)) (span_of sum) in
    omega (arith, length-append (sum_code sum) (skip ∷ (inside ++ back)), length-append inside back)

module _ (code : List Placed) (count : ℕ) where
  leads_at : (frames : List Frame) (p q : ℕ) → p ≡ q → Leads code count p frames → Leads code count q frames
  leads_at frames p q e h = subst (λ n. Leads code count n frames) e h

  takes_at : (span : Span) (purpose : Purpose) (frames : List Frame) (p q : ℕ) → p ≡ q → Takes code count p span purpose frames → Takes code count q span purpose frames
  takes_at span purpose frames p q e h = subst (λ n. Takes code count n span purpose frames) e h

  remain_at : (terms : List Term) (span : Span) (purpose : Purpose) (frames : List Frame) (p q : ℕ) → p ≡ q → Remain code count p terms span purpose frames → Remain code count q terms span purpose frames
  remain_at terms span purpose frames p q e h = subst (λ n. Remain code count n terms span purpose frames) e h

  -- a turn that does the instruction at its place
  at_place : (k : Local) (before : ℕ) (c : Config) (p : Placed) → k.stop ≡ Running → nat_lt k.made k.budget ≡ true → slice_get code k.place ≡ Some p → lawful k p.instr ≡ true → Turned code count k before (taken (Does p.instr p.span) k) c → Turned code count k before (turn code k) c
  at_place k before c p running budget at ok t =
      subst (λ k1. Turned code count k before k1 c) (sym (does code k p running budget at ok)) t

  module _ (k : Local) (budget : nat_lt k.made k.budget ≡ true) where
    push_ok : (stack : List Item) (vars out : List ℤ) → Holds count k stack vars out → lawful k Push ≡ true
    push_ok stack vars out h = lt-ltb k.sp (length k.words) (omega (arith, stack_room, h.top, h.size, h.few, h.deep))

    pop_ok : (item : Item) (stack : List Item) (vars out : List ℤ) → Holds count k (item ∷ stack) vars out → lawful k Pop ≡ true
    pop_ok item stack vars out h =
        let some : 0 < k.sp = omega (arith, h.top) in
        let within : k.sp - 1 < length k.words = omega (arith, stack_room, h.top, h.size, h.few, h.deep) in
        ap (λ b. b && nat_lt (k.sp - 1) (length k.words)) (lt-ltb 0 k.sp some) ∙ lt-ltb (k.sp - 1) (length k.words) within

    slot_ok : (stack : List Item) (vars out : List ℤ) (x at : ℕ) → Holds count k stack vars out → at ≡ x → x < count → nat_lt at (length k.words) ≡ true
    slot_ok stack vars out x at h e lt = lt-ltb at (length k.words) (omega (arith, stack_room, h.size, h.few))

    -- the value of a variable at its address
    slot_value : (stack : List Item) (vars out : List ℤ) (x at : ℕ) → Holds count k stack vars out → at ≡ x → x < count → to_z w64 (get_or k.words at 0) ≡ variable vars x
    slot_value stack vars out x at h e lt = ap (λ n. to_z w64 (get_or k.words n 0)) e ∙ h.values x lt

    turn_opening : (x : ℕ) (sum : Sum) (frames : List Frame) (vars out : List ℤ) → Holds count k [] vars out → HasAt code k.place (assign_code x sum) → x < count → IsSum count sum → Leads code count (k.place + length (assign_code x sum)) frames → Turned code count k 0 (turn code k) (On (Evaluate sum (Into x)) frames vars out)
    turn_opening x sum frames vars out h at lt ok lead =
        let span = span_of sum in
        let end = placed Pop span ∷ placed Store span ∷ [] in
        let a : k.fp + x ≡ x = omega (arith, h.fp) in
        let next : k.place + length (assign_code x sum) ≡ k.place + 1 + 1 + length (sum_code sum) + 1 + 1 = omega (arith, length-append (sum_code sum) end) in
        let front = has_front code (k.place + 1 + 1) (sum_code sum) end at.1.1 in
        let back = has_back code (k.place + 1 + 1) (sum_code sum) end at.1.1 in
        at_place k 0 (On (Evaluate sum (Into x)) frames vars out) (placed (Slot x) span) h.stop budget at.0 refl
        (record { more = 0; since = 1; sim = live (opened x sum frames vars out (moved count k [] vars out (k.fp + x) (k.place + 1) (k.made + 1) h) a (at.1.0, front) lt ok (back, lt, leads_at frames _ _ next lead)); bound = omega arith })

    turn_opened : (x : ℕ) (sum : Sum) (frames : List Frame) (vars out : List ℤ) → Holds count k [] vars out → k.a ≡ x → HasAt code k.place (placed Push (span_of sum) ∷ sum_code sum) → x < count → IsSum count sum → Takes code count (k.place + 1 + length (sum_code sum)) (span_of sum) (Into x) frames → Turned code count k 1 (turn code k) (On (Evaluate sum (Into x)) frames vars out)
    turn_opened x sum frames vars out h a at lt ok take =
        at_place k 1 (On (Evaluate sum (Into x)) frames vars out) (placed Push (span_of sum)) h.stop budget at.0 (push_ok [] vars out h)
        (record { more = 0; since = 2; sim = live (evaluating 2 sum (Into x) frames vars out (omega arith) (pushed count k [] vars out (address x) (k.place + 1) (k.made + 1) h (omega arith) a) at.1 ok take); bound = omega arith })

    turn_sum : (since : ℕ) (sum : Sum) (purpose : Purpose) (frames : List Frame) (vars out : List ℤ) → since ≤ 2 → Holds count k (waits purpose) vars out → HasAt code k.place (sum_code sum) → IsSum count sum → Takes code count (k.place + length (sum_code sum)) (span_of sum) purpose frames → Turned code count k since (turn code k) (On (Evaluate sum purpose) frames vars out)
    turn_sum since (Int n span) purpose frames vars out le h at ok take =
        let next : k.place + length (sum_code (Int n span)) ≡ k.place + 1 = omega arith in
        at_place k since (On (Evaluate (Int n span) purpose) frames vars out) (placed (Const (pos n)) span) h.stop budget at.0 refl
        (record { more = 1; since = 0; sim = live (giving (pos n) span purpose frames vars out (moved count k (waits purpose) vars out n (k.place + 1) (k.made + 1) h) (to_z_pos w64 n (omega arith)) (takes_at span purpose frames _ _ next take)); bound = omega arith })
    turn_sum since (Name x terms span) purpose frames vars out le h at ok take =
        let a : k.fp + x ≡ x = omega (arith, h.fp) in
        let next : k.place + length (sum_code (Name x terms span)) ≡ k.place + 1 + 1 + length (terms_code span terms) = omega arith in
        let rem : Remain code count (k.place + 1 + 1) terms span purpose frames = record { here = at.1.1; terms_ok = ok.1; takes = takes_at span purpose frames _ _ next take } in
        at_place k since (On (Evaluate (Name x terms span) purpose) frames vars out) (placed (Slot x) span) h.stop budget at.0 refl
        (record { more = 0; since = since + 1; sim = live (loading (since + 1) x terms span purpose frames vars out (omega arith) (moved count k (waits purpose) vars out (k.fp + x) (k.place + 1) (k.made + 1) h) a ok.0 at.1.0 rem); bound = omega arith })

    turn_loading : (since x : ℕ) (terms : List Term) (span : Span) (purpose : Purpose) (frames : List Frame) (vars out : List ℤ) → since ≤ 3 → Holds count k (waits purpose) vars out → k.a ≡ x → x < count → slice_get code k.place ≡ Some (placed Load span) → Remain code count (k.place + 1) terms span purpose frames → Turned code count k since (turn code k) (On (Evaluate (Name x terms span) purpose) frames vars out)
    turn_loading since x terms span purpose frames vars out le h a lt at rem =
        at_place k since (On (Evaluate (Name x terms span) purpose) frames vars out) (placed Load span) h.stop budget at (slot_ok (waits purpose) vars out x k.a h a lt)
        (record { more = 1; since = 0; sim = live (extending (variable vars x) terms span purpose frames vars out (moved count k (waits purpose) vars out (get_or k.words k.a 0) (k.place + 1) (k.made + 1) h) (slot_value (waits purpose) vars out x k.a h a lt) rem); bound = omega arith })

    turn_waiting : (left : ℤ) (op : SumOp) (atom : Atom) (terms : List Term) (span : Span) (purpose : Purpose) (frames : List Frame) (vars out : List ℤ) → Holds count k (value left ∷ waits purpose) vars out → HasAt code k.place (atom_code span atom ++ term_end span op) → IsAtom count atom → Remain code count (k.place + length (atom_code span atom) + 2) terms span purpose frames → Turned code count k 1 (turn code k) (On (Extend left (term_of op atom ∷ terms) span purpose) frames vars out)
    turn_waiting left op (operand.Int n) terms span purpose frames vars out h at ok rem =
        let next : k.place + length (atom_code span (operand.Int n)) + 2 ≡ k.place + 1 + 2 = omega arith in
        at_place k 1 (On (Extend left (term_of op (operand.Int n) ∷ terms) span purpose) frames vars out) (placed (Const (pos n)) span) h.stop budget at.0 refl
        (record { more = 0; since = 2; sim = live (ready 2 left op (operand.Int n) terms span purpose frames vars out (omega arith) (moved count k (value left ∷ waits purpose) vars out n (k.place + 1) (k.made + 1) h) (to_z_pos w64 n (omega arith)) at.1 (remain_at terms span purpose frames _ _ next rem)); bound = omega arith })
    turn_waiting left op (operand.Name y) terms span purpose frames vars out h at ok rem =
        let a : k.fp + y ≡ y = omega (arith, h.fp) in
        let next : k.place + length (atom_code span (operand.Name y)) + 2 ≡ k.place + 1 + 3 = omega arith in
        at_place k 1 (On (Extend left (term_of op (operand.Name y) ∷ terms) span purpose) frames vars out) (placed (Slot y) span) h.stop budget at.0 refl
        (record { more = 0; since = 2; sim = live (fetching left op y terms span purpose frames vars out (moved count k (value left ∷ waits purpose) vars out (k.fp + y) (k.place + 1) (k.made + 1) h) a ok at.1 (remain_at terms span purpose frames _ _ next rem)); bound = omega arith })

    turn_fetching : (left : ℤ) (op : SumOp) (y : ℕ) (terms : List Term) (span : Span) (purpose : Purpose) (frames : List Frame) (vars out : List ℤ) → Holds count k (value left ∷ waits purpose) vars out → k.a ≡ y → y < count → HasAt code k.place (placed Load span ∷ term_end span op) → Remain code count (k.place + 3) terms span purpose frames → Turned code count k 2 (turn code k) (On (Extend left (term_of op (operand.Name y) ∷ terms) span purpose) frames vars out)
    turn_fetching left op y terms span purpose frames vars out h a lt at rem =
        let next : k.place + 3 ≡ k.place + 1 + 2 = omega arith in
        at_place k 2 (On (Extend left (term_of op (operand.Name y) ∷ terms) span purpose) frames vars out) (placed Load span) h.stop budget at.0 (slot_ok (value left ∷ waits purpose) vars out y k.a h a lt)
        (record { more = 0; since = 3; sim = live (ready 3 left op (operand.Name y) terms span purpose frames vars out (omega arith) (moved count k (value left ∷ waits purpose) vars out (get_or k.words k.a 0) (k.place + 1) (k.made + 1) h) (slot_value (value left ∷ waits purpose) vars out y k.a h a lt) at.1 (remain_at terms span purpose frames _ _ next rem)); bound = omega arith })

    turn_ready : (since : ℕ) (left : ℤ) (op : SumOp) (atom : Atom) (terms : List Term) (span : Span) (purpose : Purpose) (frames : List Frame) (vars out : List ℤ) → since ≤ 3 → Holds count k (value left ∷ waits purpose) vars out → to_z w64 k.a ≡ atom_value vars atom → HasAt code k.place (term_end span op) → Remain code count (k.place + 2) terms span purpose frames → Turned code count k since (turn code k) (On (Extend left (term_of op atom ∷ terms) span purpose) frames vars out)
    turn_ready since left op atom terms span purpose frames vars out le h a at rem =
        let next : k.place + 2 ≡ k.place + 1 + 1 = omega arith in
        at_place k since (On (Extend left (term_of op atom ∷ terms) span purpose) frames vars out) (placed Pop span) h.stop budget at.0 (pop_ok (value left) (waits purpose) vars out h)
        (record { more = 0; since = since + 1; sim = live (combining (since + 1) left op atom terms span purpose frames vars out (omega arith) (popped count k (waits purpose) vars out (value left) (k.place + 1) (k.made + 1) h) (top_is count k (waits purpose) vars out (value left) h) a at.1.0 (remain_at terms span purpose frames _ _ next rem)); bound = omega arith })

    turn_storing : (x : ℕ) (z : ℤ) (span : Span) (frames : List Frame) (vars out : List ℤ) → Holds count k [] vars out → k.b ≡ x → to_z w64 k.a ≡ z → x < count → slice_get code k.place ≡ Some (placed Store span) → Leads code count (k.place + 1) frames → Turned code count k 1 (turn code k) (On (Give z (Into x)) frames vars out)
    turn_storing x z span frames vars out h b a lt at lead =
        let k1 = taken (Does Store span) k in
        let low : k.b < count = omega arith in
        let here : Sim code count k1 0 (On Next frames (set vars k.b z) out) = live (going frames (set vars k.b z) out (stored count k vars out k.b k.a (k.place + 1) (k.made + 1) z h low a) lead) in
        at_place k 1 (On (Give z (Into x)) frames vars out) (placed Store span) h.stop budget at (slot_ok [] vars out x k.b h b lt)
        (record { more = 1; since = 0; sim = subst (λ y. Sim code count k1 0 (On Next frames (set vars y z) out)) b here; bound = omega arith })

    -- what is left of an operator and its right operand come together
    combined : (left : ℤ) (op : SumOp) (atom : Atom) (terms : List Term) (span : Span) (purpose : Purpose) (frames : List Frame) (vars out : List ℤ) (z : ℤ) (fits : Bool) → is_long z ≡ fits → Holds count k (waits purpose) vars out → Remain code count (k.place + 1) terms span purpose frames → Sim code count (settle (if fits then Value z else Outside) span (record k { made = k.made + 1 })) 0 (On (if fits then Extend z terms span purpose else Failed span) frames vars out)
    combined left op atom terms span purpose frames vars out z true e h rem =
        live (extending z terms span purpose frames vars out (moved count k (waits purpose) vars out (of_z w64 z) (k.place + 1) (k.made + 1) h) (to_z-of_z w64 z (fits_long z e)) rem)
    combined left op atom terms span purpose frames vars out z false e h rem =
        over (omega arith) (λ e. cc) (record { prints = h.prints; ends = (refl, refl) })

    turn_combining : (since : ℕ) (left : ℤ) (op : SumOp) (atom : Atom) (terms : List Term) (span : Span) (purpose : Purpose) (frames : List Frame) (vars out : List ℤ) → since ≤ 4 → Holds count k (waits purpose) vars out → to_z w64 k.b ≡ left → to_z w64 k.a ≡ atom_value vars atom → slice_get code k.place ≡ Some (placed (Arith (op_of op) num.Long) span) → Remain code count (k.place + 1) terms span purpose frames → Turned code count k since (turn code k) (On (Extend left (term_of op atom ∷ terms) span purpose) frames vars out)
    turn_combining since left op atom terms span purpose frames vars out le h b a at rem =
        let right = atom_value vars atom in
        let z = exact op left right in
        let k' : Local = record k { made = k.made + 1 } in
        let same : computed (op_of op) num.Long (to_z w64 k.b) (to_z w64 k.a) ≡ (if is_long z then Value z else Outside) = ap (λ x. computed (op_of op) num.Long x (to_z w64 k.a)) b ∙ ap (λ y. computed (op_of op) num.Long left y) a ∙ computes op left right in
        let here = combined left op atom terms span purpose frames vars out z (is_long z) refl h rem in
        at_place k since (On (Extend left (term_of op atom ∷ terms) span purpose) frames vars out) (placed (Arith (op_of op) num.Long) span) h.stop budget at refl
        (record { more = 1; since = 0; sim = subst (λ c. Sim code count (settle c span k') 0 (On (extended z terms span purpose) frames vars out)) (sym same) here; bound = omega (arith, settled_made (computed (op_of op) num.Long (to_z w64 k.b) (to_z w64 k.a)) span k') })

    -- to the end of the loop where the value is 0, and else into its body
    branched : (a start : ℕ) (sum : Sum) (body : List Stmt) (frames : List Frame) (vars out : List ℤ) → Holds count k [] vars out → LoopAt code count start sum body → k.place ≡ start + length (sum_code sum) → Leads code count (k.place + 1 + length (body_code start sum body) + 1) frames → Sim code count (branch a (start + length (sum_code sum) + 1 + length (body_code start sum body) + 1) (record k { made = k.made + 1 })) 0 (On Next (tested (to_z w64 a) sum body frames) vars out)
    branched zero start sum body frames vars out h loop at lead =
        let end = start + length (sum_code sum) + 1 + length (body_code start sum body) + 1 in
        let next : k.place + 1 + length (body_code start sum body) + 1 ≡ end = omega arith in
        live (going frames vars out (moved count k [] vars out k.a end (k.made + 1) h) (leads_at frames _ _ next lead))
    branched (suc m) start sum body frames vars out h loop at lead =
        let sum_end = start + length (sum_code sum) in
        let code_body = body_code start sum body in
        let back : Placed = placed (Jump start) (span_of sum) in
        let here : k.place + 1 ≡ sum_end + 1 = omega arith in
        let rest = has_back code start (sum_code sum) _ loop.here in
        let inside : HasAt code (sum_end + 1) code_body = has_front code (sum_end + 1) code_body (back ∷ []) rest.1 in
        let inside' : HasAt code (k.place + 1) (list_code (k.place + 1) body) = subst (λ n. HasAt code n (list_code n body)) (sym here) inside in
        let length_same : length (list_code (k.place + 1) body) ≡ length code_body = ap (λ n. length (list_code n body)) here in
        let jump : k.place + 1 + length (list_code (k.place + 1) body) ≡ sum_end + 1 + length code_body = omega arith in
        let after : k.place + 1 + length code_body + 1 ≡ k.place + 1 + length (list_code (k.place + 1) body) + 1 = omega arith in
        let frames' : List Frame = Rest body ∷ Again sum body ∷ frames in
        let leads : Leads code count (k.place + 1) frames' = (inside', loop.body_ok, (start, loop, jump, leads_at frames _ _ after lead)) in
        let held = moved count k [] vars out k.a (k.place + 1) (k.made + 1) h in
        subst (λ f. Sim code count (record k { place = k.place + 1; made = k.made + 1 }) 0 (On Next f vars out)) (sym (not_zero m sum body frames)) (live (going frames' vars out held leads))

    print_turn : (z : ℤ) (span : Span) (frames : List Frame) (vars out : List ℤ) (room : Bool) → lawful k instr.Print ≡ room → Holds count k [] vars out → to_z w64 k.a ≡ z → slice_get code k.place ≡ Some (placed instr.Print span) → Leads code count (k.place + 1) frames → Turned code count k 0 (turn code k) (On (Give z Show) frames vars out)
    print_turn z span frames vars out true e h a at lead =
        at_place k 0 (On (Give z Show) frames vars out) (placed instr.Print span) h.stop budget at e
        (record { more = 1; since = 0; sim = live (going frames vars (out ++ z ∷ []) (showed count k vars out z (k.place + 1) (k.made + 1) h a) lead); bound = omega arith })
    print_turn z span frames vars out false e h a at lead =
        subst (λ k1. Turned code count k 0 k1 (On (Give z Show) frames vars out)) (sym (meets code k (placed instr.Print span) h.stop budget at e))
        (record { more = 0; since = 1; sim = over (omega arith) (λ e. cc) (record { prints = h.prints; ends = (refl, tt) }); bound = omega arith })

    turn_giving : (z : ℤ) (span : Span) (purpose : Purpose) (frames : List Frame) (vars out : List ℤ) → Holds count k (waits purpose) vars out → to_z w64 k.a ≡ z → Takes code count k.place span purpose frames → Turned code count k 0 (turn code k) (On (Give z purpose) frames vars out)
    turn_giving z span (Into x) frames vars out h a take =
        at_place k 0 (On (Give z (Into x)) frames vars out) (placed Pop span) h.stop budget take.0.0 (pop_ok (address x) [] vars out h)
        (record { more = 0; since = 1; sim = live (storing x z span frames vars out (popped count k [] vars out (address x) (k.place + 1) (k.made + 1) h) (top_is count k [] vars out (address x) h) a take.1 take.0.1.0 take.2); bound = omega arith })
    turn_giving z span Show frames vars out h a take =
        print_turn z span frames vars out (lawful k instr.Print) refl h a take.0.0 take.1
    turn_giving z span (Test sum body) frames vars out h a take =
        let start = take.0 in
        let end = start + length (sum_code sum) + 1 + length (body_code start sum body) + 1 in
        let k1 = branch k.a end (record k { made = k.made + 1 }) in
        let back = has_back code start (sum_code sum) _ take.1.here in
        let at : slice_get code k.place ≡ Some (placed (JumpZ end) (span_of sum)) = ap (slice_get code) take.2 ∙ back.0 in
        let here = branched k.a start sum body frames vars out h take.1 take.2 take.3 in
        at_place k 0 (On (Give z (Test sum body)) frames vars out) (placed (JumpZ end) (span_of sum)) h.stop budget at refl
        (record { more = 1; since = 0; sim = subst (λ v. Sim code count k1 0 (On Next (tested v sum body frames) vars out)) a here; bound = omega (arith, branched_made k.a end (record k { made = k.made + 1 })) })

    turn_extending : (left : ℤ) (terms : List Term) (span : Span) (purpose : Purpose) (frames : List Frame) (vars out : List ℤ) → Holds count k (waits purpose) vars out → to_z w64 k.a ≡ left → Remain code count k.place terms span purpose frames → Turned code count k 0 (turn code k) (On (Extend left terms span purpose) frames vars out)
    turn_extending left [] span purpose frames vars out h a rem =
        let next : k.place + length (terms_code span []) ≡ k.place = omega arith in
        earlier code count k 0 (turn code k) (On (Extend left [] span purpose) frames vars out) (turn_giving left span purpose frames vars out h a (takes_at span purpose frames _ _ next rem.takes))
    turn_extending left (term ∷ terms) span purpose frames vars out h a rem =
        let atom = atom_code span term.atom in
        let end = term_end span term.op in
        let rest = terms_code span terms in
        let front = has_front code (k.place + 1) (atom ++ end) rest rem.here.1 in
        let back = has_back code (k.place + 1) (atom ++ end) rest rem.here.1 in
        let place : k.place + 1 + length (atom ++ end) ≡ k.place + 1 + length atom + 2 = omega (arith, length-append atom end) in
        let next : k.place + length (terms_code span (term ∷ terms)) ≡ k.place + 1 + length atom + 2 + length rest = omega (arith, length-append (atom ++ end) rest, length-append atom end) in
        let remain : Remain code count (k.place + 1 + length atom + 2) terms span purpose frames = record { here = subst (λ n. HasAt code n rest) place back; terms_ok = rem.terms_ok.1; takes = takes_at span purpose frames _ _ next rem.takes } in
        at_place k 0 (On (Extend left (term ∷ terms) span purpose) frames vars out) (placed Push span) h.stop budget rem.here.0 (push_ok (waits purpose) vars out h)
        (record { more = 0; since = 1; sim = live (waiting left term.op term.atom terms span purpose frames vars out (pushed count k (waits purpose) vars out (value left) (k.place + 1) (k.made + 1) h (few_wait purpose) a) front rem.terms_ok.0 remain); bound = omega arith })

    -- a statement, and what comes after it
    turn_stmt : (stmt : Stmt) (frames : List Frame) (vars out : List ℤ) → Holds count k [] vars out → HasAt code k.place (stmt_code k.place stmt) → IsStmt count stmt → Leads code count (k.place + length (stmt_code k.place stmt)) frames → Turned code count k 0 (turn code k) (On (begin stmt) frames vars out)
    turn_stmt (Declare x sum) frames vars out h at ok lead = turn_opening x sum frames vars out h at ok.0 ok.1 lead
    turn_stmt (Assign x sum) frames vars out h at ok lead = turn_opening x sum frames vars out h at ok.0 ok.1 lead
    turn_stmt (While' sum shape row) frames vars out h at ok lead =
        let body : List Stmt = items-the_row-Stmt _ row in
        let start = k.place + length (sum_code sum) + 1 in
        let same : row_code start row ≡ list_code start body = rows_code _ row start in
        let here : HasAt code k.place (while_code k.place sum (list_code start body)) = subst (λ c. HasAt code k.place (while_code k.place sum c)) same at in
        let lead' : Leads code count (k.place + length (while_code k.place sum (list_code start body))) frames = subst (λ c. Leads code count (k.place + length (while_code k.place sum c)) frames) same lead in
        let loop : LoopAt code count k.place sum body = record { here = here; sum_ok = ok.0; body_ok = of_row _ row count ok.1 } in
        turn_sum 0 sum (Test sum body) frames vars out (omega arith) h (has_front code k.place (sum_code sum) _ here) ok.0 (k.place, loop, refl, leads_at frames _ _ (loop_end k.place sum body) lead')
    turn_stmt (Print sum) frames vars out h at ok lead =
        let end : List Placed = placed instr.Print (span_of sum) ∷ [] in
        let next : k.place + length (sum_code sum ++ end) ≡ k.place + length (sum_code sum) + 1 = omega (arith, length-append (sum_code sum) end) in
        turn_sum 0 sum Show frames vars out (omega arith) h (has_front code k.place (sum_code sum) end at) ok (has_back code k.place (sum_code sum) end at, leads_at frames _ _ next lead)

    turn_next : (frames : List Frame) (vars out : List ℤ) → Holds count k [] vars out → Leads code count k.place frames → Turned code count k 0 (turn code k) (On Next frames vars out)
    turn_next [] vars out h lead =
        at_place k 0 (On Next [] vars out) main_end h.stop budget lead refl
        (record { more = 1; since = 0; sim = over (omega arith) (λ e. cc) (record { prints = h.prints; ends = (refl, refl) }); bound = omega arith })
    turn_next (Rest [] ∷ frames) vars out h lead =
        let next : k.place + length (list_code k.place []) ≡ k.place = omega arith in
        earlier code count k 0 (turn code k) (On Next (Rest [] ∷ frames) vars out) (turn_next frames vars out h (leads_at frames _ _ next lead.2))
    turn_next (Rest (stmt ∷ stmts) ∷ frames) vars out h lead =
        let first = stmt_code k.place stmt in
        let rest = list_code (k.place + length first) stmts in
        let next : k.place + length (first ++ rest) ≡ k.place + length first + length rest = omega (arith, length-append first rest) in
        let leads : Leads code count (k.place + length first) (Rest stmts ∷ frames) = (has_back code k.place first rest lead.0, lead.1.1, leads_at frames _ _ next lead.2) in
        earlier code count k 0 (turn code k) (On Next (Rest (stmt ∷ stmts) ∷ frames) vars out) (turn_stmt stmt (Rest stmts ∷ frames) vars out h (has_front code k.place first rest lead.0) lead.1.0 leads)
    turn_next (Again sum body ∷ frames) vars out h lead =
        let start = lead.0 in
        let loop = lead.1 in
        let sum_end = start + length (sum_code sum) in
        let code_body = body_code start sum body in
        let back : List Placed = placed (Jump start) (span_of sum) ∷ [] in
        let rest = has_back code start (sum_code sum) _ loop.here in
        let jump = has_back code (sum_end + 1) code_body back rest.1 in
        let at : slice_get code k.place ≡ Some (placed (Jump start) (span_of sum)) = ap (slice_get code) lead.2 ∙ jump.0 in
        let next : k.place + 1 ≡ sum_end + 1 + length code_body + 1 = omega (arith, lead.2) in
        let takes : Takes code count sum_end (span_of sum) (Test sum body) frames = (start, loop, refl, leads_at frames _ _ next lead.3) in
        at_place k 0 (On Next (Again sum body ∷ frames) vars out) (placed (Jump start) (span_of sum)) h.stop budget at refl
        (record { more = 1; since = 0; sim = live (evaluating 0 sum (Test sum body) frames vars out (omega arith) (moved count k [] vars out k.a start (k.made + 1) h) (has_front code start (sum_code sum) _ loop.here) loop.sum_ok takes); bound = omega arith })

    -- a turn of a live state within its budget
    pub turn_live : (since : ℕ) (c : Config) → Live code count k since c → Turned code count k since (turn code k) c
    turn_live since c (going frames vars out h lead) = turn_next frames vars out h lead
    turn_live since c (opening x sum frames vars out h at lt ok lead) = turn_opening x sum frames vars out h at lt ok lead
    turn_live since c (opened x sum frames vars out h a at lt ok take) = turn_opened x sum frames vars out h a at lt ok take
    turn_live since c (evaluating s sum purpose frames vars out le h at ok take) = turn_sum s sum purpose frames vars out le h at ok take
    turn_live since c (loading s x terms span purpose frames vars out le h a lt at rem) = turn_loading s x terms span purpose frames vars out le h a lt at rem
    turn_live since c (extending left terms span purpose frames vars out h a rem) = turn_extending left terms span purpose frames vars out h a rem
    turn_live since c (waiting left op atom terms span purpose frames vars out h at ok rem) = turn_waiting left op atom terms span purpose frames vars out h at ok rem
    turn_live since c (fetching left op y terms span purpose frames vars out h a lt at rem) = turn_fetching left op y terms span purpose frames vars out h a lt at rem
    turn_live since c (ready s left op atom terms span purpose frames vars out le h a at rem) = turn_ready s left op atom terms span purpose frames vars out le h a at rem
    turn_live since c (combining s left op atom terms span purpose frames vars out le h b a at rem) = turn_combining s left op atom terms span purpose frames vars out le h b a at rem
    turn_live since c (giving z span purpose frames vars out h a take) = turn_giving z span purpose frames vars out h a take
    turn_live since c (storing x z span frames vars out h b a lt at lead) = turn_storing x z span frames vars out h b a lt at lead
