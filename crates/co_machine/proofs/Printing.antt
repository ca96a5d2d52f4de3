-- What a turn adds to the prints.
use Rattle.std.proofs.Common.{◌≡◌, ℕ, ◌+◌, ◌%◌, ◌^◌, ◌≤◌, Bool, true, false, List, [], ◌∷◌, ◌++◌, Option, Some, None, refl, sym, subst, append-nil}
use Rattle.std.specs.Prelude.{ℤ, ◌==◌, ◌&&◌, nat_lt, nat_le, if◌then◌else◌, length}
use Rattle.co_base.specs.Integers.{arith_of, convert_of, held_by}
use Rattle.co_base.specs.declared.kinds.Limit.TheVariants as limit
use Rattle.co_base.specs.declared.kinds.Num.{Num}
use Rattle.co_base.specs.declared.kinds.Num.TheVariants as num
use Rattle.co_base.specs.declared.kinds.Op.{Op}
use Rattle.co_base.specs.declared.kinds.Print.{Print}
use Rattle.co_base.specs.declared.kinds.Print.TheVariants as print
use Rattle.co_base.specs.declared.kinds.Undef.TheVariants.{U1, U3, U11}
use Rattle.co_base.specs.declared.span.Span.{Span}
use Rattle.co_code.specs.declared.image.FuncCode.{FuncCode}
use Rattle.co_code.specs.declared.image.Image.{Image}
use Rattle.co_code.specs.declared.image.RowKind.{RowKind}
use Rattle.co_code.specs.declared.image.RowKind.TheVariants.{Border, Catch, Cleanup}
use Rattle.co_code.specs.declared.instr.Instr.{Instr}
use Rattle.co_code.specs.declared.instr.Instr.TheVariants as op
use Rattle.co_machine.specs.declared.due.Due.{Due}
use Rattle.co_machine.specs.declared.due.Due.TheVariants as act
use Rattle.co_machine.specs.declared.due.Found.{Found}
use Rattle.co_machine.specs.declared.due.Woken.{Woken}
use Rattle.co_machine.specs.declared.due.Woken.TheVariants.{At, Not}
use Rattle.co_machine.specs.declared.limits.Limits.{Limits}
use Rattle.co_machine.specs.declared.state.Control.{Control}
use Rattle.co_machine.specs.declared.state.Entry.{Entry}
use Rattle.co_machine.specs.declared.state.Going.{Going}
use Rattle.co_machine.specs.declared.state.Going.TheVariants.{Nothing, Exception, Exit}
use Rattle.co_machine.specs.declared.state.Next.TheVariants as ahead
use Rattle.co_machine.specs.declared.state.Registers.{Registers}
use Rattle.co_machine.specs.declared.stop.Looked.{Looked}
use Rattle.co_machine.specs.declared.stop.Looked.TheVariants as looked
use Rattle.co_machine.specs.declared.stop.Posted.{Posted}
use Rattle.co_machine.specs.declared.stop.Posted.TheVariants as posted
use Rattle.co_machine.specs.declared.stop.StopKind.TheVariants as stop
use Rattle.co_words.specs.declared.access.Access.TheVariants.{Add}
use Rattle.co_words.specs.Storage.{given}
use Rattle.co_machine.specs.Check.{asked}
use Rattle.co_machine.specs.Effect.{onward, jumped, set_a, set_block, set_result, counted_or_converted, computing, branched, returned_to, caught, rethrown, uncaught_again, taken_from, given_back, woken, resumed, transferred, unparked, told_done, post_answer, post_cell, post_cell_tried, after_post, look_answer, look_cell_seen, after_look, stop_loaded, effect_of, effect, ask_due}
use Rattle.co_machine.specs.Laws.{new_prints, NoneAbove, NoneBelow, NeverFall, PrintsGrow, StampsNeverFall}
use Rattle.co_machine.specs.Rows.{pool, met, found_for, uncaught, reached, reached_or, left_for, raised, exited, searched, started, begun}
use Rattle.co_machine.specs.Turn.{due}
use Rattle.co_machine.specs.Values.{nowhere, span_at, exception, final_in}

-- ---- what adds no print

either : (b : Bool) (k x y : Control) → x.prints ≡ k.prints → y.prints ≡ k.prints → (if b then x else y).prints ≡ k.prints
either true k x y h j = h
either false k x y h j = j

result_keeps : (v : Option ℤ) (at : Span) (k : Control) → (set_result v at k).prints ≡ k.prints
result_keeps (Some v) at k = refl
result_keeps None at k = refl

computing_keeps : (operator : Op) (n : Num) (at : Span) (k : Control) → (computing operator n at k).prints ≡ k.prints
computing_keeps operator num.Bool at k = refl
computing_keeps operator num.Int at k =
    result_keeps (arith_of operator num.Int (convert_of num.Int (held_by k.registers.b)) (counted_or_converted operator num.Int k.registers.a)) at k
computing_keeps operator num.Long at k =
    result_keeps (arith_of operator num.Long (convert_of num.Long (held_by k.registers.b)) (counted_or_converted operator num.Long k.registers.a)) at k
computing_keeps operator num.Size at k =
    result_keeps (arith_of operator num.Size (convert_of num.Size (held_by k.registers.b)) (counted_or_converted operator num.Size k.registers.a)) at k

return_keeps : (below : List Entry) (k : Control) → (returned_to below k).prints ≡ k.prints
return_keeps [] k = refl
return_keeps (e ∷ below) k = refl

reached_keeps : (kind : RowKind) (v : Registers) (f : Found) (k : Control) → (reached kind v f k).prints ≡ k.prints
reached_keeps Border v f k = refl
reached_keeps Cleanup v f k = refl
reached_keeps (Catch of) v f k = refl

reached_or_keeps : (found : Option Found) (v : Registers) (k passed : Control) → passed.prints ≡ k.prints → (reached_or found v k passed).prints ≡ k.prints
reached_or_keeps (Some f) v k passed h = reached_keeps f.row.kind v f k
reached_or_keeps None v k passed h = h

raised_keeps : (funcs : List FuncCode) (v : Registers) (below : List Entry) (k : Control) → (raised funcs v below k).prints ≡ k.prints
raised_keeps funcs v [] k = reached_or_keeps (found_for funcs k.top) v k (uncaught v k) refl
raised_keeps funcs v (e ∷ below) k =
    let on = left_for v e below k in
    reached_or_keeps (found_for funcs k.top) v k (if k.top.return_to == pool then uncaught v k else raised funcs v below on) (either (k.top.return_to == pool) k (uncaught v k) (raised funcs v below on) refl (raised_keeps funcs v below on))

exited_keeps : (found : Option Found) (place : ℕ) (r : Registers) (k : Control) → (exited found place r k).prints ≡ k.prints
exited_keeps (Some f) place r k = refl
exited_keeps None place r k = refl

searched_keeps : (way : Going) (funcs : List FuncCode) (at : Span) (k : Control) → (searched way funcs at k).prints ≡ k.prints
searched_keeps Nothing funcs at k = refl
searched_keeps (Exception v) funcs at k = raised_keeps funcs v k.below k
searched_keeps (Exit place r) funcs at k = exited_keeps (found_for funcs k.top) place r k

begun_keeps : (way : Going) (funcs : List FuncCode) (at : Span) (k : Control) → (begun way funcs at k).prints ≡ k.prints
begun_keeps way funcs at k = searched_keeps way funcs at (started way k)

rethrown_keeps : (handled : List Registers) (funcs : List FuncCode) (at : Span) (k : Control) → (rethrown handled funcs at k).prints ≡ k.prints
rethrown_keeps [] funcs at k = refl
rethrown_keeps (v ∷ handled) funcs at k = begun_keeps (Exception v) funcs at k

caught_keeps : (way : Going) (at : Span) (k : Control) → (caught way at k).prints ≡ k.prints
caught_keeps Nothing at k = refl
caught_keeps (Exit place r) at k = refl
caught_keeps (Exception v) at k =
    either (nat_lt (length k.handled) 1024) k (record k { registers = v; handled = v ∷ k.handled; top = record k.top { going = Nothing }; pc = k.pc + 1 }) (met (stop.Limit limit.Handled) k) refl refl

uncatch_keeps : (handled : List Registers) (at : Span) (k : Control) → (uncaught_again handled at k).prints ≡ k.prints
uncatch_keeps [] at k = refl
uncatch_keeps (v ∷ handled) at k = refl

taken_keeps : (old : ℕ) (limits : Limits) (k : Control) → (taken_from old limits k).prints ≡ k.prints
taken_keeps old limits k =
    either (nat_le (old + (asked k + 1)) limits.words) k (set_block (asked k) old k) (met (stop.Limit limit.Store) k) refl refl

given_keeps : (old : ℕ) (limits : Limits) (at : Span) (k : Control) → (given_back old limits at k).prints ≡ k.prints
given_keeps old limits at k =
    either (nat_lt 0 old && nat_le old limits.words) k (record k { spare = given (record { size = old; place = k.registers.a }) k.spare; pc = k.pc + 1 }) (met (stop.Undefined U11 at) k) refl refl

unparked_keeps : (old : ℕ) (at : Span) (k : Control) → (unparked old at k).prints ≡ k.prints
unparked_keeps old at k =
    either (old == k.top.word) k (record k { top = record k.top { word = 0 }; fp = k.top.place; sp = k.top.base; pc = k.pc + 1 }) (met (stop.Undefined U1 at) k) refl refl

resumed_keeps : (found : Woken) (back handle word : ℕ) (at : Span) (k : Control) → (resumed found back handle word at k).prints ≡ k.prints
resumed_keeps (At place) back handle word at k = refl
resumed_keeps (Not u) back handle word at k = refl

transferred_keeps : (found : Woken) (handle word : ℕ) (at : Span) (k : Control) → (transferred found handle word at k).prints ≡ k.prints
transferred_keeps (At place) handle word at k = refl
transferred_keeps (Not u) handle word at k = refl

told_keeps : (old : ℕ) (at : Span) (k : Control) → (told_done old at k).prints ≡ k.prints
told_keeps old at k =
    either (old == 0) k (met (stop.Undefined U3 at) k) (set_a (if final_in old then 1 else 0) k) refl refl

tried_keeps : (old : ℕ) (k : Control) → (post_cell_tried old k).prints ≡ k.prints
tried_keeps old k =
    let full = record k { tried = 0 } in
    let next = record k { tried = k.tried + 1 } in
    either (old == 0) k (record k { post = (post_cell k + 1) % 2 ^ 16; tried = 0 }) (if k.tried == 65535 then full else next) refl (either (k.tried == 65535) k full next refl refl)

posted_keeps : (p : Posted) (k m : Control) → m.prints ≡ k.prints → (after_post p m).prints ≡ k.prints
posted_keeps posted.Done k m h = h
posted_keeps posted.Next k m h = h
posted_keeps posted.Full k m h = h

seen_keeps : (old : ℕ) (k : Control) → (look_cell_seen old k).prints ≡ k.prints
seen_keeps old k =
    let last = record k { look = (k.look + 1) % 2 ^ 16; zeros = 0 } in
    let next = record k { look = (k.look + 1) % 2 ^ 16; zeros = k.zeros + 1 } in
    either (old == 0) k (if k.zeros == 65535 then last else next) last (either (k.zeros == 65535) k last next refl refl) refl

looked_keeps : (p : Looked) (k m : Control) → m.prints ≡ k.prints → (after_look p m).prints ≡ k.prints
looked_keeps (looked.Found handle) k m h = h
looked_keeps looked.Next k m h = h
looked_keeps looked.Empty k m h = h

-- ---- each turn

more : (k m : Control) → m.prints ≡ k.prints → m.prints ≡ k.prints ++ []
more k m h = subst (λ (l : List (ℕ × Print)). m.prints ≡ l) (sym (append-nil k.prints)) h

made_prints : (image : Image) (inputs : List ℤ) (limits : Limits) (at : Span) (i : Instr) (k : Control) (old : ℕ) → (effect_of image inputs limits at i k old).prints ≡ k.prints ++ new_prints (act.Do i) k old
made_prints image inputs limits at op.Print k old = refl
made_prints image inputs limits at (op.Lit n) k old = refl
made_prints image inputs limits at (op.Arith operator n) k old = more k (computing operator n at k) (computing_keeps operator n at k)
made_prints image inputs limits at (op.JumpZ place) k old =
    more k (branched place k) (either (k.registers.a == 0) k (jumped place k) (onward k) refl refl)
made_prints image inputs limits at op.Ret k old = more k (returned_to k.below k) (return_keeps k.below k)
made_prints image inputs limits at (op.Throw kind) k old =
    let way = Exception (exception kind k.registers) in
    more k (begun way image.funcs at k) (begun_keeps way image.funcs at k)
made_prints image inputs limits at op.Rethrow k old =
    more k (rethrown k.handled image.funcs at k) (rethrown_keeps k.handled image.funcs at k)
made_prints image inputs limits at op.Unwind k old =
    more k (searched k.top.going image.funcs at k) (searched_keeps k.top.going image.funcs at k)
made_prints image inputs limits at op.Catch k old = more k (caught k.top.going at k) (caught_keeps k.top.going at k)
made_prints image inputs limits at op.Uncatch k old = more k (uncaught_again k.handled at k) (uncatch_keeps k.handled at k)
made_prints image inputs limits at op.RePtr k old =
    more k (begun (Exception k.registers) image.funcs at k) (begun_keeps (Exception k.registers) image.funcs at k)
made_prints image inputs limits at op.Take k old = more k (taken_from old limits k) (taken_keeps old limits k)
made_prints image inputs limits at op.Give k old = more k (given_back old limits at k) (given_keeps old limits at k)
made_prints image inputs limits at op.AwaitBool k old = more k (unparked old at k) (unparked_keeps old at k)
made_prints image inputs limits at op.Unpark k old = more k (unparked old at k) (unparked_keeps old at k)
made_prints image inputs limits at op.AwaitHandle k old =
    let found = woken image.points false old in
    more k (transferred found k.registers.a old at k) (transferred_keeps found k.registers.a old at k)
made_prints image inputs limits at op.Resume k old =
    let found = woken image.points false old in
    more k (resumed found (k.pc + 1) k.registers.a old at k) (resumed_keeps found (k.pc + 1) k.registers.a old at k)
made_prints image inputs limits at op.Destroy k old =
    let found = woken image.points true old in
    more k (resumed found (k.pc + 1) k.registers.a old at k) (resumed_keeps found (k.pc + 1) k.registers.a old at k)
made_prints image inputs limits at op.Done k old = more k (told_done old at k) (told_keeps old at k)
made_prints image inputs limits at op.Post k old =
    more k (after_post (post_answer old k) (post_cell_tried old k)) (posted_keeps (post_answer old k) k (post_cell_tried old k) (tried_keeps old k))
made_prints image inputs limits at (op.Exit place) k old =
    let way = Exit place k.registers in
    more k (begun way image.funcs at k) (begun_keeps way image.funcs at k)
made_prints image inputs limits at i k old = more k (effect_of image inputs limits at i k old) refl

prints_after : (image : Image) (inputs : List ℤ) (limits : Limits) (d : Due) (k : Control) (old : ℕ) → (effect image inputs limits d k old).prints ≡ k.prints ++ new_prints d k old
prints_after image inputs limits act.LoadStop k old =
    more k (stop_loaded k old) (either (old == 0) k k (record k { next = ahead.Seen }) refl refl)
prints_after image inputs limits act.LookCell k old =
    more k (after_look (look_answer old k) (look_cell_seen old k)) (looked_keeps (look_answer old k) k (look_cell_seen old k) (seen_keeps old k))
prints_after image inputs limits (act.ResumeTaken handle) k old =
    let found = woken image.points false old in
    let begins = record k { taken = 0; next = ahead.Instruction } in
    more k (resumed found pool handle old nowhere begins) (resumed_keeps found pool handle old nowhere begins)
prints_after image inputs limits (act.Do i) k old = made_prints image inputs limits (span_at image k.pc) i k old
prints_after image inputs limits d k old = more k (effect image inputs limits d k old) refl

pub prints_grow : PrintsGrow
prints_grow image inputs s old = prints_after image inputs s.limits (due image s) s.control old

-- ---- stamps

none_below_more : (stamp : ℕ) (prints : List (ℕ × Print)) (p : ℕ × Print) → NoneBelow stamp prints → stamp ≤ p.0 → NoneBelow stamp (prints ++ p ∷ [])
none_below_more stamp [] p h j = (j, tt)
none_below_more stamp (q ∷ prints) p h j = (h.0, none_below_more stamp prints p h.1 j)

one_more : (prints : List (ℕ × Print)) (p : ℕ × Print) → NeverFall prints → NoneAbove p.0 prints → NeverFall (prints ++ p ∷ [])
one_more [] p h j = (tt, tt)
one_more (q ∷ prints) p h j = (none_below_more q.0 prints p h.0 j.0, one_more prints p h.1 j.1)

no_more : (prints : List (ℕ × Print)) → NeverFall prints → NeverFall (prints ++ [])
no_more prints h = subst NeverFall (sym (append-nil prints)) h

in_order : (d : Due) (k : Control) (old : ℕ) → NeverFall k.prints → (ask_due d k ≡ Some (Add 1 1) → NoneAbove old k.prints) → NeverFall (k.prints ++ new_prints d k old)
in_order (act.Do op.Print) k old h j = one_more k.prints (old, print.Num (held_by k.registers.a)) h (j refl)
in_order (act.Do (op.Lit n)) k old h j = one_more k.prints (old, print.Lit n) h (j refl)
in_order (act.Do i) k old h j = no_more k.prints h
in_order d k old h j = no_more k.prints h

pub never_fall : StampsNeverFall
never_fall image inputs s old h j =
    subst NeverFall (sym (prints_grow image inputs s old)) (in_order (due image s) s.control old h j)
