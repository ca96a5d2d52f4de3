-- The access of a turn, and what the turn leaves of the worker's registers, entries and lists.
use Rattle.std.specs.Prelude.{ℕ, ◌+◌, ◌-◌, ◌%◌, ◌^◌, Bool, true, false, ◌&&◌, nat_lt, nat_le, ◌==◌, if◌then◌else◌, List, [], ◌∷◌, ◌++◌, length, Option, Some, None, ℤ, pos, slice_get}
use Rattle.co_base.specs.Integers.{arith_of, convert_of, held_by, word_of}
use Rattle.co_base.specs.declared.kinds.AtomicKind.{AtomicKind}
use Rattle.co_base.specs.declared.kinds.Limit.TheVariants as limit
use Rattle.co_base.specs.declared.kinds.Num.{Num}
use Rattle.co_base.specs.declared.kinds.Num.TheVariants as num
use Rattle.co_base.specs.declared.kinds.Op.{Op}
use Rattle.co_base.specs.declared.kinds.Op.TheVariants as operator
use Rattle.co_base.specs.declared.kinds.Print.{Print}
use Rattle.co_base.specs.declared.kinds.Print.TheVariants as print
use Rattle.co_base.specs.declared.kinds.Thrown.TheVariants as thrown
use Rattle.co_base.specs.declared.kinds.Undef.TheVariants.{U1, U2, U3, U5, U11, U12}
use Rattle.co_base.specs.declared.span.Span.{Span}
use Rattle.co_code.specs.declared.image.FuncCode.{FuncCode}
use Rattle.co_code.specs.declared.image.Image.{Image}
use Rattle.co_code.specs.declared.image.PointCode.{PointCode}
use Rattle.co_code.specs.declared.instr.Instr.{Instr}
use Rattle.co_code.specs.declared.instr.Instr.TheVariants as op
use Rattle.co_code.specs.declared.instr.Register.{Register}
use Rattle.co_machine.specs.declared.due.Due.{Due}
use Rattle.co_machine.specs.declared.due.Due.TheVariants as act
use Rattle.co_machine.specs.declared.due.Woken.{Woken}
use Rattle.co_machine.specs.declared.due.Woken.TheVariants.{At, Not}
use Rattle.co_machine.specs.declared.limits.Limits.{Limits}
use Rattle.co_machine.specs.declared.state.Control.{Control}
use Rattle.co_machine.specs.declared.state.Entry.{Entry}
use Rattle.co_machine.specs.declared.state.Going.{Going}
use Rattle.co_machine.specs.declared.state.Going.TheVariants.{Nothing, Exception, Exit}
use Rattle.co_machine.specs.declared.state.Next.TheVariants as ahead
use Rattle.co_machine.specs.declared.state.Registers.{Registers}
use Rattle.co_machine.specs.declared.stop.Looked.{Looked}
use Rattle.co_machine.specs.declared.stop.Looked.TheVariants as looked
use Rattle.co_machine.specs.declared.stop.Posted.{Posted}
use Rattle.co_machine.specs.declared.stop.Posted.TheVariants as posted
use Rattle.co_machine.specs.declared.stop.StopKind.TheVariants as stop
use Rattle.co_words.specs.declared.access.Access.{Access}
use Rattle.co_words.specs.declared.access.Access.TheVariants as access
use Rattle.co_machine.specs.Check.{asked}
use Rattle.co_machine.specs.Rows.{pool, met, begun, searched}
use Rattle.co_words.specs.Storage.{given, without}
use Rattle.co_machine.specs.Values.{wrap, nowhere, span_at, register, with_register, packed, unpacked, exception, thrown_of, serial_in, final_in}

-- ---- the access

-- the board's cell of that number
abbrev pub cell : ℕ → ℕ
cell n = 16 + n

-- the cell that a post tries
abbrev pub post_cell : Control → ℕ
post_cell k = (k.post + k.tried) % 2 ^ 16

abbrev pub ask_of : Instr → Control → Option Access
ask_of (op.Load num) k = Some (access.Load k.registers.a)
ask_of (op.Store num) k = Some (access.Store k.registers.b k.registers.a)
ask_of op.Push k = Some (access.Store k.sp k.registers.a)
ask_of (op.Pop r) k = Some (access.Load (k.sp - 1))
ask_of op.MainRet k = Some (access.Store 5 1)
ask_of op.Take k = Some (access.Add 3 (asked k + 1))
ask_of op.Give k = Some (access.Swap (k.registers.a - 1) 0)
ask_of op.Number k = Some (access.Add 4 1)
ask_of op.AwaitBool k = Some (access.Cas k.top.place k.top.word 0)
ask_of op.Unpark k = Some (access.Cas k.top.place k.top.word 0)
ask_of op.AwaitHandle k = Some (access.Swap k.registers.a 0)
ask_of op.Resume k = Some (access.Swap k.registers.a 0)
ask_of op.Destroy k = Some (access.Swap k.registers.a 0)
ask_of op.Done k = Some (access.Load k.registers.a)
ask_of op.Post k = Some (access.Cas (cell (post_cell k)) 0 k.registers.a)
ask_of (op.ALoad t) k = Some (access.Load k.registers.a)
ask_of (op.AStore t) k = Some (access.Store k.registers.b (packed t k.registers.a))
ask_of (op.ASwap t) k = Some (access.Swap k.registers.b (packed t k.registers.a))
ask_of (op.AAdd t) k = Some (access.Add k.registers.b (packed t k.registers.a))
ask_of (op.ACas t) k = Some (access.Cas k.registers.b (packed t k.registers.c) (packed t k.registers.a))
ask_of op.Print k = Some (access.Add 1 1)
ask_of (op.Lit n) k = Some (access.Add 1 1)
ask_of i k = None

-- the access of what is due, or none
abbrev pub ask_due : Due → Control → Option Access
ask_due (act.Stamp kind) k = Some (access.Add 1 1)
ask_due (act.Halt stamp kind) k = Some (access.Store 2 1)
ask_due act.LoadStop k = Some (access.Load 2)
ask_due act.LookStop k = Some (access.Load 2)
ask_due act.LookMain k = Some (access.Load 5)
ask_due act.LookCell k = Some (access.Swap (cell k.look) 0)
ask_due (act.ResumeTaken handle) k = Some (access.Swap handle 0)
ask_due (act.Park word) k = Some (access.Store k.fp word)
ask_due (act.Do i) k = ask_of i k
ask_due d k = None

-- ---- small changes

-- to the next instruction
abbrev pub onward : Control → Control
onward k = record k { pc = k.pc + 1 }

abbrev pub set_a : ℕ → Control → Control
set_a n k = record k { registers = record k.registers { a = n }; pc = k.pc + 1 }

abbrev pub set_registers : Registers → Control → Control
set_registers r k = record k { registers = r; pc = k.pc + 1 }

abbrev pub set_b : ℕ → Control → Control
set_b n k = record k { registers = record k.registers { b = n }; pc = k.pc + 1 }

abbrev pub moved : Register → Register → Control → Control
moved to from k = set_registers (with_register to (register from k.registers) k.registers) k

abbrev pub popped : Register → Control → ℕ → Control
popped to k old = record k { registers = with_register to old k.registers; sp = k.sp - 1; pc = k.pc + 1 }

abbrev pub jumped : ℕ → Control → Control
jumped place k = record k { pc = place }

abbrev pub branched : ℕ → Control → Control
branched place k = if k.registers.a == 0 then jumped place k else onward k

-- a compare_exchange tells whether it found what was expected, and what it found
abbrev pub exchanged : AtomicKind → Control → ℕ → Control
exchanged kind k old =
    set_registers (record k.registers { a = if old == packed kind k.registers.c then 1 else 0; c = unpacked kind old }) k

-- ---- integers

-- a shift's count keeps its own type
abbrev pub counted_or_converted : Op → Num → ℕ → ℤ
counted_or_converted operator.Shl num n = held_by n
counted_or_converted operator.Shr num n = held_by n
counted_or_converted op num n = convert_of num (held_by n)

abbrev pub set_result : Option ℤ → Span → Control → Control
set_result (Some v) at k = set_a (word_of v) k
set_result None at k = met (stop.Undefined U5 at) k

abbrev pub computing : Op → Num → Span → Control → Control
computing op num.Bool at k = met (stop.Undefined U12 at) k
computing op num at k =
    set_result (arith_of op num (convert_of num (held_by k.registers.b)) (counted_or_converted op num k.registers.a)) at k

-- the word, converted to the type
abbrev pub converted_word : Num → ℕ → ℕ
converted_word num n = word_of (convert_of num (held_by n))

-- the input of that number, or 0 where it is outside the list
abbrev pub or_zero : Option ℤ → ℤ
or_zero (Some v) = v
or_zero None = pos 0

-- ---- control entries

-- a call: the frame's words stand above the stack's top
abbrev pub called : ℕ → ℕ → Control → Control
called entry words k = record k {
  below = k.top ∷ k.below;
  top = record {
    return_to = k.pc + 1;
    return_fp = k.fp;
    return_sp = k.sp;
    base = k.sp + words;
    result = k.registers.d;
    serial = 0;
    place = 0;
    word = 0;
    going = Nothing;
    origin = 0;
    row = 0;
  };
  fp = k.sp;
  sp = k.sp + words;
  pc = entry;
}

-- an entry more for the frame at this handle, whose pushed words begin at sp
abbrev pub entered : ℕ → ℕ → ℕ → Control → Control
entered back handle serial k = record k {
  below = k.top ∷ k.below;
  top = record {
    return_to = back;
    return_fp = k.fp;
    return_sp = k.sp;
    base = k.sp;
    result = 0;
    serial = serial;
    place = 0;
    word = 0;
    going = Nothing;
    origin = 0;
    row = 0;
  };
  fp = handle;
}

-- a return that has no caller goes back to looking
abbrev pub returned_to : List Entry → Control → Control
returned_to [] k = k
returned_to (e ∷ below) k = record k {
  top = e;
  below = below;
  fp = k.top.return_fp;
  sp = k.top.return_sp;
  pc = k.top.return_to;
  next = if k.top.return_to == pool then ahead.LookStop else k.next;
}

abbrev pub returned : Control → Control
returned k = returned_to k.below k

-- the worker's own entry, as it was when the worker began
abbrev pub base_entry : ℕ → Entry
base_entry at = record {
  return_to = pool;
  return_fp = at;
  return_sp = at;
  base = at;
  result = 0;
  serial = 0;
  place = 0;
  word = 0;
  going = Nothing;
  origin = 0;
  row = 0;
}

-- `main` has returned the low 32 bits of a
abbrev pub main_returned : Control → Control
main_returned k = record k {
  top = base_entry k.stack;
  below = [];
  fp = k.stack;
  sp = k.stack;
  main_value = Some (convert_of num.Int (held_by k.registers.a));
  next = ahead.LookStop;
}

-- ---- exceptions

abbrev pub newest_or_null : List Registers → Registers
newest_or_null [] = record { a = 0; b = 0; c = 0; d = 0 }
newest_or_null (v ∷ handled) = v

-- `throw;` throws the newest handled exception again, and terminates where none is handled
abbrev pub rethrown : List Registers → List FuncCode → Span → Control → Control
rethrown [] funcs at k = met (stop.Uncaught thrown.None) k
rethrown (v ∷ handled) funcs at k = begun (Exception v) funcs at k

abbrev pub handling : Registers → Control → Control
handling v k =
    if nat_lt (length k.handled) 1024
    then record k { registers = v; handled = v ∷ k.handled; top = record k.top { going = Nothing }; pc = k.pc + 1 }
    else met (stop.Limit limit.Handled) k

-- a handler takes over the exception that is under way
abbrev pub caught : Going → Span → Control → Control
caught (Exception v) at k = handling v k
caught way at k = met (stop.Undefined U12 at) k

abbrev pub terminated : Control → Control
terminated k = met (stop.Uncaught (thrown_of (newest_or_null k.handled))) k

abbrev pub uncaught_again : List Registers → Span → Control → Control
uncaught_again [] at k = met (stop.Undefined U12 at) k
uncaught_again (v ∷ handled) at k = record k { handled = handled; pc = k.pc + 1 }

-- ---- storage

abbrev pub set_block : ℕ → ℕ → Control → Control
set_block size before k = record k { registers = record k.registers { a = size; b = before }; pc = k.pc + 1 }

-- the words from the old break on, one of them for the size, if they end at the last word or before
abbrev pub taken_from : ℕ → Limits → Control → Control
taken_from old limits k =
    if nat_le (old + (asked k + 1)) limits.words then set_block (asked k) old k else met (stop.Limit limit.Store) k

-- a spare block of that size is used again
abbrev pub reused : ℕ → ℕ → Control → Control
reused size place k = set_block size (place - 1) (record k { spare = without size k.spare })

-- the block of the size that its size word told
abbrev pub given_back : ℕ → Limits → Span → Control → Control
given_back old limits at k =
    if nat_lt 0 old && nat_le old limits.words
    then record k { spare = given (record { size = old; place = k.registers.a }) k.spare; pc = k.pc + 1 }
    else met (stop.Undefined U11 at) k

-- ---- coroutines

abbrev pub pointed : Option PointCode → Bool → ℕ → Woken
pointed None destroys word = Not U12
pointed (Some p) destroys word =
    if destroys then At p.cleanup else (if final_in word then Not U2 else At p.resume)

-- what a swap of a state word finds: 0 in a coroutine that runs or has ended, else the point after its number in the word
abbrev pub woken : List PointCode → Bool → ℕ → Woken
woken points destroys word =
    if word == 0 then Not U1 else
    (if word % 2 ^ 16 == 0 then Not U12 else pointed (slice_get points (word % 2 ^ 16 - 1)) destroys word)

-- the frame at the handle goes on in an entry of its own
abbrev pub resumed : Woken → ℕ → ℕ → ℕ → Span → Control → Control
resumed (At place) back handle word at k = jumped place (entered back handle (serial_in word) k)
resumed (Not u) back handle word at k = met (stop.Undefined u at) k

-- the resume of a taken handle has no caller and no place in the file
abbrev pub taken_resumed : Image → ℕ → Control → ℕ → Control
taken_resumed image handle k old =
    resumed (woken image.points false old) pool handle old nowhere (record k { taken = 0; next = ahead.Instruction })

-- the frame at the handle goes on in the place of the parked entry
abbrev pub transferred : Woken → ℕ → ℕ → Span → Control → Control
transferred (At place) handle word at k = record k {
  top = record k.top { serial = serial_in word; word = 0; going = Nothing };
  fp = handle;
  sp = k.top.base;
  pc = place;
}
transferred (Not u) handle word at k = met (stop.Undefined u at) k

-- the state word was stored: the entry is parked with it
abbrev pub parked_with : ℕ → Control → Control
parked_with word k = record k { top = record k.top { place = k.fp; word = word; serial = k.top.serial % 2 ^ 46 + 1 }; pc = k.pc + 1 }

-- the suspension is taken back, if the parked word still stood there
abbrev pub unparked : ℕ → Span → Control → Control
unparked old at k =
    if old == k.top.word
    then record k { top = record k.top { word = 0 }; fp = k.top.place; sp = k.top.base; pc = k.pc + 1 }
    else met (stop.Undefined U1 at) k

-- a coroutine that runs or has ended isn't done
abbrev pub told_done : ℕ → Span → Control → Control
told_done old at k =
    if old == 0 then met (stop.Undefined U3 at) k else set_a (if final_in old then 1 else 0) k

-- ---- the board

-- a post's cell: empty, it took the handle; else the next is tried, until all were full
abbrev pub post_answer : ℕ → Control → Posted
post_answer old k = if old == 0 then posted.Done else (if k.tried == 65535 then posted.Full else posted.Next)

abbrev pub post_cell_tried : ℕ → Control → Control
post_cell_tried old k =
    if old == 0 then record k { post = (post_cell k + 1) % 2 ^ 16; tried = 0 } else
    (if k.tried == 65535 then record k { tried = 0 } else record k { tried = k.tried + 1 })

abbrev pub after_post : Posted → Control → Control
after_post posted.Done k = onward k
after_post posted.Next k = k
after_post posted.Full k = met (stop.Limit limit.Board) k

-- a look's cell: a handle in it ends the look; else the next is looked at, until all were empty
abbrev pub look_answer : ℕ → Control → Looked
look_answer old k = if old == 0 then (if k.zeros == 65535 then looked.Empty else looked.Next) else looked.Found old

abbrev pub look_cell_seen : ℕ → Control → Control
look_cell_seen old k =
    if old == 0 then (if k.zeros == 65535 then record k { look = (k.look + 1) % 2 ^ 16; zeros = 0 } else record k { look = (k.look + 1) % 2 ^ 16; zeros = k.zeros + 1 })
    else record k { look = (k.look + 1) % 2 ^ 16; zeros = 0 }

abbrev pub after_look : Looked → Control → Control
after_look (looked.Found handle) k = record k { taken = handle; next = ahead.Taken }
after_look looked.Next k = k
after_look looked.Empty k = record k { next = ahead.LookStop }

-- the load of word 2: another word than 0 is a stop of another worker
abbrev pub stop_loaded : Control → ℕ → Control
stop_loaded k old = if old == 0 then k else record k { next = ahead.Seen }

abbrev pub stop_looked : Control → ℕ → Control
stop_looked k old = record k { next = if old == 0 then ahead.LookMain else ahead.Seen }

-- ---- prints

abbrev pub printed : ℕ → Print → Control → Control
printed stamp what k = record k { prints = k.prints ++ (stamp, what) ∷ []; pc = k.pc + 1 }

-- ---- each instruction

-- an instruction, whose access found the word old; `at` is its place in the file
abbrev pub effect_of : Image → List ℤ → Limits → Span → Instr → Control → ℕ → Control
effect_of image inputs limits at (op.Const v) k old = set_a (word_of v) k
effect_of image inputs limits at (op.Move to from) k old = moved to from k
effect_of image inputs limits at (op.Convert num) k old = set_a (converted_word num k.registers.a) k
effect_of image inputs limits at (op.Arith operator num) k old = computing operator num at k
effect_of image inputs limits at (op.Slot n) k old = set_a (wrap (k.fp + n)) k
effect_of image inputs limits at (op.Global n) k old = set_a (65552 + n) k
effect_of image inputs limits at (op.Field n) k old = set_a (wrap (k.registers.a + n)) k
effect_of image inputs limits at (op.Load num) k old = set_a (converted_word num old) k
effect_of image inputs limits at (op.Store num) k old = onward k
effect_of image inputs limits at op.Push k old = record k { sp = k.sp + 1; pc = k.pc + 1 }
effect_of image inputs limits at (op.Pop to) k old = popped to k old
effect_of image inputs limits at (op.Drop n) k old = record k { sp = k.sp - n; pc = k.pc + 1 }
effect_of image inputs limits at (op.Jump place) k old = jumped place k
effect_of image inputs limits at (op.JumpZ place) k old = branched place k
effect_of image inputs limits at op.Ret k old = returned k
effect_of image inputs limits at op.MainRet k old = main_returned k
effect_of image inputs limits at (op.Throw kind) k old = begun (Exception (exception kind k.registers)) image.funcs at k
effect_of image inputs limits at op.Rethrow k old = rethrown k.handled image.funcs at k
effect_of image inputs limits at op.Unwind k old = searched k.top.going image.funcs at k
effect_of image inputs limits at op.Catch k old = caught k.top.going at k
effect_of image inputs limits at op.Uncatch k old = uncaught_again k.handled at k
effect_of image inputs limits at op.Current k old = set_registers (newest_or_null k.handled) k
effect_of image inputs limits at op.RePtr k old = begun (Exception k.registers) image.funcs at k
effect_of image inputs limits at op.Terminate k old = terminated k
effect_of image inputs limits at op.Take k old = taken_from old limits k
effect_of image inputs limits at op.Give k old = given_back old limits at k
effect_of image inputs limits at op.Number k old = set_a old k
effect_of image inputs limits at op.AwaitBool k old = unparked old at k
effect_of image inputs limits at op.Unpark k old = unparked old at k
effect_of image inputs limits at op.AwaitHandle k old = transferred (woken image.points false old) k.registers.a old at k
effect_of image inputs limits at op.Resume k old = resumed (woken image.points false old) (k.pc + 1) k.registers.a old at k
effect_of image inputs limits at op.Destroy k old = resumed (woken image.points true old) (k.pc + 1) k.registers.a old at k
effect_of image inputs limits at op.Done k old = told_done old at k
effect_of image inputs limits at op.Promise k old = set_a (wrap (k.registers.a + 2)) k
effect_of image inputs limits at op.FromPromise k old = set_a (k.registers.a - 2) k
effect_of image inputs limits at op.Post k old = after_post (post_answer old k) (post_cell_tried old k)
effect_of image inputs limits at (op.ALoad t) k old = set_a (unpacked t old) k
effect_of image inputs limits at (op.AStore t) k old = onward k
effect_of image inputs limits at (op.ASwap t) k old = set_a (unpacked t old) k
effect_of image inputs limits at (op.AAdd t) k old = set_a (unpacked t old) k
effect_of image inputs limits at (op.ACas t) k old = exchanged t k old
effect_of image inputs limits at op.Print k old = printed old (print.Num (held_by k.registers.a)) k
effect_of image inputs limits at (op.Lit n) k old = printed old (print.Lit n) k
effect_of image inputs limits at op.Input k old = set_a (word_of (or_zero (slice_get inputs k.registers.a))) k
effect_of image inputs limits at op.Inputs k old = set_a (length inputs) k
effect_of image inputs limits at (op.AtSlot n) k old = set_b (wrap (k.fp + n)) k
effect_of image inputs limits at (op.Top n) k old = set_a (k.sp - n) k
effect_of image inputs limits at (op.Raise n) k old = record k { sp = k.sp + n; pc = k.pc + 1 }
effect_of image inputs limits at op.ResultAt k old = set_a k.top.result k
effect_of image inputs limits at (op.Exit place) k old = begun (Exit place k.registers) image.funcs at k
effect_of image inputs limits at (op.Begin place) k old = jumped place (entered (k.pc + 1) k.registers.a 0 k)
effect_of image inputs limits at i k old = onward k

-- what is due, whose access found the word old
abbrev pub effect : Image → List ℤ → Limits → Due → Control → ℕ → Control
effect image inputs limits act.Rest k old = k
effect image inputs limits (act.Stamp kind) k old = record k { next = ahead.Halt old kind }
effect image inputs limits (act.Halt stamp kind) k old = record k { next = ahead.Stopped stamp kind }
effect image inputs limits act.LoadStop k old = stop_loaded k old
effect image inputs limits act.LookStop k old = stop_looked k old
effect image inputs limits act.LookMain k old = record k { seen_main = old; zeros = 0; next = ahead.LookCell }
effect image inputs limits act.LookCell k old = after_look (look_answer old k) (look_cell_seen old k)
effect image inputs limits act.Spent k old = met stop.Budget k
effect image inputs limits (act.Meet kind) k old = met kind k
effect image inputs limits act.PassTaken k old = record k { taken = 0; next = ahead.LookStop }
effect image inputs limits (act.ResumeTaken handle) k old = taken_resumed image handle k old
effect image inputs limits act.Pass k old = onward k
effect image inputs limits (act.Reuse size place) k old = reused size place k
effect image inputs limits (act.Call entry words) k old = called entry words k
effect image inputs limits (act.Park word) k old = parked_with word k
effect image inputs limits (act.Do i) k old = effect_of image inputs limits (span_at image k.pc) i k old
