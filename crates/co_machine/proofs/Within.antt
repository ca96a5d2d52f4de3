-- Each access is to one of the words.
use Rattle.std.proofs.Common.{◌≡◌, ℕ, ◌+◌, ◌-◌, ◌<◌, ◌≤◌, Bool, true, false, Option, Some, None, refl, mod-lt, arith}
use Rattle.std.specs.Prelude.{◌==◌, ◌&&◌, nat_lt, nat_le, if◌then◌else◌, length, pos, slice_get}
use Rattle.std.proofs.lemmas.Bool.{leb-true, ltb-true}
use Rattle.co_base.specs.declared.kinds.Limit.TheVariants as limit
use Rattle.co_base.specs.declared.kinds.Undef.{Undef}
use Rattle.co_base.specs.declared.kinds.Undef.TheVariants.{U4, U10, U12}
use Rattle.co_base.specs.declared.span.Span.{Span}
use Rattle.co_code.specs.declared.image.FuncCode.{FuncCode}
use Rattle.co_code.specs.declared.image.Image.{Image}
use Rattle.co_code.specs.declared.image.PointCode.{PointCode}
use Rattle.co_code.specs.declared.instr.Instr.{Instr}
use Rattle.co_code.specs.declared.instr.Instr.TheVariants as op
use Rattle.co_machine.specs.declared.due.Due.{Due}
use Rattle.co_machine.specs.declared.due.Due.TheVariants as act
use Rattle.co_machine.specs.declared.limits.Limits.{Limits}
use Rattle.co_machine.specs.declared.state.Control.{Control}
use Rattle.co_machine.specs.declared.state.Next.{Next}
use Rattle.co_machine.specs.declared.state.Next.TheVariants as ahead
use Rattle.co_machine.specs.declared.state.Tally.{Tally}
use Rattle.co_machine.specs.declared.stop.StopKind.TheVariants as stop
use Rattle.co_machine.specs.Check.{undefined, unlawful, reaching, not_null, unless_noop, below_top, above_top, entering, printing, returning, parked, not_parked, calling, asked, taking, suspending, checked, fetched, instruction_due, taken_due, due_by}
use Rattle.co_machine.specs.Effect.{ask_due, post_cell}
use Rattle.co_machine.specs.Laws.{StaysWithin}
use Rattle.co_machine.specs.Ready.{IsWithin}
use Rattle.co_machine.specs.Values.{nowhere, span_at, state_word}
use Rattle.co_words.specs.Storage.{newest_of}

-- the access of what is due is to one of so many words
abbrev In : ℕ → Due → Control → Type 0
In size d k = IsWithin (ask_due d k) size

either : (b : Bool) (size : ℕ) (x y : Due) (k : Control) → In size x k → In size y k → In size (if b then x else y) k
either true size x y k h j = h
either false size x y k h j = j

if_both : (a b : Bool) (size : ℕ) (x y : Due) (k : Control) → (a ≡ true → b ≡ true → In size x k) → In size y k → In size (if (a && b) then x else y) k
if_both true true size x y k h j = h refl refl
if_both true false size x y k h j = j
if_both false b size x y k h j = j

-- a word that a program may name
reaches : (limits : Limits) (to : ℕ) (at : Span) (d : Due) (k : Control) → (1 ≤ to → to < limits.words → In limits.words d k) → In limits.words (reaching limits to at d) k
reaches limits to at d k h =
    if_both (nat_le 65552 to) (nat_lt to limits.words) limits.words d (undefined U12 at) k (λ low high. h (omega (arith, leb-true 65552 to low)) (ltb-true to limits.words high)) tt

unless_null : (word : ℕ) (u : Undef) (at : Span) (size : ℕ) (d : Due) (k : Control) → In size d k → In size (not_null word u at d) k
unless_null word u at size d k h = either (word == 0) size (undefined u at) d k tt h

noop_or : (word size : ℕ) (x y : Due) (k : Control) → In size x k → In size y k → In size (unless_noop word x y) k
noop_or word size x y k h j = either (word == 6) size x y k h j

below : (n size : ℕ) (at : Span) (d : Due) (k : Control) → In size d k → In size (below_top n k at d) k
below n size at d k h = either (nat_le n (k.sp - k.stack)) size d (undefined U12 at) k h tt

above : (n size : ℕ) (d : Due) (k : Control) → In size d k → In size (above_top n k d) k
above n size d k h = either (nat_le n (k.stack_end - k.sp)) size d (act.Meet (stop.Limit limit.Stack)) k h tt

enters : (size : ℕ) (d : Due) (k : Control) → In size d k → In size (entering k d) k
enters size d k h = either (nat_lt (length k.below) 1023) size d (act.Meet (stop.Limit limit.Control)) k h tt

prints : (size : ℕ) (d : Due) (k : Control) → In size d k → In size (printing k d) k
prints size d k h = either (nat_lt (length k.prints) 65536) size d (act.Meet (stop.Limit limit.Prints)) k h tt

returns : (size : ℕ) (at : Span) (k : Control) → In size (returning k at) k
returns size at k = either (nat_lt 0 (length k.below)) size (act.Do op.Ret) (undefined U12 at) k tt tt

is_parked : (size : ℕ) (at : Span) (d : Due) (k : Control) → In size d k → In size (parked k at d) k
is_parked size at d k h = either (k.top.word == 0) size (undefined U12 at) d k tt h

is_not_parked : (size : ℕ) (at : Span) (d : Due) (k : Control) → In size d k → In size (not_parked k at d) k
is_not_parked size at d k h = either (k.top.word == 0) size d (undefined U12 at) k h tt

calls : (f : Option FuncCode) (size : ℕ) (k : Control) → In size (calling f k) k
calls None size k = tt
calls (Some f) size k = enters size (above_top f.words k (act.Call f.entry f.words)) k (above f.words size (act.Call f.entry f.words) k tt)

takes : (place : Option ℕ) (limits : Limits) (k : Control) → 65552 ≤ limits.words → In limits.words (taking place limits k) k
takes (Some place) limits k h = tt
takes None limits k h = either (nat_le (asked k) limits.words) limits.words (act.Do op.Take) (act.Meet (stop.Limit limit.Store)) k (omega arith, omega arith) tt

suspends : (p : Option PointCode) (n : ℕ) (limits : Limits) (k : Control) (at : Span) → In limits.words (suspending p n limits k at) k
suspends None n limits k at = tt
suspends (Some p) n limits k at =
    reaches limits k.fp at (act.Park (state_word k.top.serial n (p.resume == p.cleanup))) k (λ low high. (low, high))

-- an access to the word at a or at b
at_a : (limits : Limits) (at : Span) (d : Due) (k : Control) → (1 ≤ k.registers.a → k.registers.a < limits.words → In limits.words d k) → In limits.words (reaching limits k.registers.a at d) k
at_a limits at d k h = reaches limits k.registers.a at d k h

at_b : (limits : Limits) (at : Span) (d : Due) (k : Control) → (1 ≤ k.registers.b → k.registers.b < limits.words → In limits.words d k) → In limits.words (reaching limits k.registers.b at d) k
at_b limits at d k h = reaches limits k.registers.b at d k h

wakes : (limits : Limits) (at : Span) (d : Due) (k : Control) → (1 ≤ k.registers.a → k.registers.a < limits.words → In limits.words d k) → In limits.words (not_null k.registers.a U4 at (unless_noop k.registers.a act.Pass (reaching limits k.registers.a at (entering k d)))) k
wakes limits at d k h =
    let size = limits.words in
    let inner = reaching limits k.registers.a at (entering k d) in
    unless_null k.registers.a U4 at size (unless_noop k.registers.a act.Pass inner) k (noop_or k.registers.a size act.Pass inner k tt (at_a limits at (entering k d) k (λ low high. enters size d k (h low high))))

posts : (size : ℕ) (k : Control) → 65552 ≤ size → In size (act.Do op.Post) k
posts size k h = (omega arith, omega (arith, post_cell_small k))
  where
    post_cell_small : (k : Control) → post_cell k < 65536
    post_cell_small k = mod-lt (k.post + k.tried) (omega arith)

within_checked : (image : Image) (limits : Limits) (k : Control) (at : Span) (i : Instr) → 65552 ≤ limits.words → In limits.words (checked image limits k at i) k
within_checked image limits k at (op.Global n) h =
    either (nat_lt n (length image.globals)) limits.words (act.Do (op.Global n)) unlawful k tt tt
within_checked image limits k at op.Check h = unless_null k.registers.a U4 at limits.words act.Pass k tt
within_checked image limits k at op.CheckNew h = unless_null k.registers.a U10 at limits.words act.Pass k tt
within_checked image limits k at (op.Load num) h = at_a limits at (act.Do (op.Load num)) k (λ low high. (low, high))
within_checked image limits k at (op.Store num) h = at_b limits at (act.Do (op.Store num)) k (λ low high. (low, high))
within_checked image limits k at op.Push h =
    above 1 limits.words (reaching limits k.sp at (act.Do op.Push)) k (reaches limits k.sp at (act.Do op.Push) k (λ low high. (low, high)))
within_checked image limits k at (op.Pop r) h =
    below 1 limits.words at (reaching limits (k.sp - 1) at (act.Do (op.Pop r))) k (reaches limits (k.sp - 1) at (act.Do (op.Pop r)) k (λ low high. (low, high)))
within_checked image limits k at (op.Drop n) h = below n limits.words at (act.Do (op.Drop n)) k tt
within_checked image limits k at (op.Top n) h = below n limits.words at (act.Do (op.Top n)) k tt
within_checked image limits k at (op.Raise n) h = above n limits.words (act.Do (op.Raise n)) k tt
within_checked image limits k at (op.Call n) h = calls (slice_get image.funcs n) limits.words k
within_checked image limits k at op.Ret h = is_not_parked limits.words at (returning k at) k (returns limits.words at k)
within_checked image limits k at op.MainRet h = (omega arith, omega arith)
within_checked image limits k at op.Off h = tt
within_checked image limits k at op.RePtr h = unless_null k.registers.a U4 at limits.words (act.Do op.RePtr) k tt
within_checked image limits k at op.Take h = takes (newest_of (asked k) k.spare) limits k h
within_checked image limits k at op.Give h =
    either (k.registers.a == 0) limits.words act.Pass (reaching limits (k.registers.a - 1) at (act.Do op.Give)) k tt (reaches limits (k.registers.a - 1) at (act.Do op.Give) k (λ low high. (low, high)))
within_checked image limits k at op.Number h = (omega arith, omega arith)
within_checked image limits k at (op.Suspend n) h = suspends (slice_get image.points n) n limits k at
within_checked image limits k at op.AwaitVoid h = is_parked limits.words at (returning k at) k (returns limits.words at k)
within_checked image limits k at op.AwaitBool h =
    let taken = reaching limits k.top.place at (act.Do op.AwaitBool) in
    is_parked limits.words at (if k.registers.a == 0 then taken else returning k at) k (either (k.registers.a == 0) limits.words taken (returning k at) k (reaches limits k.top.place at (act.Do op.AwaitBool) k (λ low high. (low, high))) (returns limits.words at k))
within_checked image limits k at op.Unpark h =
    is_parked limits.words at (reaching limits k.top.place at (act.Do op.Unpark)) k (reaches limits k.top.place at (act.Do op.Unpark) k (λ low high. (low, high)))
within_checked image limits k at op.AwaitHandle h =
    let inner = reaching limits k.registers.a at (act.Do op.AwaitHandle) in
    let transfers = unless_noop k.registers.a (returning k at) inner in
    is_parked limits.words at (not_null k.registers.a U4 at transfers) k (unless_null k.registers.a U4 at limits.words transfers k (noop_or k.registers.a limits.words (returning k at) inner k (returns limits.words at k) (at_a limits at (act.Do op.AwaitHandle) k (λ low high. (low, high)))))
within_checked image limits k at op.Resume h = wakes limits at (act.Do op.Resume) k (λ low high. (low, high))
within_checked image limits k at op.Destroy h = wakes limits at (act.Do op.Destroy) k (λ low high. (low, high))
within_checked image limits k at op.Done h =
    let noop = act.Do (op.Const (pos 0)) in
    let inner = reaching limits k.registers.a at (act.Do op.Done) in
    unless_null k.registers.a U4 at limits.words (unless_noop k.registers.a noop inner) k (noop_or k.registers.a limits.words noop inner k tt (at_a limits at (act.Do op.Done) k (λ low high. (low, high))))
within_checked image limits k at op.Promise h = unless_null k.registers.a U4 at limits.words (act.Do op.Promise) k tt
within_checked image limits k at op.FromPromise h = unless_null k.registers.a U4 at limits.words (act.Do op.FromPromise) k tt
within_checked image limits k at op.Post h = unless_null k.registers.a U4 at limits.words (act.Do op.Post) k (posts limits.words k h)
within_checked image limits k at (op.ALoad t) h = at_a limits at (act.Do (op.ALoad t)) k (λ low high. (low, high))
within_checked image limits k at (op.AStore t) h = at_b limits at (act.Do (op.AStore t)) k (λ low high. (low, high))
within_checked image limits k at (op.ASwap t) h = at_b limits at (act.Do (op.ASwap t)) k (λ low high. (low, high))
within_checked image limits k at (op.AAdd t) h = at_b limits at (act.Do (op.AAdd t)) k (λ low high. (low, high))
within_checked image limits k at (op.ACas t) h = at_b limits at (act.Do (op.ACas t)) k (λ low high. (low, high))
within_checked image limits k at op.Print h = prints limits.words (act.Do op.Print) k (omega arith, omega arith)
within_checked image limits k at (op.Lit n) h =
    either (nat_lt n (length image.texts)) limits.words (printing k (act.Do (op.Lit n))) unlawful k (prints limits.words (act.Do (op.Lit n)) k (omega arith, omega arith)) tt
within_checked image limits k at (op.Begin place) h = enters limits.words (act.Do (op.Begin place)) k tt
within_checked image limits k at i h = tt

within_fetched : (image : Image) (limits : Limits) (k : Control) (i : Option Instr) → 65552 ≤ limits.words → In limits.words (fetched image limits k i) k
within_fetched image limits k None h = tt
within_fetched image limits k (Some i) h = within_checked image limits k (span_at image k.pc) i h

within_instruction : (image : Image) (limits : Limits) (t : Tally) (k : Control) → 65552 ≤ limits.words → In limits.words (instruction_due image limits t k) k
within_instruction image limits t k h =
    let size = limits.words in
    let found = fetched image limits k (slice_get image.code k.pc) in
    let placed = if nat_lt k.pc 4294967295 then found else unlawful in
    let paid = if nat_le limits.budget t.instructions then act.Spent else placed in
    either (nat_le 1024 t.since) size act.LoadStop paid k (omega arith, omega arith) (either (nat_le limits.budget t.instructions) size act.Spent placed k tt (either (nat_lt k.pc 4294967295) size found unlawful k (within_fetched image limits k (slice_get image.code k.pc) h) tt))

within_taken : (limits : Limits) (t : Tally) (k : Control) → In limits.words (taken_due limits t k) k
within_taken limits t k =
    let size = limits.words in
    let resumes = act.ResumeTaken k.taken in
    let inner = reaching limits k.taken nowhere (entering k resumes) in
    let woken = unless_noop k.taken act.PassTaken inner in
    either (nat_le limits.budget t.instructions) size act.Spent woken k tt (noop_or k.taken size act.PassTaken inner k tt (reaches limits k.taken nowhere (entering k resumes) k (λ low high. enters size resumes k (low, high))))

within_due : (n : Next) (image : Image) (limits : Limits) (t : Tally) (k : Control) → 65552 ≤ limits.words → k.look < 65536 → In limits.words (due_by n image limits t k) k
within_due ahead.Instruction image limits t k h j = within_instruction image limits t k h
within_due ahead.LookStop image limits t k h j = (omega arith, omega arith)
within_due ahead.LookMain image limits t k h j = (omega arith, omega arith)
within_due ahead.LookCell image limits t k h j = (omega arith, omega arith)
within_due ahead.Taken image limits t k h j = within_taken limits t k
within_due (ahead.Stamp kind) image limits t k h j = (omega arith, omega arith)
within_due (ahead.Halt stamp kind) image limits t k h j = (omega arith, omega arith)
within_due (ahead.Stopped stamp kind) image limits t k h j = tt
within_due ahead.Seen image limits t k h j = tt

pub within : StaysWithin
within image s h j = within_due s.control.next image s.limits s.tally s.control h j
