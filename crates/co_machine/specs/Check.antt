-- What is due, every test of its place, its operands and its room made; and the access that it makes.
use Rattle.std.specs.Prelude.{ℕ, ◌-◌, nat_lt, nat_le, ◌==◌, if◌then◌else◌, length, Option, Some, None, pos, slice_get}
use Rattle.co_base.specs.declared.kinds.Limit.TheVariants as limit
use Rattle.co_base.specs.declared.kinds.Undef.{Undef}
use Rattle.co_base.specs.declared.kinds.Undef.TheVariants.{U4, U6, U10, U12}
use Rattle.co_base.specs.declared.span.Span.{Span}
use Rattle.co_code.specs.declared.image.FuncCode.{FuncCode}
use Rattle.co_code.specs.declared.image.Image.{Image}
use Rattle.co_code.specs.declared.image.PointCode.{PointCode}
use Rattle.co_code.specs.declared.instr.Instr.{Instr}
use Rattle.co_code.specs.declared.instr.Instr.TheVariants as op
use Rattle.co_machine.specs.declared.due.Due.{Due}
use Rattle.co_machine.specs.declared.due.Due.TheVariants as act
use Rattle.co_machine.specs.declared.limits.Limits.{Limits}
use Rattle.co_machine.specs.declared.state.Control.{Control}
use Rattle.co_machine.specs.declared.state.Next.{Next}
use Rattle.co_machine.specs.declared.state.Next.TheVariants as ahead
use Rattle.co_machine.specs.declared.state.Tally.{Tally}
use Rattle.co_machine.specs.declared.stop.StopKind.TheVariants as stop
use Rattle.co_words.specs.Storage.{newest_of}
use Rattle.co_machine.specs.Values.{nowhere, span_at, lawful, state_word}

-- ---- one instruction

-- an undefined act at a place of the file
abbrev pub undefined : Undef → Span → Due
undefined u at = act.Meet (stop.Undefined u at)

-- a number outside its table, or a place that is no instruction
abbrev pub unlawful : Due
unlawful = undefined U12 nowhere

-- an access to the word at `to`, if a program may name it
abbrev pub reaching : Limits → ℕ → Span → Due → Due
reaching limits to at due = if lawful limits to then due else undefined U12 at

-- null is undefined in a handle, a pointer and an exception
abbrev pub not_null : ℕ → Undef → Span → Due → Due
not_null word u at due = if word == 0 then undefined u at else due

-- the handle of the no-op coroutine needs no access
abbrev pub unless_noop : ℕ → Due → Due → Due
unless_noop word noop due = if word == 6 then noop else due

-- so many words below sp are the worker's own
abbrev pub below_top : ℕ → Control → Span → Due → Due
below_top n k at due = if nat_le n (k.sp - k.stack) then due else undefined U12 at

-- so many words above sp are the worker's own
abbrev pub above_top : ℕ → Control → Due → Due
above_top n k due = if nat_le n (k.stack_end - k.sp) then due else act.Meet (stop.Limit limit.Stack)

-- a control entry more, where there are at most 1,024
abbrev pub entering : Control → Due → Due
entering k due = if nat_lt (length k.below) 1023 then due else act.Meet (stop.Limit limit.Control)

abbrev pub printing : Control → Due → Due
printing k due = if nat_lt (length k.prints) 65536 then due else act.Meet (stop.Limit limit.Prints)

-- a return needs an entry to return to, which is not the worker's own
abbrev pub returning : Control → Span → Due
returning k at = if nat_lt 0 (length k.below) then act.Do op.Ret else undefined U12 at

abbrev pub parked : Control → Span → Due → Due
parked k at due = if k.top.word == 0 then undefined U12 at else due

abbrev pub not_parked : Control → Span → Due → Due
not_parked k at due = if k.top.word == 0 then due else undefined U12 at

abbrev pub calling : Option FuncCode → Control → Due
calling None k = unlawful
calling (Some f) k = entering k (above_top f.words k (act.Call f.entry f.words))

-- the words that TAKE asks for, at least 1
abbrev pub asked : Control → ℕ
asked k = if k.registers.a == 0 then 1 else k.registers.a

-- a spare block of that size, or one from the words that were never handed out
abbrev pub taking : Option ℕ → Limits → Control → Due
taking (Some place) limits k = act.Reuse (asked k) place
taking None limits k = if nat_le (asked k) limits.words then act.Do op.Take else act.Meet (stop.Limit limit.Store)

-- a point is final where it goes on at the same place after a resume and a destroy
abbrev pub suspending : Option PointCode → ℕ → Limits → Control → Span → Due
suspending None n limits k at = unlawful
suspending (Some p) n limits k at = reaching limits k.fp at (act.Park (state_word k.top.serial n (p.resume == p.cleanup)))

-- the instruction, or the stop that it meets before its access
abbrev pub checked : Image → Limits → Control → Span → Instr → Due
checked image limits k at (op.Global n) = if nat_lt n (length image.globals) then act.Do (op.Global n) else unlawful
checked image limits k at op.Check = not_null k.registers.a U4 at act.Pass
checked image limits k at op.CheckNew = not_null k.registers.a U10 at act.Pass
checked image limits k at (op.Load num) = reaching limits k.registers.a at (act.Do (op.Load num))
checked image limits k at (op.Store num) = reaching limits k.registers.b at (act.Do (op.Store num))
checked image limits k at op.Push = above_top 1 k (reaching limits k.sp at (act.Do op.Push))
checked image limits k at (op.Pop r) = below_top 1 k at (reaching limits (k.sp - 1) at (act.Do (op.Pop r)))
checked image limits k at (op.Drop n) = below_top n k at (act.Do (op.Drop n))
checked image limits k at (op.Top n) = below_top n k at (act.Do (op.Top n))
checked image limits k at (op.Raise n) = above_top n k (act.Do (op.Raise n))
checked image limits k at (op.Call n) = calling (slice_get image.funcs n) k
checked image limits k at op.Ret = not_parked k at (returning k at)
checked image limits k at op.Off = undefined U6 at
checked image limits k at op.RePtr = not_null k.registers.a U4 at (act.Do op.RePtr)
checked image limits k at op.Take = taking (newest_of (asked k) k.spare) limits k
checked image limits k at op.Give = if k.registers.a == 0 then act.Pass else reaching limits (k.registers.a - 1) at (act.Do op.Give)
checked image limits k at (op.Suspend n) = suspending (slice_get image.points n) n limits k at
checked image limits k at op.AwaitVoid = parked k at (returning k at)
checked image limits k at op.AwaitBool = parked k at (if k.registers.a == 0 then reaching limits k.top.place at (act.Do op.AwaitBool) else returning k at)
checked image limits k at op.Unpark = parked k at (reaching limits k.top.place at (act.Do op.Unpark))
checked image limits k at op.AwaitHandle =
    parked k at (not_null k.registers.a U4 at (unless_noop k.registers.a (returning k at) (reaching limits k.registers.a at (act.Do op.AwaitHandle))))
checked image limits k at op.Resume =
    not_null k.registers.a U4 at (unless_noop k.registers.a act.Pass (reaching limits k.registers.a at (entering k (act.Do op.Resume))))
checked image limits k at op.Destroy =
    not_null k.registers.a U4 at (unless_noop k.registers.a act.Pass (reaching limits k.registers.a at (entering k (act.Do op.Destroy))))
checked image limits k at op.Done =
    not_null k.registers.a U4 at (unless_noop k.registers.a (act.Do (op.Const (pos 0))) (reaching limits k.registers.a at (act.Do op.Done)))
checked image limits k at op.Promise = not_null k.registers.a U4 at (act.Do op.Promise)
checked image limits k at op.FromPromise = not_null k.registers.a U4 at (act.Do op.FromPromise)
checked image limits k at op.Post = not_null k.registers.a U4 at (act.Do op.Post)
checked image limits k at (op.ALoad t) = reaching limits k.registers.a at (act.Do (op.ALoad t))
checked image limits k at (op.AStore t) = reaching limits k.registers.b at (act.Do (op.AStore t))
checked image limits k at (op.ASwap t) = reaching limits k.registers.b at (act.Do (op.ASwap t))
checked image limits k at (op.AAdd t) = reaching limits k.registers.b at (act.Do (op.AAdd t))
checked image limits k at (op.ACas t) = reaching limits k.registers.b at (act.Do (op.ACas t))
checked image limits k at op.Print = printing k (act.Do op.Print)
checked image limits k at (op.Lit n) = if nat_lt n (length image.texts) then printing k (act.Do (op.Lit n)) else unlawful
checked image limits k at (op.Begin place) = entering k (act.Do (op.Begin place))
checked image limits k at i = act.Do i

-- ---- the turn

abbrev pub fetched : Image → Limits → Control → Option Instr → Due
fetched image limits k None = unlawful
fetched image limits k (Some i) = checked image limits k (span_at image k.pc) i

-- an instruction is due: after 1,024 of them a load of word 2 comes first, and then the budget counts
abbrev pub instruction_due : Image → Limits → Tally → Control → Due
instruction_due image limits t k =
    if nat_le 1024 t.since then act.LoadStop else
    (if nat_le limits.budget t.instructions then act.Spent else
    (if nat_lt k.pc 4294967295 then fetched image limits k (slice_get image.code k.pc) else unlawful))

-- the taken handle is to be resumed
abbrev pub taken_due : Limits → Tally → Control → Due
taken_due limits t k =
    if nat_le limits.budget t.instructions then act.Spent else
    unless_noop k.taken act.PassTaken (reaching limits k.taken nowhere (entering k (act.ResumeTaken k.taken)))

abbrev pub due_by : Next → Image → Limits → Tally → Control → Due
due_by ahead.Instruction image limits t k = instruction_due image limits t k
due_by ahead.LookStop image limits t k = act.LookStop
due_by ahead.LookMain image limits t k = act.LookMain
due_by ahead.LookCell image limits t k = act.LookCell
due_by ahead.Taken image limits t k = taken_due limits t k
due_by (ahead.Stamp kind) image limits t k = act.Stamp kind
due_by (ahead.Halt stamp kind) image limits t k = act.Halt stamp kind
due_by (ahead.Stopped stamp kind) image limits t k = act.Rest
due_by ahead.Seen image limits t k = act.Rest
