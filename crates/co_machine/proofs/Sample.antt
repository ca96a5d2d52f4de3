-- A few instructions, run through `ask` and `instr`: the definitions compute what `docs/MACHINE.md` says.
use Rattle.std.proofs.Common.{◌≡◌, ℕ, List, [], ◌∷◌, Some, None, pos, refl}
use Rattle.co_base.specs.declared.kinds.Num.TheVariants as num
use Rattle.co_base.specs.declared.kinds.Op.TheVariants as operator
use Rattle.co_base.specs.declared.kinds.Print.TheVariants as print
use Rattle.co_base.specs.declared.kinds.Undef.TheVariants.{U5}
use Rattle.co_code.specs.declared.image.Image.{Image}
use Rattle.co_code.specs.declared.image.PointCode.{PointCode}
use Rattle.co_code.specs.declared.instr.Instr.{Instr}
use Rattle.co_code.specs.declared.instr.Instr.TheVariants as op
use Rattle.co_machine.specs.declared.limits.Limits.{Limits}
use Rattle.co_machine.specs.declared.state.Next.TheVariants as ahead
use Rattle.co_machine.specs.declared.state.State.{State}
use Rattle.co_machine.specs.declared.stop.StopKind.TheVariants as stop
use Rattle.co_words.specs.declared.access.Access.TheVariants.{Store, Add, Swap}
use Rattle.co_machine.specs.Turn.{ask, instr, fresh}

abbrev limits : Limits
limits = record { words = 2097152; workers = 1; budget = 1000 }

abbrev image_of : List Instr → List PointCode → Image
image_of code points = record { code = code; funcs = []; points = points; texts = []; globals = []; spans = record { line = 3; col = 9 } ∷ []; main = 0 }

-- worker 0, at this place
abbrev at_place : Image → ℕ → State
at_place image place =
    let s = fresh image limits 0 in record s { control = record s.control { pc = place } }

-- after these turns, whose accesses found these words
abbrev after_turns : Image → List ℕ → State → State
after_turns image [] s = s
after_turns image (old ∷ found) s = after_turns image found (instr image [] s old)

-- ---- a print and the end of `main`

abbrev printing : Image
printing = image_of (op.Const (pos 7) ∷ op.Print ∷ op.MainRet ∷ []) []

asks_for_its_stamp : ask printing (after_turns printing (0 ∷ []) (at_place printing 0)) ≡ Some (Add 1 1)
asks_for_its_stamp = refl

prints_with_its_stamp : (after_turns printing (0 ∷ 41 ∷ []) (at_place printing 0)).control.prints ≡ (41, print.Num (pos 7)) ∷ []
prints_with_its_stamp = refl

tells_that_main_has_returned : ask printing (after_turns printing (0 ∷ 41 ∷ []) (at_place printing 0)) ≡ Some (Store 5 1)
tells_that_main_has_returned = refl

returns_seven : (after_turns printing (0 ∷ 41 ∷ 0 ∷ []) (at_place printing 0)).control.main_value ≡ Some (pos 7)
returns_seven = refl

looks_next : (after_turns printing (0 ∷ 41 ∷ 0 ∷ []) (at_place printing 0)).control.next ≡ ahead.LookStop
looks_next = refl

-- ---- a coroutine that suspends itself and is resumed

abbrev suspending : Image
suspending =
    image_of (op.Slot 0 ∷ op.Begin 5 ∷ op.Resume ∷ op.MainRet ∷ op.Off ∷ op.Suspend 0 ∷ op.AwaitVoid ∷ op.Const (pos 4) ∷ op.Ret ∷ []) (record { resume = 7; cleanup = 8 } ∷ [])

stores_its_state_word : ask suspending (after_turns suspending (0 ∷ 0 ∷ []) (at_place suspending 0)) ≡ Some (Store 65552 65537)
stores_its_state_word = refl

goes_back_to_its_caller : (after_turns suspending (0 ∷ 0 ∷ 0 ∷ 0 ∷ []) (at_place suspending 0)).control.pc ≡ 2
goes_back_to_its_caller = refl

is_taken_by_a_swap : ask suspending (after_turns suspending (0 ∷ 0 ∷ 0 ∷ 0 ∷ []) (at_place suspending 0)) ≡ Some (Swap 65552 0)
is_taken_by_a_swap = refl

goes_on_at_its_point : (after_turns suspending (0 ∷ 0 ∷ 0 ∷ 0 ∷ 65537 ∷ []) (at_place suspending 0)).control.pc ≡ 7
goes_on_at_its_point = refl

-- ---- a sum that is no `int`, and the three turns of its stop

abbrev adding : Image
adding = image_of (op.Arith operator.Add num.Int ∷ []) []

abbrev beyond : State
beyond =
    let s = at_place adding 0 in
    record s { control = record s.control { registers = record { a = 1; b = 2147483647; c = 0; d = 0 } } }

meets_its_stop : (after_turns adding (0 ∷ []) beyond).control.next ≡ ahead.Stamp (stop.Undefined U5 (record { line = 3; col = 9 }))
meets_its_stop = refl

stamps_its_stop : ask adding (after_turns adding (0 ∷ []) beyond) ≡ Some (Add 1 1)
stamps_its_stop = refl

halts_the_run : ask adding (after_turns adding (0 ∷ 12 ∷ []) beyond) ≡ Some (Store 2 1)
halts_the_run = refl

has_stopped : (after_turns adding (0 ∷ 12 ∷ 0 ∷ []) beyond).control.next ≡ ahead.Stopped 12 (stop.Undefined U5 (record { line = 3; col = 9 }))
has_stopped = refl

rests : ask adding (after_turns adding (0 ∷ 12 ∷ 0 ∷ []) beyond) ≡ None
rests = refl
