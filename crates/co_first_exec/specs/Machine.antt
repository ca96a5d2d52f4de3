-- What a turn of the machine does.
use Rattle.std.specs.Prelude.{ℕ, zero, suc, ◌+◌, ◌-◌, ◌^◌, ◌<◌, List, [], ◌∷◌, ◌++◌, length, Option, Some, None, Bool, true, ◌&&◌, nat_lt, if◌then◌else◌, slice_get, slice_index, slice_set, ℤ, pos, negsuc, ◌+ℤ◌, ◌-ℤ◌}
use mir.Val.{to_z, of_z}
use mir.Syntax.{w64}
use Rattle.co_base.specs.declared.span.Span.{Span}
use Rattle.co_base.specs.declared.kinds.Op.{Op}
use Rattle.co_base.specs.declared.kinds.Op.TheVariants as op
use Rattle.co_base.specs.declared.kinds.Num.{Num}
use Rattle.co_base.specs.declared.kinds.Num.TheVariants as num
use Rattle.co_base.specs.declared.kinds.Undef.TheVariants.{U5, U12}
use Rattle.co_base.specs.declared.kinds.Limit.TheVariants as limit
use Rattle.co_first_exec.specs.declared.instr.Instr.{Instr}
use Rattle.co_first_exec.specs.declared.instr.Instr.TheVariants.{Const, Arith, Slot, Load, Store, Push, Pop, Jump, JumpZ, Print, MainRet}
use Rattle.co_first_exec.specs.declared.instr.Placed.{Placed}
use Rattle.co_first_exec.specs.declared.instr.Stop.{Stop}
use Rattle.co_first_exec.specs.declared.instr.Stop.TheVariants.{Running, Main, Undefined, Budget, Limit}
use Rattle.co_first_exec.specs.declared.local.Local.{Local}
use Rattle.co_first_exec.specs.declared.turn.Due.{Due}
use Rattle.co_first_exec.specs.declared.turn.Due.TheVariants.{Nothing, OutOfBudget, Meets, Does}
use Rattle.co_first_exec.specs.declared.turn.Access.{Access}
use Rattle.co_first_exec.specs.declared.turn.Access.TheVariants.{Private, Loads, Stores}
use Rattle.co_first_exec.specs.declared.turn.Computed.{Computed}
use Rattle.co_first_exec.specs.declared.turn.Computed.TheVariants.{Value, Outside, Absent}

-- the act that no code of a program makes: it is undefined, and stands at no place of a file
abbrev pub unlawful : Stop
unlawful = Undefined U12 (record { line = 0; col = 0 })

-- a value of `long`: 64 bits, two's complement
abbrev pub is_long : ℤ → Bool
is_long (pos n) = nat_lt n (2 ^ 63)
is_long (negsuc n) = nat_lt n (2 ^ 63)

abbrev pub if_long : ℤ → Computed
if_long z = if is_long z then Value z else Outside

-- sums and differences of `long` are all that the machine computes
abbrev pub computed : Op → Num → ℤ → ℤ → Computed
computed op.Add num.Long x y = if_long (x +ℤ y)
computed op.Sub num.Long x y = if_long (x -ℤ y)
computed _ _ x y = Absent

-- whether the instruction's access, or its print, has a place
abbrev pub lawful : Local → Instr → Bool
lawful l Load = nat_lt l.a (length l.words)
lawful l Store = nat_lt l.b (length l.words)
lawful l Push = nat_lt l.sp (length l.words)
lawful l Pop = nat_lt 0 l.sp && nat_lt (l.sp - 1) (length l.words)
lawful l Print = nat_lt (length l.prints) 65536
lawful l _ = true

-- what the instruction meets where it has none
abbrev pub met : Instr → Stop
met Push = Limit limit.Stack
met Print = Limit limit.Prints
met _ = unlawful

abbrev pub checked : Local → Option Placed → Due
checked l None = Meets unlawful
checked l (Some placed) = if lawful l placed.instr then Does placed.instr placed.span else Meets (met placed.instr)

-- what is due to a run that has not stopped
abbrev pub due_running : List Placed → Local → Due
due_running code l = if nat_lt l.made l.budget then checked l (slice_get code l.place) else OutOfBudget

abbrev pub due_after : Stop → Due → Due
due_after Running due = due
due_after _ due = Nothing

-- what the next turn does
abbrev pub due : List Placed → Local → Due
due code l = due_after l.stop (due_running code l)

-- the access of the turn
abbrev pub ask_of : Instr → Local → Access
ask_of Load l = Loads l.a
ask_of Store l = Stores l.b l.a
ask_of Push l = Stores l.sp l.a
ask_of Pop l = Loads (l.sp - 1)
ask_of _ l = Private

abbrev pub ask : Due → Local → Access
ask (Does instr span) l = ask_of instr l
ask _ l = Private

-- the word that the access finds; a write finds none
abbrev pub old_of : Access → List ℕ → ℕ
old_of (Loads at) words = slice_index words at
old_of _ words = 0

-- the words after the access
abbrev pub after : Access → List ℕ → List ℕ
after (Stores at word) words = slice_set words at word
after _ words = words

abbrev pub settle : Computed → Span → Local → Local
settle (Value z) span l = record l { a = of_z w64 z; place = l.place + 1 }
settle Outside span l = record l { stop = Undefined U5 span }
settle Absent span l = record l { stop = unlawful }

-- to the place where the word is 0, and else to the next
abbrev pub branch : ℕ → ℕ → Local → Local
branch zero place l = record l { place = place }
branch (suc n) place l = record l { place = l.place + 1 }

-- the registers, the place and the prints after the instruction, where `old` is the word that its access found
abbrev pub act : Instr → Span → Local → ℕ → Local
act (Const v) span l old = record l { a = of_z w64 v; place = l.place + 1 }
act (Arith op num) span l old = settle (computed op num (to_z w64 l.b) (to_z w64 l.a)) span l
act (Slot k) span l old = record l { a = l.fp + k; place = l.place + 1 }
act Load span l old = record l { a = old; place = l.place + 1 }
act Store span l old = record l { place = l.place + 1 }
act Push span l old = record l { sp = l.sp + 1; place = l.place + 1 }
act Pop span l old = record l { b = old; sp = l.sp - 1; place = l.place + 1 }
act (Jump place) span l old = record l { place = place }
act (JumpZ place) span l old = branch l.a place l
act Print span l old = record l { prints = l.prints ++ to_z w64 l.a ∷ []; place = l.place + 1 }
act MainRet span l old = record l { stop = Main (pos 0) }

-- the state after what is due: each instruction is counted, but the budget's end is none
abbrev pub instr : Due → Local → ℕ → Local
instr Nothing l old = l
instr OutOfBudget l old = record l { stop = Budget }
instr (Meets stop) l old = record l { made = l.made + 1; stop = stop }
instr (Does i span) l old = act i span (record l { made = l.made + 1 }) old

abbrev pub taken : Due → Local → Local
taken d l = instr d (record l { words = after (ask d l) l.words }) (old_of (ask d l) l.words)

-- one turn: at most one access to the words, and the rest of the state
abbrev pub turn : List Placed → Local → Local
turn code l = taken (due code l) l

-- n turns
abbrev pub turns : List Placed → ℕ → Local → Local
turns code zero l = l
turns code (suc n) l = turn code (turns code n l)

-- the access is to one of so many words
abbrev pub IsWithin : Access → ℕ → Type 0
IsWithin Private size = Unit {0}
IsWithin (Loads at) size = at < size
IsWithin (Stores at word) size = at < size

-- what the instruction raises or lowers stays in its range
abbrev pub HasRoom : Instr → Local → Type 0
HasRoom Push l = l.sp + 1 < 2 ^ 64
HasRoom Pop l = 0 < l.sp
HasRoom Print l = length l.prints < 65536
HasRoom _ l = Unit {0}

-- what a turn may rely on that does what is due
abbrev pub IsReady : Due → Local → Type 0
IsReady Nothing l = Unit {0}
IsReady OutOfBudget l = Unit {0}
IsReady (Meets stop) l = l.made + 1 < 2 ^ 64
IsReady (Does i span) l = (l.made + 1 < 2 ^ 64) × (l.place + 1 < 2 ^ 64) × HasRoom i l
