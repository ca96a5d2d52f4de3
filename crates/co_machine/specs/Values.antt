-- Words, registers and places.
use Rattle.std.specs.Prelude.{ℕ, ◌+◌, ◌-◌, ◌*◌, ◌/◌, ◌%◌, ◌^◌, Bool, true, ◌&&◌, nat_lt, nat_le, ◌==◌, if◌then◌else◌, Option, Some, None, slice_get}
use Rattle.co_base.specs.Integers.{held_by}
use Rattle.co_base.specs.declared.span.Span.{Span}
use Rattle.co_base.specs.declared.kinds.AtomicKind.{AtomicKind}
use Rattle.co_base.specs.declared.kinds.AtomicKind.TheVariants as atomic
use Rattle.co_base.specs.declared.kinds.CatchOf.{CatchOf}
use Rattle.co_base.specs.declared.kinds.CatchOf.TheVariants as catching
use Rattle.co_base.specs.declared.kinds.Thrown.{Thrown}
use Rattle.co_base.specs.declared.kinds.Thrown.TheVariants as thrown
use Rattle.co_code.specs.declared.image.Image.{Image}
use Rattle.co_code.specs.declared.instr.Register.{Register}
use Rattle.co_code.specs.declared.instr.Register.TheVariants.{A, B, C, D}
use Rattle.co_code.specs.declared.instr.ThrownKind.{ThrownKind}
use Rattle.co_code.specs.declared.instr.ThrownKind.TheVariants as kind
use Rattle.co_machine.specs.declared.limits.Limits.{Limits}
use Rattle.co_machine.specs.declared.state.Registers.{Registers}

-- a number modulo 2^64
abbrev pub wrap : ℕ → ℕ
wrap n = n % 2 ^ 64

-- the span of what stands at no place of a file
abbrev pub nowhere : Span
nowhere = record { line = 0; col = 0 }

abbrev pub or_nowhere : Option Span → Span
or_nowhere (Some at) = at
or_nowhere None = nowhere

-- the place in the file that the instruction at pc stands for
abbrev pub span_at : Image → ℕ → Span
span_at image pc = or_nowhere (slice_get image.spans pc)

-- the first word of the globals: the board's cells end here
abbrev pub first_global : ℕ
first_global = 65552

-- a word that a program may name: a global, a word of a stack or of storage
abbrev pub lawful : Limits → ℕ → Bool
lawful limits at = nat_le 65552 at && nat_lt at limits.words

abbrev pub register : Register → Registers → ℕ
register A r = r.a
register B r = r.b
register C r = r.c
register D r = r.d

abbrev pub with_register : Register → ℕ → Registers → Registers
with_register A n r = record r { a = n }
with_register B n r = record r { b = n }
with_register C n r = record r { c = n }
with_register D n r = record r { d = n }

-- the word that holds an atomic's value: an int is held times 2^32, so that adding wraps at 32 bits
abbrev pub packed : AtomicKind → ℕ → ℕ
packed atomic.Int n = wrap (n * 2 ^ 32)
packed atomic.Long n = n
packed atomic.Bool n = n
packed atomic.VoidPointer n = n

-- the sign-extended value of 32 bits
abbrev pub extended : ℕ → ℕ
extended n = if nat_lt n (2 ^ 31) then n else n + (2 ^ 64 - 2 ^ 32)

-- the value of an atomic that this word holds
abbrev pub unpacked : AtomicKind → ℕ → ℕ
unpacked atomic.Int n = extended (n / 2 ^ 32)
unpacked atomic.Long n = n
unpacked atomic.Bool n = n
unpacked atomic.VoidPointer n = n

-- the exception of a type, its members in a, b, c
abbrev pub exception : ThrownKind → Registers → Registers
exception kind.Int r = record { a = 1; b = r.a; c = 0; d = 0 }
exception kind.Long r = record { a = 2; b = r.a; c = 0; d = 0 }
exception kind.Bool r = record { a = 3; b = r.a; c = 0; d = 0 }
exception (kind.Class of) r = record { a = of.0 + 4; b = r.a; c = r.b; d = r.c }

-- the value that an exception is
abbrev pub thrown_of : Registers → Thrown
thrown_of v =
    if v.a == 0 then thrown.None else
    (if v.a == 1 then thrown.Int (held_by v.b) else
    (if v.a == 2 then thrown.Long (held_by v.b) else
    (if v.a == 3 then thrown.Bool (nat_lt 0 v.b) else
    thrown.Class (record { 0 = (v.a - 4) % 2 ^ 32 }) (held_by v.b) (held_by v.c) (held_by v.d))))

-- whether a handler catches the exception
abbrev pub catches : CatchOf → Registers → Bool
catches catching.Any v = true
catches catching.Int v = v.a == 1
catches catching.Long v = v.a == 2
catches catching.Bool v = v.a == 3
catches (catching.Class of) v = v.a == of.0 + 4

-- the state word of a coroutine that has suspended itself n + 1 times, now at this point
abbrev pub state_word : ℕ → ℕ → Bool → ℕ
state_word n point final = (n % 2 ^ 46 + 1) * 2 ^ 16 + point + 1 + (if final then 2 ^ 62 else 0)

-- the serial in a state word, and whether the word is of a final suspend point
abbrev pub serial_in : ℕ → ℕ
serial_in word = (word % 2 ^ 62) / 2 ^ 16

abbrev pub final_in : ℕ → Bool
final_in word = (word / 2 ^ 62) % 2 == 1
