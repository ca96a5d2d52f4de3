-- The listing of an image: one line per instruction.
use Rattle.std.specs.Prelude.{ℕ, ◌+◌, List, [], ◌∷◌, ◌++◌, codes, decimal}
use Rattle.std.specs.Fmt.{signed_decimal}
use Rattle.co_base.specs.declared.kinds.AtomicKind.{AtomicKind}
use Rattle.co_base.specs.declared.kinds.AtomicKind.TheVariants as atomic
use Rattle.co_base.specs.declared.kinds.Num.{Num}
use Rattle.co_base.specs.declared.kinds.Num.TheVariants as number
use Rattle.co_base.specs.declared.kinds.Op.{Op}
use Rattle.co_base.specs.declared.kinds.Op.TheVariants as operator
use Rattle.co_code.specs.declared.image.Image.{Image}
use Rattle.co_code.specs.declared.instr.Instr.{Instr}
use Rattle.co_code.specs.declared.instr.Instr.TheVariants as op
use Rattle.co_code.specs.declared.instr.Register.{Register}
use Rattle.co_code.specs.declared.instr.Register.TheVariants.{A, B, C, D}
use Rattle.co_code.specs.declared.instr.ThrownKind.{ThrownKind}
use Rattle.co_code.specs.declared.instr.ThrownKind.TheVariants as thrown

abbrev pub register_name : Register → List ℕ
register_name A = codes "a"
register_name B = codes "b"
register_name C = codes "c"
register_name D = codes "d"

abbrev pub num_name : Num → List ℕ
num_name number.Bool = codes "bool"
num_name number.Int = codes "int"
num_name number.Long = codes "long"
num_name number.Size = codes "size"

abbrev pub atomic_name : AtomicKind → List ℕ
atomic_name atomic.Int = codes "int"
atomic_name atomic.Long = codes "long"
atomic_name atomic.Bool = codes "bool"
atomic_name atomic.VoidPointer = codes "voidpointer"

-- a thrown class by its number
abbrev pub thrown_name : ThrownKind → List ℕ
thrown_name thrown.Int = codes "int"
thrown_name thrown.Long = codes "long"
thrown_name thrown.Bool = codes "bool"
thrown_name (thrown.Class of) = decimal of.0

abbrev pub op_name : Op → List ℕ
op_name operator.Add = codes "add"
op_name operator.Sub = codes "sub"
op_name operator.Mul = codes "mul"
op_name operator.Div = codes "div"
op_name operator.Rem = codes "rem"
op_name operator.Shl = codes "shl"
op_name operator.Shr = codes "shr"
op_name operator.And = codes "and"
op_name operator.Or = codes "or"
op_name operator.Xor = codes "xor"
op_name operator.Lt = codes "lt"
op_name operator.Le = codes "le"
op_name operator.Gt = codes "gt"
op_name operator.Ge = codes "ge"
op_name operator.Eq = codes "eq"
op_name operator.Ne = codes "ne"

-- the name of an instruction
abbrev pub instr_name : Instr → List ℕ
instr_name (op.Const v) = codes "CONST"
instr_name (op.Move r s) = codes "MOVE"
instr_name (op.Convert num) = codes "CONVERT"
instr_name (op.Arith operator num) = codes "ARITH"
instr_name (op.Slot n) = codes "SLOT"
instr_name (op.Global n) = codes "GLOBAL"
instr_name (op.Field n) = codes "FIELD"
instr_name op.Check = codes "CHECK"
instr_name op.CheckNew = codes "CHECKNEW"
instr_name (op.Load num) = codes "LOAD"
instr_name (op.Store num) = codes "STORE"
instr_name op.Push = codes "PUSH"
instr_name (op.Pop r) = codes "POP"
instr_name (op.Drop n) = codes "DROP"
instr_name (op.Jump n) = codes "JUMP"
instr_name (op.JumpZ n) = codes "JUMPZ"
instr_name (op.Call n) = codes "CALL"
instr_name op.Ret = codes "RET"
instr_name op.MainRet = codes "MAINRET"
instr_name op.Off = codes "OFF"
instr_name (op.Throw kind) = codes "THROW"
instr_name op.Rethrow = codes "RETHROW"
instr_name op.Unwind = codes "UNWIND"
instr_name op.Catch = codes "CATCH"
instr_name op.Uncatch = codes "UNCATCH"
instr_name op.Current = codes "CURRENT"
instr_name op.RePtr = codes "REPTR"
instr_name op.Terminate = codes "TERMINATE"
instr_name op.Take = codes "TAKE"
instr_name op.Give = codes "GIVE"
instr_name op.Number = codes "NUMBER"
instr_name op.Made = codes "MADE"
instr_name op.Ended = codes "ENDED"
instr_name op.Born = codes "BORN"
instr_name op.Died = codes "DIED"
instr_name (op.Suspend n) = codes "SUSPEND"
instr_name op.AwaitVoid = codes "AWAITVOID"
instr_name op.AwaitBool = codes "AWAITBOOL"
instr_name op.Unpark = codes "UNPARK"
instr_name op.AwaitHandle = codes "AWAITHANDLE"
instr_name op.Resume = codes "RESUME"
instr_name op.Destroy = codes "DESTROY"
instr_name op.Done = codes "DONE"
instr_name op.Promise = codes "PROMISE"
instr_name op.FromPromise = codes "FROMPROMISE"
instr_name op.Post = codes "POST"
instr_name (op.ALoad t) = codes "ALOAD"
instr_name (op.AStore t) = codes "ASTORE"
instr_name (op.ASwap t) = codes "ASWAP"
instr_name (op.AAdd t) = codes "AADD"
instr_name (op.ACas t) = codes "ACAS"
instr_name op.Print = codes "PRINT"
instr_name (op.Lit n) = codes "LIT"
instr_name op.Input = codes "INPUT"
instr_name op.Inputs = codes "INPUTS"
instr_name (op.AtSlot n) = codes "ATSLOT"
instr_name (op.Top n) = codes "TOP"
instr_name (op.Raise n) = codes "RAISE"
instr_name op.ResultAt = codes "RESULT"
instr_name (op.Exit n) = codes "EXIT"
instr_name (op.Begin n) = codes "BEGIN"

-- an operand, behind a space
abbrev pub operand : List ℕ → List ℕ
operand text = codes " " ++ text

abbrev pub operands : Instr → List ℕ
operands (op.Const v) = operand (signed_decimal v)
operands (op.Move r s) = operand (register_name r) ++ operand (register_name s)
operands (op.Convert num) = operand (num_name num)
operands (op.Arith operator num) = operand (op_name operator) ++ operand (num_name num)
operands (op.Slot n) = operand (decimal n)
operands (op.Global n) = operand (decimal n)
operands (op.Field n) = operand (decimal n)
operands (op.Load num) = operand (num_name num)
operands (op.Store num) = operand (num_name num)
operands (op.Pop r) = operand (register_name r)
operands (op.Drop n) = operand (decimal n)
operands (op.Jump n) = operand (decimal n)
operands (op.JumpZ n) = operand (decimal n)
operands (op.Call n) = operand (decimal n)
operands (op.Throw kind) = operand (thrown_name kind)
operands (op.Suspend n) = operand (decimal n)
operands (op.ALoad t) = operand (atomic_name t)
operands (op.AStore t) = operand (atomic_name t)
operands (op.ASwap t) = operand (atomic_name t)
operands (op.AAdd t) = operand (atomic_name t)
operands (op.ACas t) = operand (atomic_name t)
operands (op.Lit n) = operand (decimal n)
operands (op.AtSlot n) = operand (decimal n)
operands (op.Top n) = operand (decimal n)
operands (op.Raise n) = operand (decimal n)
operands (op.Exit n) = operand (decimal n)
operands (op.Begin n) = operand (decimal n)
operands i = []

-- an instruction's number, name and operands
abbrev pub line_of : ℕ → Instr → List ℕ
line_of n i = decimal n ++ codes " " ++ instr_name i ++ operands i ++ codes "\n"

-- the instructions, numbered from n on
abbrev pub lines_from : ℕ → List Instr → List ℕ
lines_from n [] = []
lines_from n (i ∷ code) = line_of n i ++ lines_from (n + 1) code

-- the bytes that list the image
abbrev pub dump_of : Image → List ℕ
dump_of image = lines_from 0 image.code
