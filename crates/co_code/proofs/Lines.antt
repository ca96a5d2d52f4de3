-- How many lines the parts of a listing end.
use Rattle.std.proofs.Common.{◌≡◌, ℕ, zero, suc, ◌+◌, ◌/◌, ◌%◌, ℤ, pos, negsuc, Bool, true, false, cond, List, [], ◌∷◌, ◌++◌, length, codes, decimal, refl, ap, ◌∙◌, arith}
use Rattle.std.specs.Prelude.{◌==◌, nat_lt, if◌then◌else◌, count_by}
use Rattle.std.specs.Fmt.{signed_decimal, digits, digits_onto, digit_glyph}
use Rattle.std.proofs.lemmas.Bool.{ne_eqb}
use Rattle.std.proofs.lemmas.List.Sums.{sum_by-append}
use Rattle.co_base.specs.declared.kinds.AtomicKind.{AtomicKind}
use Rattle.co_base.specs.declared.kinds.AtomicKind.TheVariants as atomic
use Rattle.co_base.specs.declared.kinds.Num.{Num}
use Rattle.co_base.specs.declared.kinds.Num.TheVariants as number
use Rattle.co_base.specs.declared.kinds.Op.{Op}
use Rattle.co_base.specs.declared.kinds.Op.TheVariants as operator
use Rattle.co_code.specs.declared.instr.Instr.{Instr}
use Rattle.co_code.specs.declared.instr.Instr.TheVariants as op
use Rattle.co_code.specs.declared.instr.Register.{Register}
use Rattle.co_code.specs.declared.instr.Register.TheVariants.{A, B, C, D}
use Rattle.co_code.specs.declared.instr.ThrownKind.{ThrownKind}
use Rattle.co_code.specs.declared.instr.ThrownKind.TheVariants as thrown
use Rattle.co_code.specs.Laws.{ListsEach, is_newline}
use Rattle.co_code.specs.Listing.{register_name, num_name, atomic_name, thrown_name, op_name, instr_name, operand, operands, line_of, lines_from}

abbrev lines_in : List ℕ → ℕ
lines_in bytes = count_by is_newline bytes

lines-append : (xs ys : List ℕ) → lines_in (xs ++ ys) ≡ lines_in xs + lines_in ys
lines-append xs ys = sum_by-append (λ b. cond (is_newline b) 1 0) xs ys

-- ---- digits

glyph_ends_none : (b : Bool) (d : ℕ) → is_newline (if b then 48 + d else 87 + d) ≡ false
glyph_ends_none true d = ne_eqb (48 + d) 10 (λ e. omega (arith, e))
glyph_ends_none false d = ne_eqb (87 + d) 10 (λ e. omega (arith, e))

one_more : (g : ℕ) (bytes : List ℕ) → is_newline g ≡ false → lines_in (g ∷ bytes) ≡ lines_in bytes
one_more g bytes h =
    let alone : lines_in (g ∷ []) ≡ 0 = ap (λ b. 0 + cond b 1 0) h in
    omega (arith, lines-append (g ∷ []) bytes, alone)

by_last : (last : Bool) (g : ℕ) (bytes more : List ℕ) → is_newline g ≡ false → lines_in more ≡ lines_in (g ∷ bytes) → lines_in (if last then g ∷ bytes else more) ≡ lines_in bytes
by_last true g bytes more h e = one_more g bytes h
by_last false g bytes more h e = e ∙ one_more g bytes h

onto_ends_none : (k n : ℕ) (bytes : List ℕ) → lines_in (digits_onto k 10 false n bytes) ≡ lines_in bytes
onto_ends_none zero n bytes = refl
onto_ends_none (suc k) n bytes =
    let g = digit_glyph false (n % 10) in
    by_last (n / 10 == 0) g bytes (digits_onto k 10 false (n / 10) (g ∷ bytes)) (glyph_ends_none (nat_lt (n % 10) 10) (n % 10)) (onto_ends_none k (n / 10) (g ∷ bytes))

decimal_ends_none : (n : ℕ) → lines_in (decimal n) ≡ 0
unfolding digits
decimal_ends_none n = onto_ends_none 64 n []

signed_ends_none : (v : ℤ) → lines_in (signed_decimal v) ≡ 0
signed_ends_none (pos n) = decimal_ends_none n
signed_ends_none (negsuc n) = one_more 45 (decimal (suc n)) refl ∙ decimal_ends_none (suc n)

-- ---- names

register_ends_none : (r : Register) → lines_in (register_name r) ≡ 0
register_ends_none A = refl
register_ends_none B = refl
register_ends_none C = refl
register_ends_none D = refl

num_ends_none : (n : Num) → lines_in (num_name n) ≡ 0
num_ends_none number.Bool = refl
num_ends_none number.Int = refl
num_ends_none number.Long = refl
num_ends_none number.Size = refl

atomic_ends_none : (kind : AtomicKind) → lines_in (atomic_name kind) ≡ 0
atomic_ends_none atomic.Int = refl
atomic_ends_none atomic.Long = refl
atomic_ends_none atomic.Bool = refl
atomic_ends_none atomic.VoidPointer = refl

thrown_ends_none : (kind : ThrownKind) → lines_in (thrown_name kind) ≡ 0
thrown_ends_none thrown.Int = refl
thrown_ends_none thrown.Long = refl
thrown_ends_none thrown.Bool = refl
thrown_ends_none (thrown.Class of) = decimal_ends_none of.0

op_ends_none : (o : Op) → lines_in (op_name o) ≡ 0
op_ends_none operator.Add = refl
op_ends_none operator.Sub = refl
op_ends_none operator.Mul = refl
op_ends_none operator.Div = refl
op_ends_none operator.Rem = refl
op_ends_none operator.Shl = refl
op_ends_none operator.Shr = refl
op_ends_none operator.And = refl
op_ends_none operator.Or = refl
op_ends_none operator.Xor = refl
op_ends_none operator.Lt = refl
op_ends_none operator.Le = refl
op_ends_none operator.Gt = refl
op_ends_none operator.Ge = refl
op_ends_none operator.Eq = refl
op_ends_none operator.Ne = refl

name_ends_none : (i : Instr) → lines_in (instr_name i) ≡ 0
name_ends_none (op.Const v) = refl
name_ends_none (op.Move r s) = refl
name_ends_none (op.Convert num) = refl
name_ends_none (op.Arith operator num) = refl
name_ends_none (op.Slot n) = refl
name_ends_none (op.Global n) = refl
name_ends_none (op.Field n) = refl
name_ends_none op.Check = refl
name_ends_none op.CheckNew = refl
name_ends_none (op.Load num) = refl
name_ends_none (op.Store num) = refl
name_ends_none op.Push = refl
name_ends_none (op.Pop r) = refl
name_ends_none (op.Drop n) = refl
name_ends_none (op.Jump n) = refl
name_ends_none (op.JumpZ n) = refl
name_ends_none (op.Call n) = refl
name_ends_none op.Ret = refl
name_ends_none op.MainRet = refl
name_ends_none op.Off = refl
name_ends_none (op.Throw kind) = refl
name_ends_none op.Rethrow = refl
name_ends_none op.Unwind = refl
name_ends_none op.Catch = refl
name_ends_none op.Uncatch = refl
name_ends_none op.Current = refl
name_ends_none op.RePtr = refl
name_ends_none op.Terminate = refl
name_ends_none op.Take = refl
name_ends_none op.Give = refl
name_ends_none op.Number = refl
name_ends_none op.Made = refl
name_ends_none op.Ended = refl
name_ends_none op.Born = refl
name_ends_none op.Died = refl
name_ends_none (op.Suspend n) = refl
name_ends_none op.AwaitVoid = refl
name_ends_none op.AwaitBool = refl
name_ends_none op.Unpark = refl
name_ends_none op.AwaitHandle = refl
name_ends_none op.Resume = refl
name_ends_none op.Destroy = refl
name_ends_none op.Done = refl
name_ends_none op.Promise = refl
name_ends_none op.FromPromise = refl
name_ends_none op.Post = refl
name_ends_none (op.ALoad t) = refl
name_ends_none (op.AStore t) = refl
name_ends_none (op.ASwap t) = refl
name_ends_none (op.AAdd t) = refl
name_ends_none (op.ACas t) = refl
name_ends_none op.Print = refl
name_ends_none (op.Lit n) = refl
name_ends_none op.Input = refl
name_ends_none op.Inputs = refl
name_ends_none (op.AtSlot n) = refl
name_ends_none (op.Top n) = refl
name_ends_none (op.Raise n) = refl
name_ends_none op.ResultAt = refl
name_ends_none (op.Exit n) = refl
name_ends_none (op.Begin n) = refl

-- ---- lines

operand_ends_none : (text : List ℕ) → lines_in text ≡ 0 → lines_in (operand text) ≡ 0
operand_ends_none text h = one_more 32 text refl ∙ h

both_end_none : (first second : List ℕ) → lines_in first ≡ 0 → lines_in second ≡ 0 → lines_in (operand first ++ operand second) ≡ 0
both_end_none first second h j =
    omega (arith, lines-append (operand first) (operand second), operand_ends_none first h, operand_ends_none second j)

operands_end_none : (i : Instr) → lines_in (operands i) ≡ 0
operands_end_none (op.Const v) = operand_ends_none (signed_decimal v) (signed_ends_none v)
operands_end_none (op.Move r s) = both_end_none (register_name r) (register_name s) (register_ends_none r) (register_ends_none s)
operands_end_none (op.Convert num) = operand_ends_none (num_name num) (num_ends_none num)
operands_end_none (op.Arith operator num) = both_end_none (op_name operator) (num_name num) (op_ends_none operator) (num_ends_none num)
operands_end_none (op.Slot n) = operand_ends_none (decimal n) (decimal_ends_none n)
operands_end_none (op.Global n) = operand_ends_none (decimal n) (decimal_ends_none n)
operands_end_none (op.Field n) = operand_ends_none (decimal n) (decimal_ends_none n)
operands_end_none (op.Load num) = operand_ends_none (num_name num) (num_ends_none num)
operands_end_none (op.Store num) = operand_ends_none (num_name num) (num_ends_none num)
operands_end_none (op.Pop r) = operand_ends_none (register_name r) (register_ends_none r)
operands_end_none (op.Drop n) = operand_ends_none (decimal n) (decimal_ends_none n)
operands_end_none (op.Jump n) = operand_ends_none (decimal n) (decimal_ends_none n)
operands_end_none (op.JumpZ n) = operand_ends_none (decimal n) (decimal_ends_none n)
operands_end_none (op.Call n) = operand_ends_none (decimal n) (decimal_ends_none n)
operands_end_none (op.Throw kind) = operand_ends_none (thrown_name kind) (thrown_ends_none kind)
operands_end_none (op.Suspend n) = operand_ends_none (decimal n) (decimal_ends_none n)
operands_end_none (op.ALoad t) = operand_ends_none (atomic_name t) (atomic_ends_none t)
operands_end_none (op.AStore t) = operand_ends_none (atomic_name t) (atomic_ends_none t)
operands_end_none (op.ASwap t) = operand_ends_none (atomic_name t) (atomic_ends_none t)
operands_end_none (op.AAdd t) = operand_ends_none (atomic_name t) (atomic_ends_none t)
operands_end_none (op.ACas t) = operand_ends_none (atomic_name t) (atomic_ends_none t)
operands_end_none (op.Lit n) = operand_ends_none (decimal n) (decimal_ends_none n)
operands_end_none (op.AtSlot n) = operand_ends_none (decimal n) (decimal_ends_none n)
operands_end_none (op.Top n) = operand_ends_none (decimal n) (decimal_ends_none n)
operands_end_none (op.Raise n) = operand_ends_none (decimal n) (decimal_ends_none n)
operands_end_none (op.Exit n) = operand_ends_none (decimal n) (decimal_ends_none n)
operands_end_none (op.Begin n) = operand_ends_none (decimal n) (decimal_ends_none n)
operands_end_none i = refl

none_after : (front back : List ℕ) → lines_in front ≡ 0 → lines_in back ≡ 0 → lines_in (front ++ back) ≡ 0
none_after front back h j = omega (arith, lines-append front back, h, j)

-- up to its last byte a line ends none
line_ends_one : (n : ℕ) (i : Instr) → lines_in (line_of n i) ≡ 1
line_ends_one n i =
    let front = decimal n ++ codes " " ++ instr_name i ++ operands i in
    let none : lines_in front ≡ 0 = none_after (decimal n ++ codes " " ++ instr_name i) (operands i) (none_after (decimal n ++ codes " ") (instr_name i) (none_after (decimal n) (codes " ") (decimal_ends_none n) refl) (name_ends_none i)) (operands_end_none i) in
    lines-append front (codes "\n") ∙ ap (λ k. k + 1) none

ends_each : (n : ℕ) (code : List Instr) → lines_in (lines_from n code) ≡ length code
ends_each n [] = refl
ends_each n (i ∷ code) =
    let both : lines_in (lines_from n (i ∷ code)) ≡ lines_in (line_of n i) + lines_in (lines_from (n + 1) code) = lines-append (line_of n i) (lines_from (n + 1) code) in
    omega (arith, both, line_ends_one n i, ends_each (n + 1) code)

pub lists_each : ListsEach
lists_each image = ends_each 0 image.code
