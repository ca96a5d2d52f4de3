-- The lines that are written. Each is ended by a newline.
use Rattle.std.specs.Prelude.{ℕ, ℤ, List, [], ◌++◌, codes, decimal, Bool, true, false, flat_map}
use Rattle.std.specs.Fmt.{signed_decimal}
use Rattle.co_base.specs.declared.span.Span.{Span}
use Rattle.co_base.specs.declared.kinds.Undef.{Undef}
use Rattle.co_base.specs.declared.kinds.Undef.TheVariants.{U1, U2, U3, U4, U5, U6, U7, U8, U9, U10, U11, U12}
use Rattle.co_base.specs.declared.kinds.Limit.{Limit}
use Rattle.co_base.specs.declared.kinds.Limit.TheVariants.{Store, Control, Board, Prints, Stack, Handled}
use Rattle.co_base.specs.declared.kinds.Thrown.{Thrown}
use Rattle.co_base.specs.declared.kinds.Thrown.TheVariants as thrown
use Rattle.co_base.specs.declared.kinds.Counts.{Counts}
use Rattle.corun_top.specs.declared.end.End.{End}
use Rattle.corun_top.specs.declared.end.End.TheVariants as ended
use Rattle.corun_top.specs.declared.status.Which.{Which}
use Rattle.corun_top.specs.declared.status.Which.TheVariants.{Source, Input, Order}
use Rattle.corun_top.specs.declared.status.Refusal.{Refusal}
use Rattle.corun_top.specs.declared.status.Refusal.TheVariants as code
use Rattle.corun_top.specs.declared.status.Status.{Status}
use Rattle.corun_top.specs.declared.status.Status.TheVariants as status

abbrev pub undef_name : Undef → List ℕ
undef_name U1 = codes "U1"
undef_name U2 = codes "U2"
undef_name U3 = codes "U3"
undef_name U4 = codes "U4"
undef_name U5 = codes "U5"
undef_name U6 = codes "U6"
undef_name U7 = codes "U7"
undef_name U8 = codes "U8"
undef_name U9 = codes "U9"
undef_name U10 = codes "U10"
undef_name U11 = codes "U11"
undef_name U12 = codes "U12"

abbrev pub limit_name : Limit → List ℕ
limit_name Store = codes "store"
limit_name Control = codes "control"
limit_name Board = codes "board"
limit_name Prints = codes "prints"
limit_name Stack = codes "stack"
limit_name Handled = codes "handled"

-- a place as `line:column`
abbrev pub place_text : Span → List ℕ
place_text span = decimal span.line ++ codes ":" ++ decimal span.col

-- a thrown value by its type and its number; no class may be thrown yet
abbrev pub thrown_text : Thrown → List ℕ
thrown_text (thrown.Int value) = codes "int " ++ signed_decimal value
thrown_text (thrown.Long value) = codes "long " ++ signed_decimal value
thrown_text (thrown.Bool false) = codes "bool 0"
thrown_text (thrown.Bool true) = codes "bool 1"
thrown_text (thrown.Class class first second third) = codes "none"
thrown_text thrown.None = codes "none"

-- a print
abbrev pub print_text : ℤ → List ℕ
print_text value = signed_decimal value ++ codes "\n"

-- the end of a run
abbrev pub end_text : End → List ℕ
end_text (ended.Main value) = codes "end main " ++ signed_decimal value ++ codes "\n"
end_text (ended.Undefined kind span) = codes "end undefined " ++ undef_name kind ++ codes " " ++ place_text span ++ codes "\n"
end_text (ended.Uncaught value) = codes "end uncaught " ++ thrown_text value ++ codes "\n"
end_text (ended.Budget worker) = codes "end budget " ++ decimal worker ++ codes "\n"
end_text (ended.Limit limit) = codes "end limit " ++ limit_name limit ++ codes "\n"

-- what a run writes to standard output: each print as one line, and then its end
abbrev pub run_text : List ℤ → End → List ℕ
run_text prints end = flat_map print_text prints ++ end_text end

-- what a run writes to standard error
abbrev pub count_text : Counts → List ℕ
count_text counts =
    codes "count instructions " ++ decimal counts.instructions ++ codes " frames " ++ decimal counts.frames_made ++ codes " ended " ++ decimal counts.frames_ended ++ codes " born " ++ decimal counts.born ++ codes " died " ++ decimal counts.died ++ codes "\n"

abbrev pub code_name : Refusal → List ℕ
code_name code.L1 = codes "L1"
code_name code.L2 = codes "L2"
code_name code.L3 = codes "L3"
code_name code.L4 = codes "L4"
code_name code.S1 = codes "S1"
code_name code.Q1 = codes "Q1"
code_name code.N1 = codes "N1"
code_name code.N2 = codes "N2"
code_name code.T1 = codes "T1"
code_name code.T2 = codes "T2"
code_name code.T3 = codes "T3"
code_name code.C1 = codes "C1"
code_name code.C2 = codes "C2"
code_name code.C3 = codes "C3"
code_name code.C4 = codes "C4"
code_name code.C5 = codes "C5"
code_name code.C6 = codes "C6"
code_name code.C7 = codes "C7"
code_name code.C8 = codes "C8"
code_name code.C9 = codes "C9"
code_name code.C10 = codes "C10"
code_name code.C11 = codes "C11"
code_name code.C12 = codes "C12"
code_name code.O1 = codes "O1"
code_name code.Q2 = codes "Q2"
code_name code.Q3 = codes "Q3"
code_name code.Q4 = codes "Q4"

abbrev pub which_name : Which → List ℕ
which_name Source = codes "source"
which_name Input = codes "input"
which_name Order = codes "order"

-- what an answer without a run writes to standard error, which is nothing where memory ran out or a write failed
abbrev pub refusal_text : Status → List ℕ
refusal_text (status.Finished value) = []
refusal_text (status.Refused refusal span) = codes "refused " ++ code_name refusal ++ codes " " ++ place_text span ++ codes "\n"
refusal_text (status.Words index) = codes "words " ++ decimal index ++ codes "\n"
refusal_text (status.Undefined kind span) = []
refusal_text (status.Uncaught value) = []
refusal_text (status.Budget worker) = []
refusal_text (status.Limit limit) = []
refusal_text status.FileFault = codes "file fault\n"
refusal_text status.SinkFault = []
refusal_text status.NoMemory = []
refusal_text (status.TooLarge which) = codes "too large " ++ which_name which ++ codes "\n"
refusal_text (status.BadInput which line) = codes "bad " ++ which_name which ++ codes " " ++ decimal line ++ codes "\n"

-- the status of a run's end
abbrev pub status_of : End → Status
status_of (ended.Main value) = status.Finished value
status_of (ended.Undefined kind span) = status.Undefined kind span
status_of (ended.Uncaught value) = status.Uncaught value
status_of (ended.Budget worker) = status.Budget worker
status_of (ended.Limit limit) = status.Limit limit
