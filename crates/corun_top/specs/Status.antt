-- The number of a status.
use Rattle.std.specs.Prelude.{ℕ}
use Rattle.corun_top.specs.declared.status.Status.{Status}
use Rattle.corun_top.specs.declared.status.Status.TheVariants.{Finished, Refused, Words, Undefined, Uncaught, Budget, Limit, FileFault, SinkFault, NoMemory, TooLarge, BadInput}

abbrev pub number_of : Status → ℕ
number_of (Finished value) = 0
number_of (Refused refusal span) = 1
number_of (Words index) = 2
number_of (Undefined kind span) = 3
number_of (Uncaught value) = 4
number_of (Budget worker) = 5
number_of (Limit limit) = 6
number_of FileFault = 7
number_of SinkFault = 8
number_of NoMemory = 9
number_of (TooLarge which) = 10
number_of (BadInput which line) = 11
