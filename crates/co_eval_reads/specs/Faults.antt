-- Acts of a kind, and whether each is one here.
use Rattle.std.specs.Prelude.{Bool, List, map}
use Rattle.co_base.specs.declared.kinds.Undef.{Undef}
use Rattle.co_meaning_data.specs.Undefined.{Fault}

abbrev pub fault_of : Undef × Bool → Fault
fault_of f = record { kind = f.0; holds = f.1 }

abbrev pub faults_of : List (Undef × Bool) → List Fault
faults_of fs = map fault_of fs
