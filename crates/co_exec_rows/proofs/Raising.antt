-- Where an exception stops at the newest activation.
use Rattle.std.proofs.Common.{◌≡◌, List, [], ◌∷◌, Some, None, refl}
use Rattle.co_code.specs.declared.image.FuncCode.{FuncCode}
use Rattle.co_machine.specs.declared.due.Found.{Found}
use Rattle.co_machine.specs.declared.state.Control.{Control}
use Rattle.co_machine.specs.declared.state.Entry.{Entry}
use Rattle.co_machine.specs.declared.state.Registers.{Registers}
use Rattle.co_machine.specs.Rows.{found_for, reached, raised, uncaught}

pub at_row : (funcs : List FuncCode) (v : Registers) (below : List Entry) (k : Control) (f : Found) → found_for funcs k.top ≡ Some f → raised funcs v below k ≡ reached f.row.kind v f k
at_row funcs v [] k f e = rw e refl
at_row funcs v (x ∷ below) k f e = rw e refl

pub at_end : (funcs : List FuncCode) (v : Registers) (below : List Entry) (k : Control) → found_for funcs k.top ≡ None → k.top.return_to ≡ 4294967295 → raised funcs v below k ≡ uncaught v k
at_end funcs v [] k e h = rw e refl
at_end funcs v (x ∷ below) k e h = rw (e, h) refl
