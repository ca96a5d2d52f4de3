-- Where a run of the code stands in the program: one case for each place at which an instruction is due.
use Rattle.std.proofs.Common.{◌≡◌, ◌≢◌, ℕ, suc, ◌+◌, ◌*◌, ◌<◌, ◌≤◌, List, [], ◌∷◌, ◌++◌, length, Some, arith}
use Rattle.std.specs.Prelude.{slice_get, ℤ}
use mir.Val.{to_z}
use mir.Syntax.{w64}
use Rattle.co_base.specs.declared.span.Span.{Span}
use Rattle.co_base.specs.declared.kinds.Num.TheVariants as num
use Rattle.co_first_tree.specs.declared.tree.Stmt.{Stmt}
use Rattle.co_first_tree.specs.declared.tree.Sum.{Sum}
use Rattle.co_first_tree.specs.declared.tree.Sum.TheVariants.{Name}
use Rattle.co_first_tree.specs.declared.tree.Term.{Term}
use Rattle.co_first_tree.specs.declared.tree.SumOp.{SumOp}
use Rattle.co_first_tree.specs.declared.tree.Atom.{Atom}
use Rattle.co_first_tree.specs.declared.tree.Atom.TheVariants as operand
use Rattle.co_first_exec.specs.declared.instr.Instr.TheVariants.{Const, Arith, Slot, Load, Store, Push, Pop, Jump, JumpZ, MainRet}
use Rattle.co_first_exec.specs.declared.instr.Instr.TheVariants as instr
use Rattle.co_first_exec.specs.declared.instr.Placed.{Placed}
use Rattle.co_first_exec.specs.declared.instr.Stop.TheVariants.{Running}
use Rattle.co_first_exec.specs.declared.local.Local.{Local}
use Rattle.co_first_meaning.specs.Meaning.{Purpose, Into, Show, Test, Evaluate, Extend, Give, Next, Frame, Rest, Again, Config, On, atom_value, step, steps, doing_of, printed}
use Rattle.co_first_gen.specs.Code.{placed, op_of, span_of, atom_code, terms_code, sum_code, assign_code, while_code, list_code, main_end}
use Rattle.co_first_faithful.specs.Faithful.{IsGoing, Agree}
use Rattle.co_first_faithful.proofs.Places.{HasAt}
use Rattle.co_first_faithful.proofs.Within.{IsAtom, AreTerms, IsSum, AreStmts}
use Rattle.co_first_faithful.proofs.Holds.{Item, value, address, Holds}

abbrev pub body_code : ℕ → Sum → List Stmt → List Placed
body_code start sum body = list_code (start + length (sum_code sum) + 1) body

-- a loop stands at `start`
pub record LoopAt (code : List Placed) (count start : ℕ) (sum : Sum) (body : List Stmt) : Type 0 where
  pub here : HasAt code start (while_code start sum (body_code start sum body))
  pub sum_ok : IsSum count sum
  pub body_ok : AreStmts count body

-- the code of what comes after a statement stands at `place`
abbrev pub Leads : List Placed → ℕ → ℕ → List Frame → Type 0
Leads code count place [] = slice_get code place ≡ Some main_end
Leads code count place (Rest stmts ∷ frames) =
    HasAt code place (list_code place stmts) × AreStmts count stmts × Leads code count (place + length (list_code place stmts)) frames
Leads code count place (Again sum body ∷ frames) =
    (start : ℕ) × LoopAt code count start sum body × (place ≡ start + length (sum_code sum) + 1 + length (body_code start sum body)) × Leads code count (place + 1) frames

-- the code of what is done with a sum's value stands at `place`
abbrev pub Takes : List Placed → ℕ → ℕ → Span → Purpose → List Frame → Type 0
Takes code count place span (Into x) frames =
    HasAt code place (placed Pop span ∷ placed Store span ∷ []) × (x < count) × Leads code count (place + 1 + 1) frames
Takes code count place span Show frames =
    HasAt code place (placed instr.Print span ∷ []) × Leads code count (place + 1) frames
Takes code count place span (Test sum body) frames =
    (start : ℕ) × LoopAt code count start sum body × (place ≡ start + length (sum_code sum)) × Leads code count (place + 1 + length (body_code start sum body) + 1) frames

-- what waits on the stack while a sum is evaluated
abbrev pub waits : Purpose → List Item
waits (Into x) = address x ∷ []
waits Show = []
waits (Test sum body) = []

-- the code of these terms, and of what comes after their sum, stands at `place`
pub record Remain (code : List Placed) (count place : ℕ) (terms : List Term) (span : Span) (purpose : Purpose) (frames : List Frame) : Type 0 where
  pub here : HasAt code place (terms_code span terms)
  pub terms_ok : AreTerms count terms
  pub takes : Takes code count (place + length (terms_code span terms)) span purpose frames

abbrev pub term_of : SumOp → Atom → Term
term_of op atom = record { op = op; atom = atom }

abbrev pub term_end : Span → SumOp → List Placed
term_end span op = placed Pop span ∷ placed (Arith (op_of op) num.Long) span ∷ []

-- `since` counts the instructions since the program's last step
pub data Live (code : List Placed) (count : ℕ) (k : Local) : ℕ → Config → Type 0 where
  going : (frames : List Frame) (vars out : List ℤ) → Holds count k [] vars out → Leads code count k.place frames → Live code count k 0 (On Next frames vars out)
  opening : (x : ℕ) (sum : Sum) (frames : List Frame) (vars out : List ℤ) → Holds count k [] vars out → HasAt code k.place (assign_code x sum) → x < count → IsSum count sum → Leads code count (k.place + length (assign_code x sum)) frames → Live code count k 0 (On (Evaluate sum (Into x)) frames vars out)
  opened : (x : ℕ) (sum : Sum) (frames : List Frame) (vars out : List ℤ) → Holds count k [] vars out → k.a ≡ x → HasAt code k.place (placed Push (span_of sum) ∷ sum_code sum) → x < count → IsSum count sum → Takes code count (k.place + 1 + length (sum_code sum)) (span_of sum) (Into x) frames → Live code count k 1 (On (Evaluate sum (Into x)) frames vars out)
  evaluating : (since : ℕ) (sum : Sum) (purpose : Purpose) (frames : List Frame) (vars out : List ℤ) → since ≤ 2 → Holds count k (waits purpose) vars out → HasAt code k.place (sum_code sum) → IsSum count sum → Takes code count (k.place + length (sum_code sum)) (span_of sum) purpose frames → Live code count k since (On (Evaluate sum purpose) frames vars out)
  loading : (since x : ℕ) (terms : List Term) (span : Span) (purpose : Purpose) (frames : List Frame) (vars out : List ℤ) → since ≤ 3 → Holds count k (waits purpose) vars out → k.a ≡ x → x < count → slice_get code k.place ≡ Some (placed Load span) → Remain code count (k.place + 1) terms span purpose frames → Live code count k since (On (Evaluate (Name x terms span) purpose) frames vars out)
  extending : (left : ℤ) (terms : List Term) (span : Span) (purpose : Purpose) (frames : List Frame) (vars out : List ℤ) → Holds count k (waits purpose) vars out → to_z w64 k.a ≡ left → Remain code count k.place terms span purpose frames → Live code count k 0 (On (Extend left terms span purpose) frames vars out)
  waiting : (left : ℤ) (op : SumOp) (atom : Atom) (terms : List Term) (span : Span) (purpose : Purpose) (frames : List Frame) (vars out : List ℤ) → Holds count k (value left ∷ waits purpose) vars out → HasAt code k.place (atom_code span atom ++ term_end span op) → IsAtom count atom → Remain code count (k.place + length (atom_code span atom) + 2) terms span purpose frames → Live code count k 1 (On (Extend left (term_of op atom ∷ terms) span purpose) frames vars out)
  fetching : (left : ℤ) (op : SumOp) (y : ℕ) (terms : List Term) (span : Span) (purpose : Purpose) (frames : List Frame) (vars out : List ℤ) → Holds count k (value left ∷ waits purpose) vars out → k.a ≡ y → y < count → HasAt code k.place (placed Load span ∷ term_end span op) → Remain code count (k.place + 3) terms span purpose frames → Live code count k 2 (On (Extend left (term_of op (operand.Name y) ∷ terms) span purpose) frames vars out)
  ready : (since : ℕ) (left : ℤ) (op : SumOp) (atom : Atom) (terms : List Term) (span : Span) (purpose : Purpose) (frames : List Frame) (vars out : List ℤ) → since ≤ 3 → Holds count k (value left ∷ waits purpose) vars out → to_z w64 k.a ≡ atom_value vars atom → HasAt code k.place (term_end span op) → Remain code count (k.place + 2) terms span purpose frames → Live code count k since (On (Extend left (term_of op atom ∷ terms) span purpose) frames vars out)
  combining : (since : ℕ) (left : ℤ) (op : SumOp) (atom : Atom) (terms : List Term) (span : Span) (purpose : Purpose) (frames : List Frame) (vars out : List ℤ) → since ≤ 4 → Holds count k (waits purpose) vars out → to_z w64 k.b ≡ left → to_z w64 k.a ≡ atom_value vars atom → slice_get code k.place ≡ Some (placed (Arith (op_of op) num.Long) span) → Remain code count (k.place + 1) terms span purpose frames → Live code count k since (On (Extend left (term_of op atom ∷ terms) span purpose) frames vars out)
  giving : (z : ℤ) (span : Span) (purpose : Purpose) (frames : List Frame) (vars out : List ℤ) → Holds count k (waits purpose) vars out → to_z w64 k.a ≡ z → Takes code count k.place span purpose frames → Live code count k 0 (On (Give z purpose) frames vars out)
  storing : (x : ℕ) (z : ℤ) (span : Span) (frames : List Frame) (vars out : List ℤ) → Holds count k [] vars out → k.b ≡ x → to_z w64 k.a ≡ z → x < count → slice_get code k.place ≡ Some (placed Store span) → Leads code count (k.place + 1) frames → Live code count k 1 (On (Give z (Into x)) frames vars out)

-- the machine's state and the program's are at the same place, or the machine has stopped where the program is
pub data Sim (code : List Placed) (count : ℕ) (k : Local) (since : ℕ) (c : Config) : Type 0 where
  live : Live code count k since c → Sim code count k since c
  over : since ≤ 5 → k.stop ≢ Running → Agree k c → Sim code count k since c

-- what a live state shows
pub record Shows (k : Local) (since : ℕ) (c : Config) : Type 0 where
  pub stop : k.stop ≡ Running
  pub prints : k.prints ≡ printed c
  pub going : IsGoing (doing_of c)
  pub few : since ≤ 4

pub shows : (code : List Placed) (count : ℕ) (k : Local) (since : ℕ) (c : Config) → Live code count k since c → Shows k since c
shows code count k since c (going frames vars out h lead) = record { stop = h.stop; prints = h.prints; going = tt; few = omega arith }
shows code count k since c (opening x sum frames vars out h at lt ok lead) = record { stop = h.stop; prints = h.prints; going = tt; few = omega arith }
shows code count k since c (opened x sum frames vars out h a at lt ok take) = record { stop = h.stop; prints = h.prints; going = tt; few = omega arith }
shows code count k since c (evaluating s sum purpose frames vars out le h at ok take) = record { stop = h.stop; prints = h.prints; going = tt; few = omega arith }
shows code count k since c (loading s x terms span purpose frames vars out le h a lt at rem) = record { stop = h.stop; prints = h.prints; going = tt; few = omega arith }
shows code count k since c (extending left terms span purpose frames vars out h a rem) = record { stop = h.stop; prints = h.prints; going = tt; few = omega arith }
shows code count k since c (waiting left op atom terms span purpose frames vars out h at ok rem) = record { stop = h.stop; prints = h.prints; going = tt; few = omega arith }
shows code count k since c (fetching left op y terms span purpose frames vars out h a lt at rem) = record { stop = h.stop; prints = h.prints; going = tt; few = omega arith }
shows code count k since c (ready s left op atom terms span purpose frames vars out le h a at rem) = record { stop = h.stop; prints = h.prints; going = tt; few = omega arith }
shows code count k since c (combining s left op atom terms span purpose frames vars out le h b a at rem) = record { stop = h.stop; prints = h.prints; going = tt; few = omega arith }
shows code count k since c (giving z span purpose frames vars out h a take) = record { stop = h.stop; prints = h.prints; going = tt; few = omega arith }
shows code count k since c (storing x z span frames vars out h b a lt at lead) = record { stop = h.stop; prints = h.prints; going = tt; few = omega arith }

-- after a turn from k0, and some steps of the program: at most five instructions a step
pub record Turned (code : List Placed) (count : ℕ) (k0 : Local) (before : ℕ) (k1 : Local) (c : Config) : Type 0 where
  pub more : ℕ
  pub since : ℕ
  pub sim : Sim code count k1 since (steps more c)
  pub bound : k1.made + before ≤ k0.made + 5 * more + since

-- a step of the program that takes no instruction
pub earlier : (code : List Placed) (count : ℕ) (k0 : Local) (before : ℕ) (k1 : Local) (c : Config) → Turned code count k0 before k1 (step c) → Turned code count k0 before k1 c
earlier code count k0 before k1 c t =
    record { more = suc t.more; since = t.since; sim = t.sim; bound = omega (arith, t.bound) }
