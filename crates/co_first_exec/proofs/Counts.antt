-- A run takes a turn only while its budget lasts.
use Rattle.std.proofs.Common.{◌≡◌, ℕ, zero, suc, ◌+◌, ◌-◌, ◌<◌, ◌≤◌, List, Option, Some, None, Bool, true, false, refl, sym, subst, arith}
use Rattle.std.specs.Prelude.{nat_lt, if◌then◌else◌, slice_get}
use Rattle.std.proofs.lemmas.Bool.{ltb-true}
use mir.Val.{to_z}
use mir.Syntax.{w64}
use Rattle.co_base.specs.declared.span.Span.{Span}
use Rattle.co_first_exec.specs.declared.instr.Instr.{Instr}
use Rattle.co_first_exec.specs.declared.instr.Instr.TheVariants.{Const, Arith, Slot, Load, Store, Push, Pop, Jump, JumpZ, Print, MainRet}
use Rattle.co_first_exec.specs.declared.instr.Placed.{Placed}
use Rattle.co_first_exec.specs.declared.instr.Stop.{Stop}
use Rattle.co_first_exec.specs.declared.instr.Stop.TheVariants.{Running, Main, Undefined, Budget, Limit}
use Rattle.co_first_exec.specs.declared.local.Local.{Local}
use Rattle.co_first_exec.specs.declared.turn.Due.{Due}
use Rattle.co_first_exec.specs.declared.turn.Due.TheVariants.{OutOfBudget, Meets, Does}
use Rattle.co_first_exec.specs.declared.turn.Computed.{Computed}
use Rattle.co_first_exec.specs.declared.turn.Computed.TheVariants.{Value, Outside, Absent}
use Rattle.co_first_exec.specs.Machine.{computed, lawful, met, checked, due_running, due_after, settle, branch, act, taken, turn}

-- how many turns are left at most
abbrev pub weigh : Stop → ℕ → ℕ
weigh Running n = suc n
weigh _ n = 0

abbrev pub weight : Local → ℕ
weight l = weigh l.stop (l.budget - l.made)

weigh_most : (s : Stop) (n : ℕ) → weigh s n ≤ suc n
weigh_most Running n = omega arith
weigh_most (Main v) n = omega arith
weigh_most (Undefined u span) n = omega arith
weigh_most Budget n = omega arith
weigh_most (Limit limit) n = omega arith

-- the counts of a state, which the instruction itself does not change
record SameCounts (l m : Local) : Type 0 where
  made : m.made ≡ l.made
  budget : m.budget ≡ l.budget

settle_counts : (c : Computed) (span : Span) (l : Local) → SameCounts l (settle c span l)
settle_counts (Value z) span l = record { made = refl; budget = refl }
settle_counts Outside span l = record { made = refl; budget = refl }
settle_counts Absent span l = record { made = refl; budget = refl }

branch_counts : (a place : ℕ) (l : Local) → SameCounts l (branch a place l)
branch_counts zero place l = record { made = refl; budget = refl }
branch_counts (suc n) place l = record { made = refl; budget = refl }

act_counts : (i : Instr) (span : Span) (l : Local) (old : ℕ) → SameCounts l (act i span l old)
act_counts (Const v) span l old = record { made = refl; budget = refl }
act_counts (Arith op num) span l old = settle_counts (computed op num (to_z w64 l.b) (to_z w64 l.a)) span l
act_counts (Slot k) span l old = record { made = refl; budget = refl }
act_counts Load span l old = record { made = refl; budget = refl }
act_counts Store span l old = record { made = refl; budget = refl }
act_counts Push span l old = record { made = refl; budget = refl }
act_counts Pop span l old = record { made = refl; budget = refl }
act_counts (Jump place) span l old = record { made = refl; budget = refl }
act_counts (JumpZ place) span l old = branch_counts l.a place l
act_counts Print span l old = record { made = refl; budget = refl }
act_counts MainRet span l old = record { made = refl; budget = refl }

-- one instruction more
record CountsOne (l m : Local) : Type 0 where
  made : m.made ≡ l.made + 1
  budget : m.budget ≡ l.budget

does_counts : (i : Instr) (span : Span) (l : Local) → CountsOne l (taken (Does i span) l)
does_counts i span l =
    let h = act_counts i span _ _ in record { made = h.made; budget = h.budget }

checked_counts : (l : Local) (p : Placed) (b : Bool) → CountsOne l (taken (if b then Does p.instr p.span else Meets (met p.instr)) l)
checked_counts l p true = does_counts p.instr p.span l
checked_counts l p false = record { made = refl; budget = refl }

fetched_counts : (l : Local) (o : Option Placed) → CountsOne l (taken (checked l o) l)
fetched_counts l None = record { made = refl; budget = refl }
fetched_counts l (Some p) = checked_counts l p (lawful l p.instr)

lasts : (l : Local) (b : Bool) (d : Due) → nat_lt l.made l.budget ≡ b → CountsOne l (taken d l) → weight (taken (if b then d else OutOfBudget) l) < suc (l.budget - l.made)
lasts l true d e h =
    let most = weigh_most (taken d l).stop ((taken d l).budget - (taken d l).made) in
    omega (arith, ltb-true l.made l.budget e, most, h.made, h.budget)
lasts l false d e h = omega arith

pub falls : (code : List Placed) (l : Local) → l.stop ≡ Running → weight (turn code l) < weight l
falls code l running =
    let d = due_running code l in
    let less : weight (taken d l) < suc (l.budget - l.made) = lasts l (nat_lt l.made l.budget) (checked l (slice_get code l.place)) refl (fetched_counts l (slice_get code l.place)) in
    let was = subst (λ s. weight (taken d l) < weigh s (l.budget - l.made)) (sym running) less in
    subst (λ s. weight (taken (due_after s d) l) < weight l) (sym running) was
