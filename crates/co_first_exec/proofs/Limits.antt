-- The laws of runs.
use Rattle.std.proofs.Common.{◌≡◌, ◌≢◌, ℕ, zero, suc, ◌<◌, ◌≤◌, List, [], ◌∷◌, length, Option, Some, None, Bool, true, false, refl, sym, ap, ◌∙◌, subst, arith, length-append}
use Rattle.std.specs.Prelude.{nat_lt, if◌then◌else◌, slice_get}
use Rattle.std.proofs.lemmas.Bool.{ltb-true}
use Rattle.std.proofs.lemmas.Bool.Decides.{nat_tests}
use mir.Val.{to_z}
use mir.Syntax.{w64}
use Rattle.co_base.specs.declared.span.Span.{Span}
use Rattle.co_base.specs.declared.kinds.Limit.TheVariants as limit
use Rattle.co_first_exec.specs.declared.instr.Instr.{Instr}
use Rattle.co_first_exec.specs.declared.instr.Instr.TheVariants.{Const, Arith, Slot, Load, Store, Push, Pop, Jump, JumpZ, Print, MainRet}
use Rattle.co_first_exec.specs.declared.instr.Placed.{Placed}
use Rattle.co_first_exec.specs.declared.instr.Stop.{Stop}
use Rattle.co_first_exec.specs.declared.instr.Stop.TheVariants.{Running, Main, Undefined, Budget, Limit}
use Rattle.co_first_exec.specs.declared.local.Local.{Local}
use Rattle.co_first_exec.specs.declared.turn.Due.TheVariants.{OutOfBudget, Meets, Does}
use Rattle.co_first_exec.specs.declared.turn.Computed.{Computed}
use Rattle.co_first_exec.specs.declared.turn.Computed.TheVariants.{Value, Outside, Absent}
use Rattle.co_first_exec.specs.Opening.{opening}
use Rattle.co_first_exec.specs.Machine.{computed, lawful, met, checked, due_running, due_after, settle, branch, act, taken, turn, turns}
use Rattle.co_first_exec.specs.Laws.{StopIsFinal, KeepsLimits, LimitsHold}

stays : (s : Stop) (code : List Placed) (l : Local) → l.stop ≡ s → s ≢ Running → turn code l ≡ l
stays Running code l e stopped = absurd (stopped refl)
stays (Main value) code l e stopped = ap (λ s. taken (due_after s (due_running code l)) l) e
stays (Undefined kind span) code l e stopped = ap (λ s. taken (due_after s (due_running code l)) l) e
stays Budget code l e stopped = ap (λ s. taken (due_after s (due_running code l)) l) e
stays (Limit limit) code l e stopped = ap (λ s. taken (due_after s (due_running code l)) l) e

pub stay : (code : List Placed) (l : Local) → l.stop ≢ Running → turn code l ≡ l
stay code l stopped = stays l.stop code l refl stopped

pub final : StopIsFinal
final code zero l stopped = refl
final code (suc n) l stopped = ap (turn code) (final code n l stopped) ∙ stay code l stopped

-- a state within its budget, and a stop that is neither the budget nor a limit
record Within (budget : ℕ) (l : Local) : Type 0 where
  budget_is : l.budget ≡ budget
  keeps : KeepsLimits budget l

-- an instruction that spends nothing and stops the run with neither
record IsPlain (l m : Local) : Type 0 where
  made : m.made ≡ l.made
  budget : m.budget ≡ l.budget
  spent : m.stop ≡ Budget → l.stop ≡ Budget
  full : m.stop ≡ Limit limit.Prints → l.stop ≡ Limit limit.Prints

plain_settle : (c : Computed) (span : Span) (l : Local) → IsPlain l (settle c span l)
plain_settle (Value z) span l = record { made = refl; budget = refl; spent = λ e. e; full = λ e. e }
plain_settle Outside span l = record { made = refl; budget = refl; spent = λ e. cc; full = λ e. cc }
plain_settle Absent span l = record { made = refl; budget = refl; spent = λ e. cc; full = λ e. cc }

plain_branch : (a place : ℕ) (l : Local) → IsPlain l (branch a place l)
plain_branch zero place l = record { made = refl; budget = refl; spent = λ e. e; full = λ e. e }
plain_branch (suc n) place l = record { made = refl; budget = refl; spent = λ e. e; full = λ e. e }

plain_act : (i : Instr) (span : Span) (l : Local) (old : ℕ) → IsPlain l (act i span l old)
plain_act (Arith op num) span l old = plain_settle (computed op num (to_z w64 l.b) (to_z w64 l.a)) span l
plain_act (JumpZ place) span l old = plain_branch l.a place l
plain_act MainRet span l old = record { made = refl; budget = refl; spent = λ e. cc; full = λ e. cc }
plain_act (Const v) span l old = record { made = refl; budget = refl; spent = λ e. e; full = λ e. e }
plain_act (Slot k) span l old = record { made = refl; budget = refl; spent = λ e. e; full = λ e. e }
plain_act Load span l old = record { made = refl; budget = refl; spent = λ e. e; full = λ e. e }
plain_act Store span l old = record { made = refl; budget = refl; spent = λ e. e; full = λ e. e }
plain_act Push span l old = record { made = refl; budget = refl; spent = λ e. e; full = λ e. e }
plain_act Pop span l old = record { made = refl; budget = refl; spent = λ e. e; full = λ e. e }
plain_act (Jump place) span l old = record { made = refl; budget = refl; spent = λ e. e; full = λ e. e }
plain_act Print span l old = record { made = refl; budget = refl; spent = λ e. e; full = λ e. e }

settle_prints : (c : Computed) (span : Span) (l : Local) → (settle c span l).prints ≡ l.prints
settle_prints (Value z) span l = refl
settle_prints Outside span l = refl
settle_prints Absent span l = refl

branch_prints : (a place : ℕ) (l : Local) → (branch a place l).prints ≡ l.prints
branch_prints zero place l = refl
branch_prints (suc n) place l = refl

-- the room for prints lasts
act_prints : (i : Instr) (span : Span) (l m : Local) (old : ℕ) → m.prints ≡ l.prints → lawful l i ≡ true → length l.prints ≤ 65536 → length (act i span m old).prints ≤ 65536
act_prints Print span l m old same ok le =
    let room = ltb-true (length l.prints) 65536 ok in
    omega (arith, ap length same, length-append m.prints (to_z w64 m.a ∷ []))
act_prints (Arith op num) span l m old same ok le =
    omega (arith, ap length (settle_prints (computed op num (to_z w64 m.b) (to_z w64 m.a)) span m), ap length same)
act_prints (JumpZ place) span l m old same ok le = omega (arith, ap length (branch_prints m.a place m), ap length same)
act_prints MainRet span l m old same ok le = omega (arith, ap length same)
act_prints (Const v) span l m old same ok le = omega (arith, ap length same)
act_prints (Slot k) span l m old same ok le = omega (arith, ap length same)
act_prints Load span l m old same ok le = omega (arith, ap length same)
act_prints Store span l m old same ok le = omega (arith, ap length same)
act_prints Push span l m old same ok le = omega (arith, ap length same)
act_prints Pop span l m old same ok le = omega (arith, ap length same)
act_prints (Jump place) span l m old same ok le = omega (arith, ap length same)

-- a stop that an instruction meets is the limit on prints only where they are 65,536
met_full : (i : Instr) (l : Local) → lawful l i ≡ false → length l.prints ≤ 65536 → met i ≡ Limit limit.Prints → length l.prints ≡ 65536
met_full Print l bad le e = let out : 65536 ≤ length l.prints = grind (arith, nat_tests) in omega arith
met_full Push l bad le e = absurd (let two : limit.Stack ≡ limit.Prints = cc in cc)
met_full Load l bad le e = cc
met_full Store l bad le e = cc
met_full Pop l bad le e = cc
met_full (Const v) l bad le e = cc
met_full (Arith op num) l bad le e = cc
met_full (Slot k) l bad le e = cc
met_full (Jump place) l bad le e = cc
met_full (JumpZ place) l bad le e = cc
met_full MainRet l bad le e = cc

met_spent : (i : Instr) → met i ≢ Budget
met_spent Print e = cc
met_spent Push e = cc
met_spent Load e = cc
met_spent Store e = cc
met_spent Pop e = cc
met_spent (Const v) e = cc
met_spent (Arith op num) e = cc
met_spent (Slot k) e = cc
met_spent (Jump place) e = cc
met_spent (JumpZ place) e = cc
met_spent MainRet e = cc

module _ (budget : ℕ) (l : Local) (running : l.stop ≡ Running) (w : Within budget l) (left : l.made < l.budget) where
  does : (i : Instr) (span : Span) → lawful l i ≡ true → Within budget (taken (Does i span) l)
  does i span ok =
      let p = plain_act i span _ _ in
      let prints = act_prints i span l _ _ refl ok w.keeps.prints in
      record { budget_is = p.budget ∙ w.budget_is; keeps = record { made = omega (arith, p.made, w.budget_is); spent = λ e. let never : Running ≡ Budget = sym running ∙ p.spent e in cc; prints = prints; full = λ e. let never : Running ≡ Limit limit.Prints = sym running ∙ p.full e in cc } }

  fetched : (p : Placed) (b : Bool) → lawful l p.instr ≡ b → Within budget (taken (if b then Does p.instr p.span else Meets (met p.instr)) l)
  fetched p true ok = does p.instr p.span ok
  fetched p false bad =
      record { budget_is = w.budget_is; keeps = record { made = omega (arith, w.budget_is); spent = λ e. absurd (met_spent p.instr e); prints = w.keeps.prints; full = λ e. met_full p.instr l bad w.keeps.prints e } }

  due_within : (o : Option Placed) → Within budget (taken (checked l o) l)
  due_within None = record { budget_is = w.budget_is; keeps = record { made = omega (arith, w.budget_is); spent = λ e. cc; prints = w.keeps.prints; full = λ e. cc } }
  due_within (Some p) = fetched p (lawful l p.instr) refl

running_within : (code : List Placed) (budget : ℕ) (l : Local) (b : Bool) → nat_lt l.made l.budget ≡ b → l.stop ≡ Running → Within budget l → Within budget (taken (if b then checked l (slice_get code l.place) else OutOfBudget) l)
running_within code budget l true e running w = due_within budget l running w (ltb-true l.made l.budget e) (slice_get code l.place)
running_within code budget l false e running w =
    let spent : l.budget ≤ l.made = grind (arith, nat_tests) in
    record { budget_is = w.budget_is; keeps = record { made = w.keeps.made; spent = λ e. omega (arith, w.budget_is, w.keeps.made); prints = w.keeps.prints; full = λ e. cc } }

turn_within : (s : Stop) (code : List Placed) (budget : ℕ) (l : Local) → l.stop ≡ s → Within budget l → Within budget (turn code l)
turn_within Running code budget l e w =
    subst (λ s. Within budget (taken (due_after s (due_running code l)) l)) (sym e) (running_within code budget l (nat_lt l.made l.budget) refl e w)
turn_within (Main value) code budget l e w = subst (Within budget) (sym (stays (Main value) code l e (λ e. cc))) w
turn_within (Undefined kind span) code budget l e w = subst (Within budget) (sym (stays (Undefined kind span) code l e (λ e. cc))) w
turn_within Budget code budget l e w = subst (Within budget) (sym (stays Budget code l e (λ e. cc))) w
turn_within (Limit limit) code budget l e w = subst (Within budget) (sym (stays (Limit limit) code l e (λ e. cc))) w

turns_within : (code : List Placed) (slots budget n : ℕ) → Within budget (turns code n (opening slots budget))
turns_within code slots budget zero = record { budget_is = refl; keeps = record { made = omega arith; spent = λ e. cc; prints = omega arith; full = λ e. cc } }
turns_within code slots budget (suc n) =
    turn_within (turns code n (opening slots budget)).stop code budget (turns code n (opening slots budget)) refl (turns_within code slots budget n)

pub limits : LimitsHold
limits code slots budget n = (turns_within code slots budget n).keeps
