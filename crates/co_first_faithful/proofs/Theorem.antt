-- The code of a program follows it, from the opening on, at every number of turns.
use Rattle.std.proofs.Common.{◌≡◌, ◌≢◌, ℕ, zero, suc, ◌+◌, ◌*◌, ◌<◌, ◌≤◌, List, [], ◌∷◌, length, replicate, Bool, true, false, refl, sym, ap, ◌∙◌, subst, arith}
use Rattle.std.specs.Prelude.{nat_lt, if◌then◌else◌, slice_get, pos}
use Rattle.std.proofs.lemmas.List.{length-replicate, get_or-replicate}
use mir.Val.{to_z}
use mir.Syntax.{w64}
use Rattle.co_first_tree.specs.declared.tree.Program.{Program}
use Rattle.co_first_tree.specs.Form.{IsFormed}
use Rattle.co_first_exec.specs.declared.instr.Placed.{Placed}
use Rattle.co_first_exec.specs.declared.instr.Stop.{Stop}
use Rattle.co_first_exec.specs.declared.instr.Stop.TheVariants.{Running, Budget}
use Rattle.co_first_exec.specs.declared.local.Local.{Local}
use Rattle.co_first_exec.specs.declared.turn.Due.TheVariants.{OutOfBudget}
use Rattle.co_first_exec.specs.Opening.{opening, stack_words}
use Rattle.co_first_exec.specs.Laws.{KeepsLimits}
use Rattle.co_first_exec.proofs.Limits.{stay, limits}
use Rattle.co_first_exec.specs.Machine.{checked, due_running, due_after, taken, turn, turns}
use Rattle.co_first_meaning.specs.Meaning.{Rest, Config, step, steps, start, doing_of}
use Rattle.co_first_gen.specs.Code.{list_code, main_end, code_of}
use Rattle.co_first_faithful.specs.Faithful.{IsGoing, Ends, Agree, after_turns, IsFaithful, Ran}
use Rattle.co_first_faithful.proofs.Places.{HasAt, has_front, has_back, has_all}
use Rattle.co_first_faithful.proofs.Within.{within}
use Rattle.co_first_faithful.proofs.Holds.{Holds, stack_room}
use Rattle.co_first_faithful.proofs.Live.{Leads, Live, Sim, live, over, Shows, shows, Turned}
use Rattle.co_first_faithful.proofs.Live as state
use Rattle.co_first_faithful.proofs.Turns.{turn_live}

-- the budget ends a run before its next instruction
cut : (code : List Placed) (k : Local) → k.stop ≡ Running → nat_lt k.made k.budget ≡ false → turn code k ≡ record k { stop = Budget }
cut code k running none =
    ap (λ s. taken (due_after s (due_running code k)) k) running
    ∙ ap (λ b. taken (if b then checked k (slice_get code k.place) else OutOfBudget) k) none

-- a turn of a live state
turned : (code : List Placed) (count : ℕ) (k : Local) (since : ℕ) (c : Config) (budget : Bool) → nat_lt k.made k.budget ≡ budget → Live code count k since c → Turned code count k since (turn code k) c
turned code count k since c true e l = turn_live code count k e since c l
turned code count k since c false e l =
    let s = shows code count k since c l in
    let agree : Agree (record k { stop = Budget }) c = record { prints = s.prints; ends = s.going } in
    subst (λ k1. Turned code count k since k1 c) (sym (cut code k s.stop e))
    (record { more = 0; since = since; sim = over (omega (arith, s.few)) (λ e. cc) agree; bound = omega arith })

each_turn : (code : List Placed) (count : ℕ) (k : Local) (since : ℕ) (c : Config) → Sim code count k since c → Turned code count k since (turn code k) c
each_turn code count k since c (live l) = turned code count k since c (nat_lt k.made k.budget) refl l
each_turn code count k since c (over le stopped agree) =
    subst (λ k1. Turned code count k since k1 c) (sym (stay code k stopped))
    (record { more = 0; since = since; sim = over le stopped agree; bound = omega arith })

-- where the program is after n turns of the machine
record Reached (code : List Placed) (count : ℕ) (k : Local) (c : Config) : Type 0 where
  made : ℕ
  since : ℕ
  sim : Sim code count k since (steps made c)
  bound : k.made ≤ 5 * made + since

steps_on : (m n : ℕ) (c : Config) → steps n (steps m c) ≡ steps (m + n) c
steps_on zero n c = let e : n ≡ zero + n = omega arith in ap (λ i. steps i c) e
steps_on (suc m) n c =
    let e : suc (m + n) ≡ suc m + n = omega arith in
    steps_on m n (step c) ∙ ap (λ i. steps i c) e

reached : (code : List Placed) (count : ℕ) (k : Local) (c : Config) → Sim code count k 0 c → k.made ≡ 0 → (n : ℕ) → Reached code count (turns code n k) c
reached code count k c sim none zero = record { made = 0; since = 0; sim = sim; bound = omega (arith, none) }
reached code count k c sim none (suc n) =
    let r = reached code count k c sim none n in
    let k0 = turns code n k in
    let t = each_turn code count k0 r.since (steps r.made c) r.sim in
    record {
      made = r.made + t.more;
      since = t.since;
      sim = subst (λ d. Sim code count (turn code k0) t.since d) (steps_on r.made t.more c) t.sim;
      bound = omega (arith, r.bound, t.bound);
    }

-- what is reached agrees
running_ends : (s : Stop) (c : Config) → s ≡ Running → IsGoing (doing_of c) → Ends s (doing_of c)
running_ends s c e going = subst (λ x. Ends x (doing_of c)) (sym e) going

agrees : (code : List Placed) (count : ℕ) (k : Local) (since : ℕ) (c : Config) → Sim code count k since c → Agree k c × (since ≤ 5)
agrees code count k since c (live l) =
    let s = shows code count k since c l in
    (record { prints = s.prints; ends = running_ends k.stop c s.stop s.going }, omega (arith, s.few))
agrees code count k since c (over le stopped agree) = (agree, le)

-- the opening
opens : (program : Program) (budget : ℕ) → IsFormed program → Sim (code_of program) (length program.names) (opening (length program.names) budget) 0 (start program)
opens program budget formed =
    let count = length program.names in
    let code = code_of program in
    let body = list_code 0 program.body in
    let all : HasAt code 0 code = has_all code [] in
    let front = has_front code 0 body (main_end ∷ []) all in
    let back = has_back code 0 body (main_end ∷ []) all in
    let room = stack_room in
    let few = formed.count in
    let leads : Leads code count 0 (Rest program.body ∷ []) = (front, within program formed, back.0) in
    let holds : Holds count (opening count budget) [] (replicate count (pos 0)) [] = record {
      stop = refl;
      prints = refl;
      fp = refl;
      few = few;
      size = length-replicate stack_words 0;
      deep = omega arith;
      top = omega arith;
      slots = length-replicate count (pos 0);
      values = λ x lt. let low : x < stack_words = omega arith in ap (to_z w64) (get_or-replicate stack_words x 0 0 low) ∙ sym (get_or-replicate count x (pos 0) (pos 0) lt);
      items = tt;
    } in
    live (state.going (Rest program.body ∷ []) (replicate count (pos 0)) [] holds leads)

pub faithful : (program : Program) → IsFormed program → IsFaithful program (code_of program)
faithful program formed budget n =
    let count = length program.names in
    let r = reached (code_of program) count (opening count budget) (start program) (opens program budget formed) refl n in
    let a = agrees (code_of program) count (after_turns program (code_of program) budget n) r.since (steps r.made (start program)) r.sim in
    (r.made, a.0, omega (arith, r.bound, a.1))

-- a run of the code that was made is one of the program
pub ran : (program : Program) (budget : ℕ) (code : List Placed) (first last : Local) (n : ℕ) → IsFormed program → code ≡ code_of program → first ≡ opening (length program.names) budget → last ≡ turns code n first → last.stop ≢ Running → Ran program budget last
ran program budget code first last n formed same opened reached stopped =
    let at : last ≡ after_turns program (code_of program) budget n = reached ∙ ap (λ l. turns code n l) opened ∙ ap (λ c. after_turns program c budget n) same in
    let f = faithful program formed budget n in
    record {
      code = code_of program;
      faithful = faithful program formed;
      turns_made = n;
      local_is = at;
      stopped = stopped;
      steps_made = f.0;
      agree = subst (λ l. Agree l (steps f.0 (start program))) (sym at) f.1;
      few = subst (λ (l : Local). l.made ≤ 5 * (f.0 + 1)) (sym at) f.2;
      limits = subst (KeepsLimits budget) (sym at) (limits (code_of program) (length program.names) budget n);
    }
