-- A run weighs no more than its start, so each object is born once, dies once, and dies after its birth.
use Rattle.std.proofs.Common.{◌≡◌, ℕ, zero, suc, ◌+◌, ◌≤◌, ◌⊎◌, inl, inr, List, [], ◌∷◌, ◌++◌, Bool, true, false, Some, None, refl, sym, ap, ◌∙◌, arith, length}
use Rattle.std.proofs.lemmas.Option.{none-some}
use Rattle.std.specs.Prelude.{Option, if◌then◌else◌, ◌==◌, nat_lt, replicate, slice_get, slice_set}
use Rattle.co_core_tree.specs.declared.units.CoreFunc.{CoreFunc}
use Rattle.co_core_tree.specs.declared.units.UnitParts.{UnitParts}
use Rattle.co_meaning_data.specs.Frames.{Activation, Agent, Alive, Condition, Config, Coroutine, Declares, Dies, Doing, Ending, Ends, EndsObject, EndsPart, Final, Frame, Full, HasDied, Holds, IsBorn, ObjectEnds, Opens, Over, PassesMark, RampMade, Running, Scope, Suspended, TempMade, Temporal}
use Rattle.co_meaning_data.specs.Turn.{Program, Turned, nowhere}
use Rattle.co_meaning_data.specs.declared.events.Event.{Event}
use Rattle.co_meaning_data.specs.declared.events.Event.TheVariants as event
use Rattle.co_meaning_data.specs.declared.events.Move.{Move}
use Rattle.co_meaning_data.specs.declared.events.Move.TheVariants as move
use Rattle.co_meaning_data.specs.declared.values.Value.{Value}
use Rattle.co_meaning.specs.Balanced.{births, deaths}
use Rattle.co_meaning.specs.Runs.{after_turn, cut, global_objects, go, go_on, idle_agent, local_of, main_agent, move_of, or_same, runs, runs_from, start, step, take_on, take_posted, take_value, unless_halted, unless_over, vacant, without_posted}
use Rattle.co_meaning_lives.specs.Laws.{LivesOnce}
use Rattle.co_meaning_lives.specs.Tokens.{Fits, activations_weigh, agent_weighs, agents_weigh, alive_weigh, alive_weighs, condition_weighs, config_weighs, coroutines_weigh, credits, doing_weighs, ending_weighs, endings_weigh, event_credits, events_weigh, frame_weighs, frames_weigh, object_weighs, seen_weighs, shared_weighs, temporaries_weigh, weighs}
use Rattle.co_meaning_lives.proofs.CallsFits.{around-weigh}
use Rattle.co_meaning_lives.proofs.CoroutinesFits.{transfer-fits}
use Rattle.co_meaning_lives.proofs.StepFits.{act-fits}

-- a step that there is satisfies this
abbrev IfTurned : (Turned → Type 0) → Option Turned → Type 0
IfTurned P None = Unit {0}
IfTurned P (Some t) = P t

chosen : (P : Turned → Type 0) (b : Bool) (t : Option Turned) → IfTurned P t → IfTurned P (if b then None else t)
chosen P true t p = tt
chosen P false t p = p

-- ---- one move

abbrev mover : Move → ℕ
mover (move.Go w) = w
mover (move.Take w i) = w
mover (move.Cut w) = w

abbrev turn_of : Program → Config → Move → Agent → Option Turned
turn_of p c (move.Go w) a = go p w c a
turn_of p c (move.Take w i) a = take_posted p w i c a
turn_of p c (move.Cut w) a = cut w c a

-- what was seen of a run is worth what the run weighs
abbrev Weighs : (item raw on_birth on_death credit each k : ℕ) → Config → Type 0
Weighs item raw on_birth on_death credit each k c = config_weighs item raw on_birth on_death credit each c ≤ k + credits item raw on_birth on_death credit each c.events

-- the configuration after a turn of an agent
abbrev after : ℕ → Config → Turned → Config
after w c t = record { shared = t.shared; agents = slice_set c.agents w t.agent; events = c.events ++ t.seen }

module _ (item raw on_birth on_death credit each : ℕ) (small : on_birth + on_death ≤ raw + credit) where
  go_on-fits : (limit : ℕ) (p : Program) (w : ℕ) (c : Config) (a : Agent) (list : List Activation) → a.activations ≡ list → agent_weighs item raw on_birth on_death credit each a + shared_weighs item raw on_birth on_death credit each c.shared + each ≤ limit → Fits item raw on_birth on_death credit each limit (go_on p w c a list)
  go_on-fits limit p w c a [] e known = tt
  go_on-fits limit p w c a (top ∷ below) e known =
      act-fits item raw on_birth on_death credit each small limit a.doing (local_of p w c a top below)
      (let parts = ap (activations_weigh item raw on_birth on_death credit each) e in omega (arith, known, parts))

  take_value-fits : (limit : ℕ) (p : Program) (w i : ℕ) (c : Config) (a : Agent) (v : Option Value) → shared_weighs item raw on_birth on_death credit each c.shared + each ≤ limit → Fits item raw on_birth on_death credit each limit (take_value p w (without_posted i c) a v)
  take_value-fits limit p w i c a None known = tt
  take_value-fits limit p w i c a (Some v) known = transfer-fits item raw on_birth on_death credit each small limit v nowhere (local_of p w (without_posted i c) a vacant []) (omega (arith, known))

  take_on-fits : (limit : ℕ) (p : Program) (w i : ℕ) (c : Config) (a : Agent) (list : List Activation) → shared_weighs item raw on_birth on_death credit each c.shared + each ≤ limit → Fits item raw on_birth on_death credit each limit (take_on p w i c a list)
  take_on-fits limit p w i c a [] known = take_value-fits limit p w i c a (slice_get c.shared.posted i) known
  take_on-fits limit p w i c a (top ∷ below) known = tt

  pub turn-fits : (limit : ℕ) (p : Program) (c : Config) (a : Agent) (m : Move) → agent_weighs item raw on_birth on_death credit each a + shared_weighs item raw on_birth on_death credit each c.shared + each ≤ limit → Fits item raw on_birth on_death credit each limit (turn_of p c m a)
  turn-fits limit p c a (move.Go w) known = go_on-fits limit p w c a a.activations refl known
  turn-fits limit p c a (move.Take w i) known = take_on-fits limit p w i c a a.activations (omega (arith, known))
  turn-fits limit p c a (move.Cut w) known = omega (arith, known)

  abbrev weigh_agent : Option Agent → ℕ
  weigh_agent None = 0
  weigh_agent (Some a) = agent_weighs item raw on_birth on_death credit each a

  put-agent : (agents : List Agent) (w : ℕ) (new old : Agent) → slice_get agents w ≡ Some old → agents_weigh item raw on_birth on_death credit each (slice_set agents w new) + agent_weighs item raw on_birth on_death credit each old ≡ agents_weigh item raw on_birth on_death credit each agents + agent_weighs item raw on_birth on_death credit each new
  put-agent [] w new old e = absurd (none-some old e)
  put-agent (a ∷ rest) zero new old e = let same_old = ap weigh_agent e in omega (arith, same_old)
  put-agent (a ∷ rest) (suc w) new old e = let further = put-agent rest w new old e in omega (arith, further)

  events-join : (es fs : List Event) → events_weigh item raw on_birth on_death credit each (es ++ fs) ≡ events_weigh item raw on_birth on_death credit each es + events_weigh item raw on_birth on_death credit each fs
  events-join [] fs = omega arith
  events-join (e ∷ es) fs = let rest = events-join es fs in omega (arith, rest)

  credits-join : (es fs : List Event) → credits item raw on_birth on_death credit each (es ++ fs) ≡ credits item raw on_birth on_death credit each es + credits item raw on_birth on_death credit each fs
  credits-join [] fs = omega arith
  credits-join (e ∷ es) fs = let rest = credits-join es fs in omega (arith, rest)

  turned-weighs : (k w : ℕ) (c : Config) (a : Agent) (t : Option Turned) → slice_get c.agents w ≡ Some a → Weighs item raw on_birth on_death credit each k c → Fits item raw on_birth on_death credit each (agent_weighs item raw on_birth on_death credit each a + shared_weighs item raw on_birth on_death credit each c.shared) t → IfTurned (λ t. Weighs item raw on_birth on_death credit each k (after w c t)) t
  turned-weighs k w c a None e known fits = tt
  turned-weighs k w c a (Some t) e known fits =
      let put = put-agent c.agents w t.agent a e in
      let joined = events-join c.events t.seen in
      let worth = credits-join c.events t.seen in
      omega (arith, known, fits, put, joined, worth)

  pub turn-weighs : each ≡ 0 → (k : ℕ) (p : Program) (c : Config) (m : Move) (a : Agent) → slice_get c.agents (mover m) ≡ Some a → Weighs item raw on_birth on_death credit each k c → IfTurned (λ t. Weighs item raw on_birth on_death credit each k (after (mover m) c t)) (turn_of p c m a)
  turn-weighs free k p c m a e known = turned-weighs k (mover m) c a (turn_of p c m a) e known (turn-fits (agent_weighs item raw on_birth on_death credit each a + shared_weighs item raw on_birth on_death credit each c.shared) p c a m (omega (arith, free)))

  -- ---- the start

  idle-weigh : (n : ℕ) → agents_weigh item raw on_birth on_death credit each (replicate n idle_agent) ≡ 0
  idle-weigh zero = refl
  idle-weigh (suc n) = let rest = idle-weigh n in omega (arith, rest)

  main-weighs : (unit : UnitParts) (func : Option CoreFunc) → agent_weighs item raw on_birth on_death credit each (main_agent unit func) ≡ 0
  main-weighs unit None = refl
  main-weighs unit (Some func) = let frames = around-weigh item raw on_birth on_death credit each small func [] in omega (arith, frames)

  at-most-raw : (b : Bool) → (if b then 0 else raw) ≤ raw
  at-most-raw true = omega arith
  at-most-raw false = omega arith

  pub start-weighs : (unit : UnitParts) (more : ℕ) → Weighs item raw on_birth on_death credit each raw (start unit more)
  start-weighs unit more =
      let main = main-weighs unit (slice_get unit.funcs unit.main.0) in
      let idle = idle-weigh more in
      let fresh = at-most-raw (nat_lt item (length (global_objects unit.globals))) in
      omega (arith, main, idle, fresh)

-- ---- at most one event in a step

module _ (item : ℕ) where
  none : (b : Bool) → ◌≡◌ {A = ℕ} (if b then 0 else 0) 0
  none true = refl
  none false = refl

  seen-none : (c : Option ℕ) (n : ℕ) → n ≡ 0 → seen_weighs item 0 0 0 0 1 c n ≡ 0
  seen-none None n e = refl
  seen-none (Some c) n e = e

  alive-none : (y : Alive) → alive_weighs item 0 0 0 0 1 y ≡ 0
  alive-none y = seen-none y.coroutine (weighs item 0 0 0 0 1 y.object 0) (none (item == y.object))

  alive-nones : (ys : List Alive) → alive_weigh item 0 0 0 0 1 ys ≡ 0
  alive-nones [] = refl
  alive-nones (y ∷ ys) = let one = alive-none y in let rest = alive-nones ys in omega (arith, one, rest)

  object-none : (o : Option Alive) → object_weighs item 0 0 0 0 1 o ≡ 0
  object-none None = refl
  object-none (Some y) = alive-none y

  temporaries-none : (ts : List Temporal) → temporaries_weigh item 0 0 0 0 1 ts ≡ 0
  temporaries-none [] = refl
  temporaries-none (t ∷ ts) = let one = object-none t.object in let rest = temporaries-none ts in omega (arith, one, rest)

  ending-none : (e : Ending) → ending_weighs item 0 0 0 0 1 e ≡ 0
  ending-none (EndsObject y) = alive-none y
  ending-none (EndsPart p) = refl
  ending-none (PassesMark y) = object-none y

  endings-none : (es : List Ending) → endings_weigh item 0 0 0 0 1 es ≡ 0
  endings-none [] = refl
  endings-none (e ∷ es) = let one = ending-none e in let rest = endings-none es in omega (arith, one, rest)

  frame-none : (f : Frame) → frame_weighs item 0 0 0 0 1 f ≡ 0
  frame-none (TempMade slot y) = none (item == y.object)
  frame-none (Declares y) = none (item == y.object)
  frame-none (RampMade y) = none (item == y.object)
  frame-none (Ends rest outcome) = endings-none rest
  frame-none (ObjectEnds y) = alive-none y
  frame-none (Full ts) = temporaries-none ts
  frame-none (Scope alive rest) = alive-nones alive
  frame-none (Holds hold) = alive-nones hold.alive
  frame-none f = refl

  frames-none : (fs : List Frame) → frames_weigh item 0 0 0 0 1 fs ≡ 0
  frames-none [] = refl
  frames-none (f ∷ fs) = let one = frame-none f in let rest = frames-none fs in omega (arith, one, rest)

  activations-none : (list : List Activation) → activations_weigh item 0 0 0 0 1 list ≡ 0
  activations-none [] = refl
  activations-none (a ∷ rest) = let one = frames-none a.frames in let more = activations-none rest in omega (arith, one, more)

  doing-none : (d : Doing) → doing_weighs item 0 0 0 0 1 d ≡ 0
  doing-none (Opens n d) = doing-none d
  doing-none (IsBorn y spot outcome) = none (item == y.object)
  doing-none (Dies y) = alive-none y
  doing-none (HasDied c y) = none (item == y)
  doing-none d = refl

  condition-none : (c : Condition) → condition_weighs item 0 0 0 0 1 c ≡ 0
  condition-none (Running serial) = refl
  condition-none (Suspended point serial rest) = frames-none rest.frames
  condition-none (Final point serial rest) = frames-none rest.frames
  condition-none Over = refl

  coroutines-none : (cs : List Coroutine) → coroutines_weigh item 0 0 0 0 1 cs ≡ 0
  coroutines-none [] = refl
  coroutines-none (c ∷ cs) = let one = condition-none c.condition in let rest = coroutines-none cs in omega (arith, one, rest)

  credit-none : (e : Event) → event_credits item 0 0 0 0 1 e ≡ 0
  credit-none (event.Born c y) = none (item == y)
  credit-none e = refl

  credits-none : (es : List Event) → credits item 0 0 0 0 1 es ≡ 0
  credits-none [] = refl
  credits-none (e ∷ es) = let one = credit-none e in let rest = credits-none es in omega (arith, one, rest)

  counted-all : (es : List Event) → length es ≤ events_weigh item 0 0 0 0 1 es
  counted-all [] = omega arith
  counted-all (e ∷ es) = let rest = counted-all es in omega (arith, rest)

  few : (t : Option Turned) → Fits item 0 0 0 0 1 1 t → IfTurned (λ t. length t.seen ≤ 1) t
  few None fits = tt
  few (Some t) fits = let all = counted-all t.seen in let worth = credits-none t.seen in omega (arith, fits, all, worth)

  pub turn-few : (p : Program) (c : Config) (m : Move) (a : Agent) → IfTurned (λ t. length t.seen ≤ 1) (turn_of p c m a)
  turn-few p c m a =
      few (turn_of p c m a) (turn-fits item 0 0 0 0 1 (omega arith) 1 p c a m
      (let one = doing-none a.doing in let two = activations-none a.activations in let three = coroutines-none c.shared.coroutines in let four = none (nat_lt item (length c.shared.store.objects)) in omega (arith, one, two, three, four)))

-- ---- births and deaths

births-weigh : (x : ℕ) (es : List Event) → births x es ≡ events_weigh x 1 1 0 0 0 es
births-weigh x [] = refl
births-weigh x (event.Born c y ∷ es) = go (births-weigh x es) (x == y)
  where
    go : births x es ≡ events_weigh x 1 1 0 0 0 es → (b : Bool) → (if b then suc (births x es) else births x es) ≡ (if b then 1 else 0) + (0 + events_weigh x 1 1 0 0 0 es)
    go rest true = omega (arith, rest)
    go rest false = omega (arith, rest)
births-weigh x (event.Died c y ∷ es) = go (births-weigh x es) (x == y)
  where
    go : births x es ≡ events_weigh x 1 1 0 0 0 es → (b : Bool) → births x es ≡ (if b then 0 else 0) + (0 + events_weigh x 1 1 0 0 0 es)
    go rest true = omega (arith, rest)
    go rest false = omega (arith, rest)
births-weigh x (e ∷ es) = let rest = births-weigh x es in omega (arith, rest)

births-credit : (x : ℕ) (es : List Event) → births x es ≡ credits x 0 0 1 1 0 es
births-credit x [] = refl
births-credit x (event.Born c y ∷ es) = go (births-credit x es) (x == y)
  where
    go : births x es ≡ credits x 0 0 1 1 0 es → (b : Bool) → (if b then suc (births x es) else births x es) ≡ (if b then 1 else 0) + credits x 0 0 1 1 0 es
    go rest true = omega (arith, rest)
    go rest false = omega (arith, rest)
births-credit x (e ∷ es) = let rest = births-credit x es in omega (arith, rest)

deaths-weigh : (x raw credit : ℕ) (es : List Event) → deaths x es ≡ events_weigh x raw 0 1 credit 0 es
deaths-weigh x raw credit [] = refl
deaths-weigh x raw credit (event.Died c y ∷ es) = go (deaths-weigh x raw credit es) (x == y)
  where
    go : deaths x es ≡ events_weigh x raw 0 1 credit 0 es → (b : Bool) → (if b then suc (deaths x es) else deaths x es) ≡ (if b then 1 else 0) + (0 + events_weigh x raw 0 1 credit 0 es)
    go rest true = omega (arith, rest)
    go rest false = omega (arith, rest)
deaths-weigh x raw credit (event.Born c y ∷ es) = go (deaths-weigh x raw credit es) (x == y)
  where
    go : deaths x es ≡ events_weigh x raw 0 1 credit 0 es → (b : Bool) → deaths x es ≡ (if b then 0 else 0) + (0 + events_weigh x raw 0 1 credit 0 es)
    go rest true = omega (arith, rest)
    go rest false = omega (arith, rest)
deaths-weigh x raw credit (e ∷ es) = let rest = deaths-weigh x raw credit es in omega (arith, rest)

worthless : (x raw birth death : ℕ) (es : List Event) → credits x raw birth death 0 0 es ≡ 0
worthless x raw birth death [] = refl
worthless x raw birth death (event.Born c y ∷ es) = go (worthless x raw birth death es) (x == y)
  where
    go : credits x raw birth death 0 0 es ≡ 0 → (b : Bool) → (if b then 0 else 0) + credits x raw birth death 0 0 es ≡ 0
    go rest true = omega (arith, rest)
    go rest false = omega (arith, rest)
worthless x raw birth death (e ∷ es) = let rest = worthless x raw birth death es in omega (arith, rest)

-- ---- every part of a run

abbrev Fronts : ℕ → List Event → Type 0
Fronts x events = (before rest : List Event) → events ≡ before ++ rest → deaths x before ≤ births x before

abbrev tail_of : List Event → List Event
tail_of [] = []
tail_of (e ∷ es) = es

abbrev head_of : Event → List Event → Event
head_of d [] = d
head_of d (e ∷ es) = e

empty : (xs : List Event) → length xs ≡ 0 → xs ≡ []
empty [] e = refl
empty (x ∷ xs) e = absurd (omega (arith, e))

nothing-before : (xs ys : List Event) → length (xs ++ ys) ≡ 0 → xs ≡ []
nothing-before [] ys e = refl
nothing-before (x ∷ xs) ys e = absurd (omega (arith, e))

-- a front of a list and at most one more is a front of the list, or all
parted : (xs seen before rest : List Event) → length seen ≤ 1 → xs ++ seen ≡ before ++ rest → ((left : List Event) × (xs ≡ before ++ left)) ⊎ (before ≡ xs ++ seen)
parted xs seen [] rest few e = inl (xs, refl)
parted [] [] (b ∷ before) rest few e = absurd (let counts = ap (length {A = Event}) e in omega (arith, counts))
parted [] (s ∷ seen) (b ∷ before) rest few e =
    let none : length seen ≡ 0 = omega (arith, few) in
    let tails = ap tail_of e in
    let counts : length (before ++ rest) ≡ 0 = sym (ap (length {A = Event}) tails) ∙ none in
    let one = nothing-before before rest counts in
    let two = empty seen none in
    inr (cc (one, two))
parted (x ∷ xs) seen (b ∷ before) rest few e = go (parted xs seen before rest few (ap tail_of e)) (ap (head_of x) e)
  where
    go : ((left : List Event) × (xs ≡ before ++ left)) ⊎ (before ≡ xs ++ seen) → x ≡ b → ((left : List Event) × (x ∷ xs ≡ b ∷ before ++ left)) ⊎ (b ∷ before ≡ x ∷ (xs ++ seen))
    go (inl found) h = let same = found.1 in inl (found.0, cc (same, h))
    go (inr all) h = inr (cc (all, h))

-- what holds of an object at each configuration of a run
record Lives (x : ℕ) (c : Config) : Type 0 where
  born : Weighs x 1 1 0 0 0 1 c
  dead : Weighs x 1 0 1 0 0 1 c
  after_birth : Weighs x 0 0 1 1 0 0 c
  fronts : Fronts x c.events

all-after : (x : ℕ) (c : Config) → Weighs x 0 0 1 1 0 0 c → deaths x c.events ≤ births x c.events
all-after x c known =
    let died = deaths-weigh x 0 1 c.events in
    let worth = births-credit x c.events in
    omega (arith, known, died, worth)

front-after : (x : ℕ) (events seen before rest : List Event) → Fronts x events → deaths x (events ++ seen) ≤ births x (events ++ seen) → length seen ≤ 1 → events ++ seen ≡ before ++ rest → deaths x before ≤ births x before
front-after x events seen before rest fronts all few e = go (parted events seen before rest few e)
  where
    go : ((left : List Event) × (events ≡ before ++ left)) ⊎ (before ≡ events ++ seen) → deaths x before ≤ births x before
    go (inl found) = fronts before found.0 found.1
    go (inr whole) = let died = ap (deaths x) whole in let worth = ap (births x) whole in omega (arith, all, died, worth)

turned-lives : (x w : ℕ) (c : Config) (t : Option Turned) → Lives x c → IfTurned (λ t. Weighs x 1 1 0 0 0 1 (after w c t)) t → IfTurned (λ t. Weighs x 1 0 1 0 0 1 (after w c t)) t → IfTurned (λ t. Weighs x 0 0 1 1 0 0 (after w c t)) t → IfTurned (λ t. length t.seen ≤ 1) t → IfTurned (λ t. Lives x (after w c t)) t
turned-lives x w c None lives born dead later single = tt
turned-lives x w c (Some t) lives born dead later single =
    record { born = born; dead = dead; after_birth = later; fronts = λ before rest e. front-after x c.events t.seen before rest lives.fronts (all-after x (after w c t) later) single e }

turn-lives : (x : ℕ) (p : Program) (c : Config) (m : Move) (a : Agent) → slice_get c.agents (mover m) ≡ Some a → Lives x c → IfTurned (λ t. Lives x (after (mover m) c t)) (turn_of p c m a)
turn-lives x p c m a e lives =
    turned-lives x (mover m) c (turn_of p c m a) lives
    (turn-weighs x 1 1 0 0 0 (omega arith) refl 1 p c m a e lives.born)
    (turn-weighs x 1 0 1 0 0 (omega arith) refl 1 p c m a e lives.dead)
    (turn-weighs x 0 0 1 1 0 (omega arith) refl 0 p c m a e lives.after_birth)
    (turn-few x p c m a)

-- ---- a run

then-lives : (x w : ℕ) (c : Config) (t : Option Turned) → Lives x c → IfTurned (λ t. Lives x (after w c t)) t → Lives x (or_same c (after_turn w c t))
then-lives x w c None lives next = lives
then-lives x w c (Some t) lives next = next

halted-lives : (x w : ℕ) (c : Config) (o : Option Agent) (f : Agent → Option Turned) → slice_get c.agents w ≡ o → Lives x c → ((a : Agent) → slice_get c.agents w ≡ Some a → IfTurned (λ t. Lives x (after w c t)) (f a)) → Lives x (or_same c (after_turn w c (unless_halted o f)))
halted-lives x w c None f e lives next = lives
halted-lives x w c (Some a) f e lives next = then-lives x w c (if a.halted then None else f a) lives (chosen (λ t. Lives x (after w c t)) a.halted (f a) (next a e))

move-lives : (x : ℕ) (p : Program) (c : Config) (m : Move) → Lives x c → Lives x (or_same c (move_of p c m))
move-lives x p c (move.Go w) lives = halted-lives x w c (slice_get c.agents w) (go p w c) refl lives (λ a e. turn-lives x p c (move.Go w) a e lives)
move-lives x p c (move.Take w i) lives = halted-lives x w c (slice_get c.agents w) (take_posted p w i c) refl lives (λ a e. turn-lives x p c (move.Take w i) a e lives)
move-lives x p c (move.Cut w) lives = halted-lives x w c (slice_get c.agents w) (cut w c) refl lives (λ a e. turn-lives x p c (move.Cut w) a e lives)

step-lives : (x : ℕ) (p : Program) (c : Config) (m : Move) (b : Bool) → Lives x c → Lives x (or_same c (unless_over b (move_of p c m)))
step-lives x p c m true lives = lives
step-lives x p c m false lives = move-lives x p c m lives

runs-live : (x : ℕ) (p : Program) (c : Config) (moves : List Move) → Lives x c → Lives x (runs_from p c moves)
runs-live x p c [] lives = lives
runs-live x p c (m ∷ moves) lives = runs-live x p (or_same c (step p c m)) moves (step-lives x p c m c.shared.undefined lives)

no-front : (x : ℕ) → Fronts x []
no-front x [] rest e = omega arith
no-front x (b ∷ before) rest e = absurd (let counts = ap (length {A = Event}) e in omega (arith, counts))

run-lives : (x : ℕ) (p : Program) (more : ℕ) (moves : List Move) → Lives x (runs p more moves)
run-lives x p more moves =
    runs-live x p (start p.unit more) moves
    (record { born = start-weighs x 1 1 0 0 0 (omega arith) p.unit more; dead = start-weighs x 1 0 1 0 0 (omega arith) p.unit more; after_birth = start-weighs x 0 0 1 1 0 (omega arith) p.unit more; fronts = no-front x })

born_once : (p : Program) (more : ℕ) (moves : List Move) (x : ℕ) → births x (runs p more moves).events ≤ 1
born_once p more moves x =
    let known = (run-lives x p more moves).born in
    let one = births-weigh x (runs p more moves).events in
    let none = worthless x 1 1 0 (runs p more moves).events in
    omega (arith, known, one, none)

dead_once : (p : Program) (more : ℕ) (moves : List Move) (x : ℕ) → deaths x (runs p more moves).events ≤ 1
dead_once p more moves x =
    let known = (run-lives x p more moves).dead in
    let one = deaths-weigh x 1 0 (runs p more moves).events in
    let none = worthless x 1 0 1 (runs p more moves).events in
    omega (arith, known, one, none)

pub once : LivesOnce
once = record { born = born_once; dead = dead_once; after = λ p more moves before rest e x. (run-lives x p more moves).fronts before rest e }
