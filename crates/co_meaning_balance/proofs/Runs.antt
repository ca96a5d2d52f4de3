-- Every configuration of a run is in order and loses no object, so each object of a coroutine has died when the coroutine ends.
use Rattle.std.proofs.Common.{◌≡◌, ℕ, zero, suc, ◌+◌, ◌≤◌, ◌⊎◌, inl, inr, List, [], ◌∷◌, ◌++◌, Bool, true, false, Some, None, refl, sym, ap, ◌∙◌, arith, length}
use Rattle.std.proofs.lemmas.Bool.{eq-eqb}
use Rattle.std.proofs.lemmas.Option.{none-some}
use Rattle.std.specs.Prelude.{Option, if◌then◌else◌, ◌==◌, ◌&&◌, replicate, slice_get, slice_set}
use Rattle.co_core_tree.specs.declared.units.CoreFunc.{CoreFunc}
use Rattle.co_core_tree.specs.declared.units.UnitParts.{UnitParts}
use Rattle.co_meaning_data.specs.Frames.{Activation, Agent, Config, Dies, Doing, HasDied, HasEnded, IsMade, Opens}
use Rattle.co_meaning_data.specs.Turn.{Program, Turned, nowhere}
use Rattle.co_meaning_data.specs.Undefined.{numbered}
use Rattle.co_meaning_data.specs.declared.events.Event.{Event}
use Rattle.co_meaning_data.specs.declared.events.Event.TheVariants as event
use Rattle.co_meaning_data.specs.declared.events.Move.{Move}
use Rattle.co_meaning_data.specs.declared.events.Move.TheVariants as move
use Rattle.co_meaning_data.specs.declared.values.Value.{Value}
use Rattle.co_meaning.specs.Balanced.{births_in, deaths}
use Rattle.co_meaning.specs.Laws.{mover}
use Rattle.co_meaning.specs.Runs.{after_turn, cut, go, go_on, idle_agent, local_of, main_agent, move_of, or_same, runs, runs_from, start, step, take_on, take_posted, take_value, unless_halted, unless_over, vacant, without_posted}
use Rattle.co_meaning_lives.proofs.Once.{once, turn-few}
use Rattle.co_meaning_balance.proofs.Alive.{births-add, deaths-add, ended-add, frames-none, object-none}
use Rattle.co_meaning_balance.proofs.CallsKeeps.{around-held}
use Rattle.co_meaning_balance.proofs.CallsOrder.{around-order}
use Rattle.co_meaning_balance.proofs.CoroutinesKeeps.{transfer-keeps}
use Rattle.co_meaning_balance.proofs.CoroutinesOrder.{transfer-order}
use Rattle.co_meaning_balance.proofs.Numbered.{found, more-among}
use Rattle.co_meaning_balance.proofs.StepKeeps.{act-keeps}
use Rattle.co_meaning_balance.proofs.StepOrder.{act-order}
use Rattle.co_meaning_balance.specs.Laws.{RunsBalance}
use Rattle.co_meaning_balance.specs.Order.{InOrder, activations_stray, agent_strays, agents_stray, coroutines_stray, frames_hold, top_strays}
use Rattle.co_meaning_balance.specs.Places.{Keeps, activations_alive, activations_hold, agent_alive, agent_tokens, agents_alive, agents_tokens, coroutine_alive, coroutine_tokens, doing_alive, doing_tokens, ended, present, seen_alive, top_alive}

-- a step that there is satisfies this
abbrev IfTurned : (Turned → Type 0) → Option Turned → Type 0
IfTurned P None = Unit {0}
IfTurned P (Some t) = P t

chosen : (P : Turned → Type 0) (b : Bool) (t : Option Turned) → IfTurned P t → IfTurned P (if b then None else t)
chosen P true t p = tt
chosen P false t p = p

abbrev turn_of : Program → Config → Move → Agent → Option Turned
turn_of p c (move.Go w) a = go p w c a
turn_of p c (move.Take w i) a = take_posted p w i c a
turn_of p c (move.Cut w) a = cut w c a

-- the configuration after a turn of an agent
abbrev after : ℕ → Config → Turned → Config
after w c t = record { shared = t.shared; agents = slice_set c.agents w t.agent; events = c.events ++ t.seen }

-- ---- order

abbrev config_strays : Config → ℕ
config_strays c = agents_stray c.agents + coroutines_stray 1 c.shared.coroutines

go_on-order : (p : Program) (w : ℕ) (c : Config) (a : Agent) (list : List Activation) → a.activations ≡ list → agent_strays a + coroutines_stray 1 c.shared.coroutines ≤ 0 → InOrder (go_on p w c a list)
go_on-order p w c a [] e known = tt
go_on-order p w c a (top ∷ below) e known =
    let same = ap (λ list. top_strays a.doing list + activations_stray list) e in
    act-order a.doing (local_of p w c a top below) (omega (arith, known, same))

take_value-order : (p : Program) (w i : ℕ) (c : Config) (a : Agent) (v : Option Value) → coroutines_stray 1 c.shared.coroutines ≤ 0 → InOrder (take_value p w (without_posted i c) a v)
take_value-order p w i c a None known = tt
take_value-order p w i c a (Some v) known = transfer-order v nowhere (local_of p w (without_posted i c) a vacant []) (omega (arith, known))

take_on-order : (p : Program) (w i : ℕ) (c : Config) (a : Agent) (list : List Activation) → coroutines_stray 1 c.shared.coroutines ≤ 0 → InOrder (take_on p w i c a list)
take_on-order p w i c a [] known = take_value-order p w i c a (slice_get c.shared.posted i) known
take_on-order p w i c a (top ∷ below) known = tt

turn-order : (p : Program) (c : Config) (a : Agent) (m : Move) → agent_strays a + coroutines_stray 1 c.shared.coroutines ≤ 0 → InOrder (turn_of p c m a)
turn-order p c a (move.Go w) known = go_on-order p w c a a.activations refl known
turn-order p c a (move.Take w i) known = take_on-order p w i c a a.activations (omega (arith, known))
turn-order p c a (move.Cut w) known = omega (arith, known)

abbrev strays_of : Option Agent → ℕ
strays_of None = 0
strays_of (Some a) = agent_strays a

put-strays : (agents : List Agent) (w : ℕ) (new old : Agent) → slice_get agents w ≡ Some old → agents_stray (slice_set agents w new) + agent_strays old ≡ agents_stray agents + agent_strays new
put-strays [] w new old e = absurd (none-some old e)
put-strays (a ∷ rest) zero new old e = let same = ap strays_of e in omega (arith, same)
put-strays (a ∷ rest) (suc w) new old e = let further = put-strays rest w new old e in omega (arith, further)

found-strays : (agents : List Agent) (w : ℕ) (a : Agent) → slice_get agents w ≡ Some a → agent_strays a ≤ agents_stray agents
found-strays [] w a e = absurd (none-some a e)
found-strays (b ∷ rest) zero a e = let same = ap strays_of e in omega (arith, same)
found-strays (b ∷ rest) (suc w) a e = let further = found-strays rest w a e in omega (arith, further)

turned-order : (w : ℕ) (c : Config) (a : Agent) (t : Option Turned) → slice_get c.agents w ≡ Some a → config_strays c ≤ 0 → InOrder t → IfTurned (λ t. config_strays (after w c t) ≤ 0) t
turned-order w c a None e known order = tt
turned-order w c a (Some t) e known order = let put = put-strays c.agents w t.agent a e in omega (arith, known, order, put)

idle-order : (n : ℕ) → agents_stray (replicate n idle_agent) ≡ 0
idle-order zero = refl
idle-order (suc n) = let rest = idle-order n in omega (arith, rest)

main-order : (unit : UnitParts) (func : Option CoreFunc) → agent_strays (main_agent unit func) ≡ 0
main-order unit None = refl
main-order unit (Some func) = let frames = around-order func [] in omega (arith, frames)

start-order : (unit : UnitParts) (more : ℕ) → config_strays (start unit more) ≤ 0
start-order unit more = let main = main-order unit (slice_get unit.funcs unit.main.0) in let idle = idle-order more in omega (arith, main, idle)

-- ---- the last event of a list

abbrev head_of : Event → List Event → Event
head_of d [] = d
head_of d (e ∷ es) = e

abbrev tail_of : List Event → List Event
tail_of [] = []
tail_of (e ∷ es) = es

empty : (xs : List Event) → length xs ≤ 0 → xs ≡ []
empty [] known = refl
empty (x ∷ xs) known = absurd (omega (arith, known))

longer : (before rest : List Event) (e : Event) → 1 ≤ length (before ++ e ∷ rest)
longer [] rest e = omega arith
longer (b ∷ before) rest e = omega arith

-- an event of a list and at most one more is one of the list, or the last
parted : (xs seen before rest : List Event) (e : Event) → length seen ≤ 1 → xs ++ seen ≡ before ++ e ∷ rest → ((left : List Event) × (xs ≡ before ++ e ∷ left)) ⊎ ((before ≡ xs) × (seen ≡ e ∷ []))
parted [] seen [] rest e few is =
    let none : length rest ≤ 0 = (let counts = ap (length {A = Event}) is in omega (arith, counts, few)) in
    inr (refl, is ∙ ap (λ es. e ∷ es) (empty rest none))
parted [] seen (b ∷ before) rest e few is = absurd (let counts = ap (length {A = Event}) is in let more = longer before rest e in omega (arith, counts, few, more))
parted (x ∷ xs) seen [] rest e few is = inl (xs, ap (λ k. k ∷ xs) (ap (head_of x) is))
parted (x ∷ xs) seen (b ∷ before) rest e few is = go (parted xs seen before rest e few (ap tail_of is)) (ap (head_of x) is)
  where
    go : ((left : List Event) × (xs ≡ before ++ e ∷ left)) ⊎ ((before ≡ xs) × (seen ≡ e ∷ [])) → x ≡ b → ((left : List Event) × (x ∷ xs ≡ b ∷ before ++ e ∷ left)) ⊎ ((b ∷ before ≡ x ∷ xs) × (seen ≡ e ∷ []))
    go (inl there) h = inl (there.0, ap (λ k. k ∷ xs) h ∙ ap (λ es. b ∷ es) there.1)
    go (inr last) h = inr (ap (λ es. b ∷ es) last.0 ∙ ap (λ k. k ∷ xs) (sym h), last.1)

-- ---- nothing is lost

module _ (number item : ℕ) where
  doing-tokens : (d : Doing) (k more : ℕ) → doing_tokens number item d (k + more) ≡ doing_tokens number item d k + more
  doing-tokens (Opens marks d) k more = doing-tokens d k more
  doing-tokens (IsMade m) k more = more-among number m k more
  doing-tokens (HasEnded m block outcome) k more = more-among number m k more
  doing-tokens d k more = refl

  doing-alive : (held : ℕ) (d : Doing) (k more : ℕ) → doing_alive number item held d (k + more) ≡ doing_alive number item held d k + more
  doing-alive held (Opens marks d) k more = doing-alive held d k more
  doing-alive held (Dies y) k more = omega arith
  doing-alive held (HasDied m y) k more = omega arith
  doing-alive held d k more = refl

  top-alive : (d : Doing) (list : List Activation) (k more : ℕ) → top_alive number item d list (k + more) ≡ top_alive number item d list k + more
  top-alive d [] k more = refl
  top-alive d (a ∷ rest) k more = doing-alive (present (frames_hold (Some number) a.frames)) d k more

  agent-tokens : (a : Agent) (more : ℕ) → agent_tokens number item a more ≡ agent_tokens number item a 0 + more
  agent-tokens a more =
      let one = doing-tokens a.doing (activations_hold number item a.activations) more in
      let none : activations_hold number item a.activations + 0 ≡ activations_hold number item a.activations = omega arith in
      let two = ap (doing_tokens number item a.doing) none in
      omega (arith, one, two)

  agent-alive : (a : Agent) (more : ℕ) → agent_alive number item a more ≡ agent_alive number item a 0 + more
  agent-alive a more =
      let one = top-alive a.doing a.activations (activations_alive number item a.activations) more in
      let none : activations_alive number item a.activations + 0 ≡ activations_alive number item a.activations = omega arith in
      let two = ap (top_alive number item a.doing a.activations) none in
      omega (arith, one, two)

  abbrev tokens_of : Option Agent → ℕ
  tokens_of None = 0
  tokens_of (Some a) = agent_tokens number item a 0

  abbrev alive_of : Option Agent → ℕ
  alive_of None = 0
  alive_of (Some a) = agent_alive number item a 0

  put-tokens : (agents : List Agent) (w : ℕ) (new old : Agent) → slice_get agents w ≡ Some old → agents_tokens number item (slice_set agents w new) + agent_tokens number item old 0 ≡ agents_tokens number item agents + agent_tokens number item new 0
  put-tokens [] w new old e = absurd (none-some old e)
  put-tokens (a ∷ rest) zero new old e = let same = ap tokens_of e in omega (arith, same)
  put-tokens (a ∷ rest) (suc w) new old e = let further = put-tokens rest w new old e in omega (arith, further)

  put-alive : (agents : List Agent) (w : ℕ) (new old : Agent) → slice_get agents w ≡ Some old → agents_alive number item (slice_set agents w new) + agent_alive number item old 0 ≡ agents_alive number item agents + agent_alive number item new 0
  put-alive [] w new old e = absurd (none-some old e)
  put-alive (a ∷ rest) zero new old e = let same = ap alive_of e in omega (arith, same)
  put-alive (a ∷ rest) (suc w) new old e = let further = put-alive rest w new old e in omega (arith, further)

  found-tokens : (agents : List Agent) (w : ℕ) (a : Agent) → slice_get agents w ≡ Some a → agent_tokens number item a 0 ≤ agents_tokens number item agents
  found-tokens [] w a e = absurd (none-some a e)
  found-tokens (b ∷ rest) zero a e = let same = ap tokens_of e in omega (arith, same)
  found-tokens (b ∷ rest) (suc w) a e = let further = found-tokens rest w a e in omega (arith, further)

  -- where nothing is there of the coroutine nothing of it is alive
  activations-none : (list : List Activation) → activations_hold number item list ≤ 0 → activations_alive number item list ≡ 0
  activations-none [] known = refl
  activations-none (a ∷ rest) known =
      let one = frames-none number item a.frames (omega (arith, known)) in
      let more = activations-none rest (omega (arith, known)) in
      omega (arith, one, more)

  seen-none : (m y : ℕ) → seen_alive number item 0 (Some m) y ≡ 0
  seen-none m y = go ((number == m) && (item == y))
    where
      go : (b : Bool) → ◌≡◌ {A = ℕ} (if b then 0 else 0) 0
      go true = refl
      go false = refl

  doing-none : (d : Doing) (k : ℕ) → doing_alive number item 0 d k ≡ k
  doing-none (Opens marks d) k = doing-none d k
  doing-none (Dies y) k = let none = object-none number item y in omega (arith, none)
  doing-none (HasDied m y) k = let none = seen-none m y in omega (arith, none)
  doing-none d k = refl

  top-none : (d : Doing) (list : List Activation) (k : ℕ) → activations_hold number item list ≤ 0 → top_alive number item d list k ≡ k
  top-none d [] k known = refl
  top-none d (a ∷ rest) k known =
      let none : frames_hold (Some number) a.frames ≡ 0 = omega (arith, known) in
      ap (λ h. doing_alive number item (present h) d k) none ∙ doing-none d k

  agents-none : (agents : List Agent) → agents_tokens number item agents ≤ 0 → agents_alive number item agents ≡ 0
  agents-none [] known = refl
  agents-none (a ∷ rest) known =
      let all = doing-tokens a.doing 0 (activations_hold number item a.activations + 0) in
      let plain : 0 + (activations_hold number item a.activations + 0) ≡ activations_hold number item a.activations + 0 = omega arith in
      let same = ap (doing_tokens number item a.doing) plain in
      let fewer : activations_hold number item a.activations ≤ 0 = omega (arith, known, all, same) in
      let none = activations-none a.activations fewer in
      let top = top-none a.doing a.activations (activations_alive number item a.activations + 0) fewer in
      let more = agents-none rest (omega (arith, known)) in
      omega (arith, none, top, more)

  -- ---- a move

  abbrev tokens_in : Config → ℕ
  tokens_in c = coroutine_tokens number item (numbered c.shared.coroutines number)

  abbrev alive_in : Config → ℕ
  alive_in c = coroutine_alive number item (numbered c.shared.coroutines number)

  module _ (limit owed : ℕ) where
    go_on-keeps : (p : Program) (w : ℕ) (c : Config) (a : Agent) (list : List Activation) → a.activations ≡ list → agent_strays a + coroutines_stray 1 c.shared.coroutines ≤ 0 → limit ≤ 1 → agent_tokens number item a (tokens_in c) ≤ limit → owed ≤ agent_alive number item a (alive_in c) → Keeps number item limit owed (go_on p w c a list)
    go_on-keeps p w c a [] e order small tokens alive = tt
    go_on-keeps p w c a (top ∷ below) e order small tokens alive =
        let same = ap (λ list. top_strays a.doing list + activations_stray list) e in
        let one = ap (λ list. doing_tokens number item a.doing (activations_hold number item list + tokens_in c)) e in
        let two = ap (λ list. top_alive number item a.doing list (activations_alive number item list + alive_in c)) e in
        act-keeps number item limit owed a.doing (local_of p w c a top below) (omega (arith, order, same)) (small, omega (arith, tokens, one), omega (arith, alive, two))

    take_value-keeps : (p : Program) (w i : ℕ) (c : Config) (a : Agent) (v : Option Value) → coroutines_stray 1 c.shared.coroutines ≤ 0 → limit ≤ 1 → tokens_in c ≤ limit → owed ≤ alive_in c → Keeps number item limit owed (take_value p w (without_posted i c) a v)
    take_value-keeps p w i c a None order small tokens alive = tt
    take_value-keeps p w i c a (Some v) order small tokens alive = transfer-keeps number item limit owed v nowhere (local_of p w (without_posted i c) a vacant []) (omega arith) order (small, omega (arith, tokens), omega (arith, alive))

    take_on-keeps : (p : Program) (w i : ℕ) (c : Config) (a : Agent) (list : List Activation) → a.activations ≡ list → coroutines_stray 1 c.shared.coroutines ≤ 0 → limit ≤ 1 → agent_tokens number item a (tokens_in c) ≤ limit → owed ≤ agent_alive number item a (alive_in c) → Keeps number item limit owed (take_on p w i c a list)
    take_on-keeps p w i c a [] e order small tokens alive =
        let one = agent-tokens a (tokens_in c) in
        let two = ap (λ list. top_alive number item a.doing list (activations_alive number item list + alive_in c)) e in
        take_value-keeps p w i c a (slice_get c.shared.posted i) order small (omega (arith, tokens, one)) (omega (arith, alive, two))
    take_on-keeps p w i c a (top ∷ below) e order small tokens alive = tt

    turn-keeps : (p : Program) (c : Config) (a : Agent) (m : Move) → agent_strays a + coroutines_stray 1 c.shared.coroutines ≤ 0 → limit ≤ 1 → agent_tokens number item a (tokens_in c) ≤ limit → owed ≤ agent_alive number item a (alive_in c) → Keeps number item limit owed (turn_of p c m a)
    turn-keeps p c a (move.Go w) order small tokens alive = go_on-keeps p w c a a.activations refl order small tokens alive
    turn-keeps p c a (move.Take w i) order small tokens alive = take_on-keeps p w i c a a.activations refl (omega (arith, order)) small tokens alive
    turn-keeps p c a (move.Cut w) order small tokens alive = (small, omega (arith, tokens), omega (arith, alive))

  -- ---- what holds of each configuration of a run

  abbrev Fronts : List Event → Type 0
  Fronts events = (before rest : List Event) → events ≡ before ++ event.Ended number ∷ rest → births_in number item before ≤ deaths item before

  record Stands (c : Config) : Type 0 where
    order : config_strays c ≤ 0
    tokens : agents_tokens number item c.agents + (tokens_in c + ended number item c.events) ≤ 1
    alive : births_in number item c.events ≤ deaths item c.events + (agents_alive number item c.agents + alive_in c)
    fronts : Fronts c.events

  ended-itself : ended number item (event.Ended number ∷ []) ≡ 1
  ended-itself = ap {B = ℕ} (λ b. if b then 1 else 0) (eq-eqb number number refl)

  -- when the coroutine ends nothing of it is alive
  at-end : (d : Config) (events seen : List Event) → d.events ≡ events ++ seen → seen ≡ event.Ended number ∷ [] → agents_tokens number item d.agents + (tokens_in d + ended number item d.events) ≤ 1 → births_in number item d.events ≤ deaths item d.events + (agents_alive number item d.agents + alive_in d) → births_in number item events ≤ deaths item events
  at-end d events seen e last tokens alive =
      let all : d.events ≡ events ++ event.Ended number ∷ [] = e ∙ ap (λ es. events ++ es) last in
      let over = ap (ended number item) all in
      let born = ap (births_in number item) all in
      let died = ap (deaths item) all in
      let over_add = ended-add number item events (event.Ended number ∷ []) in
      let born_add = births-add number item events (event.Ended number ∷ []) in
      let died_add = deaths-add number item events (event.Ended number ∷ []) in
      let one = ended-itself in
      let agents = agents-none d.agents (omega (arith, tokens, over, over_add, one)) in
      let there = found number item (numbered d.shared.coroutines number) (omega (arith, tokens, over, over_add, one)) in
      let none = there.2 in
      omega (arith, alive, born, died, born_add, died_add, agents, none)

  next-fronts : (c d : Config) (seen : List Event) → d.events ≡ c.events ++ seen → length seen ≤ 1 → Fronts c.events → agents_tokens number item d.agents + (tokens_in d + ended number item d.events) ≤ 1 → births_in number item d.events ≤ deaths item d.events + (agents_alive number item d.agents + alive_in d) → Fronts d.events
  next-fronts c d seen is few fronts tokens alive before rest e = go (parted c.events seen before rest (event.Ended number) few (sym is ∙ e))
    where
      go : ((left : List Event) × (c.events ≡ before ++ event.Ended number ∷ left)) ⊎ ((before ≡ c.events) × (seen ≡ event.Ended number ∷ [])) → births_in number item before ≤ deaths item before
      go (inl there) = fronts before there.0 there.1
      go (inr last) =
          let end = at-end d c.events seen is last.1 tokens alive in
          let born = ap (births_in number item) last.0 in
          let died = ap (deaths item) last.0 in
          omega (arith, end, born, died)

  turned-stands : (w : ℕ) (c : Config) (a : Agent) (t : Option Turned) → slice_get c.agents w ≡ Some a → Stands c → IfTurned (λ t. config_strays (after w c t) ≤ 0) t → Keeps number item (agent_tokens number item a (tokens_in c)) (agent_alive number item a (alive_in c)) t → IfTurned (λ t. length t.seen ≤ 1) t → IfTurned (λ t. Stands (after w c t)) t
  turned-stands w c a None e stands order keeps few = tt
  turned-stands w c a (Some t) e stands order keeps few = record { order = order; tokens = tokens; alive = alive; fronts = next-fronts c (after w c t) t.seen refl few stands.fronts tokens alive }
    where
      tokens : agents_tokens number item (slice_set c.agents w t.agent) + (coroutine_tokens number item (numbered t.shared.coroutines number) + ended number item (c.events ++ t.seen)) ≤ 1
      tokens =
          let before = stands.tokens in
          let once = keeps.1 in
          let put = put-tokens c.agents w t.agent a e in
          let old = agent-tokens a (tokens_in c) in
          let new = agent-tokens t.agent (coroutine_tokens number item (numbered t.shared.coroutines number)) in
          let over = ended-add number item c.events t.seen in
          omega (arith, before, once, put, old, new, over)

      alive : births_in number item (c.events ++ t.seen) ≤ deaths item (c.events ++ t.seen) + (agents_alive number item (slice_set c.agents w t.agent) + coroutine_alive number item (numbered t.shared.coroutines number))
      alive =
          let before = stands.alive in
          let enough = keeps.2 in
          let put = put-alive c.agents w t.agent a e in
          let old = agent-alive a (alive_in c) in
          let new = agent-alive t.agent (coroutine_alive number item (numbered t.shared.coroutines number)) in
          let born = births-add number item c.events t.seen in
          let died = deaths-add number item c.events t.seen in
          omega (arith, before, enough, put, old, new, born, died)

  few : (p : Program) (c : Config) (m : Move) (a : Agent) → IfTurned (λ t. length t.seen ≤ 1) (turn_of p c m a)
  few p c (move.Go w) a = turn-few item p c (move.Go w) a
  few p c (move.Take w i) a = turn-few item p c (move.Take w i) a
  few p c (move.Cut w) a = turn-few item p c (move.Cut w) a

  turn-stands : (p : Program) (c : Config) (m : Move) (a : Agent) → slice_get c.agents (mover m) ≡ Some a → Stands c → IfTurned (λ t. Stands (after (mover m) c t)) (turn_of p c m a)
  turn-stands p c m a e stands =
      let order = stands.order in
      let tokens = stands.tokens in
      let mine = found-strays c.agents (mover m) a e in
      let here = found-tokens c.agents (mover m) a e in
      let own = agent-tokens a (tokens_in c) in
      turned-stands (mover m) c a (turn_of p c m a) e stands
      (turned-order (mover m) c a (turn_of p c m a) e order (turn-order p c a m (omega (arith, order, mine))))
      (turn-keeps (agent_tokens number item a (tokens_in c)) (agent_alive number item a (alive_in c)) p c a m (omega (arith, order, mine)) (omega (arith, tokens, here, own)) (omega arith) (omega arith))
      (few p c m a)

  -- ---- a run

  then-stands : (w : ℕ) (c : Config) (t : Option Turned) → Stands c → IfTurned (λ t. Stands (after w c t)) t → Stands (or_same c (after_turn w c t))
  then-stands w c None stands next = stands
  then-stands w c (Some t) stands next = next

  halted-stands : (w : ℕ) (c : Config) (o : Option Agent) (f : Agent → Option Turned) → slice_get c.agents w ≡ o → Stands c → ((a : Agent) → slice_get c.agents w ≡ Some a → IfTurned (λ t. Stands (after w c t)) (f a)) → Stands (or_same c (after_turn w c (unless_halted o f)))
  halted-stands w c None f e stands next = stands
  halted-stands w c (Some a) f e stands next = then-stands w c (if a.halted then None else f a) stands (chosen (λ t. Stands (after w c t)) a.halted (f a) (next a e))

  move-stands : (p : Program) (c : Config) (m : Move) → Stands c → Stands (or_same c (move_of p c m))
  move-stands p c (move.Go w) stands = halted-stands w c (slice_get c.agents w) (go p w c) refl stands (λ a e. turn-stands p c (move.Go w) a e stands)
  move-stands p c (move.Take w i) stands = halted-stands w c (slice_get c.agents w) (take_posted p w i c) refl stands (λ a e. turn-stands p c (move.Take w i) a e stands)
  move-stands p c (move.Cut w) stands = halted-stands w c (slice_get c.agents w) (cut w c) refl stands (λ a e. turn-stands p c (move.Cut w) a e stands)

  step-stands : (p : Program) (c : Config) (m : Move) (b : Bool) → Stands c → Stands (or_same c (unless_over b (move_of p c m)))
  step-stands p c m true stands = stands
  step-stands p c m false stands = move-stands p c m stands

  runs-stand : (p : Program) (c : Config) (moves : List Move) → Stands c → Stands (runs_from p c moves)
  runs-stand p c [] stands = stands
  runs-stand p c (m ∷ moves) stands = runs-stand p (or_same c (step p c m)) moves (step-stands p c m c.shared.undefined stands)

  -- ---- the start

  idle-tokens : (n : ℕ) → agents_tokens number item (replicate n idle_agent) ≡ 0
  idle-tokens zero = refl
  idle-tokens (suc n) = let rest = idle-tokens n in omega (arith, rest)

  main-tokens : (unit : UnitParts) (func : Option CoreFunc) → agent_tokens number item (main_agent unit func) 0 ≡ 0
  main-tokens unit None = omega arith
  main-tokens unit (Some func) = let frames = (around-held number item 0 0 func []).0 in omega (arith, frames)

  none-numbered : (n : ℕ) → numbered [] n ≡ None
  none-numbered zero = refl
  none-numbered (suc n) = refl

  no-front : Fronts []
  no-front before rest e = absurd (let counts = ap (length {A = Event}) e in let more = longer before rest (event.Ended number) in omega (arith, counts, more))

  start-stands : (unit : UnitParts) (more : ℕ) → Stands (start unit more)
  start-stands unit more =
      let main = main-tokens unit (slice_get unit.funcs unit.main.0) in
      let idle = idle-tokens more in
      let fresh = ap (coroutine_tokens number item) (none-numbered number) in
      record { order = start-order unit more; tokens = omega (arith, main, idle, fresh); alive = omega arith; fronts = no-front }

  ends-last : (p : Program) (more : ℕ) (moves : List Move) → Fronts (runs p more moves).events
  ends-last p more moves = (runs-stand p (start p.unit more) moves (start-stands p.unit more)).fronts

pub balance : RunsBalance
balance p more moves =
    record { once = once.born p more moves; after = once.after p more moves; ended = λ before rest c e x. ends-last c x p more moves before rest e }
