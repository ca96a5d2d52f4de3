-- What becomes of frames where an object comes to stand in one of them.
use Rattle.std.specs.Prelude.{◌≡◌, ℕ, suc, true, false, List, [], ◌∷◌, map, take, drop, slice_get, Option, Some, None}
use Rattle.std.specs.Borrow.{Bor}
use Rattle.std.specs.Option.{option_map}
use Rattle.std.proofs.Common.{refl, ap, sym, ◌∙◌}
use Rattle.std.proofs.lemmas.Bool.{true≢false}
use Rattle.co_core_tree.specs.declared.exprs.AwaitPlan.{AwaitPlan}
use Rattle.co_eval_data.specs.Changed.{or_same}
use Rattle.co_eval_data.specs.Seen.{alive_of, frame_of, frame_with, frames_of, hold_of, place_if, stmts_in, temporal_of}
use Rattle.co_eval_data.specs.declared.frames.Alive.{Alive}
use Rattle.co_eval_data.specs.declared.frames.Frame.{Frame}
use Rattle.co_eval_data.specs.declared.frames.Hold.{Hold}
use Rattle.co_eval_data.specs.declared.frames.Node.{Node}
use Rattle.co_eval_data.specs.declared.frames.Node.TheVariants as node
use Rattle.co_eval_data.specs.declared.frames.Step.{Step}
use Rattle.co_eval_data.specs.declared.frames.Step.TheVariants as step
use Rattle.co_eval_data.specs.declared.frames.Temporal.{Temporal}
use Rattle.co_eval_data.specs.declared.values.Place.{Place}
use Rattle.co_meaning_calls.specs.Objects.{into_full, into_hold, into_scope, live_temporaries, made_temporaries, own_with, set_mark}
use Rattle.co_meaning_data.specs.Frames as meaning
use Rattle.co_meaning_data.specs.Store as stored
use Rattle.co_eval_commit.specs.Looked.{AreOthers, HoldsOwn, has_temporaries, is_full, is_hold, is_scope, sort_of, stood_by}
use Rattle.co_eval_commit.specs.declared.looked.Looked.TheVariants as looked
use Rattle.co_eval_commit.proofs.Innermost.{changed_at, none_changed, same_at}
use Rattle.co_eval_commit.proofs.Slots.{made_live}
use Rattle.co_eval_commit.proofs.Sorts.{past_full, past_hold, past_mark, past_scope, sort_is, sort_of_step}

-- the frames where a local comes to stand
abbrev pub with_local : meaning.Alive → List meaning.Frame → List meaning.Frame
with_local x fs = or_same fs (into_scope x fs)

-- the frames where a parameter copy or the promise does
abbrev pub with_held : meaning.Alive → List meaning.Frame → List meaning.Frame
with_held x fs = or_same fs (into_hold x fs)

pub scope_at : (x : Alive) (fs : List Frame) (at : ℕ) (f : Frame) (alive more : List Alive) → slice_get fs at ≡ Some f → AreOthers looked.Scope (drop (suc at) fs) → f.step ≡ step.Scope alive → more ≡ x ∷ alive → frames_of (stood_by (Some (record { at = at; step = step.Scope more })) fs) ≡ with_local (alive_of x) (frames_of fs)
scope_at x fs at f alive more e others is first =
    let changes : with_local (alive_of x) (frame_of f ∷ frames_of (take at fs)) ≡ meaning.Scope (map alive_of more) (stmts_in f.node) ∷ frames_of (take at fs) =
    ap (λ s. with_local (alive_of x) (frame_with s f.node ∷ frames_of (take at fs))) is ∙ ap (λ m. meaning.Scope (map alive_of m) (stmts_in f.node) ∷ frames_of (take at fs)) (sym first) in
    rw e (changed_at looked.Scope (with_local (alive_of x)) (past_scope (alive_of x)) fs at f (step.Scope more) e others changes)

pub none_in_scope : (x : meaning.Alive) (fs : List Frame) → AreOthers looked.Scope fs → frames_of fs ≡ with_local x (frames_of fs)
none_in_scope x fs others = none_changed looked.Scope (with_local x) (past_scope x) fs others refl

pub hold_at : (x : Alive) (fs : List Frame) (at : ℕ) (f : Frame) (hold : Hold) (more : List Alive) → slice_get fs at ≡ Some f → AreOthers looked.Hold (drop (suc at) fs) → f.step ≡ step.Holds hold → more ≡ x ∷ hold.alive → frames_of (stood_by (Some (record { at = at; step = step.Holds (record hold { alive = more }) })) fs) ≡ with_held (alive_of x) (frames_of fs)
hold_at x fs at f hold more e others is first =
    let changes : with_held (alive_of x) (frame_of f ∷ frames_of (take at fs)) ≡ meaning.Holds (hold_of (record hold { alive = more })) ∷ frames_of (take at fs) =
    ap (λ s. with_held (alive_of x) (frame_with s f.node ∷ frames_of (take at fs))) is ∙ ap (λ m. meaning.Holds (hold_of (record hold { alive = m })) ∷ frames_of (take at fs)) (sym first) in
    rw e (changed_at looked.Hold (with_held (alive_of x)) (past_hold (alive_of x)) fs at f (step.Holds (record hold { alive = more })) e others changes)

pub none_held : (x : meaning.Alive) (fs : List Frame) → AreOthers looked.Hold fs → frames_of fs ≡ with_held x (frames_of fs)
none_held x fs others = none_changed looked.Hold (with_held x) (past_hold x) fs others refl

-- the frames where a temporary does
abbrev pub with_temporary : ℕ → meaning.Alive → List meaning.Frame → List meaning.Frame
with_temporary slot x fs = or_same fs (into_full slot x fs)

pub full_at : (slot : ℕ) (x : Alive) (fs : List Frame) (at : ℕ) (f : Frame) (ts made : List Temporal) → slice_get fs at ≡ Some f → AreOthers looked.Temporaries (drop (suc at) fs) → f.step ≡ step.Full ts → made_temporaries slot (alive_of x) (map temporal_of ts) ≡ Some (map temporal_of made) → frames_of (stood_by (Some (record { at = at; step = step.Full made })) fs) ≡ with_temporary slot (alive_of x) (frames_of fs)
full_at slot x fs at f ts made e others is makes =
    let changes : with_temporary slot (alive_of x) (frame_of f ∷ frames_of (take at fs)) ≡ meaning.Full (map temporal_of made) ∷ frames_of (take at fs) =
    ap (λ s. with_temporary slot (alive_of x) (frame_with s f.node ∷ frames_of (take at fs))) is ∙ ap (λ us. or_same (meaning.Full (map temporal_of ts) ∷ frames_of (take at fs)) (option_map (λ vs. meaning.Full vs ∷ frames_of (take at fs)) us)) makes in
    rw e (changed_at looked.Temporaries (with_temporary slot (alive_of x)) (past_full slot (alive_of x)) fs at f (step.Full made) e others changes)

pub full_same : (slot : ℕ) (x : Alive) (fs : List Frame) (at : ℕ) (f : Frame) (ts : List Temporal) → slice_get fs at ≡ Some f → AreOthers looked.Temporaries (drop (suc at) fs) → f.step ≡ step.Full ts → made_temporaries slot (alive_of x) (map temporal_of ts) ≡ None → frames_of fs ≡ with_temporary slot (alive_of x) (frames_of fs)
full_same slot x fs at f ts e others is makes =
    let same : with_temporary slot (alive_of x) (frame_of f ∷ frames_of (take at fs)) ≡ frame_of f ∷ frames_of (take at fs) =
    ap (λ s. with_temporary slot (alive_of x) (frame_with s f.node ∷ frames_of (take at fs))) is ∙ ap (λ us. or_same (meaning.Full (map temporal_of ts) ∷ frames_of (take at fs)) (option_map (λ vs. meaning.Full vs ∷ frames_of (take at fs)) us)) makes ∙ ap (λ s. frame_with s f.node ∷ frames_of (take at fs)) (sym is) in
    same_at looked.Temporaries (with_temporary slot (alive_of x)) (past_full slot (alive_of x)) fs at f e others same

-- the frames, where the call of `await_suspend` is the innermost where temporaries stand
abbrev own_stood : ℕ → meaning.Alive → List meaning.Frame → AwaitPlan → Option Place → List ℕ → Option ℕ → List meaning.Frame
own_stood slot x fs plan into own c = or_same (meaning.AwaitSuspend plan (place_if into) own ∷ fs) (option_map (λ xs. meaning.AwaitSuspend plan (place_if into) xs ∷ fs) (own_with x own c))

pub own_at : (slot : ℕ) (x : Alive) (fs : List Frame) (at : ℕ) (f : Frame) (into : Option Place) (own more : List ℕ) → slice_get fs at ≡ Some f → AreOthers looked.Temporaries (drop (suc at) fs) → HoldsOwn into own f → x.coroutine ≡ None → more ≡ x.object ∷ own → frames_of (stood_by (Some (record { at = at; step = step.AwaitSuspend into more })) fs) ≡ with_temporary slot (alive_of x) (frames_of fs)
own_at slot x fs at f into own more e others holds none first =
    let changes : with_temporary slot (alive_of x) (frame_of f ∷ frames_of (take at fs)) ≡ frame_of (record f { step = step.AwaitSuspend into more }) ∷ frames_of (take at fs) =
    ap (λ s. with_temporary slot (alive_of x) (frame_with s f.node ∷ frames_of (take at fs))) holds.1 ∙ ap (λ n. with_temporary slot (alive_of x) (frame_with (step.AwaitSuspend into own) n ∷ frames_of (take at fs))) holds.2 ∙ ap (own_stood slot (alive_of x) (frames_of (take at fs)) holds.0.now into own) none ∙ ap (λ m. meaning.AwaitSuspend holds.0.now (place_if into) m ∷ frames_of (take at fs)) (sym first) ∙ ap (λ n. frame_with (step.AwaitSuspend into more) n ∷ frames_of (take at fs)) (sym holds.2) in
    rw e (changed_at looked.Temporaries (with_temporary slot (alive_of x)) (past_full slot (alive_of x)) fs at f (step.AwaitSuspend into more) e others changes)

pub own_same : (slot : ℕ) (x : Alive) (fs : List Frame) (at : ℕ) (f : Frame) (into : Option Place) (own : List ℕ) (c : ℕ) → slice_get fs at ≡ Some f → AreOthers looked.Temporaries (drop (suc at) fs) → HoldsOwn into own f → x.coroutine ≡ Some c → frames_of fs ≡ with_temporary slot (alive_of x) (frames_of fs)
own_same slot x fs at f into own c e others holds some =
    let same : with_temporary slot (alive_of x) (frame_of f ∷ frames_of (take at fs)) ≡ frame_of f ∷ frames_of (take at fs) =
    ap (λ s. with_temporary slot (alive_of x) (frame_with s f.node ∷ frames_of (take at fs))) holds.1 ∙ ap (λ n. with_temporary slot (alive_of x) (frame_with (step.AwaitSuspend into own) n ∷ frames_of (take at fs))) holds.2 ∙ ap (own_stood slot (alive_of x) (frames_of (take at fs)) holds.0.now into own) some ∙ ap (λ n. frame_with (step.AwaitSuspend into own) n ∷ frames_of (take at fs)) (sym holds.2) ∙ ap (λ s. frame_with s f.node ∷ frames_of (take at fs)) (sym holds.1) in
    same_at looked.Temporaries (with_temporary slot (alive_of x)) (past_full slot (alive_of x)) fs at f e others same

pub none_in_full : (slot : ℕ) (x : meaning.Alive) (fs : List Frame) → AreOthers looked.Temporaries fs → frames_of fs ≡ with_temporary slot x (frames_of fs)
none_in_full slot x fs others = none_changed looked.Temporaries (with_temporary slot x) (past_full slot x) fs others refl

-- ---- the frame that is found is of the sort

scope_step : (s : Step) (n : Node) → is_scope (sort_of_step s n) ≡ true → ((a : List Alive) → s ≡ step.Scope a → ⊥) → ⊥
scope_step (step.Scope a) n e never = never a refl
scope_step (step.AwaitSuspend a b) (node.Await plan) e never = true≢false (sym e)
scope_step (step.AwaitSuspend a b) n e never = true≢false (sym e)
scope_step s n e never = true≢false (sym e)

pub is_scope_step : (f : Frame) → is_scope (sort_of (frame_of f)) ≡ true → ((a : List Alive) → f.step ≡ step.Scope a → ⊥) → ⊥
is_scope_step f e never = scope_step f.step f.node (ap is_scope (sym (sort_is f.step f.node)) ∙ e) never

hold_step : (s : Step) (n : Node) → is_hold (sort_of_step s n) ≡ true → ((a : Hold) → s ≡ step.Holds a → ⊥) → ⊥
hold_step (step.Holds a) n e never = never a refl
hold_step (step.AwaitSuspend a b) (node.Await plan) e never = true≢false (sym e)
hold_step (step.AwaitSuspend a b) n e never = true≢false (sym e)
hold_step s n e never = true≢false (sym e)

pub is_hold_step : (f : Frame) → is_hold (sort_of (frame_of f)) ≡ true → ((a : Hold) → f.step ≡ step.Holds a → ⊥) → ⊥
is_hold_step f e never = hold_step f.step f.node (ap is_hold (sym (sort_is f.step f.node)) ∙ e) never

temporaries_step : (s : Step) (n : Node) → has_temporaries (sort_of_step s n) ≡ true → ((a : List Temporal) → s ≡ step.Full a → ⊥) → ((a : Option Place) (b : List ℕ) → s ≡ step.AwaitSuspend a b → ⊥) → ⊥
temporaries_step (step.Full a) n e full await = full a refl
temporaries_step (step.AwaitSuspend a b) n e full await = await a b refl
temporaries_step s n e full await = true≢false (sym e)

pub is_temporaries_step : (f : Frame) → has_temporaries (sort_of (frame_of f)) ≡ true → ((a : List Temporal) → f.step ≡ step.Full a → ⊥) → ((a : Option Place) (b : List ℕ) → f.step ≡ step.AwaitSuspend a b → ⊥) → ⊥
is_temporaries_step f e full await = temporaries_step f.step f.node (ap has_temporaries (sym (sort_is f.step f.node)) ∙ e) full await

await_node : (a : Option Place) (b : List ℕ) (n : Node) → has_temporaries (sort_of_step (step.AwaitSuspend a b) n) ≡ true → ((plan : Bor AwaitPlan) → n ≡ node.Await plan → ⊥) → ⊥
await_node a b (node.Await plan) e never = never plan refl
await_node a b n e never = true≢false (sym e)

pub is_await_node : (f : Frame) (a : Option Place) (b : List ℕ) → has_temporaries (sort_of (frame_of f)) ≡ true → f.step ≡ step.AwaitSuspend a b → ((plan : Bor AwaitPlan) → f.node ≡ node.Await plan → ⊥) → ⊥
is_await_node f a b e is never = await_node a b f.node (ap (λ s. has_temporaries (sort_of_step s f.node)) (sym is) ∙ ap has_temporaries (sym (sort_is f.step f.node)) ∙ e) never

-- ---- a temporary that comes to stand, and is live

live_full : (slot : ℕ) (fs : List meaning.Frame) (ts : List meaning.Temporal) (us : Option (List meaning.Temporal)) → or_same (meaning.Full (live_temporaries slot ts) ∷ fs) (option_map (λ vs. meaning.Full vs ∷ fs) (option_map (live_temporaries slot) us)) ≡ set_mark slot (or_same (meaning.Full ts ∷ fs) (option_map (λ vs. meaning.Full vs ∷ fs) us))
live_full slot fs ts None = refl
live_full slot fs ts (Some us) = refl

live_own : (slot : ℕ) (x : meaning.Alive) (plan : AwaitPlan) (into : Option stored.Place) (own : List ℕ) (fs : List meaning.Frame) (c : Option ℕ) → or_same (meaning.AwaitSuspend plan into own ∷ set_mark slot fs) (option_map (λ xs. meaning.AwaitSuspend plan into xs ∷ set_mark slot fs) (own_with x own c)) ≡ set_mark slot (or_same (meaning.AwaitSuspend plan into own ∷ fs) (option_map (λ xs. meaning.AwaitSuspend plan into xs ∷ fs) (own_with x own c)))
live_own slot x plan into own fs None = refl
live_own slot x plan into own fs (Some c) = refl

live_past : (slot : ℕ) (x : meaning.Alive) (f : meaning.Frame) (fs : List meaning.Frame) → has_temporaries (sort_of f) ≡ false → is_full (sort_of f) ≡ false → with_temporary slot x (set_mark slot fs) ≡ set_mark slot (with_temporary slot x fs) → with_temporary slot x (set_mark slot (f ∷ fs)) ≡ set_mark slot (with_temporary slot x (f ∷ fs))
live_past slot x f fs others past later =
    ap (with_temporary slot x) (past_mark slot f fs past) ∙ past_full slot x f (set_mark slot fs) others ∙ ap (λ l. f ∷ l) later ∙ sym (past_mark slot f (with_temporary slot x fs) past) ∙ ap (set_mark slot) (sym (past_full slot x f fs others))

-- the mark is set before or after it
pub live_stood : (slot : ℕ) (x : meaning.Alive) (fs : List meaning.Frame) → with_temporary slot x (set_mark slot fs) ≡ set_mark slot (with_temporary slot x fs)
live_stood slot x [] = refl
live_stood slot x (meaning.Full ts ∷ fs) =
    ap (λ us. or_same (meaning.Full (live_temporaries slot ts) ∷ fs) (option_map (λ vs. meaning.Full vs ∷ fs) us)) (made_live slot x ts) ∙ live_full slot fs ts (made_temporaries slot x ts)
live_stood slot x (meaning.AwaitSuspend plan into own ∷ fs) = live_own slot x plan into own fs x.coroutine
live_stood slot x (f ∷ fs) = live_past slot x f fs refl refl (live_stood slot x fs)
