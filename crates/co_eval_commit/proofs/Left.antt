-- What a step leaves of the frames and of what an agent sees.
use Rattle.std.specs.Prelude.{◌≡◌, ℕ, ◌-◌, ◌≤◌, List, ◌++◌, length, take, Option}
use Rattle.std.proofs.Common.{ap, sym, ◌∙◌, arith}
use Rattle.std.proofs.lemmas.List.{length-take-le, take-take}
use Rattle.co_base.specs.declared.kinds.Thrown.{Thrown}
use Rattle.co_eval_data.specs.Changed.{all_pushed, effected, without_top}
use Rattle.co_eval_data.specs.declared.agents.Activation.{Activation}
use Rattle.co_eval_data.specs.declared.agents.Shared.{Shared}
use Rattle.co_eval_data.specs.declared.changes.Effect.{Effect}
use Rattle.co_eval_data.specs.Seen.{frames_of}
use Rattle.co_eval_data.specs.declared.frames.Frame.{Frame}
use Rattle.co_meaning_data.specs.Turn.{Local}
use Rattle.co_meaning_data.specs.declared.events.Event.{Event}
use Rattle.co_eval_commit.specs.InPlace.{noted, sees_all}
use Rattle.co_eval_commit.specs.Turned.{left_by}
use Rattle.co_eval_commit.proofs.Newest.{away}

-- frames are taken away twice
pub away_twice : (popped taken : ℕ) (fs : List Frame) → frames_of (take (length fs - popped - taken) fs) ≡ without_top taken (without_top popped (frames_of fs))
away_twice popped taken fs =
    let within : length fs - popped ≤ length fs = omega arith in
    let count : length (take (length fs - popped) fs) ≡ length fs - popped = length-take-le (length fs - popped) fs within in
    let shorter : length fs - popped - taken ≤ length fs - popped = omega arith in
    let once : take (length fs - popped - taken) (take (length fs - popped) fs) ≡ take (length fs - popped - taken) fs = take-take (length fs - popped - taken) (length fs - popped) fs shorter in
    sym (ap (without_top taken) (away popped fs) ∙ away taken (take (length fs - popped) fs) ∙ ap (λ n. frames_of (take (n - taken) (take (length fs - popped) fs))) count ∙ ap frames_of once)

-- what an agent sees after an effect, where frames are left on top
pub leaves : (w : ℕ) (s t : Shared) (handled after : List Thrown) (top now : Activation) (left mid final fs : List Frame) (below more : List Activation) (e : Effect) (taken popped : ℕ) (event : Option Event) (l : Local) → sees_all w t after now (frames_of mid) more (noted event l) ≡ effected e (sees_all w s handled top (frames_of left) below l) → frames_of final ≡ frames_of fs ++ frames_of mid → frames_of left ≡ without_top taken (without_top popped (frames_of top.frames.items)) → sees_all w t after now (frames_of final) more (noted event l) ≡ left_by taken e fs (sees_all w s handled top (without_top popped (frames_of top.frames.items)) below l)
leaves w s t handled after top now left mid final fs below more e taken popped event l made over cut =
    ap (λ gs. sees_all w t after now gs more (noted event l)) over ∙ ap (all_pushed fs) made ∙ ap (λ gs. all_pushed fs (effected e (sees_all w s handled top gs below l))) cut
