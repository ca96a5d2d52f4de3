-- What an agent sees where the newest of its activations is another one than before.
use Rattle.std.specs.Prelude.{◌≡◌, ℕ, suc, List, [], ◌∷◌, ◌++◌, map, Option}
use Rattle.std.proofs.Common.{refl, ap, sym, ◌∙◌}
use Rattle.co_eval_data.specs.Agents.{activation_of, activations_of, condition_of, object_of, shared_of, store_of, top_of}
use Rattle.co_eval_data.specs.Changed.{all_added, effected, returned}
use Rattle.co_eval_data.specs.Seen.{frames_of}
use Rattle.co_eval_data.specs.declared.agents.Activation.{Activation}
use Rattle.co_eval_data.specs.declared.agents.Condition.{Condition}
use Rattle.co_eval_data.specs.declared.agents.Shared.{Shared}
use Rattle.co_eval_data.specs.declared.changes.Effect.TheVariants as effect
use Rattle.co_eval_data.specs.declared.frames.Frame.{Frame}
use Rattle.co_eval_data.specs.declared.stored.StoredObject.{StoredObject}
use Rattle.std.specs.Global.{Vec}
use Rattle.co_meaning_calls.specs.Coroutines.{serial_now, set_condition, suspended_at}
use Rattle.co_meaning_data.specs.Frames as meaning
use Rattle.co_meaning_data.specs.Turn.{Local, with_frames}
use Rattle.co_eval_commit.specs.InPlace.{seeing, seeing_all, sharing}
use Rattle.co_eval_commit.proofs.Newest.{seen_newest}

-- ---- control returns

pub none_below : (shared : Shared) (top : Activation) (fs : List meaning.Frame) (below : List Activation) (l : Local) → below ≡ [] → seeing_all shared top fs below l ≡ effected effect.Returns (seeing_all shared top fs below l)
none_below shared top fs below l none = rw none refl

pub returns : (shared : Shared) (top next : Activation) (next_frames : List Frame) (fs : List meaning.Frame) (below rest : List Activation) (l : Local) → below ≡ rest ++ next ∷ [] → next_frames ≡ next.frames.items → seeing_all shared next (frames_of next_frames) rest l ≡ effected effect.Returns (seeing_all shared top fs below l)
returns shared top next next_frames fs below rest l is same =
    let newest : activations_of below ≡ activation_of next ∷ activations_of rest = ap activations_of is ∙ seen_newest activation_of rest next in
    ap (λ gs. seeing_all shared next (frames_of gs) rest l) same ∙ sym (ap (λ b. returned b (record l { shared = shared_of shared; top = top_of top fs; below = b })) newest)

pub put_back : (shared : Shared) (top next again : Activation) (fs : List meaning.Frame) (below rest : List Activation) (l : Local) → below ≡ rest ++ next ∷ [] → activation_of again ≡ activation_of next → seeing_all shared top fs (rest ++ again ∷ []) l ≡ seeing_all shared top fs below l
put_back shared top next again fs below rest l is same =
    let newest : activations_of below ≡ activation_of next ∷ activations_of rest = ap activations_of is ∙ seen_newest activation_of rest next in
    ap (λ b. record l { shared = shared_of shared; top = top_of top fs; below = b }) (seen_newest activation_of rest again ∙ ap (λ a. a ∷ activations_of rest) same ∙ sym newest)

-- ---- a function is entered

pub enters : (shared after : Shared) (top entered older : Activation) (entered_frames : List Frame) (left fs : List Frame) (objects : List StoredObject) (below more : List Activation) (l : Local) → store_of after.store ≡ all_added (map object_of objects) (store_of shared.store) → shared_of after ≡ record (shared_of shared) { store = store_of after.store } → entered_frames ≡ entered.frames.items → activation_of older ≡ top_of top (frames_of fs ++ frames_of left) → more ≡ below ++ older ∷ [] → seeing_all after entered (frames_of entered_frames) more l ≡ effected (effect.Enters fs objects entered) (seeing_all shared top (frames_of left) below l)
enters shared after top entered older entered_frames left fs objects below more l stores shares same tops is =
    ap (λ gs. seeing_all after entered (frames_of gs) more l) same ∙ ap (λ s. record l { shared = s; top = activation_of entered; below = activations_of more }) (shares ∙ ap (λ st. record (shared_of shared) { store = st }) stores) ∙ ap (λ b. record l { shared = record (shared_of shared) { store = all_added (map object_of objects) (store_of shared.store) }; top = activation_of entered; below = b }) (ap activations_of is ∙ seen_newest activation_of below older ∙ ap (λ a. a ∷ activations_of below) tops)

-- ---- a coroutine is suspended

pub suspends : (shared after : Shared) (top parked : Activation) (parked_frames left fs : List Frame) (n point serial : ℕ) (now : Condition) (rest : List meaning.Frame) (l : Local) → ((m : Local) → sharing after m ≡ set_condition n (condition_of now) (sharing shared m)) → condition_of now ≡ suspended_at point serial (record { slots = top.slots; frames = rest }) → serial ≡ suc (serial_now n (sharing shared l)) → rest ≡ frames_of fs ++ frames_of left → parked_frames ≡ parked.frames.items → seeing after parked (frames_of parked_frames) l ≡ effected (effect.Suspends n point fs parked) (seeing shared top (frames_of left) l)
suspends shared after top parked parked_frames left fs n point serial now rest l set conditions serials rests same =
    ap (λ gs. seeing after parked (frames_of gs) l) same ∙ ap {A = Local} (λ m. record m { top = activation_of parked }) (set (record l { top = top_of top (frames_of left) }) ∙ ap (λ k. set_condition n k (seeing shared top (frames_of left) l)) (conditions ∙ ap (λ s. suspended_at point s (record { slots = top.slots; frames = rest })) serials ∙ ap (λ gs. suspended_at point (suc (serial_now n (sharing shared l))) (record { slots = top.slots; frames = gs })) rests))

pub escapes : (shared after : Shared) (top : Activation) (left more : List Frame) (fs : Vec Frame) (n serial : ℕ) (slots : List (Option ℕ)) (now : Condition) (rest : List Frame) (l : Local) → ((m : Local) → sharing after m ≡ set_condition n (condition_of now) (sharing shared m)) → condition_of now ≡ meaning.Final 2 serial (record { slots = slots; frames = frames_of rest }) → serial ≡ suc (serial_now n (sharing shared l)) → rest ≡ left → more ≡ fs.items → seeing after top (frames_of more) l ≡ effected (effect.Escapes n slots fs) (seeing shared top (frames_of left) l)
escapes shared after top left more fs n serial slots now rest l set conditions serials rests same =
    ap (λ gs. seeing after top (frames_of gs) l) same ∙ ap (with_frames (frames_of fs.items)) (set (record l { top = top_of top (frames_of left) }) ∙ ap (λ k. set_condition n k (seeing shared top (frames_of left) l)) (conditions ∙ ap (λ s. meaning.Final 2 s (record { slots = slots; frames = frames_of rest })) serials ∙ ap (λ gs. meaning.Final 2 (suc (serial_now n (sharing shared l))) (record { slots = slots; frames = frames_of gs })) rests))
