use Rattle.std.specs.Prelude.{◌∷◌, ◌++◌, [], map, take}
use Rattle.std.proofs.Common.{ap, refl, ◌∙◌}
use Rattle.co_eval_data.specs.Agents.{object_of, store_of, top_of}
use Rattle.co_eval_data.specs.Changed.{all_added}
use Rattle.co_eval_data.specs.Seen.{frames_of}
use Rattle.co_eval_data.specs.declared.agents.Activation.{Activation}
use Rattle.co_eval_commit.specs.InPlace.{seeing_all}
use Rattle.co_eval_commit.proofs.Above.{enters}
use Rattle.co_eval_commit.proofs.activations.enter.Goals as goal

pub returns-clause-made : goal.returns-clause-made
returns-clause-made c l =
    let s = c.args.shared.now in
    let top = c.args.top.now in
    ap (λ (a : Activation). seeing_all (record c.args.shared.now { store = c.add_objects.new.store }) a (frames_of a.frames.items) c.push_reserved.new.self.items l) c.replace.ensures.after ∙ enters s (record c.args.shared.now { store = c.add_objects.new.store }) top c.args.entered (record c.args.top.now { frames = c.leave_on_top.new.frames }) c.reserve.new.self.items (take c.args.left top.frames.items) c.args.frames c.args.objects c.args.below.now.items c.push_reserved.new.self.items l (c.add_objects.ensures ∙ ap (λ list. all_added (map object_of c.args.objects) (record (store_of c.args.shared.now.store) { objects = map object_of list })) c.reserve-3.ensures.items) refl c.reserve.ensures.items (ap (top_of top) (c.leave_on_top.ensures.seen ∙ ap (λ gs. frames_of c.args.frames ++ frames_of gs) (c.truncate.ensures.items ∙ ap (take c.args.left) c.reserve-2.ensures.items))) (c.push_reserved.ensures.items ∙ ap (λ a. c.args.below.now.items ++ a ∷ []) c.replace.ensures.value)
