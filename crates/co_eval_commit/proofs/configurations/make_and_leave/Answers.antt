use Rattle.std.specs.Prelude.{◌≡◌, ◌-◌, length, take}
use Rattle.std.proofs.Common.{ap, ◌∙◌, arith}
use Rattle.co_eval_data.specs.Seen.{frames_of}
use Rattle.co_eval_commit.specs.InPlace.{event_of, sees_all}
use Rattle.co_eval_commit.proofs.Left.{away_twice, leaves}
use Rattle.co_eval_commit.proofs.configurations.make_and_leave.Goals as goal

pub returns-in-Err-clause-made : goal.returns-in-Err-clause-made
returns-in-Err-clause-made c l =
    c.in-Err.ensures.made l ∙ ap (λ fs. sees_all c.args.worker c.args.shared.now c.args.handled.now.items c.args.top.now (frames_of fs) c.args.below.now.items l) c.reserve.ensures.items

pub returns-in-Ok-clause-made : goal.returns-in-Ok-clause-made
returns-in-Ok-clause-made c l =
    let fs = c.args.top.now.frames.items in
    let left = c.saturating_sub-left.result in
    let count : c.saturating_sub-left.result ≡ length c.args.top.now.frames.items - c.args.popped - c.args.taken = omega arith in
    leaves c.args.worker c.args.shared.now c.make.new.shared c.args.handled.now.items c.make.new.handled.items c.args.top.now c.make.new.top (take left c.reserve.new.self.items) c.make.new.top.frames.items c.leave_on_top.new.frames.items c.args.frames c.args.below.now.items c.make.new.below.items c.args.effect c.args.taken c.args.popped (event_of c.args.worker c.args.effect) l (c.in-Ok.ensures.made l) c.leave_on_top.ensures.seen (ap (λ gs. frames_of (take left gs)) c.reserve.ensures.items ∙ ap (λ n. frames_of (take n fs)) count ∙ away_twice c.args.popped c.args.taken fs)
