use Rattle.std.proofs.Common.{sym, arith, ◌∙◌, ◌≡◌, ◌-◌, length, ap}
use Rattle.co_eval_data.specs.Seen.{frames_of}
use Rattle.co_eval_commit.proofs.Newest.{away}
use Rattle.co_eval_commit.proofs.frames.take_away.Goals as goal

pub returns-clause-seen : goal.returns-clause-seen
returns-clause-seen c =
    let e : c.saturating_sub-left.result ≡ length c.args.frames.now.items - c.args.taken = omega arith in
    ap frames_of c.truncate.ensures.items ∙ rw e (sym (away c.args.taken c.args.frames.now.items))
