use Rattle.std.proofs.Common.{◌≡◌, ◌∙◌, ◌-◌, suc, ap, length, refl, sym, arith}
use Rattle.std.proofs.lemmas.Option.{slice_get_read}
use Rattle.co_eval_commit.specs.Looked.{meets}
use Rattle.co_eval_commit.proofs.looked.Looked.innermost.Goals as goal

pub returns-then-meets-clause-found : goal.returns-then-meets-clause-found
returns-then-meets-clause-found c =
    let e : suc (c.loop-at.at - 1) ≡ c.loop-at.at = omega arith in
    (c.index-frames-at.result, slice_get_read c.args.frames.now (length c.args.frames.now) (c.loop-at.at - 1) c.index-frames-at.result refl (omega arith) c.index-frames-at.is, sym (c.meets.ensures ∙ ap (λ s. meets c.args.self s) c.sort_of.ensures) ∙ c.if-meets.true, rw e c.loop-at.invariant.others)
