use Rattle.std.proofs.Common.{rules, subst, List, ℕ}
use Rattle.co_base.specs.Outside.{Takes}
use Rattle.co_base.proofs.Taking.{Takes-append, take-rest}
use Rattle.co_base.proofs.outside.offer_all.Goals as goal

pub loop-at-preserved : goal.loop-at-preserved
loop-at-preserved g c = record {
  within = search rules;
  bytes =
      let P : List ℕ → Type 0 = λ xs. Takes (g.S.Sink.taken c.args.sink.now) xs (g.S.Sink.taken c.write.new.self) in
      subst P (take-rest c.loop-at.at c.in_ok-at.field-0 c.args.piece.now)
      (Takes-append _ _ _ _ _ c.loop-at.invariant.bytes c.in_ok-at.ensures.bytes);
  faults = search rules;
}
