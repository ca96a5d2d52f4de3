use Rattle.std.proofs.Common.{refl, sym, ap, ◌∙◌, fold, false}
use Rattle.co_core_tree.specs.Slots.{class_params, init_acts_of}
use Rattle.co_core_walks.proofs.Forms.{flat_end, flat_step}
use Rattle.co_core_walks.proofs.Statements.{joined_copies}
use Rattle.co_core_walks.proofs.fulls.walk_copies.Goals as goal

pub loop-copy-init : goal.loop-copy-init
loop-copy-init g c = λ funcs. refl

pub loop-copy-preserved : goal.loop-copy-preserved
loop-copy-preserved g c = λ funcs.
    flat_step g.V.Visitor.after (λ copy. init_acts_of funcs copy.init) _ _ _ _ _ _ c.loop-copy-test.true c.copy-item.is (c.walk_init.ensures (class_params funcs) false false) (c.loop-copy.invariant funcs)

pub returns : goal.returns
returns g c = λ funcs.
    flat_end g.V.Visitor.after (λ copy. init_acts_of funcs copy.init) _ _ _ _ c.loop-copy-test.false (c.loop-copy.invariant funcs) ∙ ap (fold g.V.Visitor.after c.args.v.now) (sym (joined_copies funcs c.args.copies.now))
