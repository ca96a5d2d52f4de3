use Rattle.std.proofs.Common.{ap, sym, ◌∙◌, arith}
use Rattle.co_words.specs.Storage.{newest_of}
use Rattle.co_words.specs.Chains.{listed}
use Rattle.co_words.proofs.Groups.{newest_none}
use Rattle.co_words.proofs.Linked.{newest_past}
use Rattle.co_words.proofs.Keeps.{low_here, none_here, place_here}
use Rattle.co_words.proofs.blocks.Blocks.newest.Goals as goal

pub returns-then-size-gt1024 : goal.returns-then-size-gt1024
returns-then-size-gt1024 c =
    let k = c.self.inside in
    let h = c.self.invariant.0 in
    c.newest.ensures
    ∙ ap (newest_of c.args.size) c.as_slice.ensures.value
    ∙ sym (newest_past k.links.items k.larger.items 0 k.chains.items c.args.size h.chained (omega (arith, h.chains_all)))
    ∙ ap (newest_of c.args.size) c.self.view_is

pub returns-then-chain-eq0 : goal.returns-then-chain-eq0
returns-then-chain-eq0 c =
    let k = c.self.inside in
    let none = none_here k.links.items k.chains.items k.free k.larger.items c.args.size c.index-chain.result.now c.self.invariant.0 (omega arith) c.index-chain.ensures c.if-chain-eq0.true in
    sym (newest_none c.args.size (listed k.links.items k.larger.items k.chains.items) none)
    ∙ ap (newest_of c.args.size) c.self.view_is

pub index-requires : goal.index-requires
index-requires c =
    let k = c.self.inside in
    omega (
      arith,
      low_here k.links.items k.chains.items k.free k.larger.items c.args.size c.index-chain.result.now c.self.invariant.0 (omega arith) c.index-chain.ensures (omega arith),
      k.links.ok.0,
    )

pub returns : goal.returns
returns c =
    let k = c.self.inside in
    sym (place_here k.links.items k.chains.items k.free k.larger.items c.args.size c.index-chain.result.now c.index.result.now c.self.invariant.0 (omega arith) c.index-chain.ensures (omega arith) c.index.ensures)
    ∙ ap (newest_of c.args.size) c.self.view_is
