use Rattle.std.proofs.Common.{◌≡◌, ◌<◌, List, set, ap, subst, sym, ◌∙◌, arith}
use Rattle.co_words.specs.declared.links.Block.{Block}
use Rattle.co_words.specs.Storage.{given, joined}
use Rattle.co_words.specs.Chains.{listed, moved, shorter, longer, AllFrom, Holds}
use Rattle.co_words.proofs.Groups.{from_push, given_full, given_room}
use Rattle.co_words.proofs.Linked.{joined_past}
use Rattle.co_words.proofs.Keeps.{at_chain, opened, few, length_kept, holds_with, adds_holds, adds_listed, carried}
use Rattle.co_words.proofs.blocks.Blocks.add.Goals as goal

pub returns-then-self-len : goal.returns-then-self-len
returns-then-self-len c =
    let k = c.self.inside in
    let b : Block = record { size = c.args.size; place = c.args.place } in
    let kept = length_kept k.links.items k.chains.items k.free k.larger.items c.self.invariant.0 in
    sym c.self.view_is
    ∙ sym (given_full b (listed k.links.items k.larger.items k.chains.items) (omega (arith, kept, k.larger.ok.0)))
    ∙ ap (given b) c.self.view_is

pub invariant_of-self : goal.invariant_of-self
invariant_of-self c =
    let k = c.self.inside in
    let b : Block = record { size = c.args.size; place = c.args.place } in
    let h = c.self.invariant.0 in
    let large : 1024 < c.args.size = c.if-size-gt1024.true in (
      holds_with k.links.items k.chains.items k.free k.larger.items c.push.new.self.items h
          (subst
          (λ (xs : List Block). AllFrom 1025 xs)
          (sym c.in-Ok.ensures.items)
          (from_push 1025 k.larger.items b h.all_larger (omega (arith, large)))),
      omega (arith, c.self.invariant.1, c.in-Ok.ensures.capacity, c.in-Ok.ensures.lower_bound),
    )

pub returns-then-size-gt1024 : goal.returns-then-size-gt1024
returns-then-size-gt1024 c =
    let k = c.self.inside in
    let b : Block = record { size = c.args.size; place = c.args.place } in
    let h = c.self.invariant.0 in
    let kept = length_kept k.links.items k.chains.items k.free k.larger.items h in
    let large : 1024 < c.args.size = c.if-size-gt1024.true in
    ap (λ (xs : List Block). listed k.links.items xs k.chains.items) c.in-Ok.ensures.items
    ∙ joined_past k.links.items k.larger.items 0 k.chains.items b h.chained h.all_larger (omega (arith, h.chains_all, large)) (omega (arith, large))
    ∙ sym (given_room b (listed k.links.items k.larger.items k.chains.items) (omega (arith, kept, k.larger.ok.0)))
    ∙ ap (given b) c.self.view_is

pub move_link-requires : goal.move_link-requires
move_link-requires c =
    let k = c.self.inside in
    let to = c.index-to.result.now in
    let h = c.self.invariant.0 in (
      (opened k.links.items 1025 k.free.count k.free.newest (omega arith) h.free_chained).0,
      omega arith,
      omega (arith, few k.links.items k.chains.items k.free k.larger.items c.args.size to h (omega arith) c.index-to.ensures),
    )

pub invariant_of-self-2 : goal.invariant_of-self-2
invariant_of-self-2 c =
    let k = c.self.inside in
    let to = c.index-to.result.now in
    let b : Block = record { size = c.args.size; place = c.args.place } in
    let h = c.self.invariant.0 in
    let small : c.args.size < 1025 = omega arith in (
      carried
          (λ links one other. Holds links (set k.chains.items c.args.size other) one k.larger.items)
          (moved k.links.items k.free to b)
          c.move_link.new.links.items
          (shorter k.links.items k.free)
          c.move_link.result.0
          (longer k.free to)
          c.move_link.result.1
          c.move_link.ensures.links
          c.move_link.ensures.first
          c.move_link.ensures.second
          (adds_holds k.links.items k.chains.items k.free k.larger.items to b h small
          (at_chain k.links.items k.chains.items k.free k.larger.items c.args.size to h small c.index-to.ensures)
          (omega arith)),
      c.self.invariant.1,
    )

pub returns : goal.returns
returns c =
    let k = c.self.inside in
    let to = c.index-to.result.now in
    let b : Block = record { size = c.args.size; place = c.args.place } in
    let h = c.self.invariant.0 in
    let kept = length_kept k.links.items k.chains.items k.free k.larger.items h in
    let small : c.args.size < 1025 = omega arith in
    carried
    (λ links one other. listed links k.larger.items (set k.chains.items c.args.size other) ≡ joined b (listed k.links.items k.larger.items k.chains.items))
    (moved k.links.items k.free to b)
    c.move_link.new.links.items
    (shorter k.links.items k.free)
    c.move_link.result.0
    (longer k.free to)
    c.move_link.result.1
    c.move_link.ensures.links
    c.move_link.ensures.first
    c.move_link.ensures.second
    (adds_listed k.links.items k.chains.items k.free k.larger.items k.larger.items to b h h.all_larger small
    (at_chain k.links.items k.chains.items k.free k.larger.items c.args.size to h small c.index-to.ensures)
    (omega arith))
    ∙ sym (given_room b (listed k.links.items k.larger.items k.chains.items) (omega (arith, kept, k.larger.ok.0)))
    ∙ ap (given b) c.self.view_is
