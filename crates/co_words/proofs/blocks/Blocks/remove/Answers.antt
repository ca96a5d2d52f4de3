use Rattle.std.proofs.Common.{◌≡◌, List, set, ap, refl, subst, sym, ◌∙◌, arith}
use Rattle.co_words.specs.declared.links.Block.{Block}
use Rattle.co_words.specs.Storage.{newest_of, without}
use Rattle.co_words.specs.Chains.{listed, moved, shorter, longer, AllFrom, Holds}
use Rattle.co_words.proofs.Groups.{newest_none, without_none, from_without}
use Rattle.co_words.proofs.Linked.{newest_past, without_past}
use Rattle.co_words.proofs.Keeps.{at_chain, low_here, none_here, place_here, few, holds_with, removes_holds, removes_listed, carried}
use Rattle.co_words.proofs.blocks.Blocks.remove.Goals as goal

pub invariant_of-self : goal.invariant_of-self
invariant_of-self c =
    let k = c.self.inside in
    let h = c.self.invariant.0 in (
      holds_with k.links.items k.chains.items k.free k.larger.items c.remove.new.blocks.items h
          (subst
          (λ (xs : List Block). AllFrom 1025 xs)
          (sym c.remove.ensures.rest)
          (from_without c.args.size 1025 k.larger.items h.all_larger)),
      omega (arith, c.self.invariant.1, c.remove.ensures.room),
    )

pub returns-then-size-gt1024-clause-place : goal.returns-then-size-gt1024-clause-place
returns-then-size-gt1024-clause-place c =
    let k = c.self.inside in
    let h = c.self.invariant.0 in
    c.remove.ensures.place
    ∙ sym (newest_past k.links.items k.larger.items 0 k.chains.items c.args.size h.chained (omega (arith, h.chains_all)))
    ∙ ap (newest_of c.args.size) c.self.view_is

pub returns-then-size-gt1024-clause-rest : goal.returns-then-size-gt1024-clause-rest
returns-then-size-gt1024-clause-rest c =
    let k = c.self.inside in
    let h = c.self.invariant.0 in
    ap (λ (xs : List Block). listed k.links.items xs k.chains.items) c.remove.ensures.rest
    ∙ without_past k.links.items k.larger.items 0 k.chains.items c.args.size h.chained (omega (arith, h.chains_all))
    ∙ ap (without c.args.size) c.self.view_is

pub returns-then-from-eq0-clause-place : goal.returns-then-from-eq0-clause-place
returns-then-from-eq0-clause-place c =
    let k = c.self.inside in
    let none = none_here k.links.items k.chains.items k.free k.larger.items c.args.size c.index-from.result.now c.self.invariant.0 (omega arith) c.index-from.ensures c.if-from-eq0.true in
    sym (newest_none c.args.size (listed k.links.items k.larger.items k.chains.items) none)
    ∙ ap (newest_of c.args.size) c.self.view_is

pub returns-then-from-eq0-clause-rest : goal.returns-then-from-eq0-clause-rest
returns-then-from-eq0-clause-rest c =
    let k = c.self.inside in
    let none = none_here k.links.items k.chains.items k.free k.larger.items c.args.size c.index-from.result.now c.self.invariant.0 (omega arith) c.index-from.ensures c.if-from-eq0.true in
    sym c.self.view_is
    ∙ sym (without_none c.args.size (listed k.links.items k.larger.items k.chains.items) none)
    ∙ ap (without c.args.size) c.self.view_is

pub index-requires : goal.index-requires
index-requires c =
    let k = c.self.inside in
    omega (
      arith,
      low_here k.links.items k.chains.items k.free k.larger.items c.args.size c.index-from.result.now c.self.invariant.0 (omega arith) c.index-from.ensures (omega arith),
      k.links.ok.0,
    )

pub move_link-requires : goal.move_link-requires
move_link-requires c =
    let k = c.self.inside in
    let from = c.index-from.result.now in
    let h = c.self.invariant.0 in (
      low_here k.links.items k.chains.items k.free k.larger.items c.args.size from h (omega arith) c.index-from.ensures (omega arith),
      omega arith,
      omega (arith, few k.links.items k.chains.items k.free k.larger.items c.args.size from h (omega arith) c.index-from.ensures),
    )

pub invariant_of-self-2 : goal.invariant_of-self-2
invariant_of-self-2 c =
    let k = c.self.inside in
    let from = c.index-from.result.now in
    let spare : Block = record { size = 1025; place = 0 } in
    let h = c.self.invariant.0 in (
      carried
          (λ links one other. Holds links (set k.chains.items c.args.size one) other k.larger.items)
          (moved k.links.items from k.free spare)
          c.move_link.new.links.items
          (shorter k.links.items from)
          c.move_link.result.0
          (longer from k.free)
          c.move_link.result.1
          c.move_link.ensures.links
          c.move_link.ensures.first
          c.move_link.ensures.second
          (removes_holds k.links.items k.chains.items k.free k.larger.items c.args.size from spare h (omega arith)
          (at_chain k.links.items k.chains.items k.free k.larger.items c.args.size from h (omega arith) c.index-from.ensures)
          (omega arith)
          refl),
      c.self.invariant.1,
    )

pub returns-clause-place : goal.returns-clause-place
returns-clause-place c =
    let k = c.self.inside in
    sym (place_here k.links.items k.chains.items k.free k.larger.items c.args.size c.index-from.result.now c.index.result.now c.self.invariant.0 (omega arith) c.index-from.ensures (omega arith) c.index.ensures)
    ∙ ap (newest_of c.args.size) c.self.view_is

pub returns-clause-rest : goal.returns-clause-rest
returns-clause-rest c =
    let k = c.self.inside in
    let from = c.index-from.result.now in
    let spare : Block = record { size = 1025; place = 0 } in
    let h = c.self.invariant.0 in
    carried
    (λ links one other. listed links k.larger.items (set k.chains.items c.args.size one) ≡ without c.args.size (listed k.links.items k.larger.items k.chains.items))
    (moved k.links.items from k.free spare)
    c.move_link.new.links.items
    (shorter k.links.items from)
    c.move_link.result.0
    (longer from k.free)
    c.move_link.result.1
    c.move_link.ensures.links
    c.move_link.ensures.first
    c.move_link.ensures.second
    (removes_listed k.links.items k.chains.items k.free k.larger.items k.larger.items c.args.size from spare h h.all_larger (omega arith)
    (at_chain k.links.items k.chains.items k.free k.larger.items c.args.size from h (omega arith) c.index-from.ensures)
    (omega arith))
    ∙ ap (without c.args.size) c.self.view_is
