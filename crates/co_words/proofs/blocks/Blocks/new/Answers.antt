use Rattle.std.proofs.Common.{refl, arith, ◌∙◌}
use Rattle.co_words.proofs.Keeps.{opening_holds, empty_listed}
use Rattle.co_words.proofs.blocks.Blocks.new.Goals as goal

pub invariant_of-result : goal.invariant_of-result
invariant_of-result c =
    let larger = c.in_ok-larger in (
      opening_holds
          c.in_ok-links.links.items
          c.in_ok-chains.chains.items
          (record { newest = 4095; count = 4096 })
          larger.larger.items
          c.in_ok-links.ensures.0
          c.in_ok-chains.ensures.0
          c.in_ok-chains.ensures.1
          c.in_ok-links.ensures.1
          refl
          larger.ensures.items,
      omega (arith, larger.ensures.capacity),
    )

pub returns : goal.returns
returns c =
    empty_listed c.in_ok-links.links.items c.in_ok-larger.larger.items c.in_ok-chains.chains.items c.in_ok-chains.ensures.1
    ∙ c.in_ok-larger.ensures.items
