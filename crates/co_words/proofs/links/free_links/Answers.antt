use Rattle.std.proofs.Common.{◌≡◌, ◌+◌, ◌-◌, List, ◌∷◌, [], ◌++◌, length, subst, sym, ap, refl, arith}
use Rattle.co_words.specs.declared.links.Link.{Link}
use Rattle.co_words.specs.Chains.{Chained}
use Rattle.co_words.proofs.Keeps.{push_free, none_free, pushed}
use Rattle.co_words.proofs.links.free_links.Goals as goal

pub loop-n-init : goal.loop-n-init
loop-n-init c = (ap length c.in_ok-links.ensures.items, none_free c.in_ok-links.links.items 1025)

pub loop-n-preserved : goal.loop-n-preserved
loop-n-preserved c =
    let e : Link = record { block = record { size = 1025; place = 0 }; older = c.saturating_sub.result; rank = c.loop-n.n } in
    let is : c.push.new.self.items ≡ c.loop-n.links.items ++ e ∷ [] = c.in_ok-push.ensures.items in
    let older : c.saturating_sub.result ≡ c.loop-n.n - 1 = omega arith in
    let inv = c.loop-n.invariant in (
      pushed c.loop-n.links.items c.push.new.self.items e c.loop-n.n is inv.0,
      subst
          (λ (xs : List Link). Chained xs 1025 (c.loop-n.n + 1) (c.loop-n.n + 1 - 1))
          (sym is)
          (push_free c.loop-n.links.items e 1025 c.loop-n.n inv.0 inv.1 refl refl older),
    )
