use Rattle.std.proofs.Common.{◌≡◌, List, ◌∷◌, [], ◌++◌, length, subst, sym, ap, refl}
use Rattle.co_words.specs.declared.links.Chain.{Chain}
use Rattle.co_words.specs.Chains.{AllEmpty}
use Rattle.co_words.proofs.Keeps.{push_empty, none_empty, pushed}
use Rattle.co_words.proofs.links.empty_chains.Goals as goal

pub loop-n-init : goal.loop-n-init
loop-n-init c =
    (ap length c.in_ok-list.ensures.items, subst (λ (xs : List Chain). AllEmpty xs) (sym c.in_ok-list.ensures.items) none_empty)

pub loop-n-preserved : goal.loop-n-preserved
loop-n-preserved c =
    let e : Chain = record { newest = c.loop-n.n; count = 0 } in
    let is : c.push.new.self.items ≡ c.loop-n.list.items ++ e ∷ [] = c.in_ok-push.ensures.items in
    let inv = c.loop-n.invariant in (
      pushed c.loop-n.list.items c.push.new.self.items e c.loop-n.n is inv.0,
      subst (λ (xs : List Chain). AllEmpty xs) (sym is) (push_empty c.loop-n.list.items e inv.1 refl),
    )
