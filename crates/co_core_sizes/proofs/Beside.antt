-- What is left beside words, by what is left beside as many.
use Rattle.std.specs.Prelude.{◌≡◌, ◌<◌, ℕ, ◌+◌, Option, IfSome, IfNone}
use Rattle.std.proofs.Common.{ap, ◌∙◌, sym, subst}
use Rattle.co_core_sizes.proofs.Options.{none_gives, some_gives}

pub left_of : (r : Option ℕ) (few words room : ℕ) → words ≡ few → IfSome r (λ left. left + few ≡ room) → IfSome r (λ left. left + words ≡ room)
left_of r few words room e h = some_gives r (λ left. left + few ≡ room) (λ left. left + words ≡ room) (λ left k. ap (λ w. left + w) e ∙ k) h

pub none_of : (r : Option ℕ) (few words room : ℕ) → words ≡ few → IfNone r (room < few) → IfNone r (room < words)
none_of r few words room e h = none_gives r (room < few) (room < words) (λ k. subst (λ w. room < w) (sym e) k) h
