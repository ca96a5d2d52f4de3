-- Equal arguments give equal results.
use Rattle.std.specs.Prelude.{◌≡◌}
use Rattle.std.proofs.Common.{ap, ◌∙◌}

pub ap_two : {A B R : Type 0} {a a' : A} {b b' : B} (f : A → B → R) → a ≡ a' → b ≡ b' → f a b ≡ f a' b'
ap_two {a' = a'} {b = b} f e g = ap (λ z. f z b) e ∙ ap (f a') g

pub ap_three : {A B D R : Type 0} {a a' : A} {b b' : B} {c c' : D} (f : A → B → D → R) → a ≡ a' → b ≡ b' → c ≡ c' → f a b c ≡ f a' b' c'
ap_three {a' = a'} {b = b} {c = c} f e g h = ap (λ z. f z b c) e ∙ ap_two (f a') g h

pub ap_four : {A B D E R : Type 0} {a a' : A} {b b' : B} {c c' : D} {d d' : E} (f : A → B → D → E → R) → a ≡ a' → b ≡ b' → c ≡ c' → d ≡ d' → f a b c d ≡ f a' b' c' d'
ap_four {a' = a'} {b = b} {c = c} {d = d} f e g h i = ap (λ z. f z b c d) e ∙ ap_three (f a') g h i
