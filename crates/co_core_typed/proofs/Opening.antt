-- What the definitions come to at each form.
use Rattle.std.specs.Prelude.{◌≡◌, ◌∷◌}
use Rattle.std.proofs.Common.{refl}
use denote.Bor.{Bor}
use Rattle.co_base.specs.declared.ids.ClassId.{ClassId}
use Rattle.co_core_typed.specs.declared.wholes.Wholes.{Wholes}
use Rattle.co_core_typed.specs.declared.wholes.Wholes.TheVariants as wholes
use Rattle.co_core_typed.specs.Seen.{wholes_of}

pub wholes_inside : (class : ClassId) (outer : Bor Wholes) → wholes_of (wholes.Inside class outer) ≡ class ∷ wholes_of outer.now
wholes_inside class outer = refl

pub ruleset opened_wholes = (wholes_inside)
