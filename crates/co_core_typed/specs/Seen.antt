-- What the code's views stand for.
use Rattle.std.specs.Prelude.{List, [], ◌∷◌}
use Rattle.co_base.specs.declared.ids.ClassId.{ClassId}
use Rattle.co_core_typed.specs.declared.wholes.Wholes.{Wholes}
use Rattle.co_core_typed.specs.declared.wholes.Wholes.TheVariants as wholes

abbrev pub wholes_of : Wholes → List ClassId
wholes_of wholes.Outermost = []
wholes_of (wholes.Inside' class p outer) = class ∷ wholes_of outer
