-- What the code's views of types and of what is given stand for.
use Rattle.std.specs.Option.{option_map}
use Rattle.co_types.specs.declared.types.CoType.{CoType}
use Rattle.co_types.specs.declared.types.CoType.TheVariants as type
use Rattle.co_core_types.specs.declared.views.Known.{Known}
use Rattle.co_core_types.specs.declared.views.Known.TheVariants as known
use Rattle.co_core_types.specs.declared.views.Kind.{Kind}
use Rattle.co_core_types.specs.declared.views.View.{View}
use Rattle.co_core_types.specs.declared.views.View.TheVariants as view
use Rattle.co_core_typing.specs.Gives.{Shape, Gives, Place, Value, Nothing, Throws, Wrong}

abbrev pub known_type : Known → CoType
known_type (known.Of of) = of.now
known_type (known.Class class) = type.Class class
known_type known.Void = type.Void

abbrev pub seen_shape : Kind → Shape
seen_shape k = record { head = k.head; target = option_map known_type k.target }

abbrev pub seen : View → Gives
seen (view.Place of) = Place (known_type of)
seen (view.Value of) = Value (seen_shape of)
seen view.Nothing = Nothing
seen view.Throws = Throws
seen view.Wrong = Wrong
