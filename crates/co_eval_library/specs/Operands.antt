-- What the operands of an act are, where they are of the forms that the acts take.
use Rattle.std.specs.Prelude.{List, [], ◌∷◌, Option, None, Some, ℤ}
use Rattle.co_meaning_data.specs.Frames.{At, Given, Scalar}
use Rattle.co_meaning_data.specs.Store.{Place}
use Rattle.co_meaning_data.specs.declared.values.Value.{Value}
use Rattle.co_meaning_data.specs.declared.values.Value.TheVariants as value

abbrev pub scalar_in : Given → Option Value
scalar_in (Scalar v) = Some v
scalar_in g = None

abbrev pub place_in : Given → Option Place
place_in (At p) = Some p
place_in g = None

abbrev pub number_in : Given → Option ℤ
number_in (Scalar (value.Number n z)) = Some z
number_in g = None

-- the scalar that is the one operand
abbrev pub one_scalar : List Given → Option Value
one_scalar (g ∷ []) = scalar_in g
one_scalar gs = None

-- the place that is the one operand
abbrev pub one_place : List Given → Option Place
one_place (g ∷ []) = place_in g
one_place gs = None

-- the number that is the one operand
abbrev pub one_number : List Given → Option ℤ
one_number (g ∷ []) = number_in g
one_number gs = None

abbrev pub and_place : Option Value → Option Place → Option (Value × Place)
and_place (Some v) (Some p) = Some (v, p)
and_place v p = None

-- the scalar and the place that are the two operands
abbrev pub scalar_and_place : List Given → Option (Value × Place)
scalar_and_place (g ∷ h ∷ []) = and_place (scalar_in g) (place_in h)
scalar_and_place gs = None

-- the address that is given back, alone or behind its size
abbrev pub given_back : List Given → Option Value
given_back (g ∷ []) = scalar_in g
given_back (g ∷ h ∷ []) = scalar_in h
given_back gs = None
