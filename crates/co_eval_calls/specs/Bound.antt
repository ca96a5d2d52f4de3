-- What the slots of an activation that is entered and the objects of its own parameters are in the meaning.
use Rattle.std.specs.Prelude.{ℕ, List, ◌∷◌, map, slice_set, Some}
use Rattle.co_eval_calls.specs.declared.binding.Binding.{Binding}
use Rattle.co_eval_data.specs.Agents.{object_of}
use Rattle.co_eval_data.specs.Changed.{all_added}
use Rattle.co_meaning_calls.specs.Calls.{Bound}
use Rattle.co_meaning_data.specs.Store.{Store, add_object, live_object, next_object}
use Rattle.co_meaning_data.specs.declared.values.Cell.{Cell}
use Rattle.co_types.specs.declared.types.CoType.{CoType}

-- over the store that was there before the call
abbrev pub bound_of : Store → Binding → Bound
bound_of s b = record { store = all_added (map object_of b.objects) s; slots = b.slots; own = b.own }

-- a new object of the function's own, with these cells, is the object of the slot
abbrev pub bound_with : ℕ → CoType → List Cell → Bound → Bound
bound_with slot of cells b =
    record { store = add_object (live_object of cells) b.store; slots = slice_set b.slots slot (Some (next_object b.store)); own = next_object b.store ∷ b.own }
