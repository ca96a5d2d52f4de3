-- The object that is made by what goes on with a frame.
use Rattle.std.specs.Prelude.{Bool, true, false, Option, None, Some, if◌then◌else◌}
use Rattle.co_core_tree.specs.declared.units.CoreFunc.{CoreFunc}
use Rattle.co_core_tree.specs.declared.units.FuncRole.{FuncRole}
use Rattle.co_core_tree.specs.declared.units.FuncRole.TheVariants as role
use Rattle.co_eval_data.specs.declared.frames.Frame.{Frame}
use Rattle.co_eval_data.specs.declared.frames.Node.{Node}
use Rattle.co_eval_data.specs.declared.frames.Step.{Step}
use Rattle.co_eval_data.specs.declared.frames.Step.TheVariants as step
use Rattle.co_eval_data.specs.Seen.{func_in, place_of}
use Rattle.co_meaning_data.specs.Store.{Place}

abbrev pub has_members : FuncRole → Bool
has_members (role.Ctor class members) = true
has_members r = false

abbrev pub is_constructor : CoreFunc → Bool
is_constructor func = has_members func.role

abbrev pub is_made_in : Option CoreFunc → Bool
is_made_in None = false
is_made_in (Some func) = is_constructor func

abbrev pub is_made_by : Node → Bool
is_made_by n = is_made_in (func_in n)

abbrev pub made_with : Step → Node → Option Place
made_with (step.Building p built) n = Some (place_of p)
made_with (step.Constructing p class built taken left) n = if is_made_by n then Some (place_of p) else None
made_with s n = None

abbrev pub made_in : Frame → Option Place
made_in f = made_with f.step f.node
