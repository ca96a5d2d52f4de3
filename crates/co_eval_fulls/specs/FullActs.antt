-- The acts of the parts of a program that are full-expressions.
use Rattle.std.specs.Prelude.{List}
use Rattle.co_core.specs.Bodies.{await_acts}
use Rattle.co_core_tree.specs.Acts.{Act}
use Rattle.co_core_tree.specs.Slots.{acts_of, class_params, init_acts_of}
use Rattle.co_core_tree.specs.declared.units.CoreFunc.{CoreFunc}
use Rattle.co_eval_fulls.specs.declared.parts.Part.{Part}
use Rattle.co_eval_fulls.specs.declared.parts.Part.TheVariants as part
use Rattle.co_meaning_calls.specs.Calls.{arguments_acts, without}

abbrev pub acts_of_part : List CoreFunc → Part → List Act
acts_of_part fs (part.Expr e) = acts_of fs e.now
acts_of_part fs (part.Init i) = init_acts_of fs i.now
acts_of_part fs (part.Call f given rest) = arguments_acts fs (without given (class_params fs f)) rest.now
acts_of_part fs (part.Await plan) = await_acts fs plan.now
