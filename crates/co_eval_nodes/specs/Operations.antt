-- The acts of the library as the meaning has them.
use Rattle.co_eval_nodes.specs.declared.expressions.Operation.{Operation}
use Rattle.co_eval_nodes.specs.declared.expressions.Operation.TheVariants as operation
use Rattle.co_meaning_data.specs.Frames as frames

abbrev pub operation_of : Operation → frames.Operation
operation_of (operation.OnHandle o) = frames.OnHandle o
operation_of (operation.OnAtomic o) = frames.OnAtomic o
operation_of (operation.OfLibrary o) = frames.OfLibrary o
