-- Values whose paths are borrowed.
use Rattle.std.specs.Prelude.{ℕ, Option, None, Some}
use Rattle.co_eval_reads.specs.declared.pointers.Address.{Address}
use Rattle.co_eval_reads.specs.declared.pointers.Address.TheVariants as address
use Rattle.co_meaning_data.specs.declared.values.Value.{Value}
use Rattle.co_meaning_data.specs.declared.values.Value.TheVariants as value

abbrev pub value_of : Address → Value
value_of (address.Number n z) = value.Number n z
value_of (address.Pointer x path) = value.Pointer x path.now
value_of (address.Block b) = value.Block b
value_of (address.Frame n) = value.Frame n
value_of address.NoopFrame = value.NoopFrame
value_of (address.Handle n) = value.Handle n
value_of address.Noop = value.Noop
value_of address.Null = value.Null
value_of (address.Kind k) = value.Kind k
value_of address.Empty = value.Empty

-- the block that a pointer to it means
abbrev pub block_in : Value → Option ℕ
block_in (value.Block b) = Some b
block_in v = None
