-- What is released is the block that a value means.
use Rattle.std.specs.Prelude.{◌≡◌, ℕ, Option, None, Some}
use Rattle.std.proofs.Common.{refl, ap}
use Rattle.co_base.specs.declared.span.Span.{Span}
use Rattle.co_eval_reads.specs.Addresses.{block_in}
use Rattle.co_meaning_calls.specs.Coroutines.{release_value}
use Rattle.co_meaning_data.specs.Frames.{Outcome}
use Rattle.co_meaning_data.specs.Turn.{Local}
use Rattle.co_meaning_data.specs.declared.values.Value.{Value}
use Rattle.co_meaning_data.specs.declared.values.Value.TheVariants as value

pub at_block : (v : Value) (b : ℕ) (o : Outcome) (at : Span) (l : Local) → block_in v ≡ Some b → release_value v o at l ≡ release_value (value.Block b) o at l
at_block (value.Block c) b o at l e = let same : c ≡ b = cc in ap (λ n. release_value (value.Block n) o at l) same
at_block v b o at l e = cc

pub at_none : (v : Value) (o : Outcome) (at : Span) (l : Local) → block_in v ≡ None → release_value v o at l ≡ None
at_none (value.Block c) o at l e = cc
at_none v o at l e = refl
