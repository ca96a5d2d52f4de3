-- What an atomic gets in place of what it had.
use Rattle.co_eval_accesses.specs.declared.atomics.Exchange.{Exchange}
use Rattle.co_eval_accesses.specs.declared.atomics.Exchange.TheVariants as exchange
use Rattle.co_meaning.specs.Library.{minus, plus}
use Rattle.co_meaning_data.specs.declared.values.Value.{Value}

abbrev pub swapped_by : Exchange → Value → Value
swapped_by (exchange.For v) old = v
swapped_by (exchange.Plus b) old = plus b old
swapped_by (exchange.Minus b) old = minus b old
