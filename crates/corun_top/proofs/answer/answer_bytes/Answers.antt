use Rattle.std.proofs.Common.{refl, ap, Err}
use Rattle.corun_top.proofs.answer.answer_bytes.Goals as goal

pub returns-in-Err-Syntax : goal.returns-in-Err-Syntax
returns-in-Err-Syntax c = (record { first = refl }, c.in-Err-Syntax.ensures.refused (ap (λ e. Err e) c.in-Err-Syntax.field-0-is))
