use Rattle.std.specs.Prelude.{map, true}
use Rattle.std.proofs.Common.{refl, ap, ◌∙◌}
use Rattle.co_eval_data.specs.Seen.{temporal_of}
use Rattle.co_eval_fulls.proofs.Filled.{filled}
use Rattle.co_eval_fulls.specs.FullActs.{acts_of_part}
use Rattle.co_eval_fulls.specs.declared.temporals.Unmade.{Unmade}
use Rattle.co_eval_fulls.proofs.temporals.unmade_in.Goals as goal

pub returns-in-Ok : goal.returns-in-Ok
returns-in-Ok c =
    let start : Unmade = record { func = c.args.func; written = c.args.room; next = 0; fits = true } in
    ap (map temporal_of) c.in-Ok.ensures.list
    ∙ filled start c.visit_part.new.visitor (acts_of_part c.args.funcs.now c.args.part) refl c.visit_part.ensures c.in-Ok.ensures.fits c.in-Ok.ensures.full
