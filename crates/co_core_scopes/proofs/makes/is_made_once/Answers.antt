use Rattle.std.proofs.Common.{ap, ◌∙◌}
use Rattle.co_core.specs.Scopes.{func_makes}
use Rattle.co_core_scopes.proofs.Marks.{marks_from_none}
use Rattle.co_core_scopes.proofs.Small.{all_marked}
use Rattle.co_core_scopes.proofs.makes.is_made_once.Goals as goal

pub returns : goal.returns
returns c = λ small.
    let funcs = c.args.scene.unit.now.funcs in
    let func = c.args.scene.func.now in
    let none = c.none_made-makes.ensures in
    ap (λ s. s.once) (all_marked c.none_made-makes.result _ _ _ funcs func none.func c.make_plan.ensures (c.walk_func.ensures funcs) c.walk_body.ensures)
    ∙ marks_from_none c.none_made-makes.result (func_makes funcs func) none.length none.none none.once small
