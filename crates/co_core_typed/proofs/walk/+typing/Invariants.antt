use Rattle.std.proofs.Common.{◌≡◌, drop}
use Rattle.co_core_typing.specs.Rules.{arguments_typed, members_typed}
use Rattle.co_core_typed.specs.Seen.{wholes_of}
use Rattle.co_core_typing.specs.Tables.{types_of}
use Rattle.co_core_typed.proofs.walk.+typing.Given as goal

abbrev pub invariant-arguments_fit-loop-arg : goal.invariant-arguments_fit-loop-arg
invariant-arguments_fit-loop-arg l =
    arguments_typed l.scene.unit.now l.scene.func.now (wholes_of l.wholes) (types_of l.callee l.rest) (drop l.arg-index l.args)
    ≡ arguments_typed l.scene.unit.now l.scene.func.now (wholes_of l.wholes) (types_of l.callee l.params) l.args

abbrev pub invariant-fields_fit-loop-member : goal.invariant-fields_fit-loop-member
invariant-fields_fit-loop-member l =
    members_typed l.scene.unit.now l.scene.func.now (wholes_of l.wholes) l.rest (drop l.member-index l.members)
    ≡ members_typed l.scene.unit.now l.scene.func.now (wholes_of l.wholes) l.fields l.members
