use Rattle.std.proofs.Common.{refl}
use Rattle.co_tree.specs.Declarations.{member, members}
use Rattle.co_print.proofs.StepsStatements as step
use Rattle.co_print.proofs.declarations.+members.Goals as goal

pub print_members-loop-member-preserved : goal.print_members-loop-member-preserved
print_members-loop-member-preserved t c =
    step.each_step member members (λ x xs. refl) _ _ _ c.args.members.now c.loop-member.member-index c.member-item.result c.loop-member-test.true c.member-item.is c.in_ok-print_member.ensures c.loop-member.invariant

pub print_member-returns-in_ok-mark-in-Class-3 : goal.print_member-returns-in_ok-mark-in-Class-3
print_member-returns-in_ok-mark-in-Class-3 t c =
    step.class_step _ _ _ _ _ _ _ _ _ _ _ _ _ _ _ _ c.in-Class.is c.line.ensures c.key_word.ensures c.in_ok-word-in-Class.ensures c.as_slice.ensures c.in_ok-name-in-Class.ensures c.in_ok-mark-in-Class.ensures c.as_slice-in-Class.ensures c.in_ok-print_members-in-Class.ensures c.in_ok-mark-in-Class-2.ensures c.in_ok-mark-in-Class-3.ensures
