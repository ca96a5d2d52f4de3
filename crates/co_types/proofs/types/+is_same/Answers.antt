use Rattle.std.proofs.Common.{◌≡◌, rules, sym, true, false}
use Rattle.std.specs.Prelude.{None}
use Rattle.co_types.specs.Types.{head_of, same_head, target_of}
use Rattle.co_types.proofs.Heads.{heads_differ, heads_alone}
use Rattle.co_types.proofs.types.+is_same.Goals as goal

pub returns-then-not-has_same_head : goal.returns-then-not-has_same_head
returns-then-not-has_same_head t c =
    let h : same_head (head_of c.args.a.now) (head_of c.args.b.now) ≡ false = search rules in
    sym (heads_differ c.args.a.now c.args.b.now h)

pub returns-in_default : goal.returns-in_default
returns-in_default t c =
    let h : same_head (head_of c.args.a.now) (head_of c.args.b.now) ≡ true = search rules in
    let e : target_of c.args.b.now ≡ None = search rules in
    sym (heads_alone c.args.a.now c.args.b.now h e)
