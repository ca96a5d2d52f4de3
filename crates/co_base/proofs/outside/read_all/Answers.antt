use Rattle.std.proofs.Common.{rules, arith, ◌≡◌, ◌≤◌, ◌+◌, drop, length, vec_len}
use Rattle.std.proofs.lemmas.List.{length-take}
use Rattle.co_base.proofs.Taking.{length-front, read_more}
use Rattle.co_base.proofs.outside.read_all.Goals as goal

pub loop-part-preserved : goal.loop-part-preserved
loop-part-preserved g c =
    let within : c.in_ok-count.count ≤ length c.read.new.into = omega (arith, c.in_ok-count.ensures.within) in
    let taken = length-front c.in_ok-count.count c.read.new.into (drop c.min-room.result c.loop-part.part) within in
    let count : vec_len c.extend_from_slice.new.self ≡ vec_len c.loop-part.bytes + c.in_ok-count.count =
    omega (arith, c.in_ok-extend_from_slice.ensures.len, taken) in
    record {
      bytes = read_more (g.F.Files.told c.loop-part.files) (g.F.Files.told c.args.files.now) c.args.name.now _ _ _ _ _ _ _ _ c.loop-part.invariant.same c.loop-part.invariant.bytes c.in_ok-count.ensures.bytes c.len-in-loop-part-2.ensures within c.in_ok-extend_from_slice.ensures.items count;
      within = omega (arith, count, c.min-room.ensures, c.len.ensures, c.len-in-loop-part.ensures, c.in_ok-count.ensures.within, length-take c.min-room.result c.loop-part.part);
      same = search rules;
      faults = search rules;
    }
