use Rattle.std.proofs.Common.{◌≡◌, None, Some, cond, nat_eq, sym, ap, ◌∙◌}
use Rattle.std.specs.Cmp.Lexicographic.{pointwise}
use Rattle.std.specs.Map.{lookup}
use Rattle.co_types.specs.Names.{member_at}
use Rattle.co_types.proofs.Noted.{lookup_inserted, none_of, noted_is}
use Rattle.co_types.proofs.names.Names.note.Goals as goal

pub returns : goal.returns
returns c =
    let names = c.args.self.now in
    let name = c.args.name.now in
    let absent : member_at names name ≡ None = none_of (member_at names name) (sym c.contains_key.ensures ∙ c.if-contains_key.false) in
    record {
      ok = λ other.
          ap (lookup (λ k. pointwise nat_eq other k.items)) c.in_ok-insert.ensures.entries
          ∙ lookup_inserted (λ k. k.items) other names.by_name.entries c.in_ok-key.key c.args.member
          ∙ ap (λ bytes. cond (pointwise nat_eq other bytes) (Some c.args.member) (member_at names other)) c.in_ok-key.ensures.items
          ∙ noted_is name other c.args.member (member_at names) absent;
    }
