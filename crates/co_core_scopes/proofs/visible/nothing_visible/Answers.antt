use Rattle.std.proofs.Common.{refl}
use Rattle.co_core_scopes.proofs.visible.nothing_visible.Goals as goal

pub returns : goal.returns
returns c =
    record {
      func_is = refl;
      scope_size = c.none.ensures.size;
      made_size = c.none-2.ensures.size;
      scope_none = c.none.ensures.none;
      made_none = c.none-2.ensures.none;
      holds_is = refl;
    }
