-- The entries of a table.
use Rattle.std.specs.Prelude.{◌≡◌, ◌<◌, ◌≤◌, List, [], ◌∷◌, ◌++◌, All, length}
use Rattle.std.proofs.Common.{arith, subst, sym}
use Rattle.std.proofs.lemmas.Grind.{common_steps}
use Rattle.std.proofs.lemmas.List.Elements.{All-push}
use Rattle.co_types.specs.declared.table.Entry.{Entry}
use Rattle.co_types.specs.Names.{infos, IsEntry}

pub entries_grow : (es fs : List Entry) (e : Entry) → fs ≡ es ++ e ∷ [] → length (infos es) < 1024 → All IsEntry es → IsEntry e → (length fs ≤ 1024) × All IsEntry fs
entries_grow es fs e is room all entry =
    (rw is (grind (arith, common_steps, room)), subst (All IsEntry) (sym is) (All-push IsEntry es e all entry))
