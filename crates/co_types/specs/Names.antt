-- The members of a class by their names.
use Rattle.std.specs.Prelude.{ℕ, ◌≡◌, List, map, Option, None, Some, if◌then◌else◌, bytes_eq, nat_eq}
use Rattle.std.specs.Cmp.Lexicographic.{pointwise}
use Rattle.indexmap.specs.IndexMap.{get_by}
use Rattle.co_types.specs.declared.members.Found.{Found}
use Rattle.co_types.specs.declared.names.Names.{Names}
use Rattle.co_types.specs.declared.table.Entry.{Entry}
use Rattle.co_types.specs.declared.classes.ClassInfo.{ClassInfo}
use Rattle.co_types.specs.Classes.{first_of, named_in, IsCounted}

-- the member that is noted by this name
abbrev pub member_at : Names → List ℕ → Option Found
member_at names name = get_by (λ key. pointwise nat_eq name key.items) names.by_name

-- the member of a name, once one more is noted: the first member of a name is the one that is found
abbrev pub noted : Option Found → List ℕ → Found → List ℕ → Option Found
noted named name member other = first_of named (if bytes_eq name other then Some member else None)

-- each member of the class is noted by its name
abbrev pub AreNamesOf : ClassInfo → Names → Type 0
AreNamesOf info names = (name : List ℕ) → member_at names name ≡ named_in info name

-- a class of a table, with the names of its members
abbrev pub IsEntry : Entry → Type 0
IsEntry entry = IsCounted entry.info × AreNamesOf entry.info entry.names

abbrev pub infos : List Entry → List ClassInfo
infos entries = map (λ entry. entry.info) entries
