-- A file has one tree at most.
use Rattle.std.proofs.Common.{◌≡◌, ℕ, List, sym, subst}
use Rattle.co_first_tree.specs.declared.tree.Program.{Program}
use Rattle.co_first_parse.specs.declared.token.Token.{Token}
use Rattle.co_first_parse.specs.Spelling.{Spells, first_place}
use Rattle.co_first_parse.specs.Grammar.{IsFile, IsTree, HasOneTree}
use Rattle.co_first_parse.proofs.Tokens.{lawful, one_spelling}
use Rattle.co_first_parse.proofs.Whole.{one_tree}

pub tree_of : (bytes : List ℕ) (tokens : List Token) (p : Program) → Spells first_place bytes tokens → IsFile bytes p → IsTree tokens p
tree_of bytes tokens p s f =
    let same = one_spelling first_place bytes f.tokens tokens f.spelled s in
    subst (λ ts. IsTree ts p) same (record { tree = f.tree; formed = f.formed })

pub one_file : (bytes : List ℕ) → HasOneTree bytes
one_file bytes p q f g =
    one_tree f.tokens p q (lawful first_place bytes f.tokens f.spelled) (tree_of bytes f.tokens p f.spelled f) (tree_of bytes f.tokens q f.spelled g)
