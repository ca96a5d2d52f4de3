use Rattle.std.proofs.Common.{sym, subst}
use Rattle.co_first_parse.specs.Grammar.{AreLawful, IsTree}
use Rattle.co_first_parse.proofs.Tokens.{lawful}
use Rattle.co_first_parse.proofs.File.{tree_of}
use Rattle.co_first_parse.proofs.parse.Goals as goal

pub whole_tree-requires : goal.whole_tree-requires
whole_tree-requires c = subst AreLawful (sym c.as_slice.ensures) (lawful _ _ _ c.in_ok-tokens.ensures.ok)

pub returns-clause-refused : goal.returns-clause-refused
returns-clause-refused c h p f =
    c.whole_tree.ensures.refused h p (subst (λ tokens. IsTree tokens p) (sym c.as_slice.ensures) (tree_of _ _ p c.in_ok-tokens.ensures.ok f))
