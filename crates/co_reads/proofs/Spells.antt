-- Laws of what pieces spell.
use Rattle.std.proofs.Common.{List, [], ◌∷◌, ◌++◌, refl, sym, subst}
use Rattle.co_lex.specs.declared.token.Token.{Token}
use Rattle.co_tree.specs.Piece.{Piece, token, line, node, opens, enter, leave, rule}
use Rattle.co_tree.specs.Derives.{Reads}
use Rattle.co_reads.specs.Spells.{Spells}

pub spells_append : (ps qs : List Piece) (ts mid rest : List Token) → Spells ps ts mid → Spells qs mid rest → Spells (ps ++ qs) ts rest
spells_append [] qs ts mid rest a b = subst (λ x. Spells qs x rest) (sym a) b
spells_append (token k ∷ ps) qs [] mid rest a b = absurd a
spells_append (token k ∷ ps) qs (t ∷ ts) mid rest a b = (a.0, spells_append ps qs ts mid rest a.1 b)
spells_append (node at ∷ ps) qs ts mid rest a b = (a.0, spells_append ps qs ts mid rest a.1 b)
spells_append (line ∷ ps) qs ts mid rest a b = spells_append ps qs ts mid rest a b
spells_append (opens ∷ ps) qs ts mid rest a b = spells_append ps qs ts mid rest a b
spells_append (enter ∷ ps) qs ts mid rest a b = spells_append ps qs ts mid rest a b
spells_append (leave ∷ ps) qs ts mid rest a b = spells_append ps qs ts mid rest a b

pub spells_rule : (ps : List Piece) (ts rest : List Token) → Spells ps ts rest → Spells (rule ps) ts rest
spells_rule ps ts rest a = spells_append ps (leave ∷ []) ts rest rest a refl

-- the whole list is spelled
pub spells_reads : (ps : List Piece) (ts : List Token) → Spells ps ts [] → Reads ps ts
spells_reads [] [] a = tt
spells_reads [] (t ∷ ts) a = absurd cc
spells_reads (token k ∷ ps) [] a = absurd a
spells_reads (token k ∷ ps) (t ∷ ts) a = (a.0, spells_reads ps ts a.1)
spells_reads (node at ∷ ps) ts a = (a.0, spells_reads ps ts a.1)
spells_reads (line ∷ ps) ts a = spells_reads ps ts a
spells_reads (opens ∷ ps) ts a = spells_reads ps ts a
spells_reads (enter ∷ ps) ts a = spells_reads ps ts a
spells_reads (leave ∷ ps) ts a = spells_reads ps ts a
