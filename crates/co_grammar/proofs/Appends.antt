-- The rule that is found in two lists, one after the other.
use Rattle.std.proofs.Common.{◌≡◌, Bool, true, false, cond, List, [], ◌∷◌, ◌++◌, Option, Some, None, refl, ◌∙◌}
use Rattle.std.specs.Borrow.{Bor}
use Rattle.co_rules.specs.declared.symbol.Nonterminal.{Nonterminal}
use Rattle.co_rules.specs.declared.symbol.Symbol.{Symbol}
use Rattle.co_rules.specs.declared.symbol.Terminal.{Terminal}
use Rattle.co_grammar.specs.Machine.{applies, body_among, Finds}
use Rattle.co_rules.specs.Rule.{Rule}

either_first : (b : Bool) (body found : List Symbol) (one both : Option (List Symbol)) → (one ≡ Some found → both ≡ Some found) → cond b (Some body) one ≡ Some found → cond b (Some body) both ≡ Some found
either_first true body found one both h e = e
either_first false body found one both h e = h e

either_later : (b : Bool) (body : List Symbol) (one both other : Option (List Symbol)) → (one ≡ None → both ≡ other) → cond b (Some body) one ≡ None → cond b (Some body) both ≡ other
either_later true body one both other h e = absurd cc
either_later false body one both other h e = h e

-- what is found in the first list is found in both
pub among_first : (c : Bool) (n : Nonterminal) (t : Terminal) (rs qs : List Rule) (body : List Symbol) → body_among c n t rs ≡ Some body → body_among c n t (rs ++ qs) ≡ Some body
among_first c n t [] qs body e = absurd cc
among_first c n t (r ∷ rs) qs body e = either_first (applies c n t r) r.body body (body_among c n t rs) (body_among c n t (rs ++ qs)) (among_first c n t rs qs body) e

-- and where nothing is, what is found in the second
among_later : (c : Bool) (n : Nonterminal) (t : Terminal) (rs qs : List Rule) → body_among c n t rs ≡ None → body_among c n t (rs ++ qs) ≡ body_among c n t qs
among_later c n t [] qs e = refl
among_later c n t (r ∷ rs) qs e = either_later (applies c n t r) r.body (body_among c n t rs) (body_among c n t (rs ++ qs)) (body_among c n t qs) (among_later c n t rs qs) e

pub finds_later : (c : Bool) (n : Nonterminal) (t : Terminal) (rs qs : List Rule) (found : Option (Bor (List Symbol))) → body_among c n t rs ≡ None → Finds found (body_among c n t qs) → Finds found (body_among c n t (rs ++ qs))
finds_later c n t rs qs None e f = among_later c n t rs qs e ∙ f
finds_later c n t rs qs (Some body) e f = among_later c n t rs qs e ∙ f
