-- What the first token of a list is, and what the readers of one token spell.
use Rattle.std.proofs.Common.{◌≡◌, ℕ, List, [], ◌∷◌, Option, Some, None, Bool, true, false, if◌then◌else◌, refl, sym, ap, ◌∙◌, subst}
use Rattle.std.proofs.lemmas.Option.{some_pair_parts}
use Rattle.std.proofs.lemmas.Slice.Eq.{bytes_eq-Decides}
use Rattle.co_lex.specs.declared.token.Token.{Token}
use Rattle.co_lex.specs.declared.token.TokenKind.{TokenKind}
use Rattle.co_lex.specs.declared.token.TokenKind.TheVariants as kind
use Rattle.co_lex.specs.declared.token.Mark.{Mark}
use Rattle.co_lex.specs.declared.token.Word.{Word}
use Rattle.co_tree.specs.Piece.{Piece, token, node, m, w, name, if_said}
use Rattle.co_reader.specs.declared.lead.Lead.{Lead}
use Rattle.co_reader.specs.declared.lead.Lead.TheVariants as l
use Rattle.co_reader.specs.Reading.{Read, Reader, and_then, given, lead_of, lead, place, rest, is_mark, is_word, sees, after, expect, sees_word, after_word, expect_word, text_of, any_name, is_text, spells}
use Rattle.co_reads.specs.Spells.{Spells, ReadsSpelled}
use Rattle.co_reads.proofs.Same.{same_mark, same_word}

-- ---- two readers, one after the other

pub bound : {A B : Type 0} (r : Read A) (f : A → Reader B) (z : B × List Token) → and_then r f ≡ Some z → (y : A × List Token) × (r ≡ Some y) × (f y.0 y.1 ≡ Some z)
bound None f z h = absurd cc
bound (Some y) f z h = (y, refl, h)

-- ---- the kind of the first token

pub of_mark : (k : TokenKind) (x : Mark) → lead_of k ≡ l.Mark x → k ≡ kind.Mark x
of_mark (kind.Name text) x h = absurd cc
of_mark (kind.Word v) x h = absurd cc
of_mark (kind.Int num value) x h = absurd cc
of_mark (kind.Lit text) x h = absurd cc
of_mark (kind.Mark v) x h = cc
of_mark kind.End x h = absurd cc

pub of_word : (k : TokenKind) (x : Word) → lead_of k ≡ l.Word x → k ≡ kind.Word x
of_word (kind.Name text) x h = absurd cc
of_word (kind.Word v) x h = cc
of_word (kind.Int num value) x h = absurd cc
of_word (kind.Lit text) x h = absurd cc
of_word (kind.Mark v) x h = absurd cc
of_word kind.End x h = absurd cc

pub front_mark : (ts : List Token) (x : Mark) → lead ts ≡ l.Mark x → Spells (m x ∷ []) ts (rest ts)
front_mark [] x h = absurd cc
front_mark (t ∷ ts) x h = (of_mark t.kind x h, refl)

pub front_word : (ts : List Token) (x : Word) → lead ts ≡ l.Word x → Spells (w x ∷ []) ts (rest ts)
front_word [] x h = absurd cc
front_word (t ∷ ts) x h = (of_word t.kind x h, refl)

-- ---- tests

pub is_mark-lead : (x : Mark) (k : Lead) → is_mark x k ≡ true → k ≡ l.Mark x
is_mark-lead x l.Name h = absurd cc
is_mark-lead x (l.Word v) h = absurd cc
is_mark-lead x (l.Int num value) h = absurd cc
is_mark-lead x l.Text h = absurd cc
is_mark-lead x (l.Mark v) h = ap l.Mark (same_mark v x h)
is_mark-lead x l.End h = absurd cc

pub is_word-lead : (x : Word) (k : Lead) → is_word x k ≡ true → k ≡ l.Word x
is_word-lead x l.Name h = absurd cc
is_word-lead x (l.Word v) h = ap l.Word (same_word v x h)
is_word-lead x (l.Int num value) h = absurd cc
is_word-lead x l.Text h = absurd cc
is_word-lead x (l.Mark v) h = absurd cc
is_word-lead x l.End h = absurd cc

pub sees-spells : (x : Mark) (ts : List Token) → sees x ts ≡ true → Spells (m x ∷ []) ts (rest ts)
unfolding sees
sees-spells x ts h = front_mark ts x (is_mark-lead x (lead ts) h)

pub sees_word-spells : (x : Word) (ts : List Token) → sees_word x ts ≡ true → Spells (w x ∷ []) ts (rest ts)
unfolding sees_word
sees_word-spells x ts h = front_word ts x (is_word-lead x (lead ts) h)

expected : (ps : List Piece) (ts : List Token) (b : Bool) (r : List Token) (u : Unit {0}) → (b ≡ true → Spells ps ts (rest ts)) → if◌then◌else◌ {A = Option (Unit {0} × List Token)} b (Some (tt, rest ts)) None ≡ Some (u, r) → Spells ps ts r
expected ps ts true r u f h = subst (λ x. Spells ps ts x) (some_pair_parts tt u (rest ts) r h).1 (f refl)
expected ps ts false r u f h = absurd cc

pub expect-spells : (x : Mark) → ReadsSpelled (expect x) (λ _. m x ∷ [])
unfolding expect
expect-spells x ts r u h = expected (m x ∷ []) ts (sees x ts) r u (sees-spells x ts) h

pub expect_word-spells : (x : Word) → ReadsSpelled (expect_word x) (λ _. w x ∷ [])
unfolding expect_word
expect_word-spells x ts r u h = expected (w x ∷ []) ts (sees_word x ts) r u (sees_word-spells x ts) h

-- ---- names

named_any : (t : Token) (ts r : List Token) (text : List ℕ) (k : TokenKind) → t.kind ≡ k → given (text_of k) ts ≡ Some (text, r) → Spells (name text ∷ []) (t ∷ ts) r
named_any t ts r text (kind.Name n) e h = let p = some_pair_parts n text ts r h in (e ∙ ap kind.Name p.0, p.1)
named_any t ts r text (kind.Word v) e h = absurd cc
named_any t ts r text (kind.Int num value) e h = absurd cc
named_any t ts r text (kind.Lit n) e h = absurd cc
named_any t ts r text (kind.Mark v) e h = absurd cc
named_any t ts r text kind.End e h = absurd cc

pub any_name-spells : ReadsSpelled any_name (λ text. name text ∷ [])
unfolding any_name
any_name-spells [] r text h = absurd cc
any_name-spells (t ∷ ts) r text h = named_any t ts r text t.kind refl h

-- ---- a mark or a word that may stand

pub after-eaten : (x : Mark) (ts : List Token) → sees x ts ≡ true → after x ts ≡ rest ts
unfolding after
after-eaten x ts h = ap (λ b. if b then rest ts else ts) h

pub after-left : (x : Mark) (ts : List Token) → sees x ts ≡ false → after x ts ≡ ts
unfolding after
after-left x ts h = ap (λ b. if b then rest ts else ts) h

pub after_word-eaten : (x : Word) (ts : List Token) → sees_word x ts ≡ true → after_word x ts ≡ rest ts
unfolding after_word
after_word-eaten x ts h = ap (λ b. if b then rest ts else ts) h

pub after_word-left : (x : Word) (ts : List Token) → sees_word x ts ≡ false → after_word x ts ≡ ts
unfolding after_word
after_word-left x ts h = ap (λ b. if b then rest ts else ts) h

pub eaten-spells : (x : Mark) (ts : List Token) → sees x ts ≡ true → Spells (m x ∷ []) ts (after x ts)
eaten-spells x ts h = subst (λ r. Spells (m x ∷ []) ts r) (sym (after-eaten x ts h)) (sees-spells x ts h)

pub eaten_word-spells : (x : Word) (ts : List Token) → sees_word x ts ≡ true → Spells (w x ∷ []) ts (after_word x ts)
eaten_word-spells x ts h = subst (λ r. Spells (w x ∷ []) ts r) (sym (after_word-eaten x ts h)) (sees_word-spells x ts h)

-- a word that stands or doesn't
pub word_if-spells : (x : Word) (ts : List Token) → Spells (if_said (sees_word x ts) (w x)) ts (after_word x ts)
word_if-spells x ts = go (sees_word x ts) refl
  where
    go : (b : Bool) → sees_word x ts ≡ b → Spells (if_said b (w x)) ts (after_word x ts)
    go true h = eaten_word-spells x ts h
    go false h = sym (after_word-left x ts h)

-- ---- places

-- pieces that begin with a token stand at its place
pub placed : (k : TokenKind) (ps : List Piece) (ts r : List Token) → Spells (token k ∷ ps) ts r → Spells (node (place ts) ∷ token k ∷ ps) ts r
placed k ps [] r h = absurd h
placed k ps (t ∷ ts) r h = (refl, h)

text_is : (text : List ℕ) (k : TokenKind) → is_text text k ≡ true → k ≡ kind.Name text
text_is text (kind.Name n) h = ap kind.Name ((bytes_eq-Decides n text).0 h)
text_is text (kind.Word v) h = absurd cc
text_is text (kind.Int num value) h = absurd cc
text_is text (kind.Lit n) h = absurd cc
text_is text (kind.Mark v) h = absurd cc
text_is text kind.End h = absurd cc

-- the name that comes next is told
pub spells-front : (text : List ℕ) (ts : List Token) → spells text ts ≡ true → Spells (name text ∷ []) ts (rest ts)
unfolding spells
spells-front text [] h = absurd cc
spells-front text (t ∷ ts) h = (text_is text t.kind h, refl)
