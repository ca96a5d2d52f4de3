-- Single tokens where a symbol reads them.
use Rattle.std.proofs.Common.{◌≡◌, ℕ, suc, ◌≤◌, Bool, true, false, ◌||◌, if◌then◌else◌, List, [], ◌∷◌, length, Some, None, refl, sym, ap, ◌∙◌, subst, inl, inr, arith}
use Rattle.co_base.specs.declared.span.Span.{Span}
use Rattle.co_lex.specs.declared.token.Token.{Token}
use Rattle.co_lex.specs.declared.token.TokenKind.{TokenKind}
use Rattle.co_lex.specs.declared.token.TokenKind.TheVariants as kind
use Rattle.co_lex.specs.declared.token.Mark.{Mark}
use Rattle.co_lex.specs.declared.token.Word.{Word}
use Rattle.co_rules.specs.declared.symbol.Pattern.{Pattern}
use Rattle.co_rules.specs.declared.symbol.Pattern.TheVariants as pattern
use Rattle.co_rules.specs.declared.symbol.Symbol.{Symbol}
use Rattle.co_rules.specs.declared.symbol.Symbol.TheVariants.{Token as Terminal}
use Rattle.co_rules.specs.Pattern.{admits, admits_mark, admits_word, mark_number, word_number}
use Rattle.co_rules.specs.Rule.{Rule}
use Rattle.co_rules.specs.Terminal.{terminal_of}
use Rattle.co_rules.proofs.Sets.{never, eq_true, true_eq}
use Rattle.co_tree.specs.Piece.{Piece, token, line, node, opens, enter, leave, m, name}
use Rattle.co_tree.specs.Formed.{IsName}
use Rattle.co_reader.specs.Reading.{lead_of, is_mark, is_word, sees, after, expect, sees_word, any_name, name as name_reader}
use Rattle.co_reads.specs.Runs.{Runs, token as read_token}
use Rattle.co_reads.specs.Spells.{Spells}
use Rattle.co_reads.specs.Takes.{Takes}
use Rattle.co_reads.proofs.Cases.{Among}
use Rattle.co_reads.proofs.Firsts.{Marked, marked, mark_first, Named, named, name_first, tested_name}
use Rattle.co_reads.proofs.Fronts.{is_mark-lead, is_word-lead, of_mark, of_word}

-- ---- a mark

pub mark_is : (x : Mark) → is_mark x (lead_of (kind.Mark x)) ≡ true
mark_is x = true_eq (mark_number x) (mark_number x) refl

pub sees_here : (x : Mark) (at : Span) (ts : List Token) → sees x (record { kind = kind.Mark x; span = at } ∷ ts) ≡ true
unfolding sees
sees_here x at ts = mark_is x

pub after_here : (x : Mark) (at : Span) (ts : List Token) → after x (record { kind = kind.Mark x; span = at } ∷ ts) ≡ ts
unfolding after
after_here x at ts = ap (λ b. if b then ts else (record { kind = kind.Mark x; span = at } ∷ ts)) (sees_here x at ts)

pub expect_here : (x : Mark) (at : Span) (ts : List Token) → expect x (record { kind = kind.Mark x; span = at } ∷ ts) ≡ Some (tt, ts)
unfolding expect
expect_here x at ts = ap (λ b. if b then Some (tt, ts) else None) (sees_here x at ts)

-- the mark is expected and stands there
abbrev pub Expected : List (List ℕ) → Mark → List Symbol → List Token → Type 0
Expected C x R ts = Takes (expect x) (λ _ left. Spells (m x ∷ []) ts left) C R ts

expected_here : {C : List (List ℕ)} {R : List Symbol} {ts : List Token} (x : Mark) → Marked C x R ts → Expected C x R ts
expected_here x (marked at ts r) = record { part = tt; left = ts; read = expect_here x at ts; is = (refl, refl); runs = r }

pub expected : {C : List (List ℕ)} {R : List Symbol} {ts : List Token} (x : Mark) → Runs C (Terminal (pattern.Punctuator x) ∷ R) ts → Expected C x R ts
expected x h = expected_here x (mark_first h)

-- ---- a name

abbrev pub NameTaken : List (List ℕ) → List Symbol → List Token → Type 0
NameTaken C R ts = Takes name_reader (λ text left. Spells (name text ∷ []) ts left × IsName text) C R ts

name_here : {C : List (List ℕ)} {R : List Symbol} {ts : List Token} → Named C IsName R ts → NameTaken C R ts
unfolding name_reader any_name
name_here (named text at ts is r) = record { part = text; left = ts; read = rw (tested_name text is); is = ((refl, refl), is); runs = r }

pub taken_name : {C : List (List ℕ)} {R : List Symbol} {ts : List Token} → Runs C (Terminal pattern.Name ∷ R) ts → NameTaken C R ts
taken_name h = name_here (name_first h)

-- ---- marks that do not come next

not_admitted : (C : List (List ℕ)) (p : Pattern) (x : Mark) (k : TokenKind) (b : Bool) → b ≡ is_mark x (lead_of k) → admits_mark p x ≡ false → admits p (terminal_of C k) ≡ true → b ≡ false
unfolding admits
not_admitted C p x k false e h a = refl
not_admitted C p x k true e h a = never (sym (subst (λ y. admits p (terminal_of C y) ≡ false) (sym (of_mark k x (is_mark-lead x (lead_of k) (sym e)))) h) ∙ a)

-- none of the rules begins with the mark
abbrev pub BeginNot : Mark → List Rule → Type 0
BeginNot x [] = Unit {0}
BeginNot x (r ∷ rs) = (admits_mark r.head x ≡ false) × BeginNot x rs

pub unseen : (C : List (List ℕ)) (R : List Symbol) (ts : List Token) (x : Mark) (rs : List Rule) → BeginNot x rs → Among C R rs ts → sees x ts ≡ false
unfolding sees
unseen C R ts x [] b h = absurd h
unseen C R ts x (r ∷ rs) b (inl (read_token p _ t later a few h)) = not_admitted C p x t.kind (is_mark x (lead_of t.kind)) refl b.0 a
unseen C R ts x (r ∷ rs) b (inr h) = unseen C R ts x rs b.1 h

no_mark_is : (x y : Mark) (b : Bool) → b ≡ is_mark x (lead_of (kind.Mark y)) → admits_mark (pattern.Punctuator x) y ≡ false → b ≡ false
no_mark_is x y false e h = refl
no_mark_is x y true e h = never (sym h ∙ ap (λ c. c || false) (true_eq (mark_number x) (mark_number y) (sym (eq_true (mark_number y) (mark_number x) (sym e)))))

-- a token that the mark does not admit is no such mark
pub refused_mark : (C : List (List ℕ)) (x : Mark) (k : TokenKind) → admits (pattern.Punctuator x) (terminal_of C k) ≡ false → is_mark x (lead_of k) ≡ false
unfolding admits
refused_mark C x (kind.Mark y) h = no_mark_is x y (is_mark x (lead_of (kind.Mark y))) refl h
refused_mark C x (kind.Name text) h = refl
refused_mark C x (kind.Word v) h = refl
refused_mark C x (kind.Int num value) h = refl
refused_mark C x (kind.Lit text) h = refl
refused_mark C x kind.End h = refl

pub unseen_mark : (C : List (List ℕ)) (x : Mark) (t : Token) (ts : List Token) → admits (pattern.Punctuator x) (terminal_of C t.kind) ≡ false → sees x (t ∷ ts) ≡ false
unfolding sees
unseen_mark C x t ts h = refused_mark C x t.kind h

-- the mark comes next
sees_marked : {C : List (List ℕ)} {R : List Symbol} {ts : List Token} (x : Mark) → Marked C x R ts → sees x ts ≡ true
sees_marked x (marked at ts r) = sees_here x at ts

pub sees_next : {C : List (List ℕ)} {R : List Symbol} {ts : List Token} (x : Mark) → Runs C (Terminal (pattern.Punctuator x) ∷ R) ts → sees x ts ≡ true
sees_next x h = sees_marked x (mark_first h)

-- ---- words that do not come next

word_not_admitted : (C : List (List ℕ)) (p : Pattern) (x : Word) (k : TokenKind) (b : Bool) → b ≡ is_word x (lead_of k) → admits_word p x ≡ false → admits p (terminal_of C k) ≡ true → b ≡ false
unfolding admits
word_not_admitted C p x k false e h a = refl
word_not_admitted C p x k true e h a = never (sym (subst (λ y. admits p (terminal_of C y) ≡ false) (sym (of_word k x (is_word-lead x (lead_of k) (sym e)))) h) ∙ a)

-- none of the rules begins with the word
abbrev pub BeginNotWord : Word → List Rule → Type 0
BeginNotWord x [] = Unit {0}
BeginNotWord x (r ∷ rs) = (admits_word r.head x ≡ false) × BeginNotWord x rs

pub unseen_word : (C : List (List ℕ)) (R : List Symbol) (ts : List Token) (x : Word) (rs : List Rule) → BeginNotWord x rs → Among C R rs ts → sees_word x ts ≡ false
unfolding sees_word
unseen_word C R ts x [] b h = absurd h
unseen_word C R ts x (r ∷ rs) b (inl (read_token p _ t later a few h)) = word_not_admitted C p x t.kind (is_word x (lead_of t.kind)) refl b.0 a
unseen_word C R ts x (r ∷ rs) b (inr h) = unseen_word C R ts x rs b.1 h

no_word_is : (x y : Word) (b : Bool) → b ≡ is_word x (lead_of (kind.Word y)) → admits_word (pattern.Keyword x) y ≡ false → b ≡ false
no_word_is x y false e h = refl
no_word_is x y true e h = never (sym h ∙ ap (λ c. c || false) (true_eq (word_number x) (word_number y) (sym (eq_true (word_number y) (word_number x) (sym e)))))

refused_kind : (C : List (List ℕ)) (x : Word) (k : TokenKind) → admits (pattern.Keyword x) (terminal_of C k) ≡ false → is_word x (lead_of k) ≡ false
unfolding admits
refused_kind C x (kind.Word y) h = no_word_is x y (is_word x (lead_of (kind.Word y))) refl h
refused_kind C x (kind.Name text) h = refl
refused_kind C x (kind.Mark v) h = refl
refused_kind C x (kind.Int num value) h = refl
refused_kind C x (kind.Lit text) h = refl
refused_kind C x kind.End h = refl

-- a token that the word does not admit is no such word
pub refused_word : (C : List (List ℕ)) (x : Word) (t : Token) (ts : List Token) → admits (pattern.Keyword x) (terminal_of C t.kind) ≡ false → sees_word x (t ∷ ts) ≡ false
unfolding sees_word
refused_word C x t ts h = refused_kind C x t.kind h

-- where there are classes, each rule can be used
pub usable_so : (b c : Bool) → b ≡ true → (b || c) ≡ true
usable_so true c h = refl
usable_so false c h = never h

-- ---- how many tokens are left

pub within : (ps : List Piece) (ts left : List Token) → Spells ps ts left → length left ≤ length ts
within [] ts left s = subst (λ x. length x ≤ length ts) s (omega arith)
within (token k ∷ ps) [] left s = absurd s
within (token k ∷ ps) (t ∷ ts) left s = let h = within ps ts left s.1 in omega (arith, h)
within (node at ∷ ps) ts left s = within ps ts left s.1
within (line ∷ ps) ts left s = within ps ts left s
within (opens ∷ ps) ts left s = within ps ts left s
within (enter ∷ ps) ts left s = within ps ts left s
within (leave ∷ ps) ts left s = within ps ts left s

-- a token is taken
pub shorter : {count : ℕ} (k : TokenKind) (ps : List Piece) (ts left : List Token) → length ts ≤ suc count → Spells (token k ∷ ps) ts left → length left ≤ count
shorter k ps [] left b s = absurd s
shorter k ps (t ∷ ts) left b s = let w = within ps ts left s.1 in omega (arith, b, w)
