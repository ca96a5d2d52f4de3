-- The tables list each spelling once.
use Rattle.std.proofs.Common.{◌≡◌, ◌≢◌, ℕ, ◌≤◌, Bool, true, false, ◌&&◌, ◌||◌, cond, leb, List, [], ◌∷◌, ◌++◌, length, take, drop, nat_eq, Option, Some, None, refl, sym, ap, ◌∙◌, subst, ◌⊎◌, inl, inr, ⊎_elim, arith, codes}
use Rattle.std.specs.List.{list_all, starts_with}
use Rattle.std.specs.Str.{bytes_eq}
use Rattle.std.proofs.lemmas.Bool.Decides.{nat_tests, Decides-eqb}
use Rattle.std.proofs.lemmas.List.{take_at}
use Rattle.std.proofs.lemmas.Slice.Eq.{bytes_eq-Decides, starts_is}
use Rattle.co_lex.specs.declared.scan.Class.TheVariants as class
use Rattle.co_lex.specs.declared.scan.Start.TheVariants as start
use Rattle.co_lex.specs.declared.token.Word.{Word}
use Rattle.co_lex.specs.declared.token.Word.TheVariants as word
use Rattle.co_lex.specs.declared.token.Mark.{Mark}
use Rattle.co_lex.specs.declared.token.Mark.TheVariants as mark
use Rattle.co_lex.specs.Scan.{is_in}
use Rattle.co_lex.specs.Lexer.{start_of}
use Rattle.co_lex.specs.Table.{lookup, words, word_of, front, marks, mark_of, front_len, headers, header_len}
use Rattle.co_lex.specs.Spells.{AllIn}
use Rattle.co_lex.specs.Texts.{word_text, mark_text, IsHeaderName, IsHeader, angled, quoted, coroutine, utility, atomic, exception, cstddef, corun_h}

-- ---- words

pub word_of-text : (w : Word) → word_of (word_text w) ≡ Some w
unfolding word_of
word_of-text word.Auto = refl
word_of-text word.Bool = refl
word_of-text word.Break = refl
word_of-text word.Catch = refl
word_of-text word.Class = refl
word_of-text word.CoAwait = refl
word_of-text word.CoReturn = refl
word_of-text word.CoYield = refl
word_of-text word.Const = refl
word_of-text word.Continue = refl
word_of-text word.Default = refl
word_of-text word.Delete = refl
word_of-text word.Else = refl
word_of-text word.Explicit = refl
word_of-text word.False = refl
word_of-text word.For = refl
word_of-text word.If = refl
word_of-text word.Inline = refl
word_of-text word.Int = refl
word_of-text word.Long = refl
word_of-text word.New = refl
word_of-text word.Noexcept = refl
word_of-text word.Nullptr = refl
word_of-text word.Operator = refl
word_of-text word.Private = refl
word_of-text word.Protected = refl
word_of-text word.Public = refl
word_of-text word.Return = refl
word_of-text word.Static = refl
word_of-text word.StaticCast = refl
word_of-text word.Struct = refl
word_of-text word.This = refl
word_of-text word.Throw = refl
word_of-text word.True = refl
word_of-text word.Try = refl
word_of-text word.Using = refl
word_of-text word.Void = refl
word_of-text word.While = refl
word_of-text word.Alignas = refl
word_of-text word.Alignof = refl
word_of-text word.Case = refl
word_of-text word.Char = refl
word_of-text word.Concept = refl
word_of-text word.ConstCast = refl
word_of-text word.Consteval = refl
word_of-text word.Constexpr = refl
word_of-text word.Constinit = refl
word_of-text word.Decltype = refl
word_of-text word.Do = refl
word_of-text word.Double = refl
word_of-text word.DynamicCast = refl
word_of-text word.Enum = refl
word_of-text word.Export = refl
word_of-text word.Extern = refl
word_of-text word.Float = refl
word_of-text word.Friend = refl
word_of-text word.Goto = refl
word_of-text word.Mutable = refl
word_of-text word.Namespace = refl
word_of-text word.ReinterpretCast = refl
word_of-text word.Requires = refl
word_of-text word.Short = refl
word_of-text word.Signed = refl
word_of-text word.Sizeof = refl
word_of-text word.StaticAssert = refl
word_of-text word.Switch = refl
word_of-text word.Template = refl
word_of-text word.ThreadLocal = refl
word_of-text word.Typedef = refl
word_of-text word.Typeid = refl
word_of-text word.Typename = refl
word_of-text word.Union = refl
word_of-text word.Unsigned = refl
word_of-text word.Virtual = refl
word_of-text word.Volatile = refl

-- a word is a name of letters and `_`
pub word_text-start : (w : Word) → start_of (word_text w) ≡ start.Letter
word_text-start word.Auto = refl
word_text-start word.Bool = refl
word_text-start word.Break = refl
word_text-start word.Catch = refl
word_text-start word.Class = refl
word_text-start word.CoAwait = refl
word_text-start word.CoReturn = refl
word_text-start word.CoYield = refl
word_text-start word.Const = refl
word_text-start word.Continue = refl
word_text-start word.Default = refl
word_text-start word.Delete = refl
word_text-start word.Else = refl
word_text-start word.Explicit = refl
word_text-start word.False = refl
word_text-start word.For = refl
word_text-start word.If = refl
word_text-start word.Inline = refl
word_text-start word.Int = refl
word_text-start word.Long = refl
word_text-start word.New = refl
word_text-start word.Noexcept = refl
word_text-start word.Nullptr = refl
word_text-start word.Operator = refl
word_text-start word.Private = refl
word_text-start word.Protected = refl
word_text-start word.Public = refl
word_text-start word.Return = refl
word_text-start word.Static = refl
word_text-start word.StaticCast = refl
word_text-start word.Struct = refl
word_text-start word.This = refl
word_text-start word.Throw = refl
word_text-start word.True = refl
word_text-start word.Try = refl
word_text-start word.Using = refl
word_text-start word.Void = refl
word_text-start word.While = refl
word_text-start word.Alignas = refl
word_text-start word.Alignof = refl
word_text-start word.Case = refl
word_text-start word.Char = refl
word_text-start word.Concept = refl
word_text-start word.ConstCast = refl
word_text-start word.Consteval = refl
word_text-start word.Constexpr = refl
word_text-start word.Constinit = refl
word_text-start word.Decltype = refl
word_text-start word.Do = refl
word_text-start word.Double = refl
word_text-start word.DynamicCast = refl
word_text-start word.Enum = refl
word_text-start word.Export = refl
word_text-start word.Extern = refl
word_text-start word.Float = refl
word_text-start word.Friend = refl
word_text-start word.Goto = refl
word_text-start word.Mutable = refl
word_text-start word.Namespace = refl
word_text-start word.ReinterpretCast = refl
word_text-start word.Requires = refl
word_text-start word.Short = refl
word_text-start word.Signed = refl
word_text-start word.Sizeof = refl
word_text-start word.StaticAssert = refl
word_text-start word.Switch = refl
word_text-start word.Template = refl
word_text-start word.ThreadLocal = refl
word_text-start word.Typedef = refl
word_text-start word.Typeid = refl
word_text-start word.Typename = refl
word_text-start word.Union = refl
word_text-start word.Unsigned = refl
word_text-start word.Virtual = refl
word_text-start word.Volatile = refl

word_text-name : (w : Word) → list_all (is_in class.Name) (word_text w) ≡ true
word_text-name word.Auto = refl
word_text-name word.Bool = refl
word_text-name word.Break = refl
word_text-name word.Catch = refl
word_text-name word.Class = refl
word_text-name word.CoAwait = refl
word_text-name word.CoReturn = refl
word_text-name word.CoYield = refl
word_text-name word.Const = refl
word_text-name word.Continue = refl
word_text-name word.Default = refl
word_text-name word.Delete = refl
word_text-name word.Else = refl
word_text-name word.Explicit = refl
word_text-name word.False = refl
word_text-name word.For = refl
word_text-name word.If = refl
word_text-name word.Inline = refl
word_text-name word.Int = refl
word_text-name word.Long = refl
word_text-name word.New = refl
word_text-name word.Noexcept = refl
word_text-name word.Nullptr = refl
word_text-name word.Operator = refl
word_text-name word.Private = refl
word_text-name word.Protected = refl
word_text-name word.Public = refl
word_text-name word.Return = refl
word_text-name word.Static = refl
word_text-name word.StaticCast = refl
word_text-name word.Struct = refl
word_text-name word.This = refl
word_text-name word.Throw = refl
word_text-name word.True = refl
word_text-name word.Try = refl
word_text-name word.Using = refl
word_text-name word.Void = refl
word_text-name word.While = refl
word_text-name word.Alignas = refl
word_text-name word.Alignof = refl
word_text-name word.Case = refl
word_text-name word.Char = refl
word_text-name word.Concept = refl
word_text-name word.ConstCast = refl
word_text-name word.Consteval = refl
word_text-name word.Constexpr = refl
word_text-name word.Constinit = refl
word_text-name word.Decltype = refl
word_text-name word.Do = refl
word_text-name word.Double = refl
word_text-name word.DynamicCast = refl
word_text-name word.Enum = refl
word_text-name word.Export = refl
word_text-name word.Extern = refl
word_text-name word.Float = refl
word_text-name word.Friend = refl
word_text-name word.Goto = refl
word_text-name word.Mutable = refl
word_text-name word.Namespace = refl
word_text-name word.ReinterpretCast = refl
word_text-name word.Requires = refl
word_text-name word.Short = refl
word_text-name word.Signed = refl
word_text-name word.Sizeof = refl
word_text-name word.StaticAssert = refl
word_text-name word.Switch = refl
word_text-name word.Template = refl
word_text-name word.ThreadLocal = refl
word_text-name word.Typedef = refl
word_text-name word.Typeid = refl
word_text-name word.Typename = refl
word_text-name word.Union = refl
word_text-name word.Unsigned = refl
word_text-name word.Virtual = refl
word_text-name word.Volatile = refl

both : (a b : Bool) → (a && b) ≡ true → (a ≡ true) × (b ≡ true)
both true b h = (refl, h)
both false b h = absurd (cc)

all_in : (z : List ℕ) → list_all (is_in class.Name) z ≡ true → AllIn class.Name z
all_in [] h = tt
all_in (b ∷ z) h = let k = both (is_in class.Name b) (list_all (is_in class.Name) z) h in (k.0, all_in z k.1)

pub word_text-all : (w : Word) → AllIn class.Name (word_text w)
word_text-all w = all_in (word_text w) (word_text-name w)

same_bytes : (a b : List ℕ) → bytes_eq a b ≡ true → a ≡ b
same_bytes a b h = (bytes_eq-Decides a b).0 h

lookup-at : (e : List ℕ × Word) (name : List ℕ) (w : Word) (more : Option Word) (t : Bool) → bytes_eq e.0 name ≡ t → e.0 ≡ word_text e.1 → (more ≡ Some w → name ≡ word_text w) → cond t (Some e.1) more ≡ Some w → name ≡ word_text w
lookup-at e name w more true same spelled later h =
    let k : e.1 ≡ w = cc in
    sym (same_bytes e.0 name same) ∙ (spelled ∙ ap word_text k)
lookup-at e name w more false same spelled later h = later h

lookup-text : (ws : List (List ℕ × Word)) (name : List ℕ) (w : Word) → list_all (λ e. bytes_eq e.0 (word_text e.1)) ws ≡ true → lookup ws name ≡ Some w → name ≡ word_text w
lookup-text [] name w all h = absurd (cc)
lookup-text (e ∷ ws) name w all h =
    let k = both (bytes_eq e.0 (word_text e.1)) (list_all (λ d. bytes_eq d.0 (word_text d.1)) ws) all in
    lookup-at e name w (lookup ws name) (bytes_eq e.0 name) refl (same_bytes e.0 (word_text e.1) k.0) (lookup-text ws name w k.1) h

-- a name is a word only where it is spelled as one
pub word_of-spelled : (name : List ℕ) (w : Word) → word_of name ≡ Some w → name ≡ word_text w
unfolding word_of
word_of-spelled name w h = lookup-text words name w refl h

none_found : (name : List ℕ) (o : Option Word) → word_of name ≡ o → ((w : Word) → name ≢ word_text w) → word_of name ≡ None
none_found name None e other = e
none_found name (Some w) e other = absurd (other w (word_of-spelled name w e))

pub word_of-none : (name : List ℕ) → ((w : Word) → name ≢ word_text w) → word_of name ≡ None
word_of-none name other = none_found name (word_of name) refl other

-- ---- marks

pub mark_of-text : (m : Mark) → mark_of (mark_text m) ≡ Some (m, length (mark_text m))
unfolding mark_of
mark_of-text mark.ShlAssign = refl
mark_of-text mark.ShrAssign = refl
mark_of-text mark.Ellipsis = refl
mark_of-text mark.Scope = refl
mark_of-text mark.Arrow = refl
mark_of-text mark.Increment = refl
mark_of-text mark.Decrement = refl
mark_of-text mark.Shl = refl
mark_of-text mark.Shr = refl
mark_of-text mark.LessEqual = refl
mark_of-text mark.GreaterEqual = refl
mark_of-text mark.Equal = refl
mark_of-text mark.NotEqual = refl
mark_of-text mark.AndAnd = refl
mark_of-text mark.OrOr = refl
mark_of-text mark.AddAssign = refl
mark_of-text mark.SubAssign = refl
mark_of-text mark.MulAssign = refl
mark_of-text mark.DivAssign = refl
mark_of-text mark.RemAssign = refl
mark_of-text mark.AndAssign = refl
mark_of-text mark.OrAssign = refl
mark_of-text mark.XorAssign = refl
mark_of-text mark.OpenBrace = refl
mark_of-text mark.CloseBrace = refl
mark_of-text mark.OpenParen = refl
mark_of-text mark.CloseParen = refl
mark_of-text mark.Semicolon = refl
mark_of-text mark.Colon = refl
mark_of-text mark.Comma = refl
mark_of-text mark.Dot = refl
mark_of-text mark.Question = refl
mark_of-text mark.Tilde = refl
mark_of-text mark.Not = refl
mark_of-text mark.Plus = refl
mark_of-text mark.Minus = refl
mark_of-text mark.Star = refl
mark_of-text mark.Slash = refl
mark_of-text mark.Percent = refl
mark_of-text mark.Less = refl
mark_of-text mark.Greater = refl
mark_of-text mark.Assign = refl
mark_of-text mark.And = refl
mark_of-text mark.Or = refl
mark_of-text mark.Xor = refl

abbrev answered : Mark × ℕ → Option (Mark × ℕ)
answered p = Some p

same_pair : (p q : Mark × ℕ) → answered p ≡ Some q → (p.0 ≡ q.0) × (p.1 ≡ q.1)
same_pair p q e = let k : p ≡ q = cc in (ap (λ r. r.0) k, ap (λ r. r.1) k)

is_among : List ℕ → List (List ℕ × Mark) → Bool
is_among text [] = false
is_among text (m ∷ ms) = bytes_eq m.0 text || is_among text ms

mark_text-among : (m : Mark) → is_among (mark_text m) marks ≡ true
unfolding is_among
mark_text-among mark.ShlAssign = refl
mark_text-among mark.ShrAssign = refl
mark_text-among mark.Ellipsis = refl
mark_text-among mark.Scope = refl
mark_text-among mark.Arrow = refl
mark_text-among mark.Increment = refl
mark_text-among mark.Decrement = refl
mark_text-among mark.Shl = refl
mark_text-among mark.Shr = refl
mark_text-among mark.LessEqual = refl
mark_text-among mark.GreaterEqual = refl
mark_text-among mark.Equal = refl
mark_text-among mark.NotEqual = refl
mark_text-among mark.AndAnd = refl
mark_text-among mark.OrOr = refl
mark_text-among mark.AddAssign = refl
mark_text-among mark.SubAssign = refl
mark_text-among mark.MulAssign = refl
mark_text-among mark.DivAssign = refl
mark_text-among mark.RemAssign = refl
mark_text-among mark.AndAssign = refl
mark_text-among mark.OrAssign = refl
mark_text-among mark.XorAssign = refl
mark_text-among mark.OpenBrace = refl
mark_text-among mark.CloseBrace = refl
mark_text-among mark.OpenParen = refl
mark_text-among mark.CloseParen = refl
mark_text-among mark.Semicolon = refl
mark_text-among mark.Colon = refl
mark_text-among mark.Comma = refl
mark_text-among mark.Dot = refl
mark_text-among mark.Question = refl
mark_text-among mark.Tilde = refl
mark_text-among mark.Not = refl
mark_text-among mark.Plus = refl
mark_text-among mark.Minus = refl
mark_text-among mark.Star = refl
mark_text-among mark.Slash = refl
mark_text-among mark.Percent = refl
mark_text-among mark.Less = refl
mark_text-among mark.Greater = refl
mark_text-among mark.Assign = refl
mark_text-among mark.And = refl
mark_text-among mark.Or = refl
mark_text-among mark.Xor = refl

is_falling : ℕ → List (List ℕ × Mark) → Bool
is_falling most [] = true
is_falling most (m ∷ ms) = leb (length m.0) most && is_falling (length m.0) ms

front_is : (z p : List ℕ) → starts_with nat_eq z p ≡ true → z ≡ p ++ drop (length p) z
front_is z p h = (starts_is Decides-eqb z p (starts_with nat_eq z p) refl).0 h

is_front : (z p rest : List ℕ) → z ≡ p ++ rest → starts_with nat_eq z p ≡ true
is_front z p rest e = (starts_is Decides-eqb z p (starts_with nat_eq z p) refl).1 rest e

either_of : (a b : Bool) → (a || b) ≡ true → (a ≡ true) ⊎ (b ≡ true)
either_of true b h = inl refl
either_of false b h = inr h

at_most : (a b : ℕ) → leb a b ≡ true → a ≤ b
at_most a b h = grind (arith, nat_tests)

under : (ms : List (List ℕ × Mark)) (most : ℕ) (text : List ℕ) → is_falling most ms ≡ true → is_among text ms ≡ true → length text ≤ most
unfolding is_falling is_among
under [] most text falls among = absurd (cc)
under (m ∷ ms) most text falls among =
    let f = both (leb (length m.0) most) (is_falling (length m.0) ms) falls in
    let short = at_most (length m.0) most f.0 in
    ⊎_elim (λ e. let k = ap length (same_bytes m.0 text e) in omega arith) (λ e. let k = under ms (length m.0) text f.1 e in omega arith) (either_of (bytes_eq m.0 text) (is_among text ms) among)

-- what the table answers is spelled so, and no longer mark stands there
abbrev Answers : List (List ℕ × Mark) → List ℕ → Mark → ℕ → Type 0
Answers ms z m n = (n ≡ length (mark_text m)) × (z ≡ mark_text m ++ drop n z) × ((text rest : List ℕ) → is_among text ms ≡ true → z ≡ text ++ rest → length text ≤ n)

front-at : (e : List ℕ × Mark) (ms : List (List ℕ × Mark)) (most : ℕ) (z : List ℕ) (m : Mark) (n : ℕ) (t : Bool) → starts_with nat_eq z e.0 ≡ t → e.0 ≡ mark_text e.1 → is_falling most (e ∷ ms) ≡ true → (front ms z ≡ Some (m, n) → Answers ms z m n) → cond t (Some (e.1, length e.0)) (front ms z) ≡ Some (m, n) → Answers (e ∷ ms) z m n
unfolding is_falling is_among
front-at e ms most z m n true same spelled falls later h =
    let pair = same_pair (e.1, length e.0) (m, n) h in
    let k : e.1 ≡ m = pair.0 in
    let len : length e.0 ≡ n = pair.1 in
    let text : e.0 ≡ mark_text m = spelled ∙ ap mark_text k in
    let whole : z ≡ e.0 ++ drop (length e.0) z = front_is z e.0 same in
    let f = both (leb (length e.0) most) (is_falling (length e.0) ms) falls in (
      sym len ∙ ap length text,
      whole ∙ (ap (λ w. w ++ drop (length e.0) z) text ∙ ap (λ i. mark_text m ++ drop i z) len),
      (λ other rest among is. ⊎_elim (λ q. let l = ap length (same_bytes e.0 other q) in omega arith) (λ q. let l = under ms (length e.0) other f.1 q in omega arith) (either_of (bytes_eq e.0 other) (is_among other ms) among)),
    )
front-at e ms most z m n false same spelled falls later h =
    let a = later h in (
      a.0,
      a.1,
      (λ other rest among is. ⊎_elim (λ q. let l : true ≡ false = sym (is_front z e.0 rest (is ∙ ap (λ w. w ++ rest) (sym (same_bytes e.0 other q)))) ∙ same in absurd (cc)) (λ q. a.2 other rest q is) (either_of (bytes_eq e.0 other) (is_among other ms) among)),
    )

front-answers : (ms : List (List ℕ × Mark)) (most : ℕ) (z : List ℕ) (m : Mark) (n : ℕ) → list_all (λ e. bytes_eq e.0 (mark_text e.1)) ms ≡ true → is_falling most ms ≡ true → front ms z ≡ Some (m, n) → Answers ms z m n
unfolding is_falling
front-answers [] most z m n all falls h = absurd (cc)
front-answers (e ∷ ms) most z m n all falls h =
    let k = both (bytes_eq e.0 (mark_text e.1)) (list_all (λ d. bytes_eq d.0 (mark_text d.1)) ms) all in
    let f = both (leb (length e.0) most) (is_falling (length e.0) ms) falls in
    front-at e ms most z m n (starts_with nat_eq z e.0) refl (same_bytes e.0 (mark_text e.1) k.0) falls (front-answers ms (length e.0) z m n k.1 f.1) h

mark_of-answers : (z : List ℕ) (m : Mark) (n : ℕ) → mark_of z ≡ Some (m, n) → Answers marks z m n
unfolding mark_of is_falling
mark_of-answers z m n h = front-answers marks 3 z m n refl refl h

-- the mark that is answered is the longest that the bytes begin with
pub mark_of-longest : (z : List ℕ) (m : Mark) (n : ℕ) → mark_of z ≡ Some (m, n) → (n ≡ length (mark_text m)) × (z ≡ mark_text m ++ drop n z) × ((k : Mark) (rest : List ℕ) → z ≡ mark_text k ++ rest → length (mark_text k) ≤ n)
mark_of-longest z m n h = let a = mark_of-answers z m n h in (a.0, a.1, (λ k rest e. a.2 (mark_text k) rest (mark_text-among k) e))

found-at : (e : List ℕ × Mark) (ms : List (List ℕ × Mark)) (z text rest : List ℕ) (t : Bool) → starts_with nat_eq z e.0 ≡ t → (is_among text ms ≡ true → z ≡ text ++ rest → front ms z ≡ None → ⊥) → (bytes_eq e.0 text || is_among text ms) ≡ true → z ≡ text ++ rest → cond t (Some (e.1, length e.0)) (front ms z) ≡ None → ⊥
found-at e ms z text rest true same later among is h = cc
found-at e ms z text rest false same later among is h =
    ⊎_elim (λ q. let l : true ≡ false = sym (is_front z e.0 rest (is ∙ ap (λ w. w ++ rest) (sym (same_bytes e.0 text q)))) ∙ same in cc) (λ q. later q is h) (either_of (bytes_eq e.0 text) (is_among text ms) among)

front-found : (ms : List (List ℕ × Mark)) (z text rest : List ℕ) → is_among text ms ≡ true → z ≡ text ++ rest → front ms z ≡ None → ⊥
unfolding is_among
front-found [] z text rest among is h = cc
front-found (e ∷ ms) z text rest among is h = found-at e ms z text rest (starts_with nat_eq z e.0) refl (front-found ms z text rest) among is h

same_mark : (m k : Mark) → mark_text m ≡ mark_text k → m ≡ k
same_mark m k e =
    (same_pair (m, length (mark_text m)) (k, length (mark_text k)) (sym (mark_of-text m) ∙ (ap mark_of e ∙ mark_of-text k))).0

same_front : (a b p q : List ℕ) → length a ≡ length b → a ++ p ≡ b ++ q → a ≡ b
same_front a b p q len e = sym (take_at a p (length a) refl) ∙ (ap (take (length a)) e ∙ take_at b q (length a) (sym len))

found_is : (z : List ℕ) (m : Mark) (rest : List ℕ) (o : Option (Mark × ℕ)) → mark_of z ≡ o → z ≡ mark_text m ++ rest → ((k : Mark) (more : List ℕ) → z ≡ mark_text k ++ more → length (mark_text k) ≤ length (mark_text m)) → mark_of z ≡ Some (m, length (mark_text m))
unfolding mark_of
found_is z m rest None e is longest = absurd (front-found marks z (mark_text m) rest (mark_text-among m) is e)
found_is z m rest (Some f) e is longest =
    let a = mark_of-longest z f.0 f.1 e in
    let up = a.2 m rest is in
    let down = longest f.0 (drop f.1 z) a.1 in
    let len : length (mark_text f.0) ≡ length (mark_text m) = omega arith in
    let text = same_front (mark_text f.0) (mark_text m) (drop f.1 z) rest len (sym a.1 ∙ is) in
    let k = same_mark f.0 m text in
    let n : f.1 ≡ length (mark_text m) = omega arith in
    e ∙ (ap (λ i. Some (i, f.1)) k ∙ ap (λ i. Some (m, i)) n)

-- the longest mark that the bytes begin with is the one answered
pub mark_of-found : (m : Mark) (rest : List ℕ) → ((k : Mark) (more : List ℕ) → mark_text m ++ rest ≡ mark_text k ++ more → length (mark_text k) ≤ length (mark_text m)) → mark_of (mark_text m ++ rest) ≡ Some (m, length (mark_text m))
mark_of-found m rest longest = found_is (mark_text m ++ rest) m rest (mark_of (mark_text m ++ rest)) refl refl longest

-- ---- headers

header_name-angled : (name rest : List ℕ) → IsHeaderName name → header_len ((60 ∷ (name ++ 62 ∷ [])) ++ rest) ≡ length (60 ∷ (name ++ 62 ∷ []))
unfolding header_len
header_name-angled name rest coroutine = refl
header_name-angled name rest utility = refl
header_name-angled name rest atomic = refl
header_name-angled name rest exception = refl
header_name-angled name rest cstddef = refl
header_name-angled name rest corun_h = refl

header_name-quoted : (name rest : List ℕ) → IsHeaderName name → header_len ((34 ∷ (name ++ 34 ∷ [])) ++ rest) ≡ length (34 ∷ (name ++ 34 ∷ []))
unfolding header_len
header_name-quoted name rest coroutine = refl
header_name-quoted name rest utility = refl
header_name-quoted name rest atomic = refl
header_name-quoted name rest exception = refl
header_name-quoted name rest cstddef = refl
header_name-quoted name rest corun_h = refl

pub header_len-front : (h rest : List ℕ) → IsHeader h → header_len (h ++ rest) ≡ length h
header_len-front h rest (angled name n) = header_name-angled name rest n
header_len-front h rest (quoted name n) = header_name-quoted name rest n

abbrev AllHeaders : List (List ℕ) → Type 0
AllHeaders [] = Unit {0}
AllHeaders (h ∷ hs) = IsHeader h × (AllHeaders hs)

listed-at : (h z : List ℕ) (hs : List (List ℕ)) (t : Bool) → starts_with nat_eq z h ≡ t → IsHeader h → (front_len hs z ≢ 0 → IsHeader (take (front_len hs z) z)) → cond t (length h) (front_len hs z) ≢ 0 → IsHeader (take (cond t (length h) (front_len hs z)) z)
listed-at h z hs true same is later some = let e : h ≡ take (length h) z = sym (ap (take (length h)) (front_is z h same) ∙ take_at h (drop (length h) z) (length h) refl) in subst IsHeader e is
listed-at h z hs false same is later some = later some

listed : (hs : List (List ℕ)) (z : List ℕ) → AllHeaders hs → front_len hs z ≢ 0 → IsHeader (take (front_len hs z) z)
listed [] z all some = absurd (some refl)
listed (h ∷ hs) z all some = listed-at h z hs (starts_with nat_eq z h) refl all.0 (listed hs z all.1) some

pub header_len-listed : (z : List ℕ) → header_len z ≢ 0 → IsHeader (take (header_len z) z)
unfolding header_len
header_len-listed z some = listed headers z (angled (codes "coroutine") coroutine, (quoted (codes "coroutine") coroutine, (angled (codes "utility") utility, (quoted (codes "utility") utility, (angled (codes "atomic") atomic, (quoted (codes "atomic") atomic, (angled (codes "exception") exception, (quoted (codes "exception") exception, (angled (codes "cstddef") cstddef, (quoted (codes "cstddef") cstddef, (angled (codes "corun.h") corun_h, (quoted (codes "corun.h") corun_h, tt)))))))))))) some
