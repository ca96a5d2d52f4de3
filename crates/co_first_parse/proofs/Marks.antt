-- What the cursor takes, as an equation on the tokens.
use Rattle.std.proofs.Common.{◌≡◌, ℕ, Bool, true, false, cond, nat_eq, List, [], ◌∷◌, Option, Some, None, refl, sym, ap, subst, ◌∙◌}
use Rattle.std.proofs.lemmas.Bool.{false≢true, eqb-true, eq-eqb}
use Rattle.co_base.specs.declared.span.Span.{Span}
use Rattle.co_first_parse.specs.declared.token.Mark.{Mark}
use Rattle.co_first_parse.specs.declared.token.Mark.TheVariants as m
use Rattle.co_first_parse.specs.declared.token.Kind.{Kind}
use Rattle.co_first_parse.specs.declared.token.Kind.TheVariants.{Fixed, Name, Number}
use Rattle.co_first_parse.specs.declared.token.Token.{Token}
use Rattle.co_first_parse.specs.Spelling.{token}
use Rattle.co_first_parse.specs.Grammar.{sign}
use Rattle.co_first_parse.specs.Parse.{rank, is_mark, take_mark, take_name, named, and_rest, ◌>>=◌}
use Rattle.co_first_parse.specs.Place.{is_zero}

-- the first step of a chain
pub bound : {A B : Type 0} (found : Option A) (f : A → Option B) (b : B) → (found >>= f) ≡ Some b → (a : A) × (found ≡ Some a) × (f a ≡ Some b)
bound None f b h = absurd cc
bound (Some a) f b h = (a, refl, h)

pub chosen : {A : Type 0} (b : Bool) (found : Option A) (a : A) → cond b found None ≡ Some a → (b ≡ true) × (found ≡ Some a)
chosen true found a h = (refl, h)
chosen false found a h = absurd cc

by_rank : ℕ → Mark
by_rank n =
    cond (nat_eq n 0) m.Int (cond (nat_eq n 1) m.Main (cond (nat_eq n 2) m.Return (cond (nat_eq n 3) m.Long (cond (nat_eq n 4) m.While (cond (nat_eq n 5) m.Corun
    (cond (nat_eq n 6) m.OpenParenthesis (cond (nat_eq n 7) m.CloseParenthesis (cond (nat_eq n 8) m.OpenBrace (cond (nat_eq n 9) m.CloseBrace (cond (nat_eq n 10) m.Semicolon
    (cond (nat_eq n 11) m.Assign (cond (nat_eq n 12) m.Plus (cond (nat_eq n 13) m.Minus m.Scope)))))))))))))

ranked : (mark : Mark) → by_rank (rank mark) ≡ mark
unfolding by_rank
ranked m.Int = refl
ranked m.Main = refl
ranked m.Return = refl
ranked m.Long = refl
ranked m.While = refl
ranked m.Corun = refl
ranked m.OpenParenthesis = refl
ranked m.CloseParenthesis = refl
ranked m.OpenBrace = refl
ranked m.CloseBrace = refl
ranked m.Semicolon = refl
ranked m.Assign = refl
ranked m.Plus = refl
ranked m.Minus = refl
ranked m.Scope = refl

pub mark_is : (mark : Mark) (kind : Kind) → is_mark mark kind ≡ true → kind ≡ Fixed mark
mark_is mark (Fixed other) h = ap Fixed (sym (ranked other) ∙ (ap by_rank (eqb-true (rank other) (rank mark) h) ∙ ranked mark))
mark_is mark (Name name) h = absurd (false≢true h)
mark_is mark (Number value) h = absurd (false≢true h)

pub is_its_mark : (mark : Mark) → is_mark mark (Fixed mark) ≡ true
is_its_mark mark = eq-eqb (rank mark) (rank mark) refl

pub mark_taken : (mark : Mark) (tokens rest : List Token) → take_mark mark tokens ≡ Some rest → (at : Span) × (tokens ≡ sign mark at ∷ rest)
unfolding take_mark
mark_taken mark [] rest h = absurd cc
mark_taken mark (first ∷ tokens) rest h =
    let c = chosen (is_mark mark first.kind) (Some tokens) rest h in
    let e : tokens ≡ rest = (let s = c.1 in cc) in
    (first.span, ap (λ k. token k first.span ∷ tokens) (mark_is mark first.kind c.0) ∙ ap (λ ts. sign mark first.span ∷ ts) e)

pub mark_takes : (mark : Mark) (at : Span) (rest : List Token) → take_mark mark (sign mark at ∷ rest) ≡ Some rest
unfolding take_mark
mark_takes mark at rest = ap (λ b. cond b (Some rest) None) (is_its_mark mark)

named_is : (kind : Kind) (at : Span) (name : List ℕ) (tokens rest : List Token) → and_rest (named kind) tokens ≡ Some (name, rest) → (at' : Span) × (token kind at ∷ tokens ≡ token (Name name) at' ∷ rest)
named_is (Fixed mark) at name tokens rest h = absurd cc
named_is (Number value) at name tokens rest h = absurd cc
named_is (Name other) at name tokens rest h =
    let e : ◌≡◌ {A = List ℕ × List Token} (other, tokens) (name, rest) = cc in
    (at, ap (λ p. token (Name p.0) at ∷ p.1) e)

pub name_taken : (name : List ℕ) (tokens rest : List Token) → take_name tokens ≡ Some (name, rest) → (at : Span) × (tokens ≡ token (Name name) at ∷ rest)
unfolding take_name
name_taken name [] rest h = absurd cc
name_taken name (first ∷ tokens) rest h = named_is first.kind first.span name tokens rest h

pub name_takes : (name : List ℕ) (at : Span) (rest : List Token) → take_name (token (Name name) at ∷ rest) ≡ Some (name, rest)
unfolding take_name
name_takes name at rest = refl

pub zero_is : (kind : Kind) → is_zero kind ≡ true → kind ≡ Number 0
zero_is (Number value) h = ap Number (eqb-true value 0 h)
zero_is (Name name) h = absurd (false≢true h)
zero_is (Fixed mark) h = absurd (false≢true h)
