-- What is read off the front of a list of tokens, and the steps that every rule is made of.
use Rattle.std.specs.Prelude.{◌≡◌, ℕ, zero, suc, Bool, true, false, not, ◌&&◌, if◌then◌else◌, nat_eq, List, [], ◌∷◌, ◌++◌, length, drop, Option, Some, None, Result, Ok, Err, codes}
use Rattle.std.specs.Str.{bytes_eq}
use Rattle.co_base.specs.declared.span.Span.{Span}
use Rattle.co_lex.specs.declared.token.Token.{Token}
use Rattle.co_lex.specs.declared.token.TokenKind.{TokenKind}
use Rattle.co_lex.specs.declared.token.TokenKind.TheVariants as kind
use Rattle.co_lex.specs.declared.token.Mark.{Mark}
use Rattle.co_lex.specs.declared.token.Mark.TheVariants as mark
use Rattle.co_lex.specs.declared.token.Word.{Word}
use Rattle.co_rules.specs.Pattern.{mark_number, word_number}
use Rattle.co_reader.specs.declared.fault.ReadFault.{ReadFault}
use Rattle.co_reader.specs.declared.fault.ReadFault.TheVariants.{Refused, NoMemory}
use Rattle.co_reader.specs.declared.lead.Lead.{Lead}
use Rattle.co_reader.specs.declared.lead.Lead.TheVariants as l

-- a part and the tokens behind it, or none
abbrev pub Read : Type 0 → Type 0
Read A = Option (A × List Token)

abbrev pub Reader : Type 0 → Type 0
Reader A = List Token → Read A

abbrev pub and_then : {A B : Type 0} → Read A → (A → Reader B) → Read B
and_then None f = None
and_then (Some p) f = f p.0 p.1

infixl 10 ◌>>=◌
abbrev pub ◌>>=◌ : {A B : Type 0} → Reader A → (A → Reader B) → Reader B
p >>= f = λ ts. and_then (p ts) f

infixl 10 ◌>>◌
abbrev pub ◌>>◌ : {A B : Type 0} → Reader A → Reader B → Reader B
p >> q = p >>= (λ _. q)

abbrev pub pure : {A : Type 0} → A → Reader A
pure a = λ ts. Some (a, ts)

infixr 11 ◌<$>◌
abbrev pub ◌<$>◌ : {A B : Type 0} → (A → B) → Reader A → Reader B
f <$> p = p >>= (λ x. pure (f x))

abbrev pub refuse : {A : Type 0} → Reader A
refuse = λ ts. None

-- a part that is known, if there is one
abbrev pub given : {A : Type 0} → Option A → Reader A
given None = refuse
given (Some a) = pure a

-- ---- the next token

-- what a token is, but for its text
abbrev pub lead_of : TokenKind → Lead
lead_of (kind.Name text) = l.Name
lead_of (kind.Word w) = l.Word w
lead_of (kind.Int num value) = l.Int num value
lead_of (kind.Lit text) = l.Text
lead_of (kind.Mark m) = l.Mark m
lead_of kind.End = l.End

abbrev pub lead : List Token → Lead
lead [] = l.End
lead (t ∷ ts) = lead_of t.kind

abbrev pub lead_after : List Token → Lead
lead_after [] = l.End
lead_after (t ∷ ts) = lead ts

abbrev pub place : List Token → Span
place [] = record { line = 0; col = 0 }
place (t ∷ ts) = t.span

abbrev pub here : Reader Span
here = λ ts. Some (place ts, ts)

abbrev pub rest : List Token → List Token
rest [] = []
rest (t ∷ ts) = ts

-- the next token is passed over
abbrev pub pass : Reader (Unit {0})
pass = λ ts. Some (tt, rest ts)

abbrev pub is_mark : Mark → Lead → Bool
is_mark m (l.Mark other) = nat_eq (mark_number other) (mark_number m)
is_mark m _ = false

abbrev pub is_word : Word → Lead → Bool
is_word w (l.Word other) = nat_eq (word_number other) (word_number w)
is_word w _ = false

unfoldable pub sees : Mark → List Token → Bool
sees m ts = is_mark m (lead ts)

unfoldable pub after : Mark → List Token → List Token
after m ts = if sees m ts then rest ts else ts

-- takes the mark, if it comes next
abbrev pub eat : Mark → Reader Bool
eat m = λ ts. Some (sees m ts, after m ts)

unfoldable pub expect : Mark → Reader (Unit {0})
expect m = λ ts. if sees m ts then Some (tt, rest ts) else None

unfoldable pub sees_word : Word → List Token → Bool
sees_word w ts = is_word w (lead ts)

unfoldable pub after_word : Word → List Token → List Token
after_word w ts = if sees_word w ts then rest ts else ts

abbrev pub eat_word : Word → Reader Bool
eat_word w = λ ts. Some (sees_word w ts, after_word w ts)

unfoldable pub expect_word : Word → Reader (Unit {0})
expect_word w = λ ts. if sees_word w ts then Some (tt, rest ts) else None

-- ---- names and texts

abbrev pub text_of : TokenKind → Option (List ℕ)
text_of (kind.Name text) = Some text
text_of _ = None

-- whatever name comes next
unfoldable pub any_name : Reader (List ℕ)
any_name [] = None
any_name (t ∷ ts) = given (text_of t.kind) ts

-- whether a file may declare it
unfoldable pub is_name : List ℕ → Bool
is_name text = not (bytes_eq text (codes "std")) && not (bytes_eq text (codes "corun"))

abbrev pub named : List ℕ → Reader (List ℕ)
named text = if is_name text then pure text else refuse

-- a NAME
unfoldable pub name : Reader (List ℕ)
name = any_name >>= named

-- the name that comes next is this one
abbrev pub is_text : List ℕ → TokenKind → Bool
is_text text (kind.Name other) = bytes_eq other text
is_text text _ = false

unfoldable pub spells : List ℕ → List Token → Bool
spells text [] = false
spells text (t ∷ ts) = is_text text t.kind

abbrev pub literal_of : TokenKind → Option (List ℕ)
literal_of (kind.Lit text) = Some text
literal_of _ = None

-- a text literal
unfoldable pub text_literal : Reader (List ℕ)
text_literal [] = None
text_literal (t ∷ ts) = given (literal_of t.kind) ts

-- ---- what a function that reads ensures: what is told, unless memory runs out

abbrev pub Reads : {A : Type 0} → Read A → Result A ReadFault → List Token → Type 0
Reads told (Ok a) new = told ≡ Some (a, new)
Reads told (Err Refused) new = told ≡ None
Reads told (Err NoMemory) new = Unit {0}
