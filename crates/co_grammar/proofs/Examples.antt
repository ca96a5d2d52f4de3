-- A token for each pattern.
use Rattle.std.proofs.Common.{◌≡◌, ℕ, zero, suc, ◌+◌, ◌<◌, Bool, true, false, not, ◌&&◌, ◌||◌, cond, nat_eq, List, [], ◌∷◌, ◌++◌, length, codes, refl, sym, ap, ◌∙◌, arith}
use Rattle.std.specs.Str.{bytes_eq}
use Rattle.std.proofs.lemmas.Slice.Eq.{bytes_eq-Decides}
use Rattle.co_lex.specs.declared.token.Mark.TheVariants as mark
use Rattle.co_lex.specs.declared.token.Token.{Token}
use Rattle.co_lex.specs.declared.token.TokenKind.{TokenKind}
use Rattle.co_lex.specs.declared.token.TokenKind.TheVariants as kind
use Rattle.co_lex.specs.declared.token.Word.TheVariants as word
use Rattle.co_rules.specs.declared.symbol.Known.{Known}
use Rattle.co_rules.specs.declared.symbol.Known.TheVariants as known_name
use Rattle.co_rules.specs.declared.symbol.Pattern.{Pattern}
use Rattle.co_rules.specs.declared.symbol.Pattern.TheVariants as pattern
use Rattle.co_rules.specs.declared.symbol.Terminal.TheVariants as terminal
use Rattle.co_rules.specs.Names.{known, is_class, has_some, named, introduces, classes_from}
use Rattle.co_rules.specs.Pattern.{admits, is_plain, word_number, mark_number, known_number}
use Rattle.co_rules.specs.Terminal.{terminal_of, terminals}
use Rattle.co_grammar.proofs.Live.{Suits, is_class_name}
use Rattle.co_grammar.proofs.Lives.{fits_classes}
use Rattle.co_rules.proofs.Sets.{never, true_eq, or_left}

-- ---- a name that is of no class: longer than each of them

abbrev pub letters : ℕ → List ℕ
letters zero = []
letters (suc n) = 113 ∷ letters n

abbrev pub longest : List (List ℕ) → ℕ
longest [] = 0
longest (c ∷ cs) = length c + longest cs

abbrev pub fresh : List (List ℕ) → List ℕ
fresh names = letters (suc (longest names))

length-letters : (n : ℕ) → length (letters n) ≡ n
length-letters zero = refl
length-letters (suc n) = ap suc (length-letters n)

differs : (b : Bool) → (b ≡ true → ⊥) → b ≡ false
differs true h = absurd (h refl)
differs false h = refl

longer : (n : ℕ) (names : List (List ℕ)) → longest names < n → is_class names (letters n) ≡ false
longer n [] h = refl
longer n (c ∷ cs) h =
    let other : bytes_eq (letters n) c ≡ false = differs (bytes_eq (letters n) c) (λ e. let same = ap length ((bytes_eq-Decides (letters n) c).0 e) in let len = length-letters n in omega (arith, same, len, h)) in
    ap (λ b. b || is_class cs (letters n)) other ∙ longer n cs (omega (arith, h))

fresh-other : (names : List (List ℕ)) → is_class names (fresh names) ≡ false
fresh-other names = longer (suc (longest names)) names (omega arith)

fresh-known : (names : List (List ℕ)) → known (fresh names) ≡ known_name.Other
unfolding known
fresh-known names = refl

-- ---- the spelling of each name that the grammar spells

abbrev pub spelling : Known → List ℕ
spelling known_name.Other = letters 1
spelling known_name.SizeT = codes "size_t"
spelling known_name.ExceptionPtr = codes "exception_ptr"
spelling known_name.SuspendAlways = codes "suspend_always"
spelling known_name.SuspendNever = codes "suspend_never"
spelling known_name.CoroutineHandle = codes "coroutine_handle"
spelling known_name.Atomic = codes "atomic"
spelling known_name.Move = codes "move"
spelling known_name.Exchange = codes "exchange"
spelling known_name.NoopCoroutine = codes "noop_coroutine"
spelling known_name.Terminate = codes "terminate"
spelling known_name.CurrentException = codes "current_exception"
spelling known_name.RethrowException = codes "rethrow_exception"
spelling known_name.Text = codes "text"
spelling known_name.Print = codes "print"
spelling known_name.Post = codes "post"
spelling known_name.Input = codes "input"
spelling known_name.Inputs = codes "inputs"
spelling known_name.FromAddress = codes "from_address"
spelling known_name.FromPromise = codes "from_promise"
spelling known_name.Std = codes "std"
spelling known_name.Corun = codes "corun"

known-spelling : (k : Known) → known (spelling k) ≡ k
unfolding known
known-spelling known_name.Other = refl
known-spelling known_name.SizeT = refl
known-spelling known_name.ExceptionPtr = refl
known-spelling known_name.SuspendAlways = refl
known-spelling known_name.SuspendNever = refl
known-spelling known_name.CoroutineHandle = refl
known-spelling known_name.Atomic = refl
known-spelling known_name.Move = refl
known-spelling known_name.Exchange = refl
known-spelling known_name.NoopCoroutine = refl
known-spelling known_name.Terminate = refl
known-spelling known_name.CurrentException = refl
known-spelling known_name.RethrowException = refl
known-spelling known_name.Text = refl
known-spelling known_name.Print = refl
known-spelling known_name.Post = refl
known-spelling known_name.Input = refl
known-spelling known_name.Inputs = refl
known-spelling known_name.FromAddress = refl
known-spelling known_name.FromPromise = refl
known-spelling known_name.Std = refl
known-spelling known_name.Corun = refl

-- ---- a token for each pattern

abbrev pub first_of : List (List ℕ) → List ℕ
first_of [] = []
first_of (c ∷ cs) = c

abbrev pub example : List (List ℕ) → Pattern → TokenKind
example names (pattern.Keyword w) = kind.Word w
example names (pattern.Punctuator m) = kind.Mark m
example names (pattern.Spelled k) = kind.Name (spelling k)
example names pattern.UnaryOperator = kind.Mark mark.Plus
example names pattern.BinaryOperator = kind.Mark mark.Plus
example names pattern.Assignment = kind.Mark mark.Assign
example names pattern.Increment = kind.Mark mark.Increment
example names pattern.Access = kind.Mark mark.Dot
example names pattern.ReferenceMark = kind.Mark mark.And
example names pattern.Literal = kind.Word word.True
example names pattern.BuiltinType = kind.Word word.Int
example names pattern.AccessSpecifier = kind.Word word.Public
example names pattern.ClassKey = kind.Word word.Struct
example names pattern.FunctionSpecifier = kind.Word word.Static
example names pattern.LibraryObject = kind.Name (spelling known_name.SizeT)
example names pattern.LibraryFunction = kind.Name (spelling known_name.Move)
example names pattern.HandleFunction = kind.Name (spelling known_name.FromAddress)
example names pattern.RunFunction = kind.Name (spelling known_name.Print)
example names pattern.Name = kind.Name (fresh names)
example names pattern.ClassName = kind.Name (first_of names)
example names pattern.OtherName = kind.Name (fresh names)
example names pattern.Allocation = kind.Word word.New
example names pattern.OperatorName = kind.Word word.New
example names pattern.NewMark = kind.Mark mark.Star
example names pattern.Text = kind.Lit []
example names pattern.End = kind.End

-- each name may be declared
abbrev pub ArePlain : List (List ℕ) → Type 0
ArePlain [] = Unit {0}
ArePlain (c ∷ cs) = (is_plain (known c) ≡ true) × ArePlain cs

by_known : (p : Pattern) (is_class : Bool) (k j : Known) → j ≡ k → admits p (terminal.Name is_class k) ≡ true → admits p (terminal.Name is_class j) ≡ true
by_known p is_class k j e h = ap (λ x. admits p (terminal.Name is_class x)) e ∙ h

some_then : (b : Bool) → (b || false) ≡ true → b ≡ true
some_then true h = refl
some_then false h = never h

self : (n : ℕ) → (nat_eq n n || false) ≡ true
self n = or_left (nat_eq n n) false (true_eq n n refl)

bytes_self : (xs : List ℕ) → bytes_eq xs xs ≡ true
bytes_self xs = (bytes_eq-Decides xs xs).1 refl

spelled : (is_class : Bool) (k : Known) → admits (pattern.Spelled k) (terminal.Name is_class k) ≡ true
unfolding admits
spelled is_class k = self (known_number k)

class-name : (names : List (List ℕ)) → has_some names ≡ true → ArePlain names → admits pattern.ClassName (terminal.Name (is_class names (first_of names)) (known (first_of names))) ≡ true
unfolding admits
class-name [] h p = never h
class-name (c ∷ cs) h p = ap (λ b. (b || is_class cs c) && is_plain (known c)) (bytes_self c) ∙ p.0

pub example-admits : (names : List (List ℕ)) → ArePlain names → (p : Pattern) → fits_classes (has_some names) p ≡ true → admits p (terminal_of names (example names p)) ≡ true
unfolding admits
example-admits names a (pattern.Keyword w) h = self (word_number w)
example-admits names a (pattern.Punctuator m) h = self (mark_number m)
example-admits names a (pattern.Spelled k) h = by_known (pattern.Spelled k) (is_class names (spelling k)) k (known (spelling k)) (known-spelling k) (spelled (is_class names (spelling k)) k)
example-admits names a pattern.UnaryOperator h = refl
example-admits names a pattern.BinaryOperator h = refl
example-admits names a pattern.Assignment h = refl
example-admits names a pattern.Increment h = refl
example-admits names a pattern.Access h = refl
example-admits names a pattern.ReferenceMark h = refl
example-admits names a pattern.Literal h = refl
example-admits names a pattern.BuiltinType h = refl
example-admits names a pattern.AccessSpecifier h = refl
example-admits names a pattern.ClassKey h = refl
example-admits names a pattern.FunctionSpecifier h = refl
example-admits names a pattern.LibraryObject h = by_known pattern.LibraryObject (is_class names (spelling known_name.SizeT)) known_name.SizeT (known (spelling known_name.SizeT)) (known-spelling known_name.SizeT) refl
example-admits names a pattern.LibraryFunction h = by_known pattern.LibraryFunction (is_class names (spelling known_name.Move)) known_name.Move (known (spelling known_name.Move)) (known-spelling known_name.Move) refl
example-admits names a pattern.HandleFunction h = by_known pattern.HandleFunction (is_class names (spelling known_name.FromAddress)) known_name.FromAddress (known (spelling known_name.FromAddress)) (known-spelling known_name.FromAddress) refl
example-admits names a pattern.RunFunction h = by_known pattern.RunFunction (is_class names (spelling known_name.Print)) known_name.Print (known (spelling known_name.Print)) (known-spelling known_name.Print) refl
example-admits names a pattern.Name h = by_known pattern.Name (is_class names (fresh names)) known_name.Other (known (fresh names)) (fresh-known names) refl
example-admits names a pattern.ClassName h = class-name names (some_then (has_some names) h) a
example-admits names a pattern.OtherName h =
    by_known pattern.OtherName (is_class names (fresh names)) known_name.Other (known (fresh names)) (fresh-known names) (ap (λ b. not b && is_plain known_name.Other) (fresh-other names))
example-admits names a pattern.Allocation h = refl
example-admits names a pattern.OperatorName h = refl
example-admits names a pattern.NewMark h = refl
example-admits names a pattern.Text h = refl
example-admits names a pattern.End h = refl

-- ---- the names of classes may be declared, and without any nothing is seen as one

plain-append : (xs ys : List (List ℕ)) → ArePlain xs → ArePlain ys → ArePlain (xs ++ ys)
plain-append [] ys x y = y
plain-append (c ∷ xs) ys x y = (x.0, plain-append xs ys x.1 y)

plain-if : (b : Bool) (c : List ℕ) → b ≡ is_plain (known c) → ArePlain (cond b (c ∷ []) [])
plain-if true c e = (sym e, tt)
plain-if false c e = tt

plain-named : (b : Bool) (k : TokenKind) → ArePlain (named b k)
plain-named true (kind.Name text) = plain-if (is_plain (known text)) text refl
plain-named false (kind.Name text) = tt
plain-named true (kind.Word w) = tt
plain-named false (kind.Word w) = tt
plain-named true (kind.Int num value) = tt
plain-named false (kind.Int num value) = tt
plain-named true (kind.Lit text) = tt
plain-named false (kind.Lit text) = tt
plain-named true (kind.Mark m) = tt
plain-named false (kind.Mark m) = tt
plain-named true kind.End = tt
plain-named false kind.End = tt

pub plain-classes : (b : Bool) (tokens : List Token) → ArePlain (classes_from b tokens)
plain-classes b [] = tt
plain-classes b (t ∷ ts) = plain-append (named b t.kind) (classes_from (introduces t.kind) ts) (plain-named b t.kind) (plain-classes (introduces t.kind) ts)

no_class : (k : TokenKind) → not (is_class_name (terminal_of [] k)) ≡ true
no_class (kind.Name text) = refl
no_class (kind.Word w) = refl
no_class (kind.Int num value) = refl
no_class (kind.Lit text) = refl
no_class (kind.Mark m) = refl
no_class kind.End = refl

pub suits-terminals : (names : List (List ℕ)) (tokens : List Token) → Suits (has_some names) (terminals names tokens)
suits-terminals names [] = tt
suits-terminals [] (t ∷ ts) = (no_class t.kind, suits-terminals [] ts)
suits-terminals (c ∷ cs) (t ∷ ts) = (refl, suits-terminals (c ∷ cs) ts)
