-- Which token a pattern admits.
use Rattle.std.proofs.Common.{◌≡◌, ℕ, Bool, true, false, not, ◌&&◌, ◌||◌, cond, nat_eq, List, [], ◌∷◌, map, codes, refl, sym, ap, ◌∙◌, subst, ◌⊎◌, inl, inr}
use Rattle.std.specs.Prelude.{slice_index_or}
use Rattle.std.specs.Str.{bytes_eq}
use Rattle.std.proofs.lemmas.Slice.Eq.{bytes_eq-Decides}
use Rattle.co_base.specs.declared.span.Span.{Span}
use Rattle.co_lex.specs.declared.token.Token.{Token}
use Rattle.co_lex.specs.declared.token.TokenKind.{TokenKind}
use Rattle.co_lex.specs.declared.token.TokenKind.TheVariants as kind
use Rattle.co_lex.specs.declared.token.Mark.{Mark}
use Rattle.co_lex.specs.declared.token.Word.{Word}
use Rattle.co_rules.specs.declared.names.TheConstants.{SPELLINGS}
use Rattle.co_rules.specs.declared.symbol.Known.{Known}
use Rattle.co_rules.specs.declared.symbol.Known.TheVariants as known_name
use Rattle.co_rules.specs.declared.symbol.Pattern.{Pattern}
use Rattle.co_rules.specs.declared.symbol.Pattern.TheVariants as pattern
use Rattle.co_rules.specs.declared.symbol.Symbol.{Symbol}
use Rattle.co_rules.specs.declared.symbol.Symbol.TheVariants.{Token as Terminal}
use Rattle.co_rules.specs.Names.{known, lookup, is_class, has_some}
use Rattle.co_rules.specs.Pattern.{admits, is_plain, known_number}
use Rattle.co_rules.specs.Terminal.{terminal_of}
use Rattle.co_rules.specs.declared.symbol.Terminal.TheVariants as terminal
use Rattle.co_rules.proofs.Sets.{never, eq_true, and_split}
use Rattle.co_tree.specs.Formed.{IsName}
use Rattle.co_reader.specs.Reading.{is_name}
use Rattle.co_reads.specs.Runs.{Runs, token}
use Rattle.co_reads.proofs.Same.{same_mark, same_word}

first_true : (b : Bool) → (b || false) ≡ true → b ≡ true
first_true true h = refl
first_true false h = never h

-- ---- marks and words

pub mark_kind : (C : List (List ℕ)) (m : Mark) (k : TokenKind) → admits (pattern.Punctuator m) (terminal_of C k) ≡ true → k ≡ kind.Mark m
unfolding admits
mark_kind C m (kind.Mark v) h = ap kind.Mark (sym (same_mark m v (first_true _ h)))
mark_kind C m (kind.Name text) h = never h
mark_kind C m (kind.Word w) h = never h
mark_kind C m (kind.Int num value) h = never h
mark_kind C m (kind.Lit text) h = never h
mark_kind C m kind.End h = never h

pub word_kind : (C : List (List ℕ)) (w : Word) (k : TokenKind) → admits (pattern.Keyword w) (terminal_of C k) ≡ true → k ≡ kind.Word w
unfolding admits
word_kind C w (kind.Word v) h = ap kind.Word (sym (same_word w v (first_true _ h)))
word_kind C w (kind.Name text) h = never h
word_kind C w (kind.Mark m) h = never h
word_kind C w (kind.Int num value) h = never h
word_kind C w (kind.Lit text) h = never h
word_kind C w kind.End h = never h

-- a mark comes first
pub data Marked (C : List (List ℕ)) (m : Mark) (R : List Symbol) : List Token → Type 0 where
  marked : (at : Span) (ts : List Token) → Runs C R ts → Marked C m R (record { kind = kind.Mark m; span = at } ∷ ts)

pub mark_first : {C : List (List ℕ)} {m : Mark} {R : List Symbol} {ts : List Token} → Runs C (Terminal (pattern.Punctuator m) ∷ R) ts → Marked C m R ts
mark_first {C} {m} (token p R t ts a few r) = subst (λ k. Marked C m R (record { kind = k; span = t.span } ∷ ts)) (sym (mark_kind C m t.kind a)) (marked t.span ts r)

-- a word comes first
pub data Worded (C : List (List ℕ)) (w : Word) (R : List Symbol) : List Token → Type 0 where
  worded : (at : Span) (ts : List Token) → Runs C R ts → Worded C w R (record { kind = kind.Word w; span = at } ∷ ts)

pub word_first : {C : List (List ℕ)} {w : Word} {R : List Symbol} {ts : List Token} → Runs C (Terminal (pattern.Keyword w) ∷ R) ts → Worded C w R ts
word_first {C} {w} (token p R t ts a few r) = subst (λ k. Worded C w R (record { kind = k; span = t.span } ∷ ts)) (sym (word_kind C w t.kind a)) (worded t.span ts r)

-- ---- names

-- the names that the grammar spells
abbrev pub spelling : Known → List ℕ
spelling known_name.Other = []
spelling known_name.SizeT = codes "size_t"
spelling known_name.ExceptionPtr = codes "exception_ptr"
spelling known_name.SuspendAlways = codes "suspend_always"
spelling known_name.SuspendNever = codes "suspend_never"
spelling known_name.CoroutineHandle = codes "coroutine_handle"
spelling known_name.Atomic = codes "atomic"
spelling known_name.Move = codes "move"
spelling known_name.Exchange = codes "exchange"
spelling known_name.NoopCoroutine = codes "noop_coroutine"
spelling known_name.Terminate = codes "terminate"
spelling known_name.CurrentException = codes "current_exception"
spelling known_name.RethrowException = codes "rethrow_exception"
spelling known_name.Text = codes "text"
spelling known_name.Print = codes "print"
spelling known_name.Post = codes "post"
spelling known_name.Input = codes "input"
spelling known_name.Inputs = codes "inputs"
spelling known_name.FromAddress = codes "from_address"
spelling known_name.FromPromise = codes "from_promise"
spelling known_name.Std = codes "std"
spelling known_name.Corun = codes "corun"

abbrev IsSpelled : List (List ℕ × Known) → Type 0
IsSpelled [] = Unit {0}
IsSpelled (w ∷ ws) = (w.0 ≡ spelling w.1) × IsSpelled ws

found : (b : Bool) (w : List ℕ × Known) (o : Known) (text : List ℕ) → (b ≡ true → w.0 ≡ text) → w.0 ≡ spelling w.1 → (o ≡ known_name.Other) ⊎ (text ≡ spelling o) → (cond b w.1 o ≡ known_name.Other) ⊎ (text ≡ spelling (cond b w.1 o))
found true w o text same e h = inr (sym (same refl) ∙ e)
found false w o text same e h = h

looked_up : (ws : List (List ℕ × Known)) (text : List ℕ) → IsSpelled ws → (lookup ws text ≡ known_name.Other) ⊎ (text ≡ spelling (lookup ws text))
looked_up [] text h = inl refl
looked_up (w ∷ ws) text h = found (bytes_eq w.0 text) w (lookup ws text) text (λ e. (bytes_eq-Decides w.0 text).0 e) h.0 (looked_up ws text h.1)

spelled_so : (text : List ℕ) → (known text ≡ known_name.Other) ⊎ (text ≡ spelling (known text))
unfolding known
spelled_so text = looked_up (map (λ k. (k.0.now, k.1)) SPELLINGS) text (refl, (refl, (refl, (refl, (refl, (refl, (refl, (refl, (refl, (refl, (refl, (refl, (refl, (refl, (refl, (refl, (refl, (refl, (refl, (refl, (refl, tt)))))))))))))))))))))

abbrev pub IsNoOther : Known → Type 0
IsNoOther known_name.Other = ⊥
IsNoOther k = Unit {0}

pub spelled : (text : List ℕ) (k : Known) → known text ≡ k → IsNoOther k → text ≡ spelling k
spelled text k e h = elim (spelled_so text) [ inl o ↦ absurd (subst IsNoOther (sym e ∙ o) h) | inr s ↦ s ∙ ap spelling e ]

abbrev knowns : List Known
knowns = known_name.Other ∷ known_name.SizeT ∷ known_name.ExceptionPtr ∷ known_name.SuspendAlways ∷ known_name.SuspendNever ∷ known_name.CoroutineHandle ∷ known_name.Atomic ∷ known_name.Move ∷ known_name.Exchange ∷ known_name.NoopCoroutine ∷ known_name.Terminate ∷ known_name.CurrentException ∷ known_name.RethrowException ∷ known_name.Text ∷ known_name.Print ∷ known_name.Post ∷ known_name.Input ∷ known_name.Inputs ∷ known_name.FromAddress ∷ known_name.FromPromise ∷ known_name.Std ∷ known_name.Corun ∷ []

known_back : (k : Known) → slice_index_or knowns (known_number k) known_name.Other ≡ k
known_back known_name.Other = refl
known_back known_name.SizeT = refl
known_back known_name.ExceptionPtr = refl
known_back known_name.SuspendAlways = refl
known_back known_name.SuspendNever = refl
known_back known_name.CoroutineHandle = refl
known_back known_name.Atomic = refl
known_back known_name.Move = refl
known_back known_name.Exchange = refl
known_back known_name.NoopCoroutine = refl
known_back known_name.Terminate = refl
known_back known_name.CurrentException = refl
known_back known_name.RethrowException = refl
known_back known_name.Text = refl
known_back known_name.Print = refl
known_back known_name.Post = refl
known_back known_name.Input = refl
known_back known_name.Inputs = refl
known_back known_name.FromAddress = refl
known_back known_name.FromPromise = refl
known_back known_name.Std = refl
known_back known_name.Corun = refl

pub same_known : (a b : Known) → nat_eq (known_number a) (known_number b) ≡ true → a ≡ b
same_known a b h = sym (known_back a) ∙ ap (λ n. slice_index_or knowns n known_name.Other) (eq_true (known_number a) (known_number b) h) ∙ known_back b

-- `std` and `corun` are no names that a file may declare
known_std : known (codes "std") ≡ known_name.Std
unfolding known
known_std = refl

known_corun : known (codes "corun") ≡ known_name.Corun
unfolding known
known_corun = refl

pub plain_name : (text : List ℕ) → is_plain (known text) ≡ true → IsName text
plain_name text h = (
  (λ e. never (ap is_plain (sym (ap known e ∙ known_std)) ∙ h)),
  (λ e. never (ap is_plain (sym (ap known e ∙ known_corun)) ∙ h)),
)

differ : (b : Bool) → (b ≡ true → ⊥) → b ≡ false
differ true f = absurd (f refl)
differ false f = refl

pub other_text : (text other : List ℕ) → (text ≡ other → ⊥) → bytes_eq text other ≡ false
other_text text other f = differ (bytes_eq text other) (λ e. f ((bytes_eq-Decides text other).0 e))

pub tested_name : (text : List ℕ) → IsName text → is_name text ≡ true
unfolding is_name
tested_name text h = ap (λ b. not b && not (bytes_eq text (codes "corun"))) (other_text text (codes "std") h.0) ∙ ap (λ b. not b) (other_text text (codes "corun") h.1)

-- a name comes first, of which this is so
pub data Named (C : List (List ℕ)) (Is : List ℕ → Type 0) (R : List Symbol) : List Token → Type 0 where
  named : (text : List ℕ) (at : Span) (ts : List Token) → Is text → Runs C R ts → Named C Is R (record { kind = kind.Name text; span = at } ∷ ts)

-- a name that the pattern admits
abbrev pub AdmitsName : List (List ℕ) → Pattern → List ℕ → Type 0
AdmitsName C p text = admits p (terminal_of C (kind.Name text)) ≡ true

abbrev pub IsNames : Pattern → Type 0
IsNames pattern.Name = Unit {0}
IsNames pattern.ClassName = Unit {0}
IsNames pattern.OtherName = Unit {0}
IsNames pattern.LibraryObject = Unit {0}
IsNames pattern.LibraryFunction = Unit {0}
IsNames pattern.HandleFunction = Unit {0}
IsNames pattern.RunFunction = Unit {0}
IsNames (pattern.Spelled k) = Unit {0}
IsNames p = ⊥

no_word : (p : Pattern) (w : Word) → IsNames p → admits p (terminal.Word w) ≡ true → ⊥
unfolding admits
no_word (pattern.Keyword v) w i h = absurd i
no_word pattern.UnaryOperator w i h = absurd i
no_word pattern.Literal w i h = absurd i
no_word pattern.BuiltinType w i h = absurd i
no_word pattern.AccessSpecifier w i h = absurd i
no_word pattern.ClassKey w i h = absurd i
no_word pattern.FunctionSpecifier w i h = absurd i
no_word pattern.Allocation w i h = absurd i
no_word pattern.OperatorName w i h = absurd i
no_word p w i h = never h

no_mark : (p : Pattern) (m : Mark) → IsNames p → admits p (terminal.Mark m) ≡ true → ⊥
unfolding admits
no_mark (pattern.Punctuator v) m i h = absurd i
no_mark pattern.UnaryOperator m i h = absurd i
no_mark pattern.BinaryOperator m i h = absurd i
no_mark pattern.Assignment m i h = absurd i
no_mark pattern.Increment m i h = absurd i
no_mark pattern.Access m i h = absurd i
no_mark pattern.ReferenceMark m i h = absurd i
no_mark pattern.NewMark m i h = absurd i
no_mark p m i h = never h

no_number : (p : Pattern) → IsNames p → admits p terminal.Number ≡ true → ⊥
unfolding admits
no_number pattern.Literal i h = absurd i
no_number p i h = never h

no_text : (p : Pattern) → IsNames p → admits p terminal.Text ≡ true → ⊥
unfolding admits
no_text pattern.Text i h = absurd i
no_text p i h = never h

no_end : (p : Pattern) → IsNames p → admits p terminal.End ≡ true → ⊥
unfolding admits
no_end pattern.End i h = absurd i
no_end p i h = never h

-- a token that a pattern of names admits
pub data NameToken (C : List (List ℕ)) (p : Pattern) : TokenKind → Type 0 where
  name_token : (text : List ℕ) → AdmitsName C p text → NameToken C p (kind.Name text)

name_kind : (C : List (List ℕ)) (p : Pattern) (k : TokenKind) → IsNames p → admits p (terminal_of C k) ≡ true → NameToken C p k
name_kind C p (kind.Name text) i h = name_token text h
name_kind C p (kind.Word w) i h = absurd (no_word p w i h)
name_kind C p (kind.Mark m) i h = absurd (no_mark p m i h)
name_kind C p (kind.Int num value) i h = absurd (no_number p i h)
name_kind C p (kind.Lit text) i h = absurd (no_text p i h)
name_kind C p kind.End i h = absurd (no_end p i h)

of_name : {C : List (List ℕ)} {p : Pattern} {R : List Symbol} (Is : List ℕ → Type 0) (k : TokenKind) (at : Span) (ts : List Token) → ((text : List ℕ) → AdmitsName C p text → Is text) → NameToken C p k → Runs C R ts → Named C Is R (record { kind = k; span = at } ∷ ts)
of_name Is k at ts f (name_token text h) r = named text at ts (f text h) r

pub name_by : {C : List (List ℕ)} {p : Pattern} {R : List Symbol} {ts : List Token} (Is : List ℕ → Type 0) → IsNames p → ((text : List ℕ) → AdmitsName C p text → Is text) → Runs C (Terminal p ∷ R) ts → Named C Is R ts
name_by {C} Is i f (token p R t ts a few r) = of_name Is t.kind t.span ts f (name_kind C p t.kind i a) r

-- any name that a file may declare
pub name_first : {C : List (List ℕ)} {R : List Symbol} {ts : List Token} → Runs C (Terminal pattern.Name ∷ R) ts → Named C IsName R ts
unfolding admits
name_first h = name_by IsName tt (λ text a. plain_name text a) h

-- a name of a class
pub record IsClassName (C : List (List ℕ)) (text : List ℕ) : Type 0 where
  pub name : IsName text
  pub class : is_class C text ≡ true

pub class_first : {C : List (List ℕ)} {R : List Symbol} {ts : List Token} → Runs C (Terminal pattern.ClassName ∷ R) ts → Named C (IsClassName C) R ts
unfolding admits
class_first {C} h = name_by (IsClassName C) tt (λ text a. (let b = and_split (is_class C text) (is_plain (known text)) a in record { name = plain_name text b.1; class = b.0 })) h

-- a name of no class
pub record IsOtherName (C : List (List ℕ)) (text : List ℕ) : Type 0 where
  pub name : IsName text
  pub class : is_class C text ≡ false

not_class : (b : Bool) → not b ≡ true → b ≡ false
not_class true h = never h
not_class false h = refl

pub other_first : {C : List (List ℕ)} {R : List Symbol} {ts : List Token} → Runs C (Terminal pattern.OtherName ∷ R) ts → Named C (IsOtherName C) R ts
unfolding admits
other_first {C} h = name_by (IsOtherName C) tt (λ text a. (let b = and_split (not (is_class C text)) (is_plain (known text)) a in record { name = plain_name text b.1; class = not_class (is_class C text) b.0 })) h

-- a name that the grammar spells comes next
pub data SpelledNext (C : List (List ℕ)) (k : Known) (R : List Symbol) : List Token → Type 0 where
  spelled_next : (at : Span) (ts : List Token) → Runs C R ts → SpelledNext C k R (record { kind = kind.Name (spelling k); span = at } ∷ ts)

is_spelled : {C : List (List ℕ)} {R : List Symbol} {ts : List Token} (k : Known) → Named C (λ text. text ≡ spelling k) R ts → SpelledNext C k R ts
is_spelled {C} {R} k (named text at ts e r) = subst (λ x. SpelledNext C k R (record { kind = kind.Name x; span = at } ∷ ts)) (sym e) (spelled_next at ts r)

pub spelled_first : {C : List (List ℕ)} {R : List Symbol} {ts : List Token} (k : Known) → IsNoOther k → Runs C (Terminal (pattern.Spelled k) ∷ R) ts → SpelledNext C k R ts
unfolding admits
spelled_first {C} k o h = is_spelled k (name_by (λ text. text ≡ spelling k) tt (λ text a. spelled text k (sym (same_known k (known text) (first_true _ a))) o) h)

-- where a name is of a class, there are classes
pub some_class : (C : List (List ℕ)) (text : List ℕ) → is_class C text ≡ true → has_some C ≡ true
some_class [] text h = never h
some_class (c ∷ C) text h = refl
