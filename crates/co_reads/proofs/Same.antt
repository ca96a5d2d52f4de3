-- A mark or a word is told by its number.
use Rattle.std.proofs.Common.{◌≡◌, ℕ, List, [], ◌∷◌, true, nat_eq, refl, sym, ap, ◌∙◌, arith}
use Rattle.std.specs.Prelude.{slice_index_or}
use Rattle.co_lex.specs.declared.token.Mark.{Mark}
use Rattle.co_lex.specs.declared.token.Mark.TheVariants as mark
use Rattle.co_lex.specs.declared.token.Word.{Word}
use Rattle.co_lex.specs.declared.token.Word.TheVariants as word
use Rattle.co_rules.specs.Pattern.{mark_number, word_number}
use Rattle.std.proofs.lemmas.Bool.Decides.{nat_tests}

eq_true : (a b : ℕ) → nat_eq a b ≡ true → a ≡ b
eq_true a b h = grind (arith, nat_tests)

abbrev marks : List Mark
marks = mark.ShlAssign ∷ mark.ShrAssign ∷ mark.Ellipsis ∷ mark.Scope ∷ mark.Arrow ∷ mark.Increment ∷ mark.Decrement ∷ mark.Shl ∷ mark.Shr ∷ mark.LessEqual ∷ mark.GreaterEqual ∷ mark.Equal ∷ mark.NotEqual ∷ mark.AndAnd ∷ mark.OrOr ∷ mark.AddAssign ∷ mark.SubAssign ∷ mark.MulAssign ∷ mark.DivAssign ∷ mark.RemAssign ∷ mark.AndAssign ∷ mark.OrAssign ∷ mark.XorAssign ∷ mark.OpenBrace ∷ mark.CloseBrace ∷ mark.OpenParen ∷ mark.CloseParen ∷ mark.Semicolon ∷ mark.Colon ∷ mark.Comma ∷ mark.Dot ∷ mark.Question ∷ mark.Tilde ∷ mark.Not ∷ mark.Plus ∷ mark.Minus ∷ mark.Star ∷ mark.Slash ∷ mark.Percent ∷ mark.Less ∷ mark.Greater ∷ mark.Assign ∷ mark.And ∷ mark.Or ∷ mark.Xor ∷ []

abbrev words : List Word
words = word.Auto ∷ word.Bool ∷ word.Break ∷ word.Catch ∷ word.Class ∷ word.CoAwait ∷ word.CoReturn ∷ word.CoYield ∷ word.Const ∷ word.Continue ∷ word.Default ∷ word.Delete ∷ word.Else ∷ word.Explicit ∷ word.False ∷ word.For ∷ word.If ∷ word.Inline ∷ word.Int ∷ word.Long ∷ word.New ∷ word.Noexcept ∷ word.Nullptr ∷ word.Operator ∷ word.Private ∷ word.Protected ∷ word.Public ∷ word.Return ∷ word.Static ∷ word.StaticCast ∷ word.Struct ∷ word.This ∷ word.Throw ∷ word.True ∷ word.Try ∷ word.Using ∷ word.Void ∷ word.While ∷ word.Alignas ∷ word.Alignof ∷ word.Case ∷ word.Char ∷ word.Concept ∷ word.ConstCast ∷ word.Consteval ∷ word.Constexpr ∷ word.Constinit ∷ word.Decltype ∷ word.Do ∷ word.Double ∷ word.DynamicCast ∷ word.Enum ∷ word.Export ∷ word.Extern ∷ word.Float ∷ word.Friend ∷ word.Goto ∷ word.Mutable ∷ word.Namespace ∷ word.ReinterpretCast ∷ word.Requires ∷ word.Short ∷ word.Signed ∷ word.Sizeof ∷ word.StaticAssert ∷ word.Switch ∷ word.Template ∷ word.ThreadLocal ∷ word.Typedef ∷ word.Typeid ∷ word.Typename ∷ word.Union ∷ word.Unsigned ∷ word.Virtual ∷ word.Volatile ∷ []

mark_back : (m : Mark) → slice_index_or marks (mark_number m) mark.Xor ≡ m
mark_back mark.ShlAssign = refl
mark_back mark.ShrAssign = refl
mark_back mark.Ellipsis = refl
mark_back mark.Scope = refl
mark_back mark.Arrow = refl
mark_back mark.Increment = refl
mark_back mark.Decrement = refl
mark_back mark.Shl = refl
mark_back mark.Shr = refl
mark_back mark.LessEqual = refl
mark_back mark.GreaterEqual = refl
mark_back mark.Equal = refl
mark_back mark.NotEqual = refl
mark_back mark.AndAnd = refl
mark_back mark.OrOr = refl
mark_back mark.AddAssign = refl
mark_back mark.SubAssign = refl
mark_back mark.MulAssign = refl
mark_back mark.DivAssign = refl
mark_back mark.RemAssign = refl
mark_back mark.AndAssign = refl
mark_back mark.OrAssign = refl
mark_back mark.XorAssign = refl
mark_back mark.OpenBrace = refl
mark_back mark.CloseBrace = refl
mark_back mark.OpenParen = refl
mark_back mark.CloseParen = refl
mark_back mark.Semicolon = refl
mark_back mark.Colon = refl
mark_back mark.Comma = refl
mark_back mark.Dot = refl
mark_back mark.Question = refl
mark_back mark.Tilde = refl
mark_back mark.Not = refl
mark_back mark.Plus = refl
mark_back mark.Minus = refl
mark_back mark.Star = refl
mark_back mark.Slash = refl
mark_back mark.Percent = refl
mark_back mark.Less = refl
mark_back mark.Greater = refl
mark_back mark.Assign = refl
mark_back mark.And = refl
mark_back mark.Or = refl
mark_back mark.Xor = refl

word_back : (w : Word) → slice_index_or words (word_number w) word.Volatile ≡ w
word_back word.Auto = refl
word_back word.Bool = refl
word_back word.Break = refl
word_back word.Catch = refl
word_back word.Class = refl
word_back word.CoAwait = refl
word_back word.CoReturn = refl
word_back word.CoYield = refl
word_back word.Const = refl
word_back word.Continue = refl
word_back word.Default = refl
word_back word.Delete = refl
word_back word.Else = refl
word_back word.Explicit = refl
word_back word.False = refl
word_back word.For = refl
word_back word.If = refl
word_back word.Inline = refl
word_back word.Int = refl
word_back word.Long = refl
word_back word.New = refl
word_back word.Noexcept = refl
word_back word.Nullptr = refl
word_back word.Operator = refl
word_back word.Private = refl
word_back word.Protected = refl
word_back word.Public = refl
word_back word.Return = refl
word_back word.Static = refl
word_back word.StaticCast = refl
word_back word.Struct = refl
word_back word.This = refl
word_back word.Throw = refl
word_back word.True = refl
word_back word.Try = refl
word_back word.Using = refl
word_back word.Void = refl
word_back word.While = refl
word_back word.Alignas = refl
word_back word.Alignof = refl
word_back word.Case = refl
word_back word.Char = refl
word_back word.Concept = refl
word_back word.ConstCast = refl
word_back word.Consteval = refl
word_back word.Constexpr = refl
word_back word.Constinit = refl
word_back word.Decltype = refl
word_back word.Do = refl
word_back word.Double = refl
word_back word.DynamicCast = refl
word_back word.Enum = refl
word_back word.Export = refl
word_back word.Extern = refl
word_back word.Float = refl
word_back word.Friend = refl
word_back word.Goto = refl
word_back word.Mutable = refl
word_back word.Namespace = refl
word_back word.ReinterpretCast = refl
word_back word.Requires = refl
word_back word.Short = refl
word_back word.Signed = refl
word_back word.Sizeof = refl
word_back word.StaticAssert = refl
word_back word.Switch = refl
word_back word.Template = refl
word_back word.ThreadLocal = refl
word_back word.Typedef = refl
word_back word.Typeid = refl
word_back word.Typename = refl
word_back word.Union = refl
word_back word.Unsigned = refl
word_back word.Virtual = refl
word_back word.Volatile = refl

pub same_mark : (a b : Mark) → nat_eq (mark_number a) (mark_number b) ≡ true → a ≡ b
same_mark a b h = sym (mark_back a) ∙ ap (λ n. slice_index_or marks n mark.Xor) (eq_true (mark_number a) (mark_number b) h) ∙ mark_back b

pub same_word : (a b : Word) → nat_eq (word_number a) (word_number b) ≡ true → a ≡ b
same_word a b h = sym (word_back a) ∙ ap (λ n. slice_index_or words n word.Volatile) (eq_true (word_number a) (word_number b) h) ∙ word_back b
