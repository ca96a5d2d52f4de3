-- How the canonical text spells each token.
use Rattle.std.specs.Prelude.{ℕ, List, [], ◌∷◌, ◌++◌, ◌||◌, ◌==◌, if◌then◌else◌, codes}
use Rattle.std.specs.Fmt.{signed_decimal}
use Rattle.co_base.specs.declared.kinds.Num.{Num}
use Rattle.co_base.specs.declared.kinds.Num.TheVariants as num
use Rattle.co_lex.specs.declared.token.TokenKind.{TokenKind}
use Rattle.co_lex.specs.declared.token.TokenKind.TheVariants as kind
use Rattle.co_lex.specs.Texts.{word_text, mark_text}

-- the suffix of a number: none, `L` or `UL` [lex.icon]
abbrev pub suffix : Num → List ℕ
suffix num.Bool = []
suffix num.Int = []
suffix num.Long = codes "L"
suffix num.Size = codes "UL"

-- `"` and `\` stand after a `\` [lex.string]
abbrev pub escaped : ℕ → List ℕ
escaped b = if b == 34 || b == 92 then 92 ∷ b ∷ [] else b ∷ []

abbrev pub escaped_all : List ℕ → List ℕ
escaped_all [] = []
escaped_all (b ∷ bs) = escaped b ++ escaped_all bs

abbrev pub spelling : TokenKind → List ℕ
spelling (kind.Name text) = text
spelling (kind.Word word) = word_text word
spelling (kind.Int n value) = signed_decimal value ++ suffix n
spelling (kind.Lit text) = 34 ∷ (escaped_all text ++ 34 ∷ [])
spelling (kind.Mark mark) = mark_text mark
spelling kind.End = []
