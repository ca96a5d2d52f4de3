-- What a piece is, by what its first byte can begin.
use Rattle.std.proofs.Common.{◌≡◌, ◌≢◌, ℕ, List, refl}
use Rattle.co_base.specs.declared.span.Span.{Span}
use Rattle.co_lex.specs.declared.lexer.Line.{Line}
use Rattle.co_lex.specs.declared.scan.Start.{Start}
use Rattle.co_lex.specs.declared.scan.Start.TheVariants.{Blank, Feed, Letter, Digit, Quote, Slash, Hash, Other}
use Rattle.co_lex.specs.Lexer.{piece, solid}

pub piece-solid : (s : Start) (line : Line) (at : Span) (z : List ℕ) → s ≢ Blank → s ≢ Feed → s ≢ Slash → piece s line at z ≡ solid s line at z
piece-solid Blank line at z b f s = absurd (b refl)
piece-solid Feed line at z b f s = absurd (f refl)
piece-solid Slash line at z b f s = absurd (s refl)
piece-solid Letter line at z b f s = refl
piece-solid Digit line at z b f s = refl
piece-solid Quote line at z b f s = refl
piece-solid Hash line at z b f s = refl
piece-solid Other line at z b f s = refl
