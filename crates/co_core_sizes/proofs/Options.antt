-- What holds of the value of an option, or where there is none, by what holds of another.
use Rattle.std.specs.Prelude.{ℕ, Option, None, Some, IfSome, IfNone}

pub some_gives : (r : Option ℕ) (P Q : ℕ → Type 0) → ((n : ℕ) → P n → Q n) → IfSome r P → IfSome r Q
some_gives None P Q f p = p
some_gives (Some n) P Q f p = f n p

pub none_gives : (r : Option ℕ) (P Q : Type 0) → (P → Q) → IfNone r P → IfNone r Q
none_gives None P Q f p = f p
none_gives (Some n) P Q f p = p
