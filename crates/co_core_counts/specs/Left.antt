-- What is left of a limit.
use Rattle.std.specs.Prelude.{ℕ, zero, suc, Option, None, Some}

abbrev pub less_from : ℕ → ℕ → Option ℕ
less_from l zero = Some l
less_from zero (suc n) = None
less_from (suc l) (suc n) = less_from l n

-- what is left after n more, and nothing where these are too many
abbrev pub less : Option ℕ → ℕ → Option ℕ
less None n = None
less (Some l) n = less_from l n
