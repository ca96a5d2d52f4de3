-- What a parser knows and has made.
use Rattle.std.specs.Prelude.{◌≡◌, ℕ, List, [], ◌∷◌, refl}
use Rattle.std.specs.Coded.{Coded, code_by, coded×, coded_ℕ, coded_list}

-- the variables that were declared so far, and those that are seen, the newest first
pub record Known : Type 0 where
  pub names : List (List ℕ)
  pub visible : List ℕ

abbrev pub known_code : Coded Known
known_code = code_by (List (List ℕ) × List ℕ) (coded× (coded_list (coded_list coded_ℕ)) (coded_list coded_ℕ)) (λ k. (k.names, k.visible)) (λ p. record { names = p.0; visible = p.1 }) (λ _. refl)

abbrev pub no_names : Known
no_names = record { names = []; visible = [] }
