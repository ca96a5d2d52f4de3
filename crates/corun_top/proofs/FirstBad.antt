-- Where a list of command words is first bad, by what its first words are.
use Rattle.std.proofs.Common.{◌≡◌, ℕ, ◌+◌, List, [], ◌∷◌, ◌++◌, length, codes, arith, refl, sym, subst}
use Rattle.corun_top.specs.Words.{IsFileName, IsAccepted, BeginsAccepted, IsFirstBad}

begins_none : BeginsAccepted []
begins_none = ((codes "run") ∷ (102 ∷ []) ∷ [], (refl, λ e. absurd (omega arith)))

run_first : (command : List ℕ) (rest : List (List ℕ)) → IsAccepted (command ∷ rest) → command ≡ codes "run"
run_first command [] h = absurd h
run_first command (file ∷ []) h = h.0
run_first command (file ∷ stray ∷ others) h = absurd h

named : (command file : List ℕ) (rest : List (List ℕ)) → IsAccepted (command ∷ file ∷ rest) → IsFileName file
named command file [] h = h.1
named command file (stray ∷ others) h = absurd h

-- what begins an accepted list begins with `run`
begins_run : (command : List ℕ) (rest : List (List ℕ)) → BeginsAccepted (command ∷ rest) → command ≡ codes "run"
begins_run command rest (more, is) = run_first command (rest ++ more) is

begins_file : (command file : List ℕ) (rest : List (List ℕ)) → BeginsAccepted (command ∷ file ∷ rest) → IsFileName file
begins_file command file rest (more, is) = named command file (rest ++ more) is

pub no_words : (words : List (List ℕ)) → length words ≡ 0 → IsFirstBad words 0
no_words [] e = record {
  within = omega arith;
  before = begins_none;
  there = λ less begins. absurd (omega arith);
  missing = λ h. absurd h;
}
no_words (word ∷ rest) e = absurd (omega arith)

pub other_command : (words : List (List ℕ)) (command : List ℕ) (rest : List (List ℕ)) → words ≡ command ∷ rest → (command ≡ codes "run" → ⊥) → IsFirstBad words 0
other_command words command rest e other =
    let P : List (List ℕ) → Type 0 = λ w. IsFirstBad w 0 in
    subst P (sym e) (record {
      within = omega arith;
      before = begins_none;
      there = λ less begins. other (begins_run command [] begins);
      missing = λ h. other (run_first command rest h);
    })

begins_run_alone : (command : List ℕ) → command ≡ codes "run" → BeginsAccepted (command ∷ [])
begins_run_alone command e = ((102 ∷ []) ∷ [], (e, λ f. absurd (omega arith)))

pub no_file : (words : List (List ℕ)) (command : List ℕ) (rest : List (List ℕ)) → words ≡ command ∷ rest → command ≡ codes "run" → length rest ≡ 0 → IsFirstBad words 1
no_file words command [] e run none =
    let P : List (List ℕ) → Type 0 = λ w. IsFirstBad w 1 in
    subst P (sym e) (record {
      within = omega arith;
      before = begins_run_alone command run;
      there = λ less begins. absurd (omega arith);
      missing = λ h. absurd h;
    })
no_file words command (file ∷ rest) e run none = absurd (omega arith)

pub other_file : (words : List (List ℕ)) (command : List ℕ) (rest : List (List ℕ)) (file : List ℕ) (stray : List (List ℕ)) → words ≡ command ∷ rest → command ≡ codes "run" → rest ≡ file ∷ stray → (IsFileName file → ⊥) → IsFirstBad words 1
other_file words command rest file stray e run f other =
    let P : List (List ℕ) → Type 0 = λ w. IsFirstBad w 1 in
    let Q : List (List ℕ) → Type 0 = λ r. IsFirstBad (command ∷ r) 1 in
    subst P (sym e) (subst Q (sym f) (record {
      within = omega arith;
      before = begins_run_alone command run;
      there = λ less begins. other (begins_file command file [] begins);
      missing = λ h. other (named command file stray h);
    }))

pub stray_word : (words : List (List ℕ)) (command : List ℕ) (rest : List (List ℕ)) (file : List ℕ) (stray : List (List ℕ)) → words ≡ command ∷ rest → command ≡ codes "run" → rest ≡ file ∷ stray → IsFileName file → (stray ≡ [] → ⊥) → IsFirstBad words 2
stray_word words command rest file [] e run f is more = absurd (more refl)
stray_word words command rest file (word ∷ others) e run f is more =
    let P : List (List ℕ) → Type 0 = λ w. IsFirstBad w 2 in
    let Q : List (List ℕ) → Type 0 = λ r. IsFirstBad (command ∷ r) 2 in
    subst P (sym e) (subst Q (sym f) (record {
      within = omega arith;
      before = ([], (run, is));
      there = λ less begins. begins.1;
      missing = λ h. h;
    }))
