use Rattle.std.proofs.Common.{◌≡◌, ◌∙◌, false, true, map, ap, refl}
use Rattle.std.proofs.lemmas.List.{length-map}
use Rattle.std.specs.String.{string_bytes}
use Rattle.corun_top.proofs.FirstBad.{no_words, other_command, no_file, other_file}
use Rattle.corun_top.proofs.words.first_bad.Goals as goal

pub returns-in_default : goal.returns-in_default
returns-in_default c = no_words _ (simp length-map c.in_default.ensures.cases)

pub returns-then-not-is_run : goal.returns-then-not-is_run
returns-then-not-is_run c =
    other_command _ _ _ (ap (map string_bytes) c.in-Some.ensures.cases.0) (λ e. let f : false ≡ true = c.if-not-is_run.ensures.1 e in cc)

pub returns-in_default-split_first : goal.returns-in_default-split_first
returns-in_default-split_first c =
    no_file _ _ _ (ap (map string_bytes) c.in-Some.ensures.cases.0) (c.if-not-is_run.ensures.0 refl) (length-map c.in-Some.rest.now string_bytes ∙ c.in_default-split_first.ensures.cases)

pub returns-then-not-is_file_name : goal.returns-then-not-is_file_name
returns-then-not-is_file_name c =
    other_file _ _ _ _ _ (ap (map string_bytes) c.in-Some.ensures.cases.0) (c.if-not-is_run.ensures.0 refl) (ap (map string_bytes) c.in-Some-split_first.ensures.cases.0) (λ e. let f : false ≡ true = c.if-not-is_file_name.ensures.1 e in cc)
