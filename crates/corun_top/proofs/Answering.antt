-- From what was read of a file to what the told file answers, and from a run's state to what is written of it.
use Rattle.std.proofs.Common.{◌≡◌, ℕ, ◌+◌, ◌<◌, ◌≤◌, List, [], ◌∷◌, length, take, map, refl, sym, ap, subst, ◌∙◌, arith, get_or, ⊎_elim, ℤ}
use Rattle.std.proofs.lemmas.List.{take_all, length-take-le}
use Rattle.std.proofs.lemmas.Bool.{cases_lt}
use Rattle.std.specs.Prelude.{Option, Some, None, String, IfSome}
use Rattle.std.specs.String.{string_bytes}
use Rattle.std.specs.declared.alloc.Global.{Global}
use Rattle.co_base.specs.Outside.{HoldsFirst}
use Rattle.co_base.specs.declared.kinds.Counts.{Counts}
use Rattle.co_first_parse.specs.Grammar.{IsFile}
use Rattle.co_first_exec.specs.declared.instr.Stop.{Stop}
use Rattle.co_first_exec.specs.declared.local.Local.{Local}
use Rattle.corun_top.specs.declared.answer.Answer.{Answer}
use Rattle.corun_top.specs.declared.answer.Answer.TheVariants.{Ran as RanTo, Says}
use Rattle.corun_top.specs.declared.end.End.{End}
use Rattle.corun_top.specs.declared.status.Status.{Status}
use Rattle.corun_top.specs.declared.status.Status.TheVariants as status
use Rattle.corun_top.specs.Answers.{Answers, AnswersBytes, IsNoFile, file_of, end_of, counts_of, status_of_answer, out_text, err_text}
use Rattle.corun_top.specs.Texts.{count_text, run_text, status_of}
use Rattle.corun_top.specs.Words.{IsAccepted}
use Rattle.corun_top.specs.Written.{IsWritten, Tape}

-- the second of two words is the name of the file
pub second_word : (words : List (String Global)) (d : String Global) → length words ≡ 2 → file_of (map string_bytes words) ≡ string_bytes (get_or words 1 d)
second_word [] d e = absurd (omega arith)
second_word (command ∷ []) d e = absurd (omega arith)
second_word (command ∷ file ∷ more) d e = refl

-- what was read of a file that is not too long is the file
short_read : (n : ℕ) (all read : List ℕ) → read ≡ take (n + 1) all → length read ≤ n → all ≡ read
short_read n all read e short =
    ⊎_elim
    (λ (long : n + 1 < length all). absurd (omega (arith, ap length e, length-take-le (n + 1) all (omega arith))))
    (λ (le : length all ≤ n + 1). sym (e ∙ take_all (n + 1) all le))
    (cases_lt (n + 1) (length all))

no_file_longer : (all read : List ℕ) → read ≡ take 1048577 all → IsNoFile read → IsNoFile all
no_file_longer all read e none program is =
    let P : List ℕ → Type 0 = λ bytes. IsFile bytes program in
    let same : read ≡ all = e ∙ take_all 1048577 all (omega (arith, is.size)) in
    none program (subst P (sym same) is)

-- what was read answers what the told file does
pub answers_read : (words : List (List ℕ)) (told : Option (List ℕ)) (tell : List ℕ → Option (List ℕ)) (read : List ℕ) (before after : ℕ) (answer : Answer)
    → IsAccepted words → tell (file_of words) ≡ told → HoldsFirst told 1048577 read → after ≡ before → AnswersBytes read answer → Answers words tell before after answer
answers_read words None tell read before after (RanTo local) accepted e holds same is =
    let at : IfSome (tell (file_of words)) (λ all. all ≡ read) = rw e tt in
    (accepted, same, (read, at, is))
answers_read words (Some all) tell read before after (RanTo local) accepted e holds same is =
    let whole : all ≡ read = short_read 1048576 all read holds (omega (arith, is.is_file.size)) in
    let at : IfSome (tell (file_of words)) (λ all. all ≡ read) = rw e whole in
    (accepted, same, (read, at, is))
answers_read words None tell read before after (Says (status.Refused refusal span)) accepted e holds same is =
    let at : IfSome (tell (file_of words)) IsNoFile = rw e tt in
    (accepted, same, is.0, at)
answers_read words (Some all) tell read before after (Says (status.Refused refusal span)) accepted e holds same is =
    let at : IfSome (tell (file_of words)) IsNoFile = rw e (no_file_longer all read holds is.1) in
    (accepted, same, is.0, at)
answers_read words told tell read before after (Says status.NoMemory) accepted e holds same is = (accepted, same)
answers_read words told tell read before after (Says (status.Finished value)) accepted e holds same is = absurd is
answers_read words told tell read before after (Says (status.Words index)) accepted e holds same is = absurd is
answers_read words told tell read before after (Says (status.Undefined kind span)) accepted e holds same is = absurd is
answers_read words told tell read before after (Says (status.Uncaught value)) accepted e holds same is = absurd is
answers_read words told tell read before after (Says (status.Budget worker)) accepted e holds same is = absurd is
answers_read words told tell read before after (Says (status.Limit limit)) accepted e holds same is = absurd is
answers_read words told tell read before after (Says status.FileFault) accepted e holds same is = absurd is
answers_read words told tell read before after (Says status.SinkFault) accepted e holds same is = absurd is
answers_read words told tell read before after (Says (status.TooLarge which)) accepted e holds same is = absurd is
answers_read words told tell read before after (Says (status.BadInput which line)) accepted e holds same is = absurd is

-- what was written of a run is what is written of its state
pub run_written : (local : Local) (prints : List ℤ) (stop : Stop) (end : End) (counts : Counts) (out out' err err' : Tape) (result : Status)
    → prints ≡ local.prints → stop ≡ local.stop → end ≡ end_of stop → counts ≡ counts_of local
    → IsWritten (status_of end) (run_text prints end) (count_text counts) out out' err err' result
    → IsWritten (status_of_answer (RanTo local)) (out_text (RanTo local)) (err_text (RanTo local)) out out' err err' result
run_written local prints stop end counts out out' err err' result ps st en co written =
    let P : List ℤ → Type 0 = λ p. IsWritten (status_of (end_of local.stop)) (run_text p (end_of local.stop)) (count_text (counts_of local)) out out' err err' result in
    let Q : End → Type 0 = λ e. IsWritten (status_of e) (run_text prints e) (count_text (counts_of local)) out out' err err' result in
    let R : Counts → Type 0 = λ c. IsWritten (status_of end) (run_text prints end) (count_text c) out out' err err' result in
    subst P ps (subst Q (en ∙ ap end_of st) (subst R co written))
