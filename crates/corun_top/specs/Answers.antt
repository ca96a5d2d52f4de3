-- What a call answers, by its words and the files that are told.
use Rattle.std.specs.Prelude.{◌≡◌, ℕ, List, [], ◌∷◌, Option, IfSome}
use Rattle.co_base.specs.Outside.{HasRisen}
use Rattle.co_base.specs.declared.kinds.Counts.{Counts}
use Rattle.co_first_tree.specs.declared.tree.Program.{Program}
use Rattle.co_first_parse.specs.Grammar.{IsFile}
use Rattle.co_first_exec.specs.declared.instr.Stop.{Stop}
use Rattle.co_first_exec.specs.declared.instr.Stop.TheVariants as stop
use Rattle.co_first_exec.specs.declared.local.Local.{Local}
use Rattle.co_first_faithful.specs.Faithful.{Ran}
use Rattle.corun_top.specs.declared.answer.TheConstants.{BUDGET}
use Rattle.corun_top.specs.declared.answer.Answer.{Answer}
use Rattle.corun_top.specs.declared.answer.Answer.TheVariants.{Ran as RanTo, Says}
use Rattle.corun_top.specs.declared.end.End.{End}
use Rattle.corun_top.specs.declared.end.End.TheVariants as ended
use Rattle.corun_top.specs.declared.status.Status.{Status}
use Rattle.corun_top.specs.declared.status.Status.TheVariants as status
use Rattle.corun_top.specs.declared.status.Refusal.TheVariants.{S1}
use Rattle.corun_top.specs.Texts.{count_text, refusal_text, run_text, status_of}
use Rattle.corun_top.specs.Words.{IsAccepted, IsFirstBad}

-- the name of the file, in words that are accepted
abbrev pub file_of : List (List ℕ) → List ℕ
file_of [] = []
file_of (command ∷ []) = []
file_of (command ∷ file ∷ more) = file

-- the end of a run that has stopped; there is one worker, of number 0
abbrev pub end_of : Stop → End
end_of stop.Running = ended.Budget 0
end_of (stop.Main value) = ended.Main value
end_of (stop.Undefined kind span) = ended.Undefined kind span
end_of stop.Budget = ended.Budget 0
end_of (stop.Limit limit) = ended.Limit limit

-- no coroutine and no object of a class is in the form
abbrev pub counts_of : Local → Counts
counts_of local = record { instructions = local.made; frames_made = 0; frames_ended = 0; born = 0; died = 0 }

-- the bytes are a file of the form, and the state is the end of a run of code that is faithful to it
pub record HasRun (bytes : List ℕ) (local : Local) : Type 0 where
  pub program : Program
  pub is_file : IsFile bytes program
  pub ran : Ran program BUDGET local

-- no tree is that of these bytes
abbrev pub IsNoFile : List ℕ → Type 0
IsNoFile bytes = (program : Program) → IsFile bytes program → ⊥

-- the one place of a refusal
pub record IsRefusal (answer : Status) : Type 0 where
  pub first : answer ≡ status.Refused S1 (record { line = 1; col = 1 })

-- what the bytes of the file answer
abbrev pub AnswersBytes : List ℕ → Answer → Type 0
AnswersBytes bytes (RanTo local) = HasRun bytes local
AnswersBytes bytes (Says (status.Refused refusal span)) = IsRefusal (status.Refused refusal span) × IsNoFile bytes
AnswersBytes bytes (Says status.NoMemory) = Unit {0}
AnswersBytes bytes (Says _) = ⊥

-- what the words and the files answer, with the counts of failed reads before and after
abbrev pub Answers : List (List ℕ) → (List ℕ → Option (List ℕ)) → ℕ → ℕ → Answer → Type 0
Answers words told before after (RanTo local) = IsAccepted words × (after ≡ before) × ((bytes : List ℕ) × IfSome (told (file_of words)) (λ all. all ≡ bytes) × HasRun bytes local)
Answers words told before after (Says (status.Words index)) = IsFirstBad words index × (after ≡ before)
Answers words told before after (Says (status.Refused refusal span)) = IsAccepted words × (after ≡ before) × IsRefusal (status.Refused refusal span) × IfSome (told (file_of words)) IsNoFile
Answers words told before after (Says status.FileFault) = IsAccepted words × HasRisen before after
Answers words told before after (Says status.NoMemory) = IsAccepted words × (after ≡ before)
Answers words told before after (Says _) = ⊥

abbrev pub status_of_answer : Answer → Status
status_of_answer (RanTo local) = status_of (end_of local.stop)
status_of_answer (Says status) = status

-- what is written to standard output
abbrev pub out_text : Answer → List ℕ
out_text (RanTo local) = run_text local.prints (end_of local.stop)
out_text (Says status) = []

-- what is written to standard error
abbrev pub err_text : Answer → List ℕ
err_text (RanTo local) = count_text (counts_of local)
err_text (Says status) = refusal_text status
