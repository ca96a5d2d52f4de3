use Rattle.std.proofs.Common.{◌≡◌, ◌∙◌, List, ℕ, length, map, ap, sym, arith, subst}
use Rattle.std.specs.String.{string_bytes}
use Rattle.co_base.specs.Outside.{HoldsFirst}
use Rattle.corun_top.proofs.Answering.{answers_read, second_word}
use Rattle.corun_top.proofs.answer.answer_words.Goals as goal

pub returns-in-Ok-clause-answer : goal.returns-in-Ok-clause-answer
returns-in-Ok-clause-answer g c =
    let two : length c.args.words.now ≡ 2 = omega arith in
    let P : List ℕ → Type 0 = λ bytes. HoldsFirst (g.F.Files.told c.args.files.now c.as_str.result.now) 1048577 bytes in
    answers_read (map string_bytes c.args.words.now) (g.F.Files.told c.args.files.now c.as_str.result.now) (g.F.Files.told c.args.files.now) c.deref.result.now _ _ _ c.in_default.ensures
    (ap (g.F.Files.told c.args.files.now) (second_word c.args.words.now c.file-item.result two ∙ ap string_bytes (sym c.file-item.is) ∙ sym c.as_str.ensures.value))
    (subst P (sym c.deref.ensures.value) c.in-Ok.ensures.bytes) c.in-Ok.ensures.ok c.answer_bytes.ensures
