use Rattle.std.proofs.Common.{◌≡◌, ◌+◌, ◌<◌, ℕ, false, Some, List, length, suc, ◌++◌, take, drop, arith, get_or, subst, sym, ap, ◌∙◌}
use Rattle.std.proofs.lemmas.List.{get_or_read}
use Rattle.co_words.specs.declared.links.Block.{Block}
use Rattle.co_words.specs.Storage.{has, newest_of, without}
use Rattle.co_words.specs.Chains.{no_link}
use Rattle.co_words.proofs.Groups.{newest_none, newest_last, without_none, without_last}
use Rattle.co_words.proofs.larger.remove.Goals as goal

pub returns-in-None-clause-place : goal.returns-in-None-clause-place
returns-in-None-clause-place c =
    sym (newest_none c.args.size c.as_slice.result.now c.in-None.ensures)
    ∙ ap (newest_of c.args.size) c.as_slice.ensures.value

pub returns-in-None-clause-rest : goal.returns-in-None-clause-rest
returns-in-None-clause-rest c =
    subst
    (λ (xs : List Block). xs ≡ without c.args.size xs)
    c.as_slice.ensures.value
    (sym (without_none c.args.size c.as_slice.result.now c.in-None.ensures))

abbrev IsLast : ℕ → List Block → ℕ → Type 0
IsLast size xs n = (n < length xs) × ((get_or xs n no_link.block).size ≡ size) × (has size (drop (n + 1) xs) ≡ false)

pub returns-in-Some-clause-place : goal.returns-in-Some-clause-place
returns-in-Some-clause-place c =
    let xs = c.args.blocks.now.items in
    let e = subst (λ (ys : List Block). IsLast c.args.size ys c.in-Some.n) c.as_slice.ensures.value c.in-Some.ensures in
    ap (λ (b : Block). Some b.place) (get_or_read xs c.in-Some.n c.remove.result e.0 c.remove.ensures.value no_link.block)
    ∙ sym (newest_last c.args.size xs c.in-Some.n no_link.block e.0 e.1 e.2)

pub returns-in-Some-clause-rest : goal.returns-in-Some-clause-rest
returns-in-Some-clause-rest c =
    let xs = c.args.blocks.now.items in
    let e = subst (λ (ys : List Block). IsLast c.args.size ys c.in-Some.n) c.as_slice.ensures.value c.in-Some.ensures in
    let next : suc c.in-Some.n ≡ c.in-Some.n + 1 = omega arith in
    c.remove.ensures.items
    ∙ ap (λ m. take c.in-Some.n xs ++ drop m xs) next
    ∙ sym (without_last c.args.size xs c.in-Some.n no_link.block e.0 e.1 e.2)
