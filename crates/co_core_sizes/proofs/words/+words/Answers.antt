use Rattle.std.specs.Prelude.{◌+◌, ◌-◌, ◌<◌}
use Rattle.std.proofs.Common.{ap, ◌∙◌, subst, sym}
use Rattle.co_core_tree.specs.Sizes.{class_words_within}
use Rattle.co_core_sizes.proofs.Same.{known_words, new_words, one_deeper, words_told}
use Rattle.co_core_sizes.proofs.Beside.{left_of, none_of}
use Rattle.co_core_sizes.proofs.words.+words.Goals as goal

pub beside_class-returns-in-Some-clause-some : goal.beside_class-returns-in-Some-clause-some
beside_class-returns-in-Some-clause-some t c =
    left_of c.beside_new.result (class_words_within (c.args.depth - 1 + 1) c.args.classes.now c.args.class) (class_words_within c.args.depth c.args.classes.now c.args.class) c.args.room
    (one_deeper c.args.depth c.args.classes.now c.args.class c.if-depth-eq0.false) c.beside_new.ensures.some

pub beside_class-returns-in-Some-clause-none : goal.beside_class-returns-in-Some-clause-none
beside_class-returns-in-Some-clause-none t c =
    none_of c.beside_new.result (class_words_within (c.args.depth - 1 + 1) c.args.classes.now c.args.class) (class_words_within c.args.depth c.args.classes.now c.args.class) c.args.room
    (one_deeper c.args.depth c.args.classes.now c.args.class c.if-depth-eq0.false) c.beside_new.ensures.none

pub beside_class-returns-then-known-gt0-clause-some : goal.beside_class-returns-then-known-gt0-clause-some
beside_class-returns-then-known-gt0-clause-some t c =
    left_of c.beside_words.result c.noted-known.result (class_words_within c.args.depth c.args.classes.now c.args.class) c.args.room
    (known_words c.args.classes.now c.args.counted.now c.args.class c.args.depth c.noted-known.result c.requires.counted c.noted-known.ensures c.if-known-gt0.true c.requires.nests) c.beside_words.ensures.some

pub beside_class-returns-then-known-gt0-clause-none : goal.beside_class-returns-then-known-gt0-clause-none
beside_class-returns-then-known-gt0-clause-none t c =
    none_of c.beside_words.result c.noted-known.result (class_words_within c.args.depth c.args.classes.now c.args.class) c.args.room
    (known_words c.args.classes.now c.args.counted.now c.args.class c.args.depth c.noted-known.result c.requires.counted c.noted-known.ensures c.if-known-gt0.true c.requires.nests) c.beside_words.ensures.none

pub beside_new-note_words-requires-clause-words : goal.beside_new-note_words-requires-clause-words
beside_new-note_words-requires-clause-words t c =
    words_told c.args.depth c.in-Some.left c.args.room c.args.classes.now c.args.class c.args.info.now c.as_slice.result.now c.requires.class c.as_slice.ensures c.requires.nests c.in-Some.ensures.some

pub beside_new-returns-in-Some-clause-some : goal.beside_new-returns-in-Some-clause-some
beside_new-returns-in-Some-clause-some t c =
    ap (λ k. c.in-Some.left + k) (new_words c.args.depth c.args.classes.now c.args.class c.args.info.now c.as_slice.result.now c.requires.class c.as_slice.ensures) ∙ c.in-Some.ensures.some

pub beside_new-returns-in-None-clause-none : goal.beside_new-returns-in-None-clause-none
beside_new-returns-in-None-clause-none t c =
    subst (λ w. c.args.room < w) (sym (new_words c.args.depth c.args.classes.now c.args.class c.args.info.now c.as_slice.result.now c.requires.class c.as_slice.ensures)) c.in-None.ensures.none
