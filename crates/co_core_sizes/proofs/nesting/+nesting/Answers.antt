use Rattle.std.specs.Prelude.{◌≡◌, ◌<◌, false}
use Rattle.co_core.specs.Counts.{nests_within}
use Rattle.std.proofs.Common.{subst}
use Rattle.co_core_sizes.specs.Depths.{HeadHasDepth}
use Rattle.co_core_sizes.proofs.Deeper.{field_seen, greater_fits, info_deeper, no_deeper, noted_too_deep}
use Rattle.co_core_sizes.proofs.Options.{none_gives}
use Rattle.co_core_sizes.proofs.nesting.+nesting.Goals as goal

pub class_depth-returns-then-known-gt0-clause-none :
    goal.class_depth-returns-then-known-gt0-clause-none
class_depth-returns-then-known-gt0-clause-none t c =
    none_gives c.within.result (c.args.left < c.noted-known.result) (nests_within c.args.left c.args.classes.now c.args.class ≡ false)
    (λ less. noted_too_deep c.args.classes.now c.args.depths.now c.args.class.0 c.args.left c.noted-known.result c.requires c.noted-known.ensures c.if-known-gt0.true less) c.within.ensures.none

pub info_depth-note-requires-clause-depth : goal.info_depth-note-requires-clause-depth
info_depth-note-requires-clause-depth t c =
    info_deeper c.args.classes.now c.args.class.0 c.in-Some.depth c.args.info.now c.as_slice.result.now c.requires.class c.as_slice.ensures c.in-Some.ensures.some.1

pub info_depth-returns-in-Some-clause-some : goal.info_depth-returns-in-Some-clause-some
info_depth-returns-in-Some-clause-some t c =
    (no_deeper _ _ c.in-Some.ensures.some.0, info_deeper c.args.classes.now c.args.class.0 c.in-Some.depth c.args.info.now c.as_slice.result.now c.requires.class c.as_slice.ensures c.in-Some.ensures.some.1)

pub fields_depth-loop-rest-preserved : goal.fields_depth-loop-rest-preserved
fields_depth-loop-rest-preserved t c = (
  greater_fits c.deeper-deepest.result c.loop-rest.deepest c.in-Some.depth c.args.left c.deeper-deepest.ensures c.loop-rest.invariant.0 c.in-Some.ensures.some.0,
  c.head_depth.ensures.noted,
  field_seen c.args.classes.now c.loop-rest.deepest c.in-Some.depth c.deeper-deepest.result c.field-item.result c.loop-rest.rest.now c.args.fields.now c.in-len1-up.len_at_least c.field-item.is c.loop-rest.invariant.2
      (subst (λ h. HeadHasDepth c.args.classes.now h c.in-Some.depth) c.head.ensures c.in-Some.ensures.some.1) c.deeper-deepest.ensures,
)
