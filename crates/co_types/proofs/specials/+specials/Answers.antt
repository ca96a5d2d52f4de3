use Rattle.co_types.specs.Special.{all_allow, special_within}
use Rattle.co_types.proofs.Deeper.{allow_step, found_step}
use Rattle.co_types.proofs.specials.+specials.Goals as goal

pub fields_allow-loop-rest-preserved : goal.fields_allow-loop-rest-preserved
fields_allow-loop-rest-preserved t c =
    allow_step (λ d. special_within c.args.depth c.args.table.now d) c.loop-rest.rest.now c.field-item.result c.loop-rest.allowed c.field_allows.result c.and-allowed.result
    (all_allow (λ d. special_within c.args.depth c.args.table.now d) c.args.fields.now) c.in-len1-up.len_at_least c.field-item.is c.field_allows.ensures c.and-allowed.ensures c.loop-rest.invariant

pub special_within-returns-in-Some : goal.special_within-returns-in-Some
special_within-returns-in-Some t c =
    found_step c.args.depth c.args.table.now c.args.class c.in-Some.info.now c.as_slice.result.now c.fields_allow.result c.of_class.result c.if-depth-eq0.false c.in-Some.ensures.value c.as_slice.ensures c.fields_allow.ensures c.of_class.ensures
