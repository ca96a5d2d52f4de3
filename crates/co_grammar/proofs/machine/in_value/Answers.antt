use Rattle.std.proofs.Common.{sym, ◌∙◌}
use Rattle.co_rules.specs.declared.symbol.Nonterminal.TheVariants as nonterminal
use Rattle.co_rules.specs.Rule.{in_value}
use Rattle.co_grammar.proofs.Bounds.{outside, value-bounds}
use Rattle.co_grammar.proofs.machine.in_value.Goals as goal

pub returns-then-not-is_between : goal.returns-then-not-is_between
returns-then-not-is_between c =
    outside c.args.has_classes c.args.of nonterminal.Value nonterminal.Expression c.args.terminal in_value value-bounds (sym c.is_between.ensures ∙ c.if-not-is_between.true)

pub returns : goal.returns
unfolding in_value
returns c = c.body_among.ensures
