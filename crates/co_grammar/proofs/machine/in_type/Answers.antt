use Rattle.std.proofs.Common.{sym, ◌∙◌}
use Rattle.co_rules.specs.declared.symbol.Nonterminal.TheVariants as nonterminal
use Rattle.co_rules.specs.Rule.{in_type}
use Rattle.co_grammar.proofs.Bounds.{outside, type-bounds}
use Rattle.co_grammar.proofs.machine.in_type.Goals as goal

pub returns-then-not-is_between : goal.returns-then-not-is_between
returns-then-not-is_between c =
    outside c.args.has_classes c.args.of nonterminal.Parameters nonterminal.Pointers c.args.terminal in_type type-bounds (sym c.is_between.ensures ∙ c.if-not-is_between.true)

pub returns : goal.returns
unfolding in_type
returns c = c.body_among.ensures
