use Rattle.std.proofs.Common.{arith, reverse}
use Rattle.std.proofs.lemmas.List.{length-reverse}
use Rattle.co_grammar.proofs.Levels.{levels_most}
use Rattle.co_grammar.proofs.stack.Stack.push.Goals as goal

pub overflow_add-self : goal.overflow_add-self
overflow_add-self c =
    let items = c.self.inside.symbols.items in
    grind (arith, c.self.invariant, c.self.inside.symbols.small, levels_most (reverse items), length-reverse items)
