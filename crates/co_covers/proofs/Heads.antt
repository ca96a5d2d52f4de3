-- The nonterminals that an expression begins.
use Rattle.std.proofs.Common.{◌≡◌, true, List, [], ◌∷◌, ◌++◌, append_assoc, refl, sym, subst, inl, inr}
use Rattle.co_lex.specs.declared.token.Word.TheVariants as word
use Rattle.co_rules.specs.declared.symbol.Nonterminal.{Nonterminal}
use Rattle.co_rules.specs.declared.symbol.Nonterminal.TheVariants as n
use Rattle.co_rules.specs.declared.symbol.Pattern.TheVariants as pattern
use Rattle.co_rules.specs.declared.symbol.Symbol.{Symbol}
use Rattle.co_rules.specs.declared.symbol.Symbol.TheVariants.{One, Maybe, Many, Close}
use Rattle.co_rules.specs.declared.symbol.Terminal.{Terminal}
use Rattle.co_rules.specs.Derives.{Begins, Derives, one}
use Rattle.co_rules.specs.Pattern.{admits}
use Rattle.co_rules.specs.Rule.{Rule, rule, rules, Stands}
use Rattle.co_covers.proofs.Those.{those, begins, stands-those}
use Rattle.co_covers.proofs.RulesOfExpressions.{of_unary, those_unary, of_expression, those_expression, expression-co_yield, expression-throw}
use Rattle.co_covers.proofs.RulesOfArguments.{of_value, those_value, value-co_yield, value-throw, of_arguments, those_arguments, arguments-co_yield, arguments-throw}

-- each of the rules stands in the list for the nonterminal too, with more behind its body
abbrev pub Carried : Nonterminal → List Symbol → List Rule → List Rule → Type 0
Carried N more qs [] = Unit {0}
Carried N more qs (r ∷ rs) = Stands (rule N r.head (r.body ++ more)) qs × Carried N more qs rs

pub carry : (N : Nonterminal) (more : List Symbol) (qs rs : List Rule) (r : Rule) → Carried N more qs rs → Stands r rs → Stands (rule N r.head (r.body ++ more)) qs
carry N more qs [] r c s = absurd s
carry N more qs (q ∷ rs) r c (inl e) = subst (λ x. Stands (rule N x.head (x.body ++ more)) qs) e c.0
carry N more qs (q ∷ rs) r c (inr s) = carry N more qs rs r c.1 s

pub carried : {M : Nonterminal} (N : Nonterminal) (more : List Symbol) (qs : List Rule) → those N rules ≡ qs → (rs : List Rule) → those M rules ≡ rs → (t : Terminal) (body : List Symbol) → Begins M t body → Carried N more qs rs → Begins N t (body ++ more)
carried {M} N more qs e rs f t body b c =
    subst (λ x. Begins N t (x ++ more)) b.4 (begins N qs e t b.0.head (b.0.body ++ more) (carry N more qs rs b.0 c (stands-those M rs f t body b)) b.3)

-- A nonterminal that an expression begins, with what stands behind the expression in its rules.
pub record OfExpression (N : Nonterminal) (tail : List Symbol) : Type 0 where
  pub yield : (t : Terminal) → admits (pattern.Keyword word.CoYield) t ≡ true → Begins N t (One n.Expression ∷ Close ∷ tail)
  pub throw : (t : Terminal) → admits (pattern.Keyword word.Throw) t ≡ true → Begins N t (Maybe n.Expression ∷ Close ∷ tail)
  pub unary : (t : Terminal) (body : List Symbol) → Begins n.Unary t body → Begins N t (body ++ Maybe n.Operators ∷ Maybe n.ExpressionRest ∷ tail)

-- what an operand and the rest of an expression derive
pub led : {N : Nonterminal} {tail R : List Symbol} {ts : List Terminal} → OfExpression N tail → Derives (One n.Unary ∷ Maybe n.Operators ∷ Maybe n.ExpressionRest ∷ tail ++ R) ts → Derives (One N ∷ R) ts
led {N} {tail} {R} o (one k rest body t ts b d) = one N R (body ++ Maybe n.Operators ∷ Maybe n.ExpressionRest ∷ tail) t ts (o.unary t body b) (subst (λ x. Derives x ts) (sym (append_assoc body (Maybe n.Operators ∷ Maybe n.ExpressionRest ∷ tail) R)) d)

pub expression_of : OfExpression n.Expression []
expression_of = record { yield = expression-co_yield; throw = expression-throw; unary = λ t body b. carried n.Expression (Maybe n.Operators ∷ Maybe n.ExpressionRest ∷ []) of_expression those_expression of_unary those_unary t body b (inr (inr (inl refl)), (inr (inr (inr (inl refl))), (inr (inr (inr (inr (inl refl)))), (inr (inr (inr (inr (inr (inl refl))))), (inr (inr (inr (inr (inr (inr (inl refl)))))), (inr (inr (inr (inr (inr (inr (inr (inl refl))))))), (inr (inr (inr (inr (inr (inr (inr (inr (inl refl)))))))), (inr (inr (inr (inr (inr (inr (inr (inr (inr (inl refl))))))))), (inr (inr (inr (inr (inr (inr (inr (inr (inr (inr (inl refl)))))))))), (inr (inr (inr (inr (inr (inr (inr (inr (inr (inr (inr (inl refl))))))))))), (inr (inr (inr (inr (inr (inr (inr (inr (inr (inr (inr (inr (inl refl)))))))))))), (inr (inr (inr (inr (inr (inr (inr (inr (inr (inr (inr (inr (inr (inl refl))))))))))))), tt)))))))))))) }

pub value_of : OfExpression n.Value []
value_of = record { yield = value-co_yield; throw = value-throw; unary = λ t body b. carried n.Value (Maybe n.Operators ∷ Maybe n.ExpressionRest ∷ []) of_value those_value of_unary those_unary t body b (inr (inr (inl refl)), (inr (inr (inr (inl refl))), (inr (inr (inr (inr (inl refl)))), (inr (inr (inr (inr (inr (inl refl))))), (inr (inr (inr (inr (inr (inr (inl refl)))))), (inr (inr (inr (inr (inr (inr (inr (inl refl))))))), (inr (inr (inr (inr (inr (inr (inr (inr (inl refl)))))))), (inr (inr (inr (inr (inr (inr (inr (inr (inr (inl refl))))))))), (inr (inr (inr (inr (inr (inr (inr (inr (inr (inr (inl refl)))))))))), (inr (inr (inr (inr (inr (inr (inr (inr (inr (inr (inr (inl refl))))))))))), (inr (inr (inr (inr (inr (inr (inr (inr (inr (inr (inr (inr (inl refl)))))))))))), (inr (inr (inr (inr (inr (inr (inr (inr (inr (inr (inr (inr (inr (inl refl))))))))))))), tt)))))))))))) }

pub arguments_of : OfExpression n.Arguments (Many n.NextArgument ∷ [])
arguments_of = record { yield = arguments-co_yield; throw = arguments-throw; unary = λ t body b. carried n.Arguments (Maybe n.Operators ∷ Maybe n.ExpressionRest ∷ Many n.NextArgument ∷ []) of_arguments those_arguments of_unary those_unary t body b (inr (inr (inl refl)), (inr (inr (inr (inl refl))), (inr (inr (inr (inr (inl refl)))), (inr (inr (inr (inr (inr (inl refl))))), (inr (inr (inr (inr (inr (inr (inl refl)))))), (inr (inr (inr (inr (inr (inr (inr (inl refl))))))), (inr (inr (inr (inr (inr (inr (inr (inr (inl refl)))))))), (inr (inr (inr (inr (inr (inr (inr (inr (inr (inl refl))))))))), (inr (inr (inr (inr (inr (inr (inr (inr (inr (inr (inl refl)))))))))), (inr (inr (inr (inr (inr (inr (inr (inr (inr (inr (inr (inl refl))))))))))), (inr (inr (inr (inr (inr (inr (inr (inr (inr (inr (inr (inr (inl refl)))))))))))), (inr (inr (inr (inr (inr (inr (inr (inr (inr (inr (inr (inr (inr (inl refl))))))))))))), tt)))))))))))) }
