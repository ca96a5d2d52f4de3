-- Expressions where a type or a path could stand in their place.
use Rattle.std.proofs.Common.{◌≡◌, ℕ, Bool, true, false, not, List, [], ◌∷◌, ◌++◌, append_assoc, ◌&&◌, ◌⊎◌, inl, inr, codes, refl, ap, ◌∙◌, sym, subst}
use Rattle.co_lex.specs.declared.token.TokenKind.TheVariants as kind
use Rattle.co_lex.specs.declared.token.Mark.TheVariants as mark
use Rattle.co_lex.specs.declared.token.Word.{Word}
use Rattle.co_lex.specs.declared.token.Word.TheVariants as word
use Rattle.co_rules.specs.Names.{known, is_class}
use Rattle.co_rules.specs.Terminal.{terminal_of}
use Rattle.co_rules.specs.declared.symbol.Known.TheVariants as known_name
use Rattle.co_rules.specs.declared.symbol.Nonterminal.{Nonterminal}
use Rattle.co_rules.specs.declared.symbol.Nonterminal.TheVariants as n
use Rattle.co_rules.specs.declared.symbol.Pattern.TheVariants as pattern
use Rattle.co_rules.specs.declared.symbol.Symbol.{Symbol}
use Rattle.co_rules.specs.declared.symbol.Symbol.TheVariants.{Token, One, Maybe, Greedy, Close}
use Rattle.co_rules.specs.declared.symbol.Terminal.{Terminal}
use Rattle.co_rules.specs.declared.symbol.Terminal.TheVariants as terminal
use Rattle.co_rules.specs.Derives.{Begins, Derives, some, none, one}
use Rattle.co_rules.specs.Pattern.{admits}
use Rattle.co_tree.specs.declared.expressions.UnaryOperator.{UnaryOperator}
use Rattle.co_tree.specs.declared.expressions.UnaryOperator.TheVariants as unary
use Rattle.co_tree.specs.Piece.{Piece, opens, w}
use Rattle.co_tree.specs.Sentence.{unary_token, truth, global}
use Rattle.co_covers.proofs.Seen.{seen}
use Rattle.co_rules.specs.Rule.{Rule, rule, rules, Stands}
use Rattle.co_rules.proofs.Sets.{never}
use Rattle.co_covers.proofs.Those.{those, begins, stands-those}
use Rattle.co_covers.proofs.Heads.{Carried, carry, carried}
use Rattle.co_covers.proofs.RulesOfExpressions.{of_unary, those_unary, of_postfix, those_postfix, of_operators, those_operators, of_expression_rest, those_expression_rest}
use Rattle.co_covers.proofs.RulesOfArguments.{of_first_argument, those_first_argument, first_argument-co_yield, first_argument-throw}
use Rattle.co_covers.proofs.RulesOfStatements.{of_statement, those_statement, statement-co_yield, statement-throw, of_for_init, those_for_init, for_init-co_yield, for_init-throw, of_after_other, those_after_other}

-- the rules of an operand that begin with no type and no path, and those that do
abbrev pub plain_rules : List Rule
plain_rules =
    rule n.Unary pattern.UnaryOperator (One n.Unary ∷ Close ∷ []) ∷
    rule n.Unary (pattern.Keyword word.New) (One n.Base ∷ Greedy n.NewRest pattern.NewMark ∷ Close ∷ []) ∷
    rule n.Unary (pattern.Keyword word.Delete) (One n.Unary ∷ Close ∷ []) ∷
    rule n.Unary (pattern.Punctuator mark.Scope) (One n.GlobalScope ∷ []) ∷
    rule n.Unary (pattern.Punctuator mark.OpenParen) (One n.Expression ∷ Token (pattern.Punctuator mark.CloseParen) ∷ Close ∷ Maybe n.Postfix ∷ []) ∷
    rule n.Unary (pattern.Spelled known_name.Corun) (Token (pattern.Punctuator mark.Scope) ∷ One n.RunName ∷ Maybe n.Postfix ∷ []) ∷
    rule n.Unary (pattern.Keyword word.StaticCast) (Token (pattern.Punctuator mark.Less) ∷ One n.TypeId ∷ Token (pattern.Punctuator mark.Greater) ∷ One n.Condition ∷ Maybe n.Postfix ∷ []) ∷
    rule n.Unary pattern.Literal (Maybe n.Postfix ∷ []) ∷ []

abbrev pub other_rules : List Rule
other_rules =
    rule n.Unary pattern.BuiltinType (One n.Built ∷ Maybe n.Postfix ∷ []) ∷
    rule n.Unary (pattern.Spelled known_name.Std) (Token (pattern.Punctuator mark.Scope) ∷ One n.LibraryOperand ∷ Maybe n.Postfix ∷ []) ∷
    rule n.Unary pattern.ClassName (One n.ClassOperand ∷ Maybe n.Postfix ∷ []) ∷
    rule n.Unary pattern.OtherName (Maybe n.Scope ∷ Maybe n.Postfix ∷ []) ∷ []

these : of_unary ≡ plain_rules ++ other_rules
these = refl

stands_either : (xs ys : List Rule) (r : Rule) → Stands r (xs ++ ys) → Stands r xs ⊎ Stands r ys
stands_either [] ys r s = inr s
stands_either (x ∷ xs) ys r (inl e) = inl (inl e)
stands_either (x ∷ xs) ys r (inr s) = elim (stands_either xs ys r s) [ inl l ↦ inl (inr l) | inr k ↦ inr k ]

-- none of the rules begins with the terminal
abbrev pub Refused : Terminal → List Rule → Type 0
Refused t [] = Unit {0}
Refused t (r ∷ rs) = (admits r.head t ≡ false) × Refused t rs

refuse : (t : Terminal) (rs : List Rule) (r : Rule) → Refused t rs → Stands r rs → admits r.head t ≡ true → ⊥
refuse t [] r f s h = absurd s
refuse t (q ∷ rs) r f (inl e) h = never (sym f.0 ∙ (ap (λ x. admits x.head t) e ∙ h))
refuse t (q ∷ rs) r f (inr s) h = refuse t rs r f.1 s h

-- the first terminal begins no type and no path
abbrev pub IsPlainFirst : List Terminal → Type 0
IsPlainFirst [] = Unit {0}
IsPlainFirst (t ∷ ts) = Refused t other_rules

-- A nonterminal that an expression begins where a type could stand in its place, with what stands behind the expression.
pub record OfPlain (N : Nonterminal) (tail : List Symbol) : Type 0 where
  pub yield : (t : Terminal) → admits (pattern.Keyword word.CoYield) t ≡ true → Begins N t (One n.Expression ∷ Close ∷ tail)
  pub throw : (t : Terminal) → admits (pattern.Keyword word.Throw) t ≡ true → Begins N t (Maybe n.Expression ∷ Close ∷ tail)
  pub unary : (t : Terminal) (body : List Symbol) → Refused t other_rules → Begins n.Unary t body → Begins N t (body ++ Maybe n.Operators ∷ Maybe n.ExpressionRest ∷ tail)

plain_carried : (N : Nonterminal) (more : List Symbol) (qs : List Rule) → those N rules ≡ qs → Carried N more qs plain_rules → (t : Terminal) (body : List Symbol) → Refused t other_rules → Begins n.Unary t body → Begins N t (body ++ more)
plain_carried N more qs e c t body f b =
    elim (stands_either plain_rules other_rules b.0 (stands-those n.Unary of_unary those_unary t body b)) [
      | inl s ↦ subst (λ x. Begins N t (x ++ more)) b.4 (begins N qs e t b.0.head (b.0.body ++ more) (carry N more qs plain_rules b.0 c s) b.3)
      | inr s ↦ absurd (refuse t other_rules b.0 f s b.3)
    ]

pub plain_led : {N : Nonterminal} {tail R : List Symbol} {ts : List Terminal} → OfPlain N tail → IsPlainFirst ts → Derives (One n.Unary ∷ Maybe n.Operators ∷ Maybe n.ExpressionRest ∷ tail ++ R) ts → Derives (One N ∷ R) ts
plain_led {N} {tail} {R} o f (one k rest body t ts b d) =
    one N R (body ++ Maybe n.Operators ∷ Maybe n.ExpressionRest ∷ tail) t ts (o.unary t body f b) (subst (λ x. Derives x ts) (sym (append_assoc body (Maybe n.Operators ∷ Maybe n.ExpressionRest ∷ tail) R)) d)

pub first_argument_of : OfPlain n.FirstArgument ([])
first_argument_of = record { yield = first_argument-co_yield; throw = first_argument-throw; unary = plain_carried n.FirstArgument (Maybe n.Operators ∷ Maybe n.ExpressionRest ∷ []) of_first_argument those_first_argument (inr (inr (inl refl)), (inr (inr (inr (inl refl))), (inr (inr (inr (inr (inl refl)))), (inr (inr (inr (inr (inr (inl refl))))), (inr (inr (inr (inr (inr (inr (inl refl)))))), (inr (inr (inr (inr (inr (inr (inr (inl refl))))))), (inr (inr (inr (inr (inr (inr (inr (inr (inl refl)))))))), (inr (inr (inr (inr (inr (inr (inr (inr (inr (inl refl))))))))), tt)))))))) }

pub statement_of : OfPlain n.Statement (Token (pattern.Punctuator mark.Semicolon) ∷ [])
statement_of = record { yield = statement-co_yield; throw = statement-throw; unary = plain_carried n.Statement (Maybe n.Operators ∷ Maybe n.ExpressionRest ∷ Token (pattern.Punctuator mark.Semicolon) ∷ []) of_statement those_statement (inr (inr (inr (inr (inr (inr (inr (inr (inr (inr (inr (inr (inl refl)))))))))))), (inr (inr (inr (inr (inr (inr (inr (inr (inr (inr (inr (inr (inr (inl refl))))))))))))), (inr (inr (inr (inr (inr (inr (inr (inr (inr (inr (inr (inr (inr (inr (inl refl)))))))))))))), (inr (inr (inr (inr (inr (inr (inr (inr (inr (inr (inr (inr (inr (inr (inr (inl refl))))))))))))))), (inr (inr (inr (inr (inr (inr (inr (inr (inr (inr (inr (inr (inr (inr (inr (inr (inl refl)))))))))))))))), (inr (inr (inr (inr (inr (inr (inr (inr (inr (inr (inr (inr (inr (inr (inr (inr (inr (inl refl))))))))))))))))), (inr (inr (inr (inr (inr (inr (inr (inr (inr (inr (inr (inr (inr (inr (inr (inr (inr (inr (inl refl)))))))))))))))))), (inr (inr (inr (inr (inr (inr (inr (inr (inr (inr (inr (inr (inr (inr (inr (inr (inr (inr (inr (inl refl))))))))))))))))))), tt)))))))) }

pub for_init_of : OfPlain n.ForInit (Token (pattern.Punctuator mark.Semicolon) ∷ [])
for_init_of = record { yield = for_init-co_yield; throw = for_init-throw; unary = plain_carried n.ForInit (Maybe n.Operators ∷ Maybe n.ExpressionRest ∷ Token (pattern.Punctuator mark.Semicolon) ∷ []) of_for_init those_for_init (inr (inr (inr (inl refl))), (inr (inr (inr (inr (inl refl)))), (inr (inr (inr (inr (inr (inl refl))))), (inr (inr (inr (inr (inr (inr (inl refl)))))), (inr (inr (inr (inr (inr (inr (inr (inl refl))))))), (inr (inr (inr (inr (inr (inr (inr (inr (inl refl)))))))), (inr (inr (inr (inr (inr (inr (inr (inr (inr (inl refl))))))))), (inr (inr (inr (inr (inr (inr (inr (inr (inr (inr (inl refl)))))))))), tt)))))))) }

-- ---- what stands behind a path, all by one nonterminal

pub after_other : {R : List Symbol} {ts : List Terminal} → Derives (Maybe n.Postfix ∷ Maybe n.Operators ∷ Maybe n.ExpressionRest ∷ R) ts → Derives (Maybe n.AfterOther ∷ R) ts
after_other {R} (some k rest body t ts b d) =
    some n.AfterOther R (body ++ Maybe n.Operators ∷ Maybe n.ExpressionRest ∷ []) t ts (carried n.AfterOther (Maybe n.Operators ∷ Maybe n.ExpressionRest ∷ []) of_after_other those_after_other of_postfix those_postfix t body b (inr (inl refl), (inr (inr (inl refl)), (inr (inr (inr (inl refl))), tt)))) (subst (λ x. Derives x ts) (sym (append_assoc body (Maybe n.Operators ∷ Maybe n.ExpressionRest ∷ []) R)) d)
after_other {R} (none k rest ts (some j more body t us b d)) =
    some n.AfterOther R (body ++ Maybe n.ExpressionRest ∷ []) t us (carried n.AfterOther (Maybe n.ExpressionRest ∷ []) of_after_other those_after_other of_operators those_operators t body b (inr (inr (inr (inr (inl refl)))), tt)) (subst (λ x. Derives x us) (sym (append_assoc body (Maybe n.ExpressionRest ∷ []) R)) d)
after_other {R} (none k rest ts (none j more us (some i last body t vs b d))) =
    some n.AfterOther R (body ++ []) t vs (carried n.AfterOther [] of_after_other those_after_other of_expression_rest those_expression_rest t body b (inr (inr (inr (inr (inr (inl refl))))), (inr (inr (inr (inr (inr (inr (inl refl)))))), tt))) (subst (λ x. Derives x vs) (sym (append_assoc body [] R)) d)
after_other {R} (none k rest ts (none j more us (none i last vs d))) = none n.AfterOther R vs d

-- ---- expressions that begin with no type and no path

and_false : (a : Bool) → (a && false) ≡ false
and_false true = refl
and_false false = refl

pub corun_first : (C : List (List ℕ)) → Refused (terminal_of C (kind.Name (codes "corun"))) other_rules
unfolding known admits
corun_first C = (refl, (refl, (and_false (is_class C (codes "corun")), (and_false (not (is_class C (codes "corun"))), tt))))

pub unary_first : (C : List (List ℕ)) (op : UnaryOperator) (ps : List Piece) (us : List Terminal) → IsPlainFirst (seen C (unary_token op ∷ ps) us)
unfolding admits
unary_first C unary.Plus ps us = (refl, (refl, (refl, (refl, tt))))
unary_first C unary.Minus ps us = (refl, (refl, (refl, (refl, tt))))
unary_first C unary.Not ps us = (refl, (refl, (refl, (refl, tt))))
unary_first C unary.Complement ps us = (refl, (refl, (refl, (refl, tt))))
unary_first C unary.Dereference ps us = (refl, (refl, (refl, (refl, tt))))
unary_first C unary.AddressOf ps us = (refl, (refl, (refl, (refl, tt))))
unary_first C unary.Increment ps us = (refl, (refl, (refl, (refl, tt))))
unary_first C unary.Decrement ps us = (refl, (refl, (refl, (refl, tt))))
unary_first C unary.Await ps us = (refl, (refl, (refl, (refl, tt))))

pub global_first : (C : List (List ℕ)) (is_global : Bool) (x : Word) (ps : List Piece) (us : List Terminal) → Refused (terminal.Word x) other_rules → IsPlainFirst (seen C (global is_global ++ opens ∷ w x ∷ ps) us)
unfolding admits
global_first C true x ps us h = (refl, (refl, (refl, (refl, tt))))
global_first C false x ps us h = h

pub truth_first : (C : List (List ℕ)) (value : Bool) (us : List Terminal) → IsPlainFirst (seen C (truth value ∷ []) us)
unfolding admits
truth_first C true us = (refl, (refl, (refl, (refl, tt))))
truth_first C false us = (refl, (refl, (refl, (refl, tt))))
