-- A table has the rules of the nonterminals between two of them alone.
use Rattle.std.proofs.Common.{◌≡◌, Bool, true, false, ◌&&◌, cond, nat_eq, nat_le, List, [], ◌∷◌, Option, Some, None, refl, sym, ap, ◌∙◌}
use Rattle.co_rules.specs.declared.symbol.Nonterminal.{Nonterminal}
use Rattle.co_rules.specs.declared.symbol.Nonterminal.TheVariants as nonterminal
use Rattle.co_rules.specs.declared.symbol.Symbol.{Symbol}
use Rattle.co_rules.specs.declared.symbol.Terminal.{Terminal}
use Rattle.co_grammar.specs.Machine.{applies, is_usable, body_among, is_between}
use Rattle.co_rules.specs.Pattern.{admits, nonterminal_number}
use Rattle.co_rules.specs.Rule.{Rule, in_file, in_class, in_type, in_statement, in_head, in_local, in_value, in_argument, in_unary, in_operand}
use Rattle.co_rules.proofs.Sets.{never, eq_true, and_split}

abbrev pub all_between : Nonterminal → Nonterminal → List Rule → Bool
all_between first last [] = true
all_between first last (r ∷ rs) = is_between r.of first last && all_between first last rs

passed : (b : Bool) (body : List Symbol) (found : Option (List Symbol)) → b ≡ false → found ≡ None → cond b (Some body) found ≡ None
passed true body found e h = never (sym e)
passed false body found e h = h

not_of : (a b c : Bool) → a ≡ false → ((a && b) && c) ≡ false
not_of true b c e = never (sym e)
not_of false b c e = refl

apart : (b : Bool) → (b ≡ true → ⊥) → b ≡ false
apart true h = absurd (h refl)
apart false h = refl

differs : (n m first last : Nonterminal) → is_between m first last ≡ true → is_between n first last ≡ false → nat_eq (nonterminal_number m) (nonterminal_number n) ≡ false
differs n m first last h e = apart (nat_eq (nonterminal_number m) (nonterminal_number n)) (λ same. never (sym e ∙ (ap (λ k. nat_le (nonterminal_number first) k && nat_le k (nonterminal_number last)) (sym (eq_true (nonterminal_number m) (nonterminal_number n) same)) ∙ h)))

pub outside : (c : Bool) (n first last : Nonterminal) (t : Terminal) (rs : List Rule) → all_between first last rs ≡ true → is_between n first last ≡ false → body_among c n t rs ≡ None
outside c n first last t [] h e = refl
outside c n first last t (r ∷ rs) h e =
    let p = and_split (is_between r.of first last) (all_between first last rs) h in
    passed (applies c n t r) r.body (body_among c n t rs) (not_of (nat_eq (nonterminal_number r.of) (nonterminal_number n)) (admits r.head t) (is_usable c r.body) (differs n r.of first last p.0 e)) (outside c n first last t rs p.1 e)

pub file-bounds : all_between nonterminal.Item nonterminal.Const in_file ≡ true
unfolding in_file
file-bounds = refl

pub class-bounds : all_between nonterminal.Member nonterminal.DestructorBody in_class ≡ true
unfolding in_class
class-bounds = refl

pub type-bounds : all_between nonterminal.Parameters nonterminal.Pointers in_type ≡ true
unfolding in_type
type-bounds = refl

pub statement-bounds : all_between nonterminal.Block nonterminal.ForHead in_statement ≡ true
unfolding in_statement
statement-bounds = refl

pub head-bounds : all_between nonterminal.ForInit nonterminal.CatchParameter in_head ≡ true
unfolding in_head
head-bounds = refl

pub local-bounds : all_between nonterminal.AfterBuiltin nonterminal.LocalRest in_local ≡ true
unfolding in_local
local-bounds = refl

pub value-bounds : all_between nonterminal.Value nonterminal.Expression in_value ≡ true
unfolding in_value
value-bounds = refl

pub argument-bounds : all_between nonterminal.Arguments nonterminal.FirstPath in_argument ≡ true
unfolding in_argument
argument-bounds = refl

pub unary-bounds : all_between nonterminal.Unary nonterminal.TextArgument in_unary ≡ true
unfolding in_unary
unary-bounds = refl

pub operand-bounds : all_between nonterminal.Built nonterminal.Reference in_operand ≡ true
unfolding in_operand
operand-bounds = refl
