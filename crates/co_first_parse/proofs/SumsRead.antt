-- The sums that are read are those of the grammar, at names of which these are the first.
use Rattle.std.proofs.Common.{◌≡◌, ℕ, zero, suc, ◌+◌, ◌^◌, ◌<◌, ◌≤◌, Bool, true, false, cond, nat_le, List, [], ◌∷◌, ◌++◌, length, slice_get, Option, Some, None, Contains, All, refl, sym, ap, subst, ◌∙◌, arith}
use Rattle.std.proofs.lemmas.Bool.{leb-true, le-leb}
use Rattle.std.proofs.lemmas.List.Elements.{All-nil, All-cons}
use Rattle.co_base.specs.declared.span.Span.{Span}
use Rattle.co_first_tree.specs.declared.tree.Sum.{Sum}
use Rattle.co_first_tree.specs.declared.tree.Sum.TheVariants as sum
use Rattle.co_first_tree.specs.declared.tree.Term.{Term}
use Rattle.co_first_tree.specs.declared.tree.SumOp.{SumOp}
use Rattle.co_first_tree.specs.declared.tree.SumOp.TheVariants.{Add, Sub}
use Rattle.co_first_tree.specs.declared.tree.Atom.{Atom}
use Rattle.co_first_tree.specs.declared.tree.Atom.TheVariants as operand
use Rattle.co_first_tree.specs.Form.{Scope, AtomStands, SumStands}
use Rattle.co_first_parse.specs.declared.token.Mark.{Mark}
use Rattle.co_first_parse.specs.declared.token.Mark.TheVariants as m
use Rattle.co_first_parse.specs.declared.token.Kind.{Kind}
use Rattle.co_first_parse.specs.declared.token.Kind.TheVariants.{Fixed, Name, Number}
use Rattle.co_first_parse.specs.declared.token.Token.{Token}
use Rattle.co_first_parse.specs.Spelling.{token}
use Rattle.co_first_parse.specs.Grammar.{Names, sign, mark_of, IsAtom, term, AreTerms, none, more, IsSum, literal, variable as variable_sum, IsLawful, AreLawful}
use Rattle.co_first_parse.specs.Known.{Known}
use Rattle.co_first_parse.specs.Parse.{variable, op_of, next_op, named_atom, atom_of, joined, lone, terms_of, limited, sum_by, sum_of, sum_and, take_mark, ◌>>=◌}
use Rattle.co_first_parse.proofs.Look.{AreDistinct, variable_is, variable_from, get_longer, get_shorter}
use Rattle.co_first_parse.proofs.Marks.{bound, chosen, mark_taken, mark_takes}
use Rattle.co_first_parse.proofs.Terms.{terms_end}

pub pair_parts : {A S : Type 0} (a b : A) (s t : S) → ◌≡◌ {A = Option (A × S)} (Some (a, s)) (Some (b, t)) → (a ≡ b) × (s ≡ t)
pair_parts {A} {S} a b s t h = let e : ◌≡◌ {A = A × S} (a, s) (b, t) = cc in (ap (λ p. p.0) e, ap (λ p. p.1) e)

abbrev pub scope_of : Known → Scope
scope_of known = record { declared = length known.names; visible = known.visible }

-- the names of the whole begin with those that are known
pub record Agrees (names : Names) (known : Known) : Type 0 where
  pub later : Names
  pub longer : names ≡ known.names ++ later
  pub below : (x : ℕ) → Contains known.visible x → x < length known.names
  pub distinct : AreDistinct names

pub var_sound : (names : Names) (known : Known) (name : List ℕ) (x : ℕ) → Agrees names known → variable known name ≡ Some x → (slice_get names x ≡ Some name) × Contains known.visible x
var_sound names known name x ag h =
    let v = variable_is known name x h in
    (subst (λ ns. slice_get ns x ≡ Some name) (sym ag.longer) (get_longer known.names ag.later x name v.0), v.1)

pub var_complete : (names : Names) (known : Known) (name : List ℕ) (x : ℕ) → Agrees names known → slice_get names x ≡ Some name → Contains known.visible x → variable known name ≡ Some x
var_complete names known name x ag at seen =
    variable_from known name x
    (λ i j n hi hj. ag.distinct i j n (longer i n hi) (longer j n hj))
    (get_shorter known.names ag.later x name (ag.below x seen) (subst (λ ns. slice_get ns x ≡ Some name) ag.longer at)) seen
  where
    longer : (i : ℕ) (n : List ℕ) → slice_get known.names i ≡ Some n → slice_get names i ≡ Some n
    longer i n h = subst (λ ns. slice_get ns i ≡ Some n) (sym ag.longer) (get_longer known.names ag.later i n h)

-- ---- operands

named_atom_is : (found : Option ℕ) (atom : Atom) → named_atom found ≡ Some atom → (x : ℕ) × (found ≡ Some x) × (operand.Name x ≡ atom)
named_atom_is None atom h = absurd cc
named_atom_is (Some x) atom h = (x, refl, cc)

atom_sound : (names : Names) (known : Known) (kind : Kind) (atom : Atom) → Agrees names known → IsLawful kind → atom_of known kind ≡ Some atom → IsAtom names atom kind × AtomStands (scope_of known) atom
unfolding atom_of
atom_sound names known (Fixed mark) atom ag law h = absurd cc
atom_sound names known (Number value) atom ag law h =
    let e : operand.Int value ≡ atom = cc in
    subst (λ a. IsAtom names a (Number value) × AtomStands (scope_of known) a) e (refl, law)
atom_sound names known (Name name) atom ag law h =
    let n = named_atom_is (variable known name) atom h in
    let v = var_sound names known name n.0 ag n.1 in
    subst (λ a. IsAtom names a (Name name) × AtomStands (scope_of known) a) n.2 ((name, refl, v.0), v.1)

atom_complete : (names : Names) (known : Known) (kind : Kind) (atom : Atom) → Agrees names known → IsAtom names atom kind → AtomStands (scope_of known) atom → atom_of known kind ≡ Some atom
unfolding atom_of
atom_complete names known kind (operand.Int value) ag is stands = ap (atom_of known) is
atom_complete names known kind (operand.Name x) ag is stands =
    ap (atom_of known) is.1 ∙ ap named_atom (var_complete names known is.0 x ag is.2 stands)

-- ---- terms

op_is : (kind : Kind) (op : SumOp) → op_of kind ≡ Some op → kind ≡ Fixed (mark_of op)
op_is (Fixed m.Plus) op h = let e : Add ≡ op = cc in ap (λ o. Fixed (mark_of o)) e
op_is (Fixed m.Minus) op h = let e : Sub ≡ op = cc in ap (λ o. Fixed (mark_of o)) e
op_is _ op h = absurd cc

op_from : (op : SumOp) → op_of (Fixed (mark_of op)) ≡ Some op
op_from Add = refl
op_from Sub = refl

abbrev TermStands : Known → Term → Type 0
TermStands known t = AtomStands (scope_of known) t.atom

pub record TermsRead (names : Names) (known : Known) (terms : List Term) (tokens rest : List Token) : Type 0 where
  pub are : AreTerms names terms tokens rest
  pub stand : All (TermStands known) terms
  pub law : AreLawful rest

empty_read : (names : Names) (known : Known) (terms : List Term) (tokens rest : List Token) → [] ≡ terms → tokens ≡ rest → AreLawful tokens → TermsRead names known terms tokens rest
empty_read names known terms tokens rest a b law =
    subst (λ ts. TermsRead names known ts tokens rest) a (subst (λ r. TermsRead names known [] tokens r) b (record { are = none tokens; stand = All-nil (TermStands known); law = law }))

lone_sound : (names : Names) (known : Known) (found : Option SumOp) (first : Token) (terms : List Term) (rest : List Token) → AreLawful (first ∷ []) → lone found first ≡ Some (terms, rest) → TermsRead names known terms (first ∷ []) rest
lone_sound names known None first terms rest law h = let p = pair_parts [] terms (first ∷ []) rest h in empty_read names known terms (first ∷ []) rest p.0 p.1 law
lone_sound names known (Some op) first terms rest law h = absurd cc

join_sound : (names : Names) (known : Known) (found : Option SumOp) (atom : Option Atom) (others : Option (List Term × List Token)) (first second : Token) (tokens : List Token) (terms : List Term) (rest : List Token)
    → op_of first.kind ≡ found → atom_of known second.kind ≡ atom → ((ts : List Term) (r : List Token) → others ≡ Some (ts, r) → TermsRead names known ts tokens r)
    → Agrees names known → AreLawful (first ∷ second ∷ tokens) → joined found atom others (first ∷ second ∷ tokens) ≡ Some (terms, rest) → TermsRead names known terms (first ∷ second ∷ tokens) rest
join_sound names known None atom others first second tokens terms rest o a ih ag law h =
    let p = pair_parts [] terms (first ∷ second ∷ tokens) rest h in
    empty_read names known terms (first ∷ second ∷ tokens) rest p.0 p.1 law
join_sound names known (Some op) None others first second tokens terms rest o a ih ag law h = absurd cc
join_sound names known (Some op) (Some atom) None first second tokens terms rest o a ih ag law h = absurd cc
join_sound names known (Some op) (Some atom) (Some r) first second tokens terms rest o a ih ag law h =
    let p = pair_parts (term op atom ∷ r.0) terms r.1 rest h in
    let t = ih r.0 r.1 refl in
    let s = atom_sound names known second.kind atom ag law.1.0 a in
    let are : AreTerms names (term op atom ∷ r.0) (first ∷ second ∷ tokens) r.1 =
    subst (λ k. AreTerms names (term op atom ∷ r.0) (token k first.span ∷ second ∷ tokens) r.1) (sym (op_is first.kind op o))
    (more op atom r.0 second.kind first.span second.span tokens r.1 s.0 t.are) in
    subst (λ ts. TermsRead names known ts (first ∷ second ∷ tokens) rest) p.0
    (subst (λ x. TermsRead names known (term op atom ∷ r.0) (first ∷ second ∷ tokens) x) p.1
    (record { are = are; stand = All-cons (TermStands known) (term op atom) r.0 s.1 t.stand; law = t.law }))

terms_sound : (names : Names) (known : Known) (tokens : List Token) (terms : List Term) (rest : List Token) → Agrees names known → AreLawful tokens → terms_of known tokens ≡ Some (terms, rest) → TermsRead names known terms tokens rest
unfolding terms_of
terms_sound names known [] terms rest ag law h = let p = pair_parts {A = List Term} {S = List Token} [] terms [] rest h in empty_read names known terms [] rest p.0 p.1 law
terms_sound names known (first ∷ []) terms rest ag law h = lone_sound names known (op_of first.kind) first terms rest law h
terms_sound names known (first ∷ second ∷ tokens) terms rest ag law h =
    join_sound names known (op_of first.kind) (atom_of known second.kind) (terms_of known tokens) first second tokens terms rest refl refl
    (λ ts r e. terms_sound names known tokens ts r ag law.1.1 e) ag law h

terms_complete : (names : Names) (known : Known) (terms : List Term) (tokens after : List Token) → Agrees names known → AreTerms names terms tokens after → next_op after ≡ None → All (TermStands known) terms
    → terms_of known tokens ≡ Some (terms, after)
unfolding terms_of
terms_complete names known terms tokens after ag (none _) e all = terms_end known after e
terms_complete names known terms tokens after ag (more op atom others kind a b rest _ is are) e all =
    let head : AtomStands (scope_of known) atom = all 0 (term op atom) (omega arith) in
    let tail : All (TermStands known) others = λ k d l. all (suc k) d (omega arith) in
    let whole = sign (mark_of op) a ∷ token kind b ∷ rest in
    ap (λ o. joined o (atom_of known kind) (terms_of known rest) whole) (op_from op)
    ∙ (ap (λ x. joined (Some op) x (terms_of known rest) whole) (atom_complete names known kind atom ag is head)
    ∙ ap (λ r. joined (Some op) (Some atom) r whole) (terms_complete names known others rest after ag are e tail))

-- ---- sums

pub record SumRead (names : Names) (known : Known) (value : Sum) (tokens rest : List Token) : Type 0 where
  pub is : IsSum names value tokens rest
  pub stand : SumStands (scope_of known) value
  pub law : AreLawful rest

limit_sound : (names : Names) (known : Known) (name : List ℕ) (x : ℕ) (at : Span) (tokens : List Token) (terms : List Term) (between : List Token) (value : Sum) (rest : List Token)
    → slice_get names x ≡ Some name → Contains known.visible x → TermsRead names known terms tokens between → limited x at (terms, between) ≡ Some (value, rest) → SumRead names known value (token (Name name) at ∷ tokens) rest
limit_sound names known name x at tokens terms between value rest n seen t h =
    let c = chosen (nat_le (length terms) 64) (Some (sum.Name x terms at, between)) (value, rest) h in
    let p = pair_parts (sum.Name x terms at) value between rest c.1 in
    subst (λ v. SumRead names known v (token (Name name) at ∷ tokens) rest) p.0
    (subst (λ r. SumRead names known (sum.Name x terms at) (token (Name name) at ∷ tokens) r) p.1
    (record { is = variable_sum x name terms at tokens between n t.are; stand = (seen, leb-true (length terms) 64 c.0, t.stand); law = t.law }))

sum_sound_by : (names : Names) (known : Known) (kind : Kind) (at : Span) (tokens : List Token) (value : Sum) (rest : List Token) → Agrees names known → IsLawful kind → AreLawful tokens
    → sum_by known kind at tokens ≡ Some (value, rest) → SumRead names known value (token kind at ∷ tokens) rest
unfolding sum_by
sum_sound_by names known (Fixed mark) at tokens value rest ag law laws h = absurd cc
sum_sound_by names known (Number number) at tokens value rest ag law laws h =
    let p = pair_parts (sum.Int number at) value tokens rest h in
    subst (λ v. SumRead names known v (token (Number number) at ∷ tokens) rest) p.0
    (subst (λ r. SumRead names known (sum.Int number at) (token (Number number) at ∷ tokens) r) p.1
    (record { is = literal number at tokens; stand = law; law = laws }))
sum_sound_by names known (Name name) at tokens value rest ag law laws h =
    let v = bound (variable known name) (λ x. terms_of known tokens >>= limited x at) (value, rest) h in
    let t = bound (terms_of known tokens) (limited v.0 at) (value, rest) v.2 in
    let s = var_sound names known name v.0 ag v.1 in
    limit_sound names known name v.0 at tokens t.0.0 t.0.1 value rest s.0 s.1 (terms_sound names known tokens t.0.0 t.0.1 ag laws t.1) t.2

pub sum_sound : (names : Names) (known : Known) (tokens : List Token) (value : Sum) (rest : List Token) → Agrees names known → AreLawful tokens → sum_of known tokens ≡ Some (value, rest) → SumRead names known value tokens rest
unfolding sum_of
sum_sound names known [] value rest ag law h = absurd cc
sum_sound names known (first ∷ tokens) value rest ag law h = sum_sound_by names known first.kind first.span tokens value rest ag law.0 law.1 h

pub sum_complete : (names : Names) (known : Known) (value : Sum) (tokens after : List Token) → Agrees names known → IsSum names value tokens after → next_op after ≡ None → SumStands (scope_of known) value
    → sum_of known tokens ≡ Some (value, after)
unfolding sum_of sum_by
sum_complete names known value tokens after ag (literal number at _) e stand = refl
sum_complete names known value tokens after ag (variable_sum x name terms at rest _ n are) e stand =
    ap (λ o. o >>= (λ y. terms_of known rest >>= limited y at)) (var_complete names known name x ag n stand.0)
    ∙ (ap (λ o. o >>= limited x at) (terms_complete names known terms rest after ag are e stand.2)
    ∙ ap (λ b. cond b (Some (sum.Name x terms at, after)) None) (le-leb (length terms) 64 stand.1))

-- ---- a sum and a mark

pub record AndRead (names : Names) (known : Known) (mark : Mark) (value : Sum) (tokens rest : List Token) : Type 0 where
  pub at : Span
  pub is : IsSum names value tokens (sign mark at ∷ rest)
  pub stand : SumStands (scope_of known) value
  pub law : AreLawful rest

pub and_sound : (names : Names) (known : Known) (mark : Mark) (tokens : List Token) (value : Sum) (rest : List Token) → Agrees names known → AreLawful tokens → sum_and mark known tokens ≡ Some (value, rest)
    → AndRead names known mark value tokens rest
unfolding sum_and
and_sound names known mark tokens value rest ag law h =
    let s = bound (sum_of known tokens) (λ r. take_mark mark r.1 >>= (λ last. Some (r.0, last))) (value, rest) h in
    let t = bound (take_mark mark s.0.1) (λ last. Some (s.0.0, last)) (value, rest) s.2 in
    let p = pair_parts s.0.0 value t.0 rest t.2 in
    let r = sum_sound names known tokens s.0.0 s.0.1 ag law s.1 in
    let k = mark_taken mark s.0.1 t.0 t.1 in
    let is : IsSum names s.0.0 tokens (sign mark k.0 ∷ t.0) = subst (λ ts. IsSum names s.0.0 tokens ts) k.1 r.is in
    let laws : AreLawful (sign mark k.0 ∷ t.0) = subst AreLawful k.1 r.law in
    subst (λ v. AndRead names known mark v tokens rest) p.0
    (subst (λ x. AndRead names known mark s.0.0 tokens x) p.1 (record { at = k.0; is = is; stand = r.stand; law = laws.1 }))

pub and_complete : (names : Names) (known : Known) (mark : Mark) (at : Span) (value : Sum) (tokens rest : List Token) → Agrees names known → op_of (Fixed mark) ≡ None → IsSum names value tokens (sign mark at ∷ rest)
    → SumStands (scope_of known) value → sum_and mark known tokens ≡ Some (value, rest)
unfolding sum_and
and_complete names known mark at value tokens rest ag e is stand =
    ap (λ o. o >>= (λ r. take_mark mark r.1 >>= (λ last. Some (r.0, last)))) (sum_complete names known value tokens (sign mark at ∷ rest) ag is e stand)
    ∙ ap (λ o. o >>= (λ last. Some (value, last))) (mark_takes mark at rest)
