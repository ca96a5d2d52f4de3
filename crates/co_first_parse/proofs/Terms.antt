-- The terms that were read, and those that are left.
use Rattle.std.proofs.Common.{◌≡◌, ℕ, ◌+◌, List, [], ◌∷◌, ◌++◌, length, append_assoc, slice_get, drop, Option, Some, None, refl, sym, ap, subst, ◌∙◌, arith}
use Rattle.std.specs.Prelude.{Result, Ok, Err}
use Rattle.std.proofs.lemmas.List.{append-nil}
use Rattle.co_first_parse.specs.declared.fault.ParseFault.{ParseFault}
use Rattle.co_first_parse.specs.declared.fault.ParseFault.TheVariants.{Syntax, NoMemory}
use Rattle.co_first_tree.specs.declared.tree.Term.{Term}
use Rattle.co_first_tree.specs.declared.tree.SumOp.{SumOp}
use Rattle.co_first_tree.specs.declared.tree.Atom.{Atom}
use Rattle.co_first_parse.specs.declared.token.Token.{Token}
use Rattle.co_first_parse.specs.Grammar.{term}
use Rattle.co_first_parse.specs.Known.{Known}
use Rattle.co_first_parse.specs.Parse.{terms_of, op_of, next_op, atom_of, next_atom, and_rest, joined, lone, Reads, Steps}

abbrev pub behind : List Term → Option (List Term × List Token) → Option (List Term × List Token)
behind done None = None
behind done (Some r) = Some (done ++ r.0, r.1)

pub terms_end : (known : Known) (tokens : List Token) → next_op tokens ≡ None → terms_of known tokens ≡ Some ([], tokens)
unfolding terms_of
terms_end known [] e = refl
terms_end known (first ∷ []) e = ap (λ op. lone op first) e
terms_end known (first ∷ second ∷ tokens) e = ap (λ op. joined op (atom_of known second.kind) (terms_of known tokens) (first ∷ second ∷ tokens)) e

joined_is : (op : SumOp) (atom : Atom) (more : Option (List Term × List Token)) (tokens : List Token) → joined (Some op) (Some atom) more tokens ≡ behind (term op atom ∷ []) more
joined_is op atom None tokens = refl
joined_is op atom (Some r) tokens = refl

rest_is : (known : Known) (found : Option Atom) (atom : Atom) (tokens rest : List Token) → and_rest found tokens ≡ Some (atom, rest) → (found ≡ Some atom) × (tokens ≡ rest)
rest_is known None atom tokens rest h = absurd cc
rest_is known (Some other) atom tokens rest h = let e : ◌≡◌ {A = Atom × List Token} (other, tokens) (atom, rest) = cc in (ap (λ p. Some p.0) e, ap (λ p. p.1) e)

terms_more : (known : Known) (tokens rest : List Token) (op : SumOp) (atom : Atom) → next_op tokens ≡ Some op → next_atom known (drop 1 tokens) ≡ Some (atom, rest)
    → terms_of known tokens ≡ behind (term op atom ∷ []) (terms_of known rest)
unfolding terms_of next_atom
terms_more known [] rest op atom e h = absurd cc
terms_more known (first ∷ []) rest op atom e h = absurd cc
terms_more known (first ∷ second ∷ tokens) rest op atom e h =
    let r = rest_is known (atom_of known second.kind) atom tokens rest h in
    ap (λ o. joined o (atom_of known second.kind) (terms_of known tokens) (first ∷ second ∷ tokens)) e
    ∙ (ap (λ a. joined (Some op) a (terms_of known tokens) (first ∷ second ∷ tokens)) r.0
    ∙ (joined_is op atom (terms_of known tokens) (first ∷ second ∷ tokens) ∙ ap (λ ts. behind (term op atom ∷ []) (terms_of known ts)) r.1))

none_is : (found : Option Atom) (tokens : List Token) → and_rest found tokens ≡ None → found ≡ None
none_is None tokens h = refl
none_is (Some atom) tokens h = absurd cc

terms_fail : (known : Known) (tokens : List Token) (op : SumOp) → next_op tokens ≡ Some op → next_atom known (drop 1 tokens) ≡ None → terms_of known tokens ≡ None
unfolding terms_of next_atom
terms_fail known [] op e h = absurd cc
terms_fail known (first ∷ []) op e h = ap (λ o. lone o first) e
terms_fail known (first ∷ second ∷ tokens) op e h =
    ap (λ o. joined o (atom_of known second.kind) (terms_of known tokens) (first ∷ second ∷ tokens)) e
    ∙ ap (λ a. joined (Some op) a (terms_of known tokens) (first ∷ second ∷ tokens)) (none_is (atom_of known second.kind) tokens h)

behind_twice : (done more : List Term) (r : Option (List Term × List Token)) → behind done (behind more r) ≡ behind (done ++ more) r
behind_twice done more None = refl
behind_twice done more (Some r) = ap (λ ts. Some (ts, r.1)) (sym (append_assoc done more r.0))

pub turn_more : (known : Known) (start tokens next rest : List Token) (done gained : List Term) (op : SumOp) (atom : Atom) → terms_of known start ≡ behind done (terms_of known tokens)
    → next_op tokens ≡ Some op → next ≡ drop 1 tokens → next_atom known next ≡ Some (atom, rest) → gained ≡ done ++ term op atom ∷ [] → terms_of known start ≡ behind gained (terms_of known rest)
turn_more known start tokens next rest done gained op atom i e d h g =
    i ∙ (ap (behind done) (terms_more known tokens rest op atom e (ap (next_atom known) (sym d) ∙ h)) ∙ (behind_twice done (term op atom ∷ []) (terms_of known rest)
    ∙ ap (λ ts. behind ts (terms_of known rest)) (sym g)))

pub turn_fail : (known : Known) (start tokens next : List Token) (done : List Term) (op : SumOp) → terms_of known start ≡ behind done (terms_of known tokens)
    → next_op tokens ≡ Some op → next ≡ drop 1 tokens → next_atom known next ≡ None → terms_of known start ≡ None
turn_fail known start tokens next done op i e d h = i ∙ ap (behind done) (terms_fail known tokens op e (ap (next_atom known) (sym d) ∙ h))

pub turn_end : (known : Known) (start tokens : List Token) (done : List Term) → terms_of known start ≡ behind done (terms_of known tokens) → next_op tokens ≡ None → terms_of known start ≡ Some (done, tokens)
turn_end known start tokens done i e = i ∙ (ap (behind done) (terms_end known tokens e) ∙ ap (λ ts. Some (ts, tokens)) (append-nil done))

-- ---- what a failed call says

pub reads_err : {A S : Type 0} (outcome : Option (A × S)) (r : Result A ParseFault) (e : ParseFault) (new : S) → r ≡ Err e → (e ≡ Syntax → outcome ≡ None) → Reads outcome r new
reads_err outcome r Syntax new is says = subst (λ x. Reads outcome x new) (sym is) (says refl)
reads_err outcome r NoMemory new is says = subst (λ x. Reads outcome x new) (sym is) tt

pub reads_none : {A S : Type 0} (outcome : Option (A × S)) (e : ParseFault) (new : S) → Reads outcome (Err e) new → e ≡ Syntax → outcome ≡ None
reads_none outcome Syntax new h s = h
reads_none outcome NoMemory new h s = absurd cc

pub steps_none : {S : Type 0} (outcome : Option S) (e : ParseFault) (new : S) → Steps outcome (Err e) new → e ≡ Syntax → outcome ≡ None
steps_none outcome Syntax new h s = h
steps_none outcome NoMemory new h s = absurd cc
