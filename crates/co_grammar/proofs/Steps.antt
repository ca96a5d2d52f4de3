-- The machine steps exactly where a list that is derivable goes on.
use Rattle.std.proofs.Common.{◌≡◌, Bool, true, false, not, ◌||◌, cond, List, [], ◌∷◌, ◌++◌, Option, Some, None, refl, sym, ap, ◌∙◌, subst, inl, inr}
use Rattle.std.specs.List.{list_any}
use Rattle.co_rules.specs.declared.symbol.Nonterminal.{Nonterminal}
use Rattle.co_rules.specs.declared.symbol.Symbol.{Symbol}
use Rattle.co_rules.specs.declared.symbol.Symbol.TheVariants.{Token, One, Maybe, Many, Greedy, Close}
use Rattle.co_rules.specs.declared.symbol.Terminal.{Terminal}
use Rattle.co_rules.specs.Derives as d
use Rattle.co_rules.specs.Derives.{Derives, Begins}
use Rattle.co_grammar.specs.Machine.{needs_class, is_usable, body_for, put, step}
use Rattle.co_rules.specs.Pattern.{admits}
use Rattle.co_rules.proofs.Follow.{number, heads, follow, firsts}
use Rattle.co_grammar.proofs.Fits.{nothing, Fits, fits-Fits, fits-append, derives-first}
use Rattle.co_grammar.proofs.Picks.{none_some, some_same, begins-picked, picked-begins, picked-usable, begins-heads, begins-fits, covered-begins}
use Rattle.co_rules.proofs.Sets.{never, add_split, Apart}

-- ---- what the stack after the terminal derives, the stack before derives with the terminal

pub test_some : (b : Bool) (rest after : List Symbol) → cond b (Some rest) None ≡ Some after → (b ≡ true) × (rest ≡ after)
test_some true rest after h = (refl, some_same h)
test_some false rest after h = none_some h

-- what a put leaves: a body on the rest, or the other
pub data Put (c : Bool) (n : Nonterminal) (t : Terminal) (rest : List Symbol) (other : Option (List Symbol)) (after : List Symbol) : Type 0 where
  body_on : (body : List Symbol) → Begins n t body → is_usable c body ≡ true → after ≡ body ++ rest → Put c n t rest other after
  the_other : other ≡ Some after → Put c n t rest other after

pub put_some : (c : Bool) (n : Nonterminal) (t : Terminal) (rest : List Symbol) (other : Option (List Symbol)) (after : List Symbol) (o : Option (List Symbol)) → o ≡ body_for c n t → put o rest other ≡ Some after → Put c n t rest other after
put_some c n t rest other after (Some body) e h = body_on body (picked-begins c n t body (sym e)) (picked-usable c n t body (sym e)) (sym (some_same h))
put_some c n t rest other after None e h = the_other h

pub not_then : (b : Bool) (o : Option (List Symbol)) (after : List Symbol) → cond b None o ≡ Some after → (b ≡ false) × (o ≡ Some after)
not_then true o after h = none_some h
not_then false o after h = (refl, h)

pub sound : (c : Bool) (t : Terminal) (stack after : List Symbol) (ts : List Terminal) → step c t stack ≡ Some after → Derives after ts → Derives stack (t ∷ ts)
sound c t [] after ts h e = none_some h
sound c t (Token p ∷ rest) after ts h e = let q = test_some (admits p t) rest after h in d.token p rest t ts q.0 (subst (λ s. Derives s ts) (sym q.1) e)
sound c t (Close ∷ rest) after ts h e = d.close rest (t ∷ ts) (sound c t rest after ts h e)
sound c t (One n ∷ rest) after ts h e =
    elim (put_some c n t rest None after (body_for c n t) refl h) [
      | body_on body b u i ↦ d.one n rest body t ts b (subst (λ s. Derives s ts) i e)
      | the_other o ↦ none_some o
    ]
sound c t (Maybe n ∷ rest) after ts h e =
    elim (put_some c n t rest (step c t rest) after (body_for c n t) refl h) [
      | body_on body b u i ↦ d.some n rest body t ts b (subst (λ s. Derives s ts) i e)
      | the_other o ↦ d.none n rest (t ∷ ts) (sound c t rest after ts o e)
    ]
sound c t (Many n ∷ rest) after ts h e =
    elim (put_some c n t (Many n ∷ rest) (step c t rest) after (body_for c n t) refl h) [
      | body_on body b u i ↦ d.more n rest body t ts b (subst (λ s. Derives s ts) i e)
      | the_other o ↦ d.last n rest (t ∷ ts) (sound c t rest after ts o e)
    ]
sound c t (Greedy n p ∷ rest) after ts h e =
    elim (put_some c n t rest (cond (admits p t) None (step c t rest)) after (body_for c n t) refl h) [
      | body_on body b u i ↦ d.taken n p rest body t ts b (subst (λ s. Derives s ts) i e)
      | the_other o ↦ let q = not_then (admits p t) (step c t rest) after o in d.left_out n p rest (t ∷ ts) q.0 (sound c t rest after ts q.1 e)
    ]

-- ---- the stack after a terminal fits

pub preserved : (c : Bool) (t : Terminal) (stack after : List Symbol) → Fits nothing stack → step c t stack ≡ Some after → Fits nothing after
preserved c t [] after f h = none_some h
preserved c t (Token p ∷ rest) after f h = subst (Fits nothing) (test_some (admits p t) rest after h).1 f
preserved c t (Close ∷ rest) after f h = preserved c t rest after f h
preserved c t (One n ∷ rest) after f h =
    elim (put_some c n t rest None after (body_for c n t) refl h) [
      | body_on body b u i ↦ subst (Fits nothing) (sym i) (fits-append body rest (follow n) nothing f.0 (fits-Fits (follow n) body (begins-fits n t body b)) f.1)
      | the_other o ↦ none_some o
    ]
preserved c t (Maybe n ∷ rest) after f h =
    elim (put_some c n t rest (step c t rest) after (body_for c n t) refl h) [
      | body_on body b u i ↦ subst (Fits nothing) (sym i) (fits-append body rest (follow n) nothing f.1 (fits-Fits (follow n) body (begins-fits n t body b)) f.2)
      | the_other o ↦ preserved c t rest after f.2 o
    ]
preserved c t (Many n ∷ rest) after f h =
    elim (put_some c n t (Many n ∷ rest) (step c t rest) after (body_for c n t) refl h) [
      | body_on body b u i ↦ subst (Fits nothing) (sym i) (fits-append body (Many n ∷ rest) (follow n) nothing (λ a m. elim (add_split a (heads n) (firsts rest nothing) m) [ inl l ↦ f.2 a l | inr r ↦ f.1 a r ]) (fits-Fits (follow n) body (begins-fits n t body b)) f)
      | the_other o ↦ preserved c t rest after f.3 o
    ]
preserved c t (Greedy n p ∷ rest) after f h =
    elim (put_some c n t rest (cond (admits p t) None (step c t rest)) after (body_for c n t) refl h) [
      | body_on body b u i ↦ subst (Fits nothing) (sym i) (fits-append body rest (follow n) nothing f.1 (fits-Fits (follow n) body (begins-fits n t body b)) f.2)
      | the_other o ↦ preserved c t rest after f.2 (not_then (admits p t) (step c t rest) after o).1
    ]

-- ---- where a derivable list goes on, the machine steps

-- no rule of the nonterminal begins with the terminal
none_picked : (c : Bool) (n : Nonterminal) (t : Terminal) (o : Option (List Symbol)) → o ≡ body_for c n t → ((body : List Symbol) → Begins n t body → ⊥) → o ≡ None
none_picked c n t None e no_rule = refl
none_picked c n t (Some body) e no_rule = absurd (no_rule body (picked-begins c n t body (sym e)))

pub record Goes (c : Bool) (t : Terminal) (ts : List Terminal) (stack : List Symbol) : Type 0 where
  pub after : List Symbol
  pub is : step c t stack ≡ Some after
  pub derives : Derives after ts

-- without classes, nothing that needs one derives the rest
abbrev pub Plain : Bool → List Terminal → Type 0
Plain c ts = (stack : List Symbol) → Derives stack ts → (c || not (list_any needs_class stack)) ≡ true

more_not : (b x y : Bool) → (not x ≡ true → not y ≡ true) → not (b || x) ≡ true → not (b || y) ≡ true
more_not true x y f h = h
more_not false x y f h = f h

pub without : (body rest : List Symbol) → not (list_any needs_class (body ++ rest)) ≡ true → not (list_any needs_class body) ≡ true
without [] rest h = refl
without (s ∷ body) rest h = more_not (needs_class s) (list_any needs_class (body ++ rest)) (list_any needs_class body) (without body rest) h

split_any : (body rest : List Symbol) (c : Bool) → (c || not (list_any needs_class (body ++ rest))) ≡ true → (c || not (list_any needs_class body)) ≡ true
split_any body rest true h = refl
split_any body rest false h = without body rest h

picked_for : (c : Bool) (n : Nonterminal) (t : Terminal) (ts : List Terminal) (body rest : List Symbol) → Plain c ts → Begins n t body → Derives (body ++ rest) ts → body_for c n t ≡ Some body
picked_for c n t ts body rest u b e = begins-picked c n t body b (split_any body rest c (u (body ++ rest) e))

skipped : (c : Bool) (n : Nonterminal) (t : Terminal) (ts : List Terminal) (rest : List Symbol) → Apart (firsts rest nothing) (heads n) → Derives rest (t ∷ ts) → body_for c n t ≡ None
skipped c n t ts rest apart e = none_picked c n t (body_for c n t) refl (λ body b. apart (number t) (derives-first rest t ts nothing e) (begins-heads n t body b))

pub complete : (c : Bool) (t : Terminal) (ts : List Terminal) (stack : List Symbol) → Fits nothing stack → Plain c ts → Derives stack (t ∷ ts) → Goes c t ts stack
complete c t ts stack f u (d.token p rest v vs a e) = record { after = rest; is = ap (λ b. cond b (Some rest) None) a; derives = e }
complete c t ts stack f u (d.close rest us e) = let g = complete c t ts rest f u e in record { after = g.after; is = g.is; derives = g.derives }
complete c t ts stack f u (d.one n rest body v vs b e) =
    record { after = body ++ rest; is = ap (λ o. put o rest None) (picked_for c n v vs body rest u b e); derives = e }
complete c t ts stack f u (d.some n rest body v vs b e) =
    record { after = body ++ rest; is = ap (λ o. put o rest (step c v rest)) (picked_for c n v vs body rest u b e); derives = e }
complete c t ts stack f u (d.none n rest us e) =
    let g = complete c t ts rest f.2 u e in
    record { after = g.after; is = ap (λ o. put o rest (step c t rest)) (skipped c n t ts rest f.0 e) ∙ g.is; derives = g.derives }
complete c t ts stack f u (d.more n rest body v vs b e) =
    record { after = body ++ Many n ∷ rest; is = ap (λ o. put o (Many n ∷ rest) (step c v rest)) (picked_for c n v vs body (Many n ∷ rest) u b e); derives = e }
complete c t ts stack f u (d.last n rest us e) =
    let g = complete c t ts rest f.3 u e in
    record { after = g.after; is = ap (λ o. put o (Many n ∷ rest) (step c t rest)) (skipped c n t ts rest f.0 e) ∙ g.is; derives = g.derives }
complete c t ts stack f u (d.taken n p rest body v vs b e) =
    record { after = body ++ rest; is = ap (λ o. put o rest (cond (admits p v) None (step c v rest))) (picked_for c n v vs body rest u b e); derives = e }
complete c t ts stack f u (d.left_out n p rest us q e) =
    let g = complete c t ts rest f.2 u e in
    let k = none_picked c n t (body_for c n t) refl (λ body b. never (sym q ∙ covered-begins p n t body f.0 b)) in
    record { after = g.after; is = ap (λ o. put o rest (cond (admits p t) None (step c t rest))) k ∙ (ap (λ b. cond b None (step c t rest)) q ∙ g.is); derives = g.derives }
