-- Where the machine accepts a list of tokens, the symbols read it.
use Rattle.std.proofs.Common.{◌≡◌, ℕ, suc, ◌+◌, ◌≤◌, ◌<◌, Bool, true, false, not, ◌&&◌, ◌||◌, cond, if◌then◌else◌, nat_lt, List, [], ◌∷◌, ◌++◌, Option, Some, None, Ok, Err, refl, sym, ap, ◌∙◌, subst, inl, inr, arith}
use Rattle.std.proofs.lemmas.Bool.Decides.{nat_tests}
use Rattle.std.specs.List.{list_any}
use Rattle.co_lex.specs.declared.token.Token.{Token}
use Rattle.co_lex.specs.declared.token.TokenKind.{TokenKind}
use Rattle.co_lex.specs.declared.token.Mark.TheVariants as mark
use Rattle.co_rules.specs.declared.symbol.Nonterminal.{Nonterminal}
use Rattle.co_rules.specs.declared.symbol.Nonterminal.TheVariants as n
use Rattle.co_rules.specs.declared.symbol.Pattern.{Pattern}
use Rattle.co_rules.specs.declared.symbol.Pattern.TheVariants as pattern
use Rattle.co_rules.specs.declared.symbol.Symbol.{Symbol}
use Rattle.co_rules.specs.declared.symbol.Symbol.TheVariants.{Token as Terminal, One, Maybe, Many, Greedy, Close}
use Rattle.co_rules.specs.declared.symbol.Terminal.TheVariants as terminal
use Rattle.co_rules.specs.declared.symbol.Terminal.{Terminal as Seen}
use Rattle.co_rules.specs.Derives.{Begins}
use Rattle.co_rules.specs.Names.{classes, has_some}
use Rattle.co_rules.specs.Pattern.{admits, admits_mark}
use Rattle.co_rules.specs.Rule.{Rule, rules, Stands, start, in_file, in_class, in_type, in_statement, in_head, in_local, in_value, in_argument, in_unary, in_operand, from_file, from_class, from_type, from_statement, from_head, from_local, from_value, from_argument, from_unary}
use Rattle.co_rules.specs.Terminal.{terminal_of, terminals}
use Rattle.co_rules.proofs.Sets.{never, and_split}
use Rattle.co_grammar.specs.declared.fault.Fault.TheVariants.{TooDeep}
use Rattle.co_rules.proofs.Unique.{one_rule_begins}
use Rattle.co_reads.proofs.Those.{begins}
use Rattle.co_reads.proofs.RulesOfTypes.{of_pointers, those_pointers}
use Rattle.co_reads.proofs.RulesOfExpressions.{of_unary, those_unary, of_new_rest, those_new_rest}
use Rattle.co_grammar.specs.declared.scanner.TheConstants.{MOST_LEVELS}
use Rattle.co_grammar.specs.Machine.{body_for, put, step, is_close, levels}
use Rattle.co_grammar.specs.Scan.{go_on, scanned_from, scanned}
use Rattle.co_grammar.proofs.Picks.{none_some, some_same, begins-picked, picked-begins}
use Rattle.co_grammar.proofs.Steps.{test_some, not_then}
use Rattle.co_reader.specs.Reading.{lead_of, is_mark}
use Rattle.co_reads.specs.Runs.{flat, leading_stars, HasFewStars, NoneBegins, Runs, ended, token, one, some, none, more, last, taken, left_out}
use Rattle.co_reads.proofs.Cases.{usable}
use Rattle.co_reads.proofs.Fronts.{is_mark-lead, of_mark}

-- ---- one step

-- the step from the one stack to the other, and by which rule
data Stepped (c : Bool) (t : Seen) : List Symbol → List Symbol → Type 0 where
  at_token : (p : Pattern) (rest : List Symbol) → admits p t ≡ true → Stepped c t (Terminal p ∷ rest) rest
  past_close : (rest after : List Symbol) → Stepped c t rest after → Stepped c t (Close ∷ rest) after
  at_one : (m : Nonterminal) (rest body : List Symbol) → Begins m t body → Stepped c t (One m ∷ rest) (body ++ rest)
  at_some : (m : Nonterminal) (rest body : List Symbol) → Begins m t body → Stepped c t (Maybe m ∷ rest) (body ++ rest)
  past_none : (m : Nonterminal) (rest after : List Symbol) → body_for c m t ≡ None → Stepped c t rest after → Stepped c t (Maybe m ∷ rest) after
  at_more : (m : Nonterminal) (rest body : List Symbol) → Begins m t body → Stepped c t (Many m ∷ rest) (body ++ Many m ∷ rest)
  past_last : (m : Nonterminal) (rest after : List Symbol) → body_for c m t ≡ None → Stepped c t rest after → Stepped c t (Many m ∷ rest) after
  at_taken : (m : Nonterminal) (p : Pattern) (rest body : List Symbol) → Begins m t body → Stepped c t (Greedy m p ∷ rest) (body ++ rest)
  past_left : (m : Nonterminal) (p : Pattern) (rest after : List Symbol) → body_for c m t ≡ None → admits p t ≡ false → Stepped c t rest after → Stepped c t (Greedy m p ∷ rest) after

-- a rule was put on the rest, or none begins
data Put (c : Bool) (m : Nonterminal) (t : Seen) (rest : List Symbol) (other : Option (List Symbol)) : List Symbol → Type 0 where
  body_on : (body : List Symbol) → Begins m t body → Put c m t rest other (body ++ rest)
  none_on : (after : List Symbol) → body_for c m t ≡ None → other ≡ Some after → Put c m t rest other after

put_by : (c : Bool) (m : Nonterminal) (t : Seen) (rest : List Symbol) (other : Option (List Symbol)) (after : List Symbol) (o : Option (List Symbol)) → o ≡ body_for c m t → put o rest other ≡ Some after → Put c m t rest other after
put_by c m t rest other after (Some body) e h = subst (Put c m t rest other) (some_same h) (body_on body (picked-begins c m t body (sym e)))
put_by c m t rest other after None e h = none_on after (sym e) h

stepped : (c : Bool) (t : Seen) (stack after : List Symbol) → step c t stack ≡ Some after → Stepped c t stack after
stepped c t [] after h = none_some h
stepped c t (Terminal p ∷ rest) after h = let q = test_some (admits p t) rest after h in subst (Stepped c t (Terminal p ∷ rest)) q.1 (at_token p rest q.0)
stepped c t (Close ∷ rest) after h = past_close rest after (stepped c t rest after h)
stepped c t (One m ∷ rest) after h = by_put (put_by c m t rest None after (body_for c m t) refl h)
  where
    by_put : {a : List Symbol} → Put c m t rest None a → Stepped c t (One m ∷ rest) a
    by_put (body_on body b) = at_one m rest body b
    by_put (none_on a e o) = none_some o
stepped c t (Maybe m ∷ rest) after h = by_put (stepped c t rest) (put_by c m t rest (step c t rest) after (body_for c m t) refl h)
  where
    by_put : {a : List Symbol} → ((b : List Symbol) → step c t rest ≡ Some b → Stepped c t rest b) → Put c m t rest (step c t rest) a → Stepped c t (Maybe m ∷ rest) a
    by_put f (body_on body b) = at_some m rest body b
    by_put f (none_on a e o) = past_none m rest a e (f a o)
stepped c t (Many m ∷ rest) after h = by_put (stepped c t rest) (put_by c m t (Many m ∷ rest) (step c t rest) after (body_for c m t) refl h)
  where
    by_put : {a : List Symbol} → ((b : List Symbol) → step c t rest ≡ Some b → Stepped c t rest b) → Put c m t (Many m ∷ rest) (step c t rest) a → Stepped c t (Many m ∷ rest) a
    by_put f (body_on body b) = at_more m rest body b
    by_put f (none_on a e o) = past_last m rest a e (f a o)
stepped c t (Greedy m p ∷ rest) after h = by_put (stepped c t rest) (put_by c m t rest (cond (admits p t) None (step c t rest)) after (body_for c m t) refl h)
  where
    by_put : {a : List Symbol} → ((b : List Symbol) → step c t rest ≡ Some b → Stepped c t rest b) → Put c m t rest (cond (admits p t) None (step c t rest)) a → Stepped c t (Greedy m p ∷ rest) a
    by_put f (body_on body b) = at_taken m p rest body b
    by_put f (none_on a e o) = let q = not_then (admits p t) (step c t rest) a o in past_left m p rest a e q.0 (f a q.1)

-- ---- what the stack reads

flat-append : (xs ys : List Symbol) → flat (xs ++ ys) ≡ flat xs ++ flat ys
flat-append [] ys = refl
flat-append (Close ∷ xs) ys = flat-append xs ys
flat-append (Terminal p ∷ xs) ys = ap (λ zs. Terminal p ∷ zs) (flat-append xs ys)
flat-append (One m ∷ xs) ys = ap (λ zs. One m ∷ zs) (flat-append xs ys)
flat-append (Maybe m ∷ xs) ys = ap (λ zs. Maybe m ∷ zs) (flat-append xs ys)
flat-append (Many m ∷ xs) ys = ap (λ zs. Many m ∷ zs) (flat-append xs ys)
flat-append (Greedy m p ∷ xs) ys = ap (λ zs. Greedy m p ∷ zs) (flat-append xs ys)

split : {C : List (List ℕ)} {ts : List Token} (body rest : List Symbol) → Runs C (flat (body ++ rest)) ts → Runs C (flat body ++ flat rest) ts
split {C} {ts} body rest r = subst (λ s. Runs C s ts) (flat-append body rest) r

not_begun : (C : List (List ℕ)) (m : Nonterminal) (k : TokenKind) → body_for (has_some C) m (terminal_of C k) ≡ None → NoneBegins C m k
not_begun C m k e body b u = none_some (sym e ∙ begins-picked (has_some C) m (terminal_of C k) body b u)

step_runs : (C : List (List ℕ)) (t : Token) (ts : List Token) → HasFewStars (t ∷ ts) → {stack after : List Symbol} → Stepped (has_some C) (terminal_of C t.kind) stack after → Runs C (flat after) ts → Runs C (flat stack) (t ∷ ts)
step_runs C t ts few (at_token p rest a) r = token p (flat rest) t ts a few r
step_runs C t ts few (past_close rest after s) r = step_runs C t ts few s r
step_runs C t ts few (at_one m rest body b) r = one m (flat rest) body t ts b few (split body rest r)
step_runs C t ts few (at_some m rest body b) r = some m (flat rest) body t ts b few (split body rest r)
step_runs C t ts few (past_none m rest after e s) r = none m (flat rest) t ts (not_begun C m t.kind e) (step_runs C t ts few s r)
step_runs C t ts few (at_more m rest body b) r = more m (flat rest) body t ts b few (split body (Many m ∷ rest) r)
step_runs C t ts few (past_last m rest after e s) r = last m (flat rest) t ts (not_begun C m t.kind e) (step_runs C t ts few s r)
step_runs C t ts few (at_taken m p rest body b) r = taken m p (flat rest) body t ts b few (split body rest r)
step_runs C t ts few (past_left m p rest after e a s) r = left_out m p (flat rest) t ts (not_begun C m t.kind e) a (step_runs C t ts few s r)

-- ---- stars: each opens a level

-- a token that is a `*`, and stands behind another one
abbrev takes_star : Symbol → Bool
takes_star (Terminal p) = admits_mark p mark.Star
takes_star s = false

-- none of the symbols is a `*`
abbrev IsClean : List Symbol → Type 0
IsClean stack = list_any takes_star stack ≡ false

-- what may come first behind a `*`
abbrev is_starry : List Symbol → Bool
is_starry (One n.Unary ∷ rest) = true
is_starry (Maybe n.Pointers ∷ rest) = true
is_starry (Greedy n.NewRest pattern.NewMark ∷ rest) = true
is_starry (Terminal (pattern.Punctuator mark.Greater) ∷ rest) = true
is_starry stack = false

-- what is tested of each rule
abbrev is_fine : Rule → Bool
is_fine r = not (list_any takes_star r.body) && (not (admits_mark r.head mark.Star) || is_starry r.body)

abbrev all_fine : List Rule → Bool
all_fine [] = true
all_fine (r ∷ rs) = is_fine r && all_fine rs

rules-fine : all_fine rules ≡ true
unfolding in_file in_class in_type in_statement in_head in_local in_value in_argument in_unary in_operand from_file from_class from_type from_statement from_head from_local from_value from_argument from_unary
rules-fine = refl

fine_rule : (r : Rule) (rs : List Rule) → all_fine rs ≡ true → Stands r rs → is_fine r ≡ true
fine_rule r [] h s = absurd s
fine_rule r (q ∷ rs) h (inl e) = subst (λ x. is_fine x ≡ true) e (and_split (is_fine q) (all_fine rs) h).0
fine_rule r (q ∷ rs) h (inr s) = fine_rule r rs (and_split (is_fine q) (all_fine rs) h).1 s

fine : (m : Nonterminal) (t : Seen) (body : List Symbol) → Begins m t body → (r : Rule) × (r.body ≡ body) × (admits r.head t ≡ true) × (is_fine r ≡ true)
fine m t body b = (b.0, b.4, b.3, fine_rule b.0 rules rules-fine b.1)

not_true : (b : Bool) → not b ≡ true → b ≡ false
not_true true h = never h
not_true false h = refl

body_clean : (m : Nonterminal) (t : Seen) (body : List Symbol) → Begins m t body → IsClean body
body_clean m t body b = let f = fine m t body b in subst IsClean f.1 (not_true (list_any takes_star f.0.body) (and_split (not (list_any takes_star f.0.body)) (not (admits_mark f.0.head mark.Star) || is_starry f.0.body) f.3).0)

or_false : (a b : Bool) → (a || b) ≡ false → (a ≡ false) × (b ≡ false)
or_false true b h = absurd cc
or_false false b h = (refl, h)

clean-append : (xs ys : List Symbol) → IsClean xs → IsClean ys → IsClean (xs ++ ys)
clean-append [] ys h k = k
clean-append (x ∷ xs) ys h k = let q = or_false (takes_star x) (list_any takes_star xs) h in ap (λ b. b || list_any takes_star (xs ++ ys)) q.0 ∙ clean-append xs ys q.1 k

clean_step : (c : Bool) (t : Seen) {stack after : List Symbol} → Stepped c t stack after → IsClean stack → IsClean after
clean_step c t (at_token p rest a) k = (or_false (admits_mark p mark.Star) (list_any takes_star rest) k).1
clean_step c t (past_close rest after s) k = clean_step c t s k
clean_step c t (at_one m rest body b) k = clean-append body rest (body_clean m t body b) k
clean_step c t (at_some m rest body b) k = clean-append body rest (body_clean m t body b) k
clean_step c t (past_none m rest after e s) k = clean_step c t s k
clean_step c t (at_more m rest body b) k = clean-append body (Many m ∷ rest) (body_clean m t body b) k
clean_step c t (past_last m rest after e s) k = clean_step c t s k
clean_step c t (at_taken m p rest body b) k = clean-append body rest (body_clean m t body b) k
clean_step c t (past_left m p rest after e a s) k = clean_step c t s k

clash : (a b : Bool) → (not a || b) ≡ true → a ≡ true → b ≡ true
clash true b h e = h
clash false b h e = never e

star_admitted : (p : Pattern) → admits p (terminal.Mark mark.Star) ≡ true → admits_mark p mark.Star ≡ true
unfolding admits
star_admitted p h = h

body_starry : (m : Nonterminal) (body : List Symbol) → Begins m (terminal.Mark mark.Star) body → is_starry body ≡ true
body_starry m body b =
    let f = fine m (terminal.Mark mark.Star) body b in
    subst (λ x. is_starry x ≡ true) f.1 (clash (admits_mark f.0.head mark.Star) (is_starry f.0.body) (and_split (not (list_any takes_star f.0.body)) (not (admits_mark f.0.head mark.Star) || is_starry f.0.body) f.3).1 (star_admitted f.0.head f.2))

starry-append : (xs ys : List Symbol) → is_starry xs ≡ true → is_starry (xs ++ ys) ≡ true
starry-append (One n.Unary ∷ xs) ys h = refl
starry-append (Maybe n.Pointers ∷ xs) ys h = refl
starry-append (Greedy n.NewRest pattern.NewMark ∷ xs) ys h = refl
starry-append (Terminal (pattern.Punctuator mark.Greater) ∷ xs) ys h = refl
starry-append xs ys h = never h

starry_step : (c : Bool) {stack after : List Symbol} → Stepped c (terminal.Mark mark.Star) stack after → IsClean stack → is_starry after ≡ true
starry_step c (at_token p rest a) k = never (sym (or_false (admits_mark p mark.Star) (list_any takes_star rest) k).0 ∙ star_admitted p a)
starry_step c (past_close rest after s) k = starry_step c s k
starry_step c (at_one m rest body b) k = starry-append body rest (body_starry m body b)
starry_step c (at_some m rest body b) k = starry-append body rest (body_starry m body b)
starry_step c (past_none m rest after e s) k = starry_step c s k
starry_step c (at_more m rest body b) k = starry-append body (Many m ∷ rest) (body_starry m body b)
starry_step c (past_last m rest after e s) k = starry_step c s k
starry_step c (at_taken m p rest body b) k = starry-append body rest (body_starry m body b)
starry_step c (past_left m p rest after e a s) k = starry_step c s k

-- the rules that begin with a `*` where one stands before it
unary_star : Begins n.Unary (terminal.Mark mark.Star) (One n.Unary ∷ Close ∷ [])
unfolding admits
unary_star = begins n.Unary of_unary those_unary (terminal.Mark mark.Star) pattern.UnaryOperator (One n.Unary ∷ Close ∷ []) (inl refl) refl

pointers_star : Begins n.Pointers (terminal.Mark mark.Star) (Maybe n.Pointers ∷ Close ∷ [])
unfolding admits
pointers_star = begins n.Pointers of_pointers those_pointers (terminal.Mark mark.Star) (pattern.Punctuator mark.Star) (Maybe n.Pointers ∷ Close ∷ []) (inl refl) refl

new_star : Begins n.NewRest (terminal.Mark mark.Star) (Greedy n.NewRest pattern.NewMark ∷ Close ∷ [])
unfolding admits
new_star = begins n.NewRest of_new_rest those_new_rest (terminal.Mark mark.Star) (pattern.Punctuator mark.Star) (Greedy n.NewRest pattern.NewMark ∷ Close ∷ []) (inl refl) refl

no_star_there : admits (pattern.Punctuator mark.Greater) (terminal.Mark mark.Star) ≡ false
unfolding admits
no_star_there = refl

deeper : (a : List Symbol) (rest : List Symbol) (s : Symbol) → is_close s ≡ false → a ≡ s ∷ Close ∷ [] → levels (a ++ rest) ≡ levels rest + 1
deeper a rest s h e = rw e (ap (λ b. if b then (levels rest + 1) + 1 else (levels rest + 1)) h)

begun_deeper : (m : Nonterminal) (s : Symbol) (body rest : List Symbol) → is_close s ≡ false → Begins m (terminal.Mark mark.Star) (s ∷ Close ∷ []) → Begins m (terminal.Mark mark.Star) body → levels (body ++ rest) ≡ levels rest + 1
begun_deeper m s body rest h b o = deeper body rest s h (one_rule_begins m (terminal.Mark mark.Star) body (s ∷ Close ∷ []) o b)

level_step : (c : Bool) (stack after : List Symbol) → Stepped c (terminal.Mark mark.Star) stack after → is_starry stack ≡ true → levels after ≡ levels stack + 1
level_step c _ _ (at_one n.Unary rest body b) k = begun_deeper n.Unary (One n.Unary) body rest refl unary_star b
level_step c _ _ (at_some n.Pointers rest body b) k = begun_deeper n.Pointers (Maybe n.Pointers) body rest refl pointers_star b
level_step c _ _ (past_none n.Pointers rest after e s) k = none_some (sym e ∙ begins-picked c n.Pointers (terminal.Mark mark.Star) (Maybe n.Pointers ∷ Close ∷ []) pointers_star (usable c))
level_step c _ _ (at_taken n.NewRest pattern.NewMark rest body b) k = begun_deeper n.NewRest (Greedy n.NewRest pattern.NewMark) body rest refl new_star b
level_step c _ _ (past_left n.NewRest pattern.NewMark rest after e a s) k = none_some (sym e ∙ begins-picked c n.NewRest (terminal.Mark mark.Star) (Greedy n.NewRest pattern.NewMark ∷ Close ∷ []) new_star (usable c))
level_step c _ _ (at_token (pattern.Punctuator mark.Greater) rest a) k = never (sym no_star_there ∙ a)
level_step c _ _ s k = never k

-- ---- what the scan accepts

-- the first token is stepped over, the levels are not too many, and the rest is accepted
record Accepted (c : Bool) (at : ℕ) (t : Seen) (ts : List Seen) (stack : List Symbol) : Type 0 where
  after : List Symbol
  is : step c t stack ≡ Some after
  shallow : levels after ≤ 200
  rest : scanned_from c (at + 1) ts after ≡ Ok tt

go_deeper : (c : Bool) (at : ℕ) (t : Seen) (ts : List Seen) (stack after : List Symbol) (b : Bool) → nat_lt MOST_LEVELS (levels after) ≡ b → step c t stack ≡ Some after → (if b then Err (TooDeep at) else scanned_from c (at + 1) ts after) ≡ Ok tt → Accepted c at t ts stack
go_deeper c at t ts stack after true e s h = absurd cc
go_deeper c at t ts stack after false e s h = record { after = after; is = s; shallow = not_more (levels after) e; rest = h }
  where
    not_more : (k : ℕ) → nat_lt 200 k ≡ false → k ≤ 200
    not_more k e = grind (arith, nat_tests)

accepted : (c : Bool) (at : ℕ) (t : Seen) (ts : List Seen) (stack : List Symbol) (o : Option (List Symbol)) → step c t stack ≡ o → go_on at o (scanned_from c (at + 1) ts) ≡ Ok tt → Accepted c at t ts stack
accepted c at t ts stack None e h = absurd cc
accepted c at t ts stack (Some after) e h = go_deeper c at t ts stack after (nat_lt MOST_LEVELS (levels after)) refl e h

accept : (c : Bool) (at : ℕ) (t : Seen) (ts : List Seen) (stack : List Symbol) → scanned_from c at (t ∷ ts) stack ≡ Ok tt → Accepted c at t ts stack
accept c at t ts stack h = accepted c at t ts stack (step c t stack) refl h

star_seen : (C : List (List ℕ)) (k : TokenKind) → is_mark mark.Star (lead_of k) ≡ true → terminal_of C k ≡ terminal.Mark mark.Star
star_seen C k e = ap (terminal_of C) (of_mark k mark.Star (is_mark-lead mark.Star (lead_of k) e))

-- the step over a `*`
star_stepped : {at : ℕ} {ts : List Seen} {stack : List Symbol} (C : List (List ℕ)) (k : TokenKind) → is_mark mark.Star (lead_of k) ≡ true → (a : Accepted (has_some C) at (terminal_of C k) ts stack) → Stepped (has_some C) (terminal.Mark mark.Star) stack a.after
star_stepped {stack = stack} C k e a = subst (λ t. Stepped (has_some C) t stack a.after) (star_seen C k e) (stepped (has_some C) (terminal_of C k) stack a.after a.is)

sum_bound : (n a b : ℕ) → b ≡ a + 1 → n + b ≤ 200 → suc n + a ≤ 200
sum_bound n a b e h = omega arith

stars_turn : {at : ℕ} {stack : List Symbol} (C : List (List ℕ)) (t : Token) (ts : List Token) (b : Bool) → is_mark mark.Star (lead_of t.kind) ≡ b → is_starry stack ≡ true → IsClean stack → levels stack ≤ 200 → (a : Accepted (has_some C) at (terminal_of C t.kind) (terminals C ts) stack)
    → (is_starry a.after ≡ true → IsClean a.after → leading_stars ts + levels a.after ≤ 200) → (if b then suc (leading_stars ts) else 0) + levels stack ≤ 200
stars_turn C t ts false e s k l a later = omega (arith, l)
stars_turn {stack = stack} C t ts true e s k l a later =
    let p = star_stepped C t.kind e a in
    sum_bound (leading_stars ts) (levels stack) (levels a.after) (level_step (has_some C) stack a.after p s) (later (starry_step (has_some C) p k) (clean_step (has_some C) (terminal.Mark mark.Star) p k))

-- behind a `*`, no more of them come than levels are left
stars_behind : (C : List (List ℕ)) (at : ℕ) (ts : List Token) (stack : List Symbol) → is_starry stack ≡ true → IsClean stack → levels stack ≤ 200 → scanned_from (has_some C) at (terminals C ts) stack ≡ Ok tt → leading_stars ts + levels stack ≤ 200
stars_behind C at [] stack s k l h = omega (arith, l)
stars_behind C at (t ∷ ts) stack s k l h =
    let a = accept (has_some C) at (terminal_of C t.kind) (terminals C ts) stack h in
    stars_turn C t ts (is_mark mark.Star (lead_of t.kind)) refl s k l a (λ s2 k2. stars_behind C (at + 1) ts a.after s2 k2 a.shallow a.rest)

few_turn : {at : ℕ} {stack : List Symbol} (C : List (List ℕ)) (t : Token) (ts : List Token) (b : Bool) → is_mark mark.Star (lead_of t.kind) ≡ b → IsClean stack → (a : Accepted (has_some C) at (terminal_of C t.kind) (terminals C ts) stack) → (if b then suc (leading_stars ts) else 0) < 1000
few_turn C t ts false e k a = omega arith
few_turn {at} C t ts true e k a =
    let p = star_stepped C t.kind e a in
    let l = stars_behind C (at + 1) ts a.after (starry_step (has_some C) p k) (clean_step (has_some C) (terminal.Mark mark.Star) p k) a.shallow a.rest in
    omega (arith, l)

few : {at : ℕ} {stack : List Symbol} (C : List (List ℕ)) (t : Token) (ts : List Token) → IsClean stack → Accepted (has_some C) at (terminal_of C t.kind) (terminals C ts) stack → HasFewStars (t ∷ ts)
few C t ts k a = few_turn C t ts (is_mark mark.Star (lead_of t.kind)) refl k a

-- ---- the whole list

runs_from : (C : List (List ℕ)) (at : ℕ) (ts : List Token) (stack : List Symbol) → IsClean stack → scanned_from (has_some C) at (terminals C ts) stack ≡ Ok tt → Runs C (flat stack) ts
runs_from C at [] [] k h = ended
runs_from C at [] (s ∷ stack) k h = absurd cc
runs_from C at (t ∷ ts) stack k h =
    let a = accept (has_some C) at (terminal_of C t.kind) (terminals C ts) stack h in
    let p = stepped (has_some C) (terminal_of C t.kind) stack a.after a.is in
    step_runs C t ts (few C t ts k a) p (runs_from C (at + 1) ts a.after (clean_step (has_some C) (terminal_of C t.kind) p k) a.rest)

pub scanned_runs : (tokens : List Token) → scanned tokens ≡ Ok tt → Runs (classes tokens) start tokens
unfolding scanned
scanned_runs tokens h = runs_from (classes tokens) 0 tokens start refl h
