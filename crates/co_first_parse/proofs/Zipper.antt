-- A tree that goes on from where the parser stands, and that a step neither gains nor loses one.
use Rattle.std.proofs.Common.{◌≡◌, ◌≢◌, ℕ, zero, suc, ◌+◌, ◌<◌, ◌≤◌, Bool, true, false, cond, nat_lt, List, [], ◌∷◌, ◌++◌, length, length-append, append_assoc, slice_get, Option, Some, None, Contains, All, bytes_eq, codes, refl, sym, ap, subst, ◌∙◌, arith}
use Rattle.std.proofs.lemmas.Bool.{false≢true, ltb-true, lt-ltb}
use Rattle.std.proofs.lemmas.List.{append-nil}
use Rattle.std.proofs.lemmas.Slice.Eq.{bytes_eq-Decides}
use Rattle.co_base.specs.declared.span.Span.{Span}
use Rattle.co_first_tree.specs.declared.tree.Program.{Program}
use Rattle.co_first_tree.specs.declared.tree.Term.{Term}
use Rattle.co_first_tree.specs.declared.tree.Sum.{Sum}
use Rattle.co_first_tree.specs.declared.tree.Stmt.{Stmt}
use Rattle.co_first_tree.specs.declared.tree.Stmt.TheVariants as stmt
use Rattle.co_first_tree.specs.Form.{Scope, IsVariable, SumStands, StmtStands, scope_after, ListStands, scope_after_list}
use Rattle.co_first_parse.specs.declared.frame.Frame.{Frame}
use Rattle.co_first_parse.specs.declared.token.Mark.{Mark}
use Rattle.co_first_parse.specs.declared.token.Mark.TheVariants as m
use Rattle.co_first_parse.specs.declared.token.Kind.{Kind}
use Rattle.co_first_parse.specs.declared.token.Kind.TheVariants.{Fixed, Name, Number}
use Rattle.co_first_parse.specs.declared.token.Token.{Token}
use Rattle.co_first_parse.specs.Spelling.{token}
use Rattle.co_first_parse.specs.Grammar.{Names, sign, AreTerms, none, more, literal, variable as variable_sum, IsSum, IsStmt, declares, assigns, loops, prints, AreStmts, no_stmt, one_more, IsEnd, returns, IsLawful, AreLawful}
use Rattle.co_first_parse.specs.Known.{Known}
use Rattle.co_first_parse.specs.Parse.{is_mark, take_mark, take_name, variable, is_new, declared, sum_and, declare, assign, enclosed, print, left, ◌>>=◌}
use Rattle.co_first_parse.specs.Place.{Place, added, assign_step, declare_step, print_step, frame, opened, open_step, closed, close_step, step_by, past, step_from, step, is_zero, ends_main, is_empty, is_end, program_of}
use Rattle.co_first_parse.proofs.Look.{AreDistinct, new_is, new_from, get_longer, get_end}
use Rattle.co_first_parse.proofs.Marks.{bound, chosen, mark_taken, mark_takes, mark_is, is_its_mark, name_taken, name_takes, zero_is}
use Rattle.co_first_parse.proofs.SumsRead.{pair_parts, scope_of, Agrees, var_sound, var_complete, AndRead, and_sound, and_complete}
use Rattle.co_first_parse.proofs.Opened.{while_stands, while_from, while_after}

-- ---- what holds of a place, and of the names of a tree

pub record KeptNames (names : Names) : Type 0 where
  pub count : length names ≤ 32
  pub variables : All IsVariable names
  pub distinct : AreDistinct names

abbrev pub level : List Frame → ℕ
level [] = 1
level (open_block ∷ outer) = level outer + 1

abbrev pub FramesBelow : List Frame → ℕ → Type 0
FramesBelow [] n = Unit {0}
FramesBelow (open_block ∷ outer) n = ((x : ℕ) → Contains open_block.visible x → x < n) × FramesBelow outer n

pub record Kept (place : Place) : Type 0 where
  pub law : AreLawful place.tokens
  pub names : KeptNames place.known.names
  pub below : (x : ℕ) → Contains place.known.visible x → x < length place.known.names
  pub frames : FramesBelow place.outer (length place.known.names)

abbrev pub scope_with : ℕ → List ℕ → Scope
scope_with count visible = record { declared = count; visible = visible }

-- the blocks around end as the tree says
abbrev pub Finishes : List Frame → List Stmt → ℕ → List Token → Program → Type 0
Finishes [] stmts count after p = IsEnd after × (p.body ≡ stmts) × (count ≡ length p.names)
Finishes (open_block ∷ outer) stmts count after p =
    (e : Span) × (next : List Token) × (rest : List Stmt) × (end : List Token) × (after ≡ sign m.CloseBrace e ∷ next) × AreStmts p.names rest next end
    × ListStands (scope_with count open_block.visible) (level outer) rest
    × Finishes outer (open_block.before ++ stmt.While open_block.sum stmts ∷ rest) (scope_after_list (scope_with count open_block.visible) rest).declared end p

pub record Completes (place : Place) (p : Program) : Type 0 where
  pub later : Names
  pub longer : p.names ≡ place.known.names ++ later
  pub rest : List Stmt
  pub after : List Token
  pub stmts : AreStmts p.names rest place.tokens after
  pub stand : ListStands (scope_of place.known) (level place.outer) rest
  pub finish : Finishes place.outer (place.done ++ rest) (scope_after_list (scope_of place.known) rest).declared after p
  pub kept : KeptNames p.names

pub agrees : (place : Place) (names later : Names) → Kept place → names ≡ place.known.names ++ later → AreDistinct names → Agrees names place.known
agrees place names later k e d = record { later = later; longer = e; below = k.below; distinct = d }

pub own : (place : Place) → Kept place → Agrees place.known.names place.known
own place k = agrees place place.known.names [] k (sym (append-nil place.known.names)) k.names.distinct

abbrev pub place_at : List Token → Known → List Frame → List Stmt → Place
place_at tokens known outer done = record { tokens = tokens; known = known; outer = outer; done = done }

-- ---- what the reading of a statement says

terms_shorter : (names : Names) (terms : List Term) (tokens after : List Token) → AreTerms names terms tokens after → length after ≤ length tokens
terms_shorter names terms tokens after (none _) = omega arith
terms_shorter names terms tokens after (more op atom others kind a b rest _ is are) = let l = terms_shorter names others rest after are in omega arith

pub sum_shorter : (names : Names) (value : Sum) (tokens after : List Token) → IsSum names value tokens after → length after < length tokens
sum_shorter names value tokens after (literal number at _) = omega arith
sum_shorter names value tokens after (variable_sum x name terms at rest _ n are) = let l = terms_shorter names terms rest after are in omega arith

pub record StmtRead (names : Names) (known next : Known) (lvl : ℕ) (s : Stmt) (tokens rest : List Token) : Type 0 where
  pub is : IsStmt names s tokens rest
  pub stand : StmtStands (scope_of known) lvl s
  pub after : scope_of next ≡ scope_after (scope_of known) s
  pub law : AreLawful rest
  pub shorter : length rest < length tokens

pub assign_sound : (names : Names) (known : Known) (lvl : ℕ) (name : List ℕ) (at : Span) (tokens : List Token) (s : Stmt) (rest : List Token) → Agrees names known → AreLawful tokens
    → assign known name tokens ≡ Some (s, rest) → StmtRead names known known lvl s (token (Name name) at ∷ tokens) rest
unfolding assign
assign_sound names known lvl name at tokens s rest ag law h =
    let v = bound (variable known name) (λ x. take_mark m.Assign tokens >>= (λ t. sum_and m.Semicolon known t >>= (λ r. Some (stmt.Assign x r.0, r.1)))) (s, rest) h in
    let t = bound (take_mark m.Assign tokens) (λ t. sum_and m.Semicolon known t >>= (λ r. Some (stmt.Assign v.0 r.0, r.1))) (s, rest) v.2 in
    let k = mark_taken m.Assign tokens t.0 t.1 in
    let laws : AreLawful (sign m.Assign k.0 ∷ t.0) = subst AreLawful k.1 law in
    let r = bound (sum_and m.Semicolon known t.0) (λ r. Some (stmt.Assign v.0 r.0, r.1)) (s, rest) t.2 in
    let a = and_sound names known m.Semicolon t.0 r.0.0 r.0.1 ag laws.1 r.1 in
    let n = var_sound names known name v.0 ag v.1 in
    let p = pair_parts (stmt.Assign v.0 r.0.0) s r.0.1 rest r.2 in
    let is : IsStmt names (stmt.Assign v.0 r.0.0) (token (Name name) at ∷ tokens) r.0.1 =
    subst (λ ts. IsStmt names (stmt.Assign v.0 r.0.0) (token (Name name) at ∷ ts) r.0.1) (sym k.1) (assigns v.0 name r.0.0 at k.0 a.at t.0 r.0.1 n.0 a.is) in
    subst (λ x. StmtRead names known known lvl x (token (Name name) at ∷ tokens) rest) p.0
    (subst (λ x. StmtRead names known known lvl (stmt.Assign v.0 r.0.0) (token (Name name) at ∷ tokens) x) p.1
    (record { is = is; stand = (a.stand, n.1); after = refl; law = a.law; shorter = (let l = sum_shorter names r.0.0 t.0 (sign m.Semicolon a.at ∷ r.0.1) a.is in let j = ap length k.1 in omega arith) }))

pub record Enclosed (names : Names) (known : Known) (mark : Mark) (value : Sum) (tokens rest : List Token) : Type 0 where
  pub open_at : Span
  pub close_at : Span
  pub mark_at : Span
  pub inner : List Token
  pub shape : tokens ≡ sign m.OpenParenthesis open_at ∷ inner
  pub is : IsSum names value inner (sign m.CloseParenthesis close_at ∷ sign mark mark_at ∷ rest)
  pub stand : SumStands (scope_of known) value
  pub law : AreLawful rest

pub enclosed_sound : (names : Names) (known : Known) (mark : Mark) (tokens : List Token) (value : Sum) (rest : List Token) → Agrees names known → AreLawful tokens
    → enclosed mark known tokens ≡ Some (value, rest) → Enclosed names known mark value tokens rest
unfolding enclosed
enclosed_sound names known mark tokens value rest ag law h =
    let t = bound (take_mark m.OpenParenthesis tokens) (λ x. sum_and m.CloseParenthesis known x >>= (λ r. take_mark mark r.1 >>= (λ last. Some (r.0, last)))) (value, rest) h in
    let k = mark_taken m.OpenParenthesis tokens t.0 t.1 in
    let laws : AreLawful (sign m.OpenParenthesis k.0 ∷ t.0) = subst AreLawful k.1 law in
    let r = bound (sum_and m.CloseParenthesis known t.0) (λ r. take_mark mark r.1 >>= (λ last. Some (r.0, last))) (value, rest) t.2 in
    let a = and_sound names known m.CloseParenthesis t.0 r.0.0 r.0.1 ag laws.1 r.1 in
    let l = bound (take_mark mark r.0.1) (λ last. Some (r.0.0, last)) (value, rest) r.2 in
    let j = mark_taken mark r.0.1 l.0 l.1 in
    let p = pair_parts r.0.0 value l.0 rest l.2 in
    let more_laws : AreLawful (sign mark j.0 ∷ l.0) = subst AreLawful j.1 a.law in
    subst (λ x. Enclosed names known mark x tokens rest) p.0
    (subst (λ x. Enclosed names known mark r.0.0 tokens x) p.1
    (record { open_at = k.0; close_at = a.at; mark_at = j.0; inner = t.0; shape = k.1; is = subst (λ x. IsSum names r.0.0 t.0 (sign m.CloseParenthesis a.at ∷ x)) j.1 a.is; stand = a.stand; law = more_laws.1 }))

pub enclosed_complete : (names : Names) (known : Known) (mark : Mark) (a b c : Span) (value : Sum) (inner rest : List Token) → Agrees names known
    → IsSum names value inner (sign m.CloseParenthesis b ∷ sign mark c ∷ rest) → SumStands (scope_of known) value → enclosed mark known (sign m.OpenParenthesis a ∷ inner) ≡ Some (value, rest)
unfolding enclosed
enclosed_complete names known mark a b c value inner rest ag is stand =
    ap (λ o. o >>= (λ x. sum_and m.CloseParenthesis known x >>= (λ r. take_mark mark r.1 >>= (λ last. Some (r.0, last))))) (mark_takes m.OpenParenthesis a inner)
    ∙ (ap (λ o. o >>= (λ r. take_mark mark r.1 >>= (λ last. Some (r.0, last)))) (and_complete names known m.CloseParenthesis b value inner (sign mark c ∷ rest) ag refl is stand)
    ∙ ap (λ o. o >>= (λ last. Some (value, last))) (mark_takes mark c rest))

pub print_sound : (names : Names) (known : Known) (lvl : ℕ) (at : Span) (tokens : List Token) (s : Stmt) (rest : List Token) → Agrees names known → AreLawful tokens
    → print known tokens ≡ Some (s, rest) → StmtRead names known known lvl s (sign m.Corun at ∷ tokens) rest
unfolding print
print_sound names known lvl at tokens s rest ag law h =
    let f : List ℕ × List Token → Option (Stmt × List Token) = λ n. cond (bytes_eq n.0 (codes "print")) (enclosed m.Semicolon known n.1 >>= (λ r. Some (stmt.Print r.0, r.1))) None in
    let t = bound (take_mark m.Scope tokens) (λ x. take_name x >>= f) (s, rest) h in
    let k = mark_taken m.Scope tokens t.0 t.1 in
    let laws : AreLawful (sign m.Scope k.0 ∷ t.0) = subst AreLawful k.1 law in
    let n = bound (take_name t.0) f (s, rest) t.2 in
    let w = name_taken n.0.0 t.0 n.0.1 n.1 in
    let more_laws : AreLawful (token (Name n.0.0) w.0 ∷ n.0.1) = subst AreLawful w.1 laws.1 in
    let c = chosen (bytes_eq n.0.0 (codes "print")) (enclosed m.Semicolon known n.0.1 >>= (λ r. Some (stmt.Print r.0, r.1))) (s, rest) n.2 in
    let named = (bytes_eq-Decides n.0.0 (codes "print")).0 c.0 in
    let r = bound (enclosed m.Semicolon known n.0.1) (λ r. Some (stmt.Print r.0, r.1)) (s, rest) c.1 in
    let e = enclosed_sound names known m.Semicolon n.0.1 r.0.0 r.0.1 ag more_laws.1 r.1 in
    let p = pair_parts (stmt.Print r.0.0) s r.0.1 rest r.2 in
    let shape : tokens ≡ sign m.Scope k.0 ∷ token (Name (codes "print")) w.0 ∷ sign m.OpenParenthesis e.open_at ∷ e.inner =
    k.1 ∙ ap (λ x. sign m.Scope k.0 ∷ x) (w.1 ∙ (ap (λ x. token (Name x) w.0 ∷ n.0.1) named ∙ ap (λ x. token (Name (codes "print")) w.0 ∷ x) e.shape)) in
    let is : IsStmt names (stmt.Print r.0.0) (sign m.Corun at ∷ tokens) r.0.1 =
    subst (λ ts. IsStmt names (stmt.Print r.0.0) (sign m.Corun at ∷ ts) r.0.1) (sym shape) (prints r.0.0 at k.0 w.0 e.open_at e.close_at e.mark_at e.inner r.0.1 e.is) in
    subst (λ x. StmtRead names known known lvl x (sign m.Corun at ∷ tokens) rest) p.0
    (subst (λ x. StmtRead names known known lvl (stmt.Print r.0.0) (sign m.Corun at ∷ tokens) x) p.1
    (record { is = is; stand = e.stand; after = refl; law = e.law; shorter = (let l = sum_shorter names r.0.0 e.inner (sign m.CloseParenthesis e.close_at ∷ sign m.Semicolon e.mark_at ∷ r.0.1) e.is in let j = ap length shape in omega arith) }))
