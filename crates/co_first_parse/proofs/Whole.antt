-- The parser and the tree of the whole file.
use Rattle.std.proofs.Common.{◌≡◌, ◌≢◌, ℕ, zero, suc, ◌+◌, ◌<◌, ◌≤◌, Bool, true, false, cond, nat_lt, List, [], ◌∷◌, ◌++◌, length, length-append, append_assoc, slice_get, Option, Some, None, Contains, All, bytes_eq, codes, refl, sym, ap, subst, ◌∙◌, arith}
use Rattle.std.proofs.lemmas.Bool.{false≢true, ltb-true, lt-ltb}
use Rattle.std.proofs.lemmas.List.{append-nil}
use Rattle.std.proofs.lemmas.Option.{slice_get_within}
use Rattle.std.proofs.lemmas.List.Elements.{All-nil}
use Rattle.std.proofs.lemmas.Slice.Eq.{bytes_eq-Decides}
use Rattle.co_base.specs.declared.span.Span.{Span}
use Rattle.co_first_tree.specs.declared.tree.Program.{Program}
use Rattle.co_first_tree.specs.declared.tree.Term.{Term}
use Rattle.co_first_tree.specs.declared.tree.Sum.{Sum}
use Rattle.co_first_tree.specs.declared.tree.Stmt.{Stmt}
use Rattle.co_first_tree.specs.declared.tree.Stmt.TheVariants as stmt
use Rattle.co_first_tree.specs.Form.{Scope, IsFormed, no_variable, IsVariable, SumStands, StmtStands, scope_after, ListStands, scope_after_list}
use Rattle.co_first_parse.specs.declared.frame.Frame.{Frame}
use Rattle.co_first_parse.specs.declared.token.Mark.{Mark}
use Rattle.co_first_parse.specs.declared.token.Mark.TheVariants as m
use Rattle.co_first_parse.specs.declared.token.Kind.{Kind}
use Rattle.co_first_parse.specs.declared.token.Kind.TheVariants.{Fixed, Name, Number}
use Rattle.co_first_parse.specs.declared.token.Token.{Token}
use Rattle.co_first_parse.specs.Spelling.{token}
use Rattle.co_first_parse.specs.Grammar.{Names, sign, IsSum, IsStmt, declares, assigns, loops, prints, AreStmts, no_stmt, one_more, IsEnd, returns, IsLawful, AreLawful, IsMain, mains, IsTree}
use Rattle.co_first_parse.specs.Known.{Known, no_names}
use Rattle.co_first_parse.specs.Parse.{is_mark, take_mark, take_name, variable, is_new, declared, sum_and, declare, assign, enclosed, print, left, ◌>>=◌}
use Rattle.co_first_parse.specs.Place.{Place, added, assign_step, declare_step, print_step, frame, opened, open_step, closed, close_step, step_by, past, step_from, step, is_zero, ends_main, is_empty, is_end, program_of, opening, start}
use Rattle.co_first_parse.proofs.Look.{AreDistinct, new_is, new_from, get_longer, get_end}
use Rattle.co_first_parse.proofs.Marks.{bound, chosen, mark_taken, mark_takes, mark_is, is_its_mark, name_taken, name_takes, zero_is}
use Rattle.co_first_parse.proofs.SumsRead.{pair_parts, scope_of, Agrees, var_sound, var_complete, AndRead, and_sound, and_complete}
use Rattle.co_first_parse.proofs.Zipper.{KeptNames, level, FramesBelow, Kept, scope_with, Finishes, Completes, agrees, own, place_at, enclosed_complete}
use Rattle.co_first_parse.proofs.Backward.{Back, back}
use Rattle.co_first_parse.proofs.Forward.{forth}
use Rattle.co_first_parse.proofs.Opened.{while_stands, while_from, while_after}

-- ---- the end

begins_return : List Token → Bool
begins_return [] = false
begins_return (first ∷ tokens) = is_mark m.Return first.kind

stmt_begins : (names : Names) (s : Stmt) (tokens rest : List Token) → IsStmt names s tokens rest → begins_return tokens ≡ false
unfolding begins_return
stmt_begins names s tokens rest (declares x name value a b c d inner _ n is) = refl
stmt_begins names s tokens rest (assigns x name value a b c inner _ n is) = refl
stmt_begins names s tokens rest (loops value body a b c d e inner between _ is are) = refl
stmt_begins names s tokens rest (prints value a b c d e f inner _ is) = refl

end_begins : (tokens : List Token) → IsEnd tokens → begins_return tokens ≡ true
unfolding begins_return
end_begins tokens (returns a b c d) = refl

both : (x y : Bool) → cond x y false ≡ true → (x ≡ true) × (y ≡ true)
both true y h = (refl, h)
both false y h = absurd (false≢true h)

end_sound : (tokens : List Token) → ends_main tokens ≡ true → IsEnd tokens
unfolding ends_main
end_sound [] h = absurd (false≢true h)
end_sound (a ∷ []) h = absurd (false≢true h)
end_sound (a ∷ b ∷ []) h = absurd (false≢true h)
end_sound (a ∷ b ∷ c ∷ []) h = absurd (false≢true h)
end_sound (a ∷ b ∷ c ∷ d ∷ []) h =
    let p = both (is_mark m.Return a.kind) (cond (is_zero b.kind) (cond (is_mark m.Semicolon c.kind) (is_mark m.CloseBrace d.kind) false) false) h in
    let q = both (is_zero b.kind) (cond (is_mark m.Semicolon c.kind) (is_mark m.CloseBrace d.kind) false) p.1 in
    let r = both (is_mark m.Semicolon c.kind) (is_mark m.CloseBrace d.kind) q.1 in
    let e : a ∷ b ∷ c ∷ d ∷ [] ≡ sign m.Return a.span ∷ token (Number 0) b.span ∷ sign m.Semicolon c.span ∷ sign m.CloseBrace d.span ∷ [] =
    ap (λ k. token k a.span ∷ b ∷ c ∷ d ∷ []) (mark_is m.Return a.kind p.0)
    ∙ (ap (λ k. sign m.Return a.span ∷ token k b.span ∷ c ∷ d ∷ []) (zero_is b.kind q.0)
    ∙ (ap (λ k. sign m.Return a.span ∷ token (Number 0) b.span ∷ token k c.span ∷ d ∷ []) (mark_is m.Semicolon c.kind r.0)
    ∙ ap (λ k. sign m.Return a.span ∷ token (Number 0) b.span ∷ sign m.Semicolon c.span ∷ token k d.span ∷ []) (mark_is m.CloseBrace d.kind r.1))) in
    subst IsEnd (sym e) (returns a.span b.span c.span d.span)
end_sound (a ∷ b ∷ c ∷ d ∷ e ∷ tokens) h = absurd (false≢true h)

at_end : (tokens : List Token) (known : Known) (outer : List Frame) (done : List Stmt) → is_end (place_at tokens known outer done) ≡ true → (outer ≡ []) × IsEnd tokens
unfolding is_end
at_end tokens known [] done h = (refl, end_sound tokens h)
at_end tokens known (open_block ∷ outer) done h = absurd (false≢true h)

end_completes : (tokens : List Token) (known : Known) (done : List Stmt) → Kept (place_at tokens known [] done) → IsEnd tokens → Completes (place_at tokens known [] done) (program_of (place_at tokens known [] done))
end_completes tokens known done k e = record {
  later = [];
  longer = sym (append-nil known.names);
  rest = [];
  after = tokens;
  stmts = no_stmt tokens;
  stand = tt;
  finish = (e, sym (append-nil done), refl);
  kept = k.names;
}

no_later : (names known later : Names) → names ≡ known ++ later → length known ≡ length names → names ≡ known
no_later names known [] e l = e ∙ append-nil known
no_later names known (first ∷ later) e l =
    let n = ap length e ∙ length-append known (first ∷ later) in
    absurd (omega arith)

abbrev program_with : Names → List Stmt → Program
program_with names body = record { names = names; body = body }

end_only_by : (tokens after : List Token) (known : Known) (done rest : List Stmt) (p : Program) (later : Names) → p.names ≡ known.names ++ later → IsEnd tokens → AreStmts p.names rest tokens after
    → Finishes [] (done ++ rest) (scope_after_list (scope_of known) rest).declared after p → p ≡ program_of (place_at tokens known [] done)
end_only_by tokens after known done rest p later longer e (no_stmt _) finish =
    ap (λ ns. program_with ns p.body) (no_later p.names known.names later longer finish.2) ∙ ap (λ b. program_with known.names b) (finish.1 ∙ append-nil done)
end_only_by tokens after known done rest p later longer e (one_more s stmts _ between _ is others) finish =
    absurd (false≢true (sym (stmt_begins p.names s tokens between is) ∙ end_begins tokens e))

pub end_only : (place : Place) (p : Program) → is_end place ≡ true → Completes place p → p ≡ program_of place
end_only place p h c =
    let e = at_end place.tokens place.known place.outer place.done h in
    let P : List Frame → Type 0 = λ outer. Finishes outer (place.done ++ c.rest) (scope_after_list (scope_of place.known) c.rest).declared c.after p in
    end_only_by place.tokens c.after place.known place.done c.rest p c.later c.longer e.1 c.stmts (subst P e.0 c.finish)

pub end_is_one : (place : Place) → Kept place → is_end place ≡ true → Completes place (program_of place)
end_is_one place k h =
    let e = at_end place.tokens place.known place.outer place.done h in
    let P : List Frame → Type 0 = λ outer. Kept (place_at place.tokens place.known outer place.done) → Completes (place_at place.tokens place.known outer place.done) (program_of place) in
    subst P (sym e.0) (λ kept. end_completes place.tokens place.known place.done kept e.1) k

-- ---- the beginning

start_kept : (rest : List Token) → AreLawful rest → Kept (start rest)
start_kept rest law = record {
  law = law;
  names = record { count = omega arith; variables = All-nil IsVariable; distinct = λ i j n hi hj. absurd cc };
  below = λ x s. (let l = s.1 in absurd (omega arith));
  frames = tt;
}

open_is : (a b c d e : Span) (rest : List Token) → opening (sign m.Int a ∷ sign m.Main b ∷ sign m.OpenParenthesis c ∷ sign m.CloseParenthesis d ∷ sign m.OpenBrace e ∷ rest) ≡ Some rest
unfolding opening take_mark
open_is a b c d e rest = refl

main_completes : (tokens : List Token) (p : Program) → IsMain p tokens → IsFormed p → (rest : List Token) × (opening tokens ≡ Some rest) × Completes (start rest) p
main_completes tokens p (mains a b c d e rest after stmts end) f = (
  rest,
  open_is a b c d e rest,
  record {
    later = p.names;
    longer = refl;
    rest = p.body;
    after = after;
    stmts = stmts;
    stand = f.stands;
    finish = (end, refl, f.declared);
    kept = record { count = f.count; variables = f.names; distinct = f.distinct };
  },
)

tree_completes : (tokens : List Token) (p : Program) → IsTree tokens p → (rest : List Token) × (opening tokens ≡ Some rest) × Completes (start rest) p
tree_completes tokens p t = main_completes tokens p t.tree t.formed

pub record Begins (tokens rest : List Token) : Type 0 where
  pub a : Span
  pub b : Span
  pub c : Span
  pub d : Span
  pub e : Span
  pub is : tokens ≡ sign m.Int a ∷ sign m.Main b ∷ sign m.OpenParenthesis c ∷ sign m.CloseParenthesis d ∷ sign m.OpenBrace e ∷ rest

begins : (tokens rest : List Token) → opening tokens ≡ Some rest → Begins tokens rest
unfolding opening
begins tokens rest h =
    let a = bound (take_mark m.Int tokens) (λ t. take_mark m.Main t >>= (λ u. take_mark m.OpenParenthesis u >>= (λ v. take_mark m.CloseParenthesis v >>= (λ w. take_mark m.OpenBrace w)))) rest h in
    let b = bound (take_mark m.Main a.0) (λ u. take_mark m.OpenParenthesis u >>= (λ v. take_mark m.CloseParenthesis v >>= (λ w. take_mark m.OpenBrace w))) rest a.2 in
    let c = bound (take_mark m.OpenParenthesis b.0) (λ v. take_mark m.CloseParenthesis v >>= (λ w. take_mark m.OpenBrace w)) rest b.2 in
    let d = bound (take_mark m.CloseParenthesis c.0) (λ w. take_mark m.OpenBrace w) rest c.2 in
    let i = mark_taken m.Int tokens a.0 a.1 in
    let j = mark_taken m.Main a.0 b.0 b.1 in
    let k = mark_taken m.OpenParenthesis b.0 c.0 c.1 in
    let l = mark_taken m.CloseParenthesis c.0 d.0 d.1 in
    let n = mark_taken m.OpenBrace d.0 rest d.2 in
    record {
      a = i.0;
      b = j.0;
      c = k.0;
      d = l.0;
      e = n.0;
      is = i.1 ∙ ap (λ x. sign m.Int i.0 ∷ x) (j.1 ∙ ap (λ x. sign m.Main j.0 ∷ x) (k.1 ∙ ap (λ x. sign m.OpenParenthesis k.0 ∷ x) (l.1 ∙ ap (λ x. sign m.CloseParenthesis l.0 ∷ x) n.1)));
    }

completes_tree : (tokens rest : List Token) (p : Program) → opening tokens ≡ Some rest → Completes (start rest) p → IsTree tokens p
completes_tree tokens rest p h c =
    let b = begins tokens rest h in
    let stmts : AreStmts p.names p.body rest c.after = subst (λ xs. AreStmts p.names xs rest c.after) (sym c.finish.1) c.stmts in
    record {
      tree = subst (IsMain p) (sym b.is) (mains b.a b.b b.c b.d b.e rest c.after stmts c.finish.0);
      formed = record {
        count = c.kept.count;
        names = c.kept.variables;
        distinct = c.kept.distinct;
        stands = subst (λ xs. ListStands no_variable 1 xs) (sym c.finish.1) c.stand;
        declared = subst (λ xs. (scope_after_list no_variable xs).declared ≡ length p.names) (sym c.finish.1) c.finish.2;
      };
    }

-- ---- the turns of the parser

pub record Parsing (tokens : List Token) (place : Place) : Type 0 where
  pub kept : Kept place
  pub sound : (p : Program) → Completes place p → IsTree tokens p
  pub whole : (p : Program) → IsTree tokens p → Completes place p

law_past : (mark : Mark) (at : Span) (tokens rest : List Token) → tokens ≡ sign mark at ∷ rest → AreLawful tokens → AreLawful rest
law_past mark at tokens rest e law = (let l : AreLawful (sign mark at ∷ rest) = subst AreLawful e law in l.1)

opening_law : (tokens rest : List Token) → opening tokens ≡ Some rest → AreLawful tokens → AreLawful rest
opening_law tokens rest h law =
    let b = begins tokens rest h in
    let l : AreLawful (sign m.Int b.a ∷ sign m.Main b.b ∷ sign m.OpenParenthesis b.c ∷ sign m.CloseParenthesis b.d ∷ sign m.OpenBrace b.e ∷ rest) = subst AreLawful b.is law in
    l.1.1.1.1.1

pub parsing_start : (tokens rest : List Token) → AreLawful tokens → opening tokens ≡ Some rest → Parsing tokens (start rest)
parsing_start tokens rest law h = record {
  kept = start_kept rest (opening_law tokens rest h law);
  sound = λ p c. completes_tree tokens rest p h c;
  whole = λ p t. (
      let c = tree_completes tokens p t in
      let same : c.0 ≡ rest = (let e : Some c.0 ≡ Some rest = sym c.1 ∙ h in cc) in
      subst (λ r. Completes (start r) p) same c.2);
}

pub opening_fails : (tokens : List Token) → opening tokens ≡ None → (p : Program) → IsTree tokens p → ⊥
opening_fails tokens h p t = (let c = tree_completes tokens p t in let e : ◌≡◌ {A = Option (List Token)} None (Some c.0) = sym h ∙ c.1 in absurd cc)

pub parsing_step : (tokens : List Token) (place next : Place) → Parsing tokens place → is_end place ≡ false → step place ≡ Some next → Parsing tokens next
parsing_step tokens place next r not_end h =
    let b = back place next r.kept h in
    record {
      kept = b.0;
      sound = λ p c. r.sound p (b.1 p c);
      whole = λ p t. (
          let g = forth place p r.kept (r.whole p t) not_end in
          let same : g.0 ≡ next = (let e : Some g.0 ≡ Some next = sym g.1 ∙ h in cc) in
          subst (λ x. Completes x p) same g.2);
    }

pub parsing_fails : (tokens : List Token) (place : Place) → Parsing tokens place → is_end place ≡ false → step place ≡ None → (p : Program) → IsTree tokens p → ⊥
parsing_fails tokens place r not_end h p t =
    let g = forth place p r.kept (r.whole p t) not_end in
    let e : ◌≡◌ {A = Option Place} None (Some g.0) = sym h ∙ g.1 in absurd cc

pub parsing_end : (tokens : List Token) (place : Place) → Parsing tokens place → is_end place ≡ true → IsTree tokens (program_of place)
parsing_end tokens place r h = r.sound (program_of place) (end_is_one place r.kept h)

-- ---- one tree

one_end : (place : Place) (p q : Program) → is_end place ≡ true → Completes place p → Completes place q → p ≡ q
one_end place p q h c d = end_only place p h c ∙ sym (end_only place q h d)

one_test : (n : ℕ) (place : Place) (p q : Program) (b : Bool) → is_end place ≡ b → length place.tokens ≤ n → Kept place → Completes place p → Completes place q
    → ((next : Place) → step place ≡ Some next → length next.tokens < length place.tokens → Kept next → Completes next p → Completes next q → p ≡ q) → p ≡ q
one_test n place p q true e l k c d more = one_end place p q e c d
one_test n place p q false e l k c d more =
    let g = forth place p k c e in
    let h = forth place q k d e in
    let same : h.0 ≡ g.0 = (let s : Some h.0 ≡ Some g.0 = sym h.1 ∙ g.1 in cc) in
    let b = back place g.0 k g.1 in
    more g.0 g.1 b.2 b.0 g.2 (subst (λ x. Completes x q) same h.2)

one_by : (n : ℕ) (place : Place) (p q : Program) → length place.tokens ≤ n → Kept place → Completes place p → Completes place q → p ≡ q
one_by zero place p q l k c d =
    one_test zero place p q (is_end place) refl l k c d (λ next e s kept cp cq. absurd (omega arith))
one_by (suc n) place p q l k c d =
    one_test (suc n) place p q (is_end place) refl l k c d (λ next e s kept cp cq. one_by n next p q (omega arith) kept cp cq)

pub one_tree : (tokens : List Token) (p q : Program) → AreLawful tokens → IsTree tokens p → IsTree tokens q → p ≡ q
one_tree tokens p q law t u =
    let c = tree_completes tokens p t in
    let r = parsing_start tokens c.0 law c.1 in
    one_by (length c.0) (start c.0) p q (omega arith) r.kept c.2 (r.whole q u)
