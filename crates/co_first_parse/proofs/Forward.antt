-- Each tree that goes on from where the parser stands goes on from where its step leads.
use Rattle.std.proofs.Common.{◌≡◌, ◌≢◌, ℕ, zero, suc, ◌+◌, ◌<◌, ◌≤◌, Bool, true, false, cond, nat_lt, List, [], ◌∷◌, ◌++◌, length, length-append, append_assoc, slice_get, Option, Some, None, Contains, All, bytes_eq, codes, refl, sym, ap, subst, ◌∙◌, arith}
use Rattle.std.proofs.lemmas.Bool.{false≢true, ltb-true, lt-ltb}
use Rattle.std.proofs.lemmas.List.{append-nil}
use Rattle.std.proofs.lemmas.Option.{slice_get_within}
use Rattle.std.proofs.lemmas.Slice.Eq.{bytes_eq-Decides}
use Rattle.co_base.specs.declared.span.Span.{Span}
use Rattle.co_first_tree.specs.declared.tree.Program.{Program}
use Rattle.co_first_tree.specs.declared.tree.Term.{Term}
use Rattle.co_first_tree.specs.declared.tree.Sum.{Sum}
use Rattle.co_first_tree.specs.declared.tree.Stmt.{Stmt}
use Rattle.co_first_tree.specs.declared.tree.Stmt.TheVariants as stmt
use Rattle.co_first_tree.specs.Form.{Scope, IsFormed, no_variable, IsVariable, SumStands, StmtStands, scope_after, ListStands, scope_after_list}
use Rattle.co_first_parse.specs.declared.frame.Frame.{Frame}
use Rattle.co_first_parse.specs.declared.token.Mark.{Mark}
use Rattle.co_first_parse.specs.declared.token.Mark.TheVariants as m
use Rattle.co_first_parse.specs.declared.token.Kind.{Kind}
use Rattle.co_first_parse.specs.declared.token.Kind.TheVariants.{Fixed, Name, Number}
use Rattle.co_first_parse.specs.declared.token.Token.{Token}
use Rattle.co_first_parse.specs.Spelling.{token}
use Rattle.co_first_parse.specs.Grammar.{Names, sign, IsSum, IsStmt, declares, assigns, loops, prints, AreStmts, no_stmt, one_more, IsEnd, returns, IsLawful, AreLawful, IsMain, mains, IsTree}
use Rattle.co_first_parse.specs.Known.{Known, no_names}
use Rattle.co_first_parse.specs.Parse.{is_mark, take_mark, take_name, variable, is_new, declared, sum_and, declare, assign, enclosed, print, left, ◌>>=◌}
use Rattle.co_first_parse.specs.Place.{Place, added, assign_step, declare_step, print_step, frame, opened, open_step, closed, close_step, step_by, past, step_from, step, is_zero, ends_main, is_empty, is_end, program_of, opening, start}
use Rattle.co_first_parse.proofs.Look.{AreDistinct, new_is, new_from, get_longer, get_end}
use Rattle.co_first_parse.proofs.Marks.{bound, chosen, mark_taken, mark_takes, mark_is, is_its_mark, name_taken, name_takes, zero_is}
use Rattle.co_first_parse.proofs.SumsRead.{pair_parts, scope_of, Agrees, var_sound, var_complete, AndRead, and_sound, and_complete}
use Rattle.co_first_parse.proofs.Zipper.{KeptNames, level, FramesBelow, Kept, scope_with, Finishes, Completes, agrees, own, place_at, enclosed_complete}
use Rattle.co_first_parse.proofs.Backward.{level_is, new_scope, Back, back}
use Rattle.co_first_parse.proofs.Opened.{while_stands, while_from, while_after}

abbrev Going : Place → Program → Type 0
Going place p = (next : Place) × (step place ≡ Some next) × Completes next p

-- ---- statements

assign_complete : (names : Names) (known : Known) (name : List ℕ) (x : ℕ) (value : Sum) (b c : Span) (rest after : List Token) → Agrees names known → slice_get names x ≡ Some name → Contains known.visible x
    → IsSum names value rest (sign m.Semicolon c ∷ after) → SumStands (scope_of known) value → assign known name (sign m.Assign b ∷ rest) ≡ Some (stmt.Assign x value, after)
unfolding assign
assign_complete names known name x value b c rest after ag n seen is stand =
    ap (λ o. o >>= (λ y. take_mark m.Assign (sign m.Assign b ∷ rest) >>= (λ t. sum_and m.Semicolon known t >>= (λ r. Some (stmt.Assign y r.0, r.1))))) (var_complete names known name x ag n seen)
    ∙ (ap (λ o. o >>= (λ t. sum_and m.Semicolon known t >>= (λ r. Some (stmt.Assign x r.0, r.1)))) (mark_takes m.Assign b rest)
    ∙ ap (λ o. o >>= (λ r. Some (stmt.Assign x r.0, r.1))) (and_complete names known m.Semicolon c value rest after ag refl is stand))

print_complete : (names : Names) (known : Known) (value : Sum) (b c d e f : Span) (rest after : List Token) → Agrees names known
    → IsSum names value rest (sign m.CloseParenthesis e ∷ sign m.Semicolon f ∷ after) → SumStands (scope_of known) value
    → print known (sign m.Scope b ∷ token (Name (codes "print")) c ∷ sign m.OpenParenthesis d ∷ rest) ≡ Some (stmt.Print value, after)
unfolding print
print_complete names known value b c d e f rest after ag is stand =
    let g : List ℕ × List Token → Option (Stmt × List Token) = λ n. cond (bytes_eq n.0 (codes "print")) (enclosed m.Semicolon known n.1 >>= (λ r. Some (stmt.Print r.0, r.1))) None in
    ap (λ o. o >>= (λ t. take_name t >>= g)) (mark_takes m.Scope b (token (Name (codes "print")) c ∷ sign m.OpenParenthesis d ∷ rest))
    ∙ (ap (λ o. o >>= g) (name_takes (codes "print") c (sign m.OpenParenthesis d ∷ rest))
    ∙ ap (λ o. o >>= (λ r. Some (stmt.Print r.0, r.1))) (enclosed_complete names known m.Semicolon d e f value rest after ag is stand))

declare_complete : (names : Names) (known : Known) (name : List ℕ) (value : Sum) (b c d : Span) (rest after : List Token) → Agrees names known → is_new known name ≡ true
    → IsSum names value rest (sign m.Semicolon d ∷ after) → SumStands (scope_of known) value
    → declare known (token (Name name) b ∷ sign m.Assign c ∷ rest) ≡ Some (stmt.Declare (length known.names) value, declared known name, after)
unfolding declare
declare_complete names known name value b c d rest after ag new is stand =
    let done : Sum × List Token → Option (Stmt × Known × List Token) = λ r. Some (stmt.Declare (length known.names) r.0, declared known name, r.1) in
    let g : List ℕ × List Token → Option (Stmt × Known × List Token) = λ n. take_mark m.Assign n.1 >>= (λ t. cond (is_new known n.0) (sum_and m.Semicolon known t >>= (λ r. Some (stmt.Declare (length known.names) r.0, declared known n.0, r.1))) None) in
    ap (λ o. o >>= g) (name_takes name b (sign m.Assign c ∷ rest))
    ∙ (ap (λ o. o >>= (λ t. cond (is_new known name) (sum_and m.Semicolon known t >>= done) None)) (mark_takes m.Assign c rest)
    ∙ (ap (λ x. cond x (sum_and m.Semicolon known rest >>= done) None) new
    ∙ ap (λ o. o >>= done) (and_complete names known m.Semicolon d value rest after ag refl is stand)))

-- ---- a new name

later_begins : (names known later : Names) (name : List ℕ) → names ≡ known ++ later → slice_get names (length known) ≡ Some name → (more : Names) × (names ≡ (known ++ name ∷ []) ++ more)
later_begins names known [] name e h =
    let at : slice_get (known ++ []) (length known) ≡ Some name = subst (λ ns. slice_get ns (length known) ≡ Some name) e h in
    let l = slice_get_within (known ++ []) (length known) name at in
    let n = length-append {A = List ℕ} known [] in
    absurd (omega arith)
later_begins names known (first ∷ later) name e h =
    let at : slice_get (known ++ first ∷ later) (length known) ≡ Some name = subst (λ ns. slice_get ns (length known) ≡ Some name) e h in
    let same : first ≡ name = (let f = get_end known later first in cc) in
    (later, e ∙ (ap (λ x. known ++ x ∷ later) same ∙ sym (append_assoc known (name ∷ []) later)))

new_name : (names : Names) (known : Known) (name : List ℕ) → Agrees names known → KeptNames names → slice_get names (length known.names) ≡ Some name → is_new known name ≡ true
new_name names known name ag k h =
    let l = slice_get_within names (length known.names) name h in
    new_from known name
    (λ i at. (
    let up : slice_get names i ≡ Some name = subst (λ ns. slice_get ns i ≡ Some name) (sym ag.longer) (get_longer known.names ag.later i name at) in
    let same = k.distinct i (length known.names) name up h in
    let w = slice_get_within known.names i name at in
    omega arith))
    (let c = k.count in omega arith)

-- ---- one step on

going_stmt : (tokens between after : List Token) (known next : Known) (outer : List Frame) (done : List Stmt) (s : Stmt) (stmts : List Stmt) (p : Program) (later : Names)
    → step (place_at tokens known outer done) ≡ Some (added (place_at tokens known outer done) next s between) → p.names ≡ next.names ++ later → scope_of next ≡ scope_after (scope_of known) s
    → AreStmts p.names stmts between after → ListStands (scope_after (scope_of known) s) (level outer) stmts
    → Finishes outer (done ++ s ∷ stmts) (scope_after_list (scope_after (scope_of known) s) stmts).declared after p → KeptNames p.names → Going (place_at tokens known outer done) p
going_stmt tokens between after known next outer done s stmts p later e longer scope more stand finish kept = (
  added (place_at tokens known outer done) next s between,
  e,
  record {
    later = later;
    longer = longer;
    rest = stmts;
    after = after;
    stmts = more;
    stand = subst (λ sc. ListStands sc (level outer) stmts) (sym scope) stand;
    finish = subst (λ sc. Finishes outer ((done ++ s ∷ []) ++ stmts) (scope_after_list sc stmts).declared after p) (sym scope)
        (subst (λ xs. Finishes outer xs (scope_after_list (scope_after (scope_of known) s) stmts).declared after p) (sym (append_assoc done (s ∷ []) stmts)) finish);
    kept = kept;
  },
)

going_is : (tokens between after : List Token) (known : Known) (outer : List Frame) (done : List Stmt) (s : Stmt) (stmts : List Stmt) (p : Program) → Agrees p.names known → KeptNames p.names
    → IsStmt p.names s tokens between → AreStmts p.names stmts between after → ListStands (scope_of known) (level outer) (s ∷ stmts)
    → Finishes outer (done ++ s ∷ stmts) (scope_after_list (scope_of known) (s ∷ stmts)).declared after p → Going (place_at tokens known outer done) p
unfolding step assign_step declare_step print_step open_step
going_is tokens between after known outer done s stmts p ag kept (assigns x name value a b c rest _ n is) more stand finish =
    let e = assign_complete p.names known name x value b c rest between ag n stand.0.1 is stand.0.0 in
    going_stmt tokens between after known known outer done s stmts p ag.later
    (ap (λ o. o >>= (λ r. Some (added (place_at (sign m.Assign b ∷ rest) known outer done) known r.0 r.1))) e) ag.longer refl more stand.1 finish kept
going_is tokens between after known outer done s stmts p ag kept (prints value a b c d e f rest _ is) more stand finish =
    let g = print_complete p.names known value b c d e f rest between ag is stand.0 in
    going_stmt tokens between after known known outer done s stmts p ag.later
    (ap (λ o. o >>= (λ r. Some (added (place_at (sign m.Scope b ∷ token (Name (codes "print")) c ∷ sign m.OpenParenthesis d ∷ rest) known outer done) known r.0 r.1))) g) ag.longer refl more stand.1 finish kept
going_is tokens between after known outer done s stmts p ag kept (declares x name value a b c d rest _ n is) more stand finish =
    let x_is : x ≡ length known.names = stand.0.1 in
    let here : slice_get p.names (length known.names) ≡ Some name = subst (λ i. slice_get p.names i ≡ Some name) x_is n in
    let l = later_begins p.names known.names ag.later name ag.longer here in
    let g = declare_complete p.names known name value b c d rest between ag (new_name p.names known name ag kept here) is stand.0.0 in
    let e = g ∙ ap (λ i. Some (stmt.Declare i value, declared known name, between)) (sym x_is) in
    going_stmt tokens between after known (declared known name) outer done s stmts p l.0
    (ap (λ o. o >>= (λ r. Some (added (place_at (token (Name name) b ∷ sign m.Assign c ∷ rest) known outer done) r.1 r.0 r.2))) e) l.1 (new_scope known name) more stand.1 finish kept
going_is tokens between after known outer done s stmts p ag kept (loops value body a b c d f rest inner _ is are) more stand finish =
    let w = while_stands (scope_of known) (level outer) value body stand.0 in
    let e = enclosed_complete p.names known m.OpenBrace b c d value rest inner ag is w.0 in
    let l = level_is outer in
    let room : length outer < 31 = (let u = w.1 in omega arith) in
    let scope = while_after (scope_of known) value body in
    let rest_place = place_at (sign m.OpenParenthesis b ∷ rest) known outer done in (
      opened rest_place value inner,
      ap (λ t. cond t (enclosed m.OpenBrace known (sign m.OpenParenthesis b ∷ rest) >>= (λ r. Some (opened rest_place r.0 r.1))) None) (lt-ltb (length outer) 31 room)
          ∙ ap (λ o. o >>= (λ r. Some (opened rest_place r.0 r.1))) e,
      record {
        later = ag.later;
        longer = ag.longer;
        rest = body;
        after = sign m.CloseBrace f ∷ between;
        stmts = are;
        stand = w.2;
        finish = (
          f,
          between,
          stmts,
          after,
          refl,
          more,
          subst (λ sc. ListStands sc (level outer) stmts) scope stand.1,
          subst (λ sc. Finishes outer (done ++ stmt.While value body ∷ stmts) (scope_after_list sc stmts).declared after p) scope finish,
        );
        kept = kept;
      },
    )

-- ---- the end of a block

end_is : (tokens : List Token) → IsEnd tokens → ends_main tokens ≡ true
unfolding ends_main
end_is tokens (returns a b c d) = refl

going_end : (tokens : List Token) (known : Known) (outer : List Frame) (done : List Stmt) (p : Program) → Agrees p.names known → KeptNames p.names
    → Finishes outer (done ++ []) (length known.names) tokens p → is_end (place_at tokens known outer done) ≡ false → Going (place_at tokens known outer done) p
unfolding step close_step is_end
going_end tokens known [] done p ag kept finish not_end = absurd (false≢true (sym not_end ∙ end_is tokens finish.0))
going_end tokens known (open_block ∷ outer) done p ag kept f not_end =
    let next = place_at f.1 (left known open_block.visible) outer (open_block.before ++ stmt.While open_block.sum done ∷ []) in
    let scope = scope_with (length known.names) open_block.visible in (
      next,
      ap (λ ts. step_from (place_at ts known (open_block ∷ outer) done) ts) f.4,
      record {
        later = ag.later;
        longer = ag.longer;
        rest = f.2;
        after = f.3;
        stmts = f.5;
        stand = f.6;
        finish = subst (λ xs. Finishes outer xs (scope_after_list scope f.2).declared f.3 p)
            (ap (λ b. open_block.before ++ stmt.While open_block.sum b ∷ f.2) (append-nil done) ∙ sym (append_assoc open_block.before (stmt.While open_block.sum done ∷ []) f.2)) f.7;
        kept = kept;
      },
    )

going : (tokens after : List Token) (known : Known) (outer : List Frame) (done rest : List Stmt) (p : Program) → Agrees p.names known → KeptNames p.names → AreStmts p.names rest tokens after
    → ListStands (scope_of known) (level outer) rest → Finishes outer (done ++ rest) (scope_after_list (scope_of known) rest).declared after p → is_end (place_at tokens known outer done) ≡ false
    → Going (place_at tokens known outer done) p
going tokens after known outer done rest p ag kept (no_stmt _) stand finish not_end = going_end tokens known outer done p ag kept finish not_end
going tokens after known outer done rest p ag kept (one_more s stmts _ between _ is more) stand finish not_end = going_is tokens between after known outer done s stmts p ag kept is more stand finish

pub forth : (place : Place) (p : Program) → Kept place → Completes place p → is_end place ≡ false → Going place p
forth place p k c not_end = going place.tokens c.after place.known place.outer place.done c.rest p (agrees place p.names c.later k c.longer c.kept.distinct) c.kept c.stmts c.stand c.finish not_end
