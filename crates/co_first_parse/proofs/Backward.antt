-- What a step has read is a part of each tree that goes on from where it leads.
use Rattle.std.proofs.Common.{◌≡◌, ◌≢◌, ℕ, zero, suc, ◌+◌, ◌<◌, ◌≤◌, Bool, true, false, cond, nat_lt, List, [], ◌∷◌, ◌++◌, length, length-append, append_assoc, slice_get, Option, Some, None, Contains, All, bytes_eq, codes, ◌⊎◌, inl, inr, refl, sym, ap, subst, ◌∙◌, arith}
use Rattle.std.proofs.lemmas.Bool.{false≢true, ltb-true, lt-ltb}
use Rattle.std.proofs.lemmas.List.{append-nil}
use Rattle.std.proofs.lemmas.List.Elements.{All-nil, All-cons}
use Rattle.std.proofs.lemmas.Slice.Eq.{bytes_eq-Decides}
use Rattle.co_base.specs.declared.span.Span.{Span}
use Rattle.co_first_tree.specs.declared.tree.Program.{Program}
use Rattle.co_first_tree.specs.declared.tree.Sum.{Sum}
use Rattle.co_first_tree.specs.declared.tree.Stmt.{Stmt}
use Rattle.co_first_tree.specs.declared.tree.Stmt.TheVariants as stmt
use Rattle.co_first_tree.specs.Form.{Scope, IsVariable, SumStands, StmtStands, scope_after, ListStands, scope_after_list}
use Rattle.co_first_parse.specs.declared.frame.Frame.{Frame}
use Rattle.co_first_parse.specs.declared.token.Mark.{Mark}
use Rattle.co_first_parse.specs.declared.token.Mark.TheVariants as m
use Rattle.co_first_parse.specs.declared.token.Kind.{Kind}
use Rattle.co_first_parse.specs.declared.token.Kind.TheVariants.{Fixed, Name, Number}
use Rattle.co_first_parse.specs.declared.token.Token.{Token}
use Rattle.co_first_parse.specs.Spelling.{token}
use Rattle.co_first_parse.specs.Grammar.{Names, sign, IsSum, IsStmt, declares, assigns, loops, prints, AreStmts, no_stmt, one_more, IsEnd, returns, IsLawful, AreLawful}
use Rattle.co_first_parse.specs.Known.{Known}
use Rattle.co_first_parse.specs.Parse.{is_mark, take_mark, take_name, variable, is_new, declared, sum_and, declare, assign, enclosed, print, left, ◌>>=◌}
use Rattle.co_first_parse.specs.Place.{Place, added, assign_step, declare_step, print_step, frame, opened, open_step, closed, close_step, step_by, past, step_from, step, is_zero, ends_main, is_empty, is_end, program_of}
use Rattle.co_first_parse.proofs.Look.{AreDistinct, new_is, new_from, get_longer, get_end}
use Rattle.co_first_parse.proofs.Marks.{bound, chosen, mark_taken, mark_takes, mark_is, is_its_mark, name_taken, name_takes, zero_is}
use Rattle.co_first_parse.proofs.SumsRead.{pair_parts, scope_of, Agrees, var_sound, var_complete, AndRead, and_sound, and_complete}
use Rattle.co_first_parse.proofs.Zipper.{KeptNames, level, FramesBelow, Kept, scope_with, Finishes, Completes, agrees, own, place_at, sum_shorter, StmtRead, assign_sound, Enclosed, enclosed_sound, print_sound}
use Rattle.co_first_parse.proofs.Opened.{while_stands, while_from, while_after}

pub level_is : (outer : List Frame) → level outer ≡ length outer + 1
level_is [] = refl
level_is (open_block ∷ outer) = let l = level_is outer in omega arith

-- ---- a declaration

pub new_scope : (known : Known) (name : List ℕ) → scope_of (declared known name) ≡ scope_with (length known.names + 1) (length known.names ∷ known.visible)
new_scope known name = ap (λ n. scope_with n (length known.names ∷ known.visible)) (length-append known.names (name ∷ []))

pub record DeclareRead (known next : Known) (lvl : ℕ) (at : Span) (s : Stmt) (tokens rest : List Token) : Type 0 where
  pub name : List ℕ
  pub gained : next ≡ declared known name
  pub fresh : (i : ℕ) → slice_get known.names i ≢ Some name
  pub room : length known.names < 32
  pub variable : IsVariable name
  pub law : AreLawful rest
  pub shorter : length rest < length tokens
  pub is : (names later : Names) → names ≡ next.names ++ later → Agrees names known → StmtRead names known next lvl s (sign m.Long at ∷ tokens) rest

triple_parts : (a b : Stmt) (k l : Known) (s t : List Token) → ◌≡◌ {A = Option (Stmt × Known × List Token)} (Some (a, k, s)) (Some (b, l, t)) → (a ≡ b) × (k ≡ l) × (s ≡ t)
triple_parts a b k l s t h = let e : ◌≡◌ {A = Stmt × Known × List Token} (a, k, s) (b, l, t) = cc in (ap (λ p. p.0) e, ap (λ p. p.1) e, ap (λ p. p.2) e)

declare_sound : (known : Known) (lvl : ℕ) (at : Span) (tokens : List Token) (s : Stmt) (next : Known) (rest : List Token) → Agrees known.names known → AreLawful tokens
    → declare known tokens ≡ Some (s, next, rest) → DeclareRead known next lvl at s tokens rest
unfolding declare
declare_sound known lvl at tokens s next rest self law h =
    let g : List ℕ × List Token → Option (Stmt × Known × List Token) = λ n. take_mark m.Assign n.1 >>= (λ t. cond (is_new known n.0) (sum_and m.Semicolon known t >>= (λ r. Some (stmt.Declare (length known.names) r.0, declared known n.0, r.1))) None) in
    let n = bound (take_name tokens) g (s, next, rest) h in
    let w = name_taken n.0.0 tokens n.0.1 n.1 in
    let laws : AreLawful (token (Name n.0.0) w.0 ∷ n.0.1) = subst AreLawful w.1 law in
    let t = bound (take_mark m.Assign n.0.1) (λ t. cond (is_new known n.0.0) (sum_and m.Semicolon known t >>= (λ r. Some (stmt.Declare (length known.names) r.0, declared known n.0.0, r.1))) None) (s, next, rest) n.2 in
    let k = mark_taken m.Assign n.0.1 t.0 t.1 in
    let more_laws : AreLawful (sign m.Assign k.0 ∷ t.0) = subst AreLawful k.1 laws.1 in
    let c = chosen (is_new known n.0.0) (sum_and m.Semicolon known t.0 >>= (λ r. Some (stmt.Declare (length known.names) r.0, declared known n.0.0, r.1))) (s, next, rest) t.2 in
    let r = bound (sum_and m.Semicolon known t.0) (λ r. Some (stmt.Declare (length known.names) r.0, declared known n.0.0, r.1)) (s, next, rest) c.1 in
    let p = triple_parts (stmt.Declare (length known.names) r.0.0) s (declared known n.0.0) next r.0.1 rest r.2 in
    let f = new_is known n.0.0 c.0 in
    let shape : tokens ≡ token (Name n.0.0) w.0 ∷ sign m.Assign k.0 ∷ t.0 = w.1 ∙ ap (λ x. token (Name n.0.0) w.0 ∷ x) k.1 in
    let own_sum = and_sound known.names known m.Semicolon t.0 r.0.0 r.0.1 self more_laws.1 r.1 in
    let short : length r.0.1 < length tokens = (let l = sum_shorter known.names r.0.0 t.0 (sign m.Semicolon own_sum.at ∷ r.0.1) own_sum.is in let j = ap length shape in omega arith) in
    let read : (names later : Names) → names ≡ (declared known n.0.0).names ++ later → Agrees names known → StmtRead names known (declared known n.0.0) lvl (stmt.Declare (length known.names) r.0.0) (sign m.Long at ∷ tokens) r.0.1 =
    λ names later e ag. (
    let a = and_sound names known m.Semicolon t.0 r.0.0 r.0.1 ag more_laws.1 r.1 in
    let here : slice_get names (length known.names) ≡ Some n.0.0 =
    subst (λ ns. slice_get ns (length known.names) ≡ Some n.0.0) (sym (e ∙ append_assoc known.names (n.0.0 ∷ []) later)) (get_end known.names later n.0.0) in
    let is : IsStmt names (stmt.Declare (length known.names) r.0.0) (sign m.Long at ∷ tokens) r.0.1 =
    subst (λ ts. IsStmt names (stmt.Declare (length known.names) r.0.0) (sign m.Long at ∷ ts) r.0.1) (sym shape)
    (declares (length known.names) n.0.0 r.0.0 at w.0 k.0 a.at t.0 r.0.1 here a.is) in
    record { is = is; stand = (a.stand, refl); after = new_scope known n.0.0; law = a.law; shorter = (let l = sum_shorter names r.0.0 t.0 (sign m.Semicolon a.at ∷ r.0.1) a.is in let j = ap length shape in omega arith) }) in
    subst (λ x. DeclareRead known next lvl at x tokens rest) p.0
    (subst (λ x. DeclareRead known x lvl at (stmt.Declare (length known.names) r.0.0) tokens rest) p.1
    (subst (λ x. DeclareRead known (declared known n.0.0) lvl at (stmt.Declare (length known.names) r.0.0) tokens x) p.2
    (record { name = n.0.0; gained = refl; fresh = f.0; room = f.1; variable = laws.0; law = own_sum.law; shorter = short; is = read })))

-- ---- back over one step

abbrev pub Back : Place → Place → Type 0
Back place next = Kept next × ((p : Program) → Completes next p → Completes place p) × (length next.tokens < length place.tokens)

back_stmt : (tokens rest : List Token) (known next : Known) (outer : List Frame) (done : List Stmt) (s : Stmt) (extra : Names) (p : Program)
    → next.names ≡ known.names ++ extra → ((later : Names) → p.names ≡ next.names ++ later → AreDistinct p.names → StmtRead p.names known next (level outer) s tokens rest)
    → Completes (place_at rest next outer (done ++ s ∷ [])) p → Completes (place_at tokens known outer done) p
back_stmt tokens rest known next outer done s extra p e read c =
    let r = read c.later c.longer c.kept.distinct in
    let scope = scope_after (scope_of known) s in
    record {
      later = extra ++ c.later;
      longer = c.longer ∙ (ap (λ ns. ns ++ c.later) e ∙ append_assoc known.names extra c.later);
      rest = s ∷ c.rest;
      after = c.after;
      stmts = one_more s c.rest tokens rest c.after r.is c.stmts;
      stand = (r.stand, subst (λ sc. ListStands sc (level outer) c.rest) r.after c.stand);
      finish = subst (λ xs. Finishes outer xs (scope_after_list scope c.rest).declared c.after p) (append_assoc done (s ∷ []) c.rest)
          (subst (λ sc. Finishes outer ((done ++ s ∷ []) ++ c.rest) (scope_after_list sc c.rest).declared c.after p) r.after c.finish);
      kept = c.kept;
    }

with_known : (tokens rest : List Token) (known : Known) (outer : List Frame) (done more : List Stmt) → Kept (place_at tokens known outer done) → AreLawful rest → Kept (place_at rest known outer more)
with_known tokens rest known outer done more k law = record { law = law; names = k.names; below = k.below; frames = k.frames }

back_same : (tokens rest : List Token) (known : Known) (outer : List Frame) (done : List Stmt) (s : Stmt) (place : Place) → Kept (place_at tokens known outer done)
    → ((names : Names) → Agrees names known → StmtRead names known known (level outer) s tokens rest) → added (place_at rest known outer done) known s rest ≡ place → Back (place_at tokens known outer done) place
back_same tokens rest known outer done s place k read e =
    subst (λ x. Back (place_at tokens known outer done) x) e (
      with_known tokens rest known outer done (done ++ s ∷ []) k (read known.names (own (place_at tokens known outer done) k)).law,
      λ p c. back_stmt tokens rest known known outer done s [] p (sym (append-nil known.names)) (λ later g d. read p.names (agrees (place_at tokens known outer done) p.names later k g d)) c,
      (read known.names (own (place_at tokens known outer done) k)).shorter,
    )

below_more : (outer : List Frame) (n : ℕ) → FramesBelow outer n → FramesBelow outer (n + 1)
below_more [] n h = tt
below_more (open_block ∷ outer) n h = ((λ x s. (let l = h.0 x s in omega arith)), below_more outer n h.1)

snoc_at : {A : Type 0} (xs : List A) (y : A) (i : ℕ) (x : A) → slice_get (xs ++ y ∷ []) i ≡ Some x → (slice_get xs i ≡ Some x) ⊎ ((i ≡ length xs) × (y ≡ x))
snoc_at [] y zero x h = inr (refl, cc)
snoc_at [] y (suc i) x h = absurd cc
snoc_at (z ∷ xs) y zero x h = inl h
snoc_at (z ∷ xs) y (suc i) x h = elim (snoc_at xs y i x h) as (λ _. (slice_get xs i ≡ Some x) ⊎ ((suc i ≡ suc (length xs)) × (y ≡ x))) [ inl a ↦ inl a | inr b ↦ inr (ap suc b.0, b.1) ]

distinct_more : (names : Names) (name : List ℕ) → AreDistinct names → ((i : ℕ) → slice_get names i ≢ Some name) → AreDistinct (names ++ name ∷ [])
distinct_more names name d fresh i j n hi hj =
    elim (snoc_at names name i n hi) as (λ _. i ≡ j) [
      | inl a ↦ elim (snoc_at names name j n hj) as (λ _. i ≡ j) [ inl b ↦ d i j n a b | inr b ↦ absurd (fresh i (a ∙ ap Some (sym b.1))) ]
      | inr a ↦ elim (snoc_at names name j n hj) as (λ _. i ≡ j) [ inl b ↦ absurd (fresh j (b ∙ ap Some (sym a.1))) | inr b ↦ a.0 ∙ sym b.0 ]
    ]

all_more : (names : Names) (name : List ℕ) → All IsVariable names → IsVariable name → All IsVariable (names ++ name ∷ [])
all_more [] name all is = All-cons IsVariable name [] is (All-nil IsVariable)
all_more (first ∷ names) name all is = All-cons IsVariable first (names ++ name ∷ []) (all 0 first (omega arith)) (all_more names name (λ k d l. all (suc k) d (omega arith)) is)

names_more : (names : Names) (name : List ℕ) → KeptNames names → IsVariable name → ((i : ℕ) → slice_get names i ≢ Some name) → length names < 32 → KeptNames (names ++ name ∷ [])
names_more names name k is fresh room = record {
  count = (let l = length-append names (name ∷ []) in omega arith);
  variables = all_more names name k.variables is;
  distinct = distinct_more names name k.distinct fresh;
}

contains_more : (xs : List ℕ) (y x : ℕ) → Contains (y ∷ xs) x → (x ≡ y) ⊎ Contains xs x
contains_more xs y x (zero, l, e) = inl (sym e)
contains_more xs y x (suc k, l, e) = inr (k, omega arith, e)

kept_declared : (tokens rest : List Token) (known : Known) (outer : List Frame) (done more : List Stmt) (name : List ℕ) → Kept (place_at tokens known outer done) → AreLawful rest → IsVariable name
    → ((i : ℕ) → slice_get known.names i ≢ Some name) → length known.names < 32 → Kept (place_at rest (declared known name) outer more)
kept_declared tokens rest known outer done more name k law is fresh room =
    let l = length-append known.names (name ∷ []) in
    record {
      law = law;
      names = names_more known.names name k.names is fresh room;
      below = λ x s. elim (contains_more known.visible (length known.names) x s) as (λ _. x < length (known.names ++ name ∷ [])) [ inl e ↦ omega arith | inr c ↦ (let b = k.below x c in omega arith) ];
      frames = subst (λ n. FramesBelow outer n) (sym l) (below_more outer (length known.names) k.frames);
    }

back_declare : (tokens rest : List Token) (known next : Known) (outer : List Frame) (done : List Stmt) (at : Span) (s : Stmt) (place : Place) → Kept (place_at (sign m.Long at ∷ tokens) known outer done)
    → DeclareRead known next (level outer) at s tokens rest → added (place_at rest known outer done) next s rest ≡ place → Back (place_at (sign m.Long at ∷ tokens) known outer done) place
back_declare tokens rest known next outer done at s place k d e =
    let whole = sign m.Long at ∷ tokens in
    subst (λ x. Back (place_at whole known outer done) x) e (
      subst (λ x. Kept (place_at rest x outer (done ++ s ∷ []))) (sym d.gained) (kept_declared whole rest known outer done (done ++ s ∷ []) d.name k d.law d.variable d.fresh d.room),
      λ p c. back_stmt whole rest known next outer done s (d.name ∷ []) p (ap (λ x. x.names) d.gained)
          (λ later g dis. d.is p.names later g (agrees (place_at whole known outer done) p.names (d.name ∷ later) k
          (g ∙ (ap (λ x. x.names ++ later) d.gained ∙ append_assoc known.names (d.name ∷ []) later)) dis)) c,
      (let l = d.shorter in omega arith),
    )

-- ---- blocks

back_open : (tokens rest : List Token) (known : Known) (outer : List Frame) (done : List Stmt) (at : Span) (value : Sum) (place : Place) → Kept (place_at (sign m.While at ∷ tokens) known outer done)
    → length outer < 31 → ((names : Names) → Agrees names known → Enclosed names known m.OpenBrace value tokens rest)
    → opened (place_at tokens known outer done) value rest ≡ place → Back (place_at (sign m.While at ∷ tokens) known outer done) place
back_open tokens rest known outer done at value place k room read e =
    let whole = sign m.While at ∷ tokens in
    let own_read = read known.names (own (place_at whole known outer done) k) in
    subst (λ x. Back (place_at whole known outer done) x) e (
      record { law = own_read.law; names = k.names; below = k.below; frames = (k.below, k.frames) },
      λ p c. (
          let f = c.finish in
          let r = read p.names (agrees (place_at whole known outer done) p.names c.later k c.longer c.kept.distinct) in
          let body : AreStmts p.names c.rest rest (sign m.CloseBrace f.0 ∷ f.1) = subst (λ ts. AreStmts p.names c.rest rest ts) f.4 c.stmts in
          let is : IsStmt p.names (stmt.While value c.rest) whole f.1 =
          subst (λ ts. IsStmt p.names (stmt.While value c.rest) (sign m.While at ∷ ts) f.1) (sym r.shape) (loops value c.rest at r.open_at r.close_at r.mark_at f.0 r.inner rest f.1 r.is body) in
          let l = level_is outer in
          let after = while_after (scope_of known) value c.rest in
          record {
            later = c.later;
            longer = c.longer;
            rest = stmt.While value c.rest ∷ f.2;
            after = f.3;
            stmts = one_more (stmt.While value c.rest) f.2 whole f.1 f.3 is f.5;
            stand = (while_from (scope_of known) (level outer) value c.rest r.stand (omega arith) c.stand, subst (λ sc. ListStands sc (level outer) f.2) (sym after) f.6);
            finish = subst (λ sc. Finishes outer (done ++ stmt.While value c.rest ∷ f.2) (scope_after_list sc f.2).declared f.3 p) (sym after) f.7;
            kept = c.kept;
          }),
      (let l = sum_shorter known.names value own_read.inner (sign m.CloseParenthesis own_read.close_at ∷ sign m.OpenBrace own_read.mark_at ∷ rest) own_read.is in let j = ap length own_read.shape in omega arith),
    )

back_close : (tokens : List Token) (known : Known) (open_block : Frame) (outer : List Frame) (done : List Stmt) (at : Span) → Kept (place_at (sign m.CloseBrace at ∷ tokens) known (open_block ∷ outer) done)
    → Back (place_at (sign m.CloseBrace at ∷ tokens) known (open_block ∷ outer) done) (place_at tokens (left known open_block.visible) outer (open_block.before ++ stmt.While open_block.sum done ∷ []))
back_close tokens known open_block outer done at k = (
  record { law = k.law.1; names = k.names; below = k.frames.0; frames = k.frames.1 },
  λ p c. (
      let all : Finishes outer (open_block.before ++ stmt.While open_block.sum (done ++ []) ∷ c.rest) (scope_after_list (scope_with (length known.names) open_block.visible) c.rest).declared c.after p =
      subst (λ xs. Finishes outer xs (scope_after_list (scope_with (length known.names) open_block.visible) c.rest).declared c.after p)
      (append_assoc open_block.before (stmt.While open_block.sum done ∷ []) c.rest ∙ ap (λ b. open_block.before ++ stmt.While open_block.sum b ∷ c.rest) (sym (append-nil done))) c.finish in
      record {
        later = c.later;
        longer = c.longer;
        rest = [];
        after = sign m.CloseBrace at ∷ tokens;
        stmts = no_stmt (sign m.CloseBrace at ∷ tokens);
        stand = tt;
        finish = (at, tokens, c.rest, c.after, refl, c.stmts, c.stand, all);
        kept = c.kept;
      }),
  omega arith,
)

close_is : (tokens : List Token) (known : Known) (outer : List Frame) (done : List Stmt) (at : Span) (place : Place) → Kept (place_at (sign m.CloseBrace at ∷ tokens) known outer done)
    → closed (place_at tokens known outer done) outer ≡ Some place → Back (place_at (sign m.CloseBrace at ∷ tokens) known outer done) place
close_is tokens known [] done at place k h = absurd cc
close_is tokens known (open_block ∷ outer) done at place k h =
    let e : place_at tokens (left known open_block.visible) outer (open_block.before ++ stmt.While open_block.sum done ∷ []) ≡ place = cc in
    subst (λ x. Back (place_at (sign m.CloseBrace at ∷ tokens) known (open_block ∷ outer) done) x) e (back_close tokens known open_block outer done at k)

-- ---- a step

back_by : (kind : Kind) (at : Span) (tokens : List Token) (known : Known) (outer : List Frame) (done : List Stmt) (place : Place) → Kept (place_at (token kind at ∷ tokens) known outer done)
    → step_by kind (place_at tokens known outer done) ≡ Some place → Back (place_at (token kind at ∷ tokens) known outer done) place
unfolding assign_step declare_step print_step open_step close_step
back_by (Number value) at tokens known outer done place k h = absurd cc
back_by (Name name) at tokens known outer done place k h =
    let r = bound (assign known name tokens) (λ r. Some (added (place_at tokens known outer done) known r.0 r.1)) place h in
    let e : added (place_at tokens known outer done) known r.0.0 r.0.1 ≡ place = (let s = r.2 in cc) in
    back_same (token (Name name) at ∷ tokens) r.0.1 known outer done r.0.0 place k
    (λ names ag. assign_sound names known (level outer) name at tokens r.0.0 r.0.1 ag k.law.1 r.1) e
back_by (Fixed m.Long) at tokens known outer done place k h =
    let r = bound (declare known tokens) (λ r. Some (added (place_at tokens known outer done) r.1 r.0 r.2)) place h in
    let e : added (place_at tokens known outer done) r.0.1 r.0.0 r.0.2 ≡ place = (let s = r.2 in cc) in
    back_declare tokens r.0.2 known r.0.1 outer done at r.0.0 place k
    (declare_sound known (level outer) at tokens r.0.0 r.0.1 r.0.2 (own (place_at (sign m.Long at ∷ tokens) known outer done) k) k.law.1 r.1) e
back_by (Fixed m.Corun) at tokens known outer done place k h =
    let r = bound (print known tokens) (λ r. Some (added (place_at tokens known outer done) known r.0 r.1)) place h in
    let e : added (place_at tokens known outer done) known r.0.0 r.0.1 ≡ place = (let s = r.2 in cc) in
    back_same (sign m.Corun at ∷ tokens) r.0.1 known outer done r.0.0 place k
    (λ names ag. print_sound names known (level outer) at tokens r.0.0 r.0.1 ag k.law.1 r.1) e
back_by (Fixed m.While) at tokens known outer done place k h =
    let c = chosen (nat_lt (length outer) 31) (enclosed m.OpenBrace known tokens >>= (λ r. Some (opened (place_at tokens known outer done) r.0 r.1))) place h in
    let r = bound (enclosed m.OpenBrace known tokens) (λ r. Some (opened (place_at tokens known outer done) r.0 r.1)) place c.1 in
    let e : opened (place_at tokens known outer done) r.0.0 r.0.1 ≡ place = (let s = r.2 in cc) in
    back_open tokens r.0.1 known outer done at r.0.0 place k (ltb-true (length outer) 31 c.0)
    (λ names ag. enclosed_sound names known m.OpenBrace tokens r.0.0 r.0.1 ag k.law.1 r.1) e
back_by (Fixed m.CloseBrace) at tokens known outer done place k h = close_is tokens known outer done at place k h
back_by (Fixed _) at tokens known outer done place k h = absurd cc

back_from : (tokens : List Token) (known : Known) (outer : List Frame) (done : List Stmt) (place : Place) → Kept (place_at tokens known outer done) → step_from (place_at tokens known outer done) tokens ≡ Some place
    → Back (place_at tokens known outer done) place
back_from [] known outer done place k h = absurd cc
back_from (first ∷ tokens) known outer done place k h = back_by first.kind first.span tokens known outer done place k h

pub back : (place next : Place) → Kept place → step place ≡ Some next → Back place next
unfolding step
back place next k h = back_from place.tokens place.known place.outer place.done next k h
