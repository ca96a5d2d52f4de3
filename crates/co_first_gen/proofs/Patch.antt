-- The jump past a loop is written after the loop's body.
use Rattle.std.proofs.Common.{◌≡◌, ℕ, ◌+◌, List, [], ◌∷◌, ◌++◌, length, sym, ap, ◌∙◌, arith, append_assoc, length-append}
use Rattle.std.specs.Prelude.{slice_set}
use Rattle.std.proofs.Math.Seq.{set-append_seam}
use Rattle.co_base.specs.declared.span.Span.{Span}
use Rattle.co_first_exec.specs.declared.instr.Instr.TheVariants.{Jump, JumpZ}
use Rattle.co_first_exec.specs.declared.instr.Placed.{Placed}
use Rattle.co_first_tree.specs.declared.tree.Stmt.{Stmt, While}
use Rattle.co_first_tree.specs.declared.tree.Sum.{Sum}
use Rattle.co_first_gen.specs.Code.{placed, span_of, sum_code, while_code, stmt_code, list_code}
use Rattle.co_first_gen.proofs.Lists.{while_is}

patched : (base test body : List Placed) (x back new : Placed) → slice_set (base ++ (test ++ x ∷ (body ++ back ∷ []))) (length (base ++ test)) new ≡ base ++ (test ++ new ∷ (body ++ back ∷ []))
patched base test body x back new =
    ap (λ l. slice_set l (length (base ++ test)) new) (sym (append_assoc base test (x ∷ (body ++ back ∷ []))))
    ∙ set-append_seam (base ++ test) x (body ++ back ∷ []) new
    ∙ append_assoc base test (new ∷ (body ++ back ∷ []))

pub patch_while : (stmt : Stmt) (sum : Sum) (stmts : List Stmt) (base c1 c2 c3 c4 : List Placed) (x : Placed) (start n1 n4 : ℕ) (s s' : Span) → stmt ≡ While sum stmts → start ≡ length base → c1 ≡ base ++ sum_code sum → n1 ≡ length c1 → c2 ≡ c1 ++ x ∷ [] → c3 ≡ c2 ++ list_code (length c2) stmts → s ≡ span_of sum → c4 ≡ c3 ++ placed (Jump start) s ∷ [] → n4 ≡ length c4 → s' ≡ span_of sum → slice_set c4 n1 (placed (JumpZ n4) s') ≡ base ++ stmt_code (length base) stmt
patch_while stmt sum stmts base c1 c2 c3 c4 x start n1 n4 s s' is st e1 m1 e2 e3 es e4 m4 es' =
    let test = sum_code sum in
    let place = length base in
    let body = list_code (length c2) stmts in
    let back = placed (Jump start) s in
    let l1 = ap length e1 ∙ length-append base test in
    let l2 = ap length e2 ∙ length-append c1 (x ∷ []) in
    let l3 = ap length e3 ∙ length-append c2 body in
    let l4 = ap length e4 ∙ length-append c3 (back ∷ []) in
    let at : length c2 ≡ place + length test + 1 = omega arith in
    let end : n4 ≡ place + length test + 1 + length body + 1 = omega arith in
    let all : c4 ≡ (((base ++ test) ++ x ∷ []) ++ body) ++ back ∷ [] = cc in
    let flat : (((base ++ test) ++ x ∷ []) ++ body) ++ back ∷ [] ≡ base ++ (test ++ x ∷ (body ++ back ∷ [])) = simp append_assoc in
    ap (λ l. slice_set l n1 (placed (JumpZ n4) s')) (all ∙ flat)
    ∙ ap (λ n. slice_set (base ++ (test ++ x ∷ (body ++ back ∷ []))) n (placed (JumpZ n4) s')) (m1 ∙ ap length e1)
    ∙ patched base test body x back (placed (JumpZ n4) s')
    ∙ ap (λ n. base ++ (test ++ placed (JumpZ n) s' ∷ (body ++ back ∷ []))) end
    ∙ ap (λ p. base ++ (test ++ placed (JumpZ (place + length test + 1 + length body + 1)) p ∷ (body ++ back ∷ []))) es'
    ∙ ap (λ p. base ++ (test ++ placed (JumpZ (place + length test + 1 + length body + 1)) (span_of sum) ∷ (body ++ placed (Jump start) p ∷ []))) es
    ∙ ap (λ n. base ++ (test ++ placed (JumpZ (place + length test + 1 + length body + 1)) (span_of sum) ∷ (body ++ placed (Jump n) (span_of sum) ∷ []))) st
    ∙ ap (λ n. base ++ while_code place sum (list_code n stmts)) at
    ∙ ap (λ l. base ++ l) (sym (while_is place sum stmts) ∙ ap (stmt_code place) (sym is))
