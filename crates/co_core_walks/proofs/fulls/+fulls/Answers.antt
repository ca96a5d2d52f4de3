use Rattle.std.proofs.Common.{refl}
use Rattle.co_core_walks.specs.Lists.{stmt_acts}
use Rattle.co_core_walks.proofs.Forms.{flat_end, flat_step}
use Rattle.co_core_walks.proofs.Statements.{acted_break, acted_continue, acted_full, acted_if, acted_leave, acted_local, acted_loop, acted_off_end, acted_return, acted_scope, acted_try}
use Rattle.co_core_walks.proofs.fulls.+fulls.Goals as goal

pub walk_fulls-returns-in-Scope : goal.walk_fulls-returns-in-Scope
walk_fulls-returns-in-Scope g t c = λ funcs stands.
    acted_scope funcs g.V.Visitor.after stands _ _ _ _ (c.walk_own.ensures funcs) _ _ _ c.in-Scope.is c.as_slice.ensures (c.walk_list.ensures funcs _)

pub walk_fulls-returns-in-If : goal.walk_fulls-returns-in-If
walk_fulls-returns-in-If g t c = λ funcs stands.
    acted_if funcs g.V.Visitor.after stands _ _ _ _ (c.walk_own.ensures funcs) _ _ _ _ _ _ _ c.in-If.is c.get.ensures c.get-in-If.ensures (c.walk_fulls.ensures funcs _) (c.walk_fulls-in-If.ensures funcs _)

pub walk_fulls-returns-in-Loop : goal.walk_fulls-returns-in-Loop
walk_fulls-returns-in-Loop g t c = λ funcs stands.
    acted_loop funcs g.V.Visitor.after stands _ _ _ _ (c.walk_own.ensures funcs) _ _ _ _ _ c.in-Loop.is c.get-in-Loop.ensures (c.walk_fulls-in-Loop.ensures funcs _)

pub walk_fulls-returns-in-Try : goal.walk_fulls-returns-in-Try
walk_fulls-returns-in-Try g t c = λ funcs stands.
    acted_try funcs g.V.Visitor.after stands _ _ _ _ (c.walk_own.ensures funcs) _ _ _ _ _ _ c.in-Try.is c.get-in-Try.ensures c.as_slice-in-Try.ensures (c.walk_fulls-in-Try.ensures funcs _) (c.walk_handlers.ensures funcs _)

pub walk_fulls-returns-in-Full : goal.walk_fulls-returns-in-Full
walk_fulls-returns-in-Full g t c = λ funcs stands.
    acted_full funcs g.V.Visitor.after stands _ _ c.walk_own.new.v _ (c.walk_own.ensures funcs) _ _ c.in-Full.is

pub walk_fulls-returns-in-Local : goal.walk_fulls-returns-in-Local
walk_fulls-returns-in-Local g t c = λ funcs stands.
    acted_local funcs g.V.Visitor.after stands _ _ c.walk_own.new.v _ (c.walk_own.ensures funcs) _ _ _ c.in-Local.is

pub walk_fulls-returns-in-Break : goal.walk_fulls-returns-in-Break
walk_fulls-returns-in-Break g t c = λ funcs stands.
    acted_break funcs g.V.Visitor.after stands _ _ c.walk_own.new.v _ (c.walk_own.ensures funcs) _ c.in-Break.is

pub walk_fulls-returns-in-Continue : goal.walk_fulls-returns-in-Continue
walk_fulls-returns-in-Continue g t c = λ funcs stands.
    acted_continue funcs g.V.Visitor.after stands _ _ c.walk_own.new.v _ (c.walk_own.ensures funcs) _ c.in-Continue.is

pub walk_fulls-returns-in-Return : goal.walk_fulls-returns-in-Return
walk_fulls-returns-in-Return g t c = λ funcs stands.
    acted_return funcs g.V.Visitor.after stands _ _ c.walk_own.new.v _ (c.walk_own.ensures funcs) _ _ c.in-Return.is

pub walk_fulls-returns-in-Leave : goal.walk_fulls-returns-in-Leave
walk_fulls-returns-in-Leave g t c = λ funcs stands.
    acted_leave funcs g.V.Visitor.after stands _ _ c.walk_own.new.v _ (c.walk_own.ensures funcs) _ c.in-Leave.is

pub walk_fulls-returns-in-OffEnd : goal.walk_fulls-returns-in-OffEnd
walk_fulls-returns-in-OffEnd g t c = λ funcs stands.
    acted_off_end funcs g.V.Visitor.after stands _ _ c.walk_own.new.v _ (c.walk_own.ensures funcs) _ c.in-OffEnd.is

pub walk_handlers-loop-handler-init : goal.walk_handlers-loop-handler-init
walk_handlers-loop-handler-init g t c = λ funcs stands. refl

pub walk_handlers-loop-handler-preserved : goal.walk_handlers-loop-handler-preserved
walk_handlers-loop-handler-preserved g t c = λ funcs stands.
    flat_step g.V.Visitor.after (λ handler. stmt_acts funcs stands handler.body) _ _ _ _ _ _ c.loop-handler-test.true c.handler-item.is (c.walk_fulls.ensures funcs stands) (c.loop-handler.invariant funcs stands)

pub walk_handlers-returns : goal.walk_handlers-returns
walk_handlers-returns g t c = λ funcs stands.
    flat_end g.V.Visitor.after (λ handler. stmt_acts funcs stands handler.body) _ _ _ _ c.loop-handler-test.false (c.loop-handler.invariant funcs stands)

pub walk_list-loop-s-init : goal.walk_list-loop-s-init
walk_list-loop-s-init g t c = λ funcs stands. refl

pub walk_list-loop-s-preserved : goal.walk_list-loop-s-preserved
walk_list-loop-s-preserved g t c = λ funcs stands.
    flat_step g.V.Visitor.after (stmt_acts funcs stands) _ _ _ _ _ _ c.loop-s-test.true c.s-item.is (c.walk_fulls.ensures funcs stands) (c.loop-s.invariant funcs stands)

pub walk_list-returns : goal.walk_list-returns
walk_list-returns g t c = λ funcs stands.
    flat_end g.V.Visitor.after (stmt_acts funcs stands) _ _ _ _ c.loop-s-test.false (c.loop-s.invariant funcs stands)
