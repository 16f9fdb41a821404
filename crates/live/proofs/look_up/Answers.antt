use mathlib.Core.Path.{◌≡◌, refl, sym}
use native.Mathlib.Omega.{arith}
use borrow.Author.Rules.{rules}
use Rattle.std.specs.Prelude.{Result, Err}
use Rattle.geometry.specs.declared.Rectangle.{Rectangle}
use Rattle.refusals.specs.declared.Refusal.{Refusal}
use Rattle.refusals.proofs.RefusalLaws.{refused_not_0}
use Rattle.live.proofs.TicketLaws.{live_below, rect_none, rect_live}
use Rattle.live.proofs.look_up.Goals as goal

pub returns-in_err-ticket_answer : goal.returns-in_err-ticket_answer
returns-in_err-ticket_answer c =
    let is : ◌≡◌ {A = Result Rectangle Refusal} c.from_residual.result (Err c.in_err-ticket_answer.field-0.0) = search rules in
    rw is (c.in_err-ticket_answer.ensures, rect_none _ _ _ _ c.in_err-ticket_answer.ensures (refused_not_0 _) refl)

pub node_at-requires : goal.node_at-requires
node_at-requires c = let h = live_below _ _ _ _ (sym c.in_ok-ticket_answer.ensures) in rw c.get_index.ensures (omega (arith, c.requires.table.slots))

pub returns : goal.returns
returns c = rect_live _ _ _ _ c.in_ok-ticket_answer.ensures refl c.get_index.ensures c.node_at.ensures
