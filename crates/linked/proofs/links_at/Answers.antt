-- `linked::links_at` meets its contract: links that passed can be followed.
-- Assumes nothing.
use mathlib.Core.Bool.{not}
use mathlib.Core.Path.{ap}
use native.Mathlib.Omega.{arith}
use Rattle.links.specs.TestLaws.{passed}
use Rattle.links.proofs.TurnLaws.{sane_each, link_below, link_names_slot}
use Rattle.linked.proofs.links_at.Goals as goal

pub siblings_agree-requires : goal.siblings_agree-requires
siblings_agree-requires c = let s = sane_each _ _ _ (passed c.links_sane.ensures (ap not c.if-not-links_sane.false)) in
    let t = c.requires.0 in
    (link_names_slot _ _ _ t s.1, link_names_slot _ _ _ t s.2)

pub family_agrees-requires : goal.family_agrees-requires
family_agrees-requires c = let s = sane_each _ _ _ (passed c.links_sane.ensures (ap not c.if-not-links_sane.false)) in
    let p = c.requires in
    (link_names_slot _ _ _ p.0 s.0, λ e. omega (arith, link_below _ _ _ s.0 e), omega arith)
