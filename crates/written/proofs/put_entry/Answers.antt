use mathlib.Core.Path.{refl}
use Rattle.written.specs.WriteLaws.{ticket_entry, corners_entry}
use borrow.Author.Rules.{rules}
use Rattle.written.proofs.put_entry.Goals as goal

pub returns-then-eq : goal.returns-then-eq
returns-then-eq c = let a = c.args in ticket_entry a.kind refl a.out.now a.at a.id a.rect (search rules) c.put_corners.ensures

pub returns : goal.returns
returns c = let a = c.args in corners_entry a.kind refl a.out.now a.at a.id a.rect (search rules) c.put_corners-2.ensures
