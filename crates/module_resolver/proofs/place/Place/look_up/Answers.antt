use Rattle.std.proofs.Common.{◌≡◌, subst}
use Rattle.std.specs.Prelude.{None}
use Rattle.module_resolver.specs.LookUp.{look_up}
use Rattle.module_resolver.specs.Places.{Spot}
use Rattle.module_resolver.proofs.Places.{seat_is, found_nowhere, found_here}
use Rattle.module_resolver.proofs.place.Place.look_up.Goals as goal

pub look_up_from-requires-clause-dots : goal.look_up_from-requires-clause-dots
look_up_from-requires-clause-dots c =
    let at = c.self.inside in
    let is = seat_is at.names.now.files at.file at.enclosing.now at.seat c.in-Some.seat c.in-Some.is c.self.invariant in
    is.have_dots

pub look_up_from-requires-clause-nodes : goal.look_up_from-requires-clause-nodes
look_up_from-requires-clause-nodes c =
    let at = c.self.inside in
    let is = seat_is at.names.now.files at.file at.enclosing.now at.seat c.in-Some.seat c.in-Some.is c.self.invariant in
    is.are_nodes

pub returns-in-Some : goal.returns-in-Some
returns-in-Some c =
    let at = c.self.inside in
    let is = seat_is at.names.now.files at.file at.enclosing.now at.seat c.in-Some.seat c.in-Some.is c.self.invariant in
    subst (λ (s : Spot). c.look_up_from.result ≡ look_up s.files s.file s.enclosing c.args.name.now) c.self.view_is
    (found_here at.names.now.files at.file at.enclosing.now c.args.name.now c.in-Some.seat c.look_up_from.result is c.look_up_from.ensures)

pub returns-in-None : goal.returns-in-None
returns-in-None c =
    let at = c.self.inside in
    subst (λ (s : Spot). None ≡ look_up s.files s.file s.enclosing c.args.name.now) c.self.view_is
    (found_nowhere at.names.now.files at.file at.enclosing.now c.args.name.now at.seat c.in-None.is c.self.invariant)
