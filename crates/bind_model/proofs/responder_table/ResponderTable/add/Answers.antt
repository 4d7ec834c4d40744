use Rattle.std.proofs.Common.{◌≡◌, ◌+◌, ℕ, ap, arith, refl, subst, ◌∙◌}
use Rattle.std.specs.Prelude.{Option, Some, unwrap_or}
use Rattle.std.specs.BTreeMap.{Updates, get}
use Rattle.bind_model.specs.Responders.{count_of}
use Rattle.bind_model.specs.declared.responder.ResponderName.{ResponderName}
use Rattle.bind_model.proofs.ResponderCounts.{count_found, count_more, no_count, responder_cmp}
use Rattle.bind_model.proofs.responder_table.ResponderTable.add.Goals.{in-Some, in_default}
use Rattle.bind_model.proofs.responder_table.ResponderTable.add.Goals as goal

pub overflow_add-count : goal.overflow_add-count
overflow_add-count c =
    let e : c.in-Some.count.now ≡ count_of c.args.self.now c.args.id =
    count_found c.self.inside.counts c.args.self.now c.args.id c.in-Some.count.now c.self.view_is
    (ap (λ (o : Option ℕ). unwrap_or o 0)
    (c.in-Some.ensures.value ∙ ap (λ (name : ResponderName). get responder_cmp c.self.inside.counts name) c.name_of.ensures)) in
    omega (arith, e, c.requires.room)

pub returns : goal.returns
returns c =
    let key = ap (λ (name : ResponderName). get responder_cmp c.self.inside.counts name) c.name_of.ensures in
    elim c.match-get_mut.branch [
      | in-Some w ↦ (λ r.
          rw (w.self-inside-is, ← c.self.view_is)
          (count_more c.self.inside.counts (c.get_mut.follows.lender (w.in-Some.count.now + 1)) c.args.id w.in-Some.count.now (w.in-Some.ensures.value ∙ key)
          (subst
          (λ (name : ResponderName).
          Updates responder_cmp c.self.inside.counts (c.get_mut.follows.lender (w.in-Some.count.now + 1)) name (Some (w.in-Some.count.now + 1)))
          c.name_of.ensures ((c.get_mut.follows.holds (w.in-Some.count.now + 1)).3 (rw (← w.in-Some.ensures.value) refl)))
          r))
      | in_default w ↦
          absurd (no_count c.self.inside.counts c.args.self.now c.args.id c.self.view_is (w.in_default.ensures.value ∙ key) c.requires.there)
    ]
