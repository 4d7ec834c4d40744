use Rattle.std.proofs.Common.{◌≡◌, false, List, length, replicate, slice_get, None, sym, ap, ◌∙◌, arith}
use Rattle.mj_schema.specs.KindTrees.{StructKind}
use Rattle.wire_model.specs.Trees.{view}
use Rattle.bind_model.specs.Machine.{endpoint_named}
use Rattle.bind_model.specs.Wire.{Named}
use Rattle.core_taking.specs.Admits.{by_slot}
use Rattle.core_taking.specs.steps.Slots.{names, noted}
use Rattle.core_taking.proofs.SlotsNoted.{Places, noted_length, places_say, written_whole}
use Rattle.core_taking.proofs.SlotsNamed.{names_are}
use Rattle.core_taking.proofs.slots.slots_of.Goals as goal
use Rattle.core_taking.proofs.slots.slots_of.Goals.{then-ids-gt0, else-ids-gt0}

pub returns-clause-named : goal.returns-clause-named
returns-clause-named c = λ k lt. elim c.if-ids-gt0.branch [
  | then-ids-gt0 w ↦
      let named = names c.args.schema.now (StructKind c.args.number false) (view c.args.value.now) in
      let said : w.note_parameters.new.slots ≡ noted named (replicate c.args.ids None) =
      w.note_parameters.ensures ∙ ap (noted named) (w.deref_mut.ensures.value ∙ c.in_ok-slots.ensures) in
      let many : length w.note_parameters.new.slots ≡ c.in_ok-slots.slots.len =
      ap length w.note_parameters.ensures ∙ (noted_length named w.deref_mut.result.now
      ∙ (ap length w.deref_mut.ensures.value ∙ sym c.in_ok-slots.slots.ok.0)) in
      rw w.slots-is (ap (λ (ns : List Named). endpoint_named ns k)
      (names_are c.args.schema.now (view c.args.value.now) 0 false (StructKind c.args.number false))
      ∙ (places_say named c.args.ids k lt ∙ ap (λ (ss : Places). by_slot (slice_get ss k))
      (sym said ∙ sym (written_whole c.in_ok-slots.slots.len w.note_parameters.new.slots c.in_ok-slots.slots.items many))))
  | else-ids-gt0 w ↦ absurd (omega (arith, lt, w.if-ids-gt0.false))
]
