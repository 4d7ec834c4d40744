use Rattle.std.proofs.Common.{arith, sym, ap, ◌∙◌, List}
use Rattle.std.specs.Prelude.{slice_get}
use Rattle.script_names.specs.declared.rooms.Rooms.{Rooms}
use Rattle.script_run.specs.Rooms.{IsUnnamed}
use Rattle.script_run.proofs.RunParts.{each_pushed, unnamed_new}
use Rattle.script_run.proofs.run.add_rooms.Goals as goal

pub loop-preserved : goal.loop-preserved
loop-preserved c = record {
  room = omega (arith, c.push_reserved.ensures.capacity);
  count = omega (arith, c.push_reserved.ensures.len);
  each = λ k room e.
      each_pushed (IsUnnamed 0) c.loop.rooms.items c.new.result (unnamed_new c.new.result c.new.ensures) c.loop.invariant.each k room
      (ap (λ (rooms : List Rooms). slice_get rooms k) (sym c.push_reserved.ensures.items) ∙ e);
}
