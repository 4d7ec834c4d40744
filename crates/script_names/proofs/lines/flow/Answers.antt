use Rattle.std.proofs.Common.{◌∙◌, refl, sym}
use Rattle.script_names.proofs.TableLemmas.{unchanged}
use Rattle.script_names.proofs.lines.flow.Goals as goal

pub returns-in-None-clause-took : goal.returns-in-None-clause-took
returns-in-None-clause-took c handles pendings = record {
  handles = refl;
  no_handles = unchanged c.args.rooms.now.handles.named.items c.take.new.self.named.items c.args.name
      (sym c.take.ensures.before ∙ c.in-None.is) c.take.ensures.after;
  pendings = refl;
  no_pendings = refl;
  responder = refl;
  no_responder = refl;
  stands = refl;
  kept = refl;
}
