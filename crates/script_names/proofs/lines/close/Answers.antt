use Rattle.std.proofs.Common.{◌∙◌, refl, sym}
use Rattle.script_names.proofs.TableLemmas.{none_where, unchanged}
use Rattle.script_names.proofs.lines.close.Goals as goal

pub returns-in-Some-take-clause-took : goal.returns-in-Some-take-clause-took
returns-in-Some-take-clause-took c handles pendings = record {
  handles = refl;
  no_handles = unchanged c.args.rooms.now.handles.named.items c.take.new.self.named.items c.args.name
      (sym c.take.ensures.before ∙ none_where c.take.result c.in_default.not-Some) c.take.ensures.after;
  pendings = rw (sym c.take-2.ensures.before ∙ c.in-Some-take.is) refl;
  no_pendings = c.take-2.ensures.after;
  responder = refl;
  no_responder = refl;
  stands = refl;
  kept = refl;
}

pub returns-in-Some-take-2-clause-took : goal.returns-in-Some-take-2-clause-took
returns-in-Some-take-2-clause-took c handles pendings = record {
  handles = refl;
  no_handles = unchanged c.args.rooms.now.handles.named.items c.take.new.self.named.items c.args.name
      (sym c.take.ensures.before ∙ none_where c.take.result c.in_default.not-Some) c.take.ensures.after;
  pendings = refl;
  no_pendings = unchanged c.args.rooms.now.pendings.named.items c.take-2.new.self.named.items c.args.name
      (sym c.take-2.ensures.before ∙ none_where c.take-2.result c.in_default-take.not-Some) c.take-2.ensures.after;
  responder = rw (sym c.take-3.ensures.before ∙ c.in-Some-take-2.is) refl;
  no_responder = c.take-3.ensures.after;
  stands = refl;
  kept = refl;
}

pub returns-in-None-clause-took : goal.returns-in-None-clause-took
returns-in-None-clause-took c handles pendings = record {
  handles = refl;
  no_handles = unchanged c.args.rooms.now.handles.named.items c.take.new.self.named.items c.args.name
      (sym c.take.ensures.before ∙ none_where c.take.result c.in_default.not-Some) c.take.ensures.after;
  pendings = refl;
  no_pendings = unchanged c.args.rooms.now.pendings.named.items c.take-2.new.self.named.items c.args.name
      (sym c.take-2.ensures.before ∙ none_where c.take-2.result c.in_default-take.not-Some) c.take-2.ensures.after;
  responder = refl;
  no_responder = unchanged c.args.rooms.now.responders.named.items c.take-3.new.self.named.items c.args.name
      (sym c.take-3.ensures.before ∙ c.in-None.is) c.take-3.ensures.after;
  stands = refl;
  kept = refl;
}
