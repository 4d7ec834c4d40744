-- What names stand for and hold after an event of a line.
use Rattle.std.specs.Prelude.{◌+◌, List, [], drop, length, if◌then◌else◌}
use Rattle.bind_model.specs.Machine.{handed}
use Rattle.bind_model.specs.declared.endpoint.ResponderId.{ResponderId}
use Rattle.bind_model.specs.declared.event.Event.{Event}
use Rattle.call_script.specs.Sound.{sets}
use Rattle.call_script.specs.declared.script.Command.{Command}
use Rattle.script_names.specs.Names.{Named, handles_spent, is_done, pendings_handed, pendings_spent, responders_spent, then_held}

-- the names after an event of a line with this command, where these rights to answer come under names
abbrev pub settled_by : Command → List ResponderId → Event → Named → Named
settled_by line responders event before = record {
  stands = then_held (sets line) (handed event.told) [] before.stands;
  handle = then_held (sets line) (handed event.told)
      (if is_done event.told then handles_spent before.stands line event.asked else []) before.handle;
  pending = then_held (drop (length (handed event.told)) (sets line)) (pendings_handed event.told)
      (if is_done event.told then pendings_spent before.stands line event.asked else []) before.pending;
  responder = then_held (drop (length (handed event.told) + length (pendings_handed event.told)) (sets line)) responders
      (if is_done event.told then responders_spent before.stands line event.asked else []) before.responder;
}
