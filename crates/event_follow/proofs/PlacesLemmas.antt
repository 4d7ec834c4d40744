-- Sequences before their first lines.
use Rattle.std.proofs.Common.{◌≡◌, ℕ, List, [], ◌++◌, length, ap, ◌∙◌}
use Rattle.std.specs.Prelude.{Option, None, replicate}
use Rattle.std.proofs.Math.Path.{fun_ext}
use Rattle.std.proofs.lemmas.List.{length-replicate}
use Rattle.mj_base.specs.declared.ids.SeqId.{SeqId}
use Rattle.handle_table.specs.declared.thing.Thing.{Thing}
use Rattle.bind_model.specs.declared.endpoint.PendingId.{PendingId}
use Rattle.bind_model.specs.declared.endpoint.ResponderId.{ResponderId}
use Rattle.call_script.specs.declared.script.NameId.{NameId}
use Rattle.call_script.specs.declared.script.Script.{Script}
use Rattle.plain_names.specs.Held.{HasNames, IsUnnamed, named_in}
use Rattle.plain_names.specs.declared.named.PlainNames.{PlainNames}
use Rattle.script_names.specs.Held.{held_at}
use Rattle.script_names.specs.Names.{unnamed}
use Rattle.script_run.proofs.JoinDone.{same_named}
use Rattle.script_run.proofs.RunParts.{none_held, none_there}
use Rattle.event_follow.specs.declared.places.Place.{Place}
use Rattle.event_follow.specs.steps.Joining.{IsBehind}
use Rattle.event_follow.specs.steps.Places.{IsFresh}

-- so many names were added to none
added : {X : Type 0} (old new : List (Option X)) (size : ℕ) → length old ≡ 0 → new ≡ old ++ replicate size None → new ≡ replicate size None
added {X} old new size none more = more ∙ ap (λ (table : List (Option X)). table ++ replicate size None) (none_there old none)

pub unnamed_new : (size : ℕ) (old new : PlainNames) → HasNames 0 old → new.stands.things.items ≡ old.stands.things.items ++ replicate size None
    → new.handles.items.items ≡ old.handles.items.items ++ replicate size None
    → new.pendings.items.items ≡ old.pendings.items.items ++ replicate size None
    → new.responders.items.items ≡ old.responders.items.items ++ replicate size None → IsUnnamed size new
unnamed_new size old new none stands handles pendings responders = record {
  stands = added old.stands.things.items new.stands.things.items size none.stands stands;
  handles = added old.handles.items.items new.handles.items.items size none.handles handles;
  pendings = added old.pendings.items.items new.pendings.items.items size none.pendings pendings;
  responders = added old.responders.items.items new.responders.items.items size none.responders responders;
}

module _ (size : ℕ) (names : PlainNames) (is : IsUnnamed size names) where
  unnamed_names : HasNames size names
  unnamed_names = record {
    stands = ap length is.stands ∙ length-replicate size None;
    handles = ap length is.handles ∙ length-replicate size None;
    pendings = ap length is.pendings ∙ length-replicate size None;
    responders = ap length is.responders ∙ length-replicate size None;
  }

  unnamed_held : named_in names ≡ unnamed
  unnamed_held =
      same_named (named_in names) unnamed
      (fun_ext (λ (n : NameId). ap (λ (table : List (Option Thing)). held_at table n) is.stands ∙ none_held size n))
      (fun_ext (λ (n : NameId). ap (λ (table : List (Option Thing)). held_at table n) is.handles ∙ none_held size n))
      (fun_ext (λ (n : NameId). ap (λ (table : List (Option PendingId)). held_at table n) is.pendings ∙ none_held size n))
      (fun_ext (λ (n : NameId). ap (λ (table : List (Option ResponderId)). held_at table n) is.responders ∙ none_held size n))

-- a sequence that has done nothing stands behind no joins
pub behind_none : (script : Script) (s : SeqId) (place : Place) → IsFresh script s.0 place → IsBehind script [] s place
behind_none script s place fresh = record {
  names = unnamed_names script.names place.names fresh.names;
  named = unnamed_held script.names place.names fresh.names;
  lines = fresh.lines;
  done = fresh.done;
  due = fresh.due;
}
