use Rattle.std.proofs.Common.{◌≡◌, ◌∙◌, ℕ, List, ap, drop, length, subst, sym}
use Rattle.std.proofs.lemmas.List.{length-reverse}
use Rattle.std.proofs.lemmas.Result.{IfOk-weaker}
use Rattle.mj_schema.specs.declared.schema.Schema.{Schema}
use Rattle.bind_model.specs.declared.event.Event.{Event}
use Rattle.call_script.specs.Sound.{IsScript}
use Rattle.event_tables.specs.AsCore.{past_by}
use Rattle.script_run.specs.Order.{joins_of}
use Rattle.event_follow.specs.steps.Following.{HaveFollowed}
use Rattle.event_follow.specs.steps.Joining.{HasJoined}
use Rattle.event_follow.proofs.FollowingLemmas.{amid_first}
use Rattle.event_follow.proofs.Joining.{all_joined, joined_first}
use Rattle.event_follow.proofs.following.follow_places.Goals as goal

pub do_joins-requires-clause-script : goal.do_joins-requires-clause-script
do_joins-requires-clause-script c = subst (λ (s : Schema). IsScript s c.args.script.now) (sym c.requires.is.schema) c.requires.script

pub do_joins-requires-clause-first : goal.do_joins-requires-clause-first
do_joins-requires-clause-first c =
    let schema = c.args.schema.now in
    let script = c.args.script.now in
    let machine = c.args.machine.now in
    let places = c.args.places.now in
    subst (λ (s : Schema). HasJoined s script 0 machine places) (sym c.requires.is.schema)
    (joined_first schema script machine places c.requires.is c.requires.fresh c.requires.places)

pub follow_lines-requires-clause-amid : goal.follow_lines-requires-clause-amid
follow_lines-requires-clause-amid c =
    let schema = c.args.schema.now in
    let script = c.args.script.now in
    let mid = c.do_joins.new.machine in
    let places = c.do_joins.new.places in
    let joins = subst (λ (s : Schema). HasJoined s script (length (joins_of script)) mid places) c.requires.is.schema c.in_ok-do_joins.ensures in
    (past_by mid.tables, amid_first schema script mid places joins)

pub returns : goal.returns
returns c =
    let schema = c.args.schema.now in
    let script = c.args.script.now in
    let events = c.args.events.now in
    let mid = c.do_joins.new.machine in
    let places = c.do_joins.new.places in
    let joins = subst (λ (s : Schema). HasJoined s script (length (joins_of script)) mid places) c.requires.is.schema c.in_ok-do_joins.ensures in
    let size : c.len.result ≡ length (past_by mid.tables) = c.len.ensures ∙ sym (length-reverse mid.tables.log.events) in
    let rest : c.behind-rest.result.now ≡ drop (length (past_by mid.tables)) events =
    c.behind-rest.ensures ∙ ap (λ (n : ℕ). drop n events) size in
    IfOk-weaker c.follow_lines.result _ _
    (λ whole followed. record {
      after_joins = past_by mid.tables;
      joined = all_joined schema script mid places joins;
      followed =
          subst (λ (es : List Event). HaveFollowed schema script (past_by mid.tables) es c.follow_lines.new.machine whole) rest
          (followed (past_by mid.tables) (amid_first schema script mid places joins));
    })
    c.follow_lines.ensures
