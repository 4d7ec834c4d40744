-- What names stand for and hold after an event of a line.
use Rattle.std.proofs.Common.{◌≡◌, ◌<◌, ◌+◌, ℕ, Bool, true, false, List, [], length, drop, refl, sym, ap, ◌∙◌, subst}
use Rattle.std.specs.Prelude.{Option, Some, None, is_some, option_and_then, if◌then◌else◌}
use Rattle.std.specs.Option.{option_map}
use Rattle.std.specs.List.{AllByRecursion}
use Rattle.std.proofs.Math.Path.{fun_ext}
use Rattle.handle_table.specs.declared.thing.Thing.{Thing}
use Rattle.bind_model.specs.Machine.{handed}
use Rattle.bind_model.specs.declared.asked.Asked.{Asked}
use Rattle.bind_model.specs.declared.asked.Asked.TheVariants as asks
use Rattle.bind_model.specs.declared.asked.Closing.TheVariants as closings
use Rattle.bind_model.specs.declared.endpoint.PendingId.{PendingId}
use Rattle.bind_model.specs.declared.endpoint.ResponderId.{ResponderId}
use Rattle.bind_model.specs.declared.event.Event.{Event}
use Rattle.call_script.specs.Sound.{AreWithin, sets}
use Rattle.call_script.specs.declared.script.Command.{Command}
use Rattle.call_script.specs.declared.script.Command.TheVariants.{Join, Pipe, Mint, Bind, Associate, Attach, Call, Take, Answer, Raw, CloseToken, CloseEndpoint}
use Rattle.call_script.specs.declared.script.Command.TheVariants.{Notify, Pause, Data, Flow}
use Rattle.call_script.specs.declared.script.Line.{Line}
use Rattle.call_script.specs.declared.script.NameId.{NameId}
use Rattle.script_names.specs.Asking.{all_held, as_end, asked_by, asked_for, closed_of, or_skip, sent_with}
use Rattle.script_names.specs.Held.{held_at}
use Rattle.script_names.specs.Names.{Named, handles_spent, has_name, is_done, pendings_handed, pendings_spent, responders_spent, then_held}
use Rattle.script_names.specs.Needs.{AreNames}
use Rattle.script_names.specs.Settling.{listed}
use Rattle.script_names.specs.Tables.{given, left_by}
use Rattle.script_names.specs.declared.names.Names.{Names}
use Rattle.script_names.specs.declared.stands.Stands.{Stands}
use Rattle.script_names.proofs.LineNames.{same_named}
use Rattle.script_names.proofs.NameLemmas.{length_given, length_left, then_given, within_drop}
use Rattle.plain_names.specs.Held.{HasNames, named_in}
use Rattle.plain_names.specs.Settled.{settled_by}
use Rattle.plain_names.specs.declared.named.PlainNames.{PlainNames}
use Rattle.plain_names.specs.steps.Spent.{Came, Spends, handles_gone, pendings_gone, responders_gone}

-- ## What is spent

-- the names of what goes with what was asked are those that the line spends
record IsGone (stands : NameId → Option Thing) (line : Command) (names : Names) (asked : Asked) : Type 0 where
  handles : handles_gone names asked ≡ handles_spent stands line asked
  pendings : pendings_gone names asked ≡ pendings_spent stands line asked
  responders : responders_gone names asked ≡ responders_spent stands line asked

-- what is skipped, or asked with what is there
module _ (P : Asked → Type 0) (number : ℕ) (skipped : P (asks.Skip number)) where
  with_one : {X : Type 0} (f : X → Asked) (o : Option X) → ((x : X) → P (f x)) → P (or_skip number (option_map f o))
  with_one f None h = skipped
  with_one f (Some x) h = h x

  with_two : {X Y : Type 0} (f : X → Y → Asked) (o : Option X) (q : Option Y) → ((x : X) (y : Y) → P (f x y))
      → P (or_skip number (option_and_then (λ (x : X). option_map (f x) q) o))
  with_two f None q h = skipped
  with_two f (Some x) None h = skipped
  with_two f (Some x) (Some y) h = h x y

  with_test : (b : Bool) (o : Option Asked) → P (or_skip number o) → P (or_skip number (if b then None else o))
  with_test true o h = skipped
  with_test false o h = h

  with_closed : (thing : Option Thing) (pending : Option PendingId) (responder : Option ResponderId)
      → ((x : Thing) → P (asks.Close (closings.Handle x))) → ((p : PendingId) → P (asks.Close (closings.Pending p)))
      → ((r : ResponderId) → P (asks.Close (closings.Responder r))) → P (or_skip number (closed_of thing pending responder))
  with_closed (Some x) pending responder a b c = a x
  with_closed None (Some p) responder a b c = b p
  with_closed None None None a b c = skipped
  with_closed None None (Some r) a b c = c r

-- a line that is skipped spends nothing
gone_none : (stands : NameId → Option Thing) (line : Command) (names : Names) (number : ℕ) → IsGone stands line names (asks.Skip number)
gone_none stands line names number = record { handles = refl; pendings = refl; responders = refl }

-- what a line asks is spent so
gone_for : (held : Named) (number : ℕ) (line : Command) (names : Names) → AreNames (λ (n : NameId). is_some (held.stands n)) line names
    → IsGone held.stands line names (or_skip number (asked_for held line))
gone_for held number (Join other first second) names are = record { handles = refl; pendings = refl; responders = refl }
gone_for held number (Pipe first second) names are = record { handles = refl; pendings = refl; responders = refl }
gone_for held number (Mint sort n) names are = record { handles = refl; pendings = refl; responders = refl }
gone_for held number (Bind n side interface) names are =
    with_one (IsGone held.stands (Bind n side interface) names) number (gone_none held.stands (Bind n side interface) names number)
    (λ x. asks.Bind x side interface) (held.handle n) (λ x. record { handles = ap listed are.one; pendings = refl; responders = refl })
gone_for held number (Associate n side interface p) names are =
    with_one (IsGone held.stands (Associate n side interface p) names) number (gone_none held.stands (Associate n side interface p) names number)
    (λ y. asks.Associate y side interface) (as_end (held.stands n)) (λ y. record { handles = refl; pendings = refl; responders = refl })
gone_for held number (Attach n seq) names are =
    with_one (IsGone held.stands (Attach n seq) names) number (gone_none held.stands (Attach n seq) names number)
    (λ p. asks.Attach p seq) (held.pending n) (λ p. record { handles = refl; pendings = ap listed are.one; responders = refl })
gone_for held number (Call n id prepared list moment) names are =
    with_two (IsGone held.stands (Call n id prepared list moment) names) number (gone_none held.stands (Call n id prepared list moment) names number)
    (λ y out. asks.Call y id out) (as_end (held.stands n)) (sent_with held prepared list moment)
    (λ y out. record { handles = are.handles; pendings = are.pendings; responders = refl })
gone_for held number (Take n list) names are =
    with_one (IsGone held.stands (Take n list) names) number (gone_none held.stands (Take n list) names number)
    (λ y. asks.Take y) (as_end (held.stands n)) (λ y. record { handles = refl; pendings = refl; responders = refl })
gone_for held number (Answer n prepared list moment) names are =
    with_two (IsGone held.stands (Answer n prepared list moment) names) number (gone_none held.stands (Answer n prepared list moment) names number)
    (λ r out. asks.Answer r out) (held.responder n) (sent_with held prepared list moment)
    (λ r out. record { handles = are.handles; pendings = are.pendings; responders = ap listed are.one })
gone_for held number (Raw n bytes list) names are =
    let nothing = gone_none held.stands (Raw n bytes list) names number in
    with_test (IsGone held.stands (Raw n bytes list) names) number nothing (has_name list n)
    (option_and_then (λ (x : Thing). option_map (λ (xs : List Thing). asks.Raw x bytes xs) (all_held held.handle list)) (held.handle n))
    (with_two (IsGone held.stands (Raw n bytes list) names) number nothing (λ x xs. asks.Raw x bytes xs) (held.handle n) (all_held held.handle list)
    (λ x xs. record { handles = are.handles; pendings = refl; responders = refl }))
gone_for held number (CloseToken n) names are =
    with_closed (IsGone held.stands (CloseToken n) names) number (gone_none held.stands (CloseToken n) names number)
    (held.handle n) (held.pending n) (held.responder n)
    (λ x. record { handles = ap listed are.one; pendings = refl; responders = refl })
    (λ p. record { handles = refl; pendings = ap listed are.one; responders = refl })
    (λ r. record { handles = refl; pendings = refl; responders = ap listed are.one })
gone_for held number (CloseEndpoint n id) names are =
    with_one (IsGone held.stands (CloseEndpoint n id) names) number (gone_none held.stands (CloseEndpoint n id) names number)
    (λ y. asks.Close (closings.Endpoint y id)) (as_end (held.stands n)) (λ y. record { handles = refl; pendings = refl; responders = refl })
gone_for held number (Notify n notice) names are =
    with_one (IsGone held.stands (Notify n notice) names) number (gone_none held.stands (Notify n notice) names number)
    (λ y. asks.Notify y notice) (as_end (held.stands n)) (λ y. record { handles = refl; pendings = refl; responders = refl })
gone_for held number (Pause n m flush) names are =
    with_two (IsGone held.stands (Pause n m flush) names) number (gone_none held.stands (Pause n m flush) names number)
    (λ b a. asks.Pause b a flush) (as_end (held.stands n)) (as_end (held.stands m))
    (λ b a. record { handles = refl; pendings = refl; responders = refl })
gone_for held number (Data size first second) names are = record { handles = refl; pendings = refl; responders = refl }
gone_for held number (Flow n flow) names are =
    with_one (IsGone held.stands (Flow n flow) names) number (gone_none held.stands (Flow n flow) names number)
    (λ x. asks.Flow x flow) (held.handle n) (λ x. record { handles = refl; pendings = refl; responders = refl })

-- ## A table that was spent from, and given to

module _ {X : Type 0} (done : Bool) (gone spent ms ns : List NameId) (things : List X) (old mid new : List (Option X)) where
  -- what is held in it
  table_after : mid ≡ left_by old (if done then gone else []) → gone ≡ spent → new ≡ given ms things mid → ms ≡ ns
      → AllByRecursion (λ (m : NameId). m.0 < length old) ns → (n : NameId)
      → held_at new n ≡ then_held ns things (if done then spent else []) (held_at old) n
  table_after left same came names within n =
      ap (λ (t : List (Option X)). held_at t n)
      (came ∙ (ap (λ (ks : List NameId). given ks things mid) names
      ∙ ap (given ns things) (left ∙ ap (λ (ks : List NameId). left_by old (if done then ks else [])) same)))
      ∙ then_given ns (if done then spent else []) things old within n

  -- it is as long as before
  table_length : mid ≡ left_by old (if done then gone else []) → new ≡ given ms things mid → length new ≡ length old
  table_length left came =
      ap length came ∙ (length_given ms things mid ∙ (ap length left ∙ length_left (if done then gone else []) old))

-- ## All of them

module _ (lists : Names) (event : Event) (rs : List ResponderId) (old mid new : PlainNames)
    (have : HasNames (length old.stands.things.items) old) (spends : Spends lists event old mid) (came : Came lists.sets.items event.told rs mid new) where
  -- there are as many names as before
  settled_same : HasNames (length old.stands.things.items) new
  settled_same = record {
    stands =
        ap length came.stands
        ∙ (length_given lists.sets.items (handed event.told) mid.stands.things.items ∙ ap (λ (s : Stands). length s.things.items) spends.stands);
    handles =
        table_length (is_done event.told) (handles_gone lists event.asked) [] lists.sets.items [] (handed event.told) old.handles.items.items
        mid.handles.items.items new.handles.items.items spends.handles came.handles ∙ have.handles;
    pendings =
        table_length (is_done event.told) (pendings_gone lists event.asked) [] (drop (length (handed event.told)) lists.sets.items) []
        (pendings_handed event.told) old.pendings.items.items mid.pendings.items.items new.pendings.items.items spends.pendings came.pendings
        ∙ have.pendings;
    responders =
        table_length (is_done event.told) (responders_gone lists event.asked) []
        (drop (length (handed event.told) + length (pendings_handed event.told)) lists.sets.items) [] rs old.responders.items.items
        mid.responders.items.items new.responders.items.items spends.responders came.responders
        ∙ have.responders;
  }

  module _ (line : Line) (are : AreNames (λ (n : NameId). is_some (held_at old.stands.things.items n)) line.command lists)
      (asked : event.asked ≡ asked_by (named_in old) line) (within : AreWithin (length old.stands.things.items) (sets line.command)) where
    -- the names that the line sets
    abbrev ns : List NameId
    ns = sets line.command

    -- what the line spends
    gone : IsGone (held_at old.stands.things.items) line.command lists event.asked
    gone = subst (λ (a : Asked). IsGone (held_at old.stands.things.items) line.command lists a) (sym asked)
        (gone_for (named_in old) line.number line.command lists are)

    -- a table has a place for each name
    within_as : (k : ℕ) → k ≡ length old.stands.things.items → AllByRecursion (λ (m : NameId). m.0 < k) ns
    within_as k e = subst (λ (j : ℕ). AllByRecursion (λ (m : NameId). m.0 < j) ns) (sym e) within

    stands_after : (n : NameId) → held_at new.stands.things.items n ≡ then_held ns (handed event.told) [] (held_at old.stands.things.items) n
    stands_after n =
        ap (λ (t : List (Option Thing)). held_at t n)
        (came.stands
        ∙ (ap (λ (ks : List NameId). given ks (handed event.told) mid.stands.things.items) are.sets
        ∙ ap (λ (s : Stands). given ns (handed event.told) s.things.items) spends.stands))
        ∙ then_given ns [] (handed event.told) old.stands.things.items within n

    settled_is : named_in new ≡ settled_by line.command rs event (named_in old)
    settled_is = same_named
        (fun_ext stands_after)
        (fun_ext (table_after (is_done event.told) (handles_gone lists event.asked)
        (handles_spent (held_at old.stands.things.items) line.command event.asked) lists.sets.items ns (handed event.told) old.handles.items.items
        mid.handles.items.items new.handles.items.items spends.handles gone.handles came.handles are.sets
        (within_as (length old.handles.items.items) have.handles)))
        (fun_ext (table_after (is_done event.told) (pendings_gone lists event.asked)
        (pendings_spent (held_at old.stands.things.items) line.command event.asked) (drop (length (handed event.told)) lists.sets.items)
        (drop (length (handed event.told)) ns) (pendings_handed event.told) old.pendings.items.items mid.pendings.items.items new.pendings.items.items
        spends.pendings gone.pendings came.pendings (ap (drop (length (handed event.told))) are.sets)
        (within_drop (λ (m : NameId). m.0 < length old.pendings.items.items) (length (handed event.told)) ns
        (within_as (length old.pendings.items.items) have.pendings))))
        (fun_ext (table_after (is_done event.told) (responders_gone lists event.asked)
        (responders_spent (held_at old.stands.things.items) line.command event.asked)
        (drop (length (handed event.told) + length (pendings_handed event.told)) lists.sets.items)
        (drop (length (handed event.told) + length (pendings_handed event.told)) ns) rs old.responders.items.items mid.responders.items.items
        new.responders.items.items spends.responders gone.responders came.responders
        (ap (drop (length (handed event.told) + length (pendings_handed event.told))) are.sets)
        (within_drop (λ (m : NameId). m.0 < length old.responders.items.items) (length (handed event.told) + length (pendings_handed event.told)) ns
        (within_as (length old.responders.items.items) have.responders))))

pub settled_have : (lists : Names) (event : Event) (rs : List ResponderId) (old mid new : PlainNames)
    → HasNames (length old.stands.things.items) old → Spends lists event old mid → Came lists.sets.items event.told rs mid new
    → HasNames (length old.stands.things.items) new
settled_have lists event rs old mid new have spends came = settled_same lists event rs old mid new have spends came

pub settled_named : (lists : Names) (line : Line) (event : Event) (rs : List ResponderId) (old mid new : PlainNames)
    → AreNames (λ (n : NameId). is_some (held_at old.stands.things.items n)) line.command lists → event.asked ≡ asked_by (named_in old) line
    → HasNames (length old.stands.things.items) old → AreWithin (length old.stands.things.items) (sets line.command)
    → Spends lists event old mid → Came lists.sets.items event.told rs mid new
    → named_in new ≡ settled_by line.command rs event (named_in old)
settled_named lists line event rs old mid new are asked have within spends came =
    settled_is lists event rs old mid new have spends came line are asked within
