-- What scripts ask has numbers of their widths, where all before has.
use Rattle.std.proofs.Common.{ℕ, ◌+◌, Bool, true, false, List, [], ◌∷◌, ◌++◌}
use Rattle.std.specs.Prelude.{ℤ, Option, Some, None, ◌==◌, if◌then◌else◌, ◌&&◌, not, is_some, take, drop, length, option_and_then, slice_get, find, filter, fold}
use Rattle.std.specs.Option.{option_map}
use Rattle.mj_base.specs.declared.ids.EndId.{EndId}
use Rattle.mj_base.specs.declared.ids.SeqId.{SeqId}
use Rattle.handle_table.specs.declared.thing.Thing.{Thing}
use Rattle.handle_table.specs.declared.thing.Thing.TheVariants.{End, Token}
use Rattle.wire_encoder.specs.declared.prepared.Prepared.{Prepared}
use Rattle.wire_model.specs.Trees.{Tree, view}
use Rattle.wire_model.specs.declared.target.Target.{Target}
use Rattle.bind_model.specs.declared.asked.Asked.{Asked}
use Rattle.bind_model.specs.declared.asked.Asked.TheVariants as asks
use Rattle.bind_model.specs.declared.asked.Closing.TheVariants as closings
use Rattle.bind_model.specs.declared.asked.Outgoing.{Outgoing}
use Rattle.bind_model.specs.declared.endpoint.PendingId.{PendingId}
use Rattle.bind_model.specs.declared.endpoint.ResponderId.{ResponderId}
use Rattle.bind_model.specs.declared.event.Event.{Event}
use Rattle.bind_model.specs.declared.told.Told.{Told}
use Rattle.bind_model.specs.declared.told.Told.TheVariants.{Associated, Taken}
use Rattle.bind_model.specs.Machine.{handed, made}
use Rattle.bind_model.specs.Ready.{ready, taker, is_ready, is_before, lesser, least, ends_of}
use Rattle.bind_model.specs.Replies.{is_response, responders_handed}
use Rattle.bind_model.specs.Wire.{Wire}
use Rattle.call_script.specs.declared.script.AutoReply.{AutoReply}
use Rattle.call_script.specs.declared.script.Command.{Command}
use Rattle.call_script.specs.declared.script.Command.TheVariants.{Join, Pipe, Mint, Bind, Associate, Attach, Call, Take, Answer, Raw, CloseToken, CloseEndpoint}
use Rattle.call_script.specs.declared.script.Command.TheVariants.{Notify, Pause, Data, Flow}
use Rattle.call_script.specs.declared.script.Line.{Line}
use Rattle.call_script.specs.declared.script.NameId.{NameId}
use Rattle.call_script.specs.declared.script.Script.{Script}
use Rattle.call_script.specs.Sound.{sets}
use Rattle.history_reader.specs.Printable.{IsEnd, IsMoment, IsThing, IsPending, AreAll, AreBytes}
use Rattle.printed_histories.proofs.SmallLists.{all_dropped, all_filtered, all_taken, If, if_then, if_map, if_found, if_got}
use Rattle.printed_histories.specs.Asked.{IsSmallAsked, IsSmallOut, IsSmallResponder}
use Rattle.printed_histories.proofs.SmallSaid.{IsSmallEvent, IsSmallTold}
use Rattle.printed_runs.proofs.SmallScript.{IsSmallCommand, IsSmallLine, IsSmallReply}
use Rattle.script_names.specs.Autos.{Due, replies_to, due_for, due, lines_done, line_at}
use Rattle.script_names.specs.Names.{Named, came, came_to, handles_spent, has_name, is_seq, joined, joined_after, joint_end, joins_to, named, named_after, or_before, pendings_handed, pendings_named, pendings_spent, responders_named, responders_spent, set_by, spent_by, then_held, things_named, unnamed}
use Rattle.script_run.specs.OfScript.{Next, joins_by, names_of, next_join, next_of, next_take, replied, reply_first, reply_or}
use Rattle.script_names.specs.Asking.{all_held, as_end, asked_by, asked_for, closed_of, or_skip, outgoing, raw_with, sent_with}
use Rattle.script_run.specs.Order.{is_join, is_own, joins_of, lines_of}

-- ## What is held under names

-- what names stand for and what is held under them has numbers of their widths
pub record AreSmallNames (names : Named) : Type 0 where
  pub stands : (n : NameId) → If IsThing (names.stands n)
  pub handle : (n : NameId) → If IsThing (names.handle n)
  pub pending : (n : NameId) → If IsPending (names.pending n)
  pub responder : (n : NameId) → If IsSmallResponder (names.responder n)

unnamed_small : AreSmallNames unnamed
unnamed_small = record { stands = λ n. tt; handle = λ n. tt; pending = λ n. tt; responder = λ n. tt }

-- the things that a reply handed out
abbrev pub IsHanded : Event → Type 0
IsHanded event = AreAll IsThing (handed event.told)

module _ {X : Type 0} (P : X → Type 0) where
  came_small : (names : List NameId) (things : List X) → AreAll P things → (n : NameId) → If P (came names things n)
  came_small [] things a n = tt
  came_small (m ∷ names) [] a n = tt
  came_small (m ∷ names) (x ∷ things) a n = go (m.0 == n.0) (came_small names things a.1 n)
    where
      go : (b : Bool) → If P (came names things n) → If P (if b then Some x else came names things n)
      go true rest = a.0
      go false rest = rest

  or_small : (new old : Option X) → If P new → If P old → If P (or_before new old)
  or_small (Some x) old i j = i
  or_small None old i j = j

  held_small : (names : List NameId) (things : List X) (spent : List NameId) (before : NameId → Option X) → AreAll P things
      → ((n : NameId) → If P (before n)) → (n : NameId) → If P (then_held names things spent before n)
  held_small names things spent before a b n =
      or_small (came names things n) (if has_name spent n then None else before n) (came_small names things a n) (go (has_name spent n))
    where
      go : (c : Bool) → If P (if c then None else before n)
      go true = tt
      go false = b n

  came_to_small : (own : Bool) (names : List NameId) (things : List X) → AreAll P things → (n : NameId) → If P (came_to own names things n)
  came_to_small true names things a n = came_small names things a n
  came_to_small false names things a n = tt

  all_held_small : (holds : NameId → Option X) → ((n : NameId) → If P (holds n)) → (names : List NameId) → If (AreAll P) (all_held holds names)
  all_held_small holds h [] = tt
  all_held_small holds h (n ∷ names) = go (has_name names n) (all_held_small holds h names)
    where
      go : (b : Bool) → If (AreAll P) (all_held holds names) → If (AreAll P) (if b then None
          else option_and_then (λ (x : X). option_map (λ (xs : List X). x ∷ xs) (all_held holds names)) (holds n))
      go true rest = tt
      go false rest = if_then P (AreAll P) (λ (x : X). option_map (λ (xs : List X). x ∷ xs) (all_held holds names))
          (λ x i. if_map (AreAll P) (AreAll P) (λ (xs : List X). x ∷ xs) (λ xs a. (i, a)) (all_held holds names) rest)
          (holds n) (h n)

-- ## The joins

joint_small : (s : SeqId) (line : Line) (ends : List Thing) → AreAll IsThing ends → (n : NameId) → If IsThing (joint_end s line ends n)
joint_small s line ends a n = or_small IsThing
    (came_to (is_seq s line.seq) (take 1 (sets line.command)) (take 1 ends) n)
    (came_to (joins_to s line.command) (drop 1 (sets line.command)) (drop 1 ends) n)
    (came_to_small IsThing (is_seq s line.seq) (take 1 (sets line.command)) (take 1 ends) (all_taken IsThing 1 ends a) n)
    (came_to_small IsThing (joins_to s line.command) (drop 1 (sets line.command)) (drop 1 ends) (all_dropped IsThing 1 ends a) n)

joined_step : (s : SeqId) (o : Option Line) (event : Event) (before : Named) → IsHanded event → AreSmallNames before
    → AreSmallNames (joined_after s o event before)
joined_step s None event before a b = b
joined_step s (Some line) event before a b = record {
  stands = held_small IsThing (sets line.command) (handed event.told) [] before.stands a b.stands;
  handle = λ n. or_small IsThing (joint_end s line (handed event.told) n) (before.handle n) (joint_small s line (handed event.told) a n) (b.handle n);
  pending = b.pending;
  responder = b.responder;
}

joined_small : (s : SeqId) (joins : List Line) (past : List Event) → AreAll IsHanded past → AreSmallNames (joined s joins past)
joined_small s joins [] a = unnamed_small
joined_small s joins (event ∷ past) a =
    joined_step s (slice_get joins (length past)) event (joined s joins past) a.0 (joined_small s joins past a.1)

-- ## The lines

pendings_small : (told : Told) → IsSmallTold told → AreAll IsPending (pendings_handed told)
pendings_small (Associated p) i = (i, tt)
pendings_small (Taken g) i = i.3
pendings_small told i = tt

module _ (F : Target → Tree → Type 0) (wire : Wire) where
  handed_small : (told : Told) (asked : Asked) → IsSmallAsked F asked → IsSmallTold told → AreAll IsSmallResponder (responders_handed wire told asked)
  handed_small (Taken g) (asks.Take y) i t = go (not (is_response g.target.side) && wire.responds g.target.interface g.target.method)
    where
      go : (b : Bool) → AreAll IsSmallResponder (if b
          then record { end = y; id = g.id; request = g.request; interface = g.target.interface; method = g.target.method } ∷ [] else [])
      go true = ((i, t.0, t.2, t.1), tt)
      go false = tt
  handed_small told asked i t = tt

  named_responders_small : (found : Option Due) (rs : List ResponderId) → AreAll IsSmallResponder rs → AreAll IsSmallResponder (responders_named found rs)
  named_responders_small None rs a = a
  named_responders_small (Some d) rs a = tt

  after_small : (line : Option Line) (found : Option Due) (event : Event) (before : Named) → IsSmallEvent F event → IsHanded event → AreSmallNames before
      → AreSmallNames (named_after wire line found event before)
  after_small line found event before e a b = record {
    stands = held_small IsThing (set_by line) (handed event.told) [] before.stands a b.stands;
    handle = held_small IsThing (set_by line) (handed event.told) (spent_by (handles_spent before.stands) line event) before.handle a b.handle;
    pending = held_small IsPending
        (drop (length (handed event.told)) (set_by line))
        (pendings_handed event.told)
        (spent_by (pendings_spent before.stands) line event)
        before.pending (pendings_small event.told e.2) b.pending;
    responder = held_small IsSmallResponder
        (drop (length (handed event.told) + length (pendings_handed event.told)) (set_by line))
        (responders_named found (responders_handed wire event.told event.asked))
        (spent_by (responders_spent before.stands) line event)
        before.responder
        (named_responders_small found (responders_handed wire event.told event.asked) (handed_small event.told event.asked e.1 e.2)) b.responder;
  }

  named_small : (autos : List AutoReply) (lines : List Line) (first : Named) → AreSmallNames first → (own : List Event) → AreAll (IsSmallEvent F) own
      → AreAll IsHanded own → AreSmallNames (named wire autos lines first own)
  named_small autos lines first f [] a h = f
  named_small autos lines first f (event ∷ past) a h =
      after_small (line_at wire autos lines past) (due wire autos (event ∷ past)) event (named wire autos lines first past) a.0 h.0
      (named_small autos lines first f past a.1 h.1)

  -- ## Automatic replies

  module _ (G : Prepared → Type 0) (script : Script) (fine : AreAll (IsSmallReply G) script.autos) where
    -- a reply that is due, by a responder and a prepared value of their widths
    abbrev IsSmallDue : Due → Type 0
    IsSmallDue d = IsSmallResponder d.0 × IsSmallReply G d.1

    due_for_small : (seq : SeqId) (rs : List ResponderId) → AreAll IsSmallResponder rs → If IsSmallDue (due_for script.autos seq rs)
    due_for_small seq [] a = tt
    due_for_small seq (r ∷ rs) a = if_map (IsSmallReply G) IsSmallDue (λ (reply : AutoReply). (r, reply)) (λ reply i. (a.0, i))
        (find (replies_to seq r) script.autos) (if_found (IsSmallReply G) (replies_to seq r) script.autos fine)

    due_small : (past : List Event) → AreAll (IsSmallEvent F) past → If IsSmallDue (due wire script.autos past)
    due_small [] a = tt
    due_small (event ∷ past) a = due_for_small event.seq (responders_handed wire event.told event.asked)
        (handed_small event.told event.asked a.0.1 a.0.2)

    -- what is asked next has numbers of their widths
    abbrev pub IsSmallNext : Next → Type 0
    IsSmallNext next = IsSmallAsked F next.1

    module _ (prepares : (prepared : Prepared) → G prepared → F prepared.target (view prepared.value)) where
      replied_small : (d : Due) → IsSmallDue d → IsSmallAsked F (replied d)
      replied_small (r, reply) i = (i.0, (tt, tt, prepares reply.prepared i.1, tt))

      first_small : (d : Option Due) (other : Option Asked) → If IsSmallDue d → If (IsSmallAsked F) other → If (IsSmallAsked F) (reply_first d other)
      first_small (Some d) other i o = replied_small d i
      first_small None other i o = o

      or_next_small : (d : Option Due) (other : Option Next) → If IsSmallDue d → If IsSmallNext other → If IsSmallNext (reply_or d other)
      or_next_small (Some d) other i o = replied_small d i
      or_next_small None other i o = o

      -- ## What lines ask

      end_small : (o : Option Thing) → If IsThing o → If IsEnd (as_end o)
      end_small None i = tt
      end_small (Some (End x)) i = i
      end_small (Some (Token t)) i = tt

      module _ (names : Named) (s : AreSmallNames names) where
        closing_small : (o : Option Thing) (p : Option PendingId) (q : Option ResponderId) → If IsThing o → If IsPending p → If IsSmallResponder q
            → If (IsSmallAsked F) (closed_of o p q)
        closing_small (Some x) p q i j k = i
        closing_small None (Some p) q i j k = j
        closing_small None None q i j k =
            if_map IsSmallResponder (IsSmallAsked F) (λ (r : ResponderId). asks.Close (closings.Responder r)) (λ r i. i) q k

        sent_small : (prepared : Prepared) (list : List NameId) (moment : Option ℤ) → G prepared → IsMoment moment
            → If (IsSmallOut F) (sent_with names prepared list moment)
        sent_small prepared list moment g m = if_then (AreAll IsThing) (IsSmallOut F)
            (λ (xs : List Thing). option_map (λ (ps : List PendingId). outgoing prepared xs ps moment)
            (all_held names.pending (pendings_named names.stands list)))
            (λ xs a. if_map (AreAll IsPending) (IsSmallOut F) (λ (ps : List PendingId). outgoing prepared xs ps moment)
            (λ ps b. (a, b, prepares prepared g, m)) (all_held names.pending (pendings_named names.stands list))
            (all_held_small IsPending names.pending s.pending (pendings_named names.stands list)))
            (all_held names.handle (things_named names.stands list))
            (all_held_small IsThing names.handle s.handle (things_named names.stands list))

        raw_small : (n : NameId) (bytes : List ℕ) (list : List NameId) → AreBytes bytes → If (IsSmallAsked F) (raw_with names n bytes list)
        raw_small n bytes list are = go (has_name list n)
          where
            go : (b : Bool) → If (IsSmallAsked F) (if b then None else option_and_then
                (λ (x : Thing). option_map (λ (xs : List Thing). asks.Raw x bytes xs) (all_held names.handle list)) (names.handle n))
            go true = tt
            go false = if_then IsThing (IsSmallAsked F)
                (λ (x : Thing). option_map (λ (xs : List Thing). asks.Raw x bytes xs) (all_held names.handle list))
                (λ x i. if_map (AreAll IsThing) (IsSmallAsked F) (λ (xs : List Thing). asks.Raw x bytes xs) (λ xs a. (i, are, a))
                (all_held names.handle list) (all_held_small IsThing names.handle s.handle list))
                (names.handle n) (s.handle n)

        asked_small : (command : Command) → IsSmallCommand G command → If (IsSmallAsked F) (asked_for names command)
        asked_small (Join other first second) i = i
        asked_small (Pipe first second) i = tt
        asked_small (Mint sort name) i = tt
        asked_small (Bind n side interface) i =
            if_map IsThing (IsSmallAsked F) (λ (x : Thing). asks.Bind x side interface) (λ x j. j) (names.handle n) (s.handle n)
        asked_small (Associate n side interface p) i = if_map IsEnd (IsSmallAsked F) (λ (y : EndId). asks.Associate y side interface) (λ y e. e)
            (as_end (names.stands n)) (end_small (names.stands n) (s.stands n))
        asked_small (Attach n seq) i =
            if_map IsPending (IsSmallAsked F) (λ (p : PendingId). asks.Attach p seq) (λ p j. (j, i)) (names.pending n) (s.pending n)
        asked_small (Call n id prepared list moment) i = if_then IsEnd (IsSmallAsked F)
            (λ (y : EndId). option_map (λ (sent : Outgoing). asks.Call y id sent) (sent_with names prepared list moment))
            (λ y e. if_map (IsSmallOut F) (IsSmallAsked F) (λ (sent : Outgoing). asks.Call y id sent) (λ o j. (e, i.0, j))
            (sent_with names prepared list moment) (sent_small prepared list moment i.1 i.2))
            (as_end (names.stands n)) (end_small (names.stands n) (s.stands n))
        asked_small (Take n list) i = if_map IsEnd (IsSmallAsked F) asks.Take (λ y e. e) (as_end (names.stands n)) (end_small (names.stands n) (s.stands n))
        asked_small (Answer n prepared list moment) i = if_then IsSmallResponder (IsSmallAsked F)
            (λ (r : ResponderId). option_map (λ (sent : Outgoing). asks.Answer r sent) (sent_with names prepared list moment))
            (λ r e. if_map (IsSmallOut F) (IsSmallAsked F) (λ (sent : Outgoing). asks.Answer r sent) (λ o j. (e, j))
            (sent_with names prepared list moment) (sent_small prepared list moment i.0 i.1))
            (names.responder n) (s.responder n)
        asked_small (Raw n bytes list) i = raw_small n bytes list i
        asked_small (CloseToken n) i = closing_small (names.handle n) (names.pending n) (names.responder n) (s.handle n) (s.pending n) (s.responder n)
        asked_small (CloseEndpoint n id) i = if_map IsEnd (IsSmallAsked F) (λ (y : EndId). asks.Close (closings.Endpoint y id)) (λ y e. (e, i))
            (as_end (names.stands n)) (end_small (names.stands n) (s.stands n))
        asked_small (Notify n notice) i = if_map IsEnd (IsSmallAsked F) (λ (y : EndId). asks.Notify y notice) (λ y e. (e, i))
            (as_end (names.stands n)) (end_small (names.stands n) (s.stands n))
        asked_small (Pause n m flush) i = if_then IsEnd (IsSmallAsked F)
            (λ (b : EndId). option_map (λ (a : EndId). asks.Pause b a flush) (as_end (names.stands m)))
            (λ b e. if_map IsEnd (IsSmallAsked F) (λ (a : EndId). asks.Pause b a flush) (λ a f. (e, (f, i)))
            (as_end (names.stands m)) (end_small (names.stands m) (s.stands m)))
            (as_end (names.stands n)) (end_small (names.stands n) (s.stands n))
        asked_small (Data size first second) i = i
        asked_small (Flow n flow) i = if_map IsThing (IsSmallAsked F) (λ (x : Thing). asks.Flow x flow) (λ x j. (j, i)) (names.handle n) (s.handle n)

        line_small : (line : Line) → IsSmallLine G line → IsSmallAsked F (asked_by names line)
        line_small line i = go (asked_for names line.command) (asked_small line.command i.1)
          where
            go : (o : Option Asked) → If (IsSmallAsked F) o → IsSmallAsked F (or_skip line.number o)
            go None j = i.0
            go (Some asked) j = j

      -- a join asks nothing of names
      pub next_join_small : AreAll (IsSmallLine G) script.lines → (own : List Event) → If IsSmallNext (next_join script own)
      next_join_small all own = if_map (IsSmallLine G) IsSmallNext joins_by (λ line i. line_small unnamed unnamed_small line i)
          (slice_get (joins_of script) (length own))
          (if_got (IsSmallLine G) (joins_of script) (length own)
          (all_filtered (IsSmallLine G) (λ (line : Line). is_join line.command) script.lines all))

      -- what a sequence asks behind its own events and the joins
      pub next_of_small : AreAll (IsSmallLine G) script.lines → (after_joins : List Event) → AreAll IsHanded after_joins → (s : SeqId) (own : List Event)
          → AreAll (IsSmallEvent F) own → AreAll IsHanded own → If (IsSmallAsked F) (next_of wire script after_joins s own)
      next_of_small all after_joins j s own a h =
          let names = names_of wire script after_joins s own in
          first_small (due wire script.autos own) (option_map (asked_by names) (line_at wire script.autos (lines_of script s) own)) (due_small own a)
          (if_map (IsSmallLine G) (IsSmallAsked F) (asked_by names)
          (λ line i. line_small names
          (named_small script.autos (lines_of script s) (joined s (joins_of script) after_joins) (joined_small s (joins_of script) after_joins j) own a h)
          line i)
          (line_at wire script.autos (lines_of script s) own) (line_there (is_some (due wire script.autos own))))
        where
          line_there : (b : Bool) → If (IsSmallLine G) (if b then None else slice_get (lines_of script s) (lines_done wire script.autos own))
          line_there true = tt
          line_there false = if_got (IsSmallLine G) (lines_of script s) (lines_done wire script.autos own)
              (all_filtered (IsSmallLine G) (is_own s) script.lines all)

      -- ## The drain

      pub next_take_small : (before own : List Event) → AreAll (IsSmallEvent F) (own ++ before) → AreAll IsThing (made (own ++ before))
          → If IsSmallNext (next_take wire script.autos before own)
      next_take_small before own a m = or_next_small (due wire script.autos (own ++ before)) _ (due_small (own ++ before) a)
          (if_map (λ (turn : SeqId × EndId). IsEnd turn.1) IsSmallNext _ (λ turn e. e) (ready wire (own ++ before)) (ready_small (own ++ before) m))
        where
          ends_small : (things : List Thing) → AreAll IsThing things → AreAll IsEnd (ends_of things)
          ends_small [] a = tt
          ends_small (End x ∷ things) a = (a.0, ends_small things a.1)
          ends_small (Token t ∷ things) a = ends_small things a.1

          lesser_small : (o : Option EndId) (y : EndId) → If IsEnd o → IsEnd y → If IsEnd (lesser o y)
          lesser_small None y i j = j
          lesser_small (Some x) y i j = go (is_before y x)
            where
              go : (b : Bool) → If IsEnd (if b then Some y else Some x)
              go true = j
              go false = i

          least_small : (p : EndId → Bool) (xs : List EndId) (o : Option EndId) → AreAll IsEnd xs → If IsEnd o → If IsEnd (fold lesser o (filter p xs))
          least_small p [] o a i = i
          least_small p (y ∷ ys) o a i = go (p y) (least_small p ys (lesser o y) a.1 (lesser_small o y i a.0)) (least_small p ys o a.1 i)
            where
              go : (b : Bool) → If IsEnd (fold lesser (lesser o y) (filter p ys)) → If IsEnd (fold lesser o (filter p ys))
                  → If IsEnd (fold lesser o (if b then y ∷ filter p ys else filter p ys))
              go true here rest = here
              go false here rest = rest

          ready_small : (past : List Event) → AreAll IsThing (made past) → If (λ (turn : SeqId × EndId). IsEnd turn.1) (ready wire past)
          ready_small past m = if_then IsEnd (λ (turn : SeqId × EndId). IsEnd turn.1) (λ y. option_map (λ (t : SeqId). (t, y)) (taker wire past y))
              (λ y e. if_map (λ (t : SeqId). Unit {0}) (λ (turn : SeqId × EndId). IsEnd turn.1) (λ (t : SeqId). (t, y)) (λ t u. e) (taker wire past y)
              (any (taker wire past y)))
              (least (filter (is_ready wire past) (ends_of (made past))))
              (least_small (is_ready wire past) (ends_of (made past)) None (ends_small (made past) m) tt)
            where
              any : (o : Option SeqId) → If (λ (t : SeqId). Unit {0}) o
              any None = tt
              any (Some t) = tt
