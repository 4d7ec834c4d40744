-- The lines in the order of the draws, and whose turn it is behind the events of some of them.
use Rattle.std.proofs.Common.{◌≡◌, ◌<◌, ◌≤◌, ◌+◌, ℕ, zero, suc, Bool, true, false, List, [], ◌∷◌, length, take, refl, sym, ap, ◌∙◌, subst, arith}
use Rattle.std.specs.Prelude.{◌==◌, ◌&&◌, cond, not, filter, find, nat_lt, is_some, Option, Some, None, slice_get, option_and_then}
use Rattle.std.specs.List.{AllByRecursion}
use Rattle.std.specs.Option.{option_map}
use Rattle.std.proofs.lemmas.Bool.{and_left, and_parts, eq-eqb, ltb-false, ltb-true}
use Rattle.std.proofs.lemmas.List.{length-take-le, take_all}
use Rattle.std.proofs.lemmas.List.Filters.{length-filter_more}
use Rattle.std.proofs.lemmas.Option.{get_or_from_slice_get, same_Some, slice_get_past, slice_get_within}
use Rattle.mj_base.specs.declared.ids.SeqId.{SeqId}
use Rattle.bind_model.specs.declared.asked.Asked.{Asked}
use Rattle.bind_model.specs.declared.asked.Asked.TheVariants.{Answer}
use Rattle.bind_model.specs.declared.asked.Outgoing.{Outgoing}
use Rattle.bind_model.specs.declared.endpoint.ResponderId.{ResponderId}
use Rattle.bind_model.specs.declared.event.Event.{Event}
use Rattle.bind_model.specs.declared.told.Told.{Told}
use Rattle.bind_model.specs.declared.told.Told.TheVariants.{Taken}
use Rattle.bind_model.specs.Replies.{responders_handed}
use Rattle.bind_model.specs.Seen.{own_of}
use Rattle.bind_model.specs.Wire.{Wire}
use Rattle.call_script.specs.declared.script.AutoReply.{AutoReply}
use Rattle.call_script.specs.declared.script.Line.{Line}
use Rattle.call_script.specs.declared.script.Script.{Script}
use Rattle.script_names.specs.Autos.{Due, due, due_for, line_at, lines_done, replies_to}
use Rattle.script_names.specs.Names.{named_after}
use Rattle.script_run.specs.OfScript.{names_of, next_of, replied, reply_first}
use Rattle.script_names.specs.Asking.{asked_by, outgoing}
use Rattle.script_run.specs.Order.{InTurns, counted_round, drawn, due_first, has_left, is_join, is_own, lines_of, next_drawn, sequences, turn}
use Rattle.script_run.specs.steps.Orders.{AreInOrder, count_of, next_in_order, whose}
use Rattle.script_run.proofs.OrderLists.{found_passes, kept_holds, kept_passes, same_kept, some_kept}
use Rattle.script_run.proofs.Sequences.{all_below, same_seq, some_round, stands_at}
use Rattle.script_names.proofs.TableLemmas.{eqb-turned, there}

-- ## The next line

-- whether a sequence has lines left behind these lines
abbrev pub left_behind : Script → List Line → SeqId → Bool
left_behind script before s = nat_lt (count_of s before) (length (lines_of script s))

-- the line that comes behind these
pub record IsNext (script : Script) (order : ℕ) (before : List Line) (line : Line) : Type 0 where
  pub goes : whose script order before ≡ Some line.seq
  pub here : slice_get (lines_of script line.seq) (count_of line.seq before) ≡ Some line
  pub own : is_own line.seq line ≡ true
  pub within : line.seq.0 < script.seqs

seq_within : (script : Script) (order : ℕ) (before : List Line) (s : SeqId) → whose script order before ≡ Some s → s.0 < script.seqs
seq_within script order before s e =
    let end : 0 + script.seqs ≤ script.seqs = omega arith in
    kept_holds (left_behind script before) (λ (t : SeqId). t.0 < script.seqs) (sequences script) (all_below 0 script.seqs script.seqs end) _ s e

next_of_seq : (script : Script) (order : ℕ) (before : List Line) (line : Line) (s : SeqId) → whose script order before ≡ Some s
    → slice_get (lines_of script s) (count_of s before) ≡ Some line → IsNext script order before line
next_of_seq script order before line s e h =
    let own : is_own s line ≡ true = kept_passes (is_own s) script.lines (count_of s before) line h in
    let same : s ≡ line.seq = same_seq s line.seq (and_parts (s.0 == line.seq.0) (not (is_join line.command)) own).0 in
    record {
      goes = e ∙ ap (λ (t : SeqId). Some t) same;
      here = subst (λ (t : SeqId). slice_get (lines_of script t) (count_of t before) ≡ Some line) same h;
      own = subst (λ (t : SeqId). is_own t line ≡ true) same own;
      within = subst (λ (t : SeqId). t.0 < script.seqs) same (seq_within script order before s e);
    }

pub is_next : (script : Script) (order : ℕ) (before : List Line) (line : Line) → next_in_order script order before ≡ Some line
    → IsNext script order before line
is_next script order before line e = go (whose script order before) refl e
  where
    go : (o : Option SeqId) → whose script order before ≡ o
        → option_and_then (λ (s : SeqId). slice_get (lines_of script s) (count_of s before)) o ≡ Some line → IsNext script order before line
    go None w h = absurd cc
    go (Some s) w h = next_of_seq script order before line s w h

-- where a sequence has lines left, a line comes
pub next_where_left : (script : Script) (order : ℕ) (before : List Line) (s : SeqId) → s.0 < script.seqs → left_behind script before s ≡ true
    → (line : Line) × (next_in_order script order before ≡ Some line)
next_where_left script order before s within left =
    let seqs : List SeqId = filter (left_behind script before) (sequences script) in
    let some : 0 < length seqs = some_kept (left_behind script before) (sequences script) s.0 s (stands_at script.seqs s.0 within) left in
    let r = some_round seqs (drawn order (length before)) some in
    let more : left_behind script before r.0 ≡ true = kept_passes (left_behind script before) (sequences script) _ r.0 r.1 in
    let l = there (lines_of script r.0) (count_of r.0 before) (ltb-true (count_of r.0 before) (length (lines_of script r.0)) more) in
    (l.0, ap (option_and_then (λ (t : SeqId). slice_get (lines_of script t) (count_of t before))) r.1 ∙ l.1)

-- ## The lines in the order

module _ (script : Script) (order : ℕ) (lines : List Line) (are : AreInOrder script order lines) where
  -- what stands at a number is the next behind those before
  pub next_at : (count : ℕ) (line : Line) → slice_get lines count ≡ Some line → IsNext script order (take count lines) line
  next_at count line h =
      let w : count < length lines = slice_get_within lines count line h in
      is_next script order (take count lines) line (sym (are count (omega arith)) ∙ h)

  pub line_within : (count : ℕ) (line : Line) → slice_get lines count ≡ Some line → line.seq.0 < script.seqs
  line_within count line h = (next_at count line h).within

  -- it is one of the script's
  pub line_holds : (count : ℕ) (line : Line) → slice_get lines count ≡ Some line → (P : Line → Type 0) → AllByRecursion P script.lines → P line
  line_holds count line h P all = kept_holds (is_own line.seq) P script.lines all (count_of line.seq (take count lines)) line (next_at count line h).here

  counts_by : (s : SeqId) (count : ℕ) (line : Line) → slice_get lines count ≡ Some line
      → count_of s (take (count + 1) lines) ≡ count_of s (take count lines) + cond (is_own s line) 1 0
  counts_by s count line h =
      length-filter_more (is_own s) lines count line (slice_get_within lines count line h)
      ∙ ap (λ (l : Line). count_of s (take count lines) + cond (is_own s l) 1 0) (get_or_from_slice_get lines count line line h)

  -- one more of its sequence, and as many of the others
  pub counts_own : (count : ℕ) (line : Line) → slice_get lines count ≡ Some line
      → count_of line.seq (take (count + 1) lines) ≡ count_of line.seq (take count lines) + 1
  counts_own count line h =
      counts_by line.seq count line h ∙ ap (λ (b : Bool). count_of line.seq (take count lines) + cond b 1 0) (next_at count line h).own

  pub counts_other : (count : ℕ) (line : Line) → slice_get lines count ≡ Some line → (s : SeqId) → (line.seq.0 == s.0) ≡ false
      → count_of s (take (count + 1) lines) ≡ count_of s (take count lines)
  counts_other count line h s e =
      let no : is_own s line ≡ false = and_left (s.0 == line.seq.0) (not (is_join line.command)) (eqb-turned s.0 line.seq.0 ∙ e) in
      let same : count_of s (take count lines) + 0 ≡ count_of s (take count lines) = omega arith in
      counts_by s count line h ∙ (ap (λ (b : Bool). count_of s (take count lines) + cond b 1 0) no ∙ same)

  more_within : (s : SeqId) (k : ℕ) (line : Line) → slice_get lines k ≡ Some line → count_of s (take k lines) ≤ length (lines_of script s)
      → count_of s (take (k + 1) lines) ≤ length (lines_of script s)
  more_within s k line h w = go (line.seq.0 == s.0) refl
    where
      go : (b : Bool) → (line.seq.0 == s.0) ≡ b → count_of s (take (k + 1) lines) ≤ length (lines_of script s)
      go false e = subst (λ (m : ℕ). m ≤ length (lines_of script s)) (sym (counts_other k line h s e)) w
      go true e =
          let below : count_of line.seq (take k lines) < length (lines_of script line.seq)
          = slice_get_within (lines_of script line.seq) (count_of line.seq (take k lines)) line (next_at k line h).here in
          let more : count_of line.seq (take (k + 1) lines) ≡ count_of line.seq (take k lines) + 1 = counts_own k line h in
          let own : count_of line.seq (take (k + 1) lines) ≤ length (lines_of script line.seq) = omega arith in
          subst (λ (t : SeqId). count_of t (take (k + 1) lines) ≤ length (lines_of script t)) (same_seq line.seq s e) own

  -- no sequence does more lines than it has
  pub counts_within : (s : SeqId) (k : ℕ) → k ≤ length lines → count_of s (take k lines) ≤ length (lines_of script s)
  counts_within s zero h = omega arith
  counts_within s (suc k) h =
      let l = there lines k (omega arith) in
      let step : k + 1 ≡ suc k = omega arith in
      subst (λ (m : ℕ). count_of s (take m lines) ≤ length (lines_of script s)) step (more_within s k l.0 l.1 (counts_within s k (omega arith)))

  -- behind all of them no sequence has lines left
  none_left : (s : SeqId) → s.0 < script.seqs → left_behind script lines s ≡ true → ⊥
  none_left s within left =
      let n = next_where_left script order lines s within left in
      let whole : take (length lines) lines ≡ lines = take_all (length lines) lines (omega arith) in
      let last : slice_get lines (length lines) ≡ next_in_order script order lines
      = are (length lines) (omega arith) ∙ ap (next_in_order script order) whole in
      let past : slice_get lines (length lines) ≡ None = slice_get_past lines (length lines) (omega arith) in
      let some : slice_get lines (length lines) ≡ Some n.0 = last ∙ n.1 in
      cc

  pub all_done : (s : SeqId) → s.0 < script.seqs → count_of s lines ≡ length (lines_of script s)
  all_done s within =
      let whole : take (length lines) lines ≡ lines = take_all (length lines) lines (omega arith) in
      let most : count_of s lines ≤ length (lines_of script s)
      = subst (λ (ls : List Line). count_of s ls ≤ length (lines_of script s)) whole (counts_within s (length lines) (omega arith)) in
      go most (left_behind script lines s) refl
    where
      go : count_of s lines ≤ length (lines_of script s) → (b : Bool) → left_behind script lines s ≡ b → count_of s lines ≡ length (lines_of script s)
      go most true e = absurd (none_left s within e)
      go most false e =
          let least : length (lines_of script s) ≤ count_of s lines = ltb-false (count_of s lines) (length (lines_of script s)) e in
          omega arith

-- ## One event

pub own_event : (s : SeqId) (event : Event) (past : List Event) → event.seq ≡ s → own_of s (event ∷ past) ≡ event ∷ own_of s past
own_event s event past e =
    ap (λ (b : Bool). cond b (event ∷ own_of s past) (own_of s past)) (eq-eqb event.seq.0 s.0 (ap (λ (t : SeqId). t.0) e))

pub other_event : (s : SeqId) (event : Event) (past : List Event) → (event.seq.0 == s.0) ≡ false → own_of s (event ∷ past) ≡ own_of s past
other_event s event past e = ap (λ (b : Bool). cond b (event ∷ own_of s past) (own_of s past)) e

-- that of a line, and that of an automatic reply
pub line_more : (wire : Wire) (autos : List AutoReply) (event : Event) (past : List Event) → due wire autos past ≡ None
    → lines_done wire autos (event ∷ past) ≡ lines_done wire autos past + 1
line_more wire autos event past e =
    ap (λ (o : Option Due). cond (is_some o) (lines_done wire autos past) (lines_done wire autos past + 1)) e

pub reply_more : (wire : Wire) (autos : List AutoReply) (event : Event) (past : List Event) (d : Due) → due wire autos past ≡ Some d
    → lines_done wire autos (event ∷ past) ≡ lines_done wire autos past
reply_more wire autos event past d e =
    ap (λ (o : Option Due). cond (is_some o) (lines_done wire autos past) (lines_done wire autos past + 1)) e

no_responders : (wire : Wire) (told : Told) (r : ResponderId) (sent : Outgoing) → responders_handed wire told (Answer r sent) ≡ []
no_responders wire (Taken g) r sent = refl
no_responders wire told r sent = refl

-- none is due behind an automatic reply
pub none_due : (wire : Wire) (autos : List AutoReply) (event : Event) (past : List Event) (d : Due) → event.asked ≡ replied d
    → due wire autos (event ∷ past) ≡ None
none_due wire autos event past d e =
    ap (λ (asked : Asked). due_for autos event.seq (responders_handed wire event.told asked)) e
    ∙ ap (due_for autos event.seq) (no_responders wire event.told d.0 (outgoing d.1.prepared [] [] None))

due_for_seq : (autos : List AutoReply) (seq : SeqId) (rs : List ResponderId) (d : Due) → due_for autos seq rs ≡ Some d → d.1.seq ≡ seq
due_for_seq autos seq [] d e = absurd cc
due_for_seq autos seq (r ∷ rs) d e = go (find (replies_to seq r) autos) refl e
  where
    go : (o : Option AutoReply) → find (replies_to seq r) autos ≡ o
        → ◌≡◌ {A = Option Due} (option_map (λ (reply : AutoReply). (r, reply)) o) (Some d) → d.1.seq ≡ seq
    go None f h = absurd cc
    go (Some reply) f h =
        let both = and_parts (reply.seq.0 == seq.0) (reply.prepared.target.interface == r.interface)
        (and_parts ((reply.seq.0 == seq.0) && (reply.prepared.target.interface == r.interface)) (reply.prepared.target.method == r.method)
        (found_passes (replies_to seq r) autos reply f)).0 in
        let same : reply.seq ≡ seq = same_seq reply.seq seq both.0 in
        let pair : Due = (r, reply) in
        sym (ap (λ (x : Due). x.1.seq) (same_Some pair d h)) ∙ same

-- the automatic reply that is due is of the sequence that took the request, whose turn it is
pub due_seq : (wire : Wire) (autos : List AutoReply) (event : Event) (past : List Event) (d : Due) → due wire autos (event ∷ past) ≡ Some d
    → d.1.seq ≡ event.seq
due_seq wire autos event past d e = due_for_seq autos event.seq (responders_handed wire event.told event.asked) d e

pub turn_of_reply : (wire : Wire) (script : Script) (order : ℕ) (event : Event) (past : List Event) (d : Due)
    → due wire script.autos (event ∷ past) ≡ Some d → turn wire script order (event ∷ past) ≡ Some event.seq
turn_of_reply wire script order event past d e =
    ap (λ (o : Option Due). due_first o (next_drawn wire script order (event ∷ past))) e
    ∙ ap (λ (t : SeqId). Some t) (due_seq wire script.autos event past d e)

-- ## A run

-- what the events of a run count after so many lines in the order
pub record AreCounted (wire : Wire) (script : Script) (lines : List Line) (count : ℕ) (middle : List Event) : Type 0 where
  pub none : due wire script.autos middle ≡ None
  pub done : lines_done wire script.autos middle ≡ count
  pub quiet : (s : SeqId) → s.0 < script.seqs → due wire script.autos (own_of s middle) ≡ None
  pub each : (s : SeqId) → s.0 < script.seqs → lines_done wire script.autos (own_of s middle) ≡ count_of s (take count lines)

-- the line at a number, unless an automatic reply is due
abbrev line_unless : List Line → ℕ → Option Due → Option Line
line_unless own k o = cond (is_some o) None (slice_get own k)

module _ (wire : Wire) (script : Script) (order : ℕ) (lines : List Line) (are : AreInOrder script order lines) where
  module _ (count : ℕ) (middle : List Event) (counted : AreCounted wire script lines count middle) where
    module _ (line : Line) (here : slice_get lines count ≡ Some line) where
      next : IsNext script order (take count lines) line
      next = next_at script order lines are count line here

      same_draw : next_drawn wire script order middle ≡ whose script order (take count lines)
      same_draw =
          let w : count < length lines = slice_get_within lines count line here in
          let end : 0 + script.seqs ≤ script.seqs = omega arith in
          let seqs : filter (has_left wire script middle) (sequences script) ≡ filter (left_behind script (take count lines)) (sequences script)
          = same_kept (has_left wire script middle) (left_behind script (take count lines)) (λ (s : SeqId). s.0 < script.seqs)
          (λ s v. ap (λ (n : ℕ). nat_lt n (length (lines_of script s))) (counted.each s v))
          (sequences script) (all_below 0 script.seqs script.seqs end) in
          let drawing : lines_done wire script.autos middle ≡ length (take count lines)
          = counted.done ∙ sym (length-take-le count lines (omega arith)) in
          ap (λ (ss : List SeqId). counted_round ss (drawn order (lines_done wire script.autos middle))) seqs
          ∙ ap (λ (n : ℕ). counted_round (filter (left_behind script (take count lines)) (sequences script)) (drawn order n)) drawing

      -- whose turn it is, and which line is its next
      pub turn_of : turn wire script order middle ≡ Some line.seq
      turn_of =
          ap (λ (o : Option Due). due_first o (next_drawn wire script order middle)) counted.none ∙ (same_draw ∙ next.goes)

      pub line_of_turn : line_at wire script.autos (lines_of script line.seq) (own_of line.seq middle) ≡ Some line
      line_of_turn =
          ap (line_unless (lines_of script line.seq) (lines_done wire script.autos (own_of line.seq middle))) (counted.quiet line.seq next.within)
          ∙ (ap (slice_get (lines_of script line.seq)) (counted.each line.seq next.within) ∙ next.here)

      -- what the sequence asks then, and its names behind the event
      pub asks_line : (after_joins : List Event) → next_of wire script after_joins line.seq (own_of line.seq middle)
          ≡ Some (asked_by (names_of wire script after_joins line.seq (own_of line.seq middle)) line)
      asks_line after_joins =
          let names = names_of wire script after_joins line.seq (own_of line.seq middle) in
          let at_line = line_at wire script.autos (lines_of script line.seq) (own_of line.seq middle) in
          ap (λ (o : Option Due). reply_first o (option_map (asked_by names) at_line)) (counted.quiet line.seq next.within)
          ∙ ap (option_map (asked_by names)) line_of_turn

      pub names_line : (after_joins : List Event) (event : Event) → names_of wire script after_joins line.seq (event ∷ own_of line.seq middle)
          ≡ named_after wire (Some line) (due wire script.autos (event ∷ middle)) event
          (names_of wire script after_joins line.seq (own_of line.seq middle))
      names_line after_joins event =
          ap (λ (o : Option Line). named_after wire o (due wire script.autos (event ∷ middle)) event
          (names_of wire script after_joins line.seq (own_of line.seq middle))) line_of_turn

      -- ## What is counted behind the line's event, and behind its automatic reply

      one_more : (event : Event) → lines_done wire script.autos (event ∷ middle) ≡ count + 1
      one_more event = line_more wire script.autos event middle counted.none ∙ ap (λ (n : ℕ). n + 1) counted.done

      own_more : (event : Event) → lines_done wire script.autos (event ∷ own_of line.seq middle) ≡ count_of line.seq (take (count + 1) lines)
      own_more event =
          line_more wire script.autos event (own_of line.seq middle) (counted.quiet line.seq next.within)
          ∙ (ap (λ (n : ℕ). n + 1) (counted.each line.seq next.within) ∙ sym (counts_own script order lines are count line here))

      -- what is shown of the line's own sequence holds of it by each name, and of the others nothing changes
      quiet_by : (new : List Event) → due wire script.autos (own_of line.seq new) ≡ None
          → ((s : SeqId) → (line.seq.0 == s.0) ≡ false → own_of s new ≡ own_of s middle)
          → (s : SeqId) → s.0 < script.seqs → due wire script.autos (own_of s new) ≡ None
      quiet_by new own others s w = go (line.seq.0 == s.0) refl
        where
          go : (b : Bool) → (line.seq.0 == s.0) ≡ b → due wire script.autos (own_of s new) ≡ None
          go true e = subst (λ (t : SeqId). due wire script.autos (own_of t new) ≡ None) (same_seq line.seq s e) own
          go false e = ap (due wire script.autos) (others s e) ∙ counted.quiet s w

      each_by : (new : List Event) → lines_done wire script.autos (own_of line.seq new) ≡ count_of line.seq (take (count + 1) lines)
          → ((s : SeqId) → (line.seq.0 == s.0) ≡ false → own_of s new ≡ own_of s middle)
          → (s : SeqId) → s.0 < script.seqs → lines_done wire script.autos (own_of s new) ≡ count_of s (take (count + 1) lines)
      each_by new own others s w = go (line.seq.0 == s.0) refl
        where
          go : (b : Bool) → (line.seq.0 == s.0) ≡ b → lines_done wire script.autos (own_of s new) ≡ count_of s (take (count + 1) lines)
          go true e = subst (λ (t : SeqId). lines_done wire script.autos (own_of t new) ≡ count_of t (take (count + 1) lines))
              (same_seq line.seq s e) own
          go false e = ap (lines_done wire script.autos) (others s e)
              ∙ (counted.each s w ∙ sym (counts_other script order lines are count line here s e))

      others_event : (event : Event) (past : List Event) → event.seq ≡ line.seq → (s : SeqId) → (line.seq.0 == s.0) ≡ false
          → own_of s (event ∷ past) ≡ own_of s past
      others_event event past e s differ = other_event s event past (ap (λ (t : SeqId). t.0 == s.0) e ∙ differ)

      pub counted_line : (event : Event) → event.seq ≡ line.seq → due wire script.autos (event ∷ middle) ≡ None
          → AreCounted wire script lines (count + 1) (event ∷ middle)
      counted_line event e none =
          let own : own_of line.seq (event ∷ middle) ≡ event ∷ own_of line.seq middle = own_event line.seq event middle e in
          record {
            none = none;
            done = one_more event;
            quiet = quiet_by (event ∷ middle) (ap (due wire script.autos) own ∙ none) (others_event event middle e);
            each = each_by (event ∷ middle) (ap (lines_done wire script.autos) own ∙ own_more event) (others_event event middle e);
          }

      pub counted_reply : (event reply : Event) (d : Due) → event.seq ≡ line.seq → reply.seq ≡ line.seq
          → due wire script.autos (event ∷ middle) ≡ Some d → reply.asked ≡ replied d
          → AreCounted wire script lines (count + 1) (reply ∷ event ∷ middle)
      counted_reply event reply d e f found asked =
          let own : own_of line.seq (reply ∷ event ∷ middle) ≡ reply ∷ event ∷ own_of line.seq middle
          = own_event line.seq reply (event ∷ middle) f ∙ ap (λ (es : List Event). reply ∷ es) (own_event line.seq event middle e) in
          let others : (s : SeqId) → (line.seq.0 == s.0) ≡ false → own_of s (reply ∷ event ∷ middle) ≡ own_of s middle
          = λ s differ. others_event reply (event ∷ middle) f s differ ∙ others_event event middle e s differ in
          let none : due wire script.autos (reply ∷ event ∷ middle) ≡ None = none_due wire script.autos reply (event ∷ middle) d asked in
          record {
            none = none;
            done = reply_more wire script.autos reply (event ∷ middle) d found ∙ one_more event;
            quiet = quiet_by (reply ∷ event ∷ middle) (ap (due wire script.autos) own ∙ none) others;
            each = each_by (reply ∷ event ∷ middle)
                (ap (lines_done wire script.autos) own
                ∙ (reply_more wire script.autos reply (event ∷ own_of line.seq middle) d found ∙ own_more event)) others;
          }

      -- each event is in its turn

      pub turns_line : InTurns (turn wire script order) middle → (event : Event) → event.seq ≡ line.seq
          → InTurns (turn wire script order) (event ∷ middle)
      turns_line turns event e = (turn_of ∙ ap (λ (t : SeqId). Some t) (sym e), turns)

      pub turns_reply : InTurns (turn wire script order) middle → (event reply : Event) (d : Due) → event.seq ≡ line.seq → reply.seq ≡ line.seq
          → due wire script.autos (event ∷ middle) ≡ Some d → InTurns (turn wire script order) (reply ∷ event ∷ middle)
      turns_reply turns event reply d e f found =
          (turn_of_reply wire script order event middle d found ∙ ap (λ (t : SeqId). Some t) (e ∙ sym f), turns_line turns event e)

  -- ## Where no lines are left

  pub nothing_left : (middle : List Event) → AreCounted wire script lines (length lines) middle → (s : SeqId) → s.0 < script.seqs
      → line_at wire script.autos (lines_of script s) (own_of s middle) ≡ None
  nothing_left middle counted s w =
      let whole : take (length lines) lines ≡ lines = take_all (length lines) lines (omega arith) in
      let all : lines_done wire script.autos (own_of s middle) ≡ length (lines_of script s)
      = counted.each s w ∙ (ap (count_of s) whole ∙ all_done script order lines are s w) in
      ap (line_unless (lines_of script s) (lines_done wire script.autos (own_of s middle))) (counted.quiet s w)
      ∙ (ap (slice_get (lines_of script s)) all ∙ slice_get_past (lines_of script s) (length (lines_of script s)) (omega arith))

  pub over_left : (middle : List Event) → AreCounted wire script lines (length lines) middle → (after_joins : List Event) (s : SeqId)
      → s.0 < script.seqs → next_of wire script after_joins s (own_of s middle) ≡ None
  over_left middle counted after_joins s w =
      let names = names_of wire script after_joins s (own_of s middle) in
      ap (λ (o : Option Due). reply_first o (option_map (asked_by names) (line_at wire script.autos (lines_of script s) (own_of s middle))))
      (counted.quiet s w)
      ∙ ap (option_map (asked_by names)) (nothing_left middle counted s w)
